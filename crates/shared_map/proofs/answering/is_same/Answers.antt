use Rattle.std.proofs.Common.{sym, ◌∙◌}
use denote.Enum.Bare.{same_false, same_true}
use Rattle.ctrie_base.specs.contracts.hashes.HashKind.{the_type}
use Rattle.std.proofs.Common.{rules}
use Rattle.shared_map.proofs.answering.is_same.Goals as goal

pub returns-clause-same : goal.returns-clause-same
returns-clause-same c is = same_true the_type (search rules) _ _ (sym c.eq.ensures ∙ is)

pub returns-clause-apart : goal.returns-clause-apart
returns-clause-apart c is = same_false the_type _ _ (sym c.eq.ensures ∙ is)
