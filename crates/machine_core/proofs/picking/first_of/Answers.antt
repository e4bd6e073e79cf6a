use Rattle.std.proofs.Common.{sym, ap, subst, ◌∙◌}
use Rattle.machine_core.specs.Vocabulary.{content_at, most_levels, pairs_below, root_of, word_at, IsOneOf}
use Rattle.proof_core.specs.Reading.{first_of}
use Rattle.machine_core.specs.Seen.{seen}
use Rattle.proof_core.proofs.Picked.{one_of}
use Rattle.machine_core.proofs.picking.first_of.Goals as goal

pub returns : goal.returns
returns c =
    let state = seen c.args.parts.now in
    subst (IsOneOf (content_at state c.args.handle)) (sym (c.pick.ensures ∙ ap (λ r. first_of (pairs_below most_levels state.heap r)) (c.root_of.ensures ∙ ap root_of c.word.ensures)))
    (one_of (pairs_below most_levels state.heap (root_of (word_at state c.args.handle))))
