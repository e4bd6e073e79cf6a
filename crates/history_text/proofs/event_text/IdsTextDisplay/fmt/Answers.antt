use Rattle.std.proofs.Common.{List, arith, rules, ap}
use Rattle.std.proofs.Output.{has_written_append, has_written_of_eq}
use Rattle.std.proofs.lemmas.List.{take_all}
use Rattle.std.specs.Prelude.{map}
use Rattle.std.specs.Fmt.{decimal}
use Rattle.history_text.specs.Texts.{behind_spaces}
use Rattle.history_text.proofs.Spaced.{behind_more}
use Rattle.history_text.proofs.event_text.IdsTextDisplay.fmt.Goals as goal

pub loop-id-preserved : goal.loop-id-preserved
loop-id-preserved g c =
    λ p. has_written_of_eq _ _ _ _ _ (behind_more decimal c.args.self.now.0.now c.loop-id.id-index 0 (omega arith)) (has_written_append _ _ _ _ _ _ (c.loop-id.invariant p) (search rules))

pub returns-clause-writes : goal.returns-clause-writes
returns-clause-writes g c =
    λ p ok. has_written_of_eq _ _ _ _ _ (ap (λ (ids : List _). behind_spaces (map decimal ids)) (take_all _ _ (omega arith))) (c.loop-id.invariant p)
