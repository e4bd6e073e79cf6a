use Rattle.std.proofs.Common.{List, arith, rules, ap}
use Rattle.std.proofs.Output.{has_written_append, has_written_of_eq}
use Rattle.std.proofs.lemmas.List.{take_all}
use Rattle.std.specs.Prelude.{map}
use Rattle.history_text.specs.Texts.{behind_spaces, pair_text}
use Rattle.history_text.proofs.Spaced.{behind_more}
use Rattle.history_text.proofs.reply_text.PairsTextDisplay.fmt.Goals as goal

pub loop-pair-preserved : goal.loop-pair-preserved
loop-pair-preserved g c =
    λ p. has_written_of_eq _ _ _ _ _ (behind_more pair_text c.args.self.now.0.now c.loop-pair.pair-index (0, 0) (omega arith)) (has_written_append _ _ _ _ _ _ (c.loop-pair.invariant p) (search rules))

pub returns-clause-writes : goal.returns-clause-writes
returns-clause-writes g c =
    λ p ok. has_written_of_eq _ _ _ _ _ (ap (λ (pairs : List _). behind_spaces (map pair_text pairs)) (take_all _ _ (omega arith))) (c.loop-pair.invariant p)
