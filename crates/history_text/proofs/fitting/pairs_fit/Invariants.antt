-- The numbers of the pairs so far are in range.
use Rattle.std.proofs.Common.{All, take}
use Rattle.history_text.specs.Grammar.{PairFits}
use Rattle.history_text.proofs.fitting.pairs_fit.Given as goal

abbrev pub invariant-loop-pair : goal.invariant-loop-pair
invariant-loop-pair l = All PairFits (take l.pair-index l.pairs)
