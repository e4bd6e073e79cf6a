use Rattle.std.proofs.Common.{All, subst, arith}
use Rattle.std.proofs.lemmas.List.{take_all}
use Rattle.std.proofs.lemmas.List.Elements.{All-more}
use Rattle.history_text.specs.Grammar.{PairFits}
use Rattle.history_text.proofs.fitting.pairs_fit.Goals as goal

pub loop-pair-preserved : goal.loop-pair-preserved
loop-pair-preserved c = All-more PairFits c.args.pairs.now c.loop-pair.pair-index _ c.loop-pair-test.true c.loop-pair.invariant c.pair_fits.ensures

pub returns : goal.returns
returns c = subst (All PairFits) (take_all _ _ (omega arith)) c.loop-pair.invariant
