use Rattle.std.proofs.Common.{eqb, rules, tests}
use Rattle.std.proofs.lemmas.Iterator.{YieldsList-from_slice}
use Rattle.std.proofs.lemmas.Iterator.Search.{any_from_yields_List}
use Rattle.history_text.proofs.log.has_actor.Goals as goal

pub returns : goal.returns
returns c = any_from_yields_List (λ one. eqb one.1 c.args.actor) _ _ _ c.any.ensures.ran (YieldsList-from_slice c.args.running.now c.iter.ensures.rest) (λ x b q k. search (rules, tests))
