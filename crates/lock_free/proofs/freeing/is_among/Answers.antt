use Rattle.std.proofs.Common.{eqb, rules, tests}
use Rattle.std.proofs.lemmas.Iterator.{YieldsList-from_slice}
use Rattle.std.proofs.lemmas.Iterator.Search.{any_from_yields_List}
use Rattle.lock_free.proofs.freeing.is_among.Goals as goal

pub returns : goal.returns
returns c = any_from_yields_List (λ other. eqb other c.args.slot) _ _ _ c.any.ensures.ran (YieldsList-from_slice c.args.slots.now c.iter.ensures.rest) (λ x b q k. search (rules, tests))
