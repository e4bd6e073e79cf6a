use Rattle.std.proofs.Common.{Ok, sym, subst}
use Rattle.shared_map.specs.declared.asks.Answer.TheVariants as answer
use Rattle.shared_map.specs.declared.asks.Ask.TheVariants.{First}
use Rattle.shared_map.specs.Wholes.{AnswersIf}
use Rattle.shared_map.proofs.Asked.{one_closed, one_told}
use Rattle.shared_map.proofs.picking.one_of_all.Goals as goal

pub returns-in-Ok-clause-answered : goal.returns-in-Ok-clause-answered
returns-in-Ok-clause-answered g c =
    subst (AnswersIf c.args.first.now (g.S.Shards.items c.args.shards.now) (First c.args.handle) (Ok (answer.First c.pick_all.result))) (sym c.pick_all.ensures.same)
    (one_told c.args.first.now (g.S.Shards.items c.args.shards.now) c.args.handle c.pick_all.result _ c.in-Ok.is c.pick_all.ensures.picked)

pub returns-in-Err-clause-answered : goal.returns-in-Err-clause-answered
returns-in-Err-clause-answered g c = one_closed c.args.first.now (g.S.Shards.items c.args.shards.now) c.args.handle _ c.in-Err.is
