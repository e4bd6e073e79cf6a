use Rattle.shared_map.specs.Vocabulary.{Count}
use Rattle.history.specs.declared.replies.Reply.TheVariants as reply
use Rattle.std.proofs.Common.{Ok, sym, subst}
use Rattle.shared_map.specs.Wholes.{RepliesIf}
use Rattle.shared_map.proofs.CallAll.{if_counted, not_counted}
use Rattle.shared_map.proofs.wholes.count_of_all.Goals as goal

pub returns-in-Ok-clause-answered : goal.returns-in-Ok-clause-answered
returns-in-Ok-clause-answered g c =
    subst (RepliesIf c.args.first.now (g.S.Shards.items c.args.shards.now) (Count c.args.handle) (Ok (reply.Count c.count_all.result))) (sym c.count_all.ensures.same)
    (if_counted c.args.first.now (g.S.Shards.items c.args.shards.now) c.args.handle c.count_all.result _ c.in-Ok.is c.count_all.ensures.counted)

pub returns-in-Err-clause-answered : goal.returns-in-Err-clause-answered
returns-in-Err-clause-answered g c = not_counted c.args.first.now (g.S.Shards.items c.args.shards.now) c.args.handle _ c.in-Err.is
