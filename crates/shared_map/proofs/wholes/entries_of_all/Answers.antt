use Rattle.shared_map.specs.Vocabulary.{Entries}
use Rattle.history.specs.declared.replies.Reply.TheVariants as reply
use Rattle.std.proofs.Common.{Ok, Err, sym, subst, ◌∙◌}
use Rattle.shared_map.specs.Wholes.{RepliesIf}
use Rattle.shared_map.proofs.CallAll.{if_listed, if_no_memory, not_listed}
use Rattle.shared_map.proofs.wholes.entries_of_all.Goals as goal

pub returns-in-Ok-list_all-clause-answered : goal.returns-in-Ok-list_all-clause-answered
returns-in-Ok-list_all-clause-answered g c =
    subst (λ xs. RepliesIf c.args.first.now (g.S.Shards.items c.args.shards.now) (Entries c.args.handle) (Ok (reply.Pairs c.from_vec.result)) xs)
    (sym c.list_all.ensures.same)
    (if_listed c.args.first.now (g.S.Shards.items c.args.shards.now) c.args.handle c.from_vec.result _ c.in-Ok.is (c.from_vec.ensures ∙ c.in-Ok-list_all.ensures.listed))

pub returns-in-Err-list_all-clause-answered : goal.returns-in-Err-list_all-clause-answered
returns-in-Err-list_all-clause-answered g c =
    subst (λ xs. RepliesIf c.args.first.now (g.S.Shards.items c.args.shards.now) (Entries c.args.handle) (Err c.in-Err-list_all.error) xs) (sym c.list_all.ensures.same)
    (if_no_memory c.args.first.now (g.S.Shards.items c.args.shards.now) c.args.handle c.in-Err-list_all.error _ c.in-Ok.is c.in-Err-list_all.ensures.refused)

pub returns-in-Err-clause-answered : goal.returns-in-Err-clause-answered
returns-in-Err-clause-answered g c = not_listed c.args.first.now (g.S.Shards.items c.args.shards.now) c.args.handle _ c.in-Err.is
