use Rattle.std.proofs.Common.{Ok, Err, sym, subst}
use Rattle.shared_map.specs.declared.asks.Answer.TheVariants as answer
use Rattle.shared_map.specs.declared.asks.Ask.TheVariants.{From}
use Rattle.shared_map.specs.Wholes.{AnswersIf}
use Rattle.shared_map.proofs.Asked.{part_closed, part_refused, part_told}
use Rattle.shared_map.proofs.parts.part_of_all.Goals as goal

pub returns-in-Ok-part_all-clause-answered : goal.returns-in-Ok-part_all-clause-answered
returns-in-Ok-part_all-clause-answered g c =
    subst (λ xs. AnswersIf c.args.first.now (g.S.Shards.items c.args.shards.now) (From c.args.handle c.args.after c.args.room) (Ok (answer.Part c.in-Ok-part_all.part)) xs)
    (sym c.part_all.ensures.same)
    (part_told c.args.first.now (g.S.Shards.items c.args.shards.now) c.args.handle c.args.after c.args.room c.in-Ok-part_all.part _ c.in-Ok.is
    c.in-Ok-part_all.ensures.part)

pub returns-in-Err-part_all-clause-answered : goal.returns-in-Err-part_all-clause-answered
returns-in-Err-part_all-clause-answered g c =
    subst (λ xs. AnswersIf c.args.first.now (g.S.Shards.items c.args.shards.now) (From c.args.handle c.args.after c.args.room) (Err c.in-Err-part_all.error) xs)
    (sym c.part_all.ensures.same)
    (part_refused c.args.first.now (g.S.Shards.items c.args.shards.now) c.args.handle c.args.after c.args.room c.in-Err-part_all.error _ c.in-Ok.is
    c.in-Err-part_all.ensures.refused)

pub returns-in-Err-clause-answered : goal.returns-in-Err-clause-answered
returns-in-Err-clause-answered g c =
    part_closed c.args.first.now (g.S.Shards.items c.args.shards.now) c.args.handle c.args.after c.args.room _ c.in-Err.is
