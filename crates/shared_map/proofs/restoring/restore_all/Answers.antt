use Rattle.std.proofs.Common.{◌≤◌, length, Err, sym, subst, ◌∙◌, arith}
use Rattle.shared_map.specs.declared.asks.Ask.TheVariants.{Restore}
use Rattle.shared_map.specs.Restoring.{RestoresEach}
use Rattle.shared_map.specs.Wholes.{AnswersIf}
use Rattle.shared_map.proofs.RestoreAll.{if_denied, if_restored, if_restored_alone}
use Rattle.shared_map.proofs.restoring.restore_all.Goals as goal

pub returns-then-count-eq1-clause-answered : goal.returns-then-count-eq1-clause-answered
returns-then-count-eq1-clause-answered g c =
    subst (λ t. AnswersIf c.args.first.now (g.S.Shards.items c.args.shards.now) (Restore c.args.handle c.args.copy) t (g.S.Shards.items c.restore_one.new.shards))
    (sym c.told_restored.ensures)
    (if_restored_alone c.args.first.now (g.S.Shards.items c.args.shards.now) (g.S.Shards.items c.restore_one.new.shards) c.args.handle c.args.copy c.restore_one.result
    c.restore_one.ensures.restored)

pub returns-in-Some-clause-answered : goal.returns-in-Some-clause-answered
returns-in-Some-clause-answered g c =
    subst (λ xs. AnswersIf c.args.first.now (g.S.Shards.items c.args.shards.now) (Restore c.args.handle c.args.copy) (Err c.in-Some.denial) xs)
    (sym c.first_of-source.ensures.same)
    (if_denied c.args.first.now c.first_of-source.result (g.S.Shards.items c.args.shards.now) c.args.handle c.args.copy c.first_of-source.ensures.known
    c.first_of-source.ensures.handle c.in-Some.denial (sym c.denial.ensures ∙ c.in-Some.is))

pub returns-in-None-clause-answered : goal.returns-in-None-clause-answered
returns-in-None-clause-answered g c =
    let many : 2 ≤ length (g.S.Shards.items c.args.shards.now) = grind (arith, c.requires, c.count.ensures, c.if-count-eq1.false) in
    if_restored c.args.first.now c.first_of-source.result (g.S.Shards.items c.args.shards.now) c.args.handle c.args.copy c.first_of-source.ensures.known
    c.first_of-source.ensures.handle c.restore_due.result (g.S.Shards.items c.restore_due.new.shards) (sym c.denial.ensures ∙ c.in-None.is) many
    (subst (λ xs. RestoresEach c.args.handle c.args.copy xs c.restore_due.result (g.S.Shards.items c.restore_due.new.shards)) c.first_of-source.ensures.same
    c.restore_due.ensures.restores)
