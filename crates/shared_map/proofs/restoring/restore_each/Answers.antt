use Rattle.shared_map.specs.Vocabulary.{Snapshot}
use Rattle.std.proofs.Common.{true, false, Ok, refl, sym, subst, ◌∙◌}
use Rattle.shared_map.specs.Restoring.{RestoresOne}
use Rattle.shared_map.specs.Visits.{VisitedEach}
use Rattle.shared_map.proofs.Counted.{measured}
use Rattle.shared_map.proofs.RestoreAll.{each_restored}
use Rattle.shared_map.proofs.Turns.{none_tight, tight_is}
use Rattle.shared_map.proofs.restoring.restore_each.Goals as goal

pub returns-then-measuring-clause-restores : goal.returns-then-measuring-clause-restores
returns-then-measuring-clause-restores g c =
    let (same, worn, tight) = measured (record { call = Snapshot c.args.copy; restores = true; is_worn_out = false; is_tight = false }) c.visit_each.new.visitor
    (g.S.Shards.items c.args.shards.now) (g.S.Shards.items c.visit_each.new.shards) c.visit_each.ensures.visited in
    (c.requires, sym worn ∙ c.if-measuring.true, same)

pub returns-then-measuring-2-clause-restores : goal.returns-then-measuring-2-clause-restores
returns-then-measuring-2-clause-restores g c =
    let (same, worn, tight) = measured (record { call = Snapshot c.args.copy; restores = true; is_worn_out = false; is_tight = false }) c.visit_each.new.visitor
    (g.S.Shards.items c.args.shards.now) (g.S.Shards.items c.visit_each.new.shards) c.visit_each.ensures.visited in
    (c.requires, sym worn ∙ c.if-measuring.false, tight_is (Snapshot c.args.copy) (g.S.Shards.items c.args.shards.now) (sym tight ∙ c.if-measuring-2.true), same)

pub returns-clause-restores : goal.returns-clause-restores
returns-clause-restores g c =
    let (same, worn, tight) = measured (record { call = Snapshot c.args.copy; restores = true; is_worn_out = false; is_tight = false }) c.visit_each.new.visitor
    (g.S.Shards.items c.args.shards.now) (g.S.Shards.items c.visit_each.new.shards) c.visit_each.ensures.visited in (
      refl,
      (λ e. absurd (c.requires e)),
      (λ apart. (sym worn ∙ c.if-measuring.false, none_tight (Snapshot c.args.copy) (g.S.Shards.items c.args.shards.now) (sym tight ∙ c.if-measuring-2.false))),
      (λ apart none. each_restored c.args.handle c.args.copy (record { handle = c.args.handle; copy = c.args.copy; told = Ok tt }) c.visit_each-2.new.visitor
          (g.S.Shards.items c.args.shards.now) (g.S.Shards.items c.visit_each-2.new.shards) refl refl
          (subst (λ xs. VisitedEach RestoresOne (record { handle = c.args.handle; copy = c.args.copy; told = Ok tt }) xs c.visit_each-2.new.visitor
          (g.S.Shards.items c.visit_each-2.new.shards)) same c.visit_each-2.ensures.visited) (sym worn ∙ c.if-measuring.false) (sym tight ∙ c.if-measuring-2.false) none),
    )
