use Rattle.std.proofs.Common.{refl, subst}
use Rattle.shared_map.specs.Restoring.{ComesTo}
use Rattle.shared_map.proofs.restoring.RestoringVisitMap.visit.Goals as goal

pub returns : goal.returns
returns c = (
  refl,
  refl,
  subst (λ k. ComesTo c.args.map.now k c.args.self.now.copy c.restore-self.result c.restore-self.new.self) c.new.ensures
      (subst (λ k. ComesTo c.args.map.now c.new.result k c.restore-self.result c.restore-self.new.self) c.new-2.ensures
      (c.restore-self.ensures.restores, c.restore-self.ensures.itself, c.restore-self.ensures.refused, c.restore-self.ensures.life, c.restore-self.ensures.full)),
  c.restore-self.ensures.work,
)
