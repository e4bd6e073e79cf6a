use Rattle.std.proofs.Common.{◌≡◌, ◌<◌, None, refl, sym, subst}
use Rattle.std.specs.FinMap as maps
use Rattle.shared_map.specs.Vocabulary.{handle_limit}
use Rattle.ctrie_map.specs.Maps.{handles_of}
use Rattle.ctrie_map.specs.Sharding.{PerformsUnder}
use Rattle.shared_map.specs.declared.turning.Turn.TheVariants as turn
use Rattle.shared_map.specs.Turning.{HasTurned, IsDue}
use Rattle.shared_map.proofs.TurnOne.{copy_turns}
use Rattle.shared_map.proofs.turning.TurningVisitMap.visit.Goals as goal

pub returns-in-Copy : goal.returns-in-Copy
returns-in-Copy c = (
  refl,
  (λ due.
      let its : IsDue (turn.Copy c.in-Copy.handle c.in-Copy.number c.in-Copy.access) c.args.map.now = subst (λ u. IsDue u c.args.map.now) c.in-Copy.is due in
      let performs : PerformsUnder c.in-Copy.number c.copy_under.result c.args.map.now c.in-Copy.access c.in-Copy.handle c.copy_under.new.self =
      subst (λ n. n < handle_limit → maps.get (handles_of c.args.map.now) n ≡ None → PerformsUnder n c.copy_under.result c.args.map.now c.in-Copy.access c.in-Copy.handle
      c.copy_under.new.self) c.new-in-Copy.ensures
      (subst (λ h. c.new-in-Copy.result < handle_limit → maps.get (handles_of c.args.map.now) c.new-in-Copy.result ≡ None →
      PerformsUnder c.new-in-Copy.result c.copy_under.result c.args.map.now c.in-Copy.access h c.copy_under.new.self) c.new.ensures c.copy_under.ensures.performs)
      its.free.0 its.free.1 in
      subst (λ u. HasTurned u c.args.map.now c.copy_under.new.self) (sym c.in-Copy.is)
      (copy_turns c.args.map.now c.copy_under.new.self c.in-Copy.handle c.in-Copy.number c.in-Copy.access its c.copy_under.ensures.work c.copy_under.result performs)),
)
