use Rattle.std.proofs.Common.{arith}
use Rattle.places.proofs.Kept.{kept_listed, kept_stray}
use Rattle.places.proofs.places.Places.add.Goals as goal
use Rattle.places.proofs.places.Places.add.Goals.{then-at-self, else-at-self}

pub invariant_of-self : goal.invariant_of-self
invariant_of-self c = elim c.if-at-self.branch [
  | then-at-self w ↦ rw (c.with_last-self-inside.ensures, w.self-inside-is, w.push.ensures.places) (
    kept_stray _ _ _ _ _ c.args.at c.self.invariant.0,
    omega (arith, w.push.ensures.ticks, w.push.ensures.writes, c.self.invariant.1),
  )
  | else-at-self w ↦ rw (c.with_last-self-inside.ensures, w.self-inside-is, w.push-else-at-self.ensures.places) (
    kept_listed _ _ _ _ _ c.args.at c.self.invariant.0 w.if-at-self.false,
    omega (arith, w.push-else-at-self.ensures.ticks, w.push-else-at-self.ensures.writes, c.self.invariant.1),
  )
]
