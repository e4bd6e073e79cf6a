use Rattle.std.proofs.Common.{◌<◌, ◌≤◌, sym, subst}
use Rattle.std.specs.Prelude.{All}
use Rattle.places.specs.Segments.{Listing}
use Rattle.places.proofs.Kept.{kept_closed}
use Rattle.places.proofs.places.Places.close.Goals as goal

pub invariant_of-self : goal.invariant_of-self
invariant_of-self c =
    let step = c.args.step in
    let later = subst (λ (v : Listing). All (λ x. x < step) v.closings) (sym c.self.view_is) c.requires.later in
    let behind = subst (λ (v : Listing). All (λ p. p.step ≤ step) v.places) (sym c.self.view_is) c.requires.behind in
    rw c.push_reserved.ensures.items (kept_closed _ _ _ _ _ step c.self.invariant.0 later behind, c.self.invariant.1)
