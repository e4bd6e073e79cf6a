-- The state at this place is the same.
use Rattle.std.proofs.Common.{◌≡◌, Some, get_or, slice_get, sym, ap, ◌∙◌, arith}
use Rattle.std.proofs.lemmas.Option.{slice_get-get_or}
use Rattle.order_search.specs.declared.failures.State.{State}
use Rattle.order_search.proofs.failures.is_among.Goals as goal

pub returns-then-is_same : goal.returns-then-is_same
returns-then-is_same c = λ is.
    let states = c.args.states.now in
    let place = get_or c.args.places.now c.loop-place.place-index 0 in
    let other = c.index-states-place.result in
    let at : slice_get states place ≡ Some other = slice_get-get_or states place other (omega arith) ∙ ap (λ (s : State). Some s) (sym c.index-states-place.is) in
    (place, other, at, c.is_same.ensures c.if-is_same.true)
