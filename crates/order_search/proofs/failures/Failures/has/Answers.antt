-- What is known of the same state holds here.
use Rattle.std.proofs.Common.{subst}
use Rattle.order_search.specs.declared.failures.State.{State}
use Rattle.order_search.specs.States.{IsSameAsOne, IsState}
use Rattle.order_search.proofs.Alike.{same_is}
use Rattle.order_search.proofs.failures.Failures.has.Goals as goal

pub returns-clause-none : goal.returns-clause-none
returns-clause-none c = λ is history ids failures leads marks.
    let handles = c.args.self.now.handles.items in
    let keys = c.args.self.now.keys.items in
    let taken = c.args.taken.now in
    let world = c.args.world.now in
    let state : State = record { low = c.args.low; ahead = c.in_ok-ahead.ahead; maps = c.in_ok-maps.maps } in
    let found : IsSameAsOne c.args.self.now.states.items state = subst (λ xs. IsSameAsOne xs state) c.as_slice-2.ensures.value (c.is_among.ensures is) in
    let here : IsState handles keys taken world state = record { low = c.requires.low; ahead = c.in_ok-ahead.ensures.ahead; maps = c.in_ok-maps.ensures.named } in
    failures.each found.0 found.1 found.2 ids taken world leads marks (same_is handles keys taken world found.1 state found.3 here)
