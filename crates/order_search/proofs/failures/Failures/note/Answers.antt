-- One state more is kept.
use Rattle.std.proofs.Common.{◌≡◌, inl, inr, Some, slice_get, subst}
use Rattle.order_search.specs.Vocabulary.{hash_of}
use Rattle.history.proofs.Places.{at_cases}
use Rattle.order_search.specs.declared.failures.State.{State}
use Rattle.order_search.specs.States.{Fails, IsState}
use Rattle.order_search.proofs.Alike.{fails}
use Rattle.order_search.proofs.failures.Failures.note.Goals as goal

pub returns-clause-noted : goal.returns-clause-noted
returns-clause-noted c = λ history table ids known failures leads marks none.
    let hash = hash_of c.args.hash in
    let handles = c.args.self.now.handles.items in
    let keys = c.args.self.now.keys.items in
    let taken = c.args.taken.now in
    let world = c.args.world.now in
    let state : State = record { low = c.args.low; ahead = c.in_ok-ahead.ahead; maps = c.in_ok-maps.maps } in
    let here : IsState handles keys taken world state = record { low = c.requires.low; ahead = c.in_ok-ahead.ensures.ahead; maps = c.in_ok-maps.ensures.named } in
    let failing = fails hash history table handles keys ids taken world state known failures.over leads marks here none in
    record {
      over = failures.over;
      each = λ i other at. elim (at_cases c.args.self.now.states.items state i other (subst (λ xs. slice_get xs i ≡ Some other) c.in_ok-push.ensures.items at)) [
        | inl old ↦ failures.each i other old
        | inr new ↦ subst (λ s. Fails hash history handles keys s) new.1 failing
      ];
    }
