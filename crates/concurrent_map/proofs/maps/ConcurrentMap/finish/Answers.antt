use Rattle.std.proofs.Common.{rules, ◌≡◌, sym, subst, ap, ◌∙◌, ◌+◌, ◌<◌, [], ◌∷◌, ◌++◌, All, length, map, vec_len, vec_capacity, append_assoc, append-nil, arith}
use Rattle.lock_free.specs.Finishing.{IsTold}
use Rattle.lock_free.specs.Naming.{MapId}
use Rattle.lock_free.specs.Seated.{Seated}
use Rattle.concurrent_map.specs.Seats.{IsSeatOf, state_of_seat}
use Rattle.concurrent_map.specs.Finishing.{AreInOneOrder}
use Rattle.concurrent_map.proofs.Finished.{none_rest, one_more_state, ordered, seats_fit}
use Rattle.concurrent_map.proofs.maps.ConcurrentMap.finish.Goals as goal

pub loop-seat-preserved : goal.loop-seat-preserved
loop-seat-preserved c =
    let inv = c.loop-seat.invariant in
    let next = ap (λ xs. length xs) c.in-Some.ensures.steps.0 in
    let fits : vec_len c.loop-seat.plain < vec_capacity c.loop-seat.plain = omega (arith, inv.room, next) in
    let done = c.push.ensures.succeeds fits in
    let pushed : c.push.new.self.items ≡ c.loop-seat.plain.items ++ c.into_seat.result ∷ [] = search (rules, done) in
    let longer : vec_len c.push.new.self ≡ vec_len c.loop-seat.plain + 1 = search (rules, done) in
    record {
      same = one_more_state _ _ _ _ _ inv.same c.into_seat.ensures pushed;
      left = inv.left ∙ ap (λ ys. c.loop-seat.yielded ++ ys) c.in-Some.ensures.steps.0 ∙ sym (append_assoc c.loop-seat.yielded (c.in-Some.seat ∷ []) _);
      room = omega (arith, inv.room, next, longer, c.push.ensures.capacity);
    }

pub finish_map-requires-clause-seats : goal.finish_map-requires-clause-seats
finish_map-requires-clause-seats c =
    let inv = c.loop-seat.invariant in
    let none = none_rest _ _ c.loop-seat.seat-iterator.rest.ok.0 c.in-None.ensures.steps.0 in
    let all : map state_of_seat c.loop-seat.plain.items ≡ c.args.seats.items =
    inv.same ∙ sym (inv.left ∙ ap (λ ys. c.loop-seat.yielded ++ ys) none ∙ append-nil c.loop-seat.yielded) in
    let fit = seats_fit c.args.self c.loop-seat.plain.items (subst (λ seats. All (IsSeatOf c.args.self) seats) (sym all) c.requires) in
    subst (λ (id : MapId). All (λ s. (s.table ≡ id.table) × (s.view.sizes ≡ id.sizes)) c.loop-seat.plain.items) (sym c.self.view_is) fit

pub returns-clause-order : goal.returns-clause-order
returns-clause-order c =
    let inv = c.loop-seat.invariant in
    let none = none_rest _ _ c.loop-seat.seat-iterator.rest.ok.0 c.in-None.ensures.steps.0 in
    let all : map state_of_seat c.loop-seat.plain.items ≡ c.args.seats.items =
    inv.same ∙ sym (inv.left ∙ ap (λ ys. c.loop-seat.yielded ++ ys) none ∙ append-nil c.loop-seat.yielded) in
    let told = subst (λ (id : MapId). IsTold id.sizes (map (λ (s : Seated). s.view) c.loop-seat.plain.items)) c.self.view_is c.finish_map.ensures in
    subst (λ seats. AreInOneOrder c.args.self seats) all
    (ordered c.args.self c.loop-seat.plain.items (subst (λ seats. All (IsSeatOf c.args.self) seats) (sym all) c.requires) told)
