use Rattle.std.proofs.Common.{rules, ◌≡◌, sym, ap, subst, ◌∙◌, ◌+◌, ◌<◌, ◌∷◌, vec_len, vec_capacity, arith}
use Rattle.lock_free.specs.Naming.{MapId}
use Rattle.lock_free.specs.Places.{AreSizes}
use Rattle.lock_free.specs.Seated.{Seated}
use Rattle.concurrent_map.specs.Seats.{AreNewSeats, answers_of_seat, state_of_seat}
use Rattle.concurrent_map.proofs.SameMap.{same_id}
use Rattle.concurrent_map.proofs.Splitting.{all_seated, left_is_silent, new_are_of, one_more}
use Rattle.concurrent_map.proofs.maps.seat_all.Goals as goal

pub loop-init : goal.loop-init
loop-init c =
    let none : vec_len c.args.made.now ≡ 0 = search (rules, c.requires.room.0) in
    record {
      table = c.requires.table;
      sizes = ap (λ w. w.sizes) c.requires.first;
      actor = ap (λ w. w.actor) c.requires.first;
      last = ap (λ w. w.last + 1) c.requires.first ∙ ap (λ n. n + 1) c.requires.seats;
      silent =
          ap (λ (s : Seated). answers_of_seat (state_of_seat s)) (ap (λ v. record { table = c.args.first.table; view = v }) c.requires.first)
          ∙ ap (λ t. t.answers) (c.first_seat_is_silent.ensures c.args.words.now.key 1);
      count = ap (λ n. n + 1) none;
      made = search (rules, c.requires.room.0, none);
      room = c.requires.room.1;
    }

pub split-requires-clause-table : goal.split-requires-clause-table
split-requires-clause-table c = c.loop.invariant.table

pub split-requires-clause-more : goal.split-requires-clause-more
split-requires-clause-more c = omega (arith, c.loop.invariant.actor, c.loop.invariant.last, c.loop-test.true)

pub invariant_of-insert : goal.invariant_of-insert
invariant_of-insert c = subst AreSizes (sym ((c.in_ok-seat.ensures {u = tt}).split.other_sizes ∙ c.loop.invariant.sizes)) c.requires.sizes

pub loop-preserved : goal.loop-preserved
loop-preserved c =
    let inv = c.loop.invariant in
    let id : MapId = record { table = c.args.words.now.table_id; sizes = c.args.words.now.key } in
    let split = (c.in_ok-seat.ensures {u = tt}).split in
    let fits : vec_len c.loop.made < vec_capacity c.loop.made = omega (arith, inv.count, inv.room, c.loop-test.true) in
    let done = c.insert.ensures.succeeds fits in
    let placed : c.insert.new.self.items ≡ state_of_seat c.in_ok-seat.seat ∷ c.loop.made.items = search (rules, done) in
    let longer : vec_len c.insert.new.self ≡ vec_len c.loop.made + 1 = search (rules, done) in
    let more = one_more id c.loop.first c.split.new.self c.in_ok-seat.seat c.loop.made.items c.insert.new.self.items (vec_len c.loop.made)
    (same_id _ id inv.table inv.sizes) split inv.made placed in
    record {
      table = split.table ∙ inv.table;
      sizes = split.sizes ∙ inv.sizes;
      actor = split.actor ∙ inv.actor;
      last = omega (arith, inv.last, split.last);
      silent = left_is_silent _ _ _ c.histories_stay.ensures.others (subst AreSizes (sym inv.sizes) c.requires.sizes) split inv.silent;
      count = omega (arith, inv.count, longer);
      made = subst (λ n. AreNewSeats id (c.split.new.self.view.last + 1) c.insert.new.self.items n) (sym longer) more;
      room = omega (arith, inv.room, c.insert.ensures.capacity);
    }

pub invariant_of-insert-2 : goal.invariant_of-insert-2
invariant_of-insert-2 c = subst AreSizes (sym c.loop.invariant.sizes) c.requires.sizes

seated : (c : goal.Joined-insert-2) → AreNewSeats (record { table = c.args.words.now.table_id; sizes = c.args.words.now.key }) 1 c.insert-2.new.self.items c.args.seats
seated c =
    let inv = c.loop.invariant in
    let id : MapId = record { table = c.args.words.now.table_id; sizes = c.args.words.now.key } in
    let many : c.loop.counter ≡ c.args.seats = omega (arith, c.loop-test.false, c.loop.auto.counter-end, ap (λ n. n) c.requires.seats, c.requires.sizes.some) in
    let fits : vec_len c.loop.made < vec_capacity c.loop.made = omega (arith, inv.count, inv.room, many) in
    let done = c.insert-2.ensures.succeeds fits in
    let placed : c.insert-2.new.self.items ≡ state_of_seat c.loop.first ∷ c.loop.made.items = search (rules, done) in
    all_seated id c.loop.first c.loop.made.items c.insert-2.new.self.items _ (vec_len c.loop.made) (same_id _ id inv.table inv.sizes) inv.actor inv.silent
    (omega (arith, inv.last, many)) (omega (arith, inv.count, many)) inv.made placed

pub returns : goal.returns
returns c = record { seats = new_are_of _ _ _ _ (seated c); silent = seated c }
