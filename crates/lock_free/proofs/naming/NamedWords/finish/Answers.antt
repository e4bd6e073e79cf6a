use Rattle.std.proofs.Common.{rules, ◌≡◌, ◌+◌, ◌<◌, [], ◌∷◌, ◌++◌, length, vec_len, vec_capacity, ap, arith}
use Rattle.std.proofs.lemmas.List.Elements.{All-nil, All-cons, All-append, All-same}
use Rattle.lock_free.specs.Seated.{Seated}
use Rattle.lock_free.proofs.Gathering.{moved_on}
use Rattle.lock_free.proofs.naming.NamedWords.finish.Goals as goal

pub loop-seat-preserved : goal.loop-seat-preserved
loop-seat-preserved g c =
    let inv = c.loop-seat.invariant in
    let next = ap (λ xs. length xs) c.in-Some.ensures.steps.0 in
    let fits : vec_len c.loop-seat.plain < vec_capacity c.loop-seat.plain = omega (arith, inv.room, next) in
    let done = c.push.ensures.succeeds fits in
    let pushed : c.push.new.self.items ≡ c.loop-seat.plain.items ++ c.in-Some.seat ∷ [] = search (rules, done) in
    let longer : vec_len c.push.new.self ≡ vec_len c.loop-seat.plain + 1 = search (rules, done) in
    let Its : Seated → Type 0 = λ seat. (seat.table ≡ g.N.MapName.map_id.table) × (seat.view.sizes ≡ g.N.MapName.map_id.sizes) in
    let its : Its c.in-Some.seat = search rules in
    record {
      same = search (rules, pushed);
      its = All-same Its _ _ pushed (All-append Its _ _ inv.its (All-cons Its _ [] its (All-nil Its)));
      left = moved_on _ _ _ _ _ inv.left c.in-Some.ensures.steps.0;
      room = omega (arith, inv.room, next, longer, c.push.ensures.capacity);
    }
