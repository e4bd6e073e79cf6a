use Rattle.std.proofs.Common.{rules, ◌≡◌, ◌+◌, ◌<◌, ◌∷◌, [], ◌++◌, vec_len, vec_capacity, ◌∙◌, arith}
use Rattle.gate.specs.Rules.{only_slot, same_word}
use Rattle.gate.proofs.Making.{split_allowed, left_over, seat_is_fresh, one_more_fresh}
use Rattle.gate.proofs.opening.seat_all.Goals as goal

pub split_seat-pass-requires : goal.split_seat-pass-requires
split_seat-pass-requires g c =
    (c.loop-n.invariant.table, search rules, split_allowed g.O.Object.answers only_slot same_word 1 _ _ _ _ _ c.loop-n.n _ c.loop-n-test.true c.loop-n.invariant.rest)

pub loop-n-preserved : goal.loop-n-preserved
loop-n-preserved g c =
    let inv = c.loop-n.invariant in
    let e = c.split_seat-pass.ensures in
    let fits : vec_len c.loop-n.made < vec_capacity c.loop-n.made = omega (arith, inv.room, c.loop-n-test.true) in
    let done = c.push.ensures.succeeds fits in
    let pushed : c.push.new.self.items ≡ c.loop-n.made.items ++ record { gate = c.split_seat-pass.result.table_id; number = c.loop-n.n + 1; seen = c.again.result } ∷ [] = search (rules, done) in
    let longer : vec_len c.push.new.self ≡ vec_len c.loop-n.made + 1 = search (rules, done) in
    record {
      rest = left_over _ _ _ c.loop-n.n _ c.loop-n-test.true inv.rest e.2;
      table = e.0 ∙ inv.table;
      seats = one_more_fresh _ _ c.loop-n.n _ _ _ inv.seats pushed
          (seat_is_fresh _ _ _ (c.loop-n.n + 1) _ _ (e.3 ∙ inv.table) c.again.ensures c.requires.fresh);
      room = omega (arith, inv.room, c.loop-n-test.true, longer, c.push.ensures.capacity);
    }
