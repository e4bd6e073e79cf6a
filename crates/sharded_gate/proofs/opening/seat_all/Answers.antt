use Rattle.std.proofs.Common.{rules, refl, ◌≡◌, ◌+◌, ◌<◌, ◌∷◌, [], ◌++◌, List, length, vec_len, vec_capacity, ap, ◌∙◌, arith}
use Rattle.std.proofs.lemmas.List.Elements.{All-nil, All-cons, All-append, All-same}
use Rattle.gate.specs.Logs.{Logged, fresh}
use Rattle.gate.specs.Seats.{Seated}
use Rattle.gate.proofs.Making.{split_allowed, cut_off, left_over, seat_is_fresh, one_more_fresh}
use Rattle.sharded_gate.specs.Opening.{seats_of}
use Rattle.sharded_gate.specs.Seats.{ShardSeated, seen_in}
use Rattle.sharded_gate.specs.Rules.{word_of_shard}
use Rattle.sharded_gate.specs.Shards.{shard_of}
use Rattle.sharded_gate.proofs.Alone.{put_away}
use Rattle.sharded_gate.proofs.Beginnings.{seats_push}
use Rattle.sharded_gate.proofs.opening.seat_all.Goals as goal

pub split_seat-pass-requires : goal.split_seat-pass-requires
split_seat-pass-requires g c =
    let many = length c.args.table.now.shared.key.first in
    let rest = c.loop-n.invariant.rest in
    (c.loop-n.invariant.table, c.requires.table.0, split_allowed g.O.Sharded.answers (shard_of many (g.O.Sharded.about many)) word_of_shard many _ _ _ _ _ c.loop-n.n _ c.loop-n-test.true rest)

pub loop-n-preserved : goal.loop-n-preserved
loop-n-preserved g c =
    let inv = c.loop-n.invariant in
    let e = c.split_seat-pass.ensures in
    let start : Logged (List g.row.O.Denot) g.row.C.Denot g.row.A.Denot = fresh c.args.terms.now.first in
    let seat : Seated (List g.row.O.Denot) g.row.C.Denot g.row.A.Denot = record { gate = c.into_badge.result.table_id; number = c.loop-n.n + 1; seen = seen_in c.into_badge.result.views } in
    let one : ShardSeated g.row.O.Denot g.row.C.Denot g.row.A.Denot = record { seat = seat; shard = 0 } in
    let fits : vec_len c.loop-n.made < vec_capacity c.loop-n.made = omega (arith, inv.room, c.loop-n-test.true) in
    let done = c.push.ensures.succeeds fits in
    let pushed : c.push.new.self.items ≡ c.loop-n.made.items ++ one ∷ [] = search (rules, done) in
    let longer : vec_len c.push.new.self ≡ vec_len c.loop-n.made + 1 = search (rules, done) in
    let single = cut_off _ c.split_seat-pass.result.me start c.loop-n.n c.args.terms.now.seats c.loop-n-test.true inv.rest e.4 in
    let seen = ap (λ vs. seen_in vs) (put_away (c.loop-n.n + 1) start c.into_badge.result.views c.split_seat-pass.result.me single c.into_badge.ensures.2) in
    record {
      rest = left_over _ _ start c.loop-n.n _ c.loop-n-test.true inv.rest e.2;
      table = e.0 ∙ inv.table;
      seats = one_more_fresh c.args.table.now.shared.table_id c.args.terms.now.first c.loop-n.n (seats_of c.loop-n.made.items) (seats_of c.push.new.self.items) seat inv.seats
          (ap (λ ss. seats_of ss) pushed ∙ seats_push c.loop-n.made.items one)
          (seat_is_fresh c.args.table.now.shared.table_id c.into_badge.result.table_id c.args.terms.now.first (c.loop-n.n + 1) (seen_in c.into_badge.result.views) start
          (c.into_badge.ensures.0 ∙ e.3 ∙ inv.table) seen refl);
      first = All-same (λ s. s.shard ≡ 0) c.push.new.self.items (c.loop-n.made.items ++ one ∷ []) pushed
          (All-append (λ s. s.shard ≡ 0) c.loop-n.made.items (one ∷ []) inv.first (All-cons (λ s. s.shard ≡ 0) one [] refl (All-nil (λ s. s.shard ≡ 0))));
      room = omega (arith, inv.room, c.loop-n-test.true, longer, c.push.ensures.capacity);
    }
