use Rattle.std.proofs.Common.{refl, rules, [], length, ap, sym, ◌∙◌}
use Rattle.sharded_gate.specs.Seats.{seen_in}
use Rattle.sharded_gate.proofs.Alone.{at_table, as_seen, put_away, took_one, one_slot, one_may_give, one_made, seated_at, stays}
use Rattle.sharded_gate.proofs.Given.{is_called}
use Rattle.sharded_gate.proofs.gates.ShardedGate.call_one.Goals as goal

pub slot_mut-board-requires : goal.slot_mut-board-requires
slot_mut-board-requires g c =
    let seen = seen_in c.seat.inside.badge.views in
    let number = c.seat.inside.number in
    let at = at_table number seen c.replace.result.views c.into_seat-pass.result.me
    (ap (λ b. b.views) c.replace.ensures.value ∙ as_seen number c.seat.invariant.seen c.seat.inside.badge.views c.seat.invariant.place) c.into_seat-pass.ensures.2 c.into_seat-pass.ensures.3 in
    let one = took_one c.args.shard number seen c.into_seat-pass.result.me c.try_enter.new.pass.me at (c.try_enter.ensures.inside (search (rules, c.if-not-try_enter.false))) in (
      c.try_enter.ensures.seat ∙ c.into_seat-pass.ensures.0 ∙ ap (λ b. b.table_id) c.replace.ensures.value ∙ ap (λ s. s.seat.gate) c.seat.view_is ∙ c.requires.seat ∙ ap (λ r. r.id)
          (sym c.self.view_is),
      one_slot c.args.shard number seen c.try_enter.new.pass.me one,
    )

pub give-requires-clause-inside : goal.give-requires-clause-inside
give-requires-clause-inside g c =
    let seen = seen_in c.seat.inside.badge.views in
    let number = c.seat.inside.number in
    let at = at_table number seen c.replace.result.views c.into_seat-pass.result.me
    (ap (λ b. b.views) c.replace.ensures.value ∙ as_seen number c.seat.invariant.seen c.seat.inside.badge.views c.seat.invariant.place) c.into_seat-pass.ensures.2 c.into_seat-pass.ensures.3 in
    let one = took_one c.args.shard number seen c.into_seat-pass.result.me c.try_enter.new.pass.me at (c.try_enter.ensures.inside (search (rules, c.if-not-try_enter.false))) in
    one_may_give g.O.Sharded.answers g.O.Sharded.about (length c.args.self.now.first) c.args.shard number seen c.try_enter.new.pass.me one c.args.call c.call-answer.result
    c.slot_mut-board.result.now c.call-answer.new.self
    c.slot_mut-board.ensures.value c.call-answer.ensures.log c.requires.about c.call-answer.ensures.answered

pub into_badge-requires-2 : goal.into_badge-requires-2
into_badge-requires-2 g c =
    let seen = seen_in c.seat.inside.badge.views in
    let number = c.seat.inside.number in
    let at = at_table number seen c.replace.result.views c.into_seat-pass.result.me
    (ap (λ b. b.views) c.replace.ensures.value ∙ as_seen number c.seat.invariant.seen c.seat.inside.badge.views c.seat.invariant.place) c.into_seat-pass.ensures.2 c.into_seat-pass.ensures.3 in
    let one = took_one c.args.shard number seen c.into_seat-pass.result.me c.try_enter.new.pass.me at (c.try_enter.ensures.inside (search (rules, c.if-not-try_enter.false))) in
    let made = one_made g.O.Sharded.answers g.O.Sharded.about (length c.args.self.now.first) c.args.shard number seen c.try_enter.new.pass.me one c.args.call c.call-answer.result
    c.slot_mut-board.result.now c.call-answer.new.self
    c.slot_mut-board.ensures.value c.call-answer.ensures.log c.give.new.pass.me c.give.ensures.given in
    ap (λ m. m.1) made.place

pub invariant_of-seat-2 : goal.invariant_of-seat-2
invariant_of-seat-2 g c =
    let seen = seen_in c.seat.inside.badge.views in
    let shards = length c.args.self.now.first in
    let about = g.O.Sharded.about in
    let number = c.seat.inside.number in
    let at = at_table number seen c.replace.result.views c.into_seat-pass.result.me
    (ap (λ b. b.views) c.replace.ensures.value ∙ as_seen number c.seat.invariant.seen c.seat.inside.badge.views c.seat.invariant.place) c.into_seat-pass.ensures.2 c.into_seat-pass.ensures.3 in
    let one = took_one c.args.shard number seen c.into_seat-pass.result.me c.try_enter.new.pass.me at (c.try_enter.ensures.inside (search (rules, c.if-not-try_enter.false))) in
    let made = one_made g.O.Sharded.answers about shards c.args.shard number seen c.try_enter.new.pass.me one c.args.call c.call-answer.result c.slot_mut-board.result.now c.call-answer.new.self
    c.slot_mut-board.ensures.value c.call-answer.ensures.log c.give.new.pass.me c.give.ensures.given in
    let many = ap (λ z. z.slots) (c.into_badge-2.ensures.0 ∙ c.give.ensures.seat ∙ c.try_enter.ensures.seat ∙ c.into_seat-pass.ensures.0 ∙ ap (λ b. b.table_id) c.replace.ensures.value ∙ ap
    (λ s. s.seat.gate) c.seat.view_is ∙ c.requires.seat ∙ ap (λ r. r.id) (sym c.self.view_is)) ∙ c.self.invariant.slots ∙ sym c.self.invariant.many ∙ ap (λ r. length r.first)
    c.self.view_is in
    seated_at about c.into_badge-2.result.table_id.slots shards number c.args.shard c.calls-calls.result made.now c.call-answer.new.self.log c.into_badge-2.result.views
    many (put_away number made.now c.into_badge-2.result.views c.give.new.pass.me made.place c.into_badge-2.ensures.2) c.seat.invariant.low made.log c.calls-calls.ensures

pub returns-clause-called : goal.returns-clause-called
returns-clause-called g c =
    let seen = seen_in c.seat.inside.badge.views in
    let shards = length c.args.self.now.first in
    let answers = g.O.Sharded.answers in
    let about = g.O.Sharded.about in
    let number = c.seat.inside.number in
    let at = at_table number seen c.replace.result.views c.into_seat-pass.result.me
    (ap (λ b. b.views) c.replace.ensures.value ∙ as_seen number c.seat.invariant.seen c.seat.inside.badge.views c.seat.invariant.place) c.into_seat-pass.ensures.2 c.into_seat-pass.ensures.3 in
    let one = took_one c.args.shard number seen c.into_seat-pass.result.me c.try_enter.new.pass.me at (c.try_enter.ensures.inside (search (rules, c.if-not-try_enter.false))) in
    let made = one_made answers about shards c.args.shard number seen c.try_enter.new.pass.me one c.args.call c.call-answer.result c.slot_mut-board.result.now c.call-answer.new.self
    c.slot_mut-board.ensures.value c.call-answer.ensures.log c.give.new.pass.me c.give.ensures.given in
    is_called answers about shards number c.args.call c.call-answer.result seen c.args.shard c.call-answer.new.self [] c.give.new.pass.me made
    c.seat.inside.badge.table_id c.into_badge-2.result.table_id c.args.seat.now.seat (seen_in c.into_badge-2.result.views) (ap (λ s. s.seat) c.seat.view_is)
    (c.into_badge-2.ensures.0 ∙ c.give.ensures.seat ∙ c.try_enter.ensures.seat ∙ c.into_seat-pass.ensures.0 ∙ ap (λ b. b.table_id) c.replace.ensures.value)
    (ap (λ vs. seen_in vs) (put_away number made.now c.into_badge-2.result.views c.give.new.pass.me made.place c.into_badge-2.ensures.2))

-- ---- the seat didn't come in

pub into_badge-requires : goal.into_badge-requires
into_badge-requires g c =
    let seen = c.seat.invariant.seen in
    let at = at_table c.seat.inside.number seen c.replace.result.views c.into_seat-pass.result.me
    (ap (λ b. b.views) c.replace.ensures.value ∙ c.seat.invariant.place) c.into_seat-pass.ensures.2 c.into_seat-pass.ensures.3 in
    ap (λ m. m.1) (c.try_enter.ensures.shut c.if-not-try_enter.true ∙ at)

pub invariant_of-seat : goal.invariant_of-seat
invariant_of-seat g c =
    let seen = c.seat.invariant.seen in
    let number = c.seat.inside.number in
    let at = at_table number seen c.replace.result.views c.into_seat-pass.result.me
    (ap (λ b. b.views) c.replace.ensures.value ∙ c.seat.invariant.place) c.into_seat-pass.ensures.2 c.into_seat-pass.ensures.3 in
    let same = c.into_badge.ensures.0 ∙ c.try_enter.ensures.seat ∙ c.into_seat-pass.ensures.0 ∙ ap (λ b. b.table_id) c.replace.ensures.value in
    seated_at g.O.Sharded.about c.into_badge.result.table_id.slots c.seat.inside.badge.table_id.slots number c.seat.inside.last.shard c.seat.inside.last.calls seen _
    c.into_badge.result.views (ap (λ z. z.slots) same)
    (put_away number seen c.into_badge.result.views c.try_enter.new.pass.me (c.try_enter.ensures.shut c.if-not-try_enter.true ∙ at) c.into_badge.ensures.2)
    c.seat.invariant.low refl c.seat.invariant.counted

pub returns-then-not-try_enter-clause-shut : goal.returns-then-not-try_enter-clause-shut
returns-then-not-try_enter-clause-shut g c =
    let seen = c.seat.invariant.seen in
    let number = c.seat.inside.number in
    let at = at_table number seen c.replace.result.views c.into_seat-pass.result.me
    (ap (λ b. b.views) c.replace.ensures.value ∙ c.seat.invariant.place) c.into_seat-pass.ensures.2 c.into_seat-pass.ensures.3 in
    stays c.seat.inside.badge.table_id c.into_badge.result.table_id number c.seat.inside.last.shard seen c.seat.inside.badge.views c.into_badge.result.views c.args.seat.now
    c.seat.view_is (c.into_badge.ensures.0 ∙ c.try_enter.ensures.seat ∙ c.into_seat-pass.ensures.0 ∙ ap (λ b. b.table_id) c.replace.ensures.value) c.seat.invariant.place
    (put_away number seen c.into_badge.result.views c.try_enter.new.pass.me (c.try_enter.ensures.shut c.if-not-try_enter.true ∙ at) c.into_badge.ensures.2)
