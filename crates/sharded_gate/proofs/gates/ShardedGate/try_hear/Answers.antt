use Rattle.std.proofs.Common.{refl, rules, length, ap, sym, subst, ◌∙◌}
use Rattle.sharded_gate.specs.Seats.{seen_in}
use Rattle.sharded_gate.specs.Rules.{MayRelease, HasSeen}
use Rattle.sharded_gate.proofs.Alone.{at_table, as_seen, put_away, took_one, one_slot, one_may_look, has_looked_at, has_heard, seated_at, stays}
use Rattle.sharded_gate.proofs.gates.ShardedGate.try_hear.Goals as goal

pub slot_mut-requires : goal.slot_mut-requires
slot_mut-requires g c =
    let seen = seen_in c.seat.inside.badge.views in
    let number = c.seat.inside.number in
    let at = at_table number seen c.replace.result.views c.into_seat-pass.result.me
    (ap (λ b. b.views) c.replace.ensures.value ∙ as_seen number c.seat.invariant.seen c.seat.inside.badge.views c.seat.invariant.place) c.into_seat-pass.ensures.2 c.into_seat-pass.ensures.3 in
    let one = took_one c.shard_heard-shard.result number seen c.into_seat-pass.result.me c.try_enter.new.pass.me at (c.try_enter.ensures.inside (search (rules, c.if-not-try_enter.false))) in (
      c.try_enter.ensures.seat ∙ c.into_seat-pass.ensures.0 ∙ ap (λ b. b.table_id) c.replace.ensures.value ∙ ap (λ s. s.seat.gate) c.seat.view_is ∙ c.requires ∙ ap (λ r. r.id)
          (sym c.self.view_is),
      one_slot c.shard_heard-shard.result number seen c.try_enter.new.pass.me one,
    )

pub look-requires-clause-inside : goal.look-requires-clause-inside
look-requires-clause-inside g c =
    let seen = seen_in c.seat.inside.badge.views in
    let number = c.seat.inside.number in
    let me = c.try_enter.new.pass.me in
    let at = at_table number seen c.replace.result.views c.into_seat-pass.result.me
    (ap (λ b. b.views) c.replace.ensures.value ∙ as_seen number c.seat.invariant.seen c.seat.inside.badge.views c.seat.invariant.place) c.into_seat-pass.ensures.2 c.into_seat-pass.ensures.3 in
    let one = took_one c.shard_heard-shard.result number seen c.into_seat-pass.result.me me at (c.try_enter.ensures.inside (search (rules, c.if-not-try_enter.false))) in
    subst (λ m. MayRelease c.shard_heard-shard.result m) (ap (λ xs. (me.0, xs)) c.slot_mut.ensures.value)
    (one_may_look c.shard_heard-shard.result number seen me one c.slot_mut.result.now c.slot_mut.ensures.value)

pub into_badge-requires-2 : goal.into_badge-requires-2
into_badge-requires-2 g c =
    let seen = seen_in c.seat.inside.badge.views in
    let shards = length c.args.self.now.first in
    let answers = g.O.Sharded.answers in
    let about = g.O.Sharded.about in
    let number = c.seat.inside.number in
    let me = c.try_enter.new.pass.me in
    let at = at_table number seen c.replace.result.views c.into_seat-pass.result.me
    (ap (λ b. b.views) c.replace.ensures.value ∙ as_seen number c.seat.invariant.seen c.seat.inside.badge.views c.seat.invariant.place) c.into_seat-pass.ensures.2 c.into_seat-pass.ensures.3 in
    let one = took_one c.shard_heard-shard.result number seen c.into_seat-pass.result.me me at (c.try_enter.ensures.inside (search (rules, c.if-not-try_enter.false))) in
    let looked = has_looked_at answers about shards c.shard_heard-shard.result number seen me one c.slot_mut.result.now c.look.new.pass.me c.slot_mut.ensures.value
    (subst (λ m. HasSeen answers about shards m c.look.new.pass.me) (ap (λ xs. (me.0, xs)) (sym c.slot_mut.ensures.value)) c.look.ensures.seen) in
    ap (λ m. m.1) looked.place

pub invariant_of-seat-2 : goal.invariant_of-seat-2
invariant_of-seat-2 g c =
    let seen = seen_in c.seat.inside.badge.views in
    let shards = length c.args.self.now.first in
    let answers = g.O.Sharded.answers in
    let about = g.O.Sharded.about in
    let number = c.seat.inside.number in
    let me = c.try_enter.new.pass.me in
    let at = at_table number seen c.replace.result.views c.into_seat-pass.result.me
    (ap (λ b. b.views) c.replace.ensures.value ∙ as_seen number c.seat.invariant.seen c.seat.inside.badge.views c.seat.invariant.place) c.into_seat-pass.ensures.2 c.into_seat-pass.ensures.3 in
    let one = took_one c.shard_heard-shard.result number seen c.into_seat-pass.result.me me at (c.try_enter.ensures.inside (search (rules, c.if-not-try_enter.false))) in
    let looked = has_looked_at answers about shards c.shard_heard-shard.result number seen me one c.slot_mut.result.now c.look.new.pass.me c.slot_mut.ensures.value
    (subst (λ m. HasSeen answers about shards m c.look.new.pass.me) (ap (λ xs. (me.0, xs)) (sym c.slot_mut.ensures.value)) c.look.ensures.seen) in
    let many = ap (λ z. z.slots) (c.into_badge-2.ensures.0 ∙ c.look.ensures.seat ∙ c.try_enter.ensures.seat ∙ c.into_seat-pass.ensures.0 ∙ ap (λ b. b.table_id) c.replace.ensures.value ∙ ap
    (λ s. s.seat.gate) c.seat.view_is ∙ c.requires ∙ ap (λ r. r.id) (sym c.self.view_is)) ∙ c.self.invariant.slots ∙ sym c.self.invariant.many ∙ ap (λ r. length r.first) c.self.view_is
    in
    seated_at about c.into_badge-2.result.table_id.slots shards number c.shard_heard-shard.result c.calls-calls.result looked.board c.slot_mut.result.now.log
    c.into_badge-2.result.views many (put_away number looked.board c.into_badge-2.result.views c.look.new.pass.me looked.place c.into_badge-2.ensures.2) c.seat.invariant.low looked.log
    c.calls-calls.ensures

pub returns-clause-heard : goal.returns-clause-heard
returns-clause-heard g c =
    let seen = seen_in c.seat.inside.badge.views in
    let shards = length c.args.self.now.first in
    let answers = g.O.Sharded.answers in
    let about = g.O.Sharded.about in
    let number = c.seat.inside.number in
    let me = c.try_enter.new.pass.me in
    let at = at_table number seen c.replace.result.views c.into_seat-pass.result.me
    (ap (λ b. b.views) c.replace.ensures.value ∙ as_seen number c.seat.invariant.seen c.seat.inside.badge.views c.seat.invariant.place) c.into_seat-pass.ensures.2 c.into_seat-pass.ensures.3 in
    let one = took_one c.shard_heard-shard.result number seen c.into_seat-pass.result.me me at (c.try_enter.ensures.inside (search (rules, c.if-not-try_enter.false))) in
    let looked = has_looked_at answers about shards c.shard_heard-shard.result number seen me one c.slot_mut.result.now c.look.new.pass.me c.slot_mut.ensures.value
    (subst (λ m. HasSeen answers about shards m c.look.new.pass.me) (ap (λ xs. (me.0, xs)) (sym c.slot_mut.ensures.value)) c.look.ensures.seen) in
    has_heard answers about shards c.shard_heard-shard.result number seen me one c.slot_mut.result.now c.look.new.pass.me looked
    c.seat.inside.badge.table_id c.into_badge-2.result.table_id c.args.seat.now.seat (seen_in c.into_badge-2.result.views) (ap (λ s. s.seat) c.seat.view_is)
    (c.into_badge-2.ensures.0 ∙ c.look.ensures.seat ∙ c.try_enter.ensures.seat ∙ c.into_seat-pass.ensures.0 ∙ ap (λ b. b.table_id) c.replace.ensures.value)
    (ap (λ vs. seen_in vs) (put_away number looked.board c.into_badge-2.result.views c.look.new.pass.me looked.place c.into_badge-2.ensures.2))

-- ---- the seat didn't come in

pub into_badge-requires : goal.into_badge-requires
into_badge-requires g c =
    let seen = c.seat.invariant.seen in
    let at = at_table c.seat.inside.number seen c.replace.result.views c.into_seat-pass.result.me
    (ap (λ b. b.views) c.replace.ensures.value ∙ c.seat.invariant.place) c.into_seat-pass.ensures.2 c.into_seat-pass.ensures.3 in
    ap (λ m. m.1) (c.try_enter.ensures.shut c.if-not-try_enter.true ∙ at)

pub invariant_of-seat : goal.invariant_of-seat
invariant_of-seat g c =
    let seen = c.seat.invariant.seen in
    let number = c.seat.inside.number in
    let at = at_table number seen c.replace.result.views c.into_seat-pass.result.me
    (ap (λ b. b.views) c.replace.ensures.value ∙ c.seat.invariant.place) c.into_seat-pass.ensures.2 c.into_seat-pass.ensures.3 in
    let same = c.into_badge.ensures.0 ∙ c.try_enter.ensures.seat ∙ c.into_seat-pass.ensures.0 ∙ ap (λ b. b.table_id) c.replace.ensures.value in
    seated_at g.O.Sharded.about c.into_badge.result.table_id.slots c.seat.inside.badge.table_id.slots number c.seat.inside.last.shard c.seat.inside.last.calls seen _
    c.into_badge.result.views (ap (λ z. z.slots) same)
    (put_away number seen c.into_badge.result.views c.try_enter.new.pass.me (c.try_enter.ensures.shut c.if-not-try_enter.true ∙ at) c.into_badge.ensures.2)
    c.seat.invariant.low refl c.seat.invariant.counted

pub returns-then-not-try_enter-clause-shut : goal.returns-then-not-try_enter-clause-shut
returns-then-not-try_enter-clause-shut g c =
    let seen = c.seat.invariant.seen in
    let number = c.seat.inside.number in
    let at = at_table number seen c.replace.result.views c.into_seat-pass.result.me
    (ap (λ b. b.views) c.replace.ensures.value ∙ c.seat.invariant.place) c.into_seat-pass.ensures.2 c.into_seat-pass.ensures.3 in
    stays c.seat.inside.badge.table_id c.into_badge.result.table_id number c.seat.inside.last.shard seen c.seat.inside.badge.views c.into_badge.result.views c.args.seat.now
    c.seat.view_is (c.into_badge.ensures.0 ∙ c.try_enter.ensures.seat ∙ c.into_seat-pass.ensures.0 ∙ ap (λ b. b.table_id) c.replace.ensures.value) c.seat.invariant.place
    (put_away number seen c.into_badge.result.views c.try_enter.new.pass.me (c.try_enter.ensures.shut c.if-not-try_enter.true ∙ at) c.into_badge.ensures.2)
