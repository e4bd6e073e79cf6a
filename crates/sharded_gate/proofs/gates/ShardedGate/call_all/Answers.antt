use Rattle.std.proofs.Common.{refl, rules, [], ◌≤◌, length, ap, sym, subst, ◌∙◌, arith}
use Rattle.gate.specs.Views.{crew_view}
use Rattle.sharded_gate.specs.Rules.{MayGive, HasGiven}
use Rattle.sharded_gate.specs.Seats.{seen_in}
use Rattle.sharded_gate.proofs.Alone.{at_table, as_seen, put_away, seated_at, stays}
use Rattle.sharded_gate.proofs.Given.{is_called}
use Rattle.sharded_gate.proofs.Whole.{is_done, first_slot, may_give_all, has_given_all, others_from, others_many, lent_first}
use Rattle.sharded_gate.proofs.gates.ShardedGate.call_all.Goals as goal

pub slot_mut-requires : goal.slot_mut-requires
slot_mut-requires g c =
    let seen = seen_in c.seat.inside.badge.views in
    let shards = length c.args.self.now.first in
    let answers = g.O.Sharded.answers in
    let about = g.O.Sharded.about in
    let number = c.seat.inside.number in
    let at = at_table number seen c.replace.result.views c.into_seat-pass.result.me
    (ap (λ b. b.views) c.replace.ensures.value ∙ as_seen number c.seat.invariant.seen c.seat.inside.badge.views c.seat.invariant.place) c.into_seat-pass.ensures.2 c.into_seat-pass.ensures.3 in
    let some : 1 ≤ length c.args.self.now.first = omega (arith, c.self.invariant.any, sym c.self.invariant.many ∙ ap (λ r. length r.first) c.self.view_is) in
    let done = is_done answers about shards number c.args.call c.perform_all-pass.result.1 seen c.into_seat-pass.result.me c.enter_all.new.pass.me
    c.perform_all-pass.result.0.me some at (c.enter_all.ensures.all (search (rules, c.if-not-enter_all.false))) c.perform_all-pass.ensures.performed in (
      c.perform_all-pass.ensures.seat ∙ c.enter_all.ensures.seat ∙ c.into_seat-pass.ensures.0 ∙ ap (λ b. b.table_id) c.replace.ensures.value ∙ ap (λ s. s.seat.gate) c.seat.view_is ∙
          c.requires.seat ∙ ap (λ r. r.id) (sym c.self.view_is),
      first_slot answers about shards number c.args.call c.perform_all-pass.result.1 seen c.perform_all-pass.result.0.me done,
    )

pub give-requires-clause-inside : goal.give-requires-clause-inside
give-requires-clause-inside g c =
    let seen = seen_in c.seat.inside.badge.views in
    let shards = length c.args.self.now.first in
    let answers = g.O.Sharded.answers in
    let about = g.O.Sharded.about in
    let number = c.seat.inside.number in
    let me = c.perform_all-pass.result.0.me in
    let at = at_table number seen c.replace.result.views c.into_seat-pass.result.me
    (ap (λ b. b.views) c.replace.ensures.value ∙ as_seen number c.seat.invariant.seen c.seat.inside.badge.views c.seat.invariant.place) c.into_seat-pass.ensures.2 c.into_seat-pass.ensures.3 in
    let some : 1 ≤ length c.args.self.now.first = omega (arith, c.self.invariant.any, sym c.self.invariant.many ∙ ap (λ r. length r.first) c.self.view_is) in
    let done = is_done answers about shards number c.args.call c.perform_all-pass.result.1 seen c.into_seat-pass.result.me c.enter_all.new.pass.me
    me some at (c.enter_all.ensures.all (search (rules, c.if-not-enter_all.false))) c.perform_all-pass.ensures.performed in
    subst (λ m. MayGive answers about shards 0 m) (ap (λ xs. (me.0, xs)) c.slot_mut.ensures.value)
    (may_give_all answers about shards number c.args.call c.perform_all-pass.result.1 seen me done c.requires.about)

pub release_from-requires-clause-inside : goal.release_from-requires-clause-inside
release_from-requires-clause-inside g c =
    let seen = seen_in c.seat.inside.badge.views in
    let shards = length c.args.self.now.first in
    let answers = g.O.Sharded.answers in
    let about = g.O.Sharded.about in
    let number = c.seat.inside.number in
    let me = c.perform_all-pass.result.0.me in
    let at = at_table number seen c.replace.result.views c.into_seat-pass.result.me
    (ap (λ b. b.views) c.replace.ensures.value ∙ as_seen number c.seat.invariant.seen c.seat.inside.badge.views c.seat.invariant.place) c.into_seat-pass.ensures.2 c.into_seat-pass.ensures.3 in
    let some : 1 ≤ length c.args.self.now.first = omega (arith, c.self.invariant.any, sym c.self.invariant.many ∙ ap (λ r. length r.first) c.self.view_is) in
    let done = is_done answers about shards number c.args.call c.perform_all-pass.result.1 seen c.into_seat-pass.result.me c.enter_all.new.pass.me
    me some at (c.enter_all.ensures.all (search (rules, c.if-not-enter_all.false))) c.perform_all-pass.ensures.performed in
    let made = has_given_all answers about shards number c.args.call c.perform_all-pass.result.1 seen me done c.give.new.pass.me
    (subst (λ m. HasGiven answers about shards m c.give.new.pass.me) (sym (ap (λ xs. (me.0, xs)) c.slot_mut.ensures.value)) c.give.ensures.given) in (
      number,
      made.now,
      done.others,
      made.place,
      others_from answers about shards number c.args.call c.perform_all-pass.result.1 seen me done,
      others_many answers about shards number
          c.args.call c.perform_all-pass.result.1 seen me done,
    )

pub invariant_of-seat-2 : goal.invariant_of-seat-2
invariant_of-seat-2 g c =
    let seen = seen_in c.seat.inside.badge.views in
    let shards = length c.args.self.now.first in
    let answers = g.O.Sharded.answers in
    let about = g.O.Sharded.about in
    let number = c.seat.inside.number in
    let me = c.perform_all-pass.result.0.me in
    let at = at_table number seen c.replace.result.views c.into_seat-pass.result.me
    (ap (λ b. b.views) c.replace.ensures.value ∙ as_seen number c.seat.invariant.seen c.seat.inside.badge.views c.seat.invariant.place) c.into_seat-pass.ensures.2 c.into_seat-pass.ensures.3 in
    let some : 1 ≤ length c.args.self.now.first = omega (arith, c.self.invariant.any, sym c.self.invariant.many ∙ ap (λ r. length r.first) c.self.view_is) in
    let done = is_done answers about shards number c.args.call c.perform_all-pass.result.1 seen c.into_seat-pass.result.me c.enter_all.new.pass.me
    me some at (c.enter_all.ensures.all (search (rules, c.if-not-enter_all.false))) c.perform_all-pass.ensures.performed in
    let made = has_given_all answers about shards number c.args.call c.perform_all-pass.result.1 seen me done c.give.new.pass.me
    (subst (λ m. HasGiven answers about shards m c.give.new.pass.me) (sym (ap (λ xs. (me.0, xs)) c.slot_mut.ensures.value)) c.give.ensures.given) in
    let out = c.release_from.ensures.outside ∙ ap (λ m. (crew_view m.0.parts, [])) made.place in
    let many = ap (λ z. z.slots) (c.into_badge-2.ensures.0 ∙ c.release_from.ensures.seat ∙ c.give.ensures.seat ∙ c.perform_all-pass.ensures.seat ∙ c.enter_all.ensures.seat ∙
    c.into_seat-pass.ensures.0 ∙ ap (λ b. b.table_id) c.replace.ensures.value ∙ ap (λ s. s.seat.gate) c.seat.view_is ∙ c.requires.seat ∙ ap (λ r. r.id) (sym c.self.view_is)) ∙
    c.self.invariant.slots ∙ sym c.self.invariant.many ∙ ap (λ r. length r.first) c.self.view_is in
    seated_at about c.into_badge-2.result.table_id.slots shards number 0 c.calls-calls.result made.now c.slot_mut.result.now.log c.into_badge-2.result.views
    many (put_away number made.now c.into_badge-2.result.views c.release_from.new.pass.me out c.into_badge-2.ensures.2) c.seat.invariant.low
    (made.log ∙ ap (λ s. s.log) (sym (lent_first answers about shards number c.args.call c.perform_all-pass.result.1 seen me done c.slot_mut.result.now c.slot_mut.ensures.value)))
    c.calls-calls.ensures

pub returns-clause-called : goal.returns-clause-called
returns-clause-called g c =
    let seen = seen_in c.seat.inside.badge.views in
    let shards = length c.args.self.now.first in
    let answers = g.O.Sharded.answers in
    let about = g.O.Sharded.about in
    let number = c.seat.inside.number in
    let me = c.perform_all-pass.result.0.me in
    let at = at_table number seen c.replace.result.views c.into_seat-pass.result.me
    (ap (λ b. b.views) c.replace.ensures.value ∙ as_seen number c.seat.invariant.seen c.seat.inside.badge.views c.seat.invariant.place) c.into_seat-pass.ensures.2 c.into_seat-pass.ensures.3 in
    let some : 1 ≤ length c.args.self.now.first = omega (arith, c.self.invariant.any, sym c.self.invariant.many ∙ ap (λ r. length r.first) c.self.view_is) in
    let done = is_done answers about shards number c.args.call c.perform_all-pass.result.1 seen c.into_seat-pass.result.me c.enter_all.new.pass.me
    me some at (c.enter_all.ensures.all (search (rules, c.if-not-enter_all.false))) c.perform_all-pass.ensures.performed in
    let made = has_given_all answers about shards number c.args.call c.perform_all-pass.result.1 seen me done c.give.new.pass.me
    (subst (λ m. HasGiven answers about shards m c.give.new.pass.me) (sym (ap (λ xs. (me.0, xs)) c.slot_mut.ensures.value)) c.give.ensures.given) in
    let out = c.release_from.ensures.outside ∙ ap (λ m. (crew_view m.0.parts, [])) made.place in
    is_called answers about shards number c.args.call c.perform_all-pass.result.1 seen 0 done.now done.others c.give.new.pass.me made
    c.seat.inside.badge.table_id c.into_badge-2.result.table_id c.args.seat.now.seat (seen_in c.into_badge-2.result.views) (ap (λ s. s.seat) c.seat.view_is)
    (c.into_badge-2.ensures.0 ∙ c.release_from.ensures.seat ∙ c.give.ensures.seat ∙ c.perform_all-pass.ensures.seat ∙ c.enter_all.ensures.seat ∙ c.into_seat-pass.ensures.0 ∙ ap
    (λ b. b.table_id) c.replace.ensures.value) (ap (λ vs. seen_in vs) (put_away number made.now c.into_badge-2.result.views c.release_from.new.pass.me out c.into_badge-2.ensures.2))

-- ---- the seat didn't come in

pub into_badge-requires : goal.into_badge-requires
into_badge-requires g c =
    let seen = c.seat.invariant.seen in
    let at = at_table c.seat.inside.number seen c.replace.result.views c.into_seat-pass.result.me
    (ap (λ b. b.views) c.replace.ensures.value ∙ c.seat.invariant.place) c.into_seat-pass.ensures.2 c.into_seat-pass.ensures.3 in
    ap (λ m. m.1) (c.enter_all.ensures.none c.if-not-enter_all.true ∙ at)

pub invariant_of-seat : goal.invariant_of-seat
invariant_of-seat g c =
    let seen = c.seat.invariant.seen in
    let number = c.seat.inside.number in
    let at = at_table number seen c.replace.result.views c.into_seat-pass.result.me
    (ap (λ b. b.views) c.replace.ensures.value ∙ c.seat.invariant.place) c.into_seat-pass.ensures.2 c.into_seat-pass.ensures.3 in
    let same = c.into_badge.ensures.0 ∙ c.enter_all.ensures.seat ∙ c.into_seat-pass.ensures.0 ∙ ap (λ b. b.table_id) c.replace.ensures.value in
    seated_at g.O.Sharded.about c.into_badge.result.table_id.slots c.seat.inside.badge.table_id.slots number c.seat.inside.last.shard c.seat.inside.last.calls seen _
    c.into_badge.result.views (ap (λ z. z.slots) same)
    (put_away number seen c.into_badge.result.views c.enter_all.new.pass.me (c.enter_all.ensures.none c.if-not-enter_all.true ∙ at) c.into_badge.ensures.2)
    c.seat.invariant.low refl c.seat.invariant.counted

pub returns-then-not-enter_all-clause-shut : goal.returns-then-not-enter_all-clause-shut
returns-then-not-enter_all-clause-shut g c =
    let seen = c.seat.invariant.seen in
    let number = c.seat.inside.number in
    let at = at_table number seen c.replace.result.views c.into_seat-pass.result.me
    (ap (λ b. b.views) c.replace.ensures.value ∙ c.seat.invariant.place) c.into_seat-pass.ensures.2 c.into_seat-pass.ensures.3 in
    stays c.seat.inside.badge.table_id c.into_badge.result.table_id number c.seat.inside.last.shard seen c.seat.inside.badge.views c.into_badge.result.views c.args.seat.now
    c.seat.view_is (c.into_badge.ensures.0 ∙ c.enter_all.ensures.seat ∙ c.into_seat-pass.ensures.0 ∙ ap (λ b. b.table_id) c.replace.ensures.value) c.seat.invariant.place
    (put_away number seen c.into_badge.result.views c.enter_all.new.pass.me (c.enter_all.ensures.none c.if-not-enter_all.true ∙ at) c.into_badge.ensures.2)
