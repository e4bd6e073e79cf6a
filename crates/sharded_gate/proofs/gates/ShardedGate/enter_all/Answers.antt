use Rattle.std.proofs.Common.{rules, ◌≡◌, ◌+◌, ◌-◌, suc, length, [], ap, sym, subst, ◌∙◌, arith}
use Rattle.gate.specs.Views.{HasTaken, crew_view}
use Rattle.sharded_gate.specs.Hands.{AreFrom}
use Rattle.sharded_gate.proofs.Tables.{shards_many}
use Rattle.sharded_gate.proofs.Whole.{HasFrom, one_more, all_taken}
use Rattle.sharded_gate.proofs.gates.ShardedGate.enter_all.Goals as goal

pub loop-n-init : goal.loop-n-init
loop-n-init g c =
    let r = c.requires.outside in
    (search rules, record { slots = []; are = tt; many = omega arith; place = r.1 ∙ ap (λ ps. (record { has = []; parts = ps }, [])) (sym (ap (λ m. m.0.parts) r.1)) })

pub enter_by_tries-requires-clause-seat : goal.enter_by_tries-requires-clause-seat
enter_by_tries-requires-clause-seat g c = c.loop-n.invariant.0 ∙ c.requires.seat

pub enter_by_tries-requires-clause-number : goal.enter_by_tries-requires-clause-number
enter_by_tries-requires-clause-number g c =
    let r = c.requires.outside in
    let has = c.loop-n.invariant.1 in
    (r.0, has.slots, ap (λ m. m.0) has.place ∙ ap (λ ps. record { has = has.slots; parts = ps }) (ap (λ m. m.0.parts) r.1))

pub enter_by_tries-requires-clause-within : goal.enter_by_tries-requires-clause-within
enter_by_tries-requires-clause-within g c =
    let same = shards_many c.self.inside.table.shared.table_id c.self.inside.table.shared.key c.self.inside.terms c.self.inside.shards c.self.inside.spare c.self.invariant _
    (ap (λ r. length r.first) c.self.view_is) in
    omega (arith, same, c.loop-n-test.true)

pub loop-n-preserved : goal.loop-n-preserved
loop-n-preserved g c =
    let same = shards_many c.self.inside.table.shared.table_id c.self.inside.table.shared.key c.self.inside.terms c.self.inside.shards c.self.inside.spare c.self.invariant _
    (ap (λ r. length r.first) c.self.view_is) in
    let many = length c.args.self.now.first in
    let next : many - c.loop-n.n ≡ suc (many - (c.loop-n.n + 1)) = omega (arith, same, c.loop-n-test.true) in
    let place : c.self.inside.shards - 1 - c.loop-n.n ≡ many - (c.loop-n.n + 1) = omega (arith, same, c.loop-n-test.true) in (
      search rules,
      one_more (many - (c.loop-n.n + 1)) many _ _ _ (subst (λ i. HasFrom i many c.args.pass.now.me.0.parts c.loop-n.pass.me) next c.loop-n.invariant.1)
          (subst (λ i. HasTaken i c.loop-n.pass.me c.enter_by_tries.new.pass.me) place (c.enter_by_tries.ensures.inside (search (rules, c.if-not-enter_by_tries.false)))),
    )

pub release_from-requires-clause-inside : goal.release_from-requires-clause-inside
release_from-requires-clause-inside g c =
    let same = shards_many c.self.inside.table.shared.table_id c.self.inside.table.shared.key c.self.inside.terms c.self.inside.shards c.self.inside.spare c.self.invariant _
    (ap (λ r. length r.first) c.self.view_is) in
    let r = c.requires.outside in
    let has = c.loop-n.invariant.1 in
    let first : length c.args.self.now.first - c.loop-n.n ≡ c.self.inside.shards - 1 - c.loop-n.n + 1 = omega (arith, same, c.loop-n-test.true) in (
      c.args.number,
      r.0,
      has.slots,
      c.enter_by_tries.ensures.shut c.if-not-enter_by_tries.true ∙ has.place ∙ ap (λ ps. (record { has = has.slots; parts = ps }, has.slots)) (ap (λ m. m.0.parts) r.1),
      subst (λ i. AreFrom i has.slots) first has.are,
      omega (arith, has.many, first, same, c.loop-n-test.true),
    )

pub returns-then-not-enter_by_tries-clause-none : goal.returns-then-not-enter_by_tries-clause-none
returns-then-not-enter_by_tries-clause-none g c is =
    let r = c.requires.outside in
    c.release_from.ensures.outside ∙ ap (λ m. (crew_view m.0.parts, [])) (c.enter_by_tries.ensures.shut c.if-not-enter_by_tries.true ∙ c.loop-n.invariant.1.place)
    ∙ ap (λ m. (crew_view m.0.parts, [])) r.1 ∙ sym r.1

pub returns-clause-all : goal.returns-clause-all
returns-clause-all g c is =
    let same = shards_many c.self.inside.table.shared.table_id c.self.inside.table.shared.key c.self.inside.terms c.self.inside.shards c.self.inside.spare c.self.invariant _
    (ap (λ r. length r.first) c.self.view_is) in
    let many = length c.args.self.now.first in
    let done : many - c.loop-n.n ≡ 0 = omega (arith, same, c.loop-n-test.false) in
    all_taken many _ _ (subst (λ i. HasFrom i many c.args.pass.now.me.0.parts c.loop-n.pass.me) done c.loop-n.invariant.1)
