use Rattle.std.proofs.Common.{arith, ◌≡◌, [], ◌++◌, length, ap, sym, subst, ◌∙◌, append-nil}
use Rattle.gate.specs.Logs.{fresh}
use Rattle.gate.specs.Rules.{first_view}
use Rattle.gate.specs.Seats.{IsSeatOf}
use Rattle.gate.specs.Finishing.{IsGathered}
use Rattle.gate.proofs.Crews.{sit_allowed}
use Rattle.gate.proofs.Ends.{of_each, next_at, moved_on, none_left, gather_allowed, gathered_one, gathers}
use Rattle.sharded_gate.specs.Rules.{word_of_shard}
use Rattle.sharded_gate.specs.Shards.{shard_of}
use Rattle.sharded_gate.proofs.Beginnings.{whole_is}
use Rattle.sharded_gate.proofs.gates.ShardedGate.gather.Goals as goal

pub load_new_seat-all-requires : goal.load_new_seat-all-requires
load_new_seat-all-requires g c =
    let many = length c.self.inside.table.shared.key.first in (
      omega (arith, c.self.invariant.words, c.self.invariant.any),
      sit_allowed g.O.Sharded.answers (shard_of many (g.O.Sharded.about many)) word_of_shard many _ _ _
          (first_view (fresh c.self.inside.table.shared.key.first) c.self.inside.table.shared.key.seats, []),
    )

pub loop-seat-init : goal.loop-seat-init
loop-seat-init g c =
    let e = c.load_new_seat-all.ensures in
    (e.2, e.0, sym c.into_iter-seat-iterator.ensures.into_iter_gives.0)

pub join_seat-requires : goal.join_seat-requires
join_seat-requires g c =
    let inv = c.loop-seat.invariant in
    let many = length c.self.inside.table.shared.key.first in
    let at = next_at _ _ _ _ c.in-Some.seat inv.2 c.in-Some.ensures.steps.0 in
    let its = of_each (λ s. IsSeatOf c.args.self (g.S.HoldsShardedSeat.seat s)) _ _ _ c.requires.seats at in
    let here = c.into_pass-pass.ensures.table ∙ ap (λ s. s.gate) c.into_seat.ensures ∙ its ∙ ap (λ r. r.id) (sym c.self.view_is) in
    let allowed = gather_allowed g.O.Sharded.answers (shard_of many (g.O.Sharded.about many)) word_of_shard many _ _ _ _ _ _ _ _ inv.0 c.into_pass-pass.ensures.view in
    (inv.1, here, ap (λ m. m.1) c.into_pass-pass.ensures.view, omega (arith, c.self.invariant.words, c.self.invariant.any), allowed)

pub loop-seat-preserved : goal.loop-seat-preserved
loop-seat-preserved g c =
    let inv = c.loop-seat.invariant in
    let e = c.join_seat.ensures in (
      gathered_one g.S.HoldsShardedSeat.seat _ _ _ _ c.in-Some.seat c.into_seat.result.seat inv.0 c.into_seat.ensures c.into_pass-pass.ensures.view e.2,
      e.0 ∙ inv.1,
      moved_on _ _ _ _ c.in-Some.seat inv.2 c.in-Some.ensures.steps.0,
    )

pub close_with-requires : goal.close_with-requires
close_with-requires g c = c.loop-seat.invariant.1

pub take_out-requires-clause-full : goal.take_out-requires-clause-full
take_out-requires-clause-full g c = (c.close_with.ensures.values.1, c.close_with.ensures.counts.1 ∙ c.self.invariant.slots)

pub returns : goal.returns
returns g c =
    let inv = c.loop-seat.invariant in
    let none : c.loop-seat.seat-iterator.rest.items ≡ [] = none_left _ _ c.loop-seat.seat-iterator.rest.ok.0 c.in-None.ensures.steps.0 in
    let whole = sym (inv.2 ∙ ap (λ xs. c.loop-seat.yielded ++ xs) none ∙ append-nil _) in
    let v = c.self.view_is in
    let many = length c.self.inside.table.shared.key.first in
    let xs = c.close_with.result.slots.items in
    let out = gathers g.O.Sharded.answers (shard_of many (g.O.Sharded.about many)) word_of_shard many g.S.HoldsShardedSeat.seat c.args.self c.self.inside.table.shared.key.seats
    c.self.inside.table.shared.key.first _ c.loop-seat.all.me
    c.args.seats.items c.loop-seat.yielded _ xs
    (ap (λ t. t.seats) c.self.invariant.key_is ∙ ap (λ r. r.seats) v) (ap (λ t. t.first) c.self.invariant.key_is ∙ ap (λ r. r.first) v) whole inv.0 c.requires.all
    c.close_with.ensures.values.2 in
    let key_many = ap (λ t. length t.first) c.self.invariant.key_is ∙ c.self.invariant.many in
    let items_many = sym c.close_with.result.slots.ok.0 ∙ c.close_with.ensures.counts.1 ∙ c.self.invariant.slots ∙ sym key_many in
    let same = whole_is (g.O.Sharded.about many) many out.0 xs (omega (arith, key_many, c.self.invariant.any)) items_many out.1 in
    subst (λ os. IsGathered g.O.Sharded.answers g.S.HoldsShardedSeat.seat c.args.self c.args.seats.items os) (same ∙ sym c.take_out.ensures) out.2
