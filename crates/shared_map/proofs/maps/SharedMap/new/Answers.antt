use Rattle.std.proofs.Common.{◌≤◌, ◌∙◌, length, sym, ap, subst, arith}
use Rattle.shared_map.specs.Shards.{AreShards, slots_of_all}
use Rattle.shared_map.proofs.New.{new_are}
use Rattle.shared_map.proofs.Seated.{made_seats}
use Rattle.shared_map.proofs.Slots.{new_slots}
use Rattle.shared_map.proofs.maps.SharedMap.new.Goals as goal

pub invariant_of-made : goal.invariant_of-made
invariant_of-made c =
    let some : 1 ≤ c.args.shards = grind (arith, c.if-shards-eq0.false) in
    let few : c.args.shards ≤ 64 = grind (arith, c.if-shards-gt64.false) in (
      subst (AreShards c.args.hash) (sym c.in-Ok.ensures.made.made_is.first) (new_are c.args.slots c.args.hash c.args.shards c.in_ok-maps.maps.items some few c.in_ok-maps.ensures.made),
      c.slots_in_all.ensures ∙ sym (ap slots_of_all c.in-Ok.ensures.made.made_is.first ∙ new_slots c.args.slots c.args.shards c.args.hash c.in_ok-maps.maps.items c.in_ok-maps.ensures.made),
      c.from.ensures ∙ sym (ap length c.in-Ok.ensures.made.made_is.first ∙ c.in_ok-maps.ensures.made.1),
    )

pub returns-in-Ok-clause-seats : goal.returns-in-Ok-clause-seats
returns-in-Ok-clause-seats c =
    made_seats (record { hash = c.args.hash; room = c.in-Ok.gate }) c.in_ok-maps.maps.items c.args.seats c.in-Ok.seats.items (invariant_of-made c).0 c.in-Ok.ensures.made
