use Rattle.std.proofs.Common.{rules, ◌≡◌, ◌∙◌, length, vec_len, sym, ap, subst}
use Rattle.shared_map.specs.Shards.{AreShards, slots_of_all}
use Rattle.shared_map.proofs.Seated.{made_seats}
use Rattle.shared_map.proofs.maps.SharedMap.of_shards.Goals as goal

pub invariant_of-made : goal.invariant_of-made
invariant_of-made c =
    let first = c.in-Ok.ensures.made.made_is.first in
    let long : vec_len c.args.shards ≡ length c.args.shards.items = search rules in (
      subst (AreShards c.args.hash) (sym first) c.requires,
      c.slots_of-slots.ensures ∙ ap slots_of_all (c.as_slice.ensures.value ∙ sym first),
      c.len-count.ensures ∙ long ∙ sym (ap length first),
    )

pub returns-in-Ok-clause-seats : goal.returns-in-Ok-clause-seats
returns-in-Ok-clause-seats c =
    made_seats (record { hash = c.args.hash; room = c.in-Ok.gate }) c.args.shards.items c.args.seats c.in-Ok.seats.items (invariant_of-made c).0 c.in-Ok.ensures.made
