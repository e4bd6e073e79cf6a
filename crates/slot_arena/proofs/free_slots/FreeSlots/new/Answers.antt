use Rattle.std.proofs.Common.{ℕ, List, sym, subst, arith}
use Rattle.slot_arena.specs.Chains.{LeadsTo}
use Rattle.slot_arena.proofs.Chains.{range_leads}
use Rattle.slot_arena.proofs.free_slots.FreeSlots.new.Goals as goal

pub invariant_of-result : goal.invariant_of-result
invariant_of-result c =
    let links : List ℕ = c.loop-slot.links.words in
    let n : ℕ = c.args.slots in (
      subst (LeadsTo links n n) (sym c.changed.ensures) (range_leads links n n 0 n (λ k below. c.loop-slot.invariant.linked k (omega arith)) c.loop-slot.invariant.end (omega arith)),
      c.loop-slot.invariant.size,
      c.requires,
    )
