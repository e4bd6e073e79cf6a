use Rattle.std.proofs.Common.{List, Option, None, sym, subst, inl, arith}
use Rattle.slot_arena.specs.declared.refs.Ref.{Ref}
use Rattle.slot_arena.specs.declared.nodes.Slot.{Slot}
use Rattle.slot_arena.specs.Tallies.{Tally}
use Rattle.slot_arena.specs.Chains.{Chain}
use Rattle.slot_arena.specs.Kept.{IsKept, IsRising}
use Rattle.std.proofs.Common.{replicate}
use Rattle.slot_arena.proofs.Starts.{start_kept}
use Rattle.slot_arena.proofs.Rising.{rising_new}
use Rattle.std.specs.List.{range_with_len}
use Rattle.slot_arena.proofs.arena.Arena.new.Goals as goal

pub invariant_of-result : goal.invariant_of-result
invariant_of-result c = (
  subst (λ (s : List (Option Slot)). IsKept s c.in_ok-new-2.field-0.tally.counts c.in_ok-new-3.field-0 0 c.new-4.result.items) (sym c.in_ok-new.ensures)
      (subst (λ (t : Tally). IsKept (replicate c.args.slots None) t.counts c.in_ok-new-3.field-0 0 c.new-4.result.items) (sym c.in_ok-new-2.ensures.0)
      (subst (λ (f : Chain). IsKept (replicate c.args.slots None) (replicate c.args.slots 0) f 0 c.new-4.result.items) (sym c.in_ok-new-3.ensures)
      (subst (λ (os : List Ref). IsKept (replicate c.args.slots None) (replicate c.args.slots 0) (record { slots = range_with_len 0 c.args.slots; size = c.args.slots; ticks = c.args.slots }) 0
      os) (sym c.new-4.ensures)
      (start_kept c.args.slots (omega arith))))),
  inl c.in_ok-new-2.ensures.1,
  subst (λ (s : List (Option Slot)). IsRising s 0) (sym c.in_ok-new.ensures) (rising_new c.args.slots),
)
