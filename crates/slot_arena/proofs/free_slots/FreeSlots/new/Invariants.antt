use Rattle.std.proofs.Common.{◌≡◌, ℕ, ◌+◌, ◌<◌, length, slice_index}
use Rattle.slot_arena.proofs.free_slots.FreeSlots.new.Given as goal

abbrev pub invariant-loop-slot : goal.invariant-loop-slot
invariant-loop-slot l = record {
  size : length l.links.words ≡ l.slots + 1;
  end : slice_index l.links.words l.slots ≡ 0;
  ticks : l.links.ticks ≡ l.slot;
  linked : (k : ℕ) → k < l.slot → slice_index l.links.words k ≡ k + 1;
}
