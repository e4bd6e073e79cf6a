use Rattle.std.proofs.Common.{◌≡◌, ℕ, ◌+◌, length, take, slice_index}
use Rattle.slot_arena.specs.Tallies.{naming, NotesZeros}
use Rattle.slot_arena.proofs.tally.Tally.restore_all.Given as goal

abbrev pub invariant-loop-one : goal.invariant-loop-one
invariant-loop-one l = record {
  size : length l.self.counts ≡ length l.fn.self.counts;
  counts : (slot : ℕ) → slice_index l.self.counts slot ≡ slice_index l.fn.self.counts slot + naming slot (take l.one-index l.refs);
  zeros : NotesZeros l.fn.self l.self;
  noted : l.self.noted ≡ l.fn.self.noted;
  ticks : l.self.ticks ≡ l.fn.self.ticks;
}
