use Rattle.std.proofs.Common.{◌≡◌, ℕ, ◌+◌, ◌≤◌, length, take, slice_index}
use Rattle.slot_arena.specs.Tallies.{naming, NotesZeros}
use Rattle.slot_arena.specs.Loans.{KeepsLoan}
use Rattle.slot_arena.proofs.ledger.Ledger.lower_all.Given as goal

abbrev pub invariant-loop-one : goal.invariant-loop-one
invariant-loop-one l = record {
  size : length l.self.tally.counts ≡ length l.fn.self.tally.counts;
  counts : (slot : ℕ) → slice_index l.self.tally.counts slot + naming slot (take l.one-index l.refs) ≡ slice_index l.fn.self.tally.counts slot;
  noted : NotesZeros l.fn.self.tally l.self.tally;
  ticks : l.self.tally.ticks ≡ l.fn.self.tally.ticks + l.one-index;
  few : length l.self.tally.noted ≤ length l.fn.self.tally.noted + l.one-index;
  loan : KeepsLoan l.fn.self.loan l.self.loan;
}
