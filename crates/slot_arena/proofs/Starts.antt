-- At first no slot is in use.
use Rattle.std.proofs.Common.{◌≡◌, ℕ, zero, suc, ◌≤◌, cond, [], length, get_or, replicate, slice_index, Option, None, is_some, refl, sym, ap, ◌∙◌, inl, inr, arith}
use Rattle.std.specs.List.{sum_by, range_with_len}
use Rattle.std.proofs.lemmas.Bool.{cases_lt, false≢true}
use Rattle.std.proofs.lemmas.List.{length-replicate, get_or-replicate, get_or_past}
use Rattle.std.proofs.lemmas.List.FromFn.{length-range_with_len}
use Rattle.std.proofs.lemmas.List.Sums.{sum_by-cons}
use Rattle.slot_arena.specs.Cells.{birth_of_slot}
use Rattle.slot_arena.specs.declared.refs.Ref.{Ref}
use Rattle.slot_arena.specs.declared.nodes.Slot.{Slot}
use Rattle.slot_arena.specs.Refs.{slot_of, birth_of, most_slots}
use Rattle.slot_arena.specs.Heaps.{node_of, refs_of_node, refs_of_slot}
use Rattle.slot_arena.specs.Times.{times}
use Rattle.slot_arena.specs.Arenas.{has_birth}
use Rattle.slot_arena.specs.Kept.{counted, IsKept}

-- nothing is found in slots that aren't in use
pub none_at : (n k : ℕ) → get_or (replicate {A = Option Slot} n None) k None ≡ None
none_at n k = elim (cases_lt k n) [
  | inl within ↦ get_or-replicate n k None None within
  | inr past ↦ get_or_past (replicate {A = Option Slot} n None) k None (let size = length-replicate {A = Option Slot} n None in omega arith)
]

zero_at : (n k : ℕ) → slice_index (replicate n 0) k ≡ 0
zero_at n k = elim (cases_lt k n) [
  | inl within ↦ get_or-replicate n k 0 0 within
  | inr past ↦ get_or_past (replicate {A = ℕ} n 0) k 0 (let size = length-replicate {A = ℕ} n 0 in omega arith)
]

none_summed : (f : Option Slot → ℕ) (n : ℕ) → f None ≡ 0 → sum_by f (replicate n None) ≡ 0
none_summed f zero e = refl
none_summed f (suc n) e = omega (arith, sum_by-cons f None (replicate n None), none_summed f n e)

pub start_kept : (n : ℕ) → n ≤ most_slots → IsKept (replicate n None) (replicate n 0) (record { slots = range_with_len 0 n; size = n; ticks = n }) 0 []
start_kept n few = record {
  few = omega (arith, length-replicate {A = Option Slot} n None);
  sizes = length-replicate n 0 ∙ sym (length-replicate {A = Option Slot} n None);
  chained = sym (length-replicate {A = Option Slot} n None);
  exact = λ r. omega (arith, none_summed (λ (o : Option Slot). times r (refs_of_slot o)) n refl, dead r);
  unused = λ slot none. zero_at n slot;
  apart = λ slot some. absurd (false≢true (sym (ap is_some (none_at n slot)) ∙ some));
  in_use = sym (none_summed (λ (o : Option Slot). cond {A = ℕ} (is_some o) 1 0) n refl);
  all = omega (arith, length-range_with_len 0 n, length-replicate {A = Option Slot} n None);
  narrow = λ slot. omega (arith, ap (λ (o : Option Slot). length (refs_of_node (node_of o))) (none_at n slot));
  born = λ slot. omega (arith, ap birth_of_slot (none_at n slot));
  held = λ r. omega arith;
}
  where
    dead : (r : Ref) → counted (replicate n None) (replicate n 0) r ≡ 0
    dead r = ap (λ (o : Option Slot). cond {A = ℕ} (has_birth (birth_of r) o) (slice_index (replicate n 0) (slot_of r)) 0) (none_at n (slot_of r))
