-- The references to slots in use.
use Rattle.std.proofs.Common.{◌≡◌, ℕ, ◌+◌, cond, List, [], ◌∷◌, length, Option, Some, None, is_some, count_by, refl, arith}
use Rattle.std.proofs.lemmas.List.Sums.{sum_by-cons}
use Rattle.slot_arena.specs.declared.nodes.Slot.{Slot}
use Rattle.slot_arena.specs.Heaps.{named_from}

-- there are as many of them as slots in use
pub length-named_from : (n : ℕ) (slots : List (Option Slot)) → length (named_from n slots) ≡ count_by is_some slots
length-named_from n [] = refl
length-named_from n (None ∷ slots) = omega (arith, sum_by-cons (λ (o : Option Slot). cond {A = ℕ} (is_some o) 1 0) None slots, length-named_from (n + 1) slots)
length-named_from n (Some slot ∷ slots) = omega (arith, sum_by-cons (λ (o : Option Slot). cond {A = ℕ} (is_some o) 1 0) (Some slot) slots, length-named_from (n + 1) slots)
