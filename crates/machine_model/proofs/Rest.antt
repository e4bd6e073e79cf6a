-- The free slots are the rest: each slot is either flagged as used or stands in the free list, once.
use Rattle.std.proofs.Common.{◌≡◌, ℕ, zero, suc, ◌+◌, ◌<◌, ◌==◌, Bool, true, false, cond, nat_lt, nat_le, ◌&&◌, List, ◌∷◌, length, get_or, set, replicate, count_by, refl, sym}
use Rattle.std.proofs.Common.{◌⊎◌, inl, inr, arith, leb-true, leb-false, ltb-true, ltb-false, lt-ltb, eqb-true, eq-eqb, ne_eqb, get_or-set_same, get_or-set_other, length-set}
use Rattle.std.proofs.lemmas.Bool.{cases_eq, eqb-false}
use Rattle.std.proofs.lemmas.List.{get_or_past, length-replicate}
use Rattle.std.proofs.lemmas.List.FromFn.{length-range_with_len}
use Rattle.std.proofs.lemmas.List.Sums.{sum_by-cons, sum_by-set}
use Rattle.std.specs.List.{range_with_len}
use Rattle.epochs.proofs.Turns.{no_mark}

-- 1 where the test holds
abbrev pub one_if : Bool → ℕ
one_if b = cond b 1 0

-- how often a number stands in a list
abbrev pub times : ℕ → List ℕ → ℕ
times k free = count_by (λ q. q == k) free

-- how many slots are used
abbrev pub used : List Bool → ℕ
used flags = count_by (λ b. b) flags

pub record IsRest (flags : List Bool) (free : List ℕ) : Type 0 where
  -- a slot is used or free, once; what is no slot is neither
  pub each : (k : ℕ) → times k free + one_if (get_or flags k false) ≡ one_if (nat_lt k (length flags))
  pub sum : used flags + length free ≡ length flags

-- how often a number stands in a list with one more in front
times_cons : (k slot : ℕ) (free : List ℕ) → times k (slot ∷ free) ≡ one_if (slot == k) + times k free
times_cons k slot free = sum_by-cons (λ q. cond (q == k) 1 0) slot free

-- how many are used after one flag is written
used_set : (flags : List Bool) (slot : ℕ) (b : Bool) → slot < length flags → used (set flags slot b) + one_if (get_or flags slot false) ≡ used flags + one_if b
used_set flags slot b h = sum_by-set (λ x. cond x 1 0) flags slot b false h

-- the first free slot is unused
pub first_free : (flags : List Bool) (slot : ℕ) (free : List ℕ) → IsRest flags (slot ∷ free) → (slot < length flags) × (get_or flags slot false ≡ false)
first_free flags slot free h = grind (arith, times_cons slot slot free, h.each slot, ltb-true, ltb-false, eq-eqb slot slot refl)

-- what is used is a slot
pub used_within : (flags : List Bool) (slot : ℕ) → get_or flags slot false ≡ true → slot < length flags
used_within flags slot h = grind (arith, get_or_past flags slot false)

-- the flag that was written
flag_set : (flags : List Bool) (slot k : ℕ) (b : Bool) → slot < length flags → k ≡ slot → get_or (set flags slot b) k false ≡ b
flag_set flags slot k b h e = rw e (get_or-set_same flags slot b false h)

-- the slot that was taken is used now, and free no more
taken_here : (flags : List Bool) (slot : ℕ) (free : List ℕ) (k : ℕ) → k ≡ slot →
    times k (slot ∷ free) + one_if (get_or flags k false) ≡ one_if (nat_lt k (length flags)) → slot < length flags → get_or flags slot false ≡ false →
    times k free + one_if (get_or (set flags slot true) k false) ≡ one_if (nat_lt k (length (set flags slot true)))
taken_here flags slot free k e h within unused =
    grind (arith, times_cons k slot free, flag_set flags slot k true within e, length-set flags slot true, eq-eqb slot k (sym e), lt-ltb)

-- any other slot is as it was
taken_elsewhere : (flags : List Bool) (slot : ℕ) (free : List ℕ) (k : ℕ) → (k ≡ slot → ⊥) →
    times k (slot ∷ free) + one_if (get_or flags k false) ≡ one_if (nat_lt k (length flags)) →
    times k free + one_if (get_or (set flags slot true) k false) ≡ one_if (nat_lt k (length (set flags slot true)))
taken_elsewhere flags slot free k other h =
    grind (arith, times_cons k slot free, get_or-set_other flags slot k true false other, length-set flags slot true, ne_eqb slot k (λ e. other (sym e)))

-- the slot that was freed is free now, and used no more
freed_here : (flags : List Bool) (slot : ℕ) (free : List ℕ) (k : ℕ) → k ≡ slot →
    times k free + one_if (get_or flags k false) ≡ one_if (nat_lt k (length flags)) → slot < length flags → get_or flags slot false ≡ true →
    times k (slot ∷ free) + one_if (get_or (set flags slot false) k false) ≡ one_if (nat_lt k (length (set flags slot false)))
freed_here flags slot free k e h within is_used =
    grind (arith, times_cons k slot free, flag_set flags slot k false within e, length-set flags slot false, eq-eqb slot k (sym e), lt-ltb)

-- any other slot is as it was
freed_elsewhere : (flags : List Bool) (slot : ℕ) (free : List ℕ) (k : ℕ) → (k ≡ slot → ⊥) →
    times k free + one_if (get_or flags k false) ≡ one_if (nat_lt k (length flags)) →
    times k (slot ∷ free) + one_if (get_or (set flags slot false) k false) ≡ one_if (nat_lt k (length (set flags slot false)))
freed_elsewhere flags slot free k other h =
    grind (arith, times_cons k slot free, get_or-set_other flags slot k false false other, length-set flags slot false, ne_eqb slot k (λ e. other (sym e)))

-- each slot, after the first free one was taken
take_each : (flags : List Bool) (slot : ℕ) (free : List ℕ) → IsRest flags (slot ∷ free) → slot < length flags → get_or flags slot false ≡ false → (k : ℕ) →
    (k ≡ slot) ⊎ (k ≡ slot → ⊥) → times k free + one_if (get_or (set flags slot true) k false) ≡ one_if (nat_lt k (length (set flags slot true)))
take_each flags slot free h within unused k (inl e) = taken_here flags slot free k e (h.each k) within unused
take_each flags slot free h within unused k (inr other) = taken_elsewhere flags slot free k other (h.each k)

-- the sum, after the first free one was taken
take_sum : (flags : List Bool) (slot : ℕ) (free : List ℕ) → IsRest flags (slot ∷ free) → slot < length flags → get_or flags slot false ≡ false →
    used (set flags slot true) + length free ≡ length (set flags slot true)
take_sum flags slot free h within unused = grind (arith, h.sum, used_set flags slot true within, length-set flags slot true)

-- the first free slot is used
pub take_one : (flags : List Bool) (slot : ℕ) (free : List ℕ) → IsRest flags (slot ∷ free) → IsRest (set flags slot true) free
take_one flags slot free h =
    let (within, unused) = first_free flags slot free h in
    record {
      each = λ k. take_each flags slot free h within unused k (cases_eq k slot);
      sum = take_sum flags slot free h within unused;
    }

-- each slot, after a used one was freed
free_each : (flags : List Bool) (slot : ℕ) (free : List ℕ) → IsRest flags free → slot < length flags → get_or flags slot false ≡ true → (k : ℕ) →
    (k ≡ slot) ⊎ (k ≡ slot → ⊥) → times k (slot ∷ free) + one_if (get_or (set flags slot false) k false) ≡ one_if (nat_lt k (length (set flags slot false)))
free_each flags slot free h within is_used k (inl e) = freed_here flags slot free k e (h.each k) within is_used
free_each flags slot free h within is_used k (inr other) = freed_elsewhere flags slot free k other (h.each k)

-- the sum, after a used one was freed
free_sum : (flags : List Bool) (slot : ℕ) (free : List ℕ) → IsRest flags free → slot < length flags → get_or flags slot false ≡ true →
    used (set flags slot false) + length (slot ∷ free) ≡ length (set flags slot false)
free_sum flags slot free h within is_used = grind (arith, h.sum, used_set flags slot false within, length-set flags slot false)

-- a used slot becomes the first free one
pub free_one : (flags : List Bool) (slot : ℕ) (free : List ℕ) → IsRest flags free → get_or flags slot false ≡ true → IsRest (set flags slot false) (slot ∷ free)
free_one flags slot free h is_used =
    let within = used_within flags slot is_used in
    record {
      each = λ k. free_each flags slot free h within is_used k (cases_eq k slot);
      sum = free_sum flags slot free h within is_used;
    }

-- no number lies in the empty range
no_range : (a k : ℕ) → 0 ≡ one_if (nat_le a k && nat_lt k (a + 0))
no_range a k = grind (arith, leb-true, leb-false, ltb-true, ltb-false)

-- a range with one more number in front
more_range : (a n k : ℕ) → times k (range_with_len (a + 1) n) ≡ one_if (nat_le (a + 1) k && nat_lt k (a + 1 + n)) →
    times k (a ∷ range_with_len (a + 1) n) ≡ one_if (nat_le a k && nat_lt k (a + suc n))
more_range a n k h = grind (arith, h, times_cons k a (range_with_len (a + 1) n), leb-true, leb-false, ltb-true, ltb-false, eqb-true a k, eqb-false a k)

-- a range has each of its numbers once
within_range : (a n k : ℕ) → times k (range_with_len a n) ≡ one_if (nat_le a k && nat_lt k (a + n))
within_range a zero k = no_range a k
within_range a (suc n) k = more_range a n k (within_range (a + 1) n k)

-- each slot at first
first_each : (n k : ℕ) → times k (range_with_len 0 n) + one_if (get_or (replicate n false) k false) ≡ one_if (nat_lt k (length (replicate n false)))
first_each n k = grind (arith, within_range 0 n k, no_mark n k, length-replicate n false)

-- at first none is counted as used
none_used : (n : ℕ) → used (replicate n false) ≡ 0
none_used zero = refl
none_used (suc n) = omega (arith, sum_by-cons (λ x. cond x 1 0) false (replicate n false), none_used n)

-- the sum at first
first_sum : (n : ℕ) → used (replicate n false) + length (range_with_len 0 n) ≡ length (replicate n false)
first_sum n = grind (arith, none_used n, length-range_with_len 0 n, length-replicate n false)

-- at first all slots are free
pub all_free : (n : ℕ) → IsRest (replicate n false) (range_with_len 0 n)
all_free n = record { each = λ k. first_each n k; sum = first_sum n }
