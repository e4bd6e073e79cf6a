-- The references to slots in use.
use Rattle.std.proofs.Common.{◌≡◌, ℕ, zero, suc, ◌+◌, ◌<◌, ◌≤◌, ◌==◌, Bool, true, false, List, [], ◌∷◌, get_or, Option, Some, None, refl, sym, ap, ◌∙◌, inl, inr, arith, eq-eqb}
use Rattle.std.proofs.lemmas.Bool.{cases_eq, ne_eqb}
use Rattle.slot_arena.specs.declared.refs.Ref.{Ref}
use Rattle.slot_arena.specs.declared.nodes.Slot.{Slot}
use Rattle.slot_arena.specs.Refs.{ref_to, slot_of, birth_of}
use Rattle.slot_arena.specs.Heaps.{Heap, named_from, in_use}
use Rattle.slot_arena.specs.Times.{times}
use Rattle.slot_arena.specs.Arenas.{IsLive, has_birth}
use Rattle.slot_arena.specs.Kept.{live}
use Rattle.slot_arena.proofs.Times.{bit, once, once_same, once_other, times-cons}
use Rattle.slot_arena.proofs.Live.{slot_of_ref, birth_of_ref, same_ref}
use Rattle.slot_arena.proofs.Reading.{live_seen, live_shown}

once_named : (n birth : ℕ) (r : Ref) → slot_of r ≡ n → once r (ref_to birth n) ≡ bit (birth == birth_of r)
once_named n birth r same = elim (cases_eq birth (birth_of r)) [
  | inl at ↦
      let is : r ≡ ref_to birth n = same_ref r (ref_to birth n) (same ∙ sym (slot_of_ref birth n)) (sym at ∙ sym (birth_of_ref birth n)) in
      ap (once r) (sym is) ∙ once_same r ∙ sym (ap bit (eq-eqb birth (birth_of r) at))
  | inr other ↦
      once_other r (ref_to birth n) (λ is. other (sym (ap birth_of is ∙ birth_of_ref birth n))) ∙ sym (ap bit (ne_eqb birth (birth_of r) other))
]

-- how often a reference stands among those from the slot n on
abbrev Named : ℕ → List (Option Slot) → Ref → Type 0
Named n slots r =
    (slot_of r < n → times r (named_from n slots) ≡ 0) × ((d : ℕ) → slot_of r ≡ n + d → times r (named_from n slots) ≡ bit (has_birth (birth_of r) (get_or slots d None)))

named_none : (n : ℕ) (slots : List (Option Slot)) (r : Ref) → Named (n + 1) slots r → Named n (None ∷ slots) r
named_none n slots r rest = (λ before. rest.0 (omega arith), at)
  where
    at : (d : ℕ) → slot_of r ≡ n + d → times r (named_from (n + 1) slots) ≡ bit (has_birth (birth_of r) (get_or (None ∷ slots) d None))
    at zero h = rest.0 (omega arith)
    at (suc d) h = rest.1 d (omega arith)

named_some : (n : ℕ) (slot : Slot) (slots : List (Option Slot)) (r : Ref) → Named (n + 1) slots r → Named n (Some slot ∷ slots) r
named_some n slot slots r rest = (before, at)
  where
    elsewhere : (slot_of r ≡ n → ⊥) → once r (ref_to slot.birth n) ≡ 0
    elsewhere other = once_other r (ref_to slot.birth n) (λ is. other (ap slot_of is ∙ slot_of_ref slot.birth n))

    before : slot_of r < n → times r (ref_to slot.birth n ∷ named_from (n + 1) slots) ≡ 0
    before h = omega (arith, times-cons r (ref_to slot.birth n) (named_from (n + 1) slots), elsewhere (λ e. omega arith), rest.0 (omega arith))

    at : (d : ℕ) → slot_of r ≡ n + d → times r (ref_to slot.birth n ∷ named_from (n + 1) slots) ≡ bit (has_birth (birth_of r) (get_or (Some slot ∷ slots) d None))
    at zero h = let same : slot_of r ≡ n = omega arith in omega (arith, times-cons r (ref_to slot.birth n) (named_from (n + 1) slots), rest.0 (omega arith), once_named n slot.birth r same)
    at (suc d) h = omega (arith, times-cons r (ref_to slot.birth n) (named_from (n + 1) slots), elsewhere (λ e. omega arith), rest.1 d (omega arith))

named : (n : ℕ) (slots : List (Option Slot)) (r : Ref) → Named n slots r
named n [] r = ((λ before. refl), (λ d at. refl))
named n (None ∷ slots) r = named_none n slots r (named (n + 1) slots r)
named n (Some slot ∷ slots) r = named_some n slot slots r (named (n + 1) slots r)

-- a reference stands there once where it is live, and else not
pub times-in_use : (heap : Heap) (r : Ref) → times r (in_use heap) ≡ bit (live heap.slots r)
times-in_use heap r = (named 0 heap.slots r).1 (slot_of r) (omega arith)

pub bit_small : (b : Bool) → bit b ≤ 1
bit_small true = omega arith
bit_small false = omega arith

pub in_use_once : (heap : Heap) (r : Ref) → times r (in_use heap) ≤ 1
in_use_once heap r = omega (arith, times-in_use heap r, bit_small (live heap.slots r))

pub in_use_live : (heap : Heap) (r : Ref) → 0 < times r (in_use heap) → IsLive heap r
in_use_live heap r some = live_shown heap r (by_test (live heap.slots r) refl)
  where
    by_test : (b : Bool) → live heap.slots r ≡ b → b ≡ true
    by_test true e = refl
    by_test false e = absurd (omega (arith, times-in_use heap r, ap bit e))

pub live_in_use : (heap : Heap) (r : Ref) → IsLive heap r → 0 < times r (in_use heap)
live_in_use heap r has = omega (arith, times-in_use heap r, ap bit (live_seen heap r has))
