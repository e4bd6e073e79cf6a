-- What stays so when one slot is written, whatever is written.
use Rattle.std.proofs.Common.{◌≡◌, ℕ, ◌+◌, ◌<◌, true, cond, List, length, get_or, set, Option, Some, None, is_some, count_by, sym, ap, ◌∙◌, subst, inl, inr}
use Rattle.std.proofs.lemmas.Bool.{cases_eq, false≢true}
use Rattle.std.proofs.lemmas.List.{get_or-set_same, get_or-set_other}
use Rattle.std.proofs.lemmas.List.Sums.{sum_by-set}
use Rattle.slot_arena.specs.declared.refs.Ref.{Ref}
use Rattle.slot_arena.specs.declared.nodes.Slot.{Slot}
use Rattle.slot_arena.specs.Refs.{birth_of}
use Rattle.slot_arena.specs.Arenas.{has_birth}
use Rattle.slot_arena.specs.Kept.{live}
use Rattle.slot_arena.proofs.Waiting.{born}
use Rattle.slot_arena.proofs.Changed.{live_there}

abbrev used_one : Option Slot → ℕ
used_one o = cond (is_some o) 1 0

-- how many slots are in use after one is written
pub used_set : (slots : List (Option Slot)) (k : ℕ) (o : Option Slot) → k < length slots →
    count_by is_some (set slots k o) + used_one (get_or slots k None) ≡ count_by is_some slots + used_one o
used_set slots k o within = sum_by-set used_one slots k o None within

-- what holds of what was written, and held of the others
pub each_set : (P : ℕ → Option Slot → Type 0) (slots : List (Option Slot)) (k : ℕ) (o : Option Slot) → k < length slots → P k o →
    ((slot : ℕ) → (slot ≡ k → ⊥) → P slot (get_or slots slot None)) → (slot : ℕ) → P slot (get_or (set slots k o) slot None)
each_set P slots k o within here there slot = elim (cases_eq slot k) [
  | inl same ↦ subst (λ i. P i (get_or (set slots k o) i None)) (sym same) (subst (P k) (sym (get_or-set_same slots k o None within)) here)
  | inr other ↦ subst (P slot) (sym (get_or-set_other slots k slot o None other)) (there slot other)
]

-- nothing in use isn't something in use
pub not_used : (slot : Slot) → Some slot ≡ None → ⊥
not_used slot e = cc

-- other slots keep their birth
pub born_set : (slots : List (Option Slot)) (k slot : ℕ) (o : Option Slot) → (slot ≡ k → ⊥) → born (get_or slots slot None) ≡ born (get_or (set slots k o) slot None)
born_set slots k slot o other = ap born (sym (get_or-set_other slots k slot o None other))

-- what is in use stays so when a slot comes into use
pub live_stays : (slots : List (Option Slot)) (k : ℕ) (o : Option Slot) (q : Ref) → live slots q ≡ true → get_or slots k None ≡ None → live (set slots k o) q ≡ true
live_stays slots k o q has none =
    live_there slots k o q (λ same. false≢true (sym (ap (λ i. has_birth (birth_of q) (get_or slots i None)) same ∙ ap (has_birth (birth_of q)) none) ∙ has)) ∙ has
