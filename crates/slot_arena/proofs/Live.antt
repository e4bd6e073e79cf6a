-- References that name slots in use.
use Rattle.std.proofs.Common.{◌≡◌, ℕ, ◌/◌, ◌%◌, ◌<◌, ◌==◌, true, false, List, [], ◌∷◌, length, get_or, All, Option, Some, None, refl, sym, ap, ◌∙◌, subst, inl, inr, arith, eq-eqb, eqb-true}
use Rattle.std.proofs.lemmas.Bool.{cases_eq, cases_lt, false≢true}
use Rattle.std.proofs.lemmas.List.{get_or_past}
use Rattle.std.proofs.lemmas.List.Elements.{All-nil, All-cons, All-head, All-tail}
use Rattle.slot_arena.specs.declared.refs.Ref.{Ref}
use Rattle.slot_arena.specs.declared.nodes.Slot.{Slot}
use Rattle.slot_arena.specs.Pairing.{pair_number, pair_of}
use Rattle.slot_arena.specs.Refs.{ref_to, slot_of, birth_of, most_slots, birth_limit, word_limit}
use Rattle.slot_arena.specs.Times.{times}
use Rattle.slot_arena.specs.Tallies.{naming}
use Rattle.slot_arena.specs.Arenas.{has_birth}
use Rattle.slot_arena.specs.Kept.{live}
use Rattle.slot_arena.specs.Cells.{birth_of_slot}
use Rattle.slot_arena.proofs.Pairing.{pair_again, number_again}
use Rattle.slot_arena.proofs.Times.{once, once_same, once_other, times-cons}
use Rattle.slot_arena.proofs.Namings.{naming-cons}

-- the pair of what lies above the word that the reference would be below the limits
above : (birth slot : ℕ) → pair_of (ref_to birth slot / word_limit) ≡ (birth / birth_limit, slot / most_slots)
above birth slot =
    let n : ℕ = pair_number (birth / birth_limit) (slot / most_slots) in
    let is : ref_to birth slot / word_limit ≡ n = omega arith in
    ap pair_of is ∙ pair_again (birth / birth_limit) (slot / most_slots)

pub slot_of_ref : (birth slot : ℕ) → slot_of (ref_to birth slot) ≡ slot
slot_of_ref birth slot =
    let high : (pair_of (ref_to birth slot / word_limit)).1 ≡ slot / most_slots = ap (λ p. p.1) (above birth slot) in
    let low : ref_to birth slot % most_slots ≡ slot % most_slots = omega arith in
    omega arith

pub birth_of_ref : (birth slot : ℕ) → birth_of (ref_to birth slot) ≡ birth
birth_of_ref birth slot =
    let high : (pair_of (ref_to birth slot / word_limit)).0 ≡ birth / birth_limit = ap (λ p. p.0) (above birth slot) in
    let low : ref_to birth slot % word_limit / most_slots ≡ birth % birth_limit = omega arith in
    omega arith

pub ref_again : (r : Ref) → ref_to (birth_of r) (slot_of r) ≡ r
ref_again r =
    let p : ℕ × ℕ = pair_of (r / word_limit) in
    let birth : birth_of r / birth_limit ≡ p.0 = omega arith in
    let slot : slot_of r / most_slots ≡ p.1 = omega arith in
    let number : pair_number (birth_of r / birth_limit) (slot_of r / most_slots) ≡ r / word_limit =
    ap (λ a. pair_number a (slot_of r / most_slots)) birth ∙ ap (λ b. pair_number p.0 b) slot ∙ number_again (r / word_limit) in
    let low_birth : birth_of r % birth_limit ≡ r % word_limit / most_slots = omega arith in
    let low_slot : slot_of r % most_slots ≡ r % most_slots = omega arith in
    omega arith

pub same_ref : (q r : Ref) → slot_of q ≡ slot_of r → birth_of q ≡ birth_of r → q ≡ r
same_ref q r slot birth = sym (ref_again q) ∙ ap (λ b. ref_to b (slot_of q)) birth ∙ ap (λ s. ref_to (birth_of r) s) slot ∙ ref_again r

pub birth_known : (birth : ℕ) (o : Option Slot) (slot : Slot) → o ≡ Some slot → has_birth birth o ≡ true → slot.birth ≡ birth
birth_known birth o slot is has = let at : (slot.birth == birth) ≡ true = sym (ap (has_birth birth) is) ∙ has in eqb-true slot.birth birth at

-- two references to one slot in use are the same
pub one_live : (slots : List (Option Slot)) (q r : Ref) → live slots q ≡ true → live slots r ≡ true → slot_of q ≡ slot_of r → q ≡ r
one_live slots q r first second same = by_slot (get_or slots (slot_of r) None) refl
  where
    by_slot : (o : Option Slot) → get_or slots (slot_of r) None ≡ o → q ≡ r
    by_slot None none = absurd (false≢true (sym (ap (has_birth (birth_of r)) none) ∙ second))
    by_slot (Some slot) some =
        same_ref q r same (sym (birth_known (birth_of q) (get_or slots (slot_of q) None) slot (ap (λ k. get_or slots k None) same ∙ some) first)
        ∙ birth_known (birth_of r) (get_or slots (slot_of r) None) slot some second)

-- what is in use is a slot
pub live_within : (slots : List (Option Slot)) (r : Ref) → live slots r ≡ true → slot_of r < length slots
live_within slots r has = elim (cases_lt (slot_of r) (length slots)) [
  | inl within ↦ within
  | inr past ↦ absurd (false≢true (sym (ap (has_birth (birth_of r)) (get_or_past slots (slot_of r) None past)) ∙ has))
]

pub all_within : (slots : List (Option Slot)) (n : ℕ) (rs : List Ref) → length slots ≡ n → All (λ r. live slots r ≡ true) rs → All (λ r. slot_of r < n) rs
all_within slots n [] size all = All-nil (λ (r : Ref). slot_of r < n)
all_within slots n (r ∷ rs) size all =
    let here = live_within slots r (All-head (λ (q : Ref). live slots q ≡ true) r rs all) in
    All-cons (λ (q : Ref). slot_of q < n) r rs (omega arith) (all_within slots n rs size (All-tail (λ (q : Ref). live slots q ≡ true) r rs all))

-- a slot in use is named by its reference
pub live_ref : (slots : List (Option Slot)) (k : ℕ) (slot : Slot) → get_or slots k None ≡ Some slot → live slots (ref_to slot.birth k) ≡ true
live_ref slots k slot is =
    ap (λ i. has_birth (birth_of (ref_to slot.birth k)) (get_or slots i None)) (slot_of_ref slot.birth k) ∙ ap (has_birth (birth_of (ref_to slot.birth k))) is
    ∙ eq-eqb slot.birth (birth_of (ref_to slot.birth k)) (sym (birth_of_ref slot.birth k))

-- the same by the birth that is read there
pub live_read : (slots : List (Option Slot)) (k birth : ℕ) → birth ≡ birth_of_slot (get_or slots k None) → (birth ≡ 0 → ⊥) → live slots (ref_to birth k) ≡ true
live_read slots k birth is there = by_slot (get_or slots k None) refl
  where
    by_slot : (o : Option Slot) → get_or slots k None ≡ o → live slots (ref_to birth k) ≡ true
    by_slot None none = absurd (there (is ∙ ap birth_of_slot none))
    by_slot (Some slot) some = ap (λ b. live slots (ref_to b k)) (is ∙ ap birth_of_slot some) ∙ live_ref slots k slot some

-- a slot that isn't in use is named by no live reference
pub unnamed : (slots : List (Option Slot)) (k : ℕ) (rs : List Ref) → get_or slots k None ≡ None → All (λ r. live slots r ≡ true) rs → naming k rs ≡ 0
unnamed slots k [] none all = refl
unnamed slots k (r ∷ rs) none all =
    let here : slot_of r ≡ k → ⊥ = λ same. absurd (false≢true (sym (ap (has_birth (birth_of r)) (ap (λ i. get_or slots i None) same ∙ none)) ∙ All-head (λ (q : Ref). live slots q ≡ true) r rs all)) in
    omega (arith, naming-cons k r rs, once_other k (slot_of r) (λ same. here (sym same)), unnamed slots k rs none (All-tail (λ (q : Ref). live slots q ≡ true) r rs all))

-- a live reference stands among live ones as often as they name its slot
pub live_times : (slots : List (Option Slot)) (r : Ref) (rs : List Ref) → live slots r ≡ true → All (λ q. live slots q ≡ true) rs → times r rs ≡ naming (slot_of r) rs
live_times slots r [] has all = refl
live_times slots r (q ∷ rs) has all = omega (arith, times-cons r q rs, naming-cons (slot_of r) q rs, live_times slots r rs has (All-tail (λ (p : Ref). live slots p ≡ true) q rs all), here)
  where
    here : once r q ≡ once (slot_of r) (slot_of q)
    here = elim (cases_eq r q) [
      | inl same ↦ subst (λ p. once r p ≡ once (slot_of r) (slot_of p)) same (once_same r ∙ sym (once_same (slot_of r)))
      | inr other ↦ once_other r q other ∙ sym (once_other (slot_of r) (slot_of q) (λ same. other (one_live slots r q has (All-head (λ (p : Ref). live slots p ≡ true) q rs all) same)))
    ]

-- another one stands nowhere among them
pub dead_times : (slots : List (Option Slot)) (r : Ref) (rs : List Ref) → live slots r ≡ false → All (λ q. live slots q ≡ true) rs → times r rs ≡ 0
dead_times slots r [] dead all = refl
dead_times slots r (q ∷ rs) dead all =
    let other : r ≡ q → ⊥ = λ same. false≢true (sym dead ∙ ap (live slots) same ∙ All-head (λ (p : Ref). live slots p ≡ true) q rs all) in
    omega (arith, times-cons r q rs, once_other r q other, dead_times slots r rs dead (All-tail (λ (p : Ref). live slots p ≡ true) q rs all))
