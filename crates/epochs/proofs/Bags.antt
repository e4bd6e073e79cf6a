-- The ring of bags, as one list of numbers.
use Rattle.std.proofs.Common.{◌≡◌, ℕ, suc, ◌+◌, ◌<◌, ◌≤◌, ◌==◌, not, Bool, true, false, cond, List, [], ◌∷◌, ◌++◌, length, map, set, get_or, count_by, refl, sym, ap, ◌∙◌, subst, ◌⊎◌, inl, inr, arith}
use Rattle.std.proofs.lemmas.Bool.{cases_eq, cases_lt}
use Rattle.std.proofs.lemmas.List.{get_or-set_same, get_or-set_other, map-append, map_push, append_assoc, get_or_past}
use Rattle.std.proofs.lemmas.List.Sums.{sum_by-set}
use Rattle.slot_arena.specs.Refs.{slot_of}
use Rattle.slot_arena.specs.declared.refs.Ref.{Ref}
use Rattle.slot_arena.specs.Times.{times, other_slots}
use Rattle.slot_arena.specs.Tallies.{naming, AreMarks}
use Rattle.slot_arena.proofs.Times.{bit, once, once_same, once_other, times-cons, times-append}
use Rattle.slot_arena.proofs.Namings.{naming-cons}
use Rattle.epochs.specs.Rings.{around, IsRing}
use Rattle.epochs.proofs.InUse.{bit_small}
use Rattle.epochs.proofs.Joins.{AreOnce, once_apart, others, others_same, others_other}
use Rattle.slot_arena.proofs.Marks.{noted_marked}

-- references name a slot as often as it stands among their slots
pub naming_map : (k : ℕ) (rs : List Ref) → naming k rs ≡ times k (map slot_of rs)
naming_map k [] = refl
naming_map k (r ∷ rs) = omega (arith, naming-cons k r rs, times-cons k (slot_of r) (map slot_of rs), naming_map k rs)

-- members of the ring are the members of the bags, and two beginnings
pub times-around : (i : ℕ) (a : List Ref) (s : ℕ) (b : List Ref) (t : ℕ) (c : List Ref) → times i (around a s b t c) ≡ times i (map slot_of (a ++ b ++ c)) + once i s + once i t
times-around i a s b t c =
    omega (
      arith,
      times-append i (map slot_of a ++ s ∷ map slot_of b) (t ∷ map slot_of c),
      times-append i (map slot_of a) (s ∷ map slot_of b),
      times-cons i s (map slot_of b),
      times-cons i t (map slot_of c),
      ap (times i) (map-append slot_of (a ++ b) c),
      times-append i (map slot_of (a ++ b)) (map slot_of c),
      ap (times i) (map-append slot_of a b),
      times-append i (map slot_of a) (map slot_of b),
    )

pub others-append : (x : ℕ) (ns ms : List ℕ) → others x (ns ++ ms) ≡ others x ns ++ others x ms
others-append x [] ms = refl
others-append x (n ∷ ns) ms = elim (cases_eq n x) [
  | inl same ↦ others_same x n (ns ++ ms) same ∙ others-append x ns ms ∙ ap (λ l. l ++ others x ms) (sym (others_same x n ns same))
  | inr other ↦ others_other x n (ns ++ ms) other ∙ ap (λ l. n ∷ l) (others-append x ns ms) ∙ ap (λ l. l ++ others x ms) (sym (others_other x n ns other))
]

map_step : (x : ℕ) (r : Ref) (rs : List Ref) (b : Bool) → others x (map slot_of rs) ≡ map slot_of (other_slots x rs) →
    cond (not b) (slot_of r ∷ others x (map slot_of rs)) (others x (map slot_of rs)) ≡ map slot_of (cond (not b) (r ∷ other_slots x rs) (other_slots x rs))
map_step x r rs true rest = rest
map_step x r rs false rest = ap (λ l. slot_of r ∷ l) rest

pub others_map : (x : ℕ) (rs : List Ref) → others x (map slot_of rs) ≡ map slot_of (other_slots x rs)
others_map x [] = refl
others_map x (r ∷ rs) = map_step x r rs (slot_of r == x) (others_map x rs)

filter_step : (x : ℕ) (r : Ref) (rs qs : List Ref) (b : Bool) → other_slots x (rs ++ qs) ≡ other_slots x rs ++ other_slots x qs →
    cond (not b) (r ∷ other_slots x (rs ++ qs)) (other_slots x (rs ++ qs)) ≡ cond (not b) (r ∷ other_slots x rs) (other_slots x rs) ++ other_slots x qs
filter_step x r rs qs true rest = rest
filter_step x r rs qs false rest = ap (λ l. r ∷ l) rest

pub other_slots-append : (x : ℕ) (rs qs : List Ref) → other_slots x (rs ++ qs) ≡ other_slots x rs ++ other_slots x qs
other_slots-append x [] qs = refl
other_slots-append x (r ∷ rs) qs = filter_step x r rs qs (slot_of r == x) (other_slots-append x rs qs)

pub other_slots-all : (x : ℕ) (a b c : List Ref) → other_slots x (a ++ b ++ c) ≡ other_slots x a ++ other_slots x b ++ other_slots x c
other_slots-all x a b c = other_slots-append x (a ++ b) c ∙ ap (λ l. l ++ other_slots x c) (other_slots-append x a b)

-- a slot taken out of its bag is taken out of the ring
pub others_around : (x : ℕ) (a : List Ref) (s : ℕ) (b : List Ref) (t : ℕ) (c : List Ref) → (s ≡ x → ⊥) → (t ≡ x → ⊥) →
    others x (around a s b t c) ≡ around (other_slots x a) s (other_slots x b) t (other_slots x c)
others_around x a s b t c first second =
    others-append x (map slot_of a ++ s ∷ map slot_of b) (t ∷ map slot_of c)
    ∙ ap (λ l. l ++ others x (t ∷ map slot_of c)) (others-append x (map slot_of a) (s ∷ map slot_of b) ∙ ap (λ l. l ++ others x (s ∷ map slot_of b)) (others_map x a)
    ∙ ap (λ l. map slot_of (other_slots x a) ++ l) (others_other x s (map slot_of b) first ∙ ap (λ l. s ∷ l) (others_map x b)))
    ∙ ap (λ l. (map slot_of (other_slots x a) ++ s ∷ map slot_of (other_slots x b)) ++ l) (others_other x t (map slot_of c) second ∙ ap (λ l. t ∷ l) (others_map x c))

-- a reference behind the last one
pub around_push : (a : List Ref) (s : ℕ) (b : List Ref) (t : ℕ) (c : List Ref) (r : Ref) → around a s b t c ++ slot_of r ∷ [] ≡ around a s b t (c ++ r ∷ [])
around_push a s b t c r =
    append_assoc (map slot_of a ++ s ∷ map slot_of b) (t ∷ map slot_of c) (slot_of r ∷ []) ∙ ap (λ l. (map slot_of a ++ s ∷ map slot_of b) ++ t ∷ l) (sym (map_push slot_of c r))

pub all_push : (a b c : List Ref) (r : Ref) → map slot_of (a ++ b ++ c) ++ slot_of r ∷ [] ≡ map slot_of (a ++ b ++ (c ++ r ∷ []))
all_push a b c r = sym (map_push slot_of (a ++ b ++ c) r) ∙ ap (map slot_of) (append_assoc (a ++ b) c (r ∷ []))

-- marks without one
times-others : (k x : ℕ) (ns : List ℕ) → (k ≡ x → ⊥) → times k (others x ns) ≡ times k ns
times-others k x [] apart = refl
times-others k x (n ∷ ns) apart = elim (cases_eq n x) [
  | inl same ↦ let e = ap (times k) (others_same x n ns same) in omega (arith, times-cons k n ns, times-others k x ns apart, once_other k n (λ at. apart (at ∙ same)))
  | inr other ↦ let e = ap (times k) (others_other x n ns other) in omega (arith, times-cons k n ns, times-cons k n (others x ns), times-others k x ns apart)
]

times-none : (x : ℕ) (ns : List ℕ) → times x (others x ns) ≡ 0
times-none x [] = refl
times-none x (n ∷ ns) = elim (cases_eq n x) [
  | inl same ↦ ap (times x) (others_same x n ns same) ∙ times-none x ns
  | inr other ↦ let e = ap (times x) (others_other x n ns other) in omega (arith, times-cons x n (others x ns), times-none x ns, once_other x n (λ at. other (sym at)))
]

length-others : (x : ℕ) (ns : List ℕ) → length (others x ns) + times x ns ≡ length ns
length-others x [] = refl
length-others x (n ∷ ns) = elim (cases_eq n x) [
  | inl same ↦ let e = ap length (others_same x n ns same) in omega (arith, times-cons x n ns, length-others x ns, ap (once x) same, once_same x)
  | inr other ↦ let e = ap length (others_other x n ns other) in omega (arith, times-cons x n ns, length-others x ns, once_other x n (λ at. other (sym at)))
]

pub marks_within : (ns : List ℕ) (marks : List Bool) (k : ℕ) → AreMarks ns marks → 0 < times k ns → k < length marks
marks_within ns marks k are some = elim (cases_lt k (length marks)) [
  | inl within ↦ within
  | inr past ↦ let none = ap bit (get_or_past marks k false past) in absurd (omega (arith, are.0 k))
]

pub marks_left : (ns : List ℕ) (marks : List Bool) (k : ℕ) → AreMarks ns marks → 0 < times k ns → AreMarks (others k ns) (set marks k false)
marks_left ns marks k are some = (each, all)
  where
    within : k < length marks
    within = marks_within ns marks k are some

    was : bit (get_or marks k false) ≡ 1
    was = ap bit (noted_marked ns marks k are some)

    each : (slot : ℕ) → times slot (others k ns) ≡ cond (get_or (set marks k false) slot false) 1 0
    each slot = elim (cases_eq slot k) [
      | inl same ↦ let there = ap bit (get_or-set_same marks k false false within) in
          subst (λ s. times s (others k ns) ≡ cond (get_or (set marks k false) s false) 1 0) (sym same) (omega (arith, times-none k ns))
      | inr other ↦ let same = ap bit (get_or-set_other marks k slot false false other) in omega (arith, are.0 slot, times-others slot k ns other)
    ]

    all : length (others k ns) ≡ count_by (λ mark. mark) (set marks k false)
    all = omega (arith, length-others k ns, are.0 k, are.1, sum_by-set (λ mark. cond mark 1 0) marks k false false within)

module _ (next back : List ℕ) (marks : List Bool) (size first second third len : ℕ) (a b c : List Ref) (ring : IsRing next back marks size first second third len a b c) where
  -- members are slots, each once
  pub member_below : (k : ℕ) → 0 < times k (map slot_of (a ++ b ++ c)) → k < size
  member_below k some = let is = ring.marks_size in omega (arith, marks_within (map slot_of (a ++ b ++ c)) marks k ring.marked some)

  pub member_once : (k : ℕ) → times k (map slot_of (a ++ b ++ c)) ≤ 1
  member_once k = omega (arith, ring.marked.0 k, bit_small (get_or marks k false))

  not_member : (k : ℕ) → size ≤ k → times k (map slot_of (a ++ b ++ c)) ≡ 0
  not_member k behind = elim (cases_lt 0 (times k (map slot_of (a ++ b ++ c)))) [ inl some ↦ let below = member_below k some in absurd (omega arith) | inr none ↦ omega arith ]

  -- so the numbers round the ring are different
  pub ring_once : AreOnce (first ∷ around a second b third c)
  ring_once i = elim (cases_lt i size) [
    | inl below ↦
        let p = ring.first_behind in let q = ring.second_behind in let r = ring.third_behind in
        omega (
          arith,
          times-cons i first (around a second b third c),
          times-around i a second b third c,
          member_once i,
          once_other i first (λ same. omega arith),
          once_other i second (λ same. omega arith),
          once_other i third (λ same. omega arith),
        )
    | inr behind ↦ by_first (cases_eq i first) behind
  ]
    where
      sum : (x y z : ℕ) → times i (map slot_of (a ++ b ++ c)) ≡ 0 → once i first ≡ x → once i second ≡ y → once i third ≡ z → x + y + z ≤ 1 → times i (first ∷ around a second b third c) ≤ 1
      sum x y z none e f g total = omega (arith, times-cons i first (around a second b third c), times-around i a second b third c)

      bit_of : (j : ℕ) → i ≡ j → once i j ≡ 1
      bit_of j same = ap (once i) (sym same) ∙ once_same i

      by_third : (i ≡ third) ⊎ (i ≡ third → ⊥) → size ≤ i → (i ≡ first → ⊥) → (i ≡ second → ⊥) → times i (first ∷ around a second b third c) ≤ 1
      by_third (inl same) behind f s = sum 0 0 1 (not_member i behind) (once_other i first f) (once_other i second s) (bit_of third same) (omega arith)
      by_third (inr other) behind f s = sum 0 0 0 (not_member i behind) (once_other i first f) (once_other i second s) (once_other i third other) (omega arith)

      by_second : (i ≡ second) ⊎ (i ≡ second → ⊥) → size ≤ i → (i ≡ first → ⊥) → times i (first ∷ around a second b third c) ≤ 1
      by_second (inl same) behind f = sum 0 1 0 (not_member i behind) (once_other i first f) (bit_of second same) (once_other i third (λ e. ring.second_third (sym same ∙ e))) (omega arith)
      by_second (inr other) behind f = by_third (cases_eq i third) behind f other

      by_first : (i ≡ first) ⊎ (i ≡ first → ⊥) → size ≤ i → times i (first ∷ around a second b third c) ≤ 1
      by_first (inl same) behind = sum 1 0 0 (not_member i behind) (bit_of first same) (once_other i second (λ e. ring.first_second (sym same ∙ e)))
          (once_other i third (λ e. ring.third_first (sym e ∙ same))) (omega arith)
      by_first (inr other) behind = by_second (cases_eq i second) behind other

  pub first_outside : times first (around a second b third c) ≡ 0
  first_outside = once_apart first (around a second b third c) ring_once

  -- what stands in the ring has links
  pub member_linked : (i : ℕ) → 0 < times i (first ∷ around a second b third c) → i < size + 3
  member_linked i some = elim (cases_lt i size) [
    | inl below ↦ omega arith
    | inr behind ↦ by_first (cases_eq i first) behind
  ]
    where
      by_third : (i ≡ third) ⊎ (i ≡ third → ⊥) → size ≤ i → (i ≡ first → ⊥) → (i ≡ second → ⊥) → i < size + 3
      by_third (inl same) behind f s = let is = ring.third_behind in omega arith
      by_third (inr other) behind f s =
          absurd (omega (
            arith,
            times-cons i first (around a second b third c),
            times-around i a second b third c,
            not_member i behind,
            once_other i first f,
            once_other i second s,
            once_other i third other,
          ))

      by_second : (i ≡ second) ⊎ (i ≡ second → ⊥) → size ≤ i → (i ≡ first → ⊥) → i < size + 3
      by_second (inl same) behind f = let is = ring.second_behind in omega arith
      by_second (inr other) behind f = by_third (cases_eq i third) behind f other

      by_first : (i ≡ first) ⊎ (i ≡ first → ⊥) → size ≤ i → i < size + 3
      by_first (inl same) behind = let is = ring.first_behind in omega arith
      by_first (inr other) behind = by_second (cases_eq i second) behind other

  -- slots of the bags stand in the ring
  pub slot_around : (k : ℕ) → 0 < times k (map slot_of (a ++ b ++ c)) → 0 < times k (around a second b third c)
  slot_around k some = omega (arith, times-around k a second b third c)

length_step : (k : ℕ) (r : Ref) (rs : List Ref) (b : Bool) → (slot_of r == k) ≡ b → length (other_slots k rs) + naming k rs ≡ length rs →
    length (cond (not b) (r ∷ other_slots k rs) (other_slots k rs)) + naming k (r ∷ rs) ≡ suc (length rs)
length_step k r rs true e rest = let one : once k (slot_of r) ≡ 1 = ap bit e in omega (arith, naming-cons k r rs)
length_step k r rs false e rest = let one : once k (slot_of r) ≡ 0 = ap bit e in omega (arith, naming-cons k r rs)

pub length-other_slots : (k : ℕ) (rs : List Ref) → length (other_slots k rs) + naming k rs ≡ length rs
length-other_slots k [] = refl
length-other_slots k (r ∷ rs) = length_step k r rs (slot_of r == k) refl (length-other_slots k rs)

none_step : (k : ℕ) (r : Ref) (rs : List Ref) (b : Bool) → (slot_of r == k) ≡ b → naming k (r ∷ rs) ≡ 0 → (naming k rs ≡ 0 → other_slots k rs ≡ rs) →
    cond (not b) (r ∷ other_slots k rs) (other_slots k rs) ≡ r ∷ rs
none_step k r rs true e none rest = let one : once k (slot_of r) ≡ 1 = ap bit e in absurd (omega (arith, naming-cons k r rs))
none_step k r rs false e none rest = ap (λ l. r ∷ l) (rest (omega (arith, naming-cons k r rs)))

pub other_slots-none : (k : ℕ) (rs : List Ref) → naming k rs ≡ 0 → other_slots k rs ≡ rs
other_slots-none k [] none = refl
other_slots-none k (r ∷ rs) none = none_step k r rs (slot_of r == k) refl none (other_slots-none k rs)
