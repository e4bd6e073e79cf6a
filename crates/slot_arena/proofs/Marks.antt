-- Marks of what is noted, and counts whose zeros are noted.
use Rattle.std.proofs.Common.{◌≡◌, ℕ, ◌+◌, ◌<◌, ◌==◌, Bool, true, false, cond, List, [], ◌∷◌, ◌++◌, length, get_or, set, slice_index, count_by, refl, sym, ap, ◌∙◌, subst, inl, inr, ◌⊎◌, arith}
use Rattle.std.proofs.lemmas.Bool.{cases_eq, cases_lt, cases_Bool}
use Rattle.std.proofs.lemmas.Bool.Decides.{nat_tests}
use Rattle.std.proofs.lemmas.List.{get_or-set_same, get_or-set_other, get_or_past, length_push, length-set}
use Rattle.std.proofs.lemmas.List.Sums.{sum_by-set, count_by-le-length}
use Rattle.slot_arena.specs.Times.{times}
use Rattle.slot_arena.specs.Tallies.{Tally, NotesZeros, AreMarks}
use Rattle.slot_arena.proofs.Times.{bit, once_same, once_other, times_push}

-- how many marks there are after one is set or taken back
count_set : (marks : List Bool) (k : ℕ) (b : Bool) → k < length marks →
    count_by (λ mark. mark) (set marks k b) + cond (get_or marks k false) 1 0 ≡ count_by (λ mark. mark) marks + cond b 1 0
count_set marks k b within = sum_by-set (λ mark. cond mark 1 0) marks k b false within

-- a slot that isn't marked can be noted
pub marks_noted : (noted : List ℕ) (marks : List Bool) (k : ℕ) → AreMarks noted marks → k < length marks → get_or marks k false ≡ false →
    AreMarks (noted ++ k ∷ []) (set marks k true)
marks_noted noted marks k (each, all) within free = (each', all')
  where
    each' : (slot : ℕ) → times slot (noted ++ k ∷ []) ≡ cond (get_or (set marks k true) slot false) 1 0
    each' slot = elim (cases_eq slot k) [
      | inl same ↦ let there = ap bit (get_or-set_same marks k true false within) in let was = ap bit free in
          subst (λ s. times s (noted ++ k ∷ []) ≡ cond (get_or (set marks k true) s false) 1 0) (sym same) (omega (arith, times_push k k noted, each k, once_same k))
      | inr other ↦ let same = ap bit (get_or-set_other marks k slot true false other) in omega (arith, times_push slot k noted, each slot, once_other slot k other)
    ]

    all' : length (noted ++ k ∷ []) ≡ count_by (λ mark. mark) (set marks k true)
    all' = let was = ap bit free in omega (arith, length_push noted k, count_set marks k true within, all)

-- and there is room for it
pub marks_room : (noted : List ℕ) (marks : List Bool) (k : ℕ) → AreMarks noted marks → k < length marks → get_or marks k false ≡ false → length noted < length marks
marks_room noted marks k (each, all) within free =
    let was = ap bit free in
    omega (arith, count_set marks k true within, all, count_by-le-length (λ mark. mark) (set marks k true), length-set marks k true)

-- what is noted is marked
pub noted_marked : (noted : List ℕ) (marks : List Bool) (k : ℕ) → AreMarks noted marks → 0 < times k noted → get_or marks k false ≡ true
noted_marked noted marks k (each, all) some = elim (cases_Bool (get_or marks k false)) [
  | inl marked ↦ marked
  | inr free ↦ let was = ap bit free in absurd (omega (arith, each k))
]

-- what is noted is a slot
pub noted_within : (rest : List ℕ) (marks : List Bool) (k : ℕ) → AreMarks (rest ++ k ∷ []) marks → k < length marks
noted_within rest marks k are = elim (cases_lt k (length marks)) [
  | inl within ↦ within
  | inr past ↦
      let free = ap bit (get_or_past marks k false past) in absurd (omega (arith, are.0 k, times_push k k rest, once_same k))
]

-- the last one taken out stands nowhere else
pub taken_once : (rest : List ℕ) (marks : List Bool) (k : ℕ) → AreMarks (rest ++ k ∷ []) marks → times k rest ≡ 0
taken_once rest marks k are =
    let marked = ap bit (noted_marked (rest ++ k ∷ []) marks k are (omega (arith, times_push k k rest, once_same k))) in
    omega (arith, are.0 k, times_push k k rest, once_same k)

pub marks_taken : (rest : List ℕ) (marks : List Bool) (k : ℕ) → AreMarks (rest ++ k ∷ []) marks → AreMarks rest (set marks k false)
marks_taken rest marks k are = (each', all')
  where
    within : k < length marks
    within = noted_within rest marks k are

    marked : bit (get_or marks k false) ≡ 1
    marked = ap bit (noted_marked (rest ++ k ∷ []) marks k are (omega (arith, times_push k k rest, once_same k)))

    each' : (slot : ℕ) → times slot rest ≡ cond (get_or (set marks k false) slot false) 1 0
    each' slot = elim (cases_eq slot k) [
      | inl same ↦ let there = ap bit (get_or-set_same marks k false false within) in
          subst (λ s. times s rest ≡ cond (get_or (set marks k false) s false) 1 0) (sym same) (omega (arith, taken_once rest marks k are))
      | inr other ↦ let same = ap bit (get_or-set_other marks k slot false false other) in
          omega (arith, are.0 slot, times_push slot k rest, once_other slot k other)
    ]

    all' : length rest ≡ count_by (λ mark. mark) (set marks k false)
    all' = omega (arith, length_push rest k, count_set marks k false within, are.1, marked)

-- notes are made one after another
pub zeros_trans : (a b c : Tally) → NotesZeros a b → NotesZeros b c → NotesZeros a c
zeros_trans a b c first second slot free =
    let later = second slot free in let sooner = first slot later.0 in (sooner.0, sooner.1 ∙ later.1)

-- a count that is written has its slot noted, or is zero where it was
pub zeros_written : (a : Tally) (k v : ℕ) (counts noted : List ℕ) (ticks : ℕ) → ((slot : ℕ) → times slot noted ≡ 0 → times slot a.noted ≡ 0) → counts ≡ set a.counts k v → k < length a.counts →
    (0 < times k noted) ⊎ ((slice_index a.counts k == 0) ≡ (v == 0)) → NotesZeros a (record { counts = counts; noted = noted; ticks = ticks })
zeros_written a k v counts noted ticks before is within why slot free = elim (cases_eq slot k) [
  | inl here ↦ (
    before slot free,
    elim why [
      | inl some ↦ let here_too = ap (λ s. times s noted) here in absurd (omega (arith, free))
      | inr equal ↦ ap (λ s. slice_index a.counts s == 0) here ∙ equal
          ∙ ap (λ x. x == 0) (sym (ap (λ cs. slice_index cs slot) is ∙ ap (λ s. slice_index (set a.counts k v) s) here ∙ get_or-set_same a.counts k v 0 within))
    ],
  )
  | inr other ↦ (before slot free, ap (λ x. x == 0) (sym (ap (λ cs. slice_index cs slot) is ∙ get_or-set_other a.counts k slot v 0 other)))
]

pub zeros_same : (a : Tally) → NotesZeros a a
zeros_same a slot free = (free, refl)

-- neither is zero
pub neither_zero : (x y : ℕ) → 0 < x → 0 < y → (x == 0) ≡ (y == 0)
neither_zero x y some other = grind (arith, nat_tests)
