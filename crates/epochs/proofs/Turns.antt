-- The ring after each of its calls.
use Rattle.std.proofs.Common.{◌≡◌, ℕ, zero, suc, ◌+◌, ◌-◌, ◌<◌, ◌≤◌, Bool, true, false, cond, List, [], ◌∷◌, ◌++◌, length, map, set}
use Rattle.std.proofs.Common.{get_or, slice_index, count_by, replicate, refl, sym, ap, ◌∙◌, subst, inl, inr, arith}
use Rattle.std.proofs.lemmas.Bool.{cases_lt}
use Rattle.std.proofs.lemmas.List.{length-set, length-map, length-append, append-nil, append_assoc, length-replicate, get_or-replicate, get_or_past}
use Rattle.std.proofs.lemmas.List.Sums.{sum_by-set, sum_by-cons}
use Rattle.slot_arena.specs.Refs.{slot_of, most_slots}
use Rattle.slot_arena.specs.declared.refs.Ref.{Ref}
use Rattle.slot_arena.specs.Times.{times, other_slots}
use Rattle.slot_arena.specs.Tallies.{naming, AreMarks}
use Rattle.slot_arena.proofs.Times.{bit, once_same, once_other, times-cons}
use Rattle.slot_arena.proofs.Marks.{marks_noted, noted_marked}
use Rattle.epochs.specs.Rings.{Joined, around, IsRing, IsEmptyRing}
use Rattle.epochs.proofs.Joins.{entered, left, turned, last_in, before_in, behind_in, others}
use Rattle.epochs.proofs.Bags.{naming_map, times-around, others_map, others_around, other_slots-all, around_push, all_push}
use Rattle.epochs.proofs.Bags.{marks_left, member_below, ring_once, first_outside, member_linked, slot_around}

module _ (next back : List ℕ) (marks : List Bool) (size first second third len : ℕ) (a b c : List Ref) (ring : IsRing next back marks size first second third len a b c) where
  -- the last one has a link
  pub last_linked : (last : ℕ) → last ≡ slice_index back first → last < size + 3
  last_linked last is =
      member_linked next back marks size first second third len a b c ring last
      (subst (λ i. 0 < times i (first ∷ around a second b third c)) (sym is) (last_in next back first (around a second b third c) first ring.joined))

  -- a slot that is in no bag isn't marked
  unmarked : (k : ℕ) → naming k (a ++ b ++ c) ≡ 0 → get_or marks k false ≡ false
  unmarked k none = by_mark (get_or marks k false) refl
    where
      by_mark : (x : Bool) → get_or marks k false ≡ x → x ≡ false
      by_mark true is = absurd (omega (arith, ring.marked.0 k, ap bit is, naming_map k (a ++ b ++ c)))
      by_mark false is = refl

  pub entered_ring : (at : Ref) (last : ℕ) → slot_of at < size → naming (slot_of at) (a ++ b ++ c) ≡ 0 → last ≡ slice_index back first →
      IsRing (set (set next last (slot_of at)) (slot_of at) first) (set (set back (slot_of at) last) first (slot_of at)) (set marks (slot_of at) true) size first second third (len + 1) a b
      (c ++ at ∷ [])
  entered_ring at last within none is = record {
    joined = let first_in = ring.first_behind in let second_in = ring.second_behind in let third_in = ring.third_behind in
        let ns = ring.next_size in let bs = ring.back_size in
        let apart : times (slot_of at) (first ∷ around a second b third c) ≡ 0 =
        omega (
          arith,
          times-cons (slot_of at) first (around a second b third c),
          times-around (slot_of at) a second b third c,
          naming_map (slot_of at) (a ++ b ++ c),
          once_other (slot_of at) first (λ same. omega arith),
          once_other (slot_of at) second (λ same. omega arith),
          once_other (slot_of at) third (λ same. omega arith),
        ) in
        let there = last_linked last is in
        subst (λ ms. Joined (set (set next last (slot_of at)) (slot_of at) first) (set (set back (slot_of at) last) first (slot_of at)) first ms first) (around_push a second b third c at)
        (entered next back first (around a second b third c) first last (slot_of at) ring.joined is (ring_once next back marks size first second third len a b c ring) apart
        (λ same. omega arith) (first_outside next back marks size first second third len a b c ring) (omega arith) (omega arith) (omega arith) (omega arith));
    marked = let ms = ring.marks_size in
        subst (λ ns. AreMarks ns (set marks (slot_of at) true)) (all_push a b c at) (marks_noted (map slot_of (a ++ b ++ c)) marks (slot_of at) ring.marked (omega arith) (unmarked (slot_of at) none));
    next_size = let is_size = ring.next_size in omega (arith, length-set (set next last (slot_of at)) (slot_of at) first, length-set next last (slot_of at));
    back_size = let is_size = ring.back_size in omega (arith, length-set (set back (slot_of at) last) first (slot_of at), length-set back (slot_of at) last);
    marks_size = let is_size = ring.marks_size in omega (arith, length-set marks (slot_of at) true);
    few = ring.few;
    first_behind = ring.first_behind;
    second_behind = ring.second_behind;
    third_behind = ring.third_behind;
    first_second = ring.first_second;
    second_third = ring.second_third;
    third_first = ring.third_first;
    counted = let was = ring.counted in omega (arith, ap length (append_assoc (a ++ b) c (at ∷ [])), length-append (a ++ b ++ c) (at ∷ []));
  }

  module _ (x p q : ℕ) (some : 0 < naming x (a ++ b ++ c)) (is_p : p ≡ slice_index back x) (is_q : q ≡ slice_index next x) where
    member : 0 < times x (map slot_of (a ++ b ++ c))
    member = omega (arith, naming_map x (a ++ b ++ c))

    pub below : x < size
    below = member_below next back marks size first second third len a b c ring x member

    pub before_linked : p < size + 3
    before_linked =
        member_linked next back marks size first second third len a b c ring p
        (subst (λ i. 0 < times i (first ∷ around a second b third c)) (sym is_p)
        (before_in next back first (around a second b third c) first x ring.joined (slot_around next back marks size first second third len a b c ring x member)))

    pub behind_linked : q < size + 3
    behind_linked = elim (behind_in next back first (around a second b third c) first x ring.joined
        (omega (arith, times-cons x first (around a second b third c), slot_around next back marks size first second third len a b c ring x member))) [
          | inl end ↦ let first_in = ring.first_behind in omega arith
          | inr inside ↦ member_linked next back marks size first second third len a b c ring q
              (subst (λ i. 0 < times i (first ∷ around a second b third c)) (sym is_q) (omega (arith, times-cons (slice_index next x) first (around a second b third c))))
        ]

    all_left : others x (map slot_of (a ++ b ++ c)) ≡ map slot_of (other_slots x a ++ other_slots x b ++ other_slots x c)
    all_left = others_map x (a ++ b ++ c) ∙ ap (map slot_of) (other_slots-all x a b c)

    marks_now : AreMarks (map slot_of (other_slots x a ++ other_slots x b ++ other_slots x c)) (set marks x false)
    marks_now = subst (λ ns. AreMarks ns (set marks x false)) all_left (marks_left (map slot_of (a ++ b ++ c)) marks x ring.marked member)

    pub left_ring : IsRing (set next p q) (set back q p) (set marks x false) size first second third (len - 1) (other_slots x a) (other_slots x b) (other_slots x c)
    left_ring = record {
      joined = let first_in = ring.first_behind in let second_in = ring.second_behind in let third_in = ring.third_behind in
          let ns = ring.next_size in let bs = ring.back_size in let is_below = below in let p_in = before_linked in let q_in = behind_linked in
          subst (λ ms. Joined (set next p q) (set back q p) first ms first) (others_around x a second b third c (λ same. omega arith) (λ same. omega arith))
          (left next back first (around a second b third c) first x p q ring.joined is_p is_q (ring_once next back marks size first second third len a b c ring)
          (first_outside next back marks size first second third len a b c ring) (slot_around next back marks size first second third len a b c ring x member) (omega arith) (omega arith));
      marked = marks_now;
      next_size = let is_size = ring.next_size in omega (arith, length-set next p q);
      back_size = let is_size = ring.back_size in omega (arith, length-set back q p);
      marks_size = let is_size = ring.marks_size in omega (arith, length-set marks x false);
      few = ring.few;
      first_behind = ring.first_behind;
      second_behind = ring.second_behind;
      third_behind = ring.third_behind;
      first_second = ring.first_second;
      second_third = ring.second_third;
      third_first = ring.third_first;
      counted = let was = ring.counted in omega (arith, less);
    }
      where
        less : length (other_slots x a ++ other_slots x b ++ other_slots x c) + 1 ≡ length (a ++ b ++ c)
        less =
            let there = ap bit (noted_marked (map slot_of (a ++ b ++ c)) marks x ring.marked member) in
            omega (
              arith,
              length-map (a ++ b ++ c) slot_of,
              length-map (other_slots x a ++ other_slots x b ++ other_slots x c) slot_of,
              ring.marked.1,
              marks_now.1,
              sum_by-set (λ mark. cond mark 1 0) marks x false false (let ms = ring.marks_size in let is_below = below in omega arith),
            )

  -- where the oldest bag is empty the ring can turn
  pub turned_ring : a ≡ [] → IsRing next back marks size second third first len b c []
  turned_ring empty = record {
    joined = turned next back first second (map slot_of b ++ third ∷ map slot_of c) (subst (λ (rs : List Ref). Joined next back first (around rs second b third c) first) empty ring.joined);
    marked = subst (λ (rs : List Ref). AreMarks (map slot_of rs) marks) same ring.marked;
    next_size = ring.next_size;
    back_size = ring.back_size;
    marks_size = ring.marks_size;
    few = ring.few;
    first_behind = ring.second_behind;
    second_behind = ring.third_behind;
    third_behind = ring.first_behind;
    first_second = ring.second_third;
    second_third = ring.third_first;
    third_first = ring.first_second;
    counted = ring.counted ∙ ap length same;
  }
    where
      same : a ++ b ++ c ≡ b ++ c ++ []
      same = ap (λ (rs : List Ref). rs ++ b ++ c) empty ∙ sym (append-nil (b ++ c))

  -- the first link tells whether the oldest bag is empty
  pub first_none : (n : ℕ) → n ≡ slice_index next first → n ≡ second → a ≡ []
  first_none n is same = by_bag a refl ring.joined
    where
      by_bag : (rs : List Ref) → a ≡ rs → Joined next back first (around a second b third c) first → rs ≡ []
      by_bag [] e joined = refl
      by_bag (r ∷ rs) e joined =
          let leads = (subst (λ (qs : List Ref). Joined next back first (around qs second b third c) first) e joined).0 in
          let in_bag = member_below next back marks size first second third len a b c ring (slot_of r)
          (subst (λ (qs : List Ref). 0 < times (slot_of r) (map slot_of (qs ++ b ++ c))) (sym e)
          (omega (arith, times-cons (slot_of r) (slot_of r) (map slot_of (rs ++ b ++ c)), once_same (slot_of r)))) in
          let behind = ring.second_behind in
          absurd (omega arith)

  pub first_some : (n : ℕ) → n ≡ slice_index next first → (n ≡ second → ⊥) → (r : Ref) × (rest : List Ref) × (a ≡ r ∷ rest) × (slot_of r ≡ n) × (n < size)
  first_some n is other = by_bag a refl ring.joined
    where
      by_bag : (rs : List Ref) → a ≡ rs → Joined next back first (around a second b third c) first → (r : Ref) × (rest : List Ref) × (a ≡ r ∷ rest) × (slot_of r ≡ n) × (n < size)
      by_bag [] e joined = absurd (other (is ∙ (subst (λ (qs : List Ref). Joined next back first (around qs second b third c) first) e joined).0))
      by_bag (r ∷ rs) e joined =
          let leads = (subst (λ (qs : List Ref). Joined next back first (around qs second b third c) first) e joined).0 in
          let in_bag = member_below next back marks size first second third len a b c ring (slot_of r)
          (subst (λ (qs : List Ref). 0 < times (slot_of r) (map slot_of (qs ++ b ++ c))) (sym e)
          (omega (arith, times-cons (slot_of r) (slot_of r) (map slot_of (rs ++ b ++ c)), once_same (slot_of r)))) in
          (r, rs, e, sym (is ∙ leads), omega arith)

none_marked : (n : ℕ) → count_by (λ mark. mark) (replicate n false) ≡ 0
none_marked zero = refl
none_marked (suc n) = omega (arith, sum_by-cons (λ mark. cond mark 1 0) false (replicate n false), none_marked n)

-- of so many marks none is set
pub no_mark : (n k : ℕ) → get_or (replicate n false) k false ≡ false
no_mark n k = elim (cases_lt k n) [
  | inl within ↦ get_or-replicate n k false false within
  | inr past ↦ get_or_past (replicate {A = Bool} n false) k false (let size = length-replicate {A = Bool} n false in omega arith)
]

-- three empty bags
pub new_ring : (next back : List ℕ) (size : ℕ) → size ≤ most_slots → IsEmptyRing next size ((size + 1) ∷ (size + 2) ∷ size ∷ []) → IsEmptyRing back size ((size + 2) ∷ size ∷ (size + 1) ∷ []) →
    IsRing next back (replicate size false) size size (size + 1) (size + 2) 0 [] [] []
new_ring next back size few (n, n1, n2, n3) (m, m1, m2, m3) = record {
  joined = (n1, m2, (n2, m3, (n3, m1)));
  marked = (λ slot. sym (ap bit (no_mark size slot)), sym (none_marked size));
  next_size = n;
  back_size = m;
  marks_size = length-replicate size false;
  few = few;
  first_behind = (omega arith, omega arith);
  second_behind = (omega arith, omega arith);
  third_behind = (omega arith, omega arith);
  first_second = λ same. omega arith;
  second_third = λ same. omega arith;
  third_first = λ same. omega arith;
  counted = refl;
}
