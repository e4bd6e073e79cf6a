-- Links forward and back under writes.
use Rattle.std.proofs.Common.{◌≡◌, ℕ, ◌<◌, ◌≤◌, ◌==◌, not, cond, List, [], ◌∷◌, ◌++◌, length, set, filter, slice_index, refl, sym, ap, ◌∙◌, subst, ◌⊎◌, inl, inr, arith, eq-eqb}
use Rattle.std.proofs.lemmas.Bool.{cases_eq, ne_eqb}
use Rattle.std.proofs.lemmas.List.{get_or-set_same, get_or-set_other, length-set}
use Rattle.slot_arena.specs.Times.{times}
use Rattle.slot_arena.proofs.Times.{once_same, once_other, times-cons}
use Rattle.slot_arena.proofs.Chains.{not_first, not_later}
use Rattle.epochs.specs.Rings.{Joined}

-- what the last link back leads to is the last one
pub last_in : (next back : List ℕ) (from : ℕ) (ns : List ℕ) (to : ℕ) → Joined next back from ns to → 0 < times (slice_index back to) (from ∷ ns)
last_in next back from [] to (there, here) = subst (λ i. 0 < times i (from ∷ [])) (sym here) (omega (arith, times-cons from from [], once_same from))
last_in next back from (n ∷ ns) to (there, here, later) = omega (arith, times-cons (slice_index back to) from (n ∷ ns), last_in next back n ns to later)

-- the one before a member
pub before_in : (next back : List ℕ) (from : ℕ) (ns : List ℕ) (to x : ℕ) → Joined next back from ns to → 0 < times x ns → 0 < times (slice_index back x) (from ∷ ns)
before_in next back from [] to x joined some = absurd (omega arith)
before_in next back from (n ∷ ns) to x (there, here, later) some = elim (cases_eq x n) [
  | inl same ↦ subst (λ i. 0 < times i (from ∷ n ∷ ns)) (sym (ap (slice_index back) same ∙ here)) (omega (arith, times-cons from from (n ∷ ns), once_same from))
  | inr other ↦ let rest : 0 < times x ns = omega (arith, times-cons x n ns, once_other x n other) in
      omega (arith, times-cons (slice_index back x) from (n ∷ ns), before_in next back n ns to x later rest)
]

-- the one behind a member, or behind the start
pub behind_in : (next back : List ℕ) (from : ℕ) (ns : List ℕ) (to x : ℕ) → Joined next back from ns to → 0 < times x (from ∷ ns) → (slice_index next x ≡ to) ⊎ (0 < times (slice_index next x) ns)
behind_in next back from [] to x (there, here) some = elim (cases_eq x from) [
  | inl same ↦ inl (ap (slice_index next) same ∙ there)
  | inr other ↦ absurd (omega (arith, times-cons x from [], once_other x from other))
]
behind_in next back from (n ∷ ns) to x (there, here, later) some = elim (cases_eq x from) [
  | inl same ↦ inr (subst (λ i. 0 < times i (n ∷ ns)) (sym (ap (slice_index next) same ∙ there)) (omega (arith, times-cons n n ns, once_same n)))
  | inr other ↦ elim (behind_in next back n ns to x later (omega (arith, times-cons x from (n ∷ ns), once_other x from other))) [
    | inl end ↦ inl end
    | inr inside ↦ inr (omega (arith, times-cons (slice_index next x) n ns))
  ]
]

-- writes elsewhere leave it
pub next_apart : (next back : List ℕ) (from : ℕ) (ns : List ℕ) (to i y : ℕ) → Joined next back from ns to → times i (from ∷ ns) ≡ 0 → Joined (set next i y) back from ns to
next_apart next back from [] to i y (there, here) none = (get_or-set_other next i from y 0 (λ same. not_first i from [] none (sym same)) ∙ there, here)
next_apart next back from (n ∷ ns) to i y (there, here, later) none =
    (get_or-set_other next i from y 0 (λ same. not_first i from (n ∷ ns) none (sym same)) ∙ there, here, next_apart next back n ns to i y later (not_later i from (n ∷ ns) none))

pub back_apart : (next back : List ℕ) (from : ℕ) (ns : List ℕ) (to i y : ℕ) → Joined next back from ns to → times i ns ≡ 0 → (i ≡ to → ⊥) → Joined next (set back i y) from ns to
back_apart next back from [] to i y (there, here) none apart = (there, get_or-set_other back i to y 0 (λ same. apart (sym same)) ∙ here)
back_apart next back from (n ∷ ns) to i y (there, here, later) none apart =
    (there, get_or-set_other back i n y 0 (λ same. not_first i n ns none (sym same)) ∙ here, back_apart next back n ns to i y later (not_later i n ns none) apart)

-- each number stands in the list at most once
abbrev pub AreOnce : List ℕ → Type 0
AreOnce ns = (i : ℕ) → times i ns ≤ 1

pub once_later : (n : ℕ) (ns : List ℕ) → AreOnce (n ∷ ns) → AreOnce ns
once_later n ns each i = omega (arith, each i, times-cons i n ns)

pub once_apart : (n : ℕ) (ns : List ℕ) → AreOnce (n ∷ ns) → times n ns ≡ 0
once_apart n ns each = omega (arith, each n, times-cons n n ns, once_same n)

-- one more at the end
pub entered : (next back : List ℕ) (from : ℕ) (ns : List ℕ) (to p x : ℕ) → Joined next back from ns to → p ≡ slice_index back to → AreOnce (from ∷ ns) → times x (from ∷ ns) ≡ 0
    → (x ≡ to → ⊥) → times to ns ≡ 0 →
    p < length next → x < length next → x < length back → to < length back → Joined (set (set next p x) x to) (set (set back x p) to x) from (ns ++ x ∷ []) to
entered next back from [] to p x (there, here) is each apart ends outside pn xn xb tb =
    let at : p ≡ from = is ∙ here in
    let one : List ℕ = set next p x in
    let two : List ℕ = set back x p in
    let size : x < length one = omega (arith, length-set next p x) in
    let size_2 : to < length two = omega (arith, length-set back x p) in (
      get_or-set_other one x from to 0 (λ same. not_first x from [] apart (sym same)) ∙ ap (slice_index one) (sym at) ∙ get_or-set_same next p x 0 pn,
      get_or-set_other two to x x 0 ends ∙ get_or-set_same back x p 0 xb ∙ at,
      (get_or-set_same one x to 0 size, get_or-set_same two to x 0 size_2),
    )
entered next back from (n ∷ ns) to p x (there, here, later) is each apart ends outside pn xn xb tb =
    let one : List ℕ = set next p x in
    let two : List ℕ = set back x p in
    let last : 0 < times p (n ∷ ns) = subst (λ i. 0 < times i (n ∷ ns)) (sym is) (last_in next back n ns to later) in
    let not_last : from ≡ p → ⊥ = λ same. let none = once_apart from (n ∷ ns) each in omega (arith, ap (λ i. times i (n ∷ ns)) same) in (
      get_or-set_other one x from to 0 (λ same. not_first x from (n ∷ ns) apart (sym same)) ∙ get_or-set_other next p from x 0 not_last ∙ there,
      get_or-set_other two to n x 0 (λ same. not_first to n ns outside (sym same)) ∙ get_or-set_other back x n p 0 (λ same. not_first x n ns (not_later x from (n ∷ ns) apart) (sym same)) ∙ here,
      entered next back n ns to p x later is (once_later from (n ∷ ns) each) (not_later x from (n ∷ ns) apart) ends (not_later to n ns outside) pn xn xb tb,
    )

-- the others
abbrev pub others : ℕ → List ℕ → List ℕ
others x ns = filter (λ n. not (n == x)) ns

pub others_same : (x n : ℕ) (ns : List ℕ) → n ≡ x → others x (n ∷ ns) ≡ others x ns
others_same x n ns same = ap (λ b. cond (not b) (n ∷ others x ns) (others x ns)) (eq-eqb n x same)

pub others_other : (x n : ℕ) (ns : List ℕ) → (n ≡ x → ⊥) → others x (n ∷ ns) ≡ n ∷ others x ns
others_other x n ns other = ap (λ b. cond (not b) (n ∷ others x ns) (others x ns)) (ne_eqb n x other)

pub others_none : (x : ℕ) (ns : List ℕ) → times x ns ≡ 0 → others x ns ≡ ns
others_none x [] none = refl
others_none x (n ∷ ns) none = others_other x n ns (λ same. not_first x n ns none (sym same)) ∙ ap (λ ms. n ∷ ms) (others_none x ns (not_later x n ns none))

-- one less, from the start
left_first : (next back : List ℕ) (from : ℕ) (ns : List ℕ) (to x p q : ℕ) → Joined next back from (x ∷ ns) to → p ≡ slice_index back x → q ≡ slice_index next x → AreOnce (from ∷ x ∷ ns)
    → times to (x ∷ ns) ≡ 0 →
    p < length next → q < length back → Joined (set next p q) (set back q p) from ns to
left_first next back from [] to x p q (there, here, (end, start)) is_p is_q each outside pn qb =
    let at_p : p ≡ from = is_p ∙ here in
    let at_q : q ≡ to = is_q ∙ end in
    (ap (slice_index (set next p q)) (sym at_p) ∙ get_or-set_same next p q 0 pn ∙ at_q, ap (slice_index (set back q p)) (sym at_q) ∙ get_or-set_same back q p 0 qb ∙ at_p)
left_first next back from (n ∷ ns) to x p q (there, here, (end, start, later)) is_p is_q each outside pn qb =
    let at_p : p ≡ from = is_p ∙ here in
    let at_q : q ≡ n = is_q ∙ end in
    let apart_p : times p (n ∷ ns) ≡ 0 = ap (λ i. times i (n ∷ ns)) at_p ∙ not_later from x (n ∷ ns) (once_apart from (x ∷ n ∷ ns) each) in
    let apart_q : times q ns ≡ 0 = ap (λ i. times i ns) at_q ∙ once_apart n ns (once_later x (n ∷ ns) (once_later from (x ∷ n ∷ ns) each)) in (
      ap (slice_index (set next p q)) (sym at_p) ∙ get_or-set_same next p q 0 pn ∙ at_q,
      ap (slice_index (set back q p)) (sym at_q) ∙ get_or-set_same back q p 0 qb ∙ at_p,
      next_apart next (set back q p) n ns to p q
          (back_apart next back n ns to q p later apart_q (λ same. not_first to n ns (not_later to x (n ∷ ns) outside) (sym same ∙ at_q))) apart_p,
    )

pub left : (next back : List ℕ) (from : ℕ) (ns : List ℕ) (to x p q : ℕ) → Joined next back from ns to → p ≡ slice_index back x → q ≡ slice_index next x → AreOnce (from ∷ ns)
    → times to ns ≡ 0 → 0 < times x ns →
    p < length next → q < length back → Joined (set next p q) (set back q p) from (others x ns) to
left next back from [] to x p q joined is_p is_q each outside some pn qb = absurd (omega arith)
left next back from (n ∷ ns) to x p q joined is_p is_q each outside some pn qb = elim (cases_eq n x) [
  | inl same ↦ first same
  | inr other ↦ further other (left next back n ns to x p q joined.2 is_p is_q (once_later from (n ∷ ns) each) (not_later to n ns outside) (rest other) pn qb)
]
  where
    rest : (n ≡ x → ⊥) → 0 < times x ns
    rest other = omega (arith, some, times-cons x n ns, once_other x n (λ e. other (sym e)))

    first : n ≡ x → Joined (set next p q) (set back q p) from (others x (n ∷ ns)) to
    first same =
        let none : times x ns ≡ 0 = ap (λ i. times i ns) (sym same) ∙ once_apart n ns (once_later from (n ∷ ns) each) in
        subst (λ ms. Joined (set next p q) (set back q p) from ms to) (sym (others_same x n ns same ∙ others_none x ns none))
        (left_first next back from ns to n p q joined (is_p ∙ ap (slice_index back) (sym same)) (is_q ∙ ap (slice_index next) (sym same)) each outside pn qb)

    further : (n ≡ x → ⊥) → Joined (set next p q) (set back q p) n (others x ns) to → Joined (set next p q) (set back q p) from (others x (n ∷ ns)) to
    further other later =
        let there = rest other in
        let p_in : 0 < times p (n ∷ ns) = subst (λ i. 0 < times i (n ∷ ns)) (sym is_p) (before_in next back n ns to x joined.2 there) in
        let not_p : from ≡ p → ⊥ = λ same. let none = once_apart from (n ∷ ns) each in omega (arith, ap (λ i. times i (n ∷ ns)) same) in
        let not_q : n ≡ q → ⊥ = λ same. elim (behind_in next back n ns to x joined.2 (omega (arith, times-cons x n ns))) [
          | inl end ↦ not_first to n ns outside (sym (same ∙ is_q ∙ end))
          | inr inside ↦ let none = once_apart n ns (once_later from (n ∷ ns) each) in omega (arith, ap (λ i. times i ns) (same ∙ is_q))
        ] in
        subst (λ ms. Joined (set next p q) (set back q p) from ms to) (sym (others_other x n ns other))
        (get_or-set_other next p from q 0 not_p ∙ joined.0, get_or-set_other back q n p 0 not_q ∙ joined.1, later)

-- two joined parts
pub joined_on : (next back : List ℕ) (from : ℕ) (ns : List ℕ) (mid : ℕ) (ms : List ℕ) (to : ℕ) → Joined next back from ns mid → Joined next back mid ms to → Joined next back from (ns ++ mid ∷ ms) to
joined_on next back from [] mid ms to (there, here) second = (there, here, second)
joined_on next back from (n ∷ ns) mid ms to (there, here, later) second = (there, here, joined_on next back n ns mid ms to later second)

-- the start moves on to its first member
pub turned : (next back : List ℕ) (first second : ℕ) (ns : List ℕ) → Joined next back first (second ∷ ns) first → Joined next back second (ns ++ first ∷ []) second
turned next back first second ns (there, here, later) = joined_on next back second ns first [] second later (there, here)
