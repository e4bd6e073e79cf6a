-- Slots that hang in a chain hang there still where none of their links changes; and names of slots that are left.
use Rattle.std.proofs.Common.{◌≡◌, ◌≢◌, ◌<◌, ◌++◌, inl, inr, ℕ, zero, suc, Bool, true, false, cond, filter, map, List, [], ◌∷◌, Contains, Option, Some, None, if◌then◌else◌, sym, ap, subst}
use Rattle.std.proofs.Common.{◌∙◌, arith, ne_eqb}
use Rattle.std.proofs.lemmas.List.Elements.{All-contains, All-filter, All-contains_itself, Contains-append_left, Contains-append_right, Contains-append_cases}
use Rattle.lock_free.specs.declared.rules.Retired.{Retired}
use Rattle.lock_free.specs.declared.sizes.Sizes.{Sizes}
use Rattle.lock_free.specs.Limbos.{Hangs, link_to, linked_by, names}
use Rattle.lock_free.specs.Places.{count_word, IsSlot}
use Rattle.lock_free.specs.Rules.{Once}
use Rattle.lock_free.proofs.Idle.{empty_has}
use Rattle.lock_free.proofs.Pools.{contains_map, first_or_more, first_there, mapped, more_there}

abbrev pub word_of : Sizes → Retired → ℕ
word_of sizes x = count_word sizes x.class x.name

-- what is known of the link of each of these stays known
abbrev pub KeepsLinks : Sizes → List (ℕ × ℕ) → List (ℕ × ℕ) → List Retired → Type 0
KeepsLinks sizes links links_then items = (x : Retired) → Contains items x → (n : ℕ) → Contains links (word_of sizes x, n) → Contains links_then (word_of sizes x, n)

pub hangs_still : (sizes : Sizes) (links links_then : List (ℕ × ℕ)) (first : Option ℕ) (items : List Retired) → KeepsLinks sizes links links_then items → Hangs sizes links first items →
    Hangs sizes links_then first items
hangs_still sizes links links_then first [] keeps h = h
hangs_still sizes links links_then first (x ∷ rest) keeps (is, next, has, h) = (
  is,
  next,
  keeps x (first_there x rest) (link_to next) has,
  hangs_still sizes links links_then next rest (λ y c n k. keeps y (more_there x rest y c) n k) h,
)

-- ---- links

pub slot_named : (sizes : Sizes) (class name : ℕ) → class < 3 → IsSlot sizes class name → name ≢ 0
slot_named sizes zero name low h e = omega (arith, h.first, e)
slot_named sizes (suc zero) name low h e = omega (arith, h.first, e)
slot_named sizes (suc (suc zero)) name low h e = omega (arith, h.first, e)
slot_named sizes (suc (suc (suc class))) name low h e = omega (arith, low)

-- a link leads to where it was made to lead
pub next_back : (sizes : Sizes) (links : List (ℕ × ℕ)) (first : Option ℕ) (items : List Retired) → ((x : Retired) → Contains items x → x.name ≢ 0) → Hangs sizes links first items →
    linked_by (link_to first) ≡ first
next_back sizes links first [] some h = ap (λ o. linked_by (link_to o)) h ∙ sym h
next_back sizes links first (x ∷ rest) some h =
    ap (λ o. linked_by (link_to o)) h.0 ∙ ap (λ b. if b then None else Some x.name) (ne_eqb x.name 0 (some x (first_there x rest))) ∙ sym h.0

-- ---- names

-- one that stands in the middle is left out
pub once_out : (xs : List ℕ) (n : ℕ) (ys : List ℕ) → Once (xs ++ n ∷ ys) → Once (xs ++ ys) × ¬ Contains (xs ++ ys) n
once_out [] n ys h = (h.1, h.0)
once_out (x ∷ xs) n ys h =
    let below = once_out xs n ys h.1 in (
      (
        λ c. h.0 (elim (Contains-append_cases xs ys x c) [
          | inl first ↦ Contains-append_left xs (n ∷ ys) x first
          | inr last ↦ Contains-append_right xs (n ∷ ys) x (more_there n ys x last)
        ]),
        below.0,
      ),
      λ c. elim (first_or_more x (xs ++ ys) n c) [
        | inl same ↦ h.0 (subst (Contains (xs ++ n ∷ ys)) same (Contains-append_right xs (n ∷ ys) n (first_there n ys)))
        | inr more ↦ below.1 more
      ],
    )

-- of these no two have one name
pub one_named : (xs : List Retired) → Once (names xs) → (x y : Retired) → Contains xs x → Contains xs y → x.name ≡ y.name → x ≡ y
one_named [] h x y cx cy e = absurd (empty_has x cx)
one_named (z ∷ xs) h x y cx cy e = elim (first_or_more z xs x cx) [
  | inl first ↦ elim (first_or_more z xs y cy) [
    | inl other ↦ first ∙ sym other
    | inr more ↦ absurd (h.0 (subst (Contains (names xs)) (sym e ∙ ap (λ (r : Retired). r.name) first) (contains_map (λ (r : Retired). r.name) xs y more)))
  ]
  | inr more ↦ elim (first_or_more z xs y cy) [
    | inl other ↦ absurd (h.0 (subst (Contains (names xs)) (e ∙ ap (λ (r : Retired). r.name) other) (contains_map (λ (r : Retired). r.name) xs x more)))
    | inr others ↦ one_named xs h.1 x y more others e
  ]
]

-- no number stands twice in what is left
pub once_left : (of : Retired → ℕ) (f : Retired → Bool) (xs : List Retired) → Once (map of xs) → Once (map of (filter f xs))
once_left of f [] h = tt
once_left of f (x ∷ xs) h = by (f x) (once_left of f xs h.1)
  where
    fewer : (n : ℕ) → Contains (map of (filter f xs)) n → Contains (map of xs) n
    fewer n c =
        let (y, there, is) = mapped of (filter f xs) n c in
        subst (Contains (map of xs)) is (contains_map of xs y (All-contains (Contains xs) (filter f xs) y (All-filter f (Contains xs) xs (All-contains_itself xs)) there))

    by : (b : Bool) → Once (map of (filter f xs)) → Once (map of (cond b (x ∷ filter f xs) (filter f xs)))
    by true rest = ((λ c. h.0 (fewer (of x) c)), rest)
    by false rest = rest
