-- The slots of a class that aren't marked.
use Rattle.std.proofs.Common.{◌≡◌, ◌+◌, ◌*◌, ◌<◌, ◌++◌, ◌==◌, inl, inr, ℕ, zero, suc, Bool, true, false, List, [], ◌∷◌, Contains, if◌then◌else◌, refl, sym, ap, subst, ◌∙◌, arith}
use Rattle.std.proofs.Common.{eq-eqb, eqb-true}
use Rattle.std.proofs.lemmas.Bool.{true≢false}
use Rattle.std.proofs.lemmas.List.Elements.{Contains-append_cases}
use Rattle.lock_free.specs.declared.sizes.Sizes.{Sizes}
use Rattle.lock_free.specs.Alone.{Marks, name_of, unmarked}
use Rattle.lock_free.specs.Places.{part_of, stride}
use Rattle.lock_free.specs.Rules.{Once}
use Rattle.lock_free.proofs.Idle.{empty_has}
use Rattle.lock_free.proofs.Pools.{first_or_more, first_there, more_there, once_more, one_there}

-- ---- numbers in a list

unfoldable pub is_among : List ℕ → ℕ → Bool
is_among [] x = false
is_among (n ∷ ns) x = if n == x then true else is_among ns x

there_by : (n : ℕ) (ns : List ℕ) (x : ℕ) (b : Bool) → (n == x) ≡ b → (is_among ns x ≡ true → Contains ns x) → (if b then true else is_among ns x) ≡ true → Contains (n ∷ ns) x
there_by n ns x true same rest h = subst (Contains (n ∷ ns)) (eqb-true n x same) (first_there n ns)
there_by n ns x false differs rest h = more_there n ns x (rest h)

pub there : (ns : List ℕ) (x : ℕ) → is_among ns x ≡ true → Contains ns x
unfolding is_among
there [] x e = absurd (true≢false (sym e))
there (n ∷ ns) x e = there_by n ns x (n == x) refl (there ns x) e

among_by : (ns : List ℕ) (x : ℕ) (b : Bool) → is_among ns x ≡ true → (if b then true else is_among ns x) ≡ true
among_by ns x true h = refl
among_by ns x false h = h

pub among : (ns : List ℕ) (x : ℕ) → Contains ns x → is_among ns x ≡ true
unfolding is_among
among [] x c = absurd (empty_has x c)
among (n ∷ ns) x c = elim (first_or_more n ns x c) [
  | inl first ↦ ap (λ b. if b then true else is_among ns x) (eq-eqb n x (sym first))
  | inr more ↦ among_by ns x (n == x) (among ns x more)
]

-- ---- names

pub named : (sizes : Sizes) (class n : ℕ) → class < 3 → 2 * name_of sizes class n ≡ part_of sizes class + stride class * n
named sizes zero n low = omega arith
named sizes (suc zero) n low = omega arith
named sizes (suc (suc zero)) n low = omega arith
named sizes (suc (suc (suc class))) n low = absurd (omega (arith, low))

-- the words before all slots are none's
pub name_some : (sizes : Sizes) (class n : ℕ) → class < 3 → 0 < name_of sizes class n
name_some sizes zero n low = omega arith
name_some sizes (suc zero) n low = omega arith
name_some sizes (suc (suc zero)) n low = omega arith
name_some sizes (suc (suc (suc class))) n low = absurd (omega (arith, low))

one_number : (sizes : Sizes) (class m n : ℕ) → class < 3 → part_of sizes class + stride class * m ≡ part_of sizes class + stride class * n → m ≡ n
one_number sizes zero m n low e = omega (arith, e)
one_number sizes (suc zero) m n low e = omega (arith, e)
one_number sizes (suc (suc zero)) m n low e = omega (arith, e)
one_number sizes (suc (suc (suc class))) m n low e = absurd (omega (arith, low))

-- ---- those that aren't marked

module _ (sizes : Sizes) (class : ℕ) (marks : Marks) where
  -- such a one is one of them
  pub record IsUnmarked (n name : ℕ) : Type 0 where
    pub number : ℕ
    pub few : number < n
    pub is : name ≡ name_of sizes class number
    pub not : marks number ≡ false

  longer : (n name : ℕ) → IsUnmarked n name → IsUnmarked (suc n) name
  longer n name h = record { number = h.number; few = omega (arith, h.few); is = h.is; not = h.not }

  abbrev More : ℕ → Bool → List ℕ
  More n b = if b then unmarked sizes class marks n else unmarked sizes class marks n ++ name_of sizes class n ∷ []

  has_by : (n name : ℕ) (b : Bool) → marks n ≡ b → (Contains (unmarked sizes class marks n) name → IsUnmarked n name) → Contains (More n b) name → IsUnmarked (suc n) name
  has_by n name true is before h = longer n name (before h)
  has_by n name false is before h = elim (Contains-append_cases (unmarked sizes class marks n) (name_of sizes class n ∷ []) name h) [
    | inl old ↦ longer n name (before old)
    | inr last ↦ record { number = n; few = omega arith; is = one_there (name_of sizes class n) name last; not = is }
  ]

  pub unmarked_has : (n name : ℕ) → Contains (unmarked sizes class marks n) name → IsUnmarked n name
  unfolding unmarked
  unmarked_has zero name c = absurd (empty_has name c)
  unmarked_has (suc n) name c = has_by n name (marks n) refl (unmarked_has n name) c

  once_by : (low : class < 3) (n : ℕ) → Once (unmarked sizes class marks n) → (b : Bool) → Once (More n b)
  once_by low n before true = before
  once_by low n before false = once_more (unmarked sizes class marks n) (name_of sizes class n) before new
    where
      new : Contains (unmarked sizes class marks n) (name_of sizes class n) → ⊥
      new c =
          let h = unmarked_has n (name_of sizes class n) c in
          let same = one_number sizes class n h.number low (sym (named sizes class n low) ∙ ap (λ k. 2 * k) h.is ∙ named sizes class h.number low) in
          omega (arith, same, h.few)

  pub unmarked_once : (low : class < 3) (n : ℕ) → Once (unmarked sizes class marks n)
  unfolding unmarked
  unmarked_once low zero = tt
  unmarked_once low (suc n) = once_by low n (unmarked_once low n) (marks n)

-- where the marks are the same
pub unmarked_same : (sizes : Sizes) (class : ℕ) (marks others : Marks) (n : ℕ) → ((m : ℕ) → m < n → marks m ≡ others m) → unmarked sizes class marks n ≡ unmarked sizes class others n
unfolding unmarked
unmarked_same sizes class marks others zero same = refl
unmarked_same sizes class marks others (suc n) same =
    let before = unmarked_same sizes class marks others n (λ m low. same m (omega (arith, low))) in
    ap (λ b. if b then unmarked sizes class marks n else unmarked sizes class marks n ++ name_of sizes class n ∷ []) (same n (omega arith))
    ∙ ap (λ xs. if others n then xs else xs ++ name_of sizes class n ∷ []) before
