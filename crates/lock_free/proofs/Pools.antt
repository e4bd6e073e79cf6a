-- The slots that are free for a seat.
use Rattle.std.proofs.Common.{◌≡◌, ◌≢◌, ◌⊎◌, ℕ, zero, suc, ◌<◌, inl, inr, List, [], ◌∷◌, ◌++◌, Contains, get_or, map, refl, sym, ap, ◌∙◌, subst, arith, Bool, true, false, ◌==◌, if◌then◌else◌}
use Rattle.std.proofs.Math.ListN.{get_or-map}
use Rattle.std.proofs.lemmas.Bool.{cases_eq}
use Rattle.std.proofs.lemmas.List.{length-map}
use Rattle.std.proofs.lemmas.List.Elements.{Contains-append_left, Contains-append_right, Contains-append_cases, Contains-push, Contains-push_cases}
use Rattle.lock_free.specs.declared.rules.Pool.{Pool}
use Rattle.lock_free.specs.Making.{with_slots, with_slot}
use Rattle.lock_free.specs.Rules.{Once, pool_of}

none_there : {X : Type 0} (n : X) → Contains [] n → ⊥
none_there n c = absurd (omega (arith, c.1))

pub one_there : {X : Type 0} (x n : X) → Contains (x ∷ []) n → n ≡ x
one_there x n c = by c.0 c.1 c.2
  where
    by : (k : ℕ) → k < 1 → get_or (x ∷ []) k n ≡ n → n ≡ x
    by zero low e = sym e
    by (suc k) low e = absurd (omega (arith, low))

-- the first, or one of the others
pub first_or_more : {X : Type 0} (x : X) (xs : List X) (n : X) → Contains (x ∷ xs) n → (n ≡ x) ⊎ Contains xs n
first_or_more x xs n c = elim (Contains-append_cases (x ∷ []) xs n c) [
  | inl first ↦ inl (one_there x n first)
  | inr more ↦ inr more
]

pub first_there : {X : Type 0} (x : X) (xs : List X) → Contains (x ∷ xs) x
first_there x xs = (0, omega arith, refl)

pub more_there : {X : Type 0} (x : X) (xs : List X) (n : X) → Contains xs n → Contains (x ∷ xs) n
more_there x xs n c = Contains-append_right (x ∷ []) xs n c

pub contains_map : {X Y : Type 0} (f : X → Y) (xs : List X) (x : X) → Contains xs x → Contains (map f xs) (f x)
contains_map f xs x (k, within, at_k) = (k, omega (arith, within, length-map xs f), get_or-map f xs k x ∙ ap f at_k)

-- what stands there comes from one of them
pub mapped : {X Y : Type 0} (f : X → Y) (xs : List X) (y : Y) → Contains (map f xs) y → (x : X) × Contains xs x × (f x ≡ y)
mapped f [] y c = absurd (none_there y c)
mapped f (x ∷ xs) y (zero, within, is) = (x, first_there x xs, is)
mapped f (x ∷ xs) y (suc k, within, is) = let (z, c, e) = mapped f xs y (k, omega (arith, within), is) in (z, more_there x xs z c, e)

-- no number stands twice in what is left of a pool, and the last one isn't among them
pub once_rest : (xs : List ℕ) (n : ℕ) → Once (xs ++ n ∷ []) → Once xs × (Contains xs n → ⊥)
once_rest [] n h = (tt, λ c. none_there n c)
once_rest (x ∷ xs) n h =
    let below = once_rest xs n h.1 in (
      (λ c. h.0 (Contains-append_left xs (n ∷ []) x c), below.0),
      λ c. elim (Contains-append_cases (x ∷ []) xs n c) [
        | inl first ↦ h.0 (subst (λ y. Contains (xs ++ n ∷ []) y) (one_there x n first) (Contains-push xs n))
        | inr more ↦ below.1 more
      ],
    )

-- one more that isn't among them
pub once_more : (xs : List ℕ) (n : ℕ) → Once xs → (Contains xs n → ⊥) → Once (xs ++ n ∷ [])
once_more [] n h new = (none_there n, tt)
once_more (x ∷ xs) n h new = (
  (λ c. elim (Contains-push_cases xs n x c) [
    | inl more ↦ h.0 more
    | inr same ↦ new (subst (λ y. Contains (x ∷ xs) y) (sym same) (0, omega arith, refl))
  ]),
  once_more xs n h.1 (λ c. new (Contains-append_right (x ∷ []) xs n c)),
)

pub pool_same : (pool : Pool) (class : ℕ) (rest : List ℕ) → class < 3 → pool_of (with_slots pool class rest) class ≡ rest
pool_same pool zero rest low = refl
pool_same pool (suc zero) rest low = refl
pool_same pool (suc (suc zero)) rest low = refl
pool_same pool (suc (suc (suc class))) rest low = absurd (omega (arith, low))

pub pool_else : (pool : Pool) (class b : ℕ) (rest : List ℕ) → class < 3 → b < 3 → b ≢ class → pool_of (with_slots pool class rest) b ≡ pool_of pool b
pool_else pool zero zero rest low small differs = absurd (differs refl)
pool_else pool zero (suc zero) rest low small differs = refl
pool_else pool zero (suc (suc zero)) rest low small differs = refl
pool_else pool (suc zero) zero rest low small differs = refl
pool_else pool (suc zero) (suc zero) rest low small differs = absurd (differs refl)
pool_else pool (suc zero) (suc (suc zero)) rest low small differs = refl
pool_else pool (suc (suc zero)) zero rest low small differs = refl
pool_else pool (suc (suc zero)) (suc zero) rest low small differs = refl
pool_else pool (suc (suc zero)) (suc (suc zero)) rest low small differs = absurd (differs refl)
pool_else pool (suc (suc (suc class))) b rest low small differs = absurd (omega (arith, low))
pool_else pool class (suc (suc (suc b))) rest low small differs = absurd (omega (arith, small))

-- what was parted is so still
parted_by : (small medium : Bool) (pool : Pool) (rest : List ℕ) →
    (if small then record pool { small = rest } else (if medium then record pool { medium = rest } else record pool { wide = rest })).parted ≡ pool.parted
parted_by true medium pool rest = refl
parted_by false true pool rest = refl
parted_by false false pool rest = refl

pub parted_same : (pool : Pool) (class : ℕ) (rest : List ℕ) → (with_slots pool class rest).parted ≡ pool.parted
parted_same pool class rest = parted_by (class == 0) (class == 1) pool rest

-- with one more slot in one class
module _ (pool : Pool) (class name : ℕ) (small : class < 3) where
  pub free_still : (b other : ℕ) → b < 3 → Contains (pool_of pool b) other → Contains (pool_of (with_slot pool class name) b) other
  free_still b other low c = elim (cases_eq b class) [
    | inl same ↦ subst (λ xs. Contains xs other) (sym (ap (pool_of (with_slot pool class name)) same ∙ pool_same pool class (pool_of pool class ++ name ∷ []) small))
        (Contains-append_left (pool_of pool class) (name ∷ []) other (subst (λ n. Contains (pool_of pool n) other) same c))
    | inr differs ↦ subst (λ xs. Contains xs other) (sym (pool_else pool class b (pool_of pool class ++ name ∷ []) small low differs)) c
  ]

  pub now_free : Contains (pool_of (with_slot pool class name) class) name
  now_free = subst (λ xs. Contains xs name) (sym (pool_same pool class (pool_of pool class ++ name ∷ []) small)) (Contains-push (pool_of pool class) name)

  pub was_free : (b other : ℕ) → b < 3 → Contains (pool_of (with_slot pool class name) b) other → Contains (pool_of pool b) other ⊎ ((b ≡ class) × (name ≡ other))
  was_free b other low c = elim (cases_eq b class) [
    | inl same ↦ elim (Contains-push_cases (pool_of pool class) name other
        (subst (λ xs. Contains xs other) (ap (pool_of (with_slot pool class name)) same ∙ pool_same pool class (pool_of pool class ++ name ∷ []) small) c)) [
          | inl old ↦ inl (subst (λ n. Contains (pool_of pool n) other) (sym same) old)
          | inr new ↦ inr (same, new)
        ]
    | inr differs ↦ inl (subst (λ xs. Contains xs other) (pool_else pool class b (pool_of pool class ++ name ∷ []) small low differs) c)
  ]

  pub once_with : ((b : ℕ) → b < 3 → Once (pool_of pool b)) → (Contains (pool_of pool class) name → ⊥) → (b : ℕ) → b < 3 → Once (pool_of (with_slot pool class name) b)
  once_with once new b low = elim (cases_eq b class) [
    | inl same ↦ subst Once (sym (ap (pool_of (with_slot pool class name)) same ∙ pool_same pool class (pool_of pool class ++ name ∷ []) small))
        (once_more (pool_of pool class) name (once class small) new)
    | inr differs ↦ subst Once (sym (pool_else pool class b (pool_of pool class ++ name ∷ []) small low differs)) (once b low)
  ]
