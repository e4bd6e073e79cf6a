-- Which elements a list has, by recursion on it: what stands among them, what holds of each, and what a filter keeps.
use Rattle.std.proofs.Common.{◌≡◌, ℕ, zero, suc, ◌<◌, ◌≤◌, ◌==◌, Bool, true, false, cond, nat_lt, ◌⊎◌, inl, inr, List, ◌∷◌, ◌++◌, map, filter, length, get_or, Option}
use Rattle.std.proofs.Common.{Some, None, slice_get, Contains, refl, sym, ap, ◌∙◌, subst, arith, lt-ltb, le-ltb, ne_eqb, eq-eqb, length-append, ◌+◌, []}
use Rattle.std.proofs.lemmas.Bool.{cases_order}
use Rattle.proof_order.specs.Beneath.history.proofs.Among.{Among, among_filter}

-- P holds of each element
abbrev pub Each : {X : Type 0} → (X → Type 0) → List X → Type 0
Each P [] = Unit {0}
Each P (x ∷ xs) = P x × Each P xs

-- ---- what stands among the elements

pub among_get : {X : Type 0} (xs : List X) (i : ℕ) (x : X) → slice_get xs i ≡ Some x → Among x xs
among_get [] i x e = cc
among_get (y ∷ ys) zero x e = inl cc
among_get (y ∷ ys) (suc i) x e = inr (among_get ys i x e)

pub get_among : {X : Type 0} (xs : List X) (x : X) → Among x xs → (i : ℕ) × (slice_get xs i ≡ Some x)
get_among [] x a = absurd a
get_among (y ∷ ys) x (inl e) = (zero, ap Some (sym e))
get_among (y ∷ ys) x (inr a) = let (i, e) = get_among ys x a in (suc i, e)

pub among_get_or : {X : Type 0} (xs : List (Option X)) (k : ℕ) (x : X) → get_or xs k None ≡ Some x → Among (Some x) xs
among_get_or [] k x e = cc
among_get_or (y ∷ ys) zero x e = inl (sym e)
among_get_or (y ∷ ys) (suc k) x e = inr (among_get_or ys k x e)

pub contains_among : {X : Type 0} (xs : List X) (x : X) → Among x xs → Contains xs x
contains_among [] x a = absurd a
contains_among (y ∷ ys) x (inl e) = (zero, omega arith, sym e)
contains_among (y ∷ ys) x (inr a) = let (k, lt, e) = contains_among ys x a in (suc k, omega (arith, lt), e)

pub among_map : {X Y : Type 0} (f : X → Y) (xs : List X) (x : X) → Among x xs → Among (f x) (map f xs)
among_map f [] x a = absurd a
among_map f (y ∷ ys) x (inl e) = inl (ap f e)
among_map f (y ∷ ys) x (inr a) = inr (among_map f ys x a)

pub among_mapped : {X Y : Type 0} (f : X → Y) (xs : List X) (y : Y) → Among y (map f xs) → (x : X) × Among x xs × (f x ≡ y)
among_mapped f [] y a = absurd a
among_mapped f (x ∷ xs) y (inl e) = (x, inl refl, sym e)
among_mapped f (x ∷ xs) y (inr a) = let (z, within, e) = among_mapped f xs y a in (z, inr within, e)

-- ---- what holds of each

pub each_of : {X : Type 0} (P : X → Type 0) (xs : List X) → ((x : X) → Among x xs → P x) → Each P xs
each_of P [] h = tt
each_of P (x ∷ xs) h = (h x (inl refl), each_of P xs (λ y a. h y (inr a)))

pub of_each : {X : Type 0} (P : X → Type 0) (xs : List X) → Each P xs → (x : X) → Among x xs → P x
of_each P [] h x a = absurd a
of_each P (y ∷ ys) h x (inl e) = subst P (sym e) h.0
of_each P (y ∷ ys) h x (inr a) = of_each P ys h.1 x a

-- ---- what a filter keeps

-- a test comes to one of two
pub tested : (b : Bool) → (b ≡ true) ⊎ (b ≡ false)
tested true = inl refl
tested false = inr refl

pub each_filter : {X : Type 0} (P : X → Type 0) (p : X → Bool) (xs : List X) → Each P xs → Each P (filter p xs)
each_filter P p xs h = each_of P (filter p xs) (λ x a. of_each P xs h x (among_filter p xs x a).0)

pub filter_none : {X : Type 0} (p : X → Bool) (xs : List X) → ((x : X) → Among x xs → p x ≡ false) → filter p xs ≡ []
filter_none p [] h = refl
filter_none p (x ∷ xs) h = ap (λ b. cond b (x ∷ filter p xs) (filter p xs)) (h x (inl refl)) ∙ filter_none p xs (λ y a. h y (inr a))

pub filter_all : {X : Type 0} (p : X → Bool) (xs : List X) → ((x : X) → Among x xs → p x ≡ true) → filter p xs ≡ xs
filter_all p [] h = refl
filter_all p (x ∷ xs) h = ap (λ b. cond b (x ∷ filter p xs) (filter p xs)) (h x (inl refl)) ∙ ap (λ l. x ∷ l) (filter_all p xs (λ y a. h y (inr a)))

-- ---- lists along which a number rises

-- f never falls along the list
abbrev pub Along : {X : Type 0} → (X → ℕ) → List X → Type 0
Along f [] = Unit {0}
Along f (x ∷ xs) = Each (λ y. f x ≤ f y) xs × Along f xs

-- tests of a number
abbrev pub below : {X : Type 0} → (X → ℕ) → ℕ → X → Bool
below f n x = nat_lt (f x) n

abbrev pub equals : {X : Type 0} → (X → ℕ) → ℕ → X → Bool
equals f n x = f x == n

-- none is below a number where the first isn't
none_below : {X : Type 0} (f : X → ℕ) (n m : ℕ) (xs : List X) → n ≤ m → Each (λ y. m ≤ f y) xs → filter (below f n) xs ≡ []
none_below f n m xs le h = filter_none (below f n) xs (λ y a. let up = of_each (λ y. m ≤ f y) xs h y a in le-ltb (f y) n (omega arith))

-- those below the next number are those below this one, and then those that have it
pub next_below : {X : Type 0} (f : X → ℕ) (n : ℕ) (xs : List X) → Along f xs → filter (below f (suc n)) xs ≡ filter (below f n) xs ++ filter (equals f n) xs
next_below f n [] h = refl
next_below f n (x ∷ xs) h = elim (cases_order (f x) n) [
  | inl same ↦
      rw (lt-ltb (f x) (suc n) (omega arith), le-ltb (f x) n (omega arith), eq-eqb (f x) n same, none_below f n (f x) xs (omega arith) h.0)
      (ap (λ l. x ∷ l) (next_below f n xs h.1 ∙ ap (λ l. l ++ filter (equals f n) xs) (none_below f n (f x) xs (omega arith) h.0)))
  | inr differ ↦ elim differ [
    | inl lt ↦ rw (lt-ltb (f x) (suc n) (omega arith), lt-ltb (f x) n lt, ne_eqb (f x) n (λ e. omega arith)) (ap (λ l. x ∷ l) (next_below f n xs h.1))
    | inr gt ↦ rw (le-ltb (f x) (suc n) (omega arith), le-ltb (f x) n (omega arith), ne_eqb (f x) n (λ e. omega arith)) (next_below f n xs h.1)
  ]
]

-- those below a number that all are below are all
pub all_below : {X : Type 0} (f : X → ℕ) (n : ℕ) (xs : List X) → ((x : X) → Among x xs → f x < n) → filter (below f n) xs ≡ xs
all_below f n xs h = filter_all (below f n) xs (λ x a. lt-ltb (f x) n (h x a))

-- none is below 0
pub none_below_zero : {X : Type 0} (f : X → ℕ) (xs : List X) → filter (below f 0) xs ≡ []
none_below_zero f xs = filter_none (below f 0) xs (λ x a. le-ltb (f x) 0 (omega arith))

-- ---- ends and emptiness

-- a list isn't itself with one more
pub no_last : {X : Type 0} (xs : List X) (x : X) → xs ≡ xs ++ x ∷ [] → ⊥
no_last xs x e =
    let l : length xs ≡ length xs + 1 = ap length e ∙ length-append xs (x ∷ []) in
    omega arith

-- a list in which nothing stands is empty
pub no_members : {X : Type 0} (xs : List X) → ((x : X) → Among x xs → ⊥) → xs ≡ []
no_members [] none = refl
no_members (x ∷ xs) none = absurd (none x (inl refl))
