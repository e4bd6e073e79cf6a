-- What the entries of a node that a builder makes are.
use Rattle.std.proofs.Common.{◌≡◌, ℕ, zero, suc, ◌⊎◌, ◌==◌, bit_or, nat_lt, Bool, true, false, cond, List, [], ◌∷◌, ◌++◌, length, take, drop, set, Contains, inl, inr, refl, sym, ap, arith}
use Rattle.std.proofs.lemmas.Bool.{cases_eq}
use Rattle.std.proofs.lemmas.List.Elements.{Contains-append_cases}
use Rattle.std.specs.List.{insert, remove}
use Rattle.proof_shape.specs.Vocabulary.{position_of, Change, changed, HashKind, Ref, Node, Indirection, Branch, Single, Tomb, List as Listed, entries_of, entries_from, list_depth, index_in}
use Rattle.proof_shape.specs.Vocabulary.{flag_of, pair, rung, by_index, contracted}
use Rattle.proof_shape.specs.Beneath.machine_model.specs.declared.building.Change.TheVariants as change

pub no_entry : {X : Type 0} (x : X) → Contains [] x → ⊥
no_entry x (i, lt, e) = absurd (omega arith)

pub first_or_rest : (y : Ref) (ys : List Ref) (x : Ref) → Contains (y ∷ ys) x → (x ≡ y) ⊎ Contains ys x
first_or_rest y ys x (zero, lt, e) = inl (sym e)
first_or_rest y ys x (suc i, lt, e) = inr (i, omega arith, e)

pub one_entry : (y x : Ref) → Contains (y ∷ []) x → x ≡ y
one_entry y x c = by_cases (first_or_rest y [] x c)
  where
    by_cases : (x ≡ y) ⊎ Contains [] x → x ≡ y
    by_cases (inl same) = same
    by_cases (inr none) = absurd (no_entry x none)

in_rest : (y : Ref) (ys : List Ref) (x : Ref) → Contains ys x → Contains (y ∷ ys) x
in_rest y ys x (i, lt, e) = (suc i, omega arith, e)

-- it is an element or not
pub contains_or_not : (xs : List Ref) (x : Ref) → Contains xs x ⊎ (Contains xs x → ⊥)
contains_or_not [] x = inr (no_entry x)
contains_or_not (y ∷ ys) x = by_first (cases_eq x y) (contains_or_not ys x)
  where
    by_first : (x ≡ y) ⊎ (x ≡ y → ⊥) → Contains ys x ⊎ (Contains ys x → ⊥) → Contains (y ∷ ys) x ⊎ (Contains (y ∷ ys) x → ⊥)
    by_first (inl same) rest = inl (0, omega arith, sym same)
    by_first (inr apart) (inl c) = inl (in_rest y ys x c)
    by_first (inr apart) (inr none) = inr (λ c. by_cases (first_or_rest y ys x c))
      where
        by_cases : (x ≡ y) ⊎ Contains ys x → ⊥
        by_cases (inl same) = apart same
        by_cases (inr c) = none c

pub of_take : (n : ℕ) (xs : List Ref) (x : Ref) → Contains (take n xs) x → Contains xs x
of_take zero xs x c = absurd (no_entry x c)
of_take (suc n) [] x c = c
of_take (suc n) (y ∷ ys) x c = by_cases (first_or_rest y (take n ys) x c) (of_take n ys x)
  where
    by_cases : (x ≡ y) ⊎ Contains (take n ys) x → (Contains (take n ys) x → Contains ys x) → Contains (y ∷ ys) x
    by_cases (inl same) rest = (0, omega arith, sym same)
    by_cases (inr c) rest = in_rest y ys x (rest c)

of_drop : (n : ℕ) (xs : List Ref) (x : Ref) → Contains (drop n xs) x → Contains xs x
of_drop zero xs x c = c
of_drop (suc n) [] x c = c
of_drop (suc n) (y ∷ ys) x c = in_rest y ys x (of_drop n ys x c)

-- an element of a list with another element in a place
pub of_set : (xs : List Ref) (n : ℕ) (z x : Ref) → Contains (set xs n z) x → Contains xs x ⊎ (x ≡ z)
of_set [] n z x c = inl c
of_set (y ∷ ys) zero z x c = by_cases (first_or_rest z ys x c)
  where
    by_cases : (x ≡ z) ⊎ Contains ys x → Contains (y ∷ ys) x ⊎ (x ≡ z)
    by_cases (inl same) = inr same
    by_cases (inr c) = inl (in_rest y ys x c)
of_set (y ∷ ys) (suc n) z x c = by_cases (first_or_rest y (set ys n z) x c) (of_set ys n z x)
  where
    by_rest : Contains ys x ⊎ (x ≡ z) → Contains (y ∷ ys) x ⊎ (x ≡ z)
    by_rest (inl c) = inl (in_rest y ys x c)
    by_rest (inr same) = inr same

    by_cases : (x ≡ y) ⊎ Contains (set ys n z) x → (Contains (set ys n z) x → Contains ys x ⊎ (x ≡ z)) → Contains (y ∷ ys) x ⊎ (x ≡ z)
    by_cases (inl same) rest = inl (0, omega arith, sym same)
    by_cases (inr c) rest = by_rest (rest c)

of_insert : (xs : List Ref) (n : ℕ) (z x : Ref) → Contains (insert xs n z) x → Contains xs x ⊎ (x ≡ z)
of_insert xs n z x c = by_cases (Contains-append_cases (take n xs) (z ∷ drop n xs) x c)
  where
    by_rest : (x ≡ z) ⊎ Contains (drop n xs) x → Contains xs x ⊎ (x ≡ z)
    by_rest (inl same) = inr same
    by_rest (inr c) = inl (of_drop n xs x c)

    by_cases : Contains (take n xs) x ⊎ Contains (z ∷ drop n xs) x → Contains xs x ⊎ (x ≡ z)
    by_cases (inl c) = inl (of_take n xs x c)
    by_cases (inr c) = by_rest (first_or_rest z (drop n xs) x c)

of_remove : (xs : List Ref) (n : ℕ) (x : Ref) → Contains (remove xs n) x → Contains xs x
of_remove xs n x c = by_cases (Contains-append_cases (take n xs) (drop (suc n) xs) x c)
  where
    by_cases : Contains (take n xs) x ⊎ Contains (drop (suc n) xs) x → Contains xs x
    by_cases (inl c) = of_take n xs x c
    by_cases (inr c) = of_drop (suc n) xs x c

-- ---- builders

two_entries : (x y r : Ref) → Contains (x ∷ y ∷ []) r → (r ≡ x) ⊎ (r ≡ y)
two_entries x y r c = by_cases (first_or_rest x (y ∷ []) r c)
  where
    by_cases : (r ≡ x) ⊎ Contains (y ∷ []) r → (r ≡ x) ⊎ (r ≡ y)
    by_cases (inl same) = inl same
    by_cases (inr c) = inr (one_entry y r c)

swap_sides : (x y r : Ref) → (r ≡ y) ⊎ (r ≡ x) → (r ≡ x) ⊎ (r ≡ y)
swap_sides x y r (inl e) = inr e
swap_sides x y r (inr e) = inl e

pub pair_entries : (kind : HashKind) (d a b : ℕ) (x y r : Ref) → Contains (entries_of (pair kind d a b x y)) r → (r ≡ x) ⊎ (r ≡ y)
pair_entries kind d a b x y r c = by_depth (d == list_depth kind) c
  where
    by_order : (o : Bool) → Contains (take 32 (cond o (x ∷ y ∷ []) (y ∷ x ∷ []))) r → (r ≡ x) ⊎ (r ≡ y)
    by_order true c = two_entries x y r c
    by_order false c = swap_sides x y r (two_entries y x r c)

    by_depth : (o : Bool) →
        Contains (entries_of (cond o (Listed (entries_from (x ∷ y ∷ []))) (Branch (bit_or (flag_of a d) (flag_of b d)) (entries_from (by_index (index_in a d) (index_in b d) x y))))) r →
        (r ≡ x) ⊎ (r ≡ y)
    by_depth true c = two_entries x y r c
    by_depth false c = by_order (nat_lt (index_in a d) (index_in b d)) c

pub pair_not_rung : (kind : HashKind) (d a b : ℕ) (x y : Ref) (hash e r : ℕ) → pair kind d a b x y ≡ rung hash e r → ⊥
pair_not_rung kind d a b x y hash e r same = two_not_one (length (entries_of (pair kind d a b x y))) (count (d == list_depth kind)) (ap (λ n. length (entries_of n)) same)
  where
    two_not_one : (n : ℕ) → n ≡ 2 → n ≡ 1 → ⊥
    two_not_one n a b = omega arith

    by_order : (o : Bool) → length (take 32 (cond o (x ∷ y ∷ []) (y ∷ x ∷ []))) ≡ 2
    by_order true = refl
    by_order false = refl

    count : (o : Bool) → length (entries_of (cond o (Listed (entries_from (x ∷ y ∷ []))) (Branch (bit_or (flag_of a d) (flag_of b d)) (entries_from (by_index (index_in a d) (index_in b d) x y))))) ≡ 2
    count true = refl
    count false = by_order (nat_lt (index_in a d) (index_in b d))

pub contracted_entries : (b : Bool) (bitmap : ℕ) (es : List Ref) (r : Ref) → Contains (entries_of (contracted b bitmap es)) r → Contains es r
contracted_entries true bitmap (x ∷ []) r c = c
contracted_entries true bitmap [] r c = of_take 32 [] r c
contracted_entries true bitmap (x ∷ y ∷ es) r c = of_take 32 (x ∷ y ∷ es) r c
contracted_entries false bitmap es r c = of_take 32 es r c

-- what a change brings in
abbrev pub IsBrought : Change → Ref → Type 0
IsBrought (change.Insert single) r = r ≡ single
IsBrought (change.Update position entry) r = r ≡ entry
IsBrought (change.Remove position) r = ⊥
IsBrought (change.Entomb single) r = r ≡ single

pub changed_entries : (flag : ℕ) (n : Node) (c : Change) (r : Ref) → Contains (entries_of (changed flag n c)) r → Contains (entries_of n) r ⊎ IsBrought c r
changed_entries flag (Branch b es) (change.Insert single) r c = of_insert es.items (position_of flag b) single r (of_take 32 (insert es.items (position_of flag b) single) r c)
changed_entries flag (Branch b es) (change.Update position entry) r c = of_set es.items position entry r (of_take 32 (set es.items position entry) r c)
changed_entries flag (Branch b es) (change.Remove position) r c = inl (of_remove es.items position r (of_take 32 (remove es.items position) r c))
changed_entries flag (Branch b es) (change.Entomb single) r c = inr (one_entry single r c)
changed_entries flag (Listed es) (change.Insert single) r c = by_cases (Contains-append_cases es.items (single ∷ []) r (of_take 32 (es.items ++ single ∷ []) r c))
  where
    by_cases : Contains es.items r ⊎ Contains (single ∷ []) r → Contains es.items r ⊎ (r ≡ single)
    by_cases (inl c) = inl c
    by_cases (inr c) = inr (one_entry single r c)
changed_entries flag (Listed es) (change.Update position entry) r c = of_set es.items position entry r (of_take 32 (set es.items position entry) r c)
changed_entries flag (Listed es) (change.Remove position) r c = inl (of_remove es.items position r (of_take 32 (remove es.items position) r c))
changed_entries flag (Listed es) (change.Entomb single) r c = inr (one_entry single r c)
changed_entries flag (Indirection g w) c r e = inl e
changed_entries flag (Single k v) c r e = inl e
changed_entries flag (Tomb s) c r e = inl e
