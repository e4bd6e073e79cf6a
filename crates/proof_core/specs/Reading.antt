-- What is read of a content without a list of all of it.
use Rattle.std.specs.Prelude.{◌≡◌, ◌⊎◌, ℕ, Bool, true, nat_lt, List, [], ◌∷◌, Contains, take, Option, Some, None}
use Rattle.std.specs.List.{filter}
use Rattle.std.specs.Ordering.{nat_cmp, ordering_then}
use Rattle.std.specs.declared.cmp.Ordering.{Ordering}

-- the first of a list
abbrev pub first_of : {A : Type 0} → List A → Option A
first_of [] = None
first_of (x ∷ xs) = Some x

-- one of these pairs, and none exactly where there are none
abbrev pub IsOneOf : List (ℕ × ℕ) → Option (ℕ × ℕ) → Type 0
IsOneOf pairs None = pairs ≡ []
IsOneOf pairs (Some pair) = Contains pairs pair

-- whether a key comes after the last one; each does where there is none
abbrev pub is_after : Option ℕ → ℕ → Bool
is_after None key = true
is_after (Some last) key = nat_lt last key

-- the first pairs whose keys come after the last one, so many at most
abbrev pub next_of : Option ℕ → ℕ → List (ℕ × ℕ) → List (ℕ × ℕ)
next_of after room pairs = take room (filter (λ (pair : ℕ × ℕ). is_after after pair.0) pairs)

-- as a sort compares pairs
abbrev pub by_both : ℕ × ℕ → ℕ × ℕ → Ordering
by_both p q = ordering_then (nat_cmp p.0 q.0) (nat_cmp p.1 q.1)

-- each pair of the one list is in the other, or its key is among these
abbrev pub IsAmong : List ℕ → List (ℕ × ℕ) → List (ℕ × ℕ) → Type 0
IsAmong keys ones others = (pair : ℕ × ℕ) → Contains ones pair → Contains others pair ⊎ Contains keys pair.0

-- the key of each pair that only one of the two lists has is among these
abbrev pub Covers : List ℕ → List (ℕ × ℕ) → List (ℕ × ℕ) → Type 0
Covers keys olds news = IsAmong keys olds news × IsAmong keys news olds
