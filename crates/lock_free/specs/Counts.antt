-- Counts of references: each is of a slot, which has a word for it.
use Rattle.std.specs.Prelude.{◌≡◌, ℕ, ◌+◌, ◌/◌, ◌%◌, ◌^◌, ◌<◌, ◌==◌, if◌then◌else◌, List, [], ◌∷◌, sum_by, count_by, slice_index}
use Rattle.lock_free.specs.declared.rules.View.{View}
use Rattle.lock_free.specs.declared.sizes.Sizes.{Sizes}
use Rattle.lock_free.specs.Places.{count_word, IsSlot}

-- there is a slot with this count
pub record IsCount (sizes : Sizes) (word : ℕ) : Type 0 where
  pub class : ℕ
  pub small : class < 3
  pub name : ℕ
  pub slot : IsSlot sizes class name
  pub is : word ≡ count_word sizes class name

-- The high half of the word says how many references there are beside the first one, or 2 ^ 32 - 1: there is none. So where all of the word is 0 there is one.
abbrev pub references_in : ℕ → ℕ
references_in found = (found / 2 ^ 32 + 1) % 2 ^ 32

abbrev pub references : List ℕ → ℕ → ℕ
references words word = references_in (slice_index words word)

-- it stands so often in the list
abbrev pub how_often : ℕ → List ℕ → ℕ
how_often n = count_by (λ m. m == n)

-- all but one of it
abbrev pub without_one : ℕ → List ℕ → List ℕ
without_one n [] = []
without_one n (m ∷ rest) = if m == n then rest else m ∷ without_one n rest

-- so many references to the node the seats hold themselves
abbrev pub owed_on : ℕ → List View → ℕ
owed_on k views = sum_by (λ (v : View). how_often k v.owed) views
