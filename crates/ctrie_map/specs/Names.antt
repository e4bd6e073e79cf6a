-- What the numbers of handles stand for: each open one for a handle of the core below, and for a kind.
use Rattle.std.specs.Prelude.{◌≡◌, ◌⊎◌, ◌<◌, ◌≤◌, ℕ, suc, Option, Some, None, List, [], ◌∷◌, IsSome, is_some, length, option_map, replicate, slice_index_or, slice_set}
use Rattle.std.specs.List.{count_by}
use Rattle.std.specs.FinMap as map
use Rattle.ctrie_map.specs.Vocabulary.{Writable, HandleMap, HandleState, handle_limit}
use Rattle.ctrie_map.specs.declared.names.Name.{Name}

-- by a handle's number its name, if it is open; and the number that was given last
pub record NameTable : Type 0 where
  pub named : List (Option Name)
  pub last : ℕ

-- the name of a number
abbrev pub name_at : NameTable → ℕ → Option Name
name_at names number = slice_index_or names.named number None

-- how many numbers have one
abbrev pub how_many : NameTable → ℕ
how_many names = count_by is_some names.named

-- at first number 0 stands for the core's handle 0, writable
abbrev pub first_names : NameTable
first_names = record { named = slice_set (replicate handle_limit None) 0 (Some (record { core = 0; access = Writable })); last = 0 }

-- the number has this name, or none
abbrev pub with_name : NameTable → ℕ → Option Name → NameTable
with_name names number name = record { named = slice_set names.named number name; last = names.last }

-- it was given to this name
abbrev pub with_given : NameTable → ℕ → Name → NameTable
with_given names number name = record { named = slice_set names.named number (Some name); last = number }

-- those of these numbers that have names, which are numbered from n on
abbrev pub numbers_from : ℕ → List (Option Name) → List ℕ
numbers_from n [] = []
numbers_from n (None ∷ names) = numbers_from (suc n) names
numbers_from n (Some name ∷ names) = n ∷ numbers_from (suc n) names

-- ---- the next number

-- on the way round from the last number to this one the other is passed
abbrev pub IsPassed : ℕ → ℕ → ℕ → Type 0
IsPassed last next number = ((last < number) × (number < next)) ⊎ ((next ≤ last) × ((last < number) ⊎ (number < next)))

-- the first number behind the last one, round about, that isn't open
pub record IsNext (last : ℕ) (handles : HandleMap) (next : ℕ) : Type 0 where
  pub within : next < handle_limit
  pub free : map.get handles next ≡ None
  pub others : (number : ℕ) → number < handle_limit → IsPassed last next number → IsSome (map.get handles number)

-- that has no name, which comes to the same
pub record IsNextFree (names : NameTable) (next : ℕ) : Type 0 where
  pub within : next < handle_limit
  pub free : name_at names next ≡ None
  pub others : (number : ℕ) → number < handle_limit → IsPassed names.last next number → IsSome (name_at names number)

-- ---- what is named

-- what a name is seen as, where the core's handles are these: the map of its handle, with its own kind
abbrev pub shown_by : HandleMap → Option Name → Option HandleState
shown_by world None = None
shown_by world (Some name) = option_map (λ shown. record { access = name.access; pairs = shown.pairs }) (map.get world name.core)

abbrev pub with_shown : HandleMap → ℕ → Option HandleState → HandleMap
with_shown handles number None = handles
with_shown handles number (Some shown) = map.insert handles number shown

-- these names, which are numbered from n on, as handles
abbrev pub named_from : HandleMap → ℕ → List (Option Name) → HandleMap
named_from world n [] = map.empty
named_from world n (name ∷ names) = with_shown (named_from world (suc n) names) n (shown_by world name)

-- the handles
unfoldable pub handles_under : NameTable → HandleMap → HandleMap
handles_under names world = named_from world 0 names.named

-- The names are those of the core's handles: each stands for a writable one of its own, and each of the core's has one.
pub record AreNamesOf (world : HandleMap) (names : NameTable) : Type 0 where
  pub stands : (number : ℕ) (name : Name) → name_at names number ≡ Some name → (m : _) × (map.get world name.core ≡ Some (record { access = Writable; pairs = m }))
  pub own : (number other : ℕ) (name same : Name) → name_at names number ≡ Some name → name_at names other ≡ Some same → name.core ≡ same.core → number ≡ other
  pub all : (core : ℕ) → IsSome (map.get world core) → (number : ℕ) × (name : Name) × (name_at names number ≡ Some name) × (name.core ≡ core)
  pub many : how_many names ≡ map.len world
  pub size : length names.named ≡ handle_limit
