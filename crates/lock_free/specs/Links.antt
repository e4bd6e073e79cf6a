-- What a seat has retired may hang in chains: the low half of a slot's count says what comes after it there.
use Rattle.std.specs.Prelude.{◌≡◌, ℕ, ◌+◌, ◌-◌, ◌%◌, ◌^◌, List, Contains, slice_index}
use mathlib.Core.Option.{some}
use lib.ListN.{get_elem?}
use Rattle.lock_free.specs.declared.rules.Retired.{Retired}
use Rattle.lock_free.specs.declared.rules.View.{View}
use Rattle.lock_free.specs.declared.sizes.Sizes.{Sizes}
use Rattle.lock_free.specs.Counts.{IsCount}
use Rattle.lock_free.specs.Places.{count_word}

-- what the word of a count has beside the count
abbrev pub link_in : ℕ → ℕ
link_in found = found % 2 ^ 32

-- the same count with this one in its place
abbrev pub with_link : ℕ → ℕ → ℕ
with_link count link = count - link_in count + link

-- The seat knows the link in this word: it is that of a slot which it has retired, so no other seat changes it.
pub record IsLinked (sizes : Sizes) (words : List ℕ) (v : View) (d : ℕ × ℕ) : Type 0 where
  pub count : IsCount sizes d.0
  pub item : Retired
  pub its : Contains v.retired item
  pub word : d.0 ≡ count_word sizes item.class item.name
  pub is : link_in (slice_index words d.0) ≡ d.1

pub record AreLinked (sizes : Sizes) (words : List ℕ) (views : List View) : Type 0 where
  pub linked : (id : ℕ) (v : View) → get_elem? views id ≡ some v → (d : ℕ × ℕ) → Contains v.links d → IsLinked sizes words v d
