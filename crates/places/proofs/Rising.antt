-- The rising places are the only rising list of the same places.
use Rattle.std.specs.Prelude.{◌≡◌, List}
use Rattle.std.specs.List.Sorted.{IsSortedBy, IsPermutation}
use Rattle.ctrie_base.proofs.Sorting.{Alike, IsOrder, Rises as RisesBy, sorted_rises, sorted_alike, sorted_same, std_rises, std_sorted}
use Rattle.ctrie_base.proofs.Sorting as sorting
use Rattle.places.specs.declared.place.Place.{Place}
use Rattle.places.specs.Places.{is_before, rising}
use Rattle.places.proofs.Comparing.{not_both, not_through, not_itself, neither, compared, same_test}

-- none is before the one in front of it
abbrev pub Rises : List Place → Type 0
Rises = RisesBy is_before

places_order : IsOrder is_before
places_order = record { not_both = not_both; not_through = not_through; not_itself = not_itself; neither = neither }

pub rising_rises : (ps : List Place) → Rises (rising ps)
rising_rises = sorted_rises is_before places_order

pub rising_counts : (ps : List Place) → Alike (rising ps) ps
rising_counts = sorted_alike is_before places_order

pub same_rising : (ps qs : List Place) → Rises ps → Rises qs → Alike ps qs → ps ≡ qs
same_rising = sorting.same_rising is_before places_order

-- the rising places depend only on which places there are
pub rising_alike : (ps qs : List Place) → Alike ps qs → rising ps ≡ rising qs
rising_alike = sorted_same is_before places_order

-- what a sort made of places rises
pub sorted_list_rises : (ps : List Place) → IsSortedBy compared ps → Rises ps
sorted_list_rises = std_rises is_before compared same_test

-- and is the rising places
pub sorted_is_rising : (ps qs : List Place) → IsPermutation ps qs → IsSortedBy compared qs → qs ≡ rising ps
sorted_is_rising = std_sorted is_before compared places_order same_test
