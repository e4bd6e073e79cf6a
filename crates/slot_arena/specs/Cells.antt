-- Slots from what stands in them, part by part.
use Rattle.std.specs.Prelude.{◌≡◌, ℕ, ◌<◌, List, [], ◌∷◌, Option, Some, None, length, slice_index_or}
use Rattle.slot_arena.specs.declared.nodes.Node.{Node}
use Rattle.slot_arena.specs.declared.nodes.Prev.{Prev}
use Rattle.slot_arena.specs.declared.nodes.Prev.TheVariants as prev
use Rattle.slot_arena.specs.declared.nodes.Slot.{Slot}

-- a slot is in use where a node stands in it
abbrev pub slot_from : ℕ → Option Node → Prev → Option Slot
slot_from birth None word = None
slot_from birth (Some node) word = Some (record { birth = birth; node = node; prev = word })

abbrev pub slots_from : List ℕ → List (Option Node) → List Prev → List (Option Slot)
slots_from [] nodes prevs = []
slots_from (birth ∷ births) [] prevs = []
slots_from (birth ∷ births) (there ∷ nodes) [] = []
slots_from (birth ∷ births) (there ∷ nodes) (word ∷ prevs) = slot_from birth there word ∷ slots_from births nodes prevs

-- where no node stands there is no birth and no prev word, and where one stands there is a birth
abbrev pub Agree : ℕ → Option Node → Prev → Type 0
Agree birth None word = (birth ≡ 0) × (word ≡ prev.None)
Agree birth (Some node) word = 0 < birth

-- the parts of each slot are there, and agree
pub record AreParts (births : List ℕ) (nodes : List (Option Node)) (prevs : List Prev) : Type 0 where
  pub nodes_all : length nodes ≡ length births
  pub prevs_all : length prevs ≡ length births
  pub each : (slot : ℕ) → Agree (slice_index_or births slot 0) (slice_index_or nodes slot None) (slice_index_or prevs slot prev.None)

-- the birth of what stands in the slot
abbrev pub birth_of_slot : Option Slot → ℕ
birth_of_slot None = 0
birth_of_slot (Some slot) = slot.birth
