-- Where the way down along a key's hash ends, through indirections of the root's generation over decided branches.
use Rattle.std.specs.Prelude.{◌≡◌, ℕ, ◌<◌, ◌==◌, true, false}
use Rattle.arrayvec.specs.ArrayVec.{ArrayVec}
use Rattle.machine_core.specs.Vocabulary.{position_of, Access, Branch, Indirection, Single, Ref, Heap, node_at, main_at, prev_at, entry_at, most_levels, flag_of, has_flag}
use Rattle.slot_arena.specs.declared.nodes.Prev.TheVariants as prev
use Rattle.machine_core.specs.Beneath.proof_straight.specs.Places.{Leads}
use Rattle.machine_core.specs.declared.descending.Entry.{Entry}
use Rattle.machine_core.specs.declared.descending.Entry.TheVariants.{Vacant, Own, Other}
use Rattle.machine_core.specs.declared.descending.Onward.{Onward}
use Rattle.machine_core.specs.declared.descending.Onward.TheVariants.{Below, Here, Barred}
use Rattle.machine_core.specs.declared.descending.Place.{Place}

-- this is what stands for the key in the place of its flag, at this position of a branch with this bitmap
abbrev pub Stands : Heap → (main : Ref) → (bitmap flag key position : ℕ) → Entry → Type 0
Stands heap main bitmap flag key position Vacant = has_flag bitmap flag ≡ false
Stands heap main bitmap flag key position (Own value) = (has_flag bitmap flag ≡ true) × (node_at heap (entry_at heap main position) ≡ Single key value)
Stands heap main bitmap flag key position Other =
    (has_flag bitmap flag ≡ true) × ((other value : ℕ) × (node_at heap (entry_at heap main position) ≡ Single other value) × ((other == key) ≡ false))

-- the main node is a decided branch, and this stands at this position, the one of the flag
pub record IsHere (heap : Heap) (main : Ref) (flag key position : ℕ) (entry : Entry) : Type 0 where
  pub bitmap : ℕ
  pub entries : ArrayVec Ref
  pub decided : prev_at heap main ≡ prev.None
  pub branch : node_at heap main ≡ Branch bitmap entries
  pub at : position ≡ position_of flag bitmap
  pub stands : Stands heap main bitmap flag key position entry

-- the main node is a decided branch, which has in the place of the flag this indirection, of this generation
pub record IsBelow (heap : Heap) (main : Ref) (flag generation : ℕ) (below : Ref) : Type 0 where
  pub bitmap : ℕ
  pub entries : ArrayVec Ref
  pub word : Ref
  pub decided : prev_at heap main ≡ prev.None
  pub branch : node_at heap main ≡ Branch bitmap entries
  pub flagged : has_flag bitmap flag ≡ true
  pub entry : below ≡ entry_at heap main (position_of flag bitmap)
  pub is : node_at heap below ≡ Indirection generation word

-- what a look into a main node for the key finds
abbrev pub Finds : Heap → (main : Ref) → (flag key : ℕ) → Onward → Type 0
Finds heap main flag key (Below below generation) = IsBelow heap main flag generation below
Finds heap main flag key (Here position entry) = IsHere heap main flag key position entry
Finds heap main flag key Barred = Unit {0}

-- the hash leads from the root down to the place's indirection, where this stands for the key
pub record EndsAt (heap : Heap) (root : Ref) (hash key : ℕ) (place : Place) : Type 0 where
  pub leads : (access : Access) → Leads heap access hash root place.depth place.indirection
  pub deep : place.depth < most_levels
  pub main : place.main ≡ main_at heap place.indirection
  pub flag : place.flag ≡ flag_of hash place.depth
  pub lit : 0 < place.flag
  pub here : IsHere heap place.main place.flag key place.position place.entry
