-- What the node builders do to contents: whatever finite map is the content of the node before, the map with the change is
-- that of the node after. In all of them a main node stands at a depth, with so many levels below it.
use Rattle.std.specs.Prelude.{◌≡◌, ◌≢◌, ℕ, suc, ◌-◌, ◌<◌, ◌≤◌, true, false, List, [], ◌∷◌, length, slice_index_or, Option, Some}
use Rattle.std.specs.FinMap as map
use Rattle.std.specs.FinMap.{FinMap}
use Rattle.std.specs.Ordering.{nat_cmp}
use Rattle.arrayvec.specs.ArrayVec.{ArrayVec}
use Rattle.proof_contents.specs.Vocabulary.{hash_of, position_of, HashKind, Ref, Node, Indirection, Branch, Single, Tomb, List as Listed, no_ref, index_in, flag_of, has_flag, inserted, updated}
use Rattle.proof_contents.specs.Vocabulary.{removed, renewed, contracted, list_inserted, list_updated, list_removed}
use Rattle.proof_contents.specs.Nodes.Branches.{HasPlaces, at_place}
use Rattle.proof_contents.specs.Nodes.Looking.{Absent, look_among, HoldsMap}
use Rattle.proof_contents.specs.Nodes.Lists.{AreSingles}
use Rattle.proof_contents.specs.Nodes.Changing.{AreInPlace}
use Rattle.proof_contents.specs.Nodes.Chains.{LeadsToPair}

-- What stands under each reference, which main node each indirection has, how keys are hashed, and where the main node stands.
pub record Place : Type 0 where
  pub kind : HashKind
  pub node : Ref → Node
  pub main : Ref → Ref
  pub depth : ℕ
  pub levels : ℕ

abbrev pub HoldsAt : Place → Node → FinMap nat_cmp ℕ → Type 0
HoldsAt place n m = HoldsMap place.node place.main (hash_of place.kind) place.levels place.depth n m

-- the new node has the key with this value, and all else as before
abbrev pub Puts : Place → Node → Node → ℕ → ℕ → Type 0
Puts place old new key value = (m : FinMap nat_cmp ℕ) → HoldsAt place old m → HoldsAt place new (map.insert m key value)

-- the new node doesn't have the key, and all else as before
abbrev pub Removes : Place → Node → Node → ℕ → Type 0
Removes place old new key = (m : FinMap nat_cmp ℕ) → HoldsAt place old m → HoldsAt place new (map.remove m key)

-- the new node has the same content
abbrev pub Keeps : Place → Node → Node → Type 0
Keeps place old new = (m : FinMap nat_cmp ℕ) → HoldsAt place old m → HoldsAt place new m

-- the flag of a key there
abbrev pub flag_there : Place → ℕ → ℕ
flag_there place key = flag_of (hash_of place.kind key) place.depth

-- where the entry of a key's flag stands in a branch of this bitmap, and that entry
abbrev pub position_there : Place → ℕ → ℕ → ℕ
position_there place key bitmap = position_of (flag_there place key) bitmap

abbrev pub entry_there : Place → ℕ → ℕ → ArrayVec Ref → Ref
entry_there place key bitmap entries = slice_index_or entries.items (position_there place key bitmap) no_ref

-- the branch has its entries in their places, and one of the key's flag
abbrev pub IsFlagged : Place → ℕ → ℕ → ArrayVec Ref → Type 0
IsFlagged place key bitmap entries =
    ((places : List (Option Ref)) × HasPlaces bitmap entries.items places) × (has_flag bitmap (flag_there place key) ≡ true)

-- ---- branches

-- a single is inserted where no entry has its key's flag
abbrev pub BranchInserts : Type 0
BranchInserts =
    (place : Place) (bitmap key value : ℕ) (entries : ArrayVec Ref) (places : List (Option Ref)) (single : Ref) → HasPlaces bitmap entries.items places →
    has_flag bitmap (flag_there place key) ≡ false → place.node single ≡ Single key value →
    Puts place (Branch bitmap entries) (inserted (flag_there place key) bitmap entries.items single) key value

-- the key's single gives way to another one of the key
abbrev pub BranchUpdates : Type 0
BranchUpdates =
    (place : Place) (bitmap key former value : ℕ) (entries : ArrayVec Ref) (single : Ref) → IsFlagged place key bitmap entries →
    place.node (entry_there place key bitmap entries) ≡ Single key former → place.node single ≡ Single key value →
    Puts place (Branch bitmap entries) (updated bitmap entries.items (position_there place key bitmap) single) key value

-- the key's single goes
abbrev pub BranchRemoves : Type 0
BranchRemoves =
    (place : Place) (bitmap key former : ℕ) (entries : ArrayVec Ref) → IsFlagged place key bitmap entries →
    place.node (entry_there place key bitmap entries) ≡ Single key former →
    Removes place (Branch bitmap entries) (removed (flag_there place key) bitmap entries.items (position_there place key bitmap)) key

-- of two singles, each in its place, the other one is left in a tomb
abbrev pub BranchEntombs : Type 0
BranchEntombs =
    (place : Place) (bitmap key former other value : ℕ) (entries : ArrayVec Ref) (places : List (Option Ref)) → HasPlaces bitmap entries.items places →
    AreInPlace place.node (hash_of place.kind) place.depth places → has_flag bitmap (flag_there place key) ≡ true → length entries.items ≡ 2 →
    place.node (entry_there place key bitmap entries) ≡ Single key former →
    place.node (slice_index_or entries.items (1 - position_there place key bitmap) no_ref) ≡ Single other value →
    Removes place (Branch bitmap entries) (Tomb (slice_index_or entries.items (1 - position_there place key bitmap) no_ref)) key

-- an indirection that leads to both singles takes the place of another key's single
abbrev pub PairsPut : Type 0
PairsPut =
    (place : Place) (bitmap key value other own generation : ℕ) (entries : ArrayVec Ref) (single link word : Ref) → IsFlagged place key bitmap entries →
    place.node (entry_there place key bitmap entries) ≡ Single other own → other ≢ key → place.node single ≡ Single key value →
    place.node link ≡ Indirection generation word →
    LeadsToPair place.node place.main place.kind other key (entry_there place key bitmap entries) single place.levels (suc place.depth) link →
    Puts place (Branch bitmap entries) (updated bitmap entries.items (position_there place key bitmap) link) key value

-- ---- lists

-- a single of a new key, where there is room
abbrev pub ListInserts : Type 0
ListInserts =
    (place : Place) (key value : ℕ) (singles : ArrayVec Ref) (single : Ref) → length singles.items < 32 → look_among place.node key singles.items ≡ Absent →
    place.node single ≡ Single key value → Puts place (Listed singles) (list_inserted singles.items single) key value

-- another single of the same key
abbrev pub ListUpdates : Type 0
ListUpdates =
    (place : Place) (p key former value : ℕ) (singles : ArrayVec Ref) (single : Ref) → AreSingles place.node singles.items → length singles.items ≤ 32 → p < length singles.items →
    place.node (slice_index_or singles.items p no_ref) ≡ Single key former → place.node single ≡ Single key value →
    Puts place (Listed singles) (list_updated singles.items p single) key value

abbrev pub ListRemoves : Type 0
ListRemoves =
    (place : Place) (p key former : ℕ) (singles : ArrayVec Ref) → AreSingles place.node singles.items → length singles.items ≤ 32 → p < length singles.items →
    place.node (slice_index_or singles.items p no_ref) ≡ Single key former → Removes place (Listed singles) (list_removed singles.items p) key

-- of two singles the other one is left in a tomb
abbrev pub ListEntombs : Type 0
ListEntombs =
    (place : Place) (p key former : ℕ) (singles : ArrayVec Ref) → AreSingles place.node singles.items → length singles.items ≡ 2 → p < length singles.items →
    place.node (slice_index_or singles.items p no_ref) ≡ Single key former →
    Removes place (Listed singles) (Tomb (slice_index_or singles.items (1 - p) no_ref)) key

-- ---- repairs

-- an entry is kept, or renewed over the same main node, or is an indirection over a tomb, and gives way to its single
pub data Replaces (node : Ref → Node) (main : Ref → Ref) (entry other : Ref) : Type 0 where
  kept : entry ≡ other → Replaces node main entry other
  renews : (g h : ℕ) (word word' : Ref) → node entry ≡ Indirection g word → node other ≡ Indirection h word' → main other ≡ main entry → Replaces node main entry other
  cleans : (g key value : ℕ) (word : Ref) → node entry ≡ Indirection g word → node other ≡ Single key value → node (main entry) ≡ Tomb other → Replaces node main entry other

-- a branch of other entries that replace the old ones one by one, with one level below it at least
abbrev pub RenewedKeeps : Type 0
RenewedKeeps =
    (place : Place) (bitmap levels : ℕ) (entries : ArrayVec Ref) (others : List Ref) (places : List (Option Ref)) → place.levels ≡ suc levels →
    HasPlaces bitmap entries.items places → length others ≡ length entries.items →
    ((n : ℕ) → n < length entries.items → Replaces place.node place.main (slice_index_or entries.items n no_ref) (slice_index_or others n no_ref)) →
    Keeps place (Branch bitmap entries) (renewed bitmap others)

-- the same where they are contracted: a single alone, in the place of its hash, becomes a tomb
abbrev pub ContractedKeeps : Type 0
ContractedKeeps =
    (place : Place) (bitmap levels x key value : ℕ) (entries : ArrayVec Ref) (entry single : Ref) (places : List (Option Ref)) → place.levels ≡ suc levels →
    HasPlaces bitmap entries.items places → entries.items ≡ entry ∷ [] → at_place places x ≡ Some entry → index_in (hash_of place.kind key) place.depth ≡ x →
    place.node single ≡ Single key value → Replaces place.node place.main entry single → Keeps place (Branch bitmap entries) (contracted true bitmap (single ∷ []))
