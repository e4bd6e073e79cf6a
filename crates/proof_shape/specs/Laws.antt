-- The shape of the trie, for every list of steps whose keys have 64 bits.
use Rattle.std.specs.Prelude.{◌≡◌, ℕ, suc, ◌+◌, ◌*◌, ◌^◌, ◌<◌, ◌≤◌, true, T, List, [], ◌∷◌, ◌++◌, length, slice_index_or, Option, Some}
use Rattle.std.specs.FinMap.Entries.{is_sorted}
use Rattle.std.specs.Ordering.{nat_cmp}
use Rattle.arrayvec.specs.ArrayVec.{ArrayVec}
use Rattle.proof_shape.specs.Vocabulary.{hash_of, Ref, Node, Indirection, Branch, Single, List as Listed, Slot, node_at, logical_main, no_ref, list_depth, index_in, Operation, Root, Bounds, Step}
use Rattle.proof_shape.specs.Vocabulary.{key_of, root_at, root_of, operation_of, AreBounds, run, content_at, pairs_below, most_levels, standing, KeysFit, HasPlaces, at_place, AreSingles, Has}
use Rattle.proof_shape.specs.Vocabulary.{look_among, is_branch, IsInUse}
use Rattle.proof_shape.specs.Beneath.proof_memory.specs.Wants.{is_indirection}
use Rattle.proof_shape.specs.Sites.Nodes.{path_to, depth_at, level_of, path_of}
use Rattle.proof_shape.specs.Sites.At.{way_of}

abbrev pub depth_of : Bounds → List Step → Ref → ℕ
depth_of limits steps r = depth_at (level_of limits steps r)

-- ---- sites

-- a reference in use keeps its level and its path for life
abbrev pub SitesAreFixed : Type 0
SitesAreFixed =
    (limits : Bounds) (steps more : List Step) (r : Ref) → AreBounds limits → IsInUse (run limits steps).heap r →
    (level_of limits (steps ++ more) r ≡ level_of limits steps r) × (path_of limits (steps ++ more) r ≡ path_of limits steps r)

abbrev pub OneSite : Bounds → List Step → Ref → Ref → Type 0
OneSite limits steps r q = (level_of limits steps r ≡ level_of limits steps q) × (path_of limits steps r ≡ path_of limits steps q)

-- a main node that stands in an indirection's word, or is its logical one, has its level and path; roots have level 1, and the empty path
abbrev pub MainsShareSites : Type 0
MainsShareSites =
    (limits : Bounds) (steps : List Step) → AreBounds limits → KeysFit steps →
    ((i : Ref) (slot : Slot) (g : ℕ) (main : Ref) → standing (run limits steps).heap i ≡ Some slot → slot.node ≡ Indirection g main →
    OneSite limits steps main i × OneSite limits steps (logical_main (run limits steps).heap i) i)
    × ((handle : ℕ) (root : Root) → root_at (run limits steps) handle ≡ Some root → (level_of limits steps (root_of root.word) ≡ 1) × (path_of limits steps (root_of root.word) ≡ 0))

-- the d-th indirection of an operation's path stands at depth d, on the way to its key's hash; there are 14 at most
abbrev pub PathsAreShort : Type 0
PathsAreShort =
    (limits : Bounds) (steps : List Step) (actor : ℕ) (operation : Operation) → AreBounds limits → KeysFit steps → operation_of (run limits steps) actor ≡ Some operation →
    (length (way_of operation.line) ≤ 14)
    × ((d : ℕ) → d < length (way_of operation.line) →
    let i = slice_index_or (way_of operation.line) d no_ref in
    (level_of limits steps i ≡ suc d) × (path_of limits steps i ≡ path_to (hash_of limits.hash (key_of operation.call)) d))

-- ---- main nodes

-- what stands at a place of a branch: a single of that place's index, to which the branch's path leads; or an indirection one level deeper, whose path
-- is the branch's with that index
abbrev pub StandsAt : Bounds → List Step → Ref → ℕ → Ref → Node → Type 0
StandsAt limits steps r x entry (Single key value) =
    (index_in (hash_of limits.hash key) (depth_of limits steps r) ≡ x) × (path_to (hash_of limits.hash key) (depth_of limits steps r) ≡ path_of limits steps r)
StandsAt limits steps r x entry (Indirection g main) =
    (depth_of limits steps entry ≡ suc (depth_of limits steps r))
    × (path_of limits steps entry ≡ path_of limits steps r + x * 2 ^ (5 * depth_of limits steps r))
StandsAt limits steps r x entry n = ⊥

-- a branch has an entry for each one of its bitmap, in order, and each stands at its place
abbrev pub BranchesAreExact : Type 0
BranchesAreExact =
    (limits : Bounds) (steps : List Step) (r : Ref) (slot : Slot) (bitmap : ℕ) (entries : ArrayVec Ref) → AreBounds limits → KeysFit steps →
    standing (run limits steps).heap r ≡ Some slot → slot.node ≡ Branch bitmap entries →
    (depth_of limits steps r < list_depth limits.hash)
    × ((places : List (Option Ref)) × HasPlaces bitmap entries.items places
    × ((x : ℕ) (entry : Ref) → at_place places x ≡ Some entry → StandsAt limits steps r x entry (node_at (run limits steps).heap entry)))

-- a branch below the root isn't empty, and an entry that stands there alone is an indirection: where one single alone would be left there is a tomb
abbrev pub BranchesBelowRoots : Type 0
BranchesBelowRoots =
    (limits : Bounds) (steps : List Step) (r : Ref) (slot : Slot) (bitmap : ℕ) (entries : ArrayVec Ref) → AreBounds limits → KeysFit steps →
    standing (run limits steps).heap r ≡ Some slot → slot.node ≡ Branch bitmap entries → 0 < depth_of limits steps r →
    (1 ≤ length entries.items) × ((one : Ref) → entries.items ≡ one ∷ [] → is_indirection (node_at (run limits steps).heap one) ≡ true)

-- a list has 2 to 32 singles of different keys of one hash, and stands below the last level
abbrev pub ListsAreCrowds : Type 0
ListsAreCrowds =
    (limits : Bounds) (steps : List Step) (r : Ref) (slot : Slot) (singles : ArrayVec Ref) → AreBounds limits → KeysFit steps →
    standing (run limits steps).heap r ≡ Some slot → slot.node ≡ Listed singles →
    (depth_of limits steps r ≡ list_depth limits.hash) × (2 ≤ length singles.items) × (length singles.items ≤ 32)
    × AreSingles (node_at (run limits steps).heap) singles.items
    × ((key value : ℕ) → look_among (node_at (run limits steps).heap) key singles.items ≡ Has value → hash_of limits.hash key ≡ path_of limits steps r)

-- ---- what handles reach

-- the main node of a root is a branch
abbrev pub RootsHaveBranches : Type 0
RootsHaveBranches =
    (limits : Bounds) (steps : List Step) (handle : ℕ) (root : Root) → AreBounds limits → root_at (run limits steps) handle ≡ Some root →
    is_branch (node_at (run limits steps).heap (logical_main (run limits steps).heap (root_of root.word))) ≡ true

-- the keys of a handle's content rise, so none stands twice; and to go deeper finds no more
abbrev pub NoKeyTwice : Type 0
NoKeyTwice =
    (limits : Bounds) (steps : List Step) (handle : ℕ) (root : Root) → AreBounds limits → KeysFit steps → root_at (run limits steps) handle ≡ Some root →
    T (is_sorted nat_cmp (content_at (run limits steps) handle))
    × ((more : ℕ) → pairs_below (most_levels + more) (run limits steps).heap (root_of root.word) ≡ pairs_below most_levels (run limits steps).heap (root_of root.word))
