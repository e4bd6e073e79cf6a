-- What a step may do to the main nodes of a trie.
use Rattle.std.specs.Prelude.{◌≡◌, ◌≢◌, ℕ, suc, ◌+◌, ◌-◌, ◌*◌, ◌^◌, ◌<◌, ◌≤◌, true, false, List, [], ◌∷◌, length, slice_index_or, Contains, Option, Some, None}
use Rattle.arrayvec.specs.ArrayVec.{ArrayVec}
use Rattle.proof_contents.specs.Vocabulary.{hash_of, position_of, Call, Ref, Node, Indirection, Branch, Single, Tomb, List as Listed, no_ref, flag_of, has_flag, inserted, updated, removed, renewed}
use Rattle.proof_contents.specs.Vocabulary.{list_inserted, list_updated, list_removed, Sets, Removes, key_of, value_of, inserts, when_found}
use Rattle.proof_contents.specs.Nodes.Looking.{Absent, Below, look_among}
use Rattle.proof_contents.specs.Nodes.Chains.{LeadsToPair}
use Rattle.proof_contents.specs.Tries.{Trie, generation, node_in, says, assigned, On, IsShaped, most_levels}

-- ---- repairs: nodes made by renewing, cleaning and climbing

-- An entry of a branch is kept, or another one takes its place that says the same: an indirection of generation g that has
-- the last main node of one of another generation, or the single of a tomb.
pub data Stays (trie : Trie) (g t : ℕ) (entry other : Ref) : Type 0 where
  kept : entry ≡ other → Stays trie g t entry other
  renewed_by : (h : ℕ) (word word' : Ref) → trie.node entry ≡ Indirection h word → h ≢ g → trie.node other ≡ Indirection g word' →
      trie.main t other ≡ trie.main trie.last entry → Stays trie g t entry other
  untombed : (h : ℕ) (word : Ref) → trie.node entry ≡ Indirection h word → trie.node (assigned trie g t entry) ≡ Tomb other → Stays trie g t entry other

-- a branch whose entries stay, or a tomb where its only entry stays as a single
pub data IsRepair (trie : Trie) (g t : ℕ) (old new : Node) : Type 0 where
  refills : (bitmap : ℕ) (entries : ArrayVec Ref) (others : List Ref) → old ≡ Branch bitmap entries → new ≡ renewed bitmap others → length others ≡ length entries.items →
      ((n : ℕ) → n < length entries.items → Stays trie g t (slice_index_or entries.items n no_ref) (slice_index_or others n no_ref)) → IsRepair trie g t old new
  entombs : (bitmap : ℕ) (entries : ArrayVec Ref) (entry single : Ref) → old ≡ Branch bitmap entries → entries.items ≡ entry ∷ [] → new ≡ Tomb single →
      Stays trie g t entry single → IsRepair trie g t old new

-- ---- own updates of a key

-- What is made of an indirection's main node for a key whose value was former and is to be now.
pub data IsOwnUpdate (trie : Trie) (g t : ℕ) (i : Ref) (key : ℕ) (old new : Node) : Option ℕ → Option ℕ → Type 0 where
  branch_inserts : (bitmap value : ℕ) (entries : ArrayVec Ref) (single : Ref) → old ≡ Branch bitmap entries →
      has_flag bitmap (flag_of (hash_of trie.kind key) (trie.depth i)) ≡ false → trie.node single ≡ Single key value →
      new ≡ inserted (flag_of (hash_of trie.kind key) (trie.depth i)) bitmap entries.items single → IsOwnUpdate trie g t i key old new None (Some value)
  branch_updates : (bitmap former value : ℕ) (entries : ArrayVec Ref) (single : Ref) → old ≡ Branch bitmap entries →
      has_flag bitmap (flag_of (hash_of trie.kind key) (trie.depth i)) ≡ true →
      trie.node (slice_index_or entries.items (position_of (flag_of (hash_of trie.kind key) (trie.depth i)) bitmap) no_ref) ≡ Single key former →
      trie.node single ≡ Single key value →
      new ≡ updated bitmap entries.items (position_of (flag_of (hash_of trie.kind key) (trie.depth i)) bitmap) single → IsOwnUpdate trie g t i key old new (Some former) (Some value)
  branch_removes : (bitmap former : ℕ) (entries : ArrayVec Ref) → old ≡ Branch bitmap entries →
      has_flag bitmap (flag_of (hash_of trie.kind key) (trie.depth i)) ≡ true →
      trie.node (slice_index_or entries.items (position_of (flag_of (hash_of trie.kind key) (trie.depth i)) bitmap) no_ref) ≡ Single key former →
      new ≡ removed (flag_of (hash_of trie.kind key) (trie.depth i)) bitmap entries.items (position_of (flag_of (hash_of trie.kind key) (trie.depth i)) bitmap) →
      IsOwnUpdate trie g t i key old new (Some former) None
  branch_entombs : (bitmap former other value : ℕ) (entries : ArrayVec Ref) → old ≡ Branch bitmap entries → length entries.items ≡ 2 →
      has_flag bitmap (flag_of (hash_of trie.kind key) (trie.depth i)) ≡ true →
      trie.node (slice_index_or entries.items (position_of (flag_of (hash_of trie.kind key) (trie.depth i)) bitmap) no_ref) ≡ Single key former →
      trie.node (slice_index_or entries.items (1 - position_of (flag_of (hash_of trie.kind key) (trie.depth i)) bitmap) no_ref) ≡ Single other value →
      new ≡ Tomb (slice_index_or entries.items (1 - position_of (flag_of (hash_of trie.kind key) (trie.depth i)) bitmap) no_ref) →
      IsOwnUpdate trie g t i key old new (Some former) None
  -- beside another key's single, by a chain of fresh indirections of generation g
  goes_beside : (bitmap other value own levels h : ℕ) (entries : ArrayVec Ref) (single link word : Ref) → old ≡ Branch bitmap entries →
      has_flag bitmap (flag_of (hash_of trie.kind key) (trie.depth i)) ≡ true →
      trie.node (slice_index_or entries.items (position_of (flag_of (hash_of trie.kind key) (trie.depth i)) bitmap) no_ref) ≡ Single other own → other ≢ key →
      trie.node single ≡ Single key value → trie.node link ≡ Indirection h word → levels + suc (trie.depth i) ≡ most_levels →
      LeadsToPair trie.node (assigned trie g (suc t)) trie.kind other key
      (slice_index_or entries.items (position_of (flag_of (hash_of trie.kind key) (trie.depth i)) bitmap) no_ref) single levels (suc (trie.depth i)) link →
      new ≡ updated bitmap entries.items (position_of (flag_of (hash_of trie.kind key) (trie.depth i)) bitmap) link → IsOwnUpdate trie g t i key old new None (Some value)
  list_inserts : (value : ℕ) (singles : ArrayVec Ref) (single : Ref) → old ≡ Listed singles → length singles.items < 32 → look_among trie.node key singles.items ≡ Absent →
      trie.node single ≡ Single key value → new ≡ list_inserted singles.items single → IsOwnUpdate trie g t i key old new None (Some value)
  list_updates : (p former value : ℕ) (singles : ArrayVec Ref) (single : Ref) → old ≡ Listed singles → p < length singles.items →
      trie.node (slice_index_or singles.items p no_ref) ≡ Single key former → trie.node single ≡ Single key value → new ≡ list_updated singles.items p single →
      IsOwnUpdate trie g t i key old new (Some former) (Some value)
  list_removes : (p former : ℕ) (singles : ArrayVec Ref) → old ≡ Listed singles → p < length singles.items →
      trie.node (slice_index_or singles.items p no_ref) ≡ Single key former → new ≡ list_removed singles.items p → IsOwnUpdate trie g t i key old new (Some former) None
  list_entombs : (p former : ℕ) (singles : ArrayVec Ref) → old ≡ Listed singles → length singles.items ≡ 2 → p < length singles.items →
      trie.node (slice_index_or singles.items p no_ref) ≡ Single key former → new ≡ Tomb (slice_index_or singles.items (1 - p) no_ref) →
      IsOwnUpdate trie g t i key old new (Some former) None

-- the call is to change a key's value so
pub data Asks (call : Call) : Option ℕ → Option ℕ → Type 0 where
  to_insert : inserts call ≡ true → Asks call None (Some (value_of call))
  to_set : (former : ℕ) → when_found call former ≡ Sets → Asks call (Some former) (Some (value_of call))
  to_remove : (former : ℕ) → when_found call former ≡ Removes → Asks call (Some former) None

-- ---- steps

-- step t leaves every main node but that of i
abbrev pub LeavesOthers : Trie → ℕ → Ref → Type 0
LeavesOthers trie t i = (j : Ref) → j ≢ i → trie.main (suc t) j ≡ trie.main t j

pub data Does (trie : Trie) (t : ℕ) : Type 0 where
  nothing : ((i : Ref) → trie.main (suc t) i ≡ trie.main t i) → Does trie t
  a_repair : (i : Ref) → LeavesOthers trie t i → IsRepair trie (generation trie i) t (node_in trie t i) (node_in trie (suc t) i) → Does trie t
  an_update : (i : Ref) (key : ℕ) (former now : Option ℕ) → LeavesOthers trie t i →
      IsOwnUpdate trie (generation trie i) t i key (node_in trie t i) (node_in trie (suc t) i) former now → Does trie t

-- All that is assumed of the trie of a run.
pub record IsTrie (trie : Trie) : Type 0 where
  -- each single's key is one of the keys
  pub has_key : (r : Ref) (key value : ℕ) → trie.node r ≡ Single key value → Contains trie.keys key
  -- a root has depth 0, and the empty path leads to it
  pub root_depth : (g : ℕ) → trie.depth (trie.root g) ≡ 0
  pub root_path : (g : ℕ) → trie.path (trie.root g) ≡ 0
  -- a path has five bits for each level
  pub path_fits : (i : Ref) → trie.path i < 2 ^ (5 * trie.depth i)
  -- main nodes have their shape at each time
  pub shaped : (t : ℕ) (i : Ref) → t ≤ trie.last → IsShaped trie i (node_in trie t i)
  -- each step does one of these
  pub does : (t : ℕ) → t < trie.last → Does trie t

-- ---- what operations know

-- Step t is the commit of the call's own update of its key, in generation g, where the key had this value.
pub record Updates (trie : Trie) (t g : ℕ) (call : Call) (former : Option ℕ) : Type 0 where
  -- the indirection, which was once on the key's path
  pub indirection : Ref
  pub once : ℕ
  pub before : once ≤ t
  pub on : On trie once g (key_of call) (trie.depth indirection) indirection
  -- its main node alone is changed, as the call asks
  pub leaves : LeavesOthers trie t indirection
  pub now : Option ℕ
  pub asks : Asks call former now
  pub updates : IsOwnUpdate trie g t indirection (key_of call) (node_in trie t indirection) (node_in trie (suc t) indirection) former now
  -- keys are 64 bits
  pub fits : key_of call < 2 ^ 64

-- Just behind step c a new root of generation h has the main node that the root of generation g has in the end.
pub record Opens (trie : Trie) (c g h : ℕ) : Type 0 where
  pub newer : g < h
  pub old_root : generation trie (trie.root g) ≡ g
  pub new_root : generation trie (trie.root h) ≡ h
  pub in_range : c < trie.last
  pub same : trie.main (suc c) (trie.root h) ≡ trie.main trie.last (trie.root g)

-- An operation on a writable handle that looks for its key is at an indirection, which was once on the key's path in
-- generation g, and had this main node before step t.
pub record Looks (trie : Trie) (t g key : ℕ) (i main : Ref) : Type 0 where
  pub once : ℕ
  pub before : once ≤ t
  pub in_range : t ≤ trie.last
  pub on : On trie once g key (trie.depth i) i
  pub given : trie.main t i ≡ main

-- in the end the indirection is reached along a key's hash from a generation's root
pub data IsReached (trie : Trie) (g key : ℕ) : ℕ → Ref → Type 0 where
  root_is : IsReached trie g key 0 (trie.root g)
  below_is : (depth : ℕ) (i below : Ref) → IsReached trie g key depth i → says trie trie.last key depth i ≡ Below below → IsReached trie g key (suc depth) below
