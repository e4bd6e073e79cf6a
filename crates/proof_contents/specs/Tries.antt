-- The trie of a run, with all nodes that were ever made and the main nodes as they change, and the content of a generation
-- before each step, as it looks from the end of the run.
use Rattle.std.specs.Prelude.{◌≡◌, ◌<◌, ℕ, suc, ◌+◌, ◌*◌, ◌%◌, ◌^◌, ◌≤◌, ◌==◌, List, [], ◌∷◌, length, Option, Some, None, if◌then◌else◌}
use Rattle.std.specs.FinMap as map
use Rattle.arrayvec.specs.ArrayVec.{ArrayVec}
use Rattle.proof_contents.specs.Vocabulary.{HashKind, hash_of, KeyMap, Ref, Node, Indirection, Branch, Single, Tomb, List as Listed, generation_of, list_depth}
pub use Rattle.machine_model.specs.Contents.{most_levels}
use Rattle.proof_contents.specs.Nodes.Branches.{HasPlaces, at_place}
use Rattle.proof_contents.specs.Nodes.Looking.{Found, Has, Below, look_among, find_at}
use Rattle.proof_contents.specs.Nodes.Lists.{AreSingles}
use Rattle.proof_contents.specs.Nodes.Changing.{AreInPlace, look}

pub record Trie : Type 0 where
  pub kind : HashKind
  -- how many steps are taken
  pub last : ℕ
  -- the node that stood last under a reference; the main word in an indirection doesn't count
  pub node : Ref → Node
  -- the main node that counts for an indirection before a step
  pub main : ℕ → Ref → Ref
  -- the root of each generation
  pub root : ℕ → Ref
  -- the depth of an indirection, and the part of a hash that leads to it: fixed when it is made
  pub depth : Ref → ℕ
  pub path : Ref → ℕ
  -- the keys of all singles
  pub keys : List ℕ

abbrev pub generation : Trie → Ref → ℕ
generation trie i = generation_of (trie.node i)

-- the node of the indirection's main node before step t
abbrev pub node_in : Trie → ℕ → Ref → Node
node_in trie t i = trie.node (trie.main t i)

-- what the indirection's main node says of a key before step t, for an indirection of this depth
abbrev pub says : Trie → ℕ → ℕ → ℕ → Ref → Found
says trie t key depth i = look trie.node (hash_of trie.kind) depth key (node_in trie t i)

-- the main nodes by which a generation's content is found before step t: its own ones as they are then, all others as they
-- are in the end
abbrev pub assigned : Trie → ℕ → ℕ → Ref → Ref
assigned trie g t i = if generation trie i == g then trie.main t i else trie.main trie.last i

-- the value of a key in a generation before step t
abbrev pub value_at : Trie → ℕ → ℕ → ℕ → Option ℕ
value_at trie g t key = find_at trie.node (assigned trie g t) (hash_of trie.kind) key most_levels 0 (trie.root g)

abbrev pub put_value : ℕ → Option ℕ → KeyMap → KeyMap
put_value key None m = m
put_value key (Some value) m = map.insert m key value

-- the map of these keys' values
abbrev pub map_of : List ℕ → (ℕ → Option ℕ) → KeyMap
map_of [] value = map.empty
map_of (key ∷ keys) value = put_value key (value key) (map_of keys value)

-- the content of a generation before step t
unfoldable pub content : Trie → ℕ → ℕ → KeyMap
content trie g t = map_of trie.keys (value_at trie g t)

-- ---- shape

-- an indirection at this place of a branch of an indirection i
pub record IsChild (trie : Trie) (i : Ref) (x : ℕ) (child : Ref) : Type 0 where
  pub deeper : trie.depth child ≡ suc (trie.depth i)
  pub led : trie.path child ≡ trie.path i + x * 2 ^ (5 * trie.depth i)
  pub older : generation trie child ≤ generation trie i

-- a main node of an indirection i
pub data IsShaped (trie : Trie) (i : Ref) (n : Node) : Type 0 where
  -- above the lists; each entry stands at its place, and the path leads to it
  branch : (bitmap : ℕ) (entries : ArrayVec Ref) (places : List (Option Ref)) → n ≡ Branch bitmap entries → HasPlaces bitmap entries.items places → trie.depth i < list_depth trie.kind →
      AreInPlace trie.node (hash_of trie.kind) (trie.depth i) places →
      ((x key value : ℕ) (single : Ref) → at_place places x ≡ Some single → trie.node single ≡ Single key value →
      hash_of trie.kind key % 2 ^ (5 * trie.depth i) ≡ trie.path i) →
      ((x g : ℕ) (child word : Ref) → at_place places x ≡ Some child → trie.node child ≡ Indirection g word → IsChild trie i x child) → IsShaped trie i n
  -- singles of different keys of one hash, below all levels
  list : (singles : ArrayVec Ref) → n ≡ Listed singles → AreSingles trie.node singles.items → length singles.items ≤ 32 → trie.depth i ≡ list_depth trie.kind →
      ((key value : ℕ) → look_among trie.node key singles.items ≡ Has value → hash_of trie.kind key ≡ trie.path i) → IsShaped trie i n
  -- a single to which the path leads
  tomb : (single : Ref) (key value : ℕ) → n ≡ Tomb single → trie.node single ≡ Single key value →
      hash_of trie.kind key % 2 ^ (5 * trie.depth i) ≡ trie.path i → IsShaped trie i n

-- ---- paths

-- before step t the indirection is reached along a key's hash from the generation's root, through that generation alone
pub data On (trie : Trie) (t g key : ℕ) : ℕ → Ref → Type 0 where
  at_root : generation trie (trie.root g) ≡ g → On trie t g key 0 (trie.root g)
  at_below : (depth : ℕ) (i below : Ref) → On trie t g key depth i → says trie t key depth i ≡ Below below → generation trie below ≡ g → On trie t g key (suc depth) below

-- the indirection's main node before step t is a tomb
abbrev pub IsTombed : Trie → ℕ → Ref → Type 0
IsTombed trie t i = (single : Ref) × (node_in trie t i ≡ Tomb single)
