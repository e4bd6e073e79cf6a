-- What it is to change one key of a main node, and to keep what a main node says.
use Rattle.std.specs.Prelude.{◌≡◌, ◌≢◌, ℕ, List, Option, Some}
use Rattle.proof_contents.specs.Vocabulary.{Ref, Node, Single, index_in, flag_of}
use Rattle.proof_contents.specs.Nodes.Branches.{at_place}
use Rattle.proof_contents.specs.Nodes.Looking.{Found, look_in}

-- what the main node of this depth says of a key
abbrev pub look : (Ref → Node) → (ℕ → ℕ) → ℕ → ℕ → Node → Found
look node hash depth key main_node = look_in node (flag_of (hash key) depth) key main_node

-- The new main node says of one key what it is to say now, and of any other what the old one says.
pub record Changes (node : Ref → Node) (hash : ℕ → ℕ) (depth key : ℕ) (old new : Node) (was is : Found) : Type 0 where
  pub before : look node hash depth key old ≡ was
  pub after : look node hash depth key new ≡ is
  pub others : (q : ℕ) → q ≢ key → look node hash depth q new ≡ look node hash depth q old

-- each single stands at the place of its key's hash
abbrev pub AreInPlace : (Ref → Node) → (ℕ → ℕ) → ℕ → List (Option Ref) → Type 0
AreInPlace node hash depth places = (x key value : ℕ) (entry : Ref) → at_place places x ≡ Some entry → node entry ≡ Single key value → index_in (hash key) depth ≡ x
