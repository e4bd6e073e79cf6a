-- A list of singles of different keys.
use Rattle.std.specs.Prelude.{◌≡◌, ℕ, List, [], ◌∷◌, ⊤}
use Rattle.proof_contents.specs.Vocabulary.{Ref, Node, Single}
use Rattle.proof_contents.specs.Nodes.Looking.{Absent, look_among}

-- this is the single of a key that none of the others has
pub record IsNew (node : Ref → Node) (single : Ref) (others : List Ref) : Type 0 where
  pub key : ℕ
  pub value : ℕ
  pub is : node single ≡ Single key value
  pub none : look_among node key others ≡ Absent

-- these are singles of different keys
abbrev pub AreSingles : (Ref → Node) → List Ref → Type 0
AreSingles node [] = ⊤
AreSingles node (single ∷ singles) = IsNew node single singles × AreSingles node singles
