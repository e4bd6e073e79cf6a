-- The pairs that are reached from an entry, through these main nodes.
use Rattle.std.specs.Prelude.{ℕ, zero, suc, List, [], ◌∷◌, flat_map}
use Rattle.proof_contents.specs.Vocabulary.{Ref, Node, Indirection, Single, entries_of}

abbrev pub pairs_of : (Ref → List (ℕ × ℕ)) → (Ref → Node) → (Ref → Ref) → Ref → Node → List (ℕ × ℕ)
pairs_of below node main r (Single key value) = (key, value) ∷ []
pairs_of below node main r (Indirection generation word) = flat_map below (entries_of (node (main r)))
pairs_of below node main r n = []

-- the pairs of the singles that are reached from an indirection or a single, within so many levels
unfoldable pub pairs_from : (Ref → Node) → (Ref → Ref) → ℕ → Ref → List (ℕ × ℕ)
pairs_from node main zero r = []
pairs_from node main (suc levels) r = pairs_of (pairs_from node main levels) node main r (node r)
