-- What is compared of two maps.
use Rattle.std.specs.Prelude.{ℕ, List, [], ◌∷◌, Contains, Option, Some, None}
use Rattle.std.specs.List.{flat_map}
use Rattle.proof_core.specs.Vocabulary.{Node, Indirection, Single, Ref, Heap, entries_of, logical_main, node_at, refs_of_option, pairs_below}
use Rattle.proof_core.specs.Reading.{Covers}

-- the entries of a main node, if there is one
abbrev pub entries_below : Heap → Option Ref → List Ref
entries_below heap None = []
entries_below heap (Some main) = entries_of (node_at heap main)

abbrev pub main_by : Heap → Ref → Node → Option Ref
main_by heap at (Indirection generation main) = Some (logical_main heap at)
main_by heap at node = None

-- the logical main node of an entry that is an indirection
abbrev pub main_below : Heap → Option Ref → Option Ref
main_below heap None = None
main_below heap (Some at) = main_by heap at (node_at heap at)

abbrev pub single_by : Node → List (ℕ × ℕ)
single_by (Single key value) = (key, value) ∷ []
single_by node = []

-- the pair of an entry that is a single
abbrev pub single_at : Heap → Option Ref → List (ℕ × ℕ)
single_at heap None = []
single_at heap (Some at) = single_by (node_at heap at)

-- the pairs that are reached from an entry, if there is one, within so many levels
abbrev pub pairs_from : ℕ → Heap → Option Ref → List (ℕ × ℕ)
pairs_from levels heap entry = flat_map (pairs_below levels heap) (refs_of_option entry)

-- the pairs that are reached from the entries of a main node, if there is one, within so many levels
abbrev pub pairs_under : ℕ → Heap → Option Ref → List (ℕ × ℕ)
pairs_under levels heap main = flat_map (pairs_below levels heap) (entries_below heap main)

-- each of these keys is among those
abbrev pub Grows : List ℕ → List ℕ → Type 0
Grows before after = (key : ℕ) → Contains before key → Contains after key

-- keys were added: they cover what only one of the two lists has
abbrev pub Adds : List ℕ → List (ℕ × ℕ) → List (ℕ × ℕ) → List ℕ → Type 0
Adds before olds news after = Grows before after × Covers after olds news
