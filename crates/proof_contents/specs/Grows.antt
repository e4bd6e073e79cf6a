-- What stands under a reference stays, but for the main word of an indirection: what the laws of memory say of a run.
use Rattle.std.specs.Prelude.{◌≡◌, ℕ, ◌≤◌, Some}
use Rattle.proof_contents.specs.Vocabulary.{Ref, Slot, with_main_word, State, grown}

abbrev pub NodesStay : (ℕ → State) → ℕ → Type 0
NodesStay states last =
    (t u : ℕ) → t ≤ u → u ≤ last → (r : Ref) (was : Slot) → grown states t r ≡ Some was →
    (now : Slot) × (grown states u r ≡ Some now) × ((m : Ref) × (now.node ≡ with_main_word m was.node))
