-- Singles that came into an indirection with a main node that was made for it, and were dropped there.
use Rattle.std.specs.Prelude.{◌≡◌, ℕ, suc, ◌<◌, ◌≤◌, true, false, List, Contains, Option, Some}
use Rattle.proof_owned.specs.Beneath.slot_arena.specs.declared.refs.Ref.{Ref}
use Rattle.proof_owned.specs.Beneath.slot_arena.specs.declared.nodes.Node.{Node}
use Rattle.proof_owned.specs.Beneath.slot_arena.specs.declared.nodes.Node.TheVariants.{Single}
use Rattle.proof_owned.specs.Beneath.slot_arena.specs.Heaps.{entries_of}
use Rattle.proof_owned.specs.Beneath.machine_model.specs.declared.building.BuildLine.TheVariants as build
use Rattle.proof_owned.specs.Beneath.machine_model.specs.declared.lines.Line.TheVariants as line
use Rattle.proof_owned.specs.Beneath.machine_model.specs.declared.lines.Purpose.{Purpose}
use Rattle.proof_owned.specs.Beneath.machine_model.specs.declared.lines.Purpose.TheVariants as purpose
use Rattle.proof_owned.specs.Beneath.machine_model.specs.declared.operations.Operation.{Operation}
use Rattle.proof_owned.specs.Beneath.machine_model.specs.declared.steps.Bounds.{Bounds}
use Rattle.proof_owned.specs.Beneath.machine_model.specs.declared.steps.Step.{Step}
use Rattle.proof_owned.specs.Beneath.machine_model.specs.Grown.{node_under, main_before, main_word}
use Rattle.proof_owned.specs.Beneath.machine_model.specs.Keys.{KeysFit}
use Rattle.proof_owned.specs.Beneath.machine_model.specs.Machine.{AreBounds}
use Rattle.proof_owned.specs.Beneath.machine_model.specs.States.{State, operation_of}
use Rattle.proof_owned.specs.Beneath.machine_model.specs.Swapping.{swapping}
use Rattle.proof_owned.specs.Beneath.machine_model.specs.Times.{states_of, last_of}
use Rattle.proof_owned.specs.Beneath.proof_memory.specs.Wants.{is_indirection}
use Rattle.proof_owned.specs.Owned.{IsLinked}

-- a node has the entry
abbrev pub Has : Node → Ref → Type 0
Has node r = Contains (entries_of node) r

-- Before step t an operation brought the single into the indirection with this main node: it swapped the node in for a change of a key, over one that hadn't
-- the single, or made the indirection over it beside a main node that hadn't it (BUILD).
pub data CameWith (states : ℕ → State) (t : ℕ) (i m s : Ref) : Type 0 where
  swapped : (u k : ℕ) (operation : Operation) (path : List Ref) (former : Option ℕ) (a : Ref) → u < t → operation_of (states u) k ≡ Some operation →
      operation.line ≡ line.Swap (purpose.Update path former) (swapping i a m) → main_word states (suc u) i ≡ m →
      Has (node_under states u m) s → ¬ Has (node_under states u a) s → CameWith states t i m s
  built : (u k : ℕ) (operation : Operation) (path : List Ref) (main : Ref) (position depth : ℕ) → u < t → operation_of (states u) k ≡ Some operation →
      operation.line ≡ line.Build (build.Link path main position m depth) → is_indirection (node_under states u i) ≡ false → is_indirection (node_under states (suc u) i) ≡ true →
      main_word states (suc u) i ≡ m → Has (node_under states u m) s → ¬ Has (node_under states u main) s → CameWith states t i m s

-- the main node that counts for the indirection before step t
abbrev pub main_then : Bounds → List Step → ℕ → Ref → Node
main_then limits steps t i = node_under (states_of limits steps) t (main_before (states_of limits steps) t i)

-- The single came into the indirection with a main node, and stood in each that counted from then on, up to this time.
pub record HasStayed (limits : Bounds) (steps : List Step) (i s : Ref) (until : ℕ) : Type 0 where
  pub main : Ref
  pub came : CameWith (states_of limits steps) (last_of limits steps) i main s
  pub first : ℕ
  pub order : first ≤ until
  pub link : is_indirection (node_under (states_of limits steps) first i) ≡ true
  pub is : main_before (states_of limits steps) first i ≡ main
  pub since : (v : ℕ) → first ≤ v → v ≤ until → Has (main_then limits steps v i) s

-- The step that comes then took it out, with no indirection in its place.
pub record IsDropped (limits : Bounds) (steps : List Step) (i s : Ref) : Type 0 where
  pub key : ℕ
  pub value : ℕ
  pub single : node_under (states_of limits steps) (last_of limits steps) s ≡ Single key value
  pub until : ℕ
  pub within : suc until ≤ last_of limits steps
  pub stayed : HasStayed limits steps i s until
  pub gone : ¬ Has (main_then limits steps (suc until) i) s
  pub nothing_new : (c : Ref) → is_indirection (node_under (states_of limits steps) (last_of limits steps) c) ≡ true → Has (main_then limits steps (suc until) i) c →
      Has (main_then limits steps until i) c

-- no root leads to it
abbrev pub DroppedIsUnlinked : Type 0
DroppedIsUnlinked =
    (limits : Bounds) (steps : List Step) → AreBounds limits → KeysFit steps → (i s : Ref) → IsDropped limits steps i s → ¬ IsLinked (states_of limits steps (last_of limits steps)) s

-- ---- marks

-- A mark that a main node has of its single: set where the single came in with it, and kept where the node is swapped in over one that has the mark.
pub data IsMarked (states : ℕ → State) (i s : Ref) : ℕ → Ref → Type 0 where
  comes : (t : ℕ) (m : Ref) → CameWith states t i m s → IsMarked states i s t m
  keeps : (t : ℕ) (m : Ref) (u k : ℕ) (operation : Operation) (why : Purpose) (a : Ref) → u < t → operation_of (states u) k ≡ Some operation →
      operation.line ≡ line.Swap why (swapping i a m) → main_word states (suc u) i ≡ m → IsMarked states i s u a → Has (node_under states u m) s → IsMarked states i s t m

-- where the main node that counts has the mark, the single has stayed
abbrev pub MarkedHasStayed : Type 0
MarkedHasStayed =
    (limits : Bounds) (steps : List Step) → AreBounds limits → (t : ℕ) → t ≤ last_of limits steps → (i m s : Ref) → IsMarked (states_of limits steps) i s t m →
    is_indirection (node_under (states_of limits steps) t i) ≡ true → main_before (states_of limits steps) t i ≡ m → HasStayed limits steps i s t
