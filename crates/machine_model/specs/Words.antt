-- Which words a step of an operation reads and changes. Threads see a root word for each handle, and of each slot a main word, a prev word, and what else
-- its node has, which never changes while it stands there. Beside these a step reads and changes what no thread sees: counts, limbo, the epoch's records.
use Rattle.std.specs.Prelude.{◌≡◌, ◌⊎◌, ℕ, true, false, List, ◌∷◌, Option, Some, None, option_map, slice_index_or, Ok}
use Rattle.machine_model.specs.Beneath.slot_arena.specs.declared.refs.Ref.{Ref}
use Rattle.machine_model.specs.Beneath.slot_arena.specs.declared.nodes.Node.{Node}
use Rattle.machine_model.specs.Beneath.slot_arena.specs.declared.nodes.Prev.{Prev}
use Rattle.machine_model.specs.Beneath.slot_arena.specs.declared.nodes.Slot.{Slot}
use Rattle.machine_model.specs.Beneath.slot_arena.specs.Arenas.{is_indirection}
use Rattle.machine_model.specs.Beneath.slot_arena.specs.Refs.{slot_of}
use Rattle.machine_model.specs.Beneath.slot_arena.specs.Heaps.{Heap, main_at, main_of, next_ref, no_ref, node_at, node_of, prev_at, prev_of, with_main_word}
use Rattle.machine_model.specs.declared.actions.Action.{Action}
use Rattle.machine_model.specs.declared.actions.Action.TheVariants as act
use Rattle.machine_model.specs.declared.building.BuildLine.TheVariants as build
use Rattle.machine_model.specs.declared.lines.Line.{Line}
use Rattle.machine_model.specs.declared.lines.Line.TheVariants as line
use Rattle.machine_model.specs.declared.operations.Operation.{Operation}
use Rattle.machine_model.specs.declared.steps.Outcome.{Outcome}
use Rattle.machine_model.specs.declared.steps.Step.TheVariants.{Go}
use Rattle.machine_model.specs.Calls.{handle_of}
use Rattle.machine_model.specs.States.{State, operation_of, root_at, word_at}
use Rattle.machine_model.specs.Operations.{action_of}
use Rattle.machine_model.specs.Acting.{operation_after}
use Rattle.machine_model.specs.Machine.{next}

-- a node but for its main word
abbrev pub content_of : Node → Node
content_of node = with_main_word no_ref node

-- ---- what a step reads

-- threads see the same hash and the same nodes, whatever their words
pub record SameContents (one other : State) : Type 0 where
  pub hash : one.limits.hash ≡ other.limits.hash
  pub contents : (r : Ref) → content_of (node_at one.heap r) ≡ content_of (node_at other.heap r)

-- the word that an action names, of an operation on this handle, is the same: a root word, a main word, a prev word, or the slot that is taken next
abbrev pub SameWord : State → State → ℕ → Action → Type 0
SameWord one other handle (act.ReadMain i) = main_at one.heap i ≡ main_at other.heap i
SameWord one other handle (act.Publish i replaced fresh) = main_at one.heap i ≡ main_at other.heap i
SameWord one other handle (act.Restore i main previous) = main_at one.heap i ≡ main_at other.heap i
SameWord one other handle (act.ReadPrev main) = prev_at one.heap main ≡ prev_at other.heap main
SameWord one other handle (act.Decide i main previous told) = prev_at one.heap main ≡ prev_at other.heap main
SameWord one other handle (act.Make node) = next_ref one.heap ≡ next_ref other.heap
SameWord one other handle (act.MakeRoot main) = next_ref one.heap ≡ next_ref other.heap
SameWord one other handle (act.Look at) = Unit {0}
SameWord one other handle (act.End answer) = Unit {0}
SameWord one other handle action = word_at one handle ≡ word_at other handle

-- a line on which a changed main node is to be made holds one to change, as each line of a run does (the law each_lookup_finds of proof_memory)
abbrev pub HoldsMain : Heap → Line → Type 0
HoldsMain heap (line.Build (build.Main path main c former)) = is_indirection (node_at heap main) ≡ false
HoldsMain heap l = Unit {0}

-- a law: what an operation's next step does depends on contents alone, and what becomes of the operation on the one word that it names besides
abbrev pub StepsReadOneWord : Type 0
StepsReadOneWord =
    (one other : State) (operation : Operation) → SameContents one other → HoldsMain one.heap operation.line →
    (action_of one operation ≡ action_of other operation)
    × (SameWord one other (handle_of operation.call) (action_of one operation) → operation_after one operation ≡ operation_after other operation)

-- ---- what a step changes

abbrev pub in_slot : Heap → ℕ → Option Slot
in_slot heap k = slice_index_or heap.slots k None

abbrev pub content_in : Heap → ℕ → Node
content_in heap k = content_of (node_of (in_slot heap k))

abbrev pub main_in : Heap → ℕ → Ref
main_in heap k = main_of (node_of (in_slot heap k))

abbrev pub prev_in : Heap → ℕ → Prev
prev_in heap k = prev_of (in_slot heap k)

-- the slot is the one that is taken next
abbrev pub IsNextFree : Heap → ℕ → Type 0
IsNextFree heap k = (rest : List ℕ) × (heap.free ≡ k ∷ rest)

-- the root words that an action may change, of an operation on this handle; an offer that is carried out opens a handle too
abbrev pub NamesRoot : ℕ → Action → ℕ → Type 0
NamesRoot handle (act.Abort offer) h = h ≡ handle
NamesRoot handle (act.Offer offer) h = h ≡ handle
NamesRoot handle (act.Complete offer main) h = (h ≡ handle) ⊎ (offer.opens ≡ Some h)
NamesRoot handle action h = ⊥

-- the slot that it may take
abbrev pub NamesSlot : Heap → Action → ℕ → Type 0
NamesSlot heap (act.Make node) k = IsNextFree heap k
NamesSlot heap (act.MakeRoot main) k = IsNextFree heap k
NamesSlot heap action k = ⊥

-- the slots whose main word it may change
abbrev pub NamesMain : Heap → Action → ℕ → Type 0
NamesMain heap (act.Publish i replaced fresh) k = k ≡ slot_of i
NamesMain heap (act.Restore i main previous) k = k ≡ slot_of i
NamesMain heap action k = NamesSlot heap action k

-- the slots whose prev word it may change
abbrev pub NamesPrev : Heap → Action → ℕ → Type 0
NamesPrev heap (act.Publish i replaced fresh) k = k ≡ slot_of fresh
NamesPrev heap (act.Decide i main previous told) k = k ≡ slot_of main
NamesPrev heap action k = NamesSlot heap action k

-- an operation once it has this mark
abbrev pub with_mark : Operation → Operation
with_mark operation = record operation { is_marked = true }

-- nothing else is changed; of another actor's operation its mark alone, by which it is told that its offer is carried out
pub record ChangesNoOther (before : State) (actor : ℕ) (operation : Operation) (after : State) : Type 0 where
  pub roots : (h : ℕ) → (NamesRoot (handle_of operation.call) (action_of before operation) h → ⊥) → root_at after h ≡ root_at before h
  pub mains : (k : ℕ) → (NamesMain before.heap (action_of before operation) k → ⊥) → main_in after.heap k ≡ main_in before.heap k
  pub prevs : (k : ℕ) → (NamesPrev before.heap (action_of before operation) k → ⊥) → prev_in after.heap k ≡ prev_in before.heap k
  pub contents : (k : ℕ) → (NamesSlot before.heap (action_of before operation) k → ⊥) → content_in after.heap k ≡ content_in before.heap k
  pub operations : (other : ℕ) → (other ≡ actor → ⊥) →
      (operation_of after other ≡ operation_of before other) ⊎ (operation_of after other ≡ option_map with_mark (operation_of before other))

-- a law: a step of an operation changes the words alone that its action names
abbrev pub StepsChangeOneWord : Type 0
StepsChangeOneWord =
    (before : State) (actor : ℕ) (operation : Operation) (o : Outcome) (after : State) → operation_of before actor ≡ Some operation → next before (Go actor) ≡ Ok (o, after) →
    ChangesNoOther before actor operation after
