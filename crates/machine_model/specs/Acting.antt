-- What a step of an operation changes: its action, and what it remembers.
use Rattle.std.specs.Prelude.{ℕ, ◌+◌, ◌==◌, Bool, true, false, List, [], ◌∷◌, ◌++◌, map, Option, Some, None, if◌then◌else◌}
use Rattle.history.specs.declared.calls.Access.TheVariants.{Writable, ReadOnly}
use Rattle.machine_model.specs.Beneath.slot_arena.specs.declared.refs.Ref.{Ref}
use Rattle.machine_model.specs.Beneath.slot_arena.specs.declared.nodes.Node.TheVariants.{Indirection}
use Rattle.machine_model.specs.Beneath.slot_arena.specs.declared.nodes.Prev.TheVariants as prev
use Rattle.machine_model.specs.declared.operations.Operation.{Operation}
use Rattle.machine_model.specs.declared.roots.Root.{Root}
use Rattle.machine_model.specs.declared.roots.RootWord.TheVariants.{Plain, Offer}
use Rattle.machine_model.specs.declared.roots.Descriptor.{Descriptor}
use Rattle.machine_model.specs.declared.actions.Action.{Action}
use Rattle.machine_model.specs.declared.actions.Action.TheVariants as act
use Rattle.machine_model.specs.Beneath.slot_arena.specs.Heaps.{Heap, main_at, with_main, with_prev, taken, next_ref}
use Rattle.machine_model.specs.Calls.{handle_of}
use Rattle.machine_model.specs.States.{State, word_at, with_word, with_root, with_operation}
use Rattle.machine_model.specs.Reading.{Verdict, Commits, Fails, Overtaken, verdict}
use Rattle.machine_model.specs.Swapping.{stands_in, is_plain}
use Rattle.machine_model.specs.Operations.{action_of, line_after, generation_after}

-- ---- root words

abbrev pub if_changed : {A : Type 0} → Bool → A → A → A
if_changed true changed same = changed
if_changed false changed same = same

-- an offer that still stands is taken back
abbrev pub aborted : State → ℕ → Descriptor → State
aborted state handle offer = if_changed (stands_in (word_at state handle) offer) (with_word state handle (Plain offer.root)) state

-- an offer comes to stand where its root still does
abbrev pub offered : State → ℕ → Descriptor → State
offered state handle offer = if_changed (is_plain (word_at state handle) offer.root) (with_word state handle (Offer offer)) state

-- the root that an offer opens: writable over a root of its own, read-only over the old one
abbrev pub opened_root : Descriptor → Option Ref → Root
opened_root offer (Some second) = record { access = Writable; word = Plain second }
opened_root offer None = record { access = ReadOnly; word = Plain offer.root }

abbrev pub opened : State → Descriptor → Option ℕ → State
opened state offer None = state
opened state offer (Some handle) = with_root state handle (Some (opened_root offer offer.second))

abbrev pub marked : ℕ → Option Operation → Option Operation
marked id None = None
marked id (Some operation) = Some (if operation.id == id then record operation { is_marked = true } else operation)

-- the offer is carried out: the new root stands, the handle is open, and the operation that offered is marked
abbrev pub carried_out : State → ℕ → Descriptor → State
carried_out state handle offer =
    let swapped = opened (with_word state handle (Plain offer.successor)) offer offer.opens in
    record swapped { actors = map (marked offer.operation) swapped.actors }

abbrev pub completed : State → ℕ → Descriptor → Ref → State
completed state handle offer main =
    if_changed (stands_in (word_at state handle) offer)
    (if main == offer.expected then carried_out state handle offer else with_word state handle (Plain offer.root)) state

-- ---- main words and prev words

-- a fresh main node comes to stand in the place of the replaced one, pending over it
abbrev pub published : Heap → Ref → Ref → Ref → Heap
published heap indirection replaced fresh =
    if_changed (main_at heap indirection == replaced) (with_prev (with_main heap indirection fresh) fresh (prev.Pending replaced)) heap

abbrev pub restored : Heap → Ref → Ref → Ref → Heap
restored heap indirection main previous = if_changed (main_at heap indirection == main) (with_main heap indirection previous) heap

-- a pending main node is committed with a licence, else it fails; a decided one stays as it is
abbrev pub decided : Heap → Ref → Ref → Verdict → Heap
decided heap main previous Commits = with_prev heap main prev.None
decided heap main previous Fails = with_prev heap main (prev.Failed previous)
decided heap main previous (Overtaken licensed) = heap

abbrev pub new_root_taken : State → Ref → Option Ref → State
new_root_taken state main None = state
new_root_taken state main (Some made) =
    record state { heap = taken state.heap (Indirection state.generations main); generations = state.generations + 1 }

-- ---- what the action does

abbrev pub acted : State → ℕ → Action → State
acted state handle act.ReadRoot = state
acted state handle (act.Abort offer) = aborted state handle offer
acted state handle (act.Offer offer) = offered state handle offer
acted state handle (act.Complete offer main) = completed state handle offer main
acted state handle (act.ReadMain indirection) = state
acted state handle (act.Publish indirection replaced fresh) = record state { heap = published state.heap indirection replaced fresh }
acted state handle (act.Restore indirection main previous) = record state { heap = restored state.heap indirection main previous }
acted state handle (act.ReadPrev main) = state
acted state handle (act.Decide indirection main previous root_seen) =
    record state { heap = decided state.heap main previous (verdict state.heap indirection main previous root_seen) }
acted state handle (act.Look at) = state
acted state handle (act.Make node) = record state { heap = taken state.heap node }
acted state handle (act.MakeRoot main) = new_root_taken state main (next_ref state.heap)
acted state handle (act.End answer) = state

-- ---- what it does to the operation

-- one reference more; none at all where no slot was free
abbrev pub with_made : List Ref → Option Ref → List Ref
with_made private None = []
with_made private (Some made) = private ++ made ∷ []

-- The private list holds the slots that the operation made in its running try. It is emptied where the last of them is
-- swapped in or offered, whether that succeeds or not, and where no slot is free.
abbrev pub private_after : State → List Ref → Action → List Ref
private_after state private (act.Make node) = with_made private (next_ref state.heap)
private_after state private (act.MakeRoot main) = with_made private (next_ref state.heap)
private_after state private (act.Publish indirection replaced fresh) = []
private_after state private (act.Offer offer) = []
private_after state private action = private

-- how often the operation has offered; each offer takes its mark away
abbrev pub attempt_after : ℕ → Action → ℕ
attempt_after attempt (act.Offer offer) = attempt + 1
attempt_after attempt action = attempt

abbrev pub mark_after : Bool → Action → Bool
mark_after mark (act.Offer offer) = false
mark_after mark action = mark

-- the operation after its step
abbrev pub operation_after : State → Operation → Operation
operation_after state operation =
    let action = action_of state operation in
    record operation {
      private = private_after state operation.private action;
      attempt = attempt_after operation.attempt action;
      is_marked = mark_after operation.is_marked action;
      generation = generation_after state operation;
      line = line_after state operation operation.line;
    }

-- ---- a step of an operation

-- the state after a step of the actor's operation that isn't its end, but for what every step does
abbrev pub gone : State → ℕ → Operation → State
gone state actor operation =
    acted (with_operation state actor (Some (operation_after state operation))) (handle_of operation.call) (action_of state operation)

-- the state after the end of the actor's operation, but for what every step does
abbrev pub ended : State → ℕ → State
ended state actor = with_operation state actor None
