-- When an operation has its place in the order, along a run. State t is the state before step t.
use Rattle.std.specs.Prelude.{◌≡◌, ◌≢◌, ℕ, suc, ◌≤◌, ◌<◌, true, false, List, ◌∷◌, Contains, Option, Some, []}
use Rattle.proof_order.specs.Vocabulary.{Writable, Call, Reply, Ref, Place, Line, Purpose, Operation, Swap, SwapLine, Complete, Descriptor, Outcome, Step, handle_of, changed_reply, State}
use Rattle.proof_order.specs.Vocabulary.{operation_of, former_of, tells_effect, action_of, Moves, prev_word, place_of, is_placed, Record, entrant_of}
use Rattle.proof_order.specs.Beneath.history.specs.declared.replies.Reply.TheVariants as reply
use Rattle.proof_order.specs.Beneath.slot_arena.specs.declared.nodes.Prev.TheVariants as prev
use Rattle.proof_order.specs.Beneath.machine_model.specs.declared.actions.Action.TheVariants as act
use Rattle.proof_order.specs.Beneath.machine_model.specs.declared.copying.CopyLine.TheVariants as copy
use Rattle.proof_order.specs.Beneath.machine_model.specs.declared.lines.Line.TheVariants as line
use Rattle.proof_order.specs.Beneath.machine_model.specs.declared.lines.Purpose.TheVariants as purpose
use Rattle.proof_order.specs.Beneath.machine_model.specs.declared.reading.SwapLine.TheVariants as swap
use Rattle.proof_order.specs.Facts.{IsRooted, IsReply, Runs, committed_by_step, entered_by_step, CarriesOut, Notes}

-- ---- phases

-- the SWAP is past its first line
abbrev pub IsPublished : SwapLine → Type 0
IsPublished swap.Publish = ⊥
IsPublished l = Unit {0}

abbrev pub IsPastSwap : (ℕ → State) → ℕ → Option ℕ → Purpose → Swap → Type 0
IsPastSwap states t former (purpose.Update path was) s = (was ≡ former) × IsPublished s.line × (prev_word states t s.fresh ≡ prev.None)
IsPastSwap states t former (purpose.Climb c) s = c.former ≡ former
IsPastSwap states t former why s = ⊥

-- The line lies past the commit of the call's own change of its key, whose value before was this: in the SWAP of its node, which is committed, in CLIMB, or where
-- it is about to answer that it made the change. The laws of memory say that no machine comes to the impossible line.
abbrev pub IsPastAt : (ℕ → State) → ℕ → Call → Option ℕ → Line → Type 0
IsPastAt states t call former (line.Swap why s) = IsPastSwap states t former why s
IsPastAt states t call former (line.Climb l) = former_of l ≡ former
IsPastAt states t call former (line.End answer) = answer ≡ changed_reply call former
IsPastAt states t call former line.Impossible = Unit {0}
IsPastAt states t call former l = ⊥

-- the reply with which the call tells of its change is one that tells of an effect
abbrev pub TellsEffect : Call → Option ℕ → Type 0
TellsEffect call former = tells_effect call (changed_reply call former) ≡ true

abbrev pub IsPast : (ℕ → State) → ℕ → Operation → Option ℕ → Type 0
IsPast states t operation former = IsPastAt states t operation.call former operation.line × TellsEffect operation.call former

-- Where an operation stands that has its place.
pub data Phase (states : ℕ → State) (t : ℕ) (operation : Operation) : Type 0 where
  -- past its own commit
  past : (former : Option ℕ) → IsPast states t operation former → Phase states t operation
  -- its offer was carried out, and it completes it still
  completes : (c : Complete) → operation.is_marked ≡ true → operation.line ≡ line.Copy (copy.Complete c) → Phase states t operation
  -- a close, or its offer was carried out: it is about to answer so
  answers : (answer : Reply) → operation.line ≡ line.End answer → tells_effect operation.call answer ≡ true → Phase states t operation

-- a running operation that has a place is in such a phase
abbrev pub PlacedPhase : (ℕ → State) → (ℕ → Record) → ℕ → Type 0
PlacedPhase states records last =
    (t k : ℕ) (operation : Operation) → t ≤ last → Runs (states t) k operation → is_placed (records t) operation.id ≡ true → Phase states t operation

abbrev pub PastAnswers : (ℕ → State) → (ℕ → Record) → ℕ → Type 0
PastAnswers states records last =
    (t k : ℕ) (operation : Operation) (former : Option ℕ) → t ≤ last → Runs (states t) k operation → IsPast states t operation former →
    IsReply (records last).events operation.id (changed_reply operation.call former)

-- ---- own updates

-- The step commits the node of an own update: the operation whose it is runs in its SWAP, on a writable handle. It enters the order alone, hadn't entered before,
-- and answers that it made the change.
pub record OwnUpdate (states : ℕ → State) (records : ℕ → Record) (last t : ℕ) (s : Step) : Type 0 where
  pub k : ℕ
  pub owner : Operation
  pub runs : Runs (states t) k owner
  pub path : List Ref
  pub former : Option ℕ
  pub its : Swap
  pub at : owner.line ≡ line.Swap (purpose.Update path former) its
  pub published : IsPublished its.line
  pub commits : committed_by_step (states t) s ≡ Some its.fresh
  pub enters : entered_by_step (records t) (states t) s ≡ place_of (records t) (entrant_of owner) t false ∷ []
  pub unplaced : is_placed (records t) owner.id ≡ false
  pub writable : owner.access ≡ Writable
  pub generation : ℕ
  pub of_generation : owner.generation ≡ Some generation
  pub rooted : IsRooted states records t (handle_of owner.call) generation
  pub agrees : IsReply (records last).events owner.id (changed_reply owner.call former)

abbrev pub OwnUpdatesEnter : (ℕ → State) → (ℕ → Record) → ℕ → Type 0
OwnUpdatesEnter states records last =
    (t : ℕ) (s : Step) (o : Outcome) → t < last → Moves (states t) s o (states (suc t)) → Notes states records t s → entered_by_step (records t) (states t) s ≢ [] → OwnUpdate states records last t s

-- ---- facts of the order

-- the operation whose offer is carried out has no place yet
abbrev pub OffersAreUnplaced : (ℕ → State) → (ℕ → Record) → ℕ → Type 0
OffersAreUnplaced states records last =
    (t : ℕ) (s : Step) (o : Outcome) → t < last → Moves (states t) s o (states (suc t)) → Notes states records t s → (handle : ℕ) (offer : Descriptor) → CarriesOut (states t) s handle offer →
    is_placed (records t) offer.operation ≡ false

-- an operation that is refused for want of slots has no place
abbrev pub RefusedAreUnplaced : (ℕ → State) → (ℕ → Record) → ℕ → Type 0
RefusedAreUnplaced states records last =
    (t actor : ℕ) (operation : Operation) → t < last → operation_of (states t) actor ≡ Some operation → action_of (states t) operation ≡ act.End reply.NoSlots →
    is_placed (records t) operation.id ≡ false

-- just behind the step of each place, the operation with its id runs
abbrev pub PlacesRunBehind : (ℕ → State) → (ℕ → Record) → ℕ → Type 0
PlacesRunBehind states records last =
    (place : Place) → Contains (records last).places place → (k : ℕ) × (operation : Operation) × Runs (states (suc place.step)) k operation × (operation.id ≡ place.id)
