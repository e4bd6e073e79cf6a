-- From what the legal order of a run follows: facts about the contents of the generations. State t is the state before
-- step t, and V g t the content of generation g before step t, as it looks from the end of the run.
use Rattle.std.specs.Prelude.{◌≡◌, ◌≢◌, ℕ, suc, ◌≤◌, ◌<◌, true, false, List, [], ◌∷◌, Contains, Option, Some, None}
use Rattle.std.specs.FinMap as map
use Rattle.proof_order.specs.Vocabulary.{hash_of, Access, Writable, ReadOnly, Call, Clear, Snapshot, Freeze, Reply, Event, KeyMap, HasEnded, Ref, generation_at, Place, Operation, Root, Descriptor}
use Rattle.proof_order.specs.Vocabulary.{Bounds, Step, Outcome, handle_of, State, root_at, word_at, root_of, operation_of, action_of, is_carried_out, Record, closed_at, entered, is_placed}
use Rattle.proof_order.specs.Vocabulary.{moment_at, noted, place_of, committed_now, entrant_of, told_in, content_at, Moves}
use Rattle.proof_order.specs.Beneath.history.specs.declared.replies.Reply.TheVariants as reply
pub use Rattle.proof_order.specs.Beneath.proof_contents.specs.Effects.{act_in}
pub use Rattle.proof_generations.specs.Running.{Runs}
pub use Rattle.proof_generations.specs.Standing.{standing_of, standing, On, IsRooted}
use Rattle.proof_order.specs.Beneath.machine_model.specs.declared.actions.Action.TheVariants as act
use Rattle.proof_order.specs.Beneath.machine_model.specs.declared.steps.Step.TheVariants as step

-- ---- what stands

-- at this time the generation is, or was once, that of a writable handle's root
abbrev pub HasStood : (ℕ → State) → ℕ → ℕ → Type 0
HasStood states t generation = (u handle : ℕ) × (u ≤ t) × On states u handle generation

-- no handle's root has the generation, and it isn't closed
abbrev pub IsFresh : State → Record → ℕ → Type 0
IsFresh state past generation = (closed_at past generation ≡ None) × ((handle : ℕ) (access : Access) → standing state handle ≢ Some (access, generation))

-- ---- what calls do

-- the reply is the one with which the operation ends, if it does
abbrev pub IsReply : List Event → ℕ → Reply → Type 0
IsReply history id answer = (other : Reply) → HasEnded history id other → answer ≡ other

-- ---- what steps do

-- what is recorded after step t is what the step tells
abbrev pub Notes : (ℕ → State) → (ℕ → Record) → ℕ → Step → Type 0
Notes states records t s = records (suc t) ≡ noted (records t) (states t).steps (told_in (states t) s)

abbrev pub committed_of : State → Option Operation → Option Ref
committed_of state None = None
committed_of state (Some operation) = committed_now state operation

-- the main node that the step commits, if it does
abbrev pub committed_by_step : State → Step → Option Ref
committed_by_step state (step.Begin actor call number) = None
committed_by_step state (step.Go actor) = committed_of state (operation_of state actor)
committed_by_step state step.Sweep = None
committed_by_step state (step.GiveUp actor) = None

-- the places of the operations whose own change the step commits
abbrev pub entered_by_step : Record → State → Step → List Place
entered_by_step past state s = entered past state.steps (committed_by_step state s)

-- the step carries this offer out, on this handle
abbrev pub CarriesOut : State → Step → ℕ → Descriptor → Type 0
CarriesOut state s handle offer =
    (actor : ℕ) × (operation : Operation) × (main : Ref) × (s ≡ step.Go actor) × (operation_of state actor ≡ Some operation)
    × (action_of state operation ≡ act.Complete offer main) × (handle_of operation.call ≡ handle) × (is_carried_out (word_at state handle) offer main ≡ true)

-- ---- the facts

-- An own update of a key is committed: the operation whose it is enters the order alone, and its call leads the content of
-- its generation on, late or not.
pub record Update (limits : Bounds) (states : ℕ → State) (records : ℕ → Record) (last : ℕ) (V : ℕ → ℕ → KeyMap) (t : ℕ) (places : List Place) : Type 0 where
  pub k : ℕ
  pub owner : Operation
  pub runs : Runs (states t) k owner
  pub writable : owner.access ≡ Writable
  pub generation : ℕ
  pub of_generation : owner.generation ≡ Some generation
  pub rooted : IsRooted states records t (handle_of owner.call) generation
  -- it enters the order, alone, and hadn't entered before
  pub enters : places ≡ place_of (records t) (entrant_of owner) t false ∷ []
  pub unplaced : is_placed (records t) owner.id ≡ false
  pub answer : Reply
  pub acts : act_in (hash_of limits.hash) Writable owner.call (V generation t) ≡ Some (answer, V generation (suc t))
  pub agrees : IsReply (records last).events owner.id answer
  -- every other generation's content stays
  pub still : (other : ℕ) → HasStood states t other → other ≢ generation → V other (suc t) ≡ V other t

-- What a call opens by the offer that is carried out over a root of this generation: a clear an empty map, a snapshot and a
-- freeze the old root's content, as it is in the end.
pub data Opens (states : ℕ → State) (records : ℕ → Record) (last : ℕ) (V : ℕ → ℕ → KeyMap) (t handle generation : ℕ) (offer : Descriptor) : Call → Type 0 where
  clears : offer.opens ≡ None → V (generation_at (states t).heap offer.successor) (suc t) ≡ map.empty →
      Opens states records last V t handle generation offer (Clear handle)
  snapshots : (n : ℕ) (second : Ref) → offer.opens ≡ Some n → offer.second ≡ Some second →
      IsFresh (states t) (records t) (generation_at (states t).heap second) →
      generation_at (states t).heap second ≢ generation_at (states t).heap offer.successor →
      V (generation_at (states t).heap offer.successor) (suc t) ≡ V generation last → V (generation_at (states t).heap second) (suc t) ≡ V generation last →
      Opens states records last V t handle generation offer (Snapshot handle)
  freezes : (n : ℕ) → offer.opens ≡ Some n → offer.second ≡ None →
      V (generation_at (states t).heap offer.successor) (suc t) ≡ V generation last →
      Opens states records last V t handle generation offer (Freeze handle)

-- An offer of an operation with this call is carried out: the operation has no place yet, the new root's generation is new, and
-- what the call says is opened.
pub record Swap (states : ℕ → State) (records : ℕ → Record) (last : ℕ) (V : ℕ → ℕ → KeyMap) (t handle : ℕ) (offer : Descriptor) (call : Call) : Type 0 where
  pub unplaced : is_placed (records t) offer.operation ≡ false
  -- the handle is writable, and the generation of the old root is the one that is closed
  pub stands : On states t handle (generation_at (states t).heap offer.root)
  pub is_fresh : IsFresh (states t) (records t) (generation_at (states t).heap offer.successor)
  pub opens : Opens states records last V t handle (generation_at (states t).heap offer.root) offer call

-- An operation that changed nothing is answered: its reply is right just behind its moment, on a read-only handle at any
-- time.
pub data Replied (limits : Bounds) (states : ℕ → State) (records : ℕ → Record) (last : ℕ) (V : ℕ → ℕ → KeyMap) (operation : Operation) (moment : ℕ) (answer : Reply) : Type 0 where
  on_writable : (generation : ℕ) → operation.access ≡ Writable → operation.generation ≡ Some generation →
      IsRooted states records (suc moment) (handle_of operation.call) generation → (records (suc moment)).closings ≡ (records moment).closings →
      act_in (hash_of limits.hash) Writable operation.call (V generation (suc moment)) ≡ Some (answer, V generation (suc moment)) →
      Replied limits states records last V operation moment answer
  on_read_only : (generation : ℕ) → operation.access ≡ ReadOnly →
      standing (states (suc moment)) (handle_of operation.call) ≡ Some (ReadOnly, generation) →
      act_in (hash_of limits.hash) ReadOnly operation.call (V generation last) ≡ Some (answer, V generation last) →
      Replied limits states records last V operation moment answer

pub record Facts (limits : Bounds) (states : ℕ → State) (records : ℕ → Record) (last : ℕ) (V : ℕ → ℕ → KeyMap) : Type 0 where
  -- the first generation is empty at first
  pub starts : V 0 0 ≡ map.empty
  -- a step that commits no own update leaves the content of each generation that has stood
  pub still : (t : ℕ) (s : Step) (o : Outcome) → t < last → Moves (states t) s o (states (suc t)) → Notes states records t s → entered_by_step (records t) (states t) s ≡ [] →
      (generation : ℕ) → HasStood states t generation → V generation (suc t) ≡ V generation t
  -- a step that commits one
  pub updates : (t : ℕ) (s : Step) (o : Outcome) → t < last → Moves (states t) s o (states (suc t)) → Notes states records t s → entered_by_step (records t) (states t) s ≢ [] →
      Update limits states records last V t (entered_by_step (records t) (states t) s)
  -- a step that carries an offer out, whose operation runs
  pub swaps : (t : ℕ) (s : Step) (o : Outcome) → t < last → Moves (states t) s o (states (suc t)) → Notes states records t s →
      (handle : ℕ) (offer : Descriptor) → CarriesOut (states t) s handle offer →
      (k : ℕ) (offerer : Operation) → Runs (states t) k offerer → offerer.id ≡ offer.operation → Swap states records last V t handle offer offerer.call
  -- an operation that ends without a place, but for want of slots
  pub replies : (t actor : ℕ) (operation : Operation) (answer : Reply) (o : Outcome) → t < last → Moves (states t) (step.Go actor) o (states (suc t)) → Notes states records t (step.Go actor) →
      operation_of (states t) actor ≡ Some operation → action_of (states t) operation ≡ act.End answer → answer ≢ reply.NoSlots →
      is_placed (records t) operation.id ≡ false → Replied limits states records last V operation (moment_at (records t) actor).moment answer
  -- an operation that is refused for want of slots has no place
  pub refused : (t actor : ℕ) (operation : Operation) → t < last → operation_of (states t) actor ≡ Some operation →
      action_of (states t) operation ≡ act.End reply.NoSlots → is_placed (records t) operation.id ≡ false
  -- just behind the step of each place, the operation with its id runs
  pub runs_behind : (place : Place) → Contains (records last).places place →
      (k : ℕ) × (operation : Operation) × Runs (states (suc place.step)) k operation × (operation.id ≡ place.id)
  -- a step leaves the generation of a handle's root as it is
  pub keeps_generation : (t handle : ℕ) (root : Root) → t < last → root_at (states t) handle ≡ Some root →
      generation_at (states (suc t)).heap (root_of root.word) ≡ generation_at (states t).heap (root_of root.word)
  -- at the end the content of each open handle is the map of its root's generation
  pub contents : (handle : ℕ) (root : Root) → root_at (states last) handle ≡ Some root →
      content_at (states last) handle ≡ map.entries (V (generation_at (states last).heap (root_of root.word)) last)
