-- Which steps change a main node, whose fresh node it is, and what its owner knows.
use Rattle.std.specs.Prelude.{Option, ◌≡◌, ◌≢◌, ℕ, suc, ◌==◌, ◌<◌, false, List, ◌∷◌, Some, None, if◌then◌else◌, []}
use Rattle.proof_shape.specs.Vocabulary.{Writable, Call, Place, Ref, generation_of, Purpose, Operation, ReadLine, SwapLine, Deciding, Bounds, Outcome, Step, depth_of, State, operation_of, Moves}
use Rattle.proof_shape.specs.Vocabulary.{node_under, committed_now, entrant_of, told_in, Record, place_of, entered, noted, IsInSwap, KnowsSwap, IsRepaired, counting_main}
use Rattle.proof_shape.specs.Beneath.machine_model.specs.declared.lines.Purpose.TheVariants as purpose
use Rattle.proof_shape.specs.Beneath.machine_model.specs.declared.lines.Line.TheVariants as line
use Rattle.proof_shape.specs.Beneath.machine_model.specs.declared.steps.Step.TheVariants as step
use Rattle.proof_shape.specs.Lines.Given.{GaveBelow, Was}
use Rattle.proof_shape.specs.Lines.Climbing.{IsClimbed}
use Rattle.proof_shape.specs.Lines.Knowing.{known_with, first_main, SwapsAt}

-- by its generation, and a time, the main nodes of the indirections that an operation made, as far as they are told
abbrev pub Firsts : Type 0
Firsts = ℕ → ℕ → Ref → Ref

-- those with which they were made
abbrev pub made_with : (ℕ → State) → ℕ → Firsts
made_with states last start t i = first_main states last i

-- those that they have at that time: the main nodes by which a generation's content is found before it
abbrev pub assigned_at : (ℕ → State) → ℕ → Firsts
assigned_at states last start t i = if generation_of (node_under states last i) == start then counting_main states last t i else counting_main states last last i

-- what the owner of a fresh node knows of it, just before step t, which commits it
abbrev pub KnowsFresh : Bounds → (ℕ → State) → (ℕ → Record) → ℕ → Firsts → (t actor start : ℕ) → Operation → Ref → Ref → Purpose → Type 0
KnowsFresh limits states records last firsts t actor start owner replaced fresh (purpose.Update path former) =
    KnowsSwap (known_with limits states last (firsts start (suc t))) owner.call (depth_of path) replaced former fresh
KnowsFresh limits states records last firsts t actor start owner replaced fresh (purpose.Renew path) =
    IsRepaired (node_under states last) (firsts start t) (GaveBelow states records last t actor owner.id start) start replaced fresh
KnowsFresh limits states records last firsts t actor start owner replaced fresh purpose.Clean =
    IsRepaired (node_under states last) (firsts start t) (GaveBelow states records last t actor owner.id start) start replaced fresh
KnowsFresh limits states records last firsts t actor start owner replaced fresh (purpose.Climb c) =
    IsClimbed (known_with limits states last (first_main states last)) (Was states last t) owner.call c replaced fresh

-- the places that the commit of an owner's node brings
abbrev pub places_for : Record → Operation → ℕ → Purpose → List Place
places_for past owner t (purpose.Update path former) = place_of past (entrant_of owner) t false ∷ []
places_for past owner t why = []

-- Step t commits a fresh node: whoever takes it, just one running operation is in a SWAP of that node.
pub record OwnCommit (limits : Bounds) (states : ℕ → State) (records : ℕ → Record) (last : ℕ) (firsts : Firsts) (t : ℕ) (s : Step) : Type 0 where
  pub indirection : Ref
  pub replaced : Ref
  pub fresh : Ref
  -- the main node of the indirection is changed, and no other
  pub before : counting_main states last t indirection ≡ replaced
  pub after : counting_main states last (suc t) indirection ≡ fresh
  pub differ : fresh ≢ replaced
  pub others : (j : Ref) → j ≢ indirection → counting_main states last (suc t) j ≡ counting_main states last t j
  -- who takes the step
  pub taker : ℕ
  pub takes : s ≡ step.Go taker
  pub decider : Operation
  pub decides : operation_of (states t) taker ≡ Some decider
  pub commits : committed_now (states t) decider ≡ Some fresh
  -- whose node it is
  pub actor : ℕ
  pub owner : Operation
  pub runs : operation_of (states t) actor ≡ Some owner
  pub writable : owner.access ≡ Writable
  pub start : ℕ
  pub generation : owner.generation ≡ Some start
  pub why : Purpose
  pub deciding : ReadLine
  pub swaps : owner.line ≡ line.Swap why (record { indirection = indirection; replaced = replaced; fresh = fresh; line = Deciding deciding })
  pub alone : (k : ℕ) (operation : Operation) (i a : Ref) (l : SwapLine) → operation_of (states t) k ≡ Some operation → IsInSwap operation i a fresh l → k ≡ actor
  -- at the indirection for which its SWAP is
  pub placed : SwapsAt why indirection
  pub knows : KnowsFresh limits states records last firsts t actor start owner replaced fresh why
  -- the places that the step brings
  pub enters : entered (records t) t (Some fresh) ≡ places_for (records t) owner t why

-- the main node that a step commits, if it does
pub data CommitsNone (state : State) : Step → Type 0 where
  begins : (actor : ℕ) (call : Call) (number : Option ℕ) → CommitsNone state (step.Begin actor call number)
  goes : (actor : ℕ) (operation : Operation) → operation_of state actor ≡ Some operation → committed_now state operation ≡ None → CommitsNone state (step.Go actor)
  sweeps : CommitsNone state step.Sweep
  gives_up : (actor : ℕ) → CommitsNone state (step.GiveUp actor)

pub data MainStep (limits : Bounds) (states : ℕ → State) (records : ℕ → Record) (last : ℕ) (firsts : Firsts) (t : ℕ) (s : Step) : Type 0 where
  stays : CommitsNone (states t) s → ((i : Ref) → counting_main states last (suc t) i ≡ counting_main states last t i) → MainStep limits states records last firsts t s
  changes : OwnCommit limits states records last firsts t s → MainStep limits states records last firsts t s

-- a step leaves all main nodes and commits nothing, or it commits one fresh node
abbrev pub CommitsAt : Bounds → (ℕ → State) → (ℕ → Record) → ℕ → Firsts → Type 0
CommitsAt limits states records last firsts =
    (t : ℕ) → t < last → (s : Step) (o : Outcome) → Moves (states t) s o (states (suc t)) → records (suc t) ≡ noted (records t) (states t).steps (told_in (states t) s) →
    MainStep limits states records last firsts t s
