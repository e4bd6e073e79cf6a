-- What the protocol takes of a run: what memory gives, and what roots do.
use Rattle.std.proofs.Common.{◌≡◌, ℕ, suc, ◌<◌, ◌≤◌, Bool, true, false, ◌==◌, Option, Some, None, option_map}
use Rattle.std.specs.Prelude.{is_some}
use Rattle.proof_commits.specs.Vocabulary.{Writable, Ref, Node, Indirection, Slot, main_at, prev_at, generation_at, generation_of, main_of, main_changed, prev_changed, next_ref, Action, Line}
use Rattle.proof_commits.specs.Vocabulary.{Operation, Plain, Bounds, Outcome, Step, handle_of, State, word_at, operation_of, action_of, read_of, Verdict, Commits, Fails, Overtaken, verdict, Moves}
use Rattle.proof_commits.specs.Vocabulary.{IsRun, standing, grown, node_under, main_word, prev_word}
use Rattle.proof_commits.specs.Beneath.slot_arena.specs.declared.nodes.Prev.TheVariants as over
use Rattle.proof_commits.specs.Beneath.machine_model.specs.declared.actions.Action.TheVariants as act
use Rattle.proof_commits.specs.Beneath.machine_model.specs.declared.building.BuildLine.TheVariants as build
use Rattle.proof_commits.specs.Beneath.machine_model.specs.declared.repairs.RenewLine.TheVariants as renew
use Rattle.proof_commits.specs.Beneath.machine_model.specs.declared.repairs.CleanLine.TheVariants as clean
use Rattle.proof_commits.specs.Beneath.machine_model.specs.declared.repairs.ClimbLine.TheVariants as climb
use Rattle.proof_commits.specs.Beneath.machine_model.specs.declared.lines.Line.TheVariants as line
use Rattle.proof_commits.specs.Beneath.machine_model.specs.declared.steps.Step.TheVariants as step
use Rattle.proof_commits.specs.Beneath.machine_model.specs.declared.reading.ReadLine.TheVariants as read
use Rattle.proof_memory.specs.Wants.{is_indirection, is_branch_or_list}

-- ---- what a step does to the heap that only grows

-- it stays
abbrev pub GrownStays : (ℕ → State) → ℕ → Type 0
GrownStays states t = (r : Ref) → grown states (suc t) r ≡ grown states t r

-- what stands under one reference changes so
pub record GrownChanges (states : ℕ → State) (t : ℕ) (change : Slot → Slot) (r : Ref) : Type 0 where
  pub here : grown states (suc t) r ≡ option_map change (grown states t r)
  pub elsewhere : (q : Ref) → (q ≡ r → ⊥) → grown states (suc t) q ≡ grown states t q

-- a fresh node is swapped in: the main word and the fresh node's prev word change
pub record GrownSwaps (states : ℕ → State) (t : ℕ) (i a f : Ref) : Type 0 where
  pub main : grown states (suc t) i ≡ option_map (main_changed f) (grown states t i)
  pub prev : grown states (suc t) f ≡ option_map (prev_changed (over.Pending a)) (grown states t f)
  pub elsewhere : (q : Ref) → (q ≡ i → ⊥) → (q ≡ f → ⊥) → grown states (suc t) q ≡ grown states t q

-- a node is made, under a reference that was never used
pub record GrownTakes (states : ℕ → State) (t : ℕ) (n : Ref) (node : Node) : Type 0 where
  pub new : grown states t n ≡ None
  pub birth : ℕ
  pub here : grown states (suc t) n ≡ Some (record { birth = birth; node = node; prev = over.None })
  pub elsewhere : (q : Ref) → (q ≡ n → ⊥) → grown states (suc t) q ≡ grown states t q

-- ---- what an action finds, and what it does

-- an indirection stands under the reference, and its main word is that of the heap that only grows
pub record FindsMain (states : ℕ → State) (t : ℕ) (i : Ref) : Type 0 where
  pub link : is_indirection (node_under states t i) ≡ true
  pub main : main_at (states t).heap i ≡ main_word states t i

-- a main node does, and so is its prev word
pub record FindsPrev (states : ℕ → State) (t : ℕ) (m : Ref) : Type 0 where
  pub made : is_some (grown states t m) ≡ true
  pub no_link : is_indirection (node_under states t m) ≡ false
  pub prev : prev_at (states t).heap m ≡ prev_word states t m

abbrev pub Either : Bool → Type 0 → Type 0 → Type 0
Either true A B = A
Either false A B = B

abbrev pub Decided : (ℕ → State) → ℕ → Ref → Ref → Verdict → Type 0
Decided states t m previous Commits = GrownChanges states t (prev_changed over.None) m
Decided states t m previous Fails = GrownChanges states t (prev_changed (over.Failed previous)) m
Decided states t m previous (Overtaken licensed) = GrownStays states t

abbrev pub Taken : (ℕ → State) → ℕ → Node → Option Ref → Type 0
Taken states t node None = GrownStays states t
Taken states t node (Some n) = GrownTakes states t n node

-- What an action finds in the machine's heap is what the heap that only grows says, and what it writes is written there too.
abbrev pub ActsOn : (ℕ → State) → ℕ → Action → Type 0
ActsOn states t (act.ReadMain i) = FindsMain states t i × GrownStays states t
ActsOn states t (act.ReadPrev m) = FindsPrev states t m × GrownStays states t
ActsOn states t (act.Publish i a f) =
    FindsMain states t i × FindsPrev states t f × Either (main_at (states t).heap i == a) (GrownSwaps states t i a f) (GrownStays states t)
ActsOn states t (act.Restore i m p) =
    FindsMain states t i × Either (main_at (states t).heap i == m) (GrownChanges states t (main_changed p) i) (GrownStays states t)
ActsOn states t (act.Decide i m p told) =
    FindsMain states t i × FindsPrev states t m × (generation_at (states t).heap i ≡ generation_of (node_under states t i))
    × Decided states t m p (verdict (states t).heap i m p told)
ActsOn states t (act.Make node) = Taken states t node (next_ref (states t).heap)
ActsOn states t (act.MakeRoot main) = Taken states t (Indirection (states t).generations main) (next_ref (states t).heap)
ActsOn states t action = GrownStays states t

-- the step is none of an operation that goes on
abbrev pub IsNoGo : Step → Type 0
IsNoGo (step.Go actor) = ⊥
IsNoGo s = Unit {0}

-- ---- what is built from

-- the line's step makes the node that is to replace this main node
abbrev pub BuildsFrom : Line → Ref → Type 0
BuildsFrom (line.Build (build.Main path main c former)) m = main ≡ m
BuildsFrom (line.Renew (renew.Branch path main done)) m = main ≡ m
BuildsFrom (line.Clean (clean.Contracted path main done)) m = main ≡ m
BuildsFrom (line.Climb (climb.Contracted c main)) m = main ≡ m
BuildsFrom l m = ⊥

-- a branch or a list stands under the reference
pub record HasSolid (state : State) (m : Ref) : Type 0 where
  pub slot : Slot
  pub stands : standing state.heap m ≡ Some slot
  pub solid : is_branch_or_list slot.node ≡ true

-- ---- the whole

-- roots: where a READ on a writable handle asks for the root, and finds it with no offer, the root's generation wasn't closed before
abbrev pub RootsAreOpen : (ℕ → State) → ℕ → (ℕ → Option ℕ) → Type 0
RootsAreOpen states last closing =
    (t : ℕ) → t < last → (actor : ℕ) (operation : Operation) → operation_of (states t) actor ≡ Some operation → (i main previous : Ref) →
    read_of operation.line ≡ Some (record { indirection = i; line = read.AskRoot main previous }) → operation.access ≡ Writable → (r : Ref) →
    word_at (states t) (handle_of operation.call) ≡ Plain r → (c : ℕ) → closing (generation_at (states t).heap r) ≡ Some c → t ≤ c

pub record Known (limits : Bounds) (states : ℕ → State) (last : ℕ) : Type 0 where
  -- each list of steps is such a run
  pub run : IsRun limits states last
  -- the step that closes a generation, as far as the layer of roots tells it
  pub closing : ℕ → Option ℕ
  -- memory: what each action of an operation finds and does is so in the heap that only grows
  pub acts : (t : ℕ) → t < last → (actor : ℕ) (o : Outcome) → Moves (states t) (step.Go actor) o (states (suc t)) → (operation : Operation) →
      operation_of (states t) actor ≡ Some operation → ActsOn states t (action_of (states t) operation)
  -- memory: no other step changes that heap
  pub stays : (t : ℕ) → t < last → (s : Step) (o : Outcome) → Moves (states t) s o (states (suc t)) → IsNoGo s → GrownStays states t
  -- memory: what is to be replaced is a branch or a list
  pub built_from : (t : ℕ) → t < last → (actor : ℕ) (operation : Operation) → operation_of (states t) actor ≡ Some operation → (main : Ref) →
      BuildsFrom operation.line main → HasSolid (states t) main
  -- memory: the main word of an indirection in use names what is in use
  pub mains_stand : (t : ℕ) → t ≤ last → (i : Ref) (slot : Slot) → standing (states t).heap i ≡ Some slot → is_indirection slot.node ≡ true →
      (main : Slot) × (standing (states t).heap (main_of slot.node) ≡ Some main)
  -- roots: they are open where they are asked for
  pub open_root : RootsAreOpen states last closing
