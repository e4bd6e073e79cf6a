-- What a step gives to its actor, said of what the operation knows: its line, the nodes that it has read, and which main nodes are an indirection's own.
use Rattle.std.specs.Prelude.{◌≡◌, ◌==◌, ◌&&◌, ◌||◌, ℕ, Bool, true, false, not, List, ◌∷◌, Option, Some, None, count_by}
use Rattle.proof_claims.specs.Beneath.history.specs.declared.calls.Call.TheVariants.{Close}
use Rattle.proof_claims.specs.Beneath.slot_arena.specs.declared.nodes.Prev.TheVariants as prev
use Rattle.proof_claims.specs.Beneath.slot_arena.specs.declared.refs.Ref.{Ref}
use Rattle.proof_claims.specs.Beneath.slot_arena.specs.Heaps.{node_at, prev_at, refs_of_node, refs_of_option}
use Rattle.proof_claims.specs.Beneath.machine_model.specs.declared.actions.Action.TheVariants as act
use Rattle.proof_claims.specs.Beneath.machine_model.specs.declared.copying.CopyLine.TheVariants as copy
use Rattle.proof_claims.specs.Beneath.machine_model.specs.declared.lines.Line.{Line}
use Rattle.proof_claims.specs.Beneath.machine_model.specs.declared.lines.Line.TheVariants as line
use Rattle.proof_claims.specs.Beneath.machine_model.specs.declared.lines.Purpose.{Purpose}
use Rattle.proof_claims.specs.Beneath.machine_model.specs.declared.operations.Operation.{Operation}
use Rattle.proof_claims.specs.Beneath.machine_model.specs.declared.reading.Swap.{Swap}
use Rattle.proof_claims.specs.Beneath.machine_model.specs.declared.reading.SwapLine.TheVariants as swap
use Rattle.proof_claims.specs.Beneath.machine_model.specs.declared.roots.Complete.{Complete}
use Rattle.proof_claims.specs.Beneath.machine_model.specs.declared.roots.Descriptor.{Descriptor}
use Rattle.proof_claims.specs.Beneath.machine_model.specs.declared.roots.Root.{Root}
use Rattle.proof_claims.specs.Beneath.machine_model.specs.declared.steps.Bounds.{Bounds}
use Rattle.proof_claims.specs.Beneath.machine_model.specs.declared.steps.Step.{Step}
use Rattle.proof_claims.specs.Beneath.machine_model.specs.declared.steps.Step.TheVariants as step
use Rattle.proof_claims.specs.Beneath.machine_model.specs.Calls.{handle_of}
use Rattle.proof_claims.specs.Beneath.machine_model.specs.Keys.{KeysFit}
use Rattle.proof_claims.specs.Beneath.machine_model.specs.Machine.{AreBounds, run}
use Rattle.proof_claims.specs.Beneath.machine_model.specs.Operations.{action_of}
use Rattle.proof_claims.specs.Beneath.machine_model.specs.States.{State, operation_of, root_at, root_of, word_at}
use Rattle.proof_claims.specs.Beneath.machine_model.specs.Swapping.{is_carried_out}
use Rattle.proof_claims.specs.Beneath.proof_reuse.specs.Laws.{HasReplaced}
use Rattle.proof_claims.specs.Held.{Held, OfHandle, OfNode, gives, is_in, is_owned}
use Rattle.proof_claims.specs.Changes.{change_of, given_up}
use Rattle.proof_claims.specs.Claims.{Has, claims_of, held_of, how_often}
use Rattle.proof_claims.specs.Dropped.{HasFailed}

-- what the step gives to its actor, if it is taken next
abbrev pub given_by_step : Bounds → List Step → Step → List Ref
given_by_step limits steps s = gives (change_of (run limits steps) (held_of limits steps) s) (claims_of limits steps)

-- once where it is so, and else not at all
abbrev pub once : Bool → ℕ
once true = 1
once false = 0

abbrev pub names : State → Ref → Ref → Bool
names state j k = is_in (refs_of_node (node_at state.heap j)) k

-- what the fresh main node takes over: what the replaced one names, where that is the indirection's own
abbrev pub takes_over : State → Held → Ref → Ref → Ref → Bool
takes_over state held i m k = is_owned held i m && names state m k

-- Who sees at the end of its SWAP that its fresh node was committed over the indirection's own one is given once each of what that one names, and the fresh one doesn't.
abbrev pub GivenByOwn : Type 0
GivenByOwn =
    (limits : Bounds) (steps : List Step) (actor : ℕ) (i m f k : Ref) → AreBounds limits → KeysFit steps → HasReplaced (run limits steps) actor i m f → is_owned (held_of limits steps) i m ≡ true →
    how_often k (given_by_step limits steps (step.Go actor)) ≡ once (names (run limits steps) m k && not (names (run limits steps) f k))

-- Where it wasn't its own, the replaced one itself, once.
abbrev pub GivenByShared : Type 0
GivenByShared =
    (limits : Bounds) (steps : List Step) (actor : ℕ) (i m f k : Ref) → AreBounds limits → KeysFit steps → HasReplaced (run limits steps) actor i m f → is_owned (held_of limits steps) i m ≡ false →
    how_often k (given_by_step limits steps (step.Go actor)) ≡ once (m == k)

-- Who sees that its fresh node has failed, once each of what that one names and doesn't take over.
abbrev pub GivenByFailed : Type 0
GivenByFailed =
    (limits : Bounds) (steps : List Step) (actor : ℕ) (i m f k : Ref) → AreBounds limits → KeysFit steps → HasFailed (run limits steps) actor i m f →
    how_often k (given_by_step limits steps (step.Go actor)) ≡ once (names (run limits steps) f k && not (takes_over (run limits steps) (held_of limits steps) i m k))

-- The indirection has a claim on the node that is replaced then, or has failed: that one ends, or is given.
abbrev pub LinkHolds : Type 0
LinkHolds =
    (limits : Bounds) (steps : List Step) (actor : ℕ) (i m f : Ref) → AreBounds limits → KeysFit steps →
    (HasReplaced (run limits steps) actor i m f → Has (held_of limits steps) (OfNode i) m) × (HasFailed (run limits steps) actor i m f → Has (held_of limits steps) (OfNode i) f)

-- A close is given its root, once.
abbrev pub GivenByClose : Type 0
GivenByClose =
    (limits : Bounds) (steps : List Step) (actor handle : ℕ) (number : Option ℕ) (root : Root) (k : Ref) → AreBounds limits → KeysFit steps → root_at (run limits steps) handle ≡ Some root →
    how_often k (given_by_step limits steps (step.Begin actor (Close handle) number)) ≡ once (root_of root.word == k)

-- what the fresh main node takes over that the operation is about to swap in
abbrev pub takes_at : State → Held → Line → Ref → Ref → Bool
takes_at state held (line.Swap why w) x k = (w.fresh == x) && takes_over state held w.indirection w.replaced k
takes_at state held l x k = false

-- whether a node that the operation made in its running try has a claim on this one
abbrev pub holds_made : State → Held → Operation → Ref → Ref → Bool
holds_made state held operation x k = names state x k && not (takes_at state held operation.line x k)

-- how many of the nodes that it made in its running try have
abbrev pub times_made : Bool → State → Held → Operation → Ref → ℕ
times_made true state held operation k = 0
times_made false state held operation k = count_by (λ (x : Ref). holds_made state held operation x k) operation.private

-- Who gives up what it made is given each node that it didn't make itself as often as what it made names it, but for what its fresh node was to take over.
abbrev pub GivenByGivingUp : Type 0
GivenByGivingUp =
    (limits : Bounds) (steps : List Step) (s : Step) (actor : ℕ) (operation : Operation) (k : Ref) → AreBounds limits → KeysFit steps → operation_of (run limits steps) actor ≡ Some operation →
    change_of (run limits steps) (held_of limits steps) s ≡ given_up operation.private →
    how_often k (given_by_step limits steps s) ≡ times_made (is_in operation.private k) (run limits steps) (held_of limits steps) operation k

-- The operation of this actor is at the last step of the COMPLETE of its own offer.
pub record SeesOutcome (state : State) (actor : ℕ) (offer : Descriptor) (main : Ref) : Type 0 where
  pub operation : Operation
  pub runs : operation_of state actor ≡ Some operation
  pub completing : Complete
  pub completes : operation.line ≡ line.Copy (copy.Complete completing)
  pub acts : action_of state operation ≡ act.Complete offer main

-- the step carries the offer out, or another one did
abbrev pub is_done : (state : State) {actor : ℕ} {offer : Descriptor} {main : Ref} → SeesOutcome state actor offer main → Bool
is_done state {actor} {offer} {main} h = is_carried_out (word_at state (handle_of h.operation.call)) offer main || h.operation.is_marked

-- the offer is a freeze's, which opens a handle over the old root
abbrev pub is_freeze : Option ℕ → Option Ref → Bool
is_freeze (Some opens) None = true
is_freeze opens second = false

-- Who finds that its offer was carried out is given the old root, once; but nothing by a freeze.
abbrev pub GivenByCarried : Type 0
GivenByCarried =
    (limits : Bounds) (steps : List Step) (actor : ℕ) (offer : Descriptor) (main k : Ref) → AreBounds limits → KeysFit steps → (h : SeesOutcome (run limits steps) actor offer main) →
    is_done (run limits steps) h ≡ true → how_often k (given_by_step limits steps (step.Go actor)) ≡ once ((offer.root == k) && not (is_freeze offer.opens offer.second))

-- Who finds that it was taken back, what each of the roots that it made for it names.
abbrev pub GivenByTakenBack : Type 0
GivenByTakenBack =
    (limits : Bounds) (steps : List Step) (actor : ℕ) (offer : Descriptor) (main k : Ref) → AreBounds limits → KeysFit steps → (h : SeesOutcome (run limits steps) actor offer main) →
    is_done (run limits steps) h ≡ false →
    how_often k (given_by_step limits steps (step.Go actor)) ≡ count_by (λ (x : Ref). names (run limits steps) x k) (offer.successor ∷ refs_of_option offer.second)

-- The step gives claims: of who looks how its SWAP ended, gives up what it made, or finds what came of its offer, and the begin of a close.
pub data GivesClaims (state : State) (held : Held) (s : Step) : Type 0 where
  of_replaced : (actor : ℕ) (i m f : Ref) → s ≡ step.Go actor → HasReplaced state actor i m f → GivesClaims state held s
  of_failed : (actor : ℕ) (i m f : Ref) → s ≡ step.Go actor → HasFailed state actor i m f → GivesClaims state held s
  of_giving_up : (actor : ℕ) (operation : Operation) → operation_of state actor ≡ Some operation → change_of state held s ≡ given_up operation.private → GivesClaims state held s
  of_outcome : (actor : ℕ) (offer : Descriptor) (main : Ref) → s ≡ step.Go actor → SeesOutcome state actor offer main → GivesClaims state held s
  of_close : (actor handle : ℕ) (number : Option ℕ) → s ≡ step.Begin actor (Close handle) number → GivesClaims state held s

-- Every other step gives its actor what it makes, and nothing else.
abbrev pub GivenOtherwise : Type 0
GivenOtherwise =
    (limits : Bounds) (steps : List Step) (s : Step) (k : Ref) → ¬ GivesClaims (run limits steps) (held_of limits steps) s →
    how_often k (given_by_step limits steps s) ≡ how_often k (change_of (run limits steps) (held_of limits steps) s).made

-- ---- until then

-- From the commit of its fresh node until who swapped that in has looked, the indirection has a claim on the replaced one, and that one, if it was the indirection's own, on what it names and
-- the fresh one doesn't.
abbrev pub ReplacedIsHeld : Type 0
ReplacedIsHeld =
    (limits : Bounds) (steps : List Step) (actor : ℕ) (operation : Operation) (why : Purpose) (w : Swap) → AreBounds limits → KeysFit steps → operation_of (run limits steps) actor ≡ Some operation →
    operation.line ≡ line.Swap why w → ¬ (w.line ≡ swap.Publish) → prev_at (run limits steps).heap w.fresh ≡ prev.None →
    Has (held_of limits steps) (OfNode w.indirection) w.replaced
    × (is_owned (held_of limits steps) w.indirection w.replaced ≡ true → (k : Ref) → names (run limits steps) w.replaced k ≡ true → names (run limits steps) w.fresh k ≡ false →
    Has (held_of limits steps) (OfNode w.replaced) k)

-- From the step that carries its offer out until who offered has seen that, its handle has a claim on the old root, but for a freeze.
abbrev pub OldRootIsHeld : Type 0
OldRootIsHeld =
    (limits : Bounds) (steps : List Step) (actor : ℕ) (operation : Operation) (c : Complete) → AreBounds limits → operation_of (run limits steps) actor ≡ Some operation →
    operation.line ≡ line.Copy (copy.Complete c) → operation.is_marked ≡ true → is_freeze c.offer.opens c.offer.second ≡ false →
    Has (held_of limits steps) (OfHandle (handle_of operation.call)) c.offer.root
