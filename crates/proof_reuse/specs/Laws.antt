-- When a slot may be used again, for every list of steps.
use Rattle.std.specs.Prelude.{◌≡◌, ℕ, suc, ◌+◌, ◌<◌, ◌≤◌, List, [], ◌∷◌, ◌++◌, Contains, Some, Ok}
use Rattle.proof_reuse.specs.Beneath.slot_arena.specs.declared.refs.Ref.{Ref}
use Rattle.proof_reuse.specs.Beneath.slot_arena.specs.Heaps.{logical_main, main_at, prev_at}
use Rattle.proof_reuse.specs.Beneath.slot_arena.specs.declared.nodes.Prev.TheVariants as prev
use Rattle.proof_reuse.specs.Beneath.machine_model.specs.declared.lines.Line.TheVariants as line
use Rattle.proof_reuse.specs.Beneath.machine_model.specs.declared.lines.Purpose.{Purpose}
use Rattle.proof_reuse.specs.Beneath.machine_model.specs.declared.reading.SwapLine.TheVariants as swap
use Rattle.proof_reuse.specs.Beneath.machine_model.specs.declared.steps.Outcome.{Outcome}
use Rattle.proof_reuse.specs.Beneath.machine_model.specs.declared.steps.Step.TheVariants.{Go}
use Rattle.proof_reuse.specs.Beneath.machine_model.specs.Swapping.{swapping}
use Rattle.proof_reuse.specs.Beneath.machine_model.specs.declared.operations.Operation.{Operation}
use Rattle.proof_reuse.specs.Beneath.machine_model.specs.declared.steps.Bounds.{Bounds}
use Rattle.proof_reuse.specs.Beneath.machine_model.specs.declared.steps.Step.{Step}
use Rattle.proof_reuse.specs.Beneath.machine_model.specs.Machine.{AreBounds, next, run}
use Rattle.proof_reuse.specs.Beneath.machine_model.specs.Operations.{action_of}
use Rattle.proof_reuse.specs.Beneath.machine_model.specs.States.{State, operation_of}
use Rattle.proof_reuse.specs.Beneath.machine_model.specs.Times.{states_of, last_of}
use Rattle.proof_reuse.specs.Beneath.proof_memory.specs.Laws.{IsInUse}
use Rattle.proof_reuse.specs.Beneath.proof_commits.specs.Protocol.{Stage, Rests, Reads, Builds, Publishes, Decides, Checks}
use Rattle.proof_reuse.specs.Beneath.proof_commits.specs.Runs.{HasIndirection}
use Rattle.proof_reuse.specs.Beneath.proof_commits.specs.Stages.{stage_of_actor}
use Rattle.proof_reuse.specs.Beneath.proof_garbage.specs.Grace.{HaveEnded, IsKnownSince}
use Rattle.proof_reuse.specs.Beneath.proof_garbage.specs.Live.{refs_of_claims}
use Rattle.proof_fresh.specs.Grace.{IsPrivateToNone}
use Rattle.proof_followed.specs.Followed.{IsFollowedByRoots, IsFollowedByAny, followed_action_wants}
use Rattle.proof_followed.specs.Grace.{IsFollowedSince, IsNotSwappedBack, NobodyBrings}
use Rattle.proof_owned.specs.Owned.{IsOwn}
use Rattle.proof_owned.specs.Laws.{IsReplaced, IsFailed}

-- in use, but followed from no root, private to nobody, and to be brought to a root by no copy
pub record IsGarbage (state : State) (r : Ref) : Type 0 where
  pub in_use : IsInUse state.heap r
  pub unfollowed : ¬ IsFollowedByRoots state r
  pub private_to_none : IsPrivateToNone state r
  pub unbrought : NobodyBrings state r

-- what is private to nobody isn't followed again, from roots or by those who begin later, by a swap-in of one who ran then
abbrev pub SwapInsBringNothingBack : Type 0
SwapInsBringNothingBack =
    (limits : Bounds) (before since : List Step) (r : Ref) → AreBounds limits → IsInUse (run limits before).heap r → IsPrivateToNone (run limits before) r → IsNotSwappedBack limits before since r

-- garbage is followed from no root, and by nobody who begins later
abbrev pub GarbageDies : Type 0
GarbageDies =
    (limits : Bounds) (before since : List Step) (r : Ref) → AreBounds limits → IsGarbage (run limits before) r → ¬ IsFollowedSince (run limits before) (run limits (before ++ since)) r

-- Once the epoch has grown twice nobody follows it, and no operation's next action reads or writes its words, or stores it: so its slot may be used again.
abbrev pub GarbageIsDeadAfterTwoEpochs : Type 0
GarbageIsDeadAfterTwoEpochs =
    (limits : Bounds) (before since : List Step) (r : Ref) → AreBounds limits → IsGarbage (run limits before) r → (run limits before).epoch + 2 ≤ (run limits (before ++ since)).epoch →
    (¬ IsFollowedByAny (run limits (before ++ since)) r)
    × ((actor : ℕ) (operation : Operation) → operation_of (run limits (before ++ since)) actor ≡ Some operation →
    ¬ Contains (refs_of_claims (followed_action_wants (action_of (run limits (before ++ since)) operation))) r)

-- Once all who ran then have ended, roots don't lead to it, with all that offers name which stand there, and nobody has it at hand who begins from then on, as long as it is in use.
abbrev pub GarbageIsUnknownAfterGrace : Type 0
GarbageIsUnknownAfterGrace =
    (limits : Bounds) (first middle last : List Step) (r : Ref) → AreBounds limits → IsGarbage (run limits first) r → IsInUse (run limits (first ++ middle)).heap r →
    HaveEnded (run limits first) (run limits (first ++ middle)) → ¬ IsKnownSince (run limits (first ++ middle)) (run limits ((first ++ middle) ++ last)) r

-- ---- by beginnings of the list

-- one of the steps swapped the main node in there
pub record WasSwappedIn (limits : Bounds) (steps : List Step) (i m : Ref) : Type 0 where
  pub before : List Step
  pub actor : ℕ
  pub more : List Step
  pub goes_on : steps ≡ (before ++ Go actor ∷ []) ++ more
  pub operation : Operation
  pub runs : operation_of (run limits before) actor ≡ Some operation
  pub why : Purpose
  pub over : Ref
  pub line : operation.line ≡ line.Swap why (swapping i over m)
  pub outcome : Outcome
  pub after : State
  pub taken : next (run limits before) (Go actor) ≡ Ok (outcome, after)
  pub has : HasIndirection (run limits (before ++ Go actor ∷ [])) i
  pub stands : main_at (run limits (before ++ Go actor ∷ [])).heap i ≡ m

-- the main node counted there after some of the steps, and after more of them another one did
pub record WasReplaced (limits : Bounds) (steps : List Step) (i m : Ref) : Type 0 where
  pub before : List Step
  pub middle : List Step
  pub more : List Step
  pub goes_on : steps ≡ (before ++ middle) ++ more
  pub had : HasIndirection (run limits before) i
  pub was : logical_main (run limits before).heap i ≡ m
  pub has : HasIndirection (run limits (before ++ middle)) i
  pub is : ¬ (logical_main (run limits (before ++ middle)).heap i ≡ m)

-- so it is garbage, as long as it is in use
abbrev pub SwappedInIsGarbage : Type 0
SwappedInIsGarbage =
    (limits : Bounds) (steps : List Step) (i m : Ref) → AreBounds limits → WasSwappedIn limits steps i m → WasReplaced limits steps i m → IsInUse (run limits steps).heap m →
    IsGarbage (run limits steps) m

-- ---- who retires it

-- by one step another main node took the place of the one that counted for the indirection
pub record IsReplacedBy (limits : Bounds) (steps : List Step) (i m f : Ref) : Type 0 where
  pub at : ℕ
  pub within : at < last_of limits steps
  pub had : HasIndirection (states_of limits steps at) i
  pub has : HasIndirection (states_of limits steps (suc at)) i
  pub was : logical_main (states_of limits steps at).heap i ≡ m
  pub is : logical_main (states_of limits steps (suc at)).heap i ≡ f
  pub apart : ¬ (m ≡ f)

-- it is one indirection's own, and one node took its place there
abbrev pub OneTakesItsPlace : Type 0
OneTakesItsPlace =
    (limits : Bounds) (steps : List Step) (i j m f g : Ref) → AreBounds limits → IsOwn (states_of limits steps) (last_of limits steps) i m →
    IsOwn (states_of limits steps) (last_of limits steps) j m → IsReplacedBy limits steps i m f → IsReplacedBy limits steps j m g → (i ≡ j) × (f ≡ g)

-- The operation of this actor is at the last step of its SWAP, and finds that its fresh node was committed over the other one.
pub record HasReplaced (state : State) (actor : ℕ) (i m f : Ref) : Type 0 where
  pub operation : Operation
  pub runs : operation_of state actor ≡ Some operation
  pub why : Purpose
  pub checks : operation.line ≡ line.Swap why (record { indirection = i; replaced = m; fresh = f; line = swap.Check })
  pub decided : prev_at state.heap f ≡ prev.None

-- ---- what is garbage

-- an indirection's own main node that was replaced there, as long as it is in use
abbrev pub ReplacedOwnIsGarbage : Type 0
ReplacedOwnIsGarbage =
    (limits : Bounds) (steps : List Step) (i m : Ref) → AreBounds limits → IsOwn (states_of limits steps) (last_of limits steps) i m → IsReplaced limits steps i m →
    IsInUse (run limits steps).heap m → IsGarbage (run limits steps) m

-- so is the one that a SWAP has replaced which sees its fresh node committed, then and later, as long as it is in use
abbrev pub SwappedOutIsGarbage : Type 0
SwappedOutIsGarbage =
    (limits : Bounds) (before since : List Step) (actor : ℕ) (i m f : Ref) → AreBounds limits → HasReplaced (run limits before) actor i m f →
    IsOwn (states_of limits (before ++ since)) (last_of limits (before ++ since)) i m → IsInUse (run limits (before ++ since)).heap m → IsGarbage (run limits (before ++ since)) m

-- once an operation has seen this of it, no other one does
abbrev pub ReplacedOnce : Type 0
ReplacedOnce =
    (limits : Bounds) (before since : List Step) (a b : ℕ) (i j m f g : Ref) (outcome : Outcome) (after : State) → AreBounds limits →
    next (run limits before) (Go a) ≡ Ok (outcome, after) → HasReplaced (run limits before) a i m f → HasReplaced (run limits ((before ++ Go a ∷ []) ++ since)) b j m g →
    IsOwn (states_of limits ((before ++ Go a ∷ []) ++ since)) (last_of limits ((before ++ Go a ∷ []) ++ since)) i m →
    ¬ IsOwn (states_of limits ((before ++ Go a ∷ []) ++ since)) (last_of limits ((before ++ Go a ∷ []) ++ since)) j m

-- one that has failed, where the node before it was put back, as long as it is in use
abbrev pub FailedOwnIsGarbage : Type 0
FailedOwnIsGarbage =
    (limits : Bounds) (steps : List Step) (i m : Ref) → AreBounds limits → IsOwn (states_of limits steps) (last_of limits steps) i m → IsFailed limits steps i m →
    IsInUse (run limits steps).heap m → IsGarbage (run limits steps) m

-- what a root led to once, as long as it is in use, when none leads to it any more
abbrev pub UnlinkedIsGarbage : Type 0
UnlinkedIsGarbage =
    (limits : Bounds) (before since : List Step) (r : Ref) → AreBounds limits → IsFollowedByRoots (run limits before) r → IsInUse (run limits (before ++ since)).heap r →
    ¬ IsFollowedByRoots (run limits (before ++ since)) r → IsGarbage (run limits (before ++ since)) r

-- ---- whose fresh node it is

-- who is about this has made the node for an indirection that it makes, or for its SWAP, and isn't done with it
abbrev pub IsFreshIn : Stage → Ref → Type 0
IsFreshIn Rests r = ⊥
IsFreshIn (Reads i l) r = ⊥
IsFreshIn (Builds f) r = f ≡ r
IsFreshIn (Publishes i a f) r = f ≡ r
IsFreshIn (Decides i a f l) r = f ≡ r
IsFreshIn (Checks i a f) r = f ≡ r

abbrev pub IsFreshOf : State → ℕ → Ref → Type 0
IsFreshOf state actor r = IsFreshIn (stage_of_actor (operation_of state actor)) r

-- it is one operation's
abbrev pub FreshIsOnes : Type 0
FreshIsOnes = (limits : Bounds) (steps : List Step) (j k : ℕ) (f : Ref) → AreBounds limits → IsFreshOf (run limits steps) j f → IsFreshOf (run limits steps) k f → j ≡ k

-- and once it is nobody's it is nobody's ever after
abbrev pub FreshIsLeftForGood : Type 0
FreshIsLeftForGood =
    (limits : Bounds) (before since : List Step) (f : Ref) → AreBounds limits → IsInUse (run limits before).heap f → ((actor : ℕ) → ¬ IsFreshOf (run limits before) actor f) → (actor : ℕ) →
    ¬ IsFreshOf (run limits (before ++ since)) actor f
