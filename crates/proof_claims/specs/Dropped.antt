-- Nodes that hold nothing any more: no root leads there ever after.
use Rattle.std.specs.Prelude.{◌≡◌, ◌⊎◌, ℕ, false, true, List, [], ◌∷◌, ◌++◌, Some}
use Rattle.proof_claims.specs.Beneath.slot_arena.specs.declared.refs.Ref.{Ref}
use Rattle.proof_claims.specs.Beneath.slot_arena.specs.declared.nodes.Prev.TheVariants as prev
use Rattle.proof_claims.specs.Beneath.slot_arena.specs.Heaps.{main_at, prev_at}
use Rattle.proof_claims.specs.Beneath.machine_model.specs.declared.lines.Line.TheVariants as line
use Rattle.proof_claims.specs.Beneath.machine_model.specs.declared.lines.Purpose.{Purpose}
use Rattle.proof_claims.specs.Beneath.machine_model.specs.declared.operations.Operation.{Operation}
use Rattle.proof_claims.specs.Beneath.machine_model.specs.declared.reading.SwapLine.TheVariants as swap
use Rattle.proof_claims.specs.Beneath.machine_model.specs.declared.steps.Bounds.{Bounds}
use Rattle.proof_claims.specs.Beneath.machine_model.specs.declared.steps.Step.{Step}
use Rattle.proof_claims.specs.Beneath.machine_model.specs.Machine.{is_taken_step, next, run}
use Rattle.proof_claims.specs.Beneath.machine_model.specs.States.{State, operation_of}
use Rattle.proof_claims.specs.Beneath.proof_commits.specs.Runs.{HasIndirection}
use Rattle.proof_claims.specs.Beneath.proof_followed.specs.Followed.{IsFollowedByAny}
use Rattle.proof_claims.specs.Beneath.proof_garbage.specs.Live.{IsLive}
use Rattle.proof_claims.specs.Beneath.proof_memory.specs.Laws.{IsInUse}
use Rattle.proof_claims.specs.Beneath.proof_owned.specs.Laws.{IsReplaced}
use Rattle.proof_claims.specs.Beneath.proof_reuse.specs.Laws.{IsGarbage}
use Rattle.proof_claims.specs.Held.{Change, OfNode, is_kept, is_owned}
use Rattle.proof_claims.specs.Changes.{change_of}
use Rattle.proof_claims.specs.Claims.{held_of}

-- The operation of this actor is at the last step of its SWAP, and finds that its fresh node wasn't committed.
pub record HasFailed (state : State) (actor : ℕ) (i m f : Ref) : Type 0 where
  pub operation : Operation
  pub runs : operation_of state actor ≡ Some operation
  pub why : Purpose
  pub checks : operation.line ≡ line.Swap why (record { indirection = i; replaced = m; fresh = f; line = swap.Check })
  pub uncommitted : ¬ (prev_at state.heap f ≡ prev.None)

-- the step commits another main node over this one, which the indirection has
pub record CommitsOver (limits : Bounds) (before : List Step) (s : Step) (i m : Ref) : Type 0 where
  pub fresh : Ref
  pub has : HasIndirection (run limits before) i
  pub stood : main_at (run limits before).heap i ≡ fresh
  pub pending : prev_at (run limits before).heap fresh ≡ prev.Pending m
  pub committed : prev_at (run limits (before ++ s ∷ [])).heap fresh ≡ prev.None

-- whatever the node holds, the change lets go of it
abbrev pub LetsGo : Change → Ref → Type 0
LetsGo change j = (k : Ref) → is_kept (change.fate (record { by = OfNode j; on = k })) ≡ false

-- the step is taken, and lets go of all that the node holds
pub record IsLetGo (limits : Bounds) (before : List Step) (s : Step) (j : Ref) : Type 0 where
  pub taken : is_taken_step (next (run limits before) s) ≡ true
  pub lets : LetsGo (change_of (run limits before) (held_of limits before) s) j

-- one of the steps did
pub record WasLetGo (limits : Bounds) (steps : List Step) (j : Ref) : Type 0 where
  pub before : List Step
  pub s : Step
  pub since : List Step
  pub goes_on : steps ≡ (before ++ s ∷ []) ++ since
  pub by : IsLetGo limits before s j

-- what was seen of the node after some of the steps
pub data WasDropped (limits : Bounds) (steps : List Step) (j : Ref) : Type 0 where
  -- it was its indirection's own, and the step commits another main node in its place, or who has committed that lets go of it
  replaced : (before : List Step) (s : Step) (since : List Step) (i : Ref) → steps ≡ (before ++ s ∷ []) ++ since → CommitsOver limits before s i j ⊎ IsLetGo limits before s j →
      IsReplaced limits (before ++ s ∷ []) i j → is_owned (held_of limits (before ++ s ∷ [])) i j ≡ true → WasDropped limits steps j
  -- who swapped it in saw that it has failed
  failed : (before since : List Step) (actor : ℕ) (i m : Ref) → steps ≡ before ++ since → HasFailed (run limits before) actor i m j → WasDropped limits steps j
  -- who made it gave it up, and nobody else knew it
  unmet : (before : List Step) (s : Step) (since : List Step) → steps ≡ (before ++ s ∷ []) ++ since → IsLetGo limits before s j → IsInUse (run limits (before ++ s ∷ [])).heap j →
      ¬ IsLive (run limits (before ++ s ∷ [])) j → WasDropped limits steps j
  -- the offer for which the root was made was taken back, and nobody follows it any more
  untaken : (before : List Step) (s : Step) (since : List Step) → steps ≡ (before ++ s ∷ []) ++ since → IsLetGo limits before s j → HasIndirection (run limits (before ++ s ∷ [])) j →
      IsGarbage (run limits (before ++ s ∷ [])) j → ¬ IsFollowedByAny (run limits (before ++ s ∷ [])) j → WasDropped limits steps j
