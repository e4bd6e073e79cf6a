-- What was so after some of the steps: that a main node stood in an indirection, and that a root of the same generation stood on a handle.
use Rattle.std.proofs.Common.{◌≡◌, ◌≤◌, ℕ, List, ◌++◌, Some, refl, sym, subst, ◌∙◌, arith}
use Rattle.proof_claims.specs.Beneath.slot_arena.specs.declared.refs.Ref.{Ref}
use Rattle.proof_claims.specs.Beneath.slot_arena.specs.Heaps.{generation_at, main_at}
use Rattle.proof_claims.specs.Beneath.machine_model.specs.declared.roots.Root.{Root}
use Rattle.proof_claims.specs.Beneath.machine_model.specs.declared.steps.Bounds.{Bounds}
use Rattle.proof_claims.specs.Beneath.machine_model.specs.declared.steps.Step.{Step}
use Rattle.proof_claims.specs.Beneath.machine_model.specs.Machine.{AreBounds, run}
use Rattle.proof_claims.specs.Beneath.machine_model.specs.States.{State, root_at, root_of}
use Rattle.proof_claims.specs.Beneath.machine_model.specs.Times.{last_of, states_of}
use Rattle.proof_claims.specs.Beneath.machine_model.proofs.Times.{run_ends, run_is}
use Rattle.proof_claims.specs.Beneath.proof_commits.specs.Runs.{HasIndirection}
use Rattle.proof_claims.specs.Beneath.proof_commits.proofs.Words.Stood.{Stood, stands_now, stood_still}
use Rattle.proof_claims.specs.Beneath.proof_generations.proofs.Falling.KnownRoots.{protocol_of}
use Rattle.proof_claims.specs.Beneath.proof_generations.proofs.Falling.Nodes.{used_generation}
use Rattle.proof_claims.specs.Beneath.proof_generations.proofs.Falling.Runs.{gen_of}
use Rattle.proof_claims.specs.Beneath.proof_generations.specs.Falling.{WasOpened}
use Rattle.proof_claims.specs.Beneath.proof_memory.proofs.Safety.AtTimes.{main_found}
use Rattle.proof_claims.specs.Beneath.proof_owned.proofs.MainsInUse.{link_at}
use Rattle.proof_claims.specs.Beneath.proof_reuse.proofs.InLists.{time_within}
use Rattle.proof_claims.specs.Beneath.proof_shape.proofs.Sites.Fixed.{states_of-append}

-- at a time of the run
abbrev pub OnceSo : Bounds → List Step → (State → Type 0) → Type 0
OnceSo limits xs P = (u : ℕ) × (u ≤ last_of limits xs) × P (states_of limits xs u)

pub so_now : (limits : Bounds) (xs : List Step) (P : State → Type 0) → P (run limits xs) → OnceSo limits xs P
so_now limits xs P p = (last_of limits xs, omega arith, subst P (sym (run_ends limits xs)) p)

pub so_later : (limits : Bounds) (xs ys : List Step) (P : State → Type 0) → OnceSo limits xs P → OnceSo limits (xs ++ ys) P
so_later limits xs ys P (u, within, p) =
    let all = time_within limits (xs ++ ys) xs ys refl in (u, omega (arith, within, all), subst P (sym (states_of-append limits xs ys u within)) p)

-- the main node stands in the indirection
abbrev pub StandsIn : Ref → Ref → State → Type 0
StandsIn y k state = HasIndirection state y × (main_at state.heap y ≡ k)

abbrev pub HasGeneration : Ref → ℕ → State → Type 0
HasGeneration y g state = HasIndirection state y × (generation_at state.heap y ≡ g)

-- a handle's root has the generation
abbrev pub IsOpenNow : ℕ → State → Type 0
IsOpenNow g state = (handle : ℕ) × (root : Root) × (root_at state handle ≡ Some root) × (generation_at state.heap (root_of root.word) ≡ g)

-- some handle's root had that of the indirection
abbrev pub WasOpen : Bounds → List Step → Ref → Type 0
WasOpen limits xs y = (g : ℕ) × OnceSo limits xs (HasGeneration y g) × OnceSo limits xs (IsOpenNow g)

pub open_later : (limits : Bounds) (xs ys : List Step) (y : Ref) → WasOpen limits xs y → WasOpen limits (xs ++ ys) y
open_later limits xs ys y (g, has, opened) = (g, so_later limits xs ys (HasGeneration y g) has, so_later limits xs ys (IsOpenNow g) opened)

-- ---- in the words of the run

module _ (limits : Bounds) (ok : AreBounds limits) (xs : List Step) where
  pub stood_once : (y k : Ref) → OnceSo limits xs (StandsIn y k) → Stood (protocol_of (run_is limits xs ok)).words (last_of limits xs) y k
  stood_once y k (u, within, (has, is)) =
      stood_still within (stands_now (link_at (run_is limits xs ok) u y has) (sym (main_found (states_of limits xs) u y has.0) ∙ is))

  pub opened_once : (y : Ref) → WasOpen limits xs y → WasOpened (states_of limits xs) (last_of limits xs) (gen_of (states_of limits xs) (last_of limits xs) y)
  opened_once y (g, (v, below, (has, its)), (u, within, (handle, root, e, is))) =
      (u, within, (handle, root, e, is ∙ sym its ∙ sym (used_generation (run_is limits xs ok) v below y has.0)))
