-- What each step of a call does to the roots of handles.
use Rattle.std.specs.Prelude.{◌≡◌, ℕ, suc, Some}
use Rattle.std.proofs.Common.{◌∙◌, ap, sym, arith}
use Rattle.proof_calls.specs.Beneath.machine_model.specs.declared.operations.Operation.{Operation}
use Rattle.proof_calls.specs.Beneath.machine_model.specs.declared.roots.Root.{Root}
use Rattle.proof_calls.specs.Beneath.machine_model.specs.declared.steps.Bounds.{Bounds}
use Rattle.proof_calls.specs.Beneath.machine_model.specs.declared.steps.Step.{Step}
use Rattle.proof_calls.specs.Beneath.machine_model.specs.declared.steps.Step.TheVariants as step
use Rattle.proof_calls.specs.Beneath.machine_model.specs.States.{State, root_at, root_of, word_of}
use Rattle.proof_calls.specs.Beneath.proof_order.proofs.Openings.RootsFollow.{roots_swapped_as_expected}
use Rattle.proof_updates.proofs.Handles.OfLists.{of_step}
use Rattle.proof_updates.proofs.Handles.OfRuns.{OfLastSteps}
use Rattle.proof_updates.proofs.Handles.Roots.{HandleStep, keeps, changes_root, is_closed, handle_step, new_root, swap_of}
use Rattle.proof_calls.specs.Standing.{StepsCall, of_key, of_copy, of_walk}
use Rattle.proof_calls.specs.Laws.{KeepsOtherRoots, OfEachCallStep, SwapsAsExpected}

-- a call's step is an operation's
its_actor : (state : State) (s : Step) (operation : Operation) → StepsCall state s operation → (actor : ℕ) × (s ≡ step.Go actor)
its_actor state s operation (of_key op told x) = (x.actor, x.is_step)
its_actor state s operation (of_copy copy read told x) = (x.actor, x.is_step)
its_actor state s operation (of_walk walk read told x) = (x.actor, x.is_step)

swaps_last : OfLastSteps (λ limits before s after. SwapsAsExpected before s after)
swaps_last limits states steps t run takes keys s o m notes handle offer carries =
    let (root, is_open, was, expected) = roots_swapped_as_expected run t handle offer (swap_of run t (omega arith) s o m notes handle offer carries) in
    let now = new_root run t (omega arith) s o m notes handle offer carries in
    record { was = ap (λ x. root_of (word_of x)) is_open ∙ was; expected = expected; is = ap (λ x. root_of (word_of x)) now.is_open ∙ now.over }

-- a step of an operation
abbrev KeepsIfGone : Bounds → State → Step → State → Type 0
KeepsIfGone limits before s after = (actor : ℕ) → s ≡ step.Go actor → KeepsOtherRoots before s after

keeps_last : OfLastSteps KeepsIfGone
keeps_last limits states steps t run takes keys s o m notes actor go handle root at none = by (handle_step run t (omega arith) s o m notes handle root at)
  where
    by : HandleStep run t (omega arith) s o m notes handle root → (later : Root) × (root_at (states (suc t)) handle ≡ Some later) × (root_of later.word ≡ root_of root.word)
    by (keeps stands) = (stands.root, stands.is_open, stands.over)
    by (changes_root offer carries old stands) = absurd (none offer carries)
    by (is_closed closer number e gone) = absurd (let both = sym go ∙ e in let wrong : ⊥ = cc both in wrong)

pub swaps_as_expected : OfEachCallStep SwapsAsExpected
swaps_as_expected limits steps s outcome after ok fit taken operation call =
    of_step limits steps s outcome after taken (λ limits before s after. SwapsAsExpected before s after) ok fit swaps_last

pub keeps_other_roots : OfEachCallStep KeepsOtherRoots
keeps_other_roots limits steps s outcome after ok fit taken operation call =
    let its = its_actor _ s operation call in of_step limits steps s outcome after taken KeepsIfGone ok fit keeps_last its.0 its.1
