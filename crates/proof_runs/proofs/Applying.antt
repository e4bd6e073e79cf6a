-- What the laws say of a step that was asked for, be it taken or refused.
use Rattle.std.proofs.Common.{◌≡◌, ◌⊎◌, ◌+◌, ◌≤◌, List, ◌++◌, Result, Ok, Err, OnOk, sym, ap, subst, inl, inr, arith}
use Rattle.proof_runs.specs.Vocabulary.{Refusal, birth_of, Ref, Bounds, Outcome, Step, KeysFit, bounded, AreBounds, next, run, state_after, State, first_state, IsInUse, HeldInUse, StandingInUse}
use Rattle.proof_runs.specs.Vocabulary.{FreedLate, OfEachStep, UntouchedStay, UpdatesChange, RepairsStay, ClearsEmpty, ClosesTake, OpenedCopy}
use Rattle.proof_runs.specs.Beneath.ctrie_base.specs.declared.refusals.Refusal.TheVariants as refuse
use Rattle.proof_runs.specs.Beneath.machine_model.proofs.Along.{run-append}
use Rattle.proof_runs.specs.Beneath.machine_model.proofs.Moves.{moved}
use Rattle.proof_memory.proofs.Heap.Later.{onward, births_later}
use Rattle.proof_memory.proofs.Safety.AtEachTime.{safe_along}
use Rattle.proof_memory.proofs.Safety.States.{stood_or_made}
use Rattle.proof_memory.proofs.Safety.Steps.{step_effect}
use Rattle.proof_runs.specs.Contents.{ChangesContents}
use Rattle.proof_runs.specs.Machines.{Taken, state_of, with_step, Applied}
use Rattle.proof_runs.specs.Memory.{Uses, UsesWhatItNames, FreesLate, DrawsNew}

-- the step was taken, or the machine is as it was
pub outcome_of : (result : Result Outcome Refusal) (before : Taken) (s : Step) (after : Taken) → Applied result before s after →
    ((o : Outcome) × (after ≡ with_step before s) × (next (state_of before) s ≡ Ok (o, state_of after))) ⊎ (after ≡ before)
outcome_of (Ok o) before s after is = inl (o, is.0, is.1)
outcome_of (Err refuse.Memory) before s after is = inr is.0
outcome_of (Err why) before s after is = inr is.0

-- ---- memory

pub uses_what_it_names : HeldInUse → StandingInUse → (machine : Taken) → AreBounds (bounded machine.limits) → UsesWhatItNames machine
uses_what_it_names held standing machine ok =
    let there = standing (bounded machine.limits) machine.steps ok in
    record { got = held (bounded machine.limits) machine.steps ok; roots = there.0; privates = there.1; slots = there.2 }

pub frees_late : FreedLate → (result : Result Outcome Refusal) (before : Taken) (s : Step) (after : Taken) → AreBounds (bounded before.limits) → Applied result before s after →
    FreesLate before s after
frees_late law result before s after ok is r used freed = elim (outcome_of result before s after is) [
  | inl taken ↦ law (bounded before.limits) before.steps s r ok used (subst (λ state. ¬ IsInUse state.heap r) (sym (ap (state_after (state_of before)) taken.2)) freed)
  | inr same ↦ absurd (freed (subst (λ m. Uses m r) (sym same) used))
]

-- what comes into use has the next birth
next_birth : (limits : Bounds) (steps : List Step) (s : Step) (o : Outcome) (after : State) → AreBounds limits → next (run limits steps) s ≡ Ok (o, after) → (r : Ref) →
    ¬ IsInUse (run limits steps).heap r → IsInUse after.heap r → birth_of r ≡ (run limits steps).heap.births + 1
next_birth limits steps s o after ok e r unused (slot, found) =
    elim (stood_or_made _ _ _ _ _ _ (step_effect (run limits steps) (safe_along limits ok steps) s o after (moved (run limits steps) s o after e)).3 r slot found) [
      | inl stood ↦ absurd (unused stood)
      | inr made ↦ made.0
    ]

-- and what was in use before an earlier one
earlier_birth : (limits : Bounds) (steps since : List Step) → AreBounds limits → (r : Ref) → IsInUse (run limits steps).heap r → birth_of r ≤ (run limits (steps ++ since)).heap.births
earlier_birth limits steps since ok r (slot, found) =
    let I = safe_along limits ok steps in
    subst (λ (state : State). birth_of r ≤ state.heap.births) (sym (run-append (first_state limits) steps since))
    (onward (λ (state : State). birth_of r ≤ state.heap.births) (births_later (birth_of r)) since (run limits steps) I (I.births r slot found))

pub draws_new : (result : Result Outcome Refusal) (before : Taken) (s : Step) (after : Taken) → AreBounds (bounded before.limits) → Applied result before s after → DrawsNew before after
draws_new result before s after ok is r unused used steps since parts old = elim (outcome_of result before s after is) [
  | inl taken ↦
      let new = next_birth (bounded before.limits) before.steps s taken.0 (state_of after) ok taken.2 r unused used in
      let low = subst (λ xs. birth_of r ≤ (run (bounded before.limits) xs).heap.births) (sym parts) (earlier_birth (bounded before.limits) steps since ok r old) in
      omega (arith, new, low)
  | inr same ↦ unused (subst (λ m. Uses m r) same used)
]

-- ---- contents

pub changes_contents : OfEachStep UntouchedStay → OfEachStep UpdatesChange → OfEachStep RepairsStay → OfEachStep ClearsEmpty → OfEachStep ClosesTake → OfEachStep OpenedCopy →
    (o : Outcome) (before : Taken) (s : Step) (after : Taken) → AreBounds (bounded before.limits) → KeysFit after.steps → Applied (Ok o) before s after → ChangesContents before s after
changes_contents stay updates repairs clears closes opens o before s after ok keys is =
    let fit = subst (λ (m : Taken). KeysFit m.steps) is.0 keys in record {
      stay = stay (bounded before.limits) before.steps s o (state_of after) ok fit is.1;
      updates = updates (bounded before.limits) before.steps s o (state_of after) ok fit is.1;
      repairs = repairs (bounded before.limits) before.steps s o (state_of after) ok fit is.1;
      clears = clears (bounded before.limits) before.steps s o (state_of after) ok fit is.1;
      closes = closes (bounded before.limits) before.steps s o (state_of after) ok fit is.1;
      opens = opens (bounded before.limits) before.steps s o (state_of after) ok fit is.1;
    }

pub if_changes : OfEachStep UntouchedStay → OfEachStep UpdatesChange → OfEachStep RepairsStay → OfEachStep ClearsEmpty → OfEachStep ClosesTake → OfEachStep OpenedCopy →
    (result : Result Outcome Refusal) (before : Taken) (s : Step) (after : Taken) → AreBounds (bounded before.limits) → KeysFit after.steps → Applied result before s after →
    OnOk result (ChangesContents before s after)
if_changes stay updates repairs clears closes opens (Ok o) before s after ok keys is = changes_contents stay updates repairs clears closes opens o before s after ok keys is
if_changes stay updates repairs clears closes opens (Err why) before s after ok keys is = tt
