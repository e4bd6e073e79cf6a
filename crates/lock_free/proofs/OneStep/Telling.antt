-- What the history has once an operation has begun, or has ended.
use Rattle.std.proofs.Common.{◌≡◌, ◌+◌, ◌++◌, ℕ, true, [], ◌∷◌, length, Option, None, refl, ap, ◌∙◌, arith, length-append}
use Rattle.std.specs.Prelude.{if◌then◌else◌}
use Rattle.history.specs.declared.calls.Call.{Call}
use Rattle.history.specs.declared.events.Event.TheVariants as event
use Rattle.history.specs.declared.replies.Reply.{Reply}
use Rattle.machine_model.specs.declared.actions.Action.TheVariants as act
use Rattle.machine_model.specs.declared.operations.Operation.{Operation}
use Rattle.machine_model.specs.declared.steps.Step.{Step}
use Rattle.machine_model.specs.declared.steps.Step.TheVariants as step
use Rattle.machine_model.specs.Machine.{Answer, AreBounds, next, begin_denial, begin_unless, begun_operation, go_unless, go_on, step_by, is_taken_step}
use Rattle.machine_model.specs.Operations.{action_of}
use Rattle.machine_model.specs.Records.{Record, next_record, noted, record_of}
use Rattle.machine_model.specs.States.{State, first_state}
use Rattle.machine_model.specs.Tellings.{told_in}
use Rattle.machine_model.specs.Records.{first_record}
use Rattle.machine_model.proofs.Notes.{noted_ending}
use Rattle.machine_model.proofs.Recorded.{record_push}
use Rattle.proof_waiting.specs.Beneath.proof_slots.proofs.Wider.{wider_alike}
use Rattle.proof_waiting.specs.Beneath.proof_slots.proofs.Padded.Runs.{few_steps_have_slots}
use Rattle.lock_free.specs.declared.accounts.Account.{Account}
use Rattle.lock_free.specs.declared.sizes.Sizes.{Sizes}
use Rattle.lock_free.specs.Accounts.{bounds_for, state_of, past_of, running, gone_on}
use Rattle.lock_free.specs.Beginning.{taking}
use Rattle.lock_free.proofs.OneStep.Going.{allowed}
use Rattle.lock_free.proofs.OneStep.Longer.{longer_bounds}

module _ (sizes : Sizes) (account : Account) (bounds : AreBounds (bounds_for sizes account.steps)) where
  abbrev now : State
  now = state_of sizes account

  abbrev past : Record
  past = past_of sizes account

  -- what is recorded of one step more
  pub record_next : (s : Step) → past_of sizes (taking s account) ≡ next_record now past s
  record_next s =
      let steps = account.steps in
      let longer = steps ++ s ∷ [] in
      let count = length-append steps (s ∷ []) in
      ap (λ b. record_of b longer) (longer_bounds sizes steps (s ∷ []))
      ∙ (wider_alike 1 (length longer + 1) (bounds_for sizes steps) longer bounds
      (few_steps_have_slots (bounds_for sizes steps) longer (omega (arith, count))) (omega (arith, count)) (omega arith)).1
      ∙ record_push (first_state (bounds_for sizes steps)) (first_record (bounds_for sizes steps)) steps s

  noted_taken : (s : Step) (answer : Answer) → next now s ≡ answer → is_taken_step answer ≡ true → next_record now past s ≡ noted past now.steps (told_in now s)
  noted_taken s answer is taken = ap (λ a. if is_taken_step a then noted past now.steps (told_in now s) else past) is ∙ ap (λ b. if b then noted past now.steps (told_in now s) else past) taken

  pub begin_told : (actor : ℕ) (call : Call) (number : Option ℕ) → begin_denial now actor call number ≡ None →
      (past_of sizes (taking (step.Begin actor call number) account)).events ≡ past.events ++ event.Begin (begun_operation now call number).id actor call (begun_operation now call number).opens ∷ []
  unfolding next
  begin_told actor call number none =
      ap (λ (r : Record). r.events)
      (record_next (step.Begin actor call number) ∙ noted_taken (step.Begin actor call number) (begin_unless now actor call number None) (ap (λ d. begin_unless now actor call number d) none) refl)

  pub end_told : (actor : ℕ) (operation : Operation) (answer : Reply) → running sizes account actor operation → action_of now operation ≡ act.End answer →
      (past_of sizes (gone_on actor account)).events ≡ past.events ++ event.End operation.id answer ∷ []
  unfolding next
  end_told actor operation answer runs is =
      ap (λ (r : Record). r.events)
      (record_next (step.Go actor)
      ∙ noted_taken (step.Go actor) (step_by now actor operation (act.End answer))
      (ap (λ d. go_unless now actor d) (allowed sizes account bounds actor operation runs) ∙ ap (λ o. go_on now actor o) runs ∙ ap (λ a. step_by now actor operation a) is) refl
      ∙ noted_ending now past actor operation answer runs is)
