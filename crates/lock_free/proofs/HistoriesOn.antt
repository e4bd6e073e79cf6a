-- With more steps the history goes on.
use Rattle.std.proofs.Common.{◌≡◌, ◌≤◌, ◌+◌, List, [], ◌∷◌, ◌++◌, length, refl, sym, ap, subst, ◌∙◌, arith, length-append}
use Rattle.machine_model.specs.declared.steps.Step.{Step}
use Rattle.machine_model.specs.Machine.{AreBounds, run, next_state}
use Rattle.machine_model.specs.Records.{Record, record_of, record_from, first_record, next_record}
use Rattle.machine_model.specs.States.{State, first_state}
use Rattle.machine_model.proofs.Recorded.{record-append, kept_by_notes}
use Rattle.proof_linearizable.specs.Beneath.proof_order.proofs.History.Growing.{events_grow, grows_same, grows_trans}
use Rattle.proof_waiting.specs.Beneath.proof_slots.proofs.Padded.Runs.{few_steps_have_slots}
use Rattle.proof_waiting.specs.Beneath.proof_slots.proofs.Wider.{wider_alike}
use Rattle.lock_free.specs.declared.sizes.Sizes.{Sizes}
use Rattle.lock_free.specs.Accounts.{bounds_for}
use Rattle.lock_free.specs.Telling.{history_of, GoesOn, HistoriesGoOn}
use Rattle.lock_free.proofs.OneStep.Longer.{longer_bounds}

-- steps add events
pub from_grows : (state : State) (past : Record) (steps : List Step) → GoesOn past.events (record_from state past steps).events
unfolding record_from
from_grows state past [] = grows_same past.events past.events refl
from_grows state past (s ∷ steps) =
    grows_trans past.events (next_record state past s).events (record_from (next_state state s) (next_record state past s) steps).events
    (kept_by_notes (λ (after : State) (now : Record). GoesOn past.events now.events) state past s (grows_same past.events past.events refl) (λ o after m. events_grow state past s o after m))
    (from_grows (next_state state s) (next_record state past s) steps)

module _ (sizes : Sizes) (steps more : List Step) (ok : AreBounds (bounds_for sizes steps)) where
  -- the same is recorded of the same steps of a longer account
  pub record_longer : record_of (bounds_for sizes (steps ++ more)) steps ≡ record_of (bounds_for sizes steps) steps
  record_longer =
      let enough : length steps + 2 ≤ (bounds_for sizes steps).slots = omega arith in
      let left : length steps ≤ (bounds_for sizes steps).steps = omega arith in
      let also : length steps ≤ length (steps ++ more) + 1 = omega (arith, length-append steps more) in
      ap (λ b. record_of b steps) (longer_bounds sizes steps more)
      ∙ (wider_alike (length more) (length (steps ++ more) + 1) (bounds_for sizes steps) steps ok (few_steps_have_slots (bounds_for sizes steps) steps enough) left also).1

  pub record_on : record_of (bounds_for sizes (steps ++ more)) (steps ++ more) ≡ record_from (run (bounds_for sizes (steps ++ more)) steps) (record_of (bounds_for sizes steps) steps) more
  record_on =
      let bounds = bounds_for sizes (steps ++ more) in
      record-append (first_state bounds) (first_record bounds) steps more ∙ ap (λ r. record_from (run bounds steps) r more) record_longer

  pub events_on : GoesOn (record_of (bounds_for sizes steps) steps).events (record_of (bounds_for sizes (steps ++ more)) (steps ++ more)).events
  events_on =
      subst (λ (r : Record). GoesOn (record_of (bounds_for sizes steps) steps).events r.events) (sym record_on)
      (from_grows (run (bounds_for sizes (steps ++ more)) steps) (record_of (bounds_for sizes steps) steps) more)

pub histories_go_on : HistoriesGoOn
histories_go_on sizes before after ok (more, goes_on) =
    subst (λ (xs : List Step). GoesOn (history_of sizes before) (record_of (bounds_for sizes xs) xs).events) (sym goes_on) (events_on sizes before.steps more ok)
