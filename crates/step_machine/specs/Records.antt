-- What is kept of a run, and that its order is legal.
use Rattle.std.specs.Prelude.{◌≡◌, List, length}
use Rattle.step_machine.specs.Vocabulary.{hash_of, Explains, HandleMap, Limits, Step, in_use, bounded, run, taken_steps, order_of, record_of}
use Rattle.machine_core.specs.Asking.{asked_all}
use Rattle.step_machine.specs.Beneath.proof_order.specs.Laws.Orders.{ShowsContents}
use Rattle.proof_runs.specs.Machines.{Taken, past_of, state_of}
use Rattle.step_machine.specs.declared.records.Record.{Record}

-- the machine has taken those of the steps that aren't denied
abbrev pub IsAfter : Limits → List Step → Taken → Type 0
IsAfter limits steps machine = machine ≡ record { limits = limits; steps = taken_steps (bounded limits) steps }

-- the record says what a machine has done
pub record IsRecordOf (machine : Taken) (made : Record) : Type 0 where
  pub sizes : made.limits ≡ machine.limits
  pub path : asked_all made.steps.items ≡ machine.steps
  pub history : made.events.items ≡ (past_of machine).events
  pub order : made.order.items ≡ order_of (past_of machine)
  pub used : made.used ≡ length (in_use (state_of machine).heap)
  pub free : made.free ≡ length (state_of machine).heap.free
  pub limbo : made.limbo ≡ length (state_of machine).limbo

-- the record of the run of these steps: those that were taken, the history, the order, and the last state's numbers
pub record IsRecord (limits : Limits) (steps : List Step) (made : Record) : Type 0 where
  pub sizes : made.limits ≡ limits
  pub path : asked_all made.steps.items ≡ taken_steps (bounded limits) steps
  pub history : made.events.items ≡ (record_of (bounded limits) steps).events
  pub order : made.order.items ≡ order_of (record_of (bounded limits) steps)
  pub used : made.used ≡ length (in_use (run (bounded limits) steps).heap)
  pub free : made.free ≡ length (run (bounded limits) steps).heap.free
  pub limbo : made.limbo ≡ length (run (bounded limits) steps).limbo

-- the order of a record is legal for its history, and leads to a world that shows the contents behind the last of its steps
abbrev pub IsLegalRecord : Record → Type 0
IsLegalRecord made =
    (world : HandleMap) × Explains (hash_of made.limits.hash) made.events.items made.order.items world × ShowsContents world (run (bounded made.limits) (asked_all made.steps.items))
