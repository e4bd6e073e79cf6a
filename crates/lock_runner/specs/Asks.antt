-- What the seats ask of the machine behind the gate, and what they are told.
use Rattle.std.specs.Prelude.{None, ℕ, Result, Ok, Err}
use Rattle.lock_runner.specs.Vocabulary.{Step, Outcome}
use Rattle.lock_runner.specs.Beneath.machine_model.specs.declared.steps.Step.TheVariants as step
use Rattle.gate.specs.declared.objects.Entry.{Entry}
use Rattle.gate.specs.Seats as gate
use Rattle.lock_runner.specs.declared.seats.Stop.{Stop}
use Rattle.lock_runner.specs.declared.asks.Shared.{Shared}
use Rattle.lock_runner.specs.declared.asks.Work.{Work}
use Rattle.lock_runner.specs.declared.asks.Work.TheVariants as work
use Rattle.lock_runner.specs.declared.asks.Ask.{Ask}

-- the number of events before the step and its outcome, or why none was taken
abbrev pub Told : Type 0
Told = Result (ℕ × Outcome) Stop

-- a hold of the gate, as its log tells of it
abbrev pub Hold : Type 0
Hold = Entry Ask Told

-- a seat at the gate
abbrev pub Pass : Type 0
Pass = gate.Seated Shared Ask Told

-- the step of the actor whose seat has this number
abbrev pub step_of : ℕ → Work → Step
step_of seat (work.Begin call) = step.Begin seat call None
step_of seat work.Go = step.Go seat
step_of seat work.Sweep = step.Sweep

-- how many steps of the sweep were taken in the hold
abbrev pub swept_by : Told → Work → ℕ
swept_by (Err stop) asked = 0
swept_by (Ok done) work.Sweep = 1
swept_by (Ok done) (work.Begin call) = 0
swept_by (Ok done) work.Go = 0

abbrev pub swept : Hold → ℕ
swept hold = swept_by hold.answer hold.call.work
