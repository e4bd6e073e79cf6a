-- What the steps of a core tell: their outcome, and what the definition tells of them beside it.
use Rattle.std.specs.Prelude.{None, ◌≡◌, ℕ, Option, option_and_then, Result, Ok, Err}
use Rattle.machine_core.specs.Vocabulary.{Refusal, Call, Operation, Publication, Outcome, Reply, State, operation_of, published_by, told_in, answer_of}
use Rattle.machine_model.specs.declared.records.Told.TheVariants as told
use Rattle.machine_model.specs.declared.steps.Outcome.TheVariants as outcome
use Rattle.machine_model.specs.declared.steps.Step.TheVariants as step
use Rattle.machine_core.specs.declared.telling.Begun.{Begun}
use Rattle.machine_core.specs.declared.telling.Ended.{Ended}
use Rattle.machine_core.specs.declared.telling.Stepped.{Stepped}

-- ---- the outcome

abbrev pub began : Result Begun Refusal → Result Outcome Refusal
began (Ok begun) = Ok (outcome.Began begun.id)
began (Err refusal) = Err refusal

abbrev pub stepped : Result Stepped Refusal → Result Outcome Refusal
stepped (Ok step) = Ok (outcome.Went step.kind)
stepped (Err refusal) = Err refusal

abbrev pub ended : Result Ended Refusal → Result Outcome Refusal
ended (Ok end) = Ok (outcome.Ended end.entrant.id end.reply)
ended (Err refusal) = Err refusal

-- ---- what is told beside it

abbrev pub TellsBegin : State → ℕ → Call → Begun → Type 0
TellsBegin state actor call begun = told_in state (step.Begin actor call None) ≡ told.Began begun.id actor call begun.opens

abbrev pub TellsStep : State → ℕ → Stepped → Type 0
TellsStep state actor taken = told_in state (step.Go actor) ≡ told.Went actor taken.progress

abbrev pub TellsEnd : State → ℕ → Ended → Type 0
TellsEnd state actor end = told_in state (step.Go actor) ≡ told.Ended actor end.entrant end.reply

-- the main node that this operation swaps in by its next step, if it does
abbrev pub published_of : Option Operation → Option Publication
published_of found = option_and_then (λ operation. published_by operation operation.line) found

abbrev pub published_in : State → ℕ → Option Publication
published_in state actor = published_of (operation_of state actor)

-- the reply with which the actor's operation ends by its next step, if it does
abbrev pub reply_in : State → ℕ → Option Reply
reply_in state actor = option_and_then (λ operation. answer_of operation.line) (operation_of state actor)
