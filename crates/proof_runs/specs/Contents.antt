-- What a step does to the contents of the open handles.
use Rattle.proof_runs.specs.Vocabulary.{Step, bounded, UntouchedStay, UpdatesChange, RepairsStay, ClearsEmpty, ClosesTake, OpenedCopy}
use Rattle.proof_runs.specs.Machines.{Taken, state_of}

-- A handle that the step doesn't touch stays open, of its kind, with its content. The commit of an operation's own update does its call's change, with its
-- reply, to each handle that reaches it, and commits of repaired nodes change nothing. A clear leaves its handle empty, a close takes it away, and a handle
-- that is opened is a copy.
pub record ChangesContents (before : Taken) (step : Step) (after : Taken) : Type 0 where
  pub stay : UntouchedStay (bounded before.limits) (state_of before) step (state_of after)
  pub updates : UpdatesChange (bounded before.limits) (state_of before) step (state_of after)
  pub repairs : RepairsStay (bounded before.limits) (state_of before) step (state_of after)
  pub clears : ClearsEmpty (bounded before.limits) (state_of before) step (state_of after)
  pub closes : ClosesTake (bounded before.limits) (state_of before) step (state_of after)
  pub opens : OpenedCopy (bounded before.limits) (state_of before) step (state_of after)
