use Rattle.history_text.proofs.fault_text.FaultTextDisplay.fmt.Goals as goal

pub returns-in-StandsBehind-clause-writes : goal.returns-in-StandsBehind-clause-writes
returns-in-StandsBehind-clause-writes g c = λ p ok. rw c.in-StandsBehind.is (c.write-in-StandsBehind.ensures.writes p ok)
