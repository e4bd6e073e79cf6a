use Rattle.std.proofs.Common.{subst}
use Rattle.lock_runner.specs.Beneath.proof_runs.specs.Machines.{past_of}
use Rattle.lock_runner.specs.Seats.{Seated}
use Rattle.lock_runner.specs.ActorHistory.Answers.{AreAnswersOf, RunsJust}
use Rattle.lock_runner.proofs.Seating.{seated_answers, seated_runs}
use Rattle.lock_runner.proofs.seats.Seat.answers_are_all.Goals as goal

pub returns-clause-answers : goal.returns-clause-answers
returns-clause-answers c =
    let So : Seated → Type 0 = λ s. AreAnswersOf s.actor (past_of s.seen).events s.answers in
    subst So c.self.view_is (seated_answers _ _ _ _ c.self.invariant)

pub returns-clause-running : goal.returns-clause-running
returns-clause-running c =
    let So : Seated → Type 0 = λ s. RunsJust s.actor (past_of s.seen).events s.running in
    subst So c.self.view_is (seated_runs _ _ _ _ c.self.invariant)
