-- What the calls of a runner promise.
use Rattle.std.specs.Prelude.{◌≡◌, ◌⊎◌, [], ◌∷◌, ◌++◌, Some, Result, Ok, Err}
use denote.Ref.{Bor}
use Rattle.lock_runner.specs.Vocabulary.{Call, Reply}
use Rattle.lock_runner.specs.declared.accounts.Answer.{Answer}
use Rattle.lock_runner.specs.declared.accounts.Running.{Running}
use Rattle.lock_runner.specs.declared.seats.Stop.{Stop}
use Rattle.lock_runner.specs.Seats.{Seated, IsIdle}
use Rattle.lock_runner.specs.Stepping.{HasGoneOn, IsUntold, IsAnswered, HasTakenNone, IsBehind, Runs, IsNotBegun, IsNotTaken}

-- ---- going on

-- the operation that the seat has was answered; or it runs still, and it is told why
abbrev pub CarriesOn : Result (Unit {0}) Stop → Seated → Seated → Type 0
CarriesOn (Ok done) before after = (operation : Running) × IsAnswered operation before after
CarriesOn (Err stop) before after = IsUntold before after × (after.running ≡ before.running) × IsNotTaken stop after

-- one answer more stands last, which is that of the seat's operation, and its reply is lent; or there is none more, the
-- operation runs still, and it is told why
abbrev pub AnswersRunning : Result (Bor Reply) Stop → Seated → Seated → Type 0
AnswersRunning (Ok reply) before after =
    (operation : Running) × (before.running ≡ Some operation) × IsIdle after
    × (answer : Answer) × (after.answers ≡ before.answers ++ answer ∷ []) × (answer.reply ≡ reply.now)
    × (answer.id ≡ operation.id) × (answer.call ≡ operation.call) × (answer.began ≡ operation.began)
AnswersRunning (Err stop) before after = (after.answers ≡ before.answers) × (after.running ≡ before.running) × IsNotTaken stop after

abbrev pub Resumes : Result (Bor Reply) Stop → Seated → Seated → Type 0
Resumes result before after = HasGoneOn before after × (after.sweeps ≡ before.sweeps) × AnswersRunning result before after

-- ---- beginning and going on

-- the seat was idle; the call was answered, and began behind all that the seat had seen and heard of
pub record IsPerformed (asked : Call) (before after : Seated) : Type 0 where
  pub on : HasGoneOn before after
  pub sweeps : after.sweeps ≡ before.sweeps
  pub ready : IsIdle before
  pub idle : IsIdle after
  pub answer : Answer
  pub last : after.answers ≡ before.answers ++ answer ∷ []
  pub call : answer.call ≡ asked
  pub behind : IsBehind answer.began before

-- either nothing began, or the call began and runs still; and it is told why
abbrev pub HasStopped : Stop → Seated → Call → Seated → Type 0
HasStopped stop before call after =
    ((after.running ≡ before.running) × HasTakenNone before after × IsNotBegun stop call after) ⊎ (Runs call before after × IsNotTaken stop after)

abbrev pub CarriesOut : Result (Unit {0}) Stop → Seated → Call → Seated → Type 0
CarriesOut (Ok done) before call after = IsPerformed call before after
CarriesOut (Err stop) before call after = IsUntold before after × HasStopped stop before call after

-- The seat was idle; one answer more stands last, which is that of the call, and its reply is lent; it began behind all that
-- the seat had seen and heard of. Or there is none more, and the call has stopped.
abbrev pub AnswersCall : Result (Bor Reply) Stop → Seated → Call → Seated → Type 0
AnswersCall (Ok reply) before call after =
    IsIdle before × IsIdle after × (answer : Answer) × (after.answers ≡ before.answers ++ answer ∷ []) × (answer.reply ≡ reply.now)
    × (answer.call ≡ call) × IsBehind answer.began before
AnswersCall (Err stop) before call after = (after.answers ≡ before.answers) × HasStopped stop before call after

abbrev pub Performs : Result (Bor Reply) Stop → Seated → Call → Seated → Type 0
Performs result before call after = HasGoneOn before after × (after.sweeps ≡ before.sweeps) × AnswersCall result before call after
