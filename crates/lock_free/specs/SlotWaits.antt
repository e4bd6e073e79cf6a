-- Calls that begin anew where they have found no slot, while some are to be free for their seat soon.
use Rattle.std.specs.Prelude.{◌≡◌, ◌⊎◌, ◌++◌, ℕ, All, List, Result, Err}
use Rattle.history.specs.declared.calls.Call.{Call}
use Rattle.history.specs.declared.replies.Reply.{Reply}
use Rattle.history.specs.declared.replies.Reply.TheVariants as reply
use Rattle.lock_free.specs.declared.call_errors.CallError.{CallError}
use Rattle.lock_free.specs.declared.call_errors.CallError.TheVariants as error
use Rattle.lock_free.specs.declared.rules.View.{View}
use Rattle.lock_free.specs.Answering.{answers_at}
use Rattle.lock_free.specs.Answers.{Answer}
use Rattle.lock_free.specs.SeatCalls.{IsTold}
use Rattle.lock_free.specs.TriedCalls.{HasTold}
use Rattle.lock_free.specs.WholeCalls.{IsToldCopy, SameSeat}

-- a try of this call that has given up: as it stands in no order, it has changed nothing
pub record IsRefusalOf (call : Call) (answer : Answer) : Type 0 where
  pub its : answer.of.call ≡ call
  pub refuses : answer.reply ≡ reply.NoSlots

-- who is told so has found no slot, or come to nothing: the operation has given up
abbrev pub IsInVain : Result Reply CallError → Type 0
IsInVain told = (told ≡ Err error.Full) ⊎ (told ≡ Err error.Spent)

-- the seat was answered such refusals alone since then, or nothing
pub record HasTriedInVain (before : View) (call : Call) (after : View) : Type 0 where
  pub same : SameSeat before after
  pub refusals : List Answer
  pub answers : answers_at after ≡ answers_at before ++ refusals
  pub of_call : All (IsRefusalOf call) refusals

-- What is told is what came of the last try, which began after such refusals.
abbrev pub HasToldAtLast : View → Call → Result Reply CallError → View → Type 0
HasToldAtLast before call told after = (last : View) × HasTriedInVain before call last × SameSeat last after × HasTold last call told after

abbrev pub IsToldAtLast : {A : Type 0} → (A → Reply) → View → Call → Result A CallError → View → Type 0
IsToldAtLast {A} reply_of before call told after = (last : View) × HasTriedInVain before call last × SameSeat last after × IsTold reply_of last call told after

abbrev pub IsToldCopyAtLast : View → Call → Result ℕ CallError → View → Type 0
IsToldCopyAtLast before call told after = (last : View) × HasTriedInVain before call last × SameSeat last after × IsToldCopy last call told after
