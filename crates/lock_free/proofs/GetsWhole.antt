-- A get as a whole: answered by its first try, or as a call of any kind.
use Rattle.std.proofs.Common.{◌≡◌, ℕ, inl, inr, is_some, Option, Some, None, Ok, Err, refl}
use Rattle.history.specs.declared.calls.Access.{Access}
use Rattle.history.specs.declared.calls.Call.{Call}
use Rattle.history.specs.declared.calls.Call.TheVariants.{Get}
use Rattle.history.specs.declared.replies.Reply.TheVariants as reply
use Rattle.history.specs.declared.replies.Reply.{Reply}
use Rattle.machine_model.specs.declared.actions.Action.TheVariants as act
use Rattle.machine_model.specs.declared.lines.Line.TheVariants as line
use Rattle.machine_model.specs.Lines.{new_try}
use Rattle.lock_free.specs.declared.call_errors.CallError.TheVariants as error
use Rattle.lock_free.specs.declared.call_runs.Ran.TheVariants as ran
use Rattle.lock_free.specs.declared.leaving.Left.TheVariants as left
use Rattle.lock_free.specs.declared.rules.View.{View}
use Rattle.lock_free.specs.Answering.{HasAnswered}
use Rattle.lock_free.specs.Calling.{IsRunning}
use Rattle.lock_free.specs.GetRuns.{HasGivenUp, HasGotten, HasToldGet, HasToldGetAtLast, IsToldAtOnce, IsToldIfSomeAtLast}
use Rattle.lock_free.specs.GlanceGets.{HasGlancedAtKey}
use Rattle.lock_free.specs.Holding.{IsOn}
use Rattle.lock_free.specs.Leaving.{HasLeftOff, IsRepair, Leaves}
use Rattle.lock_free.specs.Loading.{IsAt}
use Rattle.lock_free.specs.RunningOn.{MayAnswer, RunsOn}
use Rattle.lock_free.specs.SeatWords.{HasEnded, IsAtEnd}
use Rattle.lock_free.specs.Seeking.{IsCalled}
use Rattle.lock_free.specs.SlotWaits.{IsToldAtLast}
use Rattle.lock_free.specs.UnderWay.{HasComeOut, IsUnderWay}
use Rattle.lock_free.specs.WholeCalls.{HasLeft, SameSeat}
use Rattle.lock_free.proofs.CellStock.{given_none}
use Rattle.lock_free.proofs.CallBegins.{same_run}
use Rattle.lock_free.proofs.CallsRunOn.{at_end}
use Rattle.lock_free.proofs.CallsUnderWay.{left_both, left_told, replied_told, run_out, under_way_on}
use Rattle.lock_free.proofs.KeyTries.{left_run}
use Rattle.lock_free.proofs.Leavings.{left_off, may_on}
use Rattle.lock_free.proofs.LetGo.{none_reclaimed}
use Rattle.lock_free.proofs.RunningOn.{runs_on_self}
use Rattle.lock_free.proofs.ToldAtLast.{in_vain_both, none_in_vain, one_more}
use Rattle.std.specs.Prelude.{Result}
use Rattle.lock_free.specs.declared.call_errors.CallError.{CallError}
use Rattle.std.proofs.lemmas.Option.{none-some}

-- ---- its first try has found the value

module _ (v w : View) (r : RunsOn v w) (value : Option ℕ) (is_on_end : IsOn w (line.End (reply.Found value))) where
  is_at_end : IsAt w (act.End (reply.Found value))
  is_at_end = at_end w (reply.Found value) is_on_end

  pub value_ends : IsAtEnd w
  value_ends = (reply.Found value, is_at_end)

  module _ (access : Access) (x : View) (ended : (answer : Reply) → IsAt w (act.End answer) → HasEnded w answer x) where
    value_out : (c : Call) → HasComeOut w c access (ran.Told (Ok (reply.Found value))) x
    value_out c = (
      reply.Found value,
      error.Full,
      tt,
      refl,
      x,
      record { late = w; on = runs_on_self w; ends = is_on_end; ended = ended (reply.Found value) is_at_end },
      (x, none_reclaimed x, given_none x),
    )

    pub value_told : (c : Call) → HasGotten v c (Ok value) x
    value_told c before under = ((replied_told before c (Ok (reply.Found value)) x (run_out before c None v w under r access (ran.Told (Ok (reply.Found value))) x (value_out c))).0, tt)

    pub value_left : IsRunning v → (c : Call) → IsCalled v c access → v.opens ≡ None → HasLeft v x
    value_left (o, runs) c called none =
        let left = left_told c access v o runs called None none w r (λ n e. absurd (none-some n e)) (Ok (reply.Found value)) x (value_out c) in
        record { same = left.0; rests = left.1 }

-- ---- or it is out of tries

module _ (v : View) (on : IsOn v new_try) (w : View) (h : HasLeftOff v left.MayGiveUp w) where
  leaves : Leaves (λ called. reply.NoSlots) IsRepair v left.MayGiveUp w
  leaves = left_off (λ called. reply.NoSlots) IsRepair v left.MayGiveUp w h (may_on (λ called. reply.NoSlots) v new_try on (λ called. refl))

  pub off_runs_on : RunsOn v w
  off_runs_on = leaves.on

  pub off_may : MayAnswer w reply.NoSlots
  off_may = (left_run v on left.MayGiveUp w leaves).1

-- ---- and goes on from there
module _ (v w : View) (r : RunsOn v w) where
  pub still_under : (c : Call) → (before : View) × IsUnderWay before c None v → (before : View) × IsUnderWay before c None w
  still_under c (before, under) = (before, under_way_on before c None v w under r)

  pub gotten_since : (c : Call) (result : Result (Option ℕ) CallError) (x : View) → HasGotten w c result x → HasGotten v c result x
  gotten_since c result x h before under = h before (under_way_on before c None v w under r)

  pub left_since_then : (x : View) → HasLeft w x → HasLeft v x
  left_since_then x left = left_both v w x (same_run v w r) left

-- ---- it was refused, and was made anew

pub refused_so : (v w : View) (call : Call) (told : Result (Option ℕ) CallError) → HasGivenUp told → HasToldGet v call told w → HasAnswered v call None reply.NoSlots w
refused_so v w call (Err error.Full) gave is = is.0
refused_so v w call (Err error.Spent) gave is = is.0
refused_so v w call (Ok value) gave is = elim gave [ ]
refused_so v w call (Err error.NoHandle) gave is = elim gave [ ]
refused_so v w call (Err error.ReadOnly) gave is = elim gave [ ]
refused_so v w call (Err error.NotReadOnly) gave is = elim gave [ ]
refused_so v w call (Err error.Crowded) gave is = elim gave [ ]
refused_so v w call (Err error.HandlesFull) gave is = elim gave [ ]
refused_so v w call (Err error.Busy) gave is = elim gave [ ]
refused_so v w call (Err error.WornOut) gave is = elim gave [ ]
refused_so v w call (Err error.Memory) gave is = elim gave [ ]

pub got_anew : (v w x : View) (handle key : ℕ) (result : Result (Option ℕ) CallError) → SameSeat v w → HasAnswered v (Get handle key) None reply.NoSlots w →
    HasToldGetAtLast w (Get handle key) result x → HasToldGetAtLast v (Get handle key) result x
got_anew v w x handle key result same refused ((last, in_vain, then, is), why) =
    let call = Get handle key in ((last, in_vain_both v w last call (one_more v v w call None (none_in_vain v call) same refused) in_vain, then, is), why)

pub got_first : (v w : View) (call : Call) (result : Result (Option ℕ) CallError) → SameSeat v w → HasToldGet v call result w → HasToldGetAtLast v call result w
got_first v w call result same (is, why) = ((v, none_in_vain v call, same, is), why)

-- ---- its seat has only glanced

pub told_at_once : (n : ℕ) (v w : View) (call : Call) (result : Option (Option ℕ)) → HasGlancedAtKey n v call result w → IsToldAtOnce v call result w
told_at_once n v w call (Some value) told = told
told_at_once n v w call None (inl refused) = inl refused
told_at_once n v w call None (inr (still, waited)) = inr waited

-- ---- whether its key has a value

pub told_some : (before : View) (call : Call) (value : Option ℕ) (after : View) → IsToldAtLast reply.Found before call (Ok value) after →
    IsToldIfSomeAtLast before call (Ok (is_some value)) after
told_some before call value after (last, in_vain, same, told) = (last, in_vain, same, (value, refl, told))
