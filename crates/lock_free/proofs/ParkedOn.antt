-- What is under way of a call goes on.
use Rattle.std.proofs.Common.{◌≡◌, ◌⊎◌, ℕ, inl, inr, Bool, true, false, [], map, Option, Some, refl, sym, ap, subst, ◌∙◌}
use Rattle.history.specs.declared.calls.Access.{Access}
use Rattle.history.specs.declared.calls.Call.{Call}
use Rattle.history.specs.declared.replies.Reply.{Reply}
use Rattle.machine_model.specs.Beneath.slot_arena.specs.Heaps.{node_at}
use Rattle.machine_model.specs.declared.lines.Line.TheVariants as line
use Rattle.machine_model.specs.declared.lines.Purpose.{Purpose}
use Rattle.machine_model.specs.declared.operations.Operation.{Operation}
use Rattle.machine_model.specs.Calls.{changed_reply, handle_of}
use Rattle.machine_model.specs.GivingUp.{gave_up}
use Rattle.lock_free.specs.declared.leaving.Swapping.{Swapping}
use Rattle.lock_free.specs.declared.parking.Came.TheVariants as came
use Rattle.lock_free.specs.declared.rules.View.{View}
use Rattle.lock_free.specs.declared.reclaiming.Decided.{Decided}
use Rattle.lock_free.specs.Calling.{cut_short, CutBy, GaveUp, HasCutShort}
use Rattle.lock_free.specs.GivingUp.{given_back}
use Rattle.lock_free.specs.Leaving.{EndsOrMay, HasDecidedSwap, HasSwappedOn, IsClimbAfter, IsRepair, IsSwapLeft, IsUpdate}
use Rattle.lock_free.specs.Loading.{now, seen, Runs, Saw}
use Rattle.lock_free.specs.Parking.{HasRunTo, HasWoundUp, IsBare, IsSwapFor, StillOwns}
use Rattle.lock_free.specs.Passing.{IsOnWay}
use Rattle.lock_free.specs.Seeking.{IsCalled}
use Rattle.lock_free.specs.Stocks.{made_of, own_of, IsStock, Stocked}
use Rattle.lock_free.specs.Swaps.{is_done, swap_done, swapped_by}
use Rattle.lock_free.specs.Limbos.{Hanging, hanging_of, IsLimbo}
use Rattle.lock_free.proofs.LimboStays.{limbo_so}
use Rattle.lock_free.proofs.Comings.{saw_runs}
use Rattle.lock_free.proofs.Retirings.{retiring_pool, retiring_sizes}
use Rattle.lock_free.proofs.RunningOn.{runs_on_both}
use Rattle.lock_free.proofs.SwapsEnd.{climb_ends, decided_runs_on, repair_ends, update_again, update_ends}

pub way_called : (v : View) (call : Call) (access : Access) → IsCalled v call access → (handle : ℕ) → handle ≡ handle_of call → IsOnWay v (record { handle = handle; access = access })
way_called v call access called handle is o r = ((called o r).1, ap handle_of (called o r).0 ∙ sym is)

-- ---- what it owns

pub is_bare : (v : View) (o : Operation) → Runs v o → o.private ≡ [] → IsBare v
is_bare v o r none = ap own_of r.1 ∙ none

bare_stock : (v w : View) → w.sizes ≡ v.sizes → w.pool ≡ v.pool → IsBare v → IsBare w → (stock next : Stocked) → IsStock stock v → next ≡ record stock { limbo = next.limbo } → IsLimbo next.limbo w →
    IsStock next w
bare_stock v w sizes pool none then stock next is same hangs = record {
  sizes = ap (λ (s : Stocked). s.sizes) same ∙ is.sizes ∙ sym sizes;
  pool = ap (λ (s : Stocked). s.pool) same ∙ is.pool ∙ sym pool;
  made = ap (λ (s : Stocked). s.made) same ∙ is.made ∙ ap (map (made_of v)) none ∙ sym (ap (map (made_of w)) then);
  limbo = hangs;
}

pub bare_owns : (v w : View) → hanging_of w ≡ hanging_of v → w.pool ≡ v.pool → IsBare v → IsBare w → StillOwns v w
bare_owns v w hangs pool none then stock is =
    bare_stock v w (ap (λ (z : Hanging). z.0) hangs) pool none then stock stock is refl (limbo_so stock stock v w is refl hangs)

-- ---- its SWAP is under way still

module _ (aims : Purpose → Type 0) (v : View) (s next : Swapping) (w : View) (at : IsSwapFor aims v s) (on : HasSwappedOn v s next w) where
  pub still_swaps : IsSwapFor aims w next
  still_swaps = (
    record {
      why = at.0.why;
      i = at.0.i;
      replaced = at.0.replaced;
      made = at.0.made;
      its = on.still at.0.why at.0.i at.0.replaced at.0.made at.0.its;
    },
    at.1,
  )

  pub still_owns : (stock after : Stocked) → IsStock stock v → after ≡ record stock { limbo = after.limbo } → IsLimbo after.limbo w → IsStock after w
  still_owns =
      bare_stock v w (ap (λ (z : View). z.sizes) on.on.still.is) on.pool (is_bare v at.0.its.operation at.0.its.runs at.0.its.none)
      (let then = on.still at.0.why at.0.i at.0.replaced at.0.made at.0.its in is_bare w then.operation then.runs then.none)

-- ---- it has come to its end

module _ (v : View) (s : Swapping) (left : IsSwapLeft v s) (result : Decided) (w : View) (h : HasDecidedSwap v s result w) where
  abbrev done : Bool
  done = is_done (swapped_by result)

  abbrev first : Operation
  first = left.its.operation

  decided_bare : IsBare w
  decided_bare = is_bare w (swap_done left.why (node_at (now v).heap left.made) done first) (h.comes left.why left.i left.replaced left.made left.its first left.its.runs) refl

  pub decided_owns : (stock next : Stocked) → IsStock stock v → next ≡ record stock { limbo = next.limbo } → IsLimbo next.limbo w → IsStock next w
  decided_owns =
      bare_stock v w (retiring_sizes v w h.later) (retiring_pool v w h.later) (is_bare v first left.its.runs left.its.none)
      decided_bare

  pub then_bare : IsBare w
  then_bare = decided_bare

  pub repaired : IsRepair left.why → HasRunTo v came.Spent w
  repaired aim = (decided_runs_on v s left result w h, repair_ends v s left result w h first left.its.runs aim)

  pub refused : (former : Option ℕ) → IsUpdate former left.why → done ≡ false → HasRunTo v came.Spent w
  refused former aim is = (decided_runs_on v s left result w h, update_again v s left result w h first left.its.runs former aim is)

  module _ (call : Call) (access : Access) (called : IsCalled v call access) (former : Option ℕ) where
    by_call : EndsOrMay w (changed_reply first.call former) → EndsOrMay w (changed_reply call former)
    by_call e = subst (λ c. EndsOrMay w (changed_reply c former)) (called first left.its.runs).0 e

    pub changed_ends : IsUpdate former left.why → done ≡ true → EndsOrMay w (changed_reply call former)
    changed_ends aim is = by_call (update_ends v s left result w h first left.its.runs former aim is)

    pub climbed_ends : IsClimbAfter former left.why → EndsOrMay w (changed_reply call former)
    climbed_ends aim = by_call (climb_ends v s left result w h first left.its.runs former aim)

  pub wound_on : (answer : Reply) (x : View) → HasWoundUp w answer x → HasRunTo v (came.Answered answer) x
  wound_on answer x wound = (runs_on_both v w x (decided_runs_on v s left result w h) wound.0, wound.1)

-- ---- it is cut short

module _ (v w : View) (answer : Reply) (ends : EndsOrMay v answer) (none : IsBare v) (cut : HasCutShort v w) where
  abbrev o : Operation
  o = ends.0

  none_of : o.private ≡ []
  none_of = sym (ap own_of ends.1.1) ∙ none

  pub cut_owns : StillOwns v w
  cut_owns = by ends.2
    where
      by : (o.line ≡ line.End answer) ⊎ (cut_short o.call o.line ≡ Some answer) → StillOwns v w
      by (inl is) =
          let saw : Saw v w = subst (λ l. CutBy v o (cut_short o.call l) w) is (cut o ends.1) in
          bare_owns v w (ap hanging_of saw.after_is) (ap (λ (z : View). z.pool) saw.after_is) none (is_bare w o (saw_runs v w saw o ends.1) none_of)
      by (inr is) =
          let gave : GaveUp v o answer w = subst (λ c. CutBy v o c w) is (cut o ends.1) in
          bare_owns v w (ap hanging_of gave.after_is)
          (ap (λ (z : View). z.pool) gave.after_is ∙ ap (λ private. given_back (now (seen v gave.account)) gave.account private v.pool) none_of) none
          (is_bare w (gave_up o answer) gave.runs refl)
