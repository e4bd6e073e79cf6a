-- A number is reserved for a call that opens a handle, and given back.
use Rattle.history.specs.declared.calls.Call.{Call}
use Rattle.history.specs.declared.replies.Reply.{Reply}
use Rattle.std.proofs.Common.{◌≤◌, ℕ, Option, Some, None, Err, inl, refl}
use Rattle.machine_model.specs.Calls.{handle_of}
use Rattle.machine_model.specs.States.{handle_limit}
use Rattle.lock_free.specs.declared.call_errors.CallError.{CallError}
use Rattle.lock_free.specs.declared.call_errors.CallError.TheVariants as error
use Rattle.lock_free.specs.declared.rules.View.{View}
use Rattle.lock_free.specs.Answering.{HasAnswered}
use Rattle.lock_free.specs.Numbers.{reserving, without_number}
use Rattle.lock_free.specs.SeatCalls.{IsLackOf}
use Rattle.lock_free.specs.Stocks.{IsStock, Stocked}
use Rattle.lock_free.specs.WholeCalls.{HasFoundNoSlot, IsToldCopy, RestsWith, WasRefusedCopy}
use Rattle.lock_free.proofs.BetweenCalls.{idle_stock}
use Rattle.lock_free.proofs.Waiting.{waited_none}

pub reserved_rests : (v : View) (number : ℕ) → RestsWith v None → RestsWith (reserving v number) (Some number)
reserved_rests v number r = record { idle = r.idle; pin = r.pin; entered = r.entered; opens_it = refl }

pub reserved_stock : (v : View) (number : ℕ) → RestsWith v None → (stock : Stocked) → IsStock stock v → IsStock stock (reserving v number)
reserved_stock v number r stock is = idle_stock stock v (reserving v number) r.idle r.idle refl refl is

pub returned_stock : (v : View) (opens : Option ℕ) → RestsWith v opens → (stock : Stocked) → IsStock stock v → IsStock stock (without_number v)
returned_stock v opens r stock is = idle_stock stock v (without_number v) r.idle r.idle refl refl is

-- the same of who hadn't reserved the number yet
pub answered_first : (v w : View) (number : ℕ) (c : Call) (answer : Reply) → HasAnswered (reserving v number) c (Some number) answer w → HasAnswered v c (Some number) answer w
answered_first v w number c answer a = record {
  continues = record { sizes = a.continues.sizes; actor = a.continues.actor; goes_on = a.continues.goes_on };
  id = a.id;
  answers = a.answers;
  earlier = a.earlier;
  meanwhile = a.meanwhile;
  others = a.others;
  since = a.since;
  is = a.is;
}

-- and of who has given it back
pub answered_then : (v w : View) (opens : Option ℕ) (c : Call) (answer : Reply) → HasAnswered v c opens answer w → HasAnswered v c opens answer (without_number w)
answered_then v w opens c answer a = record {
  continues = record { sizes = a.continues.sizes; actor = a.continues.actor; goes_on = a.continues.goes_on };
  id = a.id;
  answers = a.answers;
  earlier = a.earlier;
  meanwhile = a.meanwhile;
  others = a.others;
  since = a.since;
  is = a.is;
}

pub lacking : (v x : View) (c : Call) (why : CallError) → IsLackOf c why → HasFoundNoSlot v c x → WasRefusedCopy v c why x
lacking v x c error.Full is h = h
lacking v x c error.WornOut is h = h
lacking v x c error.Spent is h = h
lacking v x c why is h = absurd is

-- there is no such handle
pub no_handle_told : (v : View) (c : Call) → handle_limit ≤ handle_of c → IsToldCopy v c (Err error.NoHandle) v
no_handle_told v c high = record { waited = waited_none v.actor v.account; reason = inl (refl, high) }
