-- A whole call in a number of tries: it is told, or is under way.
use Rattle.std.proofs.Common.{◌≡◌, ◌≤◌, ℕ, inl, is_some, true, Option, Some, None, Result, Ok, Err, sym, ap, subst, ◌∙◌}
use Rattle.history.specs.declared.calls.Access.{Access}
use Rattle.history.specs.declared.calls.Call.{Call}
use Rattle.history.specs.declared.replies.Reply.{Reply}
use Rattle.history.specs.declared.replies.Reply.TheVariants as reply
use Rattle.machine_model.specs.declared.operations.Operation.{Operation}
use Rattle.machine_model.specs.Calls.{copies, opens_handle}
use Rattle.lock_free.specs.declared.call_errors.CallError.{CallError}
use Rattle.lock_free.specs.declared.call_errors.CallError.TheVariants as error
use Rattle.lock_free.specs.declared.call_runs.Ran.{Ran}
use Rattle.lock_free.specs.declared.call_runs.Ran.TheVariants as ran
use Rattle.lock_free.specs.declared.parking.Parked.{Parked}
use Rattle.lock_free.specs.declared.parking.Parked.TheVariants as parked
use Rattle.lock_free.specs.declared.reading.Way.{Way}
use Rattle.lock_free.specs.declared.rules.View.{View}
use Rattle.lock_free.specs.Answering.{HasAnswered}
use Rattle.lock_free.specs.BegunCalls.{RestsAgain, WasDeniedSo}
use Rattle.lock_free.specs.Calling.{HasCalled, IsRunning}
use Rattle.lock_free.specs.Loading.{IsSound, Runs}
use Rattle.lock_free.specs.Parking.{IsParked}
use Rattle.lock_free.specs.RunningOn.{RunsOn}
use Rattle.lock_free.specs.SeatCalls.{told_by, IsLackOf, IsNoRefusal, IsTold, WasRefused}
use Rattle.lock_free.specs.Seeking.{IsCalled}
use Rattle.lock_free.specs.UnderWay.{number_left, HasComeOut, HasFinished, HasLeftBy, HasLeftWith, HasReplied, HasRunBy, HasRunWith, IsGoing, IsUnderWay}
use Rattle.lock_free.specs.WholeCalls.{HasLeft, RestsWith, SameSeat}
use Rattle.lock_free.proofs.BetweenCalls.{same_seat, same_seats}
use Rattle.lock_free.proofs.CallBegins as call
use Rattle.lock_free.proofs.CallNumbers.{copier_of, left_number, number_begun, opens_first, parked_number, IsNumber}
use Rattle.lock_free.proofs.CallsDenied.{denied_refused}
use Rattle.lock_free.proofs.CallsRunOn.{at_end}
use Rattle.lock_free.proofs.KeyTries.{called_on}
use Rattle.lock_free.proofs.WholeCalls.{begun_called}
use Rattle.lock_free.proofs.RunningOn.{runs_on_both}
use Rattle.lock_free.proofs.Tidied.{answered_tidied, rests_tidied, same_tidied}

-- ---- what is told of a reply

pub lack_told : (v : View) (c : Call) (lack : CallError) (x : View) → HasAnswered v c None reply.NoSlots x → IsLackOf c lack → WasRefused v c None lack x
lack_told v c error.Full x h is = h
lack_told v c error.WornOut x h is = h
lack_told v c error.Spent x h is = h
lack_told v c why x h is = absurd is

told_so : (v : View) (c : Call) (answer : Reply) (lack : CallError) (x : View) → HasAnswered v c None answer x → IsLackOf c lack → IsTold (λ r. r) v c (told_by answer lack) x
told_so v c reply.Crowded lack x h is = h
told_so v c reply.NoSlots lack x h is = lack_told v c lack x h is
told_so v c (reply.Found value) lack x h is = h
told_so v c (reply.Truth truth) lack x h is = h
told_so v c (reply.Opened handle) lack x h is = h
told_so v c reply.Closed lack x h is = h
told_so v c reply.Cleared lack x h is = h
told_so v c (reply.Pairs pairs) lack x h is = h
told_so v c (reply.Count count) lack x h is = h

no_refusal : (answer : Reply) (lack : CallError) → IsNoRefusal (told_by answer lack)
no_refusal reply.Crowded lack = tt
no_refusal reply.NoSlots lack = tt
no_refusal (reply.Found value) lack = tt
no_refusal (reply.Truth truth) lack = tt
no_refusal (reply.Opened handle) lack = tt
no_refusal reply.Closed lack = tt
no_refusal reply.Cleared lack = tt
no_refusal (reply.Pairs pairs) lack = tt
no_refusal (reply.Count count) lack = tt

-- what was under way is told
pub replied_told : (v : View) (c : Call) (told : Result Reply CallError) (x : View) → HasReplied v c None told x → IsTold (λ r. r) v c told x × IsNoRefusal told
replied_told v c told x h =
    (subst (λ t. IsTold (λ r. r) v c t x) (sym h.is) (told_so v c h.answer h.lack x h.its h.lacks), subst IsNoRefusal (sym h.is) (no_refusal h.answer h.lack))

-- ---- it runs on, and comes out

pub under_way_on : (before : View) (c : Call) (opens : Option ℕ) (v w : View) → IsUnderWay before c opens v → RunsOn v w → IsUnderWay before c opens w
under_way_on before c opens v w under on late x answer more at ended = under late x answer (runs_on_both v w late on more) at ended

module _ (before : View) (c : Call) (opens : Option ℕ) (v w : View) (under : IsUnderWay before c opens v) (on : RunsOn v w) (access : Access) where
  pub run_out : (result : Ran) (x : View) → HasComeOut w c access result x → HasRunBy before c opens result x
  run_out (ran.Told told) x (answer, lack, lacks, is, ended, e, tidied) = record {
    answer = answer;
    lack = lack;
    lacks = lacks;
    is = is;
    its = answered_tidied ended x tidied before c opens answer (under e.late ended answer (runs_on_both v w e.late on e.on) (at_end e.late answer e.ends) e.ended);
  }
  run_out (ran.UnderWay same parked) x (is, still, its) = subst (IsUnderWay before c opens) (sym still) (under_way_on before c opens v w under on)

-- something is under way of an operation
pub parked_runs : (v : View) (p : Parked) → IsParked v p → IsRunning v
parked_runs v (parked.Repairs s) its = (its.0.its.operation, its.0.its.runs)
parked_runs v (parked.Changes s former) its = (its.0.its.operation, its.0.its.runs)
parked_runs v (parked.Climbs s former) its = (its.0.its.operation, its.0.its.runs)
parked_runs v (parked.Copies s opens) its = (its.is.at.0, its.is.at.1)

-- its seat
module _ (c : Call) (access : Access) (v : View) (o : Operation) (runs : Runs v o) (called : IsCalled v c access) (opens : Option ℕ) (number : v.opens ≡ opens) (w : View) (on : RunsOn v w) where
  pub left_told : ((n : ℕ) → opens ≡ Some n → copies c ≡ true) → (told : Result Reply CallError) (x : View) → HasFinished w c told x → SameSeat v x × RestsWith x (number_left opens told)
  left_told copier told x (answer, lack, lacks, is, ended, e, tidied) =
      let r = runs_on_both v w e.late on e.on in
      let its : IsCalled e.late c access = called_on v e.late o runs r c access called in (
        same_tidied ended x tidied v (same_seats v e.late ended (call.same_run v e.late r) (call.same_ended e.late ended answer e.ended)),
        rests_tidied ended x tidied (number_left opens told)
            (subst (RestsWith ended) (left_number e.late ended answer c access its e.ended lack opens copier e.ends ∙ ap (number_left opens) (sym is))
            (call.rests_ended e.late ended answer opens (call.opens_run v e.late r ∙ number) e.ended)),
      )

  module _ (is : IsNumber c o opens) where
    pub left_out : (result : Ran) (x : View) → HasComeOut w c access result x → HasLeftWith v c opens result x
    left_out (ran.Told told) x h = left_told (copier_of c o opens is) told x h
    left_out (ran.UnderWay same parked) x (e, still, its) =
        let then = called_on v w o runs on c access called in
        let p = on.runs o runs in
        let its_opens : p.0.opens ≡ o.opens = ap (λ (z : Operation). z.opens) p.2 in
        let stays : w.opens ≡ opens = call.opens_run v w on ∙ number in (
          subst (SameSeat v) (sym still) (call.same_run v w on),
          subst (λ a. IsGoing x c a parked) (sym e)
              (subst (λ z. IsGoing z c access parked) (sym still)
              (record {
                called = then;
                its = its;
                number = stays ∙ parked_number w c access then p.0 p.1 opens (record { plain = is.plain; copied = λ e. its_opens ∙ is.copied e }) parked its;
              })),
          ap (λ (z : View). z.opens) still ∙ stays,
        )

pub left_since : (u v : View) (c : Call) (opens : Option ℕ) → SameSeat u v → (result : Ran) (x : View) → HasLeftWith v c opens result x → HasLeftWith u c opens result x
left_since u v c opens same (ran.Told told) x h = (same_seats u v x same h.0, h.1)
left_since u v c opens same (ran.UnderWay access parked) x h = (same_seats u v x same h.0, h.1, h.2)

-- one that opens nothing
pub plain_left : (v : View) (c : Call) (result : Ran) (x : View) → HasLeftWith v c None result x → HasLeftBy v c result x
plain_left v c (ran.Told (Ok answer)) x h = record { same = h.0; rests = h.1 }
plain_left v c (ran.Told (Err why)) x h = record { same = h.0; rests = h.1 }
plain_left v c (ran.UnderWay access parked) x h = (h.0, h.1)

-- ---- a new call

pub rests_still : (v : View) → RestsWith v None → HasLeft v v
rests_still v rests = record { same = same_seat v; rests = rests }

pub left_again : (v x : View) → RestsWith v None → RestsAgain v x → HasLeft v x
left_again v x rests again = (let left = again None rests in record { same = left.0; rests = left.1 })

-- a call that opens no handle
module _ (v : View) (rests : RestsWith v None) (c : Call) where
  pub denied_so : (why : CallError) (x : View) → WasDeniedSo v c why x → WasRefused v c None why x
  denied_so why x (denial, is, h) = subst (λ e. WasRefused v c None e x) (sym is) (denied_refused v rests c denial x h)

-- one for which this number is reserved, if it opens a handle
module _ (n : ℕ) (v : View) (sound : IsSound n v) (opens : Option ℕ) (rests : RestsWith v opens) (c : Call) where
  module _ (way : Way) (u : View) (sound_u : IsSound n u) (h : HasCalled v c (Ok way) u) where
    pub begun_under_way : IsUnderWay v c opens u
    begun_under_way late x answer on at ended = call.answered v opens rests c way u h late on answer at x ended n sound sound_u

    abbrev first : Operation
    first = call.first v opens rests c way u h

    module _ (w : View) (on : RunsOn u w) (result : Ran) (x : View) (out : HasComeOut w c way.access result x) where
      pub begun_run : HasRunWith v c opens result x
      begun_run = by result (run_out v c opens u w begun_under_way on way.access result x out)
        where
          by : (r : Ran) → HasRunBy v c opens r x → HasRunWith v c opens r x
          by (ran.Told told) h = inl h
          by (ran.UnderWay access parked) h = h

      pub begun_left : opens_handle c ≡ is_some opens → HasLeftWith v c opens result x
      begun_left number =
          left_since v u c opens (call.same_begun v opens rests c way u h) result x
          (left_out c way.access u first (call.runs_first v opens rests c way u h) (begun_called v opens rests c way u h) opens (call.opens_begun v opens rests c way u h) w on
          (number_begun c first opens number (opens_first v opens rests c number way u h)) result x out)

-- ---- as long as it takes

pub few_then : (v w : View) → SameSeat v w → v.actor ≤ v.sizes.seats → w.actor ≤ w.sizes.seats
few_then v w same few = subst (λ a. a ≤ w.sizes.seats) (sym same.actor) (subst (λ z. v.actor ≤ z.seats) (sym same.sizes) few)

pub left_both : (u v w : View) → SameSeat u v → HasLeft v w → HasLeft u w
left_both u v w same left = record { same = same_seats u v w same left.same; rests = left.rests }
