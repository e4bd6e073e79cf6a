-- A seat's walk as a whole.
use Rattle.history.specs.declared.calls.Call.{Call}
use Rattle.history.specs.declared.calls.Call.TheVariants.{Count, Entries}
use Rattle.history.specs.declared.replies.Reply.{Reply}
use Rattle.history.specs.declared.replies.Reply.TheVariants as reply
use Rattle.std.proofs.Common.{◌≡◌, ℕ, true, false, List, Result, None, Ok, Err, IfErr, refl, subst}
use Rattle.machine_model.specs.declared.actions.Action.TheVariants as act
use Rattle.machine_model.specs.declared.lines.Line.{Line}
use Rattle.machine_model.specs.declared.lines.Line.TheVariants as line
use Rattle.machine_model.specs.declared.operations.Operation.{Operation}
use Rattle.machine_model.specs.declared.walking.WalkLine.TheVariants as walk
use Rattle.machine_model.specs.Calls.{is_close, needs_read_only, opens_handle}
use Rattle.machine_model.specs.Operations.{first_line}
use Rattle.machine_model.specs.Walking.{walked_reply}
use Rattle.lock_free.specs.declared.call_errors.CallError.{CallError}
use Rattle.lock_free.specs.declared.call_errors.CallError.TheVariants as error
use Rattle.lock_free.specs.declared.reading.Way.{Way}
use Rattle.lock_free.specs.declared.rules.View.{View}
use Rattle.lock_free.specs.declared.walking.WalkError.{WalkError}
use Rattle.lock_free.specs.declared.walking.WalkError.TheVariants as lack
use Rattle.lock_free.specs.Answering.{HasAnswered}
use Rattle.lock_free.specs.Attempts.{HasEndedWith}
use Rattle.lock_free.specs.Calling.{HasCalled, IsCancelled}
use Rattle.lock_free.specs.GoingDown.{HasMoved}
use Rattle.lock_free.specs.Holding.{IsOn}
use Rattle.lock_free.specs.KeyReplies.{FitsError}
use Rattle.lock_free.specs.Loading.{IsAt, IsSound}
use Rattle.lock_free.specs.RunningOn.{MayAnswer, RunsOn}
use Rattle.lock_free.specs.SeatCalls.{walk_error, IsTold}
use Rattle.lock_free.specs.SeatWords.{HasEnded, IsAtEnd}
use Rattle.lock_free.specs.Stocks.{IsStock, Stocked}
use Rattle.lock_free.specs.Walks.{HasAllPairs, IsAtStart, IsLeft}
use Rattle.lock_free.specs.WholeCalls.{reply_or_none, HasLeft, IsWalkLack, IsWalkOf, RestsWith}
use Rattle.lock_free.proofs.CallBegins as call
use Rattle.lock_free.proofs.CallEnds.{cancelled_with, ended_with}
use Rattle.lock_free.proofs.CallsRunOn.{at_end, left_runs_on, walk_left, walked, walked_runs_on}
use Rattle.lock_free.proofs.RunningOn.{runs_on_both}
use Rattle.lock_free.proofs.StockStays.{stock_moved}

-- such a call is a walk
pub record IsWalkCall (c : Call) : Type 0 where
  pub line_is : first_line c ≡ line.Walk walk.Root
  pub number : opens_handle c ≡ false
  pub stays : is_close c ≡ false

pub entries_walk : (handle : ℕ) → IsWalkCall (Entries handle)
entries_walk handle = record { line_is = refl; number = refl; stays = refl }

pub count_walk : (handle : ℕ) → IsWalkCall (Count handle)
count_walk handle = record { line_is = refl; number = refl; stays = refl }

-- ---- from its begin to its end

-- it has run on, and has ended then
pub ended_after : (u w x : View) (answer : Reply) → RunsOn u w → HasEndedWith w answer x → HasEndedWith u answer x
ended_after u w x answer r e = record { late = e.late; on = runs_on_both u w e.late r e.on; ends = e.ends; ended = e.ended }

module _ (n : ℕ) (u : View) (sound : IsSound n u) (kind : ℕ → Call) (at : IsWalkOf kind u) where
  pub at_start : IsAtStart u
  at_start = (at.operation, at.runs, at.line_is)

  module _ (w : View) where
    moved_stock : (stock : Stocked) → IsStock stock u → (next : Operation → Line) → HasMoved next u w → IsStock stock w
    moved_stock stock owns next m = stock_moved n u w sound at.operation at.runs stock owns next m

    -- all pairs were seen
    module _ (pairs : List (ℕ × ℕ)) (all : HasAllPairs u pairs w) where
      abbrev answer : Reply
      answer = walked_reply (kind at.handle) pairs

      pub all_stock : (stock : Stocked) → IsStock stock u → IsStock stock w
      all_stock stock owns = moved_stock stock owns (λ o. line.End (walked_reply o.call pairs)) all

      on_end : IsOn w (line.End answer)
      on_end = subst (λ c. IsOn w (line.End (walked_reply c pairs))) at.call_is (walked u w pairs all at.operation at.runs)

      pub all_ending : IsAtEnd w
      all_ending = (answer, at_end w answer on_end)

      pub all_ended : (x : View) → ((told : Reply) → IsAt w (act.End told) → HasEnded w told x) → HasEndedWith u answer x
      all_ended x ends = ended_after u w x answer (walked_runs_on u w pairs all) (ended_with w x answer on_end ends)

    -- memory was lacking, or it is out of tries
    module _ (lacks : IsLeft u w) where
      pub lacking_stock : (stock : Stocked) → IsStock stock u → IsStock stock w
      lacking_stock stock owns = moved_stock stock owns lacks.0 lacks.2

      pub may_lack : MayAnswer w reply.NoSlots
      may_lack = walk_left u w lacks at.operation at.runs

      pub lacking_ended : (x : View) → IsCancelled w x → HasEndedWith u reply.NoSlots x
      lacking_ended x cancelled = ended_after u w x reply.NoSlots (left_runs_on u w lacks) (cancelled_with w x reply.NoSlots may_lack cancelled)

pub lacks_so : (why : WalkError) → IsWalkLack (walk_error why)
lacks_so lack.Memory = tt
lacks_so lack.Spent = tt

-- ---- the whole of it

module _ (n : ℕ) (v : View) (sound : IsSound n v) (rests : RestsWith v None) where
  module _ (kind : ℕ → Call) (handle : ℕ) (is : IsWalkCall (kind handle)) (way : Way) (u : View) (begun : HasCalled v (kind handle) (Ok way) u) where
    pub begun_walk : IsWalkOf kind u
    begun_walk = record {
      operation = call.first v None rests (kind handle) way u begun;
      runs = call.runs_first v None rests (kind handle) way u begun;
      line_is = is.line_is;
      handle = handle;
      call_is = refl;
    }

  module _ (c : Call) (way : Way) (u : View) (begun : HasCalled v c (Ok way) u) (sound_u : IsSound n u) (answer : Reply) (x : View) (e : HasEndedWith u answer x) where
    pub ended_left : HasLeft v x
    ended_left = record {
      same = call.same_then v None rests c way u begun e.late e.on answer (at_end e.late answer e.ends) x e.ended;
      rests = subst (λ p. RestsWith x p) (call.left_none e.ended.operation.is_marked) (call.rests_then v None rests c way u begun e.late e.on answer (at_end e.late answer e.ends) x e.ended);
    }

    ended_answered : HasAnswered v c None answer x
    ended_answered = call.answered v None rests c way u begun e.late e.on answer (at_end e.late answer e.ends) x e.ended n sound sound_u

  lacking_told : {A : Type 0} (reply_of : A → Reply) (c : Call) (why : CallError) (x : View) → IsWalkLack why → HasAnswered v c None reply.NoSlots x → IsTold reply_of v c (Err why) x
  lacking_told reply_of c error.Memory x lacks a = a
  lacking_told reply_of c error.Spent x lacks a = a
  lacking_told reply_of c why x lacks a = absurd lacks

  pub walk_told : {A : Type 0} (reply_of : A → Reply) (c : Call) (way : Way) (u : View) → HasCalled v c (Ok way) u → IsSound n u → (result : Result A CallError) (x : View) →
      IfErr result IsWalkLack → HasEndedWith u (reply_or_none reply_of result) x → IsTold reply_of v c result x
  walk_told reply_of c way u begun sound_u (Ok told) x lacks e = ended_answered c way u begun sound_u (reply_of told) x e
  walk_told reply_of c way u begun sound_u (Err why) x lacks e = lacking_told reply_of c why x lacks (ended_answered c way u begun sound_u reply.NoSlots x e)

-- why such a call is refused that had begun
pub lack_fits : {A : Type 0} (kind : ℕ → Call) (handle : ℕ) → needs_read_only (kind handle) ≡ true → is_close (kind handle) ≡ false → (result : Result A CallError) → IfErr result IsWalkLack →
    IfErr result (FitsError (kind handle))
lack_fits kind handle reads stays (Ok told) lacks = tt
lack_fits kind handle reads stays (Err error.Memory) lacks = reads
lack_fits kind handle reads stays (Err error.Spent) lacks = stays
lack_fits kind handle reads stays (Err why) lacks = absurd lacks
