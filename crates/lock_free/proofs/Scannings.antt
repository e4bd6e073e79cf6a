-- A seat's listing in parts: what it has told, and how it ends.
use Rattle.std.proofs.Common.{◌≡◌, ℕ, List, [], ◌∷◌, None, Result, Ok, Err, refl, sym, ap, subst, ◌∙◌, arith}
use Rattle.history.specs.declared.calls.Call.TheVariants.{Entries}
use Rattle.history.specs.declared.replies.Reply.{Reply}
use Rattle.history.specs.declared.replies.Reply.TheVariants as reply
use Rattle.trie_words.specs.declared.entries.Entry.{Entry}
use Rattle.machine_model.specs.Beneath.slot_arena.specs.declared.refs.Ref.{Ref}
use Rattle.machine_model.specs.declared.actions.Action.TheVariants as act
use Rattle.machine_model.specs.declared.lines.Line.{Line}
use Rattle.machine_model.specs.declared.lines.Line.TheVariants as line
use Rattle.machine_model.specs.declared.operations.Operation.{Operation}
use Rattle.machine_model.specs.declared.walking.WalkLine.TheVariants as walk
use Rattle.machine_model.specs.GivingUp.{given_up}
use Rattle.machine_model.specs.Pairs.{by_key}
use Rattle.machine_model.specs.Walking.{walk_next, walked_reply}
use Rattle.lock_free.specs.declared.call_errors.CallError.{CallError}
use Rattle.lock_free.specs.declared.reading.Way.{Way}
use Rattle.lock_free.specs.declared.rules.View.{View}
use Rattle.lock_free.specs.declared.sizes.Sizes.{Sizes}
use Rattle.lock_free.specs.declared.walking.WalkError.{WalkError}
use Rattle.lock_free.specs.declared.walking.WalkError.TheVariants as lack
use Rattle.lock_free.specs.declared.walks.Reached.{Reached}
use Rattle.lock_free.specs.declared.walks.Reached.TheVariants as reached
use Rattle.lock_free.specs.Answering.{HasAnswered}
use Rattle.lock_free.specs.Attempts.{HasEndedWith}
use Rattle.lock_free.specs.Calling.{HasCalled, IsCancelled}
use Rattle.lock_free.specs.Holding.{IsOn}
use Rattle.lock_free.specs.Loading.{IsAt, IsSound, Runs}
use Rattle.lock_free.specs.RunningOn.{MayAnswer}
use Rattle.lock_free.specs.Scans.{HasLeftScan, HasScanned, IsListing, IsScanning}
use Rattle.lock_free.specs.ScanSeats.{reached_by, scanned_by, seat_of}
use Rattle.lock_free.specs.Seated.{HasActors, HasGoneOn, IsSeated, Seated}
use Rattle.lock_free.specs.SeatCalls.{walk_error, WasRefused}
use Rattle.lock_free.specs.SeatWords.{HasEnded, IsAtEnd}
use Rattle.lock_free.specs.Stocks.{IsStock, Stocked}
use Rattle.lock_free.specs.Walks.{AreToDo, HasAllPairs, HasWalked, IsAtStart, IsLeft, IsWalking}
use Rattle.lock_free.specs.WholeCalls.{HasLeft, RestsWith, SameSeat}
use Rattle.lock_free.proofs.BetweenCalls.{same_seats}
use Rattle.lock_free.proofs.CallBegins as call
use Rattle.lock_free.proofs.CallEnds.{cancelled_with, ended_with}
use Rattle.lock_free.proofs.CallsRunOn.{at_end, left_runs_on, walk_left, walked, walked_runs_on}
use Rattle.lock_free.proofs.CallsUnderWay.{begun_under_way, under_way_on}
use Rattle.lock_free.proofs.Comings.{runs_one}
use Rattle.lock_free.proofs.OnLines.{way_on}
use Rattle.lock_free.proofs.RunningOn.{runs_on_moved}
use Rattle.lock_free.proofs.StockStays.{stock_moved}
use Rattle.lock_free.proofs.OneWalk.Begins.{walking_now, way_walked}
use Rattle.lock_free.proofs.OneWalk.Lines.{next_gives_up, next_same, walking_on, walking_then}
use Rattle.lock_free.proofs.OneWalk.Whole.{ended_after}

-- ---- its line says what was taken

abbrev todo_in : Line → List Ref
todo_in (line.Walk (walk.Entry todo pairs)) = todo
todo_in l = []

todo_of : (o : Operation) (todo : List Ref) (pairs : List (ℕ × ℕ)) → todo_in (walk_next o todo pairs) ≡ todo
todo_of o [] pairs = refl
todo_of o (r ∷ todo) pairs = refl

-- ---- the seat

-- it has ended with this answer
left_when_ended : (v x : View) (answer : Reply) → v.opens ≡ None → HasEndedWith v answer x → HasLeft v x
left_when_ended v x answer number e = record {
  same = same_seats v e.late x (call.same_run v e.late e.on) (call.same_ended e.late x answer e.ended);
  rests = subst (λ p. RestsWith x p) (call.left_none e.ended.operation.is_marked) (call.rests_ended e.late x answer None (call.opens_run v e.late e.on ∙ number) e.ended);
}

module _ (n : ℕ) (v : View) (sound : IsSound n v) (way : Way) (stack : List Entry) (l : IsListing v way stack) where
  abbrev o : Operation
  o = l.walking.operation

  pub listing_may : MayAnswer v reply.NoSlots
  listing_may = (o, l.walking.runs, ap (given_up o.call) l.walking.line ∙ next_gives_up o l.walking.todo l.told)

  -- what it told so far was taken by this walk
  pub listing_at : (before : View) (handle : ℕ) (told : List (ℕ × ℕ)) → IsScanning before handle told v → IsWalking v stack told
  listing_at before handle told s =
      let same : s.operation.line ≡ o.line = ap (λ (z : Operation). z.line) (runs_one v s.operation o s.runs l.walking.runs) in
      record {
        todo = s.todo;
        operation = s.operation;
        runs = s.runs;
        line = s.line_is;
        knows = subst (AreToDo v stack) (sym (todo_of o l.walking.todo l.told) ∙ ap todo_in (sym l.walking.line ∙ sym same ∙ s.line_is) ∙ todo_of s.operation s.todo told) l.walking.knows;
      }

  -- it goes on
  module _ (more : List (ℕ × ℕ)) (w : View) (then : List Entry) (h : HasWalked v more w then) where
    pub listing_then : IsListing w way then
    listing_then = record {
      on = way_on v w (walk_next o l.walking.todo l.told) (λ p. walk_next p h.todo more) way (walking_on v stack l.told l.walking) h.moved l.on;
      number = call.opens_run v w (runs_on_moved v w (λ p. walk_next p h.todo more) h.moved) ∙ l.number;
      told = more;
      walking = walking_then v w more then h o l.walking.runs;
    }

    pub listing_same : SameSeat v w
    listing_same = call.same_run v w (runs_on_moved v w (λ p. walk_next p h.todo more) h.moved)

    pub listing_stock : (stock : Stocked) → IsStock stock v → IsStock stock w
    listing_stock stock owns = stock_moved n v w sound o l.walking.runs stock owns (λ p. walk_next p h.todo more) h.moved

  module _ (w : View) where
    -- it is to end
    module _ (pairs : List (ℕ × ℕ)) (all : HasAllPairs v pairs w) where
      abbrev answer : Reply
      answer = walked_reply o.call pairs

      on_end : IsOn w (line.End answer)
      on_end = walked v w pairs all o l.walking.runs

      pub all_told_ending : IsAtEnd w
      all_told_ending = (answer, at_end w answer on_end)

      pub all_told_same : SameSeat v w
      all_told_same = call.same_run v w (walked_runs_on v w pairs all)

      pub all_told_stock : (stock : Stocked) → IsStock stock v → IsStock stock w
      all_told_stock stock owns = stock_moved n v w sound o l.walking.runs stock owns (λ p. line.End (walked_reply p.call pairs)) all

      pub all_told_left : (x : View) → ((told : Reply) → IsAt w (act.End told) → HasEnded w told x) → HasLeft v x
      all_told_left x ends = left_when_ended v x answer l.number (ended_after v w x answer (walked_runs_on v w pairs all) (ended_with w x answer on_end ends))

    -- it is to give up
    module _ (lacks : IsLeft v w) where
      pub lost_may : MayAnswer w reply.NoSlots
      lost_may = walk_left v w lacks o l.walking.runs

      pub lost_same : SameSeat v w
      lost_same = call.same_run v w (left_runs_on v w lacks)

      pub lost_stock : (stock : Stocked) → IsStock stock v → IsStock stock w
      lost_stock stock owns = stock_moved n v w sound o l.walking.runs stock owns lacks.0 lacks.2

      pub lost_ended : (x : View) → IsCancelled w x → HasEndedWith v reply.NoSlots x
      lost_ended x cancelled = ended_after v w x reply.NoSlots (left_runs_on v w lacks) (cancelled_with w x reply.NoSlots lost_may cancelled)

      pub lost_left : (x : View) → IsCancelled w x → HasLeft v x
      lost_left x cancelled = left_when_ended v x reply.NoSlots l.number (lost_ended x cancelled)

  -- it is stopped
  pub stopped_ended : (x : View) → IsCancelled v x → HasEndedWith v reply.NoSlots x
  stopped_ended x cancelled = cancelled_with v x reply.NoSlots listing_may cancelled

  pub stopped_left : (x : View) → IsCancelled v x → HasLeft v x
  stopped_left x cancelled = left_when_ended v x reply.NoSlots l.number (stopped_ended x cancelled)

-- ---- what stands in the history

module _ (before : View) (handle : ℕ) (told : List (ℕ × ℕ)) (v : View) (s : IsScanning before handle told v) where
  pub scanning_then : (more : List (ℕ × ℕ)) (w : View) (then : List Entry) → HasWalked v more w then → IsScanning before handle more w
  scanning_then more w then h = record {
    under_way = under_way_on before (Entries handle) None v w s.under_way (runs_on_moved v w (λ p. walk_next p h.todo more) h.moved);
    todo = h.todo;
    operation = record s.operation { line = walk_next s.operation h.todo more };
    runs = h.moved.comes s.operation s.runs;
    call_is = s.call_is;
    line_is = next_same s.operation (record s.operation { line = walk_next s.operation h.todo more }) h.todo more refl;
  }

  pub ended_answered : (x : View) (answer : Reply) → HasEndedWith v answer x → HasAnswered before (Entries handle) None answer x
  ended_answered x answer e = s.under_way e.late x answer e.on (at_end e.late answer e.ends) e.ended

  pub all_answered : (pairs : List (ℕ × ℕ)) (w x : View) → HasAllPairs v pairs w → ((answer : Reply) → IsAt w (act.End answer) → HasEnded w answer x) →
      HasAnswered before (Entries handle) None (reply.Pairs (by_key pairs)) x
  all_answered pairs w x all ends =
      let on : IsOn w (line.End (reply.Pairs (by_key pairs))) = subst (λ c. IsOn w (line.End (walked_reply c pairs))) s.call_is (walked v w pairs all s.operation s.runs) in
      let at = at_end w (reply.Pairs (by_key pairs)) on in
      s.under_way w x (reply.Pairs (by_key pairs)) (walked_runs_on v w pairs all) at (ends (reply.Pairs (by_key pairs)) at)

  pub lost_answered : (why : WalkError) (x : View) → HasEndedWith v reply.NoSlots x → WasRefused before (Entries handle) None (walk_error why) x
  lost_answered lack.Memory x e = ended_answered x reply.NoSlots e
  lost_answered lack.Spent x e = ended_answered x reply.NoSlots e

-- ---- its begin

module _ (n : ℕ) (v : View) (sound : IsSound n v) (rests : RestsWith v None) (handle : ℕ) (way : Way) (u : View) (begun : HasCalled v (Entries handle) (Ok way) u) (sound_u : IsSound n u) where
  abbrev first : Operation
  first = call.first v None rests (Entries handle) way u begun

  runs_first : Runs u first
  runs_first = call.runs_first v None rests (Entries handle) way u begun

  pub scan_start : IsAtStart u
  scan_start = (first, runs_first, refl)

  module _ (w : View) (then : List Entry) (h : HasWalked u [] w then) where
    pub scan_entered : IsScanning v handle [] w
    scan_entered = record {
      under_way = under_way_on v (Entries handle) None u w (begun_under_way n v sound None rests (Entries handle) way u sound_u begun) (runs_on_moved u w (λ p. walk_next p h.todo []) h.moved);
      todo = h.todo;
      operation = record first { line = walk_next first h.todo [] };
      runs = h.moved.comes first runs_first;
      call_is = refl;
      line_is = next_same first (record first { line = walk_next first h.todo [] }) h.todo [] refl;
    }

    pub scan_listing : IsListing w way then
    scan_listing = record {
      on = way_walked u scan_start w [] then h way begun.3;
      number = call.opens_run u w (runs_on_moved u w (λ p. walk_next p h.todo []) h.moved) ∙ call.opens_begun v None rests (Entries handle) way u begun;
      told = [];
      walking = walking_now u scan_start w [] then h;
    }

    pub scan_same : SameSeat v w
    scan_same = same_seats v u w (call.same_begun v None rests (Entries handle) way u begun) (call.same_run u w (runs_on_moved u w (λ p. walk_next p h.todo []) h.moved))

    pub scan_stock : (stock : Stocked) → IsStock stock u → IsStock stock w
    scan_stock stock owns = stock_moved n u w sound_u first runs_first stock owns (λ p. walk_next p h.todo []) h.moved

  module _ (w : View) (lacks : IsLeft u w) where
    pub scan_lost_may : MayAnswer w reply.NoSlots
    scan_lost_may = walk_left u w lacks first runs_first

    pub scan_lost_stock : (stock : Stocked) → IsStock stock u → IsStock stock w
    scan_lost_stock stock owns = stock_moved n u w sound_u first runs_first stock owns lacks.0 lacks.2

    pub scan_lost_ended : (x : View) → IsCancelled w x → HasEndedWith u reply.NoSlots x
    scan_lost_ended x cancelled = ended_after u w x reply.NoSlots (left_runs_on u w lacks) (cancelled_with w x reply.NoSlots scan_lost_may cancelled)

    pub scan_refused : (why : WalkError) (x : View) → HasEndedWith u reply.NoSlots x → WasRefused v (Entries handle) None (walk_error why) x
    scan_refused lack.Memory x e = begun_under_way n v sound None rests (Entries handle) way u sound_u begun e.late x reply.NoSlots e.on (at_end e.late reply.NoSlots e.ends) e.ended
    scan_refused lack.Spent x e = begun_under_way n v sound None rests (Entries handle) way u sound_u begun e.late x reply.NoSlots e.on (at_end e.late reply.NoSlots e.ends) e.ended

-- ---- its seat

pub left_gone_on : (s t : Seated) → t.table ≡ s.table → SameSeat s.view t.view → HasGoneOn s t
left_gone_on s t table same = record { table = table; sizes = same.sizes; actor = same.actor; last = same.last; goes_on = same.goes_on }

pub scan_gone_on : (s t : Seated) (way : Way) (stack : List Entry) (r : Result Reached CallError) → t.table ≡ s.table → HasLeftScan s.view way r t.view stack → HasGoneOn s (seat_of (scanned_by t r))
scan_gone_on s t way stack (Ok reached.Most) table left = left_gone_on s t table left.0
scan_gone_on s t way stack (Ok reached.All) table left = left_gone_on s t table left.same
scan_gone_on s t way stack (Err why) table left = left_gone_on s t table left.same

pub scanned_same : (v : View) (most : ℕ) (list longer : List (ℕ × ℕ)) (t : Seated) (r : Result Reached CallError) → HasScanned v most list r t.view longer →
    HasScanned v most list (reached_by (scanned_by t r)) (seat_of (scanned_by t r)).view longer
scanned_same v most list longer t (Ok reached.Most) h = h
scanned_same v most list longer t (Ok reached.All) h = h
scanned_same v most list longer t (Err why) h = h

-- what it has in plain memory is what it knows, after its call
pub seat_left : (n : ℕ) (v x : View) (number last : ℕ) (stock : Stocked) → HasActors v → v.actor ≡ number → v.last ≡ last → HasLeft v x → IsSound n x → IsStock stock x → IsSeated n x number last stock
seat_left n v x number last stock actors its its_last left sound owns = record {
  sound = sound;
  rests = record { idle = left.rests.idle; pin = left.rests.pin; entered = left.rests.entered; opens = left.rests.opens_it };
  actors = record {
    low = omega (arith, left.same.actor, actors.low);
    top = omega (arith, left.same.actor, left.same.last, actors.top);
    most = omega (arith, left.same.last, ap (λ (z : Sizes). z.seats) left.same.sizes, actors.most);
  };
  its = left.same.actor ∙ its;
  its_last = left.same.last ∙ its_last;
  owns = owns;
}
