-- Calls on one key that change nothing.
use Rattle.std.proofs.Common.{None, ◌≡◌, ℕ, zero, suc, ◌+◌, ◌*◌, ◌<◌, ◌==◌, Bool, true, false, length, refl, ap, ◌∙◌, subst, arith}
use Rattle.proof_straight.specs.Vocabulary.{Call, Reply, Ref, main_at, WhenFound, Answers, Sets, Removes, absent_reply, answers_unless, when_found, found_so, State, Record, noted_end}
use Rattle.proof_straight.specs.Beneath.history.specs.declared.calls.Call.TheVariants as call
use Rattle.proof_straight.specs.Beneath.history.specs.declared.replies.Reply.TheVariants as reply
use Rattle.machine_model.specs.declared.lines.Line.TheVariants as line
use Rattle.machine_model.proofs.Actors.{begin_counts}
use Rattle.proof_straight.specs.Drafts.{after_call, first_draft}
use Rattle.proof_straight.specs.Laws.{LastsFor, ChangesNothing, AnswersStraight, MissesStraight, CrowdedStraight}
use Rattle.proof_straight.specs.Running.{ComesTo, IsReady, IsKeyed, IsRecordOf}
use Rattle.proof_straight.specs.Places.{read_in, steps_down}
use Rattle.proof_straight.specs.Recorded.{entrant_with}
use Rattle.proof_straight.proofs.Way.Descent.{OnLine, rooted}
use Rattle.proof_straight.proofs.Steps.Going.{begun_record, ends_so}
use Rattle.proof_straight.proofs.Steps.Noting.{with_read}
use Rattle.proof_straight.proofs.Change.Recording.{IsAnswer, unchanged_noted}
use Rattle.proof_straight.proofs.Way.Rooted.{alone_at, calm_at, comes_keyed, keyed_open}
use Rattle.proof_straight.proofs.Way.Seeking.{again, looked, comes_crowded, comes_found, comes_missed}

-- there is no actor 0
pub no_actor : {state : State} {call : Call} {root : Ref} → IsReady state 0 call root → ⊥
no_actor {state} {call} ready = omega (arith, begin_counts state 0 call None ready.allowed)

-- a call that is answered where it finds its key isn't refused
abbrev GivesAnswer : WhenFound → Type 0
GivesAnswer (Answers answer) = IsAnswer answer
GivesAnswer other = Unit {0}

unless_answers : (b : Bool) (todo : WhenFound) → GivesAnswer todo → GivesAnswer (answers_unless b todo)
unless_answers true todo h = h
unless_answers false todo h = tt

gives_answer : (c : Call) (v : ℕ) → GivesAnswer (when_found c v)
gives_answer (call.Put h k w) v = tt
gives_answer (call.Replace h k w) v = tt
gives_answer (call.ReplaceIf h k a b) v = unless_answers (v == a) Sets tt
gives_answer (call.Remove h k) v = tt
gives_answer (call.RemoveIf h k w) v = unless_answers (v == w) Removes tt
gives_answer c v = tt

absent_answer : (c : Call) → IsAnswer (absent_reply c)
absent_answer (call.ReplaceIf h k a b) = tt
absent_answer (call.RemoveIf h k v) = tt
absent_answer c = tt

-- what a call on one key can count on
pub fits_at : (state : State) (past : Record) (k : ℕ) (call : Call) (root : Ref) → IsReady state (suc k) call root → IsRecordOf state past → k < length past.moments
fits_at state past k call root ready is = omega (arith, is.moments, (alone_at state k call root ready).actor)

-- the end, once the line is the answer
ends_unchanged : (state : State) (past : Record) (k : ℕ) (call : Call) (root : Ref) (ready : IsReady state (suc k) call root) (is : IsRecordOf state past) → IsKeyed call →
    (depth : ℕ) (indirection : Ref) (looks : ℕ) (answer : Reply) → IsAnswer answer →
    OnLine state past k call root (alone_at state k call root ready) (calm_at state (suc k) call root ready)
    (looked state past k call root (alone_at state k call root ready) (calm_at state (suc k) call root ready) (fits_at state past k call root ready is) depth indirection) (line.End answer)
    (steps_down depth looks) →
    LastsFor state (steps_down depth looks) → ChangesNothing state past (suc k) call root depth indirection looks answer
ends_unchanged state past k call root ready is keyed depth indirection looks answer answers stands lasts =
    subst (λ r. ComesTo state past (suc k) call (steps_down depth looks) answer (after_call state (first_draft state) (steps_down depth looks + 2)) r)
    (ap (λ step. noted_end (with_read (begun_record state past k call) k step main) (suc k) (entrant_with state call root) answer) same_step
    ∙ unchanged_noted state past k call root (read_in state depth) main answer is (fits_at state past k call root ready is) (keyed_open call keyed) answers)
    (ends_so state past k call state (alone_at state k call root ready) (first_draft state) (rooted state call root) (steps_down depth looks) answer stands refl
    (calm_at state (suc k) call root ready) lasts refl)
  where
    main : Ref
    main = main_at state.heap indirection

    same_step : state.steps + suc (4 * depth + 1) ≡ read_in state depth
    same_step = omega arith

pub answers_straight : AnswersStraight
answers_straight state past zero call root depth indirection position value looks answer ready is keyed finds says lasts = absurd (no_actor ready)
answers_straight state past (suc k) call root depth indirection position value looks answer ready is keyed finds says lasts =
    let alone = alone_at state k call root ready in
    let calm = calm_at state (suc k) call root ready in
    let fits = fits_at state past k call root ready is in
    let found = comes_found state past k call root alone calm fits (comes_keyed state past k call root ready keyed) depth indirection position value looks finds in
    ends_unchanged state past k call root ready is keyed depth indirection looks answer (subst GivesAnswer says (gives_answer call value))
    (again state past k call root alone calm fits _ (line.End answer) (steps_down depth looks) (steps_down depth looks)
    (ap (λ todo. found_so state found.path (main_at state.heap indirection) position value todo) says) refl found.stands) lasts

pub misses_straight : MissesStraight
misses_straight state past zero call root depth indirection s looks ready is keyed misses reads lasts = absurd (no_actor ready)
misses_straight state past (suc k) call root depth indirection s looks ready is keyed misses reads lasts =
    let alone = alone_at state k call root ready in
    let calm = calm_at state (suc k) call root ready in
    let fits = fits_at state past k call root ready is in
    let missed = comes_missed state past k call root alone calm fits (comes_keyed state past k call root ready keyed) depth indirection s looks misses reads in
    ends_unchanged state past k call root ready is keyed depth indirection looks (absent_reply call) (absent_answer call) missed.stands lasts

pub crowded_straight : CrowdedStraight
crowded_straight state past zero call root depth indirection s looks singles ready is keyed misses puts listed many lasts = absurd (no_actor ready)
crowded_straight state past (suc k) call root depth indirection s looks singles ready is keyed misses puts listed many lasts =
    let alone = alone_at state k call root ready in
    let calm = calm_at state (suc k) call root ready in
    let fits = fits_at state past k call root ready is in
    let missed = comes_crowded state past k call root alone calm fits (comes_keyed state past k call root ready keyed) depth indirection s looks singles misses puts listed many in
    ends_unchanged state past k call root ready is keyed depth indirection looks reply.Crowded tt missed.stands lasts
