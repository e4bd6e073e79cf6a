-- Whole calls, from their steps.
use Rattle.std.specs.Prelude.{◌≡◌, ◌-◌, true, List, [], ◌∷◌, ◌++◌, Some, Result, Ok, Err, length, slice_get}
use Rattle.std.proofs.Common.{sym, ap, subst, ◌∙◌, inl, inr, arith, length-append}
use Rattle.std.proofs.lemmas.Option.{same_Some}
use Rattle.lock_runner.specs.Vocabulary.{Call, Reply}
use Rattle.history.proofs.Places.{at_seam}
use Rattle.lock_runner.specs.declared.accounts.Answer.{Answer}
use Rattle.lock_runner.specs.declared.accounts.Running.{Running}
use Rattle.lock_runner.specs.declared.seats.Stop.{Stop}
use Rattle.lock_runner.specs.Seats.{Seated}
use Rattle.lock_runner.specs.Stepping.{HasGoneOn, IsUntold, IsAnswered, IsBehind, Begins, Goes}
use Rattle.lock_runner.specs.Performing.{CarriesOn, CarriesOut, IsPerformed}
use Rattle.lock_runner.proofs.Boards.{goes_on_more}

pub gone_more : (a b c : Seated) → HasGoneOn a b → HasGoneOn b c → HasGoneOn a c
gone_more a b c ab bc = record {
  runner = bc.runner ∙ ab.runner;
  actor = bc.actor ∙ ab.actor;
  heard = bc.heard ∙ ab.heard;
  limits = bc.limits ∙ ab.limits;
  steps = goes_on_more a.seen.steps b.seen.steps c.seen.steps ab.steps bc.steps;
}

pub untold_more : (a b c : Seated) → IsUntold a b → IsUntold b c → IsUntold a c
untold_more a b c ab bc = record { on = gone_more a b c ab.on bc.on; answers = bc.answers ∙ ab.answers; sweeps = bc.sweeps ∙ ab.sweeps }

pub answered_later : (operation : Running) (a b c : Seated) → IsUntold a b → b.running ≡ a.running → IsAnswered operation b c → IsAnswered operation a c
answered_later operation a b c ab same bc = record {
  on = gone_more a b c ab.on bc.on;
  sweeps = bc.sweeps ∙ ab.sweeps;
  ran = sym same ∙ bc.ran;
  idle = bc.idle;
  answer = bc.answer;
  last = bc.last ∙ ap (λ xs. xs ++ bc.answer ∷ []) ab.answers;
  id = bc.id;
  call = bc.call;
  began = bc.began;
}

-- the last step of an operation
pub carried_on : (a b c : Seated) → IsUntold a b → b.running ≡ a.running → Goes (Ok true) b c → CarriesOn (Ok tt) a c
carried_on a b c ab same ended = (ended.0, answered_later ended.0 a b c ab same ended.1)

pub carry_stops : (stop : Stop) (a b c : Seated) → IsUntold a b → b.running ≡ a.running → Goes (Err stop) b c → CarriesOn (Err stop) a c
carry_stops stop a b c ab same stopped = (untold_more a b c ab stopped.0, stopped.1 ∙ same, stopped.3)

-- a begin, and then the rest
pub begun_and_ended : (call : Call) (a b c : Seated) → Begins (Ok tt) a call b → CarriesOn (Ok tt) b c → IsPerformed call a c
begun_and_ended call a b c begun ended =
    let its = ended.1 in
    let same : begun.1 ≡ ended.0 = same_Some _ _ (sym begun.2.1 ∙ its.ran) in
    record {
      on = gone_more a b c begun.0.on its.on;
      sweeps = its.sweeps ∙ begun.0.sweeps;
      ready = begun.2.0;
      idle = its.idle;
      answer = its.answer;
      last = its.last ∙ ap (λ xs. xs ++ its.answer ∷ []) begun.0.answers;
      call = its.call ∙ ap (λ r. r.call) (sym same) ∙ begun.2.2;
      behind = subst (λ place. IsBehind place a) (ap (λ r. r.began) same ∙ sym its.began) begun.2.3;
    }

pub begun_and_stopped : (call : Call) (stop : Stop) (a b c : Seated) → Begins (Ok tt) a call b → CarriesOn (Err stop) b c → CarriesOut (Err stop) a call c
begun_and_stopped call stop a b c begun stopped =
    (untold_more a b c begun.0 stopped.0, inr ((begun.1, (begun.2.0, stopped.1 ∙ begun.2.1, begun.2.2, begun.2.3)), stopped.2))

pub stopped_at_once : (call : Call) (stop : Stop) (a b : Seated) → Begins (Err stop) a call b → CarriesOut (Err stop) a call b
stopped_at_once call stop a b stopped = (stopped.0, inl (stopped.1, stopped.2, stopped.3))

pub begun_and : (call : Call) (result : Result (Unit {0}) Stop) (a b c : Seated) → Begins (Ok tt) a call b → CarriesOn result b c → CarriesOut result a call c
begun_and call (Ok done) a b c begun on = begun_and_ended call a b c begun on
begun_and call (Err stop) a b c begun on = begun_and_stopped call stop a b c begun on

-- the reply that is lent is the last answer's
pub last_lent : (all before : List Answer) (last found : Answer) (reply : Reply) → all ≡ before ++ last ∷ [] → slice_get all (length all - 1) ≡ Some found → reply ≡ found.reply →
    last.reply ≡ reply
last_lent all before last found reply is at same =
    let place : length all - 1 ≡ length before = omega (arith, ap (λ xs. length xs) is, length-append before (last ∷ [])) in
    let there : slice_get all (length all - 1) ≡ Some last = ap (λ n. slice_get all n) place ∙ ap (λ xs. slice_get xs (length before)) is ∙ at_seam before [] last in
    ap (λ a. a.reply) (same_Some _ _ (sym there ∙ at)) ∙ sym same
