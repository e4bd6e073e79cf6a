-- A call on a key ends at once, or goes on as one of any kind.
use Rattle.std.proofs.Common.{◌≡◌, ◌<◌, ℕ, false, List, [], None, Result, length, refl, sym, subst, ◌∙◌, ltb-true}
use Rattle.std.proofs.lemmas.Option.{none-some}
use Rattle.history.specs.declared.calls.Access.{Access}
use Rattle.history.specs.declared.calls.Call.{Call}
use Rattle.history.specs.declared.replies.Reply.{Reply}
use Rattle.history.specs.declared.replies.Reply.TheVariants as reply
use Rattle.machine_model.specs.declared.building.Site.TheVariants as site
use Rattle.machine_model.specs.declared.lines.Line.TheVariants as line
use Rattle.machine_model.specs.declared.operations.Operation.{Operation}
use Rattle.machine_model.specs.declared.repairs.RenewLine.TheVariants as renew
use Rattle.machine_model.specs.Calls.{needs_writable}
use Rattle.proof_memory.proofs.Claims.Uses.{fact_of}
use Rattle.trie_words.specs.declared.links.Link.{Link}
use Rattle.lock_free.specs.declared.attempts.Attempt.{Attempt}
use Rattle.lock_free.specs.declared.attempts.Attempt.TheVariants as attempt
use Rattle.lock_free.specs.declared.call_errors.CallError.{CallError}
use Rattle.lock_free.specs.declared.call_runs.Ran.TheVariants as ran
use Rattle.lock_free.specs.declared.descending.Found.{Found}
use Rattle.lock_free.specs.declared.descending.Found.TheVariants as found
use Rattle.lock_free.specs.declared.reaching.Place.TheVariants as place
use Rattle.lock_free.specs.declared.rules.View.{View}
use Rattle.lock_free.specs.declared.tasks.Task.{Task}
use Rattle.lock_free.specs.Attempts.{HasAttempted, IsAttempted}
use Rattle.lock_free.specs.Descending.{HasFound, IsTask, line_found, line_updated}
use Rattle.lock_free.specs.Holding.{IsOn}
use Rattle.lock_free.specs.KeyRuns.{IsCalling, IsDone, IsFoundAs}
use Rattle.lock_free.specs.Leaving.{IsSpent}
use Rattle.lock_free.specs.LinkReads.{IsThere}
use Rattle.lock_free.specs.Loading.{IsSound, Runs}
use Rattle.lock_free.specs.Reaching.{IsAtPlace}
use Rattle.lock_free.specs.RunningOn.{MayAnswer, RunsOn}
use Rattle.lock_free.specs.Stocks.{IsStock, Stocked}
use Rattle.lock_free.specs.Telling.{SeatsAreExplained}
use Rattle.lock_free.specs.UnderWay.{HasFinished}
use Rattle.lock_free.proofs.CallBegins.{opens_run, same_run}
use Rattle.lock_free.proofs.CallNumbers.{opens_none}
use Rattle.lock_free.proofs.CallsUnderWay.{left_both, left_told, plain_left, run_out, under_way_on}
use Rattle.lock_free.proofs.Descents.{as_long, task_moved}
use Rattle.lock_free.proofs.KeyTries.{called_on}
use Rattle.lock_free.proofs.OfTasks.{reader_absent}
use Rattle.lock_free.proofs.OnLines.{finds_now}
use Rattle.lock_free.proofs.PlacesReached.{answers_absent}
use Rattle.lock_free.proofs.RunningOn.{runs_on_moved, runs_on_self}
use Rattle.lock_free.proofs.StockStays.{stock_moved}
use Rattle.lock_free.proofs.TriesTold.{replied_by}

-- ---- what is known goes on

module _ (v w : View) (r : RunsOn v w) where
  pub calling_on : (call : Call) (access : Access) → IsCalling v call access → IsCalling w call access
  calling_on call access c =
      let x = r.runs c.running.0 c.running.1 in
      record {
        running = (x.0, x.1);
        called = called_on v w c.running.0 c.running.1 r call access c.called;
        tried = c.tried;
        keyed = c.keyed;
        none = opens_run v w r ∙ c.none;
      }

  pub done_since : (call : Call) (told : Result Reply CallError) (x : View) → IsDone w call told x → IsDone v call told x
  done_since call told x h = ((λ before under. h.0 before (under_way_on before call None v w under r)), left_both v w x (same_run v w r) h.1)

-- ---- it has ended

module _ (n : ℕ) (v : View) (call : Call) (access : Access) (c : IsCalling v call access) (told : Result Reply CallError) (x : View) (sound : IsSound n x) (explained : SeatsAreExplained) where
  pub finished_done : HasFinished v call told x → IsDone v call told x
  finished_done h = (
    (λ before under.
        replied_by n before x sound explained call c.tried None (opens_none call c.keyed) told (run_out before call None v v under (runs_on_self v) access (ran.Told told) x h)),
    plain_left v call (ran.Told told) x (left_told call access v c.running.0 c.running.1 c.called None c.none v (runs_on_self v) (λ n e. absurd (none-some n e)) told x h),
  )

-- ---- a try

module _ (v w : View) where
  pub attempted_runs : (a : Attempt) → HasAttempted v a w → RunsOn v w
  attempted_runs attempt.Again h = h.0
  attempted_runs (attempt.Comes result) h = h.0

  pub attempted_as : (a : Attempt) → HasAttempted v a w → IsAttempted w a
  attempted_as attempt.Again h = h.1
  attempted_as (attempt.Comes result) h = h.1

-- ---- what KEY has found

module _ (v w : View) (slots : List ℕ) (result : Found) (h : HasFound v slots result w) where
  pub found_runs : RunsOn v w
  found_runs = runs_on_moved v w (λ q. line_found h.path h.main h.other result) h.moved

  module _ (o : Operation) (r : Runs v o) where
    pub found_task : (task : Task) → IsTask v task → IsTask w task
    found_task task its = task_moved v w (λ q. line_found h.path h.main h.other result) task o r h.moved its

    pub found_stock : (n : ℕ) → IsSound n v → (stock : Stocked) → IsStock stock v → IsStock stock w
    found_stock n sound stock is = stock_moved n v w sound o r stock is (λ q. line_found h.path h.main h.other result) h.moved

module _ (v w : View) (slots : List ℕ) (o : Operation) (r : Runs v o) (n : ℕ) (sound : IsSound n w) where
  pub found_as : (result : Found) → HasFound v slots result w → IsFoundAs w slots result
  found_as (found.Answers answer) h = (record o { line = line.End answer }, h.moved.comes o r, refl)
  found_as (found.Changes update given) h = record {
    path = h.path;
    main = h.main;
    other = h.other;
    on = (record o { line = line_updated h.path h.main h.other update }, h.moved.comes o r, refl);
    place = h.knows.0;
    knows = h.knows.1;
  }
  found_as (found.Renews given) h =
      let l = line.Renew (renew.Entry h.path h.main []) in
      let on : IsOn w l = (record o { line = l }, h.moved.comes o r, refl) in
      let claims = finds_now w l on n sound in
      (subst (λ k. 0 < k) (as_long w h.path slots h.knows.places) (ltb-true 0 (length h.path) (fact_of claims.1.0)), (h.path, h.main, h.knows, on))
  found_as found.Cleans h = (h.path, (record o { line = line_found h.path h.main h.other found.Cleans }, h.moved.comes o r, refl), h.knows.0, h.knows.1)

-- ---- it is out of tries

module _ (v w : View) (h : IsSpent v w) where
  pub spent_runs : RunsOn v w
  spent_runs = runs_on_moved v w h.next h.moved

  module _ (o : Operation) (r : Runs v o) where
    pub spent_may : MayAnswer w reply.NoSlots
    spent_may = (record o { line = h.next o }, h.moved.comes o r, h.gives_up o r)

    pub spent_stock : (n : ℕ) → IsSound n v → (stock : Stocked) → IsStock stock v → IsStock stock w
    spent_stock n sound stock is = stock_moved n v w sound o r stock is h.next h.moved

-- ---- the call is that of its task

pub calling_task : (v : View) (call : Call) (access : Access) (task : Task) → task.call ≡ call → task.access ≡ access → IsCalling v call access → IsCalling v task.call task.access
calling_task v call access task p q c = subst (λ x. IsCalling v x task.access) (sym p) (subst (λ a. IsCalling v call a) (sym q) c)

-- ---- a call that only reads, whose key is absent

pub absent_ends : (v : View) (task : Task) → needs_writable task.call ≡ false → (slots : List ℕ) (link : Link) → IsThere v slots link (IsAtPlace v task place.Absent) → IsOn v
    (line.End (reply.Found None))
absent_ends v task reads slots link at =
    let is = reader_absent task.call reads in
    subst (λ r. IsOn v (line.End r)) is.1 (answers_absent task.call site.Absent v at.1.0 at.1.1 at.1.3 is.0)
