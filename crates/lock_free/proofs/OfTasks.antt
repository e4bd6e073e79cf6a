-- An operation that a task is of.
use Rattle.std.proofs.Common.{◌≡◌, ◌==◌, ℕ, nat_eq, false, Some, None, zero, suc, refl, sym, ap, ◌∙◌}
use Rattle.std.specs.Option.{option_eq}
use Rattle.std.proofs.lemmas.Option.{none-some}
use Rattle.std.proofs.lemmas.Bool.{true≢false}
use Rattle.history.specs.declared.calls.Access.TheVariants.{ReadOnly}
use Rattle.history.specs.declared.calls.Call.{Call}
use Rattle.history.specs.declared.calls.Call.TheVariants.{Get, Close, Entries, Count}
use Rattle.history.specs.declared.replies.Reply.TheVariants as reply
use Rattle.machine_model.specs.declared.finding.WhenFound.TheVariants.{Answers}
use Rattle.machine_model.specs.declared.operations.Operation.{Operation}
use Rattle.machine_model.specs.Calls.{absent_reply, handle_of, inserts, key_of, needs_writable, when_found}
use Rattle.machine_model.specs.Finding.{is_passable, passes}
use Rattle.machine_model.specs.Machine.{run}
use Rattle.machine_model.specs.States.{State, operation_of}
use Rattle.proof_memory.proofs.Safety.AtEachTime.{safe_along}
use Rattle.proof_memory.proofs.Safety.Base.{Fits}
use Rattle.proof_memory.proofs.Safety.States.{IsSafe}
use Rattle.lock_free.specs.declared.reading.Way.{Way}
use Rattle.lock_free.specs.declared.rules.View.{View}
use Rattle.lock_free.specs.declared.tasks.Task.{Task}
use Rattle.lock_free.specs.Accounts.{bounds_for}
use Rattle.lock_free.specs.Descending.{IsTask}
use Rattle.lock_free.specs.GoingDown.{IsOnKey}
use Rattle.lock_free.specs.Loading.{Runs, IsSound}
use Rattle.lock_free.specs.Passing.{IsOnWay}

-- a reader changes nothing
fits_at : (state : State) → IsSafe state → (actor : ℕ) (o : Operation) → operation_of state actor ≡ Some o → Fits o
fits_at state safe zero o is = absurd (none-some o is)
fits_at state safe (suc k) o is = safe.fits k o is

pub reader_finds : (call : Call) (value : ℕ) → needs_writable call ≡ false → when_found call value ≡ Answers (reply.Found (Some value))
reader_finds (Get h k) value is = refl
reader_finds (Close h) value is = refl
reader_finds (Entries h) value is = refl
reader_finds (Count h) value is = refl
reader_finds call value is = absurd (true≢false is)

pub reader_absent : (call : Call) → needs_writable call ≡ false → (inserts call ≡ false) × (absent_reply call ≡ reply.Found None)
reader_absent (Get h k) is = (refl, refl)
reader_absent (Close h) is = (refl, refl)
reader_absent (Entries h) is = (refl, refl)
reader_absent (Count h) is = (refl, refl)
reader_absent call is = absurd (true≢false is)

module _ (v : View) (task : Task) (t : IsTask v task) where
  pub on_key : IsOnKey v task.key
  on_key o r = ap key_of (t.calls o r).0 ∙ sym t.key

  pub on_way : (way : Way) → way.handle ≡ handle_of task.call → way.access ≡ task.access → IsOnWay v way
  on_way way handle access o r = ((t.calls o r).1 ∙ sym access, ap handle_of (t.calls o r).0 ∙ sym handle)

  pub passable : (generation : ℕ) (o : Operation) → Runs v o → is_passable o generation ≡ passes task.access (task.start == generation)
  passable generation o r =
      ap (λ a. passes a (option_eq nat_eq o.generation (Some generation))) (t.calls o r).1 ∙ ap (λ g. passes task.access (option_eq nat_eq g (Some generation))) (t.calls o r).2

  pub reads_only : (n : ℕ) → IsSound n v → (o : Operation) → Runs v o → task.access ≡ ReadOnly → needs_writable task.call ≡ false
  reads_only n sound o r is =
      let safe = safe_along (bounds_for v.sizes v.account.steps) sound.bounds v.account.steps in
      let its : Operation = record o { is_marked = r.0 } in
      ap needs_writable (sym (t.calls o r).0) ∙ fits_at (run (bounds_for v.sizes v.account.steps) v.account.steps) safe v.actor its r.1 ((t.calls o r).1 ∙ is)
