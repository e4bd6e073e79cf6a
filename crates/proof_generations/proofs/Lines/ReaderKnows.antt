-- After its step an operation on a read-only handle knows of its new line what it knew of the one before.
use Rattle.std.proofs.Common.{◌≡◌, ℕ, suc, ◌<◌, true, false, Some, inl, inr, refl, sym, ap, ◌∙◌, subst, arith}
use Rattle.std.proofs.lemmas.Bool.{true≢false}
use Rattle.proof_generations.specs.Vocabulary.{ReadOnly, Ref, Node, Indirection, Branch, Single, Tomb, List as Listed, node_at, Line, Operation, Root, RootWord, Plain, Offer, Bounds, Outcome}
use Rattle.proof_generations.specs.Vocabulary.{handle_of, State, root_at, root_of, word_of, reading, action_of, line_action, line_after, operation_after, Moves, GoesOn, IsRun, noted_progress}
use Rattle.proof_generations.specs.Vocabulary.{moment_at, progress_of, Moment, is_actor, IsInUse, is_end, AnIndirection, meets, Is, Holds, AllHold, word_wants}
use Rattle.proof_generations.specs.Beneath.machine_model.specs.declared.lines.Line.TheVariants as line
use Rattle.proof_generations.specs.Beneath.machine_model.specs.declared.steps.Step.TheVariants as step
use Rattle.proof_generations.specs.Beneath.proof_memory.proofs.Safety.AtEachTime.{safe_at}
use Rattle.proof_generations.specs.Beneath.proof_memory.proofs.Safety.AtTimes.{line_finds, action_finds}
use Rattle.proof_generations.specs.Beneath.proof_memory.proofs.Claims.Uses.{safe_of, meets_of}
use Rattle.proof_generations.specs.Beneath.proof_memory.proofs.Safety.States.{IsSafe}
use Rattle.proof_generations.proofs.Roots.Open.{no_close_at}
use Rattle.proof_generations.proofs.Roots.Along.{IsOrdered, ordered_at, read_only_plain}
use Rattle.proof_generations.specs.Running.{Runs}
use Rattle.proof_contents.proofs.Lines.Repair.{read_stays}
use Rattle.proof_generations.specs.Falling.{WasClosed, IsLate}
use Rattle.proof_generations.proofs.Falling.Nodes.{link_used, told_generation}
use Rattle.proof_generations.proofs.Falling.Opened.{was_closed_next, was_closed_so, closed_next, closed_so, standing_generation}
use Rattle.proof_generations.proofs.Lines.Reader.{KnowsReader, ReaderStep, reader_still, reader_falls}
use Rattle.proof_generations.proofs.Falling.ReadsGive.{given_stands, late_after}
use Rattle.proof_generations.proofs.Falling.Runs.{gen_of, IsLink, Ends, Shut, LateEnd, MainsFall, falls_shut, entries_end, ends_next, shut_next}
use Rattle.proof_generations.specs.Beneath.machine_model.proofs.Alike.{go_actor, not_denied}

pub going_on : (state : State) (operation : Operation) (l : Line) → GoesOn (line_action state operation l) → is_end l ≡ false
going_on state operation (line.End answer) g = absurd g
going_on state operation l g = refl

pub indirection_is : (n : Node) → meets AnIndirection n ≡ true → (h : ℕ) × (word : Ref) × (n ≡ Indirection h word)
indirection_is (Indirection h word) e = (h, word, refl)
indirection_is (Branch b es) e = absurd (true≢false (sym e))
indirection_is (Single k v) e = absurd (true≢false (sym e))
indirection_is (Tomb s) e = absurd (true≢false (sym e))
indirection_is (Listed s) e = absurd (true≢false (sym e))

-- the root in a word is an indirection
pub root_claim : (state : State) (word : RootWord) → AllHold (IsInUse state.heap) state.heap (word_wants word) → Holds (IsInUse state.heap) state.heap (Is (root_of word) AnIndirection)
root_claim state (Plain r) h = h.0
root_claim state (Offer offer) h = h.0

module _ {limits : Bounds} {states : ℕ → State} {last : ℕ} (run : IsRun limits states last) (t : ℕ) (lt : t < last) (mains : MainsFall states run.records last (suc t)) (k : ℕ)
    (operation : Operation)
    (runs : Runs (states t) k operation) (o : Outcome) (moves : Moves (states t) (step.Go (suc k)) o (states (suc t)))
    (goes : GoesOn (action_of (states t) operation))
    (noted : run.records (suc t) ≡ noted_progress (run.records t) (states t).steps (suc k) (progress_of (states t) operation)) (read_only : operation.access ≡ ReadOnly) where
  -- what is known of its READs, before the step and after it
  abbrev was_read : Moment
  was_read = moment_at (run.records t) (suc k)

  abbrev now_read : Moment
  now_read = moment_at (run.records (suc t)) (suc k)

  abbrev now : Operation
  now = operation_after (states t) operation

  abbrev S : Ref → Type 0
  S = IsInUse (states t).heap

  abbrev I : IsSafe (states t)
  I = safe_at run t (omega arith)

  abbrev handle : ℕ
  handle = handle_of operation.call

  -- the root of its handle
  record HandleRoot : Type 0 where
    root : Root
    found : root_at (states t) handle ≡ Some root
    plain : root.word ≡ Plain (root_of root.word)
    closed : WasClosed run.records t (gen_of states last (root_of root.word))
    link : IsLink states last (root_of root.word)

  handle_root : HandleRoot
  handle_root =
      let O : IsOrdered (states t) (run.records t) = ordered_at run t (omega arith) in
      let (root, found, access) = O.handles.on_open k operation runs (no_close_at run t (omega arith) k operation runs (going_on (states t) operation operation.line goes)) in
      let (c, closed) = O.roots.is_closed handle root found (access ∙ read_only) in
      let claim = root_claim (states t) root.word (I.words handle root found) in
      let (h, word, is) = indirection_is (node_at (states t).heap (root_of root.word)) (meets_of claim) in
      record {
        root = root;
        found = found;
        plain = read_only_plain (states t) (run.records t) I O handle root found (access ∙ read_only);
        closed = subst (λ x. WasClosed run.records t x) (sym (standing_generation run t (omega arith) handle root found))
            (c, (closed_so run t (omega arith) _ c closed).0, closed);
        link = (h, link_used run t (omega arith) (root_of root.word) (safe_of claim) h word is);
      }

  own : is_actor (states t) (suc k) ≡ true
  own = go_actor (states t) (suc k) (not_denied moves)

  late_now : (r : Ref) → IsLink states last r → WasClosed run.records (suc t) (gen_of states last r) → LateEnd states run.records last (suc t) now_read (reading r)
  late_now r link (c, before, closed) = (link, (c, before, closed, inl refl))

  reader_step : ReaderStep (states t) operation (Ends states run.records last (suc t)) (Shut states run.records last (suc t)) (LateEnd states run.records last t was_read)
      (LateEnd states run.records last (suc t) now_read) S
  reader_step = record {
    read_only = read_only;
    reads = I.fits k operation runs read_only;
    entries_end = entries_end run t lt (suc t);
    late_goes = λ r next stage was e.
        let (link, (c, before, closed, since)) = was in
        subst (λ i. IsLink states last i × IsLate run.records (suc t) now_read next (gen_of states last i)) (sym (read_stays (states t) operation r next e))
        (link, (c, omega (arith, before), closed_next run t lt _ c closed, inr (late_after run t lt (suc k) operation runs r stage noted own c before since)));
    late_gives = λ r m stage was e.
        let (link, (c, before, closed, since)) = was in
        let still = was_closed_next run t lt (gen_of states last r.indirection) (c, before, closed) in
        falls_shut states run.records last (suc t) (gen_of states last r.indirection) m still
        (mains.falls r.indirection m (given_stands run t lt (suc k) operation runs r stage noted o moves m e) (was_closed_so run (suc t) lt _ still));
    begins = λ r h word used is ends.
        let link = link_used run t (omega arith) r used h word is in
        late_now r (h, link) (subst (λ x. WasClosed run.records (suc t) x) (sym (told_generation states last h r link)) (ends h link));
    plain = subst (λ w. w ≡ Plain (root_of w)) (sym (ap word_of handle_root.found)) handle_root.plain;
    root_late =
        subst (λ w. LateEnd states run.records last (suc t) now_read (reading (root_of w))) (sym (ap word_of handle_root.found))
        (late_now (root_of handle_root.root.word) handle_root.link (was_closed_next run t lt _ handle_root.closed));
  }

  pub reader_knows : KnowsReader (Ends states run.records last t) (Shut states run.records last t) (LateEnd states run.records last t was_read) operation.line →
      KnowsReader (Ends states run.records last (suc t)) (Shut states run.records last (suc t)) (LateEnd states run.records last (suc t) now_read) (line_after (states t) operation operation.line)
  reader_knows knows =
      let known = reader_still (Ends states run.records last t) (Shut states run.records last t) (LateEnd states run.records last t was_read)
      (Ends states run.records last (suc t)) (Shut states run.records last (suc t)) (LateEnd states run.records last t was_read)
      (ends_next run t lt) (shut_next run t lt) (λ r late. late) operation.line knows in
      reader_falls (states t) operation (Ends states run.records last (suc t)) (Shut states run.records last (suc t)) (LateEnd states run.records last t was_read)
      (LateEnd states run.records last (suc t) now_read) S reader_step operation.line refl known
      (line_finds (states t) I (suc k) operation runs) (action_finds (states t) I (suc k) operation runs)
