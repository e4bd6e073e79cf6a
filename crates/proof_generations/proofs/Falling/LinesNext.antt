-- After a step each running operation knows of its line what it has to.
use Rattle.std.proofs.Common.{Option, ◌≡◌, ℕ, suc, ◌<◌, List, ◌∷◌, ◌++◌, Some, refl, sym, ap, ◌∙◌, subst, arith, []}
use Rattle.proof_generations.specs.Vocabulary.{Writable, Call, Entries, Count, Close, Ref, Node, Indirection, Branch, Single, Tomb, List as Listed, node_at, generation_at, entries_of, Line}
use Rattle.proof_generations.specs.Vocabulary.{Operation, After, Gives, Read, RootLine, Plain, Bounds, Outcome, Step, WalkLine, handle_of, State, root_of, word_of, word_at, read_step, root_after}
use Rattle.proof_generations.specs.Vocabulary.{walk_after, walk_after_read, walk_next, walk_after_entry, first_of, rest_of, action_of, line_after, first_line, after_root, given_root}
use Rattle.proof_generations.specs.Vocabulary.{generation_from, operation_after, Moves, GoesOn, begun_operation, IsRun, noted_progress, noted, moment_at, Moment, progress_of, told_in, Runs, IsInUse}
use Rattle.proof_generations.specs.Beneath.machine_model.specs.declared.lines.Line.TheVariants as line
use Rattle.proof_generations.specs.Beneath.machine_model.specs.declared.reading.After.TheVariants.{Goes as Continues}
use Rattle.proof_generations.specs.Beneath.machine_model.specs.declared.steps.Step.TheVariants as step
use Rattle.proof_generations.specs.Beneath.machine_model.specs.declared.walking.WalkLine.TheVariants as walk
use Rattle.proof_generations.specs.Beneath.machine_model.proofs.Actors.{marks_in}
use Rattle.proof_generations.specs.Beneath.proof_memory.proofs.Safety.AtEachTime.{safe_at}
use Rattle.proof_generations.specs.Beneath.proof_memory.proofs.Claims.Uses.{safe_of}
use Rattle.proof_generations.proofs.Roots.Open.{no_close_at}
use Rattle.proof_generations.proofs.Roots.Along.{ordered_at}
use Rattle.proof_generations.proofs.Handles.Running.{Comes, began, rested, went, comes, gave}
use Rattle.proof_generations.proofs.Roots.Rooted.{root_given}
use Rattle.proof_generations.proofs.Falling.Nodes.{used_generation}
use Rattle.proof_generations.proofs.Lines.Knows.{Knows, IsInner}
use Rattle.proof_generations.proofs.Lines.Own.{begins_falls}
use Rattle.proof_generations.proofs.Lines.Reader.{KnowsReader}
use Rattle.proof_generations.proofs.Falling.Runs.{IsOwn, FitsBelow, FallsBelow, LateBelow, Ends, Shut, LateEnd, MainsFall, AllKnow, KnowsGenerations, KnowsWritable, knows_next, marked_knows}
use Rattle.proof_generations.proofs.Lines.OwnKnows.{inner_knows, inner_generation}
use Rattle.proof_generations.proofs.Lines.ReaderKnows.{reader_knows, going_on, root_claim}
use Rattle.proof_generations.specs.Beneath.machine_model.proofs.Alike.{moment_rests}
use Rattle.proof_generations.specs.Beneath.machine_model.proofs.Notes.{noted_going}

-- ---- lines that know nothing

walked_not_inner : (todo : List Ref) (pairs : List (ℕ × ℕ)) (after : After Read Ref) → IsInner (walk_after_read todo pairs after) → ⊥
walked_not_inner todo pairs (Continues r) i = i
walked_not_inner todo pairs (Gives m) i = i

next_not_inner : (operation : Operation) (todo : List Ref) (pairs : List (ℕ × ℕ)) → IsInner (walk_next operation todo pairs) → ⊥
next_not_inner operation [] pairs i = i
next_not_inner operation (entry ∷ todo) pairs i = i

entry_not_inner : (operation : Operation) (entry : Ref) (todo : List Ref) (pairs : List (ℕ × ℕ)) (n : Node) → IsInner (walk_after_entry operation entry todo pairs n) → ⊥
entry_not_inner operation entry todo pairs (Indirection h word) i = i
entry_not_inner operation entry todo pairs (Single key value) i = next_not_inner operation todo (pairs ++ (key, value) ∷ []) i
entry_not_inner operation entry todo pairs (Branch bitmap entries) i = i
entry_not_inner operation entry todo pairs (Tomb single) i = i
entry_not_inner operation entry todo pairs (Listed singles) i = i

walk_not_inner : (state : State) (operation : Operation) (l : WalkLine) → IsInner (walk_after state operation l) → ⊥
walk_not_inner state operation walk.Root i = i
walk_not_inner state operation (walk.Read r todo pairs) i = walked_not_inner todo pairs (read_step state operation r) i
walk_not_inner state operation (walk.Main main todo pairs) i = next_not_inner operation (entries_of (node_at state.heap main) ++ todo) pairs i
walk_not_inner state operation (walk.Entry todo pairs) i = entry_not_inner operation (first_of todo) (rest_of todo) pairs (node_at state.heap (first_of todo)) i

first_not_inner : (call : Call) → IsInner (first_line call) → ⊥
first_not_inner (Entries h) i = i
first_not_inner (Count h) i = i
first_not_inner (Close h) i = i
first_not_inner call i = i

first_reader : (Ends Shut : Ref → Type 0) (Late : Read → Type 0) (call : Call) → KnowsReader Ends Shut Late (first_line call)
first_reader Ends Shut Late (Entries h) = tt
first_reader Ends Shut Late (Count h) = tt
first_reader Ends Shut Late (Close h) = tt
first_reader Ends Shut Late call = tt

-- ---- ROOT

module _ {limits : Bounds} {states : ℕ → State} {last : ℕ} (run : IsRun limits states last) (t : ℕ) (lt : t < last) (know : AllKnow states run.records last t)
    (mains : MainsFall states run.records last (suc t)) where
  module _ (k : ℕ) (operation : Operation) (runs : Runs (states t) k operation) (o : Outcome) (moves : Moves (states t) (step.Go (suc k)) o (states (suc t)))
      (goes : GoesOn (action_of (states t) operation))
      (noted : run.records (suc t) ≡ noted_progress (run.records t) (states t).steps (suc k) (progress_of (states t) operation)) where
    -- what is known of its READs, before the step and after it
    abbrev was_read : Moment
    was_read = moment_at (run.records t) (suc k)

    abbrev now_read : Moment
    now_read = moment_at (run.records (suc t)) (suc k)

    abbrev now : Operation
    now = operation_after (states t) operation

    -- the root in the word of its handle
    root_found : (r : Ref) → word_at (states t) (handle_of operation.call) ≡ Plain r → IsInUse (states t).heap r
    root_found r plain =
        let (root, found, access) =
        (ordered_at run t (omega arith)).handles.on_open k operation runs
        (no_close_at run t (omega arith) k operation runs (going_on (states t) operation operation.line goes)) in
        let claim = root_claim (states t) root.word ((safe_at run t (omega arith)).words (handle_of operation.call) root found) in
        subst (λ w. IsInUse (states t).heap (root_of w)) (sym (ap word_of found) ∙ plain) (safe_of claim)

    abbrev KnowsAfter : After RootLine Ref → Type 0
    KnowsAfter a =
        IsInner (after_root operation a) → (g : ℕ) × (given_root (states t) a operation.generation ≡ Some g)
        × Knows (IsOwn states last g) (FitsBelow states run.records last (suc t) g) (FallsBelow states run.records last (suc t) g)
        (LateBelow states run.records last (suc t) now_read g) (after_root operation a)

    root_knows : (l : RootLine) (a : After RootLine Ref) → root_after (states t).heap operation.access (word_at (states t) (handle_of operation.call)) l ≡ a → KnowsAfter a
    root_knows l (Continues next) e i = absurd i
    root_knows l (Gives r) e i =
        let g = generation_at (states t).heap r in
        let own : IsOwn states last g r = used_generation run t (omega arith) r (root_found r (root_given (states t) operation l r e)) in (
          g,
          refl,
          begins_falls (IsOwn states last g) (FitsBelow states run.records last (suc t) g) (FallsBelow states run.records last (suc t) g) (LateBelow states run.records last (suc t) now_read g)
              operation.call r own,
        )

    inner_by : (w : operation.access ≡ Writable) → IsInner operation.line → KnowsWritable states run.records last t was_read operation → KnowsWritable states run.records last (suc t) now_read now
    inner_by w inner knows i =
        let (g, begun, known) = knows inner in
        (g, inner_generation (states t) operation operation.line inner ∙ begun, inner_knows run t lt mains k operation runs o moves goes noted w inner g begun known)

    writable_by : (l : Line) → operation.line ≡ l → operation.access ≡ Writable → KnowsWritable states run.records last t was_read operation →
        KnowsWritable states run.records last (suc t) now_read now
    writable_by (line.Root l) is w knows i =
        subst (λ x. IsInner (line_after (states t) operation x) → (g : ℕ) × (generation_from (states t) operation x ≡ Some g)
        × Knows (IsOwn states last g) (FitsBelow states run.records last (suc t) g) (FallsBelow states run.records last (suc t) g)
        (LateBelow states run.records last (suc t) now_read g) (line_after (states t) operation x)) (sym is)
        (root_knows l (root_after (states t).heap operation.access (word_at (states t) (handle_of operation.call)) l) refl) i
    writable_by (line.Walk l) is w knows i = absurd (walk_not_inner (states t) operation l (subst (λ x. IsInner (line_after (states t) operation x)) is i))
    writable_by (line.End answer) is w knows i = absurd (subst (λ x. IsInner (line_after (states t) operation x)) is i)
    writable_by line.Impossible is w knows i = absurd (subst (λ x. IsInner (line_after (states t) operation x)) is i)
    writable_by (line.Key l) is w knows i = inner_by w (subst IsInner (sym is) tt) knows i
    writable_by (line.Build l) is w knows i = inner_by w (subst IsInner (sym is) tt) knows i
    writable_by (line.Swap why s) is w knows i = inner_by w (subst IsInner (sym is) tt) knows i
    writable_by (line.Renew l) is w knows i = inner_by w (subst IsInner (sym is) tt) knows i
    writable_by (line.Clean l) is w knows i = inner_by w (subst IsInner (sym is) tt) knows i
    writable_by (line.Climb l) is w knows i = inner_by w (subst IsInner (sym is) tt) knows i
    writable_by (line.Copy l) is w knows i = inner_by w (subst IsInner (sym is) tt) knows i

    goes_knows : KnowsGenerations states run.records last (suc t) now_read now
    goes_knows = (
      λ w. writable_by operation.line refl w ((know k operation runs).0 w),
      λ r. reader_knows run t lt mains k operation runs o moves goes noted r ((know k operation runs).1 r),
    )

  begins_knows : (x : Moment) (call : Call) (number : Option ℕ) → KnowsGenerations states run.records last (suc t) x (begun_operation (states t) call number)
  begins_knows x call number =
      (λ w i. absurd (first_not_inner call i), λ r. first_reader (Ends states run.records last (suc t)) (Shut states run.records last (suc t)) (LateEnd states run.records last (suc t) x) call)

  module _ (s : Step) (o : Outcome) (m : Moves (states t) s o (states (suc t))) (notes : run.records (suc t) ≡ noted (run.records t) (states t).steps (told_in (states t) s)) where
    comes_knows : (k : ℕ) (found : Operation) → Comes (states t) s k found → KnowsGenerations states run.records last (suc t) (moment_at (run.records (suc t)) (suc k)) found
    comes_knows k found (began call number is d it) = subst (KnowsGenerations states run.records last (suc t) (moment_at (run.records (suc t)) (suc k))) (sym it)
        (begins_knows (moment_at (run.records (suc t)) (suc k)) call number)
    comes_knows k found (rested was at_was it other_step) =
        let same : moment_at (run.records (suc t)) (suc k) ≡ moment_at (run.records t) (suc k) =
        ap (λ past. moment_at past (suc k)) notes ∙ moment_rests (states t) (run.records t) s o (states (suc t)) m k other_step in
        subst (λ x. KnowsGenerations states run.records last (suc t) x found) (sym same)
        (subst (KnowsGenerations states run.records last (suc t) (moment_at (run.records t) (suc k))) (sym it)
        (marked_knows states run.records last (suc t) (moment_at (run.records t) (suc k)) (marks_in (states t) s) was
        (knows_next run t lt (moment_at (run.records t) (suc k)) was (know k was at_was))))
    comes_knows k found (went was is at_was g it) =
        let goes_noted : run.records (suc t) ≡ noted_progress (run.records t) (states t).steps (suc k) (progress_of (states t) was) =
        notes ∙ ap (λ q. noted (run.records t) (states t).steps (told_in (states t) q)) is ∙ noted_going (states t) (run.records t) (suc k) was _ at_was refl g in
        subst (KnowsGenerations states run.records last (suc t) (moment_at (run.records (suc t)) (suc k))) (sym it)
        (marked_knows states run.records last (suc t) (moment_at (run.records (suc t)) (suc k)) (marks_in (states t) s) (operation_after (states t) was)
        (goes_knows k was at_was o (subst (λ x. Moves (states t) x o (states (suc t))) is m) g goes_noted))
    comes_knows k found (gave was answer is at_was may it) = subst (KnowsGenerations states run.records last (suc t) (moment_at (run.records (suc t)) (suc k))) (sym it) ((λ w i. absurd i), (λ r. tt))

    pub lines_next : AllKnow states run.records last (suc t)
    lines_next k found runs = comes_knows k found (comes (states t) s o (states (suc t)) m k found runs)
