-- After its step an operation on a writable handle knows of its new line what it knew of the one before.
use Rattle.std.proofs.Common.{◌≡◌, ℕ, suc, ◌<◌, true, Some, inl, inr, refl, sym, ap, ◌∙◌, subst, arith}
use Rattle.std.proofs.lemmas.Option.{same_Some}
use Rattle.std.specs.List.{All}
use Rattle.proof_generations.specs.Vocabulary.{Indirection, entries_of, BuildLine, CopyLine, CleanLine, ClimbLine, RenewLine, line_action, line_after, Writable, Ref, Node, node_at, next_ref, Line}
use Rattle.proof_generations.specs.Vocabulary.{Operation, Bounds, Outcome, State, reading, action_of, generation_from, operation_after, Moves, GoesOn, IsRun, noted_progress, moment_at, progress_of}
use Rattle.proof_generations.specs.Vocabulary.{Moment, ASingle, meets, AllHold, line_wants, IsInUse, made_node}
use Rattle.proof_generations.specs.Beneath.machine_model.specs.declared.building.BuildLine.TheVariants as build
use Rattle.proof_generations.specs.Beneath.machine_model.specs.declared.copying.CopyLine.TheVariants as copy
use Rattle.proof_generations.specs.Beneath.machine_model.specs.declared.repairs.CleanLine.TheVariants as clean
use Rattle.proof_generations.specs.Beneath.machine_model.specs.declared.repairs.ClimbLine.TheVariants as climb
use Rattle.proof_generations.specs.Beneath.machine_model.specs.declared.repairs.RenewLine.TheVariants as renew
use Rattle.proof_generations.specs.Beneath.proof_memory.proofs.Safety.AtTimes.{line_finds, action_finds}
use Rattle.proof_generations.proofs.Falling.Nodes.{used_entries, used_single}
use Rattle.proof_generations.proofs.Lines.Knows.{Knows, knows_still}
use Rattle.proof_generations.proofs.Lines.Own.{LineMakes, own_falls}
use Rattle.proof_generations.proofs.Lines.Made.{NodeMade, node_made}
use Rattle.proof_generations.proofs.Falling.Runs.{single_fits, falls_next}
use Rattle.proof_generations.specs.Beneath.machine_model.specs.declared.lines.Line.TheVariants as line
use Rattle.proof_generations.specs.Beneath.machine_model.specs.declared.steps.Step.TheVariants as step
use Rattle.proof_generations.specs.Beneath.proof_memory.proofs.Safety.AtEachTime.{safe_at}
use Rattle.proof_generations.specs.Beneath.proof_memory.proofs.Safety.Steps.{made_fresh}
use Rattle.proof_generations.specs.Running.{Runs}
use Rattle.proof_contents.proofs.Lines.Repair.{read_stays}
use Rattle.proof_generations.specs.Beneath.proof_memory.proofs.Claims.Nodes.{IsNoLink}
use Rattle.proof_commits.proofs.Lines.Read.{licensed_so}
use Rattle.proof_generations.specs.Falling.{WasOpened, MayStandBelow, IsLate}
use Rattle.proof_generations.proofs.Falling.Nodes.{link_used, told_generation}
use Rattle.proof_generations.proofs.Falling.Opened.{opened_next, opened_rooted, was_closed_so, below_next, closed_next}
use Rattle.proof_generations.proofs.Lines.Knows.{IsInner}
use Rattle.proof_generations.proofs.Lines.Own.{OwnStep}
use Rattle.proof_generations.proofs.Falling.Runs.{gen_of, IsOwn, IsLink, FitsBelow, FallsBelow, LateBelow, MainsFall, own_fits, falls_below, entries_fit, fits_next}
use Rattle.proof_generations.proofs.Falling.MainsNext.{inner_rooted}
use Rattle.proof_generations.proofs.Falling.ReadsGive.{gone_is, given_stands, late_after}
use Rattle.proof_generations.specs.Beneath.machine_model.proofs.Alike.{go_actor, not_denied}

-- an inner line keeps the operation's generation
pub inner_generation : (state : State) (operation : Operation) (l : Line) → IsInner l → generation_from state operation l ≡ operation.generation
inner_generation state operation (line.Root l) i = absurd i
inner_generation state operation l i = refl

module _ {limits : Bounds} {states : ℕ → State} {last : ℕ} (run : IsRun limits states last) (t : ℕ) (lt : t < last) (mains : MainsFall states run.records last (suc t)) (k : ℕ)
    (operation : Operation)
    (runs : Runs (states t) k operation) (o : Outcome) (moves : Moves (states t) (step.Go (suc k)) o (states (suc t))) (goes : GoesOn (action_of (states t) operation))
    (noted : run.records (suc t) ≡ noted_progress (run.records t) (states t).steps (suc k) (progress_of (states t) operation)) where
  -- what is known of its READs, before the step and after it
  abbrev was_read : Moment
  was_read = moment_at (run.records t) (suc k)

  abbrev now_read : Moment
  now_read = moment_at (run.records (suc t)) (suc k)

  abbrev now : Operation
  now = operation_after (states t) operation

  abbrev S : Ref → Type 0
  S = IsInUse (states t).heap

  -- ---- what is made

  pub new_used : (n : Node) (made : Ref) → made_node (states t) (action_of (states t) operation) ≡ Some n → next_ref (states t).heap ≡ Some made →
      IsInUse (states (suc t)).heap made × (node_at (states (suc t)).heap made ≡ n)
  new_used n made e takes =
      let fresh = made_fresh (states t) (safe_at run t (omega arith)) (suc k) k operation runs n made e takes in
      let is = gone_is (states t) (suc k) o (states (suc t)) moves operation runs goes in
      (subst (λ (q : State). IsInUse q.heap made) (sym is) fresh.0.used, ap (λ (q : State). node_at q.heap made) is ∙ fresh.1)

  module _ (w : operation.access ≡ Writable) (inner : IsInner operation.line) (g : ℕ) (begun : operation.generation ≡ Some g) where
    opened : WasOpened states (suc t) g
    opened = opened_next states t g (opened_rooted states run.records t _ g (inner_rooted run t lt k operation runs w inner g begun))

    -- what stands below an entry of the path
    opened_under : (h : ℕ) → MayStandBelow run.records t g h → WasOpened states (suc t) h
    opened_under h (inl same) = subst (λ x. WasOpened states (suc t) x) (sym same) opened
    opened_under h (inr (less, closed)) = opened_next states t h (was_closed_so run t (omega arith) h closed)

    late_so : (r : Ref) (h : ℕ) → gen_of states last r ≡ h → MayStandBelow run.records (suc t) g h → (gen_of states last r ≡ g → ⊥) →
        IsLate run.records (suc t) now_read (reading r) (gen_of states last r)
    late_so r h is (inl same) other = absurd (other (is ∙ same))
    late_so r h is (inr (less, closed)) other = subst (λ x. IsLate run.records (suc t) now_read (reading r) x) (sym is) (closed.0, closed.1, closed.2, inl refl)

    own_step : OwnStep (states t) operation (IsOwn states last g) (FitsBelow states run.records last (suc t) g) (FallsBelow states run.records last (suc t) g)
        (LateBelow states run.records last t was_read g) (LateBelow states run.records last (suc t) now_read g) S
    own_step = record {
      writable = w;
      own_fits = own_fits states run.records last (suc t) g;
      entries_fit = entries_fit run t lt (suc t) g;
      goes = λ r next e. read_stays (states t) operation r next e;
      own_gives = λ r m stage own e.
          subst (λ x. FallsBelow states run.records last (suc t) x m) own
          (mains.falls r.indirection m (given_stands run t lt (suc k) operation runs r stage noted o moves m e) (subst (λ x. WasOpened states (suc t) x) (sym own) opened));
      late_goes = λ r next stage was e.
          let (link, fits, late) = was in
          subst (λ i. IsLink states last i × FitsBelow states run.records last (suc t) g i × ((gen_of states last i ≡ g → ⊥) → IsLate run.records (suc t) now_read next (gen_of states last i)))
          (sym (read_stays (states t) operation r next e)) (
            link,
            fits_next run t lt g r.indirection fits,
            λ other. let (c, before, closed, since) = late other in (
              c,
              omega (arith, before),
              closed_next run t lt _ c closed,
              inr
                  (late_after run t lt (suc k) operation runs r stage noted (go_actor (states t) (suc k) (not_denied moves)) c before since),
            ),
          );
      late_gives = λ r m stage was e.
          let ((h, is), fits, late) = was in
          let under = fits h is in
          let told = told_generation states last h r.indirection is in
          falls_below states run.records last (suc t) g (gen_of states last r.indirection) m
          (subst (λ x. MayStandBelow run.records (suc t) g x) (sym told) (below_next run t lt g h under))
          (mains.falls r.indirection m (given_stands run t lt (suc k) operation runs r stage noted o moves m e)
          (subst (λ x. WasOpened states (suc t) x) (sym told) (opened_under h under)));
      looked = λ r h word used is same.
          told_generation states last h r (link_used run t (omega arith) r used h word is) ∙ same_Some _ _ (sym (licensed_so operation.generation h same) ∙ begun);
      begins = λ r h word used is fits.
          let link = link_used run t (omega arith) r used h word is in
          ((h, link), fits, late_so r h (told_generation states last h r link) (fits h link));
    }

    -- ---- the node that the line makes

    abbrev Fits : Ref → Type 0
    Fits = FitsBelow states run.records last (suc t) g

    abbrev Falls : Ref → Type 0
    Falls = FallsBelow states run.records last (suc t) g

    abbrev Kn : Line → Type 0
    Kn = Knows (IsOwn states last g) Fits Falls (LateBelow states run.records last t was_read g)

    abbrev MadeSo : Line → Node → Type 0
    MadeSo =
        NodeMade (states t) operation g begun (IsOwn states last g) Fits Falls (LateBelow states run.records last t was_read g) S (own_fits states run.records last (suc t) g)
        (single_fits run t lt (suc t) g)
        (entries_fit run t lt (suc t) g)

    node_of_line : (l : Line) → operation.line ≡ l → Kn l → (n : Node) → made_node (states t) (line_action (states t) operation l) ≡ Some n → MadeSo l n
    node_of_line l is known n e =
        node_made (states t) operation g begun (IsOwn states last g) Fits Falls (LateBelow states run.records last t was_read g) S (own_fits states run.records last (suc t) g)
        (single_fits run t lt (suc t) g)
        (entries_fit run t lt (suc t) g) l known
        (subst (λ x. AllHold S (states t).heap (line_wants (states t).limits.hash operation.call operation.access x)) is
        (line_finds (states t) (safe_at run t (omega arith)) (suc k) operation runs)) n e

    module _ (l : Line) (is : operation.line ≡ l) (known : Kn l) (n : Node) (e : made_node (states t) (line_action (states t) operation l) ≡ Some n) (made : Ref)
        (takes : next_ref (states t).heap ≡ Some made) where
      used_new : IsInUse (states (suc t)).heap made × (node_at (states (suc t)).heap made ≡ n)
      used_new = new_used n made (ap (λ x. made_node (states t) (line_action (states t) operation x)) is ∙ e) takes

      single_new : meets ASingle n ≡ true → Fits made
      single_new s h link = absurd (used_single run (suc t) lt made used_new.0 (ap (meets ASingle) used_new.1 ∙ s) h link)

      main_new : IsNoLink n × All Fits (entries_of n) → Falls made
      main_new m = subst (All Fits) (sym (used_entries run (suc t) lt made used_new.0 ∙ ap entries_of used_new.1)) m.1

      link_new : (word : Ref) × (n ≡ Indirection g word) × Falls word → IsOwn states last g made
      link_new (word, same, falls) = told_generation states last g made (link_used run (suc t) lt made used_new.0 g word (used_new.1 ∙ same))

    abbrev Makes : Line → Ref → Type 0
    Makes = LineMakes (states t) operation (IsOwn states last g) Fits Falls (LateBelow states run.records last t was_read g) (LateBelow states run.records last (suc t) now_read g) S own_step

    build_makes : (l : BuildLine) → operation.line ≡ line.Build l → Kn (line.Build l) → (made : Ref) → next_ref (states t).heap ≡ Some made → Makes (line.Build l) made
    build_makes (build.Single path main s former) is known made takes = single_new _ is known _ refl made takes (node_of_line _ is known _ refl)
    build_makes (build.Pair path main position single depth) is known made takes = main_new _ is known _ refl made takes (node_of_line _ is known _ refl)
    build_makes (build.Link path main position below depth) is known made takes = link_new _ is known _ refl made takes (node_of_line _ is known _ refl)
    build_makes (build.Rung path main position below depth) is known made takes = main_new _ is known _ refl made takes (node_of_line _ is known _ refl)
    build_makes (build.Main path main c former) is known made takes = main_new _ is known _ refl made takes (node_of_line _ is known _ refl)

    renew_makes : (l : RenewLine) → operation.line ≡ line.Renew l → Kn (line.Renew l) → (made : Ref) → next_ref (states t).heap ≡ Some made → Makes (line.Renew l) made
    renew_makes (renew.Link path main done child) is known made takes =
        own_fits states run.records last (suc t) g made (link_new _ is known _ refl made takes (node_of_line _ is known _ refl))
    renew_makes (renew.Branch path main done) is known made takes = main_new _ is known _ refl made takes (node_of_line _ is known _ refl)
    renew_makes (renew.Entry path main done) is known made takes = tt
    renew_makes (renew.Read path main done r) is known made takes = tt

    clean_makes : (l : CleanLine) → operation.line ≡ line.Clean l → Kn (line.Clean l) → (made : Ref) → next_ref (states t).heap ≡ Some made → Makes (line.Clean l) made
    clean_makes (clean.Contracted path main done) is known made takes = main_new _ is known _ refl made takes (node_of_line _ is known _ refl)
    clean_makes (clean.Read path r) is known made takes = tt
    clean_makes (clean.Main path main) is known made takes = tt
    clean_makes (clean.Entry path main done) is known made takes = tt
    clean_makes (clean.Child path main done r) is known made takes = tt
    clean_makes (clean.Tomb path main done child) is known made takes = tt

    climb_makes : (l : ClimbLine) → operation.line ≡ line.Climb l → Kn (line.Climb l) → (made : Ref) → next_ref (states t).heap ≡ Some made → Makes (line.Climb l) made
    climb_makes (climb.Contracted c main) is known made takes = main_new _ is known _ refl made takes (node_of_line _ is known _ refl)
    climb_makes (climb.Read c r) is known made takes = tt
    climb_makes (climb.Main c main) is known made takes = tt
    climb_makes (climb.Root c l) is known made takes = tt

    copy_makes : (l : CopyLine) → operation.line ≡ line.Copy l → Kn (line.Copy l) → (made : Ref) → next_ref (states t).heap ≡ Some made → Makes (line.Copy l) made
    copy_makes (copy.Empty root main) is known made takes = main_new _ is known _ refl made takes (node_of_line _ is known _ refl)
    copy_makes (copy.Read root r) is known made takes = tt
    copy_makes (copy.Successor root main) is known made takes = tt
    copy_makes (copy.Second root main successor) is known made takes = tt
    copy_makes (copy.Cleared root main branch) is known made takes = tt
    copy_makes (copy.Offer offer) is known made takes = tt
    copy_makes (copy.Complete c) is known made takes = tt

    line_makes : (l : Line) → operation.line ≡ l → Kn l → (made : Ref) → next_ref (states t).heap ≡ Some made → Makes l made
    line_makes (line.Build l) is known made takes = build_makes l is known made takes
    line_makes (line.Renew l) is known made takes = renew_makes l is known made takes
    line_makes (line.Clean l) is known made takes = clean_makes l is known made takes
    line_makes (line.Climb l) is known made takes = climb_makes l is known made takes
    line_makes (line.Copy l) is known made takes = copy_makes l is known made takes
    line_makes (line.Root l) is known made takes = tt
    line_makes (line.Key l) is known made takes = tt
    line_makes (line.Swap why s) is known made takes = tt
    line_makes (line.Walk l) is known made takes = tt
    line_makes (line.End answer) is known made takes = tt
    line_makes line.Impossible is known made takes = tt

    -- ---- then the next line

    pub inner_knows : Knows (IsOwn states last g) (FitsBelow states run.records last t g) (FallsBelow states run.records last t g) (LateBelow states run.records last t was_read g) operation.line →
        Knows (IsOwn states last g) (FitsBelow states run.records last (suc t) g) (FallsBelow states run.records last (suc t) g)
        (LateBelow states run.records last (suc t) now_read g) (line_after (states t) operation operation.line)
    inner_knows knows =
        let known = knows_still (IsOwn states last g) (FitsBelow states run.records last t g) (FallsBelow states run.records last t g)
        (LateBelow states run.records last t was_read g) Fits Falls (LateBelow states run.records last t was_read g)
        (fits_next run t lt g) (falls_next run t lt g) (λ r late. late) operation.line knows in
        own_falls (states t) operation (IsOwn states last g) Fits Falls (LateBelow states run.records last t was_read g)
        (LateBelow states run.records last (suc t) now_read g) S own_step operation.line refl inner known
        (line_finds (states t) (safe_at run t (omega arith)) (suc k) operation runs)
        (action_finds (states t) (safe_at run t (omega arith)) (suc k) operation runs)
        (λ made takes. line_makes operation.line refl known made takes)
