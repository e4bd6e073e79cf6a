-- When a running COMPLETE began and when its READ counts from: it read its offer's root after the offer was known.
use Rattle.std.proofs.Common.{◌≡◌, ℕ, suc, ◌<◌, ◌≤◌, ◌⊎◌, inl, inr, Some, None, refl, sym, ap, ◌∙◌, subst, arith}
use Rattle.std.proofs.lemmas.Option.{none-some, same_Some}
use Rattle.proof_order.specs.Vocabulary.{Call, Ref, Line, Operation, After, Gives, ReadLine, Complete, CompleteLine, Descriptor, Bounds, Outcome, Step, handle_of, State, word_at, operation_of}
use Rattle.proof_order.specs.Vocabulary.{read_after, complete_after, after_reading, of_offer, action_of, first_line, gone, operation_after, settled, Begins, Ends, Sweeps, GivesUp, Moves, GoesOn}
use Rattle.proof_order.specs.Vocabulary.{IsRun, Moment, moment_at, noted_progress, noted, progress_of, told_in, Runs, Words, counts_at, Reads, stage_of, stage_of_complete, IsMoment, words_of}
use Rattle.proof_order.specs.Beneath.machine_model.specs.declared.copying.CopyLine.TheVariants as copy
use Rattle.proof_order.specs.Beneath.machine_model.specs.declared.lines.Line.TheVariants as line
use Rattle.proof_order.specs.Beneath.machine_model.specs.declared.reading.After.TheVariants.{Goes as Continues}
use Rattle.proof_order.specs.Beneath.machine_model.specs.declared.reading.ReadLine.TheVariants as read
use Rattle.proof_order.specs.Beneath.machine_model.specs.declared.repairs.ClimbLine.TheVariants as climb
use Rattle.proof_order.specs.Beneath.machine_model.specs.declared.roots.CompleteLine.TheVariants as complete
use Rattle.proof_order.specs.Beneath.machine_model.specs.declared.roots.RootLine.TheVariants as root
use Rattle.proof_order.specs.Beneath.machine_model.specs.declared.steps.Step.TheVariants as step
use Rattle.proof_order.specs.Beneath.machine_model.specs.Moves.{Goes}
use Rattle.proof_order.specs.Beneath.machine_model.proofs.Actors.{mark_only, marks_in}
use Rattle.proof_order.specs.Beneath.proof_commits.proofs.Course.Moments.{found, counted, moment_noted}
use Rattle.proof_order.specs.Beneath.proof_commits.proofs.Known.Acts.{known_run}
use Rattle.proof_generations.proofs.Handles.Running.{Comes, began, rested, went, comes, gave}
use Rattle.proof_generations.proofs.Lines.Offers.{completing_of}
use Rattle.proof_generations.proofs.Offers.Same.{IsKnown}
use Rattle.proof_generations.proofs.Roots.Along.{ordered_at}
use Rattle.proof_order.proofs.Openings.AlongMoves.{along_moves}
use Rattle.proof_generations.proofs.Lines.Completes.{CompletesFrom, goes_on, finds_offer, has_offered, completes_after}
use Rattle.proof_order.specs.Beneath.machine_model.proofs.Alike.{moment_goes, moment_rests, alike, go_actor, not_denied}
use Rattle.proof_order.specs.Beneath.machine_model.proofs.Notes.{noted_going}
use Rattle.proof_order.specs.Facts.{Notes}

-- ---- a line in a COMPLETE

completing_stage : (l : Line) (c : Complete) → completing_of l ≡ Some c → stage_of l ≡ stage_of_complete c.offer c.line
completing_stage (line.Root (root.Completing d)) c e = ap (λ (x : Complete). stage_of_complete x.offer x.line) (same_Some d c e)
completing_stage (line.Climb (climb.Root b (root.Completing d))) c e = ap (λ (x : Complete). stage_of_complete x.offer x.line) (same_Some d c e)
completing_stage (line.Copy (copy.Complete d)) c e = ap (λ (x : Complete). stage_of_complete x.offer x.line) (same_Some d c e)
completing_stage l c e = absurd (grind arith)

first_none : (call : Call) → completing_of (first_line call) ≡ None
first_none call = grind arith

-- the step of an operation that goes on
went_so : (before : State) (s : Step) (o : Outcome) (after : State) → Moves before s o after → (k : ℕ) (was : Operation) → s ≡ step.Go (suc k) → Runs before k was → GoesOn (action_of before was) →
    Moves before (step.Go (suc k)) o after × (after ≡ settled before (gone before (suc k) was))
went_so before s o after (Begins d) k was e at_k g = let wrong : ⊥ = cc e in absurd wrong
went_so before s o after (Goes {actor} {operation} d is a g') k was e at_k g =
    let place : actor ≡ suc k = cc e in
    let one : operation ≡ was = same_Some _ _ (sym is ∙ ap (operation_of before) place ∙ at_k) in
    (subst (λ x. Moves before x o after) e (Goes d is a g'), ap (λ n. settled before (gone before n operation)) place ∙ ap (λ x. settled before (gone before (suc k) x)) one)
went_so before s o after (Ends {actor} {operation} {answer} d is a) k was e at_k g =
    let place : actor ≡ suc k = cc e in
    let one : operation ≡ was = same_Some _ _ (sym is ∙ ap (operation_of before) place ∙ at_k) in
    absurd (subst GoesOn (ap (action_of before) (sym one) ∙ a) g)
went_so before s o after (GivesUp d is a) k was e at_k g = let wrong : ⊥ = cc e in absurd wrong
went_so before s o after (Sweeps spent) k was e at_k g = let wrong : ⊥ = cc e in absurd wrong

-- whence a READ counts after a step of it
counts_from : (l : ReadLine) (since t read_at : ℕ) → since ≤ t → (l ≡ read.Main) ⊎ (since ≤ read_at) → since ≤ counts_at l t read_at
counts_from read.Main since t read_at le h = le
counts_from (read.Restore m p) since t read_at le h = le
counts_from (read.Prev m) since t read_at le (inr h) = h
counts_from (read.AskRoot m p) since t read_at le (inr h) = h
counts_from (read.Abort m p offer) since t read_at le (inr h) = h
counts_from (read.Decide m p told) since t read_at le (inr h) = h
counts_from l since t read_at le (inl e) = let wrong : ⊥ = cc e in absurd wrong

module _ {limits : Bounds} {states : ℕ → State} {last : ℕ} (run : IsRun limits states last) where
  -- the words of the run, with no closing told
  abbrev pub w : Words
  w = words_of states run.records last (λ g. None)

  -- a COMPLETE that counts from a time on: at its first line, in its READ, or with what that gave
  abbrev pub CountsSince : ℕ → ℕ → Moment → Descriptor → CompleteLine → Type 0
  CountsSince t since n offer (complete.Reading l) = (l ≡ read.Main) ⊎ (since ≤ n.read_at)
  CountsSince t since n offer (complete.Swap main) = (since ≤ n.read_at) × ((v : ℕ) × (v < t) × IsMoment w offer.root main n.read_at n.moment v)

  pub record Since (t k : ℕ) (c : Complete) : Type 0 where
    pub at : ℕ
    pub past : at ≤ t
    pub known : IsKnown (states at) c.offer
    pub counts : CountsSince t at (moment_at (run.records t) (suc k)) c.offer c.line

  abbrev AllSince : ℕ → Type 0
  AllSince t = (k : ℕ) (operation : Operation) (c : Complete) → Runs (states t) k operation → completing_of operation.line ≡ Some c → Since t k c

  counts_later : (t since : ℕ) (was found : Moment) → found ≡ was → (offer : Descriptor) (l : CompleteLine) → CountsSince t since was offer l → CountsSince (suc t) since found offer l
  counts_later t since was found same offer (complete.Reading l) counts = subst (λ n. CountsSince (suc t) since n offer (complete.Reading l)) (sym same) counts
  counts_later t since was found same offer (complete.Swap main) (le, (v, before, is)) =
      subst (λ n. CountsSince (suc t) since n offer (complete.Swap main)) (sym same) (le, (v, omega arith, is))

  module _ (t : ℕ) (within : t < last) (so_far : AllSince t) (s : Step) (o : Outcome) (m : Moves (states t) s o (states (suc t))) (notes : Notes states run.records t s) where
    -- what was known of an actor's READs, and what is
    abbrev before_of : ℕ → Moment
    before_of k = moment_at (run.records t) (suc k)

    abbrev now_of : ℕ → Moment
    now_of k = moment_at (run.records (suc t)) (suc k)

    -- a step of its READ
    module _ (k : ℕ) (was : Operation) (go : s ≡ step.Go (suc k)) (at_k : Runs (states t) k was) (g : GoesOn (action_of (states t) was)) where
      moved : Moves (states t) (step.Go (suc k)) o (states (suc t))
      moved = (went_so (states t) s o (states (suc t)) m k was go at_k g).0

      noted_go : run.records (suc t) ≡ noted_progress (run.records t) (states t).steps (suc k) (progress_of (states t) was)
      noted_go =
          notes ∙ ap (λ x. noted (run.records t) (states t).steps (told_in (states t) x)) go
          ∙ noted_going (states t) (run.records t) (suc k) was (action_of (states t) was) at_k refl g

      module _ (offer : Descriptor) (l : ReadLine) (is : completing_of was.line ≡ Some (record { offer = offer; line = complete.Reading l })) where
        abbrev on : stage_of was.line ≡ Reads offer.root l
        on = completing_stage was.line (record { offer = offer; line = complete.Reading l }) is

        abbrev its : Moment
        its = found limits states last (known_run run) t within (suc k) was o moved at_k noted_go offer.root l on

        now_is : now_of k ≡ its
        now_is =
            ap (λ r. moment_at r (suc k)) noted_go
            ∙ moment_goes (states t) (run.records t) (suc k) was (alike run t (omega arith)) (go_actor (states t) (suc k) (not_denied moved))

        read_by : (since : ℕ) → since ≤ t → (l ≡ read.Main) ⊎ (since ≤ (before_of k).read_at) → since ≤ its.read_at
        read_by since le h =
            let counts : its.read_at ≡ counts_at l t (before_of k).read_at = counted limits states last (known_run run) t within (suc k) was o moved at_k noted_go offer.root l on in
            omega (arith, counts_from l since t (before_of k).read_at le h, counts)

        -- what comes after it
        goes_by : (since : ℕ) → since ≤ t → (l ≡ read.Main) ⊎ (since ≤ (before_of k).read_at) →
            (out : After ReadLine Ref) → read_after (states t).heap was.access (word_at (states t) (handle_of was.call)) offer.root l ≡ out → (c : Complete) →
            of_offer offer (after_reading out) ≡ Continues c → (c.offer ≡ offer) × CountsSince (suc t) since (now_of k) c.offer c.line
        goes_by since le h (Continues x) gives c e =
            let same : record { offer = offer; line = complete.Reading x } ≡ c = cc e in
            let counts : since ≤ (now_of k).read_at = subst (λ (n : Moment). since ≤ n.read_at) (sym now_is) (read_by since le h) in
            (ap (λ (y : Complete). y.offer) (sym same), subst (λ (y : Complete). CountsSince (suc t) since (now_of k) y.offer y.line) same (inr counts))
        goes_by since le h (Gives main) gives c e =
            let same : record { offer = offer; line = complete.Swap main } ≡ c = cc e in
            let moment = moment_noted limits states last (known_run run) t within (suc k) was o moved at_k noted_go offer.root l on main gives in
            let counts : CountsSince (suc t) since its offer (complete.Swap main) = (read_by since le h, (t, omega arith, moment)) in (
              ap (λ (y : Complete). y.offer) (sym same),
              subst (λ (y : Complete). CountsSince (suc t) since (now_of k) y.offer y.line) same
                  (subst (λ n. CountsSince (suc t) since n offer (complete.Swap main)) (sym now_is) counts),
            )

      on_by : (d c : Complete) → completing_of was.line ≡ Some d → complete_after (states t).heap was.access (word_at (states t) (handle_of was.call)) d
          ≡ Continues c → (l : CompleteLine) → d.line ≡ l →
          Since (suc t) k c
      on_by d c is e (complete.Reading l) at_line =
          let so = so_far k was d at_k is in
          let all : record { offer = d.offer; line = complete.Reading l } ≡ d = ap (λ y. record { offer = d.offer; line = y }) (sym at_line) in
          let kept = goes_by d.offer l (is ∙ ap Some (sym all)) so.at so.past (subst (λ y. CountsSince t so.at (before_of k) d.offer y) at_line so.counts)
          (read_after (states t).heap was.access (word_at (states t) (handle_of was.call)) d.offer.root l) refl c
          (ap (complete_after (states t).heap was.access (word_at (states t) (handle_of was.call))) all ∙ e) in
          record { at = so.at; past = omega (arith, so.past); known = subst (λ y. IsKnown (states so.at) y) (sym kept.0) so.known; counts = kept.1 }
      on_by d c is e (complete.Swap main) at_line =
          let swaps = ap (λ y. complete_after (states t).heap was.access (word_at (states t) (handle_of was.call)) (record d { line = y })) (sym at_line) ∙ e in
          let wrong : ⊥ = cc swaps in
          absurd wrong

    same_complete : (k : ℕ) (c : Complete) → now_of k ≡ before_of k → Since t k c → Since (suc t) k c
    same_complete k c same so =
        record { at = so.at; past = omega (arith, so.past); known = so.known; counts = counts_later t so.at (before_of k) (now_of k) same c.offer c.line so.counts }

    begins : (k : ℕ) (found : Operation) (c : Complete) → Runs (states (suc t)) k found → completing_of found.line ≡ Some c → c.line ≡ complete.Reading read.Main → Since (suc t) k c
    begins k found c now e first = record {
      at = suc t;
      past = omega arith;
      known = (ordered_at run (suc t) within).offers.known k found now c.offer (inr (c, e, refl));
      counts = subst (λ l. CountsSince (suc t) (suc t) (now_of k) c.offer l) (sym first) (inl refl);
    }

    went_by : (k : ℕ) (found was : Operation) (c : Complete) → Runs (states (suc t)) k found → completing_of found.line ≡ Some c → s ≡ step.Go (suc k) →
        Runs (states t) k was → GoesOn (action_of (states t) was) → CompletesFrom (states t) was was.line c → Since (suc t) k c
    went_by k found was c now e go at_k g (goes_on before is goes) = on_by k was go at_k g before c is goes before.line refl
    went_by k found was c now e go at_k g (finds_offer word first) = begins k found c now e first
    went_by k found was c now e go at_k g (has_offered offers first) = begins k found c now e first

    since_by : (k : ℕ) (found : Operation) (c : Complete) → Runs (states (suc t)) k found → completing_of found.line ≡ Some c → Comes (states t) s k found → Since (suc t) k c
    since_by k found c now e (began call number is d it) = absurd (none-some c (sym (first_none call) ∙ ap (λ (x : Operation). completing_of x.line) (sym it) ∙ e))
    since_by k found c now e (rested was at_k it other_step) =
        let same = it ∙ mark_only (marks_in (states t) s) was in
        same_complete k c (ap (λ r. moment_at r (suc k)) notes ∙ moment_rests (states t) (run.records t) s o (states (suc t)) m k other_step)
        (so_far k was c at_k (ap (λ (x : Operation). completing_of x.line) (sym same) ∙ e))
    since_by k found c now e (went was go at_k g it) =
        let same = it ∙ mark_only (marks_in (states t) s) (operation_after (states t) was) in
        went_by k found was c now e go at_k g (completes_after (states t) was was.line c (ap (λ (x : Operation). completing_of x.line) (sym same) ∙ e))
    since_by k found c now e (gave was answer go at_k may it) = absurd (none-some c (ap (λ (x : Operation). completing_of x.line) (sym it) ∙ e))

    all_next : AllSince (suc t)
    all_next k found c now e = since_by k found c now e (comes (states t) s o (states (suc t)) m k found now)

  pub since_at : (t : ℕ) → t ≤ last → AllSince t
  since_at = along_moves run AllSince (λ none k operation c at_k. absurd (none k operation at_k)) all_next
