-- An operation that gets its place in a step: past its own commit behind it, or about to answer that its offer was carried out or its handle closed.
use Rattle.std.proofs.Common.{◌≡◌, ℕ, suc, ◌<◌, ◌≤◌, true, false, Option, Some, None, refl, sym, ap, ◌∙◌, subst, arith, inl, inr}
use Rattle.std.proofs.lemmas.Option.{none-some}
use Rattle.proof_order.specs.Vocabulary.{Close, Place, Ref, Operation, Descriptor, Bounds, Outcome, Step, State, operation_of, action_of, line_after, first_line, read_of, operation_after, Moves}
use Rattle.proof_order.specs.Vocabulary.{GoesOn, prev_word, IsRun, closing_for, moment_at, changer_of, entered, entered_by, committed_now, committed_in, changer_for, Purpose}
use Rattle.proof_order.specs.Beneath.history.specs.declared.replies.Reply.TheVariants as reply
use Rattle.proof_order.specs.Beneath.slot_arena.specs.declared.nodes.Prev.TheVariants as prev
use Rattle.proof_order.specs.Beneath.machine_model.specs.declared.actions.Action.TheVariants as act
use Rattle.proof_order.specs.Beneath.machine_model.specs.declared.lines.Line.TheVariants as line
use Rattle.proof_order.specs.Beneath.machine_model.specs.declared.lines.Purpose.TheVariants as purpose
use Rattle.proof_order.specs.Beneath.machine_model.specs.declared.reading.SwapLine.TheVariants as swap
use Rattle.proof_order.specs.Beneath.machine_model.specs.declared.steps.Step.TheVariants as step
use Rattle.proof_order.specs.Beneath.machine_model.proofs.Actors.{mark_one, mark_only, marks_in, marks_by}
use Rattle.proof_generations.proofs.Handles.Running.{place_of_actor}
use Rattle.proof_generations.proofs.Offers.Marks.{marks_mark}
use Rattle.proof_order.specs.Facts.{Runs, committed_of, committed_by_step, CarriesOut, Notes, entered_by_step}
use Rattle.proof_order.proofs.History.Books.{Books, one_by_id}
use Rattle.proof_order.proofs.Offers.Honest.{offerer_of}
use Rattle.proof_order.proofs.Places.Origins.{place_says}
use Rattle.proof_order.proofs.Offers.Known.{Offers, running_below}
use Rattle.proof_order.proofs.Offers.Standing.{offers_at}
use Rattle.proof_order.proofs.History.OneStep.{From, began, kept, stepped, from, gave}
use Rattle.proof_order.proofs.History.Copies.{own_marks}
use Rattle.proof_order.proofs.History.Answering.{carried_marks}
use Rattle.proof_order.specs.Phases.{Phase, past, answers, IsPast, IsPastAt, IsPublished, TellsEffect}
use Rattle.proof_order.proofs.Phases.Entering.{SwapsIn, Owns, Enters, commits, at_end, at_close, carried}
use Rattle.proof_order.proofs.Phases.PastLines.{past_swap}
use Rattle.proof_order.proofs.Phases.PastSteps.{past_marked}
use Rattle.proof_order.proofs.Phases.Steps.{marked_phase}
use Rattle.proof_order.proofs.Phases.Published.{Committed, committed_so, pending_published, run_words}
use Rattle.proof_order.specs.Beneath.history.proofs.Among.{Among}
use Rattle.proof_order.proofs.Phases.Formers.{update_tells}
use Rattle.proof_order.specs.Beneath.proof_commits.proofs.Known.Sounds.{sound_at}
use Rattle.proof_order.specs.Beneath.proof_commits.proofs.Course.Changers.{changers_known, Deciding, in_swap}
use Rattle.proof_order.specs.Beneath.proof_commits.proofs.Known.Acts.{known_run}
use Rattle.proof_order.specs.Beneath.proof_commits.proofs.Lines.Swap.{runs_deciding}

module _ {limits : Bounds} {states : ℕ → State} {last : ℕ} (r : IsRun limits states last) (t : ℕ) (lt : t < last) (s : Step) (o : Outcome) (m : Moves (states t) s o (states (suc t)))
    (notes : Notes states r.records t s) where
  within : t ≤ last
  within = omega (arith, lt)

  offers : Offers (states t) (r.records t)
  offers = offers_at r t within

  books : Books (states t) (r.records t)
  books = offers.books

  -- ---- by its own commit

  -- whose step commits this main node
  record Mover (main : Ref) : Type 0 where
    actor : ℕ
    operation : Operation
    go : s ≡ step.Go actor
    runs : operation_of (states t) actor ≡ Some operation
    now : committed_now (states t) operation ≡ Some main

  mover : (main : Ref) → committed_by_step (states t) s ≡ Some main → Mover main
  mover main e = by s refl e
    where
      found : (actor : ℕ) → s ≡ step.Go actor → (x : Option Operation) → operation_of (states t) actor ≡ x → committed_of (states t) x ≡ Some main → Mover main
      found actor go None is e = absurd (none-some main e)
      found actor go (Some operation) is e = record { actor = actor; operation = operation; go = go; runs = is; now = e }

      by : (x : Step) → s ≡ x → committed_by_step (states t) x ≡ Some main → Mover main
      by (step.Begin actor call number) is e = absurd (none-some main e)
      by (step.Go actor) is e = found actor is (operation_of (states t) actor) refl e
      by step.Sweep is e = absurd (none-some main e)
      by (step.GiveUp actor) is e = absurd (none-some main e)

  pub committed : (main : Ref) → committed_by_step (states t) s ≡ Some main → Committed r t main
  committed main e =
      let it = mover main e in
      committed_so r t it.actor it.operation o main lt (subst (λ x. Moves (states t) x o (states (suc t))) it.go m) it.runs it.now

  -- whose change of its key it is enters
  places_of : (k : ℕ) (owner : Operation) → Runs (states t) k owner → (d : Deciding owner) → changer_of (r.records t) d.fresh ≡ changer_for owner d.why →
      committed_by_step (states t) s ≡ Some d.fresh → (p : Place) → Among p (entered_by (r.records t) (states t).steps (changer_for owner d.why)) → Owns (states t) (r.records t) s p
  places_of k owner runs d changer says p = by d.why d.is changer
    where
      by : (why : Purpose) → owner.line ≡ line.Swap why (in_swap d.indirection d.replaced d.fresh d.at) → changer_of (r.records t) d.fresh ≡ changer_for owner why →
          Among p (entered_by (r.records t) (states t).steps (changer_for owner why)) → Owns (states t) (r.records t) s p
      by (purpose.Update path former) at changer (inl is) = record {
        main = d.fresh;
        commits = says;
        k = k;
        owner = owner;
        runs = runs;
        swaps = record { path = path; former = former; its = in_swap d.indirection d.replaced d.fresh d.at; at = at; fresh = refl };
        changer = changer;
        is_it = is;
      }
      by (purpose.Update path former) at changer (inr none) = absurd none
      by (purpose.Renew path) at changer none = absurd none
      by purpose.Clean at changer none = absurd none
      by (purpose.Climb c) at changer none = absurd none

  -- whose places a commit brings
  pub owns : (p : Place) → Among p (entered_by_step (r.records t) (states t) s) → Owns (states t) (r.records t) s p
  owns p a = by (committed_by_step (states t) s) refl a
    where
      by : (c : Option Ref) → committed_by_step (states t) s ≡ c → Among p (entered (r.records t) (states t).steps c) → Owns (states t) (r.records t) s p
      by None is none = absurd none
      by (Some main) is a =
          let c = committed main is in
          let o = (sound_at (run_words r) t within).owned main c.previous c.was in
          let it = runs_deciding (operation_of (states t) o.actor) o.link c.previous main o.line o.stage in
          let d : Deciding it.operation = record { why = it.swaps.0; indirection = o.link; replaced = c.previous; fresh = main; at = o.line; is = it.swaps.1 } in
          let known = changers_known limits states last (known_run r) t within o.actor it.operation it.is d in
          let (k, actors, runs) = place_of_actor (states t) o.actor it.operation it.is in
          places_of k it.operation runs d known is p (subst (λ x. Among p (entered_by (r.records t) (states t).steps x)) known a)

  -- the owner, swapped in
  module _ (own : Place) (it : Owns (states t) (r.records t) s own) where
    abbrev pub line_so : SwapsIn it.owner.line it.main
    line_so = it.swaps

    pub commit_so : Committed r t it.main
    commit_so = committed it.main it.commits

    pub published : IsPublished line_so.its.line
    published =
        pending_published r t it.k within it.owner it.runs (purpose.Update line_so.path line_so.former) line_so.its line_so.at commit_so.previous
        (ap (prev_word states t) line_so.fresh ∙ commit_so.was)

    none_now : prev_word states (suc t) line_so.its.fresh ≡ prev.None
    none_now = ap (prev_word states (suc t)) line_so.fresh ∙ commit_so.is

    -- its call tells of such a change
    tells : TellsEffect it.owner.call line_so.former
    tells = update_tells r t it.k it.owner line_so.path line_so.former line_so.its within it.runs line_so.at

    -- while it rests
    past_resting : (marks : Option ℕ) → IsPast states (suc t) (mark_one marks it.owner) line_so.former
    past_resting marks =
        past_marked states (suc t) marks it.owner line_so.former
        (subst (IsPastAt states (suc t) it.owner.call line_so.former) (sym line_so.at) (refl, published, none_now), tells)

    -- in its own step
    own_step : s ≡ step.Go (suc it.k) → committed_in (states t) (read_of it.owner.line) ≡ Some it.main
    own_step go = ap (committed_of (states t)) (sym it.runs) ∙ ap (committed_by_step (states t)) (sym go) ∙ it.commits

    deciding : s ≡ step.Go (suc it.k) → line_so.its.line ≡ swap.Check → ⊥
    deciding go check =
        let swaps = line_so.its in
        let none : committed_in (states t) (read_of (line.Swap (purpose.Update line_so.path line_so.former) swaps)) ≡ None =
        ap (λ l. committed_in (states t) (read_of (line.Swap (purpose.Update line_so.path line_so.former) (record swaps { line = l })))) check in
        none-some it.main (sym none ∙ ap (λ l. committed_in (states t) (read_of l)) (sym line_so.at) ∙ own_step go)

    past_going : s ≡ step.Go (suc it.k) → (marks : Option ℕ) → IsPast states (suc t) (mark_one marks (operation_after (states t) it.owner)) line_so.former
    past_going go marks =
        past_marked states (suc t) marks (operation_after (states t) it.owner) line_so.former (
          subst (λ l. IsPastAt states (suc t) it.owner.call line_so.former (line_after (states t) it.owner l)) (sym line_so.at)
              (past_swap states t it.owner line_so.former line_so.path line_so.former refl line_so.its published none_now (λ is. absurd (deciding go is))),
          tells,
        )

    pub past_owner : (k : ℕ) (found : Operation) → found.id ≡ it.owner.id → From (states t) s k found → IsPast states (suc t) found line_so.former
    past_owner k found same (began new) =
        let low = running_below (states t) books it.k it.owner it.runs in
        let count = books.alike.begun_are in
        let its : found.id ≡ (states t).begun = ap (λ (x : Operation). x.id) new.is_it in
        absurd (omega arith)
    past_owner k found same (kept was at_k is other) =
        let its : was.id ≡ it.owner.id = sym (ap (λ (x : Operation). x.id) (is ∙ mark_only (marks_in (states t) s) was)) ∙ same in
        let one = (one_by_id (states t) (r.records t) books k it.k was it.owner at_k it.runs its).1 in
        subst (λ x. IsPast states (suc t) x line_so.former) (sym (is ∙ ap (mark_one (marks_in (states t) s)) one)) (past_resting (marks_in (states t) s))
    past_owner k found same (stepped was at_k go goes is) =
        let marks : Option ℕ = marks_by (states t) (Some was) in
        let its : was.id ≡ it.owner.id = sym (ap (λ (x : Operation). x.id) (is ∙ mark_only marks (operation_after (states t) was))) ∙ same in
        let one = one_by_id (states t) (r.records t) books k it.k was it.owner at_k it.runs its in
        subst (λ x. IsPast states (suc t) x line_so.former) (sym (is ∙ ap (λ x. mark_one marks (operation_after (states t) x)) one.1))
        (past_going (go ∙ ap (λ j. step.Go (suc j)) one.0) marks)
    past_owner k found same (gave was answer at_k go may is) = absurd (none-some it.main (ap (committed_by_step (states t)) (sym go) ∙ it.commits))

  -- ---- by the end of another operation: of none that runs on

  ended_else : (actor : ℕ) (operation : Operation) (answer : _) → s ≡ step.Go actor → operation_of (states t) actor ≡ Some operation → action_of (states t) operation ≡ act.End answer →
      (k : ℕ) (found : Operation) → found.id ≡ operation.id → From (states t) s k found → ⊥
  ended_else actor operation answer go is does k found same from =
      let (j, actors, runs) = place_of_actor (states t) actor operation is in by j actors runs from
    where
      by : (j : ℕ) → actor ≡ suc j → Runs (states t) j operation → From (states t) s k found → ⊥
      by j actors runs (began new) =
          let low = running_below (states t) books j operation runs in
          let count = books.alike.begun_are in
          let its : found.id ≡ (states t).begun = ap (λ (x : Operation). x.id) new.is_it in
          omega arith
      by j actors runs (kept was at_k is_it other) =
          let its : was.id ≡ operation.id = sym (ap (λ (x : Operation). x.id) (is_it ∙ mark_only (marks_in (states t) s) was)) ∙ same in
          let place = (one_by_id (states t) (r.records t) books k j was operation at_k runs its).0 in
          other (go ∙ ap step.Go (actors ∙ ap suc (sym place)))
      by j actors runs (stepped was at_k own goes is_it) =
          let its : was.id ≡ operation.id = sym (ap (λ (x : Operation). x.id) (is_it ∙ mark_only (marks_by (states t) (Some was)) (operation_after (states t) was))) ∙ same in
          let one = (one_by_id (states t) (r.records t) books k j was operation at_k runs its).1 in
          subst (λ x. GoesOn x) (ap (action_of (states t)) one ∙ does) goes
      by j actors runs (gave was answer at_k own may is_it) = let wrong : step.Go actor ≡ step.GiveUp (suc k) = sym go ∙ own in cc wrong

  -- ---- by a close

  closed : (actor handle : ℕ) (number : Option ℕ) → s ≡ step.Begin actor (Close handle) number → (k : ℕ) (found : Operation) → found.id ≡ (states t).begun → From (states t) s k found →
      Phase states (suc t) found
  closed actor handle number go k found same (began new) =
      let calls : step.Begin (suc k) new.call new.number ≡ step.Begin actor (Close handle) number = sym new.is_step ∙ go in
      let call : new.call ≡ Close handle = cc calls in
      answers reply.Closed (ap (λ (x : Operation). x.line) new.is_it ∙ ap first_line call) refl
  closed actor handle number go k found same (kept was at_k is other) =
      let low = running_below (states t) books k was at_k in
      let count = books.alike.begun_are in
      let its : found.id ≡ was.id = ap (λ (x : Operation). x.id) (is ∙ mark_only (marks_in (states t) s) was) in
      absurd (omega arith)
  closed actor handle number go k found same (stepped was at_k own goes is) =
      let low = running_below (states t) books k was at_k in
      let count = books.alike.begun_are in
      let its : found.id ≡ was.id = ap (λ (x : Operation). x.id) (is ∙ mark_only (marks_by (states t) (Some was)) (operation_after (states t) was)) in
      absurd (omega arith)
  closed actor handle number go k found same (gave was answer at_k own may is) = let wrong : step.Begin actor (Close handle) number ≡ step.GiveUp (suc k) = sym go ∙ own in absurd (cc wrong)

  -- ---- by its offer

  marked_now : (handle : ℕ) (offer : Descriptor) → CarriesOut (states t) s handle offer → (k : ℕ) (found : Operation) → found.id ≡ offer.operation → From (states t) s k found →
      found.is_marked ≡ true
  marked_now handle offer c k found same (began new) =
      let st = offerer_of (states t) offers s handle offer c in
      let low = running_below (states t) books st.k st.operation st.runs in
      let count = books.alike.begun_are in
      let its : found.id ≡ (states t).begun = ap (λ (x : Operation). x.id) new.is_it in
      let of_it = st.id in
      absurd (omega arith)
  marked_now handle offer c k found same (kept was at_k is other) =
      let its : was.id ≡ offer.operation = sym (ap (λ (x : Operation). x.id) (is ∙ mark_only (marks_in (states t) s) was)) ∙ same in
      ap (λ (x : Operation). x.is_marked) is ∙ marks_mark (marks_in (states t) s) was (carried_marks (states t) s handle offer c ∙ ap Some (sym its))
  marked_now handle offer c k found same (stepped was at_k go goes is) =
      let marks : Option ℕ = marks_by (states t) (Some was) in
      let next : Operation = operation_after (states t) was in
      let its : next.id ≡ offer.operation = sym (ap (λ (x : Operation). x.id) (is ∙ mark_only marks next)) ∙ same in
      ap (λ (x : Operation). x.is_marked) is
      ∙ marks_mark marks next (sym (own_marks (states t) s k was go at_k) ∙ carried_marks (states t) s handle offer c ∙ ap Some (sym its))
  marked_now handle offer c k found same (gave was answer at_k go may is) =
      let (actor, operation, main, e, is_other, completes, on, out) = c in let wrong : step.Go actor ≡ step.GiveUp (suc k) = sym e ∙ go in absurd (cc wrong)

  -- ---- whichever

  pub new_phase : (p : Place) → Enters (states t) (r.records t) s p → (k : ℕ) (found : Operation) → Runs (states (suc t)) k found → p.id ≡ found.id → From (states t) s k found →
      Phase states (suc t) found
  new_phase p (commits it) k found runs same from =
      let id : p.id ≡ it.owner.id = ap (λ (q : Place). q.id) it.is_it ∙ (place_says (closing_for (r.records t) it.owner.generation it.owner.access) (states t).steps it.owner.id false).2 in
      past (line_so p it).former (past_owner p it k found (sym same ∙ id) from)
  new_phase p (at_end actor operation answer go is does none other its) k found runs same from =
      let id : p.id ≡ operation.id = ap (λ (q : Place). q.id) its ∙ (place_says (closing_for (r.records t) operation.generation operation.access)
      (moment_at (r.records t) actor).moment operation.id true).2 in
      absurd (ended_else actor operation answer go is does k found (sym same ∙ id) from)
  new_phase p (at_close actor handle number go its) k found runs same from = closed actor handle number go k found (sym same ∙ ap (λ (q : Place). q.id) its) from
  new_phase p (carried handle offer c its) k found runs same from =
      marked_phase r (suc t) lt k found runs (marked_now handle offer c k found (sym same ∙ ap (λ (q : Place). q.id) its) from)
