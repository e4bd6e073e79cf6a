-- A step that commits an own update: whose it is, that it enters the order alone and hadn't before, and what it answers.
use Rattle.std.proofs.Common.{◌≡◌, ◌≢◌, ℕ, suc, ◌<◌, ◌≤◌, false, inl, inr, List, [], ◌∷◌, Some, refl, sym}
use Rattle.std.proofs.Common.{ap, ◌∙◌, subst, arith}
use Rattle.std.proofs.lemmas.Bool.{cases_Bool}
use Rattle.std.proofs.lemmas.Option.{none-some}
use Rattle.proof_order.specs.Vocabulary.{Place, Operation, Bounds, Outcome, Step, changed_reply, State, operation_after, Moves, prev_word, IsRun, place_of, is_placed, entered, entered_by}
use Rattle.proof_order.specs.Vocabulary.{entrant_of}
use Rattle.proof_order.specs.Beneath.machine_model.specs.declared.copying.CopyLine.TheVariants as copy
use Rattle.proof_order.specs.Beneath.machine_model.specs.declared.lines.Line.TheVariants as line
use Rattle.proof_order.specs.Beneath.machine_model.specs.declared.lines.Purpose.TheVariants as purpose
use Rattle.proof_order.specs.Beneath.machine_model.proofs.Actors.{mark_one, mark_only, marks_in}
use Rattle.proof_order.specs.Beneath.machine_model.proofs.Times.{steps_at}
use Rattle.proof_generations.proofs.Handles.Running.{Follows, rests, steps, ends, follows, gives_up}
use Rattle.proof_order.specs.Facts.{Runs, IsReply, entered_by_step, Notes}
use Rattle.proof_order.specs.Beneath.history.proofs.Among.{Among}
use Rattle.proof_order.proofs.History.OneStep.{from}
use Rattle.proof_order.specs.Phases.{Phase, past, completes, answers, IsPastAt, OwnUpdate, OwnUpdatesEnter}
use Rattle.proof_order.proofs.Phases.Entering.{SwapsIn, Owns}
use Rattle.proof_order.proofs.Phases.NewPlaces.{commit_so, published, past_owner, owns}
use Rattle.proof_order.proofs.Phases.PastAnswers.{past_answers}
use Rattle.proof_order.proofs.Phases.Placed.{placed_phase}
use Rattle.proof_order.proofs.Phases.Standing.{rooted_at}
use Rattle.proof_order.proofs.Phases.Writers.{swaps_writable, swaps_rooted}
use Rattle.proof_order.specs.Beneath.proof_commits.proofs.Lines.Reads.{only_end}
use Rattle.proof_order.specs.Beneath.proof_commits.proofs.Words.Stood.{none≢pending}
use Rattle.proof_order.specs.Facts.{committed_by_step}

-- ---- the step

some_place : (places : List Place) → places ≢ [] → (q : Place) × Among q places
some_place [] other = absurd (other refl)
some_place (q ∷ places) other = (q, inl refl)

module _ {limits : Bounds} {states : ℕ → State} {last : ℕ} (r : IsRun limits states last) (t : ℕ) (lt : t < last) (s : Step) (o : Outcome) (m : Moves (states t) s o (states (suc t)))
    (notes : Notes states r.records t s) (own : Place) (it : Owns (states t) (r.records t) s own) where
  within : t ≤ last
  within = omega (arith, lt)

  -- the owner's SWAP
  abbrev mine : SwapsIn it.owner.line it.main
  mine = it.swaps

  -- it alone enters
  enters : entered_by_step (r.records t) (states t) s ≡ place_of (r.records t) (entrant_of it.owner) t false ∷ []
  enters =
      ap (entered (r.records t) (states t).steps) it.commits ∙ ap (entered_by (r.records t) (states t).steps) it.changer
      ∙ ap (λ n. place_of (r.records t) (entrant_of it.owner) n false ∷ []) (steps_at r t within)

  -- it had no place
  unplaced : is_placed (r.records t) it.owner.id ≡ false
  unplaced = elim (cases_Bool (is_placed (r.records t) it.owner.id)) [
    | inr none ↦ none
    | inl has ↦ absurd (by (placed_phase r t it.k it.owner within it.runs has))
  ]
    where
      by : Phase states t it.owner → ⊥
      by (past former h) =
          let c = commit_so r t lt s o m notes own it in
          let now = subst (IsPastAt states t it.owner.call former) mine.at h.0 in
          none≢pending now.2 (ap (prev_word states t) mine.fresh ∙ c.was)
      by (completes c marked on) =
          let wrong : line.Swap (purpose.Update mine.path mine.former) mine.its ≡ line.Copy (copy.Complete c) = sym mine.at ∙ on in
          cc wrong
      by (answers answer on other) =
          let wrong : line.Swap (purpose.Update mine.path mine.former) mine.its ≡ line.End answer = sym mine.at ∙ on in
          cc wrong

  -- and answers that it made the change
  agrees : IsReply (r.records last).events it.owner.id (changed_reply it.owner.call mine.former)
  agrees = by (follows (states t) s o (states (suc t)) m it.k it.owner it.runs)
    where
      behind : (found : Operation) → Runs (states (suc t)) it.k found → found.id ≡ it.owner.id → found.call ≡ it.owner.call →
          IsReply (r.records last).events it.owner.id (changed_reply it.owner.call mine.former)
      behind found runs same calls =
          let h = past_owner r t lt s o m notes own it it.k found same (from (states t) s o (states (suc t)) m it.k found runs) in
          subst (λ i. IsReply (r.records last).events i (changed_reply it.owner.call mine.former)) same
          (subst (λ c. IsReply (r.records last).events found.id (changed_reply c mine.former)) calls (past_answers r (suc t) it.k found mine.former lt runs h))

      by : Follows (states t) s (states (suc t)) it.k it.owner → IsReply (r.records last).events it.owner.id (changed_reply it.owner.call mine.former)
      by (rests other runs) =
          let same = mark_only (marks_in (states t) s) it.owner in
          behind (mark_one (marks_in (states t) s) it.owner) runs (ap (λ (x : Operation). x.id) same) (ap (λ (x : Operation). x.call) same)
      by (steps go goes runs) =
          let same = mark_only (marks_in (states t) s) (operation_after (states t) it.owner) in
          behind (mark_one (marks_in (states t) s) (operation_after (states t) it.owner)) runs (ap (λ (x : Operation). x.id) same) (ap (λ (x : Operation). x.call) same)
      by (ends answer go does) =
          let wrong : line.Swap (purpose.Update mine.path mine.former) mine.its ≡ line.End answer = sym mine.at ∙ only_end (states t) it.owner it.owner.line answer does in
          absurd (cc wrong)
      by (gives_up answer go may runs) = absurd (none-some it.main (ap (committed_by_step (states t)) (sym go) ∙ it.commits))

  pub own_update : OwnUpdate states r.records last t s
  own_update =
      let writable = swaps_writable r t it.k it.owner (purpose.Update mine.path mine.former) mine.its within it.runs mine.at in
      let (generation, of_it) = swaps_rooted r t it.k it.owner (purpose.Update mine.path mine.former) mine.its within it.runs mine.at in
      record {
        k = it.k;
        owner = it.owner;
        runs = it.runs;
        path = mine.path;
        former = mine.former;
        its = mine.its;
        at = mine.at;
        published = published r t lt s o m notes own it;
        commits = it.commits ∙ ap Some (sym mine.fresh);
        enters = enters;
        unplaced = unplaced;
        writable = writable;
        generation = generation;
        of_generation = of_it;
        rooted = rooted_at r t it.k it.owner generation within it.runs writable of_it;
        agrees = agrees;
      }

pub own_updates_enter : {limits : Bounds} {states : ℕ → State} {last : ℕ} (r : IsRun limits states last) → OwnUpdatesEnter states r.records last
own_updates_enter {limits} {states} {last} r t s o lt m notes some =
    let (q, a) = some_place (entered_by_step (r.records t) (states t) s) some in own_update r t lt s o m notes q (owns r t lt s o m notes q a)
