-- What has its place: an operation whose offer was carried out, and one whose own change of its key is committed.
use Rattle.std.proofs.Common.{◌≡◌, ℕ, suc, ◌≤◌, true, false, ◌∷◌, ◌++◌, ◌⊎◌, inl, inr, Some, refl, sym, ap, subst, ◌∙◌, []}
use Rattle.std.proofs.lemmas.Bool.{false≢true}
use Rattle.proof_updates.specs.Vocabulary.{Ref, on_time, Operation, Descriptor, Bounds, Outcome, Step, handle_of, State, word_at, is_carried_out, action_of, Moves, GoesOn, turns, noted_turn, IsRun}
use Rattle.proof_updates.specs.Vocabulary.{Turn, is_placed, Record, noted, noted_progress, placed_by, entered, committed_now, told_in, progress_of, carried_by, generation_at, operation_after, Notes}
use Rattle.proof_updates.specs.Beneath.machine_model.specs.declared.actions.Action.TheVariants as act
use Rattle.proof_updates.specs.Beneath.machine_model.proofs.Actors.{mark_only, marks_in, marks_by}
use Rattle.proof_updates.specs.Beneath.machine_model.proofs.Times.{along_run}
use Rattle.proof_order.specs.Facts.{Runs}
use Rattle.proof_updates.specs.Beneath.history.proofs.Among.{Among, among_right}
use Rattle.proof_order.proofs.Views.Changes.{carries_some}
use Rattle.proof_order.proofs.Offers.Standing.{marks_says, nobody}
use Rattle.proof_order.proofs.History.OneStep.{From, began, kept, stepped, from, gave}
use Rattle.proof_order.proofs.History.Copies.{own_marks, marked_or, marked_before}
use Rattle.proof_order.proofs.Phases.Steps.{is_placed_so}
use Rattle.proof_order.proofs.Phases.Closers.{still_placed}
use Rattle.proof_updates.specs.Beneath.machine_model.proofs.Notes.{noted_going}

-- ---- a place stays

-- ---- marks

-- ---- by its offer

-- the operation whose offer a step carries out
pub carried_placed : (state : State) (past : Record) (actor : ℕ) (operation : Operation) (offer : Descriptor) (main : Ref) → action_of state operation ≡ act.Complete offer main →
    is_carried_out (word_at state (handle_of operation.call)) offer main ≡ true → is_placed (noted_progress past state.steps actor (progress_of state operation)) offer.operation ≡ true
carried_placed state past actor operation offer main does carried =
    let told : carried_by state (handle_of operation.call) (action_of state operation) ≡ Some (record { generation = generation_at state.heap offer.root; operation = offer.operation }) =
    ap (carried_by state (handle_of operation.call)) does ∙ carries_some state (handle_of operation.call) offer main carried in
    is_placed_so (noted_progress past state.steps actor (progress_of state operation)) (on_time state.steps false offer.operation)
    (subst (λ c. Among (on_time state.steps false offer.operation) ((past.places ++ entered past state.steps (committed_now state operation)) ++ placed_by state.steps c)) (sym told)
    (among_right (past.places ++ entered past state.steps (committed_now state operation)) (on_time state.steps false offer.operation ∷ []) _ (inl refl)))
    offer.operation refl

module _ {limits : Bounds} {states : ℕ → State} {last : ℕ} (run : IsRun limits states last) where
  -- who is marked by a step gets a place in it
  pub marks_place : (t : ℕ) → (s : Step) (o : Outcome) → Moves (states t) s o (states (suc t)) → Notes states run.records t s → (id : ℕ) → marks_in (states t) s ≡ Some id →
      is_placed (run.records (suc t)) id ≡ true
  marks_place t s o m notes id e =
      let it = marks_says (states t) s id e in
      let goes : GoesOn (action_of (states t) it.operation) = subst (λ a. GoesOn a) (sym it.does) tt in
      let now = notes ∙ ap (λ x. noted (run.records t) (states t).steps (told_in (states t) x)) it.is_step
      ∙ noted_going (states t) (run.records t) (suc it.k) it.operation (action_of (states t) it.operation) it.runs refl goes in
      subst (λ q. is_placed q id ≡ true) (sym now)
      (subst (λ n. is_placed (noted_progress (run.records t) (states t).steps (suc it.k) (progress_of (states t) it.operation)) n ≡ true) it.marks
      (carried_placed (states t) (run.records t) (suc it.k) it.operation it.offer it.main it.does it.carried))

  -- a place stays
  pub still : (t : ℕ) (s : Step) (o : Outcome) → Moves (states t) s o (states (suc t)) → Notes states run.records t s → (id : ℕ) → is_placed (run.records t) id ≡ true →
      is_placed (run.records (suc t)) id ≡ true
  still t s o m notes id is = subst (λ q. is_placed q id ≡ true) (sym notes) (still_placed (states t) (run.records t) s o (states (suc t)) m id is)

  MarkedPlaced : ℕ → Type 0
  MarkedPlaced t = (k : ℕ) (operation : Operation) → Runs (states t) k operation → operation.is_marked ≡ true → is_placed (run.records t) operation.id ≡ true

  marked_by : (t : ℕ) (s : Step) (o : Outcome) → Moves (states t) s o (states (suc t)) → Notes states run.records t s → MarkedPlaced t → (k : ℕ) (found : Operation) →
      From (states t) s k found → found.is_marked ≡ true →
      is_placed (run.records (suc t)) found.id ≡ true
  unfolding MarkedPlaced
  marked_by t s o m notes all k found (began new) e = absurd (false≢true (ap (λ (x : Operation). x.is_marked) (sym new.is_it) ∙ e))
  marked_by t s o m notes all k found (kept was at_k is other) e = by_mark (marked_or (marks_in (states t) s) was (ap (λ (x : Operation). x.is_marked) (sym is) ∙ e))
    where
      id_is : found.id ≡ was.id
      id_is = ap (λ (x : Operation). x.id) (is ∙ mark_only (marks_in (states t) s) was)

      by_mark : (was.is_marked ≡ true) ⊎ (marks_in (states t) s ≡ Some was.id) → is_placed (run.records (suc t)) found.id ≡ true
      by_mark (inl marked) = ap (is_placed (run.records (suc t))) id_is ∙ still t s o m notes was.id (all k was at_k marked)
      by_mark (inr now) = ap (is_placed (run.records (suc t))) id_is ∙ marks_place t s o m notes was.id now
  marked_by t s o m notes all k found (stepped was at_k is_step goes is) e =
      by_mark (marked_or (marks_by (states t) (Some was)) (operation_after (states t) was) (ap (λ (x : Operation). x.is_marked) (sym is) ∙ e))
    where
      id_is : found.id ≡ was.id
      id_is = ap (λ (x : Operation). x.id) (is ∙ mark_only (marks_by (states t) (Some was)) (operation_after (states t) was))

      by_mark : ((operation_after (states t) was).is_marked ≡ true) ⊎ (marks_by (states t) (Some was) ≡ Some was.id) → is_placed (run.records (suc t)) found.id ≡ true
      by_mark (inl marked) =
          ap (is_placed (run.records (suc t))) id_is ∙ still t s o m notes was.id (all k was at_k (marked_before was.is_marked (action_of (states t) was) marked))
      by_mark (inr now) = ap (is_placed (run.records (suc t))) id_is ∙ marks_place t s o m notes was.id (own_marks (states t) s k was is_step at_k ∙ now)
  marked_by t s o m notes all k found (gave was answer at_k is_step may is) e =
      ap (is_placed (run.records (suc t))) (ap (λ (x : Operation). x.id) is) ∙ still t s o m notes was.id (all k was at_k (ap (λ (x : Operation). x.is_marked) (sym is) ∙ e))

  -- a marked operation has its place
  pub marked_placed : (t : ℕ) → t ≤ last → (k : ℕ) (operation : Operation) → Runs (states t) k operation → operation.is_marked ≡ true → is_placed (run.records t) operation.id ≡ true
  unfolding MarkedPlaced
  marked_placed =
      along_run run MarkedPlaced (λ k operation at_k. absurd (nobody limits k operation (subst (λ q. Runs q k operation) run.first at_k)))
      (λ t lt turn all. by_turn t (run.turn t lt) (run.recorded t lt) all)
    where
      by_turn : (t : ℕ) → (turn : Turn (states t) (states (suc t))) → run.records (suc t) ≡ noted_turn turn (run.records t) → MarkedPlaced t → MarkedPlaced (suc t)
      by_turn t (turns s o m) notes all k found at_k = marked_by t s o m notes all k found (from (states t) s o (states (suc t)) m k found at_k)
