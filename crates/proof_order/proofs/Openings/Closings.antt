-- Each closing is of another generation, and is a root swap.
use Rattle.std.proofs.Common.{◌≡◌, ℕ, zero, suc, ◌<◌, ◌≤◌, ◌==◌, Bool, true, false, cond, ◌⊎◌, inl, inr, List, [], ◌∷◌, ◌++◌, length, find, Option, Some, None, refl, sym, ap, ◌∙◌}
use Rattle.std.proofs.Common.{subst, arith, eq-eqb}
use Rattle.std.specs.Prelude.{slice_get}
use Rattle.std.proofs.lemmas.Bool.{true≢false}
use Rattle.std.proofs.lemmas.Option.{none-some, same_Some}
use Rattle.proof_order.specs.Vocabulary.{Closing, Operation, Descriptor, Bounds, Outcome, Step, handle_of, State, root_of, operation_of, action_of, AreBounds, run, generation_at, Moves, turns}
use Rattle.proof_order.specs.Vocabulary.{noted_turn, IsRun, Turn, closed_at, step_of, Record, first_record, record_of, noted, told_in}
use Rattle.proof_order.specs.Beneath.machine_model.proofs.Times.{steps_at}
use Rattle.proof_order.specs.Beneath.proof_memory.proofs.Safety.AtEachTime.{safe_along}
use Rattle.proof_order.specs.Beneath.proof_memory.proofs.Safety.States.{IsSafe}
use Rattle.proof_generations.proofs.Handles.Footings.{ActionCarriesOut}
use Rattle.proof_generations.proofs.Roots.Along.{IsOrdered, ordered_at, ordered_along, closed_stays}
use Rattle.proof_generations.proofs.Offers.Swaps.{StepKind, quiet, swaps, step_kind, closing_of, closed_in, closed_new}
use Rattle.proof_order.specs.Openings.{IsSwap}
use Rattle.proof_order.specs.Laws.Openings.{ClosingsDifferIn}
use Rattle.proof_order.proofs.Openings.OneRoot.{old}
use Rattle.proof_order.specs.Facts.{Notes}
use Rattle.proof_order.specs.Beneath.machine_model.proofs.Recorded.{along_with}

-- ---- closings differ

not_among_by : (xs : List Closing) (x : Closing) (generation : ℕ) (b : Bool) → (x.generation == generation) ≡ b → step_of (cond b (Some x) (find (λ c. c.generation == generation) xs)) ≡ None →
    (b ≡ false) × (closed_in xs generation ≡ None)
not_among_by xs x generation true is e = absurd (none-some x.step (sym e))
not_among_by xs x generation false is e = (refl, e)

-- what isn't closed has no closing
not_among : (xs : List Closing) (generation : ℕ) → closed_in xs generation ≡ None → (n : ℕ) (c : Closing) → slice_get xs n ≡ Some c → c.generation ≡ generation → ⊥
not_among [] generation none n c e same = none-some c e
not_among (x ∷ xs) generation none zero c e same =
    let b = not_among_by xs x generation (x.generation == generation) refl none in
    true≢false (sym (eq-eqb x.generation generation (ap (λ (y : Closing). y.generation) (same_Some x c e) ∙ same)) ∙ b.0)
not_among (x ∷ xs) generation none (suc n) c e same = not_among xs generation (not_among_by xs x generation (x.generation == generation) refl none).1 n c e same

-- one more at the end
at_end : (xs : List Closing) (new : Closing) (n : ℕ) (c : Closing) → slice_get (xs ++ new ∷ []) n ≡ Some c → (slice_get xs n ≡ Some c) ⊎ ((n ≡ length xs) × (c ≡ new))
at_end [] new zero c e = inr (refl, sym (same_Some new c e))
at_end [] new (suc n) c e = absurd (none-some c e)
at_end (x ∷ xs) new zero c e = inl e
at_end (x ∷ xs) new (suc n) c e = elim (at_end xs new n c e) [
  | inl there ↦ inl there
  | inr end ↦ inr (ap suc end.0, end.1)
]

differ_push : (past now : Record) (new : Closing) → now.closings ≡ past.closings ++ new ∷ [] → closed_in past.closings new.generation ≡ None → ClosingsDifferIn past → ClosingsDifferIn now
differ_push past now new is none so_far m n a b e f same =
    by (at_end past.closings new m a (ap (λ l. slice_get l m) (sym is) ∙ e)) (at_end past.closings new n b (ap (λ l. slice_get l n) (sym is) ∙ f))
  where
    by : (slice_get past.closings m ≡ Some a) ⊎ ((m ≡ length past.closings) × (a ≡ new)) → (slice_get past.closings n ≡ Some b) ⊎ ((n ≡ length past.closings) × (b ≡ new)) → m ≡ n
    by (inl x) (inl y) = so_far m n a b x y same
    by (inl x) (inr y) = absurd (not_among past.closings new.generation none m a x (same ∙ ap (λ (c : Closing). c.generation) y.1))
    by (inr x) (inl y) = absurd (not_among past.closings new.generation none n b y (sym same ∙ ap (λ (c : Closing). c.generation) x.1))
    by (inr x) (inr y) = x.0 ∙ sym y.0

-- the generation that a swap closes is open
module _ (state : State) (past now : Record) (S : IsSafe state) (I : IsOrdered state past) (s : Step) (o : Outcome) (after : State) (m : Moves state s o after)
    (notes : now ≡ noted past state.steps (told_in state s)) where
  open_before : (actor : ℕ) (mover : Operation) (offer : Descriptor) → operation_of state actor ≡ Some mover → ActionCarriesOut state (handle_of mover.call) (action_of state mover) offer →
      closed_at past (generation_at state.heap offer.root) ≡ None
  open_before actor mover offer is c =
      let b = old state past S I s o after m actor mover offer is c in
      ap (closed_at past) (ap (λ w. generation_at state.heap (root_of w)) (sym b.word)) ∙ I.roots.unclosed (handle_of mover.call) b.root b.is_open b.writable

  differ_by : ClosingsDifferIn past → StepKind state past s after now → ClosingsDifferIn now
  differ_by so_far (quiet closings roots) = λ i j a b e f same. so_far i j a b (ap (λ l. slice_get l i) (sym closings) ∙ e) (ap (λ l. slice_get l j) (sym closings) ∙ f) same
  differ_by so_far (swaps actor mover offer go is c closings roots) = differ_push past now (closing_of state offer) closings (open_before actor mover offer is c) so_far

  differ_after : ClosingsDifferIn past → ClosingsDifferIn now
  differ_after so_far = differ_by so_far (step_kind state I.offers past now s o after m notes)

differ_at_first : (limits : Bounds) → ClosingsDifferIn (first_record limits)
differ_at_first limits m n a b e f same = absurd (none-some a e)

pub closings_differ : (limits : Bounds) → AreBounds limits → (steps : List Step) → ClosingsDifferIn (record_of limits steps)
closings_differ limits ok steps =
    along_with limits (λ state past. ClosingsDifferIn past) (differ_at_first limits)
    (λ before s o after m h.
    differ_after (run limits before) (record_of limits before) _ (safe_along limits ok before) (ordered_along limits ok before) s o after m refl h) steps

-- ---- a closing is a root swap

-- step t carries an offer out over a root of this generation
pub record ClosesSo (states : ℕ → State) (records : ℕ → Record) (last t generation : ℕ) : Type 0 where
  pub handle : ℕ
  pub offer : Descriptor
  pub swap : IsSwap states records last t handle offer
  pub its : generation_at (states t).heap offer.root ≡ generation

module _ {limits : Bounds} {states : ℕ → State} {last : ℕ} (r : IsRun limits states last) where
  closed_by : (t generation c : ℕ) → t < last → (s : Step) (o : Outcome) → Moves (states t) s o (states (suc t)) → Notes states r.records t s → closed_at (r.records t) generation ≡ None →
      closed_at (r.records (suc t)) generation ≡ Some c →
      StepKind (states t) (r.records t) s (states (suc t)) (r.records (suc t)) → (c ≡ t) × ClosesSo states r.records last t generation
  closed_by t generation c within s o m notes none e (quiet closings roots) = absurd (none-some c (sym none ∙ ap (λ l. closed_in l generation) (sym closings) ∙ e))
  closed_by t generation c within s o m notes none e (swaps actor mover offer go is d closings roots) =
      let new = closed_new (r.records t).closings (closing_of (states t) offer) generation c none (ap (λ l. closed_in l generation) (sym closings) ∙ e) in (
        sym new.1 ∙ steps_at r t (omega arith),
        record {
          handle = handle_of mover.call;
          offer = offer;
          swap = record { taken = within; step = s; outcome = o; moves = m; notes = notes; carries = (actor, mover, d.main, go, is, d.is_it, refl, d.carried) };
          its = new.0;
        },
      )

  pub closing_swaps : (t generation c : ℕ) → t ≤ last → closed_at (r.records t) generation ≡ Some c → (c < t) × ClosesSo states r.records last c generation
  closing_swaps zero generation c within e = absurd (none-some c (ap (λ q. closed_at q generation) (sym r.nothing_recorded) ∙ e))
  closing_swaps (suc t) generation c within e = by_turn (closing_swaps t generation c (omega arith)) (r.turn t within) (r.recorded t within)
    where
      by : (closed_at (r.records t) generation ≡ Some c → (c < t) × ClosesSo states r.records last c generation) → (s : Step) (o : Outcome) →
          Moves (states t) s o (states (suc t)) → Notes states r.records t s →
          (was : Option ℕ) → closed_at (r.records t) generation ≡ was → (c < suc t) × ClosesSo states r.records last c generation
      by before s o m notes None is =
          let now = closed_by t generation c within s o m notes is e (step_kind (states t) (ordered_at r t (omega arith)).offers (r.records t)
          (r.records (suc t)) s o (states (suc t)) m notes) in
          (omega (arith, now.0), subst (λ n. ClosesSo states r.records last n generation) (sym now.0) now.1)
      by before s o m notes (Some d) is =
          let same : d ≡ c = same_Some d c
          (sym (closed_stays (states t) (ordered_at r t (omega arith)).offers (r.records t) (r.records (suc t)) s o (states (suc t)) m notes generation d is) ∙ e) in
          let (earlier, so) = before (is ∙ ap Some same) in
          (omega arith, so)

      by_turn : (closed_at (r.records t) generation ≡ Some c → (c < t) × ClosesSo states r.records last c generation) →
          (turn : Turn (states t) (states (suc t))) → r.records (suc t) ≡ noted_turn turn (r.records t) → (c < suc t) × ClosesSo states r.records last c generation
      by_turn before (turns s o m) notes = by before s o m notes (closed_at (r.records t) generation) refl
