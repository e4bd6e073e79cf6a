-- What an operation on a writable handle finds in its root word with no offer has a generation that wasn't closed before.
use Rattle.std.proofs.Common.{◌≡◌, ℕ, zero, suc, ◌<◌, ◌≤◌, Bool, true, false, inl, inr, Option, Some, None, refl, sym, ap, ◌∙◌, arith}
use Rattle.std.proofs.lemmas.Bool.{true≢false, cases_eq}
use Rattle.std.proofs.lemmas.Option.{none-some, same_Some}
use Rattle.proof_generations.specs.Vocabulary.{Writable, Ref, generation_at, Operation, Plain, Bounds, Step, handle_of, is_close, State, first_state, root_of, word_of, word_at, operation_of}
use Rattle.proof_generations.specs.Vocabulary.{operation_after, turns, noted_turn, IsRun, Turn, closed_at, Record, is_end}
use Rattle.proof_generations.specs.Beneath.machine_model.proofs.Actors.{mark_only, marks_in}
use Rattle.proof_generations.specs.Beneath.machine_model.proofs.Found.{none_found}
use Rattle.proof_generations.specs.Beneath.machine_model.proofs.Times.{at_each_time, steps_at}
use Rattle.proof_generations.specs.Beneath.proof_memory.proofs.Safety.Base.{close_ends, goes_no_end}
use Rattle.proof_generations.proofs.Handles.Running.{Comes, began, rested, went, comes, place_of_actor, gave}
use Rattle.proof_generations.specs.Running.{Runs}
use Rattle.proof_generations.proofs.Offers.Swaps.{StepKind, quiet, swaps, step_kind, closing_of, closed_in, closed_new}
use Rattle.proof_generations.proofs.Roots.Own.{gen}
use Rattle.proof_generations.proofs.Roots.Along.{IsOrdered, ordered_at, closed_stays}

-- ---- a close is at its end

abbrev ClosesEnd : State → Type 0
ClosesEnd state = (k : ℕ) (operation : Operation) → Runs state k operation → is_close operation.call ≡ true → is_end operation.line ≡ true

closes_by : (state : State) (s : Step) → ClosesEnd state → (k : ℕ) (found : Operation) → Comes state s k found → is_close found.call ≡ true → is_end found.line ≡ true
closes_by state s all k found (began call number is d it) e = ap (λ (x : Operation). is_end x.line) it ∙ close_ends call (ap (λ (x : Operation). is_close x.call) (sym it) ∙ e)
closes_by state s all k found (rested was at_k it other_step) e =
    let same = it ∙ mark_only (marks_in state s) was in
    ap (λ (x : Operation). is_end x.line) same ∙ all k was at_k (ap (λ (x : Operation). is_close x.call) (sym same) ∙ e)
closes_by state s all k found (went was is at_k g it) e =
    let same = it ∙ mark_only (marks_in state s) (operation_after state was) in
    absurd (goes_no_end state was was.line g (all k was at_k (ap (λ (x : Operation). is_close x.call) (sym same) ∙ e)))
closes_by state s all k found (gave was answer is at_k may it) e = ap (λ (x : Operation). is_end x.line) it

no_closes : (limits : Bounds) → ClosesEnd (first_state limits)
unfolding first_state
no_closes limits k operation at_k = absurd (none_found limits.actors k operation at_k)

-- an operation that isn't at its end is no close
pub no_close_at : {limits : Bounds} {states : ℕ → State} {last : ℕ} → IsRun limits states last → (t : ℕ) → t ≤ last → (k : ℕ) (operation : Operation) →
    Runs (states t) k operation → is_end operation.line ≡ false →
    is_close operation.call ≡ false
no_close_at {limits} {states} {last} r t within k operation at_k going = by (is_close operation.call) refl
  where
    by : (b : Bool) → is_close operation.call ≡ b → b ≡ false
    by false e = refl
    by true e =
        absurd (true≢false
        (sym (at_each_time r ClosesEnd (no_closes limits)
        (λ before s o after m all j found at_j. closes_by before s all j found (comes before s o after m j found at_j)) t within k operation at_k e) ∙ going))

-- ---- when a generation is closed

-- by a step that is taken then
closed_now : (state : State) (past : Record) (s : Step) (after : State) (now : Record) → StepKind state past s after now → (g c : ℕ) → closed_at past g ≡ None →
    closed_at now g ≡ Some c → c ≡ state.steps
closed_now state past s after now (quiet closings roots) g c none e = absurd (none-some c (sym none ∙ ap (λ l. closed_in l g) (sym closings) ∙ e))
closed_now state past s after now (swaps actor mover offer go is carried closings roots) g c none e =
    sym (closed_new past.closings (closing_of state offer) g c none (ap (λ l. closed_in l g) (sym closings) ∙ e)).1

module _ {limits : Bounds} {states : ℕ → State} {last : ℕ} (r : IsRun limits states last) (t g : ℕ) (open_then : closed_at (r.records t) g ≡ None) where
  closed_by_turn : (u c : ℕ) → t ≤ u → u < last → (turn : Turn (states u) (states (suc u))) → r.records (suc u) ≡ noted_turn turn (r.records u) →
      IsOrdered (states u) (r.records u) → (states u).steps ≡ u → ((d : ℕ) → closed_at (r.records u) g ≡ Some d → t ≤ d) → closed_at (r.records (suc u)) g ≡ Some c → t ≤ c
  closed_by_turn u c le lt (turns s o m) notes I count before e = by (closed_at (r.records u) g) refl
    where
      by : (was : Option ℕ) → closed_at (r.records u) g ≡ was → t ≤ c
      by None is = omega (
        arith,
        le,
        count,
        closed_now (states u) (r.records u) s (states (suc u)) (r.records (suc u))
            (step_kind (states u) I.offers (r.records u) (r.records (suc u)) s o (states (suc u)) m notes) g c is e,
      )
      by (Some d) is = let same : d ≡ c = same_Some _ _ (sym (closed_stays (states u) I.offers (r.records u) (r.records (suc u)) s o (states (suc u)) m notes g d is) ∙ e) in omega
          (arith, before d is, same)

  -- a generation that is open now is closed now or later
  pub closed_from : (u c : ℕ) → u ≤ last → t ≤ u → closed_at (r.records u) g ≡ Some c → t ≤ c
  closed_from zero c within le e = omega arith
  closed_from (suc u) c within le e = elim (cases_eq t (suc u)) [
    | inl same ↦ absurd (none-some c (sym open_then ∙ ap (λ v. closed_at (r.records v) g) same ∙ e))
    | inr earlier ↦
        closed_by_turn u c (omega arith) (omega arith) (r.turn u (omega arith)) (r.recorded u (omega arith)) (ordered_at r u (omega arith))
        (steps_at r u (omega arith))
        (λ d was. closed_from u d (omega arith) (omega arith) was) e
  ]

-- what an operation on a writable handle finds in its root word with no offer wasn't closed before
module _ {limits : Bounds} {states : ℕ → State} {last : ℕ} (run : IsRun limits states last) where
  pub open_root : (t : ℕ) → t ≤ last → (actor : ℕ) (operation : Operation) → operation_of (states t) actor ≡ Some operation → is_end operation.line ≡ false → operation.access ≡ Writable →
      (q : Ref) → word_at (states t) (handle_of operation.call) ≡ Plain q → (c : ℕ) → closed_at (run.records last) (generation_at (states t).heap q) ≡ Some c → t ≤ c
  open_root t within actor operation is going w q word c e =
      let I = ordered_at run t within in
      let (k, place, at_k) = place_of_actor (states t) actor operation is in
      let (root, found, access) = I.handles.on_open k operation at_k (no_close_at run t within k operation at_k going) in
      let its : gen (states t) root ≡ generation_at (states t).heap q = ap (λ x. generation_at (states t).heap (root_of x)) (sym (ap word_of found) ∙ word) in
      closed_from run t (generation_at (states t).heap q)
      (ap (closed_at (run.records t)) (sym its) ∙ I.roots.unclosed (handle_of operation.call) root found (access ∙ w)) last c (omega arith) within e
