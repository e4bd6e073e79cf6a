-- Who has swapped a main node in is in its SWAP still after more steps, or has looked how it was decided.
use Rattle.std.proofs.Common.{◌≡◌, ◌⊎◌, inl, inr, ℕ, suc, true, List, [], ◌∷◌, ◌++◌, Some, refl, sym, ap, subst, ◌∙◌, length, length-append, append_assoc, append-nil, arith}
use Rattle.std.proofs.lemmas.Option.{same_Some}
use Rattle.proof_claims.specs.Beneath.slot_arena.specs.declared.refs.Ref.{Ref}
use Rattle.proof_claims.specs.Beneath.history.specs.declared.calls.Call.{Call}
use Rattle.proof_claims.specs.Beneath.history.specs.declared.replies.Reply.{Reply}
use Rattle.proof_claims.specs.Beneath.machine_model.specs.declared.actions.Action.TheVariants as act
use Rattle.proof_claims.specs.Beneath.machine_model.specs.declared.lines.Line.TheVariants as line
use Rattle.proof_claims.specs.Beneath.machine_model.specs.declared.lines.Purpose.{Purpose}
use Rattle.proof_claims.specs.Beneath.machine_model.specs.declared.operations.Operation.{Operation}
use Rattle.proof_claims.specs.Beneath.machine_model.specs.declared.reading.After.{After}
use Rattle.proof_claims.specs.Beneath.machine_model.specs.declared.reading.After.TheVariants.{Gives, Goes}
use Rattle.proof_claims.specs.Beneath.machine_model.specs.declared.reading.ReadLine.{ReadLine}
use Rattle.proof_claims.specs.Beneath.machine_model.specs.declared.reading.Swap.{Swap}
use Rattle.proof_claims.specs.Beneath.machine_model.specs.declared.reading.SwapLine.{SwapLine}
use Rattle.proof_claims.specs.Beneath.machine_model.specs.declared.reading.SwapLine.TheVariants as swap
use Rattle.proof_claims.specs.Beneath.machine_model.specs.declared.steps.Bounds.{Bounds}
use Rattle.proof_claims.specs.Beneath.machine_model.specs.declared.steps.Outcome.{Outcome}
use Rattle.proof_claims.specs.Beneath.machine_model.specs.declared.steps.Step.{Step}
use Rattle.proof_claims.specs.Beneath.machine_model.specs.declared.steps.Step.TheVariants as step
use Rattle.proof_claims.specs.Beneath.machine_model.specs.Acting.{operation_after}
use Rattle.proof_claims.specs.Beneath.machine_model.specs.Calls.{handle_of}
use Rattle.proof_claims.specs.Beneath.machine_model.specs.GivingUp.{given_up, swap_given_up}
use Rattle.proof_claims.specs.Beneath.machine_model.specs.Machine.{is_taken_step, next, next_state, run}
use Rattle.proof_claims.specs.Beneath.machine_model.specs.Moves.{Moves}
use Rattle.proof_claims.specs.Beneath.machine_model.specs.Operations.{after_swap, line_action, line_after}
use Rattle.proof_claims.specs.Beneath.machine_model.specs.Reading.{read_after}
use Rattle.proof_claims.specs.Beneath.machine_model.specs.States.{State, first_state, operation_of, word_at}
use Rattle.proof_claims.specs.Beneath.machine_model.specs.Swapping.{action_at, after_deciding, on_line}
use Rattle.proof_claims.specs.Beneath.machine_model.proofs.Actors.{mark_one, mark_only, marks_in}
use Rattle.proof_claims.specs.Beneath.machine_model.proofs.Along.{by_last, kept_by_moves, run_push}
use Rattle.proof_claims.specs.Beneath.machine_model.proofs.Fates.{Follows, ends, follows, gives_up, place_of_actor, rests, steps}
use Rattle.proof_claims.specs.Beneath.proof_shape.proofs.Runs.RunOf.{comes_to}

abbrev pub swap_at : Ref → Ref → Ref → SwapLine → Swap
swap_at i a f l = record { indirection = i; replaced = a; fresh = f; line = l }

-- its fresh node was swapped in
abbrev pub IsIn : SwapLine → Type 0
IsIn swap.Publish = ⊥
IsIn l = Unit {0}

-- the operation of this actor is in the SWAP, past the line that swaps in
pub record IsSwapping (state : State) (actor : ℕ) (i a f : Ref) : Type 0 where
  pub operation : Operation
  pub runs : operation_of state actor ≡ Some operation
  pub why : Purpose
  pub at : SwapLine
  pub is_in : IsIn at
  pub on : operation.line ≡ line.Swap why (swap_at i a f at)

-- it was at the last line of it after these steps, and takes that step then
pub record Looks (limits : Bounds) (before : List Step) (actor : ℕ) (i a f : Ref) : Type 0 where
  pub operation : Operation
  pub runs : operation_of (run limits before) actor ≡ Some operation
  pub why : Purpose
  pub on : operation.line ≡ line.Swap why (swap_at i a f swap.Check)
  pub taken : is_taken_step (next (run limits before) (step.Go actor)) ≡ true

-- it did so after some of the steps since
pub record HasLooked (limits : Bounds) (before since : List Step) (actor : ℕ) (i a f : Ref) : Type 0 where
  pub middle : List Step
  pub rest : List Step
  pub goes_on : since ≡ (middle ++ step.Go actor ∷ []) ++ rest
  pub looks : Looks limits (before ++ middle) actor i a f

-- ---- one step

-- who decides goes on, or comes to look
decides_on : (state : State) (operation : Operation) (why : Purpose) (i a f : Ref) (l : ReadLine) →
    (n : SwapLine) × IsIn n × (line_after state operation (line.Swap why (swap_at i a f (swap.Deciding l))) ≡ line.Swap why (swap_at i a f n))
decides_on state operation why i a f l = by (read_after state.heap operation.access (word_at state (handle_of operation.call)) i l) refl
  where
    by : (out : After ReadLine Ref) → read_after state.heap operation.access (word_at state (handle_of operation.call)) i l ≡ out →
        (n : SwapLine) × IsIn n × (line_after state operation (line.Swap why (swap_at i a f (swap.Deciding l))) ≡ line.Swap why (swap_at i a f n))
    by (Goes next) e = (swap.Deciding next, tt, ap (λ x. after_swap state operation why (swap_at i a f (swap.Deciding l)) (on_line (swap_at i a f (swap.Deciding l)) (after_deciding x))) e)
    by (Gives m) e = (swap.Check, tt, ap (λ x. after_swap state operation why (swap_at i a f (swap.Deciding l)) (on_line (swap_at i a f (swap.Deciding l)) (after_deciding x))) e)

no_end : (i a f : Ref) (l : SwapLine) (answer : Reply) → action_at i a f l ≡ act.End answer → ⊥
no_end i a f swap.Publish answer e = cc e
no_end i a f (swap.Deciding l) answer e = grind arith
no_end i a f swap.Check answer e = cc e

no_giving_up : (call : Call) (why : Purpose) (l : SwapLine) (answer : Reply) → IsIn l → swap_given_up call why l ≡ Some answer → ⊥
no_giving_up call why swap.Publish answer is e = is
no_giving_up call why (swap.Deciding l) answer is e = grind arith
no_giving_up call why swap.Check answer is e = grind arith

module _ (limits : Bounds) (before : List Step) (actor : ℕ) (i a f : Ref) where
  abbrev Then : List Step → Type 0
  Then since = IsSwapping (run limits (before ++ since)) actor i a f ⊎ HasLooked limits before since actor i a f

  module _ (xs : List Step) (s : Step) (h : IsSwapping (run limits (before ++ xs)) actor i a f) where
    abbrev state : State
    state = run limits (before ++ xs)

    abbrev Now : State → Type 0
    Now after = IsSwapping after actor i a f ⊎ HasLooked limits before (xs ++ s ∷ []) actor i a f

    module _ (o : Outcome) (after : State) (m : Moves (run limits (before ++ xs)) s o after) where
      own_step : (k : ℕ) → actor ≡ suc k → s ≡ step.Go (suc k) → operation_of after (suc k) ≡ Some (mark_one (marks_in state s) (operation_after state h.operation)) → (l : SwapLine) → IsIn l →
          h.operation.line ≡ line.Swap h.why (swap_at i a f l) → Now after
      own_step k place is runs_now swap.Publish is_in on = absurd is_in
      own_step k place is runs_now (swap.Deciding l) is_in on =
          let (n, in_now, next_is) = decides_on state h.operation h.why i a f l in
          inl (record {
            operation = mark_one (marks_in state s) (operation_after state h.operation);
            runs = ap (operation_of after) place ∙ runs_now;
            why = h.why;
            at = n;
            is_in = in_now;
            on = ap (λ (x : Operation). x.line) (mark_only (marks_in state s) (operation_after state h.operation)) ∙ ap (line_after state h.operation) on ∙ next_is;
          })
      own_step k place is runs_now swap.Check is_in on =
          let go : s ≡ step.Go actor = is ∙ ap step.Go (sym place) in
          inr (record {
            middle = xs;
            rest = [];
            goes_on = ap (λ x. xs ++ x ∷ []) go ∙ sym (append-nil (xs ++ step.Go actor ∷ []));
            looks = record {
              operation = h.operation;
              runs = h.runs;
              why = h.why;
              on = on;
              taken = ap (λ x. is_taken_step (next state x)) (sym go) ∙ ap is_taken_step (comes_to state s o after m);
            };
          })

      by_fate : (k : ℕ) → actor ≡ suc k → Follows state s after k h.operation → Now after
      by_fate k place (rests other at_k) =
          inl (record {
            operation = mark_one (marks_in state s) h.operation;
            runs = ap (operation_of after) place ∙ at_k;
            why = h.why;
            at = h.at;
            is_in = h.is_in;
            on = ap (λ (x : Operation). x.line) (mark_only (marks_in state s) h.operation) ∙ h.on;
          })
      by_fate k place (steps is goes at_k) = own_step k place is at_k h.at h.is_in h.on
      by_fate k place (ends answer is e) = absurd (no_end i a f h.at answer (ap (line_action state h.operation) (sym h.on) ∙ e))
      by_fate k place (gives_up answer is e at_k) = absurd (no_giving_up h.operation.call h.why h.at answer h.is_in (ap (given_up h.operation.call) (sym h.on) ∙ e))

      pub moved : Now after
      moved = let (k, place, at_k) = place_of_actor state actor h.operation h.runs in by_fate k place (follows state s o after m k h.operation at_k)

    pub one_more : Then (xs ++ s ∷ [])
    one_more =
        let is : run limits (before ++ (xs ++ s ∷ [])) ≡ next_state state s = ap (run limits) (sym (append_assoc before xs (s ∷ []))) ∙ run_push (first_state limits) (before ++ xs) s in
        subst Now (sym is) (kept_by_moves Now state s (inl h) (λ o after m. moved o after m))

  longer : (xs : List Step) (s : Step) → Then xs → Then (xs ++ s ∷ [])
  longer xs s (inl h) = one_more xs s h
  longer xs s (inr h) =
      inr (record {
        middle = h.middle;
        rest = h.rest ++ s ∷ [];
        goes_on = ap (λ ys. ys ++ s ∷ []) h.goes_on ∙ append_assoc (h.middle ++ step.Go actor ∷ []) h.rest (s ∷ []);
        looks = h.looks;
      })

  -- after more steps it is there still, or has looked
  pub swaps_on : IsSwapping (run limits before) actor i a f → (since : List Step) → Then since
  swaps_on h = by_last Then (inl (subst (λ xs. IsSwapping (run limits xs) actor i a f) (sym (append-nil before)) h)) longer

-- who decides has not looked by the next step
none_before : (middle rest : List Step) (s g : Step) → s ∷ [] ≡ (middle ++ g ∷ []) ++ rest → middle ≡ []
none_before [] rest s g e = refl
none_before (x ∷ xs) rest s g e = absurd (omega (arith, ap length e, length-append (xs ++ g ∷ []) rest, length-append xs (g ∷ [])))

pub decides_later : (limits : Bounds) (before : List Step) (actor : ℕ) (i a f : Ref) (h : IsSwapping (run limits before) actor i a f) (l : ReadLine) → h.at ≡ swap.Deciding l → (s : Step) →
    IsSwapping (run limits (before ++ s ∷ [])) actor i a f
decides_later limits before actor i a f h l is s = elim (swaps_on limits before actor i a f h (s ∷ [])) [
  | inl still ↦ still
  | inr looked ↦
      let none = none_before looked.middle looked.rest s (step.Go actor) looked.goes_on in
      let then = ap (λ ms. operation_of (run limits (before ++ ms)) actor) none ∙ ap (λ xs. operation_of (run limits xs) actor) (append-nil before) in
      let one : looked.looks.operation ≡ h.operation = same_Some looked.looks.operation h.operation (sym looked.looks.runs ∙ then ∙ h.runs) in
      let both : line.Swap h.why (swap_at i a f (swap.Deciding l)) ≡ line.Swap looked.looks.why (swap_at i a f swap.Check) =
      ap (λ x. line.Swap h.why (swap_at i a f x)) (sym is) ∙ sym h.on ∙ ap (λ (x : Operation). x.line) (sym one) ∙ looked.looks.on in
      let swaps : swap_at i a f (swap.Deciding l) ≡ swap_at i a f swap.Check = cc both in
      let lines : swap.Deciding l ≡ swap.Check = ap (λ (x : Swap). x.line) swaps in
      let bad : ⊥ = cc lines in absurd bad
]
