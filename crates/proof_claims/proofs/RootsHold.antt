-- The roots that an operation has made for an offer have claims on what they name, after every list of steps, until the offer is carried out or taken back.
use Rattle.std.proofs.Common.{cond, ◌≡◌, ℕ, suc, Bool, true, false, List, [], ◌∷◌, ◌++◌, Some, Ok, Err, refl, sym, ap, subst, ◌∙◌}
use Rattle.std.proofs.lemmas.Bool.{true≢false}
use Rattle.std.proofs.lemmas.Option.{none-some}
use Rattle.proof_claims.specs.Beneath.slot_arena.specs.declared.nodes.Node.TheVariants.{Indirection}
use Rattle.proof_claims.specs.Beneath.slot_arena.specs.declared.refs.Ref.{Ref}
use Rattle.proof_claims.specs.Beneath.slot_arena.specs.Heaps.{next_ref}
use Rattle.proof_claims.specs.Beneath.machine_model.specs.declared.actions.Action.TheVariants as act
use Rattle.proof_claims.specs.Beneath.machine_model.specs.declared.operations.Operation.{Operation}
use Rattle.proof_claims.specs.Beneath.machine_model.specs.declared.steps.Bounds.{Bounds}
use Rattle.proof_claims.specs.Beneath.machine_model.specs.declared.steps.Outcome.{Outcome}
use Rattle.proof_claims.specs.Beneath.machine_model.specs.declared.steps.Step.{Step}
use Rattle.proof_claims.specs.Beneath.machine_model.specs.declared.steps.Step.TheVariants as step
use Rattle.proof_claims.specs.Beneath.machine_model.specs.Acting.{mark_after, operation_after}
use Rattle.proof_claims.specs.Beneath.machine_model.specs.Keys.{KeysFit}
use Rattle.proof_claims.specs.Beneath.machine_model.specs.Machine.{Answer, AreBounds, is_taken_step, next, run, run_from, state_after}
use Rattle.proof_claims.specs.Beneath.machine_model.specs.Moves.{Moves, MovesIfTaken}
use Rattle.proof_claims.specs.Beneath.machine_model.specs.Operations.{action_of, line_action, line_after}
use Rattle.proof_claims.specs.Beneath.machine_model.specs.States.{State, first_state, operation_of}
use Rattle.proof_claims.specs.Beneath.machine_model.proofs.Actors.{mark_only, marks_in}
use Rattle.proof_claims.specs.Beneath.machine_model.proofs.Along.{by_last, run_push}
use Rattle.proof_claims.specs.Beneath.machine_model.proofs.Fates.{Comes as CameFrom, began, comes as comes_from, gave, rested, went}
use Rattle.proof_claims.specs.Beneath.machine_model.proofs.Found.{none_found}
use Rattle.proof_claims.specs.Beneath.machine_model.proofs.Moves.{moves}
use Rattle.proof_claims.specs.Beneath.proof_generations.proofs.Offers.Marks.{complete_mark, is_completing, unmarked_before}
use Rattle.proof_claims.specs.Beneath.proof_generations.proofs.Roots.Kept.{FreshFrom, fresh_from, fresh_in, fresh_link, had, new}
use Rattle.proof_claims.specs.Beneath.proof_generations.proofs.Roots.OfLists.{has_handles_along}
use Rattle.proof_claims.specs.Beneath.proof_generations.proofs.Roots.Own.{first_none}
use Rattle.proof_claims.specs.Beneath.proof_memory.proofs.Claims.Uses.{meets_of, safe_of}
use Rattle.proof_claims.specs.Beneath.proof_memory.proofs.Safety.AtEachTime.{safe_along}
use Rattle.proof_claims.specs.Beneath.proof_memory.proofs.Safety.AtTimes.{line_finds}
use Rattle.proof_claims.specs.Beneath.proof_memory.specs.Laws.{IsInUse}
use Rattle.proof_claims.specs.Beneath.proof_memory.specs.Wants.{AnIndirection, Holds, Is}
use Rattle.proof_claims.specs.Changes.{change_of}
use Rattle.proof_claims.specs.Claims.{held_of}
use Rattle.proof_claims.specs.Held.{Held, held_after}
use Rattle.proof_claims.proofs.Along.{held_push}
use Rattle.proof_claims.proofs.ChangeKinds.{a_root}
use Rattle.proof_claims.proofs.ClaimsDiffer.{claims_fit, keys_before}
use Rattle.proof_claims.proofs.PrivatesHold.{private_new, privates_hold}
use Rattle.proof_claims.proofs.OfferedRoots.{RootHolds, RootsHold, its_own, others, root_still}

-- ---- a step

module _ (limits : Bounds) (ok : AreBounds limits) (xs : List Step) (keys : KeysFit xs) (s : Step) (o : Outcome) (m : Moves (run limits xs) s o (run limits (xs ++ s ∷ [])))
    (taken : next (run limits xs) s ≡ Ok (o, run limits (xs ++ s ∷ []))) (h : RootsHold (run limits xs) (held_of limits xs)) where
  abbrev state : State
  state = run limits xs

  abbrev after : State
  after = run limits (xs ++ s ∷ [])

  abbrev held : Held
  held = held_of limits xs

  abbrev later : Held
  later = held_after (change_of state held s) held

  module _ (k : ℕ) (found : Operation) (runs_now : operation_of after (suc k) ≡ Some found) (x : Bool) (q : Ref) (its_now : fresh_in x found.line ≡ Some q) where
    link_then : Holds (IsInUse after.heap) after.heap (Is q AnIndirection)
    link_then = fresh_link (IsInUse after.heap) after found found.line (line_finds after (safe_along limits ok (xs ++ s ∷ [])) (suc k) found runs_now) x q its_now

    -- it is just made
    just_made : (was : Operation) → s ≡ step.Go (suc k) → operation_of state (suc k) ≡ Some was → found.line ≡ line_after state was was.line → (main : Ref) → action_of state was ≡ act.MakeRoot main →
        next_ref state.heap ≡ Some q → RootHolds after later q
    just_made was is at_k line_is main acts drawn =
        let p = private_new limits ok xs s o m taken (claims_fit limits ok xs keys) (privates_hold limits ok xs keys) k was found is at_k line_is (Indirection state.generations main)
        (act.MakeRoot main) acts
        (a_root main refl) q drawn in
        record {
          names = p.names;
          holds = p.holds (λ why w on same. none-some q (sym (ap (fresh_in x) on) ∙ its_now));
          over = p.over (meets_of link_then);
        }

    by_came : found.is_marked ≡ false → CameFrom state s k found → RootHolds after later q
    by_came free (began call number is denial it) = absurd (first_none call x q (sym (ap (λ (z : Operation). fresh_in x z.line) it) ∙ its_now))
    by_came free (gave was answer is at_k may it) = absurd (none-some q (sym (ap (λ (z : Operation). fresh_in x z.line) it) ∙ its_now))
    by_came free (rested was at_k it other) =
        let its = sym (ap (λ (z : Operation). fresh_in x z.line) (it ∙ mark_only (marks_in state s) was)) ∙ its_now in
        let unmarked = unmarked_before (marks_in state s) was (ap (λ (z : Operation). z.is_marked) (sym it) ∙ free) in
        root_still limits ok xs s o m k was at_k unmarked x q its (others other) (h k was at_k unmarked x q its) (safe_of link_then)
    by_came free (went was is at_k g it) =
        by (fresh_from state was was.line x q still)
      where
        line_is : found.line ≡ line_after state was was.line
        line_is = ap (λ (z : Operation). z.line) (it ∙ mark_only (marks_in state s) (operation_after state was))

        still : fresh_in x (line_after state was was.line) ≡ Some q
        still = sym (ap (fresh_in x) line_is) ∙ its_now

        -- an offer takes the mark away: it had none when it began
        unmarked : fresh_in x was.line ≡ Some q → was.is_marked ≡ false
        unmarked its = by was.is_marked refl
          where
            by : (b : Bool) → was.is_marked ≡ b → b ≡ false
            by false e = refl
            by true e =
                let (c, on) = is_completing was.line ((has_handles_along limits xs).1.done k was at_k e) state was g in
                let kept_mark : (operation_after state was).is_marked ≡ true = ap (λ l. mark_after was.is_marked (line_action state was l)) on ∙ complete_mark was.is_marked c ∙ e in
                absurd (true≢false (sym kept_mark ∙ unmarked_before (marks_in state s) (operation_after state was) (ap (λ (z : Operation). z.is_marked) (sym it) ∙ free)))

        by : FreshFrom state was was.line x q → RootHolds after later q
        by (had its) = root_still limits ok xs s o m k was at_k (unmarked its) x q its (its_own is still) (h k was at_k (unmarked its) x q its) (safe_of link_then)
        by (new main acts drawn side) = just_made was is at_k line_is main acts drawn

  pub roots_then : RootsHold after later
  roots_then k found runs_now free x q its_now = by_came k found runs_now x q its_now free (comes_from state s o after m k found runs_now)

-- ---- after every list of steps

module _ (limits : Bounds) (ok : AreBounds limits) where
  abbrev Hold : List Step → Type 0
  Hold xs = RootsHold (run limits xs) (held_of limits xs)

  none_runs : (k : ℕ) (operation : Operation) → operation_of (run limits []) (suc k) ≡ Some operation → ⊥
  unfolding first_state run_from
  none_runs k operation e = none_found limits.actors k operation e

  by_answer : (xs : List Step) (s : Step) → KeysFit xs → Hold xs → (a : Answer) → next (run limits xs) s ≡ a → MovesIfTaken (run limits xs) s a →
      RootsHold (run limits (xs ++ s ∷ [])) (cond (is_taken_step a) (held_after (change_of (run limits xs) (held_of limits xs) s) (held_of limits xs)) (held_of limits xs))
  by_answer xs s keys h (Ok done) e mv =
      let is : done.1 ≡ run limits (xs ++ s ∷ []) = sym (run_push (first_state limits) xs s ∙ ap (state_after (run limits xs)) e) in
      roots_then limits ok xs keys s done.0 (subst (λ (z : State). Moves (run limits xs) s done.0 z) is mv) (e ∙ ap (λ (z : State). Ok (done.0, z)) is) h
  by_answer xs s keys h (Err refusal) e mv =
      subst (λ (z : State). RootsHold z (held_of limits xs)) (sym (run_push (first_state limits) xs s ∙ ap (state_after (run limits xs)) e)) h

  pub roots_hold : (xs : List Step) → KeysFit xs → Hold xs
  roots_hold xs keys =
      by_last (λ xs. KeysFit xs → Hold xs) (λ keys k operation runs free x q its. absurd (none_runs k operation runs))
      (λ xs s h keys.
      let fit = keys_before xs (s ∷ []) keys in
      subst (λ held. RootsHold (run limits (xs ++ s ∷ [])) held) (sym (held_push limits xs s))
      (by_answer xs s fit (h fit) (next (run limits xs) s) refl (moves (run limits xs) s))) xs keys
