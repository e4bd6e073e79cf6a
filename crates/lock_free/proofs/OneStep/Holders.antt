-- Nodes that hold references are in use: where nothing is freed they are so for ever.
use Rattle.std.proofs.Common.{cond, ◌≡◌, inl, inr, List, [], ◌∷◌, ◌++◌, Ok, Err, refl, sym, ap, subst, ◌∙◌, arith}
use Rattle.machine_model.specs.Beneath.slot_arena.specs.declared.refs.Ref.{Ref}
use Rattle.machine_model.specs.Beneath.slot_arena.specs.Refs.{ref_to}
use Rattle.machine_model.specs.declared.actions.Action.TheVariants as act
use Rattle.machine_model.specs.declared.steps.Bounds.{Bounds}
use Rattle.machine_model.specs.declared.steps.Outcome.{Outcome}
use Rattle.machine_model.specs.declared.steps.Step.{Step}
use Rattle.machine_model.specs.Machine.{Answer, AreBounds, is_taken_step, next, run, run_from, state_after}
use Rattle.machine_model.specs.Moves.{Moves, MovesIfTaken}
use Rattle.machine_model.specs.States.{State, first_state}
use Rattle.machine_model.proofs.Along.{by_last, run_push}
use Rattle.machine_model.proofs.Moves.{moves}
use Rattle.proof_claims.specs.Changes.{change_of}
use Rattle.proof_claims.specs.Claims.{Has, held_from, held_of}
use Rattle.proof_claims.specs.Held.{Claim, Held, Holder, OfHandle, OfNode, held_after}
use Rattle.proof_claims.proofs.Acted as acted
use Rattle.proof_claims.proofs.Along.{held_push}
use Rattle.proof_claims.proofs.Differing.{in_cons, nothing_in}
use Rattle.proof_claims.proofs.FirstClaims.{root_used}
use Rattle.proof_claims.proofs.NewClaims.{Comes, came, first, frozen, made, moved, published, second, stood}
use Rattle.proof_memory.specs.Laws.{IsInUse}
use Rattle.proof_waiting.specs.Beneath.proof_slots.specs.Unswept.{HasNoSweeps}
use Rattle.proof_waiting.specs.Beneath.proof_slots.proofs.Unswept.Kept.{nothing_is_freed}
use Rattle.proof_waiting.specs.Beneath.proof_slots.proofs.Unswept.Shrinking.{unswept_behind}
use Rattle.lock_free.proofs.Reclaimable.{quiet_first}

abbrev IsUsedHolder : State → Holder → Type 0
IsUsedHolder state (OfHandle handle) = Unit {0}
IsUsedHolder state (OfNode j) = IsInUse state.heap j

abbrev AreUsed : State → Held → Type 0
AreUsed state held = (by : Holder) (on : Ref) → Has held by on → IsUsedHolder state by

module _ (limits : Bounds) (ok : AreBounds limits) where
  abbrev root : Ref
  root = ref_to 2 1

  abbrev branch : Ref
  branch = ref_to 1 0

  first_used : AreUsed (run limits []) (held_of limits [])
  unfolding run_from held_from
  first_used by on c = elim (in_cons (record { by = OfHandle 0; on = root }) (record { by = OfNode root; on = branch } ∷ []) (record { by = by; on = on }) c) [
    | inl same ↦ subst (λ (z : Claim). IsUsedHolder (first_state limits) z.by) same tt
    | inr rest ↦ elim (in_cons (record { by = OfNode root; on = branch }) [] (record { by = by; on = on }) rest) [
      | inl same ↦ subst (λ (z : Claim). IsUsedHolder (first_state limits) z.by) same (root_used limits ok)
      | inr none ↦ nothing_in _ none
    ]
  ]

  -- ---- after a step

  module _ (xs : List Step) (s : Step) (quiet : HasNoSweeps (xs ++ s ∷ [])) (o : Outcome) (m : Moves (run limits xs) s o (run limits (xs ++ s ∷ [])))
      (h : AreUsed (run limits xs) (held_of limits xs)) where
    abbrev state : State
    state = run limits xs

    abbrev after : State
    after = run limits (xs ++ s ∷ [])

    still : (r : Ref) → IsInUse state.heap r → IsInUse after.heap r
    still r used = let x = nothing_is_freed limits xs (s ∷ []) r used.0 ok (unswept_behind xs (s ∷ []) quiet) used.1 in (x.0, x.1)

    holder_still : (by : Holder) → IsUsedHolder state by → IsUsedHolder after by
    holder_still (OfHandle handle) used = tt
    holder_still (OfNode j) used = still j used

    used_then : (by : Holder) (on : Ref) → Comes state (held_of limits xs) s (change_of state (held_of limits xs) s) by on → IsUsedHolder after by
    used_then by on (stood has same) = holder_still by (h by on has)
    used_then by on (moved i f p told a commits own is had names) =
        subst (IsUsedHolder after) (sym is) (still f (acted.wanted_used limits ok xs s o after m refl (act.Decide i f p told) a f (1, omega arith, refl)))
    used_then by on (frozen offer main n a out none opens is at had) = subst (IsUsedHolder after) (sym is) tt
    used_then by on (made node action x a makes_it drawn is names raised) =
        subst (IsUsedHolder after) (sym is) (_, acted.made_stands limits ok xs s o after m refl node action a makes_it x drawn)
    used_then by on (published i q f a hit is at) =
        subst (IsUsedHolder after) (sym is) (still i (acted.wanted_used limits ok xs s o after m refl (act.Publish i q f) a i (0, omega arith, refl)))
    used_then by on (first offer a stands is at) = subst (IsUsedHolder after) (sym is) tt
    used_then by on (second offer n a stands opens at is) = subst (IsUsedHolder after) (sym is) tt

    after_step : AreUsed after (held_after (change_of state (held_of limits xs) s) (held_of limits xs))
    after_step by on has = used_then by on (came state (held_of limits xs) by on s has)

  -- ---- after all steps

  abbrev Used : List Step → Type 0
  Used xs = HasNoSweeps xs → AreUsed (run limits xs) (held_of limits xs)

  by_answer : (xs : List Step) (s : Step) → HasNoSweeps (xs ++ s ∷ []) → AreUsed (run limits xs) (held_of limits xs) → (a : Answer) → next (run limits xs) s ≡ a → MovesIfTaken (run limits xs) s a →
      AreUsed (run limits (xs ++ s ∷ [])) (cond (is_taken_step a) (held_after (change_of (run limits xs) (held_of limits xs) s) (held_of limits xs)) (held_of limits xs))
  by_answer xs s quiet h (Ok done) e m =
      let is : done.1 ≡ run limits (xs ++ s ∷ []) = sym (run_push (first_state limits) xs s ∙ ap (state_after (run limits xs)) e) in
      after_step xs s quiet done.0 (subst (λ (z : State). Moves (run limits xs) s done.0 z) is m) h
  by_answer xs s quiet h (Err refusal) e m = subst (λ (z : State). AreUsed z (held_of limits xs)) (sym (run_push (first_state limits) xs s ∙ ap (state_after (run limits xs)) e)) h

  all_used : (steps : List Step) → Used steps
  all_used =
      by_last Used (λ quiet. first_used)
      (λ xs s h quiet.
      subst (AreUsed (run limits (xs ++ s ∷ []))) (sym (held_push limits xs s))
      (by_answer xs s quiet (h (quiet_first xs (s ∷ []) quiet)) (next (run limits xs) s) refl (moves (run limits xs) s)))

  pub holders_used : (steps : List Step) → HasNoSweeps steps → (j k : Ref) → Has (held_of limits steps) (OfNode j) k → IsInUse (run limits steps).heap j
  holders_used steps quiet j k has = all_used steps quiet (OfNode j) k has
