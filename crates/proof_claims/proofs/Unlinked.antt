-- No root leads to what was dropped, and an own main node that another one stands over wasn't dropped.
use Rattle.std.proofs.Common.{◌≡◌, ℕ, List, [], ◌∷◌, ◌++◌, refl, sym, ap, subst, ◌∙◌, arith}
use Rattle.proof_claims.specs.Beneath.slot_arena.specs.declared.nodes.Prev.TheVariants as prev
use Rattle.proof_claims.specs.Beneath.slot_arena.specs.declared.refs.Ref.{Ref}
use Rattle.proof_claims.specs.Beneath.slot_arena.specs.Heaps.{logical_main, main_at, prev_at}
use Rattle.proof_claims.specs.Beneath.machine_model.specs.declared.reading.SwapLine.TheVariants as swap
use Rattle.proof_claims.specs.Beneath.machine_model.specs.declared.steps.Bounds.{Bounds}
use Rattle.proof_claims.specs.Beneath.machine_model.specs.declared.steps.Step.{Step}
use Rattle.proof_claims.specs.Beneath.machine_model.specs.Machine.{AreBounds, run}
use Rattle.proof_claims.specs.Beneath.machine_model.specs.States.{State, operation_of}
use Rattle.proof_claims.specs.Beneath.machine_model.specs.Times.{last_of, states_of}
use Rattle.proof_claims.specs.Beneath.machine_model.proofs.Times.{run_ends, run_is}
use Rattle.proof_claims.specs.Beneath.proof_commits.specs.Runs.{HasIndirection}
use Rattle.proof_claims.specs.Beneath.proof_commits.specs.Stages.{stage_of, stage_of_actor}
use Rattle.proof_claims.specs.Beneath.proof_followed.specs.Followed.{IsFollowed, IsFollowedByRoots, from_operation, from_root, from_slot}
use Rattle.proof_claims.specs.Beneath.proof_followed.specs.Grace.{IsFollowedSince}
use Rattle.proof_claims.specs.Beneath.proof_followed.proofs.Grace.{dies}
use Rattle.proof_claims.specs.Beneath.proof_followed.proofs.InUse.{followed_used}
use Rattle.proof_claims.specs.Beneath.proof_followed.proofs.Live.{followed_known}
use Rattle.proof_claims.specs.Beneath.proof_generations.proofs.Falling.KnownRoots.{protocol_of}
use Rattle.proof_claims.specs.Beneath.proof_memory.specs.Laws.{IsInUse}
use Rattle.proof_claims.specs.Beneath.proof_memory.specs.Wants.{AllHold, line_wants, purpose_wants, swap_wants}
use Rattle.proof_claims.specs.Beneath.proof_memory.proofs.Claims.Uses.{first_hold, meets_of, safe_of}
use Rattle.proof_claims.specs.Beneath.proof_memory.proofs.Safety.AtEachTime.{safe_along}
use Rattle.proof_claims.specs.Beneath.proof_memory.proofs.Safety.AtTimes.{line_finds}
use Rattle.proof_claims.specs.Beneath.proof_owned.specs.Laws.{IsFailed, IsReplaced}
use Rattle.proof_claims.specs.Beneath.proof_owned.specs.Owned.{IsOwn, swapped}
use Rattle.proof_claims.specs.Beneath.proof_reuse.specs.Laws.{IsGarbage}
use Rattle.proof_claims.specs.Beneath.proof_reuse.proofs.InLists.{time_within}
use Rattle.proof_claims.specs.Beneath.proof_reuse.proofs.Own.{failed_garbage, replaced_garbage}
use Rattle.proof_claims.specs.Beneath.proof_reuse.proofs.SwapIns.{none_swapped_back}
use Rattle.proof_claims.specs.Beneath.proof_shape.proofs.Sites.Fixed.{states_of-append}
use Rattle.proof_claims.specs.Dropped.{HasFailed, WasDropped, failed, replaced, unmet, untaken}
use Rattle.proof_claims.proofs.Alive.{dead_later}
use Rattle.proof_claims.proofs.Failing.{failed_apart, failed_over}
use Rattle.proof_claims.proofs.Owning.{came_later, came_own}
use Rattle.proof_claims.proofs.Ownership.{own_by}
use Rattle.proof_claims.proofs.Swapped.{had_swapped}

-- what was replaced after some of the steps was so in all of them
pub replaced_later : (limits : Bounds) (before since : List Step) (i m : Ref) → IsReplaced limits before i m → IsReplaced limits (before ++ since) i m
replaced_later limits before since i m r =
    let within = r.within in
    let order = r.order in
    let first = states_of-append limits before since r.before (omega (arith, within, order)) in
    let second = states_of-append limits before since r.after within in
    let all = time_within limits (before ++ since) before since refl in
    record {
      before = r.before;
      after = r.after;
      order = r.order;
      within = omega (arith, within, all);
      had = subst (λ (s : State). HasIndirection s i) (sym first) r.had;
      has = subst (λ (s : State). HasIndirection s i) (sym second) r.has;
      was = ap (λ (s : State). logical_main s.heap i) first ∙ r.was;
      is = λ e. r.is (sym (ap (λ (s : State). logical_main s.heap i) second) ∙ e);
    }

-- what roots lead to those follow who begin later
since_by : (then now : State) {r : Ref} → IsFollowedByRoots now r → IsFollowedSince then now r
since_by then now (from_root handle root r e is) = from_root handle root r e is
since_by then now (from_operation actor operation r e never c) = absurd never
since_by then now (from_slot q r k c) = from_slot q r (since_by then now k) c

any_by : (now : State) {r : Ref} → IsFollowedByRoots now r → IsFollowed now (λ id. Unit {0}) r
any_by now (from_root handle root r e is) = from_root handle root r e is
any_by now (from_operation actor operation r e never c) = absurd never
any_by now (from_slot q r k c) = from_slot q r (any_by now k) c

module _ (limits : Bounds) (ok : AreBounds limits) where
  -- garbage is followed by no root later
  pub garbage_later : (before since : List Step) (r : Ref) → IsGarbage (run limits before) r → IsFollowedByRoots (run limits (before ++ since)) r → ⊥
  garbage_later before since r g followed =
      (dies limits ok before r g.in_use g.unfollowed g.unbrought since (none_swapped_back limits ok before r g.in_use g.private_to_none since)).0
      (since_by (run limits before) (run limits (before ++ since)) followed)

  -- ---- who sees that its fresh node has failed

  module _ (xs : List Step) (actor : ℕ) (i m f : Ref) (h : HasFailed (run limits xs) actor i m f) where
    wants : AllHold (IsInUse (run limits xs).heap) (run limits xs).heap (swap_wants (record { indirection = i; replaced = m; fresh = f; line = swap.Check }))
    wants =
        first_hold (IsInUse (run limits xs).heap) (run limits xs).heap (swap_wants (record { indirection = i; replaced = m; fresh = f; line = swap.Check })) (purpose_wants h.why)
        (subst (λ l. AllHold (IsInUse (run limits xs).heap) (run limits xs).heap (line_wants (run limits xs).limits.hash h.operation.call h.operation.access l)) h.checks
        (line_finds (run limits xs) (safe_along limits ok xs) actor h.operation h.runs))

    has : HasIndirection (run limits xs) i
    has = (safe_of wants.0, meets_of wants.0)

    pub used : IsInUse (run limits xs).heap f
    used = safe_of wants.1.1.0

    end_is : states_of limits xs (last_of limits xs) ≡ run limits xs
    end_is = run_ends limits xs

    is_own : IsOwn (states_of limits xs) (last_of limits xs) i f
    is_own =
        let is_run = run_is limits xs ok in
        let had = had_swapped (protocol_of is_run) (last_of limits xs) (omega arith) actor i m f
        (ap (λ (s : State). stage_of_actor (operation_of s actor)) end_is ∙ ap stage_of_actor h.runs ∙ ap stage_of h.checks) in
        swapped had.at actor m had.before had.stage had.link had.main

    pub over : (x : Ref) × (prev_at (run limits xs).heap f ≡ prev.Failed x)
    over = failed_over limits xs ok actor i m f h has used

    is_failed : IsFailed limits xs i f
    is_failed = record {
      at = last_of limits xs;
      within = omega arith;
      used = subst (λ (s : State). IsInUse s.heap f) (sym end_is) used;
      over = over.0;
      failed = ap (λ (s : State). prev_at s.heap f) end_is ∙ over.1;
      has = subst (λ (s : State). HasIndirection s i) (sym end_is) has;
      is = λ e. failed_apart limits xs ok actor i m f h has used (sym (ap (λ (s : State). main_at s.heap i) end_is) ∙ e);
    }

    pub garbage : IsGarbage (run limits xs) f
    garbage = failed_garbage limits xs ok i f is_own is_failed used

  -- ---- no root leads to what was dropped

  pub dropped_unlinked : (xs : List Step) (j : Ref) → WasDropped limits xs j → IsFollowedByRoots (run limits xs) j → ⊥
  dropped_unlinked xs j (replaced before s since i e how r own) followed =
      let there = subst (λ l. IsFollowedByRoots (run limits l) j) e followed in
      let then = before ++ s ∷ [] in
      let all = then ++ since in
      (replaced_garbage limits all ok i j (own_by limits ok all i j (came_later limits then since i j (came_own limits ok then i j own))) (replaced_later limits then since i j r)
      (followed_used (run limits all) (safe_along limits ok all) (λ id. ⊥) there)).unfollowed there
  dropped_unlinked xs j (failed before since actor i m e h) followed = garbage_later before since j (garbage before actor i m j h) (subst (λ l. IsFollowedByRoots (run limits l) j) e followed)
  dropped_unlinked xs j (unmet before s since e lets used dead) followed =
      let there = subst (λ l. IsFollowedByRoots (run limits l) j) e followed in
      let all = (before ++ s ∷ []) ++ since in
      dead_later limits ok (before ++ s ∷ []) j used dead since (followed_used (run limits all) (safe_along limits ok all) (λ id. ⊥) there)
      (followed_known (run limits all) (safe_along limits ok all) (λ id. Unit {0}) (any_by (run limits all) there))
  dropped_unlinked xs j (untaken before s since e lets link g nobody) followed = garbage_later (before ++ s ∷ []) since j g (subst (λ l. IsFollowedByRoots (run limits l) j) e followed)
