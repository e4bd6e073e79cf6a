-- What is to be replaced is committed, and stays so: it is no node that was refused.
use Rattle.std.proofs.Common.{◌≡◌, ◌≤◌, ◌++◌, ℕ, List, Some, sym, ap, subst, ◌∙◌, arith}
use Rattle.machine_model.specs.Beneath.slot_arena.specs.declared.nodes.Prev.TheVariants as prev
use Rattle.machine_model.specs.Beneath.slot_arena.specs.declared.refs.Ref.{Ref}
use Rattle.machine_model.specs.Beneath.slot_arena.specs.Heaps.{prev_at}
use Rattle.machine_model.specs.declared.reading.Swap.{Swap}
use Rattle.machine_model.specs.declared.reading.SwapLine.TheVariants as swap
use Rattle.machine_model.specs.declared.steps.Bounds.{Bounds}
use Rattle.machine_model.specs.declared.steps.Step.{Step}
use Rattle.machine_model.specs.Machine.{AreBounds, run}
use Rattle.machine_model.specs.States.{State, operation_of}
use Rattle.machine_model.specs.Times.{states_of, last_of}
use Rattle.machine_model.proofs.Fates.{place_of_actor}
use Rattle.machine_model.proofs.Grown.{prev_grown}
use Rattle.machine_model.proofs.Times.{run_ends, run_is}
use Rattle.proof_claims.proofs.SwapFacts.{replaced_decided}
use Rattle.proof_claims.proofs.Unlinked.{over, used}
use Rattle.proof_claims.specs.Dropped.{HasFailed}
use Rattle.proof_commits.proofs.Course.Finals.{effect, failed_final, from_time}
use Rattle.proof_commits.proofs.Known.Owners.{Staged, decided_later}
use Rattle.proof_commits.proofs.Known.Sounds.{sound_at}
use Rattle.proof_commits.proofs.Words.Stood.{Decided}
use Rattle.proof_commits.specs.Protocol.{Checks, Protocol}
use Rattle.proof_commits.specs.Stages.{stage_of, stage_of_actor}
use Rattle.proof_garbage.specs.Beneath.proof_generations.proofs.Falling.KnownRoots.{protocol_of}
use Rattle.proof_memory.specs.Laws.{IsInUse}
use Rattle.proof_memory.specs.Wants.{AllHold, line_wants, purpose_wants, swap_wants}
use Rattle.proof_memory.proofs.Claims.Uses.{first_hold, safe_of}
use Rattle.proof_memory.proofs.Safety.AtEachTime.{safe_along}
use Rattle.proof_memory.proofs.Safety.AtTimes.{line_finds}
use Rattle.proof_claims.specs.Beneath.proof_reuse.proofs.InLists.{state_then, time_within}
use Rattle.proof_claims.specs.Beneath.proof_reuse.specs.Laws.{HasReplaced}

module _ (limits : Bounds) (ok : AreBounds limits) (xs before more : List Step) (all : xs ≡ before ++ more) where
  abbrev checking : Ref → Ref → Ref → Swap
  checking i m f = record { indirection = i; replaced = m; fresh = f; line = swap.Check }

  replaced_used : (steps : List Step) (actor : ℕ) (i m f : Ref) → HasReplaced (run limits steps) actor i m f → IsInUse (run limits steps).heap m
  replaced_used steps actor i m f h =
      let state = run limits steps in
      safe_of (first_hold (IsInUse state.heap) state.heap (swap_wants (checking i m f)) (purpose_wants h.why)
      (subst (λ l. AllHold (IsInUse state.heap) state.heap (line_wants state.limits.hash h.operation.call h.operation.access l)) h.checks
      (line_finds state (safe_along limits ok steps) actor h.operation h.runs))).1.0

  abbrev p : Protocol
  p = protocol_of (run_is limits xs ok)

  within : last_of limits before ≤ last_of limits xs
  within = time_within limits xs before more all

  -- the state at a time says of a prev word what the protocol does
  word_is : (u : ℕ) (state : State) → states_of limits xs u ≡ state → (r : Ref) → IsInUse state.heap r → p.words.prev u r ≡ prev_at state.heap r
  word_is u state is r used_r =
      let there : IsInUse (states_of limits xs u).heap r = subst (λ (s : State). IsInUse s.heap r) (sym is) used_r in
      sym (prev_grown (states_of limits xs) u r there.0 there.1) ∙ ap (λ (s : State). prev_at s.heap r) is

  -- what was refused isn't replaced later
  pub refused_never_replaced : (a : ℕ) (j n m : Ref) → HasFailed (run limits before) a j n m → (actor : ℕ) (i f : Ref) → HasReplaced (run limits xs) actor i m f → ⊥
  refused_never_replaced a j n m failed actor i f h =
      let (k, place, at) = place_of_actor (run limits xs) actor h.operation h.runs in
      let none = replaced_decided limits ok xs k h.operation (subst (λ b. operation_of (run limits xs) b ≡ Some h.operation) place h.runs) h.why (checking i m f) h.checks in
      let (q, was) = over limits ok before a j n m failed in
      let then = word_is (last_of limits before) (run limits before) (state_then limits xs before more all) m (used limits ok before a j n m failed) ∙ was in
      let now = failed_final p m q (last_of limits before) (last_of limits xs) within (omega arith) then in
      none_failed (sym none ∙ sym (word_is (last_of limits xs) (run limits xs) (run_ends limits xs) m (replaced_used xs actor i m f h)) ∙ now)
    where
      none_failed : {q : Ref} → prev.None ≡ prev.Failed q → ⊥
      none_failed e = cc e

  -- what was replaced isn't refused later
  pub replaced_never_refused : (a : ℕ) (j m g : Ref) → HasReplaced (run limits before) a j m g → (actor : ℕ) (i n : Ref) → HasFailed (run limits xs) actor i n m → ⊥
  replaced_never_refused a j m g h actor i n failed =
      let t = last_of limits before in
      let last = last_of limits xs in
      let stage : p.words.stage t a ≡ Checks j m g = ap (λ (s : State). stage_of_actor (operation_of s a)) (state_then limits xs before more all) ∙ ap stage_of_actor h.runs ∙ ap stage_of h.checks in
      let then : Decided p.words t j m = (subst (λ s. Staged p.words t a s) stage ((sound_at p t (omega (arith, within))).staged a)).1 in
      let now : Decided p.words last j m = from_time (λ v. Decided p.words v j m) t last then (λ v low lt d. decided_later p.words v (effect p v lt) j m d) last within (omega arith) in
      failed.uncommitted (sym (word_is last (run limits xs) (run_ends limits xs) m (used limits ok xs actor i n m failed)) ∙ now.none)
