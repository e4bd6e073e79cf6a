-- An indirection's own main node that is to be replaced wasn't dropped before.
use Rattle.std.proofs.Common.{◌≡◌, ℕ, true, List, [], ◌∷◌, ◌++◌, Contains, Option, Some, refl, sym, ap, subst, ◌∙◌, arith}
use Rattle.proof_claims.specs.Beneath.slot_arena.specs.declared.nodes.Prev.TheVariants as prev
use Rattle.proof_claims.specs.Beneath.slot_arena.specs.declared.refs.Ref.{Ref}
use Rattle.proof_claims.specs.Beneath.slot_arena.specs.Heaps.{logical, main_at, node_at, prev_at, refs_of_prev}
use Rattle.proof_claims.specs.Beneath.machine_model.specs.declared.actions.Action.TheVariants as act
use Rattle.proof_claims.specs.Beneath.machine_model.specs.declared.operations.Operation.{Operation}
use Rattle.proof_claims.specs.Beneath.machine_model.specs.declared.steps.Bounds.{Bounds}
use Rattle.proof_claims.specs.Beneath.machine_model.specs.declared.steps.Step.{Step}
use Rattle.proof_claims.specs.Beneath.machine_model.specs.Machine.{AreBounds, run}
use Rattle.proof_claims.specs.Beneath.machine_model.specs.Operations.{action_of}
use Rattle.proof_claims.specs.Beneath.machine_model.specs.States.{State, operation_of}
use Rattle.proof_claims.specs.Beneath.machine_model.specs.Times.{last_of, states_of}
use Rattle.proof_claims.specs.Beneath.machine_model.proofs.Grown.{node_standing, prev_grown}
use Rattle.proof_claims.specs.Beneath.machine_model.proofs.Times.{run_ends, run_is}
use Rattle.proof_claims.specs.Beneath.proof_commits.specs.Runs.{HasIndirection}
use Rattle.proof_claims.specs.Beneath.proof_commits.proofs.Course.Finals.{failed_final}
use Rattle.proof_claims.specs.Beneath.proof_garbage.specs.Live.{IsLive, refs_of_claims}
use Rattle.proof_claims.specs.Beneath.proof_garbage.proofs.Known.{named_known}
use Rattle.proof_claims.specs.Beneath.proof_generations.proofs.Falling.KnownRoots.{protocol_of}
use Rattle.proof_claims.specs.Beneath.proof_memory.specs.Laws.{IsInUse}
use Rattle.proof_claims.specs.Beneath.proof_memory.specs.Wants.{AllHold, action_wants, is_indirection}
use Rattle.proof_claims.specs.Beneath.proof_memory.proofs.Claims.Uses.{meets_of, safe_of}
use Rattle.proof_claims.specs.Beneath.proof_memory.proofs.Heap.Later.{one_node}
use Rattle.proof_claims.specs.Beneath.proof_memory.proofs.Safety.AtEachTime.{safe_along}
use Rattle.proof_claims.specs.Beneath.proof_memory.proofs.Safety.AtTimes.{action_finds}
use Rattle.proof_claims.specs.Beneath.proof_owned.proofs.Linked.{main_no_link}
use Rattle.proof_claims.specs.Beneath.proof_reuse.proofs.InLists.{state_then, time_within}
use Rattle.proof_claims.specs.Beneath.proof_reuse.proofs.OnePlace.{one_owner}
use Rattle.proof_claims.specs.Held.{is_owned}
use Rattle.proof_claims.specs.Claims.{held_of}
use Rattle.proof_claims.specs.Dropped.{HasFailed, WasDropped, failed, replaced, unmet, untaken}
use Rattle.proof_claims.specs.Beneath.proof_garbage.proofs.Fresh.{deciding_stands}
use Rattle.proof_claims.specs.Beneath.proof_commits.proofs.Words.OfRuns.{link_kept}
use Rattle.proof_claims.specs.Beneath.proof_owned.specs.Laws.{IsReplaced}
use Rattle.proof_claims.proofs.Alive.{dead_later}
use Rattle.proof_claims.proofs.EachStep.{OwnStands}
use Rattle.proof_claims.proofs.FromRoots.{is_decided}
use Rattle.proof_claims.proofs.Owning.{CameOwn, came_later, came_own}
use Rattle.proof_claims.proofs.Ownership.{own_by, owned_is_own}
use Rattle.proof_claims.proofs.Replaced.{counts_no_more}
use Rattle.proof_claims.proofs.Unlinked.{over, replaced_later, used as failed_used}

module _ (limits : Bounds) (ok : AreBounds limits) (xs : List Step) (actor : ℕ) (operation : Operation) (i f p : Ref) (told : Option ℕ) (runs : operation_of (run limits xs) actor ≡ Some operation)
    (acts : action_of (run limits xs) operation ≡ act.Decide i f p told) (pending : prev_at (run limits xs).heap f ≡ prev.Pending p) (owned : is_owned (held_of limits xs) i p ≡ true) where
  abbrev state : State
  state = run limits xs

  claims : AllHold (IsInUse state.heap) state.heap (action_wants (act.Decide i f p told))
  claims = subst (λ a. AllHold (IsInUse state.heap) state.heap (action_wants a)) acts (action_finds state (safe_along limits ok xs) actor operation runs)

  has_i : HasIndirection state i
  has_i = (safe_of claims.0, meets_of claims.0)

  used_f : IsInUse state.heap f
  used_f = safe_of claims.1.0

  used_p : IsInUse state.heap p
  used_p = safe_of claims.1.1.0

  stands : main_at state.heap i ≡ f
  stands = deciding_stands limits xs ok actor operation i f p told runs acts has_i.0 used_f p pending

  decided : prev_at state.heap p ≡ prev.None
  decided = is_decided limits xs ok f p used_f used_p (subst (λ v. Contains (refs_of_prev v) p) (sym pending) (0, omega arith, refl))

  counts : logical (main_at state.heap i) (prev_at state.heap (main_at state.heap i)) ≡ p
  counts = ap (λ m. logical m (prev_at state.heap m)) stands ∙ ap (logical f) pending

  live : IsLive state p
  live = named_known state (safe_along limits ok xs) (λ id. Unit {0}) actor operation runs tt p
      (subst (λ a. Contains (refs_of_claims (action_wants a)) p) (sym acts) (2, omega arith, refl))

  -- it was replaced there
  not_replaced : (before since : List Step) (j : Ref) → xs ≡ before ++ since → IsReplaced limits before j p → is_owned (held_of limits before) j p ≡ true → ⊥
  not_replaced before since j e r own =
      let is_run = run_is limits xs ok in
      let other = subst (λ l. CameOwn limits l j p) (sym e) (came_later limits before since j p (came_own limits ok before j p own)) in
      let same = one_owner is_run j i p (own_by limits ok xs j p other) (owned_is_own limits ok xs i p owned) in
      let then = subst (λ l. IsReplaced limits l j p) (sym e) (replaced_later limits before since j p r) in
      counts_no_more limits xs ok i p (subst (λ x. IsReplaced limits xs x p) same then) has_i counts

  -- it has failed
  not_failed : (before since : List Step) (a : ℕ) (j n : Ref) → xs ≡ before ++ since → HasFailed (run limits before) a j n p → ⊥
  not_failed before since a j n e h =
      let is_run = run_is limits xs ok in
      let words = protocol_of is_run in
      let low = time_within limits xs before since e in
      let then = state_then limits xs before since e in
      let (x, was) = over limits ok before a j n p h in
      let used_then : IsInUse (states_of limits xs (last_of limits before)).heap p = subst (λ (s : State). IsInUse s.heap p) (sym then) (failed_used limits ok before a j n p h) in
      let failed_then = sym (prev_grown (states_of limits xs) (last_of limits before) p used_then.0 used_then.1) ∙ ap (λ (s : State). prev_at s.heap p) then ∙ was in
      let failed_now = failed_final words p x (last_of limits before) (last_of limits xs) low (omega arith) failed_then in
      let used_now : IsInUse (states_of limits xs (last_of limits xs)).heap p = subst (λ (s : State). IsInUse s.heap p) (sym (run_ends limits xs)) used_p in
      let now = ap (λ (s : State). prev_at s.heap p) (sym (run_ends limits xs)) ∙ prev_grown (states_of limits xs) (last_of limits xs) p used_now.0 used_now.1 ∙ failed_now in
      let wrong : prev.None ≡ prev.Failed x = sym decided ∙ now in
      let bad : ⊥ = cc wrong in bad

  -- it was no main node
  not_link : (before since : List Step) → xs ≡ before ++ since → HasIndirection (run limits before) p → ⊥
  not_link before since e has =
      let (slot, stands_then) = has.0 in
      let now : IsInUse (run limits (before ++ since)).heap p = subst (λ l. IsInUse (run limits l).heap p) e used_p in
      let same = one_node limits ok before since p slot now.0 stands_then now.1 in
      let link_then = ap is_indirection (sym (node_standing (run limits before).heap p slot stands_then)) ∙ has.1 in
      let found = ap (λ l. node_at (run limits l).heap p) e ∙ node_standing (run limits (before ++ since)).heap p now.0 now.1 in
      main_no_link (node_at state.heap p) (meets_of claims.1.1.0) (ap is_indirection found ∙ ap is_indirection same.1 ∙ link_kept same.0 slot.node ∙ link_then)

  pub not_dropped : WasDropped limits xs p → ⊥
  not_dropped (replaced before s since j e how r own) = not_replaced (before ++ s ∷ []) since j e r own
  not_dropped (failed before since a j n e h) = not_failed before since a j n e h
  not_dropped (unmet before s since e lets used dead) =
      dead_later limits ok (before ++ s ∷ []) p used dead since (subst (λ l. IsInUse (run limits l).heap p) e used_p) (subst (λ l. IsLive (run limits l) p) e live)
  not_dropped (untaken before s since e lets link g nobody) = not_link (before ++ s ∷ []) since e link

pub own_stands : (limits : Bounds) → AreBounds limits → OwnStands limits
own_stands limits ok xs actor operation i f p told runs acts pending owned dropped = not_dropped limits ok xs actor operation i f p told runs acts pending owned dropped
