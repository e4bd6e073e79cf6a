-- An indirection at which an operation swaps a main node in wasn't dropped.
use Rattle.std.proofs.Common.{◌≡◌, ℕ, suc, true, List, [], ◌∷◌, ◌++◌, Contains, Some, arith, refl, sym, ap, subst, ◌∙◌, append_assoc, append-nil}
use Rattle.std.proofs.lemmas.Bool.{true≢false}
use Rattle.proof_claims.specs.Beneath.slot_arena.specs.declared.refs.Ref.{Ref}
use Rattle.proof_claims.specs.Beneath.slot_arena.specs.Heaps.{node_at}
use Rattle.proof_claims.specs.Beneath.machine_model.specs.declared.lines.Line.TheVariants as line
use Rattle.proof_claims.specs.Beneath.machine_model.specs.declared.lines.Purpose.{Purpose}
use Rattle.proof_claims.specs.Beneath.machine_model.specs.declared.operations.Operation.{Operation}
use Rattle.proof_claims.specs.Beneath.machine_model.specs.declared.reading.Swap.{Swap}
use Rattle.proof_claims.specs.Beneath.machine_model.specs.declared.steps.Bounds.{Bounds}
use Rattle.proof_claims.specs.Beneath.machine_model.specs.declared.steps.Step.{Step}
use Rattle.proof_claims.specs.Beneath.machine_model.specs.Machine.{AreBounds, run}
use Rattle.proof_claims.specs.Beneath.machine_model.specs.States.{State, first_state, operation_of}
use Rattle.proof_claims.specs.Beneath.machine_model.specs.Times.{last_of, states_of}
use Rattle.proof_claims.specs.Beneath.machine_model.proofs.Along.{by_last, run_push}
use Rattle.proof_claims.specs.Beneath.machine_model.proofs.Fates.{place_of_actor}
use Rattle.proof_claims.specs.Beneath.machine_model.proofs.Grown.{node_grown, node_standing}
use Rattle.proof_claims.specs.Beneath.machine_model.proofs.Times.{run_ends, run_is}
use Rattle.proof_claims.specs.Beneath.machine_model.specs.Grown.{node_under}
use Rattle.proof_claims.specs.Beneath.proof_commits.proofs.Words.OfRuns.{link_kept}
use Rattle.proof_claims.specs.Beneath.proof_commits.proofs.Words.Stood.{stands_now}
use Rattle.proof_claims.specs.Beneath.proof_followed.proofs.Stays.{stays_unfollowed}
use Rattle.proof_claims.specs.Beneath.proof_followed.specs.Followed.{IsFollowedByAny, followed_by, from_operation}
use Rattle.proof_claims.specs.Beneath.proof_garbage.specs.Live.{IsLive, from_operation as live_operation}
use Rattle.proof_claims.specs.Beneath.proof_memory.proofs.Heap.Later.{one_node}
use Rattle.proof_claims.specs.Beneath.proof_memory.specs.Laws.{IsInUse}
use Rattle.proof_claims.specs.Beneath.proof_memory.specs.Wants.{AMain, is_indirection, meets}
use Rattle.proof_claims.specs.Beneath.proof_owned.proofs.Linked.{main_no_link, stood_is_main}
use Rattle.proof_claims.specs.Beneath.proof_owned.specs.Owned.{IsOwn, built, first, swapped}
use Rattle.proof_claims.specs.Dropped.{HasFailed, WasDropped, failed, replaced, unmet, untaken}
use Rattle.proof_claims.proofs.Alive.{dead_later, used_between}
use Rattle.proof_claims.proofs.InSwap as in_swap
use Rattle.proof_claims.proofs.InSwap.{main_plain}
use Rattle.proof_claims.proofs.Owning.{CameOwn, came_later, came_own}
use Rattle.proof_claims.proofs.Ownership.{own_by}

-- what nobody follows any more nobody follows later, as long as it is in use
pub nobody_later : (limits : Bounds) → AreBounds limits → (before : List Step) (r : Ref) → IsInUse (run limits before).heap r → (IsFollowedByAny (run limits before) r → ⊥) → (since : List Step) →
    IsInUse (run limits (before ++ since)).heap r → IsFollowedByAny (run limits (before ++ since)) r → ⊥
nobody_later limits ok before r used nobody since =
    by_last (λ since. IsInUse (run limits (before ++ since)).heap r → IsFollowedByAny (run limits (before ++ since)) r → ⊥)
    (λ u followed. nobody (subst (λ l. IsFollowedByAny (run limits l) r) (append-nil before) followed))
    (λ xs s so_far u followed.
    let is : before ++ (xs ++ s ∷ []) ≡ (before ++ xs) ++ s ∷ [] = sym (append_assoc before xs (s ∷ [])) in
    let between = used_between limits ok before xs (s ∷ []) r used (subst (λ l. IsInUse (run limits l).heap r) is u) in
    so_far between
    (stays_unfollowed limits ok (before ++ xs) r between s
    (subst (λ (a : State). IsFollowedByAny a r) (run_push (first_state limits) (before ++ xs) s) (subst (λ l. IsFollowedByAny (run limits l) r) is followed)))) since

module _ (limits : Bounds) (ok : AreBounds limits) (xs : List Step) (k : ℕ) (operation : Operation) (runs : operation_of (run limits xs) (suc k) ≡ Some operation) (why : Purpose) (w : Swap)
    (on : operation.line ≡ line.Swap why w) where
  abbrev state : State
  state = run limits xs

  abbrev i : Ref
  i = w.indirection

  used : IsInUse state.heap i
  used = in_swap.used_i limits ok xs k operation runs why w on

  link : is_indirection (node_at state.heap i) ≡ true
  link = in_swap.link_i limits ok xs k operation runs why w on

  -- its operation follows it
  pub link_followed : Contains (followed_by state operation) i
  link_followed = in_swap.in_followed state operation why w on i (0, omega arith, refl)

  followed : IsFollowedByAny state i
  followed = from_operation (suc k) operation i runs tt link_followed

  live : IsLive state i
  live = live_operation (suc k) operation i runs tt (in_swap.in_hand limits ok xs k operation runs why w on i (in_swap.the_indirection refl))

  -- what was a main node is none
  main_then : (before since : List Step) → xs ≡ before ++ since → IsInUse (run limits before).heap i → meets AMain (node_at (run limits before).heap i) ≡ true → ⊥
  main_then before since e (slot, stands) main =
      let now : IsInUse (run limits (before ++ since)).heap i = subst (λ l. IsInUse (run limits l).heap i) e used in
      let same = one_node limits ok before since i slot now.0 stands now.1 in
      let plain = ap is_indirection (sym (node_standing (run limits before).heap i slot stands)) ∙ main_plain (node_at (run limits before).heap i) main in
      let found = ap (λ l. node_at (run limits l).heap i) e ∙ node_standing (run limits (before ++ since)).heap i now.0 now.1 in
      true≢false (sym link ∙ ap is_indirection found ∙ ap is_indirection same.1 ∙ link_kept same.0 slot.node ∙ plain)

  -- nor is it an indirection's own
  not_own : (j : Ref) → IsOwn (states_of limits xs) (last_of limits xs) j i → ⊥
  not_own j own = main_no_link (node_under (states_of limits xs) (last_of limits xs) i) (by own) node_is
    where
      used_end : IsInUse (states_of limits xs (last_of limits xs)).heap i
      used_end = subst (λ (s : State). IsInUse s.heap i) (sym (run_ends limits xs)) used

      node_is : is_indirection (node_under (states_of limits xs) (last_of limits xs) i) ≡ true
      node_is =
          ap is_indirection (sym (node_grown (states_of limits xs) (last_of limits xs) i used_end.0 used_end.1) ∙ ap (λ (s : State). node_at s.heap i) (run_ends limits xs)) ∙ link

      by : IsOwn (states_of limits xs) (last_of limits xs) j i → meets AMain (node_under (states_of limits xs) (last_of limits xs) i) ≡ true
      by (swapped u b a less stage is_link word) = stood_is_main (run_is limits xs ok) (suc u) (omega (arith, less)) j i (stands_now is_link word)
      by (built u b less stage was is_link word) = stood_is_main (run_is limits xs ok) (suc u) (omega (arith, less)) j i (stands_now is_link word)
      by (first is_link word) = stood_is_main (run_is limits xs ok) 0 (omega arith) j i (stands_now is_link word)

  not_failed : (before since : List Step) (a : ℕ) (j n : Ref) → xs ≡ before ++ since → HasFailed (run limits before) a j n i → ⊥
  not_failed before since a j n e h =
      let (place, is, at_place) = place_of_actor (run limits before) a h.operation h.runs in
      main_then before since e (in_swap.used_f limits ok before place h.operation at_place h.why _ h.checks) (in_swap.main_f limits ok before place h.operation at_place h.why _ h.checks)

  pub link_not_dropped : WasDropped limits xs i → ⊥
  link_not_dropped (replaced before s since j e how r own) =
      not_own j
      (own_by limits ok xs j i (subst (λ l. CameOwn limits l j i) (sym e) (came_later limits (before ++ s ∷ []) since j i (came_own limits ok (before ++ s ∷ []) j i own))))
  link_not_dropped (failed before since a j n e h) = not_failed before since a j n e h
  link_not_dropped (unmet before s since e lets used_then dead) =
      dead_later limits ok (before ++ s ∷ []) i used_then dead since (subst (λ l. IsInUse (run limits l).heap i) e used) (subst (λ l. IsLive (run limits l) i) e live)
  link_not_dropped (untaken before s since e lets link_then g nobody) =
      nobody_later limits ok (before ++ s ∷ []) i link_then.0 nobody since (subst (λ l. IsInUse (run limits l).heap i) e used) (subst (λ l. IsFollowedByAny (run limits l) i) e followed)
