-- What is left by the step that puts the main node before back in the place of a failed one, or finds another there.
use Rattle.std.proofs.Common.{◌≡◌, ◌≢◌, ◌⊎◌, ◌==◌, ℕ, Bool, true, false, Some, None, get_or, refl, sym, ap, subst, ◌∙◌, inl, inr, eqb-true}
use Rattle.std.proofs.lemmas.Bool.{cases_eq, eqb-false}
use Rattle.std.proofs.lemmas.Option.{same_Some}
use Rattle.machine_model.specs.Beneath.slot_arena.specs.declared.refs.Ref.{Ref}
use Rattle.machine_model.specs.Beneath.slot_arena.specs.declared.nodes.Node.TheVariants.{Indirection}
use Rattle.machine_model.specs.Beneath.slot_arena.specs.declared.nodes.Prev.TheVariants as prev
use Rattle.machine_model.specs.Beneath.slot_arena.specs.declared.nodes.Slot.{Slot}
use Rattle.machine_model.specs.Beneath.slot_arena.specs.Heaps.{Heap, node_at, main_at, main_of, prev_at, with_main, with_main_word}
use Rattle.machine_model.specs.Beneath.slot_arena.specs.Refs.{slot_of}
use Rattle.machine_model.specs.declared.actions.Action.TheVariants as act
use Rattle.machine_model.specs.declared.operations.Operation.{Operation}
use Rattle.machine_model.specs.Acting.{acted, gone, if_changed, operation_after, attempt_after, mark_after}
use Rattle.machine_model.specs.Calls.{handle_of}
use Rattle.machine_model.specs.Machine.{AreBounds}
use Rattle.machine_model.specs.Moves.{GoesOn}
use Rattle.machine_model.specs.Operations.{action_of}
use Rattle.machine_model.specs.States.{State, with_operation}
use Rattle.machine_model.proofs.Found.{found_elsewhere}
use Rattle.machine_model.proofs.Grown.{node_standing, prev_standing}
use Rattle.proof_memory.specs.Laws.{IsInUse}
use Rattle.proof_memory.specs.Wants.{AllHold, action_wants}
use Rattle.proof_memory.proofs.Claims.Uses.{safe_of, meets_of}
use Rattle.proof_memory.proofs.Heap.Under.{main_here, main_other}
use Rattle.proof_memory.proofs.Safety.AtEachTime.{safe_along}
use Rattle.proof_memory.proofs.Safety.AtTimes.{action_finds}
use Rattle.proof_garbage.proofs.Fresh.{below_decided}
use Rattle.proof_commits.proofs.Words.Stood.{IsOver}
use Rattle.proof_garbage.proofs.Restoring.{failed_over}
use Rattle.lock_free.specs.declared.accounts.Account.{Account}
use Rattle.lock_free.specs.declared.sizes.Sizes.{Sizes}
use Rattle.lock_free.specs.Accounts.{bounds_for, state_of, running, gone_on}
use Rattle.lock_free.specs.Making.{over_of}
use Rattle.lock_free.specs.Restoring.{Restores}
use Rattle.lock_free.specs.Steps.{Reads, nothing}
use Rattle.lock_free.specs.Trying.{SameTries, as_before}
use Rattle.lock_free.proofs.OneStep.Aheads.{ahead_of, over_makes, ahead_acts}
use Rattle.lock_free.proofs.OneStep.Changing.{then, slot_then, births_then, live_then, roots_then, generations_then, others_then, own_then, tries_stay, no_more_then, still_then}
use Rattle.lock_free.proofs.OneStep.Doing.{CompletesNone}
use Rattle.lock_free.proofs.OneStep.Found.{link_of, slot_at}
use Rattle.lock_free.proofs.OneStep.Going.{bounds_after}
use Rattle.lock_free.proofs.OneStep.Leading.{leads}

-- a main word is written, and nothing else
pub main_elsewhere : (heap : Heap) (i m : Ref) (k : ℕ) → k ≢ slot_of i → get_or (with_main heap i m).slots k None ≡ get_or heap.slots k None
unfolding with_main
main_elsewhere heap i m k apart = found_elsewhere heap.slots (slot_of i) k _ apart

pub main_births : (heap : Heap) (i m : Ref) → (with_main heap i m).births ≡ heap.births
unfolding with_main
main_births heap i m = refl

pub main_used : (heap : Heap) (i m : Ref) → IsInUse heap i → (r : Ref) → IsInUse (with_main heap i m) r → IsInUse heap r
main_used heap i m (was, stands) r (slot, now) = elim (cases_eq r i) [
  | inl same ↦ subst (IsInUse heap) (sym same) (was, stands)
  | inr apart ↦ (slot, sym (main_other heap i m was stands r apart) ∙ now)
]

module _ (sizes : Sizes) (account : Account) (bounds : AreBounds (bounds_for sizes account.steps)) (actor : ℕ) (operation : Operation) (runs : running sizes account actor operation)
    (i main former : Ref)
    (is : action_of (state_of sizes account) operation ≡ act.Restore i main former) where
  abbrev state : State
  state = state_of sizes account

  abbrev put : State
  put = with_operation state actor (Some (operation_after state operation))

  g : GoesOn (action_of state operation)
  g = subst GoesOn (sym is) tt

  none : CompletesNone (action_of state operation)
  none = subst CompletesNone (sym is) tt

  gone_is : (b : Bool) → (main_at state.heap i == main) ≡ b → gone state actor operation ≡ record put { heap = if_changed b (with_main state.heap i former) state.heap }
  gone_is b e = ap (acted put (handle_of operation.call)) is ∙ ap (λ c. record put { heap = if_changed c (with_main state.heap i former) state.heap }) e

  tries : SameTries state (state_of sizes (gone_on actor account))
  tries = tries_stay sizes account bounds actor operation runs g none (ap (attempt_after operation.attempt) is) (ap (mark_after operation.is_marked) is)

  claims : AllHold (IsInUse state.heap) state.heap (action_wants (act.Restore i main former))
  claims =
      subst (λ action. AllHold (IsInUse state.heap) state.heap (action_wants action)) is (action_finds state (safe_along (bounds_for sizes account.steps) bounds account.steps) actor operation runs)

  makes_none : (j a : Ref) → over_of operation.line ≡ Some (j, a) → ⊥
  makes_none j a over = let (node, made) = over_makes state operation operation.line (j, a) over in let both = sym made ∙ is in cc

  publishes_none : (j a f : Ref) → ahead_of operation.line ≡ Some (j, a, f) → ⊥
  publishes_none j a f ahead = let both = sym (ahead_acts state operation operation.line (j, a, f) ahead) ∙ is in cc

  -- it stands there no more
  module _ (e : (main_at state.heap i == main) ≡ false) where
    pub overtaken : Reads sizes account actor operation
    overtaken =
        leads sizes account bounds actor operation runs g none (gone_is false e) nothing (λ r k. refl) (λ r h. refl) (λ x h g. refl) makes_none (λ j a f ahead standing. publishes_none j a f ahead)
        (as_before tries)

    pub another : main_at state.heap i ≢ main
    another = eqb-false (main_at state.heap i) main e

  -- it stands there still
  module _ (e : (main_at state.heap i == main) ≡ true) where
    stands : main_at state.heap i ≡ main
    stands = eqb-true (main_at state.heap i) main e

    abbrev heap_then : Heap
    heap_then = with_main state.heap i former

    heap_is : (then sizes account bounds actor operation runs g).heap ≡ heap_then
    heap_is = ap (λ (s : State). s.heap) (gone_is true e)

    used_i : IsInUse state.heap i
    used_i = safe_of claims.0

    used_main : IsInUse state.heap main
    used_main = safe_of claims.1.0

    used_former : IsInUse state.heap former
    used_former = safe_of claims.1.1.0

    link_node : (generation : ℕ) × (used_i.0.node ≡ Indirection generation main)
    link_node =
        let (generation, m, node) = link_of (node_at state.heap i) (meets_of claims.0) in
        let same : m ≡ main = sym (ap main_of node) ∙ stands in
        (generation, sym (node_standing state.heap i used_i.0 used_i.1) ∙ node ∙ ap (Indirection generation) same)

    over_former : prev_at state.heap main ≡ prev.Failed former
    over_former = failed_over (bounds_for sizes account.steps) account.steps bounds actor operation i main former runs is used_main

    former_is : prev_at state.heap former ≡ prev.None
    former_is = below_decided (bounds_for sizes account.steps) account.steps bounds main former used_main (subst (λ p. IsOver p former) (sym over_former) refl) used_former

    pub restores : Restores sizes account actor operation i main former
    restores = record {
      bounds = bounds_after sizes account bounds actor operation runs g;
      generation = link_node.0;
      link = used_i.0;
      link_is = slot_at state.heap i used_i.0 used_i.1;
      link_node = link_node.1;
      link_then = slot_then sizes account bounds actor operation runs g heap_then heap_is (slot_of i) ∙ slot_at heap_then i _ (main_here state.heap i former used_i.0 used_i.1)
          ∙ ap (λ n. Some (record used_i.0 { node = with_main_word former n })) link_node.1;
      failed = used_main.0;
      failed_is = slot_at state.heap main used_main.0 used_main.1;
      failed_over = sym (prev_standing state.heap main used_main.0 used_main.1) ∙ over_former;
      former_decided = λ slot at.
          ap (λ (x : Slot). x.prev) (same_Some _ _ (sym at ∙ slot_at state.heap former used_former.0 used_former.1)) ∙ sym (prev_standing state.heap former used_former.0 used_former.1) ∙ former_is;
      nodes = λ k apart. slot_then sizes account bounds actor operation runs g heap_then heap_is k ∙ main_elsewhere state.heap i former k apart;
      births = births_then sizes account bounds actor operation runs g heap_then heap_is ∙ main_births state.heap i former;
      live = live_then sizes account bounds actor operation runs g heap_then heap_is (main_used state.heap i former used_i);
      roots = roots_then sizes account bounds actor operation runs g (ap (λ (s : State). s.roots) (gone_is true e));
      generations = generations_then sizes account bounds actor operation runs g state.generations (ap (λ (s : State). s.generations) (gone_is true e));
      others = others_then sizes account bounds actor operation runs g none;
      own = own_then sizes account bounds actor operation runs g none;
      tries = tries;
      aheads = no_more_then sizes account bounds actor operation runs g none makes_none;
      still = λ j a f x. elim (still_then sizes account bounds actor operation runs g none j a f x) [
        | inl is ↦ is
        | inr ahead ↦ absurd (publishes_none j a f ahead)
      ];
    }

  by_stand : (b : Bool) → (main_at state.heap i == main) ≡ b →
      (Restores sizes account actor operation i main former × (main_at state.heap i ≡ main)) ⊎ (Reads sizes account actor operation × (main_at state.heap i ≢ main))
  by_stand true e = inl (restores e, stands e)
  by_stand false e = inr (overtaken e, another e)

  -- putting a main node back in the place of one that stands there still, or doesn't
  pub restores_or_not : (Restores sizes account actor operation i main former × (main_at state.heap i ≡ main)) ⊎ (Reads sizes account actor operation × (main_at state.heap i ≢ main))
  restores_or_not = by_stand (main_at state.heap i == main) refl
