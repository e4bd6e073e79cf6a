-- What any step of an operation leaves that carries no offer out, by what it makes of the heap.
use Rattle.std.proofs.Common.{◌≡◌, ◌≢◌, ◌⊎◌, ℕ, get_or, Some, None, sym, ap, subst, ◌∙◌, inl, inr}
use Rattle.std.specs.Prelude.{option_map}
use Rattle.std.proofs.lemmas.Bool.{cases_eq}
use Rattle.std.proofs.lemmas.Option.{none-some}
use Rattle.machine_model.specs.Beneath.slot_arena.specs.declared.refs.Ref.{Ref}
use Rattle.machine_model.specs.Beneath.slot_arena.specs.Heaps.{Heap}
use Rattle.machine_model.specs.declared.operations.Operation.{Operation}
use Rattle.machine_model.specs.declared.steps.Step.TheVariants as step
use Rattle.machine_model.specs.Acting.{operation_after, attempt_after, mark_after}
use Rattle.machine_model.specs.Grown.{standing}
use Rattle.machine_model.specs.Machine.{AreBounds}
use Rattle.machine_model.specs.Moves.{GoesOn}
use Rattle.machine_model.specs.Operations.{action_of}
use Rattle.machine_model.specs.States.{State, operation_of}
use Rattle.proof_memory.specs.Laws.{IsInUse}
use Rattle.proof_memory.proofs.Safety.AtEachTime.{safe_along}
use Rattle.proof_memory.proofs.Safety.States.{IsSafe}
use Rattle.proof_memory.proofs.Safety.Steps.{safe_after}
use Rattle.proof_garbage.proofs.Known.{known_used}
use Rattle.proof_garbage.proofs.Step.{step_known}
use Rattle.proof_waiting.specs.Beneath.proof_slots.specs.Lasting.{widened}
use Rattle.lock_free.specs.declared.accounts.Account.{Account}
use Rattle.lock_free.specs.declared.sizes.Sizes.{Sizes}
use Rattle.lock_free.specs.Accounts.{bounds_for, state_of, running, gone_on}
use Rattle.lock_free.specs.Live.{IsLive}
use Rattle.lock_free.specs.Making.{over_of}
use Rattle.lock_free.specs.Nodes.{IsAhead}
use Rattle.lock_free.specs.Trying.{try_of, try_at, SameTries}
use Rattle.lock_free.proofs.OneStep.Aheads.{ahead_of, ComesAhead}
use Rattle.lock_free.proofs.OneStep.Doing.{CompletesNone, others, own, aheads, still}
use Rattle.lock_free.proofs.OneStep.Going.{later, moves, more, after_is}
use Rattle.lock_free.proofs.OneStep.Widened.{slot_in, live_in, ahead_in, ahead_wide}

module _ (sizes : Sizes) (account : Account) (bounds : AreBounds (bounds_for sizes account.steps)) (actor : ℕ) (operation : Operation) (runs : running sizes account actor operation) where
  abbrev state : State
  state = state_of sizes account

  pub safe : IsSafe state
  safe = safe_along (bounds_for sizes account.steps) bounds account.steps

  module _ (g : GoesOn (action_of state operation)) where
    abbrev pub then : State
    then = later sizes account bounds actor operation runs

    -- the state of the longer account
    abbrev pub after : State
    after = state_of sizes (gone_on actor account)

    abbrev steps : ℕ
    steps = more sizes account bounds actor operation runs g

    pub whole : after ≡ widened 1 steps then
    whole = after_is sizes account bounds actor operation runs g

    pub safe_then : IsSafe then
    safe_then = safe_after state safe (step.Go actor) _ then (moves sizes account bounds actor operation runs g)

    -- what is live then was live, or wasn't in use
    pub was_live : (r : Ref) → IsLive then r → IsLive state r ⊎ (standing state.heap r ≡ None)
    was_live r k = step_known state safe (λ id. Unit {0}) (step.Go actor) _ then (moves sizes account bounds actor operation runs g) (λ o e on. tt) k

    pub live_used : (r : Ref) → IsLive then r → IsInUse then.heap r
    live_used r k = known_used then safe_then (λ id. Unit {0}) k

    pub live_less : (r : Ref) → IsLive after r → IsLive then r
    live_less r k = live_in 1 steps then (subst (λ s. IsLive s r) whole k)

    pub roots_then : then.roots ≡ state.roots → after.roots ≡ state.roots
    roots_then e = ap (λ (s : State). s.roots) whole ∙ e

    pub generations_then : (n : ℕ) → then.generations ≡ n → after.generations ≡ n
    generations_then n e = ap (λ (s : State). s.generations) whole ∙ e

    module _ (h : Heap) (heap_is : then.heap ≡ h) where
      pub slot_then : (k : ℕ) → get_or after.heap.slots k None ≡ get_or h.slots k None
      slot_then k = ap (λ (s : State). get_or s.heap.slots k None) whole ∙ slot_in 1 steps then k ∙ ap (λ (x : Heap). get_or x.slots k None) heap_is

      pub births_then : after.heap.births ≡ h.births
      births_then = ap (λ (s : State). s.heap.births) whole ∙ ap (λ (x : Heap). x.births) heap_is

      -- where nothing comes to be in use
      pub live_then : ((r : Ref) → IsInUse h r → IsInUse state.heap r) → (r : Ref) → IsLive after r → IsLive state r
      live_then used r k = by (was_live r (live_less r k))
        where
          by : IsLive state r ⊎ (standing state.heap r ≡ None) → IsLive state r
          by (inl was) = was
          by (inr none) =
              let (slot, stood) = used r (subst (λ heap. IsInUse heap r) heap_is (live_used r (live_less r k))) in absurd (none-some slot (sym none ∙ stood))

    module _ (none : CompletesNone (action_of state operation)) where
      pub others_then : (a : ℕ) → a ≢ actor → operation_of after a ≡ operation_of state a
      others_then a apart = ap (λ s. operation_of s a) whole ∙ others state actor operation runs none a apart

      pub own_then : operation_of after actor ≡ Some (operation_after state operation)
      own_then = ap (λ s. operation_of s actor) whole ∙ own state actor operation runs none

      -- where it offers nothing
      module _ (attempt : attempt_after operation.attempt (action_of state operation) ≡ operation.attempt)
          (mark : mark_after operation.is_marked (action_of state operation) ≡ operation.is_marked) where
        same_try : try_of (operation_after state operation) ≡ try_of operation
        same_try =
            ap (λ n. record { id = operation.id; call = operation.call; opens = operation.opens; attempt = n; is_marked = mark_after operation.is_marked (action_of state operation) }) attempt
            ∙ ap (λ b. record { id = operation.id; call = operation.call; opens = operation.opens; attempt = operation.attempt; is_marked = b }) mark

        pub tries_stay : SameTries state after
        tries_stay a = elim (cases_eq a actor) [
          | inl its ↦
              ap (λ n. try_at after n) its ∙ ap (λ o. option_map try_of o) own_then ∙ ap Some same_try ∙ ap (λ o. option_map try_of o) (sym runs) ∙ ap (λ n. try_at state n) (sym its)
          | inr other ↦ ap (λ o. option_map try_of o) (others_then a other)
        ]

      pub aheads_then : (i a f : Ref) → IsAhead after i a f → IsAhead state i a f ⊎ ComesAhead state operation operation.line (i, a, f)
      aheads_then i a f x = aheads state actor operation runs none i a f (ahead_in 1 steps then i a f (subst (λ s. IsAhead s i a f) whole x))

      -- where it makes no node that is swapped in next
      pub no_more_then : ((i a : Ref) → over_of operation.line ≡ Some (i, a) → ⊥) → (i a f : Ref) → IsAhead after i a f → IsAhead state i a f
      no_more_then makes_none i a f x = elim (aheads_then i a f x) [ inl was ↦ was | inr comes ↦ absurd (makes_none i a comes.0) ]

      pub still_then : (i a f : Ref) → IsAhead state i a f → IsAhead after i a f ⊎ (ahead_of operation.line ≡ Some (i, a, f))
      still_then i a f x = elim (still state actor operation runs none i a f x) [
        | inl is ↦ inl (subst (λ s. IsAhead s i a f) (sym whole) (ahead_wide 1 steps then i a f is))
        | inr gone ↦ inr gone
      ]
