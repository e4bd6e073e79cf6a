-- What any step of an operation leaves that changes no node: operations but for their marks, and who is about to swap a node in.
use Rattle.std.proofs.Common.{◌≡◌, ◌≢◌, ◌<◌, ◌==◌, ℕ, Bool, true, false, Option, Some, None, refl, sym, ap, ◌∙◌, inl, inr, arith, ne_eqb, eq-eqb, if◌then◌else◌}
use Rattle.std.specs.Prelude.{option_map}
use Rattle.std.proofs.lemmas.Bool.{cases_eq}
use Rattle.std.proofs.lemmas.Option.{same_Some, none-some}
use Rattle.machine_model.specs.Beneath.slot_arena.specs.declared.refs.Ref.{Ref}
use Rattle.machine_model.specs.declared.operations.Operation.{Operation}
use Rattle.machine_model.specs.declared.steps.Step.TheVariants as step
use Rattle.machine_model.specs.Acting.{operation_after, attempt_after, mark_after}
use Rattle.machine_model.specs.Machine.{AreBounds}
use Rattle.machine_model.specs.Moves.{GoesOn}
use Rattle.machine_model.specs.Operations.{action_of}
use Rattle.machine_model.specs.States.{State, operation_of}
use Rattle.machine_model.proofs.Actors.{mark_one, marks_by}
use Rattle.proof_commits.proofs.Known.StepsAt.{after_mark, go_own, go_others}
use Rattle.proof_garbage.specs.Beneath.proof_generations.proofs.Handles.Running.{place_of_actor}
use Rattle.lock_free.specs.declared.accounts.Account.{Account}
use Rattle.lock_free.specs.declared.sizes.Sizes.{Sizes}
use Rattle.lock_free.specs.Accounts.{bounds_for, state_of, running, gone_on}
use Rattle.lock_free.specs.Making.{over_of}
use Rattle.lock_free.specs.Nodes.{IsAhead}
use Rattle.lock_free.specs.Offering.{LeavesNodes}
use Rattle.lock_free.specs.Trying.{try_of, try_at}
use Rattle.lock_free.proofs.OneStep.Aheads.{ahead_of, comes_ahead}
use Rattle.lock_free.proofs.OneStep.Changing.{whole, slot_then, births_then, live_then, generations_then}
use Rattle.lock_free.proofs.OneStep.Reached.{reached_left}
use Rattle.lock_free.proofs.OneStep.Going.{more, later, bounds_after}

-- ---- an operation once some are marked

pub marked_some : (m : Option ℕ) (o : Operation) → after_mark m (Some o) ≡ Some (mark_one m o)
marked_some None o = refl
marked_some (Some id) o = refl

pub marked_from : (m : Option ℕ) (x : Option Operation) (found : Operation) → after_mark m x ≡ Some found → (p : Operation) × (x ≡ Some p) × (found ≡ mark_one m p)
marked_from None x found e = (found, e, refl)
marked_from (Some id) None found e = absurd (none-some found e)
marked_from (Some id) (Some p) found e = (p, refl, sym (same_Some _ _ e))

marked_line_by : (b : Bool) (p : Operation) → (if b then record p { is_marked = true } else p).line ≡ p.line
marked_line_by true p = refl
marked_line_by false p = refl

pub marked_line : (m : Option ℕ) (p : Operation) → (mark_one m p).line ≡ p.line
marked_line None p = refl
marked_line (Some id) p = marked_line_by (p.id == id) p

-- it is the one that is marked, or stays
pub marked_its : (id : ℕ) (p : Operation) → p.id ≡ id → mark_one (Some id) p ≡ record p { is_marked = true }
marked_its id p same = ap (λ b. if b then record p { is_marked = true } else p) (eq-eqb p.id id same)

pub marked_else : (m : Option ℕ) (p : Operation) → ((id : ℕ) → m ≡ Some id → p.id ≢ id) → mark_one m p ≡ p
marked_else None p other = refl
marked_else (Some id) p other = ap (λ b. if b then record p { is_marked = true } else p) (ne_eqb p.id id (other id refl))

try_unmarked : (m : Option ℕ) (x : Option Operation) → ((o : Operation) → x ≡ Some o → (id : ℕ) → m ≡ Some id → o.id ≢ id) → option_map try_of (after_mark m x) ≡ option_map try_of x
try_unmarked None x other = refl
try_unmarked (Some id) None other = refl
try_unmarked (Some id) (Some p) other = ap (λ o. Some (try_of o)) (marked_else (Some id) p (other p refl))

-- ---- a step

module _ (sizes : Sizes) (account : Account) (bounds : AreBounds (bounds_for sizes account.steps)) (actor : ℕ) (operation : Operation) (runs : running sizes account actor operation)
    (g : GoesOn (action_of (state_of sizes account) operation)) where
  abbrev state : State
  state = state_of sizes account

  abbrev after : State
  after = state_of sizes (gone_on actor account)

  abbrev steps : ℕ
  steps = more sizes account bounds actor operation runs g

  abbrev pub marks : Option ℕ
  marks = marks_by state (Some operation)

  positive : 0 < actor
  positive = let place = place_of_actor state actor operation runs in omega (arith, place.1)

  pub other_marked : (a : ℕ) → a ≢ actor → operation_of after a ≡ after_mark marks (operation_of state a)
  other_marked a differs = ap (λ s. operation_of s a) (whole sizes account bounds actor operation runs g) ∙ go_others state actor operation positive a differs

  pub own_marked : operation_of after actor ≡ Some (mark_one marks (operation_after state operation))
  own_marked = ap (λ s. operation_of s actor) (whole sizes account bounds actor operation runs g) ∙ go_own state actor operation runs ∙ marked_some marks (operation_after state operation)

  -- who is ahead then was ahead before, and the other way round, where the operation is to make and swap in nothing
  module _ (makes_none : (i a : Ref) → over_of operation.line ≡ Some (i, a) → ⊥) (publishes_none : (i a f : Ref) → ahead_of operation.line ≡ Some (i, a, f) → ⊥) where
    pub aheads_marked : (i a f : Ref) → IsAhead after i a f → IsAhead state i a f
    aheads_marked i a f h = elim (cases_eq h.actor actor) [
      | inl own ↦
          (let is = same_Some _ _ (sym own_marked ∙ ap (operation_of after) (sym own) ∙ h.runs) in
          absurd (makes_none i a (comes_ahead state operation operation.line (i, a, f)
          (ap ahead_of (sym (marked_line marks (operation_after state operation))) ∙ ap (λ (o : Operation). ahead_of o.line) is ∙ ap ahead_of h.on)).0))
      | inr other ↦
          (let p = marked_from marks (operation_of state h.actor) h.operation (sym (other_marked h.actor other) ∙ h.runs) in
          record { actor = h.actor; operation = p.0; runs = p.1; why = h.why; on = sym (marked_line marks p.0) ∙ ap (λ (o : Operation). o.line) (sym p.2) ∙ h.on })
    ]

    pub still_marked : (i a f : Ref) → IsAhead state i a f → IsAhead after i a f
    still_marked i a f h = elim (cases_eq h.actor actor) [
      | inl own ↦
          (let is = same_Some _ _ (sym runs ∙ ap (operation_of state) (sym own) ∙ h.runs) in
          absurd (publishes_none i a f (ap (λ (o : Operation). ahead_of o.line) is ∙ ap ahead_of h.on)))
      | inr other ↦ record {
        actor = h.actor;
        operation = mark_one marks h.operation;
        runs = other_marked h.actor other ∙ ap (after_mark marks) h.runs ∙ marked_some marks h.operation;
        why = h.why;
        on = marked_line marks h.operation ∙ h.on;
      }
    ]

    -- no node changes
    module _ (heap_is : (later sizes account bounds actor operation runs).heap ≡ state.heap) (generations : (later sizes account bounds actor operation runs).generations ≡ state.generations) where
      pub leaves_by : LeavesNodes sizes account (gone_on actor account)
      leaves_by = record {
        bounds = bounds_after sizes account bounds actor operation runs g;
        nodes = slot_then sizes account bounds actor operation runs g state.heap heap_is;
        births = births_then sizes account bounds actor operation runs g state.heap heap_is;
        live = live_then sizes account bounds actor operation runs g state.heap heap_is (λ r u. u);
        reached = λ r h. reached_left sizes account (gone_on actor account) bounds (step.Go actor) refl (live_then sizes account bounds actor operation runs g state.heap heap_is (λ q u. u)) r h;
        generations = generations_then sizes account bounds actor operation runs g state.generations generations;
        aheads = aheads_marked;
        still = still_marked;
      }

  -- ---- tries

  -- where it offers nothing
  module _ (attempt : attempt_after operation.attempt (action_of state operation) ≡ operation.attempt) (mark : mark_after operation.is_marked (action_of state operation) ≡ operation.is_marked) where
    pub same_try : try_of (operation_after state operation) ≡ try_of operation
    same_try =
        ap (λ n. record { id = operation.id; call = operation.call; opens = operation.opens; attempt = n; is_marked = mark_after operation.is_marked (action_of state operation) }) attempt
        ∙ ap (λ b. record { id = operation.id; call = operation.call; opens = operation.opens; attempt = operation.attempt; is_marked = b }) mark

    -- who isn't marked is in the same try
    pub try_else : (a : ℕ) → ((o : Operation) → operation_of state a ≡ Some o → (id : ℕ) → marks ≡ Some id → o.id ≢ id) → try_at after a ≡ try_at state a
    try_else a unmarked = elim (cases_eq a actor) [
      | inl own ↦
          ap (λ n. try_at after n) own ∙ ap (λ o. option_map try_of o) own_marked
          ∙ ap (λ o. Some (try_of o)) (marked_else marks (operation_after state operation) (λ id is. unmarked operation (ap (operation_of state) own ∙ runs) id is)) ∙ ap Some same_try
          ∙ ap (λ o. option_map try_of o) (sym runs) ∙ ap (λ n. try_at state n) (sym own)
      | inr other ↦ ap (λ o. option_map try_of o) (other_marked a other) ∙ try_unmarked marks (operation_of state a) unmarked
    ]
