-- What is left by the step that decides a pending main node, or finds that it was decided.
use Rattle.std.proofs.Common.{◌≡◌, ◌≢◌, ◌⊎◌, ℕ, Bool, true, false, Option, Some, None, get_or, refl, sym, ap, subst, ◌∙◌, inl, inr, if◌then◌else◌}
use Rattle.std.proofs.lemmas.Bool.{cases_eq, eqb-false}
use Rattle.machine_model.specs.Beneath.slot_arena.specs.declared.refs.Ref.{Ref}
use Rattle.machine_model.specs.Beneath.slot_arena.specs.declared.nodes.Prev.{Prev}
use Rattle.machine_model.specs.Beneath.slot_arena.specs.declared.nodes.Prev.TheVariants as prev
use Rattle.machine_model.specs.Beneath.slot_arena.specs.Heaps.{Heap, main_at, prev_at, with_prev}
use Rattle.machine_model.specs.Beneath.slot_arena.specs.Refs.{slot_of}
use Rattle.machine_model.specs.declared.actions.Action.TheVariants as act
use Rattle.machine_model.specs.declared.lines.Line.TheVariants as line
use Rattle.machine_model.specs.declared.operations.Operation.{Operation}
use Rattle.machine_model.specs.Acting.{acted, gone, decided, operation_after, attempt_after, mark_after}
use Rattle.machine_model.specs.Calls.{handle_of}
use Rattle.machine_model.specs.Machine.{AreBounds}
use Rattle.machine_model.specs.Moves.{GoesOn}
use Rattle.machine_model.specs.Operations.{action_of}
use Rattle.machine_model.specs.Reading.{verdict_by, is_licensed, is_pending}
use Rattle.machine_model.specs.States.{State, with_operation}
use Rattle.machine_model.specs.Swapping.{swapping}
use Rattle.machine_model.specs.declared.steps.Bounds.{Bounds}
use Rattle.machine_model.proofs.Found.{found_elsewhere}
use Rattle.machine_model.proofs.Grown.{prev_standing}
use Rattle.proof_memory.specs.Laws.{IsInUse}
use Rattle.proof_memory.specs.Wants.{AllHold, action_wants}
use Rattle.proof_memory.proofs.Claims.Uses.{safe_of}
use Rattle.proof_memory.proofs.Heap.Under.{prev_here, prev_other}
use Rattle.proof_memory.proofs.Safety.AtEachTime.{safe_along}
use Rattle.proof_memory.proofs.Safety.AtTimes.{action_finds}
use Rattle.proof_waiting.specs.Beneath.proof_slots.proofs.Unswept.Kept.{one_ref}
use Rattle.proof_garbage.proofs.Kept.{pending_is}
use Rattle.proof_garbage.proofs.Fresh.{deciding_over, deciding_stands, deciding_met}
use Rattle.lock_free.specs.declared.accounts.Account.{Account}
use Rattle.lock_free.specs.declared.sizes.Sizes.{Sizes}
use Rattle.lock_free.specs.Accounts.{bounds_for, state_of, running, gone_on}
use Rattle.lock_free.specs.Making.{over_of}
use Rattle.lock_free.specs.Nodes.{IsAhead}
use Rattle.lock_free.specs.Deciding.{Decides}
use Rattle.lock_free.specs.Steps.{Reads, nothing}
use Rattle.lock_free.specs.Trying.{SameTries, as_before}
use Rattle.lock_free.proofs.OneStep.Aheads.{ahead_of, over_makes, ahead_acts}
use Rattle.lock_free.proofs.OneStep.Changing.{then, slot_then, births_then, live_then, roots_then, generations_then, others_then, own_then, tries_stay, no_more_then, still_then}
use Rattle.lock_free.proofs.OneStep.Doing.{CompletesNone}
use Rattle.lock_free.proofs.OneStep.Found.{slot_at, ahead_used}
use Rattle.lock_free.proofs.OneStep.Going.{bounds_after}
use Rattle.lock_free.proofs.OneStep.Leading.{leads}

-- a prev word is written, and nothing else
pub prev_elsewhere : (heap : Heap) (m : Ref) (p : Prev) (k : ℕ) → k ≢ slot_of m → get_or (with_prev heap m p).slots k None ≡ get_or heap.slots k None
unfolding with_prev
prev_elsewhere heap m p k apart = found_elsewhere heap.slots (slot_of m) k _ apart

pub prev_births : (heap : Heap) (m : Ref) (p : Prev) → (with_prev heap m p).births ≡ heap.births
unfolding with_prev
prev_births heap m p = refl

pub prev_used : (heap : Heap) (m : Ref) (p : Prev) → IsInUse heap m → (r : Ref) → IsInUse (with_prev heap m p) r → IsInUse heap r
prev_used heap m p (was, stands) r (slot, now) = elim (cases_eq r m) [
  | inl same ↦ subst (IsInUse heap) (sym same) (was, stands)
  | inr apart ↦ (slot, sym (prev_other heap m p was stands r apart) ∙ now)
]

pending_so : (p : Prev) (q previous : Ref) → p ≡ prev.Pending q → q ≡ previous → is_pending p previous ≡ false → ⊥
pending_so p q previous pending same e = eqb-false q previous (sym (ap (λ x. is_pending x previous) pending) ∙ e) same

-- what a node comes to with this licence
abbrev pub decided_so : Bool → Ref → Prev
decided_so licensed previous = if licensed then prev.None else prev.Failed previous

decided_is : (heap : Heap) (main previous : Ref) (licensed : Bool) → decided heap main previous (verdict_by licensed true) ≡ with_prev heap main (decided_so licensed previous)
decided_is heap main previous true = refl
decided_is heap main previous false = refl

overtaken_is : (heap : Heap) (main previous : Ref) (licensed : Bool) → decided heap main previous (verdict_by licensed false) ≡ heap
overtaken_is heap main previous true = refl
overtaken_is heap main previous false = refl

either : (licensed : Bool) (previous : Ref) → (decided_so licensed previous ≡ prev.None) ⊎ (decided_so licensed previous ≡ prev.Failed previous)
either true previous = inl refl
either false previous = inr refl

module _ (sizes : Sizes) (account : Account) (bounds : AreBounds (bounds_for sizes account.steps)) (actor : ℕ) (operation : Operation) (runs : running sizes account actor operation)
    (i main replaced : Ref) (told : Option ℕ)
    (is : action_of (state_of sizes account) operation ≡ act.Decide i main replaced told) where
  abbrev state : State
  state = state_of sizes account

  abbrev limits : Bounds
  limits = bounds_for sizes account.steps

  abbrev put : State
  put = with_operation state actor (Some (operation_after state operation))

  abbrev licensed : Bool
  licensed = is_licensed state.heap i told

  g : GoesOn (action_of state operation)
  g = subst GoesOn (sym is) tt

  none : CompletesNone (action_of state operation)
  none = subst CompletesNone (sym is) tt

  gone_is : (b : Bool) → is_pending (prev_at state.heap main) replaced ≡ b → gone state actor operation ≡ record put { heap = decided state.heap main replaced (verdict_by licensed b) }
  gone_is b e = ap (acted put (handle_of operation.call)) is ∙ ap (λ c. record put { heap = decided state.heap main replaced (verdict_by licensed c) }) e

  tries : SameTries state (state_of sizes (gone_on actor account))
  tries = tries_stay sizes account bounds actor operation runs g none (ap (attempt_after operation.attempt) is) (ap (mark_after operation.is_marked) is)

  claims : AllHold (IsInUse state.heap) state.heap (action_wants (act.Decide i main replaced told))
  claims = subst (λ action. AllHold (IsInUse state.heap) state.heap (action_wants action)) is (action_finds state (safe_along limits bounds account.steps) actor operation runs)

  makes_none : (j a : Ref) → over_of operation.line ≡ Some (j, a) → ⊥
  makes_none j a over = let (node, made) = over_makes state operation operation.line (j, a) over in let both = sym made ∙ is in cc

  publishes_none : (j a f : Ref) → ahead_of operation.line ≡ Some (j, a, f) → ⊥
  publishes_none j a f ahead = let both = sym (ahead_acts state operation operation.line (j, a, f) ahead) ∙ is in cc

  used_main : IsInUse state.heap main
  used_main = safe_of claims.1.0

  -- nobody is about to swap it in
  pub not_ahead : (j a f : Ref) → IsAhead state j a f → slot_of f ≢ slot_of main
  not_ahead j a f h same =
      let is_main = one_ref state.heap f main (ahead_used sizes account bounds j a f h).2 used_main same in
      deciding_met limits account.steps bounds actor operation i main replaced told runs is h.actor h.operation j a h.why h.runs (h.on ∙ ap (λ x. line.Swap h.why (swapping j a x)) is_main)

  -- it was decided
  module _ (e : is_pending (prev_at state.heap main) replaced ≡ false) where
    same : gone state actor operation ≡ put
    same = gone_is false e ∙ ap (λ h. record put { heap = h }) (overtaken_is state.heap main replaced licensed)

    pub overtaken : Reads sizes account actor operation
    overtaken =
        leads sizes account bounds actor operation runs g none same nothing (λ r k. refl) (λ r h. refl) (λ x h g. refl) makes_none
        (λ j a f ahead standing. publishes_none j a f ahead) (as_before tries)

    pub not_pending : (p : Ref) → prev_at state.heap main ≡ prev.Pending p → ⊥
    not_pending p pending =
        pending_so (prev_at state.heap main) p replaced pending (deciding_over limits account.steps bounds actor operation i main replaced told runs is used_main p pending) e

  -- it is pending still
  module _ (e : is_pending (prev_at state.heap main) replaced ≡ true) where
    pending : prev_at state.heap main ≡ prev.Pending replaced
    pending = pending_is (prev_at state.heap main) replaced e

    pub stands : main_at state.heap i ≡ main
    stands = deciding_stands limits account.steps bounds actor operation i main replaced told runs is (safe_of claims.0) used_main replaced pending

    abbrev heap_then : Heap
    heap_then = with_prev state.heap main (decided_so licensed replaced)

    heap_is : ((then) sizes account bounds actor operation runs g).heap ≡ heap_then
    heap_is = ap (λ (s : State). s.heap) (gone_is true e) ∙ decided_is state.heap main replaced licensed

    pub decides : Decides sizes account actor operation main replaced
    decides = record {
      bounds = bounds_after sizes account bounds actor operation runs g;
      slot = used_main.0;
      is = slot_at state.heap main used_main.0 used_main.1;
      pending = sym (prev_standing state.heap main used_main.0 used_main.1) ∙ pending;
      verdict = decided_so licensed replaced;
      committed_or_failed = either licensed replaced;
      then_is = slot_then sizes account bounds actor operation runs g heap_then heap_is (slot_of main)
          ∙ slot_at heap_then main _ (prev_here state.heap main (decided_so licensed replaced) used_main.0 used_main.1);
      nodes = λ k apart. slot_then sizes account bounds actor operation runs g heap_then heap_is k ∙ prev_elsewhere state.heap main (decided_so licensed replaced) k apart;
      births = births_then sizes account bounds actor operation runs g heap_then heap_is ∙ prev_births state.heap main (decided_so licensed replaced);
      live = live_then sizes account bounds actor operation runs g heap_then heap_is (prev_used state.heap main (decided_so licensed replaced) used_main);
      roots = roots_then sizes account bounds actor operation runs g (ap (λ (s : State). s.roots) (gone_is true e));
      generations = generations_then sizes account bounds actor operation runs g state.generations (ap (λ (s : State). s.generations) (gone_is true e));
      others = others_then sizes account bounds actor operation runs g none;
      own = own_then sizes account bounds actor operation runs g none;
      tries = tries;
      aheads = no_more_then sizes account bounds actor operation runs g none makes_none;
      still = λ j a f x. elim (still_then sizes account bounds actor operation runs g none j a f x) [
        | inl is ↦ is
        | inr ahead ↦ absurd (publishes_none j a f ahead)
      ];
      not_ahead = not_ahead;
    }

  abbrev DecidesOrNot : Type 0
  DecidesOrNot =
      ((d : Decides sizes account actor operation main replaced) × (d.verdict ≡ (if licensed then prev.None else prev.Failed replaced)) × (main_at state.heap i ≡ main))
      ⊎ (Reads sizes account actor operation × ((p : Ref) → prev_at state.heap main ≡ prev.Pending p → ⊥) × ((j a f : Ref) → IsAhead state j a f → slot_of f ≢ slot_of main))

  by_pending : (b : Bool) → is_pending (prev_at state.heap main) replaced ≡ b → DecidesOrNot
  unfolding decides
  by_pending true e = inl (decides e, refl, stands e)
  by_pending false e = inr (overtaken e, not_pending e, not_ahead)

  -- deciding a main node that is pending still, which stands in the indirection, or one that was decided since
  pub decides_or_not : DecidesOrNot
  decides_or_not = by_pending (is_pending (prev_at state.heap main) replaced) refl
