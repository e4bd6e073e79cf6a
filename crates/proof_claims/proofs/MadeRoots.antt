-- What a copy has made for its offer is private to it, or some handle holds it, until the offer is carried out or the copy finds that it was taken back.
use Rattle.std.proofs.Common.{◌≡◌, ◌⊎◌, inl, inr, ℕ, suc, ◌==◌, Bool, true, false, List, Contains, Option, Some, None, is_some, refl, sym, ap, subst, ◌∙◌}
use Rattle.std.proofs.lemmas.Bool.{true≢false}
use Rattle.proof_claims.specs.Beneath.history.specs.declared.calls.Call.TheVariants.{Close}
use Rattle.proof_claims.specs.Beneath.slot_arena.specs.declared.refs.Ref.{Ref}
use Rattle.proof_claims.specs.Beneath.slot_arena.specs.Heaps.{generation_at}
use Rattle.proof_claims.specs.Beneath.machine_model.specs.declared.actions.Action.TheVariants as act
use Rattle.proof_claims.specs.Beneath.machine_model.specs.declared.copying.CopyLine.TheVariants as copy
use Rattle.proof_claims.specs.Beneath.machine_model.specs.declared.lines.Line.TheVariants as line
use Rattle.proof_claims.specs.Beneath.machine_model.specs.declared.operations.Operation.{Operation}
use Rattle.proof_claims.specs.Beneath.machine_model.specs.declared.roots.Complete.{Complete}
use Rattle.proof_claims.specs.Beneath.machine_model.specs.declared.roots.Descriptor.{Descriptor}
use Rattle.proof_claims.specs.Beneath.machine_model.specs.declared.roots.Root.{Root}
use Rattle.proof_claims.specs.Beneath.machine_model.specs.declared.steps.Bounds.{Bounds}
use Rattle.proof_claims.specs.Beneath.machine_model.specs.declared.steps.Outcome.{Outcome}
use Rattle.proof_claims.specs.Beneath.machine_model.specs.declared.steps.Step.{Step}
use Rattle.proof_claims.specs.Beneath.machine_model.specs.declared.steps.Step.TheVariants as step
use Rattle.proof_claims.specs.Beneath.machine_model.specs.Calls.{handle_of, opens_handle}
use Rattle.proof_claims.specs.Beneath.machine_model.specs.Machine.{AreBounds, run}
use Rattle.proof_claims.specs.Beneath.machine_model.specs.Moves.{Begins, Ends, Goes, GivesUp, Moves, Sweeps}
use Rattle.proof_claims.specs.Beneath.machine_model.specs.Operations.{action_of, line_action}
use Rattle.proof_claims.specs.Beneath.machine_model.specs.Records.{record_of}
use Rattle.proof_claims.specs.Beneath.machine_model.specs.States.{State, operation_of, root_at, root_of, word_at, word_of}
use Rattle.proof_claims.specs.Beneath.machine_model.specs.Swapping.{is_carried_out, stands_in}
use Rattle.proof_claims.specs.Beneath.machine_model.proofs.Fates.{place_of_actor}
use Rattle.proof_claims.specs.Beneath.machine_model.proofs.Times.{run_ends, run_is}
use Rattle.proof_claims.specs.Beneath.proof_memory.proofs.Safety.Base.{handle_given}
use Rattle.proof_claims.specs.Beneath.proof_generations.specs.Running.{Runs}
use Rattle.proof_claims.specs.Beneath.proof_generations.specs.Laws.Roots.{settles}
use Rattle.proof_claims.specs.Beneath.proof_generations.proofs.Offers.Same.{same_offer as honest}
use Rattle.proof_claims.specs.Beneath.proof_generations.proofs.Roots.Along.{ordered_along}
use Rattle.proof_claims.specs.Beneath.proof_generations.proofs.Roots.Kept.{fresh_in, fresh_of}
use Rattle.proof_claims.specs.Beneath.proof_generations.proofs.Roots.OfLists.{has_handles_along}
use Rattle.proof_claims.specs.Beneath.proof_generations.proofs.Roots.Own.{IsUnused}
use Rattle.proof_claims.specs.Beneath.proof_order.proofs.Openings.Branches.{IsCleared}
use Rattle.proof_claims.specs.Held.{Held}
use Rattle.proof_claims.specs.Claims.{held_of}
use Rattle.proof_claims.proofs.CarriedBefore.{swapped}
use Rattle.proof_claims.proofs.HandleClaims.{IsWithHandle, HandleLetsGo, closes, finds_carried, finds_taken_back}
use Rattle.proof_claims.proofs.Lists.{both_true}
use Rattle.proof_claims.proofs.OldRoot.{no_fresh}
use Rattle.proof_claims.proofs.Rooting.{offer_open}
use Rattle.proof_claims.proofs.TakenBack.{its_line}

-- it is private, or some handle holds it
abbrev pub IsKept : List Ref → Held → Ref → Type 0
IsKept private held q = Contains private q ⊎ IsWithHandle held q

-- what is so of a running operation whose offer isn't carried out yet: of its roots, of the branch over which a clear is to make its root, and of the handle that a copy is to open
pub record IsKeeping (operation : Operation) (held : Held) : Type 0 where
  pub roots : operation.is_marked ≡ false → (x : Bool) (q : Ref) → fresh_in x operation.line ≡ Some q → IsKept operation.private held q
  pub branch : (b : Ref) → IsCleared operation.line b → Contains operation.private b
  pub number : is_some operation.opens ≡ opens_handle operation.call

abbrev pub AllKeep : State → Held → Type 0
AllKeep state held = (k : ℕ) (operation : Operation) → Runs state k operation → IsKeeping operation held

-- a close begins where the handle is open
begin_open : (state : State) (s : Step) (o : Outcome) (after : State) → Moves state s o after → (actor handle : ℕ) (number : Option ℕ) → s ≡ step.Begin actor (Close handle) number →
    is_some (root_at state handle) ≡ true
begin_open state s o after (Begins {actor} {call} {number} d) a handle n e =
    let same : call ≡ Close handle = cc e in
    ap (λ c. is_some (root_at state (handle_of c))) (sym same) ∙ handle_given state actor call number d
begin_open state s o after (Goes d runs acts g) a handle n e = let bad : ⊥ = cc e in absurd bad
begin_open state s o after (Ends d runs acts) a handle n e = let bad : ⊥ = cc e in absurd bad
begin_open state s o after (Sweeps spent) a handle n e = let bad : ⊥ = cc e in absurd bad
begin_open state s o after (GivesUp d runs may) a handle n e = let bad : ⊥ = cc e in absurd bad

module _ (limits : Bounds) (ok : AreBounds limits) (xs : List Step) where
  abbrev state : State
  state = run limits xs

  abbrev held : Held
  held = held_of limits xs

  -- ---- no step of another lets a root go that is still to be offered or carried out

  module _ (k : ℕ) (was : Operation) (runs : Runs (run limits xs) k was) (unmarked : was.is_marked ≡ false) (x : Bool) (q : Ref) (has : fresh_in x was.line ≡ Some q) where
    unused : IsUnused state (record_of limits xs) (generation_at state.heap q)
    unused = (ordered_along limits ok xs).roots.fresh k was x q runs unmarked has

    no_root : (handle : ℕ) (root : Root) → root_at state handle ≡ Some root → q ≡ root_of root.word → ⊥
    no_root handle root e same = unused.alone handle root e (ap (generation_at state.heap) (sym same))

    not_closed : (handle : ℕ) → is_some (root_at state handle) ≡ true → q ≡ root_of (word_at state handle) → ⊥
    not_closed handle is_open same = by (root_at state handle) refl is_open
      where
        by : (r : Option Root) → root_at state handle ≡ r → is_some r ≡ true → ⊥
        by None e some = true≢false (sym some)
        by (Some root) e some = no_root handle root e (same ∙ ap (λ r. root_of (word_of r)) e)

    not_carried : (actor : ℕ) (operation : Operation) (offer : Descriptor) (main : Ref) → operation_of state actor ≡ Some operation → action_of state operation ≡ act.Complete offer main →
        is_carried_out (word_at state (handle_of operation.call)) offer main ≡ true → q ≡ offer.root → ⊥
    not_carried actor operation offer main runs_now acts out same =
        let stands = (both_true (stands_in (word_at state (handle_of operation.call)) offer) (main == offer.expected) out).0 in
        let word = honest state (has_handles_along limits xs).0 actor operation offer runs_now (ap settles acts) (handle_of operation.call) stands in
        let (root, e, is) = offer_open (root_at state (handle_of operation.call)) offer word in
        no_root (handle_of operation.call) root e (same ∙ ap root_of (sym is))

    not_marked : (actor : ℕ) (operation : Operation) (offer : Descriptor) (main : Ref) (c : Complete) → operation_of state actor ≡ Some operation →
        action_of state operation ≡ act.Complete offer main → operation.line ≡ line.Copy (copy.Complete c) → operation.is_marked ≡ true → q ≡ offer.root → ⊥
    not_marked actor operation offer main c runs_now acts on marked same =
        no_fresh (run_is limits xs ok) offer (swapped limits ok xs actor operation offer main runs_now acts c on marked) k was x q
        (subst (λ (s : State). Runs s k was) (sym (run_ends limits xs)) runs) unmarked has same

    not_taken_back : (actor : ℕ) (operation : Operation) (offer : Descriptor) (main : Ref) (c : Complete) (y : Bool) → operation_of state actor ≡ Some operation →
        action_of state operation ≡ act.Complete offer main → operation.line ≡ line.Copy (copy.Complete c) → operation.is_marked ≡ false → fresh_of y offer ≡ Some q → actor ≡ suc k
    not_taken_back actor operation offer main c y runs_now acts on unmarked_too is =
        let (j, place, at_j) = place_of_actor state actor operation runs_now in
        let its = (its_line c offer main (ap (line_action state operation) (sym on) ∙ acts)).0 in
        let fresh = ap (fresh_in y) on ∙ ap (fresh_of y) its ∙ is in
        let one = (ordered_along limits ok xs).roots.fresh_apart j k y x q q (record { operation = operation; runs = at_j; unmarked = unmarked_too; its = fresh })
        (record { operation = was; runs = runs; unmarked = unmarked; its = has }) refl in
        place ∙ ap suc one.0

    -- so only its own operation may
    pub lets_go_own : (s : Step) (o : Outcome) (after : State) → Moves state s o after → HandleLetsGo state q s → s ≡ step.Go (suc k)
    lets_go_own s o after m (closes actor handle number same) = absurd (not_closed handle (begin_open state s o after m actor handle number refl) same)
    lets_go_own s o after m (finds_carried actor operation offer main c runs_now acts on (inl out) same) = absurd (not_carried actor operation offer main runs_now acts out same)
    lets_go_own s o after m (finds_carried actor operation offer main c runs_now acts on (inr marked) same) = absurd (not_marked actor operation offer main c runs_now acts on marked same)
    lets_go_own s o after m (finds_taken_back actor operation offer main c y runs_now acts on unmarked_too is) =
        ap (λ a. step.Go a) (not_taken_back actor operation offer main c y runs_now acts on unmarked_too is)
