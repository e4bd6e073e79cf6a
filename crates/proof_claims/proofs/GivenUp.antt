-- A step by which an operation gives up what it made and nobody met: that is dropped.
use Rattle.std.proofs.Common.{◌≡◌, ◌⊎◌, inl, inr, ℕ, Bool, true, false, List, [], ◌∷◌, ◌++◌, Contains, Some, cond, refl, sym, ap, subst, ◌∙◌, append-nil}
use Rattle.std.proofs.lemmas.Option.{same_Some}
use Rattle.proof_claims.specs.Beneath.slot_arena.specs.declared.refs.Ref.{Ref}
use Rattle.proof_claims.specs.Beneath.machine_model.specs.declared.lines.Line.TheVariants as line
use Rattle.proof_claims.specs.Beneath.machine_model.specs.declared.lines.Purpose.{Purpose}
use Rattle.proof_claims.specs.Beneath.machine_model.specs.declared.operations.Operation.{Operation}
use Rattle.proof_claims.specs.Beneath.machine_model.specs.declared.steps.Bounds.{Bounds}
use Rattle.proof_claims.specs.Beneath.machine_model.specs.declared.steps.Outcome.{Outcome}
use Rattle.proof_claims.specs.Beneath.machine_model.specs.declared.steps.Step.{Step}
use Rattle.proof_claims.specs.Beneath.machine_model.specs.declared.steps.Step.TheVariants as step
use Rattle.proof_claims.specs.Beneath.machine_model.specs.Machine.{AreBounds, is_taken_step, run}
use Rattle.proof_claims.specs.Beneath.machine_model.specs.Moves.{Moves}
use Rattle.proof_claims.specs.Beneath.machine_model.specs.States.{State, operation_of}
use Rattle.proof_claims.specs.Beneath.machine_model.specs.Swapping.{swapping}
use Rattle.proof_claims.specs.Beneath.machine_model.proofs.Fates.{place_of_actor}
use Rattle.proof_claims.specs.Beneath.proof_memory.specs.Laws.{IsInUse}
use Rattle.proof_claims.specs.Beneath.proof_memory.proofs.Safety.AtEachTime.{safe_along}
use Rattle.proof_claims.specs.Beneath.proof_garbage.specs.Live.{IsLive}
use Rattle.proof_claims.specs.Beneath.proof_garbage.proofs.GivenUp.{fresh_private}
use Rattle.proof_claims.specs.Beneath.proof_shape.proofs.Runs.RunOf.{comes_to}
use Rattle.proof_claims.specs.Held.{Change, Ends, Given, Held, OfHandle, OfNode, Stays, held_after, is_in, is_kept}
use Rattle.proof_claims.specs.Changes.{change_of, given_up}
use Rattle.proof_claims.specs.Claims.{Has, held_of}
use Rattle.proof_claims.specs.Clauses.{EachIsHeld}
use Rattle.proof_claims.specs.Dropped.{IsLetGo, WasDropped, unmet}
use Rattle.proof_claims.proofs.Along.{dropped_later, own_still, stays}
use Rattle.proof_claims.proofs.Frame.{roots_still, seconds_still, still_publishes, successors_still}
use Rattle.proof_claims.proofs.Lists.{among, found_in}
use Rattle.proof_claims.proofs.Quiet.{quiet_before, quiet_nodes}

module _ (limits : Bounds) (xs : List Step) (ok : AreBounds limits) (s : Step) (o : Outcome) (after : State) (m : Moves (run limits xs) s o after) (is_after : run limits (xs ++ s ∷ []) ≡ after)
    (h : EachIsHeld (run limits xs) (held_of limits xs) (WasDropped limits xs)) (actor : ℕ) (operation : Operation) (runs : operation_of (run limits xs) actor ≡ Some operation)
    (its : (s ≡ step.Go actor) ⊎ (s ≡ step.GiveUp actor)) (heap : after.heap ≡ (run limits xs).heap) (roots : after.roots ≡ (run limits xs).roots)
    (gives : change_of (run limits xs) (held_of limits xs) s ≡ given_up operation.private) (dead : (x : Ref) → Contains operation.private x → IsLive after x → ⊥) where
  abbrev state : State
  state = run limits xs

  abbrev held : Held
  held = held_of limits xs

  abbrev later : Held
  later = held_after (given_up operation.private) held

  abbrev Gone : Ref → Type 0
  Gone j = WasDropped limits xs j

  abbrev Lost : Ref → Type 0
  Lost j = WasDropped limits (xs ++ s ∷ []) j

  lost : (j : Ref) → Gone j → Lost j
  lost j gone = dropped_later limits xs s j gone

  private_used : (x : Ref) → Contains operation.private x → IsInUse state.heap x
  private_used x (i, within, at_i) =
      let (k, own, at_k) = place_of_actor state actor operation runs in
      subst (IsInUse state.heap) at_i ((safe_along limits ok xs).privates k operation at_k i x within)

  lets_go : (x : Ref) → Contains operation.private x → IsLetGo limits xs s x
  lets_go x c = record {
    taken = ap is_taken_step (comes_to state s o after m);
    lets = λ k. ap (λ (a : Change). is_kept (a.fate (record { by = OfNode x; on = k }))) gives
        ∙ ap (λ b. is_kept (cond b (cond (is_in operation.private k) Ends Given) (Stays (OfNode x)))) (found_in operation.private x c) ∙ none_kept (is_in operation.private k);
  }
    where
      none_kept : (b : Bool) → is_kept (cond b Ends Given) ≡ false
      none_kept true = refl
      none_kept false = refl

  lost_private : (x : Ref) → Contains operation.private x → Lost x
  lost_private x c =
      unmet xs s [] (sym (append-nil (xs ++ s ∷ []))) (lets_go x c) (subst (λ (y : State). IsInUse y.heap x) (sym is_after) (subst (λ y. IsInUse y x) (sym heap) (private_used x c)))
      (λ live. dead x c (subst (λ (y : State). IsLive y x) is_after live))

  its_own : (a : ℕ) → (s ≡ step.Go a) ⊎ (s ≡ step.GiveUp a) → a ≡ actor
  its_own a by = both a by its
    where
      both : (a : ℕ) → (s ≡ step.Go a) ⊎ (s ≡ step.GiveUp a) → (s ≡ step.Go actor) ⊎ (s ≡ step.GiveUp actor) → a ≡ actor
      both a (inl x) (inl y) = let e : step.Go a ≡ step.Go actor = sym x ∙ y in cc e
      both a (inl x) (inr y) = let e : step.Go a ≡ step.GiveUp actor = sym x ∙ y in let wrong : ⊥ = cc e in absurd wrong
      both a (inr x) (inl y) = let e : step.GiveUp a ≡ step.Go actor = sym x ∙ y in let wrong : ⊥ = cc e in absurd wrong
      both a (inr x) (inr y) = let e : step.GiveUp a ≡ step.GiveUp actor = sym x ∙ y in cc e

  own : (a : ℕ) (p : Operation) (why : Purpose) (i q f : Ref) → operation_of state a ≡ Some p → p.line ≡ line.Swap why (swapping i q f) → (s ≡ step.Go a) ⊎ (s ≡ step.GiveUp a) → Lost f
  own a p why i q f runs_a on by =
      let one : p ≡ operation = same_Some p operation (sym runs_a ∙ ap (operation_of state) (its_own a by) ∙ runs) in
      lost_private f (fresh_private limits xs ok actor operation runs i q f why (subst (λ (y : Operation). y.line ≡ line.Swap why (swapping i q f)) one on))

  by_own : (j k : Ref) (b : Bool) → is_in operation.private j ≡ b → Has held (OfNode j) k → Has later (OfNode j) k ⊎ Lost j
  by_own j k true e has = inr (lost_private j (among operation.private j e))
  by_own j k false e has = inl (stays (given_up operation.private) held (OfNode j) (OfNode j) k has (rw e refl))

  keeps : (j k : Ref) → Has held (OfNode j) k → Has later (OfNode j) k ⊎ Lost j
  keeps j k has = by_own j k (is_in operation.private j) refl has

  handles : (handle : ℕ) (r : Ref) → Has held (OfHandle handle) r → Has later (OfHandle handle) r
  handles handle r has = stays (given_up operation.private) held (OfHandle handle) (OfHandle handle) r has refl

  pub gives_up : EachIsHeld after later Lost
  gives_up = record {
    roots = roots_still state after held later Gone h roots handles;
    successors = successors_still state after held later Gone h roots handles;
    seconds = seconds_still state after held later Gone h roots handles;
    nodes = quiet_nodes state after held later Gone Lost h heap lost (own_still (given_up operation.private) held) (λ j k u n has. keeps j k has) (still_publishes state s o after m Lost own);
    before = quiet_before state after held later Gone Lost h heap lost (own_still (given_up operation.private) held) (λ j k u n has. keeps j k has) (still_publishes state s o after m Lost own);
  }
