-- A begin: a close lets its root go, any other call changes no claims.
use Rattle.std.proofs.Common.{◌≡◌, ◌⊎◌, inl, ℕ, Some, None, refl, sym, ap, ◌∙◌, ne_eqb}
use Rattle.std.proofs.lemmas.Option.{none-some}
use Rattle.proof_claims.specs.Beneath.slot_arena.specs.declared.refs.Ref.{Ref}
use Rattle.proof_claims.specs.Beneath.machine_model.specs.declared.lines.Line.TheVariants as line
use Rattle.proof_claims.specs.Beneath.machine_model.specs.declared.lines.Purpose.{Purpose}
use Rattle.proof_claims.specs.Beneath.machine_model.specs.declared.operations.Operation.{Operation}
use Rattle.proof_claims.specs.Beneath.machine_model.specs.declared.roots.Descriptor.{Descriptor}
use Rattle.proof_claims.specs.Beneath.machine_model.specs.declared.roots.Root.{Root}
use Rattle.proof_claims.specs.Beneath.machine_model.specs.declared.roots.RootWord.TheVariants.{Offer}
use Rattle.proof_claims.specs.Beneath.machine_model.specs.declared.steps.Outcome.{Outcome}
use Rattle.proof_claims.specs.Beneath.machine_model.specs.declared.steps.Step.{Step}
use Rattle.proof_claims.specs.Beneath.machine_model.specs.declared.steps.Step.TheVariants as step
use Rattle.proof_claims.specs.Beneath.machine_model.specs.Moves.{Moves}
use Rattle.proof_claims.specs.Beneath.machine_model.specs.States.{State, operation_of, root_at, root_of}
use Rattle.proof_claims.specs.Beneath.machine_model.specs.Swapping.{swapping}
use Rattle.proof_claims.specs.Held.{Change, Held, OfHandle, OfNode, held_after}
use Rattle.proof_claims.specs.Changes.{lets_root_go}
use Rattle.proof_claims.specs.Claims.{Has}
use Rattle.proof_claims.specs.Clauses.{EachIsHeld}
use Rattle.proof_claims.proofs.Along.{own_still, stays}
use Rattle.proof_claims.proofs.Frame.{still_publishes}
use Rattle.proof_claims.proofs.Quiet.{quiet_before, quiet_nodes}

-- A handle is taken away, which holds its root no more. No offer stands that is to open it: each such handle is another one.
module _ (state : State) (s : Step) (o : Outcome) (after : State) (m : Moves state s o after) (held : Held) (Gone Lost : Ref → Type 0) (h : EachIsHeld state held Gone)
    (lost : (j : Ref) → Gone j → Lost j)
    (own : (actor : ℕ) (operation : Operation) (why : Purpose) (i p f : Ref) → operation_of state actor ≡ Some operation → operation.line ≡ line.Swap why (swapping i p f) →
    (s ≡ step.Go actor) ⊎ (s ≡ step.GiveUp actor) → Lost f)
    (heap : after.heap ≡ state.heap) (closed : ℕ) (taken_away : root_at after closed ≡ None)
    (others : (g : ℕ) → (g ≡ closed → ⊥) → root_at after g ≡ root_at state g) (root : Ref)
    (unopened : (g : ℕ) (r : Root) (offer : Descriptor) (opens : ℕ) → root_at state g ≡ Some r → r.word ≡ Offer offer → offer.opens ≡ Some opens → opens ≡ closed → ⊥) where
  abbrev change : Change
  change = lets_root_go closed root

  abbrev later : Held
  later = held_after change held

  keeps : (j k : Ref) → Has held (OfNode j) k → Has later (OfNode j) k
  keeps j k has = stays change held (OfNode j) (OfNode j) k has refl

  other_keeps : (g : ℕ) (r : Ref) → (g ≡ closed → ⊥) → Has held (OfHandle g) r → Has later (OfHandle g) r
  other_keeps g r apart has = stays change held (OfHandle g) (OfHandle g) r has (rw (ne_eqb g closed apart) refl)

  still_open : (g : ℕ) (r : Root) → root_at after g ≡ Some r → (g ≡ closed → ⊥) × (root_at state g ≡ Some r)
  still_open g r e =
      let apart : g ≡ closed → ⊥ = λ same. none-some r (sym taken_away ∙ ap (root_at after) (sym same) ∙ e) in
      (apart, sym (others g apart) ∙ e)

  pub lets_go : EachIsHeld after later Lost
  lets_go = record {
    roots = λ g r e. let (apart, was) = still_open g r e in other_keeps g (root_of r.word) apart (h.roots g r was);
    successors = λ g r offer e w. let (apart, was) = still_open g r e in other_keeps g offer.successor apart (h.successors g r offer was w);
    seconds = λ g r offer opens second e w is_opens is_second.
        let (apart, was) = still_open g r e in other_keeps opens second (unopened g r offer opens was w is_opens) (h.seconds g r offer opens second was w is_opens is_second);
    nodes = quiet_nodes state after held later Gone Lost h heap lost (own_still change held) (λ j k u n has. inl (keeps j k has)) (still_publishes state s o after m Lost own);
    before = quiet_before state after held later Gone Lost h heap lost (own_still change held) (λ j k u n has. inl (keeps j k has)) (still_publishes state s o after m Lost own);
  }
