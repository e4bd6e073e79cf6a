-- What a step does to what handles hold: some handle holds it still, or a close lets its root go, or who offered finds what came of its offer.
use Rattle.std.proofs.Common.{◌≡◌, ◌⊎◌, inl, inr, ℕ, ◌==◌, ◌&&◌, Bool, true, false, List, [], ◌∷◌, Option, Some, None, refl, ap, ◌∙◌, eqb-true, if◌then◌else◌}
use Rattle.std.proofs.lemmas.Bool.{true≢false}
use Rattle.proof_claims.specs.Beneath.slot_arena.specs.declared.nodes.Prev.{Prev}
use Rattle.proof_claims.specs.Beneath.slot_arena.specs.declared.nodes.Prev.TheVariants as prev
use Rattle.proof_claims.specs.Beneath.slot_arena.specs.declared.refs.Ref.{Ref}
use Rattle.proof_claims.specs.Beneath.slot_arena.specs.Heaps.{main_at, next_ref, node_at, prev_at, refs_of_node, refs_of_option}
use Rattle.proof_claims.specs.Beneath.history.specs.declared.calls.Call.{Call}
use Rattle.proof_claims.specs.Beneath.history.specs.declared.calls.Call.TheVariants.{Close}
use Rattle.proof_claims.specs.Beneath.machine_model.specs.declared.actions.Action.{Action}
use Rattle.proof_claims.specs.Beneath.machine_model.specs.declared.actions.Action.TheVariants as act
use Rattle.proof_claims.specs.Beneath.machine_model.specs.declared.copying.CopyLine.TheVariants as copy
use Rattle.proof_claims.specs.Beneath.machine_model.specs.declared.lines.Line.{Line}
use Rattle.proof_claims.specs.Beneath.machine_model.specs.declared.lines.Line.TheVariants as line
use Rattle.proof_claims.specs.Beneath.machine_model.specs.declared.operations.Operation.{Operation}
use Rattle.proof_claims.specs.Beneath.machine_model.specs.declared.reading.Swap.{Swap}
use Rattle.proof_claims.specs.Beneath.machine_model.specs.declared.reading.SwapLine.{SwapLine}
use Rattle.proof_claims.specs.Beneath.machine_model.specs.declared.reading.SwapLine.TheVariants as swap
use Rattle.proof_claims.specs.Beneath.machine_model.specs.declared.roots.Complete.{Complete}
use Rattle.proof_claims.specs.Beneath.machine_model.specs.declared.roots.Descriptor.{Descriptor}
use Rattle.proof_claims.specs.Beneath.machine_model.specs.declared.steps.Step.{Step}
use Rattle.proof_claims.specs.Beneath.machine_model.specs.declared.steps.Step.TheVariants as step
use Rattle.proof_claims.specs.Beneath.machine_model.specs.Calls.{handle_of}
use Rattle.proof_claims.specs.Beneath.machine_model.specs.Operations.{action_of}
use Rattle.proof_claims.specs.Beneath.machine_model.specs.Reading.{Commits, Verdict, verdict}
use Rattle.proof_claims.specs.Beneath.machine_model.specs.States.{State, operation_of, root_of, word_at}
use Rattle.proof_claims.specs.Beneath.machine_model.specs.Swapping.{is_carried_out, is_plain}
use Rattle.proof_claims.specs.Beneath.proof_generations.proofs.Roots.Kept.{fresh_of}
use Rattle.proof_claims.specs.Held.{Change, Claim, Held, OfHandle, Stays, held_after, is_in, is_owned}
use Rattle.proof_claims.specs.Changes.{carried, change_by, change_giving_up, change_going, change_of, checks, completes, decides, fate_let_go, fate_taken_back, finds, freezes, given_up}
use Rattle.proof_claims.specs.Changes.{at_check, checks_at, lets_root_go, makes, no_change, offers, outcome_at, publishes}
use Rattle.proof_claims.specs.Claims.{Has}
use Rattle.proof_claims.proofs.Along.{stays}
use Rattle.proof_claims.proofs.Lists.{among}
use Rattle.proof_claims.proofs.TakenBack.{made_by}

-- some handle holds it
abbrev pub IsWithHandle : Held → Ref → Type 0
IsWithHandle held q = (g : ℕ) × Has held (OfHandle g) q

-- by this step a handle holds it no more
pub data HandleLetsGo (state : State) (q : Ref) : Step → Type 0 where
  closes : (actor handle : ℕ) (number : Option ℕ) → q ≡ root_of (word_at state handle) → HandleLetsGo state q (step.Begin actor (Close handle) number)
  finds_carried : (actor : ℕ) (operation : Operation) (offer : Descriptor) (main : Ref) (c : Complete) → operation_of state actor ≡ Some operation →
      action_of state operation ≡ act.Complete offer main → operation.line ≡ line.Copy (copy.Complete c) →
      (is_carried_out (word_at state (handle_of operation.call)) offer main ≡ true) ⊎ (operation.is_marked ≡ true) → q ≡ offer.root → HandleLetsGo state q (step.Go actor)
  finds_taken_back : (actor : ℕ) (operation : Operation) (offer : Descriptor) (main : Ref) (c : Complete) (x : Bool) → operation_of state actor ≡ Some operation →
      action_of state operation ≡ act.Complete offer main → operation.line ≡ line.Copy (copy.Complete c) → operation.is_marked ≡ false → fresh_of x offer ≡ Some q →
      HandleLetsGo state q (step.Go actor)

-- ---- changes that leave what handles hold

abbrev Leaves : Change → Type 0
Leaves change = (g : ℕ) (q : Ref) → change.fate (record { by = OfHandle g; on = q }) ≡ Stays (OfHandle g)

makes_leaves : (state : State) (held : Held) (operation : Operation) (names : List Ref) (made : Option Ref) → Leaves (makes state held operation names made)
makes_leaves state held operation names None g q = refl
makes_leaves state held operation names (Some x) g q = refl

publishes_leaves : (b : Bool) (private : List Ref) (i f : Ref) → Leaves (publishes b private i f)
publishes_leaves true private i f g q = refl
publishes_leaves false private i f g q = refl

decides_leaves : (own : Bool) (v : Verdict) (names : List Ref) (f p : Ref) → Leaves (decides own v names f p)
decides_leaves true Commits names f p g q = refl
decides_leaves true v names f p g q = refl
decides_leaves false v names f p g q = refl

pub checks_leaves : (own : Bool) (v : Prev) (s : Swap) → Leaves (checks own v s)
checks_leaves true prev.None s g q = refl
checks_leaves false prev.None s g q = refl
checks_leaves own (prev.Pending p) s g q = refl
checks_leaves own (prev.Failed p) s g q = refl

offers_leaves : (b : Bool) (private : List Ref) (handle : ℕ) (offer : Descriptor) → Leaves (offers b private handle offer)
offers_leaves true private handle offer g q = refl
offers_leaves false private handle offer g q = refl

module _ (state : State) (held : Held) (operation : Operation) where
  swap_leaves : (s : Swap) (l : SwapLine) → Leaves (at_check l (checks (is_owned held s.indirection s.replaced) (prev_at state.heap s.fresh) s))
  swap_leaves s swap.Check g q = checks_leaves (is_owned held s.indirection s.replaced) (prev_at state.heap s.fresh) s g q
  swap_leaves s l g q = refl

  look_leaves : (l : Line) → Leaves (checks_at state held l)
  look_leaves (line.Swap why s) g q = swap_leaves s s.line g q
  look_leaves l g q = refl

  action_leaves : (action : Action) → ((offer : Descriptor) (main : Ref) → action ≡ act.Complete offer main → ⊥) → Leaves (change_by state held operation action)
  action_leaves (act.Make node) other g q = makes_leaves state held operation (refs_of_node node) (next_ref state.heap) g q
  action_leaves (act.MakeRoot main) other g q = makes_leaves state held operation (main ∷ []) (next_ref state.heap) g q
  action_leaves (act.Publish i m f) other g q = publishes_leaves (main_at state.heap i == m) operation.private i f g q
  action_leaves (act.Decide i f p seen) other g q = decides_leaves (is_owned held i p) (verdict state.heap i f p seen) (refs_of_node (node_at state.heap f)) f p g q
  action_leaves (act.ReadPrev main) other g q = look_leaves operation.line g q
  action_leaves (act.Offer offer) other g q = offers_leaves (is_plain (word_at state (handle_of operation.call)) offer.root) operation.private (handle_of operation.call) offer g q
  action_leaves (act.Complete offer main) other g q = absurd (other offer main refl)
  action_leaves action other g q = refl

-- ---- an outcome

other_stays : (b : Bool) (c : Claim) → fate_let_go (b && false) c ≡ Stays c.by
other_stays true c = refl
other_stays false c = refl

module _ (state : State) (held : Held) (q : Ref) where
  -- where the claims stay
  stays_with : (change : Change) → Leaves change → IsWithHandle held q → IsWithHandle (held_after change held) q
  stays_with change leaves (g, has) = (g, stays change held (OfHandle g) (OfHandle g) q has (leaves g q))

  -- where a root is let go
  root_goes : (handle : ℕ) (root : Ref) → IsWithHandle held q → IsWithHandle (held_after (lets_root_go handle root) held) q ⊎ (q ≡ root)
  root_goes handle root (g, has) = by (q == root) refl
    where
      by : (b : Bool) → (q == root) ≡ b → IsWithHandle (held_after (lets_root_go handle root) held) q ⊎ (q ≡ root)
      by true e = inr (eqb-true q root e)
      by false e = inl (
        g,
        stays (lets_root_go handle root) held (OfHandle g) (OfHandle g) q has
            (ap (λ b. fate_let_go ((g == handle) && b) (record { by = OfHandle g; on = q })) e ∙ other_stays (g == handle) (record { by = OfHandle g; on = q })),
      )

  -- where a freeze is carried out
  freeze_goes : (handle : ℕ) (offer : Descriptor) (n : ℕ) (otherwise : Change) → IsWithHandle held q → IsWithHandle (held_after (freezes handle offer None (Some n) otherwise) held) q
  freeze_goes handle offer n otherwise (g, has) = by ((g == handle) && (q == offer.root)) refl
    where
      by : (b : Bool) → ((g == handle) && (q == offer.root)) ≡ b → IsWithHandle (held_after (freezes handle offer None (Some n) otherwise) held) q
      by true e = (n, stays (freezes handle offer None (Some n) otherwise) held (OfHandle g) (OfHandle n) q has (ap (λ b. if b then Stays (OfHandle n) else Stays (OfHandle g)) e))
      by false e = (g, stays (freezes handle offer None (Some n) otherwise) held (OfHandle g) (OfHandle g) q has (ap (λ b. if b then Stays (OfHandle n) else Stays (OfHandle g)) e))

  module _ (actor : ℕ) (operation : Operation) (offer : Descriptor) (main : Ref) (runs : operation_of state actor ≡ Some operation) (acts : action_of state operation ≡ act.Complete offer main)
      (before : IsWithHandle held q) where
    abbrev at : ℕ
    at = handle_of operation.call

    abbrev So : Change → Type 0
    So change = IsWithHandle (held_after change held) q ⊎ HandleLetsGo state q (step.Go actor)

    same : So no_change
    same = inl (stays_with no_change (λ g r. refl) before)

    module _ (c : Complete) (on : operation.line ≡ line.Copy (copy.Complete c)) where
      by_carried : (is_carried_out (word_at state at) offer main ≡ true) ⊎ (operation.is_marked ≡ true) → (second : Option Ref) (opens : Option ℕ) → So (carried at offer second opens)
      by_carried done second opens = by second opens
        where
          goes : So (lets_root_go at offer.root)
          goes = elim (root_goes at offer.root before) [ inl has ↦ inl has | inr old ↦ inr (finds_carried actor operation offer main c runs acts on done old) ]

          by : (second : Option Ref) (opens : Option ℕ) → So (carried at offer second opens)
          by (Some t) opens = goes
          by None None = goes
          by None (Some n) = same

      taken_back : operation.is_marked ≡ false → So (finds at offer false)
      taken_back unmarked = by (is_in (offer.successor ∷ refs_of_option offer.second) q) refl before
        where
          by : (b : Bool) → is_in (offer.successor ∷ refs_of_option offer.second) q ≡ b → IsWithHandle held q → So (finds at offer false)
          by true e (g, has) =
              let (x, is) = made_by offer q (among (offer.successor ∷ refs_of_option offer.second) q e) in
              inr (finds_taken_back actor operation offer main c x runs acts on unmarked is)
          by false e (g, has) = inl (g, stays (finds at offer false) held (OfHandle g) (OfHandle g) q has (fate_by e))
            where
              fate_by : is_in (offer.successor ∷ refs_of_option offer.second) q ≡ false →
                  fate_taken_back (offer.successor ∷ refs_of_option offer.second) (record { by = OfHandle g; on = q }) ≡ Stays (OfHandle g)
              fate_by e = rw e refl

    outcome : (b : Bool) → (b ≡ true → (is_carried_out (word_at state at) offer main ≡ true) ⊎ (operation.is_marked ≡ true)) → (b ≡ false → operation.is_marked ≡ false) → (l : Line) →
        operation.line ≡ l → So (outcome_at at offer l b)
    outcome true done none (line.Copy (copy.Complete c)) on = by_carried c on (done refl) offer.second offer.opens
    outcome false done none (line.Copy (copy.Complete c)) on = taken_back c on (none refl)
    outcome b done none l on = same

    by_out : (b : Bool) → is_carried_out (word_at state at) offer main ≡ b → So (completes b at offer operation)
    by_out false e = outcome operation.is_marked (λ m. inr m) (λ m. m) operation.line refl
    by_out true e = by offer.second offer.opens
      where
        not_frozen : So (outcome_at at offer operation.line true)
        not_frozen = outcome true (λ m. inl e) (λ m. absurd (true≢false m)) operation.line refl

        by : (second : Option Ref) (opens : Option ℕ) → So (freezes at offer second opens (outcome_at at offer operation.line true))
        by None (Some n) = inl (freeze_goes at offer n (outcome_at at offer operation.line true) before)
        by (Some t) opens = not_frozen
        by None None = not_frozen

    pub completed : So (change_by state held operation (act.Complete offer main))
    completed = by_out (is_carried_out (word_at state at) offer main) refl

  -- ---- each step

  abbrev After : Step → Type 0
  After s = IsWithHandle (held_after (change_of state held s) held) q ⊎ HandleLetsGo state q s

  begins : (actor : ℕ) (call : Call) (number : Option ℕ) → IsWithHandle held q → After (step.Begin actor call number)
  begins actor (Close handle) number before =
      elim (root_goes handle (root_of (word_at state handle)) before) [ inl has ↦ inl has | inr old ↦ inr (closes actor handle number old) ]
  begins actor call number before = inl (stays_with no_change (λ g r. refl) before)

  goes : (actor : ℕ) → IsWithHandle held q → After (step.Go actor)
  goes actor before = by (operation_of state actor) refl
    where
      by_action : (operation : Operation) → operation_of state actor ≡ Some operation → (action : Action) → action_of state operation ≡ action →
          IsWithHandle (held_after (change_by state held operation action) held) q ⊎ HandleLetsGo state q (step.Go actor)
      by_action operation runs (act.Complete offer main) acts = completed actor operation offer main runs acts before
      by_action operation runs action acts = inl (stays_with (change_by state held operation action) (action_leaves state held operation action (λ offer main e. let bad : ⊥ = cc e in bad)) before)

      by : (o : Option Operation) → operation_of state actor ≡ o → IsWithHandle (held_after (change_going state held o) held) q ⊎ HandleLetsGo state q (step.Go actor)
      by None runs = inl (stays_with no_change (λ g r. refl) before)
      by (Some operation) runs = by_action operation runs (action_of state operation) refl

  gives_up : (o : Option Operation) → IsWithHandle held q → IsWithHandle (held_after (change_giving_up o) held) q
  gives_up None before = stays_with no_change (λ g r. refl) before
  gives_up (Some operation) before = stays_with (given_up operation.private) (λ g r. refl) before

  pub with_handle_after : (s : Step) → IsWithHandle held q → After s
  with_handle_after (step.Begin actor call number) before = begins actor call number before
  with_handle_after (step.Go actor) before = goes actor before
  with_handle_after step.Sweep before = inl (stays_with no_change (λ g r. refl) before)
  with_handle_after (step.GiveUp actor) before = inl (gives_up (operation_of state actor) before)
