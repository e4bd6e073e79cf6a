-- What a seat's operation leads to stands, is no other operation's own, and wasn't retired long before the seat pinned itself.
use Rattle.history.specs.declared.calls.Call.{Call}
use Rattle.std.proofs.Common.{◌≡◌, ◌≤◌, ◌+◌, inl, inr, ℕ, suc, Contains, Some, sym, ap, subst, ◌∙◌, arith}
use Rattle.std.proofs.lemmas.Bool.{cases_eq}
use Rattle.std.proofs.lemmas.List.Elements.{Contains-append_left}
use mathlib.Core.Option.{some}
use lib.ListN.{get_elem?}
use Rattle.atomic_table.specs.Table as Table
use Rattle.machine_model.specs.Beneath.slot_arena.specs.declared.refs.Ref.{Ref}
use Rattle.machine_model.specs.Beneath.slot_arena.specs.Heaps.{node_at, refs_of_node, refs_of_prev, refs_of_slot, stored}
use Rattle.machine_model.specs.Beneath.slot_arena.specs.Refs.{slot_of}
use Rattle.machine_model.specs.declared.operations.Operation.{Operation}
use Rattle.machine_model.specs.Machine.{AreBounds}
use Rattle.machine_model.specs.States.{operation_of}
use Rattle.machine_model.specs.Calls.{handle_of}
use Rattle.machine_model.proofs.Fates.{place_of_actor}
use Rattle.proof_garbage.proofs.Private.{Others, private_along}
use Rattle.proof_garbage.specs.Beneath.proof_generations.proofs.Roots.OfLists.{has_handles_along}
use Rattle.proof_waiting.specs.Beneath.proof_slots.proofs.Unswept.Kept.{one_ref}
use Rattle.proof_memory.specs.Laws.{IsInUse}
use Rattle.lock_free.specs.declared.accounts.Account.{Account}
use Rattle.lock_free.specs.declared.rules.Pinned.{Pinned}
use Rattle.lock_free.specs.declared.rules.Retired.{Retired}
use Rattle.lock_free.specs.declared.rules.View.{View}
use Rattle.lock_free.specs.declared.sizes.Sizes.{Sizes}
use Rattle.lock_free.specs.Accounts.{bounds_for, running, state_of}
use Rattle.lock_free.specs.Holdings.{IsHere}
use Rattle.lock_free.specs.Live.{from_slot, IsKnown, IsLive}
use Rattle.lock_free.specs.Rules.{AreRetired, IsKept}
use Rattle.lock_free.proofs.BegunSince.{begun_since}
use Rattle.lock_free.proofs.GivenBack.{node_is}
use Rattle.lock_free.proofs.OneStep.Found.{live_used, slot_at}
use Rattle.lock_free.proofs.OneStep.Retired.{retired_used}
use Rattle.lock_free.proofs.Reclaimable.{more_known, unknown_since}

-- what a node names is known where that one is
pub named_known : (sizes : Sizes) (account : Account) → AreBounds (bounds_for sizes account.steps) → (P : ℕ → Type 0) (x k : Ref) → IsKnown (state_of sizes account) P x →
    IsInUse (state_of sizes account).heap x →
    Contains (refs_of_node (node_at (state_of sizes account).heap x)) k → IsKnown (state_of sizes account) P k
unfolding stored
named_known sizes account bounds P x k known used c =
    let state = state_of sizes account in
    let at = slot_at state.heap x used.0 used.1 in
    from_slot x k known
    (subst (λ s. Contains (refs_of_slot s) k) (sym at)
    (Contains-append_left (refs_of_node used.0.node) (refs_of_prev used.0.prev) k (subst (λ n. Contains (refs_of_node n) k) (node_is state x used.0 at) c)))

module _ (v : View) (s : Table.State Call View) (kept : IsKept v.sizes s) (id : ℕ) (at : get_elem? s.views id ≡ some v) (o : Operation) (runs : running v.sizes kept.account v.actor o) where
  pub led_pinned : (p : Pinned) × (v.pin ≡ Some p)
  led_pinned = let inside = (kept.seats id v at).entered (handle_of o.call) ((kept.seats id v at).calls o runs) in (inside.2.0, inside.2.1)

  module _ (k : Ref) (known : IsKnown (state_of v.sizes kept.account) (λ n. n ≡ o.id) k) where
    pub led_lives : IsLive (state_of v.sizes kept.account) k
    led_lives = more_known (state_of v.sizes kept.account) (λ n. n ≡ o.id) (λ n. Unit {0}) (λ n it. tt) known

    pub led_here : IsHere v.sizes kept.account kept.stands k
    led_here = (live_used v.sizes kept.account kept.bounds k led_lives, kept.nodes.live k led_lives)

    pub led_own : (a : ℕ) (operation : Operation) → operation_of (state_of v.sizes kept.account) a ≡ Some operation → Contains operation.private k → a ≡ v.actor
    led_own a operation its_runs c =
        let state = state_of v.sizes kept.account in
        let limits = bounds_for v.sizes kept.account.steps in
        let (j, its, at_j) = place_of_actor state a operation its_runs in
        let (n, own, at_n) = place_of_actor state v.actor o runs in
        elim (cases_eq operation.id o.id) [
          | inl same ↦ its ∙ ap suc ((has_handles_along limits kept.account.steps).0.ids.distinct j n operation o at_j at_n same) ∙ sym own
          | inr differs ↦
              absurd (private_along limits kept.bounds kept.account.steps j operation at_j k c
              (more_known state (λ m. m ≡ o.id) (Others operation.id) (λ m it e. differs (sym e ∙ it)) known))
        ]

    pub early_led : AreRetired v.sizes s.words s.views → (i : ℕ) (u : View) → get_elem? s.views i ≡ some u → (x : Retired) → Contains u.retired x → x.number ≡ slot_of k → (p : Pinned) →
        v.pin ≡ Some p → p.since ≤ x.stamp + 1
    early_led old i u e x c same p pinned =
        let is = (kept.seats i u e).retired x c in
        let idle = (kept.seats id v at).pinned_idle p pinned in
        let both = old.pins i id u v e at x c p pinned in
        let node_is_it = one_ref (state_of v.sizes kept.account).heap k is.was.node led_here.0 (retired_used v.sizes kept.account kept.bounds kept.quiet x is.was is.grown)
        (sym same ∙ sym is.was.number) in
        elim both.0 [
          | inl early ↦ omega (arith, early)
          | inr since ↦ elim both.1 [
            | inl near ↦ near
            | inr far ↦
                absurd (unknown_since v.sizes kept.account kept.bounds kept.quiet x is.was p.account since idle.grown far
                (subst (IsKnown (state_of v.sizes kept.account) (λ n. (state_of v.sizes p.account).begun ≤ n)) node_is_it
                (more_known (state_of v.sizes kept.account) (λ n. n ≡ o.id) (λ n. (state_of v.sizes p.account).begun ≤ n)
                (λ n it. subst (λ m. (state_of v.sizes p.account).begun ≤ m) (sym it) (begun_since v.sizes p.account kept.account kept.bounds idle.grown v.actor idle.idle o runs)) known)))
          ]
        ]
