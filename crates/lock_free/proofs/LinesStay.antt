-- What an operation has made and nothing names yet its seat holds after a step too.
use Rattle.history.specs.declared.calls.Call.{Call}
use Rattle.std.proofs.Common.{◌≡◌, ◌≢◌, ◌≤◌, inl, inr, ℕ, List, [], ◌∷◌, Contains, Option, Some, None, set, refl, sym, ap, subst, ◌∙◌, arith}
use Rattle.std.proofs.lemmas.Option.{none-some, same_Some}
use mathlib.Core.Option.{some}
use lib.ListN.{get_elem?}
use Rattle.atomic_table.proofs.Lists.{at_set}
use Rattle.atomic_table.specs.Table as Table
use Rattle.machine_model.specs.Beneath.slot_arena.specs.declared.refs.Ref.{Ref}
use Rattle.machine_model.specs.declared.operations.Operation.{Operation}
use Rattle.machine_model.specs.Acting.{operation_after}
use Rattle.machine_model.specs.Calls.{handle_of}
use Rattle.machine_model.specs.Machine.{AreBounds}
use Rattle.machine_model.specs.Operations.{action_of}
use Rattle.machine_model.specs.States.{operation_of}
use Rattle.lock_free.specs.declared.accounts.Account.{Account}
use Rattle.lock_free.specs.declared.rules.View.{View}
use Rattle.lock_free.specs.declared.sizes.Sizes.{Sizes}
use Rattle.lock_free.specs.Accounts.{bounds_for, state_of}
use Rattle.lock_free.specs.Claims.{HoldsAll}
use Rattle.lock_free.specs.Counts.{how_often}
use Rattle.lock_free.specs.OwesAt.{owes_at}
use Rattle.lock_free.specs.Rules.{HasActor, IsKept}
use Rattle.lock_free.proofs.Idle.{empty_has}
use Rattle.lock_free.proofs.LinesOwe.{NoneMade, owes_less}
use Rattle.lock_free.proofs.OwesPrivate.{key_none, owes_private}

-- others owe no more, and what its own owes then the seat holds
pub record LinesStay (sizes : Sizes) (before after : Account) (v w : View) : Type 0 where
  pub others : (a : ℕ) → a ≢ v.actor → (o : Operation) → operation_of (state_of sizes after) a ≡ Some o →
      (p : Operation) × (operation_of (state_of sizes before) a ≡ Some p) × HoldsAll (owes_at o) (owes_at p)
  pub own : (o : Operation) → operation_of (state_of sizes after) v.actor ≡ Some o → HoldsAll (owes_at o) w.owed

module _ (sizes : Sizes) (s : Table.State Call View) (kept : IsKept sizes s) (id : ℕ) (v : View) (at : get_elem? s.views id ≡ some v) where
  -- no other seat has its actor
  pub other_actor : (other : ℕ) (x : View) → get_elem? s.views other ≡ some x → (other ≡ id → ⊥) → x.actor ≢ v.actor
  other_actor other x e apart same =
      apart (kept.alone other id x v x.actor e at (omega arith, (kept.seats other x e).top) (subst (HasActor v) (sym same) (omega arith, (kept.seats id v at).top)))

  module _ (after : Account) (w : View) (actor : w.actor ≡ v.actor) (stay : LinesStay sizes kept.account after v w) where
    pub lines_then : (other : ℕ) (x : View) → get_elem? (set s.views id w) other ≡ some x → (o : Operation) → operation_of (state_of sizes after) x.actor ≡ Some o → HoldsAll (owes_at o) x.owed
    lines_then other x e o runs k = elim (at_set s.views id other w x e) [
      | inl p ↦
          subst (λ (y : View). how_often k (owes_at o) ≤ how_often k y.owed) p.1
          (stay.own o (subst (λ a. operation_of (state_of sizes after) a ≡ Some o) (ap (λ (y : View). y.actor) (sym p.1) ∙ actor) runs) k)
      | inr p ↦
          (let q = stay.others x.actor (other_actor other x p.1 p.0) o runs in
          let old = kept.held.lines other x p.1 q.0 q.1 k in
          let less = q.2 k in omega (arith, old, less))
    ]

  -- who isn't pinned runs nothing
  pub unpinned_idle : v.pin ≡ None → operation_of (state_of sizes kept.account) v.actor ≡ None
  unpinned_idle unpinned = by (operation_of (state_of sizes kept.account) v.actor) refl
    where
      by : (found : Option Operation) → operation_of (state_of sizes kept.account) v.actor ≡ found → operation_of (state_of sizes kept.account) v.actor ≡ None
      by None e = e
      by (Some o) e =
          let seat = kept.seats id v at in
          let inside = seat.entered (handle_of o.call) (seat.calls o e) in absurd (none-some inside.2.0 (sym unpinned ∙ inside.2.1))

  -- ---- how it comes

  module _ (after : Account) (w : View) where
    abbrev SameOthers : Type 0
    SameOthers = (a : ℕ) → a ≢ v.actor → operation_of (state_of sizes after) a ≡ operation_of (state_of sizes kept.account) a

    others_so : SameOthers → (a : ℕ) → a ≢ v.actor → (o : Operation) → operation_of (state_of sizes after) a ≡ Some o →
        (p : Operation) × (operation_of (state_of sizes kept.account) a ≡ Some p) × HoldsAll (owes_at o) (owes_at p)
    others_so same a differs o e = (o, sym (same a differs) ∙ e, λ k. omega arith)

    -- its own has gone on, and owes no more; the seat holds what it held
    pub lines_went : SameOthers → (was next : Operation) → operation_of (state_of sizes kept.account) v.actor ≡ Some was → operation_of (state_of sizes after) v.actor ≡ Some next →
        HoldsAll (owes_at next) (owes_at was) → w.owed ≡ v.owed → LinesStay sizes kept.account after v w
    lines_went same was next ran runs less owed = record {
      others = others_so same;
      own = λ o e k.
          (let old = kept.held.lines id v at was ran k in
          let fewer = less k in
          let its = ap (λ (x : Operation). how_often k (owes_at x)) (same_Some o next (sym e ∙ runs)) in
          let holds = ap (how_often k) owed in omega (arith, old, fewer, its, holds));
    }

    -- its own owes nothing
    pub lines_clear : SameOthers → ((o : Operation) → operation_of (state_of sizes after) v.actor ≡ Some o → owes_at o ≡ []) → LinesStay sizes kept.account after v w
    lines_clear same none = record {
      others = others_so same;
      own = λ o e k. (let zero_is = ap (how_often k) (none o e) in omega (arith, zero_is));
    }

    -- its own has nothing private
    pub lines_private : SameOthers → AreBounds (bounds_for sizes after.steps) → (next : Operation) → operation_of (state_of sizes after) v.actor ≡ Some next → next.private ≡ [] →
        LinesStay sizes kept.account after v w
    lines_private same bounds next runs none =
        lines_clear same (λ o e. ap owes_at (same_Some o next (sym e ∙ runs)) ∙ no_element (owes_at next) (λ k c.
        empty_has k (subst (λ ks. Contains ks k) none (owes_private (bounds_for sizes after.steps) bounds after.steps v.actor next runs k c))))
      where
        no_element : (xs : List Ref) → ((k : Ref) → Contains xs k → ⊥) → xs ≡ []
        no_element [] h = refl
        no_element (x ∷ xs) h = absurd (h x (0, omega arith, refl))

    -- its own runs no more
    pub lines_idle : SameOthers → operation_of (state_of sizes after) v.actor ≡ None → LinesStay sizes kept.account after v w
    lines_idle same idle = record { others = others_so same; own = λ o e. absurd (none-some o (sym idle ∙ e)) }

  -- nobody took a step, and the seat holds what it held
  pub lines_still : (w : View) → ((k : Ref) → how_often k v.owed ≤ how_often k w.owed) → LinesStay sizes kept.account kept.account v w
  lines_still w more = record {
    others = λ a differs o e. (o, e, λ k. omega arith);
    own = λ o e k. (let old = kept.held.lines id v at o e k in let now = more k in omega (arith, old, now));
  }

-- what an operation owes after a step that makes no node it owed
pub going_owes : (sizes : Sizes) (account : Account) → AreBounds (bounds_for sizes account.steps) → (actor : ℕ) (o : Operation) → operation_of (state_of sizes account) actor ≡ Some o →
    NoneMade (state_of sizes account) (action_of (state_of sizes account) o) → HoldsAll (owes_at (operation_after (state_of sizes account) o)) (owes_at o)
going_owes sizes account bounds actor o runs makes = owes_less (state_of sizes account) o (key_none (bounds_for sizes account.steps) bounds account.steps actor o runs) makes
