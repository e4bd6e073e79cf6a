-- What is held from some nodes on: by each that is held in turn.
use Rattle.history.specs.declared.calls.Call.{Call}
use Rattle.std.proofs.Common.{◌≡◌, ◌⊎◌, inl, inr, ℕ, true, List, Contains, subst, sym}
use mathlib.Core.Option.{some}
use lib.ListN.{get_elem?}
use Rattle.atomic_table.specs.Table as Table
use Rattle.machine_model.specs.Beneath.slot_arena.specs.declared.refs.Ref.{Ref}
use Rattle.machine_model.specs.Beneath.slot_arena.specs.Heaps.{node_at, refs_of_node}
use Rattle.machine_model.specs.Beneath.slot_arena.specs.Refs.{slot_of}
use Rattle.proof_claims.specs.Claims.{Has}
use Rattle.proof_claims.specs.Held.{OfNode}
use Rattle.lock_free.specs.declared.accounts.Account.{Account}
use Rattle.lock_free.specs.declared.rules.View.{View}
use Rattle.lock_free.specs.declared.sizes.Sizes.{Sizes}
use Rattle.lock_free.specs.Accounts.{state_of}
use Rattle.lock_free.specs.Claims.{held_now}
use Rattle.lock_free.specs.Live.{IsLive}
use Rattle.lock_free.specs.Reached.{HoldsNamed, IsDead, IsHeldFrom, IsOwed, IsReached, at_first, by_node}
use Rattle.lock_free.specs.Rules.{IsKept}
use Rattle.lock_free.proofs.Led.{named_known}
use Rattle.lock_free.proofs.OneStep.Found.{live_used}

module _ (sizes : Sizes) (account : Account) (First : Ref → Type 0) where
  -- what is so of the first ones, and of what is held by one of which it is so
  pub held_each : (P : Ref → Type 0) → ((k : Ref) → First k → P k) → ((j k : Ref) → P j → HoldsNamed sizes account j k → P k) → (k : Ref) → IsHeldFrom sizes account First k → P k
  held_each P first more r (at_first k its) = first r its
  held_each P first more r (by_node j k from holds) = more j r (held_each P first more j from) holds

  pub held_within : (Second : Ref → Type 0) → ((k : Ref) → First k → IsHeldFrom sizes account Second k) → (k : Ref) → IsHeldFrom sizes account First k → IsHeldFrom sizes account Second k
  held_within Second first = held_each (IsHeldFrom sizes account Second) first (λ j k from holds. by_node j k from holds)

-- after a step that leaves each claim to its node, or to a live one, and lets no node name what isn't live but what it named
module _ (sizes : Sizes) (s : Table.State Call View) (kept : IsKept sizes s) (after : Account)
    (names : (j k : Ref) → Contains (refs_of_node (node_at (state_of sizes after).heap j)) k →
    Contains (refs_of_node (node_at (state_of sizes kept.account).heap j)) k ⊎ IsLive (state_of sizes kept.account) k) where
  abbrev Before : Ref → Type 0
  Before k = IsReached sizes kept.account s.views k ⊎ IsLive (state_of sizes kept.account) k

  live_named : (j k : Ref) → IsLive (state_of sizes kept.account) j → Contains (refs_of_node (node_at (state_of sizes after).heap j)) k → IsLive (state_of sizes kept.account) k
  live_named j k live its = elim (names j k its) [
    | inl was ↦ named_known sizes kept.account kept.bounds (λ id. Unit {0}) j k live (live_used sizes kept.account kept.bounds j live) was
    | inr new ↦ new
  ]

  -- from what was live
  pub live_from : (First : Ref → Type 0) → ((k : Ref) → First k → IsLive (state_of sizes kept.account) k) → (k : Ref) → IsHeldFrom sizes after First k → IsLive (state_of sizes kept.account) k
  live_from First first = held_each sizes after First (IsLive (state_of sizes kept.account)) first (λ j k live holds. live_named j k live holds.1)

  module _ (had : (j k : Ref) → Has (held_now sizes after) (OfNode j) k → Has (held_now sizes kept.account) (OfNode j) k ⊎ IsLive (state_of sizes kept.account) j) where
    more : (j k : Ref) → Before j → HoldsNamed sizes after j k → Before k
    more j k (inr live) holds = inr (live_named j k live holds.1)
    more j k (inl reached) holds = elim (names j k holds.1) [
      | inl named ↦ elim (had j k holds.0) [
        | inl has ↦ inl (by_node j k reached (has, named))
        | inr live ↦ inr (live_named j k live holds.1)
      ]
      | inr live ↦ inr live
    ]

    pub reached_before : (views : List View) → ((k : Ref) → IsOwed views k ⊎ IsDead sizes after views k → IsReached sizes kept.account s.views k ⊎ IsLive (state_of sizes kept.account) k) →
        (k : Ref) → IsReached sizes after views k → IsReached sizes kept.account s.views k ⊎ IsLive (state_of sizes kept.account) k
    reached_before views first = held_each sizes after (λ k. IsOwed views k ⊎ IsDead sizes after views k) Before first more

    pub before_stands : (k : Ref) → IsReached sizes kept.account s.views k ⊎ IsLive (state_of sizes kept.account) k → kept.stands (slot_of k) ≡ true
    before_stands k (inl reached) = kept.held.reached k reached
    before_stands k (inr live) = kept.nodes.live k live

-- ---- where no step is taken

module _ (sizes : Sizes) (s : Table.State Call View) (kept : IsKept sizes s) (k : Ref) where
  -- what is live stands with all that it holds
  pub below_live : IsLive (state_of sizes kept.account) k → (r : Ref) → IsHeldFrom sizes kept.account (λ z. z ≡ k) r → kept.stands (slot_of r) ≡ true
  below_live live r from =
      kept.nodes.live r
      (live_from sizes s kept kept.account (λ i j c. inl c) (λ z. z ≡ k) (λ z same. subst (IsLive (state_of sizes kept.account)) (sym same) live) r from)

  -- and so does what a seat holds itself
  pub below_owed : (id : ℕ) (v : View) → get_elem? s.views id ≡ some v → Contains v.owed k → (r : Ref) → IsHeldFrom sizes kept.account (λ z. z ≡ k) r → kept.stands (slot_of r) ≡ true
  below_owed id v at c r from =
      kept.held.reached r
      (held_within sizes kept.account (λ z. z ≡ k) (λ z. IsOwed s.views z ⊎ IsDead sizes kept.account s.views z)
      (λ z same. at_first z (inl (id, v, at, subst (Contains v.owed) (sym same) c))) r from)
