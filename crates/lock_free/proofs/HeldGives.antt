-- Each reference is counted still where a seat comes to hold some more: these were claims of holders that were there.
use Rattle.std.proofs.Common.{◌≡◌, ◌+◌, ◌≤◌, ◌<◌, ◌⊎◌, ◌==◌, ◌++◌, inl, inr, ℕ, true, List, Contains, cond, length, set, Some, sym, ap, subst, ◌∙◌, arith}
use Rattle.std.proofs.lemmas.List.Elements.{Contains-append_cases}
use Rattle.std.proofs.lemmas.List.Sums.{sum_by-append}
use mathlib.Core.Option.{some}
use lib.ListN.{get_elem?}
use Rattle.atomic_table.proofs.Lists.{at_set, set_else, set_here}
use Rattle.machine_model.specs.Beneath.slot_arena.specs.declared.refs.Ref.{Ref}
use Rattle.machine_model.specs.Beneath.slot_arena.specs.Refs.{slot_of}
use Rattle.machine_model.specs.declared.operations.Operation.{Operation}
use Rattle.machine_model.specs.States.{operation_of}
use Rattle.lock_free.specs.declared.accounts.Account.{Account}
use Rattle.lock_free.specs.declared.rules.View.{View}
use Rattle.lock_free.specs.declared.sizes.Sizes.{Sizes}
use Rattle.lock_free.specs.Accounts.{state_of}
use Rattle.lock_free.specs.Claims.{claims_there, held_now, HoldsAll}
use Rattle.lock_free.specs.Counts.{how_often, owed_on, references}
use Rattle.lock_free.specs.Holdings.{AreHeld, HasBeenLetGo, IsHere, count_of, retired_on}
use Rattle.lock_free.specs.OwesAt.{owes_at}
use Rattle.lock_free.specs.Owing.{owing}
use Rattle.lock_free.specs.Reached.{IsDead, IsHeldFrom, IsOwed, IsReached, at_first, by_node}
use Rattle.lock_free.specs.Rules.{Standing}
use Rattle.lock_free.proofs.Assembling.{within}
use Rattle.lock_free.proofs.CountsStay.{owed_set}
use Rattle.lock_free.proofs.HeldFrom.{held_each}
use Rattle.lock_free.proofs.HeldStill.{retired_set}

module _ (sizes : Sizes) (account : Account) (stands : Standing) (words : List ℕ) (views : List View) (id : ℕ) (v : View) (at : get_elem? views id ≡ some v) (gone : View) (given : List Ref)
    (h : AreHeld sizes account stands words (set views id gone)) (here : (k : Ref) → Contains given k → IsHere sizes account stands k)
    (own : (k : Ref) → Contains given k → (a : ℕ) (o : Operation) → operation_of (state_of sizes account) a ≡ Some o → Contains o.private k → a ≡ gone.actor)
    (most : (k : Ref) → IsHere sizes account stands k → claims_there stands k (held_now sizes account).claims + how_often k given + owed_on k (set views id gone) + retired_on (slot_of k)
    (set views id gone) ≤ references words (count_of sizes account k))
    -- one reference more is counted of what was let go of
    (let_go : (k : Ref) → HasBeenLetGo sizes account k → IsHere sizes account stands k →
    claims_there stands k (held_now sizes account).claims + how_often k given + owed_on k (set views id gone) + 1 ≤ references words (count_of sizes account k))
    -- and what it is given stands, with all that this holds
    (below : (k : Ref) → IsHeldFrom sizes account (Contains given) k → stands (slot_of k) ≡ true) where
  abbrev w : View
  w = owing gone (given ++ gone.owed)

  abbrev views_then : List View
  views_then = set views id w

  low : id < length views
  low = within views id v at

  owed_more : (k : Ref) → owed_on k views_then ≡ owed_on k (set views id gone) + how_often k given
  owed_more k =
      let now = owed_set k views id v at w in
      let was = owed_set k views id v at gone in
      let parts = sum_by-append (λ (x : Ref). cond {A = ℕ} (x == k) 1 0) given gone.owed in
      omega (arith, now, was, parts)

  retired_same : (n : ℕ) → retired_on n views_then ≡ retired_on n (set views id gone)
  retired_same n = let now = retired_set n views id v at w in let was = retired_set n views id v at gone in omega (arith, now, was)

  -- whose it is was the seat's, or is given to it
  seat_was : (other : ℕ) (u : View) → get_elem? views_then other ≡ some u → ((other ≡ id) × (w ≡ u)) ⊎ (get_elem? (set views id gone) other ≡ some u)
  seat_was other u e = elim (at_set views id other w u e) [ inl p ↦ inl (p.0, p.1) | inr p ↦ inr (set_else views id other gone p.0 ∙ p.1) ]

  gone_at : (other : ℕ) → other ≡ id → get_elem? (set views id gone) other ≡ some gone
  gone_at other same = ap (get_elem? (set views id gone)) same ∙ set_here views id gone low

  owed_then : (other : ℕ) (u : View) → get_elem? views_then other ≡ some u → (k : Ref) → Contains u.owed k → IsHere sizes account stands k
  owed_then other u e k c = elim (seat_was other u e) [
    | inl p ↦ elim (Contains-append_cases given gone.owed k (subst (λ (y : View). Contains y.owed k) (sym p.1) c)) [
      | inl new ↦ here k new
      | inr old ↦ h.owed other gone (gone_at other p.0) k old
    ]
    | inr same ↦ h.owed other u same k c
  ]

  known_then : (other : ℕ) (u : View) → get_elem? views_then other ≡ some u → (k : Ref) → Contains u.owed k → (a : ℕ) (o : Operation) → operation_of (state_of sizes account) a ≡ Some o →
      Contains o.private k → a ≡ u.actor
  known_then other u e k c a o runs its = elim (seat_was other u e) [
    | inl p ↦
        (let same = ap (λ (y : View). y.actor) p.1 in
        elim (Contains-append_cases given gone.owed k (subst (λ (y : View). Contains y.owed k) (sym p.1) c)) [
          | inl new ↦ own k new a o runs its ∙ same
          | inr old ↦ h.known other gone (gone_at other p.0) k old a o runs its ∙ same
        ])
    | inr same ↦ h.known other u same k c a o runs its
  ]

  abbrev Was : Ref → Type 0
  Was k = IsReached sizes account (set views id gone) k ⊎ IsHeldFrom sizes account (Contains given) k

  first_was : (k : Ref) → IsOwed views_then k ⊎ IsDead sizes account views_then k → Was k
  first_was k (inl o) = elim (seat_was o.0 o.1 o.2) [
    | inl p ↦ elim (Contains-append_cases given gone.owed k (subst (λ (y : View). Contains y.owed k) (sym p.1) o.3)) [
      | inl new ↦ inr (at_first k new)
      | inr old ↦ inl (at_first k (inl (o.0, gone, gone_at o.0 p.0, old)))
    ]
    | inr same ↦ inl (at_first k (inl (o.0, o.1, same, o.3)))
  ]
  first_was k (inr d) = elim (seat_was d.id d.view d.at) [
    | inl p ↦ inl (at_first k (inr (record {
      used = d.used;
      id = d.id;
      view = gone;
      at = gone_at d.id p.0;
      item = d.item;
      its = subst (λ (y : View). Contains y.retired d.item) (sym p.1) d.its;
      deep = d.deep;
      number = d.number;
    })))
    | inr same ↦ inl (at_first k (inr (record { used = d.used; id = d.id; view = d.view; at = same; item = d.item; its = d.its; deep = d.deep; number = d.number })))
  ]

  was : (k : Ref) → IsReached sizes account views_then k → Was k
  was = held_each sizes account (λ k. IsOwed views_then k ⊎ IsDead sizes account views_then k) Was first_was
      (λ j k from holds. elim from [ inl old ↦ inl (by_node j k old holds) | inr new ↦ inr (by_node j k new holds) ])

  pub held_gives : AreHeld sizes account stands words (set views id (owing gone (given ++ gone.owed)))
  held_gives = record {
    counted = λ k is. (let all = most k is in let seats = owed_more k in let slots = retired_same (slot_of k) in omega (arith, all, seats, slots));
    spare = h.spare;
    fresh = h.fresh;
    owed = owed_then;
    known = known_then;
    dead = λ other u e x c deep k is number. elim (seat_was other u e) [
      | inl p ↦ h.dead other gone (gone_at other p.0) x (subst (λ (y : View). Contains y.retired x) (sym p.1) c) deep k is number
      | inr same ↦ h.dead other u same x c deep k is number
    ];
    lines = λ other u e o runs. elim (seat_was other u e) [
      | inl p ↦
          (let was = h.lines other gone (gone_at other p.0) o (subst (λ (y : View). operation_of (state_of sizes account) y.actor ≡ Some o) (sym p.1) runs) in
          subst (λ (y : View). HoldsAll (owes_at o) y.owed) p.1
          (λ k. (let old = was k in let parts = sum_by-append (λ (x : Ref). cond {A = ℕ} (x == k) 1 0) given gone.owed in omega (arith, old, parts))))
      | inr same ↦ h.lines other u same o runs
    ];
    unlet = λ k was_let_go is. (let all = let_go k was_let_go is in let seats = owed_more k in omega (arith, all, seats));
    reached = λ k from. elim (was k from) [ inl old ↦ h.reached k old | inr new ↦ below k new ];
    unborn = h.unborn;
    gone = h.gone;
    used = h.used;
    owned = h.owned;
    owns = h.owns;
  }
