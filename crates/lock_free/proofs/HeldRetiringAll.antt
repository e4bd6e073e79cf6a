-- Each reference is counted still where a seat retires slots of nodes on each of which one reference more is counted than there are claims.
use Rattle.std.proofs.Common.{◌≡◌, ◌+◌, ◌≤◌, ◌<◌, ◌⊎◌, ◌==◌, ◌&&◌, not, inl, inr, ℕ, false, List, Contains, Some, cond, length, set, refl, sym, ap, subst, ◌∙◌, arith}
use Rattle.std.proofs.lemmas.Bool.{true≢false}
use Rattle.std.proofs.lemmas.List.Elements.{Contains-append_cases}
use Rattle.std.proofs.lemmas.List.Sums.{sum_by-append}
use mathlib.Core.Option.{some}
use lib.ListN.{get_elem?}
use Rattle.atomic_table.proofs.Lists.{at_set, set_else, set_here}
use Rattle.machine_model.specs.Beneath.slot_arena.specs.declared.refs.Ref.{Ref}
use Rattle.machine_model.specs.Beneath.slot_arena.specs.Refs.{slot_of}
use Rattle.machine_model.specs.States.{operation_of}
use Rattle.lock_free.specs.declared.accounts.Account.{Account}
use Rattle.lock_free.specs.declared.rules.Retired.{Retired}
use Rattle.lock_free.specs.declared.rules.View.{View}
use Rattle.lock_free.specs.declared.sizes.Sizes.{Sizes}
use Rattle.lock_free.specs.Accounts.{state_of}
use Rattle.lock_free.specs.Claims.{claims_there, held_now, HoldsAll}
use Rattle.lock_free.specs.Counts.{owed_on, references}
use Rattle.lock_free.specs.Holdings.{AreHeld, IsHere, count_of, retired_in, retired_of, retired_on}
use Rattle.lock_free.specs.OwesAt.{owes_at}
use Rattle.lock_free.specs.Reclaiming.{retiring_all}
use Rattle.lock_free.specs.Reached.{IsDead, IsOwed, IsReached, at_first}
use Rattle.lock_free.specs.Rules.{Standing}
use Rattle.lock_free.proofs.Assembling.{within}
use Rattle.lock_free.proofs.CountsStay.{owed_set}
use Rattle.lock_free.proofs.HeldFrom.{held_within}
use Rattle.lock_free.proofs.HeldStill.{retired_set}

module _ (sizes : Sizes) (account : Account) (stands : Standing) (words : List ℕ) (views : List View) (id : ℕ) (v : View) (at : get_elem? views id ≡ some v) (gone : View) (xs : List Retired)
    (shallow : (x : Retired) → Contains xs x → x.deep ≡ false) (h : AreHeld sizes account stands words (set views id gone))
    (most : (k : Ref) → IsHere sizes account stands k → claims_there stands k (held_now sizes account).claims + owed_on k (set views id gone) + (retired_on (slot_of k) (set views id gone)
    + retired_of (slot_of k) xs) ≤ references words (count_of sizes account k)) where
  abbrev w : View
  w = retiring_all gone xs

  abbrev views_then : List View
  views_then = set views id w

  low : id < length views
  low = within views id v at

  owed_same : (k : Ref) → owed_on k views_then ≡ owed_on k (set views id gone)
  owed_same k = let now = owed_set k views id v at w in let was = owed_set k views id v at gone in omega (arith, now, was)

  retired_more : (n : ℕ) → retired_on n views_then ≡ retired_on n (set views id gone) + retired_of n xs
  retired_more n =
      let now = retired_set n views id v at w in
      let was = retired_set n views id v at gone in
      let own : retired_in n w ≡ retired_in n gone + retired_of n xs = sum_by-append (λ (y : Retired). cond {A = ℕ} ((y.number == n) && not y.deep) 1 0) gone.retired xs in
      omega (arith, now, was, own)

  -- whose it is was the seat's
  seat_was : (other : ℕ) (u : View) → get_elem? views_then other ≡ some u → ((other ≡ id) × (w ≡ u)) ⊎ (get_elem? (set views id gone) other ≡ some u)
  seat_was other u e = elim (at_set views id other w u e) [ inl p ↦ inl (p.0, p.1) | inr p ↦ inr (set_else views id other gone p.0 ∙ p.1) ]

  gone_at : (other : ℕ) → other ≡ id → get_elem? (set views id gone) other ≡ some gone
  gone_at other same = ap (get_elem? (set views id gone)) same ∙ set_here views id gone low

  owner : (other : ℕ) (u : View) → get_elem? views_then other ≡ some u → (k : Ref) → Contains u.owed k →
      (y : View) × (get_elem? (set views id gone) other ≡ some y) × Contains y.owed k × (y.actor ≡ u.actor)
  owner other u e k c = elim (seat_was other u e) [
    | inl p ↦ (gone, gone_at other p.0, subst (λ (y : View). Contains y.owed k) (sym p.1) c, ap (λ (y : View). y.actor) p.1)
    | inr same ↦ (u, same, c, refl)
  ]

  first_was : (k : Ref) → IsOwed views_then k ⊎ IsDead sizes account views_then k → IsReached sizes account (set views id gone) k
  first_was k (inl o) = let y = owner o.0 o.1 o.2 k o.3 in at_first k (inl (o.0, y.0, y.1, y.2))
  first_was k (inr d) = elim (seat_was d.id d.view d.at) [
    | inl p ↦ elim (Contains-append_cases gone.retired xs d.item (subst (λ (z : View). Contains z.retired d.item) (sym p.1) d.its)) [
      | inl old ↦ at_first k (inr (record { used = d.used; id = d.id; view = gone; at = gone_at d.id p.0; item = d.item; its = old; deep = d.deep; number = d.number }))
      | inr new ↦ absurd (true≢false (sym d.deep ∙ shallow d.item new))
    ]
    | inr same ↦ at_first k (inr (record { used = d.used; id = d.id; view = d.view; at = same; item = d.item; its = d.its; deep = d.deep; number = d.number }))
  ]

  pub held_retiring_all : AreHeld sizes account stands words (set views id (retiring_all gone xs))
  held_retiring_all = record {
    counted = λ k here. (let all = most k here in let seats = owed_same k in let slots = retired_more (slot_of k) in omega (arith, all, seats, slots));
    spare = h.spare;
    fresh = h.fresh;
    owed = λ other u e k c. (let y = owner other u e k c in h.owed other y.0 y.1 k y.2);
    known = λ other u e k c a o runs its. (let y = owner other u e k c in h.known other y.0 y.1 k y.2 a o runs its ∙ y.3);
    lines = λ other u e o runs. elim (seat_was other u e) [
      | inl p ↦
          subst (λ (y : View). HoldsAll (owes_at o) y.owed) p.1
          (h.lines other gone (gone_at other p.0) o
          (subst (λ (y : View). operation_of (state_of sizes account) y.actor ≡ Some o) (sym p.1) runs))
      | inr same ↦ h.lines other u same o runs
    ];
    dead = λ other u e y c deep k here is. elim (seat_was other u e) [
      | inl p ↦ elim (Contains-append_cases gone.retired xs y (subst (λ (z : View). Contains z.retired y) (sym p.1) c)) [
        | inl old ↦ h.dead other gone (gone_at other p.0) y old deep k here is
        | inr new ↦ absurd (true≢false (sym deep ∙ shallow y new))
      ]
      | inr same ↦ h.dead other u same y c deep k here is
    ];
    unlet = λ k let_go here. (let old = h.unlet k let_go here in let seats = owed_same k in omega (arith, old, seats));
    reached = λ k from. h.reached k (held_within sizes account (λ r. IsOwed views_then r ⊎ IsDead sizes account views_then r)
        (λ r. IsOwed (set views id gone) r ⊎ IsDead sizes account (set views id gone) r) first_was k from);
    unborn = h.unborn;
    gone = h.gone;
    used = h.used;
    owned = h.owned;
    owns = h.owns;
  }
