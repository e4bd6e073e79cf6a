-- Seats that were given up.
use Rattle.std.proofs.Common.{◌≡◌, ◌≤◌, ℕ, inl, inr, List, Contains, set, sym, ap, subst, ◌∙◌, arith}
use mathlib.Core.Option.{some, some-injective}
use lib.ListN.{get_elem?}
use Rattle.atomic_table.proofs.Lists.{at_set, set_else}
use Rattle.lock_free.specs.declared.rules.Heard.{Heard}
use Rattle.lock_free.specs.declared.rules.View.{View}
use Rattle.lock_free.specs.Rules.{WasGivenUp}

-- Whom a seat has heard of makes no access, since it has no sizes.
module _ (views : List View) (id : ℕ) (v : View) (at : get_elem? views id ≡ some v) (some_seats : 1 ≤ v.sizes.seats) (w : View) where
  pub given_up_still : (h : Heard) → WasGivenUp views h → WasGivenUp (set views id w) h
  given_up_still h g = record {
    id = g.id;
    view = g.view;
    at = set_else views id g.id w (λ same. apart same) ∙ g.at;
    spent = g.spent;
    actor = g.actor;
    last = g.last;
    account = g.account;
    bare = g.bare;
  }
    where
      apart : g.id ≡ id → ⊥
      apart same =
          let mine : v ≡ g.view = some-injective v g.view (sym at ∙ ap (λ n. get_elem? views n) (sym same) ∙ g.at) in
          let none = ap (λ (x : View). x.sizes.seats) mine ∙ g.spent in
          omega (arith, some_seats, none)

  pub heard_still : w.heard ≡ v.heard → ((k : ℕ) (x : View) → get_elem? views k ≡ some x → (h : Heard) → Contains x.heard h → WasGivenUp views h) →
      (k : ℕ) (x : View) → get_elem? (set views id w) k ≡ some x → (h : Heard) → Contains x.heard h → WasGivenUp (set views id w) h
  heard_still same before k x e h c = elim (at_set views id k w x e) [
    | inl p ↦ given_up_still h (before id v at h (subst (λ hs. Contains hs h) (ap (λ (y : View). y.heard) (sym p.1) ∙ same) c))
    | inr p ↦ given_up_still h (before k x p.1 h c)
  ]
