-- What the rule says of references that seats hold themselves stays where each holds no more, is pinned as it was, and has retired no more.
use Rattle.std.proofs.Common.{◌≡◌, ◌≤◌, ◌⊎◌, inl, inr, ℕ, List, [], Contains, set, Some, refl, sym, ap, subst, ◌∙◌, ◌+◌, arith}
use mathlib.Core.Option.{some}
use lib.ListN.{get_elem?}
use Rattle.atomic_table.proofs.Lists.{at_set}
use Rattle.machine_model.specs.Beneath.slot_arena.specs.declared.refs.Ref.{Ref}
use Rattle.machine_model.specs.Beneath.slot_arena.specs.Refs.{slot_of}
use Rattle.lock_free.specs.declared.rules.Pinned.{Pinned}
use Rattle.lock_free.specs.declared.rules.Retired.{Retired}
use Rattle.lock_free.specs.declared.rules.View.{View}
use Rattle.lock_free.specs.Rules.{AreOwed}
use Rattle.lock_free.proofs.Idle.{empty_has}

-- the seat holds no more than one did that is pinned as it is and has retired no less; or it is a new one
pub data Owed (views : List View) (w : View) : Type 0 where
  owed_as : (id : ℕ) (v : View) → get_elem? views id ≡ some v → ((k : Ref) → Contains w.owed k → Contains v.owed k × (w.pin ≡ v.pin)) →
      ((x : Retired) → Contains w.retired x → Contains v.retired x) → Owed views w
  owed_none : w.owed ≡ [] → w.retired ≡ [] → Owed views w

module _ (views views_then : List View) (was : (k : ℕ) (w : View) → get_elem? views_then k ≡ some w → Owed views w) (h : AreOwed views) where
  owing_by : (w : View) → Owed views w → (k : Ref) → Contains w.owed k → (id : ℕ) × (v : View) × (get_elem? views id ≡ some v) × Contains v.owed k × (w.pin ≡ v.pin)
  owing_by w (owed_as id v at owed retired) k c = (id, v, at, (owed k c).0, (owed k c).1)
  owing_by w (owed_none none gone) k c = absurd (empty_has k (subst (λ ks. Contains ks k) none c))

  retired_by : (w : View) → Owed views w → (x : Retired) → Contains w.retired x → (id : ℕ) × (v : View) × (get_elem? views id ≡ some v) × Contains v.retired x
  retired_by w (owed_as id v at owed retired) x c = (id, v, at, retired x c)
  retired_by w (owed_none none gone) x c = absurd (empty_has x (subst (λ xs. Contains xs x) gone c))

  pub owed_stay : AreOwed views_then
  owed_stay = record {
    pinned = λ id w e k c. (let b = owing_by w (was id w e) k c in let p = h.pinned b.0 b.1 b.2 k b.3 in (p.0, b.4 ∙ p.1));
    early = λ i j v w ei ej x k cx ck same p is.
        (let a = retired_by v (was i v ei) x cx in let b = owing_by w (was j w ej) k ck in h.early a.0 b.0 a.1 b.1 a.2 b.2 x k a.3 b.3 same p (sym b.4 ∙ is));
  }

pub owed_self : (views : List View) (k : ℕ) (v : View) → get_elem? views k ≡ some v → Owed views v
owed_self views k v at = owed_as k v at (λ r c. (c, refl)) (λ x c. c)

-- one seat is another then
module _ (views : List View) (id : ℕ) (v : View) (at : get_elem? views id ≡ some v) (w : View) (owed : (k : Ref) → Contains w.owed k → Contains v.owed k × (w.pin ≡ v.pin))
    (retired : (x : Retired) → Contains w.retired x → Contains v.retired x) (h : AreOwed views) where
  was_owed : (k : ℕ) (x : View) → get_elem? (set views id w) k ≡ some x → Owed views x
  was_owed k x e = elim (at_set views id k w x e) [ inl p ↦ subst (Owed views) p.1 (owed_as id v at owed retired) | inr p ↦ owed_self views k x p.1 ]

  pub owed_then : AreOwed (set views id w)
  owed_then = owed_stay views (set views id w) was_owed h

-- what it held it holds, as it was pinned, and has retired what it had
pub owed_same : (views : List View) (id : ℕ) (v : View) → get_elem? views id ≡ some v → (w : View) → w.owed ≡ v.owed → w.pin ≡ v.pin → w.retired ≡ v.retired → AreOwed views → AreOwed (set views id w)
owed_same views id v at w owed pin retired h = owed_then views id v at w (λ k c. (subst (λ ks. Contains ks k) owed c, pin)) (λ x c. subst (λ xs. Contains xs x) retired c) h

-- it holds more, of nodes that nobody has retired since it is pinned, and has retired more since all were pinned
module _ (views : List View) (id : ℕ) (v : View) (at : get_elem? views id ≡ some v) (w : View) (New : Ref → Type 0) (Newly : Retired → Type 0)
    (had : (k : Ref) → Contains w.owed k → Contains v.owed k ⊎ New k) (pin : w.pin ≡ v.pin) (pinned : (k : Ref) → New k → (p : Pinned) × (v.pin ≡ Some p))
    (retired : (x : Retired) → Contains w.retired x → Contains v.retired x ⊎ Newly x)
    (early : (i : ℕ) (u : View) → get_elem? views i ≡ some u → (x : Retired) → Contains u.retired x → (k : Ref) → New k → x.number ≡ slot_of k → (p : Pinned) → v.pin ≡ Some p → p.since ≤ x.stamp + 1)
    (late : (x : Retired) → Newly x → (j : ℕ) (u : View) → get_elem? views j ≡ some u → (p : Pinned) → u.pin ≡ Some p → p.since ≤ x.stamp + 1) (h : AreOwed views) where
  -- whose reference it is, and who has retired the slot
  abbrev Holds : View → Ref → Type 0
  Holds u k = (j : ℕ) × (y : View) × (get_elem? views j ≡ some y) × (u.pin ≡ y.pin) × (Contains y.owed k ⊎ (New k × (y ≡ v)))

  holder : (j : ℕ) (u : View) → get_elem? (set views id w) j ≡ some u → (k : Ref) → Contains u.owed k → Holds u k
  holder j u e k c = elim (at_set views id j w u e) [
    | inl p ↦ (
      id,
      v,
      at,
      ap (λ (y : View). y.pin) (sym p.1) ∙ pin,
      elim (had k (subst (λ (y : View). Contains y.owed k) (sym p.1) c)) [ inl old ↦ inl old | inr new ↦ inr (new, refl) ],
    )
    | inr p ↦ (j, u, p.1, refl, inl c)
  ]

  retirer : (i : ℕ) (u : View) → get_elem? (set views id w) i ≡ some u → (x : Retired) → Contains u.retired x →
      ((j : ℕ) × (y : View) × (get_elem? views j ≡ some y) × Contains y.retired x) ⊎ Newly x
  retirer i u e x c = elim (at_set views id i w u e) [
    | inl p ↦ elim (retired x (subst (λ (y : View). Contains y.retired x) (sym p.1) c)) [ inl old ↦ inl (id, v, at, old) | inr new ↦ inr new ]
    | inr p ↦ inl (i, u, p.1, c)
  ]

  pub owed_changing : AreOwed (set views id w)
  owed_changing = record {
    pinned = λ j u e k c.
        (let a = holder j u e k c in
        elim a.4 [
          | inl old ↦ (let p = h.pinned a.0 a.1 a.2 k old in (p.0, a.3 ∙ p.1))
          | inr new ↦ (let p = pinned k new.0 in (p.0, a.3 ∙ ap (λ (y : View). y.pin) new.1 ∙ p.1))
        ]);
    early = λ i j u y ei ej x k cx ck same p is.
        (let a = holder j y ej k ck in
        elim (retirer i u ei x cx) [
          | inr newly ↦ late x newly a.0 a.1 a.2 p (sym a.3 ∙ is)
          | inl b ↦ elim a.4 [
            | inl old ↦ h.early b.0 a.0 b.1 a.1 b.2 a.2 x k b.3 old same p (sym a.3 ∙ is)
            | inr new ↦ early b.0 b.1 b.2 x b.3 k new.0 same p (sym (ap (λ (z : View). z.pin) new.1) ∙ sym a.3 ∙ is)
          ]
        ]);
  }

-- it holds one reference more, of a node that nobody has retired since it is pinned
pub owed_more : (views : List View) (id : ℕ) (v : View) → get_elem? views id ≡ some v → (w : View) (new : Ref) → ((k : Ref) → Contains w.owed k → Contains v.owed k ⊎ (k ≡ new)) → w.pin ≡ v.pin →
    (p : Pinned) × (v.pin ≡ Some p) → w.retired ≡ v.retired →
    ((i : ℕ) (u : View) → get_elem? views i ≡ some u → (x : Retired) → Contains u.retired x → x.number ≡ slot_of new → (p : Pinned) → v.pin ≡ Some p → p.since ≤ x.stamp + 1) → AreOwed views →
    AreOwed (set views id w)
owed_more views id v at w new had pin pinned retired early h =
    owed_changing views id v at w (λ k. k ≡ new) (λ x. ⊥) had pin (λ k is. pinned) (λ x c. inl (subst (λ xs. Contains xs x) retired c))
    (λ i u e x c k is same p pins. early i u e x c (same ∙ ap slot_of is) p pins) (λ x never. absurd never) h

-- it has retired more just now
pub owed_retiring : (views : List View) (id : ℕ) (v : View) → get_elem? views id ≡ some v → (w : View) → w.owed ≡ v.owed → w.pin ≡ v.pin → (epoch : ℕ) →
    ((x : Retired) → Contains w.retired x → Contains v.retired x ⊎ (x.stamp ≡ epoch)) →
    ((j : ℕ) (u : View) → get_elem? views j ≡ some u → (p : Pinned) → u.pin ≡ Some p → p.since ≤ epoch) → AreOwed views → AreOwed (set views id w)
owed_retiring views id v at w owed pin epoch retired since h =
    owed_changing views id v at w (λ k. ⊥) (λ x. x.stamp ≡ epoch) (λ k c. inl (subst (λ ks. Contains ks k) owed c)) pin (λ k never. absurd never) retired
    (λ i u e x c k never. absurd never) (λ x now j u e p is. (let low = since j u e p is in omega (arith, low, now))) h
