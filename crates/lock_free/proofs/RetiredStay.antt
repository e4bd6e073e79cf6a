-- What the rule says of retired slots stays where the epoch doesn't fall, and no seat has retired more or is pinned anew.
use Rattle.std.proofs.Common.{◌≡◌, ◌≤◌, inl, inr, ℕ, List, [], Contains, map, set, Some, None, refl, sym, ap, subst, ◌∙◌, arith}
use Rattle.std.proofs.lemmas.Option.{none-some}
use mathlib.Core.Option.{some}
use lib.ListN.{get_elem?}
use Rattle.atomic_table.proofs.Lists.{at_set}
use Rattle.lock_free.specs.declared.rules.Pinned.{Pinned}
use Rattle.lock_free.specs.declared.rules.Retired.{Retired}
use Rattle.lock_free.specs.declared.rules.View.{View}
use Rattle.lock_free.specs.declared.sizes.Sizes.{Sizes}
use Rattle.lock_free.specs.Rules.{AreRetired, Once}
use Rattle.lock_free.proofs.EpochStays.{epoch_in}
use Rattle.lock_free.proofs.Idle.{empty_has}

-- the seat has retired what it had, and is pinned as it was, if at all; or it is a new one
pub data Retires (views : List View) (k : ℕ) (w : View) : Type 0 where
  retires_as : (v : View) → get_elem? views k ≡ some v → w.retired ≡ v.retired → ((p : Pinned) → w.pin ≡ Some p → v.pin ≡ Some p) → Retires views k w
  retires_none : w.retired ≡ [] → w.pin ≡ None → Retires views k w

abbrev numbers : List Retired → List ℕ
numbers xs = map (λ (x : Retired). x.number) xs

module _ (sizes : Sizes) (words words_then : List ℕ) (views views_then : List View) (grows : epoch_in words ≤ epoch_in words_then)
    (was : (k : ℕ) (w : View) → get_elem? views_then k ≡ some w → Retires views k w) (h : AreRetired sizes words views) where
  retired_by : (k : ℕ) (w : View) → Retires views k w → (x : Retired) → Contains w.retired x → (v : View) × (get_elem? views k ≡ some v) × Contains v.retired x
  retired_by k w (retires_as v at same pin) x c = (v, at, subst (λ xs. Contains xs x) same c)
  retired_by k w (retires_none none free) x c = absurd (empty_has x (subst (λ xs. Contains xs x) none c))

  pinned_by : (k : ℕ) (w : View) → Retires views k w → (p : Pinned) → w.pin ≡ Some p → (v : View) × (get_elem? views k ≡ some v) × (v.pin ≡ Some p)
  pinned_by k w (retires_as v at same pin) p is = (v, at, pin p is)
  pinned_by k w (retires_none none free) p is = absurd (none-some p (sym free ∙ is))

  once_by : (k : ℕ) (w : View) → Retires views k w → Once (numbers w.retired)
  once_by k w (retires_as v at same pin) = subst (λ xs. Once (numbers xs)) (sym same) (h.once k v at)
  once_by k w (retires_none none free) = subst (λ xs. Once (numbers xs)) (sym none) tt

  pub retired_stay : AreRetired sizes words_then views_then
  retired_stay = record {
    stamps = λ k w e x c. (let b = retired_by k w (was k w e) x c in let old = h.stamps k b.0 b.1 x b.2 in omega (arith, old, grows));
    pins = λ i j v w ei ej x c p is. (let b = retired_by i v (was i v ei) x c in let d = pinned_by j w (was j w ej) p is in h.pins i j b.0 d.0 b.1 d.1 x b.2 p d.2);
    once = λ k w e. once_by k w (was k w e);
    apart = λ i j v w ei ej x y cx cy same.
        (let b = retired_by i v (was i v ei) x cx in let d = retired_by j w (was j w ej) y cy in h.apart i j b.0 d.0 b.1 d.1 x y b.2 d.2 same);
  }

pub retires_self : (views : List View) (k : ℕ) (v : View) → get_elem? views k ≡ some v → Retires views k v
retires_self views k v at = retires_as v at refl (λ p is. is)

-- one seat is another then
module _ (views : List View) (id : ℕ) (v : View) (at : get_elem? views id ≡ some v) (w : View) (same : w.retired ≡ v.retired) (pin : (p : Pinned) → w.pin ≡ Some p → v.pin ≡ Some p) where
  pub retires_then : (k : ℕ) (x : View) → get_elem? (set views id w) k ≡ some x → Retires views k x
  retires_then k x e = elim (at_set views id k w x e) [
    | inl p ↦ subst (Retires views k) p.1 (retires_as v (ap (λ n. get_elem? views n) p.0 ∙ at) same pin)
    | inr p ↦ retires_self views k x p.1
  ]

  pub retired_then : (sizes : Sizes) (words words_then : List ℕ) → epoch_in words ≤ epoch_in words_then → AreRetired sizes words views → AreRetired sizes words_then (set views id w)
  retired_then sizes words words_then grows h = retired_stay sizes words words_then views (set views id w) grows retires_then h

-- where the epoch is what it was
pub epoch_still : (words words_then : List ℕ) → epoch_in words_then ≡ epoch_in words → epoch_in words ≤ epoch_in words_then
epoch_still words words_then same = omega (arith, same)
