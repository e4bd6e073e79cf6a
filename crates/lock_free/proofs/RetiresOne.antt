-- Nobody has retired twice where a seat retires a node of which a reference is counted, and which no step has let go of before.
use Rattle.history.specs.declared.calls.Call.{Call}
use Rattle.std.proofs.Common.{◌≡◌, ◌≢◌, ◌≤◌, ◌++◌, ◌⊎◌, inl, inr, ℕ, false, [], ◌∷◌, Contains, get_or, set, refl, sym, ap, subst, ◌∙◌, arith}
use Rattle.std.proofs.lemmas.Bool.{cases_Bool}
use Rattle.std.proofs.lemmas.List.Elements.{Contains-append_cases}
use mathlib.Core.Option.{some}
use lib.ListN.{get_elem?}
use Rattle.atomic_table.proofs.Lists.{at_set, set_else}
use Rattle.atomic_table.specs.Table as Table
use Rattle.machine_model.specs.Beneath.slot_arena.specs.declared.refs.Ref.{Ref}
use Rattle.machine_model.specs.Beneath.slot_arena.specs.Refs.{slot_of}
use Rattle.lock_free.specs.declared.rules.Retired.{Retired}
use Rattle.lock_free.specs.declared.rules.View.{View}
use Rattle.lock_free.specs.Accounts.{HasGrown}
use Rattle.lock_free.specs.Counts.{references}
use Rattle.lock_free.specs.Holdings.{IsHere, count_of}
use Rattle.lock_free.specs.Reclaiming.{retiring}
use Rattle.lock_free.specs.Rules.{AreEpochs, AreRetired, IsKept, WasGarbage}
use Rattle.lock_free.proofs.Assembling.{here}
use Rattle.lock_free.proofs.EpochStays.{epoch_in}
use Rattle.lock_free.proofs.RetiredMore.{retired_more}
use Rattle.lock_free.proofs.RetiredStay.{Retires, retires_as, retires_self, retired_stay}

module _ (v : View) (s : Table.State Call View) (kept : IsKept v.sizes s) (id : ℕ) (at : get_elem? s.views id ≡ some v) (epochs : AreEpochs s.words s.views) (old : AreRetired v.sizes s.words s.views)
    (r : Ref) (x : Retired) (number : x.number ≡ slot_of r) (stamp : x.stamp ≡ epoch_in s.words) (is_here : IsHere v.sizes kept.account kept.stands r)
    (counted : 1 ≤ references s.words (count_of v.sizes kept.account r))
    (never : (y : Retired) → WasGarbage v.sizes y → HasGrown y.account kept.account → y.deep ≡ false → y.number ≢ slot_of r) (w : View) (retired : w.retired ≡ v.retired) (pin : w.pin ≡ v.pin) where
  new : (k : ℕ) (u : View) → get_elem? s.views k ≡ some u → (y : Retired) → Contains u.retired y → y.number ≢ x.number
  new k u e y c same = elim (cases_Bool y.deep) [
    | inl deep ↦ (let none = kept.held.dead k u e y c deep r is_here (sym number ∙ sym same) in omega (arith, none, counted))
    | inr shallow ↦ (let is_there = (kept.seats k u e).retired y c in never y is_there.was is_there.grown shallow (same ∙ number))
  ]

  added : AreRetired v.sizes s.words (set s.views id (retiring v x))
  added = retired_more v.sizes s.words s.views id v at x stamp epochs old new

  as_it : (k : ℕ) (u : View) → get_elem? (set s.views id (retiring w x)) k ≡ some u → Retires (set s.views id (retiring v x)) k u
  as_it k u e = elim (at_set s.views id k (retiring w x) u e) [
    | inl q ↦
        subst (Retires (set s.views id (retiring v x)) k) q.1
        (retires_as (retiring v x) (ap (λ n. get_elem? (set s.views id (retiring v x)) n) q.0 ∙ here v.sizes s kept id v at (retiring v x) refl refl) (ap (λ ys. ys ++ x ∷ []) retired)
        (λ p is. sym pin ∙ is))
    | inr q ↦ retires_self (set s.views id (retiring v x)) k u (set_else s.views id k (retiring v x) q.0 ∙ q.1)
  ]

  pub one_more : AreRetired v.sizes s.words (set s.views id (retiring w x))
  one_more = retired_stay v.sizes s.words s.words (set s.views id (retiring v x)) (set s.views id (retiring w x)) (omega arith) as_it added

  pub newly : (y : Retired) → Contains (w.retired ++ x ∷ []) y → Contains v.retired y ⊎ (y.stamp ≡ epoch_in s.words)
  newly y c = elim (Contains-append_cases w.retired (x ∷ []) y c) [
    | inl had ↦ inl (subst (λ ys. Contains ys y) retired had)
    | inr last ↦ inr (ap (λ (z : Retired). z.stamp) (sym (only y last)) ∙ stamp)
  ]
    where
      only : (z : Retired) → Contains (x ∷ []) z → x ≡ z
      only z (n, within, at_n) = let zero_is : n ≡ 0 = omega arith in subst (λ k. get_or (x ∷ []) k z ≡ z) zero_is at_n
