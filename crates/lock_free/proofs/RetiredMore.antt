-- What the rule says where a seat has retired one slot more, in the present epoch.
use Rattle.std.proofs.Common.{◌≡◌, ◌≢◌, ◌⊎◌, ◌≤◌, ◌++◌, inl, inr, ℕ, zero, suc, List, [], ◌∷◌, Contains, map, set, Some, sym, ap, subst, ◌∙◌, arith}
use Rattle.std.proofs.lemmas.List.{map-append}
use Rattle.std.proofs.lemmas.List.Elements.{Contains-append_cases}
use mathlib.Core.Option.{some}
use lib.ListN.{get_elem?}
use Rattle.atomic_table.proofs.Lists.{at_set}
use Rattle.lock_free.specs.declared.accounts.Account.{Account}
use Rattle.lock_free.specs.declared.rules.Pinned.{Pinned}
use Rattle.lock_free.specs.declared.rules.Retired.{Retired}
use Rattle.lock_free.specs.declared.rules.View.{View}
use Rattle.lock_free.specs.declared.sizes.Sizes.{Sizes}
use Rattle.lock_free.specs.Reclaiming.{retiring, retiring_all}
use Rattle.lock_free.specs.Rules.{AreEpochs, AreRetired, IsApartFrom, IsFarFrom, IsRetired, IsSeat, Once, Standing}
use Rattle.lock_free.proofs.EpochStays.{epoch_in}
use Rattle.lock_free.proofs.Pools.{mapped, once_more}

pub only_one : (x y : Retired) → Contains (x ∷ []) y → x ≡ y
only_one x y (zero, within, is) = is
only_one x y (suc n, within, is) = absurd (omega (arith, within))

-- ---- the seat

module _ (sizes : Sizes) (account : Account) (stands : Standing) (words : List ℕ) (w : View) (x : Retired) (is : IsRetired sizes account stands x) where
  pub seat_retiring : IsSeat sizes account stands words w → IsSeat sizes account stands words (retiring w x)
  seat_retiring h = record {
    same = h.same;
    low = h.low;
    top = h.top;
    most = h.most;
    waited = h.waited;
    counts = h.counts;
    rested = h.rested;
    rests = h.rests;
    pinned = h.pinned;
    pinned_idle = h.pinned_idle;
    retired = λ y c. elim (Contains-append_cases w.retired (x ∷ []) y c) [
      | inl before ↦ h.retired y before
      | inr new ↦ subst (IsRetired sizes account stands) (only_one x y new) is
    ];
    entered = h.entered;
    calls = h.calls;
    opens = h.opens;
    reserves = h.reserves;
    opening = λ handle slot o n. (let z = h.opening handle slot o n in record { low = z.low; fits = z.fits; is = z.is; free = z.free });
    spare = h.spare;
    once = h.once;
    drafts = h.drafts;
    plain = h.plain;
    offering = h.offering;
  }

-- the same of more than one
module _ (sizes : Sizes) (account : Account) (stands : Standing) (words : List ℕ) (w : View) (xs : List Retired)
    (are : (x : Retired) → Contains xs x → IsRetired sizes account stands x) where
  pub seat_retiring_all : IsSeat sizes account stands words w → IsSeat sizes account stands words (retiring_all w xs)
  seat_retiring_all h = record {
    same = h.same;
    low = h.low;
    top = h.top;
    most = h.most;
    waited = h.waited;
    counts = h.counts;
    rested = h.rested;
    rests = h.rests;
    pinned = h.pinned;
    pinned_idle = h.pinned_idle;
    retired = λ y c. elim (Contains-append_cases w.retired xs y c) [ inl before ↦ h.retired y before | inr new ↦ are y new ];
    entered = h.entered;
    calls = h.calls;
    opens = h.opens;
    reserves = h.reserves;
    opening = λ handle slot o n. (let z = h.opening handle slot o n in record { low = z.low; fits = z.fits; is = z.is; free = z.free });
    spare = h.spare;
    once = h.once;
    drafts = h.drafts;
    plain = h.plain;
    offering = h.offering;
  }

-- ---- all that is retired

abbrev numbers : List Retired → List ℕ
numbers xs = map (λ (y : Retired). y.number) xs

module _ (sizes : Sizes) (words : List ℕ) (views : List View) (id : ℕ) (v : View) (at : get_elem? views id ≡ some v) (x : Retired) (stamp : x.stamp ≡ epoch_in words)
    (epochs : AreEpochs words views) (old : AreRetired sizes words views)
    (new : (k : ℕ) (w : View) → get_elem? views k ≡ some w → (y : Retired) → Contains w.retired y → y.number ≢ x.number) where
  abbrev views_then : List View
  views_then = set views id (retiring v x)

  -- what a seat has retired then it had retired before, or it is this
  abbrev Had : ℕ → Retired → Type 0
  Had k y = (w : View) × (get_elem? views k ≡ some w) × Contains w.retired y

  had : (k : ℕ) (w : View) → get_elem? views_then k ≡ some w → (y : Retired) → Contains w.retired y → Had k y ⊎ ((k ≡ id) × (x ≡ y))
  had k w e y c = elim (at_set views id k (retiring v x) w e) [
    | inl p ↦ elim (Contains-append_cases v.retired (x ∷ []) y (subst (λ (u : View). Contains u.retired y) (sym p.1) c)) [
      | inl before ↦ inl (v, ap (λ n. get_elem? views n) p.0 ∙ at, before)
      | inr its ↦ inr (p.0, only_one x y its)
    ]
    | inr p ↦ inl (w, p.1, c)
  ]

  pinned : (k : ℕ) (w : View) → get_elem? views_then k ≡ some w → (p : Pinned) → w.pin ≡ Some p → (u : View) × (get_elem? views k ≡ some u) × (u.pin ≡ Some p)
  pinned k w e p is = elim (at_set views id k (retiring v x) w e) [
    | inl q ↦ (v, ap (λ n. get_elem? views n) q.0 ∙ at, ap (λ (u : View). u.pin) q.1 ∙ is)
    | inr q ↦ (w, q.1, is)
  ]

  once_own : Once (numbers (v.retired ++ x ∷ []))
  once_own =
      subst Once (sym (map-append (λ (y : Retired). y.number) v.retired (x ∷ [])))
      (once_more (numbers v.retired) x.number (old.once id v at) (λ c. (let (y, there, same) = mapped (λ (z : Retired). z.number) v.retired x.number c in new id v at y there same)))

  pub retired_more : AreRetired sizes words (set views id (retiring v x))
  retired_more = record {
    stamps = λ k w e y c. elim (had k w e y c) [
      | inl b ↦ old.stamps k b.0 b.1 y b.2
      | inr its ↦ subst (λ (z : Retired). z.stamp ≤ epoch_in words) its.1 (omega (arith, stamp))
    ];
    pins = λ i j u w ei ej y c p is. (let d = pinned j w ej p is in
        elim (had i u ei y c) [
          | inl b ↦ old.pins i j b.0 d.0 b.1 d.1 y b.2 p d.2
          | inr its ↦
              (let since = (epochs.pinned j d.0 d.1 p d.2).since in
              subst (λ (z : Retired). IsApartFrom z p × IsFarFrom sizes z p) its.1 (inl (omega (arith, since, stamp)), inl (omega (arith, since, stamp))))
        ]);
    once = λ k w e. elim (at_set views id k (retiring v x) w e) [
      | inl p ↦ subst (λ (u : View). Once (numbers u.retired)) p.1 once_own
      | inr p ↦ old.once k w p.1
    ];
    apart = λ i j u w ei ej y z cy cz same. elim (had i u ei y cy) [
      | inl b ↦ elim (had j w ej z cz) [
        | inl d ↦ old.apart i j b.0 d.0 b.1 d.1 y z b.2 d.2 same
        | inr its ↦ absurd (new i b.0 b.1 y b.2 (same ∙ ap (λ (r : Retired). r.number) (sym its.1)))
      ]
      | inr mine ↦ elim (had j w ej z cz) [
        | inl d ↦ absurd (new j d.0 d.1 z d.2 (sym same ∙ ap (λ (r : Retired). r.number) (sym mine.1)))
        | inr its ↦ mine.0 ∙ sym its.0
      ]
    ];
  }
