-- What a seat that doesn't glance may do under the rule of shadows: what it may under the rule itself.
use Rattle.history.specs.declared.calls.Call.{Call}
use Rattle.std.proofs.Common.{◌≡◌, ◌≤◌, ℕ, zero, suc, List, [], ◌∷◌, ◌++◌, set, slice_index, None, refl, sym, ap, subst, ◌∙◌, arith}
use Rattle.std.proofs.lemmas.Option.{none-some}
use mathlib.Core.Option.{some, some-injective, some-ne-none}
use lib.ListN.{get_elem?}
use Rattle.atomic_table.specs.Table as Table
use Rattle.atomic_table.specs.Table.{Act, Allows, Joins, Me, Splits, Valid, carried_after, homes_after, stepped}
use Rattle.atomic_table.proofs.Lists.{set_else}
use Rattle.lock_free.specs.declared.rules.View.{View}
use Rattle.lock_free.specs.declared.sizes.Sizes.{Sizes}
use Rattle.lock_free.specs.Places.{glance_word}
use Rattle.lock_free.specs.Rules.{IsRuled, IsShown}
use Rattle.lock_free.specs.Shadows.{AreShadows, IsShadow, IsShadowed, alive, fallen, itself, more, none, with_views}
use Rattle.lock_free.proofs.CountWords.{Aside, stays_aside}
use Rattle.lock_free.proofs.EpochStays.{IsAsWas}

-- ---- one after the other

pub shadow_at : (count : ℕ) (vs ws : List View) → AreShadows count vs ws → (k : ℕ) (v : View) → get_elem? vs k ≡ some v → (w : View) × (get_elem? ws k ≡ some w) × IsShadow count v w
shadow_at count vs ws none k v e = absurd (some-ne-none v (sym e))
shadow_at count vs ws (more x y xs ys is rest) zero v e = (y, refl, subst (λ z. IsShadow count z y) (some-injective x v e) is)
shadow_at count vs ws (more x y xs ys is rest) (suc k) v e = shadow_at count xs ys rest k v e

pub shadows_set : (count : ℕ) (vs ws : List View) → AreShadows count vs ws → (k : ℕ) (v w : View) → IsShadow count v w → AreShadows count (set vs k v) (set ws k w)
shadows_set count vs ws none k v w is = none
shadows_set count vs ws (more x y xs ys its rest) zero v w is = more v w xs ys is rest
shadows_set count vs ws (more x y xs ys its rest) (suc k) v w is = more x y (set xs k v) (set ys k w) its (shadows_set count xs ys rest k v w is)

pub shadows_last : (count : ℕ) (vs ws : List View) → AreShadows count vs ws → (v w : View) → IsShadow count v w → AreShadows count (vs ++ v ∷ []) (ws ++ w ∷ [])
shadows_last count vs ws none v w is = more v w [] [] is none
shadows_last count vs ws (more x y xs ys its rest) v w is = more x y (xs ++ v ∷ []) (ys ++ w ∷ []) its (shadows_last count xs ys rest v w is)

-- ---- whoever has sizes doesn't glance

pub itself_by : (count : ℕ) (v w : View) → 1 ≤ v.sizes.seats → IsShadow count v w → (w ≡ v) × IsShown v × (v.glance ≡ None)
itself_by count v w some_seats (itself plain is shown) = (is, shown, plain)
itself_by count v w some_seats (alive g is spent kept read low inner hidden) = absurd (omega (arith, some_seats, spent))
itself_by count v w some_seats (fallen g is spent low fell) = absurd (omega (arith, some_seats, spent))

module _ (sizes : Sizes) (s : Table.State Call View) (h : IsShadowed sizes s) (id : ℕ) (v : View) (at : get_elem? s.views id ≡ some v) (some_seats : 1 ≤ v.sizes.seats) where
  pub its_shadow : (get_elem? h.shadows id ≡ some v) × IsShown v × (v.glance ≡ None)
  its_shadow =
      let (w, at_w, is) = shadow_at (slice_index s.words glance_word) s.views h.shadows h.are id v at in
      let same = itself_by (slice_index s.words glance_word) v w some_seats is in
      (at_w ∙ ap some same.0, same.1, same.2)

-- ---- what an access of such a seat may do

module _ (sizes : Sizes) (size id : ℕ) (me : Me Call View) (word : ℕ) (f : ℕ → ℕ) (then : ℕ → Me Call View → Type 0) where
  -- glances are counted as before, the seat glances no more than it did, and if a word says that it is pinned one says so still
  abbrev pub Stays : Table.State Call View → View → Type 0
  Stays s w = Aside word f s.words × (w.glance ≡ me.0.glance) × (IsShown me.0 → IsShown w)

  abbrev pub Lifts : Table.State Call View → Type 0
  Lifts s =
      (w : View) × (a : Act Call) × Stays s w × Valid s.homes me.1 a × IsRuled sizes (stepped s word (f (slice_index s.words word)) id me.1 w a)
      × then (slice_index s.words word) (w, carried_after me.1 a)

  -- whatever the table is, as the rule of it has it
  abbrev pub AllowsRuled : Type 0
  AllowsRuled = (s : Table.State Call View) → IsRuled sizes s → get_elem? s.views id ≡ some me.0 → Lifts s

  pub lifted : 1 ≤ me.0.sizes.seats → AllowsRuled → Allows (IsShadowed sizes) size id me word f then
  lifted some_seats allows s shadowed length_is at low =
      let (here, shown, plain) = its_shadow sizes s shadowed id me.0 at some_seats in
      let x = allows (with_views s shadowed.shadows) shadowed.ruled here in
      let same = stays_aside s.words word f x.2.0 in (
        x.0,
        x.1,
        x.3,
        record {
          shadows = set shadowed.shadows id x.0;
          ruled = x.4;
          are =
              subst (λ n. AreShadows n (set s.views id x.0) (set shadowed.shadows id x.0)) (sym same)
              (shadows_set (slice_index s.words glance_word) s.views shadowed.shadows shadowed.are id x.0 x.0 (itself (x.2.1 ∙ plain) refl (x.2.2 shown)));
        },
        x.5,
      )

  -- it is pinned as it was, if at all
  pub stays_by : (s : Table.State Call View) → Aside word f s.words → (w : View) → IsAsWas me.0 w → Stays s w
  stays_by s aside w it = (aside, it.glance, λ shown p is. shown p (it.pinned p is))

-- ---- such a seat is split, or hears of another one

module _ (sizes : Sizes) (id : ℕ) (v : View) (some_seats : 1 ≤ v.sizes.seats) where
  pub lifted_split : (left right : View) → (left.glance ≡ v.glance) × (left.pin ≡ v.pin) → (right.glance ≡ None) × (right.pin ≡ None) → Splits (IsRuled sizes) id v left right →
      Splits (IsShadowed sizes) id v left right
  lifted_split left right (plain, pin) (plain_too, free) splits s h at =
      let (here, shown, none_yet) = its_shadow sizes s h id v at some_seats in
      let count = slice_index s.words glance_word in
      record {
        shadows = set h.shadows id left ++ right ∷ [];
        ruled = splits (with_views s h.shadows) h.ruled here;
        are =
            shadows_last count (set s.views id left) (set h.shadows id left)
            (shadows_set count s.views h.shadows h.are id left left (itself (plain ∙ none_yet) refl (λ p is. shown p (sym pin ∙ is)))) right right
            (itself plain_too refl (λ p is. absurd (none-some p (sym free ∙ is))));
      }

  pub lifted_join : (other : ℕ) (w both spent : View) → 1 ≤ w.sizes.seats → (both.glance ≡ v.glance) × (both.pin ≡ v.pin) → (spent.glance ≡ w.glance) × (spent.pin ≡ w.pin) →
      Joins (IsRuled sizes) id v other w both spent → Joins (IsShadowed sizes) id v other w both spent
  lifted_join other w both spent some_too (plain, pin) (plain_too, pin_too) joins s h at apart at_other =
      let (here, shown, none_yet) = its_shadow sizes s h id v at some_seats in
      let there = sym (set_else s.views id other both apart) ∙ at_other in
      let (here_too, shown_too, none_too) = its_shadow sizes s h other w there some_too in
      let count = slice_index s.words glance_word in
      record {
        shadows = set (set h.shadows id both) other spent;
        ruled = joins (with_views s h.shadows) h.ruled here apart (set_else h.shadows id other both apart ∙ here_too);
        are =
            shadows_set count (set s.views id both) (set h.shadows id both)
            (shadows_set count s.views h.shadows h.are id both both (itself (plain ∙ none_yet) refl (λ p is. shown p (sym pin ∙ is)))) other spent spent
            (itself (plain_too ∙ none_too) refl (λ p is. shown_too p (sym pin_too ∙ is)));
      }
