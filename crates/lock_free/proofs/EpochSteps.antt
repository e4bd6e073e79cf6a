-- The epoch is looked at, pins are looked at, and it grows.
use Rattle.history.specs.declared.calls.Call.{Call}
use Rattle.std.proofs.Common.{◌≡◌, ◌==◌, ◌+◌, ◌⊎◌, ◌≤◌, ℕ, Bool, true, false, inl, inr, List, Contains, Some, set, slice_index, eq-eqb, ne_eqb, refl, sym, ap, subst, ◌∙◌, arith}
use Rattle.std.proofs.lemmas.Bool.{cases_Bool, cases_eq, true≢false, false≢true}
use Rattle.std.proofs.lemmas.List.{get_or-set_same, get_or-set_other, set-get_or, set-set}
use mathlib.Core.Option.{some, none}
use lib.ListN.{get_elem?}
use prog.Atomic.{either}
use Rattle.atomic_table.proofs.Lists.{at_set, set_again}
use Rattle.atomic_table.specs.Table as Table
use Rattle.atomic_table.specs.Table.{Allows, Me, step}
use Rattle.trie_words.specs.Codes.{pin_code, pin_of}
use Rattle.lock_free.specs.declared.rules.Checked.{Checked}
use Rattle.lock_free.specs.declared.rules.Pinned.{Pinned}
use Rattle.lock_free.specs.declared.rules.View.{View}
use Rattle.lock_free.specs.declared.sizes.Sizes.{Sizes}
use Rattle.lock_free.specs.Epochs.{HasAdvanced, HasChecked, going_by, has_advanced, has_checked, has_seen_epoch, is_in, knowing}
use Rattle.lock_free.specs.Loading.{IsSound}
use Rattle.lock_free.specs.Places.{epoch_word, pin_word}
use Rattle.lock_free.specs.Links.{AreLinked, link_in}
use Rattle.lock_free.specs.Shadows.{IsShadowed}
use Rattle.lock_free.specs.Rules.{AreEpochs, AreRetired, IsKept, IsPinned, IsRuled, none_checked, pin_word_of}
use Rattle.lock_free.proofs.Assembling.{here}
use Rattle.lock_free.proofs.Closers.{shown_word}
use Rattle.lock_free.proofs.CountWords.{count_not_epoch}
use Rattle.lock_free.proofs.OwedStay.{owed_same}
use Rattle.lock_free.proofs.LinksStay.{linked_then}
use Rattle.lock_free.proofs.EpochStays.{epoch_in}
use Rattle.lock_free.proofs.EpochWord.{grown, grown_kept}
use Rattle.lock_free.proofs.GoneSeats.{heard_still}
use Rattle.lock_free.proofs.Exchanged.{either_hit, either_miss}
use Rattle.lock_free.proofs.Moments.{allowed_by}
use Rattle.lock_free.proofs.PinnedFor.{asks_kept}
use Rattle.lock_free.proofs.PinStep.{pin_back}
use Rattle.lock_free.proofs.RetiredSlots.{its_slots}
use Rattle.lock_free.proofs.RetiredStay.{retired_then}

-- what a seat knows of the epoch isn't what it is sound by
pub known_sound : (words : ℕ) (v : View) (epoch : ℕ) (passed : Checked) → IsSound words v → IsSound words (record v { epoch = epoch; passed = passed })
known_sound words v epoch passed h = record { size = h.size; range = h.range; bounds = h.bounds; keys = h.keys; counted = h.counted; inside = h.inside; free = h.free }

module _ (v : View) (s : Table.State Call View) (kept : IsKept v.sizes s) (id : ℕ) (at : get_elem? s.views id ≡ some v) where
  -- ---- of words and steps the rule says nothing else then

  pub known_kept : (epoch : ℕ) (passed : Checked) → (passed.cleared ≡ true → v.passed.cleared ≡ true) → IsKept v.sizes (record {
    words = s.words;
    homes = s.homes;
    views = set s.views id
        (record v { epoch = epoch; passed = passed });
  })
  known_kept epoch passed clears = asks_kept v.sizes s kept id v at v.asks epoch passed clears

  pub grown_so : (epoch : ℕ) → IsKept v.sizes (record { words = set s.words epoch_word epoch; homes = s.homes; views = set s.views id (knowing v epoch) })
  grown_so epoch =
      subst (λ views. IsKept v.sizes (record { words = grown v.sizes s kept id v at epoch_word (omega arith) epoch; homes = s.homes; views = views })) (set-set s.views id v (knowing v epoch))
      (asks_kept v.sizes (record { words = grown v.sizes s kept id v at epoch_word (omega arith) epoch; homes = s.homes; views = set s.views id v })
      (grown_kept v.sizes s kept id v at epoch_word (omega arith) epoch) id v
      (here v.sizes s kept id v at v refl refl) v.asks epoch none_checked (λ c. absurd (false≢true c)))

module _ (v : View) (s : Table.State Call View) (kept : IsKept v.sizes s) (id : ℕ) (at : get_elem? s.views id ≡ some v) (h : AreEpochs s.words s.views) where
  -- ---- what the seat knows then

  module _ (epoch : ℕ) (passed : Checked) where
    abbrev pub known : View
    known = record v { epoch = epoch; passed = passed }

    abbrev pub views_then : List View
    views_then = set s.views id known

    -- what it was, or the seat itself
    abbrev Other : View → Type 0
    Other w = (k : ℕ) × (get_elem? s.views k ≡ some w)

    was : (k : ℕ) (w : View) → get_elem? views_then k ≡ some w → (known ≡ w) ⊎ Other w
    was k w e = elim (at_set s.views id k known w e) [ inl q ↦ inl q.1 | inr q ↦ inr (k, q.1) ]

    -- each has the pin and the actor that a seat had
    pin_was : (k : ℕ) (w : View) → get_elem? views_then k ≡ some w → (j : ℕ) × (x : View) × (get_elem? s.views j ≡ some x) × (w.actor ≡ x.actor) × (w.pin ≡ x.pin)
    pin_was k w e = elim (was k w e) [
      | inl own ↦ (id, v, at, ap (λ (x : View). x.actor) (sym own), ap (λ (x : View). x.pin) (sym own))
      | inr other ↦ (other.0, w, other.1, refl, refl)
    ]

    -- where this is so of the seat, and the epoch is what it was
    module _ (low : epoch ≤ epoch_in s.words)
        (passes : (j : ℕ) (w : View) → get_elem? s.views j ≡ some w → passed.cleared ≡ true → w.actor ≤ passed.seats → (p : Pinned) → w.pin ≡ Some p → p.shown ≡ true → epoch ≤ p.since)
        (fallen : (j : ℕ) (w : View) → get_elem? s.views j ≡ some w → passed.cleared ≡ true → (p : Pinned) → w.pin ≡ Some p → p.shown ≡ false → epoch ≤ p.since) where
      seen_then : (w : View) → (known ≡ w) ⊎ Other w → w.epoch ≤ epoch_in s.words
      seen_then w (inl own) = subst (λ (x : View). x.epoch ≤ epoch_in s.words) own low
      seen_then w (inr other) = h.seen other.0 w other.1

      passed_then : (x w : View) → (known ≡ x) ⊎ Other x → (j : ℕ) → get_elem? s.views j ≡ some w → x.passed.cleared ≡ true → w.actor ≤ x.passed.seats → (p : Pinned) →
          w.pin ≡ Some p → p.shown ≡ true → x.epoch ≤ p.since
      passed_then x w (inl own) j e all below p is shown =
          subst (λ (y : View). y.epoch ≤ p.since) own (passes j w e (ap (λ (y : View). y.passed.cleared) own ∙ all) (subst (λ (y : View). w.actor ≤ y.passed.seats) (sym own) below) p is shown)
      passed_then x w (inr other) j e all below p is shown = h.passed other.0 j x w other.1 e all below p is shown

      fallen_then : (x w : View) → (known ≡ x) ⊎ Other x → (j : ℕ) → get_elem? s.views j ≡ some w → x.passed.cleared ≡ true → (p : Pinned) → w.pin ≡ Some p → p.shown ≡ false → x.epoch ≤ p.since
      fallen_then x w (inl own) j e all p is hidden =
          subst (λ (y : View). y.epoch ≤ p.since) own (fallen j w e (ap (λ (y : View). y.passed.cleared) own ∙ all) p is hidden)
      fallen_then x w (inr other) j e all p is hidden = h.cleared other.0 j x w other.1 e all p is hidden

      pub known_epochs : AreEpochs s.words views_then
      known_epochs = record {
        seen = λ k w e. seen_then w (was k w e);
        pinned = λ k w e p is. (let b = pin_was k w e in h.pinned b.0 b.1 b.2 p (sym b.4 ∙ is));
        passed = λ i j x w ei ej all below p is shown.
            (let b = pin_was j w ej in passed_then x b.1 (was i x ei) b.0 b.2 all (subst (λ n. n ≤ x.passed.seats) b.3 below) p (sym b.4 ∙ is) shown);
        cleared = λ i j x w ei ej all p is hidden. (let b = pin_was j w ej in fallen_then x b.1 (was i x ei) b.0 b.2 all p (sym b.4 ∙ is) hidden);
      }

  -- ---- it grows

  module _ (is : epoch_in s.words ≡ v.epoch) (all : v.passed.seats ≡ v.sizes.seats) (fallen : v.passed.cleared ≡ true) where
    abbrev pub epoch_then : ℕ
    epoch_then = v.epoch + 1

    abbrev words_then : List ℕ
    words_then = set s.words epoch_word epoch_then

    grows : epoch_in words_then ≡ v.epoch + 1
    grows = let size = kept.size in get_or-set_same s.words epoch_word epoch_then 0 (omega (arith, size))

    -- each seat that is pinned has pinned itself since the present epoch
    since_all : (j : ℕ) (w : View) → get_elem? s.views j ≡ some w → (p : Pinned) → w.pin ≡ Some p → v.epoch ≤ p.since
    since_all j w e p pinned =
        let seat = kept.seats j w e in
        let top = seat.top in
        let most = seat.most in elim (cases_Bool p.shown) [
          | inl shown ↦ h.passed id j v w at e fallen (omega (arith, top, most, all)) p pinned shown
          | inr hidden ↦ h.cleared id j v w at e fallen p pinned hidden
        ]

    pinned_then : (j : ℕ) (w : View) → get_elem? s.views j ≡ some w → (p : Pinned) → w.pin ≡ Some p → IsPinned words_then p
    pinned_then j w e p pinned =
        let old = h.pinned j w e p pinned in
        let later = since_all j w e p pinned in
        let since = old.since in
        record { fits = old.fits; read = old.read; since = omega (arith, since, grows, is); soon = omega (arith, later, grows) }

    abbrev views_grown : List View
    views_grown = set s.views id (knowing v epoch_then)

    seen_grown : (w : View) → (known epoch_then none_checked ≡ w) ⊎ Other epoch_then none_checked w → w.epoch ≤ epoch_in words_then
    seen_grown w (inl own) = subst (λ (x : View). x.epoch ≤ epoch_in words_then) own (omega (arith, grows))
    seen_grown w (inr other) = let before = h.seen other.0 w other.1 in omega (arith, before, grows, is)

    passed_grown : (x w : View) → (known epoch_then none_checked ≡ x) ⊎ Other epoch_then none_checked x → (j : ℕ) → get_elem? s.views j ≡ some w → x.passed.cleared ≡ true → w.actor ≤ x.passed.seats →
        (p : Pinned) → w.pin ≡ Some p → p.shown ≡ true → x.epoch ≤ p.since
    passed_grown x w (inl own) j e fell below p pinned shown =
        let none : w.actor ≤ 0 = subst (λ (y : View). w.actor ≤ y.passed.seats) (sym own) below in let low = (kept.seats j w e).low in absurd (omega (arith, none, low))
    passed_grown x w (inr other) j e fell below p pinned shown = h.passed other.0 j x w other.1 e fell below p pinned shown

    cleared_grown : (x w : View) → (known epoch_then none_checked ≡ x) ⊎ Other epoch_then none_checked x → (j : ℕ) → get_elem? s.views j ≡ some w → x.passed.cleared ≡ true → (p : Pinned) →
        w.pin ≡ Some p → p.shown ≡ false → x.epoch ≤ p.since
    cleared_grown x w (inl own) j e all p pinned hidden = absurd (false≢true (ap (λ (y : View). y.passed.cleared) own ∙ all))
    cleared_grown x w (inr other) j e all p pinned hidden = h.cleared other.0 j x w other.1 e all p pinned hidden

    pub grown_epochs : AreEpochs words_then views_grown
    grown_epochs = record {
      seen = λ k w e. seen_grown w (was epoch_then none_checked k w e);
      pinned = λ k w e p pinned. (let b = pin_was epoch_then none_checked k w e in pinned_then b.0 b.1 b.2 p (sym b.4 ∙ pinned));
      passed = λ i j x w ei ej fell below p pinned shown. (let b = pin_was epoch_then none_checked j w ej in
          passed_grown x b.1 (was epoch_then none_checked i x ei) b.0 b.2 fell (subst (λ n. n ≤ x.passed.seats) b.3 below) p (sym b.4 ∙ pinned) shown);
      cleared = λ i j x w ei ej all p pinned hidden. (let b = pin_was epoch_then none_checked j w ej in
          cleared_grown x b.1 (was epoch_then none_checked i x ei) b.0 b.2 all p (sym b.4 ∙ pinned) hidden);
    }

-- all that it knows else stays
pub known_ruled : (sizes : Sizes) (s : Table.State Call View) → IsRuled sizes s → (id : ℕ) (v : View) → get_elem? s.views id ≡ some v → 1 ≤ v.sizes.seats → (epoch : ℕ) (passed : Checked) →
    IsKept v.sizes (record { words = s.words; homes = s.homes; views = set s.views id (record v { epoch = epoch; passed = passed }) }) →
    AreEpochs s.words (set s.views id (record v { epoch = epoch; passed = passed })) →
    IsRuled sizes (record { words = s.words; homes = s.homes; views = set s.views id (record v { epoch = epoch; passed = passed }) })
known_ruled sizes s ruled id v at some_seats epoch passed kept epochs =
    let its = (ruled.kept.seats id v at).same some_seats in
    let w : View = record v { epoch = epoch; passed = passed } in
    record {
      kept = subst (λ z. IsKept z (record { words = s.words; homes = s.homes; views = set s.views id w })) its kept;
      epochs = epochs;
      retired = retired_then s.views id v at w refl (λ p is. is) sizes s.words s.words (omega arith) ruled.retired;
      owed = owed_same s.views id v at w refl refl refl ruled.owed;
      linked = linked_then s.views id v at w refl (λ x c. c) sizes s.words s.words (λ c is. refl) ruled.linked;
      heard = heard_still s.views id v at some_seats w refl ruled.heard;
    }

-- ---- the accesses

pub see_allowed : (sizes : Sizes) (size id : ℕ) (me : Me Call View) (some_seats : 1 ≤ me.0.sizes.seats) →
    Allows (IsShadowed sizes) size id me epoch_word (λ n. n) (has_seen_epoch (step size epoch_word 0 0 none) me)
see_allowed sizes size id me some_seats =
    allowed_by sizes size id me epoch_word (λ n. n) (has_seen_epoch (step size epoch_word 0 0 none) me)
    some_seats
    (λ s kept epochs retired owed linked at. (let v = knowing me.0 (epoch_in s.words) in let same = sym (set-get_or s.words epoch_word 0) in (
      v,
      (inr refl, refl, λ shown. shown),
      subst (λ ws. IsKept me.0.sizes (record { words = ws; homes = s.homes; views = set s.views id v })) same (known_kept me.0 s kept id at (epoch_in s.words) none_checked (λ c. absurd
          (false≢true c))),
      subst (λ ws. AreEpochs ws (set s.views id v)) same
          (known_epochs me.0 s kept id at epochs (epoch_in s.words) none_checked (omega arith)
          (λ j w e fell none p is shown. (let low = (kept.seats j w e).low in absurd (omega (arith, none, low)))) (λ j w e all. absurd (false≢true all))),
      subst (λ ws. AreRetired me.0.sizes ws (set s.views id v)) same (retired_then s.views id me.0 at v refl (λ p is. is) me.0.sizes s.words s.words (omega arith) retired),
      owed_same s.views id me.0 at v refl refl refl owed,
      subst (λ ws. AreLinked me.0.sizes ws (set s.views id v)) same (linked_then s.views id me.0 at v refl (λ x c. c) me.0.sizes s.words s.words (λ c is. refl) linked),
      refl,
      (epochs.seen id me.0 at, refl, its_slots me.0.sizes s kept id me.0 at retired refl),
    )))

module _ (me : Me Call View) (s : Table.State Call View) (kept : IsKept me.0.sizes s) (id : ℕ) (at : get_elem? s.views id ≡ some me.0) (h : AreEpochs s.words s.views) where
  abbrev next : ℕ
  next = slice_index s.words (pin_word (me.0.passed.seats + 1))

  abbrev Leaves : View → Bool → Type 0
  Leaves w b =
      IsKept me.0.sizes (record { words = s.words; homes = s.homes; views = set s.views id w }) × AreEpochs s.words (set s.views id w)
      × ((w.retired ≡ me.0.retired) × (w.pin ≡ me.0.pin) × (w.owed ≡ me.0.owed) × (w.links ≡ me.0.links) × (w.glance ≡ me.0.glance)) × (w.heard ≡ me.0.heard) × HasChecked me.0 b w

  same_epoch : (epoch : ℕ) (p : Pinned) → is_in epoch (Some p.pin) ≡ true → p.pin.epoch ≡ epoch
  same_epoch epoch p e = elim (cases_eq p.pin.epoch epoch) [ inl same ↦ same | inr differs ↦ absurd (true≢false (sym e ∙ ne_eqb p.pin.epoch epoch differs)) ]

  -- whoever has the next pin is in the epoch
  next_since : is_in me.0.epoch (pin_of next) ≡ true → (j : ℕ) (w : View) → get_elem? s.views j ≡ some w → w.actor ≡ me.0.passed.seats + 1 → (p : Pinned) → w.pin ≡ Some p → p.shown ≡ true →
      me.0.epoch ≤ p.since
  next_since e j w at_w its p pinned shown =
      let all = h.pinned j w at_w p pinned in
      let code : next ≡ pin_code p.pin = ap (λ n. slice_index s.words (pin_word n)) (sym its) ∙ (kept.seats j w at_w).pinned ∙ ap pin_word_of pinned ∙ shown_word p shown in
      let same = same_epoch me.0.epoch p (ap (is_in me.0.epoch) (sym (ap pin_of code ∙ pin_back p.pin all.fits)) ∙ e) in
      let read = all.read in
      omega (arith, same, read)

  goes_by : (b : Bool) → is_in me.0.epoch (pin_of next) ≡ b → (w : View) × Leaves w b
  goes_by true e = (
    going_by me.0,
    (
      known_kept me.0 s kept id at me.0.epoch (record me.0.passed { seats = me.0.passed.seats + 1 }) (λ c. c),
      known_epochs me.0 s kept id at h me.0.epoch (record me.0.passed { seats = me.0.passed.seats + 1 }) (h.seen id me.0 at)
          (λ j w at_w fell below p pinned shown. elim (cases_eq w.actor (me.0.passed.seats + 1)) [
            | inl its ↦ next_since e j w at_w its p pinned shown
            | inr differs ↦ h.passed id j me.0 w at at_w fell (omega (arith, below, differs)) p pinned shown
          ])
          (λ j w at_w all p pinned hidden. h.cleared id j me.0 w at at_w all p pinned hidden),
      (refl, refl, refl, refl, refl),
      refl,
      (λ x. refl, λ x. absurd (true≢false x)),
    ),
  )
  goes_by false e = (
    me.0,
    (
      known_kept me.0 s kept id at me.0.epoch me.0.passed (λ c. c),
      subst (AreEpochs s.words) (sym (set_again s.views id me.0 at)) h,
      (refl, refl, refl, refl, refl),
      refl,
      (λ x. absurd (true≢false (sym x)), λ x. refl),
    ),
  )

pub check_allowed : (sizes : Sizes) (size id : ℕ) (me : Me Call View) (some_seats : 1 ≤ me.0.sizes.seats) →
    Allows (IsShadowed sizes) size id me (pin_word (me.0.passed.seats + 1)) (λ n. n) (has_checked (step size (pin_word (me.0.passed.seats + 1)) 0 0 none) me)
check_allowed sizes size id me some_seats =
    let word = pin_word (me.0.passed.seats + 1) in
    allowed_by sizes size id me word (λ n. n) (has_checked (step size word 0 0 none) me)
    some_seats
    (λ s kept epochs retired owed linked at. (
    let x = goes_by me s kept id at epochs (is_in me.0.epoch (pin_of (slice_index s.words word))) refl in
    let same = sym (set-get_or s.words word 0) in (
      x.0,
      (inr refl, x.1.2.4, λ shown p is. shown p (sym x.1.2.1 ∙ is)),
      subst (λ ws. IsKept me.0.sizes (record { words = ws; homes = s.homes; views = set s.views id x.0 })) same x.1.0,
      subst (λ ws. AreEpochs ws (set s.views id x.0)) same x.1.1,
      subst (λ ws. AreRetired me.0.sizes ws (set s.views id x.0)) same
          (retired_then s.views id me.0 at x.0 x.1.2.0 (λ p is. sym x.1.2.1 ∙ is) me.0.sizes s.words s.words (omega arith) retired),
      owed_same s.views id me.0 at x.0 x.1.2.2 x.1.2.1 x.1.2.0 owed,
      subst (λ ws. AreLinked me.0.sizes ws (set s.views id x.0)) same
          (linked_then s.views id me.0 at x.0 x.1.2.3 (λ y c. subst (λ xs. Contains xs y) (sym x.1.2.0) c) me.0.sizes s.words s.words (λ c is. refl) linked),
      x.1.3,
      (x.1.4, refl),
    )))

module _ (me : Me Call View) (all : me.0.passed.seats ≡ me.0.sizes.seats) (fallen : me.0.passed.cleared ≡ true) (s : Table.State Call View) (kept : IsKept me.0.sizes s) (id : ℕ)
    (at : get_elem? s.views id ≡ some me.0)
    (h : AreEpochs s.words s.views) where
  abbrev Grows : View → Type 0
  Grows w =
      let words = set s.words epoch_word (either (epoch_in s.words == me.0.epoch) (me.0.epoch + 1) (epoch_in s.words)) in
      IsKept me.0.sizes (record { words = words; homes = s.homes; views = set s.views id w }) × AreEpochs words (set s.views id w)
      × ((epoch_in s.words ≤ epoch_in words) × (w.retired ≡ me.0.retired) × (w.pin ≡ me.0.pin) × (w.owed ≡ me.0.owed) × (w.links ≡ me.0.links) × (w.glance ≡ me.0.glance)) ×
      (w.heard ≡ me.0.heard) × HasAdvanced me.0 (epoch_in s.words == me.0.epoch) w

  grows_or_not : (w : View) × Grows w
  grows_or_not = elim (cases_eq (epoch_in s.words) me.0.epoch) [
    | inl is ↦
        (let w = knowing me.0 (me.0.epoch + 1) in
        let same = ap (set s.words epoch_word) (sym (either_hit (epoch_in s.words) me.0.epoch (me.0.epoch + 1) is)) in (
          w,
          (
            subst (λ ws. IsKept me.0.sizes (record { words = ws; homes = s.homes; views = set s.views id w })) same (grown_so me.0 s kept id at (me.0.epoch + 1)),
            subst (λ ws. AreEpochs ws (set s.views id w)) same (grown_epochs me.0 s kept id at h is all fallen),
            (subst (λ ws. epoch_in s.words ≤ epoch_in ws) same (let more = grows me.0 s kept id at h is all fallen in omega (arith, more, is)), refl, refl, refl, refl, refl),
            refl,
            (λ x. refl, λ x. absurd (true≢false (sym (eq-eqb (epoch_in s.words) me.0.epoch is) ∙ x))),
          ),
        ))
    | inr differs ↦
        (let same = sym (ap (set s.words epoch_word) (either_miss (epoch_in s.words) me.0.epoch (me.0.epoch + 1) differs) ∙ set-get_or s.words epoch_word 0) in (
          me.0,
          (
            subst (λ ws. IsKept me.0.sizes (record { words = ws; homes = s.homes; views = set s.views id me.0 })) same (known_kept me.0 s kept id at me.0.epoch me.0.passed (λ c. c)),
            subst (λ ws. AreEpochs ws (set s.views id me.0)) same (subst (AreEpochs s.words) (sym (set_again s.views id me.0 at)) h),
            (subst (λ ws. epoch_in s.words ≤ epoch_in ws) same (omega arith), refl, refl, refl, refl, refl),
            refl,
            (λ x. absurd (true≢false (sym x ∙ ne_eqb (epoch_in s.words) me.0.epoch differs)), λ x. refl),
          ),
        ))
  ]

pub advance_allowed : (sizes : Sizes) (size id : ℕ) (me : Me Call View) (some_seats : 1 ≤ me.0.sizes.seats) (epoch : ℕ) → me.0.epoch ≡ epoch → me.0.passed.seats ≡ me.0.sizes.seats
    → me.0.passed.cleared ≡ true →
    Allows (IsShadowed sizes) size id me epoch_word (λ n. either (n == epoch) (epoch + 1) n) (has_advanced (step size epoch_word epoch (epoch + 1) none) me)
advance_allowed sizes size id me some_seats epoch its all fallen =
    subst (λ e. Allows (IsShadowed sizes) size id me epoch_word (λ n. either (n == e) (e + 1) n) (has_advanced (step size epoch_word e (e + 1) none) me)) its
    (allowed_by sizes size id me epoch_word (λ n. either (n == me.0.epoch) (me.0.epoch + 1) n) (has_advanced (step size epoch_word me.0.epoch (me.0.epoch + 1) none) me)
    some_seats
    (λ s kept epochs retired owed linked at. (let x = grows_or_not me all fallen s kept id at epochs in (
      x.0,
      (inl (λ e. omega (arith, e)), x.1.2.5, λ shown p is. shown p (sym x.1.2.2 ∙ is)),
      x.1.0,
      x.1.1,
      retired_then s.views id me.0 at x.0 x.1.2.1 (λ p is. sym x.1.2.2 ∙ is) me.0.sizes s.words _ x.1.2.0 retired,
      owed_same s.views id me.0 at x.0 x.1.2.3 x.1.2.2 x.1.2.1 owed,
      linked_then s.views id me.0 at x.0 x.1.2.4 (λ y c. subst (λ xs. Contains xs y) (sym x.1.2.1) c) me.0.sizes s.words _
          (λ c is. ap link_in (get_or-set_other s.words epoch_word c _ 0 (count_not_epoch me.0.sizes c is))) linked,
      x.1.3,
      (x.1.4, refl),
    ))))

-- ---- what is sound stays so

pub checked_sound : (words : ℕ) (before : View) (present : Bool) (after : View) → HasChecked before present after → IsSound words before → IsSound words after
checked_sound words before true after h sound = subst (IsSound words) (sym (h.0 refl)) (known_sound words before before.epoch (record before.passed { seats = before.passed.seats + 1 }) sound)
checked_sound words before false after h sound = subst (IsSound words) (sym (h.1 refl)) sound

pub advanced_sound : (words : ℕ) (before : View) (grew : Bool) (after : View) → HasAdvanced before grew after → IsSound words before → IsSound words after
advanced_sound words before true after h sound = subst (IsSound words) (sym (h.0 refl)) (known_sound words before (before.epoch + 1) none_checked sound)
advanced_sound words before false after h sound = subst (IsSound words) (sym (h.1 refl)) sound
