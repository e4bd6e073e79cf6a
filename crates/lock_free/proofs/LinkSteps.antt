-- The link of a slot that was retired is looked at, or is another one then.
use Rattle.history.specs.declared.calls.Call.{Call}
use Rattle.std.proofs.Common.{◌≡◌, ◌≢◌, ◌+◌, ◌-◌, ◌<◌, ◌≤◌, ◌%◌, ◌^◌, ℕ, List, inl, inr, Contains, set, slice_index, refl, sym, ap, subst, ◌∙◌, arith}
use Rattle.std.proofs.lemmas.Bool.{cases_eq}
use Rattle.std.proofs.lemmas.List.{get_or-set_same, get_or-set_other}
use mathlib.Core.Option.{some, none}
use lib.ListN.{get_elem?}
use Rattle.atomic_table.proofs.Lists.{at_set}
use Rattle.atomic_table.specs.Table.{Me, Allows, step}
use Rattle.atomic_table.specs.Table as Table
use Rattle.lock_free.specs.declared.rules.Retired.{Retired}
use Rattle.lock_free.specs.declared.rules.View.{View}
use Rattle.lock_free.specs.declared.sizes.Sizes.{Sizes}
use Rattle.lock_free.specs.Cells.{loose_link}
use Rattle.lock_free.specs.Counts.{IsCount, references, references_in}
use Rattle.lock_free.specs.Linking.{has_linked, has_seen_link, linking}
use Rattle.lock_free.specs.Links.{AreLinked, IsLinked, link_in}
use Rattle.lock_free.specs.Loading.{IsSound}
use Rattle.lock_free.specs.Making.{with_draft}
use Rattle.lock_free.specs.Places.{count_word}
use Rattle.lock_free.specs.Shadows.{IsShadowed}
use Rattle.lock_free.specs.Rules.{AreEpochs, AreOwed, AreRetired, IsKept}
use Rattle.lock_free.proofs.CountKept.{count_kept}
use Rattle.lock_free.proofs.CellsStay.{count_before, count_loosens_none}
use Rattle.lock_free.proofs.CountWords.{count_beside_slots, count_inside, count_not_epoch, count_not_glance}
use Rattle.lock_free.proofs.HeldStill.{held_then}
use Rattle.lock_free.proofs.OwedStay.{owed_same}
use Rattle.lock_free.proofs.Drafts.{which}
use Rattle.lock_free.proofs.EpochStays.{epoch_in, epochs_stay, stays_elsewhere, was_then}
use Rattle.lock_free.proofs.Moments.{allowed_by}
use Rattle.lock_free.proofs.RetiredSlots.{one_seat}
use Rattle.lock_free.proofs.RetiredStay.{epoch_still, retired_then}

module _ (v : View) (s : Table.State Call View) (kept : IsKept v.sizes s) (epochs : AreEpochs s.words s.views) (retired : AreRetired v.sizes s.words s.views)
    (owed : AreOwed s.views) (linked : AreLinked v.sizes s.words s.views) (id : ℕ) (at : get_elem? s.views id ≡ some v) (x : Retired) (c : Contains v.retired x)
    (word : ℕ) (is : IsCount v.sizes word) (its : word ≡ count_word v.sizes x.class x.name) (f : ℕ → ℕ) (counts : references_in (f (slice_index s.words word)) ≡ references s.words word)
    (loose : loose_link ≤ link_in (f (slice_index s.words word)) → loose_link ≤ link_in (slice_index s.words word)) where
  abbrev new : ℕ
  new = f (slice_index s.words word)

  abbrev words_then : List ℕ
  words_then = set s.words word new

  abbrev pub w : View
  w = linking v word (link_in new)

  is_new : slice_index words_then word ≡ new
  is_new = get_or-set_same s.words word new 0 (subst (λ n. word < n) (sym kept.size) (count_inside v.sizes word is))

  is_old : (other : ℕ) → other ≢ word → slice_index words_then other ≡ slice_index s.words other
  is_old other differs = get_or-set_other s.words word other new 0 differs

  same_epoch : epoch_in words_then ≡ epoch_in s.words
  same_epoch = stays_elsewhere s.words word f (inl (count_not_epoch v.sizes word is))

  same_references : (other : ℕ) → references words_then other ≡ references s.words other
  same_references other = elim (cases_eq other word) [
    | inl same ↦ subst (λ n. references words_then n ≡ references s.words n) (sym same) (ap references_in is_new ∙ counts)
    | inr differs ↦ ap references_in (is_old other differs)
  ]

  -- ---- links

  old_link : (k : ℕ) (y : View) → get_elem? s.views k ≡ some y → (d : ℕ × ℕ) → Contains y.links d → d.0 ≢ word → (u : View) → u.retired ≡ y.retired → IsLinked v.sizes words_then u d
  old_link k y e d has differs u same =
      let z = linked.linked k y e d has in
      record {
        count = z.count;
        item = z.item;
        its = subst (λ xs. Contains xs z.item) (sym same) z.its;
        word = z.word;
        is = ap link_in (is_old d.0 differs) ∙ z.is;
      }

  own_link : (d : ℕ × ℕ) → Contains w.links d → IsLinked v.sizes words_then w d
  own_link d has = elim (which word (link_in new) v.links d has) [
    | inl same ↦
        subst (IsLinked v.sizes words_then w) (sym same)
        (record { count = is; item = x; its = c; word = its; is = ap link_in is_new })
    | inr before ↦ old_link id v at d before.1 before.0 w refl
  ]

  -- no other seat knows a link in this word
  others_link : (k : ℕ) (y : View) → k ≢ id → get_elem? s.views k ≡ some y → (d : ℕ × ℕ) → Contains y.links d → IsLinked v.sizes words_then y d
  others_link k y apart e d has =
      let z = linked.linked k y e d has in
      old_link k y e d has (λ same. apart (one_seat v.sizes s kept k id y v e at z.item x z.its c retired (sym z.word ∙ same ∙ its))) y refl

  linked_then : AreLinked v.sizes words_then (set s.views id w)
  linked_then = record {
    linked = λ k y e d has. elim (at_set s.views id k w y e) [
      | inl p ↦ subst (λ u. IsLinked v.sizes words_then u d) p.1 (own_link d (subst (λ (u : View). Contains u.links d) (sym p.1) has))
      | inr p ↦ others_link k y p.0 p.1 d has
    ];
  }

  -- ---- all of it

  pub leaves : IsKept v.sizes (record { words = words_then; homes = s.homes; views = set s.views id w }) × AreEpochs words_then (set s.views id w)
      × AreRetired v.sizes words_then (set s.views id w) × AreOwed (set s.views id w) × AreLinked v.sizes words_then (set s.views id w)
  leaves = (
    count_kept v.sizes s kept id v at word (count_beside_slots v.sizes s.words kept.taken word is) new (count_before v.sizes word is)
        (count_loosens_none v.sizes s.words word new (subst (λ n. word < n) (sym kept.size) (count_inside v.sizes word is)) loose) v.owed (with_draft v.links word (link_in new))
        (held_then v.sizes s kept id v at w refl refl refl words_then (λ other is_other. same_references other)),
    epochs_stay s.words words_then s.views (set s.views id w) same_epoch (was_then s.views id v at w (record { actor = refl; epoch = refl; passed = refl; glance = refl; pinned = λ p e. e })) epochs,
    retired_then s.views id v at w refl (λ p e. e) v.sizes s.words words_then (epoch_still s.words words_then same_epoch) retired,
    owed_same s.views id v at w refl refl refl owed,
    linked_then,
  )

-- ---- the accesses

pub see_link_allowed : (sizes : Sizes) (size id : ℕ) (me : Me Call View) (some_seats : 1 ≤ me.0.sizes.seats) (word : ℕ) → IsCount me.0.sizes word → (x : Retired) → Contains me.0.retired x →
    word ≡ count_word me.0.sizes x.class x.name → Allows (IsShadowed sizes) size id me word (λ n. n) (has_seen_link (step size word 0 0 none) me)
see_link_allowed sizes size id me some_seats word is x c its =
    allowed_by sizes size id me word (λ n. n) (has_seen_link (step size word 0 0 none) me)
    some_seats
    (λ s kept epochs retired owed linked at. (let y = leaves me.0 s kept epochs retired owed linked id at x c word is its (λ n. n) refl (λ h. h) in
    (linking me.0 word (link_in (slice_index s.words word)), (inr refl, refl, λ shown. shown), y.0, y.1, y.2, y.3, y.4, refl, refl)))

-- the link that the seat knows becomes this one, and nothing else changes
kept_by_link : (found known new : ℕ) → known < 2 ^ 32 → new < 2 ^ 32 → link_in found ≡ known → references_in ((found + (new + (2 ^ 64 - known)) % 2 ^ 64) % 2 ^ 64) ≡ references_in found
kept_by_link found known new low fits is = omega (arith, low, fits, is)

pub new_link : (found old new change : ℕ) → old < 2 ^ 32 → new < 2 ^ 32 → link_in found ≡ old → change ≡ (new + (2 ^ 64 - old)) % 2 ^ 64 → link_in ((found + change) % 2 ^ 64) ≡ new
new_link found old new change low fits is by = omega (arith, low, fits, is, by)

pub link_allowed : (sizes : Sizes) (size id : ℕ) (me : Me Call View) (some_seats : 1 ≤ me.0.sizes.seats) (word : ℕ) → IsCount me.0.sizes word → (known : ℕ) → Contains me.0.links (word, known) →
    (new change : ℕ) → known < 2 ^ 32 → new < loose_link → change ≡ (new + (2 ^ 64 - known)) % 2 ^ 64 →
    Allows (IsShadowed sizes) size id me word (λ n. (n + change) % 2 ^ 64) (has_linked (step size word change 0 none) me)
link_allowed sizes size id me some_seats word is known has new change low fits by =
    allowed_by sizes size id me word (λ n. (n + change) % 2 ^ 64) (has_linked (step size word change 0 none) me)
    some_seats
    (λ s kept epochs retired owed linked at. (
    let z = linked.linked id me.0 at (word, known) has in
    let found = slice_index s.words word in
    let y = leaves me.0 s kept epochs retired owed linked id at z.item z.its word is z.word (λ n. (n + change) % 2 ^ 64)
    (ap (λ c. references_in ((found + c) % 2 ^ 64)) by ∙ kept_by_link found known new low (omega (arith, fits)) z.is)
    (λ above. (let link = new_link found known new change low (omega (arith, fits)) z.is by in absurd (omega (arith, above, link, fits)))) in (
      linking me.0 word (link_in ((found + change) % 2 ^ 64)),
      (inl (count_not_glance me.0.sizes word is), refl, λ shown. shown),
      y.0,
      y.1,
      y.2,
      y.3,
      y.4,
      refl,
      (
        λ old knows.
            (linked.linked id me.0 at (word, old) knows).is,
        refl,
      ),
    )))

pub linking_sound : (words : ℕ) (v : View) (word link : ℕ) → IsSound words v → IsSound words (linking v word link)
linking_sound words v word link h = record { size = h.size; range = h.range; bounds = h.bounds; keys = h.keys; counted = h.counted; inside = h.inside; free = h.free }

-- ---- its word, and its half

pub retired_word : (v : View) (sizes : Sizes) → v.sizes ≡ sizes → (x : Retired) (class name : ℕ) → x.class ≡ class → x.name ≡ name → (word : ℕ) → word ≡ count_word sizes class name →
    word ≡ count_word v.sizes x.class x.name
retired_word v sizes same x class name c n word is = is ∙ ap (λ z. count_word z class name) (sym same) ∙ ap (λ z. count_word v.sizes z name) (sym c) ∙ ap (count_word v.sizes x.class) (sym n)
