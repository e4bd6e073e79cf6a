-- A slot whose time has come is free for the seat that has retired it.
use Rattle.history.specs.declared.calls.Call.{Call}
use Rattle.std.proofs.Common.{◌≡◌, ◌+◌, ◌≤◌, ℕ, false, [], Contains, set, slice_index, refl, sym, ap, subst, ◌∙◌, arith, inr}
use Rattle.std.proofs.lemmas.List.{set-get_or}
use mathlib.Core.Option.{some, none}
use lib.ListN.{get_elem?}
use Rattle.atomic_table.specs.Table as Table
use Rattle.atomic_table.specs.Table.{Allows, Me, step}
use Rattle.lock_free.specs.declared.rules.Retired.{Retired}
use Rattle.lock_free.specs.declared.rules.View.{View}
use Rattle.lock_free.specs.declared.sizes.Sizes.{Sizes}
use Rattle.lock_free.specs.Loading.{IsSound}
use Rattle.lock_free.specs.Links.{AreLinked, link_in}
use Rattle.lock_free.specs.Places.{count_word, words_of}
use Rattle.lock_free.specs.Reclaiming.{HasReclaimed, has_reclaimed, IsRipe, reclaiming}
use Rattle.lock_free.specs.Shadows.{IsShadowed}
use Rattle.lock_free.specs.Rules.{AreEpochs, AreOwed, AreRetired, IsKept}
use Rattle.lock_free.proofs.Assembling.{all_stand, here}
use Rattle.lock_free.proofs.OwedStay.{owed_then}
use Rattle.lock_free.proofs.EpochStays.{epoch_in, epochs_stay, was_then}
use Rattle.lock_free.proofs.HeldReclaimed.{held_reclaimed}
use Rattle.lock_free.proofs.Idle.{empty_has}
use Rattle.lock_free.proofs.Moments.{allowed_by, free_inside}
use Rattle.lock_free.proofs.Reclaimed.{reclaim_kept, reclaim_linked, reclaim_retired}
use Rattle.lock_free.proofs.RetiredSlots.{same_retired_slot}
use Rattle.lock_free.proofs.Drafts.{left}
use Rattle.lock_free.proofs.Reclaimable.{not_live}

module _ (me : Me Call View) (sound : IsSound (words_of me.0.sizes) me.0) (x : Retired) (c : Contains me.0.retired x) (late : x.stamp + 3 ≤ me.0.epoch) (shallow : x.deep ≡ false)
    (s : Table.State Call View)
    (kept : IsKept me.0.sizes s) (epochs : AreEpochs s.words s.views) (old : AreRetired me.0.sizes s.words s.views) (owed : AreOwed s.views) (id : ℕ) (at : get_elem? s.views id ≡ some me.0) where
  abbrev v : View
  v = me.0

  abbrev pub then : View
  then = reclaiming v x.class x.name

  ripe : x.stamp + 3 ≤ epoch_in s.words
  ripe = let seen = epochs.seen id v at in omega (arith, seen, late)

  pub kept_then : IsKept v.sizes (record { words = s.words; homes = s.homes; views = set s.views id then })
  kept_then =
      reclaim_kept v.sizes s kept epochs old id v at x c ripe v.account [] [] s.words (λ handle low. refl) (kept.seats id v at).waited (kept.seats id v at).counts
      (all_stand v.sizes s kept) kept.seats (λ d none. absurd (empty_has d none))
      (held_reclaimed v.sizes s kept epochs owed id v at x c ripe shallow
      (λ live. not_live v.sizes s kept epochs old id v at x c ripe ((kept.seats id v at).retired x c).was.node live ((kept.seats id v at).retired x c).was.number))
      (λ k n cell. refl) (λ k n h. h) (λ k n low was. was)

  pub epochs_then : AreEpochs s.words (set s.views id then)
  epochs_then = epochs_stay s.words s.words s.views (set s.views id then) refl (was_then s.views id v at then
      (record { actor = refl; epoch = refl; passed = refl; glance = refl; pinned = λ p is. is })) epochs

  pub retired_then : AreRetired v.sizes s.words (set s.views id then)
  retired_then = reclaim_retired v.sizes s kept epochs old id v at x c ripe v.account [] [] s.words refl

  pub linked_then : AreLinked v.sizes s.words s.views → AreLinked v.sizes s.words (set s.views id then)
  linked_then = reclaim_linked v.sizes s kept epochs old id v at x c ripe v.account [] [] refl

  pub sound_then : IsSound (words_of v.sizes) then
  sound_then = record {
    size = sound.size;
    range = sound.range;
    bounds = sound.bounds;
    keys = sound.keys;
    counted = sound.counted;
    inside = sound.inside;
    free = free_inside then (record { words = s.words; homes = s.homes; views = set s.views id then }) kept_then id (here v.sizes s kept id v at then refl refl);
  }

  -- whichever of its slots this word is said to be of, it is that one
  pub reclaims : AreLinked v.sizes s.words s.views → (class name : ℕ) → IsRipe v class name → count_word v.sizes x.class x.name ≡ count_word v.sizes class name →
      HasReclaimed v class name (link_in (slice_index s.words (count_word v.sizes x.class x.name))) then
  reclaims linked class name (y, there, its_class, its_name, later, other) e =
      let both = same_retired_slot v.sizes s kept id id v v at at x y c there
      (e ∙ ap (λ b. count_word v.sizes b name) (sym its_class) ∙ ap (count_word v.sizes y.class) (sym its_name)) in
      let class_is = both.0 ∙ its_class in
      let name_is = both.1 ∙ its_name in (
        (λ known knows. ap (λ n. link_in (slice_index s.words n)) e ∙ (linked.linked id v at (count_word v.sizes class name, known) knows).is),
        ap (λ b. reclaiming v b x.name) class_is ∙ ap (reclaiming v class) name_is,
      )

pub reclaim_allowed : (sizes : Sizes) (size id : ℕ) (me : Me Call View) (some_seats : 1 ≤ me.0.sizes.seats) → IsSound (words_of me.0.sizes) me.0 → (x : Retired) → Contains me.0.retired x →
    x.stamp + 3 ≤ me.0.epoch → x.deep ≡ false → (word : ℕ) → count_word me.0.sizes x.class x.name ≡ word → Allows (IsShadowed sizes) size id me word (λ n. n) (has_reclaimed
    (step size word 0 0 none) me)
reclaim_allowed sizes size id me some_seats sound x c late shallow word its =
    subst (λ i. Allows (IsShadowed sizes) size id me i (λ n. n) (has_reclaimed (step size i 0 0 none) me)) its
    (allowed_by sizes size id me here (λ n. n) (has_reclaimed (step size here 0 0 none) me)
    some_seats
    (λ s kept epochs old owed linked at. (
    let w = then me sound x c late shallow s kept epochs old owed id at in
    let same = sym (set-get_or s.words here 0) in (
      w,
      (inr refl, refl, λ shown. shown),
      subst (λ ws. IsKept me.0.sizes (record { words = ws; homes = s.homes; views = set s.views id w })) same (kept_then me sound x c late shallow s kept epochs old owed id at),
      subst (λ ws. AreEpochs ws (set s.views id w)) same (epochs_then me sound x c late shallow s kept epochs old owed id at),
      subst (λ ws. AreRetired me.0.sizes ws (set s.views id w)) same (retired_then me sound x c late shallow s kept epochs old owed id at),
      owed_then s.views id me.0 at w (λ k has. (has, refl)) (λ y has. (left (λ (z : Retired). z.name) x.name me.0.retired y has).1) owed,
      subst (λ ws. AreLinked me.0.sizes ws (set s.views id w)) same (linked_then me sound x c late shallow s kept epochs old owed id at linked),
      refl,
      (reclaims me sound x c late shallow s kept epochs old owed id at linked, sound_then me sound x c late shallow s kept epochs old owed id at, refl),
    ))))
  where
    here : ℕ
    here = count_word me.0.sizes x.class x.name
