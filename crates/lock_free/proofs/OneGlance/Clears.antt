-- The exchange that counts glances up: all that are under way fall, and the seat knows that they have.
use Rattle.history.specs.declared.calls.Call.{Call}
use Rattle.std.proofs.Common.{◌≡◌, ◌==◌, ◌+◌, ◌<◌, ◌≤◌, ◌^◌, inl, inr, ℕ, Bool, true, false, List, [], length, set, slice_index, Option}
use Rattle.std.proofs.Common.{None, refl, sym, ap, subst, ◌∙◌, arith, eq-eqb, ne_eqb}
use Rattle.std.proofs.lemmas.Bool.{cases_eq, true≢false}
use Rattle.std.proofs.lemmas.List.{get_or-set_same, get_or-set_other, set-get_or}
use mathlib.Core.Option.{some, none, some-injective}
use lib.ListN.{get_elem?}
use prog.Atomic.{either}
use Rattle.atomic_table.specs.Table as Table
use Rattle.atomic_table.specs.Table.{Allows, Me, keeps, step}
use Rattle.atomic_table.proofs.Lists.{at_set, set_again, set_else, set_here}
use Rattle.lock_free.specs.declared.rules.Closing.{Closing}
use Rattle.lock_free.specs.declared.rules.Pinned.{Pinned}
use Rattle.lock_free.specs.declared.rules.View.{View}
use Rattle.lock_free.specs.declared.sizes.Sizes.{Sizes}
use Rattle.lock_free.specs.Glances.{HasCleared, clearing, has_cleared, has_seen_count}
use Rattle.lock_free.specs.Loading.{IsSound}
use Rattle.lock_free.specs.Places.{epoch_word, glance_word}
use Rattle.lock_free.specs.Rules.{AreEpochs, IsClosing, IsKept, IsRuled, IsShown, latest}
use Rattle.lock_free.specs.Shadows.{AreShadows, IsShadowed, itself, with_views}
use Rattle.lock_free.proofs.Assembling.{within}
use Rattle.lock_free.proofs.EpochSteps.{known_epochs, known_ruled}
use Rattle.lock_free.proofs.PinnedFor.{asks_kept_by}
use Rattle.lock_free.proofs.EpochStays.{as_was, epochs_stay, was_one}
use Rattle.lock_free.proofs.OneGlance.Falls.{AreShown, fall_all, shown_at_last}
use Rattle.lock_free.specs.Links.{link_in}
use Rattle.lock_free.proofs.CountWords.{count_not_glance}
use Rattle.lock_free.proofs.EpochWord.{grown_kept}
use Rattle.lock_free.proofs.Exchanged.{either_hit, either_miss}
use Rattle.lock_free.proofs.LinksStay.{knew_self, links_stay}
use Rattle.lock_free.proofs.RetiredStay.{epoch_still, retired_stay, retires_self}
use Rattle.lock_free.proofs.OneGlance.Shadowed.{its_shadow, itself_by, shadow_at, shadows_set}

-- what it would close
abbrev marks_of : View → ℕ × List Closing
marks_of v = (v.actor, v.closing)

-- what it is in
abbrev call_of : View → ℕ × Option ℕ × Option Pinned
call_of v = (v.actor, v.entered, v.pin)

-- where no glance is under way the seat may know that all have fallen
module _ (v : View) (s : Table.State Call View) (kept : IsKept v.sizes s) (id : ℕ) (at : get_elem? s.views id ≡ some v) (shown : AreShown s.views) where
  abbrev pub then : View
  then = clearing v

  closing_then : (handle who : ℕ) → IsClosing s.views handle who → IsClosing (set s.views id then) handle who
  closing_then handle who h =
      let x = still h.id h.view h.at in
      record {
        id = h.id;
        view = x.0;
        at = x.1;
        its = ap (λ y. y.0) x.2 ∙ h.its;
        closing = h.closing;
        is = ap (λ y. latest y.1 handle) x.2 ∙ h.is;
        this = h.this;
        none = λ other w e inside apart seen. (let u = was other w e in
            subst (λ n. h.closing.looked < n) (ap (λ y. y.0) u.2)
            (h.none other u.0 u.1 (ap (λ y. y.1) u.2 ∙ inside) (λ same. apart (sym (ap (λ y. y.0) u.2) ∙ same)) (λ p is. seen p (sym (ap (λ y. y.2) u.2) ∙ is))));
        clear = λ some other w e inside apart. (let u = was other w e in λ p is. shown other u.0 u.1 p (ap (λ y. y.2) u.2 ∙ is));
      }
    where
      still : (k : ℕ) (u : View) → get_elem? s.views k ≡ some u → (w : View) × (get_elem? (set s.views id then) k ≡ some w) × (marks_of w ≡ marks_of u)
      still k u e = elim (cases_eq k id) [
        | inl same ↦
            (let mine : v ≡ u = some-injective v u (sym at ∙ ap (get_elem? s.views) (sym same) ∙ e) in
            (then, ap (get_elem? (set s.views id then)) same ∙ set_here s.views id then (within s.views id v at), ap marks_of mine))
        | inr apart ↦ (u, set_else s.views id k then apart ∙ e, refl)
      ]

      was : (k : ℕ) (w : View) → get_elem? (set s.views id then) k ≡ some w → (u : View) × (get_elem? s.views k ≡ some u) × (call_of u ≡ call_of w)
      was k w e = elim (at_set s.views id k then w e) [
        | inl p ↦ (v, ap (get_elem? s.views) p.0 ∙ at, ap call_of p.1)
        | inr p ↦ (w, p.1, refl)
      ]

  clear_kept : IsKept v.sizes (record { words = s.words; homes = s.homes; views = set s.views id then })
  clear_kept = asks_kept_by v.sizes s kept id v at v.asks v.epoch (clearing v).passed closing_then

  clear_epochs : AreEpochs s.words s.views → AreEpochs s.words (set s.views id then)
  clear_epochs h =
      known_epochs v s kept id at h v.epoch then.passed (h.seen id v at)
      (λ j w e all none p is seen. (let low = (kept.seats j w e).low in absurd (omega (arith, none, low))))
      (λ j w e all p is hidden. absurd (true≢false (sym (shown j w e p is) ∙ hidden)))

pub clear_ruled : (sizes : Sizes) (s : Table.State Call View) → IsRuled sizes s → (id : ℕ) (v : View) → get_elem? s.views id ≡ some v → 1 ≤ v.sizes.seats → AreShown s.views →
    IsRuled sizes (record { words = s.words; homes = s.homes; views = set s.views id (clearing v) })
clear_ruled sizes s ruled id v at some_seats shown =
    let own = subst (λ z. IsKept z s) (sym ((ruled.kept.seats id v at).same some_seats)) ruled.kept in
    known_ruled sizes s ruled id v at some_seats v.epoch (clearing v).passed (clear_kept v s own id at shown) (clear_epochs v s own id at shown ruled.epochs)

-- where the word that counts is another the rule says the same of all else
recounted : (sizes : Sizes) (s : Table.State Call View) → IsRuled sizes s → (id : ℕ) (v : View) → get_elem? s.views id ≡ some v → 1 ≤ v.sizes.seats → (count : ℕ) →
    IsRuled sizes (record { words = set s.words glance_word count; homes = s.homes; views = s.views })
recounted sizes s ruled id v at some_seats count =
    let words = set s.words glance_word count in
    let still = get_or-set_other s.words glance_word epoch_word count 0 (λ e. omega (arith, e)) in
    record {
      kept =
          subst (λ vs. IsKept sizes (record { words = words; homes = s.homes; views = vs })) (set_again s.views id v at)
          (grown_kept sizes s ruled.kept id v at glance_word (omega arith) count);
      epochs = epochs_stay s.words words s.views s.views still (λ k w e. was_one k w e (as_was w)) ruled.epochs;
      retired = retired_stay sizes s.words words s.views s.views (epoch_still s.words words still) (retires_self s.views) ruled.retired;
      owed = ruled.owed;
      linked = links_stay sizes s.words words s.views s.views
          (λ c is. ap link_in (get_or-set_other s.words glance_word c count 0 (count_not_glance sizes c is))) (knew_self s.views) ruled.linked;
      heard = ruled.heard;
    }

-- ---- the accesses

counted_up : (words : List ℕ) (count : ℕ) → glance_word < length words → slice_index (set words glance_word count) glance_word ≡ count
counted_up words count inside = get_or-set_same words glance_word count 0 inside

module _ (sizes : Sizes) (size id : ℕ) (me : Me Call View) (some_seats : 1 ≤ me.0.sizes.seats) where
  abbrev Cleared : ℕ → Bool → Table.State Call View → Type 0
  Cleared count fell s = (w : View) × IsShadowed sizes (record { words = set s.words glance_word count; homes = s.homes; views = set s.views id w }) × HasCleared me.0 fell w

  -- the count is one more
  fell_all : (s : Table.State Call View) → IsShadowed sizes s → get_elem? s.views id ≡ some me.0 → (count : ℕ) → slice_index s.words glance_word ≡ count → Cleared (count + 1) true s
  fell_all s h at count is =
      let all = fall_all sizes s count s.views h.shadows [] (subst (λ n. AreShadows n s.views h.shadows) is h.are) h.ruled in
      let (here, at_shown, plain) = shadow_of s all.0 count all.1 at in
      let table = with_views s all.0 in
      let cleared = clear_ruled sizes table all.3 id me.0 here some_seats all.2 in
      let w = clearing me.0 in
      let inside : glance_word < length s.words = (let long = h.ruled.kept.size in omega (arith, long)) in (
        w,
        record {
          shadows = set all.0 id w;
          ruled = recounted sizes (record { words = s.words; homes = s.homes; views = set all.0 id w }) cleared id w (set_here all.0 id w (within all.0 id me.0 here)) some_seats (count + 1);
          are =
              subst (λ n. AreShadows n (set s.views id w) (set all.0 id w)) (sym (counted_up s.words (count + 1) inside))
              (shadows_set (count + 1) s.views all.0 all.1 id w w (itself plain refl at_shown));
        },
        (λ x. refl, λ x. absurd (true≢false x)),
      )
    where
      shadow_of : (s : Table.State Call View) (shadows : List View) (count : ℕ) → AreShadows (count + 1) s.views shadows → get_elem? s.views id ≡ some me.0 →
          (get_elem? shadows id ≡ some me.0) × IsShown me.0 × (me.0.glance ≡ None)
      shadow_of s shadows count are at =
          let (x, at_x, is_shadow) = shadow_at (count + 1) s.views shadows are id me.0 at in
          let same = itself_by (count + 1) me.0 x some_seats is_shadow in
          (at_x ∙ ap some same.0, same.1, same.2)

  -- or stays
  none_fell : (s : Table.State Call View) → IsShadowed sizes s → get_elem? s.views id ≡ some me.0 → Cleared (slice_index s.words glance_word) false s
  none_fell s h at = (
    me.0,
    subst (λ ws. IsShadowed sizes (record { words = ws; homes = s.homes; views = set s.views id me.0 })) (sym (set-get_or s.words glance_word 0))
        (subst (λ vs. IsShadowed sizes (record { words = s.words; homes = s.homes; views = vs })) (sym (set_again s.views id me.0 at)) h),
    (λ x. absurd (true≢false (sym x)), λ x. refl),
  )

  pub clear_allowed : (count : ℕ) →
      Allows (IsShadowed sizes) size id me glance_word (λ n. either (n == count) (count + 1) n) (has_cleared (step size glance_word count (count + 1) none) me)
  clear_allowed count s h length_is at low = elim (cases_eq (slice_index s.words glance_word) count) [
    | inl is ↦
        (let x = fell_all s h at count is in (
          x.0,
          keeps,
          tt,
          subst (λ n. IsShadowed sizes (record { words = set s.words glance_word n; homes = s.homes; views = set s.views id x.0 })) (sym (either_hit (slice_index s.words glance_word) count
              (count + 1) is)) x.1,
          (subst (λ b. HasCleared me.0 b x.0) (sym (eq-eqb (slice_index s.words glance_word) count is)) x.2, refl),
        ))
    | inr differs ↦
        (let x = none_fell s h at in (
          x.0,
          keeps,
          tt,
          subst (λ n. IsShadowed sizes (record { words = set s.words glance_word n; homes = s.homes; views = set s.views id x.0 }))
              (sym (either_miss (slice_index s.words glance_word) count (count + 1) differs)) x.1,
          (subst (λ b. HasCleared me.0 b x.0) (sym (ne_eqb (slice_index s.words glance_word) count differs)) x.2, refl),
        ))
  ]

  -- none is under way once all that can be counted were
  pub see_count_allowed : Allows (IsShadowed sizes) size id me glance_word (λ n. n) (has_seen_count (step size glance_word 0 0 none) me)
  see_count_allowed s h length_is at low = elim (cases_eq (slice_index s.words glance_word + 1) (2 ^ 64)) [
    | inl last ↦
        (let (here, shown, plain) = its_shadow sizes s h id me.0 at some_seats in
        let w = clearing me.0 in
        let cleared = clear_ruled sizes (with_views s h.shadows) h.ruled id me.0 here some_seats (shown_at_last (slice_index s.words glance_word) last s.views h.shadows h.are) in (
          w,
          keeps,
          tt,
          subst (λ ws. IsShadowed sizes (record { words = ws; homes = s.homes; views = set s.views id w })) (sym (set-get_or s.words glance_word 0))
              (record { shadows = set h.shadows id w; ruled = cleared; are = shadows_set (slice_index s.words glance_word) s.views h.shadows h.are id w w (itself plain refl shown) }),
          (subst (λ b. HasCleared me.0 b w) (sym (eq-eqb (slice_index s.words glance_word + 1) (2 ^ 64) last)) ((λ x. refl), λ x. absurd (true≢false x)), refl),
        ))
    | inr differs ↦
        (let x = none_fell s h at in
        (x.0, keeps, tt, x.1, (subst (λ b. HasCleared me.0 b x.0) (sym (ne_eqb (slice_index s.words glance_word + 1) (2 ^ 64) differs)) x.2, refl)))
  ]

-- the word is one of the table's
pub glance_inside : (words : ℕ) (v : View) → IsSound words v → glance_word < words
glance_inside words v sound = let size = sound.size in omega (arith, size)

-- what is sound stays so
pub cleared_sound : (words : ℕ) (before : View) (fell : Bool) (after : View) → HasCleared before fell after → IsSound words before → IsSound words after
cleared_sound words before true after h sound =
    subst (IsSound words) (sym (h.0 refl))
    (record { size = sound.size; range = sound.range; bounds = sound.bounds; keys = sound.keys; counted = sound.counted; inside = sound.inside; free = sound.free })
cleared_sound words before false after h sound = subst (IsSound words) (sym (h.1 refl)) sound
