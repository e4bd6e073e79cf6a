-- The load by which a seat begins to glance: it is pinned then, and no word says so.
use Rattle.history.specs.declared.calls.Call.{Call}
use Rattle.std.proofs.Common.{◌≡◌, ◌≢◌, ◌+◌, ◌<◌, ◌≤◌, ◌^◌, ℕ, inl, inr, set, slice_index, None, false, refl, sym, ap, subst, ◌∙◌, arith, eq-eqb, ne_eqb}
use Rattle.std.proofs.lemmas.Bool.{cases_eq, true≢false}
use Rattle.std.proofs.lemmas.List.{set-get_or}
use mathlib.Core.Option.{some, none}
use lib.ListN.{get_elem?}
use Rattle.atomic_table.specs.Table as Table
use Rattle.atomic_table.specs.Table.{Act, Allows, Me, Valid, carried_after, keeps, step, stepped}
use Rattle.atomic_table.proofs.Lists.{set_again}
use Rattle.machine_model.specs.Calls.{handle_of}
use Rattle.trie_words.specs.Codes.{IsPin}
use Rattle.trie_words.specs.declared.pins.Pin.{Pin}
use Rattle.lock_free.specs.declared.rules.Pinned.{Pinned}
use Rattle.lock_free.specs.declared.rules.View.{View}
use Rattle.lock_free.specs.declared.sizes.Sizes.{Sizes}
use Rattle.lock_free.specs.Glancing.{glance_of, has_begun_glance, veiled}
use Rattle.lock_free.specs.Places.{glance_word, pin_word}
use Rattle.lock_free.specs.Rules.{AreRetired, IsKept, IsRuled, pin_word_of}
use Rattle.lock_free.specs.SeatWords.{IsIdle}
use Rattle.lock_free.specs.Shadows.{IsHidden, IsShadowed, alive, with_views}
use Rattle.lock_free.proofs.OneGlance.Steps.{back}
use Rattle.lock_free.proofs.GoneSeats.{heard_still}
use Rattle.lock_free.proofs.Idle.{empty_has}
use Rattle.lock_free.proofs.LinksStay.{linked_then}
use Rattle.lock_free.proofs.OwedStay.{owed_then}
use Rattle.lock_free.proofs.PinStep.{asks, epochs_pinned, pinned_at, pinning, retired_pinned}
use Rattle.lock_free.proofs.OneGlance.Shadowed.{its_shadow, shadows_set}

-- ---- the rule, where a seat is pinned and no word says so

module _ (v : View) (idle : IsIdle v) (free : v.pin ≡ None) (some_seats : 1 ≤ v.sizes.seats) (pin : Pin) (fits : IsPin pin) (late : pin.epoch ≤ v.epoch) (call : Call) (sizes : Sizes)
    (s : Table.State Call View) (ruled : IsRuled sizes s) (id : ℕ) (at : get_elem? s.views id ≡ some v) where
  same_sizes : v.sizes ≡ sizes
  same_sizes = (ruled.kept.seats id v at).same some_seats

  pub own : IsKept v.sizes s
  own = subst (λ z. IsKept z s) (sym same_sizes) ruled.kept

  abbrev pub hidden : Pinned
  hidden = pinned_at v pin fits late false call s own

  abbrev pub hiding : View
  hiding = pinning v pin fits late false call s own

  abbrev then : Table.State Call View
  then = record { words = s.words; homes = s.homes; views = set s.views id hiding }

  no_word : set s.words (pin_word v.actor) 0 ≡ s.words
  no_word = ap (set s.words (pin_word v.actor)) (sym ((ruled.kept.seats id v at).pinned ∙ ap pin_word_of free)) ∙ set-get_or s.words (pin_word v.actor) 0

  kept_then : IsKept v.sizes then
  kept_then = subst (λ ws. IsKept v.sizes (record { words = ws; homes = s.homes; views = set s.views id hiding })) no_word (asks v idle s own id at hidden call refl)

  pub hides_ruled : IsRuled sizes then
  hides_ruled = record {
    kept = subst (λ z. IsKept z then) same_sizes kept_then;
    epochs = epochs_pinned v pin fits late false call s own id at ruled.epochs s.words refl;
    retired =
        subst (λ z. AreRetired z s.words (set s.views id hiding)) same_sizes
        (retired_pinned v pin fits late false call s own id at ruled.epochs s.words refl (subst (λ z. AreRetired z s.words s.views) (sym same_sizes) ruled.retired));
    owed = owed_then s.views id v at hiding (λ k c. absurd (empty_has k c)) (λ x c. c) ruled.owed;
    linked = linked_then s.views id v at hiding refl (λ x c. c) sizes s.words s.words (λ c is. refl) ruled.linked;
    heard = heard_still s.views id v at some_seats hiding refl ruled.heard;
  }

-- ---- the load

module _ (sizes : Sizes) (size id : ℕ) (me : Me Call View) (some_seats : 1 ≤ me.0.sizes.seats) (idle : IsIdle me.0) (free : me.0.pin ≡ None) (pin : Pin) (fits : IsPin pin)
    (late : pin.epoch ≤ me.0.epoch) (call : Call) (its : pin.handle ≡ handle_of call) where
  abbrev Begins : Table.State Call View → Type 0
  Begins s =
      (x : View) × (a : Act Call) × Valid s.homes me.1 a × IsShadowed sizes (stepped s glance_word (slice_index s.words glance_word) id me.1 x a)
      × has_begun_glance call (step size glance_word 0 0 none) me (slice_index s.words glance_word) (x, carried_after me.1 a)

  shadowed : (s : Table.State Call View) (x : View) → IsShadowed sizes (record { words = s.words; homes = s.homes; views = set s.views id x }) →
      IsShadowed sizes (stepped s glance_word (slice_index s.words glance_word) id me.1 x keeps)
  shadowed s x h = subst (λ ws. IsShadowed sizes (record { words = ws; homes = s.homes; views = set s.views id x })) (sym (set-get_or s.words glance_word 0)) h

  -- none can be counted any more
  begins_none : (s : Table.State Call View) → IsShadowed sizes s → get_elem? s.views id ≡ some me.0 → slice_index s.words glance_word + 1 ≡ 2 ^ 64 → Begins s
  begins_none s h at last =
      let says = eq-eqb (slice_index s.words glance_word + 1) (2 ^ 64) last in (
        me.0,
        keeps,
        tt,
        shadowed s me.0 (subst (λ vs. IsShadowed sizes (record { words = s.words; homes = s.homes; views = vs })) (sym (set_again s.views id me.0 at)) h),
        (((λ no. absurd (true≢false (sym says ∙ no))), (λ yes. refl)), refl),
      )

  begins : (s : Table.State Call View) (h : IsShadowed sizes s) → get_elem? s.views id ≡ some me.0 → slice_index s.words glance_word + 1 ≢ 2 ^ 64 → slice_index s.words glance_word < 2 ^ 64 → Begins s
  begins s h at more low =
      let count = slice_index s.words glance_word in
      let (here, shown, plain) = its_shadow sizes s h id me.0 at some_seats in
      let table = with_views s h.shadows in
      let w = hiding me.0 idle free some_seats pin fits late call sizes table h.ruled id here in
      let x = veiled w (glance_of me.0 count) in
      let hidden_w : IsHidden w = record {
        pinned = hidden me.0 idle free some_seats pin fits late call sizes table h.ruled id here;
        is = refl;
        hidden = refl;
        may = inl idle;
        plain = plain;
        seats = some_seats;
      } in
      let says = ne_eqb (count + 1) (2 ^ 64) more in (
        x,
        keeps,
        tt,
        shadowed s x
            (record {
              shadows = set h.shadows id w;
              ruled = hides_ruled me.0 idle free some_seats pin fits late call sizes table h.ruled id here;
              are =
                  shadows_set count s.views h.shadows h.are id x w
                  (alive (glance_of me.0 count) refl refl refl refl (omega (arith, low, more)) (back x (glance_of me.0 count) refl w refl plain) hidden_w);
            }),
        (
          (
            (λ no. record { pinned = hidden me.0 idle free some_seats pin fits late call sizes table h.ruled id here; hidden = refl; its = its; after_is = refl; plain = plain }),
            (λ yes. absurd (true≢false (sym yes ∙ says))),
          ),
          refl,
        ),
      )

  pub begin_glance_allowed : Allows (IsShadowed sizes) size id me glance_word (λ n. n) (has_begun_glance call (step size glance_word 0 0 none) me)
  begin_glance_allowed s h length_is at low = elim (cases_eq (slice_index s.words glance_word + 1) (2 ^ 64)) [ inl last ↦ begins_none s h at last | inr more ↦ begins s h at more low ]
