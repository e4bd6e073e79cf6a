-- What a seat that glances may do under the rule of shadows: what it might as a pinned one under the rule itself.
use Rattle.history.specs.declared.calls.Call.{Call}
use Rattle.std.proofs.Common.{◌≡◌, ◌+◌, ◌<◌, ◌⊎◌, ◌^◌, ℕ, inl, inr, List, set, slice_index, Some, None, true, false, ◌==◌, eq-eqb, ne_eqb, refl, sym, ap, subst, ◌∙◌, arith}
use Rattle.std.proofs.lemmas.Bool.{cases_eq, true≢false}
use Rattle.std.proofs.lemmas.List.{set-get_or}
use Rattle.std.proofs.lemmas.Option.{none-some, same_Some}
use mathlib.Core.Option.{some}
use lib.ListN.{get_elem?}
use Rattle.atomic_table.specs.Table as Table
use Rattle.atomic_table.specs.Table.{Act, Allows, Me, Step, Valid, carried_after, homes_after, keeps, stepped}
use Rattle.atomic_table.proofs.Lists.{set_again}
use Rattle.lock_free.specs.declared.rules.Glance.{Glance}
use Rattle.lock_free.specs.declared.rules.View.{View}
use Rattle.lock_free.specs.declared.sizes.Sizes.{Sizes}
use Rattle.lock_free.specs.Glancing.{EndsAt, HasEndedGlance, goes_on, has_ended_glance, has_glanced, has_stopped_glance, is_lost, losing, veiled}
use Rattle.lock_free.specs.Loading.{IsSound}
use Rattle.lock_free.specs.Places.{glance_word, pin_word, words_of}
use Rattle.lock_free.specs.Rules.{IsRuled, IsShown}
use Rattle.lock_free.specs.SeatWords.{IsAtEnd}
use Rattle.lock_free.specs.Shadows.{AreShadows, HasFallen, IsHidden, IsShadow, IsShadowed, alive, fallen, inner, itself, unpinned_only, was_ended, with_views}
use Rattle.lock_free.proofs.CountWords.{stays_aside}
use Rattle.lock_free.proofs.EndStep.{end_ruled}
use Rattle.lock_free.proofs.OneGlance.Falls.{fallen_shown, falls, hidden_word}
use Rattle.lock_free.proofs.PinStep.{unpin_sound}
use Rattle.lock_free.proofs.OneGlance.Shadowed.{AllowsRuled, shadow_at, shadows_set}

-- who has fallen glances no more
fallen_plain : (before after : View) → HasFallen before after → after.glance ≡ None
fallen_plain before after (unpinned_only idle plain done) = ap (λ (x : View). x.glance) done ∙ plain
fallen_plain before after (was_ended fell) = fell.plain

module _ (v : View) (g : Glance) (glances : v.glance ≡ Some g) where
  -- ---- its shadow: as it would be pinned, or once it has fallen

  abbrev Alive : ℕ → View → Type 0
  Alive count w = (g.lost ≡ false) × (g.read ≡ count) × (count + 1 < 2 ^ 64) × (w ≡ inner v g) × IsHidden w

  abbrev Fell : ℕ → View → Type 0
  Fell count w = (v.sizes.seats ≡ 0) × (g.read < count) × HasFallen (inner v g) w

  which : (count : ℕ) (w : View) → IsShadow count v w → Alive count w ⊎ Fell count w
  which count w (itself plain is shown) = absurd (none-some g (sym plain ∙ glances))
  which count w (alive f is spent known read low its hidden) =
      let same : f ≡ g = same_Some f g (sym is ∙ glances) in
      inl (subst (λ (x : Glance). x.lost ≡ false) same known, subst (λ (x : Glance). x.read ≡ count) same read, low, its ∙ ap (inner v) same, hidden)
  which count w (fallen f is spent low fell) =
      let same : f ≡ g = same_Some f g (sym is ∙ glances) in
      inr (spent, subst (λ (x : Glance). x.read < count) same low, subst (λ (x : Glance). HasFallen (inner v x) w) same fell)

  -- as a pinned seat it is what it was
  pub back : (w : View) → w.sizes ≡ g.sizes → w.glance ≡ None → w ≡ inner (veiled w g) g
  back w same plain = ap (λ (z : Sizes). record w { sizes = z }) same ∙ ap (λ p. record w { sizes = g.sizes; glance = p }) plain

  module _ (sizes : Sizes) (id : ℕ) where
    -- nothing changes but the seat, whose shadow is this
    module _ (s : Table.State Call View) (h : IsShadowed sizes s) (word : ℕ) where
      abbrev count : ℕ
      count = slice_index s.words glance_word

      abbrev read_again : View → Table.State Call View
      read_again x = record { words = set s.words word (slice_index s.words word); homes = s.homes; views = set s.views id x }

      shadowed_by : (x w : View) → IsShadow count x w → IsRuled sizes (with_views s (set h.shadows id w)) → IsShadowed sizes (read_again x)
      shadowed_by x w is ruled =
          subst (λ ws. IsShadowed sizes (record { words = ws; homes = s.homes; views = set s.views id x })) (sym (set-get_or s.words word 0))
          (record { shadows = set h.shadows id w; ruled = ruled; are = shadows_set count s.views h.shadows h.are id x w is })

      same_ruled : (w : View) → get_elem? h.shadows id ≡ some w → IsRuled sizes (with_views s (set h.shadows id w))
      same_ruled w at_w = subst (λ ws. IsRuled sizes (with_views s ws)) (sym (set_again h.shadows id w at_w)) h.ruled

    -- ---- a load

    module _ (size : ℕ) (b : List (ℕ × Call)) (word : ℕ) (then : Step Call → Me Call View → ℕ → Me Call View → Type 0) (st : Step Call)
        (allows : g.lost ≡ false → AllowsRuled sizes size id (inner v g, b) word (λ n. n) (then st (inner v g, b)))
        (hides : g.lost ≡ false → IsHidden (inner v g) → (found : ℕ) (w : View) (c : List (ℕ × Call)) → then st (inner v g, b) found (w, c) → (w.sizes ≡ g.sizes) × IsHidden w) where
      abbrev Goes : Table.State Call View → Type 0
      Goes s =
          (x : View) × (a : Act Call) × Valid s.homes b a × IsShadowed sizes (stepped s word (slice_index s.words word) id b x a)
          × has_glanced then st (v, b) (slice_index s.words word) (x, carried_after b a)

      goes : (s : Table.State Call View) (h : IsShadowed sizes s) (w : View) → get_elem? h.shadows id ≡ some w → Alive (slice_index s.words glance_word) w → Goes s
      goes s h w at_w (known, read, low, its, hidden) =
          let here : get_elem? h.shadows id ≡ some (inner v g) = at_w ∙ ap some its in
          let x = allows known (with_views s h.shadows) h.ruled here in
          let still = hides known (subst IsHidden its hidden) (slice_index s.words word) x.0 (carried_after b x.1) x.5 in
          let is = alive g refl refl known read low (back x.0 still.0 still.1.plain) still.1 in (
            veiled x.0 g,
            x.1,
            x.3,
            record {
              shadows = set h.shadows id x.0;
              ruled = x.4;
              are =
                  subst (λ n. AreShadows n (set s.views id (veiled x.0 g)) (set h.shadows id x.0)) (sym (stays_aside s.words word (λ n. n) x.2.0))
                  (shadows_set (slice_index s.words glance_word) s.views h.shadows h.are id (veiled x.0 g) x.0 is);
            },
            goes_on g glances known (x.0, carried_after b x.1) x.5 refl,
          )

      loses : (s : Table.State Call View) (h : IsShadowed sizes s) (w : View) → get_elem? h.shadows id ≡ some w → Fell (slice_index s.words glance_word) w → Goes s
      loses s h w at_w (spent, low, fell) = (
        losing v g,
        keeps,
        tt,
        shadowed_by s h word (losing v g) w (fallen (record g { lost = true }) refl spent low fell) (same_ruled s h word w at_w),
        is_lost g glances refl,
      )

      pub glance_allowed : Allows (IsShadowed sizes) size id (v, b) word (λ n. n) (has_glanced then st (v, b))
      glance_allowed s h length_is at low =
          let (w, at_w, is) = shadow_at (slice_index s.words glance_word) s.views h.shadows h.are id v at in
          elim (which (slice_index s.words glance_word) w is) [ inl still ↦ goes s h w at_w still | inr fell ↦ loses s h w at_w fell ]

    -- ---- it stops

    module _ (size : ℕ) (b : List (ℕ × Call)) (word : ℕ) (st : Step Call) where
      stopped : (x : View) → HasFallen (inner v g) x → has_stopped_glance st (v, b) 0 (x, b)
      stopped x fell f is = (subst (λ (y : Glance). HasFallen (inner v y) x) (same_Some g f (sym glances ∙ is)) fell, refl)

      pub stop_allowed : Allows (IsShadowed sizes) size id (v, b) word (λ n. n) (has_stopped_glance st (v, b))
      stop_allowed s h length_is at low =
          let (w, at_w, is) = shadow_at (slice_index s.words glance_word) s.views h.shadows h.are id v at in
          elim (which (slice_index s.words glance_word) w is) [
            | inl still ↦
                (let x = falls sizes (with_views s h.shadows) h.ruled id w at_w still.4 in
                let fell = subst (λ y. HasFallen y x.0) still.3 x.1 in
                (x.0, keeps, tt, shadowed_by s h word x.0 x.0 (itself (fallen_plain w x.0 x.1) refl (fallen_shown w x.0 x.1)) x.2, stopped x.0 fell))
            | inr fell ↦
                (w, keeps, tt, shadowed_by s h word w w (itself (fallen_plain (inner v g) w fell.2) refl (fallen_shown (inner v g) w fell.2)) (same_ruled s h word w at_w), stopped w fell.2)
          ]

    -- ---- it ends, if the count is what it was

    module _ (size : ℕ) (b : List (ℕ × Call)) (st : Step Call) (ends : g.lost ≡ false → IsAtEnd (inner v g)) where
      abbrev Ends : Table.State Call View → Type 0
      Ends s =
          (x : View) × (a : Act Call) × Valid s.homes b a × IsShadowed sizes (stepped s glance_word (slice_index s.words glance_word) id b x a)
          × has_ended_glance st (v, b) (slice_index s.words glance_word) (x, carried_after b a)

      counts : (s : Table.State Call View) (h : IsShadowed sizes s) (w : View) → get_elem? h.shadows id ≡ some w → Alive (slice_index s.words glance_word) w → Ends s
      counts s h w at_w (known, read, low, its, hidden) =
          let here : get_elem? h.shadows id ≡ some (inner v g) = at_w ∙ ap some its in
          let hidden_then : IsHidden (inner v g) = subst IsHidden its hidden in
          let at_end = ends known in
          let (after, a, stays, valid, next, told) = end_ruled sizes size id (inner v g, b) hidden_then.seats at_end (with_views s h.shadows) h.ruled here in
          let none = hidden_word sizes (with_views s h.shadows) h.ruled id (inner v g) here hidden_then (inner v g) refl (h.ruled.kept.seats id (inner v g) here).pinned in
          let words_same : set s.words (pin_word v.actor) 0 ≡ set s.words glance_word (slice_index s.words glance_word) =
          ap (set s.words (pin_word v.actor)) (sym none) ∙ set-get_or s.words (pin_word v.actor) 0 ∙ sym (set-get_or s.words glance_word 0) in
          let ended = told.0 at_end.0 at_end.1 in
          let shown : IsShown after = (λ p is. absurd (none-some p (sym (ap (λ (x : View). x.pin) ended.after_is) ∙ is))) in (
            after,
            a,
            valid,
            record {
              shadows = set h.shadows id after;
              ruled = subst (λ ws. IsRuled sizes (record { words = ws; homes = homes_after s.homes b a; views = set h.shadows id after })) words_same next;
              are =
                  subst (λ ws. AreShadows (slice_index ws glance_word) (set s.views id after) (set h.shadows id after)) (sym (set-get_or s.words glance_word 0))
                  (shadows_set (slice_index s.words glance_word) s.views h.shadows h.are id after after (itself stays.1 refl shown));
            },
            (λ f is. (
                let same : g ≡ f = same_Some g f (sym glances ∙ is) in (
                  λ hit. (
                    subst (λ (y : Glance). y.lost ≡ false) same known,
                    subst (λ (y : Glance). EndsAt (inner v y) after) same told.0,
                    subst (λ (y : Glance). IsSound
                        (words_of y.sizes) after) same told.1,
                  ),
                  λ miss. absurd (miss (sym read ∙ ap (λ (y : Glance). y.read) same)),
                  told.2,
                ))),
          )

      lapses : (s : Table.State Call View) (h : IsShadowed sizes s) (w : View) → get_elem? h.shadows id ≡ some w → Fell (slice_index s.words glance_word) w → Ends s
      lapses s h w at_w (spent, low, fell) = (
        w,
        keeps,
        tt,
        shadowed_by s h glance_word w w (itself (fallen_plain (inner v g) w fell) refl (fallen_shown (inner v g) w fell)) (same_ruled s h glance_word w at_w),
        (λ f is. (
            let same : g ≡ f = same_Some g f (sym glances ∙ is) in (
              λ hit. (let read = ap (λ (y : Glance). y.read) same in absurd (omega (arith, low, hit, read))),
              λ miss. subst (λ (y : Glance). HasFallen (inner v y) w) same fell,
              refl,
            ))),
      )

      pub end_glance_allowed : Allows (IsShadowed sizes) size id (v, b) glance_word (λ n. n) (has_ended_glance st (v, b))
      end_glance_allowed s h length_is at low =
          let (w, at_w, is) = shadow_at (slice_index s.words glance_word) s.views h.shadows h.are id v at in
          elim (which (slice_index s.words glance_word) w is) [ inl still ↦ counts s h w at_w still | inr fell ↦ lapses s h w at_w fell ]

-- ---- what is sound stays so

pub fallen_sound : (words : ℕ) (before after : View) → HasFallen before after → IsSound words before → IsSound words after
fallen_sound words before after (unpinned_only idle plain done) sound = subst (IsSound words) (sym done) (unpin_sound words before sound)
fallen_sound words before after (was_ended fell) sound = subst (λ n. IsSound n after) (sym sound.size) fell.sound

module _ (v : View) (g : Glance) (is : v.glance ≡ Some g) where
  module _ (found : ℕ) (after : View) (b c : List (ℕ × Call)) (st : Step Call) (h : has_ended_glance st (v, b) found (after, c)) where
    pub ended_by : (count : ℕ) → g.read ≡ count → HasEndedGlance v g (found == count) after
    ended_by count read = elim (cases_eq found count) [
      | inl hit ↦ (let x = (h g is).0 (hit ∙ sym read) in ((λ yes. (x.0, x.1)), (λ no. absurd (true≢false (sym (eq-eqb found count hit) ∙ no)))))
      | inr miss ↦ ((λ yes. absurd (true≢false (sym yes ∙ ne_eqb found count miss))), (λ no. (h g is).1 (λ same. miss (same ∙ read))))
    ]

    pub ended_sound : (words : ℕ) → IsSound words (inner v g) → IsSound words after
    ended_sound words sound = elim (cases_eq found g.read) [
      | inl hit ↦ subst (λ n. IsSound n after) (sym sound.size) ((h g is).0 hit).2
      | inr miss ↦ fallen_sound words (inner v g) after ((h g is).1 miss) sound
    ]
