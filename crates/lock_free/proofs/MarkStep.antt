-- The exchange by which a seat marks a handle that it would close.
use Rattle.history.specs.declared.calls.Call.{Call}
use Rattle.std.proofs.Common.{◌≤◌, ◌≡◌, ◌≢◌, ◌==◌, ◌<◌, ◌^◌, ◌∷◌, inl, inr, ℕ, Bool, true, false, set, slice_index, refl, sym, ap, subst, ◌∙◌, eq-eqb}
use Rattle.std.proofs.lemmas.Bool.{cases_eq, ne_eqb, true≢false, false≢true}
use mathlib.Core.Option.{some, none}
use lib.ListN.{get_elem?}
use prog.Atomic.{either}
use Rattle.std.proofs.lemmas.List.{set-get_or, set-set}
use Rattle.atomic_table.proofs.Lists.{set_again, set_here}
use Rattle.atomic_table.specs.Table.{Me, Allows, homes_after, keeps, step}
use Rattle.atomic_table.specs.Table as Table
use Rattle.trie_words.specs.Codes.{root_code, IsRootWord}
use Rattle.trie_words.specs.declared.roots.RootWord.{RootWord}
use Rattle.trie_words.specs.declared.roots.RootWord.TheVariants as word
use Rattle.history.specs.declared.calls.Access.TheVariants.{Writable, ReadOnly}
use Rattle.machine_model.specs.States.{root_at}
use Rattle.lock_free.proofs.EpochStays.{rest_of}
use Rattle.lock_free.specs.declared.rules.View.{View}
use Rattle.lock_free.specs.declared.sizes.Sizes.{Sizes}
use Rattle.lock_free.specs.Accounts.{place_of, state_of}
use Rattle.lock_free.specs.HandleWords.{begins_with, is_unmarked, marked_by, HasMarked, has_marked}
use Rattle.lock_free.specs.Loading.{IsSound}
use Rattle.lock_free.specs.Places.{root_word}
use Rattle.lock_free.specs.Roots.{MeansRoot, SaysRoot}
use Rattle.lock_free.specs.Shadows.{IsShadowed}
use Rattle.lock_free.specs.Rules.{SaysClosing, IsKept, IsRuled}
use Rattle.lock_free.proofs.Assembling.{closing_at, within}
use Rattle.lock_free.proofs.Closers.{seat_kept}
use Rattle.lock_free.proofs.EpochSteps.{known_epochs, known_kept, known_ruled}
use Rattle.lock_free.proofs.Exchanged.{either_miss, words_then, words_hit, words_miss}
use Rattle.lock_free.proofs.CountWords.{aside_so, handle_apart}
use Rattle.lock_free.proofs.Geometry.{root_apart}
use Rattle.lock_free.proofs.Moments.{ruled_still}
use Rattle.lock_free.proofs.OneGlance.Shadowed.{AllowsRuled, Lifts, lifted}
use Rattle.lock_free.proofs.OpenHandles.{mark_kept}
use Rattle.lock_free.proofs.Rewritten.{IsPlainWord, is_closing_writable, is_closing_read_only, plain_same}
use Rattle.lock_free.proofs.RootCodes.{same_word}

-- whose mark a word has
abbrev seat_in : RootWord → ℕ
seat_in (word.ClosingWritable slot seat) = seat
seat_in (word.ClosingReadOnly slot seat) = seat
seat_in w = 0

says_who : (w : RootWord) (who : ℕ) → IsRootWord w → SaysClosing (root_code w) who → who ≡ seat_in w
says_who w who fits (inl h) = sym (ap seat_in (same_word w (word.ClosingWritable h.0 who) fits h.1 h.2))
says_who w who fits (inr h) = sym (ap seat_in (same_word w (word.ClosingReadOnly h.0 who) fits h.1 h.2))

-- a marked word is in range
pub marked_fits : (w : RootWord) (seat : ℕ) → IsRootWord w → is_unmarked w ≡ true → seat < 2 ^ 8 → IsRootWord (marked_by seat w)
marked_fits (word.Writable slot) seat fits e small = (fits, small)
marked_fits (word.ReadOnly slot) seat fits e small = (fits, small)
marked_fits w seat fits e small = absurd (false≢true e)

module _ (v : View) (handle : ℕ) (low : handle < 256) (small : v.actor < 2 ^ 8) (s : Table.State Call View) (kept : IsKept v.sizes s) (id : ℕ)
    (at : get_elem? s.views id ≡ some v) (unsure : v.passed.cleared ≡ false) where
  abbrev found : ℕ
  found = slice_index s.words (root_word handle)

  -- with this mark
  abbrev begins : View
  begins = record v { closing = begins_with handle ∷ v.closing }

  abbrev means : MeansRoot kept.account s.words handle found (root_at (state_of v.sizes kept.account) handle)
  means = kept.roots.means handle low

  says : (w : RootWord) → IsRootWord w → found ≡ root_code w → SaysRoot kept.account s.words handle w (root_at (state_of v.sizes kept.account) handle)
  says w fits e = subst (λ x. SaysRoot kept.account s.words handle x (root_at (state_of v.sizes kept.account) handle)) (same_word means.what w means.fits fits (sym means.code ∙ e)) means.says

  hits : (w : RootWord) → IsRootWord w → is_unmarked w ≡ true → found ≡ root_code w →
      IsKept v.sizes (record { words = set s.words (root_word handle) (root_code (marked_by v.actor w)); homes = s.homes; views = set s.views id begins })
  hits (word.Writable slot) fits plain e =
      let x = says (word.Writable slot) fits e in
      mark_kept v.sizes s kept id v at handle low (word.ClosingWritable slot v.actor) (fits, small)
      (plain_same v.sizes s kept handle low Writable x.root x.is (word.ClosingWritable slot v.actor)
      (subst (λ n. IsPlainWord Writable (place_of kept.account x.root) (word.ClosingWritable n v.actor)) (sym x.place) (is_closing_writable refl v.actor)))
      (λ who h. says_who (word.ClosingWritable slot v.actor) who (fits, small) h) unsure
  hits (word.ReadOnly slot) fits plain e =
      let x = says (word.ReadOnly slot) fits e in
      mark_kept v.sizes s kept id v at handle low (word.ClosingReadOnly slot v.actor) (fits, small)
      (plain_same v.sizes s kept handle low ReadOnly x.root x.is (word.ClosingReadOnly slot v.actor)
      (subst (λ n. IsPlainWord ReadOnly (place_of kept.account x.root) (word.ClosingReadOnly n v.actor)) (sym x.place) (is_closing_read_only refl v.actor)))
      (λ who h. says_who (word.ClosingReadOnly slot v.actor) who (fits, small) h) unsure
  hits w fits plain e = absurd (false≢true plain)

  misses : IsKept v.sizes (record { words = s.words; homes = s.homes; views = set s.views id v })
  misses =
      seat_kept v.sizes s kept id v at v.entered v.closing (kept.seats id v at).entered (kept.seats id v at).calls
      (λ g who below h. closing_at v.sizes s kept id v at v refl refl g who (λ x. (x, refl)) (λ c x y z. x) (λ c. c) (kept.closings g who below h))

  module _ (w : RootWord) (fits : IsRootWord w) (plain : is_unmarked w ≡ true) where
    abbrev old : ℕ
    old = root_code w

    abbrev new : ℕ
    new = root_code (marked_by v.actor w)

    abbrev Begins : Bool → View → Type 0
    Begins made after = (made ≡ true → after ≡ begins) × (made ≡ false → after ≡ v)

    abbrev Marked : View → Type 0
    Marked after = IsKept v.sizes (record { words = words_then v s kept id at (root_word handle) old new; homes = s.homes; views = set s.views id after }) × Begins (found == old) after
        × (rest_of after ≡ rest_of v)

    pub marks : (x : View) × Marked x
    marks = elim (cases_eq found old) [
      | inl e ↦ (
        begins,
        (
          subst (λ ws. IsKept v.sizes (record { words = ws; homes = s.homes; views = set s.views id begins }))
              (words_hit v s kept id at (root_word handle) old new e (root_word handle) refl)
              (hits w fits plain e),
          (λ x. refl, λ x. absurd (true≢false (sym (eq-eqb found old e) ∙ x))),
          refl,
        ),
      )
      | inr differs ↦ (
        v,
        (
          subst (λ ws. IsKept v.sizes (record { words = ws; homes = s.homes; views = set s.views id v })) (words_miss v s kept id at (root_word handle) old new differs) misses,
          (λ x. absurd (true≢false (sym x ∙ ne_eqb found old differs)), λ x. refl),
          refl,
        ),
      )
    ]

-- it may have to let glances fall anew
abbrev unsure : View → View
unsure v = record v { passed = record v.passed { cleared = false } }

module _ (sizes : Sizes) (size id : ℕ) (me : Me Call View) (some_seats : 1 ≤ me.0.sizes.seats) (handle : ℕ) (low : handle < 256) (small : me.0.actor < 2 ^ 8) (w : RootWord) (fits : IsRootWord w)
    (plain : is_unmarked w ≡ true) where
  abbrev its_word : ℕ
  its_word = root_code w

  abbrev marked : ℕ
  marked = root_code (marked_by me.0.actor w)

  abbrev swap : ℕ → ℕ
  swap n = either (n == its_word) marked n

  abbrev Then : ℕ → Me Call View → Type 0
  Then = has_marked (step size (root_word handle) its_word marked none) me

  abbrev my : Me Call View
  my = (unsure me.0, me.1)

  -- what it comes to where the seat knows of no fall
  abbrev BeginsOn : ℕ → Me Call View → Type 0
  BeginsOn found after =
      ((found == its_word) ≡ true → after.0 ≡ record my.0 { closing = begins_with handle ∷ me.0.closing }) × ((found == its_word) ≡ false → after.0 ≡ my.0) × (after.1 ≡ me.1)

  begins_ruled : AllowsRuled sizes size id my (root_word handle) swap BeginsOn
  begins_ruled =
      ruled_still sizes size id my (root_word handle) swap BeginsOn some_seats (λ s kept at. inl (handle_apart me.0.sizes handle low))
      (λ s kept at. (let x = marks my.0 handle low small s kept id at refl w fits plain in (x.0, x.1.0, (x.1.1.0, x.1.1.1, refl)))) (λ s kept at.
      (marks my.0 handle low small s kept id at refl w fits plain).1.2)

  module _ (s : Table.State Call View) (ruled : IsRuled sizes s) (at : get_elem? s.views id ≡ some me.0) where
    abbrev found_now : ℕ
    found_now = slice_index s.words (root_word handle)

    abbrev forgotten : Table.State Call View
    forgotten = record { words = s.words; homes = s.homes; views = set s.views id (unsure me.0) }

    forgets : IsRuled sizes forgotten
    forgets =
        let own = subst (λ z. IsKept z s) (sym ((ruled.kept.seats id me.0 at).same some_seats)) ruled.kept in
        known_ruled sizes s ruled id me.0 at some_seats me.0.epoch (unsure me.0).passed (known_kept me.0 s own id at me.0.epoch (unsure me.0).passed (λ c. absurd (false≢true c)))
        (known_epochs me.0 s own id at ruled.epochs me.0.epoch (unsure me.0).passed (ruled.epochs.seen id me.0 at) (λ j x e all. absurd (false≢true all)) (λ j x e all. absurd (false≢true all)))

    hit : found_now ≡ its_word → Lifts sizes size id me (root_word handle) swap Then s
    hit is =
        let x = begins_ruled forgotten forgets (set_here s.views id (unsure me.0) (within s.views id me.0 at)) in
        let made = eq-eqb found_now its_word is in
        let both = set-set s.views id (unsure me.0) x.0 in (
          x.0,
          x.1,
          x.2,
          x.3,
          subst (λ vs. IsRuled sizes (record { words = set s.words (root_word handle) (swap found_now); homes = homes_after s.homes me.1 x.1; views = vs })) both x.4,
          (
            λ g g_is. subst (λ n. HasMarked me.0 n (found_now == its_word) x.0) (root_apart handle g g_is) ((λ yes. x.5.0 yes), λ no. absurd (true≢false (sym made ∙ no))),
            x.5.2,
          ),
        )

    miss : found_now ≢ its_word → Lifts sizes size id me (root_word handle) swap Then s
    miss differs =
        let same = sym (ap (set s.words (root_word handle)) (either_miss found_now its_word marked differs) ∙ set-get_or s.words (root_word handle) 0) in (
          me.0,
          keeps,
          (aside_so me.0.sizes (root_word handle) swap s.words (inl (handle_apart me.0.sizes handle low)), refl, λ shown. shown),
          tt,
          subst (λ ws. IsRuled sizes (record { words = ws; homes = s.homes; views = set s.views id me.0 })) same
              (subst (λ vs. IsRuled sizes (record { words = s.words; homes = s.homes; views = vs })) (sym (set_again s.views id me.0 at)) ruled),
          (λ g g_is. ((λ yes. absurd (true≢false (sym yes ∙ ne_eqb found_now its_word differs))), λ no. refl), refl),
        )

  mark_ruled : AllowsRuled sizes size id me (root_word handle) swap Then
  mark_ruled s ruled at = elim (cases_eq (slice_index s.words (root_word handle)) (root_code w)) [ inl is ↦ hit s ruled at is | inr differs ↦ miss s ruled at differs ]

  pub mark_allowed : Allows (IsShadowed sizes) size id me (root_word handle) swap Then
  mark_allowed = lifted sizes size id me (root_word handle) swap Then some_seats mark_ruled

-- what is sound stays so
by_made : (words : ℕ) (before : View) (handle : ℕ) (made : Bool) (after : View) → HasMarked before handle made after → IsSound words before → IsSound words after
by_made words before handle true after h sound =
    subst (IsSound words) (sym (h.0 refl))
    (record { size = sound.size; range = sound.range; bounds = sound.bounds; keys = sound.keys; counted = sound.counted; inside = sound.inside; free = sound.free })
by_made words before handle false after h sound = subst (IsSound words) (sym (h.1 refl)) sound

pub mark_sound : (words : ℕ) (before : View) (handle : ℕ) (made : Bool) (after : View) → HasMarked before handle made after → IsSound words before → IsSound words after
mark_sound = by_made
