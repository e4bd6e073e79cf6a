-- The load of the next seat's pin, by a seat that would close a handle.
use Rattle.history.specs.declared.calls.Call.{Call}
use Rattle.std.proofs.Common.{◌≡◌, ◌==◌, ◌||◌, ◌<◌, ◌≤◌, ◌+◌, ◌⊎◌, inl, inr, ℕ, Bool, true, false, List, ◌∷◌, get_or, set, slice_index, refl, sym, ap, subst, ◌∙◌, eq-eqb, arith, if◌then◌else◌}
use Rattle.std.proofs.lemmas.Bool.{cases_eq, ne_eqb, true≢false}
use Rattle.std.proofs.lemmas.List.{set-get_or}
use mathlib.Core.Option.{some, none}
use lib.ListN.{get_elem?}
use Rattle.atomic_table.specs.Table.{Me, Allows, step}
use Rattle.atomic_table.specs.Table as Table
use Rattle.trie_words.specs.Codes.{pin_code, pin_of}
use Rattle.trie_words.specs.declared.pins.Pin.{Pin}
use Rattle.lock_free.proofs.EpochStays.{rest_of}
use Rattle.lock_free.specs.declared.rules.Closing.{Closing}
use Rattle.lock_free.specs.declared.rules.View.{View}
use Rattle.lock_free.specs.declared.sizes.Sizes.{Sizes}
use Rattle.lock_free.specs.Loading.{IsSound}
use Rattle.lock_free.specs.Places.{pin_word}
use Rattle.lock_free.specs.Shadows.{IsShadowed}
use Rattle.lock_free.specs.Rules.{IsKept}
use Rattle.lock_free.specs.SeatWords.{is_out, WouldClose, closes, passing, HasPassed, is_passed, has_passed}
use Rattle.lock_free.proofs.Assembling.{closing_at}
use Rattle.lock_free.proofs.Closers.{seat_kept, pass_kept}
use Rattle.lock_free.proofs.Moments.{allowed}
use Rattle.lock_free.proofs.PinStep.{low_back}

either_one : (a b : Bool) → (a || b) ≡ true → (a ≡ true) ⊎ (b ≡ true)
either_one true b e = inl refl
either_one false b e = inr e

-- a number is itself, or another
is_same : (n m : ℕ) → (n == m) ≡ true → n ≡ m
is_same n m e = elim (cases_eq n m) [ inl same ↦ same | inr differs ↦ absurd (true≢false (sym e ∙ ne_eqb n m differs)) ]

module _ (v : View) (handle looked : ℕ) (low : handle < 256) (others : List Closing) (would : v.closing ≡ closes handle looked ∷ others) (cleared : v.passed.cleared ≡ true)
    (s : Table.State Call View) (kept : IsKept v.sizes s) (id : ℕ)
    (at : get_elem? s.views id ≡ some v) where
  abbrev found : ℕ
  found = slice_index s.words (pin_word (looked + 1))

  in_call : (pin : Pin) → found ≡ pin_code pin → pin.handle ≡ handle → is_out handle (pin_of found) ≡ false
  in_call pin code its =
      ap (λ n. is_out handle (pin_of n)) code ∙ ap (is_out handle) (low_back pin (omega (arith, its, low)))
      ∙ ap (λ b. if b then false else true) (eq-eqb pin.handle handle its)

  nobody : is_passed v handle looked found ≡ true → (pin : Pin) → found ≡ pin_code pin → pin.handle ≡ handle → looked + 1 ≡ v.actor
  nobody e pin code its = elim (either_one (is_out handle (pin_of found)) (looked + 1 == v.actor) e) [
    | inl out ↦ absurd (true≢false (sym out ∙ in_call pin code its))
    | inr own ↦ is_same (looked + 1) v.actor own
  ]

  abbrev Passed : View → Type 0
  Passed w = IsKept v.sizes (record { words = s.words; homes = s.homes; views = set s.views id w }) × HasPassed v handle looked (is_passed v handle looked found) w
      × (rest_of w ≡ rest_of v)

  passes_by : (b : Bool) → is_passed v handle looked found ≡ b → (w : View) × Passed w
  passes_by true e = (passing v handle looked, (pass_kept v.sizes s kept id v at handle looked others would cleared (nobody e), (λ x. refl, λ x. absurd (true≢false (sym e ∙ x))), refl))
  passes_by false e = (
    v,
    (
      seat_kept v.sizes s kept id v at v.entered v.closing (kept.seats id v at).entered (kept.seats id v at).calls
          (λ g who below h. closing_at v.sizes s kept id v at v refl refl g who (λ x. (x, refl)) (λ c x y z. x) (λ c. c) (kept.closings g who below h)),
      (λ x. absurd (true≢false (sym x ∙ e)), λ x. refl),
      refl,
    ),
  )

  pub passes : (w : View) × Passed w
  passes = passes_by (is_passed v handle looked found) refl

pub pass_allowed : (sizes : Sizes) (size id : ℕ) (me : Me Call View) (some_seats : 1 ≤ me.0.sizes.seats) (handle looked : ℕ) → handle < 256 → WouldClose me.0 handle looked →
    Allows (IsShadowed sizes) size id me (pin_word (looked + 1)) (λ n. n) (has_passed (step size (pin_word (looked + 1)) 0 0 none) me)
pass_allowed sizes size id me some_seats handle looked low (others, would, cleared) =
    allowed sizes size id me (pin_word (looked + 1)) (λ n. n) (has_passed (step size (pin_word (looked + 1)) 0 0 none) me)
    some_seats (λ s kept at. inr refl)
    (λ s kept at. (let x = passes me.0 handle looked low others would cleared s kept id at in (
      x.0,
      subst (λ ws. IsKept me.0.sizes (record { words = ws; homes = s.homes; views = set s.views id x.0 })) (sym (set-get_or s.words (pin_word (looked + 1)) 0)) x.1.0,
      (
        λ g n is here. subst (λ (c : Closing). HasPassed me.0 c.handle c.looked (is_passed me.0 c.handle c.looked (slice_index s.words (pin_word (looked + 1)))) x.0)
            (ap (λ marks. get_or marks 0 (closes handle looked)) (sym would ∙ is.1)) x.1.1,
        refl,
      ),
    )))
    (λ s kept at. (passes me.0 handle looked low others would cleared s kept id at).1.2)

-- what is sound stays so
pub pass_sound : (words : ℕ) (before : View) (handle looked : ℕ) (out : Bool) (after : View) → HasPassed before handle looked out after → IsSound words before → IsSound words after
pass_sound words before handle looked true after h sound =
    subst (IsSound words) (sym (h.0 refl))
    (record { size = sound.size; range = sound.range; bounds = sound.bounds; keys = sound.keys; counted = sound.counted; inside = sound.inside; free = sound.free })
pass_sound words before handle looked false after h sound = subst (IsSound words) (sym (h.1 refl)) sound

-- the word is one of the table's
pub next_inside : (words : ℕ) (v : View) → IsSound words v → (seat : ℕ) → seat ≤ v.sizes.seats → pin_word seat < words
next_inside words v sound seat few = let size = sound.size in omega (arith, size, few)
