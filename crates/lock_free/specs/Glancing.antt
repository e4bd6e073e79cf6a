-- A seat glances: it pins itself at a load of the word that counts glances, and no word says so. What each load tells it is what it would tell a pinned seat, or
-- that the glance has fallen; and at last it looks at the count again.
use Rattle.history.specs.declared.calls.Call.{Call}
use Rattle.history.specs.declared.replies.Reply.{Reply}
use Rattle.std.specs.Prelude.{◌≡◌, ◌≢◌, ℕ, Bool, true, false, None, Some}
use mathlib.Core.Option.{none}
use Rattle.atomic_table.specs.Table.{Allows, Me, Step, step}
use Rattle.machine_model.specs.declared.actions.Action.TheVariants as act
use Rattle.machine_model.specs.Calls.{handle_of}
use Rattle.lock_free.specs.declared.rules.Glance.{Glance}
use Rattle.lock_free.specs.declared.rules.Pinned.{Pinned}
use Rattle.lock_free.specs.declared.rules.View.{View}
use Rattle.lock_free.specs.declared.sizes.Sizes.{Sizes}
use Rattle.lock_free.specs.Finishing.{no_sizes}
use Rattle.lock_free.specs.Glances.{is_last}
use Rattle.lock_free.specs.Loading.{IsAt, IsSound}
use Rattle.lock_free.specs.Places.{glance_word, words_of}
use Rattle.lock_free.specs.SeatWords.{pinned_for, HasEnded}
use Rattle.lock_free.specs.Shadows.{inner, HasFallen, IsShadowed}

-- ---- it begins

-- the seat that knows this as a pinned one glances
abbrev pub veiled : View → Glance → View
veiled w g = record w { sizes = no_sizes; glance = Some g }

abbrev pub glance_of : View → ℕ → Glance
glance_of v count = record { sizes = v.sizes; read = count; lost = false }

-- it is pinned for the call, and no word says so
pub record BeginsGlance (before : View) (call : Call) (count : ℕ) (after : View) : Type 0 where
  pub pinned : Pinned
  pub hidden : pinned.shown ≡ false
  pub its : pinned.pin.handle ≡ handle_of call
  pub after_is : after ≡ veiled (pinned_for before pinned call) (glance_of before count)
  pub plain : before.glance ≡ None

-- nobody glances any more once all that can be counted were
abbrev pub HasBegunGlance : View → Call → ℕ → View → Type 0
HasBegunGlance before call found after = (is_last found ≡ false → BeginsGlance before call found after) × (is_last found ≡ true → after ≡ before)

abbrev pub has_begun_glance : Call → Step Call → Me Call View → ℕ → Me Call View → Type 0
has_begun_glance call step before found after = HasBegunGlance before.0 call found after.0 × (after.1 ≡ before.1)

-- the rule lets the seat do so
abbrev pub MayBegin : Sizes → ℕ → ℕ → Me Call View → Call → Type 0
MayBegin sizes size id me call = Allows (IsShadowed sizes) size id me glance_word (λ n. n) (has_begun_glance call (step size glance_word 0 0 none) me)

-- what is sound as a pinned seat
pub record IsGlancing (words : ℕ) (v : View) : Type 0 where
  pub glance : Glance
  pub is : v.glance ≡ Some glance
  pub sound : IsSound words (inner v glance)

-- ---- it goes on

-- it knows that the glance has fallen
abbrev pub losing : View → Glance → View
losing v g = record v { glance = Some (record g { lost = true }) }

-- a load tells it this of what it knows as a pinned seat, or that the glance has fallen
pub data HasGlanced (told : Me Call View → Me Call View → Type 0) (before after : Me Call View) : Type 0 where
  is_lost : (g : Glance) → before.0.glance ≡ Some g → after ≡ (losing before.0 g, before.1) → HasGlanced told before after
  goes_on : (g : Glance) → before.0.glance ≡ Some g → g.lost ≡ false → (w : Me Call View) → told (inner before.0 g, before.1) w → after ≡ (veiled w.0 g, w.1) → HasGlanced told before after

abbrev pub has_glanced : (Step Call → Me Call View → ℕ → Me Call View → Type 0) → Step Call → Me Call View → ℕ → Me Call View → Type 0
has_glanced then step before found after = HasGlanced (λ u w. then step u found w) before after

-- ---- it ends

-- with the answer that it is to end with
abbrev pub EndsAt : View → View → Type 0
EndsAt before after = (answer : Reply) → IsAt before (act.End answer) → HasEnded before answer after

-- Its operation ends, if the count is what it was; or was ended for it.
abbrev pub HasEndedGlance : View → Glance → Bool → View → Type 0
HasEndedGlance before g counts after = (counts ≡ true → (g.lost ≡ false) × EndsAt (inner before g) after) × (counts ≡ false → HasFallen (inner before g) after)

abbrev pub has_ended_glance : Step Call → Me Call View → ℕ → Me Call View → Type 0
has_ended_glance step before found after =
    (g : Glance) → before.0.glance ≡ Some g →
    (found ≡ g.read → (g.lost ≡ false) × EndsAt (inner before.0 g) after.0 × IsSound (words_of g.sizes) after.0)
    × (found ≢ g.read → HasFallen (inner before.0 g) after.0) × (after.1 ≡ before.1)

-- it gives its operation up, if that wasn't ended for it
abbrev pub has_stopped_glance : Step Call → Me Call View → ℕ → Me Call View → Type 0
has_stopped_glance step before found after = (g : Glance) → before.0.glance ≡ Some g → HasFallen (inner before.0 g) after.0 × (after.1 ≡ before.1)
