-- The epoch grows at once.
use Rattle.std.proofs.Common.{◌≡◌, ℕ, zero, suc, ◌+◌, ◌-◌, ◌<◌, ◌==◌, ◌&&◌, ◌++◌, Bool, true, false, is_none, is_some, List, [], length, get_or}
use Rattle.std.proofs.Common.{Option, Some, None, refl, sym, ap, ◌∙◌, inl, inr, arith, eqb-true}
use Rattle.std.specs.List.{list_all}
use Rattle.std.proofs.lemmas.Bool.{and_parts, cases_lt, false≢true}
use Rattle.std.proofs.lemmas.List.{append-nil, get_or_past}
use Rattle.std.proofs.lemmas.List.Folds.{list_all_at}
use Rattle.epochs.specs.declared.limbo.Swept.{Swept}
use Rattle.epochs.specs.declared.limbo.Swept.TheVariants as swept
use Rattle.epochs.specs.Memories.{IsRecent, limbo_of, zeroed_at}
use Rattle.epochs.specs.Rings.{Bags, turned}
use Rattle.epochs.specs.Sweeping.{Reclaimer, ripe, is_passed, passes_all, scanned, swept_once, swept_times}
use Rattle.epochs.proofs.Sweeps.{advances, scans}

-- where there is nothing
is_nothing : {A : Type 0} (o : Option A) → is_none o ≡ true → o ≡ None
is_nothing None e = refl
is_nothing (Some x) e = absurd (false≢true e)

pub not_there : {A : Type 0} (o : Option A) → is_some o ≡ false → o ≡ None
not_there None e = refl
not_there (Some x) e = absurd (false≢true (sym e))

module _ (pins : List (Option ℕ)) (epoch : ℕ) (passed : list_all (is_passed epoch) pins ≡ true) where
  -- each actor passes
  pub passes : (actor : ℕ) → is_passed epoch (get_or pins actor None) ≡ true
  passes actor = elim (cases_lt actor (length pins)) [
    | inl within ↦ by (is_passed epoch (get_or pins actor None)) refl within
    | inr outside ↦ ap (is_passed epoch) (get_or_past pins actor None outside)
  ]
    where
      by : (b : Bool) → is_passed epoch (get_or pins actor None) ≡ b → actor < length pins → is_passed epoch (get_or pins actor None) ≡ true
      by true is within = is
      by false is within = absurd (false≢true (sym (list_all_at (is_passed epoch) pins actor None within is) ∙ passed))

  -- so its record is recent still when the epoch has grown
  pub recent_grown : (cursor : ℕ) → ((actor : ℕ) → IsRecent epoch (actor + 1 < cursor) (get_or pins actor None)) → (actor : ℕ) → IsRecent (epoch + 1) (actor + 1 < 1) (get_or pins actor None)
  recent_grown cursor recent actor = go (get_or pins actor None) (passes actor) (recent actor)
    where
      go : (o : Option ℕ) → is_passed epoch o ≡ true → IsRecent epoch (actor + 1 < cursor) o → IsRecent (epoch + 1) (actor + 1 < 1) o
      go None is was = tt
      go (Some recorded) is (le, near, same) = let now = eqb-true recorded epoch is in (omega arith, omega arith, λ below. absurd (omega arith))

-- the next steps pass each
pub passing : (pins : List (Option ℕ)) (r : Reclaimer) → ripe r.epoch r.limbo ≡ None → r.cursor ≡ 1 → list_all (is_passed r.epoch) pins ≡ true → true ≡ passes_all pins r
passing pins r none first passed =
    sym (ap (λ o. is_none o && r.cursor == 1 && list_all (is_passed r.epoch) pins) none ∙ ap (λ k. k == 1 && list_all (is_passed r.epoch) pins) first ∙ passed)

module _ (pins : List (Option ℕ)) (r : Reclaimer) (h : passes_all pins r ≡ true) where
  -- each of the three tests
  tests : ((is_none (ripe r.epoch r.limbo) && r.cursor == 1) ≡ true) × (list_all (is_passed r.epoch) pins ≡ true)
  tests = and_parts (is_none (ripe r.epoch r.limbo) && r.cursor == 1) (list_all (is_passed r.epoch) pins) h

  none : ripe r.epoch r.limbo ≡ None
  none = is_nothing (ripe r.epoch r.limbo) ((and_parts (is_none (ripe r.epoch r.limbo)) (r.cursor == 1) tests.0).0)

  pub from_first : r.cursor ≡ 1
  from_first = eqb-true r.cursor 1 ((and_parts (is_none (ripe r.epoch r.limbo)) (r.cursor == 1) tests.0).1)

  -- after so many of them
  abbrev pub passed_by : ℕ → Reclaimer
  passed_by n = record r { cursor = n + 1 }

  pub passes_next : (n : ℕ) → n < length pins → swept_once pins (passed_by n) ≡ (swept.Scanned true, passed_by (n + 1))
  passes_next n within =
      scans pins (passed_by n) none (omega arith) ∙ ap (λ k. scanned (passed_by n) (is_passed r.epoch (get_or pins k None))) (let e : n + 1 - 1 ≡ n = omega arith in e)
      ∙ ap (scanned (passed_by n)) (passes pins r.epoch tests.1 n)

  pub grows_last : swept_once pins (passed_by (length pins)) ≡ (swept.Advanced (r.epoch + 1), record r { epoch = r.epoch + 1; cursor = 1 })
  grows_last = advances pins (passed_by (length pins)) none (omega arith)

  comes_from : (left n : ℕ) → n + left ≡ length pins → swept_times pins (suc left) (passed_by n) ≡ record r { epoch = r.epoch + 1; cursor = 1 }
  unfolding swept_times
  comes_from zero n all =
      let here : n ≡ length pins = omega (arith, all) in
      ap (λ k. (swept_once pins (passed_by k)).1) here ∙ ap (λ (done : Swept × Reclaimer). done.1) grows_last
  comes_from (suc left) n all =
      ap (λ (done : Swept × Reclaimer). swept_times pins (suc left) done.1) (passes_next n (omega (arith, all))) ∙ comes_from left (n + 1) (omega (arith, all))

  -- all steps come to one growth
  pub grown_at_once : swept_times pins (length pins + 1) r ≡ record r { epoch = r.epoch + 1; cursor = 1 }
  grown_at_once =
      ap (λ k. swept_times pins (length pins + 1) (record r { cursor = k })) from_first
      ∙ ap (λ n. swept_times pins n (passed_by 0)) (let all : length pins + 1 ≡ suc (length pins) = omega arith in all)
      ∙ comes_from (length pins) 0 (omega arith)

-- limbo is the same in the bags one epoch later
pub limbo_turned : (epoch : ℕ) (bags : Bags) → bags.oldest ≡ [] → limbo_of (epoch + 1) (turned bags) ≡ limbo_of epoch bags
limbo_turned epoch bags empty =
    append-nil (zeroed_at (epoch + 1 - 2) bags.middle ++ zeroed_at (epoch + 1 - 1) bags.present)
    ∙ ap (λ e. zeroed_at e bags.middle ++ zeroed_at (epoch + 1 - 1) bags.present) (let before : epoch + 1 - 2 ≡ epoch - 1 = omega arith in before)
    ∙ ap (λ e. zeroed_at (epoch - 1) bags.middle ++ zeroed_at e bags.present) (let now : epoch + 1 - 1 ≡ epoch = omega arith in now)
    ∙ sym (ap (λ rs. zeroed_at (epoch - 2) rs ++ zeroed_at (epoch - 1) bags.middle ++ zeroed_at epoch bags.present) empty)
