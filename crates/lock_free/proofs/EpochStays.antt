-- What the rule says of the epoch stays where neither the epoch changes nor what it says of seats.
use Rattle.std.proofs.Common.{◌≡◌, ◌≢◌, ◌⊎◌, ◌+◌, ◌≤◌, inl, inr, ℕ, true, false, List, set, slice_index, Option, Some, None, refl, sym, ap, subst, ◌∙◌, arith, []}
use Rattle.std.proofs.lemmas.List.{get_or-set_other, set-get_or}
use Rattle.std.proofs.lemmas.Option.{none-some}
use mathlib.Core.Option.{some}
use lib.ListN.{get_elem?}
use Rattle.atomic_table.proofs.Lists.{at_set}
use Rattle.lock_free.specs.declared.rules.Checked.{Checked}
use Rattle.lock_free.specs.declared.rules.Glance.{Glance}
use Rattle.lock_free.specs.declared.rules.Heard.{Heard}
use Rattle.lock_free.specs.declared.rules.Pinned.{Pinned}
use Rattle.lock_free.specs.declared.rules.Retired.{Retired}
use Rattle.lock_free.specs.declared.rules.View.{View}
use Rattle.lock_free.specs.Places.{epoch_word}
use Rattle.lock_free.specs.Rules.{AreEpochs, IsPinned}

abbrev pub epoch_in : List ℕ → ℕ
epoch_in words = slice_index words epoch_word

pub pinned_still : (words words_then : List ℕ) → epoch_in words_then ≡ epoch_in words → (p : Pinned) → IsPinned words p → IsPinned words_then p
pinned_still words words_then same p h = record {
  fits = h.fits;
  read = h.read;
  since = subst (λ n. p.since ≤ n) (sym same) h.since;
  soon = subst (λ n. n ≤ p.since + 1) (sym same) h.soon;
}

-- what is left of a seat says of the epoch what it said, and is pinned as it was, if at all
pub record IsAsWas (v w : View) : Type 0 where
  pub actor : w.actor ≡ v.actor
  pub epoch : w.epoch ≡ v.epoch
  pub passed : w.passed ≡ v.passed
  pub glance : w.glance ≡ v.glance
  pub pinned : (p : Pinned) → w.pin ≡ Some p → v.pin ≡ Some p

-- it is what is left of a seat, or a new one
pub data Was (views : List View) (w : View) : Type 0 where
  was_one : (id : ℕ) (v : View) → get_elem? views id ≡ some v → IsAsWas v w → Was views w
  is_new : w.pin ≡ None → w.epoch ≡ 0 → Was views w

module _ (words words_then : List ℕ) (views views_then : List View) (same : epoch_in words_then ≡ epoch_in words)
    (was : (id : ℕ) (w : View) → get_elem? views_then id ≡ some w → Was views w) (h : AreEpochs words views) where
  seen_by : (w : View) → Was views w → w.epoch ≤ epoch_in words_then
  seen_by w (was_one id v at it) = subst (λ n. n ≤ epoch_in words_then) (sym it.epoch) (subst (λ n. v.epoch ≤ n) (sym same) (h.seen id v at))
  seen_by w (is_new free first) = subst (λ n. n ≤ epoch_in words_then) (sym first) (omega arith)

  pinned_by : (w : View) → Was views w → (p : Pinned) → w.pin ≡ Some p → IsPinned words_then p
  pinned_by w (was_one id v at it) p is = pinned_still words words_then same p (h.pinned id v at p (it.pinned p is))
  pinned_by w (is_new free first) p is = absurd (none-some p (sym free ∙ is))

  passed_by : (v w : View) → Was views v → Was views w → v.passed.cleared ≡ true → w.actor ≤ v.passed.seats → (p : Pinned) → w.pin ≡ Some p → p.shown ≡ true → v.epoch ≤ p.since
  passed_by v w (is_new free first) other all below p is shown = subst (λ n. n ≤ p.since) (sym first) (omega arith)
  passed_by v w one (is_new free first) all below p is shown = absurd (none-some p (sym free ∙ is))
  passed_by v w (was_one i x at it) (was_one j y at_y it_y) all below p is shown =
      subst (λ n. n ≤ p.since) (sym it.epoch)
      (h.passed i j x y at at_y (ap (λ (c : Checked). c.cleared) (sym it.passed) ∙ all) (subst (λ n. n ≤ x.passed.seats) it_y.actor (subst (λ
      (c : Checked). w.actor ≤ c.seats) it.passed below)) p (it_y.pinned p is) shown)

  cleared_by : (v w : View) → Was views v → Was views w → v.passed.cleared ≡ true → (p : Pinned) → w.pin ≡ Some p → p.shown ≡ false → v.epoch ≤ p.since
  cleared_by v w (is_new free first) other all p is hidden = subst (λ n. n ≤ p.since) (sym first) (omega arith)
  cleared_by v w one (is_new free first) all p is hidden = absurd (none-some p (sym free ∙ is))
  cleared_by v w (was_one i x at it) (was_one j y at_y it_y) all p is hidden =
      subst (λ n. n ≤ p.since) (sym it.epoch) (h.cleared i j x y at at_y (ap (λ (c : Checked). c.cleared) (sym it.passed) ∙ all) p (it_y.pinned p is) hidden)

  pub epochs_stay : AreEpochs words_then views_then
  epochs_stay = record {
    seen = λ id w e. seen_by w (was id w e);
    pinned = λ id w e p is. pinned_by w (was id w e) p is;
    passed = λ i j v w ei ej all below p is shown. passed_by v w (was i v ei) (was j w ej) all below p is shown;
    cleared = λ i j v w ei ej all p is hidden. cleared_by v w (was i v ei) (was j w ej) all p is hidden;
  }

pub as_was : (v : View) → IsAsWas v v
as_was v = record { actor = refl; epoch = refl; passed = refl; glance = refl; pinned = λ p e. e }

-- one seat is another then
module _ (views : List View) (id : ℕ) (v : View) (at : get_elem? views id ≡ some v) (w : View) (it : IsAsWas v w) where
  pub was_then : (k : ℕ) (x : View) → get_elem? (set views id w) k ≡ some x → Was views x
  was_then k x e = elim (at_set views id k w x e) [
    | inl p ↦ was_one id v at (subst (IsAsWas v) p.1 it)
    | inr p ↦ was_one k x p.1 (as_was x)
  ]

-- all that no access changes but those that are about it
abbrev pub rest_of : View → List Heard × ℕ × ℕ × Checked × Option Pinned × List Retired × List ℕ × List (ℕ × ℕ) × Option Glance
rest_of v = (v.heard, v.actor, v.epoch, v.passed, v.pin, v.retired, v.owed, v.links, v.glance)

-- but for the references that it holds itself
abbrev pub rest_beside : View → List Heard × ℕ × ℕ × Checked × Option Pinned × List Retired × List ℕ × List (ℕ × ℕ) × Option Glance
rest_beside v = (v.heard, v.actor, v.epoch, v.passed, v.pin, v.retired, [], v.links, v.glance)

pub beside_as_was : (v w : View) → rest_beside w ≡ rest_beside v → IsAsWas v w
beside_as_was v w same = record {
  actor = ap (λ r. r.1) same;
  epoch = ap (λ r. r.2) same;
  passed = ap (λ r. r.3) same;
  glance = ap (λ r. r.8) same;
  pinned = λ p is. sym (ap (λ r. r.4) same) ∙ is;
}

-- of one that isn't pinned then
abbrev pub rest_unpinned : View → List Heard × ℕ × ℕ × Checked × Option Pinned × List Retired × List ℕ × List (ℕ × ℕ) × Option Glance
rest_unpinned v = (v.heard, v.actor, v.epoch, v.passed, None, v.retired, [], v.links, v.glance)

pub unpinned_as_was : (v w : View) → rest_of w ≡ rest_unpinned v → IsAsWas v w
unpinned_as_was v w same = record {
  actor = ap (λ r. r.1) same;
  epoch = ap (λ r. r.2) same;
  passed = ap (λ r. r.3) same;
  glance = ap (λ r. r.8) same;
  pinned = λ p e. absurd (none-some p (sym (ap (λ r. r.4) same) ∙ e));
}

-- ---- the word itself

-- an access of this word, which leaves f of what it has, leaves the epoch
abbrev pub Elsewhere : ℕ → (ℕ → ℕ) → List ℕ → Type 0
Elsewhere word f words = (word ≢ epoch_word) ⊎ (f (slice_index words word) ≡ slice_index words word)

pub stays_elsewhere : (words : List ℕ) (word : ℕ) (f : ℕ → ℕ) → Elsewhere word f words → epoch_in (set words word (f (slice_index words word))) ≡ epoch_in words
stays_elsewhere words word f (inl differs) = get_or-set_other words word epoch_word (f (slice_index words word)) 0 (λ e. differs (sym e))
stays_elsewhere words word f (inr same) = ap (λ n. epoch_in (set words word n)) same ∙ ap epoch_in (set-get_or words word 0)
