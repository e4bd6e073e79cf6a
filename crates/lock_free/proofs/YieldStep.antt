-- A load of the first word of an offer that stands where another was to come to stand: undecided, it is why that one misses.
use Rattle.history.specs.declared.calls.Call.{Call}
use Rattle.std.proofs.Common.{◌≤◌, ◌≡◌, ◌*◌, ◌==◌, ℕ, inl, inr, Bool, true, false, Contains, set, slice_index, refl, sym, ap, subst, ◌∙◌, eq-eqb, ne_eqb, if◌then◌else◌}
use Rattle.std.proofs.lemmas.Bool.{cases_eq}
use Rattle.std.proofs.lemmas.List.{set-get_or}
use mathlib.Core.Option.{some, none}
use lib.ListN.{get_elem?}
use Rattle.atomic_table.specs.Table.{Me, Allows, step}
use Rattle.atomic_table.specs.Table as Table
use Rattle.machine_model.specs.declared.actions.Action.TheVariants as act
use Rattle.machine_model.specs.declared.roots.Descriptor.{Descriptor}
use Rattle.machine_model.specs.Calls.{handle_of}
use Rattle.machine_model.specs.States.{word_at, word_of}
use Rattle.machine_model.specs.Swapping.{is_plain}
use Rattle.lock_free.proofs.EpochStays.{rest_beside}
use Rattle.lock_free.specs.declared.accounts.Known.{Known}
use Rattle.lock_free.specs.declared.offers.Fate.TheVariants as became
use Rattle.lock_free.specs.declared.rules.View.{View}
use Rattle.lock_free.specs.declared.sizes.Sizes.{Sizes}
use Rattle.lock_free.specs.Accounts.{state_of}
use Rattle.lock_free.specs.HandleWords.{HasOffer}
use Rattle.lock_free.specs.Loading.{seen, IsAt, IsSound}
use Rattle.lock_free.specs.Places.{words_of}
use Rattle.lock_free.specs.RootOffers.{MeetsOffer, YieldedAs, HasYielded, has_yielded}
use Rattle.lock_free.specs.RootWords.{fate_by}
use Rattle.lock_free.specs.Roots.{undecided, carried_out}
use Rattle.lock_free.specs.Shadows.{IsShadowed}
use Rattle.lock_free.specs.Rules.{AreOwed, AreRetired, IsKept}
use Rattle.lock_free.proofs.AbortStep.{known_there}
use Rattle.lock_free.proofs.OwedStay.{owed_then}
use Rattle.lock_free.proofs.Moments.{allowed_giving, seen_kept, waited_so}
use Rattle.lock_free.proofs.OfferMet.{settled_as}
use Rattle.lock_free.proofs.OfferMisses.{missed, missed_kept, missed_sound, has_missed, owed_missed}
use Rattle.lock_free.proofs.Stood.{stands_there}

module _ (v : View) (slot : ℕ) (offer : Descriptor) (p : IsAt v (act.Offer offer)) (met : HasOffer v.sizes v.account v.pin (handle_of p.operation.call) slot) (s : Table.State Call View)
    (kept : IsKept v.sizes s) (id : ℕ) (at : get_elem? s.views id ≡ some v) where
  abbrev found : ℕ
  found = slice_index s.words (2 * slot)

  abbrev k : Known
  k = met.its

  here : Contains kept.account.offers k
  here = known_there v s kept id at k met.here

  -- an undecided offer stands on the handle, so no root does
  another : found ≡ 0 → is_plain (word_at (state_of v.sizes kept.account) (handle_of p.operation.call)) offer.root ≡ false
  another e =
      subst (λ h. is_plain (word_at (state_of v.sizes kept.account) h) offer.root ≡ false) met.on
      (ap (λ r. is_plain (word_of r) offer.root) (stands_there v.sizes s kept k here (ap (λ n. slice_index s.words (2 * n)) met.place ∙ e)))

  abbrev Left : View → Type 0
  Left after =
      IsKept v.sizes (record { words = set s.words (2 * slot) found; homes = s.homes; views = set s.views id after }) ×
      (IsSound (words_of v.sizes) after × YieldedAs (found == undecided) v (2 * slot) found after) × (rest_beside after ≡ rest_beside v)
      × (AreRetired v.sizes s.words s.views → AreOwed s.views → AreOwed (set s.views id after))

  same_words : (after : View) → IsKept v.sizes (record { words = s.words; homes = s.homes; views = set s.views id after }) → IsKept v.sizes
      (record { words = set s.words (2 * slot) found; homes = s.homes; views = set s.views id after })
  same_words after h = subst (λ ws. IsKept v.sizes (record { words = ws; homes = s.homes; views = set s.views id after })) (sym (set-get_or s.words (2 * slot) 0)) h

  pub leaves : (after : View) × Left after
  leaves = elim (cases_eq found 0) [
    | inl e ↦
        let none = another e in
        let after = missed v offer p s kept id at none in (
          after,
          (
            same_words after (missed_kept v offer p s kept id at none),
            (missed_sound v offer p s kept id at none, subst (λ b. YieldedAs b v (2 * slot) found after) (sym (eq-eqb found 0 e)) (has_missed v offer p s kept id at none)),
            refl,
            owed_missed v offer p s kept id at none,
          ),
        )
    | inr differs ↦
        let waited = waited_so v s kept id at in
        let after = seen v kept.account in (
          after,
          (
            same_words after (seen_kept v s kept id at),
            (waited.sound, subst (λ b. YieldedAs b v (2 * slot) found after) (sym (ne_eqb found 0 differs)) (record { table = s; kept = kept; id = id; at = at; finds = refl }, refl)),
            refl,
            λ retired h. owed_then s.views id v at after (λ k c. (c, refl)) (λ y c. c) h,
          ),
        )
  ]

pub yield_allowed : (sizes : Sizes) (size id : ℕ) (me : Me Call View) (some_seats : 1 ≤ me.0.sizes.seats) (slot : ℕ) → MeetsOffer me.0 slot → Allows (IsShadowed sizes) size id me (2 * slot) (λ n. n)
    (has_yielded (step size (2 * slot) 0 0 none) me)
yield_allowed sizes size id me some_seats slot (offer, p, met) =
    allowed_giving sizes size id me (2 * slot) (λ n. n) (has_yielded (step size (2 * slot) 0 0 none) me)
    some_seats (λ s kept at. inr refl)
    (λ s kept at. (let x = leaves me.0 slot offer p met s kept id at in (x.0, x.1.0, (x.1.1.1, x.1.1.0, refl))))
    (λ s kept at. (leaves me.0 slot offer p met s kept id at).1.2) (λ s kept at. (leaves me.0 slot offer p met s kept id at).1.3)

-- ---- what the seat is told

module _ (before : View) (handle name found : ℕ) (knows : HasOffer before.sizes before.account before.pin handle name) (after : View) where
  yielded_by : (none one : Bool) → (found == undecided) ≡ none → (found == carried_out) ≡ one → YieldedAs none before (2 * name) found after → HasYielded before name
      (if none then became.Undecided else (if one then became.CarriedOut else became.TakenBack)) after
  yielded_by true one e f h = h
  yielded_by false true e f h = settled_as before name found after h true e f
  yielded_by false false e f h = settled_as before name found after h false e f

  pub yield_told : YieldedAs (found == undecided) before (2 * name) found after → HasYielded before name (fate_by found) after
  yield_told h = yielded_by (found == undecided) (found == carried_out) refl refl h
