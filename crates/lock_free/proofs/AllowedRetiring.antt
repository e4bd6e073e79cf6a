-- An access after which its seat has retired more is allowed where the rule holds after it.
use Rattle.history.specs.declared.calls.Call.{Call}
use Rattle.std.proofs.Common.{◌≡◌, ◌≤◌, ℕ, Contains, set, ap}
use Rattle.atomic_table.specs.Table.{Me, Allows}
use Rattle.lock_free.specs.declared.rules.Retired.{Retired}
use Rattle.lock_free.specs.declared.rules.View.{View}
use Rattle.lock_free.specs.declared.sizes.Sizes.{Sizes}
use Rattle.lock_free.specs.Links.{link_in}
use Rattle.lock_free.specs.Shadows.{IsShadowed}
use Rattle.lock_free.specs.Rules.{AreEpochs, AreOwed, AreRetired}
use Rattle.lock_free.proofs.CountWords.{Beside, aside_so, count_same, elsewhere_so}
use Rattle.lock_free.proofs.EpochStays.{IsAsWas, epochs_stay, stays_elsewhere, was_then}
use Rattle.lock_free.proofs.LinksStay.{linked_then}
use Rattle.lock_free.proofs.Moments.{after_it, allowed_by, Always, CanBe}
use Rattle.lock_free.proofs.OneGlance.Shadowed.{stays_by}
use Rattle.lock_free.proofs.RetiredStay.{epoch_still, retired_stay, retires_self}

module _ (sizes : Sizes) (size id : ℕ) (me : Me Call View) (word : ℕ) (f : ℕ → ℕ) (then : ℕ → Me Call View → Type 0) where
  -- and where it has retired more just now
  pub allowed_retiring : 1 ≤ me.0.sizes.seats → Always sizes size id me word f then (λ s kept at. Beside me.0.sizes word f s.words) → (h : CanBe sizes size id me word f then) →
      Always sizes size id me word f then (λ s kept at. IsAsWas me.0 (h s kept at).0 × ((h s kept at).0.heard ≡ me.0.heard) × ((h s kept at).0.links ≡ me.0.links)
      × ((x : Retired) → Contains me.0.retired x → Contains (h s kept at).0.retired x)) →
      Always sizes size id me word f then (λ s kept at. AreEpochs s.words s.views → AreRetired me.0.sizes s.words s.views → AreRetired me.0.sizes s.words (set s.views id (h s kept at).0)) →
      Always sizes size id me word f then (λ s kept at. AreEpochs s.words s.views → AreRetired me.0.sizes s.words s.views → AreOwed s.views → AreOwed (set s.views id (h s kept at).0)) →
      Allows (IsShadowed sizes) size id me word f then
  allowed_retiring some_seats beside h same retires owes =
      allowed_by sizes size id me word f then some_seats
      (λ s kept epochs retired owed linked at. (
      let x = h s kept at in
      let elsewhere = elsewhere_so me.0.sizes word f s.words (beside s kept at) in (
        x.0,
        stays_by sizes size id me word f then s (aside_so me.0.sizes word f s.words (beside s kept at)) x.0 (same s kept at).0,
        x.1,
        epochs_stay s.words (after_it sizes size id me word f then s x.0).words s.views (after_it sizes size id me word f then s x.0).views (stays_elsewhere s.words word f elsewhere)
            (was_then s.views id me.0 at x.0 (same s kept at).0) epochs,
        retired_stay me.0.sizes s.words (after_it sizes size id me word f then s x.0).words (set s.views id x.0) (after_it sizes size id me word f then s x.0).views
            (epoch_still s.words (after_it sizes size id me word f then s x.0).words (stays_elsewhere s.words word f elsewhere))
            (retires_self (set s.views id x.0)) (retires s kept at epochs retired),
        owes s kept at epochs retired owed,
        linked_then s.views id me.0 at x.0 (same s kept at).2 (same s kept at).3 me.0.sizes s.words (after_it sizes size id me word f then s x.0).words
            (λ c is. ap link_in (count_same me.0.sizes word f s.words (beside s kept at) c is)) linked,
        (same s kept at).1,
        x.2,
      )))
