-- A seat that is to offer still is so once it has seen more happen, and what comes of it is what would have come of it before.
use Rattle.std.proofs.Common.{◌≡◌, ℕ, Bool, true, false, Contains, sym, subst, ◌∙◌, inl, inr, Some}
use Rattle.machine_model.specs.Beneath.slot_arena.specs.declared.refs.Ref.{Ref}
use Rattle.machine_model.specs.declared.actions.Action.{Action}
use Rattle.machine_model.specs.declared.actions.Action.TheVariants as act
use Rattle.machine_model.specs.declared.roots.Descriptor.{Descriptor}
use Rattle.machine_model.specs.Calls.{handle_of}
use Rattle.trie_words.specs.declared.roots.RootWord.{RootWord}
use Rattle.trie_words.specs.declared.roots.RootWord.TheVariants as word
use Rattle.lock_free.specs.declared.accounts.Account.{Account}
use Rattle.lock_free.specs.declared.rules.View.{View}
use Rattle.lock_free.specs.Accounts.{place_of}
use Rattle.lock_free.specs.Fates.{HasSettled}
use Rattle.lock_free.specs.HandleWords.{HasOffer, HasSeenRoot, TellsRoot}
use Rattle.lock_free.specs.Loading.{seen, IsAt, IsSound, Saw, Waited}
use Rattle.lock_free.specs.Making.{refs_of_offer}
use Rattle.lock_free.specs.OfferWords.{outcome_by}
use Rattle.lock_free.specs.Passing.{Later}
use Rattle.lock_free.specs.RootOffers.{IsToOffer, TookOffer, HasMissed, HasOffered, MeetsOffer}
use Rattle.lock_free.specs.Rooting.{IsSettledAt}
use Rattle.lock_free.specs.RootWords.{HasSeenSettled}
use Rattle.lock_free.proofs.Asked.{live_in_use}
use Rattle.lock_free.proofs.Laters.{waited_later}
use Rattle.lock_free.proofs.OfferRefs.{drafts_moved, root_of_offer}
use Rattle.lock_free.proofs.OfferStep.{offer_lives}
use Rattle.lock_free.proofs.Waiting.{waited_twice}
use Rattle.lock_free.proofs.PartingStay.{met_still}
use Rattle.std.proofs.lemmas.Option.{none-some}
use Rattle.lock_free.specs.declared.rules.Pinned.{Pinned}

-- ---- it has seen more

module _ (u : View) (a : Account) (first : Waited u a) where
  abbrev v : View
  v = seen u a

  abbrev at_since : (does : Action) → IsAt u does → IsAt v does
  at_since does p = record {
    operation = record p.operation { is_marked = (first.stays p.operation p.runs).0 };
    runs = (first.stays p.operation p.runs).1;
    acts = (first.stays p.operation p.runs).2 ∙ p.acts;
  }

  took_since : (b : Account) (stands : Bool) (w : View) → TookOffer v b stands w → TookOffer u b stands w
  took_since b stands w (waited, took, plain) = (waited_twice u a b first waited, took, λ offer p. plain offer (at_since (act.Offer offer) p))

  offered_from : (slot : ℕ) (w : View) → HasOffered v slot w → HasOffered u slot w
  offered_from slot w (b, took, is, met) = (b, took_since b true w took, λ offer p rest pool. is offer (at_since (act.Offer offer) p) rest pool, λ offer p. met offer (at_since (act.Offer offer) p))

  missed_from : (w : View) → HasMissed v w → HasMissed u w
  missed_from w (b, took, is) = (b, took_since b false w took, λ o (mark, runs). (let x = first.stays (record o { is_marked = mark }) runs in is o (x.0, x.1)))

  to_offer_from : (n handle root slot : ℕ) → IsSound n u → IsToOffer u handle root slot → IsToOffer v handle root slot
  to_offer_from n handle root slot sound (offer, rest, p, w, on) =
      let later : Later u v = waited_later n u sound a first in
      let same : (r : Ref) → Contains (refs_of_offer offer) r → place_of a r ≡ place_of u.account r =
      λ r c. (let used = live_in_use u.sizes u.account sound.bounds r (offer_lives u root slot offer rest p w r c) in later.places r used.0 used.1) in (
        offer,
        rest,
        at_since (act.Offer offer) p,
        record {
          last = w.last;
          drafts = drafts_moved u.account a u.drafts slot offer same w.drafts;
          names = w.names;
          place = same offer.root (root_of_offer offer) ∙ w.place;
        },
        on,
      )

module _ (u v : View) (s : Saw u v) where
  pub offered_since : (slot : ℕ) (w : View) → HasOffered v slot w → HasOffered u slot w
  offered_since slot w h = offered_from u s.account s.waited slot w (subst (λ x. HasOffered x slot w) s.after_is h)

  pub missed_since : (w : View) → HasMissed v w → HasMissed u w
  missed_since w h = missed_from u s.account s.waited w (subst (λ x. HasMissed x w) s.after_is h)

  pub to_offer_since : (n handle root slot : ℕ) → IsSound n u → IsToOffer u handle root slot → IsToOffer v handle root slot
  to_offer_since n handle root slot sound h = subst (λ x. IsToOffer x handle root slot) (sym s.after_is) (to_offer_from u s.account s.waited n handle root slot sound h)

-- ---- the way is made free

-- an offer that was seen settled
pub settled_at : (before after : View) (n handle slot k : ℕ) (carried : Bool) → IsSound n before → HasOffer before.sizes before.account before.pin handle slot → outcome_by carried ≡ k →
    HasSeenSettled before slot k after → IsSettledAt after handle slot carried
settled_at before after n handle slot k carried sound has is (s, settled) =
    let later = waited_later n before sound s.account s.waited in
    subst (λ x. IsSettledAt x handle slot carried) (sym s.after_is) (
      record { its = has.its; here = met_still before.account s.account before.pin has.its later.offers has.here; place = has.place; on = has.on; inside = has.inside },
      subst (λ m. HasSettled before.sizes s.account has.its m) (sym is) (settled has.its has.here has.place),
    )

pub offer_met : (v : View) (handle slot : ℕ) (to : (offer : Descriptor) × (p : IsAt v (act.Offer offer)) × (handle_of p.operation.call ≡ handle)) → HasOffer v.sizes v.account v.pin handle slot →
    MeetsOffer v slot
offer_met v handle slot (offer, p, on) has = (offer, p, subst (λ h. HasOffer v.sizes v.account v.pin h slot) (sym on) has)

-- ---- in the loop

pub still_to_offer : (u : View) (handle root slot : ℕ) → IsToOffer u handle root slot → (offer : Descriptor) × (p : IsAt u (act.Offer offer)) × (handle_of p.operation.call ≡ handle)
still_to_offer u handle root slot (offer, rest, p, w, on) = (offer, p, on)

-- what it was told of the word that it has found
pub told_offer : (v : View) (handle slot : ℕ) (found : RootWord) → found ≡ word.Offered slot → (pinned : Pinned) × (v.pin ≡ Some pinned) → TellsRoot v.sizes v.account v.pin handle found →
    HasOffer v.sizes v.account v.pin handle slot
told_offer v handle slot found is (pinned, here) tells = elim (subst (λ w. TellsRoot v.sizes v.account v.pin handle w) is tells) [
  | inl has ↦ has
  | inr free ↦ absurd (none-some pinned (sym free ∙ here))
]

module _ (u v : View) (handle : ℕ) (found : RootWord) (h : HasSeenRoot u handle found v) where
  pub seen_saw : Saw u v
  seen_saw = h.0

  pub seen_tells : TellsRoot v.sizes v.account v.pin handle found
  seen_tells = subst (λ (x : View). TellsRoot x.sizes x.account x.pin handle found) (sym h.0.after_is) h.2
