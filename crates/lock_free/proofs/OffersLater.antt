-- What a seat knows of offers and of roots that stood stays so.
use Rattle.std.proofs.Common.{◌≡◌, ◌*◌, ◌+◌, ◌≤◌, ℕ, sym, ap, subst, ◌∙◌}
use Rattle.machine_model.specs.Beneath.slot_arena.specs.declared.refs.Ref.{Ref}
use Rattle.machine_model.specs.Beneath.slot_arena.specs.Heaps.{with_main_word}
use Rattle.lock_free.specs.declared.accounts.Known.{Known}
use Rattle.lock_free.specs.declared.rules.View.{View}
use Rattle.lock_free.specs.Accounts.{WasRoot}
use Rattle.lock_free.specs.Fates.{HasSettled}
use Rattle.lock_free.specs.HandleWords.{HasOffer, HasOpening}
use Rattle.lock_free.specs.Passing.{Later}
use Rattle.lock_free.specs.Places.{words_in, words_of}
use Rattle.lock_free.specs.RootWords.{IsRootAt}
use Rattle.lock_free.proofs.Fates.{settled_still}
use Rattle.lock_free.proofs.OneStep.Roots.{reached_still}
use Rattle.lock_free.proofs.PartingStay.{met_still}
use Rattle.lock_free.specs.Parting.{IsMet}

module _ (v w : View) (l : Later v w) where
  pub sizes_same : w.sizes ≡ v.sizes
  sizes_same = ap (λ (x : View). x.sizes) l.is

  pub pin_same : w.pin ≡ v.pin
  pin_same = ap (λ (x : View). x.pin) l.is

  pub met_later : (k : Known) → IsMet v.account v.pin k → IsMet w.account w.pin k
  met_later k h = subst (λ p. IsMet w.account p k) (sym pin_same) (met_still v.account w.account v.pin k l.offers h)

  abbrev pub offer_later : (handle slot : ℕ) → HasOffer v.sizes v.account v.pin handle slot → HasOffer w.sizes w.account w.pin handle slot
  offer_later handle slot h = record {
    its = h.its;
    here = met_later h.its h.here;
    place = h.place;
    on = h.on;
    inside = subst (λ z. 2 * slot + words_in 1 ≤ words_of z) (sym sizes_same) h.inside;
  }

  abbrev pub opening_later : (handle slot : ℕ) → HasOpening v.sizes v.account v.pin handle slot → HasOpening w.sizes w.account w.pin handle slot
  opening_later handle slot h = record {
    its = h.its;
    here = met_later h.its h.here;
    place = h.place;
    opens = h.opens;
    inside = subst (λ z. 2 * slot + words_in 1 ≤ words_of z) (sym sizes_same) h.inside;
  }

  pub settled_later : (k : Known) (n : ℕ) → HasSettled v.sizes v.account k n → HasSettled w.sizes w.account k n
  settled_later k n h = subst (λ z. HasSettled z w.account k n) (sym sizes_same) (settled_still v.sizes v.account w.account l.goes_on.0 l.goes_on.1 k n h)

  pub root_later : (r : Ref) (name : ℕ) → IsRootAt v r name → IsRootAt w r name
  root_later r name h =
      let x = l.nodes r h.slot h.used in
      record {
        place = l.places r h.slot h.used ∙ h.place;
        slot = x.0;
        used = x.1;
        generation = h.generation;
        main = x.2.0;
        is_link = x.2.1 ∙ ap (with_main_word x.2.0) h.is_link;
        reached = subst (λ z. WasRoot z w.account r) (sym sizes_same) (reached_still v.sizes v.account w.account l.goes_on.0 l.goes_on.1 r h.reached);
      }
