-- An offer comes to stand that never stood: no seat may have forgotten it, and its seat has it as its own.
use Rattle.std.proofs.Common.{ℕ, inl, inr, is_some, List, ◌∷◌, Contains, Option, Some, refl, sym, ap, subst, ◌∙◌}
use Rattle.std.proofs.lemmas.Bool.{false≢true}
use Rattle.std.proofs.lemmas.Option.{same_Some}
use Rattle.lock_free.specs.declared.accounts.Account.{Account}
use Rattle.lock_free.specs.declared.accounts.Known.{Known}
use Rattle.lock_free.specs.declared.accounts.Parted.{Parted}
use Rattle.lock_free.specs.declared.accounts.OwnOffer.{OwnOffer}
use Rattle.lock_free.specs.declared.accounts.PartedSlot.{PartedSlot}
use Rattle.lock_free.specs.declared.rules.Pinned.{Pinned}
use Rattle.lock_free.specs.declared.rules.View.{View}
use Rattle.lock_free.specs.declared.sizes.Sizes.{Sizes}
use Rattle.lock_free.specs.Offering.{own_offer}
use Rattle.lock_free.specs.Parting.{AreParted, HasParted, IsParted, KnowsOffers, OwnStands}
use Rattle.lock_free.specs.Rules.{IsSeat, Standing}
use Rattle.lock_free.proofs.PartingStay.{NamesLess, knows_still, parted_still}
use Rattle.lock_free.proofs.Pools.{first_or_more, first_there, more_there}

module _ (offered offers : List Known) (parted : List Parted) (words words_then : List ℕ) (less : NamesLess offers words words_then) (new : Known) (unparted : IsParted parted new → ⊥) where
  pub parted_more : AreParted offered offers parted words → AreParted (new ∷ offered) (new ∷ offers) parted words_then
  parted_more h = record {
    known = λ k c. elim (first_or_more new offers k c) [
      | inl is_new ↦ subst (Contains (new ∷ offered)) (sym is_new) (first_there new offered)
      | inr old ↦ more_there new offered k (h.known k old)
    ];
    left = λ k c. elim (first_or_more new offered k c) [
      | inl is_new ↦ inl (subst (Contains (new ∷ offers)) (sym is_new) (first_there new offers))
      | inr old ↦ elim (h.left k old) [ inl stands ↦ inl (more_there new offers k stands) | inr gone ↦ inr gone ]
    ];
    unnamed = λ k c p handle low names. elim (first_or_more new offers k c) [
      | inl is_new ↦ unparted (subst (IsParted parted) is_new p)
      | inr old ↦ (parted_still offered offers parted words words_then less h).unnamed k old p handle low names
    ];
  }

  own_more : (actor : ℕ) (o : OwnOffer) → OwnStands offers parted words_then actor o → OwnStands (new ∷ offers) parted words_then actor o
  own_more actor o h = record {
    stands = more_there new offers o.known h.stands;
    maker = h.maker;
    unparted = h.unparted;
    unnamed = h.unnamed;
    unopening = h.unopening;
  }

  pub waiting_more : (actor : ℕ) (y : PartedSlot) → HasParted offers parted actor y → HasParted (new ∷ offers) parted actor y
  waiting_more actor y h = record { its = h.its; here = h.here; stands = more_there new offers h.its.known h.stands; place = h.place; maker = h.maker; stamp = h.stamp }

  pub knows_more : (actor : ℕ) (pin : Option Pinned) (own : Option OwnOffer) (slots : List PartedSlot) → KnowsOffers offered offers parted words actor pin own slots →
      KnowsOffers (new ∷ offered) (new ∷ offers) parted words_then actor pin own slots
  knows_more actor pin own slots first =
      let h = knows_still offered offers parted words words_then less actor pin own slots first in
      record {
        grown = h.grown;
        early = h.early;
        met = λ pinned is k c none. elim (first_or_more new offered k c) [
          | inl is_new ↦ subst (Contains (new ∷ offers)) (sym is_new) (first_there new offers)
          | inr old ↦ more_there new offers k (h.met pinned is k old none)
        ];
        its_own = λ o is. own_more actor o (h.its_own o is);
        waiting = λ y c. waiting_more actor y (h.waiting y c);
        once = h.once;
      }

  new_own : OwnStands (new ∷ offers) parted words_then new.maker (own_offer new)
  new_own = record {
    stands = first_there new offers;
    maker = refl;
    unparted = unparted;
    unnamed = λ is. absurd (false≢true (sym is));
    unopening = λ is handle opens. absurd (false≢true (sym is ∙ ap is_some opens));
  }

  -- and of the seat that has made it
  pub knows_own : (pin : Option Pinned) (own : Option OwnOffer) (slots : List PartedSlot) → KnowsOffers offered offers parted words new.maker pin own slots →
      KnowsOffers (new ∷ offered) (new ∷ offers) parted words_then new.maker pin (Some (own_offer new)) slots
  knows_own pin own slots first =
      let h = knows_more new.maker pin own slots first in
      record {
        grown = h.grown;
        early = h.early;
        met = h.met;
        its_own = λ o is. subst (OwnStands (new ∷ offers) parted words_then new.maker) (same_Some (own_offer new) o is) new_own;
        waiting = h.waiting;
        once = h.once;
      }

-- a seat with another offer of its own
pub seat_offering : (sizes : Sizes) (account : Account) (stands : Standing) (words : List ℕ) (v : View) (own : Option OwnOffer) → IsSeat sizes account stands words v →
    KnowsOffers account.offered account.offers account.parted words v.actor v.pin own v.pool.parted → IsSeat sizes account stands words (record v { offer = own })
seat_offering sizes account stands words v own h knows = record {
  same = h.same;
  low = h.low;
  top = h.top;
  most = h.most;
  waited = h.waited;
  counts = h.counts;
  rested = h.rested;
  rests = h.rests;
  pinned = h.pinned;
  pinned_idle = h.pinned_idle;
  retired = h.retired;
  entered = h.entered;
  calls = h.calls;
  opens = h.opens;
  reserves = h.reserves;
  opening = λ handle slot o n. (let y = h.opening handle slot o n in record { low = y.low; fits = y.fits; is = y.is; free = y.free });
  spare = h.spare;
  once = h.once;
  drafts = h.drafts;
  plain = h.plain;
  offering = knows;
}

-- ---- of each it is so, also of the new one

pub each_more : (P : Known → Type 0) (new : Known) (offers : List Known) → P new → ((k : Known) → Contains offers k → P k) → (k : Known) → Contains (new ∷ offers) k → P k
each_more P new offers first all k c = elim (first_or_more new offers k c) [
  | inl is_new ↦ subst P (sym is_new) first
  | inr old ↦ all k old
]
