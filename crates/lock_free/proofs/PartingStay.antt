-- What is known of offers stays so, where no word names one that stands which it didn't name before.
use Rattle.std.proofs.Common.{◌≡◌, ◌≢◌, ◌<◌, ℕ, inl, inr, ◌⊎◌, List, [], Contains, Option, Some, None, slice_index, refl, sym, ap, subst, ◌∙◌, arith}
use Rattle.std.proofs.lemmas.Option.{none-some}
use Rattle.std.proofs.lemmas.Bool.{cases_eq}
use Rattle.trie_words.specs.Codes.{root_code, root_of, IsRootWord}
use Rattle.trie_words.specs.declared.roots.RootWord.{RootWord as HandleWord}
use Rattle.trie_words.specs.declared.roots.RootWord.TheVariants as word
use Rattle.machine_model.specs.States.{handle_limit}
use Rattle.lock_free.specs.declared.accounts.Account.{Account}
use Rattle.lock_free.specs.declared.accounts.Known.{Known}
use Rattle.lock_free.specs.declared.accounts.Parted.{Parted}
use Rattle.lock_free.specs.declared.accounts.OwnOffer.{OwnOffer}
use Rattle.lock_free.specs.declared.accounts.PartedSlot.{PartedSlot}
use Rattle.lock_free.specs.declared.rules.Pinned.{Pinned}
use Rattle.lock_free.specs.Parting.{AreParted, IsParted, KnowsOffers, NamesOffer, OwnStands, IsMet}
use Rattle.lock_free.specs.Places.{root_word}
use Rattle.lock_free.proofs.RootCodes.{kind, root_back}
use Rattle.lock_free.specs.Rules.{RootsStand}
use Rattle.lock_free.specs.Accounts.{HasStood}
use Rattle.lock_free.specs.declared.sizes.Sizes.{Sizes}

-- a word names no offer that stands which it didn't name before
pub record NamesLess (offers : List Known) (words words_then : List ℕ) : Type 0 where
  pub offered : (k : Known) → Contains offers k → (handle : ℕ) → handle < handle_limit → IsRootWord (word.Offered k.slot) →
      slice_index words_then (root_word handle) ≡ root_code (word.Offered k.slot) → slice_index words (root_word handle) ≡ root_code (word.Offered k.slot)
  pub opening : (k : Known) → Contains offers k → (handle : ℕ) → handle < handle_limit → IsRootWord (word.Opening k.slot) →
      slice_index words_then (root_word handle) ≡ root_code (word.Opening k.slot) → slice_index words (root_word handle) ≡ root_code (word.Opening k.slot)

-- where each has what it had
pub names_same : (offers : List Known) (words words_then : List ℕ) → ((handle : ℕ) → handle < handle_limit → slice_index words_then (root_word handle) ≡ slice_index words (root_word handle)) →
    NamesLess offers words words_then
names_same offers words words_then same = record { offered = λ k c handle low fits e. sym (same handle low) ∙ e; opening = λ k c handle low fits e. sym (same handle low) ∙ e }

-- what is said of each seat then
abbrev pub OffersStay : Account → Account → List ℕ → List ℕ → Type 0
OffersStay before after words words_then =
    (actor : ℕ) (pin : Option Pinned) (own : Option OwnOffer) (slots : List PartedSlot) → KnowsOffers before.offered before.offers before.parted words actor pin own slots →
    KnowsOffers after.offered after.offers after.parted words_then actor pin own slots

module _ (offered offers : List Known) (parted : List Parted) (words words_then : List ℕ) (less : NamesLess offers words words_then) where
  pub parted_still : AreParted offered offers parted words → AreParted offered offers parted words_then
  parted_still h = record { known = h.known; left = h.left; unnamed = λ k c p handle low names. h.unnamed k c p handle low (before k c handle low names) }
    where
      before : (k : Known) → Contains offers k → (handle : ℕ) → handle < handle_limit → NamesOffer (slice_index words_then (root_word handle)) k.slot →
          NamesOffer (slice_index words (root_word handle)) k.slot
      before k c handle low (inl n) = inl (n.0, less.offered k c handle low n.0 n.1)
      before k c handle low (inr n) = inr (n.0, less.opening k c handle low n.0 n.1)

  pub own_stands_still : (actor : ℕ) (o : OwnOffer) → OwnStands offers parted words actor o → OwnStands offers parted words_then actor o
  own_stands_still actor o h = record {
    stands = h.stands;
    maker = h.maker;
    unparted = h.unparted;
    unnamed = λ is low fits e. h.unnamed is low fits (less.offered o.known h.stands o.known.handle low fits e);
    unopening = λ is handle opens low fits e. h.unopening is handle opens low fits (less.opening o.known h.stands handle low fits e);
  }

  pub knows_still : (actor : ℕ) (pin : Option Pinned) (own : Option OwnOffer) (slots : List PartedSlot) → KnowsOffers offered offers parted words actor pin own slots →
      KnowsOffers offered offers parted words_then actor pin own slots
  knows_still actor pin own slots h = record {
    grown = h.grown;
    early = h.early;
    met = h.met;
    its_own = λ o is. own_stands_still actor o (h.its_own o is);
    waiting = h.waiting;
    once = h.once;
  }

-- who isn't pinned may rely on none
pub knows_unpinned : (offered offers : List Known) (parted : List Parted) (words : List ℕ) (actor : ℕ) (pin : Option Pinned) (own : Option OwnOffer) (slots : List PartedSlot) →
    KnowsOffers offered offers parted words actor pin own slots → KnowsOffers offered offers parted words actor None own slots
knows_unpinned offered offers parted words actor pin own slots h = record {
  grown = λ pinned is. absurd (none-some pinned is);
  early = λ pinned is. absurd (none-some pinned is);
  met = λ pinned is. absurd (none-some pinned is);
  its_own = h.its_own;
  waiting = h.waiting;
  once = h.once;
}

-- who knows of none
pub knows_nothing : (offered offers : List Known) (parted : List Parted) (words : List ℕ) (actor : ℕ) → KnowsOffers offered offers parted words actor None None []
knows_nothing offered offers parted words actor = record {
  grown = λ pinned is. absurd (none-some pinned is);
  early = λ pinned is. absurd (none-some pinned is);
  met = λ pinned is. absurd (none-some pinned is);
  its_own = λ o is. absurd (none-some o is);
  waiting = λ y c. absurd (let low = c.1 in omega (arith, low));
  once = tt;
}

-- once all that were parted are let go of, and its own with them
pub knows_spent : (offered offers : List Known) (parted : List Parted) (words : List ℕ) (actor : ℕ) (pin : Option Pinned) (own : Option OwnOffer) (slots : List PartedSlot) →
    KnowsOffers offered offers parted words actor pin own slots → KnowsOffers offered offers parted words actor pin None []
knows_spent offered offers parted words actor pin own slots h = record {
  grown = h.grown;
  early = h.early;
  met = h.met;
  its_own = λ o is. absurd (none-some o is);
  waiting = λ y c. absurd (let low = c.1 in omega (arith, low));
  once = tt;
}

-- and once no offer stands any more
pub knows_forgotten : (offered offers : List Known) (parted : List Parted) (words : List ℕ) (actor : ℕ) (pin : Option Pinned) (own : Option OwnOffer) (slots : List PartedSlot) →
    KnowsOffers offered offers parted words actor pin own slots → KnowsOffers [] [] parted words actor pin None []
knows_forgotten offered offers parted words actor pin own slots h = record {
  grown = h.grown;
  early = h.early;
  met = λ pinned is k c. absurd (let low = c.1 in omega (arith, low));
  its_own = λ o is. absurd (none-some o is);
  waiting = λ y c. absurd (let low = c.1 in omega (arith, low));
  once = tt;
}

-- who pins itself now may rely on those that aren't parted
pub knows_pinning : (account : Account) (words : List ℕ) (actor : ℕ) (pinned : Pinned) (own : Option OwnOffer) (slots : List PartedSlot) → pinned.account ≡ account →
    AreParted account.offered account.offers account.parted words → KnowsOffers account.offered account.offers account.parted words actor None own slots →
    KnowsOffers account.offered account.offers account.parted words actor (Some pinned) own slots
knows_pinning account words actor pinned own slots is all h = record {
  grown = λ p same x c. subst (λ (a : Account). Contains a.parted x) (its p same) c;
  early = λ p same x c. inr (subst (λ (a : Account). Contains a.parted x) (sym (its p same)) c);
  met = λ p same k c none. elim (all.left k c) [
    | inl stands ↦ stands
    | inr gone ↦ absurd (none (subst (λ (a : Account). IsParted a.parted k) (sym (its p same)) gone))
  ];
  its_own = h.its_own;
  waiting = h.waiting;
  once = h.once;
}
  where
    account_of : Option Pinned → Account
    account_of None = account
    account_of (Some p) = p.account

    its : (p : Pinned) → Some pinned ≡ Some p → p.account ≡ account
    its p same = ap (λ (o : Option Pinned). account_of o) (sym same) ∙ is

-- ---- words of handles that are written

-- where one word is another one, which names none of them
pub names_over : (offers : List Known) (words words_then : List ℕ) (o : ℕ) (w : HandleWord) → IsRootWord w →
    ((g : ℕ) → g ≢ o → slice_index words_then (root_word g) ≡ slice_index words (root_word g)) → slice_index words_then (root_word o) ≡ root_code w →
    ((k : Known) → Contains offers k → (w ≢ word.Offered k.slot) × (w ≢ word.Opening k.slot)) → NamesLess offers words words_then
names_over offers words words_then o w fits beside here new = record {
  offered = λ k c g low in_range e. elim (cases_eq g o) [
    | inl same ↦ absurd ((new k c).0 (its (word.Offered k.slot) in_range g same e))
    | inr differs ↦ sym (beside g differs) ∙ e
  ];
  opening = λ k c g low in_range e. elim (cases_eq g o) [
    | inl same ↦ absurd ((new k c).1 (its (word.Opening k.slot) in_range g same e))
    | inr differs ↦ sym (beside g differs) ∙ e
  ];
}
  where
    its : (x : HandleWord) → IsRootWord x → (g : ℕ) → g ≡ o → slice_index words_then (root_word g) ≡ root_code x → w ≡ x
    its x in_range g same e =
        sym (root_back w fits) ∙ ap root_of (sym here ∙ ap (λ n. slice_index words_then (root_word n)) (sym same) ∙ e) ∙ root_back x in_range

-- or is that of a handle that stands by no offer
pub names_kind : (offers : List Known) (words words_then : List ℕ) (o : ℕ) (w : HandleWord) → IsRootWord w →
    ((g : ℕ) → g ≢ o → slice_index words_then (root_word g) ≡ slice_index words (root_word g)) → slice_index words_then (root_word o) ≡ root_code w → (kind w ≡ 3 → ⊥) → (kind w ≡ 4 → ⊥) →
    NamesLess offers words words_then
names_kind offers words words_then o w fits beside here offered opening =
    names_over offers words words_then o w fits beside here (λ k c. (λ e. offered (ap kind e), λ e. opening (ap kind e)))

-- an offer that a word names isn't parted: so a seat that is pinned may rely on it
module _ (account : Account) (words : List ℕ) (all : AreParted account.offered account.offers account.parted words) (actor : ℕ) (k : Known) (stands : Contains account.offers k) (handle : ℕ)
    (low : handle < handle_limit) (names : NamesOffer (slice_index words (root_word handle)) k.slot) where
  pub met_named : (pin : Option Pinned) (own : Option OwnOffer) (slots : List PartedSlot) → KnowsOffers account.offered account.offers account.parted words actor pin own slots → (pinned : Pinned) →
      pin ≡ Some pinned → IsMet account pin k
  met_named pin own slots h pinned is = record {
    pinned = pinned;
    is = is;
    here = all.known k stands;
    unparted = λ p. all.unnamed k stands (p.0, h.grown pinned is p.0 p.1, p.2) handle low names;
  }

  pub met_or_not : (pin : Option Pinned) (own : Option OwnOffer) (slots : List PartedSlot) → KnowsOffers account.offered account.offers account.parted words actor pin own slots →
      IsMet account pin k ⊎ (pin ≡ None)
  met_or_not None own slots h = inr refl
  met_or_not (Some pinned) own slots h = inl (met_named (Some pinned) own slots h pinned refl)

-- what it may rely on it may rely on still
pub met_still : (first account : Account) (pin : Option Pinned) (k : Known) → ((x : Known) → Contains first.offered x → Contains account.offered x) → IsMet first pin k → IsMet account pin k
met_still first account pin k more h = record { pinned = h.pinned; is = h.is; here = more k h.here; unparted = h.unparted }

-- each that stands stood once
pub standing_stood : (sizes : Sizes) (account : Account) (words : List ℕ) → RootsStand sizes account words → (k : Known) → Contains account.offers k → HasStood sizes account k.offer
standing_stood sizes account words roots k c = roots.stood k (roots.parting.known k c)
