-- What a handle's root is where its word says this.
use Rattle.std.proofs.Common.{◌≡◌, ◌*◌, ◌⊎◌, ◌^◌, ℕ, ◌<◌, inl, inr, Bool, true, false, List, Contains, slice_index, Option, Some, None, refl, sym, ap, subst, ◌∙◌, arith}
use Rattle.trie_words.specs.Codes.{root_code, IsRootWord}
use Rattle.trie_words.specs.declared.roots.RootWord.{RootWord as HandleWord}
use Rattle.trie_words.specs.declared.roots.RootWord.TheVariants as word
use Rattle.history.specs.declared.calls.Access.{Access}
use Rattle.history.specs.declared.calls.Access.TheVariants.{Writable}
use Rattle.machine_model.specs.Beneath.slot_arena.specs.declared.refs.Ref.{Ref}
use Rattle.machine_model.specs.declared.roots.Descriptor.{Descriptor}
use Rattle.std.proofs.lemmas.Bool.{true≢false}
use Rattle.machine_model.specs.declared.roots.Root.{Root}
use Rattle.machine_model.specs.declared.roots.RootWord.{RootWord}
use Rattle.machine_model.specs.declared.roots.RootWord.TheVariants.{Plain, Offer}
use Rattle.machine_model.specs.States.{root_at, handle_limit}
use Rattle.lock_free.specs.declared.accounts.Account.{Account}
use Rattle.lock_free.specs.declared.accounts.Known.{Known}
use Rattle.lock_free.specs.declared.sizes.Sizes.{Sizes}
use Rattle.lock_free.specs.Accounts.{state_of}
use Rattle.lock_free.specs.Places.{AreSizes, HaveTaken, IsTaken, root_word}
use Rattle.lock_free.specs.Roots.{MeansRoot, SaysRoot, SaysOpening, NoOffer, fate, meant, opened_by, open_with}
use Rattle.lock_free.specs.Rules.{RootsStand}
use Rattle.lock_free.proofs.Geometry.{inside}
use Rattle.lock_free.proofs.RootCodes.{same_word}

pub not_plain : (d : Descriptor) (access : Access) (r : Ref) → open_with Writable (Offer d) ≡ open_with access (Plain r) → ⊥
not_plain d access r e = true≢false (ap is_offer e)
  where
    offers_in : RootWord → Bool
    offers_in (Offer x) = true
    offers_in (Plain x) = false

    is_offer : Option Root → Bool
    is_offer None = false
    is_offer (Some x) = offers_in x.word

-- the name of an offer's slot is in range
pub slot_fits : (sizes : Sizes) (words : List ℕ) → AreSizes sizes → HaveTaken sizes words → (slot : ℕ) → IsTaken sizes words 1 slot → slot < 2 ^ 27
slot_fits sizes words range have slot taken =
    let within = range.within in
    let is = inside sizes words have 1 slot (2 * slot) (omega arith) taken (record { low = omega arith; high = omega arith }) in
    omega (arith, within, is)

pub says_of : (account : Account) (words : List ℕ) (handle found : ℕ) (r : Option Root) → MeansRoot account words handle found r → (w : HandleWord) → IsRootWord w → found ≡ root_code w → SaysRoot
    account words handle w r
says_of account words handle found r h w fits is = subst (λ x. SaysRoot account words handle x r) (same_word h.what w h.fits fits (sym h.code ∙ is)) h.says

module _ (sizes : Sizes) (account : Account) (words : List ℕ) (roots : RootsStand sizes account words) (handle : ℕ) (low : handle < handle_limit) where
  abbrev root : Option Root
  root = root_at (state_of sizes account) handle

  abbrev found : ℕ
  found = slice_index words (root_word handle)

  pub said : (w : HandleWord) → IsRootWord w → found ≡ root_code w → SaysRoot account words handle w root
  said = says_of account words handle found root (roots.means handle low)

  pub offered_is : (k : Known) → Contains account.offers k → k.slot < 2 ^ 27 → found ≡ root_code (word.Offered k.slot) → root ≡ open_with Writable (meant (fate words k) k.offer)
  offered_is k c fits is =
      let h = said (word.Offered k.slot) fits is in
      h.is ∙ ap (λ (x : Known). open_with Writable (meant (fate words x) x.offer)) (roots.single h.its k h.here c (sym h.place))

  pub opening_is : (k : Known) → Contains account.offers k → k.slot < 2 ^ 27 → found ≡ root_code (word.Opening k.slot) → (k.offer.opens ≡ Some handle) × (root ≡ opened_by (fate words k) k.offer)
  opening_is k c fits is = by (said (word.Opening k.slot) fits is)
    where
      by : SaysOpening account words handle k.slot root ⊎ (NoOffer account k.slot × (root ≡ None)) → (k.offer.opens ≡ Some handle) × (root ≡ opened_by (fate words k) k.offer)
      by (inl h) =
          let its = roots.single h.its k h.here c (sym h.place) in
          (ap (λ (x : Known). x.offer.opens) (sym its) ∙ h.opens, h.is ∙ ap (λ (x : Known). opened_by (fate words x) x.offer) its)
      by (inr h) = absurd (h.0 k c refl)

  -- a word that names an offer that doesn't stand yet
  pub later_is : (slot : ℕ) → slot < 2 ^ 27 → found ≡ root_code (word.Opening slot) → NoOffer account slot → root ≡ None
  later_is slot fits is nothing = by (said (word.Opening slot) fits is)
    where
      by : SaysOpening account words handle slot root ⊎ (NoOffer account slot × (root ≡ None)) → root ≡ None
      by (inl h) = absurd (nothing h.its h.here (sym h.place))
      by (inr h) = h.1
