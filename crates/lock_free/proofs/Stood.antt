-- Which offers stand, and which never will again.
use Rattle.history.specs.declared.calls.Call.{Call}
use Rattle.std.proofs.Common.{◌≡◌, ◌≢◌, ◌==◌, ℕ, ◌<◌, inl, inr, Bool, true, false, List, Contains, Option, Some, None, refl, sym, ap, ◌∙◌, eqb-true, if◌then◌else◌}
use Rattle.std.proofs.lemmas.Bool.{true≢false}
use Rattle.atomic_table.specs.Table as Table
use Rattle.trie_words.specs.declared.roots.RootWord.{RootWord as HandleWord}
use Rattle.trie_words.specs.declared.roots.RootWord.TheVariants as word
use Rattle.history.specs.declared.calls.Access.{Access}
use Rattle.history.specs.declared.calls.Access.TheVariants.{Writable}
use Rattle.machine_model.specs.Acting.{opened_root}
use Rattle.machine_model.specs.Beneath.slot_arena.specs.declared.refs.Ref.{Ref}
use Rattle.machine_model.specs.Beneath.slot_arena.specs.Heaps.{no_ref}
use Rattle.machine_model.specs.declared.roots.Descriptor.{Descriptor}
use Rattle.machine_model.specs.declared.roots.Root.{Root}
use Rattle.machine_model.specs.declared.roots.RootWord.{RootWord}
use Rattle.machine_model.specs.declared.roots.RootWord.TheVariants.{Plain, Offer}
use Rattle.machine_model.specs.States.{State, root_at, word_at, word_of, handle_limit}
use Rattle.machine_model.specs.Swapping.{stands_in}
use Rattle.proof_garbage.specs.Beneath.proof_generations.proofs.Offers.Standing.{stands_as}
use Rattle.lock_free.specs.declared.accounts.Account.{Account}
use Rattle.lock_free.specs.declared.accounts.Known.{Known}
use Rattle.lock_free.specs.declared.rules.View.{View}
use Rattle.lock_free.specs.declared.sizes.Sizes.{Sizes}
use Rattle.lock_free.specs.Accounts.{state_of}
use Rattle.lock_free.specs.Roots.{SaysRoot, fate, undecided, meant, open_with}
use Rattle.lock_free.specs.Rules.{IsKept}
use Rattle.lock_free.proofs.RootFound.{slot_fits, offered_is}

-- ---- what a word says that stands by an offer

abbrev is_offer : RootWord → Bool
is_offer (Offer d) = true
is_offer (Plain r) = false

abbrev offer_in : RootWord → Descriptor → Descriptor
offer_in (Offer d) other = d
offer_in (Plain r) other = other

pub plain_not : (r : Ref) (d : Descriptor) → Plain r ≡ Offer d → ⊥
plain_not r d e = true≢false (sym (ap is_offer e))

pub offer_is : (offer d : Descriptor) → Offer offer ≡ Offer d → offer ≡ d
offer_is offer d e = ap (λ w. offer_in w offer) e

meant_by : (none one : Bool) (offer d : Descriptor) → (if none then Offer offer else (if one then Plain offer.successor else Plain offer.root)) ≡ Offer d → (none ≡ true) × (offer ≡ d)
meant_by true one offer d e = (refl, ap (λ w. offer_in w offer) e)
meant_by false true offer d e = absurd (plain_not offer.successor d e)
meant_by false false offer d e = absurd (plain_not offer.root d e)

pub meant_offer : (n : ℕ) (offer d : Descriptor) → meant n offer ≡ Offer d → (n ≡ undecided) × (offer ≡ d)
meant_offer n offer d e = let both = meant_by (n == 0) (n == 1) offer d e in (eqb-true n 0 both.0, both.1)

opened_not : (offer d : Descriptor) (second : Option Ref) → word_of (Some (opened_root offer second)) ≡ Offer d → ⊥
opened_not offer d (Some r) e = plain_not r d e
opened_not offer d None e = plain_not offer.root d e

opened_by_not : (one : Bool) (offer d : Descriptor) → word_of (if one then Some (opened_root offer offer.second) else None) ≡ Offer d → ⊥
opened_by_not true offer d e = opened_not offer d offer.second e
opened_by_not false offer d e = plain_not no_ref d e

-- an undecided offer of this handle
pub record IsUndecided (account : Account) (words : List ℕ) (handle : ℕ) (d : Descriptor) : Type 0 where
  pub its : Known
  pub here : Contains account.offers its
  pub on : its.handle ≡ handle
  pub stands : fate words its ≡ undecided
  pub offer : its.offer ≡ d

module _ (account : Account) (words : List ℕ) (handle : ℕ) (r : Option Root) (d : Descriptor) (is : word_of r ≡ Offer d) where
  not_none : r ≡ None → ⊥
  not_none none = plain_not no_ref d (sym (ap word_of none) ∙ is)

  not_plain_root : (access : Access) (q : Ref) → r ≡ open_with access (Plain q) → ⊥
  not_plain_root access q plain = plain_not q d (sym (ap word_of plain) ∙ is)

  undecided_by : (w : HandleWord) → SaysRoot account words handle w r → IsUndecided account words handle d
  undecided_by word.Closed h = absurd (not_none h)
  undecided_by word.Reserved h = absurd (not_none h)
  undecided_by (word.Writable slot) h = absurd (not_plain_root _ h.root h.is)
  undecided_by (word.ReadOnly slot) h = absurd (not_plain_root _ h.root h.is)
  undecided_by (word.ClosingWritable slot seat) h = absurd (not_plain_root _ h.root h.is)
  undecided_by (word.ClosingReadOnly slot seat) h = absurd (not_plain_root _ h.root h.is)
  undecided_by (word.Offered slot) h =
      let both = meant_offer (fate words h.its) h.its.offer d (sym (ap word_of h.is) ∙ is) in record { its = h.its; here = h.here; on = h.on; stands = both.0; offer = both.1 }
  undecided_by (word.Opening slot) (inl h) = absurd (opened_by_not (fate words h.its == 1) h.its.offer d (sym (ap word_of h.is) ∙ is))
  undecided_by (word.Opening slot) (inr h) = absurd (not_none h.1)

-- ---- the rule

module _ (sizes : Sizes) (s : Table.State Call View) (kept : IsKept sizes s) where
  abbrev state : State
  state = state_of sizes kept.account

  -- an offer that stands is one of those that were made, and undecided
  pub offer_stands : (handle : ℕ) → handle < handle_limit → (d : Descriptor) → word_at state handle ≡ Offer d → IsUndecided kept.account s.words handle d
  offer_stands handle low d is = let h = kept.roots.means handle low in undecided_by kept.account s.words handle (root_at state handle) d is h.what h.says

  -- an undecided one stands in its handle's word
  pub stands_there : (k : Known) → Contains kept.account.offers k → fate s.words k ≡ undecided → root_at state k.handle ≡ open_with Writable (Offer k.offer)
  stands_there k c stands =
      let p = kept.roots.pending k c stands in
      offered_is sizes kept.account s.words kept.roots k.handle p.low k c (slot_fits sizes s.words kept.range kept.taken k.slot (kept.roots.blocks k c)) p.stands
      ∙ ap (λ n. open_with Writable (meant n k.offer)) stands

  -- and one that is decided stands in none
  pub stands_no_more : (k : Known) → Contains kept.account.offers k → fate s.words k ≢ undecided → (handle : ℕ) → handle < handle_limit → stands_in (word_at state handle) k.offer ≡ false
  stands_no_more k c decided handle low = by (stands_in (word_at state handle) k.offer) refl
    where
      by : (b : Bool) → stands_in (word_at state handle) k.offer ≡ b → b ≡ false
      by false e = refl
      by true e =
          let found = stands_as (word_at state handle) k.offer e in
          let u = offer_stands handle low found.0 found.1 in
          let same : u.its ≡ k = kept.roots.tries u.its k u.here c (ap (λ (d : Descriptor). d.operation) u.offer ∙ found.2) (ap (λ (d : Descriptor). d.attempt) u.offer ∙ found.3) in
          absurd (decided (ap (fate s.words) (sym same) ∙ u.stands))
