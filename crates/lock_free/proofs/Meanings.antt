-- What handles' words mean stays.
use Rattle.std.proofs.Common.{◌≡◌, ◌<◌, ◌==◌, ◌⊎◌, ℕ, inl, inr, false, List, ◌++◌, Contains, slice_index, Option, Some, None, refl, sym, ap, subst, ◌∙◌, append_assoc}
use Rattle.std.proofs.lemmas.Bool.{cases_eq}
use Rattle.std.proofs.lemmas.Option.{none-some, same_Some}
use Rattle.std.specs.Prelude.{option_map}
use Rattle.trie_words.specs.Codes.{root_code, IsRootWord}
use Rattle.trie_words.specs.declared.roots.RootWord.{RootWord as HandleWord}
use Rattle.trie_words.specs.declared.roots.RootWord.TheVariants as word
use Rattle.history.specs.declared.calls.Access.{Access}
use Rattle.history.specs.declared.calls.Access.TheVariants.{Writable}
use Rattle.machine_model.specs.Beneath.slot_arena.specs.declared.refs.Ref.{Ref}
use Rattle.machine_model.specs.declared.operations.Operation.{Operation}
use Rattle.machine_model.specs.declared.roots.Descriptor.{Descriptor}
use Rattle.machine_model.specs.declared.roots.Root.{Root}
use Rattle.machine_model.specs.declared.roots.RootWord.TheVariants.{Plain}
use Rattle.machine_model.specs.declared.steps.Step.{Step}
use Rattle.machine_model.specs.States.{State, operation_of, handle_limit}
use Rattle.lock_free.specs.declared.accounts.Account.{Account}
use Rattle.lock_free.specs.declared.accounts.Known.{Known}
use Rattle.lock_free.specs.declared.rules.View.{View}
use Rattle.lock_free.specs.declared.sizes.Sizes.{Sizes}
use Rattle.lock_free.specs.Accounts.{place_of, HasStood}
use Rattle.lock_free.specs.Roots.{MeansRoot, SaysRoot, SaysPlain, SaysOpening, NoOffer, IsItsTry, AreMarked, IsPending, fate, meant, opened_by, open_with, carried_out}
use Rattle.lock_free.specs.Places.{root_word}
use Rattle.lock_free.specs.Rules.{Reserves}
use Rattle.lock_free.specs.Trying.{Try, try_of, try_at, KeepsTries, as_before, anew}

-- ---- words of handles

-- Roots stand where they stood, of each offer there is said what was said, and a word that names an offer that didn't stand yet names none, or it opens the handle.
module _ (account later : Account) (before after : List ℕ) (handle found : ℕ) (r : Option Root)
    (places : (access : Access) (q : Ref) → r ≡ open_with access (Plain q) → place_of later q ≡ place_of account q)
    (offered : (k : Known) → Contains account.offers k → k.handle ≡ handle → r ≡ open_with Writable (meant (fate before k) k.offer) → Contains later.offers k × (fate after k ≡ fate before k))
    (opening : (k : Known) → Contains account.offers k → k.offer.opens ≡ Some handle → Contains later.offers k × (fate after k ≡ fate before k))
    (none : (slot : ℕ) → found ≡ root_code (word.Opening slot) → IsRootWord (word.Opening slot) → NoOffer account slot → r ≡ None → SaysOpening later after handle slot r ⊎ NoOffer later slot) where
  plain_then : (access : Access) (slot : ℕ) → SaysPlain account access slot r → SaysPlain later access slot r
  plain_then access slot h = record { root = h.root; place = h.place ∙ sym (places access h.root h.is); is = h.is }

  opening_then : (slot : ℕ) → r ≡ None → SaysOpening later after handle slot r ⊎ NoOffer later slot → SaysRoot later after handle (word.Opening slot) r
  opening_then slot closed (inl opens) = inl opens
  opening_then slot closed (inr nothing) = inr (nothing, closed)

  says_then : (w : HandleWord) → IsRootWord w → found ≡ root_code w → SaysRoot account before handle w r → SaysRoot later after handle w r
  says_then word.Closed fits is h = h
  says_then word.Reserved fits is h = h
  says_then (word.Writable slot) fits is h = plain_then _ slot h
  says_then (word.ReadOnly slot) fits is h = plain_then _ slot h
  says_then (word.ClosingWritable slot seat) fits is h = plain_then _ slot h
  says_then (word.ClosingReadOnly slot seat) fits is h = plain_then _ slot h
  says_then (word.Offered slot) fits is h =
      let still = offered h.its h.here h.on h.is in
      record { its = h.its; here = still.0; on = h.on; place = h.place; is = h.is ∙ ap (λ n. open_with Writable (meant n h.its.offer)) (sym still.1) }
  says_then (word.Opening slot) fits is (inl h) =
      let still = opening h.its h.here h.opens in
      inl (record { its = h.its; here = still.0; place = h.place; opens = h.opens; is = h.is ∙ ap (λ n. opened_by n h.its.offer) (sym still.1) })
  says_then (word.Opening slot) fits is (inr h) = opening_then slot h.1 (none slot is fits h.0 h.1)

  pub means_then : MeansRoot account before handle found r → MeansRoot later after handle found r
  means_then h = record { what = h.what; fits = h.fits; code = h.code; says = says_then h.what h.fits h.code h.says }

pub means_kept : (account later : Account) (before after : List ℕ) (handle : ℕ) (r : Option Root) →
    ((access : Access) (q : Ref) → r ≡ open_with access (Plain q) → place_of later q ≡ place_of account q) →
    ((k : Known) → Contains account.offers k → Contains later.offers k × (fate after k ≡ fate before k)) → ((slot : ℕ) → NoOffer account slot → NoOffer later slot) → (found : ℕ) →
    MeansRoot account before handle found r → MeansRoot later after handle found r
means_kept account later before after handle r places offers none found = means_then account later before after handle found r places (λ k c is says. offers k c) (λ k c is. offers k c)
    (λ slot is fits h closed. inr (none slot h))

-- ---- offers that stood

pub stood_still : (sizes : Sizes) (account later : Account) (steps : List Step) → later.steps ≡ account.steps ++ steps → (offer : Descriptor) → HasStood sizes account offer → HasStood sizes later
    offer
stood_still sizes account later steps goes_on offer h = record {
  steps = h.steps;
  more = h.more ++ steps;
  goes_on = goes_on ∙ ap (λ xs. xs ++ steps) h.goes_on ∙ append_assoc h.steps h.more steps;
  handle = h.handle;
  stood = h.stood;
}

-- ---- offers that stand

-- where no word of a handle changes
pub pending_kept : (before after : List ℕ) (k : Known) → ((handle : ℕ) → handle < handle_limit → slice_index after (root_word handle) ≡ slice_index before (root_word handle)) → IsPending before
    k → IsPending after k
pending_kept before after k same h = record {
  low = h.low;
  stands = same k.handle h.low ∙ h.stands;
  opens = λ opened e. (let x = h.opens opened e in (x.0, same opened x.0 ∙ x.1));
}

-- ---- tries

by_try : (o : Operation) (x : Option Operation) → option_map try_of x ≡ Some (try_of o) → (p : Operation) × (x ≡ Some p) × (try_of p ≡ try_of o)
by_try o None e = absurd (none-some (try_of o) e)
by_try o (Some p) e = (p, refl, same_Some (try_of p) (try_of o) e)

module _ (before after : State) (a : ℕ) (same : try_at after a ≡ try_at before a) where
  pub ran_at : (o : Operation) → operation_of after a ≡ Some o → (p : Operation) × (operation_of before a ≡ Some p) × (try_of p ≡ try_of o)
  ran_at o e = by_try o (operation_of before a) (sym same ∙ ap (option_map try_of) e)

  runs_at : (o : Operation) → operation_of before a ≡ Some o → (p : Operation) × (operation_of after a ≡ Some p) × (try_of p ≡ try_of o)
  runs_at o e = by_try o (operation_of after a) (same ∙ ap (option_map try_of) e)

  pub unmarked_at : ((o : Operation) → operation_of after a ≡ Some o → o.is_marked ≡ false) → (o : Operation) → operation_of before a ≡ Some o → o.is_marked ≡ false
  unmarked_at h o e = let p = runs_at o e in ap (λ (t : Try). t.is_marked) (sym p.2) ∙ h p.0 p.1

  pub unmarked_then : ((o : Operation) → operation_of before a ≡ Some o → o.is_marked ≡ false) → (o : Operation) → operation_of after a ≡ Some o → o.is_marked ≡ false
  unmarked_then h o e = let p = ran_at o e in ap (λ (t : Try). t.is_marked) (sym p.2) ∙ h p.0 p.1

  pub marked_at : (k : Known) (fate_then fate_now : ℕ) → fate_then ≡ fate_now → ((p : Operation) → operation_of before a ≡ Some p → IsItsTry p k.offer → p.is_marked ≡ (fate_now == carried_out)) →
      (o : Operation) → operation_of after a ≡ Some o → IsItsTry o k.offer → o.is_marked ≡ (fate_then == carried_out)
  marked_at k fate_then fate_now fates h o e its =
      let p = ran_at o e in
      ap (λ (t : Try). t.is_marked) (sym p.2) ∙ h p.0 p.1 (record { its = ap (λ (t : Try). t.id) p.2 ∙ its.its; now = ap (λ (t : Try). t.attempt) p.2 ∙ its.now })
      ∙ ap (λ n. n == carried_out) (sym fates)

module _ (offers : List Known) (before after : State) where
  -- what runs then ran before
  pub ran : KeepsTries offers before after → (a : ℕ) (o : Operation) → operation_of after a ≡ Some o → (p : Operation) × (operation_of before a ≡ Some p)
  ran (as_before tries) a o e = let p = ran_at before after a (tries a) o e in (p.0, p.1)
  ran (anew actor h) a o e = elim (cases_eq a actor) [
    | inl own ↦ (h.was, ap (operation_of before) own ∙ h.ran)
    | inr other ↦ (let p = ran_at before after a (h.others a other) o e in (p.0, p.1))
  ]

  pub reserved : KeepsTries offers before after → (v : View) (handle : ℕ) → Reserves after v handle → Reserves before v handle
  reserved (as_before tries) v handle h = (h.0, unmarked_at before after v.actor (tries v.actor) h.1)
  reserved (anew actor h) v handle r = (
    r.0,
    elim (cases_eq v.actor actor) [
      | inl own ↦ (λ o e. ap (λ (x : Operation). x.is_marked) (same_Some o h.was (sym e ∙ ap (operation_of before) own ∙ h.ran)) ∙ h.unmarked)
      | inr other ↦ unmarked_at before after v.actor (h.others v.actor other) r.1
    ],
  )

  -- who has reserved a number has it still
  pub reserves_on : KeepsTries offers before after → (v : View) (handle : ℕ) → Reserves before v handle → Reserves after v handle
  reserves_on (as_before tries) v handle h = (h.0, unmarked_then before after v.actor (tries v.actor) h.1)
  reserves_on (anew actor h) v handle r = (
    r.0,
    elim (cases_eq v.actor actor) [
      | inl own ↦ (λ o e. ap (λ (x : Operation). x.is_marked) (same_Some o h.now (sym e ∙ ap (operation_of after) own ∙ h.runs)) ∙ h.still_unmarked)
      | inr other ↦ unmarked_then before after v.actor (h.others v.actor other) r.1
    ],
  )

  pub marks_kept : KeepsTries offers before after → (words later : List ℕ) → ((k : Known) → Contains offers k → fate later k ≡ fate words k) → AreMarked before words offers → AreMarked after later
      offers
  marks_kept (as_before tries) words later fates h k c a o e its = marked_at before after a (tries a) k (fate later k) (fate words k) (fates k c) (h k c a) o e its
  marks_kept (anew actor t) words later fates h k c a o e its = elim (cases_eq a actor) [
    | inl own ↦ absurd (t.fresh k c (subst (λ x. IsItsTry x k.offer) (same_Some o t.now (sym e ∙ ap (operation_of after) own ∙ t.runs)) its))
    | inr other ↦ marked_at before after a (t.others a other) k (fate later k) (fate words k) (fates k c) (h k c a) o e its
  ]

pub no_tries : (offers : List Known) (state : State) → KeepsTries offers state state
no_tries offers state = as_before (λ a. refl)
