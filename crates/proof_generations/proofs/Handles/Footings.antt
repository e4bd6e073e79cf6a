-- Which handles are open after an action, of which kind and over which root: an action leaves that, but where it carries an offer out.
use Rattle.std.proofs.Common.{◌≡◌, ℕ, ◌==◌, Bool, true, false, cond, inl, inr, ◌⊎◌, List, set, get_or, Option, Some, None, refl, sym, ap, ◌∙◌, subst, eqb-true}
use Rattle.std.proofs.lemmas.Bool.{cases_eq, true≢false, false≢true, and_from, and_parts}
use Rattle.std.proofs.lemmas.List.{get_or-set_same}
use Rattle.std.proofs.lemmas.Option.{none-some, same_Some}
use Rattle.proof_generations.specs.Vocabulary.{Ref, Action, Descriptor, Root, RootWord, Plain, Offer, State, root_at, word_of, word_at, root_of, rewritten, with_word, stands_in, is_plain}
use Rattle.proof_generations.specs.Vocabulary.{is_carried_out, acted, carried_out, opened, opened_root, new_root_taken, if_changed}
use Rattle.proof_generations.specs.Beneath.machine_model.specs.declared.actions.Action.TheVariants as act
use Rattle.proof_generations.specs.Beneath.machine_model.proofs.Found.{found_elsewhere, found_here, found_within}
use Rattle.proof_generations.specs.Laws.Roots.{settles}

-- the action carries this offer out
pub record ActionCarriesOut (st : State) (at : ℕ) (action : Action) (offer : Descriptor) : Type 0 where
  pub main : Ref
  pub is_it : action ≡ act.Complete offer main
  pub carried : is_carried_out (word_at st at) offer main ≡ true

-- it carries out one alone
pub one_carried : (st : State) (at : ℕ) (action : Action) (offer other : Descriptor) → ActionCarriesOut st at action offer → ActionCarriesOut st at action other → other ≡ offer
one_carried st at action offer other c d = let both : act.Complete other d.main ≡ act.Complete offer c.main = sym d.is_it ∙ c.is_it in cc both

-- a handle that is open after the action was so before, or is swapped or opened by an offer that is carried out
pub data RootFrom (st : State) (at : ℕ) (action : Action) (handle : ℕ) (now : Root) : Type 0 where
  stood : (root : Root) → root_at st handle ≡ Some root → now.access ≡ root.access → root_of now.word ≡ root_of root.word →
      ((offer : Descriptor) → ActionCarriesOut st at action offer → handle ≡ at → ⊥) → RootFrom st at action handle now
  swapped : (root : Root) (offer : Descriptor) → ActionCarriesOut st at action offer → handle ≡ at → root_at st at ≡ Some root → now ≡ record root { word = Plain offer.successor } →
      RootFrom st at action handle now
  newly : (offer : Descriptor) (n : ℕ) → ActionCarriesOut st at action offer → offer.opens ≡ Some n → handle ≡ n → now ≡ opened_root offer offer.second → RootFrom st at action handle now

-- a root behind a write stood there before, elsewhere, or was written
written : (roots : List (Option Root)) (at handle : ℕ) (put : Option Root) (now : Root) → get_or (set roots at put) handle None ≡ Some now →
    ((handle ≡ at → ⊥) × (get_or roots handle None ≡ Some now)) ⊎ ((handle ≡ at) × (put ≡ Some now))
written roots at handle put now e = elim (cases_eq handle at) [
  | inl same ↦ inr (same, found_here roots at put now (subst (λ h. get_or (set roots at put) h None ≡ Some now) same e))
  | inr other ↦ inl (other, sym (found_elsewhere roots at handle put other) ∙ e)
]

reworded : (word : RootWord) (o : Option Root) (now : Root) → rewritten word o ≡ Some now → (root : Root) × (o ≡ Some root) × (now ≡ record root { word = word })
reworded word None now e = absurd (none-some now e)
reworded word (Some root) now e = (root, refl, sym (same_Some _ _ e))

pub plain_root : (word : RootWord) (r : Ref) → is_plain word r ≡ true → r ≡ root_of word
plain_root (Plain root) r e = sym (eqb-true root r e)
plain_root (Offer offer) r e = absurd (false≢true e)

carried_offer : (st : State) (at : ℕ) (own : Descriptor) (main : Ref) (other : Descriptor) → ActionCarriesOut st at (act.Complete own main) other →
    (stands_in (word_at st at) own ≡ true) × ((main == own.expected) ≡ true)
carried_offer st at own main other c =
    let same : act.Complete own main ≡ act.Complete other c.main = c.is_it in
    let own_is : other ≡ own = cc same in
    let main_is : c.main ≡ main = cc same in
    and_parts (stands_in (word_at st at) own) (main == own.expected)
    (ap (λ d. is_carried_out (word_at st at) d main) (sym own_is) ∙ ap (λ m. is_carried_out (word_at st at) other m) (sym main_is) ∙ c.carried)

module _ (st : State) (at handle : ℕ) (now : Root) where
  abbrev NoCarry : Action → Type 0
  NoCarry action = (offer : Descriptor) → ActionCarriesOut st at action offer → ⊥

  same_root : (action : Action) → NoCarry action → root_at st handle ≡ Some now → RootFrom st at action handle now
  same_root action no_carry e = stood now e refl refl (λ offer c here. no_carry offer c)

  -- a word over the same root
  word_from : (action : Action) (word : RootWord) → NoCarry action → root_of word ≡ root_of (word_at st at) → root_at (with_word st at word) handle ≡ Some now → RootFrom st at action handle now
  word_from action word no_carry same e = elim (written st.roots at handle (rewritten word (root_at st at)) now e) [
    | inl old ↦ same_root action no_carry old.1
    | inr new ↦
        let (root, was, is) = reworded word (root_at st at) now new.1 in
        stood root (subst (λ h. root_at st h ≡ Some root) (sym new.0) was) (ap (λ (r : Root). r.access) is)
        (ap (λ (r : Root). root_of r.word) is ∙ same ∙ ap (λ o. root_of (word_of o)) was) (λ offer c here. no_carry offer c)
  ]

  abort_from : (own : Descriptor) (b : Bool) → (b ≡ true → word_at st at ≡ Offer own) → root_at (if_changed b (with_word st at (Plain own.root)) st) handle ≡ Some now →
      RootFrom st at (act.Abort own) handle now
  abort_from own true honest e = word_from (act.Abort own) (Plain own.root) (λ offer c. let wrong : ⊥ = cc c.is_it in wrong) (ap root_of (sym (honest refl))) e
  abort_from own false honest e = same_root (act.Abort own) (λ offer c. let wrong : ⊥ = cc c.is_it in wrong) e

  offer_by : (own : Descriptor) (b : Bool) → is_plain (word_at st at) own.root ≡ b → root_at (if_changed b (with_word st at (Offer own)) st) handle ≡ Some now →
      RootFrom st at (act.Offer own) handle now
  offer_by own true t e = word_from (act.Offer own) (Offer own) (λ offer c. let wrong : ⊥ = cc c.is_it in wrong) (plain_root (word_at st at) own.root t) e
  offer_by own false t e = same_root (act.Offer own) (λ offer c. let wrong : ⊥ = cc c.is_it in wrong) e

  carried_word : (action : Action) (own : Descriptor) → ActionCarriesOut st at action own → root_at (with_word st at (Plain own.successor)) handle ≡ Some now → RootFrom st at action handle now
  carried_word action own c e = elim (written st.roots at handle (rewritten (Plain own.successor) (root_at st at)) now e) [
    | inl old ↦ stood now old.1 refl refl (λ offer d here. old.0 here)
    | inr new ↦ let (root, was, is) = reworded (Plain own.successor) (root_at st at) now new.1 in swapped root own c new.0 was is
  ]

  carried_opens : (action : Action) (own : Descriptor) → ActionCarriesOut st at action own → (n : Option ℕ) → own.opens ≡ n →
      root_at (opened (with_word st at (Plain own.successor)) own n) handle ≡ Some now →
      RootFrom st at action handle now
  carried_opens action own c None is e = carried_word action own c e
  carried_opens action own c (Some n) is e = elim (written (with_word st at (Plain own.successor)).roots n handle (Some (opened_root own own.second)) now e) [
    | inl old ↦ carried_word action own c old.1
    | inr new ↦ newly own n c is new.0 (sym (same_Some _ _ new.1))
  ]

  complete_from : (own : Descriptor) (main : Ref) (b e : Bool) → stands_in (word_at st at) own ≡ b → (main == own.expected) ≡ e → (b ≡ true → word_at st at ≡ Offer own) →
      root_at (if_changed b (cond e (carried_out st at own) (with_word st at (Plain own.root))) st) handle ≡ Some now → RootFrom st at (act.Complete own main) handle now
  complete_from own main true true stands expected honest h =
      carried_opens (act.Complete own main) own (record { main = main; is_it = refl; carried = and_from _ _ stands expected }) own.opens refl h
  complete_from own main true false stands expected honest h =
      word_from (act.Complete own main) (Plain own.root) (λ other c. true≢false (sym (carried_offer st at own main other c).1 ∙ expected)) (ap root_of (sym (honest refl))) h
  complete_from own main false e stands expected honest h = same_root (act.Complete own main) (λ other c. true≢false (sym (carried_offer st at own main other c).0 ∙ stands)) h

  taken_from : (main : Ref) (made : Option Ref) → root_at (new_root_taken st main made) handle ≡ Some now → root_at st handle ≡ Some now
  taken_from main None e = e
  taken_from main (Some made) e = e

  pub root_from : (action : Action) → ((own : Descriptor) → settles action ≡ Some own → stands_in (word_at st at) own ≡ true → word_at st at ≡ Offer own) →
      root_at (acted st at action) handle ≡ Some now → RootFrom st at action handle now
  root_from (act.Abort own) honest e = abort_from own (stands_in (word_at st at) own) (honest own refl) e
  root_from (act.Offer own) honest e = offer_by own (is_plain (word_at st at) own.root) refl e
  root_from (act.Complete own main) honest e = complete_from own main (stands_in (word_at st at) own) (main == own.expected) refl refl (honest own refl) e
  root_from (act.MakeRoot main) honest e = same_root (act.MakeRoot main) (λ offer c. let wrong : ⊥ = cc c.is_it in wrong) (taken_from main _ e)
  root_from action honest e = same_root action (λ offer c. let wrong : ⊥ = cc c.is_it in wrong) e

-- ---- forwards: an open handle stays open, of its kind

abbrev pub StaysOpen : State → ℕ → Root → Type 0
StaysOpen after handle root = (now : Root) × (root_at after handle ≡ Some now) × (now.access ≡ root.access)

word_open : (st : State) (at handle : ℕ) (word : RootWord) (root : Root) → root_at st handle ≡ Some root → StaysOpen (with_word st at word) handle root
word_open st at handle word root e = elim (cases_eq handle at) [
  | inl same ↦
      let here = subst (λ h. root_at st h ≡ Some root) same e in (
        record root { word = word },
        subst (λ h. get_or (set st.roots at (rewritten word (root_at st at))) h None ≡ Some (record root { word = word })) (sym same)
            (get_or-set_same st.roots at (rewritten word (root_at st at)) None (found_within st.roots at root here) ∙ ap (rewritten word) here),
        refl,
      )
  | inr other ↦ (root, found_elsewhere st.roots at handle (rewritten word (root_at st at)) other ∙ e, refl)
]

test_open : (b : Bool) (changed same : State) (handle : ℕ) (root : Root) → StaysOpen changed handle root → StaysOpen same handle root → StaysOpen (if_changed b changed same) handle root
test_open true changed same handle root h g = h
test_open false changed same handle root h g = g

module _ (st : State) (at handle : ℕ) (root : Root) (is_open : root_at st handle ≡ Some root) where
  opened_open : (own : Descriptor) (n : Option ℕ) → (n ≡ Some handle → ⊥) → StaysOpen (opened (with_word st at (Plain own.successor)) own n) handle root
  opened_open own None free = word_open st at handle (Plain own.successor) root is_open
  opened_open own (Some n) free =
      let (now, found, access) = word_open st at handle (Plain own.successor) root is_open in
      (now, found_elsewhere (with_word st at (Plain own.successor)).roots n handle (Some (opened_root own own.second)) (λ s. free (ap Some (sym s))) ∙ found, access)

  complete_open : (own : Descriptor) (main : Ref) (b e : Bool) → stands_in (word_at st at) own ≡ b → (main == own.expected) ≡ e →
      (ActionCarriesOut st at (act.Complete own main) own → own.opens ≡ Some handle → ⊥) →
      StaysOpen (if_changed b (cond e (carried_out st at own) (with_word st at (Plain own.root))) st) handle root
  complete_open own main true true stands expected free =
      let carries : ActionCarriesOut st at (act.Complete own main) own = record { main = main; is_it = refl; carried = and_from _ _ stands expected } in
      opened_open own own.opens (free carries)
  complete_open own main true false stands expected free = word_open st at handle (Plain own.root) root is_open
  complete_open own main false e stands expected free = (root, is_open, refl)

  taken_open : (main : Ref) (made : Option Ref) → StaysOpen (new_root_taken st main made) handle root
  taken_open main None = (root, is_open, refl)
  taken_open main (Some made) = (root, is_open, refl)

  pub stays_open : (action : Action) → ((offer : Descriptor) → ActionCarriesOut st at action offer → offer.opens ≡ Some handle → ⊥) → StaysOpen (acted st at action) handle root
  stays_open (act.Abort own) free = test_open (stands_in (word_at st at) own) _ st handle root (word_open st at handle (Plain own.root) root is_open) (root, is_open, refl)
  stays_open (act.Offer own) free = test_open (is_plain (word_at st at) own.root) _ st handle root (word_open st at handle (Offer own) root is_open) (root, is_open, refl)
  stays_open (act.Complete own main) free = complete_open own main (stands_in (word_at st at) own) (main == own.expected) refl refl (free own)
  stays_open (act.MakeRoot main) free = taken_open main _
  stays_open action free = (root, is_open, refl)
