-- An offer that comes to stand takes its roots, which its seat held: each reference is counted still.
use Rattle.history.specs.declared.calls.Call.{Call}
use Rattle.std.proofs.Common.{◌≡◌, ◌+◌, ◌≤◌, ℕ, inl, inr, true, List, [], ◌∷◌, ◌++◌, Contains, Option, set, Some, None, refl, sym, ap, subst, ◌∙◌, arith, append-nil}
use Rattle.std.proofs.Common.{eq-eqb, get_or-set_other, subst₂}
use Rattle.std.proofs.lemmas.Bool.{cases_eq}
use Rattle.std.proofs.lemmas.Option.{same_Some}
use mathlib.Core.Option.{some}
use lib.ListN.{get_elem?}
use Rattle.atomic_table.specs.Table as Table
use Rattle.trie_words.specs.Codes.{root_code}
use Rattle.trie_words.specs.declared.roots.RootWord.TheVariants as word
use Rattle.machine_model.specs.declared.roots.Descriptor.{Descriptor}
use Rattle.machine_model.specs.Beneath.slot_arena.specs.declared.refs.Ref.{Ref}
use Rattle.machine_model.specs.declared.actions.Action.TheVariants as act
use Rattle.machine_model.specs.declared.steps.Step.TheVariants as step
use Rattle.machine_model.specs.declared.operations.Operation.{Operation}
use Rattle.machine_model.specs.Acting.{operation_after, private_after}
use Rattle.machine_model.specs.Calls.{handle_of}
use Rattle.machine_model.specs.Moves.{GoesOn}
use Rattle.machine_model.specs.Operations.{action_of}
use Rattle.machine_model.specs.States.{State, operation_of, word_of}
use Rattle.machine_model.specs.Swapping.{is_plain}
use Rattle.proof_claims.specs.Changes.{change_by, change_going, change_of, second_claims}
use Rattle.proof_claims.specs.Changes as claiming
use Rattle.proof_claims.specs.Claims.{Has}
use Rattle.proof_claims.specs.Held.{Change, Claim, Held, OfHandle, OfNode, held_after, is_owned, takes}
use Rattle.proof_claims.proofs.Differing.{in_cons, nothing_in}
use Rattle.lock_free.specs.declared.accounts.Account.{Account}
use Rattle.lock_free.specs.declared.rules.View.{View}
use Rattle.lock_free.specs.declared.sizes.Sizes.{Sizes}
use Rattle.lock_free.specs.Accounts.{state_of}
use Rattle.lock_free.specs.Claims.{HoldsAll, claims_there, held_now, owes_after}
use Rattle.lock_free.specs.Counts.{how_often, references_in}
use Rattle.lock_free.specs.Holdings.{AreHeld}
use Rattle.lock_free.specs.Offering.{DraftsOffer, Offers}
use Rattle.lock_free.specs.Places.{root_word}
use Rattle.lock_free.specs.Rules.{IsKept, pool_of}
use Rattle.lock_free.proofs.ClaimsThere.{has_often, often_has}
use Rattle.lock_free.proofs.CountWords.{handle_apart}
use Rattle.lock_free.proofs.HeldGone.{AreAlike}
use Rattle.lock_free.proofs.HeldLeads.{alike_slots}
use Rattle.lock_free.proofs.HeldStep.{taken_now}
use Rattle.lock_free.proofs.HeldTakes.{claim_was, held_by, owes_balance, owes_had, taken_on}
use Rattle.lock_free.proofs.Idle.{empty_has}
use Rattle.lock_free.proofs.Offered as offered
use Rattle.lock_free.proofs.Waiting.{grown_steps}
use Rattle.lock_free.proofs.LinesStay.{LinesStay, lines_private}
use Rattle.lock_free.proofs.LetGoSince.{let_go_by_none}

module _ (sizes : Sizes) (s : Table.State Call View) (kept : IsKept sizes s) (id : ℕ) (v : View) (at : get_elem? s.views id ≡ some v) (operation : Operation)
    (runs : operation_of (state_of sizes kept.account) v.actor ≡ Some operation) (slot : ℕ) (offer : Descriptor) (offers : Offers sizes kept.account v.actor slot operation offer)
    (rest : List ℕ) (pool : pool_of v.pool 1 ≡ rest ++ slot ∷ []) (drafted : DraftsOffer kept.account v.drafts slot offer) (names_it : (g : ℕ) → offer.opens ≡ Some g → v.opening ≡ Some slot) where
  abbrev now : State
  now = state_of sizes kept.account

  abbrev account_then : Account
  account_then = offered.account_then sizes s kept id v at operation runs slot offer offers rest pool drafted names_it

  abbrev next : State
  next = state_of sizes account_then

  abbrev handle : ℕ
  handle = handle_of operation.call

  abbrev words_then : List ℕ
  words_then = offered.words_then sizes s kept id v at operation runs slot offer offers rest pool drafted names_it

  abbrev view_then : View
  view_then = offered.view_then sizes s kept id v at operation runs slot offer offers rest pool drafted names_it

  abbrev pub was_held : Held
  was_held = held_now sizes kept.account

  abbrev pub change : Change
  change = claiming.offers true operation.private handle offer

  -- what the step is seen to take: the roots that are offered, of what the seat holds itself
  pub record Takes : Type 0 where
    pub acts : action_of now operation ≡ act.Offer offer
    pub holds : HoldsAll (takes change) v.owed
    pub owes : view_then.owed ≡ owes_after change was_held.claims v.owed

  pub changes : Takes → change_of now was_held (step.Go v.actor) ≡ change
  changes evidence =
      ap (change_going now was_held) runs ∙ ap (change_by now was_held operation) evidence.acts
      ∙ ap (λ b. claiming.offers b operation.private handle offer) (ap (λ r. is_plain (word_of r) offer.root) offers.stood ∙ eq-eqb offer.root offer.root refl)

  pub owes_so : Takes → (k : Ref) → Contains view_then.owed k → Contains v.owed k
  owes_so evidence k c = owes_had change (λ x. refl) refl was_held.claims v.owed evidence.holds k (subst (λ ks. Contains ks k) evidence.owes c)

  held_is : Takes → held_now sizes account_then ≡ held_after change was_held
  held_is evidence =
      taken_now sizes kept.account kept.bounds v.actor operation runs (subst GoesOn (sym evidence.acts) tt) account_then refl ∙ ap (λ c. held_after c was_held) (changes evidence)

  private_then : Takes → (a : ℕ) (o : Operation) → operation_of next a ≡ Some o → (k : Ref) → Contains o.private k → (p : Operation) × (operation_of now a ≡ Some p) × Contains p.private k
  private_then evidence a o is k c = elim (cases_eq a v.actor) [
    | inl same ↦
        (let its = same_Some o (operation_after now operation) (sym is ∙ ap (operation_of next) same ∙ offers.own) in
        absurd (empty_has k (subst (λ ks. Contains ks k) (ap (λ (x : Operation). x.private) its ∙ ap (private_after now operation.private) evidence.acts) c)))
    | inr differs ↦ (o, sym (offers.others a differs) ∙ is, c)
  ]

  -- its operation owes nothing then
  lines : Takes → LinesStay sizes kept.account account_then v view_then
  lines evidence =
      lines_private sizes s kept id v at account_then view_then offers.others offers.leaves.bounds (operation_after now operation) offers.own
      (ap (private_after now operation.private) evidence.acts)

  -- handles alone have claims more
  not_added : (g : ℕ) (opens : Option ℕ) (second : Option Ref) (j k : Ref) → Contains (record { by = OfHandle g; on = offer.successor } ∷ second_claims opens second)
      (record { by = OfNode j; on = k }) → ⊥
  not_added g opens second j k c = elim (in_cons (record { by = OfHandle g; on = offer.successor }) (second_claims opens second) (record { by = OfNode j; on = k }) c) [
    | inl same ↦ no_node (record { by = OfHandle g; on = offer.successor }) same refl
    | inr rest ↦ by opens second rest
  ]
    where
      no_node : {h : ℕ} (x : Claim) → x ≡ record { by = OfNode j; on = k } → x.by ≡ OfHandle h → ⊥
      no_node x same is = let wrong : ⊥ = cc (ap (λ (y : Claim). y.by) (sym same) ∙ is) in wrong

      by : (opens : Option ℕ) (second : Option Ref) → Contains (second_claims opens second) (record { by = OfNode j; on = k }) → ⊥
      by (Some h) (Some r) c = elim (in_cons (record { by = OfHandle h; on = r }) [] (record { by = OfNode j; on = k }) c) [
        | inl same ↦ no_node (record { by = OfHandle h; on = r }) same refl
        | inr none ↦ nothing_in _ none
      ]
      by (Some h) None c = nothing_in _ c
      by None second c = nothing_in _ c

  alike : AreAlike now next
  alike = alike_slots now next offers.leaves.nodes

  held_offered : Takes → AreHeld sizes account_then kept.stands words_then (set s.views id view_then)
  held_offered evidence =
      held_by sizes s kept id v at account_then (grown_steps kept.account account_then (step.Go v.actor ∷ []) refl refl) refl alike offers.leaves.live (private_then evidence) view_then refl refl
      (owes_so evidence)
      (λ k. subst₂ (λ (h : Held) (owed : List ℕ). claims_there kept.stands k h.claims + how_often k owed ≤ claims_there kept.stands k was_held.claims + how_often k v.owed) (sym (held_is evidence))
      (sym evidence.owes) (owes_balance change (λ c. refl) refl kept.stands was_held.claims v.owed evidence.holds k))
      (λ c has. elim (claim_was change (λ x. refl) was_held.claims c (subst (λ (h : Held). Contains h.claims c) (held_is evidence) has)) [
        | inl old ↦ kept.held.used c old
        | inr new ↦
            (let some_taken = has_often c.on (takes change) (taken_on change.added c new) in
            let enough = evidence.holds c.on in (kept.held.owed id v at c.on (often_has c.on v.owed (omega (arith, some_taken, enough)))).0)
      ])
      (λ j k has. elim (claim_was change (λ x. refl) was_held.claims (record { by = OfNode j; on = k }) (subst (λ (h : Held). Has h (OfNode j) k) (held_is evidence) has)) [
        | inl old ↦ inl old
        | inr new ↦ absurd (not_added handle offer.opens offer.second j k new)
      ])
      (let_go_by_none sizes s kept (step.Go v.actor) account_then refl (λ c. ap (λ (x : Change). x.fate c) (changes evidence)))
      (λ i m e. kept.held.owned i m (sym (ap (λ (h : Held). is_owned h i m) (held_is evidence) ∙ ap (λ xs. is_owned (record was_held { owned = xs }) i m) (append-nil was_held.owned)) ∙ e))
      (λ i m own link used is.
      ap (λ (h : Held). is_owned h i m) (held_is evidence) ∙ ap (λ xs. is_owned (record was_held { owned = xs }) i m) (append-nil was_held.owned)
      ∙ kept.held.owns i m own (alike.links i link) (alike.used m used) is) (lines evidence) words_then
      (λ c is. ap references_in (get_or-set_other s.words (root_word handle) c (root_code (word.Offered slot)) 0
      ((handle_apart sizes handle ((kept.seats id v at).entered handle ((kept.seats id v at).calls operation runs)).0).1 c is)))

  -- the rule holds
  pub offer_kept : Takes → IsKept sizes (record { words = words_then; homes = s.homes; views = set s.views id view_then })
  offer_kept evidence = offered.offered_kept sizes s kept id v at operation runs slot offer offers rest pool drafted names_it (held_offered evidence)
