-- The exchange of an indirection's word swaps a fresh main node in.
use Rattle.history.specs.declared.calls.Call.{Call}
use Rattle.std.proofs.Common.{◌≡◌, ◌+◌, ◌*◌, ◌≤◌, ◌==◌, ◌&&◌, ◌||◌, inl, inr, ℕ, Bool, true, false, [], ◌∷◌, Contains, set, Some, refl, sym, ap, subst, ◌∙◌, arith, eq-eqb, eqb-true, ne_eqb}
use Rattle.std.proofs.lemmas.Bool.{cases_eq, true≢false}
use Rattle.std.proofs.lemmas.List.Elements.{Contains-get_or}
use Rattle.std.proofs.lemmas.List.Folds.{list_any-append}
use Rattle.std.proofs.lemmas.Option.{same_Some}
use mathlib.Core.Option.{some}
use lib.ListN.{get_elem?}
use Rattle.atomic_table.specs.Table as Table
use Rattle.machine_model.specs.Beneath.slot_arena.specs.declared.refs.Ref.{Ref}
use Rattle.machine_model.specs.Beneath.slot_arena.specs.Heaps.{main_at, main_of}
use Rattle.machine_model.specs.Beneath.slot_arena.specs.Refs.{slot_of}
use Rattle.machine_model.specs.declared.actions.Action.TheVariants as act
use Rattle.machine_model.specs.declared.steps.Step.TheVariants as step
use Rattle.machine_model.specs.Acting.{operation_after, private_after}
use Rattle.machine_model.specs.Moves.{GoesOn}
use Rattle.machine_model.specs.Operations.{action_of, line_action}
use Rattle.proof_claims.specs.Changes.{change_by, change_going, change_of}
use Rattle.proof_claims.specs.Changes as changing
use Rattle.proof_claims.specs.Claims.{Has}
use Rattle.proof_claims.proofs.Differing.{in_cons, nothing_in}
use Rattle.proof_claims.specs.Held.{Change, Claim, Held, OfNode, held_after, is_owned, takes}
use Rattle.proof_commits.specs.Runs.{HasIndirection}
use Rattle.proof_memory.specs.Laws.{IsInUse}
use Rattle.proof_memory.specs.Wants.{is_indirection}
use Rattle.machine_model.specs.declared.operations.Operation.{Operation}
use Rattle.machine_model.specs.States.{State, operation_of}
use Rattle.lock_free.specs.declared.rules.View.{View}
use Rattle.lock_free.specs.declared.sizes.Sizes.{Sizes}
use Rattle.lock_free.specs.declared.accounts.Account.{Account}
use Rattle.lock_free.specs.Accounts.{state_of, place_of, OwnIs}
use Rattle.lock_free.specs.Claims.{HoldsAll, claims_there, held_now, owes_after}
use Rattle.lock_free.specs.Owing.{owing}
use Rattle.lock_free.specs.Counts.{how_often}
use Rattle.lock_free.specs.Nodes.{class_of}
use Rattle.lock_free.specs.Publishing.{over, owned_now, swapped_in, with_main_of, Publishes}
use Rattle.lock_free.specs.Rules.{IsSpare, IsKept}
use Rattle.lock_free.proofs.Assembling.{AllStand, all_stand}
use Rattle.lock_free.proofs.Asked.{links_of, main_stands, mains_of}
use Rattle.lock_free.proofs.ClaimsThere.{has_often, often_has}
use Rattle.lock_free.proofs.Framing.{class_small, first_word}
use Rattle.lock_free.proofs.GivenBack.{node_is}
use Rattle.lock_free.proofs.HeldGone.{AreAlike}
use Rattle.lock_free.proofs.HeldStep.{alike_two, slot_beside, taken_now}
use Rattle.lock_free.proofs.HeldTakes.{claim_was, held_by, owes_balance, owes_had, taken_on}
use Rattle.lock_free.proofs.Idle.{empty_has}
use Rattle.lock_free.proofs.OneStep.Found.{live_used}
use Rattle.proof_waiting.specs.Beneath.proof_slots.proofs.Unswept.Kept.{one_ref}
use Rattle.lock_free.proofs.NodeWord.{node_word_kept}
use Rattle.lock_free.proofs.PublishedAll.{all_then, words_then, new_word, which, before, link_stands}
use Rattle.lock_free.proofs.Asked as asked
use Rattle.lock_free.proofs.Owners.{it_or_before}
use Rattle.lock_free.specs.Holdings.{AreHeld}
use Rattle.lock_free.proofs.Waiting.{grown_steps}
use Rattle.lock_free.proofs.LinesStay.{LinesStay, lines_private}
use Rattle.lock_free.proofs.LetGoSince.{let_go_by_none}
use Rattle.lock_free.specs.Live.{IsLive}
use Rattle.lock_free.proofs.Pools.{one_there}

module _ (sizes : Sizes) (s : Table.State Call View) (kept : IsKept sizes s) (id : ℕ) (v : View) (at : get_elem? s.views id ≡ some v) (operation : Operation)
    (runs : operation_of (state_of sizes kept.account) v.actor ≡ Some operation) (i a f : Ref) (publishes : Publishes sizes kept.account (swapped_in v.actor i f kept.account) v.actor operation i a f)
    (here : kept.stands (slot_of i) ≡ true) where
  abbrev all : AllStand sizes kept.account kept.stands s.words
  all = all_stand sizes s kept

  spare_then : (name : ℕ) → IsSpare sizes kept.account kept.stands name → IsSpare sizes (swapped_in v.actor i f kept.account) kept.stands name
  spare_then name h = (
    λ k slot e. (let b = before sizes kept.account v.actor operation i a f publishes kept.stands s.words all here k slot
        (which sizes kept.account v.actor operation i a f publishes kept.stands s.words all here k slot e.1) in
        h.0 k b.0 (e.0, b.1)),
    h.1,
  )

  -- ---- references

  abbrev now : State
  now = state_of sizes kept.account

  abbrev after : Account
  after = swapped_in v.actor i f kept.account

  abbrev held : Held
  held = held_now sizes kept.account

  abbrev change : Change
  change = changing.publishes true operation.private i f

  acts : action_of now operation ≡ act.Publish i a f
  acts = ap (λ l. line_action now operation l) publishes.on.1

  stands_over : main_at now.heap i ≡ a
  stands_over = ap main_of (node_is now i publishes.link publishes.link_is ∙ publishes.link_node)

  pub changes : change_of now held (step.Go v.actor) ≡ change
  changes =
      ap (change_going now held) runs ∙ ap (change_by now held operation) acts ∙ ap (λ b. changing.publishes b operation.private i f) (eq-eqb (main_at now.heap i) a stands_over)

  held_then : held_now sizes after ≡ held_after change held
  held_then = taken_now sizes kept.account kept.bounds v.actor operation runs (subst GoesOn (sym acts) tt) after refl ∙ ap (λ c. held_after c held) changes

  fresh_lives : IsLive now f
  fresh_lives =
      (main_stands sizes kept.account kept.bounds v.actor operation runs f (subst (λ x. Contains (mains_of x) f) (sym acts) (Contains-get_or (a ∷ f ∷ []) 1 f (omega arith)))).0

  link_lives : IsLive now i
  link_lives =
      (asked.link_stands sizes kept.account kept.bounds v.actor operation runs i
      (subst (λ x. Contains (links_of x) i) (sym acts) (Contains-get_or (i ∷ []) 0 i (omega arith)))).0

  alike : AreAlike now (state_of sizes after)
  alike =
      alike_two now (state_of sizes after) (slot_of i) (slot_of f) publishes.link (with_main_of publishes.link publishes.generation f) publishes.fresh (over publishes.fresh a) publishes.link_is
      publishes.link_then refl (ap class_of (sym publishes.link_node)) (ap is_indirection (sym publishes.link_node)) (λ r c. inr (subst (IsLive now) (sym (one_there f r c)) fresh_lives))
      publishes.fresh_is publishes.fresh_then refl refl publishes.nodes

  private_then : (n : ℕ) (o : Operation) → operation_of (state_of sizes after) n ≡ Some o → (k : Ref) → Contains o.private k → (p : Operation) × (operation_of now n ≡ Some p) × Contains p.private k
  private_then n o is k c = elim (cases_eq n v.actor) [
    | inl same ↦
        (let its = same_Some o (operation_after now operation) (sym is ∙ ap (operation_of (state_of sizes after)) same ∙ publishes.own) in
        absurd (empty_has k (subst (λ ks. Contains ks k) (ap (λ (x : Operation). x.private) its ∙ ap (private_after now operation.private) acts) c)))
    | inr differs ↦ (o, sym (publishes.others n differs) ∙ is, c)
  ]

  owned_is : (j m : Ref) → is_owned (held_after change held) j m ≡ (is_owned held j m || (((i == j) && (f == m)) || false))
  owned_is j m = list_any-append (λ (pair : Ref × Ref). (pair.0 == j) && (pair.1 == m)) held.owned ((i, f) ∷ [])

  i_used : IsInUse now.heap i
  i_used = live_used sizes kept.account kept.bounds i link_lives

  owned_then : (j m : Ref) → (is_owned held j m || (((i == j) && (f == m)) || false)) ≡ true → IsInUse now.heap j
  owned_then j m e = by (is_owned held j m) (i == j) (f == m) refl refl e
    where
      by : (a b c : Bool) → is_owned held j m ≡ a → (i == j) ≡ b → (a || ((b && c) || false)) ≡ true → IsInUse now.heap j
      by true b c was is h = kept.held.owned j m was
      by false true c was is h = subst (IsInUse now.heap) (eqb-true i j is) i_used
      by false false c was is h = absurd (true≢false (sym h))

  -- f was nobody's own before
  owns_before : (j m : Ref) (own : Bool) → OwnIs kept.account.owned (slot_of j) (slot_of m) own → HasIndirection now j → IsInUse now.heap m → is_owned (held_after change held) j m ≡ own
  owns_before j m own old link used = elim (cases_eq f m) [
    | inl same ↦ absurd (kept.nodes.owners.fresh i a f publishes.was_ahead (slot_of j) own (subst (λ r. OwnIs kept.account.owned (slot_of j) (slot_of r) own) (sym same) old))
    | inr differs ↦
        (let none = ne_eqb f m differs in
        owned_is j m ∙ ap (λ b. is_owned held j m || (((i == j) && b) || false)) none ∙ no_more (is_owned held j m) (i == j) ∙ kept.held.owns j m own link used old)
  ]
    where
      no_more : (x y : Bool) → (x || ((y && false) || false)) ≡ x
      no_more true y = refl
      no_more false true = refl
      no_more false false = refl

  owns_now : (j m : Ref) (own : Bool) → OwnIs (owned_now i f ∷ kept.account.owned) (slot_of j) (slot_of m) own → HasIndirection now j → IsInUse now.heap m → is_owned (held_after change held) j m ≡ own
  owns_now j m own is link used = elim (it_or_before (owned_now i f) kept.account.owned (slot_of j) (slot_of m) own is) [
    | inl new ↦
        (let same_j = one_ref now.heap i j i_used link.0 new.0 in
        let same_m = one_ref now.heap f m f_used used new.1 in
        owned_is j m ∙ ap (λ b. is_owned held j m || ((b && (f == m)) || false)) (eq-eqb i j same_j) ∙ ap (λ b. is_owned held j m || (b || false)) (eq-eqb f m same_m)
        ∙ both (is_owned held j m) ∙ new.2)
    | inr old ↦ owns_before j m own old link used
  ]
    where
      both : (x : Bool) → (x || (true || false)) ≡ true
      both true = refl
      both false = refl

      f_used : IsInUse now.heap f
      f_used = live_used sizes kept.account kept.bounds f fresh_lives

  -- the indirection alone has a claim more
  holder_is : (j k : Ref) → Contains change.added (record { by = OfNode j; on = k }) → j ≡ i
  holder_is j k c = elim (in_cons (record { by = OfNode i; on = f }) [] (record { by = OfNode j; on = k }) c) [
    | inl same ↦ (let holders : OfNode i ≡ OfNode j = ap (λ (x : Claim). x.by) same in let one : i ≡ j = cc holders in sym one)
    | inr none ↦ absurd (nothing_in _ none)
  ]

  -- with what its seat holds then
  abbrev view_with : Change → View
  view_with c = owing (record v { account = after }) (owes_after c held.claims v.owed)

  -- its operation owes nothing then
  lines : LinesStay sizes kept.account after v (view_with change)
  lines =
      lines_private sizes s kept id v at after (view_with change) publishes.others publishes.bounds (operation_after now operation) publishes.own (ap (private_after now operation.private) acts)

  held_with : HoldsAll (takes change) v.owed → AreHeld sizes after kept.stands (words_then sizes kept.account v.actor operation i a f publishes kept.stands s.words all here)
      (set s.views id (view_with change))
  held_with holds =
      held_by sizes s kept id v at after (grown_steps kept.account after (step.Go v.actor ∷ []) refl refl) refl alike publishes.live private_then (view_with change) refl refl
      (owes_had change (λ c. refl) refl held.claims v.owed holds)
      (λ k. subst (λ (h : Held). claims_there kept.stands k h.claims + how_often k (owes_after change held.claims v.owed) ≤ claims_there kept.stands k held.claims + how_often k v.owed) (sym held_then)
      (owes_balance change (λ c. refl) refl kept.stands held.claims v.owed holds k))
      (λ c has. elim (claim_was change (λ x. refl) held.claims c (subst (λ (h : Held). Contains h.claims c) held_then has)) [
        | inl old ↦ kept.held.used c old
        | inr new ↦
            (let some_taken = has_often c.on (takes change) (taken_on change.added c new) in
            let enough = holds c.on in (kept.held.owed id v at c.on (often_has c.on v.owed (omega (arith, some_taken, enough)))).0)
      ])
      (λ j k has. elim (claim_was change (λ x. refl) held.claims (record { by = OfNode j; on = k }) (subst (λ (h : Held). Has h (OfNode j) k) held_then has)) [
        | inl old ↦ inl old
        | inr new ↦ inr (subst (IsLive now) (sym (holder_is j k new)) link_lives)
      ])
      (let_go_by_none sizes s kept (step.Go v.actor) after refl (λ c. ap (λ (x : Change). x.fate c) changes))
      (λ j m e. owned_then j m (sym (ap (λ (h : Held). is_owned h j m) held_then ∙ owned_is j m) ∙ e))
      (λ j m own link used is. ap (λ (h : Held). is_owned h j m) held_then ∙ owns_now j m own is (alike.links j link) (alike.used m used)) lines
      (words_then sizes kept.account v.actor operation i a f publishes kept.stands s.words all here)
      (slot_beside sizes s kept (class_of publishes.link.node) (place_of kept.account i) (class_small publishes.link.node)
      (kept.nodes.within (slot_of i) publishes.link (link_stands sizes kept.account v.actor operation i a f publishes kept.stands s.words all here))
      (2 * place_of kept.account i) (first_word publishes.link.node (place_of kept.account i)) (new_word sizes kept.account v.actor operation i a f publishes kept.stands s.words all here))

  abbrev pub own_change : Change
  own_change = change_of now held (step.Go v.actor)

  held_published : HoldsAll (takes own_change) v.owed → AreHeld sizes after kept.stands (words_then sizes kept.account v.actor operation i a f publishes kept.stands s.words all here)
      (set s.views id (view_with own_change))
  held_published holds =
      subst (λ c. AreHeld sizes after kept.stands (words_then sizes kept.account v.actor operation i a f publishes kept.stands s.words all here) (set s.views id (view_with c))) (sym changes)
      (held_with (subst (λ c. HoldsAll (takes c) v.owed) changes holds))

  -- it holds no more than it held
  pub published_had : HoldsAll (takes own_change) v.owed → (k : Ref) → Contains (owes_after own_change held.claims v.owed) k → Contains v.owed k
  published_had holds k c =
      owes_had change (λ x. refl) refl held.claims v.owed (subst (λ x. HoldsAll (takes x) v.owed) changes holds) k (subst (λ x. Contains (owes_after x held.claims v.owed) k) changes c)

  -- the rule holds
  pub publish_kept : HoldsAll (takes own_change) v.owed → IsKept sizes (record {
    words = words_then sizes kept.account v.actor operation i a f publishes kept.stands s.words all here;
    homes = s.homes;
    views = set s.views id (view_with own_change);
  })
  publish_kept holds =
      node_word_kept sizes s kept id v at operation runs (slot_of i) publishes.link (link_stands sizes kept.account v.actor operation i a f publishes kept.stands s.words all here)
      (2 * place_of kept.account i)
      (first_word publishes.link.node (place_of kept.account i)) (new_word sizes kept.account v.actor operation i a f publishes kept.stands s.words all here) (owned_now i f ∷ [])
      (all_then sizes kept.account v.actor operation i a f publishes kept.stands s.words all here) spare_then publishes.roots publishes.others publishes.own publishes.tries
      (owes_after own_change held.claims v.owed) (held_published holds)
