-- The exchange of its own offer's first word by which an operation finds what came of it: what that gives is the seat's.
use Rattle.history.specs.declared.calls.Call.{Call}
use Rattle.std.proofs.Common.{◌≡◌, ◌+◌, ◌*◌, ◌≤◌, ◌==◌, ◌++◌, not, ℕ, Bool, true, false, List, [], ◌∷◌, Contains, cond, count_by, get_or, set, slice_index, Some, None}
use Rattle.std.proofs.Common.{refl, sym, ap, subst, ◌∙◌, arith, eqb-true}
use Rattle.std.proofs.lemmas.List.Elements.{Contains-append_left, Contains-append_right, Contains-push}
use Rattle.std.proofs.lemmas.List.Concat.{flat_map-append}
use Rattle.std.proofs.lemmas.List.Sums.{sum_by-cons}
use mathlib.Core.Option.{some}
use lib.ListN.{get_elem?}
use Rattle.atomic_table.specs.Table as Table
use Rattle.atomic_table.specs.Table.{step}
use Rattle.machine_model.specs.Beneath.slot_arena.specs.declared.refs.Ref.{Ref}
use Rattle.machine_model.specs.Beneath.slot_arena.specs.Refs.{slot_of}
use Rattle.machine_model.specs.Beneath.slot_arena.specs.Heaps.{node_at, node_of, refs_of_node, refs_of_prev, refs_of_slot, stored}
use Rattle.machine_model.specs.declared.actions.Action.TheVariants as act
use Rattle.machine_model.specs.declared.copying.CopyLine.TheVariants as copy
use Rattle.machine_model.specs.declared.lines.Line.TheVariants as line
use Rattle.machine_model.specs.declared.operations.Operation.{Operation}
use Rattle.machine_model.specs.declared.roots.CompleteLine.TheVariants as complete
use Rattle.machine_model.specs.declared.steps.Step.TheVariants as step
use Rattle.machine_model.specs.Calls.{handle_of}
use Rattle.machine_model.specs.Moves.{GoesOn}
use Rattle.machine_model.specs.Operations.{action_of, line_action}
use Rattle.machine_model.specs.States.{State, operation_of, word_at}
use Rattle.machine_model.specs.Swapping.{is_carried_out}
use Rattle.proof_claims.specs.Changes.{change_by, change_going, completes}
use Rattle.proof_claims.specs.Held.{Change, Claim, Given, Held, gives}
use Rattle.proof_claims.specs.Left.{SeesOutcome, is_done, is_freeze, names, once}
use Rattle.proof_claims.proofs.LeftAtComplete.{given_by_carried, given_by_taken_back}
use Rattle.proof_claims.proofs.Lists.{among, both_true}
use Rattle.proof_claims.proofs.TakenBack.{its_line}
use Rattle.proof_memory.specs.Wants.{AMain, Is, line_wants, offer_wants}
use Rattle.lock_free.specs.declared.accounts.Account.{Account}
use Rattle.lock_free.specs.declared.accounts.Known.{Known}
use Rattle.lock_free.specs.declared.rules.View.{View}
use Rattle.lock_free.specs.Accounts.{gone_on, running, state_of, bounds_for}
use Rattle.lock_free.specs.Claims.{claims_there, held_now, is_there, owes_after}
use Rattle.lock_free.specs.Counts.{IsCount, how_often, references}
use Rattle.lock_free.specs.Holdings.{AreHeld}
use Rattle.lock_free.specs.Live.{IsKnown, from_operation, from_slot, refs_of_claim, refs_of_claims, IsLive}
use Rattle.lock_free.specs.Loading.{seen}
use Rattle.lock_free.specs.Making.{refs_of_offer}
use Rattle.lock_free.specs.OfferWords.{carried_by}
use Rattle.lock_free.specs.Outcomes.{IsConcluding, made_for, times_given}
use Rattle.lock_free.specs.Owing.{next_change, owes_then, owing}
use Rattle.lock_free.specs.Rules.{IsKept}
use Rattle.lock_free.proofs.ClaimsThere.{has_often}
use Rattle.lock_free.proofs.CompleteStep as step_of
use Rattle.lock_free.proofs.GivenCounted.{fewer_given, given_counted}
use Rattle.lock_free.proofs.HeldGives.{held_gives}
use Rattle.lock_free.proofs.HeldGone.{IsLetting}
use Rattle.lock_free.proofs.HeldLeads.{alike_slots}
use Rattle.lock_free.proofs.HeldStep.{taken_now}
use Rattle.lock_free.proofs.Led.{led_here, led_own, led_lives}
use Rattle.lock_free.proofs.Lettings.{TakesNone, going_lets}
use Rattle.lock_free.proofs.OfferRefs.{refs_at_hand}
use Rattle.lock_free.proofs.OneStep.Found.{slot_at}
use Rattle.lock_free.proofs.OutcomeClaims.{completing_gives, completing_makes}
use Rattle.lock_free.proofs.LetGoGives.{let_go_gives}
use Rattle.lock_free.proofs.LetGoSince.{none_given_up}
use Rattle.lock_free.proofs.HeldFrom.{live_from}

-- ---- lists

-- one of those that are counted
found_by : (p : Ref → Bool) (x : Ref) (xs : List Ref) (b : Bool) → p x ≡ b → (1 ≤ count_by p xs → (y : Ref) × Contains xs y × (p y ≡ true)) → 1 ≤ count_by p (x ∷ xs) →
    (y : Ref) × Contains (x ∷ xs) y × (p y ≡ true)
found_by p x xs true e rest more = (x, Contains-append_left (x ∷ []) xs x (Contains-push [] x), e)
found_by p x xs false e rest more =
    let all = sum_by-cons (λ (y : Ref). cond {A = ℕ} (p y) 1 0) x xs in
    let none = ap {B = ℕ} (λ b. cond b 1 0) e in
    let y = rest (omega (arith, more, all, none)) in (y.0, Contains-append_right (x ∷ []) xs y.0 y.1, y.2)

count_some : (p : Ref → Bool) (xs : List Ref) → 1 ≤ count_by p xs → (x : Ref) × Contains xs x × (p x ≡ true)
count_some p [] more = absurd (omega (arith, more))
count_some p (x ∷ xs) more = found_by p x xs (p x) refl (count_some p xs) more

once_true : (b : Bool) → 1 ≤ once b → b ≡ true
once_true true more = refl
once_true false more = absurd (omega (arith, more))

module _ (v : View) (slot : ℕ) (expected : Bool) (c : IsConcluding v slot expected) where
  abbrev pub k : Known
  k = c.at.its

  abbrev pub main : Ref
  main = c.at.main

  abbrev pub word : ℕ
  word = 2 * k.slot

  module _ (s : Table.State Call View) (kept : IsKept v.sizes s) (id : ℕ) (at : get_elem? s.views id ≡ some v) where
    abbrev pub found : ℕ
    found = slice_index s.words word

    abbrev pub carried : Bool
    carried = carried_by found expected

    abbrev pub there : Account
    there = kept.account

    abbrev pub state : State
    state = state_of v.sizes there

    abbrev pub held : Held
    held = held_now v.sizes there

    abbrev pub o : Operation
    o = step_of.o v k main c.at.here c.at.acts c.at.on expected c.at.test s kept id at

    pub runs : running v.sizes there v.actor o
    runs = step_of.runs v k main c.at.here c.at.acts c.at.on expected c.at.test s kept id at

    pub acts : action_of state o ≡ act.Complete k.offer main
    acts = step_of.acts v k main c.at.here c.at.acts c.at.on expected c.at.test s kept id at

    abbrev pub handle : ℕ
    handle = handle_of o.call

    abbrev pub out : Bool
    out = is_carried_out (word_at state handle) k.offer main

    abbrev pub sees : SeesOutcome state v.actor k.offer main
    sees = record { operation = o; runs = runs; completing = c.completing; completes = c.own; acts = acts }

    pub done_is : is_done state sees ≡ carried
    done_is = step_of.tells v k main c.at.here c.at.acts c.at.on expected c.at.test s kept id at (record { its = c.its_try.its; now = c.its_try.now })

    -- ---- what the step does to claims

    abbrev pub change : Change
    change = next_change v there

    change_is : change ≡ completes out handle k.offer o
    change_is = ap (change_going state held) runs ∙ ap (change_by state held o) acts

    pub takes_nothing : TakesNone kept.stands state o (action_of state o)
    takes_nothing = subst (TakesNone kept.stands state o) (sym acts) tt

    pub letting : IsLetting kept.stands kept.stands (IsLive state) change
    letting =
        subst (λ x. IsLetting kept.stands kept.stands (IsLive state) (change_going state held x)) (sym runs)
        (going_lets kept.stands kept.stands (λ j e. e) state held o (action_of state o) takes_nothing)

    pub makes_none : change.made ≡ []
    makes_none = ap (λ (x : Change). x.made) change_is ∙ completing_makes out handle k.offer o

    abbrev pub given : List Ref
    given = gives change held.claims

    pub owes_is : owes_then v there ≡ given ++ v.owed
    owes_is = ap (λ (cs : List Claim). owes_after (record change { added = cs }) held.claims v.owed) letting.added

    -- exactly so often
    pub often_given : (j : Ref) → how_often j given ≡ times_given carried state k.offer j
    often_given j = by carried done_is
      where
        by : (b : Bool) → is_done state sees ≡ b → how_often j given ≡ times_given b state k.offer j
        by true e = given_by_carried (bounds_for v.sizes there.steps) there.steps v.actor k.offer main j kept.bounds kept.keys sees e
        by false e = given_by_taken_back (bounds_for v.sizes there.steps) there.steps v.actor k.offer main j kept.bounds kept.keys sees e

    -- ---- its operation leads to what is given

    abbrev pub Known_by : Ref → Type 0
    Known_by r = IsKnown state (λ n. n ≡ o.id) r

    at_line : o.line ≡ line.Copy (copy.Complete (record { offer = k.offer; line = complete.Swap main }))
    at_line =
        let its = its_line c.completing k.offer main (ap (line_action state o) (sym c.own) ∙ acts) in
        c.own ∙ ap (λ d. line.Copy (copy.Complete (record { offer = d; line = c.completing.line }))) its.0 ∙ ap (λ l. line.Copy (copy.Complete (record { offer = k.offer; line = l }))) its.1

    of_offer : (r : Ref) → Contains (refs_of_offer k.offer) r → Known_by r
    of_offer r has =
        from_operation v.actor o r runs refl
        (Contains-append_left (refs_of_claims (line_wants state.limits.hash o.call o.access o.line)) o.private r
        (subst (λ l. Contains (refs_of_claims (line_wants state.limits.hash o.call o.access l)) r) (sym at_line)
        (subst (λ xs. Contains xs r) (sym (flat_map-append refs_of_claim (offer_wants k.offer) (Is main AMain ∷ [])))
        (Contains-append_left (refs_of_claims (offer_wants k.offer)) (refs_of_claims (Is main AMain ∷ [])) r (subst (λ xs. Contains xs r) (sym (refs_at_hand k.offer)) has)))))

    of_made : (r : Ref) → Contains (made_for k.offer) r → Known_by r
    of_made r has = of_offer r (Contains-append_right (k.offer.root ∷ k.offer.expected ∷ []) (made_for k.offer) r has)

    of_name : (q r : Ref) → Known_by q → Contains (refs_of_node (node_at state.heap q)) r → Known_by r
    unfolding node_at stored
    of_name q r known has =
        let here = led_here v s kept id at o runs q known in
        let slot_is = slot_at state.heap q here.0.0 here.0.1 in
        from_slot q r known
        (subst (λ x. Contains (refs_of_slot x) r) (sym slot_is)
        (Contains-append_left (refs_of_node here.0.0.node) (refs_of_prev here.0.0.prev) r (subst (λ x. Contains (refs_of_node (node_of x)) r) slot_is has)))

    pub made_stands : (r : Ref) → Contains (made_for k.offer) r → kept.stands (slot_of r) ≡ true
    made_stands r has = (led_here v s kept id at o runs r (of_made r has)).1

    pub given_known : (j : Ref) → Contains given j → Known_by j
    given_known j has =
        let first = has_often j given has in
        let is = often_given j in
        by carried (omega (arith, first, is))
      where
        by : (b : Bool) → 1 ≤ times_given b state k.offer j → Known_by j
        by true more =
            let (same, free) = both_true (k.offer.root == j) (not (is_freeze k.offer.opens k.offer.second)) (once_true _ more) in
            subst Known_by (eqb-true k.offer.root j same)
            (of_offer k.offer.root (Contains-append_left (k.offer.root ∷ []) (k.offer.expected ∷ made_for k.offer) k.offer.root (Contains-push [] k.offer.root)))
        by false more =
            let (x, in_made, named) = count_some (λ (y : Ref). names state y j) (made_for k.offer) more in
            of_name x j (of_made x in_made) (among (refs_of_node (node_at state.heap x)) j named)

    -- ---- the rule

    abbrev pub after : Account
    after = gone_on v.actor there

    abbrev pub gone : View
    gone = seen v after

    pub gives_there : (x : Claim) → change.fate x ≡ Given → is_there kept.stands x.by ≡ true
    gives_there x e = completing_gives kept.stands handle k.offer made_stands out o x (sym (ap (λ (z : Change). z.fate x) change_is) ∙ e)

    pub goes : GoesOn (action_of state o)
    goes = subst GoesOn (sym acts) tt

    pub fewer : (j : Ref) → claims_there kept.stands j (held_now v.sizes after).claims + how_often j given ≤ claims_there kept.stands j held.claims
    fewer j =
        let all = fewer_given j kept.stands change letting.added makes_none letting.stays gives_there held.claims in
        let is = ap (λ (h : Held). claims_there kept.stands j h.claims) (taken_now v.sizes there kept.bounds v.actor o runs goes after refl) in
        omega (arith, all, is)

    -- where no node changes, and no operation has made more
    module _ (words : List ℕ) (same : (n : ℕ) → IsCount v.sizes n → references words n ≡ references s.words n)
        (nodes : (n : ℕ) → get_or (state_of v.sizes after).heap.slots n None ≡ get_or state.heap.slots n None)
        (private : (a : ℕ) (q : Operation) → operation_of (state_of v.sizes after) a ≡ Some q → (r : Ref) → Contains q.private r →
        (p : Operation) × (operation_of state a ≡ Some p) × Contains p.private r) (h : AreHeld v.sizes after kept.stands words (set s.views id gone)) where
      pub held_then : AreHeld v.sizes after kept.stands words (set s.views id (owing gone (given ++ v.owed)))
      held_then =
          held_gives v.sizes after kept.stands words s.views id v at gone given h
          (λ j has. (let was = led_here v s kept id at o runs j (given_known j has) in ((alike_slots state (state_of v.sizes after) nodes).stays j was.0, was.1)))
          (λ j has a q is its. (let p = private a q is j its in led_own v s kept id at o runs j (given_known j has) a p.0 p.1 p.2))
          (given_counted v.sizes s kept id v at after refl (alike_slots state (state_of v.sizes after) nodes) words same gone refl refl given fewer)
          (let_go_gives v.sizes s kept id v at (step.Go v.actor) after refl refl (alike_slots state (state_of v.sizes after) nodes) words same gone refl refl letting makes_none gives_there
          (λ ks up. none_given_up kept.stands state v.actor o runs takes_nothing ks up) (taken_now v.sizes there kept.bounds v.actor o runs goes after refl))
          (λ j from. kept.nodes.live j (live_from v.sizes s kept after (alike_slots state (state_of v.sizes after) nodes).names (Contains given)
          (λ r has. led_lives v s kept id at o runs r (given_known r has)) j from))
