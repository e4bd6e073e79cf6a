-- Where an operation finds that its offer was taken back its seat retires the slots of the roots that were made for it.
use Rattle.history.specs.declared.calls.Call.{Call}
use Rattle.std.proofs.Common.{◌≡◌, ◌≢◌, ◌+◌, ◌*◌, ◌≤◌, ◌==◌, ◌&&◌, ◌++◌, inl, inr, ℕ, Bool, true, false, List, Contains, cond, flat_map, map, get_or, set, slice_index}
use Rattle.std.proofs.Common.{Some, None, refl, sym, ap, subst, ◌∙◌, append-nil, arith, eq-eqb}
use Rattle.std.proofs.lemmas.Bool.{cases_eq}
use Rattle.std.proofs.lemmas.List.Elements.{Contains-append_cases, Contains-append_left}
use Rattle.std.proofs.lemmas.List.Sums.{sum_by-append}
use mathlib.Core.Option.{some, none}
use lib.ListN.{get_elem?}
use prog.Atomic.{either}
use Rattle.atomic_table.specs.Table as Table
use Rattle.atomic_table.specs.Table.{Me, Allows, step}
use Rattle.machine_model.specs.Beneath.slot_arena.specs.declared.refs.Ref.{Ref}
use Rattle.machine_model.specs.Beneath.slot_arena.specs.Refs.{slot_of}
use Rattle.machine_model.specs.declared.actions.Action.TheVariants as act
use Rattle.machine_model.specs.declared.operations.Operation.{Operation}
use Rattle.machine_model.specs.declared.roots.Descriptor.{Descriptor}
use Rattle.machine_model.specs.States.{State, operation_of}
use Rattle.proof_claims.specs.Different.{AreDifferent}
use Rattle.proof_claims.specs.Held.{Change, Claim, Held, OfHandle, given_by, kept_by}
use Rattle.proof_claims.specs.Left.{is_done}
use Rattle.proof_memory.specs.Laws.{IsInUse}
use Rattle.lock_free.specs.declared.accounts.Account.{Account}
use Rattle.lock_free.specs.declared.accounts.Known.{Known}
use Rattle.lock_free.specs.declared.rules.Retired.{Retired}
use Rattle.lock_free.specs.declared.rules.View.{View}
use Rattle.lock_free.specs.declared.sizes.Sizes.{Sizes}
use Rattle.lock_free.specs.Accounts.{gone_on, place_of, state_of}
use Rattle.lock_free.specs.Claims.{claims_there, held_now}
use Rattle.lock_free.specs.Counts.{IsCount, how_often, owed_on, references}
use Rattle.lock_free.specs.Holdings.{AreHeld, IsHere, count_of, retired_of, retired_on}
use Rattle.lock_free.specs.Loading.{IsAt, IsSound, Moment, seen}
use Rattle.lock_free.specs.Nodes.{class_of}
use Rattle.lock_free.specs.OfferWords.{TookUnmarked, carried_by, outcome_by}
use Rattle.lock_free.specs.Outcomes.{ArePlaced, HasConcluded, IsConcluded, IsConcluding, concluded, has_concluded, made_for, root_retired, roots_left, times_given}
use Rattle.lock_free.specs.Owing.{owes_then, owing}
use Rattle.lock_free.specs.Places.{words_of}
use Rattle.lock_free.specs.Reclaiming.{retiring_all}
use Rattle.lock_free.specs.Shadows.{IsShadowed}
use Rattle.lock_free.specs.Rules.{AreEpochs, AreOwed, AreRetired, IsKept, IsRetired}
use Rattle.lock_free.proofs.AbortStep.{offer_apart}
use Rattle.lock_free.proofs.AllowedRetiring.{allowed_retiring}
use Rattle.lock_free.proofs.ClaimsThere.{often_has}
use Rattle.lock_free.proofs.CompleteStep as step_of
use Rattle.lock_free.proofs.CompleteStep.{its_offer, tells_it}
use Rattle.lock_free.proofs.CountsStay.{owed_set}
use Rattle.lock_free.proofs.CountWords.{slot_taken}
use Rattle.lock_free.proofs.EpochStays.{epoch_in}
use Rattle.lock_free.proofs.Exchanged.{words_hit, words_miss, words_then}
use Rattle.lock_free.proofs.Framing.{class_small}
use Rattle.lock_free.proofs.GivenCounted.{given_counted}
use Rattle.lock_free.proofs.Hanging.{slot_named}
use Rattle.lock_free.proofs.HeldLeads.{alike_slots}
use Rattle.lock_free.proofs.HeldRetiring.{claims_fewer}
use Rattle.lock_free.proofs.HeldRetiringAll.{held_retiring_all}
use Rattle.lock_free.proofs.HeldStep.{going_private, taken_now}
use Rattle.lock_free.proofs.HeldStill.{retired_set}
use Rattle.lock_free.proofs.Keeping.{held_read, kept_retiring_all}
use Rattle.lock_free.proofs.Led.{early_led, led_pinned}
use Rattle.lock_free.proofs.Looking.{same_action}
use Rattle.lock_free.proofs.Moments.{waited_so}
use Rattle.lock_free.proofs.OneStep.Found.{slot_at, used_made}
use Rattle.lock_free.proofs.OneStep.Settling.{complete_settles, complete_misses}
use Rattle.lock_free.proofs.OutcomeStep as outcome
use Rattle.lock_free.proofs.OwedStay.{owed_changing}
use Rattle.lock_free.proofs.Pools.{mapped}
use Rattle.lock_free.proofs.RetiredAll.{all_retired, roots_once}
use Rattle.lock_free.proofs.SeatOwing.{owing_sound}
use Rattle.lock_free.proofs.Settled as settled
use Rattle.lock_free.proofs.SettleHolds as holds
use Rattle.lock_free.proofs.TakenItems.{once_in, root_was_garbage, weight_is}
use Rattle.lock_free.proofs.TakenRoots.{root_ends, root_held, root_link, root_unretired, roots_differ}
use Rattle.lock_free.proofs.Waiting.{grown_none}

module _ (v : View) (slot : ℕ) (expected : Bool) (c : IsConcluding v slot expected) (s : Table.State Call View) (kept : IsKept v.sizes s) (id : ℕ) (at : get_elem? s.views id ≡ some v) where
  abbrev k : Known
  k = c.at.its

  abbrev main : Ref
  main = c.at.main

  abbrev word : ℕ
  word = 2 * k.slot

  abbrev found : ℕ
  found = slice_index s.words word

  abbrev carried : Bool
  carried = carried_by found expected

  abbrev there : Account
  there = kept.account

  abbrev state : State
  state = state_of v.sizes there

  abbrev held : Held
  held = held_now v.sizes there

  abbrev o : Operation
  o = outcome.o v slot expected c s kept id at

  abbrev change : Change
  change = outcome.change v slot expected c s kept id at

  abbrev given : List Ref
  given = outcome.given v slot expected c s kept id at

  abbrev after : Account
  after = gone_on v.actor there

  abbrev gone : View
  gone = seen v after

  -- ---- the roots that it retires

  abbrev roots : List Ref
  roots = roots_left carried k.offer

  abbrev stamp : ℕ
  stamp = epoch_in s.words

  abbrev items : List Retired
  items = map (root_retired after stamp) roots

  abbrev then_view : View
  then_view = concluded v there stamp roots

  record IsLeft (r : Ref) : Type 0 where
    pub undone : is_done state (outcome.sees v slot expected c s kept id at) ≡ false
    pub made : Contains (made_for k.offer) r

  is_left : (r : Ref) → Contains roots r → IsLeft r
  is_left r has = by carried refl has
    where
      by : (b : Bool) → carried ≡ b → Contains (roots_left b k.offer) r → IsLeft r
      by true e never = absurd (omega (arith, never.1))
      by false e made = record { undone = outcome.done_is v slot expected c s kept id at ∙ e; made = made }

  used : (r : Ref) → Contains roots r → IsInUse state.heap r
  used r has = let x = is_left r has in (root_link v.sizes there kept.bounds v.actor k.offer main (outcome.sees v slot expected c s kept id at) x.undone r x.made).0

  differ : AreDifferent roots
  differ = by carried refl
    where
      by : (b : Bool) → carried ≡ b → AreDifferent (roots_left b k.offer)
      by true e = tt
      by false e =
          roots_differ v.sizes there kept.bounds v.actor k.offer main (outcome.sees v slot expected c s kept id at) (outcome.done_is v slot expected c s kept id at ∙ e) kept.keys

  are_retired : (x : Retired) → Contains items x → IsRetired v.sizes after kept.stands x
  are_retired x has =
      let (r, its, same) = mapped (root_retired after stamp) roots x has in
      let y = is_left r its in
      subst (IsRetired v.sizes after kept.stands) same
      (record {
        was = root_was_garbage v.sizes there kept.bounds kept.quiet kept.counted v.actor k.offer main (outcome.sees v slot expected c s kept id at) y.undone stamp r y.made;
        grown = grown_none after;
        still = outcome.made_stands v slot expected c s kept id at r y.made;
      })

  shallow : (x : Retired) → Contains items x → x.deep ≡ false
  shallow x has = let y = mapped (root_retired after stamp) roots x has in ap (λ (z : Retired). z.deep) (sym y.2)

  now_stamped : (x : Retired) → Contains items x → x.stamp ≡ epoch_in s.words
  now_stamped x has = let y = mapped (root_retired after stamp) roots x has in ap (λ (z : Retired). z.stamp) (sym y.2)

  are_new : (x : Retired) → Contains items x → (j : ℕ) (u : View) → get_elem? s.views j ≡ some u → (y : Retired) → Contains u.retired y → y.number ≢ x.number
  are_new x has j u e y d same =
      let (r, its, is) = mapped (root_retired after stamp) roots x has in
      let z = is_left r its in
      let had = (kept.seats j u e).retired y d in
      root_unretired v.sizes there kept.bounds v.actor k.offer main (outcome.sees v slot expected c s kept id at) z.undone kept.quiet y had.was had.grown r z.made
      (same ∙ ap (λ (w : Retired). w.number) (sym is))

  pub are_placed : ArePlaced there roots
  are_placed r has =
      let y = is_left r has in
      let u = used r has in
      let stands = outcome.made_stands v slot expected c s kept id at r y.made in
      let taken = kept.nodes.within (slot_of r) u.0 (stands, slot_at state.heap r u.0 u.1) in
      let low = used_made v.sizes there kept.bounds r u in
      let counted = kept.counted in (
        omega (arith, low, counted),
        slot_named v.sizes (class_of u.0.node) (place_of there r) (class_small u.0.node)
            (slot_taken v.sizes s.words kept.taken (class_of u.0.node) (place_of there r) (class_small u.0.node) taken),
      )

  pub retires : AreEpochs s.words s.views → AreRetired v.sizes s.words s.views → AreRetired v.sizes s.words (set s.views id then_view)
  retires epochs old =
      all_retired v.sizes s.words items s.views id v at epochs old now_stamped are_new (roots_once state after stamp roots differ used) then_view refl (λ p same. same)

  -- ---- claims on them end

  ends_one : (j : Ref) → Contains roots j → claims_there kept.stands j (held_now v.sizes after).claims + how_often j given + 1 ≤ claims_there kept.stands j held.claims
  ends_one j has =
      let x = is_left j has in
      let sees = outcome.sees v slot expected c s kept id at in
      let (g, holds) = root_held v.sizes there kept.bounds v.actor k.offer main sees x.undone j x.made in
      let ends = root_ends v.sizes there kept.bounds v.actor k.offer main sees x.undone kept.keys j x.made g in
      let letting = outcome.letting v slot expected c s kept id at in
      let all =
      claims_fewer j kept.stands kept.stands change letting.stays (outcome.gives_there v slot expected c s kept id at) (record { by = OfHandle g; on = j }) ends
      (ap (λ b. b && true) (eq-eqb j j refl)) held.claims holds in
      let kept_claims : List Claim = flat_map (λ (x : Claim). kept_by (change.fate x) x.on) held.claims in
      let keeps =
      ap (λ (h : Held). claims_there kept.stands j h.claims)
      (taken_now v.sizes there kept.bounds v.actor o (outcome.runs v slot expected c s kept id at) (outcome.goes v slot expected c s kept id at) after refl)
      ∙ ap (λ (cs : List Claim). claims_there kept.stands j (kept_claims ++ cs)) letting.added ∙ ap (claims_there kept.stands j) (append-nil kept_claims) in
      let gives =
      ap (λ (ns : List Ref). how_often j (ns ++ flat_map (λ (x : Claim). given_by (change.fate x) x.on) held.claims)) (outcome.makes_none v slot expected c s kept id at) in
      omega (arith, all, keeps, gives)

  fewer : (j : Ref) → claims_there kept.stands j (held_now v.sizes after).claims + how_often j (given ++ roots) ≤ claims_there kept.stands j held.claims
  fewer j =
      let parts = sum_by-append (λ (x : Ref). cond {A = ℕ} (x == j) 1 0) given roots in
      elim (cases_eq (how_often j roots) 0) [
        | inl without ↦ (let all = outcome.fewer v slot expected c s kept id at j in omega (arith, all, parts, without))
        | inr some_left ↦
            (let once = once_in j roots differ in let all = ends_one j (often_has j roots (omega (arith, some_left))) in omega (arith, all, parts, once))
      ]

  -- ---- the rule, where no node changes, and no operation has made more

  module _ (words : List ℕ) (same : (n : ℕ) → IsCount v.sizes n → references words n ≡ references s.words n)
      (nodes : (n : ℕ) → get_or (state_of v.sizes after).heap.slots n None ≡ get_or state.heap.slots n None)
      (private : (a : ℕ) (q : Operation) → operation_of (state_of v.sizes after) a ≡ Some q → (r : Ref) → Contains q.private r →
      (p : Operation) × (operation_of state a ≡ Some p) × Contains p.private r) (h : AreHeld v.sizes after kept.stands words (set s.views id gone)) where
    abbrev with_given : View
    with_given = owing gone (given ++ v.owed)

    most : (j : Ref) → IsHere v.sizes after kept.stands j → claims_there kept.stands j (held_now v.sizes after).claims + owed_on j (set s.views id with_given)
        + (retired_on (slot_of j) (set s.views id with_given) + retired_of (slot_of j) items) ≤ references words (count_of v.sizes after j)
    most j here =
        let all =
        given_counted v.sizes s kept id v at after refl (alike_slots state (state_of v.sizes after) nodes) words same gone refl refl (given ++ roots) fewer j here in
        let parts = sum_by-append (λ (x : Ref). cond {A = ℕ} (x == j) 1 0) given roots in
        let owes = sum_by-append (λ (x : Ref). cond {A = ℕ} (x == j) 1 0) given v.owed in
        let weight = weight_is state j ((alike_slots state (state_of v.sizes after) nodes).used j here.0) after stamp roots used in
        let owed_now = owed_set j s.views id v at with_given in
        let owed_was = owed_set j s.views id v at gone in
        let retired_now = retired_set (slot_of j) s.views id v at with_given in
        let retired_was = retired_set (slot_of j) s.views id v at gone in
        omega (arith, all, parts, owes, weight, owed_now, owed_was, retired_now, retired_was)

    held_then : AreHeld v.sizes after kept.stands words (set s.views id (retiring_all with_given items))
    held_then =
        held_retiring_all v.sizes after kept.stands words s.views id v at with_given items shallow (outcome.held_then v slot expected c s kept id at words same nodes private h) most

    pub held_concluded : AreHeld v.sizes after kept.stands words (set s.views id then_view)
    held_concluded =
        subst (λ ks. AreHeld v.sizes after kept.stands words (set s.views id (retiring_all (owing gone ks) items))) (sym (outcome.owes_is v slot expected c s kept id at)) held_then

  abbrev outcome_now : ℕ
  outcome_now = outcome_by expected

  abbrev Settles : Type 0
  Settles =
      IsKept v.sizes (record { words = words_then v s kept id at word 0 outcome_now; homes = s.homes; views = set s.views id then_view }) × IsSound (words_of v.sizes) then_view

  old_sound : IsSound (words_of v.sizes) gone
  old_sound = (step_of.leaves v k main c.at.here c.at.acts c.at.on expected c.at.test s kept id at).0.1

  sound_then : IsSound (words_of v.sizes) then_view
  sound_then =
      let x = owing_sound (words_of v.sizes) gone (owes_then v there) old_sound in
      record { size = x.size; range = x.range; bounds = x.bounds; keys = x.keys; counted = x.counted; inside = x.inside; free = λ b n free. x.free b n free }

  hits : found ≡ 0 → Settles
  hits e =
      let here = step_of.here v k main c.at.here c.at.acts c.at.on expected c.at.test s kept id at in
      let runs = outcome.runs v slot expected c s kept id at in
      let takes = outcome.takes_nothing v slot expected c s kept id at in
      let settles = complete_settles v.sizes there kept.bounds v.actor o runs k main (outcome.acts v slot expected c s kept id at)
      (step_of.stood v k main c.at.here c.at.acts c.at.on expected c.at.test s kept id at e) expected
      (c.at.test (step_of.unsettled v k main c.at.here c.at.acts c.at.on expected c.at.test s kept id at e)) in (
        subst (λ ws. IsKept v.sizes (record { words = ws; homes = s.homes; views = set s.views id then_view })) (words_hit v s kept id at word 0 outcome_now e word refl)
            (holds.settle_retiring v.sizes s kept id v at o runs outcome_now k here settles c.at.on e (owes_then v there) items are_retired
            (held_concluded (settled.words_then v.sizes s kept id v at o runs outcome_now k here settles c.at.on e)
            (holds.same_counts v.sizes s kept id v at o runs outcome_now k here settles c.at.on e) settles.leaves.nodes
            (holds.private_then v.sizes s kept id v at o runs outcome_now k here settles c.at.on e takes)
            (holds.held_settled v.sizes s kept id v at o runs outcome_now k here settles c.at.on e takes))),
        sound_then,
      )

  misses : found ≢ 0 → Settles
  misses differs =
      let runs = outcome.runs v slot expected c s kept id at in
      let takes = outcome.takes_nothing v slot expected c s kept id at in
      let reads = complete_misses v.sizes there kept.bounds v.actor o runs k main (outcome.acts v slot expected c s kept id at)
      (step_of.no_more v k main c.at.here c.at.acts c.at.on expected c.at.test s kept id at differs) in (
        subst (λ ws. IsKept v.sizes (record { words = ws; homes = s.homes; views = set s.views id then_view })) (words_miss v s kept id at word 0 outcome_now differs)
            (kept_retiring_all v.sizes s kept id v at o runs reads takes (owes_then v there) items are_retired
            (held_concluded s.words (λ n is. refl) reads.nodes (going_private v.sizes s kept v.actor o runs takes after refl (state_of v.sizes after) reads.others reads.own)
            (held_read v.sizes s kept id v at o runs reads takes))),
        sound_then,
      )

  pub leaves : Settles
  leaves = elim (cases_eq found 0) [ inl e ↦ hits e | inr differs ↦ misses differs ]

  pub took : TookUnmarked v there then_view
  took = step_of.took v k main c.at.here c.at.acts c.at.on expected c.at.test s kept id at

  pub owed_then : AreEpochs s.words s.views → AreRetired v.sizes s.words s.views → AreOwed s.views → AreOwed (set s.views id then_view)
  owed_then epochs old h =
      owed_changing s.views id v at then_view (Contains given) (λ x. x.stamp ≡ epoch_in s.words)
      (λ j has. elim (Contains-append_cases given v.owed j (subst (λ ks. Contains ks j) (outcome.owes_is v slot expected c s kept id at) has)) [ inl new ↦ inr new | inr was ↦ inl was ]) refl
      (λ j has. led_pinned v s kept id at o (outcome.runs v slot expected c s kept id at))
      (λ x has. elim (Contains-append_cases v.retired items x has) [ inl old ↦ inl old | inr new ↦ inr (now_stamped x new) ])
      (λ i u e x has j new. early_led v s kept id at o (outcome.runs v slot expected c s kept id at) j (outcome.given_known v slot expected c s kept id at j new) old i u e x has)
      (λ x now j u e p is. (let low = (epochs.pinned j u e p is).since in omega (arith, low, now))) h

  pub owes_often : (j : Ref) → how_often j (owes_then v there) ≡ how_often j v.owed + times_given carried state k.offer j
  owes_often j =
      let is = ap (how_often j) (outcome.owes_is v slot expected c s kept id at) in
      let parts = sum_by-append (λ (x : Ref). cond {A = ℕ} (x == j) 1 0) given v.owed in
      let its = outcome.often_given v slot expected c s kept id at j in omega (arith, is, parts, its)

-- ---- whichever offer the seat is said to be on

outcome_once : (a b : Bool) → outcome_by a ≡ outcome_by b → a ≡ b
outcome_once true true e = refl
outcome_once false false e = refl
outcome_once true false e = let wrong : ⊥ = omega (arith, e) in absurd wrong
outcome_once false true e = let wrong : ⊥ = omega (arith, e) in absurd wrong

module _ (v : View) (slot : ℕ) (expected : Bool) (a : IsConcluding v slot expected) (s : Table.State Call View) (kept : IsKept v.sizes s) (id : ℕ) (at : get_elem? s.views id ≡ some v)
    (place : ℕ) (other : Bool) (b : IsConcluding v place other) (same : outcome_by expected ≡ outcome_by other) where
  abbrev found_there : ℕ
  found_there = slice_index s.words (2 * a.at.its.slot)

  abbrev there_moment : Moment v (2 * a.at.its.slot) found_there
  there_moment = record { table = s; kept = kept; id = id; at = at; finds = refl }

  one_offer : a.at.its.offer ≡ b.at.its.offer
  one_offer =
      let is : act.Complete a.at.its.offer a.at.main ≡ act.Complete b.at.its.offer b.at.main =
      same_action v (act.Complete a.at.its.offer a.at.main) (act.Complete b.at.its.offer b.at.main) a.at.acts b.at.acts in cc is

  pub is_concluded : IsConcluded v b.at.its.offer (carried_by found_there other) (2 * a.at.its.slot) found_there
      (concluded v kept.account (epoch_in s.words) (roots_left (carried_by found_there expected) a.at.its.offer))
  is_concluded = record {
    moment = there_moment;
    epoch = epoch_in s.words;
    is = ap (λ d. concluded v kept.account (epoch_in s.words) (roots_left (carried_by found_there expected) d)) one_offer
        ∙ ap (λ e. concluded v kept.account (epoch_in s.words) (roots_left (carried_by found_there e) b.at.its.offer)) (outcome_once expected other same);
    made = subst (λ d. ArePlaced kept.account (roots_left (carried_by found_there other) d)) one_offer
        (subst (λ e. ArePlaced kept.account (roots_left (carried_by found_there e) a.at.its.offer)) (outcome_once expected other same) (are_placed v slot expected a s kept id at));
    took = took v slot expected a s kept id at;
  }

pub conclude_allowed : (sizes : Sizes) (size id : ℕ) (me : Me Call View) (some_seats : 1 ≤ me.0.sizes.seats) (slot : ℕ) (expected : Bool) → IsConcluding me.0 slot expected →
    Allows (IsShadowed sizes) size id me (2 * slot) (λ n. either (n == 0) (outcome_by expected) n) (has_concluded (step size (2 * slot) 0 (outcome_by expected) none) me)
conclude_allowed sizes size id me some_seats slot expected a =
    subst (λ n. Allows (IsShadowed sizes) size id me (2 * n) (λ x. either (x == 0) (outcome_by expected) x) (has_concluded (step size (2 * n) 0 (outcome_by expected) none) me)) a.at.place
    (allowed_retiring sizes size id me (2 * a.at.its.slot) (λ n. either (n == 0) (outcome_by expected) n) (has_concluded (step size (2 * a.at.its.slot) 0 (outcome_by expected) none) me)
    some_seats (λ s kept at. inl (offer_apart me.0 s kept id at a.at.its a.at.here))
    (λ s kept at. (let x = leaves me.0 slot expected a s kept id at in (
      concluded me.0 kept.account (epoch_in s.words) (roots_left (carried_by (slice_index s.words (2 * a.at.its.slot)) expected) a.at.its.offer),
      x.0,
      ((λ place other b on same. is_concluded me.0 slot expected a s kept id at place other b same), x.1, refl),
    )))
    (λ s kept at. (record { actor = refl; epoch = refl; passed = refl; glance = refl; pinned = λ p same. same }, refl, refl, λ x has. Contains-append_left me.0.retired _ x has))
    (λ s kept at. retires me.0 slot expected a s kept id at) (λ s kept at. owed_then me.0 slot expected a s kept id at))

-- what the seat is told
pub conclude_told : (before : View) (slot : ℕ) (expected : Bool) (a : IsConcluding before slot expected) (found : ℕ) (after : View) →
    IsConcluded before a.at.its.offer (carried_by found expected) (2 * slot) found after → HasConcluded before (carried_by found expected) after
conclude_told before slot expected a found w x =
    let m = x.moment in
    record {
      account = m.kept.account;
      epoch = x.epoch;
      waited = waited_so before m.table m.kept m.id m.at;
      after_is = λ offer main q. x.is ∙ ap (λ d. concluded before m.kept.account x.epoch (roots_left (carried_by found expected) d)) (one offer main q);
      took = x.took;
      made = λ offer main q. subst (λ d. ArePlaced m.kept.account (roots_left (carried_by found expected) d)) (one offer main q) x.made;
      tells = tells_it before slot expected a.at found m;
      given = λ offer main j q.
          (let finds : slice_index m.table.words (2 * a.at.its.slot) ≡ found = ap (λ n. slice_index m.table.words (2 * n)) a.at.place ∙ m.finds in
          ap (λ (y : View). how_often j y.owed) x.is ∙ owes_often before slot expected a m.table m.kept m.id m.at j
          ∙ ap (λ d. how_often j before.owed + times_given (carried_by (slice_index m.table.words (2 * a.at.its.slot)) expected) (state_of before.sizes m.kept.account) d j) (one offer main q)
          ∙ ap (λ n. how_often j before.owed + times_given (carried_by n expected) (state_of before.sizes m.kept.account) offer j) finds);
    }
  where
    one : (offer : Descriptor) (main : Ref) → IsAt before (act.Complete offer main) → a.at.its.offer ≡ offer
    one offer main q = ap (λ (x : Descriptor × Ref). x.0) (its_offer before slot expected a.at found x.moment offer main q)
