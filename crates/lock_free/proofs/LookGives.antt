-- Who looks how its SWAP was decided holds what this gives to it, and each reference is counted still.
use Rattle.history.specs.declared.calls.Call.{Call}
use Rattle.std.proofs.Common.{◌≡◌, ◌+◌, ◌≤◌, ◌==◌, ◌&&◌, ◌⊎◌, ◌++◌, inl, inr, ℕ, true, false, List, Contains, Some, cond, flat_map, set, refl, sym, ap, subst, ◌∙◌, arith, append-nil, eq-eqb}
use Rattle.std.proofs.lemmas.Bool.{cases_eq}
use Rattle.std.proofs.lemmas.List.Elements.{Contains-append_cases}
use Rattle.std.proofs.lemmas.List.Sums.{sum_by-append}
use mathlib.Core.Option.{some}
use lib.ListN.{get_elem?}
use Rattle.atomic_table.specs.Table as Table
use Rattle.machine_model.specs.Beneath.slot_arena.specs.declared.refs.Ref.{Ref}
use Rattle.machine_model.specs.Beneath.slot_arena.specs.Refs.{slot_of}
use Rattle.machine_model.specs.declared.lines.Line.TheVariants as line
use Rattle.machine_model.specs.declared.lines.Purpose.{Purpose}
use Rattle.machine_model.specs.declared.operations.Operation.{Operation}
use Rattle.machine_model.specs.declared.reading.SwapLine.TheVariants as swap
use Rattle.machine_model.specs.declared.steps.Step.TheVariants as machine
use Rattle.machine_model.specs.Operations.{action_of}
use Rattle.machine_model.specs.States.{State, operation_of}
use Rattle.proof_claims.specs.Changes.{change_of}
use Rattle.proof_claims.specs.Claims.{Has}
use Rattle.proof_claims.specs.Held.{Change, Claim, Ends, Held, OfNode, given_by, kept_by}
use Rattle.lock_free.specs.declared.accounts.Account.{Account}
use Rattle.lock_free.specs.declared.rules.Retired.{Retired}
use Rattle.lock_free.specs.declared.rules.View.{View}
use Rattle.lock_free.specs.Accounts.{gone_on, place_of, running, state_of}
use Rattle.lock_free.specs.Claims.{claims_there, held_now, is_claim_on, without_all}
use Rattle.lock_free.specs.Counts.{how_often, owed_on, references}
use Rattle.lock_free.specs.Holdings.{AreHeld, IsHere, count_of, retired_on, HasBeenLetGo}
use Rattle.lock_free.specs.Live.{IsKnown}
use Rattle.lock_free.specs.Owing.{owes_then, owing}
use Rattle.lock_free.specs.Places.{count_word}
use Rattle.lock_free.specs.Reclaiming.{retiring}
use Rattle.lock_free.specs.Rules.{IsKept, Standing}
use Rattle.lock_free.specs.Steps.{Reads, nothing}
use Rattle.lock_free.proofs.CountsStay.{owed_set}
use Rattle.lock_free.proofs.HeldGives.{held_gives}
use Rattle.lock_free.proofs.HeldGone.{AreAlike}
use Rattle.lock_free.proofs.HeldLeads.{alike_slots}
use Rattle.lock_free.proofs.HeldRetiring.{claims_fewer, held_retiring}
use Rattle.lock_free.proofs.HeldStill.{retired_set}
use Rattle.lock_free.proofs.Keeping.{held_read, standing}
use Rattle.lock_free.proofs.Led.{led_here, led_own, led_lives}
use Rattle.lock_free.proofs.Lettings.{TakesNone}
use Rattle.lock_free.proofs.SwapChecks.{balance, given, given_there, held_then, letting, link_lives, makes_none, takes_none}
use Rattle.lock_free.proofs.LetGoGives.{let_go_gives}
use Rattle.lock_free.proofs.LetGoSince.{none_given_up}
use Rattle.lock_free.proofs.HeldFrom.{live_from}
use Rattle.lock_free.specs.Reached.{IsHeldFrom}

module _ (v : View) (s : Table.State Call View) (kept : IsKept v.sizes s) (id : ℕ) (at : get_elem? s.views id ≡ some v) (o : Operation) (runs : running v.sizes kept.account v.actor o) (why : Purpose)
    (i m f : Ref) (e : o.line ≡ line.Swap why (record { indirection = i; replaced = m; fresh = f; line = swap.Check })) (reads : Reads v.sizes kept.account v.actor o)
    (takes : TakesNone kept.stands (state_of v.sizes kept.account) o (action_of (state_of v.sizes kept.account) o)) where
  abbrev there : Account
  there = kept.account

  abbrev state : State
  state = state_of v.sizes there

  abbrev after : Account
  after = gone_on v.actor there

  abbrev stands : Standing
  stands = standing kept.stands nothing

  abbrev held : Held
  held = held_now v.sizes there

  abbrev its : List Ref
  its = given v.sizes there kept.bounds v.actor o runs why i m f e

  pub owes_is : owes_then v kept.account ≡ given v.sizes kept.account kept.bounds v.actor o runs why i m f e ++ v.owed
  owes_is = ap (λ ts. its ++ without_all ts v.owed) (takes_none v.sizes there kept.bounds v.actor o runs why i m f e)

  abbrev gone : View
  gone = record v { account = after }

  abbrev pub owing_view : View
  owing_view = owing (record v { account = gone_on v.actor kept.account }) (owes_then v kept.account)

  alike : AreAlike state (state_of v.sizes after)
  alike = alike_slots state (state_of v.sizes after) reads.nodes

  count_same : (k : Ref) → IsHere v.sizes after stands k → count_of v.sizes after k ≡ count_of v.sizes there k
  count_same k here = ap (λ c. count_word v.sizes c (place_of there k)) (alike.classes k here.0)

  was_here : (k : Ref) → IsHere v.sizes after stands k → IsHere v.sizes there kept.stands k
  was_here k here = (alike.used k here.0, here.1)

  counted : (k : Ref) → IsHere v.sizes after stands k → claims_there stands k (held_now v.sizes after).claims + how_often k its + owed_on k (set s.views id gone) + retired_on (slot_of k)
      (set s.views id gone) ≤ references s.words (count_of v.sizes after k)
  counted k here =
      let old = kept.held.counted k (was_here k here) in
      let claims = balance v.sizes there kept.bounds v.actor o runs why i m f e kept.stands kept.nodes.live after refl k in
      let seats = owed_set k s.views id v at gone in
      let slots = retired_set (slot_of k) s.views id v at gone in
      let count = ap (references s.words) (count_same k here) in
      omega (arith, old, claims, seats, slots, count)

  -- where its operation leads to what is given
  module _ (led : (k : Ref) → Contains its k → IsKnown (state_of v.sizes kept.account) (λ n. n ≡ o.id) k) where
    given_here : (k : Ref) → Contains its k → IsHere v.sizes after stands k
    given_here k c = let here = led_here v s kept id at o runs k (led k c) in (alike.stays k here.0, here.1)

    given_own : (k : Ref) → Contains its k → (a : ℕ) (p : Operation) → operation_of (state_of v.sizes after) a ≡ Some p → Contains p.private k → a ≡ v.actor
    given_own k c a p its_runs has = elim (cases_eq a v.actor) [
      | inl same ↦ same
      | inr differs ↦ led_own v s kept id at o runs k (led k c) a p (sym (reads.others a differs) ∙ its_runs) has
    ]

    given_let_go : (k : Ref) → HasBeenLetGo v.sizes after k → IsHere v.sizes after stands k →
        claims_there stands k (held_now v.sizes after).claims + how_often k its + owed_on k (set s.views id gone) + 1 ≤ references s.words (count_of v.sizes after k)
    given_let_go =
        let_go_gives v.sizes s kept id v at (machine.Go v.actor) after refl refl alike s.words (λ c is. refl) gone refl refl
        (letting v.sizes there kept.bounds v.actor o runs why i m f e kept.stands kept.nodes.live) (makes_none v.sizes there kept.bounds v.actor o runs why i m f e)
        (given_there v.sizes there kept.bounds v.actor o runs why i m f e kept.stands kept.nodes.live) (λ private up. none_given_up kept.stands state v.actor o runs takes private up)
        (held_then v.sizes there kept.bounds v.actor o runs why i m f e kept.stands kept.nodes.live after refl)

    given_below : (k : Ref) → IsHeldFrom v.sizes after (Contains its) k → stands (slot_of k) ≡ true
    given_below k from = kept.nodes.live k (live_from v.sizes s kept after alike.names (Contains its) (λ r c. led_lives v s kept id at o runs r (led r c)) k from)

    pub held_owing : AreHeld v.sizes (gone_on v.actor kept.account) (standing kept.stands nothing) s.words (set s.views id owing_view)
    held_owing =
        subst (λ ks. AreHeld v.sizes after stands s.words (set s.views id (owing gone ks))) (sym owes_is)
        (held_gives v.sizes after stands s.words s.views id v at gone its (held_read v.sizes s kept id v at o runs reads takes) given_here given_own counted
        given_let_go given_below)

    -- what the seat holds it held, or its operation leads there
    pub had_or : (k : Ref) → Contains (owes_then v kept.account) k → Contains v.owed k ⊎ IsKnown (state_of v.sizes kept.account) (λ n. n ≡ o.id) k
    had_or k c = elim (Contains-append_cases its v.owed k (subst (λ ks. Contains ks k) owes_is c)) [ inl new ↦ inr (led k new) | inr old ↦ inl old ]

    -- it has retired this node, on which the indirection's claim ends
    module _ (r : Ref) (x : Retired) (number : x.number ≡ slot_of r) (shallow : x.deep ≡ false) (here : IsHere v.sizes kept.account kept.stands r)
        (claimed : Has (held_now v.sizes kept.account) (OfNode i) r)
        (ends : (change_of (state_of v.sizes kept.account) (held_now v.sizes kept.account) (machine.Go v.actor)).fate (record { by = OfNode i; on = r }) ≡ Ends) where
      abbrev ended : Claim
      ended = record { by = OfNode i; on = r }

      abbrev change : Change
      change = change_of state held (machine.Go v.actor)

      there_is : is_claim_on kept.stands r ended ≡ true
      there_is = ap (λ b. b && kept.stands (slot_of i)) (eq-eqb r r refl) ∙ kept.nodes.live i (link_lives v.sizes there kept.bounds v.actor o runs why i m f e)

      spare_one : claims_there stands r (held_now v.sizes after).claims + owed_on r (set s.views id owing_view) + retired_on (slot_of r) (set s.views id owing_view) + 1 ≤ references s.words
          (count_of v.sizes after r)
      spare_one =
          let old = kept.held.counted r here in
          let lets = letting v.sizes there kept.bounds v.actor o runs why i m f e kept.stands kept.nodes.live in
          let theirs = given_there v.sizes there kept.bounds v.actor o runs why i m f e kept.stands kept.nodes.live in
          let fewer = claims_fewer r kept.stands kept.stands change lets.stays theirs ended ends there_is held.claims claimed in
          let kept_ones : List Claim = flat_map (λ (c : Claim). kept_by (change.fate c) c.on) held.claims in
          let now = ap (λ (h : Held). claims_there kept.stands r h.claims) (held_then v.sizes there kept.bounds v.actor o runs why i m f e kept.stands kept.nodes.live after refl)
          ∙ ap (claims_there kept.stands r) (ap (λ cs. kept_ones ++ cs) lets.added ∙ append-nil kept_ones) in
          let gifts = ap (λ ms. how_often r (ms ++ flat_map (λ (c : Claim). given_by (change.fate c) c.on) held.claims)) (makes_none v.sizes there kept.bounds v.actor o runs why i m f e) in
          let seats = owed_set r s.views id v at owing_view in
          let owed = ap (how_often r) owes_is ∙ sum_by-append (λ (y : Ref). cond {A = ℕ} (y == r) 1 0) its v.owed in
          let slots = retired_set (slot_of r) s.views id v at owing_view in
          let count = ap (references s.words) (count_same r (alike.stays r here.0, here.1)) in
          omega (arith, old, fewer, now, gifts, seats, owed, slots, count)

      pub held_letting_go : AreHeld v.sizes (gone_on v.actor kept.account) (standing kept.stands nothing) s.words (set s.views id (retiring owing_view x))
      held_letting_go = held_retiring v.sizes after stands s.words s.views id v at owing_view x held_owing r (alike.stays r here.0) number shallow spare_one
