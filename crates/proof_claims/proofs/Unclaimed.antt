-- What was let go of, and neither roots nor running operations follow any more, nobody has a claim on.
use Rattle.std.proofs.Common.{◌≡◌, inl, inr, ℕ, suc, Bool, true, false, List, [], ◌∷◌, ◌++◌, Contains, Some, refl, sym, ap, subst, ◌∙◌, append_assoc, arith}
use Rattle.std.proofs.lemmas.Bool.{cases_eq, true≢false}
use Rattle.std.proofs.lemmas.Option.{same_Some}
use Rattle.std.proofs.lemmas.List.Elements.{Contains-append_right}
use Rattle.proof_claims.specs.Beneath.slot_arena.specs.declared.nodes.Node.{Node}
use Rattle.proof_claims.specs.Beneath.slot_arena.specs.declared.nodes.Node.TheVariants.{Indirection, Branch, Single, Tomb, List as Listed}
use Rattle.proof_claims.specs.Beneath.slot_arena.specs.declared.nodes.Prev.TheVariants as prev
use Rattle.proof_claims.specs.Beneath.slot_arena.specs.declared.refs.Ref.{Ref}
use Rattle.proof_claims.specs.Beneath.slot_arena.specs.Heaps.{node_at, prev_at, refs_of_option}
use Rattle.proof_claims.specs.Beneath.machine_model.specs.declared.operations.Operation.{Operation}
use Rattle.proof_claims.specs.Beneath.machine_model.specs.declared.roots.Descriptor.{Descriptor}
use Rattle.proof_claims.specs.Beneath.machine_model.specs.declared.roots.RootWord.TheVariants.{Offer}
use Rattle.proof_claims.specs.Beneath.machine_model.specs.declared.steps.Bounds.{Bounds}
use Rattle.proof_claims.specs.Beneath.machine_model.specs.declared.reading.SwapLine.TheVariants as swap
use Rattle.proof_claims.specs.Beneath.machine_model.specs.declared.steps.Step.{Step}
use Rattle.proof_claims.specs.Beneath.machine_model.specs.declared.steps.Step.TheVariants as step
use Rattle.proof_claims.specs.Beneath.machine_model.specs.Counting.{refs_of_word}
use Rattle.proof_claims.specs.Beneath.machine_model.specs.Grown.{main_before, node_under}
use Rattle.proof_claims.specs.Beneath.machine_model.specs.Keys.{KeysFit}
use Rattle.proof_claims.specs.Beneath.machine_model.specs.Machine.{AreBounds, is_taken_step, next, run}
use Rattle.proof_claims.specs.Beneath.machine_model.specs.States.{Runs, State}
use Rattle.proof_claims.specs.Beneath.machine_model.specs.Times.{IsRun, last_of, states_of}
use Rattle.proof_claims.specs.Beneath.machine_model.proofs.Basics.{none≢failed}
use Rattle.proof_claims.specs.Beneath.machine_model.proofs.Fates.{place_of_actor}
use Rattle.proof_claims.specs.Beneath.machine_model.proofs.Times.{run_is}
use Rattle.proof_claims.specs.Beneath.proof_commits.proofs.Course.Mains.{replaced_for_good}
use Rattle.proof_claims.specs.Beneath.proof_commits.proofs.Known.Sounds.{sound_at}
use Rattle.proof_claims.specs.Beneath.proof_commits.proofs.Words.Stood.{Stood}
use Rattle.proof_claims.specs.Beneath.proof_commits.specs.Protocol.{Protocol}
use Rattle.proof_claims.specs.Beneath.proof_contents.proofs.Values.Runs.{counting_main-last}
use Rattle.proof_claims.specs.Beneath.proof_followed.proofs.InUse.{followed_used, line_followed}
use Rattle.proof_claims.specs.Beneath.proof_followed.proofs.Stays.{own_wants}
use Rattle.proof_claims.specs.Beneath.proof_followed.specs.Followed.{IsFollowedByAny, followed_claims, followed_wants, from_operation, from_root, from_slot}
use Rattle.proof_claims.specs.Beneath.proof_garbage.proofs.Claims.{from_all}
use Rattle.proof_claims.specs.Beneath.proof_garbage.specs.Live.{refs_of_claims}
use Rattle.proof_claims.specs.Beneath.proof_generations.proofs.Falling.KnownRoots.{protocol_of}
use Rattle.proof_claims.specs.Beneath.proof_generations.proofs.Falling.Nodes.{used_same}
use Rattle.proof_claims.specs.Beneath.proof_generations.proofs.Offers.Standing.{completes_it, own_offer}
use Rattle.proof_claims.specs.Beneath.proof_generations.proofs.Roots.Kept.{fresh_of}
use Rattle.proof_claims.specs.Beneath.proof_generations.proofs.Roots.Own.{its_fresh}
use Rattle.proof_claims.specs.Beneath.proof_memory.proofs.Safety.AtEachTime.{safe_along}
use Rattle.proof_claims.specs.Beneath.proof_memory.proofs.Safety.Held.{word_refs}
use Rattle.proof_claims.specs.Beneath.proof_memory.proofs.Safety.Standing.{in_private_list}
use Rattle.proof_claims.specs.Beneath.proof_memory.specs.Laws.{IsInUse, SameNode}
use Rattle.proof_claims.specs.Beneath.proof_memory.specs.Wants.{AMain, AllHold, meets, offer_wants}
use Rattle.proof_claims.specs.Beneath.proof_owned.proofs.Linked.{stood_is_main}
use Rattle.proof_claims.specs.Beneath.proof_owned.proofs.MainsInUse.{link_at}
use Rattle.proof_claims.specs.Beneath.proof_owned.proofs.OfLists.{gone, was}
use Rattle.proof_claims.specs.Beneath.proof_owned.proofs.OneMain.{own_unopened}
use Rattle.proof_claims.specs.Beneath.proof_owned.proofs.Theirs.{theirs}
use Rattle.proof_claims.specs.Beneath.proof_owned.specs.Laws.{IsReplaced}
use Rattle.proof_claims.specs.Beneath.proof_owned.specs.Owned.{IsOwn}
use Rattle.proof_claims.specs.Beneath.proof_reuse.proofs.SwappedOut.{was_replaced}
use Rattle.proof_claims.specs.Beneath.proof_reuse.specs.Laws.{HasReplaced}
use Rattle.proof_claims.specs.Claims.{Has, held_of}
use Rattle.proof_claims.specs.Changes.{change_of, checks}
use Rattle.proof_claims.specs.Dropped.{HasFailed, IsLetGo, LetsGo, WasLetGo}
use Rattle.proof_claims.specs.Held.{Change, Holder, OfHandle, OfNode, Stays, is_owned}
use Rattle.proof_claims.proofs.Along.{own_on}
use Rattle.proof_claims.proofs.Checking.{checks_change, left_goes}
use Rattle.proof_claims.proofs.ClaimPlaces.{ClaimFits, IsEntry, by_link, claim_places, on_entry}
use Rattle.proof_claims.proofs.ClaimsDiffer.{claims_fit, keys_before}
use Rattle.proof_claims.proofs.EndedLinks.{left_ends, link_free_since}
use Rattle.proof_claims.proofs.FromRoots.{named_in_slot}
use Rattle.proof_claims.proofs.InSwap.{used_i}
use Rattle.proof_claims.proofs.LeftMains.{IsLeft, failed_left, replaced_left}
use Rattle.proof_claims.proofs.LetGoThen.{at_check, given_up_unfollowed, offered_unfollowed}
use Rattle.proof_claims.proofs.Ownership.{owned_is_own}
use Rattle.proof_claims.proofs.OnceSo.{OnceSo, WasOpen, opened_once, stood_once}
use Rattle.proof_claims.proofs.PrivatesHold.{privates_hold}
use Rattle.proof_claims.proofs.RootClaims.{HoldsRoot, its_offer, its_root, left_over, to_open}
use Rattle.proof_claims.proofs.RootsHold.{roots_hold}
use Rattle.proof_claims.proofs.RootsInCourse.{InCourse, in_offer, unoffered}
use Rattle.proof_claims.proofs.SwapOn.{swap_at}
use Rattle.proof_claims.proofs.UnclaimedSince.{free_since, given_up_none, offered_none}
use Rattle.proof_claims.proofs.Unlinked.{over, used as used_failed}
use Rattle.proof_claims.proofs.WhoLetsGo.{LetsGoSo, lets_go_so, so_failed, so_given_up, so_offered, so_replaced}

-- what is no main node stays none
still_no_main : (before now : Node) → SameNode before now → meets AMain before ≡ false → meets AMain now ≡ false
still_no_main (Indirection g x) now (m, e) h = ap (meets AMain) e
still_no_main (Branch b es) now (m, e) h = ap (meets AMain) e ∙ h
still_no_main (Single k v) now (m, e) h = ap (meets AMain) e ∙ h
still_no_main (Tomb s) now (m, e) h = ap (meets AMain) e ∙ h
still_no_main (Listed ss) now (m, e) h = ap (meets AMain) e ∙ h

-- what an offer's word names
second_in : (offer : Descriptor) (r : Ref) → offer.second ≡ Some r → Contains (refs_of_word (Offer offer)) r
second_in offer r e = subst (λ o. Contains (offer.root ∷ offer.expected ∷ offer.successor ∷ refs_of_option o) r) (sym e) (3, omega arith, refl)

-- ---- who holds it is followed

module _ (limits : Bounds) (ok : AreBounds limits) (steps : List Step) (keys : KeysFit steps) where
  abbrev state : State
  state = run limits steps

  -- who completes its own offer follows all that this names
  offer_followed : (k : ℕ) (operation : Operation) (offer : Descriptor) → Runs state k operation → own_offer operation.line ≡ Some offer → (r : Ref) → Contains (refs_of_word (Offer offer)) r →
      IsFollowedByAny state r
  offer_followed k operation offer runs own r c =
      let (d, on, its) = completes_it operation.line offer own in
      let wants = own_wants (IsFollowedByAny state) state.heap state.limits.hash operation.call operation.access d.offer d.line
      (subst (λ l. AllHold (IsFollowedByAny state) state.heap (followed_wants state.limits.hash operation.call operation.access l)) on
      (line_followed state (safe_along limits ok steps) (λ id. Unit {0}) (suc k) operation runs tt)) in
      from_all (IsFollowedByAny state) (refs_of_word (Offer offer))
      (word_refs (IsFollowedByAny state) state.heap (Offer offer) (subst (λ (x : Descriptor). AllHold (IsFollowedByAny state) state.heap (offer_wants x)) its wants)) r c

  -- what a handle has a claim on is followed
  handle_followed : (n : ℕ) (r : Ref) → HoldsRoot state n r → IsFollowedByAny state r
  handle_followed n r (its_root root e is) = from_root n root r e is
  handle_followed n r (its_offer k operation offer runs own unmarked on_h is) = offer_followed k operation offer runs own r (2, omega arith, is)
  handle_followed n r (to_open k operation offer runs own unmarked opens is) = offer_followed k operation offer runs own r (second_in offer r is)
  handle_followed n r (left_over k operation offer runs own marked on_h is free) = offer_followed k operation offer runs own r (0, omega arith, is)

  -- so is a copy's root
  root_followed : (y : Ref) → InCourse state y → IsFollowedByAny state y
  root_followed y (unoffered k operation x runs its mine) =
      from_operation (suc k) operation y runs tt (Contains-append_right (refs_of_claims (followed_claims state operation)) operation.private y mine)
  root_followed y (in_offer k operation offer x runs own unmarked its) = offer_followed k operation offer runs own y (by x its)
    where
      by : (x : Bool) → fresh_of x offer ≡ Some y → Contains (refs_of_word (Offer offer)) y
      by true e = (2, omega arith, same_Some offer.successor y e)
      by false e = second_in offer y e

  -- and what it has one on
  course_followed : (y r : Ref) → InCourse state y → Has (held_of limits steps) (OfNode y) r → IsFollowedByAny state r
  course_followed y r (unoffered k operation x runs its mine) has =
      from_slot y r (root_followed y (unoffered k operation x runs its mine))
      (named_in_slot limits steps ok y r (in_private_list state (safe_along limits ok steps) (suc k) operation y runs mine) ((privates_hold limits ok steps keys k operation runs y mine).names r has))
  course_followed y r (in_offer k operation offer x runs own unmarked its) has =
      let fresh = its_fresh operation.line offer x y own its in
      let followed = root_followed y (in_offer k operation offer x runs own unmarked its) in
      from_slot y r followed
      (named_in_slot limits steps ok y r (followed_used state (safe_along limits ok steps) (λ id. Unit {0}) followed)
      ((roots_hold limits ok steps keys k operation runs unmarked x y fresh).names r has))

  -- ---- a main node

  module _ (i j : Ref) (left : IsLeft limits ok steps i j) where
    abbrev states : ℕ → State
    states = states_of limits steps

    abbrev last : ℕ
    last = last_of limits steps

    abbrev is_run : IsRun limits states last
    is_run = run_is limits steps ok

    abbrev p : Protocol
    p = protocol_of is_run

    main : meets AMain (node_under states last j) ≡ true
    main = stood_is_main is_run last (omega arith) i j left.stood

    not_entry : OnceSo limits steps (IsEntry j) → ⊥
    not_entry (u, within, (used, none)) = true≢false (sym main ∙ still_no_main (node_at (states u).heap j) (node_under states last j) (used_same is_run u within j used) none)

    -- where the indirection has no claim on it any more nobody has, but where another one that was opened stood over it
    module _ (apart : (y : Ref) → (y ≡ i → ⊥) → Stood p.words last y j → WasOpen limits steps y → ⊥) (ended : Has (held_of limits steps) (OfNode i) j → ⊥) where
      by_place : (y : Ref) → Has (held_of limits steps) (OfNode y) j → (InCourse state y → ⊥) → ClaimFits limits steps y j → ⊥
      by_place y has none (on_entry once) = not_entry once
      by_place y has none (by_link once (inr course)) = none course
      by_place y has none (by_link once (inl opened)) = elim (cases_eq y i) [
        | inl same ↦ ended (subst (λ z. Has (held_of limits steps) (OfNode z) j) same has)
        | inr other ↦ apart y other (stood_once limits ok steps y j once) opened
      ]

      pub unclaimed_by : (IsFollowedByAny (run limits steps) j → ⊥) → (by : Holder) → Has (held_of limits steps) by j → ⊥
      unclaimed_by nobody (OfHandle n) has = nobody (handle_followed n j ((claims_fit limits ok steps keys).handles n j has))
      unclaimed_by nobody (OfNode y) has = by_place y has (λ course. nobody (course_followed y j course has)) (claim_places limits ok steps y j has)

      -- nor has a node that nobody follows, whoever follows the main node
      pub unclaimed_dead : (y : Ref) → (IsFollowedByAny (run limits steps) y → ⊥) → Has (held_of limits steps) (OfNode y) j → ⊥
      unclaimed_dead y gone_from has = by_place y has (λ course. gone_from (root_followed y course)) (claim_places limits ok steps y j has)

    -- an own one that was replaced no other one that was opened stood over
    replaced_apart : IsOwn states last i j → IsReplaced limits steps i j → (y : Ref) → (y ≡ i → ⊥) → Stood p.words last y j → WasOpen limits steps y → ⊥
    replaced_apart own r y other stood opened =
        own_unopened is_run i j (theirs is_run i j own) (λ e closed. never (sym (counting_main-last states last i) ∙ e)) last (omega arith) y other stood (opened_once limits ok steps y opened)
      where
        never : main_before states last i ≡ j → ⊥
        never =
            let order = r.order in
            let within = r.within in
            replaced_for_good p i j r.before r.after last order within (omega arith) (link_at is_run r.before i r.had) (was limits steps ok i j own r) (gone limits steps ok i j own r)

    -- nor any other one over one that has failed
    failed_apart : (q : Ref) → p.words.prev last j ≡ prev.Failed q → (y : Ref) → (y ≡ i → ⊥) → Stood p.words last y j → WasOpen limits steps y → ⊥
    failed_apart q failed y other stood opened =
        other ((sound_at p last (omega arith)).words.one_word j y i (λ none. none≢failed none failed) stood left.stood)

-- ---- by who let go of it

module _ (limits : Bounds) (ok : AreBounds limits) (before : List Step) (s : Step) (since : List Step) (j : Ref) (h : IsLetGo limits before s j) (keys : KeysFit ((before ++ s ∷ []) ++ since)) where
  abbrev all : List Step
  all = (before ++ s ∷ []) ++ since

  longer : all ≡ before ++ (s ∷ since)
  longer = append_assoc before (s ∷ []) since

  keys_then : KeysFit before
  keys_then = keys_before before (s ∷ since) (subst KeysFit longer keys)

  module _ (actor : ℕ) (i f : Ref) (is_step : s ≡ step.Go actor) (r : HasReplaced (run limits before) actor i j f) (own : is_owned (held_of limits before) i j ≡ true) where
    left : (more : List Step) → IsLeft limits ok ((before ++ s ∷ []) ++ more) i j
    left more =
        subst (λ l. IsLeft limits ok l i j) (sym (append_assoc before (s ∷ []) more)) (replaced_left limits ok before (s ∷ more) actor r.operation r.why i j f r.runs r.checks)

    link_used : IsInUse (run limits before).heap i
    link_used = let (k, place, at_k) = place_of_actor (run limits before) actor r.operation r.runs in used_i limits ok before k r.operation at_k r.why (swap_at i j f swap.Check) r.checks

    apart : (y : Ref) → (y ≡ i → ⊥) → Stood (protocol_of (run_is limits all ok)).words (last_of limits all) y j → WasOpen limits all y → ⊥
    apart =
        replaced_apart limits ok all keys i j (left since)
        (owned_is_own limits ok all i j (subst (λ l. is_owned (held_of limits l) i j ≡ true) (sym longer) (own_on limits before (s ∷ since) i j own)))
        (subst (λ l. IsReplaced limits l i j) (sym longer) (was_replaced limits before (s ∷ since) ok actor i j f r))

    ended : Has (held_of limits all) (OfNode i) j → ⊥
    ended =
        link_free_since limits ok before s j h i left link_used
        (left_ends i j (checks true prev.None (swap_at i j f swap.Check)) (λ c. refl)
        (at_check limits ok before s j h actor r.operation r.why i j f is_step r.runs r.checks
        ∙ ap (λ o. checks o (prev_at (run limits before).heap f) (swap_at i j f swap.Check)) own ∙ ap (λ v. checks true v (swap_at i j f swap.Check)) r.decided)) since

    by_replaced : (IsFollowedByAny (run limits all) j → ⊥) → (by : Holder) → Has (held_of limits all) by j → ⊥
    by_replaced nobody by has = unclaimed_by limits ok all keys i j (left since) apart ended nobody by has

    pub replaced_unheld : (y : Ref) → (IsFollowedByAny (run limits all) y → ⊥) → Has (held_of limits all) (OfNode y) j → ⊥
    replaced_unheld y nobody has = unclaimed_dead limits ok all keys i j (left since) apart ended y nobody has

  module _ (actor : ℕ) (i m : Ref) (is_step : s ≡ step.Go actor) (r : HasFailed (run limits before) actor i m j) where
    its : (q : Ref) × (prev_at (run limits before).heap j ≡ prev.Failed q)
    its = over limits ok before actor i m j r

    fails : (more : List Step) → IsLeft limits ok (before ++ (s ∷ more)) i j
        × ((protocol_of (run_is limits (before ++ (s ∷ more)) ok)).words.prev (last_of limits (before ++ (s ∷ more))) j ≡ prev.Failed its.0)
    fails more = failed_left limits ok before (s ∷ more) actor r.operation r.why i m j r.runs r.checks its.0 (used_failed limits ok before actor i m j r) its.1

    left_failed : (more : List Step) → IsLeft limits ok ((before ++ s ∷ []) ++ more) i j
    left_failed more = subst (λ l. IsLeft limits ok l i j) (sym (append_assoc before (s ∷ []) more)) (fails more).0

    failed_used : IsInUse (run limits before).heap i
    failed_used = let (k, place, at_k) = place_of_actor (run limits before) actor r.operation r.runs in used_i limits ok before k r.operation at_k r.why (swap_at i m j swap.Check) r.checks

    ends : (own : Bool) → change_of (run limits before) (held_of limits before) s ≡ checks own (prev.Failed its.0) (swap_at i m j swap.Check) →
        (change_of (run limits before) (held_of limits before) s).fate (record { by = OfNode i; on = j }) ≡ Stays (OfNode i) → ⊥
    ends true is = left_ends i j (checks true (prev.Failed its.0) (swap_at i m j swap.Check)) (λ c. refl) is
    ends false is = left_ends i j (checks false (prev.Failed its.0) (swap_at i m j swap.Check)) (λ c. refl) is

    apart_failed : (y : Ref) → (y ≡ i → ⊥) → Stood (protocol_of (run_is limits all ok)).words (last_of limits all) y j → WasOpen limits all y → ⊥
    apart_failed =
        failed_apart limits ok all keys i j (left_failed since) its.0
        (subst (λ l. (protocol_of (run_is limits l ok)).words.prev (last_of limits l) j ≡ prev.Failed its.0) (sym longer) (fails since).1)

    ended_failed : Has (held_of limits all) (OfNode i) j → ⊥
    ended_failed =
        link_free_since limits ok before s j h i left_failed failed_used
        (ends (is_owned (held_of limits before) i m)
        (at_check limits ok before s j h actor r.operation r.why i m j is_step r.runs r.checks
        ∙ ap (λ v. checks (is_owned (held_of limits before) i m) v (swap_at i m j swap.Check)) its.1)) since

    by_failed : (IsFollowedByAny (run limits all) j → ⊥) → (by : Holder) → Has (held_of limits all) by j → ⊥
    by_failed nobody by has = unclaimed_by limits ok all keys i j (left_failed since) apart_failed ended_failed nobody by has

    pub refused_unheld : (y : Ref) → (IsFollowedByAny (run limits all) y → ⊥) → Has (held_of limits all) (OfNode y) j → ⊥
    refused_unheld y nobody has = unclaimed_dead limits ok all keys i j (left_failed since) apart_failed ended_failed y nobody has

  by_kind : LetsGoSo (run limits before) (held_of limits before) s j → (IsFollowedByAny (run limits all) j → ⊥) → (by : Holder) → Has (held_of limits all) by j → ⊥
  by_kind (so_replaced actor i f is_step r own) nobody by has = by_replaced actor i f is_step r own nobody by has
  by_kind (so_failed actor i m is_step r) nobody by has = by_failed actor i m is_step r nobody by has
  by_kind (so_given_up private up c is) nobody by has =
      free_since limits ok before s j h (given_up_unfollowed limits ok before s j h private up c) (given_up_none limits ok before s j h keys_then private up c is) since by has
  by_kind (so_offered offer main c a on not_out unmarked d) nobody by has =
      free_since limits ok before s j h (offered_unfollowed limits ok before s j h offer main c a on not_out unmarked d)
      (offered_none limits ok before s j h keys_then offer main c a on not_out unmarked d) since by has

-- ---- an indirection's own main node that was replaced

module _ (limits : Bounds) (ok : AreBounds limits) (before since : List Step) (actor : ℕ) (i j f : Ref) (r : HasReplaced (run limits before) actor i j f)
    (own : is_owned (held_of limits before) i j ≡ true) (taken : is_taken_step (next (run limits before) (step.Go actor)) ≡ true) (keys : KeysFit ((before ++ step.Go actor ∷ []) ++ since)) where
  its_end : IsLetGo limits before (step.Go actor) j
  its_end = record {
    taken = taken;
    lets = subst (λ (c : Change). LetsGo c j)
        (sym (checks_change (run limits before) (held_of limits before) actor r.operation r.why i j f r.runs r.checks
        ∙ ap (λ o. checks o (prev_at (run limits before).heap f) (swap_at i j f swap.Check)) own ∙ ap (λ v. checks true v (swap_at i j f swap.Check)) r.decided))
        (left_goes i j (checks true prev.None (swap_at i j f swap.Check)) (λ c. refl));
  }

  -- no node has a claim on it whom nobody follows any more
  pub replaced_unclaimed : (y : Ref) → (IsFollowedByAny (run limits ((before ++ step.Go actor ∷ []) ++ since)) y → ⊥) → Has (held_of limits ((before ++ step.Go actor ∷ []) ++ since)) (OfNode y) j → ⊥
  replaced_unclaimed = replaced_unheld limits ok before (step.Go actor) since j its_end keys actor i f refl r own

-- ---- a fresh main node that was refused

module _ (limits : Bounds) (ok : AreBounds limits) (before since : List Step) (actor : ℕ) (i m j : Ref) (r : HasFailed (run limits before) actor i m j)
    (taken : is_taken_step (next (run limits before) (step.Go actor)) ≡ true) (keys : KeysFit ((before ++ step.Go actor ∷ []) ++ since)) where
  refuses : (own : Bool) (q : Ref) → LetsGo (checks own (prev.Failed q) (swap_at i m j swap.Check)) j
  refuses true q = left_goes i j (checks true (prev.Failed q) (swap_at i m j swap.Check)) (λ c. refl)
  refuses false q = left_goes i j (checks false (prev.Failed q) (swap_at i m j swap.Check)) (λ c. refl)

  its_refusal : IsLetGo limits before (step.Go actor) j
  its_refusal = record {
    taken = taken;
    lets =
        (let (q, was) = over limits ok before actor i m j r in
        subst (λ (c : Change). LetsGo c j)
        (sym (checks_change (run limits before) (held_of limits before) actor r.operation r.why i m j r.runs r.checks
        ∙ ap (λ v. checks (is_owned (held_of limits before) i m) v (swap_at i m j swap.Check)) was)) (refuses (is_owned (held_of limits before) i m) q));
  }

  -- no node has a claim on it whom nobody follows any more
  pub refused_unclaimed : (y : Ref) → (IsFollowedByAny (run limits ((before ++ step.Go actor ∷ []) ++ since)) y → ⊥) → Has (held_of limits ((before ++ step.Go actor ∷ []) ++ since)) (OfNode y) j → ⊥
  refused_unclaimed = refused_unheld limits ok before (step.Go actor) since j its_refusal keys actor i m refl r

-- ---- the law

pub unclaimed : (limits : Bounds) → AreBounds limits → (steps : List Step) → KeysFit steps → (j : Ref) → (IsFollowedByAny (run limits steps) j → ⊥) → WasLetGo limits steps j → (by : Holder) →
    Has (held_of limits steps) by j → ⊥
unclaimed limits ok steps keys j nobody w by has =
    by_kind limits ok w.before w.s w.since j w.by (subst KeysFit w.goes_on keys) (lets_go_so limits ok w.before w.s j w.by.lets)
    (λ followed. nobody (subst (λ l. IsFollowedByAny (run limits l) j) (sym w.goes_on) followed)) by (subst (λ l. Has (held_of limits l) by j) w.goes_on has)
