-- What is asked of nodes that were retired since they had no reference any more, and of what these name.
use Rattle.history.specs.declared.calls.Call.{Call}
use Rattle.std.proofs.Common.{◌≡◌, ◌≢◌, ◌+◌, ℕ, true, false, [], ◌∷◌, Contains, Some, cond, length, refl, sym, ap, subst, ◌∙◌, append-nil, inr, arith}
use mathlib.Core.Option.{some}
use lib.ListN.{get_elem?}
use Rattle.atomic_table.specs.Table as Table
use Rattle.machine_model.specs.Beneath.slot_arena.specs.declared.refs.Ref.{Ref}
use Rattle.machine_model.specs.Beneath.slot_arena.specs.Heaps.{refs_of_option}
use Rattle.machine_model.specs.Beneath.slot_arena.specs.Refs.{slot_of}
use Rattle.machine_model.specs.declared.actions.Action.TheVariants as act
use Rattle.machine_model.specs.declared.operations.Operation.{Operation}
use Rattle.machine_model.specs.declared.roots.Descriptor.{Descriptor}
use Rattle.machine_model.specs.declared.steps.Bounds.{Bounds}
use Rattle.machine_model.specs.declared.steps.Step.TheVariants as step
use Rattle.machine_model.specs.Calls.{handle_of}
use Rattle.machine_model.specs.Keys.{KeysFit}
use Rattle.machine_model.specs.Machine.{is_taken_step, run}
use Rattle.machine_model.specs.Moves.{GoesOn}
use Rattle.machine_model.specs.Operations.{line_action}
use Rattle.machine_model.specs.States.{State, operation_of, word_at}
use Rattle.machine_model.specs.Swapping.{is_carried_out}
use Rattle.machine_model.proofs.Fates.{place_of_actor}
use Rattle.proof_claims.specs.Claims.{Has, held_of}
use Rattle.proof_claims.specs.Dropped.{IsLetGo}
use Rattle.proof_claims.specs.Held.{Change, Ends, Given, OfNode, Stays, is_kept, is_owned}
use Rattle.proof_claims.specs.Left.{SeesOutcome, is_done}
use Rattle.proof_claims.proofs.ChangeKinds.{Acting}
use Rattle.proof_claims.proofs.ClaimsDiffer.{keys_before}
use Rattle.proof_claims.proofs.LeftAtComplete.{finds_so}
use Rattle.proof_claims.proofs.LetGoThen.{offered_unfollowed}
use Rattle.proof_claims.proofs.Lists.{found_in}
use Rattle.proof_claims.proofs.OnPrivates.{on_privates}
use Rattle.proof_claims.proofs.Unclaimed.{refused_unclaimed, replaced_unclaimed}
use Rattle.proof_claims.proofs.UnclaimedSince.{free_since, offered_none}
use Rattle.proof_claims.specs.Beneath.proof_reuse.specs.Beneath.proof_followed.specs.Followed.{IsFollowedByAny}
use Rattle.proof_waiting.specs.Beneath.proof_slots.proofs.Unswept.Kept.{one_ref}
use Rattle.proof_waiting.specs.Beneath.proof_slots.specs.Lasting.{widened}
use Rattle.lock_free.specs.declared.rules.Retired.{Retired}
use Rattle.lock_free.specs.declared.rules.View.{View}
use Rattle.lock_free.specs.declared.sizes.Sizes.{Sizes}
use Rattle.lock_free.specs.Accounts.{bounds_for, state_of, HasGrown}
use Rattle.lock_free.specs.Claims.{held_now}
use Rattle.lock_free.specs.Rules.{IsKept, WasLetGo, WasRefused, WasReplaced, by_commit, by_outcome, by_refusal}
use Rattle.lock_free.specs.TakenBack.{WasTakenBack}
use Rattle.lock_free.proofs.OneStep.HeldLonger.{held_longer}
use Rattle.lock_free.proofs.OneStep.Parts.{part_goes, run_part}
use Rattle.lock_free.proofs.OneStep.Retired.{retired_used}
use Rattle.lock_free.proofs.Retirable.{before_ok, failed_then, parts, replaced_then, through_is}
use Rattle.lock_free.proofs.TakenRoots.{neither}
use Rattle.lock_free.specs.Holdings.{HasBeenLetGo, IsHere}
use Rattle.lock_free.specs.Reached.{HoldsNamed, at_first, by_node}

-- who finds its offer taken back does so under the bounds of a longer account too
wide_outcome : (more m : ℕ) (state : State) (actor : ℕ) (offer : Descriptor) (main : Ref) (h : SeesOutcome state actor offer main) → is_done state h ≡ false →
    (w : SeesOutcome (widened more m state) actor offer main) × (is_done (widened more m state) w ≡ false)
wide_outcome more m state actor offer main h undone = (
  record {
    operation = h.operation;
    runs = h.runs;
    completing = h.completing;
    completes = h.completes;
    acts = ap (line_action (widened more m state) h.operation) h.completes ∙ sym (ap (line_action state h.operation) h.completes) ∙ h.acts;
  },
  undone,
)

module _ (sizes : Sizes) (s : Table.State Call View) (kept : IsKept sizes s) where
  -- no step has let go of all that it held
  pub deep_unlet : (id : ℕ) (v : View) (at : get_elem? s.views id ≡ some v) (x : Retired) (c : Contains v.retired x) → x.deep ≡ true →
      ¬ HasBeenLetGo sizes kept.account ((kept.seats id v at).retired x c).was.node
  deep_unlet id v at x c deep let_go =
      let is = (kept.seats id v at).retired x c in
      let here : IsHere sizes kept.account kept.stands is.was.node = (retired_used sizes kept.account kept.bounds kept.quiet x is.was is.grown, ap kept.stands is.was.number ∙ is.still) in
      let one_more = kept.held.unlet is.was.node let_go here in
      let none = kept.held.dead id v at x c deep is.was.node here is.was.number in
      omega (arith, one_more, none)

  -- what is private to an operation is held by what is private to it, and by no other node
  pub private_held : (j k : Ref) → Has (held_now sizes kept.account) (OfNode j) k → (a : ℕ) (o : Operation) → operation_of (state_of sizes kept.account) a ≡ Some o → Contains o.private k →
      Contains o.private j
  private_held j k has a o runs c =
      let (n, its, at_n) = place_of_actor (state_of sizes kept.account) a o runs in
      on_privates (bounds_for sizes kept.account.steps) kept.bounds kept.account.steps kept.keys n o at_n j k c has

  -- what it names and holds stands still
  pub deep_names : (id : ℕ) (v : View) (at : get_elem? s.views id ≡ some v) (x : Retired) (c : Contains v.retired x) → x.deep ≡ true → (k : Ref) →
      HoldsNamed sizes kept.account ((kept.seats id v at).retired x c).was.node k → kept.stands (slot_of k) ≡ true
  deep_names id v at x c deep k holds =
      let is = (kept.seats id v at).retired x c in
      let used = retired_used sizes kept.account kept.bounds kept.quiet x is.was is.grown in
      kept.held.reached k
      (by_node is.was.node k (at_first is.was.node (inr (record { used = used; id = id; view = v; at = at; item = x; its = c; deep = deep; number = is.was.number }))) holds)

  -- and what a SWAP has let go of is held by no node that nobody follows any more
  module _ (x : Retired) (grown : HasGrown x.account kept.account) (m : Ref) where
    abbrev limits : Bounds
    limits = bounds_for sizes kept.account.steps

    abbrev Unheld : Type 0
    Unheld = (j : Ref) → ¬ IsFollowedByAny (state_of sizes kept.account) j → ¬ Has (held_now sizes kept.account) (OfNode j) m

    by_replaced : (r : WasReplaced sizes x m) → Unheld
    by_replaced r j gone has =
        let rest = grown.steps in
        let through = through_is sizes kept.account kept.bounds x grown r.before r.actor r.goes_on in
        let all = parts sizes kept.account kept.bounds x grown r.before r.actor r.goes_on in
        let first = replaced_then sizes kept.account kept.bounds x grown r.before r.actor r.goes_on r.link m r.fresh r.replaced in
        let held_is : held_of limits r.before ≡ held_of (bounds_for sizes r.before) r.before =
        ap (λ l. held_of (bounds_for sizes l) r.before) all
        ∙ held_longer sizes r.before (before_ok sizes kept.account kept.bounds x grown r.before r.actor r.goes_on) r.before [] (step.Go r.actor ∷ rest) (sym (append-nil r.before)) in
        let taken =
        ap is_taken_step (part_goes sizes kept.account.steps r.before (step.Go r.actor ∷ rest) all kept.bounds r.actor first.operation first.runs
        (subst (λ l. GoesOn (line_action (run limits r.before) first.operation l)) (sym first.checks) tt)) in
        replaced_unclaimed limits kept.bounds r.before rest r.actor r.link m r.fresh first (subst (λ h. is_owned h r.link m ≡ true) (sym held_is) r.owned) taken (subst KeysFit through kept.keys) j
        (λ followed. gone (subst (λ l. IsFollowedByAny (run limits l) j) (sym through) followed)) (subst (λ l. Has (held_of limits l) (OfNode j) m) through has)

    by_refused : (r : WasRefused sizes x m) → Unheld
    by_refused r j gone has =
        let rest = grown.steps in
        let through = through_is sizes kept.account kept.bounds x grown r.before r.actor r.goes_on in
        let all = parts sizes kept.account kept.bounds x grown r.before r.actor r.goes_on in
        let first = failed_then sizes kept.account kept.bounds x grown r.before r.actor r.goes_on r.link r.over m r.failed in
        let taken =
        ap is_taken_step (part_goes sizes kept.account.steps r.before (step.Go r.actor ∷ rest) all kept.bounds r.actor first.operation first.runs
        (subst (λ l. GoesOn (line_action (run limits r.before) first.operation l)) (sym first.checks) tt)) in
        refused_unclaimed limits kept.bounds r.before rest r.actor r.link r.over m first taken (subst KeysFit through kept.keys) j
        (λ followed. gone (subst (λ l. IsFollowedByAny (run limits l) j) (sym through) followed)) (subst (λ l. Has (held_of limits l) (OfNode j) m) through has)

    by_taken_back : (r : WasTakenBack sizes x m) → Unheld
    by_taken_back r j gone has =
        let rest = grown.steps in
        let s = step.Go r.actor in
        let through = through_is sizes kept.account kept.bounds x grown r.before r.actor r.goes_on in
        let all = parts sizes kept.account kept.bounds x grown r.before r.actor r.goes_on in
        let keys = keys_before r.before (s ∷ rest) (subst KeysFit all kept.keys) in
        let (first, undone) : (h : SeesOutcome (run limits r.before) r.actor r.offer r.main) × (is_done (run limits r.before) h ≡ false) =
        subst (λ (z : State). (h : SeesOutcome z r.actor r.offer r.main) × (is_done z h ≡ false)) (sym (run_part sizes kept.account.steps r.before (s ∷ rest) all kept.bounds))
        (wide_outcome (length (s ∷ rest)) (length kept.account.steps + 1) (run (bounds_for sizes r.before) r.before) r.actor r.offer r.main r.sees r.undone) in
        let (not_out, unmarked) = neither (is_carried_out (word_at (run limits r.before) (handle_of first.operation.call)) r.offer r.main) first.operation.is_marked undone in
        let taken =
        ap is_taken_step (part_goes sizes kept.account.steps r.before (s ∷ rest) all kept.bounds r.actor first.operation first.runs (subst GoesOn (sym first.acts) tt)) in
        let let_go : IsLetGo limits r.before s m = record {
          taken = taken;
          lets = λ k.
              ap (λ (c : Change). is_kept (c.fate (record { by = OfNode m; on = k }))) (finds_so limits kept.bounds r.before keys r.actor r.offer r.main m first undone)
              ∙ ap (λ b. is_kept (cond b Given (cond false Ends (Stays (OfNode m))))) (found_in (r.offer.successor ∷ refs_of_option r.offer.second) m r.made);
        } in
        let acting : Acting (run limits r.before) s (act.Complete r.offer r.main) =
        record { actor = r.actor; operation = first.operation; is_step = refl; runs = first.runs; acts = first.acts } in
        free_since limits kept.bounds r.before s m let_go
        (offered_unfollowed limits kept.bounds r.before s m let_go r.offer r.main first.completing acting first.completes not_out unmarked r.made)
        (offered_none limits kept.bounds r.before s m let_go keys r.offer r.main first.completing acting first.completes not_out unmarked r.made) rest (OfNode j)
        (subst (λ l. Has (held_of limits l) (OfNode j) m) through has)

    let_go_unheld : WasLetGo sizes x m → Unheld
    let_go_unheld (by_commit r) = by_replaced r
    let_go_unheld (by_refusal r) = by_refused r
    let_go_unheld (by_outcome r) = by_taken_back r

  pub shallow_unheld : (id : ℕ) (v : View) (at : get_elem? s.views id ≡ some v) (x : Retired) (c : Contains v.retired x) → x.deep ≡ false → (j k : Ref) →
      ¬ IsFollowedByAny (state_of sizes kept.account) j → Has (held_now sizes kept.account) (OfNode j) k → x.number ≢ slot_of k
  shallow_unheld id v at x c shallow j k gone has same =
      let is = (kept.seats id v at).retired x c in
      let used = kept.held.used (record { by = OfNode j; on = k }) has in
      let is_node : is.was.node ≡ k =
      one_ref (state_of sizes kept.account).heap is.was.node k (retired_used sizes kept.account kept.bounds kept.quiet x is.was is.grown) used (is.was.number ∙ same) in
      let_go_unheld x is.grown is.was.node (is.was.let_go shallow) j gone (subst (Has (held_now sizes kept.account) (OfNode j)) (sym is_node) has)
