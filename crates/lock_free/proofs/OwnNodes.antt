-- What is said to be an indirection's own is the definition's own main node of it.
use Rattle.std.proofs.Common.{◌≡◌, ◌≤◌, ◌<◌, ◌+◌, ◌++◌, ℕ, suc, true, false, List, [], ◌∷◌, Option, Some, None, get_or, length, refl, sym, ap, subst, ◌∙◌, append_assoc, arith}
use Rattle.std.proofs.lemmas.Bool.{true≢false}
use Rattle.machine_model.specs.Beneath.slot_arena.specs.declared.nodes.Node.{Node}
use Rattle.machine_model.specs.Beneath.slot_arena.specs.declared.nodes.Node.TheVariants.{Indirection, Branch, Single, Tomb, List as Listed}
use Rattle.machine_model.specs.Beneath.slot_arena.specs.declared.nodes.Slot.{Slot}
use Rattle.machine_model.specs.Beneath.slot_arena.specs.declared.refs.Ref.{Ref}
use Rattle.machine_model.specs.Beneath.slot_arena.specs.Heaps.{main_at, main_of, node_at, node_of}
use Rattle.machine_model.specs.Beneath.slot_arena.specs.Refs.{birth_of, ref_to, slot_of}
use Rattle.machine_model.specs.Beneath.slot_arena.proofs.Live.{birth_of_ref, same_ref, slot_of_ref}
use Rattle.machine_model.specs.declared.building.BuildLine.TheVariants as build
use Rattle.machine_model.specs.declared.copying.CopyLine.TheVariants as copy
use Rattle.machine_model.specs.declared.lines.Line.{Line}
use Rattle.machine_model.specs.declared.lines.Line.TheVariants as line
use Rattle.machine_model.specs.declared.operations.Operation.{Operation}
use Rattle.machine_model.specs.declared.steps.Bounds.{Bounds}
use Rattle.machine_model.specs.declared.steps.Step.{Step}
use Rattle.machine_model.specs.declared.steps.Step.TheVariants as step
use Rattle.machine_model.specs.Grown.{grown, node_under, standing}
use Rattle.machine_model.specs.Machine.{AreBounds, run, run_from}
use Rattle.machine_model.specs.Moves.{GoesOn}
use Rattle.machine_model.specs.Operations.{action_of, line_action}
use Rattle.machine_model.specs.States.{State, first_state, operation_of}
use Rattle.machine_model.specs.Times.{states_of, last_of}
use Rattle.machine_model.proofs.Grown.{grown_in_use, node_standing}
use Rattle.machine_model.proofs.Times.{run_is}
use Rattle.proof_commits.specs.Protocol.{Builds}
use Rattle.proof_commits.specs.Runs.{HasIndirection}
use Rattle.proof_commits.specs.Stages.{stage_of, stage_of_actor}
use Rattle.proof_memory.specs.Laws.{IsInUse, SameNode}
use Rattle.proof_memory.specs.Wants.{is_indirection}
use Rattle.proof_memory.proofs.Heap.Moves.{born}
use Rattle.proof_memory.proofs.Safety.AtEachTime.{safe_along}
use Rattle.proof_memory.proofs.Safety.AtTimes.{node_found}
use Rattle.proof_claims.specs.Beneath.proof_reuse.proofs.InLists.{state_then, time_within}
use Rattle.proof_claims.specs.Beneath.proof_reuse.specs.Beneath.proof_followed.proofs.LastStep as one_more
use Rattle.proof_claims.specs.Beneath.proof_reuse.specs.Beneath.proof_owned.specs.Owned.{IsOwn, swapped, built, first as owned_first}
use Rattle.proof_claims.specs.Beneath.proof_reuse.specs.Beneath.proof_owned.proofs.MainsInUse.{main_used}
use Rattle.proof_waiting.specs.Beneath.proof_slots.specs.Lasting.{widened}
use Rattle.proof_waiting.specs.Beneath.proof_slots.specs.Unswept.{HasNoSweeps}
use Rattle.proof_waiting.specs.Beneath.proof_slots.proofs.Unswept.Kept.{one_ref}
use Rattle.proof_waiting.specs.Beneath.proof_slots.proofs.Unswept.Orders.{slots_are_taken_in_order}
use Rattle.lock_free.specs.declared.accounts.Account.{Account}
use Rattle.lock_free.specs.declared.sizes.Sizes.{Sizes}
use Rattle.lock_free.specs.Accounts.{bounds_for, state_of}
use Rattle.lock_free.specs.Owning.{IsBuilding, Brings, swaps, builds, WasBrought, WasTomb, IsOwnBy, at_first, brought, of_tomb}
use Rattle.lock_free.proofs.FirstState.{first_link, slots_are}
use Rattle.lock_free.proofs.OneStep.Found.{ref_at}
use Rattle.lock_free.proofs.OneStep.LinksWide.{link_wide, main_wide, standing_by, standing_wide}
use Rattle.lock_free.proofs.OneStep.Longer.{bounds_less}
use Rattle.lock_free.proofs.OneStep.Parts.{run_part, part_goes, used_by, used_still}

building_goes : (state : State) (o : Operation) (l : Line) (m : Ref) → IsBuilding l m → GoesOn (line_action state o l)
building_goes state o (line.Build (build.Link path main position below depth)) m h = tt
building_goes state o (line.Copy (copy.Cleared root main branch)) m h = tt
building_goes state o l m h = absurd h

building_stage : (l : Line) (m : Ref) → IsBuilding l m → stage_of l ≡ Builds m
building_stage (line.Build (build.Link path main position below depth)) m h = ap Builds h
building_stage (line.Copy (copy.Cleared root main branch)) m h = ap Builds h
building_stage l m h = absurd h

brings_goes : (state then : State) (o : Operation) (i m : Ref) → Brings state o.line i m → GoesOn (action_of then o)
brings_goes state then o i m (swaps why a e) = subst (λ l. GoesOn (line_action then o l)) (sym e) tt
brings_goes state then o i m (builds h new) = building_goes then o o.line m h

module _ (sizes : Sizes) (account : Account) (bounds : AreBounds (bounds_for sizes account.steps)) (i m : Ref) (h : WasBrought sizes account i m) where
  abbrev limits : Bounds
  limits = bounds_for sizes account.steps

  abbrev states : ℕ → State
  states = states_of limits account.steps

  abbrev through : List Step
  through = h.before ++ step.Go h.actor ∷ []

  abbrev u : ℕ
  u = last_of limits h.before

  parts : account.steps ≡ h.before ++ (step.Go h.actor ∷ h.more)
  parts = h.goes_on ∙ append_assoc h.before (step.Go h.actor ∷ []) h.more

  abbrev state : State
  state = run limits h.before

  state_is : state ≡ widened (length (step.Go h.actor ∷ h.more)) (length account.steps + 1) (run (bounds_for sizes h.before) h.before)
  state_is = run_part sizes account.steps h.before (step.Go h.actor ∷ h.more) parts bounds

  runs : operation_of state h.actor ≡ Some h.operation
  runs = ap (λ (s : State). operation_of s h.actor) state_is ∙ h.runs

  through_is : last_of limits through ≡ suc u
  through_is =
      one_more.last_is limits bounds h.before (step.Go h.actor) _ _
      (part_goes sizes account.steps h.before (step.Go h.actor ∷ h.more) parts bounds h.actor h.operation runs
      (brings_goes (run (bounds_for sizes h.before) h.before) state h.operation i m h.how))

  then_is : states u ≡ state
  then_is = state_then limits account.steps h.before (step.Go h.actor ∷ h.more) parts

  next_is : states (suc u) ≡ run limits through
  next_is = ap states (sym through_is) ∙ state_then limits account.steps through h.more h.goes_on

  wide_is : run limits through ≡ widened (length h.more) (length account.steps + 1) (run (bounds_for sizes through) through)
  wide_is = run_part sizes account.steps through h.more h.goes_on bounds

  within : u < last_of limits account.steps
  within = let low = time_within limits account.steps through h.more h.goes_on in omega (arith, low, through_is)

  has : HasIndirection (states (suc u)) i
  has = subst (λ (s : State). HasIndirection s i) (sym (next_is ∙ wide_is)) (link_wide (length h.more) (length account.steps + 1) (run (bounds_for sizes through) through) i h.has)

  found : node_at (states (suc u)).heap i ≡ node_under states (suc u) i
  found = node_found states (suc u) i has.0

  is_link : is_indirection (node_under states (suc u) i) ≡ true
  is_link = ap is_indirection (sym found) ∙ has.1

  main_is : main_of (node_under states (suc u) i) ≡ m
  main_is =
      ap main_of (sym found) ∙ ap (λ (s : State). main_at s.heap i) (next_is ∙ wide_is)
      ∙ main_wide (length h.more) (length account.steps + 1) (run (bounds_for sizes through) through) i ∙ h.stands

  stage_is : stage_of_actor (operation_of (states u) h.actor) ≡ stage_of h.operation.line
  stage_is = ap stage_of_actor (ap (λ (s : State). operation_of s h.actor) then_is ∙ runs)

  births_are : (states u).heap.births ≡ (run (bounds_for sizes h.before) h.before).heap.births
  births_are = ap (λ (s : State). s.heap.births) (then_is ∙ state_is)

  no_link : (run (bounds_for sizes h.before) h.before).heap.births < birth_of i → is_indirection (node_under states u i) ≡ false
  no_link new = by (grown states u i) refl
    where
      by : (o : Option Slot) → grown states u i ≡ o → is_indirection (node_of (grown states u i)) ≡ false
      by None e = ap (λ o. is_indirection (node_of o)) e
      by (Some slot) e =
          let low = born (run_is limits account.steps bounds) u (omega (arith, within)) i slot e in absurd (omega (arith, low, births_are, new))

  by_how : Brings (run (bounds_for sizes h.before) h.before) h.operation.line i m → IsOwn states (last_of limits account.steps) i m
  by_how (swaps why a e) = swapped u h.actor a within (stage_is ∙ ap stage_of e) is_link main_is
  by_how (builds b new) = built u h.actor within (stage_is ∙ building_stage h.operation.line m b) (no_link new) is_link main_is

  pub brought_within : suc (last_of (bounds_for sizes account.steps) h.before) ≤ last_of (bounds_for sizes account.steps) account.steps
  brought_within = omega (arith, within)

  pub brought_link : HasIndirection (states_of (bounds_for sizes account.steps) account.steps (suc (last_of (bounds_for sizes account.steps) h.before))) i
  brought_link = has

  pub brought_next : states_of (bounds_for sizes account.steps) account.steps (suc (last_of (bounds_for sizes account.steps) h.before)) ≡
      run (bounds_for sizes account.steps) (h.before ++ step.Go h.actor ∷ [])
  brought_next = next_is

  pub brought_main : main_at (run (bounds_for sizes account.steps) (h.before ++ step.Go h.actor ∷ [])).heap i ≡ m
  brought_main =
      ap (λ (s : State). main_at s.heap i) wide_is ∙ main_wide (length h.more) (length account.steps + 1) (run (bounds_for sizes through) through) i ∙ h.stands

  pub brought_own : IsOwn (states_of (bounds_for sizes account.steps) account.steps) (last_of (bounds_for sizes account.steps) account.steps) i m
  brought_own = by_how h.how

-- ---- what the account says

first_run : (b : Bounds) → run b [] ≡ first_state b
unfolding run_from
first_run b = refl

pub kind_stays : (before after : Node) → SameNode before after → is_indirection after ≡ is_indirection before
kind_stays (Indirection generation main) after same = ap is_indirection same.1
kind_stays (Branch bitmap entries) after same = ap is_indirection same.1
kind_stays (Single key value) after same = ap is_indirection same.1
kind_stays (Tomb single) after same = ap is_indirection same.1
kind_stays (Listed singles) after same = ap is_indirection same.1

module _ (sizes : Sizes) (account : Account) (bounds : AreBounds (bounds_for sizes account.steps)) (quiet : HasNoSweeps account.steps) where
  abbrev end : State
  end = state_of sizes account

  -- what was an indirection is one
  pub link_still : (first rest : List Step) → account.steps ≡ first ++ rest → (i : Ref) → HasIndirection (run (bounds_for sizes first) first) i → HasIndirection (state_of sizes account) i
  link_still first rest goes_on i h =
      let later = used_still sizes account.steps first rest goes_on bounds quiet i h.0 in (
        (later.0, later.1),
        ap is_indirection (node_standing end.heap i later.0 later.1) ∙ kind_stays h.0.0.node later.0.node later.2
            ∙ ap is_indirection (sym (node_standing (run (bounds_for sizes first) first).heap i h.0.0 h.0.1)) ∙ h.1,
      )

  births : (r : Ref) → IsInUse end.heap r → birth_of r ≡ slot_of r + 1
  births r used = (slots_are_taken_in_order (bounds_for sizes account.steps) account.steps quiet).1 r used

  module _ (i m : Ref) (link : HasIndirection (state_of sizes account) i) (used : IsInUse (state_of sizes account).heap m) where
    abbrev all_limits : Bounds
    all_limits = bounds_for sizes account.steps

    abbrev times : ℕ → State
    times = states_of all_limits account.steps

    abbrev Own : Ref → Ref → Type 0
    Own j n = IsOwn (states_of (bounds_for sizes account.steps) account.steps) (last_of (bounds_for sizes account.steps) account.steps) j n

    both : (j n : Ref) → j ≡ i → n ≡ m → Own j n → Own i m
    both j n a b own = subst (λ x. Own i x) b (subst (λ x. Own x n) a own)

    -- ---- at first

    start_is : times 0 ≡ widened (length account.steps) (length account.steps + 1) (run (bounds_for sizes []) [])
    start_is = (run_is all_limits account.steps bounds).first ∙ sym (first_run all_limits) ∙ run_part sizes account.steps [] account.steps refl bounds

    root_stands : standing (times 0).heap (ref_to 2 1) ≡ Some first_link
    root_stands =
        ap (λ (s : State). standing s.heap (ref_to 2 1)) start_is ∙ standing_wide (length account.steps) (length account.steps + 1) (run (bounds_for sizes []) []) (ref_to 2 1)
        ∙ standing_by (run (bounds_for sizes []) []).heap (ref_to 2 1) first_link
        (ap (λ k. get_or (run (bounds_for sizes []) []).heap.slots k None) (slot_of_ref 2 1) ∙ ap (λ (xs : List (Option Slot)). get_or xs 1 None) (slots_are sizes)) (sym (birth_of_ref 2 1))

    root_under : grown times 0 (ref_to 2 1) ≡ Some first_link
    root_under = grown_in_use times 0 (ref_to 2 1) first_link root_stands

    at_start : slot_of i ≡ 1 → slot_of m ≡ 0 → Own i m
    at_start a b =
        both (ref_to 2 1) (ref_to 1 0)
        (same_ref (ref_to 2 1) i (slot_of_ref 2 1 ∙ sym a) (birth_of_ref 2 1 ∙ (let birth = births i link.0 in omega (arith, birth, a))))
        (same_ref (ref_to 1 0) m (slot_of_ref 1 0 ∙ sym b) (birth_of_ref 1 0 ∙ (let birth = births m used in omega (arith, birth, b))))
        (owned_first (ap (λ o. is_indirection (node_of o)) root_under) (ap (λ o. main_of (node_of o)) root_under))

    -- ---- by a step

    by_step : (j n : Ref) → slot_of j ≡ slot_of i → slot_of n ≡ slot_of m → WasBrought sizes account j n → Own i m
    by_step j n a b h =
        let through = h.before ++ step.Go h.actor ∷ [] in
        let link_then = link_still through h.more h.goes_on j h.has in
        let main_then = main_used (run_is all_limits account.steps bounds) (suc (last_of all_limits h.before)) (brought_within sizes account bounds j n h) j
        (brought_link sizes account bounds j n h) in
        let main_there = subst (λ x. IsInUse (run all_limits through).heap x) (brought_main sizes account bounds j n h)
        (subst (λ (s : State). IsInUse s.heap (main_at s.heap j)) (brought_next sizes account bounds j n h) main_then) in
        let main_now = used_by sizes account.steps through h.more h.goes_on bounds quiet n main_there.0 main_there.1 in
        both j n (one_ref end.heap j i link_then.0 link.0 a) (one_ref end.heap n m (main_now.0, main_now.1) used b) (brought_own sizes account bounds j n h)

    -- ---- it is no tomb

    no_tomb : WasTomb sizes account (slot_of i) → ⊥
    no_tomb h =
        let (r, place, stands) = ref_at (run (bounds_for sizes h.steps) h.steps)
        (safe_along (bounds_for sizes h.steps) (bounds_less sizes h.steps h.more (subst (λ l. AreBounds (bounds_for sizes l)) h.goes_on bounds)) h.steps) (slot_of i) h.slot h.stored in
        let later = used_still sizes account.steps h.steps h.more h.goes_on bounds quiet r (h.slot, stands) in
        let same = one_ref end.heap r i (later.0, later.1) link.0 place in
        let kind = ap is_indirection (node_standing end.heap r later.0 later.1) ∙ kind_stays h.slot.node later.0.node later.2 ∙ ap is_indirection h.is in
        true≢false (sym link.1 ∙ ap (λ x. is_indirection (node_at end.heap x)) (sym same) ∙ kind)

    pub own_in : IsOwnBy sizes account (slot_of i) (slot_of m) →
        IsOwn (states_of (bounds_for sizes account.steps) account.steps) (last_of (bounds_for sizes account.steps) account.steps) i m
    own_in (at_first a b) = at_start a b
    own_in (brought j n a b h) = by_step j n a b h
    own_in (of_tomb h) = absurd (no_tomb h)
