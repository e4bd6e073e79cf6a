-- What stands in the definition's slots, and what the next action of an operation finds there.
use Rattle.std.proofs.Common.{◌≡◌, ◌≢◌, ◌+◌, ◌<◌, ◌≤◌, ◌++◌, ℕ, length, length-append, true, List, [], ◌∷◌, Contains, Some, None, get_or, refl, sym, ap, subst, ◌∙◌, arith, append-nil}
use Rattle.machine_model.specs.Beneath.slot_arena.specs.declared.refs.Ref.{Ref}
use Rattle.machine_model.specs.Beneath.slot_arena.specs.declared.nodes.Node.{Node}
use Rattle.machine_model.specs.Beneath.slot_arena.specs.declared.nodes.Node.TheVariants.{Indirection, Branch, Single, Tomb, List as Listed}
use Rattle.machine_model.specs.Beneath.slot_arena.specs.declared.nodes.Prev.TheVariants as prev
use Rattle.machine_model.specs.Beneath.slot_arena.specs.declared.nodes.Slot.{Slot}
use Rattle.machine_model.specs.Beneath.slot_arena.specs.Heaps.{Heap, stored, node_at, main_at, main_of, prev_at}
use Rattle.machine_model.specs.Beneath.slot_arena.specs.Refs.{slot_of, ref_to}
use Rattle.machine_model.specs.Beneath.slot_arena.proofs.Live.{slot_of_ref}
use Rattle.machine_model.specs.declared.actions.Action.{Action}
use Rattle.machine_model.specs.declared.actions.Action.TheVariants as act
use Rattle.machine_model.specs.declared.operations.Operation.{Operation}
use Rattle.machine_model.specs.declared.reading.ReadLine.TheVariants as read
use Rattle.machine_model.specs.declared.steps.Bounds.{Bounds}
use Rattle.machine_model.specs.declared.steps.Step.{Step}
use Rattle.machine_model.specs.declared.steps.Step.TheVariants as step
use Rattle.machine_model.specs.Times.{states_of, last_of}
use Rattle.machine_model.specs.Grown.{standing}
use Rattle.machine_model.specs.Machine.{AreBounds, run, taken_from, taken_steps}
use Rattle.machine_model.specs.Operations.{action_of, line_action, read_of}
use Rattle.machine_model.specs.States.{State, first_state, operation_of}
use Rattle.machine_model.proofs.Grown.{standing_parts, node_standing, node_grown, prev_grown}
use Rattle.machine_model.proofs.Times.{run_ends}
use Rattle.proof_memory.specs.Laws.{IsInUse, SameNode}
use Rattle.proof_memory.specs.Wants.{Wanted, AnIndirection, AMain, AllHold, meets, is_main_node, is_indirection, is_formed, action_wants}
use Rattle.proof_memory.proofs.Claims.Uses.{safe_of, meets_of}
use Rattle.proof_memory.proofs.Safety.AtEachTime.{safe_along}
use Rattle.proof_memory.proofs.Safety.AtTimes.{action_finds}
use Rattle.proof_memory.proofs.Safety.Standing.{stored_stands}
use Rattle.proof_memory.proofs.Safety.States.{IsSafe}
use Rattle.proof_garbage.proofs.Claims.{Are, none_in, one_in, both_in}
use Rattle.proof_garbage.proofs.Fresh.{reading_stands}
use Rattle.proof_garbage.proofs.Gone.{failed_gone}
use Rattle.proof_garbage.proofs.Known.{known_used, line_known, action_known}
use Rattle.proof_garbage.proofs.Restoring.{failed_over, last, known}
use Rattle.proof_garbage.proofs.Restoring.{states as states_in}
use Rattle.proof_commits.proofs.Words.Along.{protocol}
use Rattle.proof_linearizable.specs.Beneath.proof_shape.proofs.Sites.Fixed.{taken-append, states_of-append}
use Rattle.proof_waiting.specs.Beneath.proof_slots.specs.Unswept.{HasNoSweeps}
use Rattle.proof_waiting.specs.Beneath.proof_slots.proofs.Padded.Heaps.{node_wide}
use Rattle.proof_waiting.specs.Beneath.proof_slots.proofs.Padded.Lines.{acts_wide}
use Rattle.proof_waiting.proofs.Operations.{no_sweeps}
use Rattle.proof_waiting.specs.Beneath.proof_slots.proofs.Below.{slots_are_below_births}
use Rattle.proof_waiting.specs.Beneath.proof_slots.proofs.Unswept.Kept.{nothing_is_freed, one_ref}
use Rattle.lock_free.specs.declared.accounts.Account.{Account}
use Rattle.lock_free.specs.declared.sizes.Sizes.{Sizes}
use Rattle.lock_free.specs.Accounts.{bounds_for, state_of, HasWaited, running, gone_on}
use Rattle.lock_free.specs.Live.{line_claims, IsLive}
use Rattle.lock_free.specs.Nodes.{IsAhead}
use Rattle.lock_free.proofs.OneStep.Longer.{run_longer, bounds_less}
use Rattle.lock_free.proofs.OneStep.Widened.{slot_in}

-- what stands in a slot in a safe state stands under a reference
pub ref_at : (state : State) → IsSafe state → (k : ℕ) (slot : Slot) → get_or state.heap.slots k None ≡ Some slot → (r : Ref) × (slot_of r ≡ k) × (standing state.heap r ≡ Some slot)
unfolding stored
ref_at state I k slot at =
    let r = ref_to slot.birth k in
    let place = slot_of_ref slot.birth k in
    let stands = stored_stands state I r slot (ap (λ j. get_or state.heap.slots j None) place ∙ at) in
    (ref_to slot.birth (slot_of r), slot_of_ref slot.birth (slot_of r) ∙ place, stands)

-- and the other way round
pub slot_at : (heap : Heap) (r : Ref) (slot : Slot) → standing heap r ≡ Some slot → get_or heap.slots (slot_of r) None ≡ Some slot
unfolding stored
slot_at heap r slot stands = (standing_parts heap r slot stands).0

-- ---- actions

-- the indirections that an action names, and the main nodes
abbrev pub links_of : Action → List Ref
links_of (act.ReadMain i) = i ∷ []
links_of (act.Publish i a f) = i ∷ []
links_of (act.Restore i m p) = i ∷ []
links_of (act.Decide i m p seen) = i ∷ []
links_of action = []

abbrev pub mains_of : Action → List Ref
mains_of (act.ReadPrev m) = m ∷ []
mains_of (act.Publish i a f) = a ∷ f ∷ []
mains_of (act.Restore i m p) = m ∷ p ∷ []
mains_of (act.Decide i m p seen) = m ∷ p ∷ []
mains_of action = []

module _ (S : Ref → Type 0) (heap : Heap) where
  abbrev Found : Wanted → Ref → Type 0
  Found wanted r = S r × (meets wanted (node_at heap r) ≡ true)

  links_found : (action : Action) → AllHold S heap (action_wants action) → Are (Found AnIndirection) (links_of action)
  links_found (act.ReadMain i) h r c = one_in (Found AnIndirection) i (safe_of h.0, meets_of h.0) r c
  links_found (act.Publish i a f) h r c = one_in (Found AnIndirection) i (safe_of h.0, meets_of h.0) r c
  links_found (act.Restore i m p) h r c = one_in (Found AnIndirection) i (safe_of h.0, meets_of h.0) r c
  links_found (act.Decide i m p seen) h r c = one_in (Found AnIndirection) i (safe_of h.0, meets_of h.0) r c
  links_found action h r c = none_in r c

  two_in : (x y : Ref) → Found AMain x → Found AMain y → Are (Found AMain) (x ∷ y ∷ [])
  two_in x y a b = both_in (Found AMain) (x ∷ []) (y ∷ []) (one_in (Found AMain) x a) (one_in (Found AMain) y b)

  mains_found : (action : Action) → AllHold S heap (action_wants action) → Are (Found AMain) (mains_of action)
  mains_found (act.ReadPrev m) h r c = one_in (Found AMain) m (safe_of h.0, meets_of h.0) r c
  mains_found (act.Publish i a f) h r c = two_in a f (safe_of h.1.0, meets_of h.1.0) (safe_of h.1.1.0, meets_of h.1.1.0) r c
  mains_found (act.Restore i m p) h r c = two_in m p (safe_of h.1.0, meets_of h.1.0) (safe_of h.1.1.0, meets_of h.1.1.0) r c
  mains_found (act.Decide i m p seen) h r c = two_in m p (safe_of h.1.0, meets_of h.1.0) (safe_of h.1.1.0, meets_of h.1.1.0) r c
  mains_found action h r c = none_in r c

-- the same of a run of these bounds
gone_along : (limits : Bounds) (steps more : List Step) → AreBounds limits → HasNoSweeps more → (actor : ℕ) (operation : Operation) (i main former : Ref) →
    operation_of (run limits steps) actor ≡ Some operation →
    action_of (run limits steps) operation ≡ act.Restore i main former → main_at (run limits steps).heap i ≢ main → main_at (run limits (steps ++ more)).heap i ≢ main
gone_along limits steps more ok quiet actor operation i main former runs is gone stands =
    let claims = subst (λ action. AllHold (IsInUse (run limits steps).heap) (run limits steps).heap (action_wants action)) is (action_finds (run limits steps)
    (safe_along limits ok steps) actor operation runs) in
    let (slot, used) = safe_of claims.0 in
    let (slot_main, used_main) = safe_of claims.1.0 in
    let (now, used_now, same) = nothing_is_freed limits steps more i slot ok quiet used in
    let longer = steps ++ more in
    let states = states_of limits longer in
    let t = last_of limits steps in
    let low : t ≤ last_of limits longer = omega (arith, ap length (taken-append (first_state limits) steps more), length-append (taken_steps limits steps) (taken_from (run limits steps) more)) in
    let before : states t ≡ run limits steps = states_of-append limits steps more t (omega arith) ∙ run_ends limits steps in
    let then : states (last_of limits longer) ≡ run limits longer = run_ends limits longer in
    let node_t = sym (node_grown states t i slot (ap (λ (s : State). standing s.heap i) before ∙ used)) ∙ ap (λ (s : State). node_at s.heap i) before in
    let node_u = sym (node_grown states (last_of limits longer) i now (ap (λ (s : State). standing s.heap i) then ∙ used_now)) ∙ ap (λ (s : State). node_at s.heap i) then in
    let prev_t = sym (prev_grown states t main slot_main (ap (λ (s : State). standing s.heap main) before ∙ used_main)) ∙ ap (λ (s : State). prev_at s.heap main) before in
    failed_gone (protocol limits (states_in limits longer ok) (last limits longer ok) (known limits longer ok)) i main former t (last_of limits longer) low (omega arith)
    (ap is_indirection node_t ∙ meets_of claims.0)
    (prev_t ∙ failed_over limits steps ok actor operation i main former runs is (slot_main, used_main))
    (λ e. gone (sym (ap main_of node_t) ∙ e)) (ap main_of node_u ∙ stands)

-- what is taken for an indirection is one
pub link_of : (node : Node) → is_indirection node ≡ true → (generation : ℕ) × (main : Ref) × (node ≡ Indirection generation main)
link_of (Indirection generation main) h = (generation, main, refl)
link_of (Branch bitmap entries) h = let wrong : ⊥ = cc h in absurd wrong
link_of (Single key value) h = let wrong : ⊥ = cc h in absurd wrong
link_of (Tomb single) h = let wrong : ⊥ = cc h in absurd wrong
link_of (Listed singles) h = let wrong : ⊥ = cc h in absurd wrong

module _ (sizes : Sizes) (account : Account) (bounds : AreBounds (bounds_for sizes account.steps)) where
  abbrev state : State
  state = state_of sizes account

  safe : IsSafe state
  safe = safe_along (bounds_for sizes account.steps) bounds account.steps

  -- what is in use was made
  pub used_made : (r : Ref) → IsInUse state.heap r → slot_of r < state.heap.births
  used_made r used = slots_are_below_births (bounds_for sizes account.steps) account.steps r bounds used

  pub in_use_made : (k : ℕ) (slot : Slot) → get_or state.heap.slots k None ≡ Some slot → k < state.heap.births
  in_use_made k slot at = let (r, place, stands) = ref_at state safe k slot at in let low = used_made r (slot, stands) in omega (arith, low, place)

  pub is_well_formed : (k : ℕ) (slot : Slot) → get_or state.heap.slots k None ≡ Some slot → is_formed slot.node ≡ true
  is_well_formed k slot at = let (r, place, stands) = ref_at state safe k slot at in (safe.nodes r slot stands).1

  pub live_used : (r : Ref) → IsLive state r → IsInUse state.heap r
  live_used r live = known_used state safe (λ id. Unit {0}) live

  -- what is live is in use
  pub live_in_use : (r : Ref) → IsLive state r → (slot : Slot) × (get_or state.heap.slots (slot_of r) None ≡ Some slot)
  live_in_use r live = let (slot, stands) = live_used r live in (slot, slot_at state.heap r slot stands)

  -- live references to one slot are one
  pub slots_tell : (q r : Ref) → IsLive state q → IsLive state r → slot_of q ≡ slot_of r → q ≡ r
  slots_tell q r first second same = one_ref state.heap q r (live_used q first) (live_used r second) same

  -- what is about to be swapped in, where, and over what
  pub ahead_used : (i a f : Ref) → IsAhead state i a f → IsInUse state.heap i × IsInUse state.heap a × IsInUse state.heap f
  ahead_used i a f h =
      let acts = ap (line_action state h.operation) h.on in
      let claims = subst (λ action. AllHold (IsInUse state.heap) state.heap (action_wants action)) acts (action_finds state safe h.actor h.operation h.runs) in
      (safe_of claims.0, safe_of claims.1.0, safe_of claims.1.1.0)

  module _ (actor : ℕ) (operation : Operation) (runs : running sizes account actor operation) where
    claims : AllHold (IsLive state) state.heap (action_wants (action_of state operation))
    claims = action_known state safe (λ id. Unit {0}) actor operation runs tt

    -- what its line names is live, and what it is taken for
    pub line_stands : AllHold (IsLive state) state.heap (line_claims state operation)
    line_stands = line_known state safe (λ id. Unit {0}) actor operation runs tt

    -- what an action names is live, and what it is taken for
    pub link_stands : (i : Ref) → Contains (links_of (action_of state operation)) i →
        IsLive state i × ((slot : Slot) × (generation : ℕ) × (main : Ref) × (get_or state.heap.slots (slot_of i) None ≡ Some slot) × (slot.node ≡ Indirection generation main))
    link_stands i c =
        let (live, is) = links_found (IsLive state) state.heap (action_of state operation) claims i c in
        let (slot, stands) = live_used i live in
        let (generation, main, node) = link_of (node_at state.heap i) is in
        (live, (slot, generation, main, slot_at state.heap i slot stands, sym (node_standing state.heap i slot stands) ∙ node))

    pub main_stands : (m : Ref) → Contains (mains_of (action_of state operation)) m →
        IsLive state m × ((slot : Slot) × (get_or state.heap.slots (slot_of m) None ≡ Some slot) × (is_main_node slot.node ≡ true))
    main_stands m c =
        let (live, is) = mains_found (IsLive state) state.heap (action_of state operation) claims m c in
        let (slot, stands) = live_used m live in
        (live, (slot, slot_at state.heap m slot stands, subst (λ n. is_main_node n ≡ true) (node_standing state.heap m slot stands) is))

    pub looked_at_lives : (r : Ref) → action_of state operation ≡ act.Look r → IsLive state r
    looked_at_lives r is = safe_of (subst (λ action. AllHold (IsLive state) state.heap (action_wants action)) is claims).0

-- a node that stands stays, but for its main word, while the sweep takes no step
slots_stay : (sizes : Sizes) (steps more : List Step) → AreBounds (bounds_for sizes (steps ++ more)) → HasNoSweeps more → (k : ℕ) (slot : Slot) →
    get_or (run (bounds_for sizes steps) steps).heap.slots k None ≡ Some slot →
    (later : Slot) × (get_or (run (bounds_for sizes (steps ++ more)) (steps ++ more)).heap.slots k None ≡ Some later) × SameNode slot.node later.node
slots_stay sizes steps more ok quiet k slot at =
    let long = bounds_for sizes (steps ++ more) in
    let longer = run_longer sizes steps (bounds_less sizes steps more ok) steps [] more (sym (append-nil steps)) in
    let found = ap (λ (s : State). get_or s.heap.slots k None) longer ∙ slot_in (length more) (length (steps ++ more) + 1) (run (bounds_for sizes steps) steps) k ∙ at in
    let (r, place, stands) = ref_at _ (safe_along long ok steps) k slot found in
    let (later, stands_then, same) = nothing_is_freed long steps more r slot ok quiet stands in
    (later, ap (λ j. get_or (run long (steps ++ more)).heap.slots j None) (sym place) ∙ slot_at _ r later stands_then, same)

-- so while others take steps
pub nodes_stay : (sizes : Sizes) (actor : ℕ) (before after : Account) → HasWaited actor before after → AreBounds (bounds_for sizes after.steps) → (k : ℕ) (slot : Slot) →
    get_or (state_of sizes before).heap.slots k None ≡ Some slot →
    (later : Slot) × (get_or (state_of sizes after).heap.slots k None ≡ Some later) × SameNode slot.node later.node
nodes_stay sizes actor before after w bounds k slot at =
    subst (λ l. (later : Slot) × (get_or (run (bounds_for sizes l) l).heap.slots k None ≡ Some later) × SameNode slot.node later.node) (sym w.goes_on)
    (slots_stay sizes before.steps w.steps (subst (λ l. AreBounds (bounds_for sizes l)) w.goes_on bounds) (no_sweeps actor w.steps w.others) k slot at)

-- and in the actor's own step
pub nodes_go : (sizes : Sizes) (actor : ℕ) (account : Account) → AreBounds (bounds_for sizes (gone_on actor account).steps) → (k : ℕ) (slot : Slot) →
    get_or (state_of sizes account).heap.slots k None ≡ Some slot →
    (later : Slot) × (get_or (state_of sizes (gone_on actor account)).heap.slots k None ≡ Some later) × SameNode slot.node later.node
nodes_go sizes actor account bounds k slot at = slots_stay sizes account.steps (step.Go actor ∷ []) bounds (tt, tt) k slot at

-- a pending main node that is read stands in the indirection
pub pending_stands : (sizes : Sizes) (account : Account) → AreBounds (bounds_for sizes account.steps) → (actor : ℕ) (operation : Operation) → running sizes account actor operation →
    (i main replaced : Ref) →
    read_of operation.line ≡ Some (record {
      indirection =
          i;
      line = read.Prev main;
    }) → prev_at (state_of sizes account).heap main ≡ prev.Pending replaced → main_at (state_of sizes account).heap i ≡ main
pending_stands sizes account bounds actor operation runs i main replaced is pending =
    reading_stands (bounds_for sizes account.steps) account.steps bounds actor operation i main runs is replaced pending

-- a failed main node that stands there no more doesn't come back
pub gone_stays : (sizes : Sizes) (actor : ℕ) (before after : Account) → HasWaited actor before after → AreBounds (bounds_for sizes after.steps) → (operation : Operation) →
    running sizes before actor operation →
    (i main former : Ref) → action_of (state_of sizes before) operation ≡ act.Restore i main former → main_at (state_of sizes before).heap i ≢ main → main_at (state_of sizes after).heap i ≢ main
gone_stays sizes actor before after w bounds operation runs i main former is gone stands =
    let steps = before.steps in
    let ok = subst (λ l. AreBounds (bounds_for sizes l)) w.goes_on bounds in
    let long = bounds_for sizes (steps ++ w.steps) in
    let longer = run_longer sizes steps (bounds_less sizes steps w.steps ok) steps [] w.steps (sym (append-nil steps)) in
    let runs_then = ap (λ s. operation_of s actor) longer ∙ runs in
    let acts = ap (λ s. action_of s operation) longer ∙ acts_wide (length w.steps) (state_of sizes before) operation ∙ is in
    let main_then = ap (λ (s : State). main_at s.heap i) longer ∙ ap main_of (node_wide (length w.steps) (state_of sizes before).limits.slots (state_of sizes before).heap i) in
    gone_along long steps w.steps ok (no_sweeps actor w.steps w.others) actor operation i main former runs_then acts (λ e. gone (sym main_then ∙ e))
    (ap (λ l. main_at (run (bounds_for sizes l) l).heap i) (sym w.goes_on) ∙ stands)
