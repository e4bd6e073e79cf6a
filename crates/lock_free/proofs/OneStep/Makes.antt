-- What is left by a step that makes a node.
use Rattle.std.proofs.Common.{◌≡◌, ◌≢◌, ◌⊎◌, ◌+◌, ◌<◌, ℕ, Bool, [], ◌∷◌, Contains, length, get_or, Option, Some, None, refl, sym, ap, subst, ◌∙◌, inl, inr, arith}
use Rattle.std.proofs.lemmas.List.Elements.{Contains-get_or}
use Rattle.std.proofs.lemmas.Option.{none-some, same_Some}
use Rattle.machine_model.specs.Beneath.slot_arena.specs.declared.refs.Ref.{Ref}
use Rattle.machine_model.specs.Beneath.slot_arena.specs.declared.nodes.Node.{Node}
use Rattle.machine_model.specs.Beneath.slot_arena.specs.declared.nodes.Node.TheVariants.{Indirection, Branch, Single, Tomb, List as Listed}
use Rattle.machine_model.specs.Beneath.slot_arena.specs.declared.nodes.Prev.TheVariants as prev
use Rattle.machine_model.specs.Beneath.slot_arena.specs.declared.nodes.Slot.{Slot}
use Rattle.machine_model.specs.Beneath.slot_arena.specs.Heaps.{Heap, no_ref, stored, node_at, node_of, main_at, main_of, next_ref, prev_at, taken, refs_of_node, refs_of_slot}
use Rattle.machine_model.specs.Beneath.slot_arena.specs.Refs.{slot_of, ref_to}
use Rattle.machine_model.specs.Beneath.slot_arena.proofs.Live.{same_ref, slot_of_ref}
use Rattle.machine_model.specs.declared.actions.Action.{Action}
use Rattle.machine_model.specs.declared.actions.Action.TheVariants as act
use Rattle.machine_model.specs.declared.building.BuildLine.TheVariants as build
use Rattle.machine_model.specs.declared.lines.Line.{Line}
use Rattle.machine_model.specs.declared.lines.Line.TheVariants as line
use Rattle.machine_model.specs.declared.operations.Operation.{Operation}
use Rattle.machine_model.specs.declared.repairs.CleanLine.TheVariants as clean
use Rattle.machine_model.specs.declared.repairs.ClimbLine.TheVariants as climb
use Rattle.machine_model.specs.declared.repairs.RenewLine.TheVariants as renew
use Rattle.machine_model.specs.declared.steps.Bounds.{Bounds}
use Rattle.machine_model.specs.declared.steps.Step.TheVariants as step
use Rattle.machine_model.specs.Acting.{acted, gone, new_root_taken, operation_after, attempt_after, mark_after}
use Rattle.machine_model.specs.Calls.{handle_of}
use Rattle.machine_model.specs.Grown.{standing}
use Rattle.machine_model.specs.Machine.{AreBounds, state_after}
use Rattle.machine_model.specs.Moves.{GoesOn}
use Rattle.machine_model.specs.Operations.{action_of}
use Rattle.machine_model.specs.States.{State, first_state, with_operation}
use Rattle.machine_model.proofs.Along.{run_push}
use Rattle.machine_model.proofs.Grown.{prev_standing}
use Rattle.proof_memory.specs.Laws.{IsInUse}
use Rattle.proof_memory.specs.Making.{made_node}
use Rattle.proof_memory.specs.Wants.{AllHold, action_wants, node_wants, line_wants}
use Rattle.proof_memory.proofs.Claims.Uses.{safe_of}
use Rattle.proof_memory.proofs.Heap.Under.{fresh_slot}
use Rattle.proof_memory.proofs.Safety.AtEachTime.{safe_along}
use Rattle.proof_memory.proofs.Safety.AtTimes.{line_finds}
use Rattle.proof_memory.proofs.Safety.States.{IsSafe}
use Rattle.proof_memory.proofs.Safety.Standing.{in_root, in_any_slot}
use Rattle.proof_memory.proofs.Safety.Steps.{made_heap}
use Rattle.proof_garbage.proofs.Claims.{Are, refs_claimed, refs_held}
use Rattle.proof_garbage.proofs.First.{first_decided}
use Rattle.proof_garbage.proofs.Known.{action_known, known_used, line_known}
use Rattle.proof_waiting.specs.Beneath.proof_slots.specs.Unswept.{HasNoSweeps}
use Rattle.proof_waiting.specs.Beneath.proof_slots.proofs.Unswept.Orders.{slots_are_taken_in_order}
use Rattle.lock_free.specs.declared.accounts.Account.{Account}
use Rattle.lock_free.specs.declared.accounts.Known.{Known}
use Rattle.lock_free.specs.declared.sizes.Sizes.{Sizes}
use Rattle.lock_free.specs.Accounts.{bounds_for, state_of, running, HasStood}
use Rattle.lock_free.specs.Live.{IsLive, IsKnown}
use Rattle.lock_free.specs.Making.{over_of, made_at, NamesNot, Makes}
use Rattle.lock_free.specs.Nodes.{IsAhead}
use Rattle.lock_free.proofs.OneStep.Aheads.{ahead_of, ahead_acts, goes_ahead}
use Rattle.lock_free.proofs.OneStep.Changing.{then, after, live_used, was_live, live_less, slot_then, births_then, roots_then, generations_then, others_then, own_then, tries_stay, aheads_then}
use Rattle.lock_free.proofs.OneStep.Changing.{still_then}
use Rattle.lock_free.proofs.OneStep.Doing.{CompletesNone}
use Rattle.lock_free.proofs.OneStep.Found.{ref_at, slot_at, used_made, in_use_made, ahead_used}
use Rattle.lock_free.proofs.OneStep.Going.{bounds_after, next_ok}
use Rattle.lock_free.proofs.OneStep.MadeMains.{made_main_decided}
use Rattle.lock_free.proofs.OneStep.Met.{known_met}
use Rattle.lock_free.proofs.OneStep.Offers.{stood_used}
use Rattle.lock_free.proofs.OneStep.Taking as taking

-- the claims of an action that makes this node are the node's
node_claims : (state : State) (S : Ref → Type 0) (heap : Heap) (action : Action) (node : Node) → made_node state action ≡ Some node → AllHold S heap (action_wants action) →
    AllHold S heap (node_wants node)
node_claims state S heap (act.Make made) node is h = subst (λ n. AllHold S heap (node_wants n)) (same_Some made node is) h.1
node_claims state S heap (act.MakeRoot main) node is h = subst (λ n. AllHold S heap (node_wants n)) (same_Some (Indirection state.generations main) node is) h
node_claims state S heap action node is h = absurd (none-some node is)

makes_goes : (state : State) (action : Action) (node : Node) → made_node state action ≡ Some node → GoesOn action × CompletesNone action
makes_goes state (act.Make made) node is = (tt, tt)
makes_goes state (act.MakeRoot main) node is = (tt, tt)
makes_goes state action node is = absurd (none-some node is)

makes_tries : (state : State) (action : Action) (node : Node) → made_node state action ≡ Some node → (attempt : ℕ) (mark : Bool) →
    (attempt_after attempt action ≡ attempt) × (mark_after mark action ≡ mark)
makes_tries state (act.Make made) node is attempt mark = (refl, refl)
makes_tries state (act.MakeRoot main) node is attempt mark = (refl, refl)
makes_tries state action node is attempt mark = absurd (none-some node is)

-- the node that is to be replaced is in use
over_used : (S : Ref → Type 0) (heap : Heap) (state : State) (operation : Operation) (l : Line) (i a : Ref) → over_of l ≡ Some (i, a) →
    AllHold S heap (line_wants state.limits.hash operation.call operation.access l) → S a
over_used S heap state operation (line.Build (build.Main path main c former)) i a e h = subst S (ap (λ (x : Ref × Ref). x.1) (same_Some _ (i, a) e)) (safe_of h.1.1.0)
over_used S heap state operation (line.Renew (renew.Branch path main done)) i a e h = subst S (ap (λ (x : Ref × Ref). x.1) (same_Some _ (i, a) e)) (safe_of h.1.1.0)
over_used S heap state operation (line.Clean (clean.Contracted path main done)) i a e h = subst S (ap (λ (x : Ref × Ref). x.1) (same_Some _ (i, a) e)) (safe_of h.1.1.0)
over_used S heap state operation (line.Climb (climb.Contracted c main)) i a e h = subst S (ap (λ (x : Ref × Ref). x.1) (same_Some _ (i, a) e)) (safe_of h.1.1.1.0)
over_used S heap state operation l i a e h = absurd (none-some (i, a) e)

module _ (sizes : Sizes) (account : Account) (bounds : AreBounds (bounds_for sizes account.steps)) (actor : ℕ) (operation : Operation) (runs : running sizes account actor operation)
    (quiet : HasNoSweeps account.steps)
    (counted : length account.names ≡ (state_of sizes account).heap.births) (stood : (x : Known) → Contains account.offers x → HasStood sizes account x.offer)
    (node : Node) (made_is : made_node (state_of sizes account) (action_of (state_of sizes account) operation) ≡ Some node) where
  abbrev state : State
  state = state_of sizes account

  abbrev limits : Bounds
  limits = bounds_for sizes account.steps

  safe : IsSafe state
  safe = safe_along limits bounds account.steps

  abbrev put : State
  put = with_operation state actor (Some (operation_after state operation))

  abbrev number : ℕ
  number = length account.names

  pub g : GoesOn (action_of state operation)
  g = (makes_goes state (action_of state operation) node made_is).0

  none : CompletesNone (action_of state operation)
  none = (makes_goes state (action_of state operation) node made_is).1

  abbrev made : Ref
  made = taking.made sizes account.steps bounds quiet

  made_slot : slot_of made ≡ number
  made_slot = taking.made_slot sizes account.steps bounds quiet ∙ sym counted

  made_next : next_ref state.heap ≡ Some made
  made_next = taking.made_next sizes account.steps bounds quiet (step.Go actor)

  abbrev heap_then : Heap
  heap_then = taken state.heap node

  heap_is : (then sizes account bounds actor operation runs g).heap ≡ heap_then
  heap_is = made_heap put (handle_of operation.call) (action_of state operation) node made made_is made_next

  -- ---- what the node names

  claims : (K : Ref → Type 0) → AllHold K state.heap (action_wants (action_of state operation)) → Are K (refs_of_node node)
  claims K h = refs_claimed K node (refs_held K state.heap (node_wants node) (node_claims state K state.heap (action_of state operation) node made_is h))

  named : (P : ℕ → Type 0) → P operation.id → Are (IsKnown state P) (refs_of_node node)
  named P own = claims (IsKnown state P) (action_known state safe P actor operation runs own)

  used_low : (r : Ref) → IsInUse state.heap r → slot_of r < number
  used_low r used = let low = used_made sizes account bounds r used in omega (arith, low, counted)

  not_made : (r : Ref) → IsInUse state.heap r → slot_of r ≢ number
  not_made r used same = let low = used_low r used in omega (arith, low, same)

  live_named : (r : Ref) → Contains (refs_of_node node) r → IsInUse state.heap r
  live_named r c = known_used state safe (λ id. Unit {0}) (named (λ id. Unit {0}) tt r c)

  -- its own operation isn't about to swap a node in
  not_ahead : (x : Ref × Ref × Ref) → ahead_of operation.line ≡ Some x → ⊥
  not_ahead x e = none-some node (sym (ap (made_node state) (ahead_acts state operation operation.line x e)) ∙ made_is)

  unmet : (r : Ref) → Contains (refs_of_node node) r → (i a f : Ref) → IsAhead state i a f → slot_of f ≢ slot_of r
  unmet r c = known_met sizes account bounds actor operation runs not_ahead r (λ P own. named P own r c)

  -- ---- nothing names what isn't made yet

  empty_by : (o : Option Slot) → get_or state.heap.slots number None ≡ o → get_or state.heap.slots number None ≡ None
  empty_by None e = e
  empty_by (Some slot) e = let low = in_use_made sizes account bounds number slot e in absurd (omega (arith, low, counted))

  slot_names : (j : ℕ) (slot : Slot) → get_or state.heap.slots j None ≡ Some slot → (r : Ref) → Contains (refs_of_slot (Some slot)) r → IsInUse state.heap r
  unfolding stored
  slot_names j slot at r c =
      let place = slot_of_ref slot.birth j in
      in_any_slot state safe (ref_to slot.birth j) r (subst (λ o. Contains (refs_of_slot o) r) (sym (ap (λ k. get_or state.heap.slots k None) place ∙ at)) c)

  names_not : NamesNot number account state
  names_not = record {
    empty = empty_by (get_or state.heap.slots number None) refl;
    nodes = λ j slot at r c. not_made r (slot_names j slot at r c);
    roots = λ handle r c. not_made r (in_root state safe handle r c);
    aheads = λ i a f h. (let used = ahead_used sizes account bounds i a f h in (not_made i used.0, not_made a used.1, not_made f used.2));
    offers = λ x c r d. not_made r (stood_used sizes account bounds quiet x.offer (stood x c) r d);
  }

  -- ---- the main node of an indirection that is made

  stands_then : get_or (after sizes account bounds actor operation runs g).heap.slots number None ≡ Some (fresh_slot state.heap node)
  stands_then = ap (λ k. get_or (after sizes account bounds actor operation runs g).heap.slots k None) counted
      ∙ slot_then sizes account bounds actor operation runs g heap_then heap_is state.heap.births ∙ taking.slot_then sizes account.steps bounds quiet (step.Go actor) node

  first_branch : (k : ℕ) (slot : Slot) → get_or state.heap.slots k None ≡ Some slot → slot_of no_ref ≡ k → slot.prev ≡ prev.None
  first_branch k slot at same =
      let (r, place, stands) = ref_at state safe k slot at in
      let birth = (slots_are_taken_in_order limits account.steps quiet).1 r (slot, stands) in
      let is = same_ref r (ref_to 1 0) (place ∙ sym same) (omega (arith, birth, place, same)) in
      sym (prev_standing state.heap r slot stands) ∙ ap (prev_at state.heap) is ∙ first_decided limits account.steps bounds (subst (IsInUse state.heap) is (slot, stands))

  main_by : (n : Node) → node ≡ n → (k : ℕ) (slot : Slot) → get_or state.heap.slots k None ≡ Some slot → slot_of (main_of n) ≡ k → slot.prev ≡ prev.None
  main_by (Indirection generation m) is k slot at same =
      let used = live_named m (subst (λ n. Contains (refs_of_node n) m) (sym is) (Contains-get_or (m ∷ []) 0 m (omega arith))) in
      let one = same_Some _ _ (sym at ∙ ap (λ j. get_or state.heap.slots j None) (sym same) ∙ slot_at state.heap m used.0 used.1) in
      let stands = taking.stands sizes account.steps bounds quiet (step.Go actor) node in
      let ran = run_push (first_state limits) account.steps (step.Go actor) ∙ ap (state_after state) (next_ok sizes account bounds actor operation runs g) in
      let there = ap (λ (x : State). standing x.heap made) ran ∙ ap (λ h. standing h made) heap_is ∙ stands in
      ap (λ (x : Slot). x.prev) one ∙ sym (prev_standing state.heap m used.0 used.1)
      ∙ made_main_decided limits account.steps bounds (step.Go actor) _ _ (next_ok sizes account bounds actor operation runs g) made m (fresh_slot state.heap node) generation made_next there is used
  main_by (Branch bitmap entries) is k slot at same = first_branch k slot at same
  main_by (Single key value) is k slot at same = first_branch k slot at same
  main_by (Tomb single) is k slot at same = first_branch k slot at same
  main_by (Listed singles) is k slot at same = first_branch k slot at same

  decided : (i : Ref) → slot_of i ≡ number → (k : ℕ) (slot : Slot) → get_or state.heap.slots k None ≡ Some slot → slot_of (main_at (after sizes account bounds actor operation runs g).heap i) ≡ k →
      slot.prev ≡ prev.None
  unfolding node_at stored
  decided i its k slot at same =
      let found = ap (λ j. get_or (after sizes account bounds actor operation runs g).heap.slots j None) its ∙ stands_then in
      main_by node refl k slot at (ap (λ o. slot_of (main_of (node_of o))) (sym found) ∙ same)

  -- ---- what is live, and who is about to swap a node in

  live : (r : Ref) → IsLive (after sizes account bounds actor operation runs g) r → IsLive state r ⊎ (slot_of r ≡ number)
  live r k = by (was_live sizes account bounds actor operation runs g r (live_less sizes account bounds actor operation runs g r k))
    where
      by : IsLive state r ⊎ (standing state.heap r ≡ None) → IsLive state r ⊎ (slot_of r ≡ number)
      by (inl was) = inl was
      by (inr gone) =
          let used = subst (λ h. IsInUse h r) heap_is (live_used sizes account bounds actor operation runs g r (live_less sizes account bounds actor operation runs g r k)) in
          elim (taking.used_or_made sizes account.steps bounds quiet (step.Go actor) node r used) [
            | inl was ↦ absurd (none-some was.0 (sym gone ∙ was.1))
            | inr is ↦ inr (ap slot_of is ∙ made_slot)
          ]

  aheads : (i a f : Ref) → IsAhead (after sizes account bounds actor operation runs g) i a f → IsAhead state i a f ⊎ ((over_of operation.line ≡ Some (i, a)) × (slot_of f ≡ number))
  aheads i a f x = elim (aheads_then sizes account bounds actor operation runs g none i a f x) [
    | inl was ↦ inl was
    | inr comes ↦ inr (comes.0, ap slot_of (same_Some f made (sym comes.1 ∙ made_next)) ∙ made_slot)
  ]

  still : (i a f : Ref) → IsAhead state i a f → IsAhead (after sizes account bounds actor operation runs g) i a f
  still i a f x = elim (still_then sizes account bounds actor operation runs g none i a f x) [ inl is ↦ is | inr its ↦ absurd (not_ahead (i, a, f) its) ]

  next : (i a : Ref) → over_of operation.line ≡ Some (i, a) → (slot_of a ≢ number) × ((f : Ref) × (slot_of f ≡ number) × IsAhead (after sizes account bounds actor operation runs g) i a f)
  next i a over =
      let goes = goes_ahead state operation operation.line i a made over made_next in (
        not_made a (over_used (IsInUse state.heap) state.heap state operation operation.line i a over (line_finds state safe actor operation runs)),
        (made, made_slot, record { actor = actor; operation = operation_after state operation; runs = own_then sizes account bounds actor operation runs g none; why = goes.0; on = goes.1 }),
      )

  module _ (more : ℕ) (roots_are : (then sizes account bounds actor operation runs g).roots ≡ state.roots)
      (generations_are : (then sizes account bounds actor operation runs g).generations ≡ state.generations + more) (name : ℕ) (own : Bool) where
    pub makes : Makes sizes account (made_at actor name own node account) actor operation node more
    makes =
        let tries = makes_tries state (action_of state operation) node made_is operation.attempt operation.is_marked in
        record {
          bounds = bounds_after sizes account bounds actor operation runs g;
          runs = runs;
          names_not = names_not;
          refs = λ r c. used_low r (live_named r c);
          unmet = unmet;
          made = fresh_slot state.heap node;
          stands = stands_then;
          node_is = refl;
          birth = ap (λ n. n + 1) (sym counted);
          prev_is = refl;
          nodes = λ k apart.
              slot_then sizes account bounds actor operation runs g heap_then heap_is k ∙ taking.elsewhere sizes account.steps bounds quiet (step.Go actor) node k (λ e. apart (e ∙ sym counted));
          births = births_then sizes account bounds actor operation runs g heap_then heap_is ∙ taking.births_are sizes account.steps bounds quiet (step.Go actor) node;
          decided = decided;
          live = live;
          roots = roots_then sizes account bounds actor operation runs g roots_are;
          generations = generations_then sizes account bounds actor operation runs g (state.generations + more) generations_are;
          others = others_then sizes account bounds actor operation runs g none;
          own = own_then sizes account bounds actor operation runs g none;
          tries = tries_stay sizes account bounds actor operation runs g none tries.0 tries.1;
          aheads = aheads;
          still = still;
          next = next;
        }

module _ (sizes : Sizes) (account : Account) (bounds : AreBounds (bounds_for sizes account.steps)) (actor : ℕ) (operation : Operation) (runs : running sizes account actor operation)
    (quiet : HasNoSweeps account.steps)
    (counted : length account.names ≡ (state_of sizes account).heap.births) (stood : (x : Known) → Contains account.offers x → HasStood sizes account x.offer) (name : ℕ) (own : Bool) where
  abbrev before : State
  before = state_of sizes account

  abbrev next_state : State
  next_state = with_operation before actor (Some (operation_after before operation))

  pub node_makes : (node : Node) → action_of before operation ≡ act.Make node → Makes sizes account (made_at actor name own node account) actor operation node 0
  node_makes node is =
      makes sizes account bounds actor operation runs quiet counted stood node (ap (made_node before) is) 0 (ap (λ a. (acted next_state (handle_of operation.call) a).roots) is)
      (ap (λ a. (acted next_state (handle_of operation.call) a).generations) is ∙ add_none before.generations) name own
    where
      add_none : (n : ℕ) → n ≡ n + 0
      add_none n = omega arith

  pub root_makes : (main : Ref) → action_of before operation ≡ act.MakeRoot main →
      Makes sizes account (made_at actor name own (Indirection before.generations main) account) actor operation (Indirection before.generations main) 1
  root_makes main is =
      let drawn = taking.made_next sizes account.steps bounds quiet (step.Go actor) in
      let taken = ap (acted next_state (handle_of operation.call)) is ∙ ap (new_root_taken next_state main) drawn in
      makes sizes account bounds actor operation runs quiet counted stood (Indirection before.generations main) (ap (made_node before) is) 1 (ap (λ (s : State). s.roots) taken) (ap
      (λ (s : State). s.generations) taken)
      name own

module _ (sizes : Sizes) (account : Account) (bounds : AreBounds (bounds_for sizes account.steps)) (actor : ℕ) (operation : Operation) (runs : running sizes account actor operation) where
  -- what the node names is live, and so is the main node over which it is to be swapped in
  pub made_names_live : (node : Node) → action_of (state_of sizes account) operation ≡ act.Make node → (r : Ref) → Contains (refs_of_node node) r → IsLive (state_of sizes account) r
  made_names_live node is r c =
      let state = state_of sizes account in
      let safe = safe_along (bounds_for sizes account.steps) bounds account.steps in
      let claims = action_known state safe (λ id. Unit {0}) actor operation runs tt in
      refs_claimed (IsLive state) node (refs_held (IsLive state) state.heap (node_wants node)
      (node_claims state (IsLive state) state.heap (action_of state operation) node (ap (made_node state) is) claims)) r c

  -- so is the main node of a root that is made
  pub root_named_live : (main : Ref) → action_of (state_of sizes account) operation ≡ act.MakeRoot main → IsLive (state_of sizes account) main
  root_named_live main is =
      let state = state_of sizes account in
      let safe = safe_along (bounds_for sizes account.steps) bounds account.steps in
      let claims = action_known state safe (λ id. Unit {0}) actor operation runs tt in
      let root = Indirection state.generations main in
      refs_claimed (IsLive state) root (refs_held (IsLive state) state.heap (node_wants root)
      (node_claims state (IsLive state) state.heap (action_of state operation) root (ap (made_node state) is) claims)) main (Contains-get_or (main ∷ []) 0 main (omega arith))

  pub over_lives : (i main : Ref) → over_of operation.line ≡ Some (i, main) → IsLive (state_of sizes account) main
  over_lives i main over =
      let state = state_of sizes account in
      over_used (IsLive state) state.heap state operation operation.line i main over (line_known state (safe_along (bounds_for sizes account.steps) bounds account.steps)
      (λ id. Unit {0}) actor operation runs tt)
