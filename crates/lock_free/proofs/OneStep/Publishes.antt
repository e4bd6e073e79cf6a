-- What is left by the step that swaps a fresh main node in, or finds another one than it is to replace.
use Rattle.std.proofs.Common.{◌≡◌, ◌≢◌, ◌⊎◌, ◌==◌, ℕ, Bool, true, false, ◌∷◌, ◌++◌, All, Contains, Option, Some, None, get_or, arith, refl, sym, ap, subst, ◌∙◌, inl, inr, eqb-true}
use Rattle.std.proofs.lemmas.Bool.{cases_eq, eqb-false, true≢false}
use Rattle.std.proofs.lemmas.Option.{none-some, same_Some}
use Rattle.std.proofs.lemmas.List.Elements.{Contains-get_or}
use Rattle.machine_model.specs.Beneath.slot_arena.specs.declared.refs.Ref.{Ref}
use Rattle.machine_model.specs.Beneath.slot_arena.specs.declared.nodes.Node.{Node}
use Rattle.machine_model.specs.Beneath.slot_arena.specs.declared.nodes.Node.TheVariants.{Indirection, Branch, Single, Tomb, List as Listed}
use Rattle.machine_model.specs.Beneath.slot_arena.specs.declared.nodes.Prev.TheVariants as prev
use Rattle.machine_model.specs.Beneath.slot_arena.specs.declared.nodes.Slot.{Slot}
use Rattle.machine_model.specs.Beneath.slot_arena.specs.Heaps.{Heap, no_ref, stored, node_at, node_of, main_at, main_of, prev_at, with_main, with_main_word, with_prev, refs_of_slot, refs_of_node}
use Rattle.machine_model.specs.Beneath.slot_arena.specs.Heaps.{refs_of_prev}
use Rattle.machine_model.specs.Beneath.slot_arena.specs.Refs.{slot_of, ref_to}
use Rattle.machine_model.specs.Beneath.slot_arena.proofs.Live.{same_ref}
use Rattle.machine_model.specs.declared.actions.Action.{Action}
use Rattle.machine_model.specs.declared.actions.Action.TheVariants as act
use Rattle.machine_model.specs.declared.building.BuildLine.TheVariants as build
use Rattle.machine_model.specs.declared.copying.CopyLine.TheVariants as copy
use Rattle.machine_model.specs.declared.finding.KeyLine.TheVariants as key
use Rattle.machine_model.specs.declared.lines.Line.{Line}
use Rattle.machine_model.specs.declared.lines.Line.TheVariants as line
use Rattle.machine_model.specs.declared.lines.Purpose.{Purpose}
use Rattle.machine_model.specs.declared.reading.ReadLine.{ReadLine}
use Rattle.machine_model.specs.declared.reading.ReadLine.TheVariants as read
use Rattle.machine_model.specs.declared.reading.SwapLine.{SwapLine}
use Rattle.machine_model.specs.declared.reading.SwapLine.TheVariants as swap
use Rattle.machine_model.specs.declared.repairs.CleanLine.TheVariants as clean
use Rattle.machine_model.specs.declared.repairs.ClimbLine.TheVariants as climb
use Rattle.machine_model.specs.declared.repairs.RenewLine.TheVariants as renew
use Rattle.machine_model.specs.declared.roots.CompleteLine.{CompleteLine}
use Rattle.machine_model.specs.declared.roots.CompleteLine.TheVariants as complete
use Rattle.machine_model.specs.declared.roots.Descriptor.{Descriptor}
use Rattle.machine_model.specs.declared.roots.RootLine.{RootLine}
use Rattle.machine_model.specs.declared.roots.RootLine.TheVariants as root
use Rattle.machine_model.specs.declared.walking.WalkLine.TheVariants as walk
use Rattle.machine_model.specs.declared.operations.Operation.{Operation}
use Rattle.machine_model.specs.Acting.{acted, gone, if_changed, operation_after, attempt_after, mark_after}
use Rattle.machine_model.specs.Calls.{handle_of}
use Rattle.machine_model.specs.Grown.{standing}
use Rattle.machine_model.specs.Machine.{AreBounds}
use Rattle.machine_model.specs.Moves.{GoesOn}
use Rattle.machine_model.specs.Operations.{action_of, line_action}
use Rattle.machine_model.specs.Reading.{read_action}
use Rattle.machine_model.specs.States.{State, operation_of, with_operation}
use Rattle.machine_model.specs.Swapping.{swapping, action_at, complete_action_at, root_action}
use Rattle.machine_model.specs.declared.steps.Bounds.{Bounds}
use Rattle.machine_model.proofs.Fates.{place_of_actor}
use Rattle.machine_model.proofs.Grown.{standing_parts, node_standing, prev_standing}
use Rattle.proof_memory.specs.Laws.{IsInUse}
use Rattle.proof_memory.specs.Wants.{AnIndirection, AMain, AllHold, meets, is_main_node, action_wants}
use Rattle.proof_memory.proofs.Claims.Uses.{safe_of, meets_of}
use Rattle.proof_memory.proofs.Heap.Under.{main_here, main_other, prev_here}
use Rattle.proof_memory.proofs.Safety.AtEachTime.{safe_along}
use Rattle.proof_memory.proofs.Safety.AtTimes.{action_finds}
use Rattle.proof_memory.proofs.Safety.Standing.{in_any_slot}
use Rattle.proof_memory.proofs.Safety.States.{IsSafe}
use Rattle.proof_waiting.specs.Beneath.proof_slots.proofs.Unswept.Kept.{one_ref}
use Rattle.proof_garbage.proofs.Fresh.{fresh_apart, fresh_decided, fresh_nowhere}
use Rattle.proof_garbage.proofs.First.{fresh_not_first}
use Rattle.proof_garbage.proofs.GivenUp.{SameElsewhere, dead_where_missed, fresh_private}
use Rattle.proof_waiting.specs.Beneath.proof_slots.specs.Unswept.{HasNoSweeps}
use Rattle.proof_waiting.specs.Beneath.proof_slots.proofs.Unswept.Orders.{slots_are_taken_in_order}
use Rattle.lock_free.specs.declared.accounts.Account.{Account}
use Rattle.lock_free.specs.declared.sizes.Sizes.{Sizes}
use Rattle.lock_free.specs.Accounts.{bounds_for, state_of, running, gone_on}
use Rattle.lock_free.specs.Making.{over_of}
use Rattle.lock_free.specs.Nodes.{IsAhead}
use Rattle.lock_free.specs.Live.{IsLive}
use Rattle.lock_free.specs.Publishing.{swapped_in, Publishes}
use Rattle.lock_free.specs.Steps.{Leads}
use Rattle.lock_free.specs.Trying.{SameTries, as_before}
use Rattle.lock_free.proofs.OneStep.Aheads.{ahead_at, ahead_of, over_makes, comes_ahead}
use Rattle.lock_free.proofs.OneStep.Changing.{then, live_used, slot_then, births_then, live_then, roots_then, generations_then, others_then, own_then, tries_stay, no_more_then, still_then}
use Rattle.lock_free.proofs.OneStep.Doing.{CompletesNone, others, own}
use Rattle.lock_free.proofs.OneStep.Decides.{prev_elsewhere, prev_births, prev_used}
use Rattle.lock_free.proofs.OneStep.Restores.{main_elsewhere, main_births, main_used}
use Rattle.lock_free.proofs.OneStep.Giving.{is_one_of, one_of_them, none_of_them}
use Rattle.lock_free.proofs.OneStep.Found.{link_of, slot_at, ref_at, ahead_used}
use Rattle.lock_free.proofs.OneStep.Going.{bounds_after}
use Rattle.lock_free.proofs.OneStep.Reached.{reached_apart}
use Rattle.lock_free.proofs.OneStep.Retired.{retired_apart}
use Rattle.lock_free.proofs.OneStep.Leading.{leads}

-- ---- which line publishes

-- the node that an action is to swap in, where, and over what
abbrev published_of : Action → Option (Ref × Ref × Ref)
published_of (act.Publish i a f) = Some (i, a, f)
published_of action = None

read_not : (i : Ref) (l : ReadLine) → published_of (read_action i l) ≡ None
read_not i read.Main = refl
read_not i (read.Prev m) = refl
read_not i (read.AskRoot m p) = refl
read_not i (read.Abort m p offer) = refl
read_not i (read.Decide m p told) = refl
read_not i (read.Restore m p) = refl

complete_not : (offer : Descriptor) (l : CompleteLine) → published_of (complete_action_at offer l) ≡ None
complete_not offer (complete.Reading l) = read_not offer.root l
complete_not offer (complete.Swap main) = refl

root_not : (l : RootLine) → published_of (root_action l) ≡ None
root_not root.Read = refl
root_not (root.Completing c) = complete_not c.offer c.line

swap_is : (i a f : Ref) (l : SwapLine) → published_of (action_at i a f l) ≡ ahead_at i a f l
swap_is i a f swap.Publish = refl
swap_is i a f (swap.Deciding l) = read_not i l
swap_is i a f swap.Check = refl

module _ (state : State) (operation : Operation) where
  line_publishes : (l : Line) → published_of (line_action state operation l) ≡ ahead_of l
  line_publishes (line.Root l) = root_not l
  line_publishes (line.Key (key.Read path r)) = read_not r.indirection r.line
  line_publishes (line.Key l) = refl
  line_publishes (line.Build (build.Single path main site former)) = refl
  line_publishes (line.Build l) = refl
  line_publishes (line.Swap why s) = swap_is s.indirection s.replaced s.fresh s.line
  line_publishes (line.Renew (renew.Read path main done r)) = read_not r.indirection r.line
  line_publishes (line.Renew l) = refl
  line_publishes (line.Clean (clean.Read path r)) = read_not r.indirection r.line
  line_publishes (line.Clean (clean.Child path main done r)) = read_not r.indirection r.line
  line_publishes (line.Clean l) = refl
  line_publishes (line.Climb (climb.Read c r)) = read_not r.indirection r.line
  line_publishes (line.Climb (climb.Root c l)) = root_not l
  line_publishes (line.Climb l) = refl
  line_publishes (line.Copy (copy.Read r read)) = read_not read.indirection read.line
  line_publishes (line.Copy (copy.Complete c)) = complete_not c.offer c.line
  line_publishes (line.Copy l) = refl
  line_publishes (line.Walk (walk.Read r todo pairs)) = read_not r.indirection r.line
  line_publishes (line.Walk l) = refl
  line_publishes (line.End answer) = refl
  line_publishes line.Impossible = refl

swap_line_of : (why : Purpose) (i a f : Ref) (l : SwapLine) (x : Ref × Ref × Ref) → ahead_at i a f l ≡ Some x → record { indirection = i; replaced = a; fresh = f; line = l } ≡ swapping x.0 x.1 x.2
swap_line_of why i a f swap.Publish x e = ap (λ (y : Ref × Ref × Ref). swapping y.0 y.1 y.2) (same_Some (i, a, f) x e)
swap_line_of why i a f l x e = absurd (none-some x e)

ahead_line : (l : Line) (x : Ref × Ref × Ref) → ahead_of l ≡ Some x → (why : Purpose) × (l ≡ line.Swap why (swapping x.0 x.1 x.2))
ahead_line (line.Swap why s) x e = (why, ap (line.Swap why) (swap_line_of why s.indirection s.replaced s.fresh s.line x e))
ahead_line l x e = absurd (none-some x e)

-- ---- the heap

apart_kinds : (node : Node) → meets AnIndirection node ≡ true → meets AMain node ≡ true → ⊥
apart_kinds (Indirection generation main) e m = true≢false (sym m)
apart_kinds (Branch bitmap entries) e m = true≢false (sym e)
apart_kinds (Single key value) e m = true≢false (sym m)
apart_kinds (Tomb single) e m = true≢false (sym e)
apart_kinds (Listed singles) e m = true≢false (sym e)

as_found : (heap : Heap) (j : Ref) (o : Option Slot) → stored heap j ≡ o → get_or heap.slots (slot_of j) None ≡ o
unfolding stored
as_found heap j o e = e

swapped_used : (heap : Heap) (i a f : Ref) → IsInUse heap i → IsInUse heap f → (r : Ref) → IsInUse (with_prev (with_main heap i f) f (prev.Pending a)) r → IsInUse heap r
swapped_used heap i a f used_i used_f r used = main_used heap i f used_i r (prev_used (with_main heap i f) f (prev.Pending a) (kept (cases_eq f i)) r used)
  where
    kept : (f ≡ i) ⊎ (f ≡ i → ⊥) → IsInUse (with_main heap i f) f
    kept (inl same) = (_, ap (standing (with_main heap i f)) same ∙ main_here heap i f used_i.0 used_i.1)
    kept (inr apart) = (used_f.0, main_other heap i f used_i.0 used_i.1 f apart ∙ used_f.1)

module _ (sizes : Sizes) (account : Account) (bounds : AreBounds (bounds_for sizes account.steps)) (actor : ℕ) (operation : Operation) (runs : running sizes account actor operation)
    (quiet : HasNoSweeps account.steps)
    (i a f : Ref) (is : action_of (state_of sizes account) operation ≡ act.Publish i a f) where
  abbrev state : State
  state = state_of sizes account

  abbrev limits : Bounds
  limits = bounds_for sizes account.steps

  abbrev put : State
  put = with_operation state actor (Some (operation_after state operation))

  g : GoesOn (action_of state operation)
  g = subst GoesOn (sym is) tt

  none : CompletesNone (action_of state operation)
  none = subst CompletesNone (sym is) tt

  safe : IsSafe state
  safe = safe_along limits bounds account.steps

  gone_is : (b : Bool) → (main_at state.heap i == a) ≡ b → gone state actor operation ≡ record put { heap = if_changed b (with_prev (with_main state.heap i f) f (prev.Pending a)) state.heap }
  gone_is b e = ap (acted put (handle_of operation.call)) is ∙ ap (λ c. record put { heap = if_changed c (with_prev (with_main state.heap i f) f (prev.Pending a)) state.heap }) e

  tries : SameTries state (state_of sizes (gone_on actor account))
  tries = tries_stay sizes account bounds actor operation runs g none (ap (attempt_after operation.attempt) is) (ap (mark_after operation.is_marked) is)

  claims : AllHold (IsInUse state.heap) state.heap (action_wants (act.Publish i a f))
  claims = subst (λ action. AllHold (IsInUse state.heap) state.heap (action_wants action)) is (action_finds state safe actor operation runs)

  makes_none : (j b : Ref) → over_of operation.line ≡ Some (j, b) → ⊥
  makes_none j b over = let (node, made) = over_makes state operation operation.line (j, b) over in let both = sym made ∙ is in cc

  its_line : (why : Purpose) × (operation.line ≡ line.Swap why (swapping i a f))
  its_line = ahead_line operation.line (i, a, f) (sym (line_publishes state operation operation.line) ∙ ap published_of is)

  abbrev why : Purpose
  why = its_line.0

  used_i : IsInUse state.heap i
  used_i = safe_of claims.0

  used_f : IsInUse state.heap f
  used_f = safe_of claims.1.1.0

  ahead : IsAhead state i a f
  ahead = record { actor = actor; operation = operation; runs = runs; why = why; on = its_line.1 }

  -- another one that is about to swap in what is in its slot is the operation itself
  same_fresh : (j b h : Ref) → IsAhead state j b h → slot_of h ≡ slot_of f → h ≡ f
  same_fresh j b h x same = one_ref state.heap h f (ahead_used sizes account bounds j b h x).2 used_f same

  its_own : (j b h : Ref) (x : IsAhead state j b h) → slot_of h ≡ slot_of f → (x.actor ≡ actor → ⊥) → ⊥
  its_own j b h x same apart =
      fresh_apart limits account.steps bounds actor x.actor operation x.operation i a j b f why x.why runs x.runs its_line.1
      (x.on ∙ ap (λ y. line.Swap x.why (swapping j b y)) (same_fresh j b h x same)) (λ e. apart (sym e))

  alone : (j b h : Ref) → IsAhead state j b h → slot_of h ≡ slot_of f → (slot_of j ≡ slot_of i) × (b ≡ a)
  alone j b h x same = elim (cases_eq x.actor actor) [
    | inl its ↦
        let one = same_Some _ _ (sym x.runs ∙ ap (operation_of state) its ∙ runs) in
        let lines = ap ahead_of (sym x.on ∙ ap (λ (o : Operation). o.line) one ∙ its_line.1) in
        let pair = same_Some (j, b, h) (i, a, f) lines in
        (ap (λ (y : Ref × Ref × Ref). slot_of y.0) pair, ap (λ (y : Ref × Ref × Ref). y.1) pair)
    | inr apart ↦ absurd (its_own j b h x same apart)
  ]

  -- ---- where another one stands there

  module _ (e : (main_at state.heap i == a) ≡ false) where
    abbrev after : State
    after = (then) sizes account bounds actor operation runs g

    elsewhere : SameElsewhere limits account.steps bounds actor operation runs after
    elsewhere = record {
      roots = ap (λ (s : State). s.roots) (gone_is false e);
      heap = ap (λ (s : State). s.heap) (gone_is false e);
      bounds = ap (λ (s : State). s.limits) (gone_is false e);
      others = others state actor operation runs none;
    }

    dead : (x : Ref) → Contains operation.private x → IsLive after x → ⊥
    dead x c live = dead_where_missed limits account.steps bounds actor operation runs i a f why its_line.1 after elsewhere (own state actor operation runs none) e x c live

    privates : All (IsInUse state.heap) operation.private
    privates = let (k, own, at_k) = place_of_actor state actor operation runs in safe.privates k operation at_k

    given : (r : Ref) → IsLive after r → is_one_of operation.private (slot_of r) ≡ false
    given r live =
        none_of_them state.heap operation.private privates r (subst (λ h. IsInUse h r) elsewhere.heap (live_used sizes account bounds actor operation runs g r live)) (λ c. dead r c live)

    its_private : (j b h : Ref) → ahead_of operation.line ≡ Some (j, b, h) → is_one_of operation.private (slot_of h) ≡ false → ⊥
    its_private j b h of kept =
        let pair = same_Some (i, a, f) (j, b, h) (sym (ap ahead_of its_line.1) ∙ of) in
        let mine = one_of_them operation.private f (fresh_private limits account.steps bounds actor operation runs i a f why its_line.1) in
        true≢false (sym (subst (λ y. is_one_of operation.private (slot_of y) ≡ true) (ap (λ (y : Ref × Ref × Ref). y.2) pair) mine) ∙ kept)

    pub missed : Leads sizes account (gone_on actor account) actor (is_one_of operation.private) (operation_after state operation)
    missed = leads sizes account bounds actor operation runs g none (gone_is false e) (is_one_of operation.private) given
        (λ r h. reached_apart sizes account bounds quiet r h actor operation runs)
        (λ x h g. retired_apart sizes account bounds quiet x h g actor operation runs) makes_none its_private (as_before tries)

    pub another : main_at state.heap i ≢ a
    another = eqb-false (main_at state.heap i) a e

  -- ---- where that one stands there still

  module _ (e : (main_at state.heap i == a) ≡ true) where
    stands : main_at state.heap i ≡ a
    stands = eqb-true (main_at state.heap i) a e

    abbrev heap_then : Heap
    heap_then = with_prev (with_main state.heap i f) f (prev.Pending a)

    heap_is : ((then) sizes account bounds actor operation runs g).heap ≡ heap_then
    heap_is = ap (λ (s : State). s.heap) (gone_is true e)

    link_node : (generation : ℕ) × (used_i.0.node ≡ Indirection generation a)
    link_node =
        let (generation, m, node) = link_of (node_at state.heap i) (meets_of claims.0) in
        let same : m ≡ a = sym (ap main_of node) ∙ stands in
        (generation, sym (node_standing state.heap i used_i.0 used_i.1) ∙ node ∙ ap (Indirection generation) same)

    differ : i ≡ f → ⊥
    differ same = apart_kinds (node_at state.heap f) (subst (λ x. meets AnIndirection (node_at state.heap x) ≡ true) same (meets_of claims.0)) (meets_of claims.1.1.0)

    slots_differ : slot_of f ≢ slot_of i
    slots_differ same = differ (sym (one_ref state.heap f i used_f used_i same))

    f_kept : standing (with_main state.heap i f) f ≡ Some used_f.0
    f_kept = main_other state.heap i f used_i.0 used_i.1 f (λ same. differ (sym same)) ∙ used_f.1

    fresh_is_decided : prev_at state.heap f ≡ prev.None
    fresh_is_decided = fresh_decided limits account.steps bounds actor operation i a f why runs its_line.1 used_f

    -- the default is no fresh node
    not_default : slot_of no_ref ≢ slot_of f
    not_default same =
        let birth = (slots_are_taken_in_order limits account.steps quiet).1 f used_f in
        fresh_not_first limits account.steps bounds actor operation i a f why runs its_line.1 (same_ref f (ref_to 1 0) (sym same) (omega (arith, birth, same)))

    -- no other main word has it
    node_by : (j : Ref) (slot : Slot) → stored state.heap j ≡ Some slot → (node : Node) → slot.node ≡ node → slot_of (main_of node) ≢ slot_of f
    node_by j slot at (Indirection generation m) node same =
        let (r, place, stood) = ref_at state safe (slot_of j) slot (as_found state.heap j (Some slot) at) in
        let has = subst (λ n. Contains (refs_of_node n ++ refs_of_prev slot.prev) m) (sym node) (Contains-get_or (m ∷ refs_of_prev slot.prev) 0 m (omega arith)) in
        let used_m = in_any_slot state safe j m (subst (λ o. Contains (refs_of_slot o) m) (sym at) has) in
        fresh_nowhere limits account.steps bounds actor operation i a f why runs its_line.1 r slot generation stood (node ∙ ap (Indirection generation) (one_ref state.heap m f used_m used_f same))
    node_by j slot at (Branch bitmap entries) node same = not_default same
    node_by j slot at (Single key value) node same = not_default same
    node_by j slot at (Tomb single) node same = not_default same
    node_by j slot at (Listed singles) node same = not_default same

    nowhere_by : (j : Ref) (o : Option Slot) → stored state.heap j ≡ o → slot_of (main_of (node_of o)) ≢ slot_of f
    nowhere_by j None at same = not_default same
    nowhere_by j (Some slot) at same = node_by j slot at slot.node refl same

    nowhere : (j : Ref) → slot_of (main_at state.heap j) ≢ slot_of f
    unfolding node_at
    nowhere j = nowhere_by j (stored state.heap j) refl

    no_more : (j b h : Ref) → IsAhead (state_of sizes (swapped_in actor i f account)) j b h → IsAhead state j b h × (slot_of h ≢ slot_of f)
    no_more j b h x =
        let was = no_more_then sizes account bounds actor operation runs g none makes_none j b h x in (was, λ same. by_actor same (cases_eq x.actor actor))
      where
        by_actor : slot_of h ≡ slot_of f → (x.actor ≡ actor) ⊎ (x.actor ≡ actor → ⊥) → ⊥
        by_actor same (inl its) =
            let one = same_Some _ _ (sym (own_then sizes account bounds actor operation runs g none) ∙ ap (operation_of (state_of sizes (gone_on actor account))) (sym its) ∙ x.runs) in
            makes_none j b (comes_ahead state operation operation.line (j, b, h) (ap (λ (o : Operation). ahead_of o.line) one ∙ ap ahead_of x.on)).0
        by_actor same (inr apart) =
            let ran = sym (others_then sizes account bounds actor operation runs g none x.actor apart) ∙ x.runs in
            its_own j b h (record { actor = x.actor; operation = x.operation; runs = ran; why = x.why; on = x.on }) same apart

    pub publishes : Publishes sizes account (swapped_in actor i f account) actor operation i a f
    publishes = record {
      bounds = bounds_after sizes account bounds actor operation runs g;
      runs = runs;
      on = its_line;
      generation = link_node.0;
      link = used_i.0;
      link_is = slot_at state.heap i used_i.0 used_i.1;
      link_node = link_node.1;
      link_birth = (standing_parts state.heap i used_i.0 used_i.1).1;
      link_then = slot_then sizes account bounds actor operation runs g heap_then heap_is (slot_of i)
          ∙ prev_elsewhere (with_main state.heap i f) f (prev.Pending a) (slot_of i) (λ same. slots_differ (sym same))
          ∙ slot_at (with_main state.heap i f) i _ (main_here state.heap i f used_i.0 used_i.1) ∙ ap (λ n. Some (record used_i.0 { node = with_main_word f n })) link_node.1;
      fresh = used_f.0;
      fresh_is = slot_at state.heap f used_f.0 used_f.1;
      fresh_main = subst (λ n. is_main_node n ≡ true) (node_standing state.heap f used_f.0 used_f.1) (meets_of claims.1.1.0);
      fresh_prev = sym (prev_standing state.heap f used_f.0 used_f.1) ∙ fresh_is_decided;
      fresh_then =
          slot_then sizes account bounds actor operation runs g heap_then heap_is (slot_of f) ∙ slot_at heap_then f _ (prev_here (with_main state.heap i f) f (prev.Pending a) used_f.0 f_kept);
      nodes = λ k not_i not_f. slot_then sizes account bounds actor operation runs g heap_then heap_is k ∙ prev_elsewhere (with_main state.heap i f) f (prev.Pending a) k not_f
          ∙ main_elsewhere state.heap i f k not_i;
      births = births_then sizes account bounds actor operation runs g heap_then heap_is ∙ prev_births (with_main state.heap i f) f (prev.Pending a) ∙ main_births state.heap i f;
      live = live_then sizes account bounds actor operation runs g heap_then heap_is (swapped_used state.heap i a f used_i used_f);
      roots = roots_then sizes account bounds actor operation runs g (ap (λ (s : State). s.roots) (gone_is true e));
      generations = generations_then sizes account bounds actor operation runs g state.generations (ap (λ (s : State). s.generations) (gone_is true e));
      others = others_then sizes account bounds actor operation runs g none;
      own = own_then sizes account bounds actor operation runs g none;
      tries = tries;
      was_ahead = ahead;
      alone = alone;
      no_more = no_more;
      still = λ j b h x apart. elim (still_then sizes account bounds actor operation runs g none j b h x) [
        | inl is ↦ is
        | inr of ↦
            let pair = same_Some (i, a, f) (j, b, h) (sym (ap ahead_of its_line.1) ∙ of) in absurd (apart (ap (λ (y : Ref × Ref × Ref). slot_of y.2) (sym pair)))
      ];
      nowhere = λ j apart. nowhere j;
    }

  abbrev PublishesOrNot : Type 0
  PublishesOrNot =
      (Publishes sizes account (swapped_in actor i f account) actor operation i a f × (main_at state.heap i ≡ a))
      ⊎ (Leads sizes account (gone_on actor account) actor (is_one_of operation.private) (operation_after state operation) × (main_at state.heap i ≢ a))

  by_stand : (b : Bool) → (main_at state.heap i == a) ≡ b → PublishesOrNot
  by_stand true e = inl (publishes e, stands e)
  by_stand false e = inr (missed e, another e)

  -- swapping a fresh main node in over one that stands there still, or doesn't
  pub publishes_or_not : PublishesOrNot
  publishes_or_not = by_stand (main_at state.heap i == a) refl
