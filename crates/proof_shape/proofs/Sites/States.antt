-- Sites after each step.
use Rattle.proof_shape.specs.Vocabulary.{GivesUp, hash_of, HashKind, Call, Close, Entries, Ref, Node, Indirection, Branch, Single, Tomb, List as Listed, Slot, with_main_word, main_changed}
use Rattle.proof_shape.specs.Vocabulary.{prev_changed, next_ref, Action, Operation, Root, Outcome, Step, handle_of, key_of, State, root_at, word_of, operation_of, action_of, first_line}
use Rattle.proof_shape.specs.Vocabulary.{operation_after, gone, settled, Begins, Ends, Sweeps, Moves, GoesOn, begun_operation, standing, FitsKey, IsInUse, made_node, WordLevel, made_level}
use Rattle.proof_shape.specs.Vocabulary.{KnowsLine}
use Rattle.std.proofs.Common.{◌≡◌, ℕ, suc, ◌*◌, ◌^◌, ◌<◌, true, is_some, get_or, Option, Some, None, refl, sym, ap, ◌∙◌, subst, ◌⊎◌, inl, inr}
use Rattle.std.proofs.lemmas.Bool.{cases_eq, or_cases, false≢true}
use Rattle.std.proofs.lemmas.Option.{none-some, same_Some}
use Rattle.proof_shape.specs.Beneath.slot_arena.specs.declared.nodes.Prev.TheVariants as prev
use Rattle.proof_shape.specs.Beneath.machine_model.specs.declared.actions.Action.TheVariants as act
use Rattle.proof_shape.specs.Beneath.machine_model.specs.declared.steps.Step.TheVariants as step
use Rattle.proof_shape.specs.Beneath.machine_model.specs.Moves.{Goes}
use Rattle.proof_shape.specs.Beneath.machine_model.proofs.Actors.{IsOf, is_of, mark_one, mark_only, marks_in, marks_by, of_others, of_itself, of_begin, of_end, of_giving_up}
use Rattle.proof_shape.specs.Beneath.proof_memory.proofs.Heap.Under.{fresh_slot, taken_all}
use Rattle.proof_shape.specs.Beneath.proof_memory.proofs.Safety.EachStep.{at_place}
use Rattle.proof_shape.specs.Beneath.proof_memory.proofs.Safety.Base.{goes_no_end}
use Rattle.proof_shape.specs.Beneath.proof_memory.proofs.Safety.States.{IsSafe}
use Rattle.proof_shape.specs.Beneath.proof_memory.proofs.Safety.Steps.{of_actor, made_heap}
use Rattle.proof_shape.specs.Beneath.proof_memory.proofs.Safety.AtTimes.{line_finds}
use Rattle.proof_shape.specs.Beneath.proof_memory.proofs.Heap.Moves.{WordMove, keeps, makes, publishes, restores, commits, fails, standing_move}
use Rattle.proof_shape.specs.Beneath.proof_memory.proofs.Levels.States.{HasLevels, GivesLevel, heaped_in_use, level_under}
use Rattle.proof_shape.specs.Beneath.proof_memory.proofs.Levels.ShapeStates.{HasShapes}
use Rattle.proof_shape.specs.Sites.Nodes.{path_to, depth_at, leads_by}
use Rattle.proof_shape.specs.Sites.Lines.{Sites, bare, InsideSite, PrevSite, LineSite}
use Rattle.proof_shape.proofs.Sites.Seen.{Sees}
use Rattle.proof_shape.proofs.Sites.Made.{AtSite, ActionSite}
use Rattle.proof_shape.proofs.Sites.Born.{IsBorn, born}
use Rattle.proof_shape.proofs.Sites.Acts.{line_acts}
use Rattle.proof_shape.proofs.Sites.Next.{line_next}
use Rattle.proof_shape.specs.Beneath.machine_model.proofs.Grown.{node_standing, prev_standing}

-- Nodes, and those of lines, stand at their sites; keys of calls have 64 bits.
pub record HasSites (kind : HashKind) (s : Sites) (state : State) : Type 0 where
  pub nodes : (r : Ref) (slot : Slot) → standing state.heap r ≡ Some slot → InsideSite kind s r slot.node × PrevSite kind s r slot.prev
  pub lines : (k : ℕ) (operation : Operation) → get_or state.actors k None ≡ Some operation →
      LineSite kind s (hash_of kind (key_of operation.call)) operation.line × (key_of operation.call < 2 ^ 64)

-- what stands is what was made there
abbrev pub AreBare : Sites → State → Type 0
AreBare s state = (r : Ref) (slot : Slot) → standing state.heap r ≡ Some slot → bare (s.node r) ≡ bare slot.node

-- what an operation makes is given the path of its line
abbrev pub GivesPath : Sites → State → Step → Type 0
GivesPath s state step_ =
    (actor : ℕ) (operation : Operation) (node : Node) (made : Ref) → step_ ≡ step.Go actor → operation_of state actor ≡ Some operation → made_node state (action_of state operation) ≡ Some node →
    next_ref state.heap ≡ Some made → s.path made ≡ path_to (leads_by state operation s.path operation.line) (depth_at (made_level operation.line))

-- ---- slots that change

module _ (kind : HashKind) (s : Sites) where
  abbrev SlotSite : Ref → Slot → Type 0
  SlotSite r slot = InsideSite kind s r slot.node × PrevSite kind s r slot.prev

  main_site : (r m : Ref) (node : Node) → InsideSite kind s r node → s.path m ≡ s.path r → InsideSite kind s r (with_main_word m node)
  main_site r m (Indirection generation main) n e = e
  main_site r m (Branch bitmap entries) n e = n
  main_site r m (Single key value) n e = n
  main_site r m (Tomb single) n e = n
  main_site r m (Listed singles) n e = n

  -- the node of an action
  made_of : (At : Ref → Type 0) (state : State) (action : Action) (node : Node) → made_node state action ≡ Some node → ActionSite kind s At action → (r : Ref) → At r → InsideSite kind s r node
  made_of At state (act.Make other) node is n r at = subst (InsideSite kind s r) (same_Some _ _ is) (n r at)
  made_of At state (act.MakeRoot main) node is n r at = subst (InsideSite kind s r) (same_Some _ _ is) (n r at)
  made_of At state action node is n r at = absurd (none-some node is)

  module _ (state : State) (f g : Ref → Option Slot) (old : (r : Ref) (slot : Slot) → f r ≡ Some slot → SlotSite r slot)
      (acts : (actor : ℕ) (operation : Operation) → operation_of state actor ≡ Some operation → ActionSite kind s (AtSite s state operation operation.line) (action_of state operation))
      (fresh : (node : Node) (made : Ref) → next_ref state.heap ≡ Some made → f made ≡ None → g made ≡ Some (fresh_slot state.heap node) → InsideSite kind s made node) where
    here : (r q : Ref) (slot found : Slot) → r ≡ q → g q ≡ Some found → g r ≡ Some slot → SlotSite q found → SlotSite r slot
    here r q slot found same at_q h n = subst (λ x. SlotSite x slot) (sym same) (subst (SlotSite q) (same_Some _ _ (sym at_q ∙ ap g (sym same) ∙ h)) n)

    slots_after : WordMove state f g → (r : Ref) (slot : Slot) → g r ≡ Some slot → SlotSite r slot
    slots_after (keeps k) r slot h = old r slot (sym (k r) ∙ h)
    slots_after (makes actor operation node made is a e none new others) r slot h = elim (cases_eq r made) [
      | inl same ↦ here r made slot (fresh_slot state.heap node) same new h (fresh node made e none new, tt)
      | inr other ↦ old r slot (sym (others r other) ∙ h)
    ]
    slots_after (publishes actor operation i replaced fresh was new takes differ f_i m f_fresh g_i g_fresh others) r slot h =
        let site = subst (ActionSite kind s (AtSite s state operation operation.line)) takes.1 (acts actor operation takes.0) in
        elim (cases_eq r i) [
          | inl same ↦ here r i slot (main_changed fresh was) same g_i h (main_site i fresh was.node ((old i was f_i).0) site.1, (old i was f_i).1)
          | inr other ↦ elim (cases_eq r fresh) [
            | inl same ↦ here r fresh slot (prev_changed (prev.Pending replaced) new) same g_fresh h ((old fresh new f_fresh).0, site.0 ∙ sym site.1)
            | inr another ↦ old r slot (sym (others r other another) ∙ h)
          ]
        ]
    slots_after (restores actor operation i main previous was takes f_i m g_i others) r slot h =
        let site = subst (ActionSite kind s (AtSite s state operation operation.line)) takes.1 (acts actor operation takes.0) in
        elim (cases_eq r i) [
          | inl same ↦ here r i slot (main_changed previous was) same g_i h (main_site i previous was.node ((old i was f_i).0) site, (old i was f_i).1)
          | inr other ↦ old r slot (sym (others r other) ∙ h)
        ]
    slots_after (commits actor operation i main previous told was takes v f_main g_main others) r slot h = elim (cases_eq r main) [
      | inl same ↦ here r main slot (prev_changed prev.None was) same g_main h ((old main was f_main).0, tt)
      | inr other ↦ old r slot (sym (others r other) ∙ h)
    ]
    slots_after (fails actor operation i main previous told was takes v f_main g_main others) r slot h =
        let site = subst (ActionSite kind s (AtSite s state operation operation.line)) takes.1 (acts actor operation takes.0) in
        elim (cases_eq r main) [
          | inl same ↦ here r main slot (prev_changed (prev.Failed previous) was) same g_main h ((old main was f_main).0, site.1 ∙ sym site.0)
          | inr other ↦ old r slot (sym (others r other) ∙ h)
        ]

-- ---- each step

module _ (s : Sites) (fits : (i : Ref) → s.path i < 2 ^ (5 * depth_at (s.level i))) (first : Ref → Ref) (state : State) (I : IsSafe state)
    (levels : HasLevels s.level state) (shapes : HasShapes s.level state)
    (h : HasSites state.limits.hash s state) (bares : AreBare s state)
    (knows : (actor : ℕ) (operation : Operation) → operation_of state actor ≡ Some operation →
    KnowsLine (record { kind = state.limits.hash; node = s.node; first = first }) operation.call operation.line) where
  abbrev kind : HashKind
  kind = state.limits.hash

  abbrev S : Ref → Type 0
  S = IsInUse state.heap

  pub sees : Sees s state S
  sees = record {
    same = λ r u. bares r u.0 u.1 ∙ ap bare (sym (node_standing state.heap r u.0 u.1));
    inside = λ r u. subst (InsideSite kind s r) (sym (node_standing state.heap r u.0 u.1)) ((h.nodes r u.0 u.1).0);
    before = λ r u. subst (PrevSite kind s r) (sym (prev_standing state.heap r u.0 u.1)) ((h.nodes r u.0 u.1).1);
    levels = level_under s.level state I levels;
  }

  acts_site : (actor : ℕ) (operation : Operation) → operation_of state actor ≡ Some operation → ActionSite kind s (AtSite s state operation operation.line) (action_of state operation)
  acts_site actor operation e =
      let (k, found) = of_actor state (λ k operation. get_or state.actors k None ≡ Some operation) (λ k operation e. e) actor operation e in
      line_acts s fits state operation S sees first (h.lines k operation found).1 operation.line (line_finds state I actor operation e)
      (levels.lines k operation found) (shapes.lines k operation found)
      (h.lines k operation found).0 (knows actor operation e)

  -- ---- what is made

  module _ (actor : ℕ) (operation : Operation) (is : operation_of state actor ≡ Some operation) (gives_level : GivesLevel s.level state (step.Go actor))
      (gives_path : GivesPath s state (step.Go actor)) where
    made_at : (node : Node) (made : Ref) → made_node state (action_of state operation) ≡ Some node → next_ref state.heap ≡ Some made → AtSite s state operation operation.line made
    made_at node made a e = (gives_level actor operation node made refl is a e, gives_path actor operation node made refl is a e)

    stood : (node : Node) (made : Ref) → made_node state (action_of state operation) ≡ Some node → next_ref state.heap ≡ Some made →
        standing (settled state (gone state actor operation)).heap made ≡ Some (fresh_slot state.heap node)
    stood node made a e =
        ap (λ heap. standing heap made) (made_heap _ (handle_of operation.call) (action_of state operation) node made a e)
        ∙ (taken_all state.limits.slots state.heap (I.sound.heap) node made e).0

  fresh_after : (x : Step) (o : Outcome) (after : State) → Moves state x o after → GivesLevel s.level state x → GivesPath s state x → (node : Node) (made : Ref) → next_ref state.heap ≡ Some made →
      standing state.heap made ≡ None → standing after.heap made ≡ Some (fresh_slot state.heap node) → InsideSite kind s made node
  fresh_after x o after m gives paths node made e none new = by_birth (born state I x o after m made (fresh_slot state.heap node) none new)
    where
      by_birth : IsBorn state x made (fresh_slot state.heap node) → InsideSite kind s made node
      by_birth b =
          subst (InsideSite kind s made) (ap (λ (y : Slot). y.node) (sym b.slot_is))
          (made_of kind s (AtSite s state b.operation b.operation.line) state (action_of state b.operation) b.node b.makes_it (acts_site b.actor b.operation b.runs) made
          (gives b.actor b.operation b.node made b.step_is b.runs b.makes_it b.next, paths b.actor b.operation b.node made b.step_is b.runs b.makes_it b.next))

  nodes_after : (x : Step) (o : Outcome) (after : State) → Moves state x o after → GivesLevel s.level state x → GivesPath s state x → (r : Ref) (slot : Slot) → standing after.heap r ≡ Some slot →
      InsideSite kind s r slot.node × PrevSite kind s r slot.prev
  nodes_after x o after m gives paths r slot e = by_move (standing_move state I x o after m)
    where
      by_move : WordMove state (standing state.heap) (standing after.heap) ⊎ ((r : Ref) → (standing after.heap r ≡ standing state.heap r) ⊎ (standing after.heap r ≡ None)) →
          InsideSite kind s r slot.node × PrevSite kind s r slot.prev
      by_move (inl w) = slots_after kind s state (standing state.heap) (standing after.heap) (h.nodes) acts_site (fresh_after x o after m gives paths) w r slot e
      by_move (inr goes) = elim (goes r) [ inl same ↦ h.nodes r slot (sym same ∙ e) | inr none ↦ absurd (none-some slot (sym none ∙ e)) ]

  -- ---- lines

  abbrev OperationSite : Operation → Type 0
  OperationSite operation = LineSite kind s (hash_of kind (key_of operation.call)) operation.line × (key_of operation.call < 2 ^ 64)

  marked_site : (m : Option ℕ) (operation : Operation) → OperationSite operation → OperationSite (mark_one m operation)
  marked_site m operation l = subst OperationSite (sym (mark_only m operation)) l

  first_site : (call : Call) (hash : ℕ) → LineSite kind s hash (first_line call)
  first_site (Close x) hash = tt
  first_site (Entries x) hash = tt
  first_site call hash = tt

  word_by : (o : Option Root) (handle : ℕ) → root_at state handle ≡ o → is_some o ≡ true → WordLevel s.level (word_of o)
  word_by None handle e is = absurd (false≢true is)
  word_by (Some root) handle e is = levels.words handle root e

  lines_after : (x : Step) (o : Outcome) (after : State) → Moves state x o after → FitsKey x → GivesLevel s.level state x → GivesPath s state x → AreBare s after →
      (k : ℕ) → Dec (IsOf (suc k) x) → (found : Operation) →
      get_or after.actors k None ≡ Some found → OperationSite found
  lines_after x o after m key gives paths bare_after k (no other) found at_k =
      let (was, at_was, same) = of_others state x o after m k other found at_k in
      subst OperationSite (sym same) (marked_site (marks_in state x) was (h.lines k was at_was))
  lines_after x o after (Begins {actor} {call} {number} d) key gives paths bare_after k (yes own) found at_k =
      subst OperationSite (sym (of_begin state actor call (begun_operation state call number) k own found at_k)) (first_site call (hash_of kind (key_of call)), key)
  lines_after x o after (Goes {actor} {operation} d is a g) key gives paths bare_after k (yes own) found at_k =
      let at_was = at_place state actor k operation own is in
      let goes_on : GoesOn (action_of state operation) = rw a g in
      let is_open : is_some (root_at state (handle_of operation.call)) ≡ true =
      elim (or_cases _ _ (I.handles k operation at_was)) [ inl ends ↦ absurd (goes_no_end state operation operation.line goes_on ends) | inr opened ↦ opened ] in
      subst OperationSite (sym (of_itself state actor operation k own found at_k))
      (marked_site (marks_by state (Some operation)) (operation_after state operation) (
        line_next s fits state operation S (heaped_in_use state I) sees first (word_by (root_at state (handle_of operation.call)) (handle_of operation.call) refl is_open) operation.line
            (line_finds state I actor operation is) (levels.lines k operation at_was) (h.lines k operation at_was).0 (knows actor operation is)
            (λ node made n e. (made_at actor operation is gives paths node made n e, bare_after made (fresh_slot state.heap node) (stood actor operation is gives paths node made n e))),
        (h.lines k operation at_was).1,
      ))
  lines_after x o after (Ends {actor} d is a) key gives paths bare_after k (yes own) found at_k = absurd (of_end state actor k own found at_k)
  lines_after x o after (GivesUp {actor} {operation} {answer} d is a) key gives paths bare_after k (yes own) found at_k =
      subst OperationSite (of_giving_up state actor operation answer k own found at_k) (tt, (h.lines k operation (at_place state actor k operation own is)).1)
  lines_after x o after (Sweeps spent) key gives paths bare_after k (yes own) found at_k = absurd own

  pub sites_after : (x : Step) (o : Outcome) (after : State) → Moves state x o after → FitsKey x → GivesLevel s.level state x → GivesPath s state x →
      AreBare s after → HasSites state.limits.hash s after
  sites_after x o after m key gives paths bare_after = record {
    nodes = nodes_after x o after m gives paths;
    lines = λ k. lines_after x o after m key gives paths bare_after k (is_of (suc k) x);
  }
