-- Nodes stand at their levels in every reachable state; so no operation comes to the impossible line.
use Rattle.std.proofs.Common.{◌≡◌, ℕ, zero, suc, ◌+◌, ◌-◌, ◌<◌, ◌≤◌, true, false, nat_lt, List, map, length, get_or, Option, Some, None, refl, sym, ap, ◌∙◌, subst, ◌⊎◌, inl, inr}
use Rattle.std.proofs.Common.{ltb-true, ltb-false, arith}
use Rattle.std.proofs.lemmas.Bool.{cases_eq, false≢true}
use Rattle.std.proofs.lemmas.Option.{none-some, same_Some}
use Rattle.std.proofs.lemmas.List.{length-take-le}
use Rattle.proof_memory.specs.Vocabulary.{HashKind, Access, Call, Close, Entries, ref_to, Ref, Node, Indirection, Branch, Single, Tomb, List as Listed, Slot, node_at, with_main_word, main_changed}
use Rattle.proof_memory.specs.Vocabulary.{prev_changed, next_ref, no_ref, list_depth, ripe, Action, Operation, Line, Bounds, Outcome, Step, handle_of, State, first_state, operation_of, above}
use Rattle.proof_memory.specs.Vocabulary.{depth_of, action_of, first_line, operation_after, gone, settled, AreBounds, run, pin_of, taken_steps, states_of, Begins, Ends, Sweeps, GivesUp, Moves}
use Rattle.proof_memory.specs.Vocabulary.{begun_operation, standing}
use Rattle.proof_memory.specs.Beneath.slot_arena.specs.declared.nodes.Prev.TheVariants as prev
use Rattle.machine_model.specs.declared.actions.Action.TheVariants as act
use Rattle.machine_model.specs.declared.lines.Line.TheVariants as line
use Rattle.machine_model.specs.declared.finding.KeyLine.TheVariants as key
use Rattle.machine_model.specs.declared.repairs.ClimbLine.TheVariants as climb
use Rattle.machine_model.proofs.Along.{along}
use Rattle.machine_model.proofs.Found.{none_found}
use Rattle.machine_model.proofs.Frames.{limits_kept}
use Rattle.machine_model.specs.Moves.{Goes}
use Rattle.machine_model.proofs.Actors.{mark_one, mark_only}
use Rattle.machine_model.proofs.HeapMoves.{begin_heap}
use Rattle.machine_model.proofs.InUse.{InUse}
use Rattle.machine_model.proofs.Slots.{ripe_in_use}
use Rattle.proof_memory.specs.Wants.{is_list, is_indirection, AllHold, line_wants}
use Rattle.proof_memory.specs.Laws.{IsInUse}
use Rattle.proof_memory.proofs.Claims.Uses.{safe_of, all_of, fact_of}
use Rattle.proof_memory.proofs.Claims.Named.{main_claim, past_climb}
use Rattle.proof_memory.proofs.Heap.Under.{fresh_slot, taken_all}
use Rattle.proof_memory.proofs.Safety.EachStep.{each_after}
use Rattle.proof_memory.specs.Making.{made_node}
use Rattle.proof_memory.proofs.Safety.States.{IsSafe, stood_or_made, stands_in_use}
use Rattle.proof_memory.proofs.Safety.Steps.{of_actor, gone_effect, made_heap}
use Rattle.proof_memory.proofs.Safety.AtTimes.{line_finds}
use Rattle.proof_memory.proofs.Safety.AtEachTime.{safe_along}
use Rattle.proof_memory.proofs.Heap.Moves.{WordMove, keeps, makes, publishes, restores, commits, fails, standing_move, sweep_goes}
use Rattle.proof_memory.proofs.Levels.Impossible.{IsImpossible, IsStrange, is_tomb}
use Rattle.proof_memory.proofs.Levels.Never.{NoneRuns, never_after, none_at_first}
use Rattle.proof_memory.proofs.Safety.First.{first_stands, safe_at_first}
use Rattle.proof_memory.specs.Levels.{LineLevel, made_level}
use Rattle.proof_memory.proofs.Levels.States.{HasLevels, GivesLevel, heaped_in_use, births_same, levels_after}
use Rattle.proof_memory.proofs.Levels.Runs.{levels_of, levels_at, along_levels, levels_at_first, root_level, branch_level, old_level}
use Rattle.proof_memory.proofs.Levels.Shapes.{ShapeAt, LineShape, ActionShape, line_shape_next, line_makes, deep_low}
use Rattle.machine_model.proofs.Grown.{node_standing}

pub record HasShapes (lv : Ref → ℕ) (state : State) : Type 0 where
  pub nodes : (r : Ref) (slot : Slot) → standing state.heap r ≡ Some slot → ShapeAt (list_depth state.limits.hash) (lv r) slot.node
  pub lines : (k : ℕ) (operation : Operation) → get_or state.actors k None ≡ Some operation → LineShape (list_depth state.limits.hash) operation.line

main_shape : (deep level : ℕ) (m : Ref) (node : Node) → ShapeAt deep level node → ShapeAt deep level (with_main_word m node)
main_shape deep level m (Indirection generation main) g = g
main_shape deep level m (Branch bitmap entries) g = g
main_shape deep level m (Single key value) g = g
main_shape deep level m (Tomb single) g = g
main_shape deep level m (Listed singles) g = g

module _ (lv : Ref → ℕ) (state : State) (deep : ℕ) (f g : Ref → Option Slot) (old : (r : Ref) (slot : Slot) → f r ≡ Some slot → ShapeAt deep (lv r) slot.node)
    (fresh : (node : Node) (made : Ref) → next_ref state.heap ≡ Some made → f made ≡ None → g made ≡ Some (fresh_slot state.heap node) → ShapeAt deep (lv made) node) where
  here : (r q : Ref) (slot found : Slot) → r ≡ q → g q ≡ Some found → g r ≡ Some slot → ShapeAt deep (lv q) found.node → ShapeAt deep (lv r) slot.node
  here r q slot found same at_q h n =
      subst (λ x. ShapeAt deep (lv x) slot.node) (sym same) (subst (λ (x : Slot). ShapeAt deep (lv q) x.node) (same_Some _ _ (sym at_q ∙ ap g (sym same) ∙ h)) n)

  slots_shape : WordMove state f g → (r : Ref) (slot : Slot) → g r ≡ Some slot → ShapeAt deep (lv r) slot.node
  slots_shape (keeps k) r slot h = old r slot (sym (k r) ∙ h)
  slots_shape (makes actor operation node made is a e none new others) r slot h = elim (cases_eq r made) [
    | inl s ↦ here r made slot (fresh_slot state.heap node) s new h (fresh node made e none new)
    | inr other ↦ old r slot (sym (others r other) ∙ h)
  ]
  slots_shape (publishes actor operation i replaced new_main was new takes differ f_i m f_fresh g_i g_fresh others) r slot h = elim (cases_eq r i) [
    | inl s ↦ here r i slot (main_changed new_main was) s g_i h (main_shape deep (lv i) new_main was.node (old i was f_i))
    | inr other ↦ elim (cases_eq r new_main) [
      | inl s ↦ here r new_main slot (prev_changed (prev.Pending replaced) new) s g_fresh h (old new_main new f_fresh)
      | inr another ↦ old r slot (sym (others r other another) ∙ h)
    ]
  ]
  slots_shape (restores actor operation i main previous was takes f_i m g_i others) r slot h = elim (cases_eq r i) [
    | inl s ↦ here r i slot (main_changed previous was) s g_i h (main_shape deep (lv i) previous was.node (old i was f_i))
    | inr other ↦ old r slot (sym (others r other) ∙ h)
  ]
  slots_shape (commits actor operation i main previous told was takes v f_main g_main others) r slot h = elim (cases_eq r main) [
    | inl s ↦ here r main slot (prev_changed prev.None was) s g_main h (old main was f_main)
    | inr other ↦ old r slot (sym (others r other) ∙ h)
  ]
  slots_shape (fails actor operation i main previous told was takes v f_main g_main others) r slot h = elim (cases_eq r main) [
    | inl s ↦ here r main slot (prev_changed (prev.Failed previous) was) s g_main h (old main was f_main)
    | inr other ↦ old r slot (sym (others r other) ∙ h)
  ]

module _ (lv : Ref → ℕ) (state : State) (I : IsSafe state) (h : HasLevels lv state) (g : HasShapes lv state) where
  abbrev deep : ℕ
  deep = list_depth state.limits.hash

  shape_under : (r : Ref) → IsInUse state.heap r → ShapeAt deep (lv r) (node_at state.heap r)
  shape_under r u = subst (ShapeAt deep (lv r)) (sym (node_standing state.heap r u.0 u.1)) (g.nodes r u.0 u.1)

  -- the node that a step makes is that of its action
  gone_makes : (actor : ℕ) (operation : Operation) (k : ℕ) → get_or state.actors k None ≡ Some operation → (o : Option Node) →
      made_node state (action_of state operation) ≡ o → (node : Node) (made : Ref) →
      next_ref state.heap ≡ Some made → standing state.heap made ≡ None → standing (settled state (gone state actor operation)).heap made ≡ Some (fresh_slot state.heap node) →
      made_node state (action_of state operation) ≡ Some node
  gone_makes actor operation k found (Some other) a node made e none new =
      let stood = ap (λ heap. standing heap made) (made_heap _ (handle_of operation.call) (action_of state operation) other made a e)
      ∙ (taken_all state.limits.slots state.heap (I.sound.heap) other made e).0 in
      a ∙ ap (λ (x : Slot). Some x.node) (same_Some _ _ (sym stood ∙ new))
  gone_makes actor operation k found None a node made e none new =
      elim (stood_or_made _ _ _ _ _ _ (gone_effect state I actor k operation found) made (fresh_slot state.heap node) new) [
        | inl stood ↦ absurd (none-some stood.0 (sym none ∙ stood.1))
        | inr born ↦ absurd (no_birth (births_same _ (handle_of operation.call) (action_of state operation) a) born.1)
      ]
    where
      no_birth : (settled state (gone state actor operation)).heap.births ≡ state.heap.births → (settled state (gone state actor operation)).heap.births ≡ state.heap.births + 1 → ⊥
      no_birth x y = omega arith

  abbrev Fresh : State → Type 0
  Fresh after =
      (node : Node) (made : Ref) → next_ref state.heap ≡ Some made → standing state.heap made ≡ None → standing after.heap made ≡ Some (fresh_slot state.heap node) → ShapeAt deep (lv made) node

  nothing_new : (after : State) → ((r : Ref) → (standing after.heap r ≡ standing state.heap r) ⊎ (standing after.heap r ≡ None)) → Fresh after
  nothing_new after goes node made e none new = elim (goes made) [
    | inl same ↦ absurd (none-some _ (sym none ∙ sym same ∙ new))
    | inr gone ↦ absurd (none-some _ (sym gone ∙ new))
  ]

  -- what the line of an operation makes
  makes_shape : (operation : Operation) → AllHold (IsInUse state.heap) state.heap (line_wants state.limits.hash operation.call operation.access operation.line) → LineLevel lv operation.line →
      LineShape deep operation.line → (action : Action) → action_of state operation ≡ action → (node : Node) → made_node state action ≡ Some node → ShapeAt deep (made_level operation.line) node
  makes_shape operation c l s (act.Make other) a node is =
      subst (ShapeAt deep (made_level operation.line)) (same_Some _ _ is)
      (subst (ActionShape lv state operation (IsInUse state.heap) (heaped_in_use state I) shape_under (made_level operation.line)) a
      (line_makes lv state operation (IsInUse state.heap) (heaped_in_use state I) shape_under operation.line c l s))
  makes_shape operation c l s (act.MakeRoot main) a node is =
      subst (ShapeAt deep (made_level operation.line)) (same_Some _ _ is)
      (subst (ActionShape lv state operation (IsInUse state.heap) (heaped_in_use state I) shape_under (made_level operation.line)) a
      (line_makes lv state operation (IsInUse state.heap) (heaped_in_use state I) shape_under operation.line c l s))
  makes_shape operation c l s action a node is = absurd (none-some node is)

  fresh_shape : (s : Step) (o : Outcome) (after : State) → Moves state s o after → GivesLevel lv state s → Fresh after
  fresh_shape s o after (Begins {actor} {call} {number} d) gives = nothing_new after (λ r. inl (ap (λ heap. standing heap r) (begin_heap state actor call (begun_operation state call number))))
  fresh_shape s o after (Goes {actor} {operation} d is a goes) gives = λ node made e none new.
      let (k, found) = of_actor state (λ k operation. get_or state.actors k None ≡ Some operation) (λ k operation e. e) actor operation is in
      let its = gone_makes actor operation k found (made_node state (action_of state operation)) refl node made e none new in
      subst (λ l. ShapeAt deep l node) (sym (gives actor operation node made refl is its e))
      (makes_shape operation (line_finds state I actor operation is) (h.lines k operation found) (g.lines k operation found) (action_of state operation) refl node its)
  fresh_shape s o after (Ends d is a) gives = nothing_new after (λ r. inl refl)
  fresh_shape s o after (GivesUp d is a) gives = nothing_new after (λ r. inl refl)
  fresh_shape s o after (Sweeps spent) gives =
      nothing_new after (sweep_goes state I (map pin_of state.actors) (ripe state.epoch state.limbo)
      (λ q due. stands_in_use state.heap q (ripe_in_use (InUse state.heap) state.epoch state.limbo (I.sound.limbo) q due)))

  nodes_shape : (s : Step) (o : Outcome) (after : State) → Moves state s o after → GivesLevel lv state s → (r : Ref) (slot : Slot) → standing after.heap r ≡ Some slot → ShapeAt deep (lv r) slot.node
  nodes_shape s o after m gives r slot e = by_move (standing_move state I s o after m)
    where
      by_move : WordMove state (standing state.heap) (standing after.heap)
          ⊎ ((r : Ref) → (standing after.heap r ≡ standing state.heap r) ⊎ (standing after.heap r ≡ None)) → ShapeAt deep (lv r) slot.node
      by_move (inl w) = slots_shape lv state deep (standing state.heap) (standing after.heap) (g.nodes) (fresh_shape s o after m gives) w r slot e
      by_move (inr goes) = elim (goes r) [ inl same ↦ g.nodes r slot (sym same ∙ e) | inr none ↦ absurd (none-some slot (sym none ∙ e)) ]

  first_shape : (d : ℕ) (call : Call) → LineShape d (first_line call)
  first_shape d (Close x) = tt
  first_shape d (Entries x) = tt
  first_shape d call = tt

  marked_shape : (m : Option ℕ) (operation : Operation) → LineShape deep operation.line → LineShape deep (mark_one m operation).line
  marked_shape m operation l = subst (λ (x : Operation). LineShape deep x.line) (sym (mark_only m operation)) l

  lines_shape : (s : Step) (o : Outcome) (after : State) → Moves state s o after → (k : ℕ) (found : Operation) → get_or after.actors k None ≡ Some found → LineShape deep found.line
  lines_shape =
      each_after state (λ k operation. get_or state.actors k None ≡ Some operation) (λ after k operation. LineShape deep operation.line) (λ k operation e. e)
      (λ actor call number k own d. first_shape deep call)
      (λ actor operation k own is goes found. marked_shape _ (operation_after state operation)
      (line_shape_next lv state operation (IsInUse state.heap) (heaped_in_use state I) shape_under operation.line (line_finds state I actor operation is)
      (h.lines k operation found) (g.lines k operation found)))
      (λ actor operation answer k own is a found. tt)
      (λ s o after m k other operation found e. marked_shape _ operation (g.lines k operation found))

  pub shapes_after : (s : Step) (o : Outcome) (after : State) → Moves state s o after → GivesLevel lv state s → HasShapes lv after
  shapes_after s o after m gives = record {
    nodes = λ r slot e. subst (λ (l : Bounds). ShapeAt (list_depth l.hash) (lv r) slot.node) (sym (limits_kept state s o after m)) (nodes_shape s o after m gives r slot e);
    lines = λ k found e. subst (λ (l : Bounds). LineShape (list_depth l.hash) found.line) (sym (limits_kept state s o after m)) (lines_shape s o after m k found e);
  }

  -- ---- no line is strange

  tomb_two : (level : ℕ) (node : Node) → is_tomb node ≡ true → ShapeAt deep level node → 2 ≤ level
  tomb_two level (Tomb single) e s = s
  tomb_two level node e s = absurd (false≢true e)

  list_deep : (level : ℕ) (node : Node) → is_list node ≡ true → ShapeAt deep level node → level ≡ deep + 1
  list_deep level (Listed singles) e s = s
  list_deep level node e s = absurd (false≢true e)

  indirection_high : (level : ℕ) (node : Node) → is_indirection node ≡ true → ShapeAt deep level node → level ≤ deep + 1
  indirection_high level (Indirection generation main) e s = s
  indirection_high level node e s = absurd (false≢true e)

  tomb_at_root : (path : List Ref) (level : ℕ) → level ≡ depth_of path + 1 → nat_lt 1 (length path) ≡ false → 2 ≤ level → ⊥
  tomb_at_root path level e short two = let few : length path ≤ 1 = ltb-false 1 (length path) short in omega arith

  list_as_parent : (path : List Ref) (last level : ℕ) → nat_lt 1 (length path) ≡ true → depth_of (above path) + 1 ≡ depth_of path → last ≡ depth_of path + 1 →
      last ≤ deep + 1 → level ≡ depth_of (above path) + 1 →
      level ≡ deep + 1 → ⊥
  list_as_parent path last level long above_is e high m list = omega arith

  above_depth : (path : List Ref) → nat_lt 1 (length path) ≡ true → depth_of (above path) + 1 ≡ depth_of path
  above_depth path long = let two : 1 < length path = ltb-true 1 (length path) long in omega (arith, length-take-le (length path - 1) path (omega arith))

  strange_by : (kind : HashKind) (call : Call) (access : Access) (l : Line) → AllHold (IsInUse state.heap) state.heap (line_wants kind call access l) → LineLevel lv l → IsStrange state l → ⊥
  strange_by kind call access (line.Key (key.Main path main)) c e s =
      tomb_at_root path (lv main) e.1 s.0 (tomb_two (lv main) (node_at state.heap main) s.1 (shape_under main (safe_of (main_claim c))))
  strange_by kind call access (line.Climb (climb.Main x main)) c e s =
      let long = fact_of c.1.0 in
      let many : 1 < length x.path = ltb-true 1 (length x.path) long in
      let last = all_of c.0 (length x.path - 1) no_ref (omega arith) in
      list_as_parent x.path (lv (get_or x.path (length x.path - 1) no_ref)) (lv main) long (above_depth x.path long) (e.0 (length x.path - 1) no_ref (omega arith))
      (indirection_high (lv (get_or x.path (length x.path - 1) no_ref)) (node_at state.heap (get_or x.path (length x.path - 1) no_ref)) last.1
      (shape_under (get_or x.path (length x.path - 1) no_ref) last.0)) e.1
      (list_deep (lv main) (node_at state.heap main) s (shape_under main (safe_of (past_climb c).0)))
  strange_by kind call access (line.Key (key.Read path r)) c e s = s
  strange_by kind call access (line.Key (key.Entry path main position)) c e s = s
  strange_by kind call access (line.Key (key.Listed path main position)) c e s = s
  strange_by kind call access (line.Key (key.Sibling path main position former)) c e s = s
  strange_by kind call access (line.Climb (climb.Read x r)) c e s = s
  strange_by kind call access (line.Climb (climb.Contracted x main)) c e s = s
  strange_by kind call access (line.Climb (climb.Root x l)) c e s = s
  strange_by kind call access l c e s = s

  pub none_strange : NoneRuns (λ state operation. IsStrange state operation.line) state
  none_strange k operation found s =
      strange_by state.limits.hash operation.call operation.access operation.line (line_finds state I (suc k) operation found) (h.lines k operation found) s

-- ---- along runs

module _ (limits : Bounds) (ok : AreBounds limits) (steps : List Step) where
  abbrev lv : Ref → ℕ
  lv = levels_of limits steps

  first_shapes : HasShapes lv (first_state limits)
  unfolding first_state
  first_shapes =
      let old = old_level steps (first_state limits) (safe_at_first limits ok) in
      record {
        nodes = first_stands (λ r slot. ShapeAt (list_depth limits.hash) (lv r) slot.node) limits.slots ok.0
            (λ birth. at_root (lv (ref_to 2 1)) (root_level limits ok lv old)) (λ birth. at_branch (lv (ref_to 1 0)) (branch_level limits ok lv old) (deep_low limits.hash));
        lines = λ k operation found. absurd (none_found limits.actors k operation found);
      }
    where
      at_root : (level : ℕ) → level ≡ 1 → level ≤ list_depth limits.hash + 1
      at_root level e = omega arith

      at_branch : (level : ℕ) → level ≡ 1 → 1 ≤ list_depth limits.hash → level ≤ list_depth limits.hash
      at_branch level e low = omega arith

  pub has_shapes : HasLevels lv (run limits steps) × HasShapes lv (run limits steps)
  has_shapes =
      along_levels limits ok steps (λ state. HasLevels lv state × HasShapes lv state) (levels_at_first limits ok steps, first_shapes)
      (λ state I both s o after m gives. (levels_after lv state I both.0 s o after m gives, shapes_after lv state I both.0 both.1 s o after m gives))

-- levels and shapes at each time of a run, with one function for all times
pub shapes_at : (limits : Bounds) → AreBounds limits → (steps : List Step) (t : ℕ) →
    HasLevels (levels_of limits (taken_steps limits steps)) (states_of limits steps t) × HasShapes (levels_of limits (taken_steps limits steps)) (states_of limits steps t)
shapes_at limits ok steps =
    let levels = levels_of limits (taken_steps limits steps) in
    levels_at limits ok steps (λ state. HasLevels levels state × HasShapes levels state) (levels_at_first limits ok (taken_steps limits steps), first_shapes limits ok (taken_steps limits steps))
    (λ state I both s o after m gives. (levels_after levels state I both.0 s o after m gives, shapes_after levels state I both.0 both.1 s o after m gives))

-- no operation comes to the impossible line
pub none_impossible : (limits : Bounds) → AreBounds limits → (steps : List Step) → NoneRuns (λ state operation. IsImpossible operation.line) (run limits steps)
none_impossible limits ok =
    along limits (NoneRuns (λ state operation. IsImpossible operation.line)) (none_at_first limits)
    (λ steps s o after m before.
    let I = safe_along limits ok steps in
    let both = has_shapes limits ok steps in
    never_after (run limits steps) I (none_strange (levels_of limits steps) (run limits steps) I both.0 both.1) before s o after m)

pub never_there : (limits : Bounds) → AreBounds limits → (steps : List Step) (actor : ℕ) (operation : Operation) →
    operation_of (run limits steps) actor ≡ Some operation → operation.line ≡ line.Impossible → ⊥
never_there limits ok steps zero operation found e = none-some operation found
never_there limits ok steps (suc k) operation found e = none_impossible limits ok steps k operation found (subst IsImpossible (sym e) tt)
