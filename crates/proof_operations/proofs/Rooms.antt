-- There is room for what a step adds to a path, and to the entries that are done.
use Rattle.std.proofs.Common.{◌≡◌, ℕ, ◌<◌, ◌≤◌, true, List, length, get_or, Some, None, refl, sym, ap, subst, ◌∙◌, ltb-true, arith}
use Rattle.std.proofs.lemmas.Bool.{false≢true}
use Rattle.proof_operations.specs.Vocabulary.{list_depth, Ref, Node, Branch, entries_of, node_at, Line, Operation, Bounds, Step, run, AreBounds, State, operation_of, states_of, last_of}
use Rattle.proof_operations.specs.Beneath.machine_model.specs.declared.finding.KeyLine.TheVariants as key
use Rattle.proof_operations.specs.Beneath.machine_model.specs.declared.lines.Line.TheVariants as line
use Rattle.proof_operations.specs.Beneath.machine_model.specs.declared.repairs.CleanLine.TheVariants as clean
use Rattle.proof_operations.specs.Beneath.machine_model.specs.declared.repairs.RenewLine.TheVariants as renew
use Rattle.proof_operations.specs.Beneath.machine_model.proofs.Times.{run_is, run_ends}
use Rattle.proof_operations.specs.Beneath.machine_model.proofs.Grown.{node_standing}
use Rattle.proof_operations.specs.Beneath.proof_memory.specs.Laws.{IsInUse}
use Rattle.proof_operations.specs.Beneath.proof_memory.specs.Levels.{LineLevel}
use Rattle.proof_operations.specs.Beneath.proof_memory.specs.Wants.{ABranch, AllHold, line_wants, meets}
use Rattle.proof_operations.specs.Beneath.proof_memory.proofs.Claims.Uses.{meets_of, safe_of}
use Rattle.proof_operations.specs.Beneath.proof_memory.proofs.Claims.Named.{main_claim, left_claim}
use Rattle.proof_operations.specs.Beneath.proof_memory.proofs.Levels.Shapes.{ShapeAt}
use Rattle.proof_operations.specs.Beneath.proof_memory.proofs.Safety.AtTimes.{limits_at, line_at}
use Rattle.proof_operations.specs.Beneath.proof_memory.proofs.Safety.Steps.{of_actor}
use Rattle.proof_operations.specs.Beneath.proof_contents.proofs.Shapes.Nodes.{list_depth-le}
use Rattle.proof_shape.specs.Sites.Nodes.{level_until, steps_of}
use Rattle.proof_shape.proofs.Sites.Given.{levels_there}
use Rattle.proof_shape.proofs.Sites.Stepped.{takes_steps}
use Rattle.proof_operations.specs.Laws.{LineHasRoom, ListsHaveRoom}
use Rattle.proof_operations.proofs.Entries.{few_entries}
use Rattle.proof_operations.proofs.Privates.{made_fits}

branch_high : (deep level : ℕ) (node : Node) → meets ABranch node ≡ true → ShapeAt deep level node → level ≤ deep
branch_high deep level (Branch bitmap entries) e h = h
branch_high deep level node e h = absurd (false≢true e)

module _ (limits : Bounds) (steps : List Step) (ok : AreBounds limits) (actor : ℕ) (operation : Operation) (is : operation_of (run limits steps) actor ≡ Some operation) where
  abbrev last : ℕ
  last = last_of limits steps

  abbrev end : State
  end = states_of limits steps last

  running : operation_of end actor ≡ Some operation
  running = ap (λ (x : State). operation_of x actor) (run_ends limits steps) ∙ is

  claims : AllHold (IsInUse end.heap) end.heap (line_wants limits.hash operation.call operation.access operation.line)
  claims = line_at (run_is limits steps ok) last (omega arith) actor operation running

  few : (r : Ref) → length (entries_of (node_at end.heap r)) ≤ 32
  few r = subst (λ (x : State). length (entries_of (node_at x.heap r)) ≤ 32) (sym (run_ends limits steps)) (few_entries limits steps r)

  stands : (l : Line) → operation.line ≡ l → AllHold (IsInUse end.heap) end.heap (line_wants limits.hash operation.call operation.access l)
  stands l e = subst (λ (x : Line). AllHold (IsInUse end.heap) end.heap (line_wants limits.hash operation.call operation.access x)) e claims

  within : (main : Ref) (done : List Ref) → (length done < length (entries_of (node_at end.heap main))) → length done < 32
  within main done h = omega (arith, h, few main)

  level : LineLevel (level_until (states_of limits steps) (steps_of limits steps) last) operation.line
  level =
      let (k, found) = of_actor end (λ k operation. get_or end.actors k None ≡ Some operation) (λ k operation e. e) actor operation running in
      (levels_there (steps_of limits steps) (run_is limits steps ok) (takes_steps limits steps) last (omega arith)).0.lines k operation found

  entry_short : (path : List Ref) (main : Ref) (position : ℕ) → operation.line ≡ line.Key (key.Entry path main position) → length path < 14
  entry_short path main position e =
      let lv = level_until (states_of limits steps) (steps_of limits steps) last in
      let its = main_claim (stands (line.Key (key.Entry path main position)) e) in
      let used = safe_of its in
      let shape = (levels_there (steps_of limits steps) (run_is limits steps ok) (takes_steps limits steps) last (omega arith)).1.nodes
      main used.0 used.1 in
      let same = limits_at (run_is limits steps ok) last (omega arith) in
      let branch : meets ABranch used.0.node ≡ true = ap (meets ABranch) (sym (node_standing end.heap main used.0 used.1)) ∙ meets_of its in
      let low = branch_high (list_depth limits.hash) (lv main) used.0.node branch (subst (λ (l : Bounds). ShapeAt (list_depth l.hash) (lv main) used.0.node) same shape) in
      let high = (subst (LineLevel lv) e level).1 in
      omega (arith, low, high, list_depth-le limits.hash)

  fits : (l : Line) → operation.line ≡ l → LineHasRoom l
  fits (line.Key (key.Entry path main position)) e = entry_short path main position e
  fits (line.Renew (renew.Entry path main done)) e = within main done (ltb-true (length done) _ (meets_of (left_claim (stands (line.Renew (renew.Entry path main done)) e))))
  fits (line.Renew (renew.Link path main done child)) e =
      within main done (ltb-true (length done) _ (meets_of (left_claim (stands (line.Renew (renew.Link path main done child)) e))))
  fits (line.Clean (clean.Entry path main done)) e = within main done (ltb-true (length done) _ (meets_of (left_claim (stands (line.Clean (clean.Entry path main done)) e))))
  fits (line.Clean (clean.Tomb path main done child)) e =
      within main done (ltb-true (length done) _ (meets_of (left_claim (stands (line.Clean (clean.Tomb path main done child)) e))))
  fits l e = tt

pub lists_have_room : ListsHaveRoom
lists_have_room limits steps actor operation ok is = (fits limits steps ok actor operation is operation.line refl, made_fits limits steps actor operation is)
