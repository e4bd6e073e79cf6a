-- The main node of a root is a branch.
use Rattle.std.proofs.Common.{◌≡◌, ℕ, ◌≤◌, true, Some, refl, sym, subst, ◌∙◌, arith}
use Rattle.std.proofs.lemmas.Bool.{false≢true}
use Rattle.proof_shape.specs.Vocabulary.{Ref, Node, Indirection, Branch, Single, Tomb, List as Listed, Prev, Heap, node_at, prev_at, main_of, logical, logical_main, list_depth, Root, RootWord}
use Rattle.proof_shape.specs.Vocabulary.{Plain, Offer, State, root_at, root_of, run, AMain, AnIndirection, meets, is_branch, Is, Holds, AllHold, node_wants, prev_wants, word_wants, IsInUse}
use Rattle.proof_shape.specs.Vocabulary.{NodeLevel, PrevLevel}
use Rattle.proof_shape.specs.Beneath.slot_arena.specs.declared.nodes.Prev.TheVariants as prev
use Rattle.proof_shape.specs.Beneath.proof_memory.proofs.Claims.Uses.{safe_of, meets_of}
use Rattle.proof_shape.specs.Beneath.proof_memory.proofs.Safety.States.{IsSafe}
use Rattle.proof_shape.specs.Beneath.proof_memory.proofs.Safety.AtEachTime.{safe_along}
use Rattle.proof_shape.specs.Beneath.proof_memory.proofs.Levels.States.{HasLevels, heaped_in_use, level_under}
use Rattle.proof_shape.specs.Beneath.proof_memory.proofs.Levels.Runs.{levels_of}
use Rattle.proof_shape.specs.Beneath.proof_memory.proofs.Levels.Shapes.{ShapeAt, deep_low}
use Rattle.proof_shape.specs.Beneath.proof_memory.proofs.Levels.ShapeStates.{HasShapes, has_shapes}
use Rattle.proof_shape.specs.Laws.{RootsHaveBranches}
use Rattle.proof_shape.proofs.Sites.Roots.{word_root}
use Rattle.proof_shape.specs.Beneath.machine_model.proofs.Grown.{node_standing}

-- at a root's level neither a tomb nor a list may stand
only_branch : (deep level : ℕ) (n : Node) → 1 ≤ deep → level ≡ 1 → meets AMain n ≡ true → ShapeAt deep level n → is_branch n ≡ true
only_branch deep level (Branch b es) low root e h = refl
only_branch deep level (Tomb t) low root e h = absurd (omega (arith, h, root))
only_branch deep level (Listed ss) low root e h = absurd (omega (arith, h, root, low))
only_branch deep level (Indirection g w) low root e h = absurd (false≢true e)
only_branch deep level (Single k v) low root e h = absurd (false≢true e)

pub root_wanted : (S : Ref → Type 0) (heap : Heap) (word : RootWord) → AllHold S heap (word_wants word) → Holds S heap (Is (root_of word) AnIndirection)
root_wanted S heap (Plain r) h = h.0
root_wanted S heap (Offer offer) h = h.0

module _ (lv : Ref → ℕ) (state : State) (I : IsSafe state) (levels : HasLevels lv state) (shapes : HasShapes lv state) where
  abbrev S : Ref → Type 0
  S = IsInUse state.heap

  branch_there : (m : Ref) → lv m ≡ 1 → Holds S state.heap (Is m AMain) → is_branch (node_at state.heap m) ≡ true
  branch_there m root h =
      only_branch (list_depth state.limits.hash) (lv m) (node_at state.heap m) (deep_low state.limits.hash) root (meets_of h)
      (subst (ShapeAt (list_depth state.limits.hash) (lv m)) (sym (node_standing state.heap m (safe_of h).0 (safe_of h).1)) (shapes.nodes m (safe_of h).0 (safe_of h).1))

  by_prev : (w : Ref) (p : Prev) → lv w ≡ 1 → Holds S state.heap (Is w AMain) → PrevLevel lv w p → AllHold S state.heap (prev_wants p) → is_branch (node_at state.heap (logical w p)) ≡ true
  by_prev w prev.None root h l wants = branch_there w root h
  by_prev w (prev.Pending p) root h l wants = branch_there p (l.0 ∙ root) wants.0
  by_prev w (prev.Failed p) root h l wants = branch_there p (l.0 ∙ root) wants.0

  by_node : (r : Ref) (n : Node) → meets AnIndirection n ≡ true → lv r ≡ 1 → NodeLevel lv r n → AllHold S state.heap (node_wants n) →
      is_branch (node_at state.heap (logical (main_of n) (prev_at state.heap (main_of n)))) ≡ true
  by_node r (Indirection g w) e root l wants =
      by_prev w (prev_at state.heap w) (l.0 ∙ root) wants.0 (level_under lv state I levels w (safe_of wants.0)).1 ((heaped_in_use state I).before w (safe_of wants.0))
  by_node r n e root l wants = absurd (false≢true e)

  root_branch : (handle : ℕ) (root : Root) → root_at state handle ≡ Some root → is_branch (node_at state.heap (logical_main state.heap (root_of root.word))) ≡ true
  root_branch handle root at =
      let h = root_wanted S state.heap root.word (I.words handle root at) in
      by_node (root_of root.word) (node_at state.heap (root_of root.word)) (meets_of h) (word_root lv root.word (levels.words handle root at))
      (level_under lv state I levels (root_of root.word) (safe_of h)).0
      ((heaped_in_use state I).inside (root_of root.word) (safe_of h))

pub roots_have_branches : RootsHaveBranches
roots_have_branches limits steps handle root ok at =
    let (levels, shapes) = has_shapes limits ok steps in root_branch (levels_of limits steps) (run limits steps) (safe_along limits ok steps) levels shapes handle root at
