-- Which nodes stand at which levels: a tomb below the root's level, a list below all levels of a hash, branches above it, indirections no deeper than lists.
-- So neither a tomb at a root nor a list as parent comes about.
use Rattle.std.proofs.Common.{◌≡◌, ℕ, zero, suc, ◌+◌, ◌-◌, ◌<◌, ◌≤◌, ◌==◌, ◌&&◌, Bool, true, false, nat_lt, nat_le, List, [], ◌∷◌, length, Option, Some, None, refl, sym, ap, ◌∙◌}
use Rattle.std.proofs.Common.{subst, ltb-true, eqb-true, arith}
use Rattle.std.proofs.lemmas.Bool.{false≢true, cond_both, eqb-false, and_parts}
use Rattle.proof_memory.specs.Vocabulary.{HashKind, Low, Fold, Wide, Block, Ref, Node as SlotNode, Indirection, Branch, Single, Tomb, List as Listed, node_at, entry_at, entries_of, bitmap_of}
use Rattle.proof_memory.specs.Vocabulary.{next_ref, parting, index_in, list_depth, pair, contracted, Operation, Action, Read, Swap, Purpose, Line, ReadLine, SwapLine, CompleteLine, Descriptor}
use Rattle.proof_memory.specs.Vocabulary.{RootLine, read_action, action_at, complete_action_at, root_action, KeyLine, WhenFound, Answers, Sets, Removes, BuildLine, Change, Site, RenewLine}
use Rattle.proof_memory.specs.Vocabulary.{CleanLine, ClimbLine, CopyLine, WalkLine, key_of, inserts, when_found, State, above, depth_of, is_below_root, flag_in, hash_in, line_action, line_after}
use Rattle.proof_memory.specs.Vocabulary.{key_after, removing, found_so, absent, key_after_main, key_after_entry, after_listed, after_sibling, is_passable, renew_after, build_action, build_after}
use Rattle.proof_memory.specs.Vocabulary.{build_after_made, build_if_made, after_single, pair_depth, old_hash, changed, clean_after, leaves_single, climb_after, copy_after, walk_after}
use Rattle.machine_model.specs.declared.actions.Action.TheVariants as act
use Rattle.machine_model.specs.declared.lines.Line.TheVariants as line
use Rattle.machine_model.specs.declared.reading.ReadLine.TheVariants as read
use Rattle.machine_model.specs.declared.reading.SwapLine.TheVariants as swap
use Rattle.machine_model.specs.declared.roots.CompleteLine.TheVariants as complete
use Rattle.machine_model.specs.declared.roots.RootLine.TheVariants as root
use Rattle.machine_model.specs.declared.copying.CopyLine.TheVariants as copy
use Rattle.machine_model.specs.declared.walking.WalkLine.TheVariants as walk
use Rattle.proof_memory.specs.Wants.{ABranch, BranchOrList, meets, Is, Holds, AllHold, line_wants, site_wants}
use Rattle.proof_memory.proofs.Claims.Uses.{safe_of, meets_of}
use Rattle.proof_memory.proofs.Claims.Nodes.{Heaped}
use Rattle.proof_memory.proofs.Claims.Named.{main_claim, past_place, past_climb}
use Rattle.proof_memory.specs.Levels.{LineLevel, BuildLevel, build_level, made_level}
use Rattle.machine_model.specs.declared.finding.KeyLine.TheVariants as key
use Rattle.machine_model.specs.declared.building.BuildLine.TheVariants as build
use Rattle.machine_model.specs.declared.building.Change.TheVariants as change
use Rattle.machine_model.specs.declared.building.Site.TheVariants as site
use Rattle.machine_model.specs.declared.repairs.RenewLine.TheVariants as renew
use Rattle.machine_model.specs.declared.repairs.CleanLine.TheVariants as clean
use Rattle.machine_model.specs.declared.repairs.ClimbLine.TheVariants as climb

-- ---- nodes

-- a node may stand at this level, where lists stand at this depth
abbrev pub ShapeAt : ℕ → ℕ → SlotNode → Type 0
ShapeAt deep level (Indirection generation main) = level ≤ deep + 1
ShapeAt deep level (Branch bitmap entries) = level ≤ deep
ShapeAt deep level (Single key value) = Unit {0}
ShapeAt deep level (Tomb single) = 2 ≤ level
ShapeAt deep level (Listed singles) = level ≡ deep + 1

-- ---- lines

abbrev ChangeShape : List Ref → Change → Type 0
ChangeShape path (change.Entomb single) = 1 ≤ depth_of path
ChangeShape path c = Unit {0}

abbrev BuildShape : ℕ → BuildLine → Type 0
BuildShape deep (build.Single path main s former) = Unit {0}
BuildShape deep (build.Pair path main position single depth) = depth ≤ deep
BuildShape deep (build.Link path main position below depth) = depth ≤ deep
BuildShape deep (build.Rung path main position below depth) = depth + 1 ≤ deep
BuildShape deep (build.Main path main c former) = ChangeShape path c

abbrev KeyShape : KeyLine → Type 0
KeyShape (key.Sibling path main position former) = 1 ≤ depth_of path
KeyShape l = Unit {0}

abbrev pub LineShape : ℕ → Line → Type 0
LineShape deep (line.Build l) = BuildShape deep l
LineShape deep (line.Key l) = KeyShape l
LineShape deep l = Unit {0}

-- a line of which that says nothing
abbrev is_shapeless : Line → Bool
is_shapeless (line.Build (build.Single path main s former)) = true
is_shapeless (line.Build l) = false
is_shapeless (line.Key (key.Sibling path main position former)) = false
is_shapeless l = true

shapeless : (deep : ℕ) (l : Line) → is_shapeless l ≡ true → LineShape deep l
shapeless deep (line.Build (build.Single path main s former)) e = tt
shapeless deep (line.Build l) e = absurd (false≢true e)
shapeless deep (line.Key (key.Sibling path main position former)) e = absurd (false≢true e)
shapeless deep (line.Key (key.Read path r)) e = tt
shapeless deep (line.Key (key.Main path main)) e = tt
shapeless deep (line.Key (key.Entry path main position)) e = tt
shapeless deep (line.Key (key.Listed path main position)) e = tt
shapeless deep l e = tt

-- programs that lead to such lines alone
root_shapeless : (state : State) (operation : Operation) (l : RootLine) → is_shapeless (line_after state operation (line.Root l)) ≡ true
root_shapeless state operation l = grind arith

swap_shapeless : (state : State) (operation : Operation) (why : Purpose) (s : Swap) → is_shapeless (line_after state operation (line.Swap why s)) ≡ true
swap_shapeless state operation why s = grind arith

renew_shapeless : (state : State) (operation : Operation) (l : RenewLine) → is_shapeless (renew_after state operation l) ≡ true
renew_shapeless state operation l = grind arith

clean_shapeless : (state : State) (operation : Operation) (l : CleanLine) → is_shapeless (clean_after state operation l) ≡ true
clean_shapeless state operation l = grind arith

climb_shapeless : (state : State) (operation : Operation) (l : ClimbLine) → is_shapeless (climb_after state operation l) ≡ true
climb_shapeless state operation l = grind arith

copy_shapeless : (state : State) (operation : Operation) (l : CopyLine) → is_shapeless (copy_after state operation l) ≡ true
copy_shapeless state operation l = grind arith

walk_shapeless : (state : State) (operation : Operation) (l : WalkLine) → is_shapeless (walk_after state operation l) ≡ true
walk_shapeless state operation l = grind arith

key_read_shapeless : (state : State) (operation : Operation) (path : List Ref) (r : Read) → is_shapeless (key_after state operation (key.Read path r)) ≡ true
key_read_shapeless state operation path r = grind arith

key_main_shapeless : (state : State) (operation : Operation) (path : List Ref) (main : Ref) (node : SlotNode) → is_shapeless (key_after_main state operation path main node) ≡ true
key_main_shapeless state operation path main node = grind arith

-- lists stand below a level at least
pub deep_low : (kind : HashKind) → 1 ≤ list_depth kind
deep_low Low = omega arith
deep_low Fold = omega arith
deep_low Wide = omega arith
deep_low Block = omega arith

-- two hashes part so many levels down at most
parting_most : (left a b depth : ℕ) → parting left a b depth ≤ depth + left
parting_most zero a b depth = omega arith
parting_most (suc left) a b depth =
    cond_both (index_in a depth == index_in b depth) _ _ (λ d. d ≤ depth + suc left) (λ e. more (parting left a b (depth + 1)) (parting_most left a b (depth + 1))) (λ e. omega arith)
  where
    more : (d : ℕ) → d ≤ depth + 1 + left → d ≤ depth + suc left
    more d h = omega arith

below_root : (path : List Ref) → is_below_root path ≡ true → 1 ≤ depth_of path
below_root path h = let two : 1 < length path = ltb-true 1 (length path) h in omega arith

module _ (lv : Ref → ℕ) (state : State) (operation : Operation) (S : Ref → Type 0) (H : Heaped S state.heap)
    (G : (r : Ref) → S r → ShapeAt (list_depth state.limits.hash) (lv r) (node_at state.heap r)) where
  abbrev deep : ℕ
  deep = list_depth state.limits.hash

  abbrev L : Line → Type 0
  L l = LineShape (list_depth state.limits.hash) l

  abbrev Wants : Line → Type 0
  Wants l = AllHold S state.heap (line_wants state.limits.hash operation.call operation.access l)

  branch_by : (r : Ref) (node : SlotNode) → meets ABranch node ≡ true → ShapeAt deep (lv r) node → lv r ≤ deep
  branch_by r (Branch bitmap entries) e g = g
  branch_by r node e g = absurd (false≢true e)

  -- a branch's level
  branch_shape : (r : Ref) → Holds S state.heap (Is r ABranch) → lv r ≤ deep
  branch_shape r h = branch_by r (node_at state.heap r) (meets_of h) (G r (safe_of h))

  removing_shape : (path : List Ref) (main : Ref) (position value : ℕ) (node : SlotNode) → ShapeAt deep (lv main) node → lv main ≡ depth_of path + 1 → L (removing state path main position value node)
  removing_shape path main position value (Branch bitmap entries) g e =
      cond_both (is_below_root path && (length entries.items == 2)) _ _ L (λ two. below_root path (and_parts (is_below_root path) (length entries.items == 2) two).0) (λ other. tt)
  removing_shape path main position value (Listed singles) g e =
      cond_both (length singles.items == 2) _ _ L (λ two. low g e (deep_low state.limits.hash)) (λ other. tt)
    where
      low : lv main ≡ deep + 1 → lv main ≡ depth_of path + 1 → 1 ≤ deep → 1 ≤ depth_of path
      low a b c = omega arith
  removing_shape path main position value node g e = tt

  found_shape : (path : List Ref) (main : Ref) (position value : ℕ) (todo : WhenFound) → S main → lv main ≡ depth_of path + 1 → L (found_so state path main position value todo)
  found_shape path main position value (Answers answer) s e = tt
  found_shape path main position value Sets s e = tt
  found_shape path main position value Removes s e = removing_shape path main position value (node_at state.heap main) (G main s) e

  absent_shape : (path : List Ref) (main : Ref) → L (absent operation path main)
  absent_shape path main = cond_both (inserts operation.call) _ _ L (λ e. tt) (λ e. tt)

  entry_shape : (path : List Ref) (main : Ref) (position : ℕ) (node : SlotNode) → S main → lv main ≡ depth_of path + 1 → L (key_after_entry state operation path main position node)
  entry_shape path main position (Indirection generation word) s e =
      cond_both (is_passable operation generation) _ _ L (λ x. tt) (λ x. cond_both (nat_lt 0 (length (entries_of (node_at state.heap main)))) _ _ L (λ y. tt) (λ y. tt))
  entry_shape path main position (Single k v) s e =
      cond_both (k == key_of operation.call) _ _ L (λ x. found_shape path main position v (when_found operation.call v) s e) (λ x. cond_both (inserts operation.call) _ _ L (λ y. tt) (λ y. tt))
  entry_shape path main position node s e = tt

  listed_shape : (path : List Ref) (main : Ref) (position : ℕ) (node : SlotNode) → S main → lv main ≡ depth_of path + 1 → L (after_listed state operation path main position node)
  listed_shape path main position (Single k v) s e =
      cond_both (k == key_of operation.call) _ _ L (λ x. found_shape path main position v (when_found operation.call v) s e)
      (λ x. cond_both (nat_lt (position + 1) (length (entries_of (node_at state.heap main)))) _ _ L (λ y. tt)
      (λ y. cond_both (inserts operation.call && nat_le 32 (length (entries_of (node_at state.heap main)))) _ _ L (λ z. tt) (λ z. absent_shape path main)))
  listed_shape path main position node s e = tt

  sibling_shape : (path : List Ref) (main : Ref) (position former : ℕ) (other : Ref) (node : SlotNode) → 1 ≤ depth_of path → L (after_sibling path main position former other node)
  sibling_shape path main position former other (Single k v) e = e
  sibling_shape path main position former other (Indirection generation word) e = tt
  sibling_shape path main position former other node e = tt

  -- ---- nodes for a change

  single_shape : (path : List Ref) (main : Ref) (former : Option ℕ) (s : Site) (made : Ref) → AllHold S state.heap (site_wants main former s) →
      lv main ≡ depth_of path + 1 → L (after_single state operation path main former s made)
  single_shape path main former site.Absent made h e = tt
  single_shape path main former (site.At position) made h e = tt
  single_shape path main former (site.Beside position) made h e =
      low (pair_depth state (old_hash state main position) (hash_in state operation) (depth_of path)) (parting_most (deep - (depth_of path + 1)) _ _ (depth_of path + 1)) (branch_shape main h.0) e
    where
      low : (d : ℕ) → d ≤ depth_of path + 1 + (deep - (depth_of path + 1)) → lv main ≤ deep → lv main ≡ depth_of path + 1 → d ≤ deep
      low d a b c = omega arith

  build_by : (l : BuildLine) → ((made : Ref) → L (build_after_made state operation l made)) → (o : Option Ref) → L (build_if_made state operation l o)
  build_by l f None = tt
  build_by l f (Some made) = f made

  build_shape : (l : BuildLine) → Wants (line.Build l) → BuildLevel lv l → BuildShape deep l → L (build_after state operation l)
  build_shape (build.Single path main s former) h e g = build_by (build.Single path main s former) (λ made. single_shape path main former s made (past_place h) e.1) (next_ref state.heap)
  build_shape (build.Pair path main position single depth) h e g = build_by (build.Pair path main position single depth) (λ made. g) (next_ref state.heap)
  build_shape (build.Link path main position below depth) h e g =
      build_by (build.Link path main position below depth) (λ made. cond_both (depth == depth_of path + 1) _ _ L (λ x. tt) (λ x. higher e.1 g)) (next_ref state.heap)
    where
      higher : depth_of path + 1 ≤ depth → depth ≤ deep → depth - 1 + 1 ≤ deep
      higher a b = omega arith
  build_shape (build.Rung path main position below depth) h e g = build_by (build.Rung path main position below depth) (λ made. lower g) (next_ref state.heap)
    where
      lower : depth + 1 ≤ deep → depth ≤ deep
      lower a = omega arith
  build_shape (build.Main path main c former) h e g = build_by (build.Main path main c former) (λ made. tt) (next_ref state.heap)

  pub line_shape_next : (l : Line) → Wants l → LineLevel lv l → L l → L (line_after state operation l)
  line_shape_next (line.Root l) h e g = shapeless deep _ (root_shapeless state operation l)
  line_shape_next (line.Key (key.Read path r)) h e g = shapeless deep _ (key_read_shapeless state operation path r)
  line_shape_next (line.Key (key.Main path main)) h e g = shapeless deep _ (key_main_shapeless state operation path main (node_at state.heap main))
  line_shape_next (line.Key (key.Entry path main position)) h e g = entry_shape path main position (node_at state.heap (entry_at state.heap main position)) (safe_of (main_claim h)) e.1
  line_shape_next (line.Key (key.Listed path main position)) h e g = listed_shape path main position (node_at state.heap (entry_at state.heap main position)) (safe_of (main_claim h)) e.1
  line_shape_next (line.Key (key.Sibling path main position former)) h e g = sibling_shape path main position former _ (node_at state.heap (entry_at state.heap main (1 - position))) g
  line_shape_next (line.Build l) h e g = build_shape l h e g
  line_shape_next (line.Swap why s) h e g = shapeless deep _ (swap_shapeless state operation why s)
  line_shape_next (line.Renew l) h e g = shapeless deep _ (renew_shapeless state operation l)
  line_shape_next (line.Clean l) h e g = shapeless deep _ (clean_shapeless state operation l)
  line_shape_next (line.Climb l) h e g = shapeless deep _ (climb_shapeless state operation l)
  line_shape_next (line.Copy l) h e g = shapeless deep _ (copy_shapeless state operation l)
  line_shape_next (line.Walk l) h e g = shapeless deep _ (walk_shapeless state operation l)
  line_shape_next (line.End answer) h e g = tt
  line_shape_next line.Impossible h e g = tt

  -- ---- what is made

  abbrev pub ActionShape : ℕ → Action → Type 0
  ActionShape level (act.Make node) = ShapeAt deep level node
  ActionShape level (act.MakeRoot main) = level ≤ deep + 1
  ActionShape level action = Unit {0}

  read_makes : (level : ℕ) (i : Ref) (l : ReadLine) → ActionShape level (read_action i l)
  read_makes level i read.Main = tt
  read_makes level i (read.Prev main) = tt
  read_makes level i (read.AskRoot main previous) = tt
  read_makes level i (read.Abort main previous offer) = tt
  read_makes level i (read.Decide main previous told) = tt
  read_makes level i (read.Restore main previous) = tt

  complete_makes : (level : ℕ) (offer : Descriptor) (l : CompleteLine) → ActionShape level (complete_action_at offer l)
  complete_makes level offer (complete.Reading l) = read_makes level offer.root l
  complete_makes level offer (complete.Swap main) = tt

  root_makes : (level : ℕ) (l : RootLine) → ActionShape level (root_action l)
  root_makes level root.Read = tt
  root_makes level (root.Completing c) = complete_makes level c.offer c.line

  swap_makes : (i replaced fresh : Ref) (l : SwapLine) → ActionShape 0 (action_at i replaced fresh l)
  swap_makes i replaced fresh swap.Publish = tt
  swap_makes i replaced fresh (swap.Deciding l) = read_makes 0 i l
  swap_makes i replaced fresh swap.Check = tt

  contracted_shape : (level : ℕ) (may : Bool) (bitmap : ℕ) (es : List Ref) → level ≤ deep → (may ≡ true → 2 ≤ level) → ShapeAt deep level (contracted may bitmap es)
  contracted_shape level true bitmap [] low two = low
  contracted_shape level true bitmap (single ∷ []) low two = two refl
  contracted_shape level true bitmap (x ∷ y ∷ es) low two = low
  contracted_shape level false bitmap es low two = low

  changed_shape : (path : List Ref) (main : Ref) (flag : ℕ) (node : SlotNode) (c : Change) → meets BranchOrList node ≡ true → ShapeAt deep (lv main) node →
      lv main ≡ depth_of path + 1 → ChangeShape path c →
      ShapeAt deep (depth_of path + 1) (changed flag node c)
  changed_shape path main flag (Branch bitmap entries) (change.Insert single) b g e c = subst (λ l. l ≤ deep) e g
  changed_shape path main flag (Branch bitmap entries) (change.Update position entry) b g e c = subst (λ l. l ≤ deep) e g
  changed_shape path main flag (Branch bitmap entries) (change.Remove position) b g e c = subst (λ l. l ≤ deep) e g
  changed_shape path main flag (Branch bitmap entries) (change.Entomb single) b g e c = omega arith
  changed_shape path main flag (Listed singles) (change.Insert single) b g e c = sym e ∙ g
  changed_shape path main flag (Listed singles) (change.Update position entry) b g e c = sym e ∙ g
  changed_shape path main flag (Listed singles) (change.Remove position) b g e c = sym e ∙ g
  changed_shape path main flag (Listed singles) (change.Entomb single) b g e c = omega arith
  changed_shape path main flag node c b g e x = absurd (false≢true b)

  pair_shape : (depth a b : ℕ) (x y : Ref) → depth ≤ deep → ShapeAt deep (depth + 1) (pair state.limits.hash depth a b x y)
  pair_shape depth a b x y low =
      cond_both (depth == list_depth state.limits.hash) _ _ (ShapeAt deep (depth + 1)) (λ e. ap (λ n. n + 1) (eqb-true depth deep e)) (λ e. below (eqb-false depth deep e))
    where
      below : (depth ≡ deep → ⊥) → depth + 1 ≤ deep
      below h = omega arith

  build_makes : (l : BuildLine) → Wants (line.Build l) → BuildLevel lv l → BuildShape deep l → ActionShape (build_level l) (build_action state operation l)
  build_makes (build.Single path main s former) h e g = tt
  build_makes (build.Pair path main position single depth) h e g = pair_shape depth _ _ (entry_at state.heap main position) single g
  build_makes (build.Link path main position below depth) h e g = omega arith
  build_makes (build.Rung path main position below depth) h e g = g
  build_makes (build.Main path main c former) h e g =
      changed_shape path main (flag_in state operation path) (node_at state.heap main) c (meets_of (main_claim h)) (G main (safe_of (main_claim h))) e.0.1 g

  -- a branch at the end of a path
  placed_shape : (path : List Ref) (main : Ref) → Holds S state.heap (Is main ABranch) → lv main ≡ depth_of path + 1 → depth_of path + 1 ≤ deep
  placed_shape path main h e = subst (λ l. l ≤ deep) e (branch_shape main h)

  pub line_makes : (l : Line) → Wants l → LineLevel lv l → L l → ActionShape (made_level l) (line_action state operation l)
  line_makes (line.Root l) h e g = root_makes 0 l
  line_makes (line.Key (key.Read path r)) h e g = read_makes 0 r.indirection r.line
  line_makes (line.Key (key.Main path main)) h e g = tt
  line_makes (line.Key (key.Entry path main position)) h e g = tt
  line_makes (line.Key (key.Listed path main position)) h e g = tt
  line_makes (line.Key (key.Sibling path main position former)) h e g = tt
  line_makes (line.Build l) h e g = build_makes l h e g
  line_makes (line.Swap why s) h e g = swap_makes s.indirection s.replaced s.fresh s.line
  line_makes (line.Renew (renew.Entry path main done)) h e g = tt
  line_makes (line.Renew (renew.Read path main done r)) h e g = read_makes 0 r.indirection r.line
  line_makes (line.Renew (renew.Link path main done child)) h e g = one_more (placed_shape path main (main_claim h) e.0.0.1)
    where
      one_more : depth_of path + 1 ≤ deep → depth_of path + 2 ≤ deep + 1
      one_more x = omega arith
  line_makes (line.Renew (renew.Branch path main done)) h e g = placed_shape path main (main_claim h) e.0.1
  line_makes (line.Clean (clean.Read path r)) h e g = read_makes 0 r.indirection r.line
  line_makes (line.Clean (clean.Main path main)) h e g = tt
  line_makes (line.Clean (clean.Entry path main done)) h e g = tt
  line_makes (line.Clean (clean.Child path main done r)) h e g = read_makes 0 r.indirection r.line
  line_makes (line.Clean (clean.Tomb path main done child)) h e g = tt
  line_makes (line.Clean (clean.Contracted path main done)) h e g =
      contracted_shape (depth_of path + 1) (is_below_root path && leaves_single state done) (bitmap_of (node_at state.heap main)) done (placed_shape path main (main_claim h) e.0.1)
      (λ may. two (below_root path (and_parts (is_below_root path) (leaves_single state done) may).0))
    where
      two : 1 ≤ depth_of path → 2 ≤ depth_of path + 1
      two x = omega arith
  line_makes (line.Climb (climb.Read c r)) h e g = read_makes 0 r.indirection r.line
  line_makes (line.Climb (climb.Main c main)) h e g = tt
  line_makes (line.Climb (climb.Contracted c main)) h e g =
      contracted_shape (depth_of (above c.path) + 1) (is_below_root (above c.path)) (bitmap_of (node_at state.heap main)) _ (placed_shape (above c.path) main (past_climb h).0 e.1)
      (λ may. two (below_root (above c.path) may))
    where
      two : 1 ≤ depth_of (above c.path) → 2 ≤ depth_of (above c.path) + 1
      two x = omega arith
  line_makes (line.Climb (climb.Root c l)) h e g = root_makes 0 l
  line_makes (line.Copy (copy.Read r l)) h e g = read_makes 1 l.indirection l.line
  line_makes (line.Copy (copy.Successor r main)) h e g = omega arith
  line_makes (line.Copy (copy.Second r main successor)) h e g = omega arith
  line_makes (line.Copy (copy.Empty r main)) h e g = deep_low state.limits.hash
  line_makes (line.Copy (copy.Cleared r main branch)) h e g = omega arith
  line_makes (line.Copy (copy.Offer offer)) h e g = tt
  line_makes (line.Copy (copy.Complete c)) h e g = complete_makes 1 c.offer c.line
  line_makes (line.Walk walk.Root) h e g = tt
  line_makes (line.Walk (walk.Read r todo pairs)) h e g = read_makes 0 r.indirection r.line
  line_makes (line.Walk (walk.Main main todo pairs)) h e g = tt
  line_makes (line.Walk (walk.Entry todo pairs)) h e g = tt
  line_makes (line.End answer) h e g = tt
  line_makes line.Impossible h e g = tt
