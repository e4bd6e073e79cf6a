-- Levels after any line's step, and those of the node that a step makes.
use Rattle.std.proofs.Common.{◌≡◌, ℕ, zero, suc, ◌+◌, ◌-◌, ◌<◌, ◌≤◌, ◌==◌, ◌&&◌, Bool, true, false, nat_lt, List, ◌∷◌, ◌++◌, All, length, Option, Some, None, is_some, refl, sym}
use Rattle.std.proofs.Common.{◌∙◌, subst, inl, inr, eqb-true, ltb-true, arith, []}
use Rattle.std.specs.Prelude.{bit_or, bit_xor}
use Rattle.std.proofs.lemmas.Bool.{false≢true, cond_both, eqb-false}
use Rattle.std.proofs.lemmas.List.Elements.{All-nil, All-cons, All-take, All-set}
use Rattle.arrayvec.specs.ArrayVec.{ArrayVec}
use Rattle.proof_memory.specs.Vocabulary.{birth_of, Call, Snapshot, Ref, Node as SlotNode, Branch, List as Listed, node_at, prev_at, main_at, entry_at, entries_of, bitmap_of, next_ref, no_ref}
use Rattle.proof_memory.specs.Vocabulary.{parting, index_in, flag_of, list_depth, pair, contracted, renewed, HashKind, position_of, Operation, ReadLine, Swap, SwapLine, CompleteLine, Descriptor}
use Rattle.proof_memory.specs.Vocabulary.{RootLine, BuildLine, Change, Site, Climb, CopyLine, Purpose, Line, handle_of, State, word_at, current, above, depth_of, flag_in, hash_in, is_below_root}
use Rattle.proof_memory.specs.Vocabulary.{read_action, read_after, action_at, complete_action_at, root_action, is_plain, next_entry, renew_after_link, renew_after_branch, build_action, build_after}
use Rattle.proof_memory.specs.Vocabulary.{build_if_made, build_after_made, after_single, after_link, changed, old_hash, clean_after_contracted, leaves_single, climb_after_contracted, place_in}
use Rattle.proof_memory.specs.Vocabulary.{copy_if_made, copy_after_made, after_successor, first_of, rest_of, line_action, line_after}
use Rattle.machine_model.specs.declared.reading.ReadLine.TheVariants as read
use Rattle.machine_model.specs.declared.reading.SwapLine.TheVariants as swap
use Rattle.machine_model.specs.declared.roots.CompleteLine.TheVariants as complete
use Rattle.machine_model.specs.declared.roots.RootLine.TheVariants as root
use Rattle.machine_model.specs.declared.finding.KeyLine.TheVariants as key
use Rattle.machine_model.specs.declared.building.BuildLine.TheVariants as build
use Rattle.machine_model.specs.declared.building.Change.TheVariants as change
use Rattle.machine_model.specs.declared.building.Site.TheVariants as site
use Rattle.machine_model.specs.declared.repairs.RenewLine.TheVariants as renew
use Rattle.machine_model.specs.declared.repairs.CleanLine.TheVariants as clean
use Rattle.machine_model.specs.declared.repairs.ClimbLine.TheVariants as climb
use Rattle.machine_model.specs.declared.copying.CopyLine.TheVariants as copy
use Rattle.machine_model.specs.declared.walking.WalkLine.TheVariants as walk
use Rattle.machine_model.specs.declared.lines.Purpose.TheVariants as purpose
use Rattle.machine_model.specs.declared.lines.Line.TheVariants as line
use Rattle.machine_model.specs.Swapping.{after_swap}
use Rattle.proof_memory.specs.Wants.{ABranch, BranchOrList, WithEntry, meets, Is, Holds, AllHold, line_wants, site_wants, change_wants, update_wants, swap_wants}
use Rattle.proof_memory.specs.Wants.{swap_line_wants, purpose_wants, read_wants}
use Rattle.proof_memory.proofs.Claims.Uses.{safe_of, meets_of, fact_of, entry_of, from_meets, first_hold, last_hold}
use Rattle.proof_memory.proofs.Claims.Nodes.{Heaped, entry_met}
use Rattle.proof_memory.proofs.Lines.Shared.{above_long}
use Rattle.proof_memory.specs.Making.{made_node}
use Rattle.proof_memory.proofs.Claims.Made.{All-inserted, All-removed, by_index_all}
use Rattle.proof_memory.proofs.Claims.Named.{main_claim, past_place, left_claim, past_done, single_claim, past_climb, past_third}
use Rattle.proof_memory.specs.Levels.{EntryLevel, InsideLevel, KindLevel, NodeLevel, PrevLevel, WordLevel, ReadLevel, CompleteLevel, RootLevel, PathLevel, PlaceLevel, UpdateLevel}
use Rattle.proof_memory.specs.Levels.{ChangeLevel, BuildLevel, SwapLineLevel, SwapLevel, DoneLevel, LineLevel, ActionLevel, build_level, made_level}
use Rattle.proof_memory.proofs.Levels.Paths.{current_level, above_level}
use Rattle.proof_memory.proofs.Levels.Steps.{AfterLevel, SwappedLevel, RenewsPath, single_level, branch_level, read_next, complete_next, root_next, renew_next_level, more_done}
use Rattle.proof_memory.proofs.Levels.Steps.{key_read_level, key_main_level, key_entry_level, listed_level, sibling_level, renew_entry_level, renew_read_level, clean_read_level}
use Rattle.proof_memory.proofs.Levels.Steps.{clean_main_level, clean_entry_level, child_level, clean_tomb_level, climb_read_level, climb_main_level, climb_root_level}
use Rattle.proof_memory.proofs.Levels.Steps.{copy_read_level, copy_offer_level, copy_complete_level, walk_next_level, walk_read_level, walk_entry_level, root_line_level}
use Rattle.proof_memory.proofs.Levels.Steps.{publish_level, deciding_level, check_level, line_swap_level}

-- two hashes part at this depth or below it
parting_below : (left a b depth : ℕ) → depth ≤ parting left a b depth
parting_below zero a b depth = omega arith
parting_below (suc left) a b depth = cond_both (index_in a depth == index_in b depth) _ _ (λ d. depth ≤ d) (λ e. later (parting_below left a b (depth + 1))) (λ e. omega arith)
  where
    later : depth + 1 ≤ parting left a b (depth + 1) → depth ≤ parting left a b (depth + 1)
    later h = omega arith

module _ (lv : Ref → ℕ) (state : State) (operation : Operation) (S : Ref → Type 0) (H : Heaped S state.heap)
    (N : (r : Ref) → S r → NodeLevel lv r (node_at state.heap r) × PrevLevel lv r (prev_at state.heap r)) where
  abbrev L : Line → Type 0
  L l = LineLevel lv l

  abbrev Wants : Line → Type 0
  Wants l = AllHold S state.heap (line_wants state.limits.hash operation.call operation.access l)

  -- the entry at a position
  at_level : (path : List Ref) (main : Ref) (position : ℕ) → Holds S state.heap (Is main ABranch) → Holds S state.heap (Is main (WithEntry position)) →
      EntryLevel lv (lv main) (entry_at state.heap main position)
  at_level path main position m w = branch_level lv state operation S N main m position no_ref (ltb-true position _ (meets_of w))

  next_level : (path : List Ref) (main : Ref) (done : List Ref) → DoneLevel lv path main done → Holds S state.heap (Is main ABranch) → Holds S state.heap (Is main (WithEntry (length done))) →
      EntryLevel lv (depth_of path + 1) (next_entry state main done)
  next_level path main done d m w = subst (λ n. EntryLevel lv n (next_entry state main done)) d.0.1 (at_level path main (length done) m w)

  -- ---- what is made

  abbrev Node : ℕ → SlotNode → Type 0
  Node level node = InsideLevel lv level node × KindLevel lv level node

  branch_made : (level bitmap : ℕ) (es : List Ref) → 1 ≤ level → All (EntryLevel lv level) es → Node level (renewed bitmap es)
  branch_made level bitmap es low all = (All-take (EntryLevel lv level) 32 es all, low)

  contracted_made : (level : ℕ) (may : Bool) (bitmap : ℕ) (es : List Ref) → 1 ≤ level → All (EntryLevel lv level) es → Node level (contracted may bitmap es)
  contracted_made level true bitmap [] low all = branch_made level bitmap [] low all
  contracted_made level true bitmap (single ∷ []) low all = (tt, low)
  contracted_made level true bitmap (x ∷ y ∷ es) low all = branch_made level bitmap (x ∷ y ∷ es) low all
  contracted_made level false bitmap es low all = branch_made level bitmap es low all

  changed_entry : (path : List Ref) (main : Ref) (former : Option ℕ) (entry : Ref) → UpdateLevel lv path former entry →
      AllHold S state.heap (update_wants main entry former) → EntryLevel lv (depth_of path + 1) entry
  changed_entry path main None entry u w = inr (deeper u)
    where
      deeper : lv entry ≡ depth_of path + 2 → lv entry ≡ depth_of path + 1 + 1
      deeper e = omega arith
  changed_entry path main (Some value) entry u w = inl (single_level lv state operation S N entry w.0)

  branch_changed : (path : List Ref) (main : Ref) (flag : ℕ) (former : Option ℕ) (bitmap : ℕ) (entries : ArrayVec Ref) (c : Change) → All (EntryLevel lv (depth_of path + 1)) entries.items →
      ChangeLevel lv path former c → AllHold S state.heap (change_wants main flag former c) → Node (depth_of path + 1) (changed flag (Branch bitmap entries) c)
  branch_changed path main flag former bitmap entries (change.Insert single) all e w =
      branch_made (depth_of path + 1) (bit_or bitmap flag) _ (omega arith)
      (All-inserted (EntryLevel lv (depth_of path + 1)) entries.items (position_of flag bitmap) single all (inl (single_level lv state operation S N single w.0)))
  branch_changed path main flag former bitmap entries (change.Update position entry) all e w =
      branch_made (depth_of path + 1) bitmap _ (omega arith) (All-set (EntryLevel lv (depth_of path + 1)) entries.items position entry (changed_entry path main former entry e w) all)
  branch_changed path main flag former bitmap entries (change.Remove position) all e w =
      branch_made (depth_of path + 1) (bit_xor bitmap flag) _ (omega arith) (All-removed (EntryLevel lv (depth_of path + 1)) entries.items position all)
  branch_changed path main flag former bitmap entries (change.Entomb single) all e w = (tt, omega arith)

  list_changed : (level flag : ℕ) (singles : ArrayVec Ref) (c : Change) → 1 ≤ level → Node level (changed flag (Listed singles) c)
  list_changed level flag singles (change.Insert single) low = (tt, low)
  list_changed level flag singles (change.Update position entry) low = (tt, low)
  list_changed level flag singles (change.Remove position) low = (tt, low)
  list_changed level flag singles (change.Entomb single) low = (tt, low)

  changed_level : (path : List Ref) (main : Ref) (flag : ℕ) (former : Option ℕ) (node : SlotNode) (c : Change) → meets BranchOrList node ≡ true → NodeLevel lv main node →
      lv main ≡ depth_of path + 1 → ChangeLevel lv path former c → AllHold S state.heap (change_wants main flag former c) → Node (depth_of path + 1) (changed flag node c)
  changed_level path main flag former (Branch bitmap entries) c b n l e w = branch_changed path main flag former bitmap entries c (subst (λ x. All (EntryLevel lv x) entries.items) l n.0) e w
  changed_level path main flag former (Listed singles) c b n l e w = list_changed (depth_of path + 1) flag singles c (omega arith)
  changed_level path main flag former node c b n l e w = absurd (false≢true b)

  pair_level : (kind : HashKind) (depth a b : ℕ) (x y : Ref) → lv x ≡ 0 → lv y ≡ 0 → Node (depth + 1) (pair kind depth a b x y)
  pair_level kind depth a b x y e f =
      cond_both (depth == list_depth kind) _ _ (Node (depth + 1)) (λ t. (tt, omega arith))
      (λ t. branch_made (depth + 1) (bit_or (flag_of a depth) (flag_of b depth)) _ (omega arith)
      (by_index_all (EntryLevel lv (depth + 1)) (index_in a depth) (index_in b depth) x y (inl e) (inl f)))

  build_made : (l : BuildLine) → Wants (line.Build l) → BuildLevel lv l → ActionLevel lv (build_level l) (build_action state operation l)
  build_made (build.Single path main s former) h e = (tt, refl)
  build_made (build.Pair path main position single depth) h e =
      pair_level state.limits.hash depth _ _ (entry_at state.heap main position) single
      (single_level lv state operation S N (entry_at state.heap main position) (from_meets (entry_at state.heap main position) (entry_of (past_place h).0)))
      (single_level lv state operation S N single (past_place h).1.0)
  build_made (build.Link path main position below depth) h e = (e.2, omega arith)
  build_made (build.Rung path main position below depth) h e =
      branch_made (depth + 1) (flag_of (hash_in state operation) depth) (below ∷ []) (omega arith)
      (All-cons (EntryLevel lv (depth + 1)) below [] (inr (deeper e.2)) (All-nil (EntryLevel lv (depth + 1))))
    where
      deeper : lv below ≡ depth + 2 → lv below ≡ depth + 1 + 1
      deeper x = omega arith
  build_made (build.Main path main c former) h e =
      changed_level path main (flag_in state operation path) former (node_at state.heap main) c (meets_of (main_claim h)) ((N main (safe_of (main_claim h))).0) e.0.1 e.1 (past_place h)

  -- ---- actions

  read_acts : (i : Ref) (l : ReadLine) → ReadLevel lv i l → ActionLevel lv 0 (read_action i l)
  read_acts i read.Main e = tt
  read_acts i (read.Prev main) e = tt
  read_acts i (read.AskRoot main previous) e = tt
  read_acts i (read.Abort main previous offer) e = e.1
  read_acts i (read.Decide main previous told) e = e
  read_acts i (read.Restore main previous) e = e

  -- a READ makes no node, so any level will do
  any_level : (level : ℕ) (i : Ref) (l : ReadLine) → ActionLevel lv 0 (read_action i l) → ActionLevel lv level (read_action i l)
  any_level level i read.Main e = e
  any_level level i (read.Prev main) e = e
  any_level level i (read.AskRoot main previous) e = e
  any_level level i (read.Abort main previous offer) e = e
  any_level level i (read.Decide main previous told) e = e
  any_level level i (read.Restore main previous) e = e

  complete_acts : (level : ℕ) (offer : Descriptor) (l : CompleteLine) → CompleteLevel lv offer l → ActionLevel lv level (complete_action_at offer l)
  complete_acts level offer (complete.Reading l) e = any_level level offer.root l (read_acts offer.root l e.1)
  complete_acts level offer (complete.Swap main) e = e.0

  root_acts : (l : RootLine) → RootLevel lv l → ActionLevel lv 0 (root_action l)
  root_acts root.Read e = tt
  root_acts (root.Completing c) e = complete_acts 0 c.offer c.line e

  swap_acts : (i replaced fresh : Ref) (l : SwapLine) → SwapLevel lv i replaced fresh → SwapLineLevel lv i l → ActionLevel lv 0 (action_at i replaced fresh l)
  swap_acts i replaced fresh swap.Publish h e = h
  swap_acts i replaced fresh (swap.Deciding l) h e = read_acts i l e
  swap_acts i replaced fresh swap.Check h e = tt

  pub line_level_acts : (l : Line) → Wants l → L l → ActionLevel lv (made_level l) (line_action state operation l)
  line_level_acts (line.Root l) h e = root_acts l e
  line_level_acts (line.Key (key.Read path r)) h e = read_acts r.indirection r.line e.2
  line_level_acts (line.Key (key.Main path main)) h e = tt
  line_level_acts (line.Key (key.Entry path main position)) h e = tt
  line_level_acts (line.Key (key.Listed path main position)) h e = tt
  line_level_acts (line.Key (key.Sibling path main position former)) h e = tt
  line_level_acts (line.Build l) h e = build_made l h e
  line_level_acts (line.Swap why s) h e = swap_acts s.indirection s.replaced s.fresh s.line e.0 e.1
  line_level_acts (line.Renew (renew.Entry path main done)) h e = tt
  line_level_acts (line.Renew (renew.Read path main done r)) h e = read_acts r.indirection r.line e.2
  line_level_acts (line.Renew (renew.Link path main done child)) h e = (e.1, omega arith)
  line_level_acts (line.Renew (renew.Branch path main done)) h e = branch_made (depth_of path + 1) (bitmap_of (node_at state.heap main)) done (omega arith) e.1
  line_level_acts (line.Clean (clean.Read path r)) h e = read_acts r.indirection r.line e.2
  line_level_acts (line.Clean (clean.Main path main)) h e = tt
  line_level_acts (line.Clean (clean.Entry path main done)) h e = tt
  line_level_acts (line.Clean (clean.Child path main done r)) h e = read_acts r.indirection r.line e.1
  line_level_acts (line.Clean (clean.Tomb path main done child)) h e = tt
  line_level_acts (line.Clean (clean.Contracted path main done)) h e =
      contracted_made (depth_of path + 1) (is_below_root path && leaves_single state done) (bitmap_of (node_at state.heap main)) done (omega arith) e.1
  line_level_acts (line.Climb (climb.Read c r)) h e = read_acts r.indirection r.line e.2
  line_level_acts (line.Climb (climb.Main c main)) h e = tt
  line_level_acts (line.Climb (climb.Contracted c main)) h e =
      contracted_made (depth_of (above c.path) + 1) (is_below_root (above c.path)) (bitmap_of (node_at state.heap main)) _ (omega arith)
      (All-set (EntryLevel lv (depth_of (above c.path) + 1)) (entries_of (node_at state.heap main)) (place_in state operation c main) c.single
      (inl (single_level lv state operation S N c.single (single_claim h)))
      (subst (λ n. All (EntryLevel lv n) (entries_of (node_at state.heap main))) e.1 (branch_level lv state operation S N main (past_climb h).0)))
  line_level_acts (line.Climb (climb.Root c l)) h e = root_acts l e.1
  line_level_acts (line.Copy (copy.Read r l)) h e = any_level 1 l.indirection l.line (read_acts l.indirection l.line e.2)
  line_level_acts (line.Copy (copy.Successor r main)) h e = (e.1, omega arith)
  line_level_acts (line.Copy (copy.Second r main successor)) h e = (e.1, omega arith)
  line_level_acts (line.Copy (copy.Empty r main)) h e = (All-nil (EntryLevel lv 1), omega arith)
  line_level_acts (line.Copy (copy.Cleared r main branch)) h e = (e.2, omega arith)
  line_level_acts (line.Copy (copy.Offer offer)) h e = e
  line_level_acts (line.Copy (copy.Complete c)) h e = complete_acts 1 c.offer c.line e
  line_level_acts (line.Walk walk.Root) h e = tt
  line_level_acts (line.Walk (walk.Read r todo pairs)) h e = read_acts r.indirection r.line e
  line_level_acts (line.Walk (walk.Main main todo pairs)) h e = tt
  line_level_acts (line.Walk (walk.Entry todo pairs)) h e = tt
  line_level_acts (line.End answer) h e = tt
  line_level_acts line.Impossible h e = tt

  -- ---- what comes after

  module _ (W : WordLevel lv (word_at state (handle_of operation.call))) (older : (r made : Ref) → S r → next_ref state.heap ≡ Some made → birth_of r < birth_of made) where
    -- the node that is made has its level
    abbrev Made : Line → Type 0
    Made l = (node : SlotNode) (made : Ref) → made_node state (line_action state operation l) ≡ Some node → next_ref state.heap ≡ Some made → lv made ≡ made_level l

    swap_begun : (path : List Ref) (main made : Ref) → PathLevel lv path → nat_lt 0 (length path) ≡ true → lv main ≡ depth_of path + 1 → S main →
        lv made ≡ depth_of path + 1 → next_ref state.heap ≡ Some made →
        SwapLevel lv (current path) main made
    swap_begun path main made p long e s f next =
        let here = current_level lv path p long in (e ∙ sym here, f ∙ sym here, older main made s next)

    build_by : (l : BuildLine) → ((made : Ref) → next_ref state.heap ≡ Some made → L (build_after_made state operation l made)) → (o : Option Ref) →
        next_ref state.heap ≡ o → L (build_if_made state operation l o)
    build_by l f None e = tt
    build_by l f (Some made) e = f made e

    single_next : (path : List Ref) (main : Ref) (former : Option ℕ) (s : Site) (made : Ref) → AllHold S state.heap (site_wants main former s) →
        PlaceLevel lv path main → L (after_single state operation path main former s made)
    single_next path main former site.Absent made h p = (p, tt)
    single_next path main former (site.At position) made h p = (p, updated former (fact_of h.0))
      where
        updated : (former : Option ℕ) → is_some former ≡ true → UpdateLevel lv path former made
        updated None e = absurd (false≢true e)
        updated (Some value) e = tt
    single_next path main former (site.Beside position) made h p = (p, parting_below _ (old_hash state main position) (hash_in state operation) (depth_of path + 1))

    link_next : (path : List Ref) (main : Ref) (position depth : ℕ) (made : Ref) → PlaceLevel lv path main → depth_of path + 1 ≤ depth → lv made ≡ depth + 1 →
        L (after_link path main position depth made)
    link_next path main position depth made p le e =
        cond_both (depth == depth_of path + 1) _ _ L (λ t. (p, two_deeper (eqb-true depth (depth_of path + 1) t))) (λ t. (p, higher (eqb-false depth (depth_of path + 1) t), one_more))
      where
        two_deeper : depth ≡ depth_of path + 1 → lv made ≡ depth_of path + 2
        two_deeper t = omega arith

        higher : (depth ≡ depth_of path + 1 → ⊥) → depth_of path + 1 ≤ depth - 1
        higher t = omega arith

        one_more : lv made ≡ depth - 1 + 2
        one_more = omega arith

    build_next : (l : BuildLine) → Wants (line.Build l) → BuildLevel lv l → Made (line.Build l) → L (build_after state operation l)
    build_next (build.Single path main s former) h e m = build_by (build.Single path main s former) (λ made n. single_next path main former s made (past_place h) e) (next_ref state.heap) refl
    build_next (build.Pair path main position single depth) h e m = build_by (build.Pair path main position single depth) (λ made n. (e.0, e.1, m _ made refl n)) (next_ref state.heap) refl
    build_next (build.Link path main position below depth) h e m =
        build_by (build.Link path main position below depth) (λ made n. link_next path main position depth made e.0 e.1 (m _ made refl n)) (next_ref state.heap) refl
    build_next (build.Rung path main position below depth) h e m = build_by (build.Rung path main position below depth) (λ made n. (e.0, e.1, m _ made refl n)) (next_ref state.heap) refl
    build_next (build.Main path main c former) h e m =
        build_by (build.Main path main c former)
        (λ made n. (swap_begun path main made e.0.0 (fact_of h.1.0) e.0.1 (safe_of (main_claim h)) (m _ made refl n) n, tt, e.0.0)) (next_ref state.heap) refl

    link_by : (path : List Ref) (main : Ref) (done : List Ref) → DoneLevel lv path main done →
        ((made : Ref) → next_ref state.heap ≡ Some made → lv made ≡ depth_of path + 2) → (o : Option Ref) → next_ref state.heap ≡ o →
        L (renew_after_link state path main done o)
    link_by path main done d f None e = tt
    link_by path main done d f (Some made) e =
        renew_next_level lv state operation S N path main (done ++ made ∷ []) (more_done lv state operation S N path main done made d (inr (one_more (f made e))))
      where
        one_more : lv made ≡ depth_of path + 2 → lv made ≡ depth_of path + 1 + 1
        one_more x = omega arith

    branch_by : (path : List Ref) (main : Ref) → PlaceLevel lv path main → nat_lt 0 (length path) ≡ true → S main →
        ((made : Ref) → next_ref state.heap ≡ Some made → lv made ≡ depth_of path + 1) → (o : Option Ref) →
        next_ref state.heap ≡ o → L (renew_after_branch path main o)
    branch_by path main p long s f None e = tt
    branch_by path main p long s f (Some made) e = (swap_begun path main made p.0 long p.1 s (f made e) e, tt, p.0)

    clean_by : (path : List Ref) (main : Ref) → PlaceLevel lv path main → nat_lt 0 (length path) ≡ true → S main →
        ((made : Ref) → next_ref state.heap ≡ Some made → lv made ≡ depth_of path + 1) → (o : Option Ref) →
        next_ref state.heap ≡ o → L (clean_after_contracted path main o)
    clean_by path main p long s f None e = tt
    clean_by path main p long s f (Some made) e = (swap_begun path main made p.0 long p.1 s (f made e) e, tt, tt)

    climb_by : (c : Climb) (main : Ref) → PathLevel lv c.path → nat_lt 1 (length c.path) ≡ true → lv main ≡ depth_of (above c.path) + 1 → S main →
        ((made : Ref) → next_ref state.heap ≡ Some made → lv made ≡ depth_of (above c.path) + 1) → (o : Option Ref) → next_ref state.heap ≡ o → L (climb_after_contracted operation c main o)
    climb_by c main p long m s f None e = tt
    climb_by c main p long m s f (Some made) e = (swap_begun (above c.path) main made (above_level lv c.path p) (above_long c.path long) m s (f made e) e, tt, p)

    copy_by : (l : CopyLine) → ((made : Ref) → next_ref state.heap ≡ Some made → L (copy_after_made operation l made)) → (o : Option Ref) → next_ref state.heap ≡ o → L (copy_if_made operation l o)
    copy_by l f None e = tt
    copy_by l f (Some made) e = f made e

    successor_next : (call : Call) (r main made : Ref) → lv r ≡ 1 → lv main ≡ 1 → lv made ≡ 1 → L (after_successor operation call r main made)
    successor_next (Snapshot h) r main made a b c = (a, b, c)
    successor_next call r main made a b c = (a, b, c, All-nil (λ x. lv x ≡ 1))

    -- a step of a READ
    reads : (i : Ref) (l : ReadLine) → AllHold S state.heap (read_wants i l) → ReadLevel lv i l →
        AfterLevel lv state operation S N i (read_after state.heap operation.access (word_at state (handle_of operation.call)) i l)
    reads i l h e = read_next lv state operation S N W i l h e

    swap_line_next : (s : Swap) (l : SwapLine) → AllHold S state.heap (swap_line_wants s.indirection l) → SwapLevel lv s.indirection s.replaced s.fresh → SwapLineLevel lv s.indirection l →
        SwappedLevel lv state operation S N s (after_swap state.heap operation.access (word_at state (handle_of operation.call)) s l)
    swap_line_next s swap.Publish h a e = publish_level lv state operation S N s (main_at state.heap s.indirection == s.replaced) a
    swap_line_next s (swap.Deciding l) h a e = deciding_level lv state operation S N s _ (reads s.indirection l h e)
    swap_line_next s swap.Check h a e = check_level lv state operation S N s (prev_at state.heap s.fresh)

    renews : (why : Purpose) → AllHold S state.heap (purpose_wants why) → RenewsPath lv state operation S N why
    renews (purpose.Update path former) h = tt
    renews (purpose.Renew path) h = fact_of h.1.0
    renews purpose.Clean h = tt
    renews (purpose.Climb c) h = tt

    pub line_level_next : (l : Line) → Wants l → L l → Made l → L (line_after state operation l)
    line_level_next (line.Root l) h e m = root_line_level lv state operation S N _ (root_next lv state operation S N W l h e)
    line_level_next (line.Key (key.Read path r)) h e m = key_read_level lv state operation S N path r.indirection _ e.0 e.1 (reads r.indirection r.line h.1.1 e.2)
    line_level_next (line.Key (key.Main path main)) h e m = key_main_level lv state operation S N path main (node_at state.heap main) e
    line_level_next (line.Key (key.Entry path main position)) h e m =
        key_entry_level lv state operation S N path main position (node_at state.heap (entry_at state.heap main position)) refl
        ((entry_met S state.heap H (main_claim h) (past_place h).0).0) (fact_of h.1.0) e (at_level path main position (main_claim h) (past_place h).0)
    line_level_next (line.Key (key.Listed path main position)) h e m = listed_level lv state operation S N path main position (node_at state.heap (entry_at state.heap main position)) e
    line_level_next (line.Key (key.Sibling path main position former)) h e m =
        sibling_level lv state operation S N path main position former _ (node_at state.heap (entry_at state.heap main (1 - position))) e
    line_level_next (line.Build l) h e m = build_next l h e m
    line_level_next (line.Swap why s) h e m =
        let its = first_hold S state.heap (swap_wants s) (purpose_wants why) h in
        line_swap_level lv state operation S N why s _ (renews why (last_hold S state.heap (swap_wants s) (purpose_wants why) h)) e.0 (swap_line_next s s.line (past_third its) e.0 e.1) e.2
    line_level_next (line.Renew (renew.Entry path main done)) h e m =
        renew_entry_level lv state operation S N path main done (next_entry state main done) (node_at state.heap (next_entry state main done)) refl
        ((entry_met S state.heap H (main_claim h) (left_claim h)).0) e (next_level path main done e (main_claim h) (left_claim h))
    line_level_next (line.Renew (renew.Read path main done r)) h e m = renew_read_level lv state operation S N path main done r.indirection _ e.0 e.1 (reads r.indirection r.line (past_done h) e.2)
    line_level_next (line.Renew (renew.Link path main done child)) h e m = link_by path main done e.0 (λ made n. m _ made refl n) (next_ref state.heap) refl
    line_level_next (line.Renew (renew.Branch path main done)) h e m = branch_by path main e.0 (fact_of h.1.0) (safe_of (main_claim h)) (λ made n. m _ made refl n) (next_ref state.heap) refl
    line_level_next (line.Clean (clean.Read path r)) h e m = clean_read_level lv state operation S N path r.indirection _ e.0 e.1 (reads r.indirection r.line h.1.1 e.2)
    line_level_next (line.Clean (clean.Main path main)) h e m = clean_main_level lv state operation S N path main (node_at state.heap main) e
    line_level_next (line.Clean (clean.Entry path main done)) h e m =
        clean_entry_level lv state operation S N path main done (next_entry state main done) (node_at state.heap (next_entry state main done)) e
        (next_level path main done e (main_claim h) (left_claim h))
    line_level_next (line.Clean (clean.Child path main done r)) h e m = child_level lv state operation S N path main done r.indirection _ e.0 (reads r.indirection r.line (past_done h) e.1)
    line_level_next (line.Clean (clean.Tomb path main done child)) h e m =
        clean_tomb_level lv state operation S N path main done (node_at state.heap child) (H.inside child (safe_of (past_done h).0)) e (next_level path main done e (main_claim h) (left_claim h))
    line_level_next (line.Clean (clean.Contracted path main done)) h e m = clean_by path main e.0 (fact_of h.1.0) (safe_of (main_claim h)) (λ made n. m _ made refl n) (next_ref state.heap) refl
    line_level_next (line.Climb (climb.Read c r)) h e m = climb_read_level lv state operation S N c r.indirection _ e.0 e.1 (reads r.indirection r.line (past_climb h) e.2)
    line_level_next (line.Climb (climb.Main c main)) h e m = climb_main_level lv state operation S N c main (node_at state.heap main) e.0 e.1
    line_level_next (line.Climb (climb.Contracted c main)) h e m = climb_by c main e.0 (fact_of h.1.0) e.1 (safe_of (past_climb h).0) (λ made n. m _ made refl n) (next_ref state.heap) refl
    line_level_next (line.Climb (climb.Root c l)) h e m = climb_root_level lv state operation S N c _ e.0 (root_next lv state operation S N W l (past_climb h) e.1)
    line_level_next (line.Copy (copy.Read r l)) h e m = copy_read_level lv state operation S N r l.indirection _ e.0 e.1 (reads l.indirection l.line h.1 e.2)
    line_level_next (line.Copy (copy.Successor r main)) h e m =
        copy_by (copy.Successor r main) (λ made n. successor_next operation.call r main made e.0 e.1 (m _ made refl n)) (next_ref state.heap) refl
    line_level_next (line.Copy (copy.Second r main successor)) h e m =
        copy_by (copy.Second r main successor) (λ made n. (e.0, e.1, e.2, All-cons (λ x. lv x ≡ 1) made [] (m _ made refl n) (All-nil (λ x. lv x ≡ 1)))) (next_ref state.heap) refl
    line_level_next (line.Copy (copy.Empty r main)) h e m = copy_by (copy.Empty r main) (λ made n. (e.0, e.1, m _ made refl n)) (next_ref state.heap) refl
    line_level_next (line.Copy (copy.Cleared r main branch)) h e m = copy_by (copy.Cleared r main branch) (λ made n. (e.0, e.1, m _ made refl n, All-nil (λ x. lv x ≡ 1))) (next_ref state.heap) refl
    line_level_next (line.Copy (copy.Offer offer)) h e m = copy_offer_level lv state operation S N offer (is_plain (word_at state (handle_of operation.call)) offer.root) e
    line_level_next (line.Copy (copy.Complete c)) h e m = copy_complete_level lv state operation S N _ (complete_next lv state operation S N W c h e)
    line_level_next (line.Walk walk.Root) h e m = tt
    line_level_next (line.Walk (walk.Read r todo pairs)) h e m = walk_read_level lv state operation S N todo pairs r.indirection _ (reads r.indirection r.line h.1 e)
    line_level_next (line.Walk (walk.Main main todo pairs)) h e m = walk_next_level lv state operation S N (entries_of (node_at state.heap main) ++ todo) pairs
    line_level_next (line.Walk (walk.Entry todo pairs)) h e m = walk_entry_level lv state operation S N (first_of todo) (rest_of todo) pairs (node_at state.heap (first_of todo))
    line_level_next (line.End answer) h e m = tt
    line_level_next line.Impossible h e m = tt
