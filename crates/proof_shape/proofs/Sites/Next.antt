-- Sites after any line's step.
use Rattle.std.proofs.Common.{◌≡◌, ℕ, ◌*◌, ◌^◌, ◌<◌, List, [], ◌∷◌, ◌++◌, Some, refl, sym, ◌∙◌, arith}
use Rattle.proof_shape.specs.Vocabulary.{HashKind, Call, Clear, Snapshot, Freeze, Ref, Node as SlotNode, Indirection, Single, node_at, prev_at, entries_of, next_ref, Operation, After, Gives}
use Rattle.proof_shape.specs.Vocabulary.{ReadLine, Swap, SwapLine, RootLine, BuildLine, CopyLine, Purpose, Line, handle_of, State, word_at, above, depth_of, hash_in, at_indirection, read_after}
use Rattle.proof_shape.specs.Vocabulary.{walk_next, walk_after_read, walk_after_entry, first_of, rest_of, line_action, line_after, after_root, AllHold, line_wants, swap_wants}
use Rattle.proof_shape.specs.Vocabulary.{swap_line_wants, purpose_wants, read_wants, made_node, WordLevel, LineLevel, PurposeLevel, Known, KnowsLine}
use Rattle.proof_shape.specs.Beneath.machine_model.specs.declared.reading.After.TheVariants.{Goes}
use Rattle.proof_shape.specs.Beneath.machine_model.specs.declared.reading.SwapLine.TheVariants as swap
use Rattle.proof_shape.specs.Beneath.machine_model.specs.declared.building.BuildLine.TheVariants as build
use Rattle.proof_shape.specs.Beneath.machine_model.specs.declared.finding.KeyLine.TheVariants as key
use Rattle.proof_shape.specs.Beneath.machine_model.specs.declared.repairs.RenewLine.TheVariants as renew
use Rattle.proof_shape.specs.Beneath.machine_model.specs.declared.repairs.CleanLine.TheVariants as clean
use Rattle.proof_shape.specs.Beneath.machine_model.specs.declared.repairs.ClimbLine.TheVariants as climb
use Rattle.proof_shape.specs.Beneath.machine_model.specs.declared.walking.WalkLine.TheVariants as walk
use Rattle.proof_shape.specs.Beneath.machine_model.specs.declared.lines.Purpose.TheVariants as purpose
use Rattle.proof_shape.specs.Beneath.machine_model.specs.declared.lines.Line.TheVariants as line
use Rattle.proof_shape.specs.Beneath.machine_model.specs.Swapping.{after_swap}
use Rattle.proof_shape.specs.Beneath.machine_model.specs.Operations.{from_root}
use Rattle.proof_shape.specs.Beneath.proof_memory.proofs.Claims.Uses.{safe_of, meets_of, fact_of, first_hold, last_hold}
use Rattle.proof_shape.specs.Beneath.proof_memory.proofs.Claims.Nodes.{Heaped, entry_met}
use Rattle.proof_shape.specs.Beneath.proof_memory.proofs.Claims.Named.{main_claim, past_place, left_claim, past_done, past_climb, third_claim, past_third}
use Rattle.proof_shape.specs.Beneath.proof_memory.proofs.Levels.Paths.{current_level}
use Rattle.proof_shape.specs.Beneath.proof_memory.proofs.Levels.Steps.{AfterLevel, RootedLevel}
use Rattle.proof_shape.specs.Beneath.proof_memory.proofs.Levels.Steps.{read_next as level_read_next}
use Rattle.proof_shape.specs.Beneath.proof_memory.proofs.Levels.Steps.{root_next as level_root_next}
use Rattle.proof_shape.specs.Sites.Nodes.{path_to, depth_at}
use Rattle.proof_shape.specs.Sites.Lines.{Sites, bare, ReadSite, SwapSite, SwapLineSite, LineSite, IsOnWay}
use Rattle.proof_shape.proofs.Sites.Ways.{on_way, path_fits}
use Rattle.proof_shape.proofs.Sites.Seen.{Sees, AfterSite, read_next, pushed_site}
use Rattle.proof_shape.proofs.Sites.Made.{AtSite}
use Rattle.proof_shape.proofs.Sites.Key.{key_read_site, key_main_site, key_entry_site, listed_site, sibling_site}
use Rattle.proof_shape.proofs.Sites.Build.{build_next}
use Rattle.proof_shape.proofs.Sites.Repair.{GivesLevel, more_left, renew_entry_site, renew_read_site, link_by, clean_read_site, clean_main_site, clean_entry_site, child_site}
use Rattle.proof_shape.proofs.Sites.Repair.{clean_tomb_site, renewed_by, cleaned_by}
use Rattle.proof_shape.proofs.Sites.Climb.{SwappedSite, PurposePath, publish_site, deciding_site, check_site, line_swap_site, climb_read_site, climb_main_site, climb_root_site, climbed_by}
use Rattle.proof_shape.proofs.Sites.Acts.{root_path}
use Rattle.proof_shape.specs.Beneath.machine_model.specs.Edges.Roots.{CopyEdge}
use Rattle.proof_shape.specs.Beneath.machine_model.proofs.Edges.Key.{key_edge}
use Rattle.proof_shape.specs.Beneath.machine_model.proofs.Edges.Roots.{copy_edge}

module _ (s : Sites) (fits : (i : Ref) → s.path i < 2 ^ (5 * depth_at (s.level i))) (state : State) (operation : Operation) (S : Ref → Type 0)
    (H : Heaped S state.heap) (N : Sees s state S) (first : Ref → Ref) where
  abbrev kind : HashKind
  kind = state.limits.hash

  abbrev hash : ℕ
  hash = hash_in state operation

  abbrev K : Known
  K = record { kind = kind; node = s.node; first = first }

  abbrev L : Line → Type 0
  L l = LineSite kind s hash l

  abbrev Wants : Line → Type 0
  Wants l = AllHold S state.heap (line_wants state.limits.hash operation.call operation.access l)

  -- ---- the root

  from_root_site : (call : Call) (r : Ref) → s.level r ≡ 1 → L (from_root call r)
  from_root_site (Clear h) r e = tt
  from_root_site (Snapshot h) r e = tt
  from_root_site (Freeze h) r e = tt
  from_root_site call r e = (pushed_site kind s hash [] r (λ k d within. absurd (omega arith)) on, on, tt)
    where
      on : IsOnWay kind s hash 0 r
      on = let low : path_to hash 0 < 1 = path_fits hash 0 in let none : path_to hash 0 ≡ 0 = omega (arith, low) in root_path s fits r e ∙ sym none

  root_line_site : (a : After RootLine Ref) → RootedLevel s.level state operation S N.levels a → L (after_root operation a)
  root_line_site (Goes l) e = tt
  root_line_site (Gives r) e = from_root_site operation.call r e

  -- ---- COPY and WALK

  copy_site : (l : CopyLine) (next : Line) → CopyEdge state operation l next → L next
  copy_site l next (CopyEdge.comes_late offer e) = tt
  copy_site l next edge = tt

  walk_next_site : (todo : List Ref) (pairs : List (ℕ × ℕ)) → L (walk_next operation todo pairs)
  walk_next_site [] pairs = tt
  walk_next_site (entry ∷ todo) pairs = tt

  walk_read_site : (todo : List Ref) (pairs : List (ℕ × ℕ)) (i : Ref) (a : After ReadLine Ref) → AfterSite s state S N i a → L (walk_after_read todo pairs (at_indirection i a))
  walk_read_site todo pairs i (Goes l) h = h
  walk_read_site todo pairs i (Gives main) h = tt

  walk_entry_site : (entry : Ref) (todo : List Ref) (pairs : List (ℕ × ℕ)) (node : SlotNode) → L (walk_after_entry operation entry todo pairs node)
  walk_entry_site entry todo pairs (Indirection generation word) = tt
  walk_entry_site entry todo pairs (Single k v) = walk_next_site todo (pairs ++ (k, v) ∷ [])
  walk_entry_site entry todo pairs node = tt

  -- ---- SWAP

  reads : (i : Ref) (l : ReadLine) → AllHold S state.heap (read_wants i l) → ReadSite kind s i l →
      AfterSite s state S N i (read_after state.heap operation.access (word_at state (handle_of operation.call)) i l)
  reads i l h e = read_next s state S N operation.access (word_at state (handle_of operation.call)) i l h e

  swap_next : (w : Swap) (l : SwapLine) → AllHold S state.heap (swap_line_wants w.indirection l) → SwapSite kind s w.indirection w.replaced w.fresh → SwapLineSite kind s w.indirection l →
      SwappedSite s fits state operation S N w (after_swap state.heap operation.access (word_at state (handle_of operation.call)) w l)
  swap_next w swap.Publish h a e = publish_site s fits state operation S N w _ a
  swap_next w (swap.Deciding l) h a e = deciding_site s fits state operation S N w _ (reads w.indirection l h e)
  swap_next w swap.Check h a e = check_site s fits state operation S N w (prev_at state.heap w.fresh)

  purpose_path : (why : Purpose) → AllHold S state.heap (purpose_wants why) → PurposeLevel s.level why → PurposePath s fits state operation S N why
  purpose_path (purpose.Update path former) h e = (fact_of h.1.0, current_level s.level path e (fact_of h.1.0))
  purpose_path (purpose.Renew path) h e = fact_of h.1.0
  purpose_path purpose.Clean h e = tt
  purpose_path (purpose.Climb c) h e = fact_of h.1.0

  -- ---- any line

  -- what the step makes stands at its site
  abbrev pub Made : Line → Type 0
  Made l = (node : SlotNode) (made : Ref) → made_node state (line_action state operation l) ≡ Some node → next_ref state.heap ≡ Some made →
      AtSite s state operation l made × (bare (s.node made) ≡ bare node)

  build_at : (l : BuildLine) → Made (line.Build l) → (made : Ref) → next_ref state.heap ≡ Some made → AtSite s state operation (line.Build l) made
  build_at (build.Single path main where_ former) m made n = (m _ made refl n).0
  build_at (build.Pair path main position single depth) m made n = (m _ made refl n).0
  build_at (build.Link path main position below depth) m made n = (m _ made refl n).0
  build_at (build.Rung path main position below depth) m made n = (m _ made refl n).0
  build_at (build.Main path main c former) m made n = (m _ made refl n).0

  module _ (W : WordLevel s.level (word_at state (handle_of operation.call))) where
    child_level : (i : Ref) (a : After ReadLine Ref) → AfterLevel s.level state operation S N.levels i a → GivesLevel s fits state operation S N i a
    child_level i (Goes l) h = tt
    child_level i (Gives main) h = h

    pub line_next : (l : Line) → Wants l → LineLevel s.level l → LineSite kind s hash l → KnowsLine K operation.call l → Made l → L (line_after state operation l)
    line_next (line.Root l) h e p knows m = root_line_site _ (level_root_next s.level state operation S N.levels W l h e)
    line_next (line.Key (key.Read path r)) h e p knows m = key_read_site s fits state operation S N path r.indirection _ p.0 p.1 (reads r.indirection r.line h.1.1 p.2)
    line_next (line.Key (key.Main path main)) h e p knows m = key_main_site s fits state operation S N path main _ p (key_edge state operation (key.Main path main))
    line_next (line.Key (key.Entry path main position)) h e p knows m =
        key_entry_site s fits state operation S N first path main position _ (safe_of (main_claim h))
        ((entry_met S state.heap H (main_claim h) (past_place h).0).0) (fact_of h.1.0) e.1 p knows (key_edge state operation (key.Entry path main position))
    line_next (line.Key (key.Listed path main position)) h e p knows m = listed_site s fits state operation S N path main position _ p (key_edge state operation (key.Listed path main position))
    line_next (line.Key (key.Sibling path main position former)) h e p knows m =
        sibling_site s fits state operation S N path main position former _ p (key_edge state operation (key.Sibling path main position former))
    line_next (line.Build l) h e p knows m = build_next s fits state operation S N l h e p (build_at l m)
    line_next (line.Swap why w) h e p knows m =
        let its = first_hold S state.heap (swap_wants w) (purpose_wants why) h in
        line_swap_site s fits state operation S N why w _ (safe_of (third_claim its)) e.0.1
        (purpose_path why (last_hold S state.heap (swap_wants w) (purpose_wants why) h) e.2) p.0 (swap_next w w.line (past_third its) p.0 p.1) p.2
    line_next (line.Renew (renew.Entry path main done)) h e p knows m =
        renew_entry_site s fits state operation S N path main done (node_at state.heap _) refl (safe_of (main_claim h))
        ((entry_met S state.heap H (main_claim h) (left_claim h)).0)
        (more_left s fits state operation S N main done (safe_of (main_claim h)) (meets_of (left_claim h))) p
    line_next (line.Renew (renew.Read path main done r)) h e p knows m =
        renew_read_site s fits state operation S N path main done r.indirection _ p.0 p.1 (reads r.indirection r.line (past_done h) p.2)
    line_next (line.Renew (renew.Link path main done child)) h e p knows m =
        link_by s fits state operation S N path main done (safe_of (main_claim h)) (meets_of (main_claim h))
        (more_left s fits state operation S N main done (safe_of (main_claim h)) (meets_of (left_claim h))) p.0 p.1.1 e.0.0.1
        (λ made n. let its = m _ made refl n in (its.0.0, its.0.1, its.1)) (next_ref state.heap) refl
    line_next (line.Renew (renew.Branch path main done)) h e p knows m =
        renewed_by s fits state operation S N path main p.0 (fact_of h.1.0) (λ made n. on_way s kind hash (depth_of path) made (m _ made refl n).0.1) (next_ref state.heap) refl
    line_next (line.Clean (clean.Read path r)) h e p knows m = clean_read_site s fits state operation S N path r.indirection _ p.0 p.1 (reads r.indirection r.line h.1.1 p.2)
    line_next (line.Clean (clean.Main path main)) h e p knows m = clean_main_site s fits state operation S N path main (node_at state.heap main) p
    line_next (line.Clean (clean.Entry path main done)) h e p knows m =
        clean_entry_site s fits state operation S N path main done (node_at state.heap _) refl (safe_of (main_claim h))
        ((entry_met S state.heap H (main_claim h) (left_claim h)).0)
        (more_left s fits state operation S N main done (safe_of (main_claim h)) (meets_of (left_claim h))) p
    line_next (line.Clean (clean.Child path main done r)) h e p knows m =
        child_site s fits state operation S N path main done r.indirection _ p.0 p.1 (reads r.indirection r.line (past_done h) p.2)
        (child_level r.indirection _ (level_read_next s.level state operation S N.levels W r.indirection r.line (past_done h) e.1))
    line_next (line.Clean (clean.Tomb path main done child)) h e p knows m =
        clean_tomb_site s fits state operation S N path main done child (node_at state.heap child) refl (safe_of (main_claim h)) (safe_of (past_done h).0)
        (more_left s fits state operation S N main done (safe_of (main_claim h)) (meets_of (left_claim h))) p
    line_next (line.Clean (clean.Contracted path main done)) h e p knows m =
        cleaned_by s fits state operation S N path main p.0 (fact_of h.1.0) (λ made n. on_way s kind hash (depth_of path) made (m _ made refl n).0.1) (next_ref state.heap) refl
    line_next (line.Climb (climb.Read c r)) h e p knows m = climb_read_site s fits state operation S N c r.indirection _ p.0 p.1 (reads r.indirection r.line (past_climb h) p.2)
    line_next (line.Climb (climb.Main c main)) h e p knows m = climb_main_site s fits state operation S N c main (node_at state.heap main) refl (safe_of (past_climb h).0) e.1 p.0 p.1
    line_next (line.Climb (climb.Contracted c main)) h e p knows m =
        climbed_by s fits state operation S N c main p.0 (fact_of h.1.0) p.1 (λ made n. on_way s kind hash (depth_of (above c.path)) made (m _ made refl n).0.1) (next_ref state.heap) refl
    line_next (line.Climb (climb.Root c l)) h e p knows m = climb_root_site s fits state operation S N c _ p
    line_next (line.Copy l) h e p knows m = copy_site l _ (copy_edge state operation l)
    line_next (line.Walk walk.Root) h e p knows m = tt
    line_next (line.Walk (walk.Read r todo pairs)) h e p knows m = walk_read_site todo pairs r.indirection _ (reads r.indirection r.line h.1 p)
    line_next (line.Walk (walk.Main main todo pairs)) h e p knows m = walk_next_site (entries_of (node_at state.heap main) ++ todo) pairs
    line_next (line.Walk (walk.Entry todo pairs)) h e p knows m = walk_entry_site (first_of todo) (rest_of todo) pairs (node_at state.heap (first_of todo))
    line_next (line.End answer) h e p knows m = tt
    line_next line.Impossible h e p knows m = tt
