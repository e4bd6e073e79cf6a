-- What any line makes below the root is full.
use Rattle.std.proofs.Common.{◌≡◌, ℕ, ◌+◌, ◌≤◌, true, List, length, set, ap, subst, length-set, lt-ltb, leb-true, arith}
use Rattle.proof_shape.specs.Vocabulary.{Ref, node_at, entries_of, bitmap_of, Operation, ReadLine, SwapLine, CompleteLine, Descriptor, RootLine, Line, State, above, depth_of, flag_in, hash_in}
use Rattle.proof_shape.specs.Vocabulary.{is_below_root, read_action, action_at, complete_action_at, root_action, old_hash, place_in, line_action, AllHold, line_wants, ABranch, meets, LineLevel}
use Rattle.proof_shape.specs.Vocabulary.{made_level, Known, KnowsLine}
use Rattle.proof_shape.specs.Beneath.machine_model.specs.declared.reading.ReadLine.TheVariants as read
use Rattle.proof_shape.specs.Beneath.machine_model.specs.declared.reading.SwapLine.TheVariants as swap
use Rattle.proof_shape.specs.Beneath.machine_model.specs.declared.roots.CompleteLine.TheVariants as complete
use Rattle.proof_shape.specs.Beneath.machine_model.specs.declared.roots.RootLine.TheVariants as root
use Rattle.proof_shape.specs.Beneath.machine_model.specs.declared.building.BuildLine.TheVariants as build
use Rattle.proof_shape.specs.Beneath.machine_model.specs.declared.finding.KeyLine.TheVariants as key
use Rattle.proof_shape.specs.Beneath.machine_model.specs.declared.repairs.RenewLine.TheVariants as renew
use Rattle.proof_shape.specs.Beneath.machine_model.specs.declared.repairs.CleanLine.TheVariants as clean
use Rattle.proof_shape.specs.Beneath.machine_model.specs.declared.repairs.ClimbLine.TheVariants as climb
use Rattle.proof_shape.specs.Beneath.machine_model.specs.declared.copying.CopyLine.TheVariants as copy
use Rattle.proof_shape.specs.Beneath.machine_model.specs.declared.walking.WalkLine.TheVariants as walk
use Rattle.proof_shape.specs.Beneath.machine_model.specs.declared.lines.Line.TheVariants as line
use Rattle.proof_shape.specs.Beneath.proof_memory.specs.Wants.{is_indirection}
use Rattle.proof_shape.specs.Beneath.proof_memory.proofs.Claims.Uses.{safe_of, meets_of, all_of}
use Rattle.proof_shape.specs.Beneath.proof_memory.proofs.Claims.Named.{main_claim, done_claim, left_claim, past_climb}
use Rattle.proof_shape.specs.Sites.Lines.{Sites, bare, LineSite, DoneSite}
use Rattle.proof_shape.proofs.Shaped.Places.{entries_alike}
use Rattle.proof_shape.proofs.Full.Lines.{FullLine}
use Rattle.proof_shape.proofs.Full.Lists.{IsFull, alone}
use Rattle.proof_shape.proofs.Full.Made.{FullNode, ActionFull, pair_full, change_full, entries_full, renewed_full, cleaned_full, climbed_full}

module _ (s : Sites) where
  read_full : (level : ℕ) (i : Ref) (l : ReadLine) → ActionFull s level (read_action i l)
  read_full level i read.Main = tt
  read_full level i (read.Prev main) = tt
  read_full level i (read.AskRoot main previous) = tt
  read_full level i (read.Abort main previous offer) = tt
  read_full level i (read.Decide main previous told) = tt
  read_full level i (read.Restore main previous) = tt

  complete_full : (level : ℕ) (offer : Descriptor) (l : CompleteLine) → ActionFull s level (complete_action_at offer l)
  complete_full level offer (complete.Reading l) = read_full level offer.root l
  complete_full level offer (complete.Swap main) = tt

  root_full : (level : ℕ) (l : RootLine) → ActionFull s level (root_action l)
  root_full level root.Read = tt
  root_full level (root.Completing c) = complete_full level c.offer c.line

  swap_full : (level : ℕ) (i replaced fresh : Ref) (l : SwapLine) → ActionFull s level (action_at i replaced fresh l)
  swap_full level i replaced fresh swap.Publish = tt
  swap_full level i replaced fresh (swap.Deciding l) = read_full level i l
  swap_full level i replaced fresh swap.Check = tt

  module _ (state : State) (operation : Operation) (S : Ref → Type 0) (same : (r : Ref) → S r → bare (s.node r) ≡ bare (node_at state.heap r)) (first : Ref → Ref)
      (old : (r : Ref) → S r → FullNode s (s.level r) (node_at state.heap r)) where
    abbrev K : Known
    K = record { kind = state.limits.hash; node = s.node; first = first }

    abbrev Wants : Line → Type 0
    Wants l = AllHold S state.heap (line_wants state.limits.hash operation.call operation.access l)

    -- the main node that is replaced
    old_at : (level : ℕ) (main : Ref) → S main → s.level main ≡ level → FullNode s level (node_at state.heap main)
    old_at level main u e = subst (λ l. FullNode s l (node_at state.heap main)) e (old main u)

    old_entries : (level : ℕ) (main : Ref) → S main → meets ABranch (node_at state.heap main) ≡ true → s.level main ≡ level → 2 ≤ level → IsFull s.node (entries_of (s.node main))
    old_entries level main u is e = entries_full s level main (node_at state.heap main) (same main u) is (old_at level main u e)

    below : (path : List Ref) → 2 ≤ depth_of path + 1 → is_below_root path ≡ true
    below path h = lt-ltb 1 (length path) (omega (arith, h))

    all_done : (path : List Ref) (main : Ref) (done : List Ref) → S main → length (entries_of (node_at state.heap main)) ≤ length done →
        DoneSite state.limits.hash s (hash_in state operation) path main done →
        length done ≡ length (entries_of (s.node main))
    all_done path main done u most d = omega (arith, most, d.1, ap length (entries_alike (s.node main) (node_at state.heap main) (same main u)))

    pub acts_full : (l : Line) → Wants l → LineLevel s.level l → LineSite state.limits.hash s (hash_in state operation) l → KnowsLine K operation.call l →
        FullLine s l → ActionFull s (made_level l) (line_action state operation l)
    acts_full (line.Root l) h e p knows f = root_full 0 l
    acts_full (line.Key (key.Read path r)) h e p knows f = read_full 0 r.indirection r.line
    acts_full (line.Key (key.Main path main)) h e p knows f = tt
    acts_full (line.Key (key.Entry path main position)) h e p knows f = tt
    acts_full (line.Key (key.Listed path main position)) h e p knows f = tt
    acts_full (line.Key (key.Sibling path main position former)) h e p knows f = tt
    acts_full (line.Build (build.Single path main where_ former)) h e p knows f = tt
    acts_full (line.Build (build.Pair path main position single depth)) h e p knows f =
        pair_full s state.limits.hash (depth + 1) depth (old_hash state main position) (hash_in state operation) _ single
    acts_full (line.Build (build.Link path main position under depth)) h e p knows f = tt
    acts_full (line.Build (build.Rung path main position under depth)) h e p (inserts, (beside, single, new, leads, less, alike)) f = λ deep. alone s.node under (ap is_indirection leads.0.2)
    acts_full (line.Build (build.Main path main c former)) h e p knows f =
        change_full s state.limits.hash first operation.call path main former c (flag_in state operation path) (node_at state.heap main) (same main (safe_of (main_claim h))) knows
        (λ position is. subst (λ x. FullLine s (line.Build (build.Main path main x former))) is f) (old_at (depth_of path + 1) main (safe_of (main_claim h)) e.0.1)
    acts_full (line.Swap why w) h e p knows f = swap_full 0 w.indirection w.replaced w.fresh w.line
    acts_full (line.Renew (renew.Entry path main done)) h e p knows f = tt
    acts_full (line.Renew (renew.Read path main done r)) h e p knows f = read_full 0 r.indirection r.line
    acts_full (line.Renew (renew.Link path main done child)) h e p knows f = tt
    acts_full (line.Renew (renew.Branch path main done)) h e p knows f =
        renewed_full s (depth_of path + 1) (bitmap_of (node_at state.heap main)) main done (old_entries (depth_of path + 1) main (safe_of (main_claim h)) (meets_of (main_claim h)) e.0.1)
        (all_done path main done (safe_of (main_claim h)) (leb-true _ (length done) (meets_of (left_claim h))) p) f
    acts_full (line.Clean (clean.Read path r)) h e p knows f = read_full 0 r.indirection r.line
    acts_full (line.Clean (clean.Main path main)) h e p knows f = tt
    acts_full (line.Clean (clean.Entry path main done)) h e p knows f = tt
    acts_full (line.Clean (clean.Child path main done r)) h e p knows f = read_full 0 r.indirection r.line
    acts_full (line.Clean (clean.Tomb path main done child)) h e p knows f = tt
    acts_full (line.Clean (clean.Contracted path main done)) h e p knows f =
        cleaned_full s state S same (depth_of path + 1) path main done (below path)
        (λ deep. let some = old_entries (depth_of path + 1) main (safe_of (main_claim h)) (meets_of (main_claim h)) e.0.1 deep in
        let count = all_done path main done (safe_of (main_claim h)) (leb-true _ (length done) (meets_of (left_claim h))) p in omega (arith, some.0, count)) (all_of (done_claim h))
    acts_full (line.Climb (climb.Read c r)) h e p knows f = read_full 0 r.indirection r.line
    acts_full (line.Climb (climb.Main c main)) h e p knows f = tt
    acts_full (line.Climb (climb.Contracted c main)) h e p knows f =
        climbed_full s state S same (depth_of (above c.path) + 1) (bitmap_of (node_at state.heap main)) (is_below_root (above c.path))
        (set (entries_of (node_at state.heap main)) (place_in state operation c main) c.single)
        (below (above c.path))
        (λ deep. let some = old_entries (depth_of (above c.path) + 1) main (safe_of (past_climb h).0) (meets_of (past_climb h).0) e.1 deep in
        let alike = entries_alike (s.node main) (node_at state.heap main) (same main (safe_of (past_climb h).0)) in
        omega (arith, some.0, ap length alike, length-set (entries_of (node_at state.heap main)) (place_in state operation c main) c.single))
    acts_full (line.Climb (climb.Root c l)) h e p knows f = root_full 0 l
    acts_full (line.Copy (copy.Read q l)) h e p knows f = read_full 1 l.indirection l.line
    acts_full (line.Copy (copy.Successor q main)) h e p knows f = tt
    acts_full (line.Copy (copy.Second q main successor)) h e p knows f = tt
    acts_full (line.Copy (copy.Empty q main)) h e p knows f = λ deep. absurd (omega (arith, deep))
    acts_full (line.Copy (copy.Cleared q main branch)) h e p knows f = tt
    acts_full (line.Copy (copy.Offer offer)) h e p knows f = tt
    acts_full (line.Copy (copy.Complete c)) h e p knows f = complete_full 1 c.offer c.line
    acts_full (line.Walk walk.Root) h e p knows f = tt
    acts_full (line.Walk (walk.Read r todo pairs)) h e p knows f = read_full 0 r.indirection r.line
    acts_full (line.Walk (walk.Main main todo pairs)) h e p knows f = tt
    acts_full (line.Walk (walk.Entry todo pairs)) h e p knows f = tt
    acts_full (line.End answer) h e p knows f = tt
    acts_full line.Impossible h e p knows f = tt
