-- What a line wants gives what its step wants.
use Rattle.std.proofs.Common.{◌≡◌, ℕ, ◌^◌, ◌<◌, ◌&&◌, true, nat_le, List, [], ◌∷◌, length, set, refl, sym, subst, ltb-true, leb-true, arith}
use Rattle.std.specs.Prelude.{count_ones}
use Rattle.std.proofs.lemmas.Bool.{false≢true, and_parts, le-leb}
use Rattle.std.proofs.lemmas.Nat.{ones_le_self}
use Rattle.std.proofs.lemmas.List.{length-set}
use Rattle.std.proofs.lemmas.List.Elements.{All-set, All-head}
use Rattle.proof_memory.specs.Vocabulary.{position_of, Ref, Node, Branch, node_at, entry_at, entries_of, bitmap_of, index_in, Operation, Swap, SwapLine, BuildLine, RenewLine, CleanLine, ClimbLine}
use Rattle.proof_memory.specs.Vocabulary.{Climb, CopyLine, WalkLine, Line, State, above, is_below_root, flag_in, hash_in, depth_of, action_at, next_entry, old_hash, leaves_single, place_in}
use Rattle.proof_memory.specs.Vocabulary.{climbed_node, first_of, line_action}
use Rattle.machine_model.specs.declared.actions.Action.TheVariants as act
use Rattle.machine_model.specs.declared.reading.SwapLine.TheVariants as swap
use Rattle.machine_model.specs.declared.building.BuildLine.TheVariants as build
use Rattle.machine_model.specs.declared.repairs.RenewLine.TheVariants as renew
use Rattle.machine_model.specs.declared.repairs.CleanLine.TheVariants as clean
use Rattle.machine_model.specs.declared.repairs.ClimbLine.TheVariants as climb
use Rattle.machine_model.specs.declared.copying.CopyLine.TheVariants as copy
use Rattle.machine_model.specs.declared.walking.WalkLine.TheVariants as walk
use Rattle.machine_model.specs.declared.lines.Line.TheVariants as line
use Rattle.proof_memory.specs.Wants.{Wanted, AnIndirection, AMain, ABranch, AnEntry, ASingle, WithFlag, meets, is_formed, Is, Each, Holds, is, so, AllHold, action_wants}
use Rattle.proof_memory.specs.Wants.{line_wants, build_wants, swap_wants, swap_line_wants, purpose_wants, renew_wants, clean_wants, climb_wants, copy_wants, walk_wants}
use Rattle.proof_memory.proofs.Claims.Uses.{Meets, safe_of, meets_of, all_of, fact_of, entry_of, as_meets, first_hold}
use Rattle.proof_memory.proofs.Claims.Nodes.{Heaped, branch_entries, single_entry, entry_met}
use Rattle.proof_memory.proofs.Lines.Read.{read_acts, complete_acts, root_acts}
use Rattle.proof_memory.proofs.Lines.Shared.{position_within, none_each, first_safe}
use Rattle.proof_memory.proofs.Lines.Key.{key_acts}
use Rattle.proof_memory.specs.Beneath.nodes.proofs.Indices.{index_below}
use Rattle.proof_memory.proofs.Claims.Made.{changed_made, pair_made, rung_made, renewed_made, contracted_made, alone}
use Rattle.proof_memory.proofs.Claims.Named.{main_claim, past_place, done_claim, left_claim, past_done, single_claim, past_climb, third_claim, past_third}

-- the entry of a flag that a branch has lies within
placed : (i : ℕ) (node : Node) → is_formed node ≡ true → meets (WithFlag (2 ^ i)) node ≡ true → position_of (2 ^ i) (bitmap_of node) < length (entries_of node)
placed i (Branch bitmap entries) formed f =
    let (small, ones) = and_parts _ (nat_le (count_ones bitmap) (length entries.items)) formed in
    ltb-true (position_of (2 ^ i) bitmap) (length entries.items) (position_within bitmap i (length entries.items) f ones)
placed i node formed f = absurd (false≢true f)

module _ (state : State) (operation : Operation) (S : Ref → Type 0) (H : Heaped S state.heap) where
  abbrev Acts : Line → Type 0
  Acts l = AllHold S state.heap (action_wants (line_action state operation l))

  abbrev At : Ref → Wanted → Type 0
  At r wanted = Holds S state.heap (Is r wanted)

  -- looking at what is safe
  looks : (r : Ref) → S r → AllHold S state.heap (action_wants (act.Look r))
  looks r s = (is s refl, tt)

  build_acts : (l : BuildLine) → AllHold S state.heap (build_wants state.limits.hash operation.call l) → Acts (line.Build l)
  build_acts (build.Single path main s former) h = (so refl, tt)
  build_acts (build.Pair path main position single depth) h =
      pair_made S state.heap state.limits.hash depth (old_hash state main position) (hash_in state operation) (entry_at state.heap main position) single
      (entry_of (past_place h).0) (as_meets (past_place h).1.0)
  build_acts (build.Link path main position below depth) h = (so refl, ((past_place h).0, tt))
  build_acts (build.Rung path main position below depth) h = rung_made S state.heap (hash_in state operation) depth below (as_meets (past_place h).0)
  build_acts (build.Main path main c former) h =
      changed_made S state.heap (index_in (hash_in state operation) (depth_of path)) (index_below (hash_in state operation) (depth_of path)) main former (node_at state.heap main) c refl
      (meets_of (main_claim h)) (H.formed main (safe_of (main_claim h))) (H.inside main (safe_of (main_claim h))) (past_place h)

  renew_acts : (l : RenewLine) → AllHold S state.heap (renew_wants l) → Acts (line.Renew l)
  renew_acts (renew.Entry path main done) h = looks (next_entry state main done) (entry_met S state.heap H (main_claim h) (left_claim h)).0
  renew_acts (renew.Read path main done r) h = read_acts S state.heap r.indirection r.line (past_done h)
  renew_acts (renew.Link path main done child) h = (so refl, ((past_done h).0, tt))
  renew_acts (renew.Branch path main done) h =
      renewed_made S state.heap (node_at state.heap main) done (meets_of (main_claim h)) (H.formed main (safe_of (main_claim h))) (leb-true _ _ (meets_of (left_claim h))) (all_of (done_claim h))

  -- one single alone, where that is tested
  single_left : (done : List Ref) (single : Ref) → leaves_single state done ≡ true → Holds S state.heap (Each done AnEntry) → done ≡ single ∷ [] → At single ASingle
  single_left done single t d e =
      is ((All-head (Meets S state.heap AnEntry) single [] (all_of (subst (λ es. Holds S state.heap (Each es AnEntry)) e d))).0) (subst (λ es. leaves_single state es ≡ true) e t)

  clean_acts : (l : CleanLine) → AllHold S state.heap (clean_wants l) → Acts (line.Clean l)
  clean_acts (clean.Read path r) h = read_acts S state.heap r.indirection r.line h.1.1
  clean_acts (clean.Main path main) h = looks main (safe_of (main_claim h))
  clean_acts (clean.Entry path main done) h = looks (next_entry state main done) (entry_met S state.heap H (main_claim h) (left_claim h)).0
  clean_acts (clean.Child path main done r) h = read_acts S state.heap r.indirection r.line (past_done h)
  clean_acts (clean.Tomb path main done child) h = looks child (safe_of (past_done h).0)
  clean_acts (clean.Contracted path main done) h =
      contracted_made S state.heap (is_below_root path && leaves_single state done) (bitmap_of (node_at state.heap main)) done
      (λ may single e. single_left done single (and_parts (is_below_root path) (leaves_single state done) may).1 (done_claim h) e)
      (renewed_made S state.heap (node_at state.heap main) done (meets_of (main_claim h)) (H.formed main (safe_of (main_claim h))) (leb-true _ _ (meets_of (left_claim h))) (all_of (done_claim h)))

  contracted_acts : (c : Climb) (main : Ref) → At c.single ASingle → At main ABranch → At main (WithFlag (flag_in state operation (above c.path))) →
      AllHold S state.heap (action_wants (act.Make (climbed_node state operation c main)))
  contracted_acts c main s m f =
      let entries = entries_of (node_at state.heap main) in
      let place = place_in state operation c main in
      let within = placed (index_in (hash_in state operation) (depth_of (above c.path))) (node_at state.heap main) (H.formed main (safe_of m)) (meets_of f) in
      contracted_made S state.heap (is_below_root (above c.path)) (bitmap_of (node_at state.heap main)) (set entries place c.single)
      (λ may single e. subst (λ r. At r ASingle) (sym (alone entries place single c.single within e)) s)
      (renewed_made S state.heap (node_at state.heap main) (set entries place c.single) (meets_of m) (H.formed main (safe_of m)) (omega (arith, length-set entries place c.single))
      (All-set (Meets S state.heap AnEntry) entries place c.single (safe_of s, single_entry (node_at state.heap c.single) (meets_of s)) (branch_entries S state.heap H m)))

  climb_acts : (l : ClimbLine) → AllHold S state.heap (climb_wants state.limits.hash operation.call l) → Acts (line.Climb l)
  climb_acts (climb.Read c r) h = read_acts S state.heap r.indirection r.line (past_climb h)
  climb_acts (climb.Main c main) h = looks main (safe_of (past_climb h).0)
  climb_acts (climb.Contracted c main) h = contracted_acts c main (single_claim h) (past_climb h).0 (past_climb h).1.0
  climb_acts (climb.Root c l) h = root_acts S state.heap l (past_climb h)

  copy_acts : (l : CopyLine) → AllHold S state.heap (copy_wants l) → Acts (line.Copy l)
  copy_acts (copy.Read r l) h = read_acts S state.heap l.indirection l.line h.1
  copy_acts (copy.Successor r main) h = (h.1.0, tt)
  copy_acts (copy.Second r main successor) h = (h.1.0, tt)
  copy_acts (copy.Empty r main) h = (so (le-leb (count_ones 0) 0 (ones_le_self 0)), (none_each S state.heap, tt))
  copy_acts (copy.Cleared r main branch) h = (third_claim h, tt)
  copy_acts (copy.Offer offer) h = h
  copy_acts (copy.Complete c) h = complete_acts S state.heap c.offer c.line h

  walk_acts : (l : WalkLine) → AllHold S state.heap (walk_wants l) → Acts (line.Walk l)
  walk_acts walk.Root h = tt
  walk_acts (walk.Read r todo pairs) h = read_acts S state.heap r.indirection r.line h.1
  walk_acts (walk.Main main todo pairs) h = looks main (safe_of h.1.0)
  walk_acts (walk.Entry todo pairs) h = looks (first_of todo) (first_safe S state.heap todo h.0 (fact_of h.1.0))

  swap_acts : (s : Swap) (l : SwapLine) → At s.indirection AnIndirection → At s.replaced AMain → At s.fresh AMain → AllHold S state.heap (swap_line_wants s.indirection l) →
      AllHold S state.heap (action_wants (action_at s.indirection s.replaced s.fresh l))
  swap_acts s swap.Publish i r f h = (i, (r, (f, tt)))
  swap_acts s (swap.Deciding l) i r f h = read_acts S state.heap s.indirection l h
  swap_acts s swap.Check i r f h = (f, tt)

  pub line_acts : (l : Line) → AllHold S state.heap (line_wants state.limits.hash operation.call operation.access l) → Acts l
  line_acts (line.Root l) h = root_acts S state.heap l h
  line_acts (line.Key l) h = key_acts state operation S H l h
  line_acts (line.Build l) h = build_acts l h
  line_acts (line.Swap why s) h =
      let its = first_hold S state.heap (swap_wants s) (purpose_wants why) h in
      swap_acts s s.line its.0 its.1.0 (third_claim its) (past_third its)
  line_acts (line.Renew l) h = renew_acts l h
  line_acts (line.Clean l) h = clean_acts l h
  line_acts (line.Climb l) h = climb_acts l h
  line_acts (line.Copy l) h = copy_acts l h
  line_acts (line.Walk l) h = walk_acts l h
  line_acts (line.End answer) h = tt
  line_acts line.Impossible h = tt
