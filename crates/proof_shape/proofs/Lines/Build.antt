-- A step of BUILD hands on what its line knows, with the node that it made.
use Rattle.std.proofs.Common.{◌≡◌, ℕ, ◌<◌, ◌≤◌, nat_lt, Bool, true, false, List, length, slice_index_or, Option, Some, None, inl, refl, sym, ◌∙◌, ap, subst, arith, ltb-true, ltb-false}
use Rattle.std.specs.Prelude.{All}
use Rattle.std.proofs.lemmas.List.{get_or_past}
use Rattle.proof_shape.specs.Vocabulary.{Ref, Node, Indirection, Single, Heap, node_at, node_of, entry_at, entries_of, next_ref, no_ref, list_depth, rung, BuildLine, Operation, Bounds, State}
use Rattle.proof_shape.specs.Vocabulary.{key_of, value_of, depth_of, flag_in, hash_in, start_of, changed, old_hash, build_action, build_after, build_if_made, build_after_made, action_of}
use Rattle.proof_shape.specs.Vocabulary.{line_action, grown, node_under, prev_word, IsRun, IsInUse, ABranch, BranchOrList, AnEntry, Holds, Is, LineLevel, Builds, stage_of, stage_of_actor, Known}
use Rattle.proof_shape.specs.Vocabulary.{KnowsBuild, KnowsLine, main_of_build, build_path}
use Rattle.proof_shape.specs.Beneath.slot_arena.specs.declared.nodes.Prev.TheVariants as over
use Rattle.proof_shape.specs.Beneath.machine_model.specs.declared.actions.Action.TheVariants as act
use Rattle.proof_shape.specs.Beneath.machine_model.specs.declared.building.BuildLine.TheVariants as build
use Rattle.proof_shape.specs.Beneath.machine_model.specs.declared.building.Site.TheVariants as site
use Rattle.proof_shape.specs.Beneath.machine_model.specs.declared.lines.Line.TheVariants as line
use Rattle.proof_shape.specs.Beneath.proof_memory.proofs.Claims.Uses.{Meets, safe_of, meets_of}
use Rattle.proof_shape.specs.Beneath.proof_memory.proofs.Claims.Nodes.{all_in, IsNoLink, main_no_link, branch_main, both_main}
use Rattle.proof_shape.specs.Beneath.proof_memory.proofs.Claims.Named.{main_claim, past_place}
use Rattle.proof_shape.specs.Beneath.proof_memory.proofs.Safety.Steps.{of_actor}
use Rattle.proof_shape.specs.Beneath.proof_memory.proofs.Levels.States.{heaped_in_use}
use Rattle.proof_shape.specs.Beneath.proof_memory.proofs.Safety.AtEachTime.{safe_at}
use Rattle.proof_shape.specs.Beneath.proof_commits.proofs.Known.Owners.{Staged}
use Rattle.proof_shape.specs.Beneath.proof_commits.proofs.Known.Sounds.{sound_at}
use Rattle.proof_shape.specs.Beneath.proof_commits.proofs.Words.Along.{protocol}
use Rattle.proof_shape.specs.Beneath.proof_contents.proofs.Lines.Key.Knows.{known, Sees}
use Rattle.proof_shape.specs.Beneath.proof_contents.proofs.Lines.Build.{IsMade, a_link, another, made_by, build_knows}
use Rattle.proof_shape.specs.Beneath.proof_memory.proofs.Lines.Next.{pair_no_link, changed_main}
use Rattle.proof_shape.specs.Beneath.proof_memory.proofs.Heap.NoRef.{nothing_stands}
use Rattle.proof_shape.specs.Lines.Knowing.{known_with, first_main}
use Rattle.proof_shape.proofs.Runs.EachAt.{GoesAt}
use Rattle.proof_shape.proofs.Runs.Nodes.{known_node, made_node, made_link, prev_still, first_is}
use Rattle.proof_shape.proofs.Runs.RunOf.{HasSites, sites_at, branch_shallow}
use Rattle.proof_shape.proofs.Runs.Seen.{sees}
use Rattle.proof_shape.proofs.Lines.Key.{same_known, claims}
use Rattle.proof_shape.specs.Beneath.proof_commits.proofs.Known.Acts.{known_run}

-- ---- nodes that are made

module _ {limits : Bounds} {states : ℕ → State} {last : ℕ} (run : IsRun limits states last) where
  -- the single at a position of a main node in use is there
  pub back_at : (t : ℕ) → t ≤ last → (main : Ref) → IsInUse (states t).heap main → (position k v : ℕ) →
      node_under states last (entry_at (states t).heap main position) ≡ Single k v → node_at (states t).heap (entry_at (states t).heap main position) ≡ Single k v
  back_at t h main used position k v is = by_place (nat_lt position (length entries)) refl
    where
      entries : List Ref
      entries = entries_of (node_at (states t).heap main)

      all : All (Meets (IsInUse (states t).heap) (states t).heap AnEntry) entries
      all = all_in (IsInUse (states t).heap) (states t).heap (node_at (states t).heap main) ((heaped_in_use (states t) (safe_at run t h)).inside main used)

      out_of_range : (es : List Ref) → length es ≤ position → slice_index_or es position no_ref ≡ no_ref
      out_of_range es le = get_or_past es position no_ref le

      by_place : (b : Bool) → nat_lt position (length entries) ≡ b → node_at (states t).heap (entry_at (states t).heap main position) ≡ Single k v
      by_place true within =
          known_node run t h (entry_at (states t).heap main position) (all position no_ref (ltb-true position (length entries) within)).0 (Single k v) is
          (λ g w bad. let wrong : Single k v ≡ Indirection g w = bad in cc)
      by_place false beyond =
          let nothing : slice_index_or entries position no_ref ≡ no_ref = out_of_range entries (ltb-false position (length entries) beyond) in
          let bad : node_of None ≡ Single k v = sym (ap node_of (ap (grown states last) nothing ∙ nothing_stands run last (omega arith))) ∙ is in
          let wrong : ⊥ = cc in absurd wrong

module _ {limits : Bounds} {states : ℕ → State} {last : ℕ} (run : IsRun limits states last) (t : ℕ) (h : t < last) (actor : ℕ) (operation : Operation)
    (go : GoesAt states run.records t actor operation) where
  abbrev heap : Heap
  heap = (states t).heap

  abbrev node : Ref → Node
  node = node_under states last

  abbrev first : Ref → Ref
  first = first_main states last

  abbrev K : Known
  K = known (states t) operation node first

  sites : HasSites (states t)
  sites = sites_at run t (omega arith)

  level_at : (l : BuildLine) → operation.line ≡ line.Build l → LineLevel sites.level (line.Build l)
  level_at l e = subst (λ x. LineLevel sites.level x) e (of_actor (states t) (λ k operation. LineLevel sites.level operation.line) (sites.levels.lines) actor operation go.runs).1

  abbrev NextOf : BuildLine → Ref → Type 0
  NextOf l made = KnowsLine K operation.call (build_after_made (states t) operation l made)

  -- what is built over a branch
  module _ (made : Ref) (next : next_ref (states t).heap ≡ Some made) where
    stands : (n : Node) → action_of (states t) operation ≡ act.Make n → IsNoLink n → node made ≡ n
    stands n a not = made_node run t h actor operation go n a made next not

    over_branch : (l : BuildLine) (e : operation.line ≡ line.Build l) (main : Ref) (path : List Ref) → Holds (IsInUse heap) heap (Is main ABranch) →
        depth_of path < list_depth (states t).limits.hash → IsMade (states t) operation node first made (made_by (states t) operation node first made l) →
        main ≡ main_of_build l → path ≡ build_path l →
        KnowsBuild K operation.call l → NextOf l made
    over_branch l e main path claim shallow is same_main same_path knows =
        build_knows (states t) operation node first made l
        (subst (λ m. Sees (states t) operation node first m) same_main (sees run t (omega arith) operation main ABranch branch_main claim))
        (subst (λ p. depth_of p < list_depth (states t).limits.hash) same_path shallow)
        (subst (λ m. (position k v : ℕ) → node (entry_at heap m position) ≡ Single k v → node_at heap (entry_at heap m position) ≡ Single k v) same_main
        (back_at run t (omega arith) main (safe_of claim))) is knows

    is_another : (n : Node) → action_of (states t) operation ≡ act.Make n → IsNoLink n → IsMade (states t) operation node first made n
    is_another n a not = another not (stands n a not)

    acts : (l : BuildLine) → operation.line ≡ line.Build l → action_of (states t) operation ≡ build_action (states t) operation l
    acts l e = ap (line_action (states t) operation) e

    new_single : (l : BuildLine) (e : operation.line ≡ line.Build l) → build_action (states t) operation l ≡ act.Make (Single (key_of operation.call) (value_of operation.call)) →
        node made ≡ Single (key_of operation.call) (value_of operation.call)
    new_single l e a =
        stands (Single (key_of operation.call) (value_of operation.call)) (acts l e ∙ a) (λ g w bad. let wrong : Single (key_of operation.call)
        (value_of operation.call) ≡ Indirection g w = bad in cc)

    -- the main node that is held is decided
    held_none : (path : List Ref) (main : Ref) (position : ℕ) (below : Ref) (depth : ℕ) → operation.line ≡ line.Build (build.Link path main position below depth) →
        prev_word states t below ≡ over.None
    held_none path main position below depth e =
        let p = protocol limits states last (known_run run) in
        let stage : p.words.stage t actor ≡ Builds below = ap stage_of_actor go.runs ∙ ap stage_of e in
        (subst (λ s. Staged p.words t actor s) stage ((sound_at p t (omega arith)).staged actor)).none

    made_step : (l : BuildLine) (e : operation.line ≡ line.Build l) → KnowsBuild K operation.call l → NextOf l made
    made_step (build.Single path main site.Absent former) e (ins, absence) = (ins, absence, new_single _ e refl)
    made_step (build.Single path main (site.At position) former) e (value, had, sets, presence) = inl (value, had, sets, presence, new_single _ e refl)
    made_step (build.Single path main (site.Beside position) former) e knows =
        let claim = (past_place (claims run t h actor operation go _ e)).0 in
        over_branch (build.Single path main (site.Beside position) former) e main path claim
        (branch_shallow (states t) sites path main (level_at _ e) (safe_of claim) (meets_of claim))
        (is_another _ (acts _ e) (λ g w bad. let wrong : Single (key_of operation.call) (value_of operation.call) ≡ Indirection g w = bad in cc)) refl refl knows
    made_step (build.Pair path main position single depth) e knows =
        let claim = main_claim (claims run t h actor operation go _ e) in
        over_branch (build.Pair path main position single depth) e main path claim
        (branch_shallow (states t) sites path main (level_at _ e).0 (safe_of claim) (meets_of claim))
        (is_another _ (acts _ e) (pair_no_link (states t).limits.hash depth (old_hash (states t) main position) (hash_in (states t) operation) (entry_at heap main position) single)) refl refl knows
    made_step (build.Link path main position below depth) e knows =
        let claim = main_claim (claims run t h actor operation go _ e) in
        let link = made_link run t h actor operation go _ (acts _ e) made next (start_of operation) below refl in
        over_branch (build.Link path main position below depth) e main path claim
        (branch_shallow (states t) sites path main (level_at _ e).0 (safe_of claim) (meets_of claim))
        (a_link (start_of operation) below link.0 refl link.1
        (first_is run t h actor operation go _ (acts _ e) made next (start_of operation) below refl
        (prev_still run t h actor operation go _ (acts _ e) made next below (held_none path main position below depth e)))) refl refl knows
    made_step (build.Rung path main position below depth) e knows =
        let claim = main_claim (claims run t h actor operation go _ e) in
        over_branch (build.Rung path main position below depth) e main path claim
        (branch_shallow (states t) sites path main (level_at _ e).0 (safe_of claim) (meets_of claim))
        (is_another _ (acts _ e) (λ g w bad. let wrong : rung (hash_in (states t) operation) depth below ≡ Indirection g w = bad in cc)) refl refl knows
    made_step (build.Main path main c former) e knows =
        let claim = main_claim (claims run t h actor operation go _ e) in
        let there = (sees run t (omega arith) operation main BranchOrList both_main claim).main_is in
        let n = changed (flag_in (states t) operation path) (node_at heap main) c in (
          c,
          knows,
          stands n (acts _ e) (main_no_link n (changed_main (flag_in (states t) operation path) (node_at heap main) c (meets_of claim)))
              ∙ ap (λ x. changed (flag_in (states t) operation path) x c) there,
        )

  if_made : (l : BuildLine) → operation.line ≡ line.Build l → KnowsBuild K operation.call l → (o : Option Ref) → next_ref heap ≡ o →
      KnowsLine K operation.call (build_if_made (states t) operation l o)
  if_made l e knows None next = tt
  if_made l e knows (Some made) next = made_step made next l e knows

  pub build_step : (l : BuildLine) → operation.line ≡ line.Build l → KnowsBuild (known_with limits states last (first_main states last)) operation.call l →
      KnowsLine (known_with limits states last (first_main states last)) operation.call (build_after (states t) operation l)
  build_step l e knows =
      let same = same_known run t h actor operation go in
      subst (λ (k : Known). KnowsLine k operation.call (build_after (states t) operation l)) same
      (if_made l e (subst (λ (k : Known). KnowsBuild k operation.call l) (sym same) knows) (next_ref heap) refl)
