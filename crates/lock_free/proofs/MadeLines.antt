-- The line that comes after a step that makes a node, by what the seat knew before it.
use Rattle.std.proofs.Common.{◌≡◌, ◌+◌, ◌-◌, ◌∷◌, ◌++◌, ℕ, Bool, List, [], Option, Some, None, refl, sym, ap, ◌∙◌, nat_lt, length, if◌then◌else◌, slice_index_or}
use Rattle.std.proofs.lemmas.Option.{none-some}
use Rattle.history.specs.declared.calls.Call.{Call}
use Rattle.history.specs.declared.calls.Call.TheVariants.{Snapshot}
use Rattle.machine_model.specs.Beneath.slot_arena.specs.declared.refs.Ref.{Ref}
use Rattle.machine_model.specs.Beneath.slot_arena.specs.declared.nodes.Node.{Node}
use Rattle.machine_model.specs.Beneath.slot_arena.specs.Heaps.{no_ref, node_at, entry_at, entries_of, next_ref}
use Rattle.machine_model.specs.declared.actions.Action.{Action}
use Rattle.machine_model.specs.declared.actions.Action.TheVariants as act
use Rattle.machine_model.specs.declared.building.BuildLine.{BuildLine}
use Rattle.machine_model.specs.declared.building.BuildLine.TheVariants as build
use Rattle.machine_model.specs.declared.building.Site.TheVariants as site
use Rattle.machine_model.specs.declared.copying.CopyLine.{CopyLine}
use Rattle.machine_model.specs.declared.copying.CopyLine.TheVariants as copy
use Rattle.machine_model.specs.declared.finding.KeyLine.TheVariants as key
use Rattle.machine_model.specs.declared.lines.Line.{Line}
use Rattle.machine_model.specs.declared.lines.Line.TheVariants as line
use Rattle.machine_model.specs.declared.operations.Operation.{Operation}
use Rattle.machine_model.specs.declared.reading.ReadLine.{ReadLine}
use Rattle.machine_model.specs.declared.reading.ReadLine.TheVariants as read
use Rattle.machine_model.specs.declared.reading.SwapLine.{SwapLine}
use Rattle.machine_model.specs.declared.reading.SwapLine.TheVariants as swap
use Rattle.machine_model.specs.declared.repairs.CleanLine.TheVariants as clean
use Rattle.machine_model.specs.declared.repairs.ClimbLine.TheVariants as climb
use Rattle.machine_model.specs.declared.repairs.RenewLine.TheVariants as renew
use Rattle.machine_model.specs.declared.roots.CompleteLine.{CompleteLine}
use Rattle.machine_model.specs.declared.roots.CompleteLine.TheVariants as complete
use Rattle.machine_model.specs.declared.roots.Descriptor.{Descriptor}
use Rattle.machine_model.specs.declared.roots.RootLine.{RootLine}
use Rattle.machine_model.specs.declared.roots.RootLine.TheVariants as root
use Rattle.machine_model.specs.declared.walking.WalkLine.TheVariants as walk
use Rattle.machine_model.specs.Acting.{operation_after, with_made, private_after, attempt_after, mark_after}
use Rattle.machine_model.specs.Beneath.ctrie_base.specs.Hashes.{hash_of}
use Rattle.machine_model.specs.Building.{key_in, pair_depth, old_hash, build_after_made, build_if_made}
use Rattle.machine_model.specs.Calls.{key_of}
use Rattle.machine_model.specs.Cleaning.{clean_after_contracted}
use Rattle.machine_model.specs.Climbing.{climb_after_contracted}
use Rattle.machine_model.specs.Copying.{after_successor, copy_action, copy_after, copy_if_made, copy_after_made}
use Rattle.machine_model.specs.Operations.{action_of, line_action, line_after, generation_from}
use Rattle.machine_model.specs.Paths.{depth_of, hash_in}
use Rattle.machine_model.specs.Reading.{read_action}
use Rattle.machine_model.specs.Renewing.{renew_after_link, renew_after_branch, renew_next}
use Rattle.machine_model.specs.States.{State}
use Rattle.machine_model.specs.Swapping.{action_at, complete_action_at, root_action}
use Rattle.nodes.specs.Levels.{list_depth, parting}
use Rattle.proof_memory.specs.Making.{made_node}
use Rattle.proof_memory.specs.Wants.{AllHold, Holds, Is, EntryIs, ABranch, ASingle, entry_is, line_wants, build_wants}
use Rattle.lock_free.specs.Becoming.{line_made, made_on}

-- ---- lines that make nothing

module _ (state : State) where
  pub read_none : (i : Ref) (l : ReadLine) → made_node state (read_action i l) ≡ None
  read_none i read.Main = refl
  read_none i (read.Prev main) = refl
  read_none i (read.AskRoot main previous) = refl
  read_none i (read.Abort main previous offer) = refl
  read_none i (read.Decide main previous told) = refl
  read_none i (read.Restore main previous) = refl

  pub complete_none : (offer : Descriptor) (l : CompleteLine) → made_node state (complete_action_at offer l) ≡ None
  complete_none offer (complete.Reading l) = read_none offer.root l
  complete_none offer (complete.Swap main) = refl

  pub root_none : (l : RootLine) → made_node state (root_action l) ≡ None
  root_none root.Read = refl
  root_none (root.Completing c) = complete_none c.offer c.line

  pub swap_none : (i a f : Ref) (l : SwapLine) → made_node state (action_at i a f l) ≡ None
  swap_none i a f swap.Publish = refl
  swap_none i a f (swap.Deciding l) = read_none i l
  swap_none i a f swap.Check = refl

  -- what else the step leaves
  pub parts_then : (action : Action) (node : Node) → made_node state action ≡ Some node → (private : List Ref) (attempt : ℕ) (mark : Bool) →
      (private_after state private action ≡ with_made private (next_ref state.heap)) × (attempt_after attempt action ≡ attempt) × (mark_after mark action ≡ mark)
  parts_then (act.Make made) node is private attempt mark = (refl, refl, refl)
  parts_then (act.MakeRoot main) node is private attempt mark = (refl, refl, refl)
  parts_then action node is private attempt mark = absurd (none-some node is)

  pub generation_then : (o : Operation) (l : Line) (node : Node) → made_node state (line_action state o l) ≡ Some node → generation_from state o l ≡ o.generation
  generation_then o (line.Root l) node is = absurd (none-some node (sym (root_none l) ∙ is))
  generation_then o l node is = refl

-- ---- lines that make a node

-- Between the two states a main node stayed, and the keys of singles too, so far as the line goes by them.
pub record Stay (before after : State) (S : Ref → Type 0) : Type 0 where
  pub hash : after.limits.hash ≡ before.limits.hash
  pub mains : (r : Ref) → Holds S before.heap (Is r ABranch) → node_at after.heap r ≡ node_at before.heap r
  pub keys : (r : Ref) → S r → key_in (node_at after.heap r) ≡ key_in (node_at before.heap r)

module _ (before after : State) (S : Ref → Type 0) (stay : Stay before after S) (o : Operation) (mark : Bool) (made : Ref) where
  abbrev its : Operation
  its = record o { is_marked = mark }

  hash_in_is : hash_in after its ≡ hash_in before o
  hash_in_is = ap (λ kind. hash_of kind (key_of o.call)) stay.hash

  old_hash_is : (main : Ref) (position : ℕ) → Holds S before.heap (Is main ABranch) → Holds S before.heap (EntryIs main position ASingle) → old_hash after main position ≡ old_hash before main position
  old_hash_is main position branch (entry_is s within e single) =
      ap (λ node. hash_of after.limits.hash (key_in (node_at after.heap (slice_index_or (entries_of node) position no_ref)))) (stay.mains main branch)
      ∙ ap (λ kind. hash_of kind (key_in (node_at after.heap (entry_at before.heap main position)))) stay.hash
      ∙ ap (hash_of before.limits.hash) (stay.keys (entry_at before.heap main position) e)

  depth_is : (main : Ref) (position : ℕ) (path : List Ref) → Holds S before.heap (Is main ABranch) → Holds S before.heap (EntryIs main position ASingle) →
      pair_depth after (old_hash after main position) (hash_in after its) (depth_of path) ≡ pair_depth before (old_hash before main position) (hash_in before o) (depth_of path)
  depth_is main position path branch single =
      ap (λ n. pair_depth after n (hash_in after its) (depth_of path)) (old_hash_is main position branch single)
      ∙ ap (λ n. pair_depth after (old_hash before main position) n (depth_of path)) hash_in_is
      ∙ ap (λ kind. parting (list_depth kind - (depth_of path + 1)) (old_hash before main position) (hash_in before o) (depth_of path + 1)) stay.hash

  built : (l : BuildLine) → AllHold S before.heap (build_wants before.limits.hash o.call l) → build_after_made after its l made ≡ build_after_made before o l made
  built (build.Single path main site.Absent former) h = refl
  built (build.Single path main (site.At position) former) h = refl
  built (build.Single path main (site.Beside position) former) h = ap (λ d. line.Build (build.Pair path main position made d)) (depth_is main position path h.1.1.1.0 h.1.1.1.1.0)
  built (build.Pair path main position single depth) h = refl
  built (build.Link path main position below depth) h = refl
  built (build.Rung path main position below depth) h = refl
  built (build.Main path main c former) h = refl

  renewed_next : (path : List Ref) (main : Ref) (done : List Ref) → Holds S before.heap (Is main ABranch) → renew_next after path main done ≡ renew_next before path main done
  renewed_next path main done branch =
      ap (λ node. if nat_lt (length done) (length (entries_of node)) then line.Renew (renew.Entry path main done) else line.Renew (renew.Branch path main done)) (stay.mains main branch)

  succeeds : (call : Call) (r main : Ref) → after_successor its call r main made ≡ after_successor o call r main made
  succeeds (Snapshot h) r main = refl
  succeeds call r main = refl

  copied : (l : CopyLine) → copy_after_made its l made ≡ copy_after_made o l made
  copied (copy.Successor r main) = succeeds o.call r main
  copied (copy.Second r main successor) = refl
  copied (copy.Empty r main) = refl
  copied (copy.Cleared r main branch) = refl
  copied l = refl

  module _ (next : next_ref after.heap ≡ Some made) (node : Node) where
    copied_then : (l : CopyLine) → made_node after (copy_action l) ≡ Some node → copy_after after its l ≡ copy_if_made o l (Some made)
    copied_then (copy.Read r l) is = absurd (none-some node (sym (read_none after l.indirection l.line) ∙ is))
    copied_then (copy.Offer offer) is = absurd (none-some node is)
    copied_then (copy.Complete c) is = absurd (none-some node (sym (complete_none after c.offer c.line) ∙ is))
    copied_then (copy.Successor r main) is = ap (copy_if_made its (copy.Successor r main)) next ∙ copied (copy.Successor r main)
    copied_then (copy.Second r main successor) is = ap (copy_if_made its (copy.Second r main successor)) next
    copied_then (copy.Empty r main) is = ap (copy_if_made its (copy.Empty r main)) next
    copied_then (copy.Cleared r main branch) is = ap (copy_if_made its (copy.Cleared r main branch)) next

    pub made_line : (l : Line) → AllHold S before.heap (line_wants before.limits.hash o.call o.access l) → made_node after (line_action after its l) ≡ Some node → line_after after its
        l ≡ line_made before
        o l made
    made_line (line.Build l) h is = ap (build_if_made after its l) next ∙ built l h
    made_line (line.Renew (renew.Link path main done child)) h is = ap (renew_after_link after path main done) next ∙ renewed_next path main (done ++ made ∷ []) h.1.1.0
    made_line (line.Renew (renew.Branch path main done)) h is = ap (renew_after_branch path main) next
    made_line (line.Renew (renew.Entry path main done)) h is = absurd (none-some node is)
    made_line (line.Renew (renew.Read path main done r)) h is = absurd (none-some node (sym (read_none after r.indirection r.line) ∙ is))
    made_line (line.Clean (clean.Contracted path main done)) h is = ap (clean_after_contracted path main) next
    made_line (line.Clean (clean.Read path r)) h is = absurd (none-some node (sym (read_none after r.indirection r.line) ∙ is))
    made_line (line.Clean (clean.Child path main done r)) h is = absurd (none-some node (sym (read_none after r.indirection r.line) ∙ is))
    made_line (line.Clean l) h is = absurd (none-some node is)
    made_line (line.Climb (climb.Contracted c main)) h is = ap (climb_after_contracted its c main) next
    made_line (line.Climb (climb.Read c r)) h is = absurd (none-some node (sym (read_none after r.indirection r.line) ∙ is))
    made_line (line.Climb (climb.Main c main)) h is = absurd (none-some node is)
    made_line (line.Climb (climb.Root c l)) h is = absurd (none-some node (sym (root_none after l) ∙ is))
    made_line (line.Copy l) h is = copied_then l is
    made_line (line.Root l) h is = absurd (none-some node (sym (root_none after l) ∙ is))
    made_line (line.Key (key.Read path r)) h is = absurd (none-some node (sym (read_none after r.indirection r.line) ∙ is))
    made_line (line.Key l) h is = absurd (none-some node is)
    made_line (line.Swap why s) h is = absurd (none-some node (sym (swap_none after s.indirection s.replaced s.fresh s.line) ∙ is))
    made_line (line.Walk (walk.Read r todo pairs)) h is = absurd (none-some node (sym (read_none after r.indirection r.line) ∙ is))
    made_line (line.Walk l) h is = absurd (none-some node is)
    made_line (line.End answer) h is = absurd (none-some node is)
    made_line line.Impossible h is = absurd (none-some node is)

    -- the whole operation
    parts : List Ref → ℕ → Bool → Option ℕ → Line → Operation
    parts p a m g l = record o { private = p; attempt = a; is_marked = m; generation = g; line = l }

    pub made_step : AllHold S before.heap (line_wants before.limits.hash o.call o.access o.line) → made_node after (action_of after its) ≡ Some node → operation_after after its ≡ record
        (made_on before made o) { is_marked = mark }
    unfolding parts
    made_step h is =
        let left = parts_then after (action_of after its) node is o.private o.attempt mark in
        ap (λ p. parts p (attempt_after o.attempt (action_of after its)) (mark_after mark (action_of after its)) (generation_from after its o.line) (line_after after its o.line))
        (left.0 ∙ ap (with_made o.private) next)
        ∙ ap (λ a. parts (o.private ++ made ∷ []) a (mark_after mark (action_of after its)) (generation_from after its o.line) (line_after after its o.line)) left.1
        ∙ ap (λ m. parts (o.private ++ made ∷ []) o.attempt m (generation_from after its o.line) (line_after after its o.line)) left.2
        ∙ ap (λ g. parts (o.private ++ made ∷ []) o.attempt mark g (line_after after its o.line)) (generation_then after its o.line node is)
        ∙ ap (λ l. parts (o.private ++ made ∷ []) o.attempt mark o.generation l) (made_line o.line h is)
