-- The nodes that a change of one key makes, the SWAP of the last one or of a repair's, and what comes of it.
use Rattle.std.specs.Prelude.{◌≡◌, ◌+◌, ◌-◌, ◌==◌, ℕ, Bool, true, false, List, Option, Some, None}
use Rattle.history.specs.declared.replies.Reply.TheVariants as reply
use Rattle.machine_model.specs.Beneath.slot_arena.specs.declared.refs.Ref.{Ref}
use Rattle.machine_model.specs.Beneath.slot_arena.specs.declared.nodes.Node.{Node}
use Rattle.machine_model.specs.Beneath.slot_arena.specs.declared.nodes.Node.TheVariants.{Tomb}
use Rattle.machine_model.specs.Beneath.slot_arena.specs.declared.nodes.Prev.TheVariants as prev
use Rattle.machine_model.specs.Beneath.slot_arena.specs.Heaps.{node_at, prev_at, main_at, next_ref}
use Rattle.machine_model.specs.declared.operations.Operation.{Operation}
use Rattle.machine_model.specs.declared.building.Site.TheVariants as site
use Rattle.machine_model.specs.declared.building.Change.{Change}
use Rattle.machine_model.specs.declared.building.Change.TheVariants as change
use Rattle.machine_model.specs.declared.building.BuildLine.{BuildLine}
use Rattle.machine_model.specs.declared.building.BuildLine.TheVariants as build
use Rattle.machine_model.specs.declared.finding.KeyLine.TheVariants as key
use Rattle.machine_model.specs.declared.lines.Line.{Line}
use Rattle.machine_model.specs.declared.lines.Line.TheVariants as line
use Rattle.machine_model.specs.declared.lines.Purpose.{Purpose}
use Rattle.machine_model.specs.declared.lines.Purpose.TheVariants as purpose
use Rattle.machine_model.specs.declared.reading.After.TheVariants.{Goes, Gives}
use Rattle.machine_model.specs.declared.reading.ReadLine.{ReadLine}
use Rattle.machine_model.specs.declared.reading.ReadLine.TheVariants as read
use Rattle.machine_model.specs.declared.reading.Swap.{Swap}
use Rattle.machine_model.specs.declared.reading.SwapLine.{SwapLine}
use Rattle.machine_model.specs.declared.reading.SwapLine.TheVariants as swap
use Rattle.machine_model.specs.declared.repairs.Climb.{Climb}
use Rattle.machine_model.specs.declared.repairs.ClimbLine.TheVariants as climb
use Rattle.machine_model.specs.declared.roots.RootLine.TheVariants as root
use Rattle.machine_model.specs.Calls.{handle_of}
use Rattle.machine_model.specs.States.{State, word_at}
use Rattle.machine_model.specs.Lines.{new_try}
use Rattle.machine_model.specs.Paths.{current, depth_of, hash_in}
use Rattle.machine_model.specs.Reading.{read_after, reading}
use Rattle.machine_model.specs.Swapping.{swapping}
use Rattle.machine_model.specs.Building.{old_hash, pair_depth}
use Rattle.machine_model.specs.Climbing.{climbed, higher}
use Rattle.machine_model.specs.Edges.Repairs.{ClimbingEdge}

pub data BuildEdge (state : State) (operation : Operation) : BuildLine → Line → Type 0 where
  no_slot : (l : BuildLine) → next_ref state.heap ≡ None → BuildEdge state operation l (line.End reply.NoSlots)
  single_absent : (path : List Ref) (main : Ref) (former : Option ℕ) (made : Ref) → next_ref state.heap ≡ Some made →
      BuildEdge state operation (build.Single path main site.Absent former) (line.Build (build.Main path main (change.Insert made) former))
  single_at : (path : List Ref) (main : Ref) (former : Option ℕ) (position : ℕ) (made : Ref) → next_ref state.heap ≡ Some made →
      BuildEdge state operation (build.Single path main (site.At position) former) (line.Build (build.Main path main (change.Update position made) former))
  single_beside : (path : List Ref) (main : Ref) (former : Option ℕ) (position : ℕ) (made : Ref) → next_ref state.heap ≡ Some made →
      BuildEdge state operation (build.Single path main (site.Beside position) former)
      (line.Build (build.Pair path main position made (pair_depth state (old_hash state main position) (hash_in state operation) (depth_of path))))
  pair_made : (path : List Ref) (main : Ref) (position : ℕ) (single : Ref) (depth : ℕ) (made : Ref) → next_ref state.heap ≡ Some made →
      BuildEdge state operation (build.Pair path main position single depth) (line.Build (build.Link path main position made depth))
  link_top : (path : List Ref) (main : Ref) (position : ℕ) (below : Ref) (depth : ℕ) (made : Ref) → next_ref state.heap ≡ Some made → (depth == depth_of path + 1) ≡ true →
      BuildEdge state operation (build.Link path main position below depth) (line.Build (build.Main path main (change.Update position made) None))
  link_below : (path : List Ref) (main : Ref) (position : ℕ) (below : Ref) (depth : ℕ) (made : Ref) → next_ref state.heap ≡ Some made → (depth == depth_of path + 1) ≡ false →
      BuildEdge state operation (build.Link path main position below depth) (line.Build (build.Rung path main position made (depth - 1)))
  rung_made : (path : List Ref) (main : Ref) (position : ℕ) (below : Ref) (depth : ℕ) (made : Ref) → next_ref state.heap ≡ Some made →
      BuildEdge state operation (build.Rung path main position below depth) (line.Build (build.Link path main position made depth))
  main_made : (path : List Ref) (main : Ref) (c : Change) (former : Option ℕ) (made : Ref) → next_ref state.heap ≡ Some made →
      BuildEdge state operation (build.Main path main c former) (line.Swap (purpose.Update path former) (swapping (current path) main made))

-- what comes of the SWAP of this node, by what it was made for and whether it succeeded
pub data SwappedEdge (operation : Operation) (node : Node) : Purpose → Bool → Line → Type 0 where
  entombed : (path : List Ref) (former : Option ℕ) (single : Ref) (next : Line) → node ≡ Tomb single →
      ClimbingEdge operation (record { path = path; single = single; former = former }) next → SwappedEdge operation node (purpose.Update path former) true next
  changed : (path : List Ref) (former : Option ℕ) → SwappedEdge operation node (purpose.Update path former) true (climbed operation former)
  update_lost : (path : List Ref) (former : Option ℕ) → SwappedEdge operation node (purpose.Update path former) false new_try
  renewed : (path : List Ref) → SwappedEdge operation node (purpose.Renew path) true (line.Key (key.Read path (reading (current path))))
  renewal_lost : (path : List Ref) → SwappedEdge operation node (purpose.Renew path) false new_try
  is_cleaned : (done : Bool) → SwappedEdge operation node purpose.Clean done new_try
  climbs_on : (c : Climb) (single : Ref) (next : Line) → node ≡ Tomb single → ClimbingEdge operation (higher c c.single) next →
      SwappedEdge operation node (purpose.Climb c) true next
  contracted : (c : Climb) → SwappedEdge operation node (purpose.Climb c) true (climbed operation c.former)
  climb_lost : (c : Climb) → SwappedEdge operation node (purpose.Climb c) false (line.Climb (climb.Root c root.Read))

-- a SWAP's ways are those of its line
pub data SwapEdge (state : State) (operation : Operation) (why : Purpose) (s : Swap) : SwapLine → Line → Type 0 where
  publishes : (main_at state.heap s.indirection == s.replaced) ≡ true →
      SwapEdge state operation why s swap.Publish (line.Swap why (record s { line = swap.Deciding (read.Prev s.fresh) }))
  comes_late : (next : Line) → (main_at state.heap s.indirection == s.replaced) ≡ false → SwappedEdge operation (node_at state.heap s.fresh) why false next →
      SwapEdge state operation why s swap.Publish next
  decides_on : (l next : ReadLine) → read_after state.heap operation.access (word_at state (handle_of operation.call)) s.indirection l ≡ Goes next →
      SwapEdge state operation why s (swap.Deciding l) (line.Swap why (record s { line = swap.Deciding next }))
  decided : (l : ReadLine) (main : Ref) → read_after state.heap operation.access (word_at state (handle_of operation.call)) s.indirection l ≡ Gives main →
      SwapEdge state operation why s (swap.Deciding l) (line.Swap why (record s { line = swap.Check }))
  succeeds : (next : Line) → prev_at state.heap s.fresh ≡ prev.None → SwappedEdge operation (node_at state.heap s.fresh) why true next →
      SwapEdge state operation why s swap.Check next
  is_undecided : (previous : Ref) (next : Line) → prev_at state.heap s.fresh ≡ prev.Pending previous → SwappedEdge operation (node_at state.heap s.fresh) why false next →
      SwapEdge state operation why s swap.Check next
  fails : (previous : Ref) (next : Line) → prev_at state.heap s.fresh ≡ prev.Failed previous → SwappedEdge operation (node_at state.heap s.fresh) why false next →
      SwapEdge state operation why s swap.Check next
