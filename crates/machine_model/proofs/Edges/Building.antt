-- A step that makes a node of a change, or one of a SWAP, is one of its ways.
use Rattle.std.proofs.Common.{◌≡◌, ◌+◌, ◌==◌, ℕ, Bool, true, false, List, Option, Some, None, refl}
use Rattle.std.proofs.lemmas.Bool.{cond_both}
use Rattle.machine_model.specs.Beneath.slot_arena.specs.declared.refs.Ref.{Ref}
use Rattle.machine_model.specs.Beneath.slot_arena.specs.declared.nodes.Node.{Node}
use Rattle.machine_model.specs.Beneath.slot_arena.specs.declared.nodes.Node.TheVariants.{Tomb}
use Rattle.machine_model.specs.Beneath.slot_arena.specs.declared.nodes.Prev.{Prev}
use Rattle.machine_model.specs.Beneath.slot_arena.specs.declared.nodes.Prev.TheVariants as prev
use Rattle.machine_model.specs.Beneath.slot_arena.specs.Heaps.{node_at, prev_at, main_at, next_ref}
use Rattle.machine_model.specs.declared.operations.Operation.{Operation}
use Rattle.machine_model.specs.declared.building.Site.TheVariants as site
use Rattle.machine_model.specs.declared.building.BuildLine.{BuildLine}
use Rattle.machine_model.specs.declared.building.BuildLine.TheVariants as build
use Rattle.machine_model.specs.declared.lines.Line.{Line}
use Rattle.machine_model.specs.declared.lines.Purpose.{Purpose}
use Rattle.machine_model.specs.declared.lines.Purpose.TheVariants as purpose
use Rattle.machine_model.specs.declared.reading.After.{After}
use Rattle.machine_model.specs.declared.reading.After.TheVariants.{Goes, Gives}
use Rattle.machine_model.specs.declared.reading.ReadLine.{ReadLine}
use Rattle.machine_model.specs.declared.reading.Swap.{Swap}
use Rattle.machine_model.specs.declared.reading.SwapLine.{SwapLine}
use Rattle.machine_model.specs.declared.reading.SwapLine.TheVariants as swap
use Rattle.machine_model.specs.declared.repairs.Climb.{Climb}
use Rattle.machine_model.specs.Calls.{handle_of}
use Rattle.machine_model.specs.States.{State, word_at}
use Rattle.machine_model.specs.Paths.{depth_of}
use Rattle.machine_model.specs.Reading.{read_after}
use Rattle.machine_model.specs.Swapping.{after_publish, after_deciding, after_check, on_line}
use Rattle.machine_model.specs.Swapping.{after_swap as swap_line_after}
use Rattle.machine_model.specs.Building.{build_after, build_after_made, build_if_made}
use Rattle.machine_model.specs.Operations.{after_swap, after_update, climbed_on, swapped}
use Rattle.machine_model.specs.Edges.Building.{BuildEdge, no_slot, single_absent, single_at, single_beside, pair_made, link_top, link_below, rung_made, main_made, SwappedEdge, entombed, changed}
use Rattle.machine_model.specs.Edges.Building.{update_lost, renewed, renewal_lost, is_cleaned, climbs_on, contracted, climb_lost, SwapEdge, publishes, comes_late, decides_on, decided, succeeds}
use Rattle.machine_model.specs.Edges.Building.{is_undecided, fails}
use Rattle.machine_model.proofs.Edges.Repairs.{climbing_edge}

module _ (state : State) (operation : Operation) where
  made_edge : (l : BuildLine) (made : Ref) → next_ref state.heap ≡ Some made → BuildEdge state operation l (build_after_made state operation l made)
  made_edge (build.Single path main site.Absent former) made e = single_absent path main former made e
  made_edge (build.Single path main (site.At position) former) made e = single_at path main former position made e
  made_edge (build.Single path main (site.Beside position) former) made e = single_beside path main former position made e
  made_edge (build.Pair path main position single depth) made e = pair_made path main position single depth made e
  made_edge (build.Link path main position below depth) made e =
      cond_both (depth == depth_of path + 1) _ _ (BuildEdge state operation (build.Link path main position below depth)) (link_top path main position below depth made e)
      (link_below path main position below depth made e)
  made_edge (build.Rung path main position below depth) made e = rung_made path main position below depth made e
  made_edge (build.Main path main c former) made e = main_made path main c former made e

  if_made_edge : (l : BuildLine) (o : Option Ref) → next_ref state.heap ≡ o → BuildEdge state operation l (build_if_made state operation l o)
  if_made_edge l None e = no_slot l e
  if_made_edge l (Some made) e = made_edge l made e

  pub build_edge : (l : BuildLine) → BuildEdge state operation l (build_after state operation l)
  build_edge l = if_made_edge l _ refl

  -- ---- what comes of a SWAP

  updated_edge : (path : List Ref) (former : Option ℕ) (node n : Node) → node ≡ n → SwappedEdge operation node (purpose.Update path former) true (after_update operation path former n)
  updated_edge path former node (Tomb single) e = entombed path former single _ e (climbing_edge operation _)
  updated_edge path former node n e = changed path former

  climbed_edge : (c : Climb) (node n : Node) → node ≡ n → SwappedEdge operation node (purpose.Climb c) true (climbed_on operation c n)
  climbed_edge c node (Tomb single) e = climbs_on c single _ e (climbing_edge operation _)
  climbed_edge c node n e = contracted c

  pub swapped_edge : (node : Node) (why : Purpose) (done : Bool) → SwappedEdge operation node why done (swapped operation node why done)
  swapped_edge node (purpose.Update path former) true = updated_edge path former node node refl
  swapped_edge node (purpose.Update path former) false = update_lost path former
  swapped_edge node (purpose.Renew path) true = renewed path
  swapped_edge node (purpose.Renew path) false = renewal_lost path
  swapped_edge node purpose.Clean done = is_cleaned done
  swapped_edge node (purpose.Climb c) true = climbed_edge c node node refl
  swapped_edge node (purpose.Climb c) false = climb_lost c

  module _ (why : Purpose) (s : Swap) where
    -- what the operation does after this step of its SWAP
    abbrev On : After SwapLine Bool → Line
    On a = after_swap state operation why s (on_line s a)

    publish_edge : (b : Bool) → (main_at state.heap s.indirection == s.replaced) ≡ b → SwapEdge state operation why s swap.Publish (On (after_publish s.fresh b))
    publish_edge true e = publishes e
    publish_edge false e = comes_late _ e (swapped_edge (node_at state.heap s.fresh) why false)

    deciding_edge : (l : ReadLine) (a : After ReadLine Ref) → read_after state.heap operation.access (word_at state (handle_of operation.call)) s.indirection l ≡ a →
        SwapEdge state operation why s (swap.Deciding l) (On (after_deciding a))
    deciding_edge l (Goes next) e = decides_on l next e
    deciding_edge l (Gives main) e = decided l main e

    check_edge : (p : Prev) → prev_at state.heap s.fresh ≡ p → SwapEdge state operation why s swap.Check (On (after_check p))
    check_edge prev.None e = succeeds _ e (swapped_edge (node_at state.heap s.fresh) why true)
    check_edge (prev.Pending previous) e = is_undecided previous _ e (swapped_edge (node_at state.heap s.fresh) why false)
    check_edge (prev.Failed previous) e = fails previous _ e (swapped_edge (node_at state.heap s.fresh) why false)

    pub swap_edge : (l : SwapLine) → SwapEdge state operation why s l (On (swap_line_after state.heap operation.access (word_at state (handle_of operation.call)) s l))
    swap_edge swap.Publish = publish_edge _ refl
    swap_edge (swap.Deciding l) = deciding_edge l _ refl
    swap_edge swap.Check = check_edge _ refl
