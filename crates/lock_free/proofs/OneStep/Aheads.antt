-- How an operation comes to be about to swap a main node in: by the step that makes it.
use Rattle.std.proofs.Common.{◌≡◌, ℕ, Bool, true, false, List, Option, Some, None, refl, sym, ap, ◌∙◌}
use Rattle.std.proofs.lemmas.Option.{none-some, same_Some}
use Rattle.machine_model.specs.Beneath.slot_arena.specs.declared.refs.Ref.{Ref}
use Rattle.machine_model.specs.Beneath.slot_arena.specs.declared.nodes.Node.{Node}
use Rattle.machine_model.specs.Beneath.slot_arena.specs.Heaps.{node_at, next_ref}
use Rattle.machine_model.specs.declared.actions.Action.TheVariants as act
use Rattle.machine_model.specs.declared.building.BuildLine.{BuildLine}
use Rattle.machine_model.specs.declared.copying.CopyLine.{CopyLine}
use Rattle.machine_model.specs.declared.finding.KeyLine.{KeyLine}
use Rattle.machine_model.specs.declared.lines.Line.{Line}
use Rattle.machine_model.specs.declared.lines.Line.TheVariants as line
use Rattle.machine_model.specs.declared.lines.Purpose.{Purpose}
use Rattle.machine_model.specs.declared.operations.Operation.{Operation}
use Rattle.machine_model.specs.declared.reading.Swap.{Swap}
use Rattle.machine_model.specs.declared.reading.SwapLine.{SwapLine}
use Rattle.machine_model.specs.declared.reading.SwapLine.TheVariants as swap
use Rattle.machine_model.specs.declared.repairs.CleanLine.{CleanLine}
use Rattle.machine_model.specs.declared.repairs.Climb.{Climb}
use Rattle.machine_model.specs.declared.repairs.ClimbLine.{ClimbLine}
use Rattle.machine_model.specs.declared.repairs.RenewLine.{RenewLine}
use Rattle.machine_model.specs.declared.roots.RootLine.{RootLine}
use Rattle.machine_model.specs.declared.walking.WalkLine.{WalkLine}
use Rattle.machine_model.specs.Edges.Building.{BuildEdge, SwappedEdge, SwapEdge}
use Rattle.machine_model.specs.Edges.Key.{FoundEdge, KeyEdge}
use Rattle.machine_model.specs.Edges.Lines.{Edge, of_root, of_key, of_build, of_swap, of_renew, of_clean, of_climb, of_copy, of_walk, stays, strays}
use Rattle.machine_model.specs.Edges.Repairs.{RenewNext, RenewEdge, CleanNext, CleanEdge, ClimbingEdge, ClimbEdge}
use Rattle.machine_model.specs.Edges.Roots.{RootEdge, CopyEdge}
use Rattle.machine_model.specs.Edges.Walking.{WalkNext, WalkEdge}
use Rattle.machine_model.specs.States.{State}
use Rattle.machine_model.specs.Building.{build_if_made}
use Rattle.machine_model.specs.Renewing.{renew_after_branch}
use Rattle.machine_model.specs.Cleaning.{clean_after_contracted}
use Rattle.machine_model.specs.Climbing.{climb_after_contracted, higher}
use Rattle.machine_model.specs.Operations.{line_action, line_after}
use Rattle.machine_model.specs.Paths.{above, current}
use Rattle.machine_model.specs.Swapping.{action_at, swapping}
use Rattle.machine_model.proofs.Edges.Lines.{edge}
use Rattle.machine_model.specs.declared.building.BuildLine.TheVariants as build
use Rattle.machine_model.specs.declared.repairs.RenewLine.TheVariants as renew
use Rattle.machine_model.specs.declared.repairs.CleanLine.TheVariants as clean
use Rattle.machine_model.specs.declared.repairs.ClimbLine.TheVariants as climb
use Rattle.machine_model.specs.declared.lines.Purpose.TheVariants as purpose
use Rattle.lock_free.specs.Making.{over_of}

-- the SWAP that stands at its first line: its indirection, the node that it is to replace, and the fresh one
abbrev pub ahead_at : Ref → Ref → Ref → SwapLine → Option (Ref × Ref × Ref)
ahead_at i a f swap.Publish = Some (i, a, f)
ahead_at i a f l = None

abbrev pub ahead_of : Line → Option (Ref × Ref × Ref)
ahead_of (line.Swap why s) = ahead_at s.indirection s.replaced s.fresh s.line
ahead_of l = None

module _ (state : State) (operation : Operation) where
  -- it wasn't ahead before, and the fresh node is the one that is made now
  abbrev pub ComesAhead : Line → Ref × Ref × Ref → Type 0
  ComesAhead l x = (over_of l ≡ Some (x.0, x.1)) × (next_ref state.heap ≡ Some x.2)

  abbrev Comes : Line → Line → Type 0
  Comes l next = (x : Ref × Ref × Ref) → ahead_of next ≡ Some x → ComesAhead l x

  none : (l next : Line) → ahead_of next ≡ None → Comes l next
  none l next e x h = absurd (none-some x (sym e ∙ h))

  here : (l : Line) (i a f : Ref) → over_of l ≡ Some (i, a) → next_ref state.heap ≡ Some f → (x : Ref × Ref × Ref) → Some (i, a, f) ≡ Some x → ComesAhead l x
  here l i a f over made x e =
      let same = same_Some (i, a, f) x e in
      (over ∙ ap (λ (y : Ref × Ref × Ref). Some (y.0, y.1)) same, made ∙ ap (λ (y : Ref × Ref × Ref). Some y.2) same)

  comes_root : (l : RootLine) (next : Line) → RootEdge state operation l next → ahead_of next ≡ None
  comes_root l next (RootEdge.completes_on from to e) = refl
  comes_root l next e = refl

  comes_found : (path : List Ref) (main : Ref) (position v : ℕ) (next : Line) → FoundEdge state operation path main position v next → ahead_of next ≡ None
  comes_found path main position v next FoundEdge.strays = refl
  comes_found path main position v next e = refl

  comes_key : (l : KeyLine) (next : Line) → KeyEdge state operation l next → ahead_of next ≡ None
  comes_key l next (KeyEdge.finds path main position k v n found same on) = comes_found path main position v n on
  comes_key l next (KeyEdge.finds_listed path main position k v n found same on) = comes_found path main position v n on
  comes_key l next e = refl

  comes_build : (l : BuildLine) (next : Line) → BuildEdge state operation l next → Comes (line.Build l) next
  comes_build l next (BuildEdge.main_made path main c former made e) = here (line.Build l) (current path) main made refl e
  comes_build l next e = none (line.Build l) next refl

  comes_climbing : (c : Climb) (next : Line) → ClimbingEdge operation c next → ahead_of next ≡ None
  comes_climbing c next (ClimbingEdge.climbs e) = refl
  comes_climbing c next (ClimbingEdge.tops e) = refl

  comes_swapped : (node : Node) (why : Purpose) (done : Bool) (next : Line) → SwappedEdge operation node why done next → ahead_of next ≡ None
  comes_swapped node why done next (SwappedEdge.entombed path former single n e on) = comes_climbing (record { path = path; single = single; former = former }) n on
  comes_swapped node why done next (SwappedEdge.climbs_on c single n e on) = comes_climbing (higher c c.single) n on
  comes_swapped node why done next e = refl

  comes_swap : (why : Purpose) (s : Swap) (l : SwapLine) (next : Line) → SwapEdge state operation why s l next → ahead_of next ≡ None
  comes_swap why s l next (SwapEdge.comes_late n e on) = comes_swapped (node_at state.heap s.fresh) why false n on
  comes_swap why s l next (SwapEdge.succeeds n e on) = comes_swapped (node_at state.heap s.fresh) why true n on
  comes_swap why s l next (SwapEdge.is_undecided previous n e on) = comes_swapped (node_at state.heap s.fresh) why false n on
  comes_swap why s l next (SwapEdge.fails previous n e on) = comes_swapped (node_at state.heap s.fresh) why false n on
  comes_swap why s l next e = refl

  comes_renew_next : (path : List Ref) (main : Ref) (done : List Ref) (next : Line) → RenewNext state path main done next → ahead_of next ≡ None
  comes_renew_next path main done next (RenewNext.more e) = refl
  comes_renew_next path main done next (RenewNext.all_done e) = refl

  comes_renew : (l : RenewLine) (next : Line) → RenewEdge state operation l next → Comes (line.Renew l) next
  comes_renew l next (RenewEdge.keeps_own path main done g w n e own on) = none (line.Renew l) n (comes_renew_next path main _ n on)
  comes_renew l next (RenewEdge.keeps_single path main done k v n e on) = none (line.Renew l) n (comes_renew_next path main _ n on)
  comes_renew l next (RenewEdge.links path main done child made n e on) = none (line.Renew l) n (comes_renew_next path main _ n on)
  comes_renew l next (RenewEdge.branches path main done made e) = here (line.Renew l) (current path) main made refl e
  comes_renew l next e = none (line.Renew l) next refl

  comes_clean_next : (path : List Ref) (main : Ref) (done : List Ref) (next : Line) → CleanNext state path main done next → ahead_of next ≡ None
  comes_clean_next path main done next (CleanNext.more e) = refl
  comes_clean_next path main done next e = refl

  comes_clean : (l : CleanLine) (next : Line) → CleanEdge state operation l next → Comes (line.Clean l) next
  comes_clean l next (CleanEdge.begins path main b es n e on) = none (line.Clean l) n (comes_clean_next path main _ n on)
  comes_clean l next (CleanEdge.keeps_single path main done k v n e on) = none (line.Clean l) n (comes_clean_next path main _ n on)
  comes_clean l next (CleanEdge.untombs path main done child single n e on) = none (line.Clean l) n (comes_clean_next path main _ n on)
  comes_clean l next (CleanEdge.keeps_link path main done child n on) = none (line.Clean l) n (comes_clean_next path main _ n on)
  comes_clean l next (CleanEdge.contracts path main done made e) = here (line.Clean l) (current path) main made refl e
  comes_clean l next e = none (line.Clean l) next refl

  comes_climb : (l : ClimbLine) (next : Line) → ClimbEdge state operation l next → Comes (line.Climb l) next
  comes_climb l next (ClimbEdge.goes_up c main single n e on) = none (line.Climb l) n (comes_climbing (higher c single) n on)
  comes_climb l next (ClimbEdge.contracts c main made e) = here (line.Climb l) (current (above c.path)) main made refl e
  comes_climb l next (ClimbEdge.again c root r n e own on) = none (line.Climb l) n (comes_climbing c n on)
  comes_climb l next e = none (line.Climb l) next refl

  comes_copy : (l : CopyLine) (next : Line) → CopyEdge state operation l next → ahead_of next ≡ None
  comes_copy l next (CopyEdge.no_slot from e) = refl
  comes_copy l next e = refl

  comes_walk_next : (pairs : List (ℕ × ℕ)) (todo : List Ref) (next : Line) → WalkNext operation pairs todo next → ahead_of next ≡ None
  comes_walk_next pairs todo next (WalkNext.walked) = refl
  comes_walk_next pairs todo next (WalkNext.walks entry more) = refl

  comes_walk : (l : WalkLine) (next : Line) → WalkEdge state operation l next → ahead_of next ≡ None
  comes_walk l next (WalkEdge.opens main todo pairs n on) = comes_walk_next pairs _ n on
  comes_walk l next (WalkEdge.takes todo pairs k v n e on) = comes_walk_next _ _ n on
  comes_walk l next e = refl

  comes_by : (l next : Line) → Edge state operation l next → Comes l next
  comes_by l next (of_root r n e) = none l n (comes_root r n e)
  comes_by l next (of_key k n e) = none l n (comes_key k n e)
  comes_by l next (of_build b n e) = comes_build b n e
  comes_by l next (of_swap why s n e) = none l n (comes_swap why s s.line n e)
  comes_by l next (of_renew r n e) = comes_renew r n e
  comes_by l next (of_clean c n e) = comes_clean c n e
  comes_by l next (of_climb c n e) = comes_climb c n e
  comes_by l next (of_copy c n e) = none l n (comes_copy c n e)
  comes_by l next (of_walk w n e) = none l n (comes_walk w n e)
  comes_by l next (stays answer) = none l next refl
  comes_by l next strays = none l next refl

  pub comes_ahead : (l : Line) (x : Ref × Ref × Ref) → ahead_of (line_after state operation l) ≡ Some x → ComesAhead l x
  comes_ahead l x h = comes_by l (line_after state operation l) (edge state operation l) x h

  -- who is to swap a node in next makes it, and who is ahead publishes it
  pub over_makes : (l : Line) (x : Ref × Ref) → over_of l ≡ Some x → (node : Node) × (line_action state operation l ≡ act.Make node)
  over_makes (line.Build (build.Main path main c former)) x e = (_, refl)
  over_makes (line.Renew (renew.Branch path main done)) x e = (_, refl)
  over_makes (line.Clean (clean.Contracted path main done)) x e = (_, refl)
  over_makes (line.Climb (climb.Contracted c main)) x e = (_, refl)
  over_makes l x e = absurd (none-some x e)

  ahead_publishes : (i a f : Ref) (l : SwapLine) (x : Ref × Ref × Ref) → ahead_at i a f l ≡ Some x → action_at i a f l ≡ act.Publish x.0 x.1 x.2
  ahead_publishes i a f swap.Publish x e = ap (λ (y : Ref × Ref × Ref). act.Publish y.0 y.1 y.2) (same_Some (i, a, f) x e)
  ahead_publishes i a f l x e = absurd (none-some x e)

  pub ahead_acts : (l : Line) (x : Ref × Ref × Ref) → ahead_of l ≡ Some x → line_action state operation l ≡ act.Publish x.0 x.1 x.2
  ahead_acts (line.Swap why s) x e = ahead_publishes s.indirection s.replaced s.fresh s.line x e
  ahead_acts l x e = absurd (none-some x e)

  -- and what follows where a slot is free: it is ahead then
  pub goes_ahead : (l : Line) (i a f : Ref) → over_of l ≡ Some (i, a) → next_ref state.heap ≡ Some f → (why : Purpose) × (line_after state operation l ≡ line.Swap why (swapping i a f))
  goes_ahead l i a f over made = by l over
    where
      by : (l : Line) → over_of l ≡ Some (i, a) → (why : Purpose) × (line_after state operation l ≡ line.Swap why (swapping i a f))
      by (line.Build (build.Main path main c former)) e = (
        purpose.Update path former,
        ap (build_if_made state operation (build.Main path main c former)) made
            ∙ ap (λ (y : Ref × Ref). line.Swap (purpose.Update path former) (swapping y.0 y.1 f)) (same_Some (current path, main) (i, a) e),
      )
      by (line.Renew (renew.Branch path main done)) e =
          (purpose.Renew path, ap (renew_after_branch path main) made ∙ ap (λ (y : Ref × Ref). line.Swap (purpose.Renew path) (swapping y.0 y.1 f)) (same_Some (current path, main) (i, a) e))
      by (line.Clean (clean.Contracted path main done)) e =
          (purpose.Clean, ap (clean_after_contracted path main) made ∙ ap (λ (y : Ref × Ref). line.Swap purpose.Clean (swapping y.0 y.1 f)) (same_Some (current path, main) (i, a) e))
      by (line.Climb (climb.Contracted c main)) e = (
        purpose.Climb c,
        ap (climb_after_contracted operation c main) made
            ∙ ap (λ (y : Ref × Ref). line.Swap (purpose.Climb c) (swapping y.0 y.1 f)) (same_Some (current (above c.path), main) (i, a) e),
      )
      by l e = absurd (none-some (i, a) e)
