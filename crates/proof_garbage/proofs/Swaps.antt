-- What an operation has private in a SWAP and in a CLIMB: the fresh node until it is swapped in, and then nothing.
use Rattle.std.proofs.Common.{Option, ◌≡◌, ℕ, Bool, true, false, List, [], ◌∷◌, ◌++◌, Contains, Some, None, get_or, refl, sym, ap, subst, ◌∙◌, arith}
use Rattle.std.proofs.lemmas.List.Elements.{Contains-append_right, Contains-get_or}
use Rattle.proof_garbage.specs.Beneath.history.specs.declared.calls.Call.{Call}
use Rattle.proof_garbage.specs.Beneath.history.specs.declared.calls.Call.TheVariants.{Close, Entries, Count}
use Rattle.proof_garbage.specs.Beneath.slot_arena.specs.declared.refs.Ref.{Ref}
use Rattle.proof_garbage.specs.Beneath.slot_arena.specs.declared.nodes.Node.{Node}
use Rattle.proof_garbage.specs.Beneath.slot_arena.specs.Heaps.{node_at, next_ref}
use Rattle.proof_garbage.specs.Beneath.machine_model.specs.declared.building.BuildLine.{BuildLine}
use Rattle.proof_garbage.specs.Beneath.machine_model.specs.declared.building.BuildLine.TheVariants as build
use Rattle.proof_garbage.specs.Beneath.machine_model.specs.declared.finding.KeyLine.{KeyLine}
use Rattle.proof_garbage.specs.Beneath.machine_model.specs.declared.copying.CopyLine.{CopyLine}
use Rattle.proof_garbage.specs.Beneath.machine_model.specs.declared.lines.Line.{Line}
use Rattle.proof_garbage.specs.Beneath.machine_model.specs.declared.lines.Line.TheVariants as line
use Rattle.proof_garbage.specs.Beneath.machine_model.specs.declared.lines.Purpose.{Purpose}
use Rattle.proof_garbage.specs.Beneath.machine_model.specs.declared.lines.Purpose.TheVariants as purpose
use Rattle.proof_garbage.specs.Beneath.machine_model.specs.declared.operations.Operation.{Operation}
use Rattle.proof_garbage.specs.Beneath.machine_model.specs.declared.reading.ReadLine.{ReadLine}
use Rattle.proof_garbage.specs.Beneath.machine_model.specs.declared.reading.ReadLine.TheVariants as read
use Rattle.proof_garbage.specs.Beneath.machine_model.specs.declared.reading.Swap.{Swap}
use Rattle.proof_garbage.specs.Beneath.machine_model.specs.declared.reading.SwapLine.{SwapLine}
use Rattle.proof_garbage.specs.Beneath.machine_model.specs.declared.reading.SwapLine.TheVariants as swap
use Rattle.proof_garbage.specs.Beneath.machine_model.specs.declared.repairs.CleanLine.{CleanLine}
use Rattle.proof_garbage.specs.Beneath.machine_model.specs.declared.repairs.Climb.{Climb}
use Rattle.proof_garbage.specs.Beneath.machine_model.specs.declared.repairs.ClimbLine.{ClimbLine}
use Rattle.proof_garbage.specs.Beneath.machine_model.specs.declared.repairs.RenewLine.{RenewLine}
use Rattle.proof_garbage.specs.Beneath.machine_model.specs.declared.roots.CompleteLine.{CompleteLine}
use Rattle.proof_garbage.specs.Beneath.machine_model.specs.declared.roots.CompleteLine.TheVariants as complete
use Rattle.proof_garbage.specs.Beneath.machine_model.specs.declared.roots.Descriptor.{Descriptor}
use Rattle.proof_garbage.specs.Beneath.machine_model.specs.declared.roots.RootLine.{RootLine}
use Rattle.proof_garbage.specs.Beneath.machine_model.specs.declared.roots.RootLine.TheVariants as root
use Rattle.proof_garbage.specs.Beneath.machine_model.specs.declared.walking.WalkLine.{WalkLine}
use Rattle.proof_garbage.specs.Beneath.machine_model.specs.declared.steps.Bounds.{Bounds}
use Rattle.proof_garbage.specs.Beneath.machine_model.specs.declared.steps.Outcome.{Outcome}
use Rattle.proof_garbage.specs.Beneath.machine_model.specs.declared.steps.Step.{Step}
use Rattle.proof_garbage.specs.Beneath.machine_model.specs.Acting.{operation_after, private_after, with_made}
use Rattle.proof_garbage.specs.Beneath.machine_model.specs.Climbing.{climb_action, higher}
use Rattle.proof_garbage.specs.Beneath.machine_model.specs.Edges.Building.{BuildEdge, SwappedEdge, SwapEdge}
use Rattle.proof_garbage.specs.Beneath.machine_model.specs.Edges.Key.{FoundEdge, KeyEdge}
use Rattle.proof_garbage.specs.Beneath.machine_model.specs.Edges.Lines.{Edge, of_root, of_key, of_build, of_swap, of_renew, of_clean, of_climb, of_copy, of_walk, stays, strays}
use Rattle.proof_garbage.specs.Beneath.machine_model.specs.Edges.Repairs.{RenewNext, RenewEdge, CleanNext, CleanEdge, ClimbingEdge, ClimbEdge}
use Rattle.proof_garbage.specs.Beneath.machine_model.specs.Edges.Roots.{RootEdge, CopyEdge}
use Rattle.proof_garbage.specs.Beneath.machine_model.specs.Edges.Walking.{WalkNext, WalkEdge}
use Rattle.proof_garbage.specs.Beneath.machine_model.specs.Machine.{run}
use Rattle.proof_garbage.specs.Beneath.machine_model.specs.Moves.{Moves, begun_operation}
use Rattle.proof_garbage.specs.Beneath.machine_model.specs.Operations.{line_action, line_after}
use Rattle.proof_garbage.specs.Beneath.machine_model.specs.Reading.{read_action}
use Rattle.proof_garbage.specs.Beneath.machine_model.specs.States.{State, first_state}
use Rattle.proof_garbage.specs.Beneath.machine_model.specs.Swapping.{action_at, complete_action_at, root_action}
use Rattle.proof_garbage.specs.Beneath.machine_model.proofs.Actors.{mark_only, marks_in, marks_by}
use Rattle.proof_garbage.specs.Beneath.machine_model.proofs.Along.{along}
use Rattle.proof_garbage.specs.Beneath.machine_model.proofs.Edges.Lines.{edge}
use Rattle.proof_garbage.specs.Beneath.machine_model.proofs.Found.{none_found}
use Rattle.proof_garbage.specs.Beneath.proof_memory.proofs.Safety.EachStep.{each_after}

-- in a CLIMB's SWAP nothing else is private
abbrev pub IsAlone : Purpose → List Ref → Ref → Type 0
IsAlone (purpose.Climb c) own fresh = own ≡ fresh ∷ []
IsAlone why own fresh = Unit {0}

abbrev pub SwapOwns : Purpose → Ref → SwapLine → List Ref → Type 0
SwapOwns why fresh swap.Publish own = Contains own fresh × IsAlone why own fresh
SwapOwns why fresh l own = own ≡ []

-- what is private on a line
abbrev pub LineOwns : Line → List Ref → Type 0
LineOwns (line.Swap why s) own = SwapOwns why s.fresh s.line own
LineOwns (line.Climb l) own = own ≡ []
LineOwns l own = Unit {0}

-- ---- a step of an operation

-- what a READ does leaves the private nodes
pub read_leaves : (state : State) (own : List Ref) (i : Ref) (l : ReadLine) → private_after state own (read_action i l) ≡ own
read_leaves state own i read.Main = refl
read_leaves state own i (read.Prev m) = refl
read_leaves state own i (read.AskRoot m p) = refl
read_leaves state own i (read.Abort m p offer) = refl
read_leaves state own i (read.Decide m p told) = refl
read_leaves state own i (read.Restore m p) = refl

pub complete_leaves : (state : State) (own : List Ref) (offer : Descriptor) (l : CompleteLine) → private_after state own (complete_action_at offer l) ≡ own
complete_leaves state own offer (complete.Reading l) = read_leaves state own offer.root l
complete_leaves state own offer (complete.Swap main) = refl

pub root_leaves : (state : State) (own : List Ref) (l : RootLine) → private_after state own (root_action l) ≡ own
root_leaves state own root.Read = refl
root_leaves state own (root.Completing c) = complete_leaves state own c.offer c.line

module _ (state : State) (operation : Operation) where
  found_owns : (own : List Ref) (path : List Ref) (main : Ref) (position v : ℕ) (next : Line) → FoundEdge state operation path main position v next → LineOwns next own
  found_owns own path main position v next FoundEdge.strays = tt
  found_owns own path main position v next e = tt

  key_owns : (own : List Ref) (l : KeyLine) (next : Line) → KeyEdge state operation l next → LineOwns next own
  key_owns own l next (KeyEdge.finds path main position k v n found same on) = found_owns own path main position v n on
  key_owns own l next (KeyEdge.finds_listed path main position k v n found same on) = found_owns own path main position v n on
  key_owns own l next e = tt

  root_owns : (own : List Ref) (l : RootLine) (next : Line) → RootEdge state operation l next → LineOwns next own
  root_owns own l next (RootEdge.completes_on from to e) = tt
  root_owns own l next e = tt

  -- what is made last is private
  pub last_private : (own : List Ref) (made : Ref) → next_ref state.heap ≡ Some made → Contains (with_made own (next_ref state.heap)) made
  last_private own made e = subst (λ o. Contains (with_made own o) made) (sym e) (Contains-append_right own (made ∷ []) made (Contains-get_or (made ∷ []) 0 made (omega arith)))

  build_owns : (own : List Ref) (l : BuildLine) (next : Line) → BuildEdge state operation l next → LineOwns next (with_made own (next_ref state.heap))
  build_owns own l next (BuildEdge.main_made path main c former made e) = (last_private own made e, tt)
  build_owns own l next e = tt

  renew_next_owns : (own : List Ref) (path : List Ref) (main : Ref) (done : List Ref) (next : Line) → RenewNext state path main done next → LineOwns next own
  renew_next_owns own path main done next (RenewNext.more e) = tt
  renew_next_owns own path main done next (RenewNext.all_done e) = tt

  clean_next_owns : (own : List Ref) (path : List Ref) (main : Ref) (done : List Ref) (next : Line) → CleanNext state path main done next → LineOwns next own
  clean_next_owns own path main done next (CleanNext.more e) = tt
  clean_next_owns own path main done next e = tt

  renew_owns : (own : List Ref) (l : RenewLine) (next : Line) → RenewEdge state operation l next → LineOwns next (private_after state own (line_action state operation (line.Renew l)))
  renew_owns own l next (RenewEdge.keeps_own path main done g w n e mine on) = renew_next_owns _ path main _ n on
  renew_owns own l next (RenewEdge.keeps_single path main done k v n e on) = renew_next_owns _ path main _ n on
  renew_owns own l next (RenewEdge.links path main done child made n e on) = renew_next_owns _ path main _ n on
  renew_owns own l next (RenewEdge.branches path main done made e) = (last_private own made e, tt)
  renew_owns own l next e = tt

  clean_owns : (own : List Ref) (l : CleanLine) (next : Line) → CleanEdge state operation l next → LineOwns next (private_after state own (line_action state operation (line.Clean l)))
  clean_owns own l next (CleanEdge.begins path main b es n e on) = clean_next_owns _ path main _ n on
  clean_owns own l next (CleanEdge.keeps_single path main done k v n e on) = clean_next_owns _ path main _ n on
  clean_owns own l next (CleanEdge.untombs path main done child single n e on) = clean_next_owns _ path main _ n on
  clean_owns own l next (CleanEdge.keeps_link path main done child n on) = clean_next_owns _ path main _ n on
  clean_owns own l next (CleanEdge.contracts path main done made e) = (last_private own made e, tt)
  clean_owns own l next e = tt

  -- where nothing is private before, or is left
  climbing_owns : (own : List Ref) → own ≡ [] → (c : Climb) (next : Line) → ClimbingEdge operation c next → LineOwns next own
  climbing_owns own none c next (ClimbingEdge.climbs e) = none
  climbing_owns own none c next (ClimbingEdge.tops e) = tt

  swapped_owns : (own : List Ref) → own ≡ [] → (node : Node) (why : Purpose) (done : Bool) (next : Line) → SwappedEdge operation node why done next → LineOwns next own
  swapped_owns own none node why done next (SwappedEdge.entombed path former single n e on) = climbing_owns own none (record { path = path; single = single; former = former }) n on
  swapped_owns own none node why done next (SwappedEdge.climbs_on c single n e on) = climbing_owns own none (higher c c.single) n on
  swapped_owns own none node why done next (SwappedEdge.climb_lost c) = none
  swapped_owns own none node why done next e = tt

  swap_owns : (own : List Ref) (why : Purpose) (s : Swap) (l : SwapLine) (next : Line) → SwapEdge state operation why s l next → SwapOwns why s.fresh l own →
      LineOwns next (private_after state own (action_at s.indirection s.replaced s.fresh l))
  swap_owns own why s l next (SwapEdge.publishes e) h = refl
  swap_owns own why s l next (SwapEdge.comes_late n e on) h = swapped_owns [] refl (node_at state.heap s.fresh) why false n on
  swap_owns own why s l next (SwapEdge.decides_on from to e) h = read_leaves state own s.indirection from ∙ h
  swap_owns own why s l next (SwapEdge.decided from main e) h = read_leaves state own s.indirection from ∙ h
  swap_owns own why s l next (SwapEdge.succeeds n e on) h = swapped_owns own h (node_at state.heap s.fresh) why true n on
  swap_owns own why s l next (SwapEdge.is_undecided previous n e on) h = swapped_owns own h (node_at state.heap s.fresh) why false n on
  swap_owns own why s l next (SwapEdge.fails previous n e on) h = swapped_owns own h (node_at state.heap s.fresh) why false n on

  made_alone : (own : List Ref) (made : Ref) → own ≡ [] → next_ref state.heap ≡ Some made → with_made own (next_ref state.heap) ≡ made ∷ []
  made_alone own made none e = ap (λ o. with_made own o) e ∙ ap (λ xs. xs ++ made ∷ []) none

  given_back : (own : List Ref) → next_ref state.heap ≡ None → with_made own (next_ref state.heap) ≡ []
  given_back own e = ap (λ o. with_made own o) e

  climb_owns : (own : List Ref) → own ≡ [] → (l : ClimbLine) (next : Line) → ClimbEdge state operation l next → LineOwns next (private_after state own (climb_action state operation l))
  climb_owns own none l next (ClimbEdge.reads_on c r n e) = read_leaves state own r.indirection r.line ∙ none
  climb_owns own none l next (ClimbEdge.gives c r main e) = read_leaves state own r.indirection r.line ∙ none
  climb_owns own none l next (ClimbEdge.goes_up c main single n e on) = climbing_owns own none (higher c single) n on
  climb_owns own none l next (ClimbEdge.holds c main b es e h) = none
  climb_owns own none l next (ClimbEdge.contracts c main made e) = (last_private own made e, made_alone own made none e)
  climb_owns own none l next (ClimbEdge.root_on c from to e) = root_leaves state own from ∙ none
  climb_owns own none l next (ClimbEdge.again c from r n e mine on) = climbing_owns (private_after state own (root_action from)) (root_leaves state own from ∙ none) c n on
  climb_owns own none l next e = tt

  copy_owns : (own : List Ref) (l : CopyLine) (next : Line) → CopyEdge state operation l next → LineOwns next own
  copy_owns own l next (CopyEdge.no_slot from e) = tt
  copy_owns own l next e = tt

  walk_next_owns : (own : List Ref) (pairs : List (ℕ × ℕ)) (todo : List Ref) (next : Line) → WalkNext operation pairs todo next → LineOwns next own
  walk_next_owns own pairs todo next WalkNext.walked = tt
  walk_next_owns own pairs todo next (WalkNext.walks entry more) = tt

  walk_owns : (own : List Ref) (l : WalkLine) (next : Line) → WalkEdge state operation l next → LineOwns next own
  walk_owns own l next (WalkEdge.opens main todo pairs n on) = walk_next_owns own pairs _ n on
  walk_owns own l next (WalkEdge.takes todo pairs k v n e on) = walk_next_owns own _ _ n on
  walk_owns own l next e = tt

  pub build_makes : (own : List Ref) (l : BuildLine) → private_after state own (line_action state operation (line.Build l)) ≡ with_made own (next_ref state.heap)
  build_makes own (build.Single path main site former) = refl
  build_makes own l = refl

  owns_by : (own : List Ref) (l next : Line) → Edge state operation l next → LineOwns l own → LineOwns next (private_after state own (line_action state operation l))
  owns_by own l next (of_root r n e) h = root_owns _ r n e
  owns_by own l next (of_key k n e) h = key_owns _ k n e
  owns_by own l next (of_build b n e) h = subst (LineOwns n) (sym (build_makes own b)) (build_owns own b n e)
  owns_by own l next (of_swap why s n e) h = swap_owns own why s s.line n e h
  owns_by own l next (of_renew r n e) h = renew_owns own r n e
  owns_by own l next (of_clean c n e) h = clean_owns own c n e
  owns_by own l next (of_climb c n e) h = climb_owns own h c n e
  owns_by own l next (of_copy c n e) h = copy_owns _ c n e
  owns_by own l next (of_walk w n e) h = walk_owns _ w n e
  owns_by own l next (stays answer) h = tt
  owns_by own l next strays h = tt

-- ---- along a run

abbrev pub Owns : Operation → Type 0
Owns operation = LineOwns operation.line operation.private

first_owns : (state : State) (call : Call) (number : Option ℕ) → Owns (begun_operation state call number)
first_owns state (Close h) number = tt
first_owns state (Entries h) number = tt
first_owns state (Count h) number = tt
first_owns state call number = tt

abbrev AllOwn : State → Type 0
AllOwn state = (k : ℕ) (operation : Operation) → get_or state.actors k None ≡ Some operation → Owns operation

owns_after : (state : State) → AllOwn state → (s : Step) (o : Outcome) (after : State) → Moves state s o after → AllOwn after
owns_after state h s o after m k operation at_k =
    each_after state (λ k operation. Owns operation) (λ after k operation. Owns operation) h
    (λ actor call number k own d. first_owns state call number)
    (λ actor operation k own is g p.
    subst Owns (sym (mark_only (marks_by state (Some operation)) (operation_after state operation)))
    (owns_by state operation operation.private operation.line (line_after state operation operation.line) (edge state operation operation.line) p))
    (λ actor operation answer k own is a p. tt)
    (λ s o after m k other operation at p. subst Owns (sym (mark_only (marks_in state s) operation)) p)
    s o after m k operation at_k

first_none : (limits : Bounds) → AllOwn (first_state limits)
unfolding first_state
first_none limits k operation found = absurd (none_found limits.actors k operation found)

pub owns_along : (limits : Bounds) (steps : List Step) → AllOwn (run limits steps)
owns_along limits = along limits AllOwn (first_none limits) (λ steps s o after m h. owns_after (run limits steps) h s o after m)
