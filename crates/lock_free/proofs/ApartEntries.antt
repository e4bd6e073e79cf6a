-- What a main node names from which an operation builds is private to it no more than to others: each was made before what it has made.
use Rattle.std.proofs.Common.{◌≡◌, ◌≤◌, [], inl, inr, ℕ, Bool, List, Contains, Option, Some, None, refl, sym, ap, subst, ◌∙◌, arith}
use Rattle.std.proofs.lemmas.Bool.{cases_eq}
use Rattle.std.proofs.lemmas.List.Elements.{Contains-push_cases}
use Rattle.history.specs.declared.calls.Call.{Call}
use Rattle.history.specs.declared.calls.Call.TheVariants.{Close, Count, Entries}
use Rattle.machine_model.specs.Beneath.slot_arena.specs.declared.refs.Ref.{Ref}
use Rattle.machine_model.specs.Beneath.slot_arena.specs.declared.nodes.Node.{Node}
use Rattle.machine_model.specs.Beneath.slot_arena.specs.declared.nodes.Node.TheVariants.{Single}
use Rattle.machine_model.specs.Beneath.slot_arena.specs.Heaps.{entries_of, next_ref, node_at}
use Rattle.machine_model.specs.Beneath.slot_arena.specs.Refs.{birth_of}
use Rattle.machine_model.specs.declared.building.BuildLine.{BuildLine}
use Rattle.machine_model.specs.declared.building.BuildLine.TheVariants as build
use Rattle.machine_model.specs.declared.finding.KeyLine.{KeyLine}
use Rattle.machine_model.specs.declared.finding.KeyLine.TheVariants as key
use Rattle.machine_model.specs.declared.lines.Line.{Line}
use Rattle.machine_model.specs.declared.lines.Line.TheVariants as line
use Rattle.machine_model.specs.declared.lines.Purpose.{Purpose}
use Rattle.machine_model.specs.declared.operations.Operation.{Operation}
use Rattle.machine_model.specs.declared.reading.Swap.{Swap}
use Rattle.machine_model.specs.declared.reading.SwapLine.{SwapLine}
use Rattle.machine_model.specs.declared.repairs.CleanLine.{CleanLine}
use Rattle.machine_model.specs.declared.repairs.Climb.{Climb}
use Rattle.machine_model.specs.declared.repairs.ClimbLine.{ClimbLine}
use Rattle.machine_model.specs.declared.repairs.RenewLine.{RenewLine}
use Rattle.machine_model.specs.declared.repairs.RenewLine.TheVariants as renew
use Rattle.machine_model.specs.declared.copying.CopyLine.{CopyLine}
use Rattle.machine_model.specs.declared.copying.CopyLine.TheVariants as copy
use Rattle.machine_model.specs.declared.reading.Read.{Read}
use Rattle.machine_model.specs.declared.roots.RootLine.{RootLine}
use Rattle.machine_model.specs.declared.walking.WalkLine.{WalkLine}
use Rattle.machine_model.specs.declared.steps.Bounds.{Bounds}
use Rattle.machine_model.specs.declared.steps.Step.{Step}
use Rattle.machine_model.specs.Acting.{operation_after, private_after, with_made}
use Rattle.machine_model.specs.Copying.{copy_action}
use Rattle.machine_model.specs.Edges.Building.{BuildEdge, SwappedEdge, SwapEdge}
use Rattle.machine_model.specs.Edges.Lines.{Edge, of_root, of_key, of_build, of_swap, of_renew, of_clean, of_climb, of_copy, of_walk, stays, strays}
use Rattle.machine_model.specs.Edges.Repairs.{CleanEdge, CleanNext, ClimbEdge, ClimbingEdge, RenewEdge, RenewNext}
use Rattle.machine_model.specs.Edges.Roots.{CopyEdge, RootEdge}
use Rattle.machine_model.specs.Edges.Walking.{WalkEdge, WalkNext}
use Rattle.machine_model.specs.Finding.{key_action}
use Rattle.machine_model.specs.Machine.{AreBounds, run}
use Rattle.machine_model.specs.Operations.{action_of, first_line, line_action, line_after}
use Rattle.machine_model.specs.Renewing.{renew_action}
use Rattle.machine_model.specs.States.{State, operation_of}
use Rattle.machine_model.specs.Times.{last_of}
use Rattle.machine_model.proofs.Actors.{mark_only, marks_by, marks_in}
use Rattle.machine_model.proofs.Along.{limits_along}
use Rattle.machine_model.proofs.EachOperation.{OfEach, of_each_along, of_running}
use Rattle.machine_model.proofs.Edges.Lines.{edge}
use Rattle.machine_model.proofs.Times.{run_is, run_ends}
use Rattle.proof_claims.specs.Beneath.proof_fresh.proofs.At.{has_at}
use Rattle.proof_claims.specs.Beneath.proof_fresh.proofs.Lines.{main_of_renew, LineHas}
use Rattle.proof_claims.specs.Beneath.proof_garbage.proofs.Swaps.{build_makes, read_leaves}
use Rattle.proof_memory.specs.Laws.{IsInUse}
use Rattle.proof_memory.specs.Wants.{AllHold, line_wants}
use Rattle.proof_memory.proofs.Claims.Uses.{safe_of}
use Rattle.proof_memory.proofs.Heap.Under.{taken_all}
use Rattle.proof_memory.proofs.Safety.AtEachTime.{safe_along}
use Rattle.proof_memory.proofs.Safety.Standing.{none_contained}
use Rattle.proof_memory.proofs.Safety.AtTimes.{line_finds_in}
use Rattle.lock_free.proofs.OlderEntries.{first_births, grown, older}
use Rattle.lock_free.proofs.Pools.{one_there}

-- the main node from which it builds
abbrev pub main_of_build : BuildLine → Ref
main_of_build (build.Single path main site former) = main
main_of_build (build.Pair path main position single depth) = main
main_of_build (build.Link path main position below depth) = main
main_of_build (build.Rung path main position below depth) = main
main_of_build (build.Main path main c former) = main

-- in COPY nothing is private until a root is made, and then that one
abbrev pub CopyKeeps : CopyLine → List Ref → Type 0
CopyKeeps (copy.Successor root main) own = own ≡ []
CopyKeeps (copy.Second root main successor) own = (y : Ref) → Contains own y → y ≡ successor
CopyKeeps l own = Unit {0}

module _ (m0 k0 : Ref) where
  -- on a line of BUILD or RENEW from that main node this one isn't private
  abbrev pub LineKeeps : Line → List Ref → Type 0
  LineKeeps (line.Build l) own = main_of_build l ≡ m0 → Contains own k0 → ⊥
  LineKeeps (line.Renew l) own = main_of_renew l ≡ m0 → Contains own k0 → ⊥
  LineKeeps (line.Copy l) own = CopyKeeps l own
  LineKeeps l own = Unit {0}

  none_keeps : (l : Line) (own : List Ref) → own ≡ [] → LineKeeps l own
  none_keeps (line.Build l) own none = λ is c. none_contained k0 (subst (λ ks. Contains ks k0) none c)
  none_keeps (line.Renew l) own none = λ is c. none_contained k0 (subst (λ ks. Contains ks k0) none c)
  none_keeps (line.Copy l) own none = none_copied l
    where
      none_copied : (l : CopyLine) → CopyKeeps l own
      none_copied (copy.Successor root main) = none
      none_copied (copy.Second root main successor) = λ y c. absurd (none_contained y (subst (λ ks. Contains ks y) none c))
      none_copied l = tt
  none_keeps l own none = tt

  key_leaves : (state : State) (own : List Ref) (l : KeyLine) → private_after state own (key_action state l) ≡ own
  key_leaves state own (key.Read path r) = read_leaves state own r.indirection r.line
  key_leaves state own l = refl

  module _ (state : State) (operation : Operation) where
    root_keeps : (own : List Ref) (l : RootLine) (next : Line) → RootEdge state operation l next → LineKeeps next own
    root_keeps own l next (RootEdge.completes_on from to e) = tt
    root_keeps own l next e = tt

    climbing_keeps : (own : List Ref) (c : Climb) (next : Line) → ClimbingEdge operation c next → LineKeeps next own
    climbing_keeps own c next (ClimbingEdge.climbs e) = tt
    climbing_keeps own c next (ClimbingEdge.tops e) = tt

    swapped_keeps : (own : List Ref) (node : Node) (why : Purpose) (done : Bool) (next : Line) → SwappedEdge operation node why done next → LineKeeps next own
    swapped_keeps own node why done next (SwappedEdge.entombed path former single n e on) = climbing_keeps own _ n on
    swapped_keeps own node why done next (SwappedEdge.climbs_on c single n e on) = climbing_keeps own _ n on
    swapped_keeps own node why done next e = tt

    swap_keeps : (own : List Ref) (why : Purpose) (s : Swap) (l : SwapLine) (next : Line) → SwapEdge state operation why s l next → LineKeeps next own
    swap_keeps own why s l next (SwapEdge.publishes e) = tt
    swap_keeps own why s l next (SwapEdge.comes_late n e on) = swapped_keeps own _ why _ n on
    swap_keeps own why s l next (SwapEdge.succeeds n e on) = swapped_keeps own _ why _ n on
    swap_keeps own why s l next (SwapEdge.is_undecided previous n e on) = swapped_keeps own _ why _ n on
    swap_keeps own why s l next (SwapEdge.fails previous n e on) = swapped_keeps own _ why _ n on
    swap_keeps own why s l next e = tt

    renew_next_keeps : (own : List Ref) (path : List Ref) (main : Ref) (done : List Ref) → (main ≡ m0 → Contains own k0 → ⊥) → (next : Line) → RenewNext state path main done next → LineKeeps next own
    renew_next_keeps own path main done h next (RenewNext.more e) = h
    renew_next_keeps own path main done h next (RenewNext.all_done e) = h

    clean_next_keeps : (own : List Ref) (path : List Ref) (main : Ref) (done : List Ref) (next : Line) → CleanNext state path main done next → LineKeeps next own
    clean_next_keeps own path main done next (CleanNext.more e) = tt
    clean_next_keeps own path main done next e = tt

    clean_keeps : (own : List Ref) (l : CleanLine) (next : Line) → CleanEdge state operation l next → LineKeeps next own
    clean_keeps own l next (CleanEdge.begins path main b es n e on) = clean_next_keeps own path main _ n on
    clean_keeps own l next (CleanEdge.keeps_single path main done k v n e on) = clean_next_keeps own path main _ n on
    clean_keeps own l next (CleanEdge.untombs path main done child single n e on) = clean_next_keeps own path main _ n on
    clean_keeps own l next (CleanEdge.keeps_link path main done child n on) = clean_next_keeps own path main _ n on
    clean_keeps own l next e = tt

    climb_keeps : (own : List Ref) (l : ClimbLine) (next : Line) → ClimbEdge state operation l next → LineKeeps next own
    climb_keeps own l next (ClimbEdge.goes_up c main single n e on) = climbing_keeps own _ n on
    climb_keeps own l next (ClimbEdge.again c from r n e mine on) = climbing_keeps own c n on
    climb_keeps own l next e = tt

    copy_keeps : (own : List Ref) (l : CopyLine) (next : Line) → CopyEdge state operation l next → ((r : Ref) (read : Read) → l ≡ copy.Read r read → own ≡ []) → CopyKeeps l own →
        LineKeeps next (private_after state own (copy_action l))
    copy_keeps own l next (CopyEdge.gives r read main e clears) none h = read_leaves state own read.indirection read.line ∙ none r read refl
    copy_keeps own l next (CopyEdge.wants_second r main made drawn second) none h =
        λ y c. one_there made y (subst (λ ks. Contains ks y) (ap (λ ks. with_made ks (next_ref state.heap)) h ∙ ap (with_made []) drawn) c)
    copy_keeps own l next (CopyEdge.no_slot from e) none h = tt
    copy_keeps own l next e none h = tt

    walk_next_keeps : (own : List Ref) (pairs : List (ℕ × ℕ)) (todo : List Ref) (next : Line) → WalkNext operation pairs todo next → LineKeeps next own
    walk_next_keeps own pairs todo next WalkNext.walked = tt
    walk_next_keeps own pairs todo next (WalkNext.walks entry more) = tt

    walk_keeps : (own : List Ref) (l : WalkLine) (next : Line) → WalkEdge state operation l next → LineKeeps next own
    walk_keeps own l next (WalkEdge.opens main todo pairs n on) = walk_next_keeps own pairs _ n on
    walk_keeps own l next (WalkEdge.takes todo pairs k v n e on) = walk_next_keeps own _ _ n on
    walk_keeps own l next e = tt

    build_other : (own : List Ref) (l : BuildLine) (next : Line) → BuildEdge state operation l next → (main_of_build l ≡ m0 → ⊥) → LineKeeps next (with_made own (next_ref state.heap))
    build_other own l next (BuildEdge.single_absent path main former made e) differs = λ is c. differs is
    build_other own l next (BuildEdge.single_at path main former position made e) differs = λ is c. differs is
    build_other own l next (BuildEdge.single_beside path main former position made e) differs = λ is c. differs is
    build_other own l next (BuildEdge.pair_made path main position single depth made e) differs = λ is c. differs is
    build_other own l next (BuildEdge.link_top path main position below depth made e f) differs = λ is c. differs is
    build_other own l next (BuildEdge.link_below path main position below depth made e f) differs = λ is c. differs is
    build_other own l next (BuildEdge.rung_made path main position below depth made e) differs = λ is c. differs is
    build_other own l next (BuildEdge.no_slot from e) differs = tt
    build_other own l next (BuildEdge.main_made path main c former made e) differs = tt

    -- with what a RENEW has made
    renew_keeps : (own : List Ref) (l : RenewLine) → (main_of_renew l ≡ m0 → Contains (private_after state own (renew_action state operation l)) k0 → ⊥) → (next : Line) →
        RenewEdge state operation l next →
        LineKeeps next (private_after state own (renew_action state operation l))
    renew_keeps own l h next (RenewEdge.keeps_own path main done g w n e mine on) = renew_next_keeps _ path main _ h n on
    renew_keeps own l h next (RenewEdge.keeps_single path main done k v n e on) = renew_next_keeps _ path main _ h n on
    renew_keeps own l h next (RenewEdge.links path main done child made n e on) = renew_next_keeps _ path main _ h n on
    renew_keeps own l h next (RenewEdge.meets_older path main done g w e other) = h
    renew_keeps own l h next (RenewEdge.reads_on path main done r n e) = h
    renew_keeps own l h next (RenewEdge.gives path main done r child e) = h
    renew_keeps own l h next (RenewEdge.no_slot from e) = tt
    renew_keeps own l h next (RenewEdge.strays from) = tt
    renew_keeps own l h next e = tt

    -- what it makes next is another
    module _ (apart : (made : Ref) → next_ref state.heap ≡ Some made → made ≡ k0 → ⊥) where
      with_another : (own : List Ref) (made : Ref) → next_ref state.heap ≡ Some made → (Contains own k0 → ⊥) → Contains (with_made own (next_ref state.heap)) k0 → ⊥
      with_another own made drawn before c = elim (Contains-push_cases own made k0 (subst (λ o. Contains (with_made own o) k0) drawn c)) [
        | inl was ↦ before was
        | inr same ↦ apart made drawn same
      ]

      with_some : (own : List Ref) → (Contains own k0 → ⊥) → Contains (with_made own (next_ref state.heap)) k0 → ⊥
      with_some own before c = of_next (next_ref state.heap) refl
        where
          of_next : (o : Option Ref) → next_ref state.heap ≡ o → ⊥
          of_next None drawn = none_contained k0 (subst (λ o. Contains (with_made own o) k0) drawn c)
          of_next (Some made) drawn = with_another own made drawn before c

      -- once RENEW has done its step
      renewed_apart : (own : List Ref) (l : RenewLine) → (Contains own k0 → ⊥) → Contains (private_after state own (renew_action state operation l)) k0 → ⊥
      renewed_apart own (renew.Entry path main done) before c = before c
      renewed_apart own (renew.Read path main done r) before c = before (subst (λ ks. Contains ks k0) (read_leaves state own r.indirection r.line) c)
      renewed_apart own (renew.Link path main done child) before c = with_some own before c
      renewed_apart own (renew.Branch path main done) before c = with_some own before c

      build_keeps : (own : List Ref) (l : BuildLine) (next : Line) → BuildEdge state operation l next → (main_of_build l ≡ m0 → Contains own k0 → ⊥) →
          LineKeeps next (with_made own (next_ref state.heap))
      build_keeps own l next (BuildEdge.single_absent path main former made e) h = λ is. with_another own made e (h is)
      build_keeps own l next (BuildEdge.single_at path main former position made e) h = λ is. with_another own made e (h is)
      build_keeps own l next (BuildEdge.single_beside path main former position made e) h = λ is. with_another own made e (h is)
      build_keeps own l next (BuildEdge.pair_made path main position single depth made e) h = λ is. with_another own made e (h is)
      build_keeps own l next (BuildEdge.link_top path main position below depth made e f) h = λ is. with_another own made e (h is)
      build_keeps own l next (BuildEdge.link_below path main position below depth made e f) h = λ is. with_another own made e (h is)
      build_keeps own l next (BuildEdge.rung_made path main position below depth made e) h = λ is. with_another own made e (h is)
      build_keeps own l next (BuildEdge.no_slot from e) h = tt
      build_keeps own l next (BuildEdge.main_made path main c former made e) h = tt

-- it is in use
module _ (limits : Bounds) (ok : AreBounds limits) (xs : List Step) (actor : ℕ) (o : Operation) (runs : operation_of (run limits xs) actor ≡ Some o) where
  pub main_used : (l : BuildLine) → o.line ≡ line.Build l → IsInUse (run limits xs).heap (main_of_build l)
  main_used l on = by l (subst (λ n. AllHold (IsInUse (run limits xs).heap) (run limits xs).heap (line_wants limits.hash o.call o.access n)) on
      (line_finds_in (run limits xs) (safe_along limits ok xs) limits (limits_along limits xs) actor o runs))
    where
      by : (b : BuildLine) → AllHold (IsInUse (run limits xs).heap) (run limits xs).heap (line_wants limits.hash o.call o.access (line.Build b)) → IsInUse (run limits xs).heap (main_of_build b)
      by (build.Single path main site former) h = safe_of h.1.1.0
      by (build.Pair path main position single depth) h = safe_of h.1.1.0
      by (build.Link path main position below depth) h = safe_of h.1.1.0
      by (build.Rung path main position below depth) h = safe_of h.1.1.0
      by (build.Main path main c former) h = safe_of h.1.1.0

  pub renewed_used : (l : RenewLine) → o.line ≡ line.Renew l → IsInUse (run limits xs).heap (main_of_renew l)
  renewed_used l on = by l (subst (λ n. AllHold (IsInUse (run limits xs).heap) (run limits xs).heap (line_wants limits.hash o.call o.access n)) on
      (line_finds_in (run limits xs) (safe_along limits ok xs) limits (limits_along limits xs) actor o runs))
    where
      by : (b : RenewLine) → AllHold (IsInUse (run limits xs).heap) (run limits xs).heap (line_wants limits.hash o.call o.access (line.Renew b)) → IsInUse (run limits xs).heap (main_of_renew b)
      by (renew.Entry path main done) h = safe_of h.1.1.0
      by (renew.Read path main done r) h = safe_of h.1.1.0
      by (renew.Link path main done child) h = safe_of h.1.1.0
      by (renew.Branch path main done) h = safe_of h.1.1.0

-- ---- along every list of steps

module _ (limits : Bounds) (ok : AreBounds limits) (m0 k0 : Ref) (first : (n : ℕ) → birth_of m0 ≤ n → first_births limits ok ≤ n → birth_of k0 ≤ n) where
  abbrev P : State → Operation → Type 0
  P state o = LineKeeps m0 k0 o.line o.private

  first_keeps : (call : Call) → LineKeeps m0 k0 (first_line call) []
  first_keeps (Close h) = tt
  first_keeps (Entries h) = tt
  first_keeps (Count h) = tt
  first_keeps call = tt

  module _ (xs : List Step) (actor : ℕ) (o : Operation) (runs : operation_of (run limits xs) actor ≡ Some o) where
    abbrev state : State
    state = run limits xs

    key_none : (l : KeyLine) → o.line ≡ line.Key l → private_after state o.private (action_of state o) ≡ []
    key_none l on =
        let has = has_at (run_is limits xs ok) (last_of limits xs) (omega arith) actor o (ap (λ (x : State). operation_of x actor) (run_ends limits xs) ∙ runs) in
        let none : o.private ≡ [] = subst (LineHas (run_is limits xs ok) (last_of limits xs) actor o.id o.generation o.private) on has in
        ap (λ n. private_after state o.private (line_action state o n)) on ∙ key_leaves m0 k0 state o.private l ∙ none

    copy_none : (l : CopyLine) → o.line ≡ line.Copy l → (r : Ref) (read : Read) → l ≡ copy.Read r read → o.private ≡ []
    copy_none l on r read is =
        let has = has_at (run_is limits xs ok) (last_of limits xs) (omega arith) actor o (ap (λ (x : State). operation_of x actor) (run_ends limits xs) ∙ runs) in
        subst (LineHas (run_is limits xs ok) (last_of limits xs) actor o.id o.generation o.private) (on ∙ ap line.Copy is) has

    another : (main : Ref) → IsInUse state.heap main → main ≡ m0 → (made : Ref) → next_ref state.heap ≡ Some made → made ≡ k0 → ⊥
    another main there is made drawn same =
        let safe = safe_along limits ok xs in
        let used = subst (IsInUse state.heap) is there in
        let old = safe.births m0 used.0 used.1 in
        let birth = (taken_all state.limits.slots state.heap (safe.sound.heap) (Single 0 0) made drawn).3 in
        let most = first state.heap.births old (grown limits ok xs) in
        omega (arith, most, birth, ap birth_of same)

    goes_on : LineKeeps m0 k0 o.line o.private → LineKeeps m0 k0 (line_after state o o.line) (private_after state o.private (action_of state o))
    goes_on h = by o.line refl (line_after state o o.line) (edge state o o.line) h
      where
        into : (b : BuildLine) → o.line ≡ line.Build b → (next : Line) → BuildEdge state o b next → (main_of_build b ≡ m0 → Contains o.private k0 → ⊥) →
            LineKeeps m0 k0 next (with_made o.private (next_ref state.heap))
        into b on next e h = elim (cases_eq (main_of_build b) m0) [
          | inl same ↦ build_keeps m0 k0 state o (another (main_of_build b) (main_used limits ok xs actor o runs b on) same) o.private b next e h
          | inr differs ↦ build_other m0 k0 state o o.private b next e differs
        ]

        by : (l : Line) → o.line ≡ l → (next : Line) → Edge state o l next → LineKeeps m0 k0 l o.private → LineKeeps m0 k0 next (private_after state o.private (action_of state o))
        by l on next (of_root r n e) h = root_keeps m0 k0 state o _ r n e
        by l on next (of_key r n e) h = none_keeps m0 k0 n _ (key_none r on)
        by l on next (of_build b n e) h =
            subst (LineKeeps m0 k0 n) (sym (ap (λ x. private_after state o.private (line_action state o x)) on ∙ build_makes state o o.private b))
            (into b on n e h)
        by l on next (of_swap why s n e) h = swap_keeps m0 k0 state o _ why s s.line n e
        by l on next (of_renew r n e) h =
            subst (LineKeeps m0 k0 n) (sym (ap (λ x. private_after state o.private (line_action state o x)) on))
            (renew_keeps m0 k0 state o o.private r
            (λ is. renewed_apart m0 k0 state o (another (main_of_renew r) (renewed_used limits ok xs actor o runs r on) is) o.private r (h is)) n e)
        by l on next (of_clean c n e) h = clean_keeps m0 k0 state o _ c n e
        by l on next (of_climb c n e) h = climb_keeps m0 k0 state o _ c n e
        by l on next (of_copy c n e) h =
            subst (LineKeeps m0 k0 n) (sym (ap (λ x. private_after state o.private (line_action state o x)) on)) (copy_keeps m0 k0 state o o.private c n e (copy_none c on) h)
        by l on next (of_walk w n e) h = walk_keeps m0 k0 state o _ w n e
        by l on next (stays answer) h = tt
        by l on next strays h = tt

  all_keep : (steps : List Step) → OfEach P (run limits steps)
  all_keep =
      of_each_along limits P (λ steps actor call number d. first_keeps call)
      (λ steps actor o is g h. rw (mark_only (marks_by (run limits steps) (Some o)) (operation_after (run limits steps) o)) (goes_on steps actor o is h))
      (λ steps actor o answer is a h. tt)
      (λ steps s o after m k other operation found h. rw (mark_only (marks_in (run limits steps) s) operation) h)

  pub keeps : (steps : List Step) (actor : ℕ) (o : Operation) → operation_of (run limits steps) actor ≡ Some o → (l : BuildLine) → o.line ≡ line.Build l → main_of_build l ≡ m0 →
      Contains o.private k0 → ⊥
  keeps steps actor o is l on same = subst (λ n. LineKeeps m0 k0 n o.private) on (of_running P (run limits steps) (all_keep steps) actor o is) same

  pub keeps_renewed : (steps : List Step) (actor : ℕ) (o : Operation) → operation_of (run limits steps) actor ≡ Some o → (l : RenewLine) → o.line ≡ line.Renew l → main_of_renew l ≡ m0 →
      Contains o.private k0 → ⊥
  keeps_renewed steps actor o is l on same = subst (λ n. LineKeeps m0 k0 n o.private) on (of_running P (run limits steps) (all_keep steps) actor o is) same

  pub keeps_copied : (steps : List Step) (actor : ℕ) (o : Operation) → operation_of (run limits steps) actor ≡ Some o → (l : CopyLine) → o.line ≡ line.Copy l → CopyKeeps l o.private
  keeps_copied steps actor o is l on = subst (λ n. LineKeeps m0 k0 n o.private) on (of_running P (run limits steps) (all_keep steps) actor o is)

-- what the main node names isn't private
pub entries_apart : (limits : Bounds) → AreBounds limits → (steps : List Step) (actor : ℕ) (o : Operation) → operation_of (run limits steps) actor ≡ Some o → (l : BuildLine) → o.line ≡ line.Build l →
    (k : Ref) → Contains (entries_of (node_at (run limits steps).heap (main_of_build l))) k → Contains o.private k → ⊥
entries_apart limits ok steps actor o is l on k c =
    keeps limits ok (main_of_build l) k (older limits ok steps (main_of_build l) k (main_used limits ok steps actor o is l on) c) steps actor o is l on refl

pub renewed_entries_apart : (limits : Bounds) → AreBounds limits → (steps : List Step) (actor : ℕ) (o : Operation) → operation_of (run limits steps) actor ≡ Some o → (l : RenewLine) →
    o.line ≡ line.Renew l →
    (k : Ref) → Contains (entries_of (node_at (run limits steps).heap (main_of_renew l))) k → Contains o.private k → ⊥
renewed_entries_apart limits ok steps actor o is l on k c =
    keeps_renewed limits ok (main_of_renew l) k (older limits ok steps (main_of_renew l) k (renewed_used limits ok steps actor o is l on) c) steps actor o is l on refl

-- nor is the main node of which COPY makes a root
pub successor_apart : (limits : Bounds) → AreBounds limits → (steps : List Step) (actor : ℕ) (o : Operation) → operation_of (run limits steps) actor ≡ Some o → (root main : Ref) →
    o.line ≡ line.Copy (copy.Successor root main) → Contains o.private main → ⊥
successor_apart limits ok steps actor o is root main on c =
    none_contained main (subst (λ ks. Contains ks main) (keeps_copied limits ok main main (λ n own grows. own) steps actor o is (copy.Successor root main) on) c)

pub private_second : (limits : Bounds) → AreBounds limits → (steps : List Step) (actor : ℕ) (o : Operation) → operation_of (run limits steps) actor ≡ Some o → (root main successor : Ref) →
    o.line ≡ line.Copy (copy.Second root main successor) → Contains o.private main → main ≡ successor
private_second limits ok steps actor o is root main successor on c =
    keeps_copied limits ok main main (λ n own grows. own) steps actor o is (copy.Second root main successor) on main c
