-- A step of an operation on a writable handle hands on what its line knows of generations.
use Rattle.std.proofs.Common.{◌≡◌, ℕ, ◌∷◌, ◌++◌, [], Bool, true, false, List, length, Some, sym, ap, subst, ◌∙◌, ltb-true, arith}
use Rattle.std.specs.List.{All}
use Rattle.std.proofs.lemmas.List.Elements.{All-append, All-get_or, All-head, All-nil}
use Rattle.proof_generations.specs.Vocabulary.{Call, Clear, Snapshot, Freeze, Writable, Ref, Node, Indirection, node_at, entry_at, entries_of, next_ref, no_ref, BuildLine, CopyLine, KeyLine, Line}
use Rattle.proof_generations.specs.Vocabulary.{Purpose, Operation, Gives, Read, Swap, SwapLine, Climb, CleanLine, ClimbLine, RenewLine, Descriptor, State, is_start, passes, read_step, reading}
use Rattle.proof_generations.specs.Vocabulary.{next_entry, above, higher, line_action, line_after, WithEntry, Is, Holds, AllHold, line_wants, action_wants, Reads, stage_of}
use Rattle.proof_generations.specs.Beneath.machine_model.specs.Operations.{from_root}
use Rattle.proof_generations.specs.Beneath.machine_model.specs.declared.building.BuildLine.TheVariants as build
use Rattle.proof_generations.specs.Beneath.machine_model.specs.declared.copying.CopyLine.TheVariants as copy
use Rattle.proof_generations.specs.Beneath.machine_model.specs.declared.lines.Line.TheVariants as line
use Rattle.proof_generations.specs.Beneath.machine_model.specs.declared.reading.After.TheVariants.{Goes}
use Rattle.proof_generations.specs.Beneath.machine_model.specs.declared.repairs.CleanLine.TheVariants as clean
use Rattle.proof_generations.specs.Beneath.machine_model.specs.declared.repairs.ClimbLine.TheVariants as climb
use Rattle.proof_generations.specs.Beneath.machine_model.specs.declared.repairs.RenewLine.TheVariants as renew
use Rattle.proof_generations.specs.Beneath.machine_model.specs.Edges.Key.{FoundEdge, KeyEdge, answers, sets, asks_sibling, misses_absent, cleans, goes_down, renews, renews_none, finds}
use Rattle.proof_generations.specs.Beneath.machine_model.specs.Edges.Key.{misses_beside, finds_listed, crowds, misses_listed}
use Rattle.proof_generations.specs.Beneath.machine_model.specs.Edges.Key.{entombs_sibling, keeps_sibling}
use Rattle.proof_generations.specs.Beneath.machine_model.specs.Edges.Roots.{CopyEdge, gives_clear, wants_second, offers_one, offers_two, empty_made, offers_cleared}
use Rattle.proof_generations.specs.Beneath.machine_model.specs.Edges.Repairs.{RenewNext, RenewEdge, meets_older, keeps_own, links, branches, CleanNext, unchanged, CleanEdge, meets_link, child_on}
use Rattle.proof_generations.specs.Beneath.machine_model.specs.Edges.Repairs.{child_given, untombs, keeps_link}
use Rattle.proof_generations.specs.Beneath.machine_model.specs.Edges.Repairs.{ClimbingEdge, climbs, ClimbEdge, goes_up, holds, root_on, again}
use Rattle.proof_generations.specs.Beneath.machine_model.specs.Edges.Building.{BuildEdge, single_absent, single_at, single_beside, pair_made, link_top, link_below, rung_made, main_made, SwappedEdge}
use Rattle.proof_generations.specs.Beneath.machine_model.specs.Edges.Building.{entombed, renewed, climbs_on, climb_lost, SwapEdge}
use Rattle.proof_generations.specs.Beneath.machine_model.specs.Edges.Building.{succeeds, is_undecided}
use Rattle.proof_generations.specs.Beneath.machine_model.specs.Edges.Lines.{Edge, of_key, of_build, of_swap, of_renew, of_clean, of_climb, of_copy, of_root, of_walk, stays}
use Rattle.proof_generations.specs.Beneath.machine_model.proofs.Edges.Lines.{edge}
use Rattle.proof_generations.specs.Beneath.proof_memory.proofs.Claims.Uses.{safe_of, meets_of}
use Rattle.proof_generations.specs.Beneath.proof_memory.proofs.Claims.Named.{main_claim, left_claim, past_done}
use Rattle.proof_generations.proofs.Lines.Copy.{same_offer_after}
use Rattle.proof_generations.proofs.Lines.Knows.{Knows, IsInner, KnowsKey, KnowsBuild, KnowsRenew, KnowsClean, KnowsClimb, KnowsCopy, KnowsDone, FallsOn, OwnPath, own_current, own_pushed}
use Rattle.proof_generations.proofs.Lines.Knows.{own_above, one_of}

-- where a try begins
pub begins_falls : (Own Fits Falls : Ref → Type 0) (Late : Read → Type 0) (call : Call) (r : Ref) → Own r → Knows Own Fits Falls Late (from_root call r)
begins_falls Own Fits Falls Late (Clear h) r own = (own, own)
begins_falls Own Fits Falls Late (Snapshot h) r own = (own, own)
begins_falls Own Fits Falls Late (Freeze h) r own = (own, own)
begins_falls Own Fits Falls Late call r own = ((omega arith, one_of Own r own), own)

-- Own, Fits and Falls speak of the time after the step; of the READ in which the line is, Was speaks of the time before it, and Late of that after it. A READ goes
-- on with its indirection, and gives what falls.
pub record OwnStep (state : State) (operation : Operation) (Own Fits Falls : Ref → Type 0) (Was Late : Read → Type 0) (S : Ref → Type 0) : Type 0 where
  pub writable : operation.access ≡ Writable
  pub own_fits : (r : Ref) → Own r → Fits r
  pub entries_fit : (m : Ref) → S m → Falls m → All Fits (entries_of (node_at state.heap m))
  pub goes : (r next : Read) → read_step state operation r ≡ Goes next → next.indirection ≡ r.indirection
  pub own_gives : (r : Read) (m : Ref) → stage_of operation.line ≡ Reads r.indirection r.line → Own r.indirection → read_step state operation r ≡ Gives m → Falls m
  pub late_goes : (r next : Read) → stage_of operation.line ≡ Reads r.indirection r.line → Was r → read_step state operation r ≡ Goes next → Late next
  pub late_gives : (r : Read) (m : Ref) → stage_of operation.line ≡ Reads r.indirection r.line → Was r → read_step state operation r ≡ Gives m → Falls m
  pub looked : (r : Ref) (h : ℕ) (word : Ref) → S r → node_at state.heap r ≡ Indirection h word → is_start operation h ≡ true → Own r
  pub begins : (r : Ref) (h : ℕ) (word : Ref) → S r → node_at state.heap r ≡ Indirection h word → Fits r → Late (reading r)

module _ (state : State) (operation : Operation) (Own Fits Falls : Ref → Type 0) (Was Late : Read → Type 0) (S : Ref → Type 0) (step : OwnStep state operation Own Fits Falls Was Late S) where
  abbrev K : Line → Type 0
  K = Knows Own Fits Falls Late

  abbrev Wants : Line → Type 0
  Wants l = AllHold S state.heap (line_wants state.limits.hash operation.call operation.access l)

  abbrev Acts : Line → Type 0
  Acts l = AllHold S state.heap (action_wants (line_action state operation l))

  -- what is known of a node that the line makes: a clear makes a branch without entries
  abbrev pub LineMakes : Line → Ref → Type 0
  LineMakes (line.Build (build.Single path main site former)) made = Fits made
  LineMakes (line.Build (build.Pair path main position single depth)) made = Falls made
  LineMakes (line.Build (build.Link path main position below depth)) made = Own made
  LineMakes (line.Build (build.Rung path main position below depth)) made = Falls made
  LineMakes (line.Build (build.Main path main c former)) made = Falls made
  LineMakes (line.Renew (renew.Link path main done child)) made = Fits made
  LineMakes (line.Renew (renew.Branch path main done)) made = Falls made
  LineMakes (line.Clean (clean.Contracted path main done)) made = Falls made
  LineMakes (line.Climb (climb.Contracted c main)) made = Falls made
  LineMakes (line.Copy (copy.Empty root main)) made = Falls made
  LineMakes l made = Unit {0}

  abbrev pub Makes : Line → Type 0
  Makes l = (made : Ref) → next_ref state.heap ≡ Some made → LineMakes l made

  -- a READ of the operation's own path
  own_goes : (r next : Read) → read_step state operation r ≡ Goes next → Own r.indirection → Own next.indirection
  own_goes r next e own = subst Own (sym (step.goes r next e)) own

  -- ---- KEY and BUILD

  found_own : (path : List Ref) (main : Ref) (position v : ℕ) (next : Line) → FoundEdge state operation path main position v next → FallsOn Own Fits Falls Was path main → K next
  found_own path main position v next (answers answer e) k = tt
  found_own path main position v next (sets e) k = k
  found_own path main position v next (asks_sibling takes b es e two) k = k
  found_own path main position v next FoundEdge.strays k = tt
  found_own path main position v next edge k = (k, tt)

  -- a writable operation goes down to an indirection of its own generation alone
  key_own : (l : KeyLine) (next : Line) → KeyEdge state operation l next → operation.line ≡ line.Key l → KnowsKey Own Fits Falls Was l → Acts (line.Key l) → K next
  key_own l next (KeyEdge.reads_on path r n e) is k a = (k.0, own_goes r n e k.1)
  key_own l next (KeyEdge.gives path r main e) is k a = (k.0, step.own_gives r main (ap stage_of is) k.1 e)
  key_own l next (misses_absent path main b es e none out) is k a = tt
  key_own l next (cleans path main single e w below) is k a = (own_above Own path k.0 below, own_current Own _ (own_above Own path k.0 below))
  key_own l next (goes_down path main position h word e pass) is k a =
      let mine = step.looked (entry_at state.heap main position) h word (safe_of a.0) e (sym (ap (λ x. passes x (is_start operation h)) step.writable) ∙ pass) in
      (own_pushed Own path k.0 _ mine, mine)
  key_own l next (renews path main position h word e older some) is k a = (k, All-nil Fits)
  key_own l next (renews_none path main position h word e older none) is k a = (k, All-nil Fits)
  key_own l next (finds path main position old v n e same found) is k a = found_own path main position v next found k
  key_own l next (misses_beside path main position old v e apart out) is k a = tt
  key_own l next (finds_listed path main position old v n e same found) is k a = found_own path main position v next found k
  key_own l next (crowds path main position old v e apart last full) is k a = tt
  key_own l next (misses_listed path main position old v e apart last out) is k a = tt
  key_own l next (entombs_sibling path main position former old v e) is k a = (k, tt)
  key_own l next (keeps_sibling path main position former h word e) is k a = (k, tt)
  key_own l next (KeyEdge.strays m) is k a = tt
  key_own l next edge is k a = k

  build_own : (l : BuildLine) (next : Line) → BuildEdge state operation l next → KnowsBuild Own Fits Falls Was l → Makes (line.Build l) → K next
  build_own l next (BuildEdge.no_slot m e) k makes = tt
  build_own l next (single_absent path main former made e) k makes = (k, tt)
  build_own l next (single_at path main former position made e) k makes = (k, makes made e)
  build_own l next (single_beside path main former position made e) k makes = k
  build_own l next (pair_made path main position single depth made e) k makes = (k, makes made e)
  build_own l next (link_top path main position below depth made e top) k makes = (k.0, step.own_fits made (makes made e))
  build_own l next (link_below path main position below depth made e lower) k makes = (k.0, makes made e)
  build_own l next (rung_made path main position below depth made e) k makes = (k.0, makes made e)
  build_own l next (main_made path main c former made e) k makes = (own_current Own path k.0.0, makes made e, k.0.0)

  -- ---- CLIMB, and after a SWAP

  climbing_own : (c : Climb) (next : Line) → ClimbingEdge operation c next → OwnPath Own c.path → K next
  climbing_own c next (climbs below) own = ((own, own_above Own c.path own below), own_current Own _ (own_above Own c.path own below))
  climbing_own c next edge own = tt

  climb_own : (l : ClimbLine) (next : Line) → ClimbEdge state operation l next → operation.line ≡ line.Climb l → KnowsClimb Own Fits Falls Was l → Makes (line.Climb l) → K next
  climb_own l next (ClimbEdge.reads_on c r n e) is k makes = (k.0, own_goes r n e k.1)
  climb_own l next (ClimbEdge.gives c r main e) is k makes = (k.0, step.own_gives r main (ap stage_of is) k.1 e)
  climb_own l next (goes_up c main single n e up) is k makes = climbing_own (higher c single) next up k.0.1
  climb_own l next (holds c main b es e it) is k makes = k
  climb_own l next (ClimbEdge.contracts c main made e) is k makes = (own_current Own (above c.path) k.0.1, makes made e, k.0)
  climb_own l next (root_on c m n e) is k makes = k
  climb_own l next (again c m r n e own up) is k makes = climbing_own c next up k.0
  climb_own l next edge is k makes = tt

  swapped_own : (s : Swap) (node : Node) (why : Purpose) (done : Bool) (next : Line) → SwappedEdge operation node why done next → K (line.Swap why s) → K next
  swapped_own s node why done next (entombed path former single n e up) k = climbing_own _ next up k.2
  swapped_own s node why done next (renewed path) k = (k.2, own_current Own path k.2)
  swapped_own s node why done next (climbs_on c single n e up) k = climbing_own (higher c c.single) next up k.2.1
  swapped_own s node why done next (climb_lost c) k = k.2
  swapped_own s node why done next edge k = tt

  swap_own : (why : Purpose) (s : Swap) (l : SwapLine) (next : Line) → SwapEdge state operation why s l next → K (line.Swap why s) → K next
  swap_own why s l next (SwapEdge.comes_late n e swapped) k = swapped_own s _ why false next swapped k
  swap_own why s l next (succeeds n e swapped) k = swapped_own s _ why true next swapped k
  swap_own why s l next (is_undecided previous n e swapped) k = swapped_own s _ why false next swapped k
  swap_own why s l next (SwapEdge.fails previous n e swapped) k = swapped_own s _ why false next swapped k
  swap_own why s l next edge k = k

  -- ---- RENEW and CLEAN

  -- the next entry fits
  next_fits : (main : Ref) (done : List Ref) → S main → Falls main → Holds S state.heap (Is main (WithEntry (length done))) → Fits (next_entry state main done)
  next_fits main done used falls within =
      All-get_or Fits (entries_of (node_at state.heap main)) (length done) no_ref
      (ltb-true (length done) (length (entries_of (node_at state.heap main))) (meets_of within)) (step.entries_fit main used falls)

  -- with one more
  one_more : (path : List Ref) (main : Ref) (done : List Ref) (other : Ref) → KnowsDone Own Fits Falls Was path main done → Fits other → All Fits (done ++ other ∷ [])
  one_more path main done other k fits = All-append Fits done (other ∷ []) k.1 (one_of Fits other fits)

  renew_next_own : (path : List Ref) (main : Ref) (done : List Ref) (next : Line) → RenewNext state path main done next → FallsOn Own Fits Falls Was path main → All Fits done → K next
  renew_next_own path main done next (RenewNext.more e) k fits = (k, fits)
  renew_next_own path main done next edge k fits = (k, fits)

  renew_own : (l : RenewLine) (next : Line) → RenewEdge state operation l next → operation.line ≡ line.Renew l → KnowsRenew Own Fits Falls Was l → Wants (line.Renew l) → Acts (line.Renew l) →
      Makes (line.Renew l) → K next
  renew_own l next (meets_older path main done h word e older) is k w a makes =
      (k, step.begins (next_entry state main done) h word (safe_of a.0) e (next_fits main done (safe_of (main_claim w)) k.0.1 (left_claim w)))
  renew_own l next (keeps_own path main done h word n e own on) is k w a makes =
      renew_next_own path main _ next on k.0 (one_more path main done _ k (next_fits main done (safe_of (main_claim w)) k.0.1 (left_claim w)))
  renew_own l next (RenewEdge.keeps_single path main done old v n e on) is k w a makes =
      renew_next_own path main _ next on k.0 (one_more path main done _ k (next_fits main done (safe_of (main_claim w)) k.0.1 (left_claim w)))
  renew_own l next (RenewEdge.reads_on path main done r n e) is k w a makes = (k.0, step.late_goes r n (ap stage_of is) k.1 e)
  renew_own l next (RenewEdge.gives path main done r child e) is k w a makes = (k.0, step.late_gives r child (ap stage_of is) k.1 e)
  renew_own l next (links path main done child made n e on) is k w a makes = renew_next_own path main _ next on k.0.0 (one_more path main done made k.0 (makes made e))
  renew_own l next (branches path main done made e) is k w a makes = (own_current Own path k.0.0, makes made e, k.0.0)
  renew_own l next edge is k w a makes = tt

  clean_next_own : (path : List Ref) (main : Ref) (done : List Ref) (next : Line) → CleanNext state path main done next → FallsOn Own Fits Falls Was path main → All Fits done → K next
  clean_next_own path main done next (unchanged e same) k fits = tt
  clean_next_own path main done next edge k fits = (k, fits)

  clean_own : (l : CleanLine) (next : Line) → CleanEdge state operation l next → operation.line ≡ line.Clean l → KnowsClean Own Fits Falls Was l → Wants (line.Clean l) → Acts (line.Clean l) →
      Makes (line.Clean l) → K next
  clean_own l next (CleanEdge.reads_on path r n e) is k w a makes = (k.0, own_goes r n e k.1)
  clean_own l next (CleanEdge.gives path r main e) is k w a makes = (k.0, step.own_gives r main (ap stage_of is) k.1 e)
  clean_own l next (CleanEdge.begins path main b es n e on) is k w a makes = clean_next_own path main [] next on k (All-nil Fits)
  clean_own l next (meets_link path main done h word e) is k w a makes =
      (k, step.begins (next_entry state main done) h word (safe_of a.0) e (next_fits main done (safe_of (main_claim w)) k.0.1 (left_claim w)))
  clean_own l next (CleanEdge.keeps_single path main done old v n e on) is k w a makes =
      clean_next_own path main _ next on k.0 (one_more path main done _ k (next_fits main done (safe_of (main_claim w)) k.0.1 (left_claim w)))
  clean_own l next (child_on path main done r n e) is k w a makes = (k.0, step.late_goes r n (ap stage_of is) k.1 e)
  clean_own l next (child_given path main done r child e) is k w a makes = (k.0, step.late_gives r child (ap stage_of is) k.1 e)
  clean_own l next (untombs path main done child single n e on) is k w a makes =
      let below : All Fits (single ∷ []) = subst (λ x. All Fits (entries_of x)) e (step.entries_fit child (safe_of (past_done w).0) k.1) in
      clean_next_own path main _ next on k.0.0 (one_more path main done single k.0 (All-head Fits single [] below))
  clean_own l next (keeps_link path main done child n on) is k w a makes =
      clean_next_own path main _ next on k.0.0 (one_more path main done _ k.0 (next_fits main done (safe_of (main_claim w)) k.0.0.1 (left_claim w)))
  clean_own l next (CleanEdge.contracts path main done made e) is k w a makes = (own_current Own path k.0.0, makes made e, tt)
  clean_own l next edge is k w a makes = tt

  -- ---- COPY

  copy_own : (l : CopyLine) (next : Line) → CopyEdge state operation l next → operation.line ≡ line.Copy l → KnowsCopy Own Fits Falls Was l → Makes (line.Copy l) → K next
  copy_own l next (CopyEdge.reads_on root r n e) is k makes = (k.0, own_goes r n e k.1)
  copy_own l next (CopyEdge.gives root r main e other) is k makes = (k.0, step.own_gives r main (ap stage_of is) k.1 e)
  copy_own l next (gives_clear root r main e clear) is k makes = k.0
  copy_own l next (wants_second root main made e snapshot) is k makes = k
  copy_own l next (offers_one root main made e other) is k makes = k.0
  copy_own l next (offers_two root main successor made e) is k makes = k.0
  copy_own l next (empty_made root main made e) is k makes = (k, makes made e)
  copy_own l next (offers_cleared root main branch made e) is k makes = k.0
  copy_own l next (CopyEdge.offers offer e) is k makes = k
  copy_own l next (CopyEdge.completes_on c n e) is k makes = subst (λ (d : Descriptor). Own d.root) (sym (same_offer_after state operation c n e)) k
  copy_own l next edge is k makes = tt

  own_by : (l next : Line) → Edge state operation l next → operation.line ≡ l → IsInner l → Knows Own Fits Falls Was l → Wants l → Acts l → Makes l → K next
  own_by l next (of_key m n edge) is i k w a makes = key_own m next edge is k a
  own_by l next (of_build m n edge) is i k w a makes = build_own m next edge k makes
  own_by l next (of_swap why s n edge) is i k w a makes = swap_own why s s.line next edge k
  own_by l next (of_renew m n edge) is i k w a makes = renew_own m next edge is k w a makes
  own_by l next (of_clean m n edge) is i k w a makes = clean_own m next edge is k w a makes
  own_by l next (of_climb m n edge) is i k w a makes = climb_own m next edge is k makes
  own_by l next (of_copy m n edge) is i k w a makes = copy_own m next edge is k makes
  own_by l next (of_root m n edge) is i k w a makes = absurd i
  own_by l next (of_walk m n edge) is i k w a makes = absurd i
  own_by l next (stays answer) is i k w a makes = absurd i
  own_by l next Edge.strays is i k w a makes = absurd i

  pub own_falls : (l : Line) → operation.line ≡ l → IsInner l → Knows Own Fits Falls Was l → Wants l → Acts l → Makes l → K (line_after state operation l)
  own_falls l = own_by l _ (edge state operation l)
