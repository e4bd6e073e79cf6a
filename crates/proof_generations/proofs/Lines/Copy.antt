-- The lines of COPY: which calls stand on them, and that an operation's own offers have its id, its handle to open and the number of its try.
use Rattle.std.proofs.Common.{◌≡◌, ℕ, ◌+◌, Bool, true, false, List, Option, Some, None, refl, sym, subst, arith}
use Rattle.std.proofs.lemmas.Bool.{false≢true}
use Rattle.proof_generations.specs.Vocabulary.{Call, Clear, Snapshot, Freeze, Close, Entries, Count, Ref, Node, Operation, ReadLine, Swap, BuildLine, KeyLine, RenewLine, CleanLine, Climb, SwapLine}
use Rattle.proof_generations.specs.Vocabulary.{copy_action, ClimbLine, CopyLine, Complete, CompleteLine, Descriptor, RootLine, WalkLine, Purpose, Line, Outcome, Step, handle_of, opens_handle, State}
use Rattle.proof_generations.specs.Vocabulary.{word_at, read_action, complete_after, complete_action, line_action, line_after, first_line, operation_after, attempt_after, Moves, Runs, copies}
use Rattle.proof_generations.specs.Vocabulary.{is_clear, is_snapshot}
use Rattle.proof_generations.specs.Beneath.machine_model.specs.declared.reading.After.TheVariants.{Goes as Continues}
use Rattle.proof_generations.specs.Beneath.machine_model.specs.declared.copying.CopyLine.TheVariants as copy
use Rattle.proof_generations.specs.Beneath.machine_model.specs.declared.roots.CompleteLine.TheVariants as complete
use Rattle.proof_generations.specs.Beneath.machine_model.specs.declared.lines.Line.TheVariants as line
use Rattle.proof_generations.specs.Beneath.machine_model.proofs.Actors.{mark_one, mark_only}
use Rattle.proof_generations.proofs.Handles.Running.{Comes, began, rested, went, comes, gave}
use Rattle.proof_generations.specs.Beneath.machine_model.proofs.Edges.Lines.{edge}
use Rattle.proof_generations.specs.Beneath.machine_model.specs.Edges.Building.{BuildEdge, SwappedEdge, entombed, climbs_on, SwapEdge, succeeds, is_undecided}
use Rattle.proof_generations.specs.Beneath.machine_model.specs.Edges.Key.{FoundEdge, KeyEdge, answers, finds, finds_listed}
use Rattle.proof_generations.specs.Beneath.machine_model.specs.Edges.Lines.{Edge, of_root, of_key, of_build, of_swap, of_renew, of_clean, of_climb, of_copy, of_walk, stays}
use Rattle.proof_generations.specs.Beneath.machine_model.specs.Edges.Repairs.{ClimbingEdge, climbs, RenewNext, CleanNext, RenewEdge, keeps_own, links, CleanEdge, untombs, keeps_link, ClimbEdge}
use Rattle.proof_generations.specs.Beneath.machine_model.specs.Edges.Repairs.{goes_up, again}
use Rattle.proof_generations.specs.Beneath.machine_model.specs.Edges.Roots.{RootEdge, begins_copy, CopyEdge, gives_clear, wants_second, offers_one, offers_two, empty_made, offers_cleared, offers}
use Rattle.proof_generations.specs.Beneath.machine_model.specs.Edges.Walking.{WalkNext, walked, WalkEdge, takes}

-- ---- the calls

-- a writable snapshot offers a second root, a freeze and a clear none
abbrev pub second_fits : Call → Option Ref → Bool
second_fits (Snapshot h) (Some second) = true
second_fits (Clear h) None = true
second_fits (Freeze h) None = true
second_fits call second = false

-- ---- own offers

-- the offer of this try of a call
pub record IsOwn (call : Call) (id : ℕ) (opens : Option ℕ) (attempt : ℕ) (offer : Descriptor) : Type 0 where
  pub its : offer.operation ≡ id
  pub at_try : offer.attempt ≡ attempt
  pub number : offer.opens ≡ opens
  pub second : second_fits call offer.second ≡ true

module _ (call : Call) (id : ℕ) (opens : Option ℕ) (attempt : ℕ) where
  abbrev pub CopyFits : CopyLine → Type 0
  CopyFits (copy.Read root read) = copies call ≡ true
  CopyFits (copy.Successor root main) = opens_handle call ≡ true
  CopyFits (copy.Second root main successor) = is_snapshot call ≡ true
  CopyFits (copy.Empty root main) = is_clear call ≡ true
  CopyFits (copy.Cleared root main branch) = is_clear call ≡ true
  CopyFits (copy.Offer offer) = IsOwn call id opens (attempt + 1) offer
  CopyFits (copy.Complete c) = IsOwn call id opens attempt c.offer

  abbrev pub LineFits : Line → Type 0
  LineFits (line.Copy l) = CopyFits l
  LineFits l = Unit {0}

-- the operation's line is one of its call, with its own offer
abbrev pub HasOwn : Operation → Type 0
HasOwn operation = LineFits operation.call operation.id operation.opens operation.attempt operation.line

-- ---- no other program leads there, but for ROOT

abbrev pub is_copy : Line → Bool
is_copy (line.Copy l) = true
is_copy l = false

none_fits : (call : Call) (id : ℕ) (opens : Option ℕ) (attempt : ℕ) (l : Line) → is_copy l ≡ false → LineFits call id opens attempt l
none_fits call id opens attempt (line.Copy l) e = absurd (false≢true (sym e))
none_fits call id opens attempt l e = tt

abbrev pub is_root : Line → Bool
is_root (line.Root l) = true
is_root l = false

module _ (state : State) (operation : Operation) where
  climbing_no : (c : Climb) (next : Line) → ClimbingEdge operation c next → is_copy next ≡ false
  climbing_no c next (climbs below) = refl
  climbing_no c next edge = refl

  found_no : (path : List Ref) (main : Ref) (position v : ℕ) (next : Line) → FoundEdge state operation path main position v next → is_copy next ≡ false
  found_no path main position v next (answers answer e) = refl
  found_no path main position v next edge = refl

  key_no : (l : KeyLine) (next : Line) → KeyEdge state operation l next → is_copy next ≡ false
  key_no l next (finds path main position k v n e same found) = found_no path main position v next found
  key_no l next (finds_listed path main position k v n e same found) = found_no path main position v next found
  key_no l next edge = refl

  swapped_no : (node : Node) (why : Purpose) (done : Bool) (next : Line) → SwappedEdge operation node why done next → is_copy next ≡ false
  swapped_no node why done next (entombed path former single n e up) = climbing_no _ next up
  swapped_no node why done next (climbs_on c single n e up) = climbing_no _ next up
  swapped_no node why done next edge = refl

  swap_no : (why : Purpose) (s : Swap) (l : SwapLine) (next : Line) → SwapEdge state operation why s l next → is_copy next ≡ false
  swap_no why s l next (SwapEdge.comes_late n e swapped) = swapped_no _ why false next swapped
  swap_no why s l next (succeeds n e swapped) = swapped_no _ why true next swapped
  swap_no why s l next (is_undecided previous n e swapped) = swapped_no _ why false next swapped
  swap_no why s l next (SwapEdge.fails previous n e swapped) = swapped_no _ why false next swapped
  swap_no why s l next edge = refl

  renew_next_no : (path : List Ref) (main : Ref) (done : List Ref) (next : Line) → RenewNext state path main done next → is_copy next ≡ false
  renew_next_no path main done next (RenewNext.more e) = refl
  renew_next_no path main done next edge = refl

  renew_no : (l : RenewLine) (next : Line) → RenewEdge state operation l next → is_copy next ≡ false
  renew_no l next (keeps_own path main done g w n e own on) = renew_next_no path main _ next on
  renew_no l next (RenewEdge.keeps_single path main done k v n e on) = renew_next_no path main _ next on
  renew_no l next (links path main done child made n e on) = renew_next_no path main _ next on
  renew_no l next edge = refl

  clean_next_no : (path : List Ref) (main : Ref) (done : List Ref) (next : Line) → CleanNext state path main done next → is_copy next ≡ false
  clean_next_no path main done next (CleanNext.more e) = refl
  clean_next_no path main done next edge = refl

  clean_no : (l : CleanLine) (next : Line) → CleanEdge state operation l next → is_copy next ≡ false
  clean_no l next (CleanEdge.begins path main b es n e on) = clean_next_no path main _ next on
  clean_no l next (CleanEdge.keeps_single path main done k v n e on) = clean_next_no path main _ next on
  clean_no l next (untombs path main done child single n e on) = clean_next_no path main _ next on
  clean_no l next (keeps_link path main done child n on) = clean_next_no path main _ next on
  clean_no l next edge = refl

  climb_no : (l : ClimbLine) (next : Line) → ClimbEdge state operation l next → is_copy next ≡ false
  climb_no l next (goes_up c main single n e up) = climbing_no _ next up
  climb_no l next (again c r i n e own up) = climbing_no _ next up
  climb_no l next edge = refl

  walk_next_no : (pairs : List (ℕ × ℕ)) (todo : List Ref) (next : Line) → WalkNext operation pairs todo next → is_copy next ≡ false
  walk_next_no pairs todo next walked = refl
  walk_next_no pairs todo next edge = refl

  walk_no : (l : WalkLine) (next : Line) → WalkEdge state operation l next → is_copy next ≡ false
  walk_no l next (WalkEdge.opens main todo pairs n on) = walk_next_no pairs _ next on
  walk_no l next (takes todo pairs k v n e on) = walk_next_no _ _ next on
  walk_no l next edge = refl

  build_no : (l : BuildLine) (next : Line) → BuildEdge state operation l next → is_copy next ≡ false
  build_no l next (BuildEdge.no_slot b e) = refl
  build_no l next edge = refl

  no_copy : (l next : Line) → Edge state operation l next → is_copy l ≡ false → is_root l ≡ false → is_copy next ≡ false
  no_copy l next (of_root r n edge) c f = absurd (false≢true (sym f))
  no_copy l next (of_key k n edge) c f = key_no k next edge
  no_copy l next (of_build b n edge) c f = build_no b next edge
  no_copy l next (of_swap why s n edge) c f = swap_no why s s.line next edge
  no_copy l next (of_renew r n edge) c f = renew_no r next edge
  no_copy l next (of_clean k n edge) c f = clean_no k next edge
  no_copy l next (of_climb k n edge) c f = climb_no k next edge
  no_copy l next (of_copy k n edge) c f = absurd (false≢true (sym c))
  no_copy l next (of_walk k n edge) c f = walk_no k next edge
  no_copy l next (stays answer) c f = refl
  no_copy l next Edge.strays c f = refl

  pub no_copy_after : (l : Line) → is_copy l ≡ false → is_root l ≡ false → is_copy (line_after state operation l) ≡ false
  no_copy_after l c f = no_copy l _ (edge state operation l) c f

-- ---- after a step

-- a READ is no offer
pub read_tries : (attempt : ℕ) (i : Ref) (l : ReadLine) → attempt_after attempt (read_action i l) ≡ attempt
read_tries attempt i l = grind arith

pub complete_tries : (attempt : ℕ) (c : Complete) → attempt_after attempt (complete_action c) ≡ attempt
complete_tries attempt c = by c.line
  where
    by : (l : CompleteLine) → attempt_after attempt (complete_action (record c { line = l })) ≡ attempt
    by (complete.Reading l) = read_tries attempt c.offer.root l
    by (complete.Swap main) = refl

module _ (state : State) (operation : Operation) where
  abbrev Fits : ℕ → Line → Type 0
  Fits attempt l = LineFits operation.call operation.id operation.opens attempt l

  opening : (call : Call) → copies call ≡ true → is_clear call ≡ false → opens_handle call ≡ true
  opening (Clear h) c n = absurd (false≢true (sym n))
  opening (Snapshot h) c n = refl
  opening (Freeze h) c n = refl
  opening call c n = absurd (false≢true c)

  second_none : (call : Call) → opens_handle call ≡ true → is_snapshot call ≡ false → second_fits call None ≡ true
  second_none (Snapshot h) o n = absurd (false≢true (sym n))
  second_none (Freeze h) o n = refl
  second_none call o n = absurd (false≢true o)

  clear_fits : (call : Call) → is_clear call ≡ true → second_fits call None ≡ true
  clear_fits (Clear h) e = refl
  clear_fits call e = absurd (false≢true e)

  snapshot_fits : (call : Call) (made : Ref) → is_snapshot call ≡ true → second_fits call (Some made) ≡ true
  snapshot_fits (Snapshot h) made e = refl
  snapshot_fits call made e = absurd (false≢true e)

  pub same_offer_after : (c next : Complete) → complete_after state.heap operation.access (word_at state (handle_of operation.call)) c ≡ Continues next → next.offer ≡ c.offer
  same_offer_after c next e = grind arith

  copy_fits : (l : CopyLine) (next : Line) → CopyEdge state operation l next → CopyFits operation.call operation.id operation.opens operation.attempt l →
      Fits (attempt_after operation.attempt (copy_action l)) next
  copy_fits l next (CopyEdge.reads_on r read n e) h = h
  copy_fits l next (CopyEdge.gives r read main e other) h = opening operation.call h other
  copy_fits l next (gives_clear r read main e clear) h = clear
  copy_fits l next (wants_second r main made e snapshot) h = snapshot
  copy_fits l next (offers_one r main made e other) h = record { its = refl; at_try = refl; number = refl; second = second_none operation.call h other }
  copy_fits l next (offers_two r main successor made e) h = record { its = refl; at_try = refl; number = refl; second = snapshot_fits operation.call made h }
  copy_fits l next (empty_made r main made e) h = h
  copy_fits l next (offers_cleared r main branch made e) h = record { its = refl; at_try = refl; number = refl; second = clear_fits operation.call h }
  copy_fits l next (offers offer e) h = h
  copy_fits l next (CopyEdge.completes_on c n e) h =
      rw complete_tries (subst (λ o. IsOwn operation.call operation.id operation.opens operation.attempt o) (sym (same_offer_after c n e)) h)
  copy_fits l next edge h = tt

  root_fits : (attempt : ℕ) (l : RootLine) (next : Line) → RootEdge state operation l next → Fits attempt next
  root_fits attempt l next (begins_copy k r e c) = c
  root_fits attempt l next edge = tt

  fits_by : (l next : Line) → Edge state operation l next → Fits operation.attempt l → Fits (attempt_after operation.attempt (line_action state operation l)) next
  fits_by l next (of_root r n edge) h = root_fits _ r next edge
  fits_by l next (of_copy k n edge) h = copy_fits k next edge h
  fits_by l next edge h = none_fits operation.call operation.id operation.opens (attempt_after operation.attempt (line_action state operation l)) next
      (no_copy state operation l next edge refl refl)

  line_fits : (l : Line) → Fits operation.attempt l → Fits (attempt_after operation.attempt (line_action state operation l)) (line_after state operation l)
  line_fits l h = fits_by l _ (edge state operation l) h

-- ---- along a run

marked_has : (m : Option ℕ) (operation : Operation) → HasOwn operation → HasOwn (mark_one m operation)
marked_has m operation h = rw (mark_only m operation) h

first_fits : (call : Call) (id : ℕ) (opens : Option ℕ) (attempt : ℕ) → LineFits call id opens attempt (first_line call)
first_fits (Entries h) id opens attempt = tt
first_fits (Count h) id opens attempt = tt
first_fits (Close h) id opens attempt = tt
first_fits call id opens attempt = tt

-- all running operations do
abbrev pub AllOwn : State → Type 0
AllOwn state = (k : ℕ) (operation : Operation) → Runs state k operation → HasOwn operation

own_by : (state : State) (s : Step) → AllOwn state → (k : ℕ) (found : Operation) → Comes state s k found → HasOwn found
own_by state s all k found (began call number is d it) = subst HasOwn (sym it) (first_fits call _ _ 0)
own_by state s all k found (rested was at_k it other_step) = subst HasOwn (sym it) (marked_has _ was (all k was at_k))
own_by state s all k found (went was is at_k g it) = subst HasOwn (sym it) (marked_has _ (operation_after state was) (line_fits state was was.line (all k was at_k)))
own_by state s all k found (gave was answer is at_k may it) = subst HasOwn (sym it) tt

pub own_after : (state : State) (s : Step) (o : Outcome) (after : State) → Moves state s o after → AllOwn state → AllOwn after
own_after state s o after m all k found at_k = own_by state s all k found (comes state s o after m k found at_k)
