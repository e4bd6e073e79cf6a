-- A step leads to lines that may come to read what the line before might, a root that stands, or an entry of a main node that was given.
use Rattle.std.proofs.Common.{◌≡◌, ℕ, ◌<◌, nat_lt, Bool, true, false, List, [], ◌∷◌, ◌++◌, length, refl, sym, ◌∙◌, subst, arith, ltb-true}
use Rattle.std.proofs.lemmas.Bool.{true≢false}
use Rattle.std.specs.List.{All}
use Rattle.std.proofs.lemmas.List.{get_or_default}
use Rattle.std.proofs.lemmas.List.Elements.{All-nil, All-cons, All-tail, All-append, All-push}
use Rattle.proof_shape.specs.Vocabulary.{HashKind, Writable, Ref, Node, Heap, node_at, entry_at, entries_of, no_ref, BuildLine, CopyLine, KeyLine, Line, Purpose, Operation, After, Gives, Read, Swap}
use Rattle.proof_shape.specs.Vocabulary.{SwapLine, Climb, CleanLine, ClimbLine, RenewLine, Complete, CompleteLine, Descriptor, RootLine, RootWord, Plain, Offer, WalkLine, handle_of, current, State}
use Rattle.proof_shape.specs.Vocabulary.{word_at, root_of, read_step, completing, of_offer, after_complete, after_root_word, after_completing, first_of, rest_of, higher, line_after, IsInUse}
use Rattle.proof_shape.specs.Vocabulary.{AllHold, line_wants, swap_wants, path_wants}
use Rattle.proof_shape.specs.Beneath.machine_model.specs.declared.lines.Line.TheVariants as line
use Rattle.proof_shape.specs.Beneath.machine_model.specs.declared.reading.After.TheVariants.{Goes}
use Rattle.proof_shape.specs.Beneath.machine_model.specs.declared.roots.RootLine.TheVariants as root
use Rattle.proof_shape.specs.Beneath.machine_model.specs.Edges.Key.{FoundEdge, KeyEdge, answers, misses_absent, cleans, goes_down, finds, misses_beside, finds_listed, crowds, misses_listed}
use Rattle.proof_shape.specs.Beneath.machine_model.specs.Edges.Roots.{root_step, RootEdge, begins_key, begins_copy, CopyEdge, gives_clear, carried_out, taken_back}
use Rattle.proof_shape.specs.Beneath.machine_model.specs.Edges.Repairs.{RenewNext, RenewEdge, meets_older, keeps_own, links, CleanNext, unchanged, CleanEdge, meets_link, child_on}
use Rattle.proof_shape.specs.Beneath.machine_model.specs.Edges.Repairs.{child_given, untombs, keeps_link}
use Rattle.proof_shape.specs.Beneath.machine_model.specs.Edges.Repairs.{ClimbingEdge, climbs, ClimbEdge, goes_up, is_gone, gives_up, root_on, again, other_root}
use Rattle.proof_shape.specs.Beneath.machine_model.specs.Edges.Building.{BuildEdge, SwappedEdge, entombed, renewed, climbs_on, climb_lost, SwapEdge, succeeds, is_undecided}
use Rattle.proof_shape.specs.Beneath.machine_model.specs.Edges.Walking.{WalkNext, walked, walks, WalkEdge, opens, takes}
use Rattle.proof_shape.specs.Beneath.machine_model.specs.Edges.Lines.{Edge, of_root, of_key, of_build, of_swap, of_renew, of_clean, of_climb, of_copy, of_walk, stays}
use Rattle.proof_shape.specs.Beneath.machine_model.proofs.Edges.Lines.{edge}
use Rattle.proof_shape.specs.Beneath.proof_memory.proofs.Claims.Uses.{safe_of, meets_of, fact_of, last_hold}
use Rattle.proof_shape.specs.Beneath.proof_memory.proofs.Claims.Named.{main_claim, past_place, left_claim}
use Rattle.proof_shape.specs.Beneath.proof_commits.proofs.Lines.Stages.{Remembers}
use Rattle.proof_shape.specs.Beneath.proof_contents.proofs.Lines.Repair.{read_stays}
use Rattle.proof_generations.proofs.Lines.Copy.{same_offer_after}
use Rattle.proof_shape.proofs.Opened.Lines.{RootOpens, KeyOpens, BuildOpens, WhyOpens, RenewOpens, CleanOpens, ClimbOpens, CopyOpens, WalkOpens, Opens, current_opens, above_opens, above_current}

module _ (kind : HashKind) (state : State) (operation : Operation) (O : Ref → Type 0) (G : Ref → Ref → Type 0)
    (entry_opens : (i m : Ref) → G i m → IsInUse state.heap m → (p : ℕ) → p < length (entries_of (node_at state.heap m)) → O (entry_at state.heap m p))
    (word_opens : O (root_of (word_at state (handle_of operation.call)))) where
  abbrev heap : Heap
  heap = state.heap

  abbrev Claims : Line → Type 0
  Claims l = AllHold (IsInUse heap) heap (line_wants kind operation.call operation.access l)

  abbrev Kept : Line → Type 0
  Kept l = Remembers G (operation.access ≡ Writable) l

  -- a READ goes on with its indirection
  reads : (r n : Read) → read_step state operation r ≡ Goes n → O r.indirection → O n.indirection
  reads r n e o = subst O (sym (read_stays state operation r n e)) o

  -- ---- ROOT

  complete_stays : (c : Complete) (out : After CompleteLine Bool) → O c.offer.root → (after : After RootLine Ref) →
      after ≡ after_completing (of_offer c.offer out) → ((l : RootLine) → after ≡ Goes l → RootOpens O l)
  complete_stays c (Goes l) o after e root.Read is = tt
  complete_stays c (Goes l) o after e (root.Completing d) is =
      let same : Goes (root.Completing (record { offer = c.offer; line = l })) ≡ Goes (root.Completing d) = sym e ∙ is in
      let complete_is : record { offer = c.offer; line = l } ≡ d = cc in
      subst (λ (x : Complete). O x.offer.root) complete_is o
  complete_stays c (Gives done) o after e root.Read is = tt
  complete_stays c (Gives done) o after e (root.Completing d) is = let wrong : ⊥ = cc in absurd wrong

  -- what a root word leads to
  word_goes : (word : RootWord) → O (root_of word) → ((l : RootLine) → after_root_word word ≡ Goes l → RootOpens O l) × ((r : Ref) → after_root_word word ≡ Gives r → O r)
  word_goes (Plain r) o = ((λ l e. let wrong : ⊥ = cc in absurd wrong), λ q e. (let same : r ≡ q = cc in subst O same o))
  word_goes (Offer offer) o = (by_line, λ r e. let wrong : ⊥ = cc in absurd wrong)
    where
      by_line : (l : RootLine) → after_root_word (Offer offer) ≡ Goes l → RootOpens O l
      by_line root.Read e = tt
      by_line (root.Completing d) e =
          let same : Goes (root.Completing (completing offer)) ≡ Goes (root.Completing d) = e in
          let complete_is : completing offer ≡ d = cc in
          subst (λ (x : Complete). O x.offer.root) complete_is o

  completing_gives : (c : Complete) (out : After Complete Bool) (r : Ref) → after_completing out ≡ Gives r → ⊥
  completing_gives c (Goes d) r e = let wrong : ⊥ = cc in absurd wrong
  completing_gives c (Gives done) r e = let wrong : ⊥ = cc in absurd wrong

  -- what a ROOT goes on with, or gives
  root_goes : (l : RootLine) → RootOpens O l → (out : After RootLine Ref) → out ≡ root_step state operation l →
      ((q : RootLine) → out ≡ Goes q → RootOpens O q) × ((r : Ref) → out ≡ Gives r → O r)
  root_goes root.Read o out e =
      let both = word_goes (word_at state (handle_of operation.call)) word_opens in ((λ q is. both.0 q (sym e ∙ is)), λ r is. both.1 r (sym e ∙ is))
  root_goes (root.Completing c) o out e = (
    complete_stays c (after_complete heap operation.access (word_at state (handle_of operation.call)) c.offer c.line) o out e,
    λ r is. absurd (completing_gives c (of_offer c.offer (after_complete heap operation.access (word_at state (handle_of operation.call)) c.offer c.line)) r (sym e ∙ is)),
  )

  root_opens : (l : RootLine) (next : Line) → RootEdge state operation l next → RootOpens O l → Opens O next
  root_opens l next (RootEdge.completes_on m n e) o = (root_goes m o _ refl).0 n e
  root_opens l next (begins_key m r e apart) o = let given = (root_goes m o _ refl).1 r e in (All-cons O r [] given (All-nil O), given)
  root_opens l next (begins_copy m r e copies) o = let given = (root_goes m o _ refl).1 r e in (given, given)

  -- ---- KEY and BUILD

  found_opens : (path : List Ref) (main : Ref) (position v : ℕ) (next : Line) → FoundEdge state operation path main position v next → All O path → Opens O next
  found_opens path main position v next (answers answer e) o = tt
  found_opens path main position v next FoundEdge.strays o = tt
  found_opens path main position v next edge o = o

  key_opens : (l : KeyLine) (next : Line) → KeyEdge state operation l next → Claims (line.Key l) → Kept (line.Key l) → KeyOpens O l → Opens O next
  key_opens l next (KeyEdge.reads_on path r n e) c g o = (o.0, reads r n e o.1)
  key_opens l next (KeyEdge.gives path r main e) c g o = o.0
  key_opens l next (misses_absent path main b es e none out) c g o = tt
  key_opens l next (cleans path main single e w below) c g o = (above_opens O path o, above_current O path below o)
  key_opens l next (goes_down path main position h w e pass) c g o =
      let entry = entry_opens (current path) main g (safe_of (main_claim c)) position (ltb-true position _ (meets_of (past_place c).0)) in
      (All-push O path (entry_at heap main position) o entry, entry)
  key_opens l next (finds path main position k v n e same found) c g o = found_opens path main position v next found o
  key_opens l next (misses_beside path main position k v e apart out) c g o = tt
  key_opens l next (finds_listed path main position k v n e same found) c g o = found_opens path main position v next found o
  key_opens l next (crowds path main position k v e apart last full) c g o = tt
  key_opens l next (misses_listed path main position k v e apart last out) c g o = tt
  key_opens l next (KeyEdge.strays m) c g o = tt
  key_opens l next edge c g o = o

  build_opens : (l : BuildLine) (next : Line) → BuildEdge state operation l next → BuildOpens O l → Opens O next
  build_opens l next (BuildEdge.no_slot m e) o = tt
  build_opens l next edge o = o

  -- ---- CLIMB, and after a SWAP

  climbing_opens : (c : Climb) (next : Line) → ClimbingEdge operation c next → All O c.path → Opens O next
  climbing_opens c next (climbs below) o = (o, above_current O c.path below o)
  climbing_opens c next edge o = tt

  climb_opens : (l : ClimbLine) (next : Line) → ClimbEdge state operation l next → ClimbOpens O l → Opens O next
  climb_opens l next (ClimbEdge.reads_on c r n e) o = (o.0, reads r n e o.1)
  climb_opens l next (ClimbEdge.gives c r main e) o = o.0
  climb_opens l next (goes_up c main single n e up) o = climbing_opens (higher c single) next up (above_opens O c.path o)
  climb_opens l next (is_gone c main b es e gone) o = tt
  climb_opens l next (gives_up c main e) o = tt
  climb_opens l next (root_on c m n e) o = (o.0, (root_goes m o.1 _ refl).0 n e)
  climb_opens l next (again c m r n e own up) o = climbing_opens c next up o.0
  climb_opens l next (other_root c m r e other) o = tt
  climb_opens l next (ClimbEdge.strays m) o = tt
  climb_opens l next edge o = o

  path_long : (path : List Ref) (s : Swap) (l : SwapLine) → AllHold (IsInUse heap) heap (swap_wants (record s { line = l }) ++ path_wants path) → nat_lt 0 (length path) ≡ true
  path_long path s l c = fact_of (last_hold (IsInUse heap) heap (swap_wants (record s { line = l })) (path_wants path) c).1.0

  swapped_opens : (s : Swap) (node : Node) (why : Purpose) (done : Bool) (next : Line) → SwappedEdge operation node why done next → Claims (line.Swap why s) → WhyOpens O why → Opens O next
  swapped_opens s node why done next (entombed path former single n e up) c o = climbing_opens _ next up o
  swapped_opens s node why done next (renewed path) c o = (o, current_opens O path (path_long path s s.line c) o)
  swapped_opens s node why done next (climbs_on b single n e up) c o = climbing_opens (higher b b.single) next up (above_opens O b.path o)
  swapped_opens s node why done next (climb_lost b) c o = (o, tt)
  swapped_opens s node why done next edge c o = tt

  swap_opens : (why : Purpose) (s : Swap) (l : SwapLine) (next : Line) → SwapEdge state operation why s l next → Claims (line.Swap why s) → WhyOpens O why → Opens O next
  swap_opens why s l next (SwapEdge.comes_late n e swapped) c o = swapped_opens s _ why false next swapped c o
  swap_opens why s l next (succeeds n e swapped) c o = swapped_opens s _ why true next swapped c o
  swap_opens why s l next (is_undecided previous n e swapped) c o = swapped_opens s _ why false next swapped c o
  swap_opens why s l next (SwapEdge.fails previous n e swapped) c o = swapped_opens s _ why false next swapped c o
  swap_opens why s l next edge c o = o

  -- ---- RENEW and CLEAN

  renew_next_opens : (path : List Ref) (main : Ref) (done : List Ref) (next : Line) → RenewNext state path main done next → All O path → Opens O next
  renew_next_opens path main done next (RenewNext.more e) o = o
  renew_next_opens path main done next edge o = o

  renew_opens : (l : RenewLine) (next : Line) → RenewEdge state operation l next → Claims (line.Renew l) → Kept (line.Renew l) → RenewOpens O l → Opens O next
  renew_opens l next (meets_older path main done h w e older) c g o =
      (o, entry_opens (current path) main g (safe_of (main_claim c)) (length done) (ltb-true (length done) _ (meets_of (left_claim c))))
  renew_opens l next (keeps_own path main done h w n e own on) c g o = renew_next_opens path main _ next on o
  renew_opens l next (RenewEdge.keeps_single path main done k v n e on) c g o = renew_next_opens path main _ next on o
  renew_opens l next (RenewEdge.reads_on path main done r n e) c g o = (o.0, reads r n e o.1)
  renew_opens l next (RenewEdge.gives path main done r child e) c g o = o.0
  renew_opens l next (links path main done child made n e on) c g o = renew_next_opens path main _ next on o
  renew_opens l next (RenewEdge.no_slot m e) c g o = tt
  renew_opens l next (RenewEdge.strays m) c g o = tt
  renew_opens l next edge c g o = o

  clean_next_opens : (path : List Ref) (main : Ref) (done : List Ref) (next : Line) → CleanNext state path main done next → All O path → Opens O next
  clean_next_opens path main done next (unchanged e same) o = tt
  clean_next_opens path main done next edge o = o

  clean_opens : (l : CleanLine) (next : Line) → CleanEdge state operation l next → Claims (line.Clean l) → Kept (line.Clean l) → CleanOpens O l → Opens O next
  clean_opens l next (CleanEdge.reads_on path r n e) c g o = (o.0, reads r n e o.1)
  clean_opens l next (CleanEdge.gives path r main e) c g o = o.0
  clean_opens l next (CleanEdge.begins path main b es n e on) c g o = clean_next_opens path main [] next on o
  clean_opens l next (meets_link path main done h w e) c g o =
      (o, entry_opens (current path) main g (safe_of (main_claim c)) (length done) (ltb-true (length done) _ (meets_of (left_claim c))))
  clean_opens l next (CleanEdge.keeps_single path main done k v n e on) c g o = clean_next_opens path main _ next on o
  clean_opens l next (child_on path main done r n e) c g o = (o.0, reads r n e o.1)
  clean_opens l next (child_given path main done r child e) c g o = o.0
  clean_opens l next (untombs path main done child single n e on) c g o = clean_next_opens path main _ next on o
  clean_opens l next (keeps_link path main done child n on) c g o = clean_next_opens path main _ next on o
  clean_opens l next edge c g o = tt

  -- ---- COPY and WALK

  copy_opens : (l : CopyLine) (next : Line) → CopyEdge state operation l next → CopyOpens O l → Opens O next
  copy_opens l next (CopyEdge.reads_on i r n e) o = (o.0, reads r n e o.1)
  copy_opens l next (CopyEdge.gives i r main e other) o = o.0
  copy_opens l next (gives_clear i r main e clear) o = o.0
  copy_opens l next (CopyEdge.no_slot m e) o = tt
  copy_opens l next (CopyEdge.comes_late offer e) o = tt
  copy_opens l next (CopyEdge.completes_on c n e) o = subst (λ (d : Descriptor). O d.root) (sym (same_offer_after state operation c n e)) o
  copy_opens l next (carried_out c done e is) o = tt
  copy_opens l next (taken_back c done e none) o = tt
  copy_opens l next edge o = o

  first_all : (todo : List Ref) → nat_lt 0 (length todo) ≡ true → All O todo → O (first_of todo)
  first_all [] e all = absurd (true≢false (sym e))
  first_all (entry ∷ todo) e all = all 0 entry (omega arith)

  rest_all : (todo : List Ref) → All O todo → All O (rest_of todo)
  rest_all [] all = all
  rest_all (entry ∷ todo) all = All-tail O entry todo all

  entries_all : (i m : Ref) → G i m → IsInUse heap m → All O (entries_of (node_at heap m))
  entries_all i m g used k d within = subst O (get_or_default (entries_of (node_at heap m)) k no_ref d within) (entry_opens i m g used k within)

  walk_next_opens : (pairs : List (ℕ × ℕ)) (todo : List Ref) (next : Line) → WalkNext operation pairs todo next → All O todo → Opens O next
  walk_next_opens pairs todo next walked all = tt
  walk_next_opens pairs todo next (walks entry rest) all = all

  walk_opens : (l : WalkLine) (next : Line) → WalkEdge state operation l next → Claims (line.Walk l) → Kept (line.Walk l) → WalkOpens O l → Opens O next
  walk_opens l next WalkEdge.begins c g o = (All-nil O, word_opens)
  walk_opens l next (WalkEdge.reads_on r n todo pairs e) c g o = (o.0, reads r n e o.1)
  walk_opens l next (WalkEdge.gives r main todo pairs e) c g o = o.0
  walk_opens l next (opens main todo pairs n on) c g o =
      walk_next_opens pairs _ next on (All-append O (entries_of (node_at heap main)) todo (entries_all g.0 main g.1 (safe_of c.1.0)) o)
  walk_opens l next (WalkEdge.goes_down todo pairs h w e) c g o = (rest_all todo o, first_all todo (fact_of c.1.0) o)
  walk_opens l next (takes todo pairs k v n e on) c g o = walk_next_opens _ _ next on (rest_all todo o)
  walk_opens l next (WalkEdge.strays m) c g o = tt

  -- ---- all lines

  opens_by : (l next : Line) → Edge state operation l next → Claims l → Kept l → Opens O l → Opens O next
  opens_by l next (of_root m n edge) c g o = root_opens m next edge o
  opens_by l next (of_key m n edge) c g o = key_opens m next edge c g o
  opens_by l next (of_build m n edge) c g o = build_opens m next edge o
  opens_by l next (of_swap why s n edge) c g o = swap_opens why s s.line next edge c o
  opens_by l next (of_renew m n edge) c g o = renew_opens m next edge c g o
  opens_by l next (of_clean m n edge) c g o = clean_opens m next edge c g o
  opens_by l next (of_climb m n edge) c g o = climb_opens m next edge o
  opens_by l next (of_copy m n edge) c g o = copy_opens m next edge o
  opens_by l next (of_walk m n edge) c g o = walk_opens m next edge c g o
  opens_by l next (stays answer) c g o = tt
  opens_by l next Edge.strays c g o = tt

  pub line_opens : (l : Line) → AllHold (IsInUse state.heap) state.heap (line_wants kind operation.call operation.access l) →
      Remembers G (operation.access ≡ Writable) l → Opens O l → Opens O (line_after state operation l)
  line_opens l c g o = opens_by l _ (edge state operation l) c g o
