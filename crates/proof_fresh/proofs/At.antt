-- At each time of a run each reference in what an operation has private is private, or comes from the main node that it is about to replace.
use Rattle.std.proofs.Common.{◌≡◌, ℕ, suc, ◌<◌, Bool, true, false, List, [], Option, None, refl, sym, ◌∙◌, subst}
use Rattle.proof_fresh.specs.Vocabulary.{Call, Close, Entries, Count, Ref, Node, node_at, Purpose, Swap, SwapLine, KeyLine, RootLine, CopyLine, ClimbLine, WalkLine, Line, Operation, Bounds}
use Rattle.proof_fresh.specs.Vocabulary.{State, action_at, first_line, line_action, line_after, generation_from, Climb, higher, IsRun}
use Rattle.proof_fresh.specs.Beneath.machine_model.specs.Acting.{private_after}
use Rattle.proof_fresh.specs.Beneath.machine_model.specs.Copying.{copy_action}
use Rattle.proof_fresh.specs.Beneath.machine_model.specs.Finding.{key_action}
use Rattle.proof_fresh.specs.Beneath.machine_model.specs.Edges.Building.{SwappedEdge, SwapEdge}
use Rattle.proof_fresh.specs.Beneath.machine_model.specs.Edges.Key.{FoundEdge, KeyEdge}
use Rattle.proof_fresh.specs.Beneath.machine_model.specs.Edges.Lines.{Edge, of_root, of_key, of_build, of_swap, of_renew, of_clean, of_climb, of_copy, of_walk, stays, strays}
use Rattle.proof_fresh.specs.Beneath.machine_model.specs.Edges.Repairs.{ClimbingEdge, ClimbEdge}
use Rattle.proof_fresh.specs.Beneath.machine_model.specs.Edges.Roots.{RootEdge, CopyEdge}
use Rattle.proof_fresh.specs.Beneath.machine_model.specs.Edges.Walking.{WalkNext, WalkEdge}
use Rattle.proof_fresh.specs.Beneath.machine_model.specs.declared.finding.KeyLine.TheVariants as key
use Rattle.proof_fresh.specs.Beneath.machine_model.specs.declared.lines.Line.TheVariants as line
use Rattle.proof_fresh.specs.Beneath.machine_model.proofs.Edges.Lines.{edge}
use Rattle.proof_shape.specs.Lines.Knowing.{OfEachAt}
use Rattle.proof_shape.proofs.Runs.EachAt.{GoesAt}
use Rattle.proof_shape.proofs.Runs.Takers.{each_with}
use Rattle.proof_garbage.proofs.Swaps.{read_leaves, complete_leaves, root_leaves, build_makes}
use Rattle.proof_fresh.proofs.Untouched.{others_leave}
use Rattle.proof_fresh.proofs.Lines.{LineHas, SwapHas, none_from, none_links, none_done, line_later}
use Rattle.proof_fresh.proofs.Build.{build_has}
use Rattle.proof_fresh.proofs.Repair.{renew_has, clean_has}

module _ {limits : Bounds} {states : ℕ → State} {last : ℕ} (run : IsRun limits states last) (t : ℕ) (h : t < last) (actor : ℕ) (operation : Operation)
    (go : GoesAt states run.records t actor operation) where
  abbrev Next : Option ℕ → List Ref → Line → Type 0
  Next generation xs l = LineHas run (suc t) actor operation.id generation xs l

  -- ---- where nothing is private

  found_has : (g : Option ℕ) (xs : List Ref) → xs ≡ [] → (path : List Ref) (main : Ref) (position v : ℕ) (n : Line) → FoundEdge (states t) operation path main position v n → Next g xs n
  found_has g xs none path main position v n (FoundEdge.answers answer is) = tt
  found_has g xs none path main position v n (FoundEdge.sets is) = (none_from run (suc t) actor operation.id g xs main none, tt)
  found_has g xs none path main position v n (FoundEdge.asks_sibling is b es at two) = none
  found_has g xs none path main position v n (FoundEdge.removes is b es at two) = (none_from run (suc t) actor operation.id g xs main none, tt)
  found_has g xs none path main position v n (FoundEdge.entombs_listed is ss at two) = (none_from run (suc t) actor operation.id g xs main none, tt)
  found_has g xs none path main position v n (FoundEdge.removes_listed is ss at two) = (none_from run (suc t) actor operation.id g xs main none, tt)
  found_has g xs none path main position v n FoundEdge.strays = tt

  key_has : (g : Option ℕ) (xs : List Ref) → xs ≡ [] → (l : KeyLine) (n : Line) → KeyEdge (states t) operation l n → Next g xs n
  key_has g xs none l n (KeyEdge.reads_on path r next e) = none
  key_has g xs none l n (KeyEdge.gives path r main e) = none
  key_has g xs none l n (KeyEdge.enters path main b es e f) = none
  key_has g xs none l n (KeyEdge.puts_absent path main b es e f i) = (none_from run (suc t) actor operation.id g xs main none, tt)
  key_has g xs none l n (KeyEdge.misses_absent path main b es e f i) = tt
  key_has g xs none l n (KeyEdge.cleans path main single e w b) = (none, none_done run (suc t) actor operation.id g xs _)
  key_has g xs none l n (KeyEdge.looks_tombed path main single e r) = none
  key_has g xs none l n (KeyEdge.looks_listed path main ss e) = none
  key_has g xs none l n (KeyEdge.goes_down path main position a w e p) = none
  key_has g xs none l n (KeyEdge.renews path main position a w e p f) =
      (none_from run (suc t) actor operation.id g xs main none, none_links run g xs none, none_done run (suc t) actor operation.id g xs main)
  key_has g xs none l n (KeyEdge.renews_none path main position a w e p f) =
      (none_from run (suc t) actor operation.id g xs main none, none_links run g xs none, none_done run (suc t) actor operation.id g xs main)
  key_has g xs none l n (KeyEdge.finds path main position k v next e same on) = found_has g xs none path main position v n on
  key_has g xs none l n (KeyEdge.puts_beside path main position k v e other i) = (none_from run (suc t) actor operation.id g xs main none, tt)
  key_has g xs none l n (KeyEdge.misses_beside path main position k v e other i) = tt
  key_has g xs none l n (KeyEdge.finds_listed path main position k v next e same on) = found_has g xs none path main position v n on
  key_has g xs none l n (KeyEdge.looks_on path main position k v e other m) = none
  key_has g xs none l n (KeyEdge.crowds path main position k v e other m f) = tt
  key_has g xs none l n (KeyEdge.puts_listed path main position k v e other m f i) = (none_from run (suc t) actor operation.id g xs main none, tt)
  key_has g xs none l n (KeyEdge.misses_listed path main position k v e other m i) = tt
  key_has g xs none l n (KeyEdge.entombs_sibling path main position former k v e) = (none_from run (suc t) actor operation.id g xs main none, tt)
  key_has g xs none l n (KeyEdge.keeps_sibling path main position former a w e) = (none_from run (suc t) actor operation.id g xs main none, tt)
  key_has g xs none l n (KeyEdge.strays from) = tt

  key_leaves : (own : List Ref) (l : KeyLine) → private_after (states t) own (key_action (states t) l) ≡ own
  key_leaves own (key.Read path r) = read_leaves (states t) own r.indirection r.line
  key_leaves own (key.Main path main) = refl
  key_leaves own (key.Entry path main position) = refl
  key_leaves own (key.Listed path main position) = refl
  key_leaves own (key.Sibling path main position former) = refl

  root_has : (g : Option ℕ) (xs : List Ref) → xs ≡ [] → (l : RootLine) (n : Line) → RootEdge (states t) operation l n → Next g xs n
  root_has g xs none l n (RootEdge.completes_on from to e) = none
  root_has g xs none l n (RootEdge.begins_key from r e c) = none
  root_has g xs none l n (RootEdge.begins_copy from r e c) = none

  -- ---- SWAP

  climbing_has : (g : Option ℕ) (xs : List Ref) (c : Climb) (n : Line) → ClimbingEdge operation c n → Next g xs n
  climbing_has g xs c n (ClimbingEdge.climbs e) = tt
  climbing_has g xs c n (ClimbingEdge.tops e) = tt

  swapped_has : (g : Option ℕ) (xs : List Ref) → xs ≡ [] → (node : Node) (why : Purpose) (done : Bool) (n : Line) → SwappedEdge operation node why done n → Next g xs n
  swapped_has g xs none node why done n (SwappedEdge.entombed path former single next e on) = climbing_has g xs (record { path = path; single = single; former = former }) n on
  swapped_has g xs none node why done n (SwappedEdge.changed path former) = tt
  swapped_has g xs none node why done n (SwappedEdge.update_lost path former) = none
  swapped_has g xs none node why done n (SwappedEdge.renewed path) = none
  swapped_has g xs none node why done n (SwappedEdge.renewal_lost path) = none
  swapped_has g xs none node why done n (SwappedEdge.is_cleaned d) = none
  swapped_has g xs none node why done n (SwappedEdge.climbs_on c single next e on) = climbing_has g xs (higher c c.single) n on
  swapped_has g xs none node why done n (SwappedEdge.contracted c) = tt
  swapped_has g xs none node why done n (SwappedEdge.climb_lost c) = tt

  swap_has : (own : List Ref) (why : Purpose) (s : Swap) (l : SwapLine) (n : Line) → SwapEdge (states t) operation why s l n →
      SwapHas run t actor operation.id operation.generation own why s.replaced l →
      Next operation.generation (private_after (states t) own (action_at s.indirection s.replaced s.fresh l)) n
  swap_has own why s l n (SwapEdge.publishes e) has = refl
  swap_has own why s l n (SwapEdge.comes_late next e on) has = swapped_has operation.generation [] refl (node_at (states t).heap s.fresh) why false n on
  swap_has own why s l n (SwapEdge.decides_on from to e) has = read_leaves (states t) own s.indirection from ∙ has
  swap_has own why s l n (SwapEdge.decided from main e) has = read_leaves (states t) own s.indirection from ∙ has
  swap_has own why s l n (SwapEdge.succeeds next e on) has = swapped_has operation.generation own has (node_at (states t).heap s.fresh) why true n on
  swap_has own why s l n (SwapEdge.is_undecided previous next e on) has = swapped_has operation.generation own has (node_at (states t).heap s.fresh) why false n on
  swap_has own why s l n (SwapEdge.fails previous next e on) has = swapped_has operation.generation own has (node_at (states t).heap s.fresh) why false n on

  -- ---- CLIMB, COPY and WALK

  climb_has : (g : Option ℕ) (xs : List Ref) (l : ClimbLine) (n : Line) → ClimbEdge (states t) operation l n → Next g xs n
  climb_has g xs l n (ClimbEdge.goes_up c main single next e on) = climbing_has g xs (higher c single) n on
  climb_has g xs l n (ClimbEdge.again c from r next e mine on) = climbing_has g xs c n on
  climb_has g xs l n (ClimbEdge.reads_on c r next e) = tt
  climb_has g xs l n (ClimbEdge.gives c r main e) = tt
  climb_has g xs l n (ClimbEdge.holds c main b es e f) = tt
  climb_has g xs l n (ClimbEdge.is_gone c main b es e f) = tt
  climb_has g xs l n (ClimbEdge.contracts c main made e) = tt
  climb_has g xs l n (ClimbEdge.gives_up c main e) = tt
  climb_has g xs l n (ClimbEdge.root_on c from to e) = tt
  climb_has g xs l n (ClimbEdge.other_root c from r e f) = tt
  climb_has g xs l n (ClimbEdge.strays from) = tt

  copy_has : (g : Option ℕ) (own : List Ref) (l : CopyLine) (n : Line) → CopyEdge (states t) operation l n → LineHas run t actor operation.id g own (line.Copy l) →
      Next g (private_after (states t) own (copy_action l)) n
  copy_has g own l n (CopyEdge.reads_on r read next e) has = read_leaves (states t) own read.indirection read.line ∙ has
  copy_has g own l n (CopyEdge.completes_on c next e) has = complete_leaves (states t) own c.offer c.line ∙ has
  copy_has g own l n (CopyEdge.taken_back c done e f) has = complete_leaves (states t) own c.offer c.line ∙ has
  copy_has g own l n (CopyEdge.offers offer e) has = refl
  copy_has g own l n (CopyEdge.comes_late offer e) has = refl
  copy_has g own l n (CopyEdge.gives r read main e c) has = tt
  copy_has g own l n (CopyEdge.gives_clear r read main e c) has = tt
  copy_has g own l n (CopyEdge.wants_second r main made e c) has = tt
  copy_has g own l n (CopyEdge.offers_one r main made e c) has = tt
  copy_has g own l n (CopyEdge.offers_two r main successor made e) has = tt
  copy_has g own l n (CopyEdge.empty_made r main made e) has = tt
  copy_has g own l n (CopyEdge.offers_cleared r main branch made e) has = tt
  copy_has g own l n (CopyEdge.no_slot from e) has = tt
  copy_has g own l n (CopyEdge.carried_out c done e f) has = tt

  walk_next_has : (g : Option ℕ) (xs : List Ref) (pairs : List (ℕ × ℕ)) (todo : List Ref) (n : Line) → WalkNext operation pairs todo n → Next g xs n
  walk_next_has g xs pairs todo n WalkNext.walked = tt
  walk_next_has g xs pairs todo n (WalkNext.walks entry more) = tt

  walk_has : (g : Option ℕ) (xs : List Ref) (l : WalkLine) (n : Line) → WalkEdge (states t) operation l n → Next g xs n
  walk_has g xs l n WalkEdge.begins = tt
  walk_has g xs l n (WalkEdge.reads_on r next todo pairs e) = tt
  walk_has g xs l n (WalkEdge.gives r main todo pairs e) = tt
  walk_has g xs l n (WalkEdge.opens main todo pairs next on) = walk_next_has g xs pairs _ n on
  walk_has g xs l n (WalkEdge.goes_down todo pairs a w e) = tt
  walk_has g xs l n (WalkEdge.takes todo pairs k v next e on) = walk_next_has g xs _ _ n on
  walk_has g xs l n (WalkEdge.strays from) = tt

  -- ---- the own step

  own_has : (l n : Line) → Edge (states t) operation l n → operation.line ≡ l → LineHas run t actor operation.id operation.generation operation.private l →
      LineHas run (suc t) actor operation.id (generation_from (states t) operation l) (private_after (states t) operation.private (line_action (states t) operation l)) n
  own_has l n (of_root r to x) e has = root_has _ _ (root_leaves (states t) operation.private r ∙ has) r n x
  own_has l n (of_key k to x) e has = key_has operation.generation _ (key_leaves operation.private k ∙ has) k n x
  own_has l n (of_build b to x) e has =
      subst (λ xs. Next operation.generation xs n) (sym (build_makes (states t) operation operation.private b)) (build_has run t h actor operation go b e has n x)
  own_has l n (of_swap why s to x) e has = swap_has operation.private why s s.line n x has
  own_has l n (of_renew r to x) e has = renew_has run t h actor operation go r e has n x
  own_has l n (of_clean c to x) e has = clean_has run t h actor operation go c e has n x
  own_has l n (of_climb c to x) e has = climb_has operation.generation _ c n x
  own_has l n (of_copy c to x) e has = copy_has operation.generation operation.private c n x has
  own_has l n (of_walk w to x) e has = walk_has operation.generation _ w n x
  own_has l n (stays answer) e has = tt
  own_has l n strays e has = tt

first_has : {limits : Bounds} {states : ℕ → State} {last : ℕ} (run : IsRun limits states last) (t actor id : ℕ) (call : Call) → LineHas run t actor id None [] (first_line call)
first_has run t actor id (Close g) = tt
first_has run t actor id (Entries g) = tt
first_has run t actor id (Count g) = tt
first_has run t actor id call = refl

pub has_at : {limits : Bounds} {states : ℕ → State} {last : ℕ} (run : IsRun limits states last) →
    OfEachAt states last (λ t actor operation. LineHas run t actor operation.id operation.generation operation.private operation.line)
has_at {states} run =
    each_with run (λ t actor operation. LineHas run t actor operation.id operation.generation operation.private operation.line) (λ t actor operation has. has)
    (λ t h actor call number d takes e. first_has run (suc t) actor _ call)
    (λ t h actor operation go takes all.
    own_has run t h actor operation go operation.line (line_after (states t) operation operation.line) (edge (states t) operation operation.line) refl (all actor operation go.runs))
    (λ t h actor operation answer is may all. tt)
    (λ t h actor operation is apart all.
    line_later run t actor operation.id operation.generation operation.private (λ y c. others_leave run t h actor operation is apart y c) operation.line (all actor operation is))
