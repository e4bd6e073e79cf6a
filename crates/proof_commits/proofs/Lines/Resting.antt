-- The lines after a look at a node, after a swap, and after a node was made: what an operation is about there, and what it
-- remembers.
use Rattle.std.proofs.Common.{◌≡◌, ℕ, ◌-◌, Bool, true, false, List, [], ◌∷◌, ◌++◌, length, get_or, Option, Some, refl, sym, ◌∙◌, ap, length-append, arith}
use Rattle.std.proofs.Math.Seq.{get_or-append_seam}
use Rattle.proof_commits.specs.Vocabulary.{Access, Writable, ReadOnly, Call, Get, Put, PutIfAbsent, Replace, ReplaceIf, Remove, RemoveIf, Clear, Snapshot, Freeze, Close, Entries, Count, Ref, Node}
use Rattle.proof_commits.specs.Vocabulary.{Indirection, Branch, Single, Tomb, List as Listed, no_ref, node_at, entry_at, entries_of, Operation, Gives, Site, BuildLine, WhenFound, Answers, Sets}
use Rattle.proof_commits.specs.Vocabulary.{Removes, Climb, RootWord, Plain, Offer, Descriptor, Purpose, Line, when_found, State, current, above, after_root_word, renew_next, renew_after_entry}
use Rattle.proof_commits.specs.Vocabulary.{renew_after_link, next_entry, absent, absent_beside, absent_listed, removing, found_so, after_tomb, key_after_main, key_after_entry, after_listed}
use Rattle.proof_commits.specs.Vocabulary.{after_sibling, after_single, build_after_made, clean_next, clean_after_main, clean_after_entry, clean_after_tomb, climbing, higher, climb_after_main}
use Rattle.proof_commits.specs.Vocabulary.{climb_after_root, after_given, after_successor, copy_after_made, copy_after_complete, after_offer, walk_next, walk_after_entry, after_root, after_update}
use Rattle.proof_commits.specs.Vocabulary.{climbed_on, swapped}
use Rattle.proof_commits.specs.Beneath.machine_model.specs.declared.building.Site.TheVariants as site
use Rattle.proof_commits.specs.Beneath.machine_model.specs.declared.building.BuildLine.TheVariants as build
use Rattle.proof_commits.specs.Beneath.machine_model.specs.declared.copying.CopyLine.TheVariants as copy
use Rattle.proof_commits.specs.Beneath.machine_model.specs.declared.lines.Purpose.TheVariants as purpose
use Rattle.proof_commits.specs.Beneath.machine_model.specs.declared.lines.Line.TheVariants as line
use Rattle.proof_commits.specs.Beneath.machine_model.specs.Operations.{from_root}
use Rattle.proof_commits.specs.Protocol.{IsAtRest, HasMade}
use Rattle.proof_commits.proofs.Lines.Stages.{Remembers}
use Rattle.proof_commits.specs.Stages.{stage_of}

-- the last of a path with one more
pub current-push : (path : List Ref) (below : Ref) → below ≡ current (path ++ below ∷ [])
current-push path below =
    let last : length (path ++ below ∷ []) - 1 ≡ length path = omega (arith, length-append path (below ∷ [])) in
    sym (ap (λ n. get_or (path ++ below ∷ []) n no_ref) last ∙ get_or-append_seam path below [] no_ref)

module _ (G : Ref → Ref → Type 0) (W : Type 0) where
  -- at rest, or at a READ's first line, with what the line remembers
  abbrev pub AtRest : Line → Type 0
  AtRest l = IsAtRest (stage_of l) × Remembers G W l

  -- ---- KEY

  absent_rest : (operation : Operation) (path : List Ref) (main : Ref) → G (current path) main → AtRest (absent operation path main)
  absent_rest operation path main g = grind arith

  beside_rest : (operation : Operation) (path : List Ref) (main : Ref) (position : ℕ) → G (current path) main → AtRest (absent_beside operation path main position)
  beside_rest operation path main position g = grind arith

  listed_rest : (operation : Operation) (path : List Ref) (main : Ref) (singles : ℕ) → G (current path) main → AtRest (absent_listed operation path main singles)
  listed_rest operation path main singles g = grind (arith, absent_rest operation path main g)

  removing_rest : (state : State) (path : List Ref) (main : Ref) (position value : ℕ) (node : Node) → G (current path) main → AtRest (removing state path main position value node)
  removing_rest state path main position value (Branch b es) g = grind arith
  removing_rest state path main position value (Listed s) g = grind arith
  removing_rest state path main position value (Indirection x y) g = (tt, tt)
  removing_rest state path main position value (Single x y) g = (tt, tt)
  removing_rest state path main position value (Tomb x) g = (tt, tt)

  found_rest : (state : State) (path : List Ref) (main : Ref) (position value : ℕ) (todo : WhenFound) → G (current path) main → AtRest (found_so state path main position value todo)
  found_rest state path main position value (Answers answer) g = (tt, tt)
  found_rest state path main position value Sets g = (tt, g)
  found_rest state path main position value Removes g = removing_rest state path main position value (node_at state.heap main) g

  tomb_rest : (access : Access) (path : List Ref) (main : Ref) → G (current path) main → AtRest (after_tomb access path main)
  tomb_rest Writable path main g = grind arith
  tomb_rest ReadOnly path main g = (tt, g)

  pub key_main_rest : (state : State) (operation : Operation) (path : List Ref) (main : Ref) (node : Node) → G (current path) main →
      AtRest (key_after_main state operation path main node)
  key_main_rest state operation path main (Branch b es) g = grind (arith, absent_rest operation path main g)
  key_main_rest state operation path main (Tomb s) g = tomb_rest operation.access path main g
  key_main_rest state operation path main (Listed s) g = (tt, g)
  key_main_rest state operation path main (Indirection x y) g = (tt, tt)
  key_main_rest state operation path main (Single x y) g = (tt, tt)

  renew_next_rest : (state : State) (path : List Ref) (main : Ref) (done : List Ref) → G (current path) main → AtRest (renew_next state path main done)
  renew_next_rest state path main done g = grind arith

  pub key_entry_rest : (state : State) (operation : Operation) (path : List Ref) (main : Ref) (position : ℕ) (node : Node) → G (current path) main →
      AtRest (key_after_entry state operation path main position node)
  key_entry_rest state operation path main position (Indirection x y) g =
      grind (arith, renew_next_rest state path main [] g, current-push path (entry_at state.heap main position))
  key_entry_rest state operation path main position (Single k v) g =
      grind (arith, found_rest state path main position v (when_found operation.call v) g, beside_rest operation path main position g)
  key_entry_rest state operation path main position (Branch b es) g = (tt, tt)
  key_entry_rest state operation path main position (Tomb s) g = (tt, tt)
  key_entry_rest state operation path main position (Listed s) g = (tt, tt)

  pub key_listed_rest : (state : State) (operation : Operation) (path : List Ref) (main : Ref) (position : ℕ) (node : Node) → G (current path) main →
      AtRest (after_listed state operation path main position node)
  key_listed_rest state operation path main position (Single k v) g =
      grind (arith, found_rest state path main position v (when_found operation.call v) g, listed_rest operation path main (length (entries_of (node_at state.heap main))) g)
  key_listed_rest state operation path main position (Indirection x y) g = (tt, tt)
  key_listed_rest state operation path main position (Branch b es) g = (tt, tt)
  key_listed_rest state operation path main position (Tomb s) g = (tt, tt)
  key_listed_rest state operation path main position (Listed s) g = (tt, tt)

  pub key_sibling_rest : (path : List Ref) (main : Ref) (position former : ℕ) (other : Ref) (node : Node) → G (current path) main →
      AtRest (after_sibling path main position former other node)
  key_sibling_rest path main position former other (Single k v) g = (tt, g)
  key_sibling_rest path main position former other (Indirection x y) g = (tt, g)
  key_sibling_rest path main position former other (Branch b es) g = (tt, tt)
  key_sibling_rest path main position former other (Tomb s) g = (tt, tt)
  key_sibling_rest path main position former other (Listed s) g = (tt, tt)

  -- ---- RENEW

  pub renew_entry_rest : (state : State) (operation : Operation) (path : List Ref) (main : Ref) (done : List Ref) (entry : Ref) (node : Node) → G (current path) main →
      AtRest (renew_after_entry state operation path main done entry node)
  renew_entry_rest state operation path main done entry (Indirection x y) g = grind (arith, renew_next_rest state path main (done ++ entry ∷ []) g)
  renew_entry_rest state operation path main done entry (Single k v) g = renew_next_rest state path main (done ++ entry ∷ []) g
  renew_entry_rest state operation path main done entry (Branch b es) g = (tt, tt)
  renew_entry_rest state operation path main done entry (Tomb s) g = (tt, tt)
  renew_entry_rest state operation path main done entry (Listed s) g = (tt, tt)

  -- ---- CLEAN

  clean_next_rest : (state : State) (path : List Ref) (main : Ref) (done : List Ref) → G (current path) main → AtRest (clean_next state path main done)
  clean_next_rest state path main done g = grind arith

  pub clean_main_rest : (state : State) (path : List Ref) (main : Ref) (node : Node) → G (current path) main → AtRest (clean_after_main state path main node)
  clean_main_rest state path main (Branch b es) g = clean_next_rest state path main [] g
  clean_main_rest state path main (Indirection x y) g = (tt, tt)
  clean_main_rest state path main (Single k v) g = (tt, tt)
  clean_main_rest state path main (Tomb s) g = (tt, tt)
  clean_main_rest state path main (Listed s) g = (tt, tt)

  pub clean_entry_rest : (state : State) (path : List Ref) (main : Ref) (done : List Ref) (entry : Ref) (node : Node) → G (current path) main →
      AtRest (clean_after_entry state path main done entry node)
  clean_entry_rest state path main done entry (Indirection x y) g = (tt, (tt, g))
  clean_entry_rest state path main done entry (Single k v) g = clean_next_rest state path main (done ++ entry ∷ []) g
  clean_entry_rest state path main done entry (Branch b es) g = (tt, tt)
  clean_entry_rest state path main done entry (Tomb s) g = (tt, tt)
  clean_entry_rest state path main done entry (Listed s) g = (tt, tt)

  pub clean_tomb_rest : (state : State) (path : List Ref) (main : Ref) (done : List Ref) (node : Node) → G (current path) main →
      AtRest (clean_after_tomb state path main done node)
  clean_tomb_rest state path main done (Tomb single) g = clean_next_rest state path main (done ++ single ∷ []) g
  clean_tomb_rest state path main done (Indirection x y) g = clean_next_rest state path main (done ++ next_entry state main done ∷ []) g
  clean_tomb_rest state path main done (Branch b es) g = clean_next_rest state path main (done ++ next_entry state main done ∷ []) g
  clean_tomb_rest state path main done (Single k v) g = clean_next_rest state path main (done ++ next_entry state main done ∷ []) g
  clean_tomb_rest state path main done (Listed s) g = clean_next_rest state path main (done ++ next_entry state main done ∷ []) g

  -- ---- CLIMB, and after a SWAP

  climbing_rest : (operation : Operation) (c : Climb) → AtRest (climbing operation c)
  climbing_rest operation c = grind arith

  pub climb_main_rest : (state : State) (operation : Operation) (c : Climb) (main : Ref) (node : Node) → G (current (above c.path)) main →
      AtRest (climb_after_main state operation c main node)
  climb_main_rest state operation c main (Tomb single) g = climbing_rest operation (higher c single)
  climb_main_rest state operation c main (Branch b es) g = grind arith
  climb_main_rest state operation c main (Indirection x y) g = (tt, tt)
  climb_main_rest state operation c main (Single k v) g = (tt, tt)
  climb_main_rest state operation c main (Listed s) g = (tt, tt)

  pub climb_given_rest : (state : State) (operation : Operation) (c : Climb) (r : Ref) → AtRest (climb_after_root state operation c (Gives r))
  climb_given_rest state operation c r = grind (arith, climbing_rest operation c)

  update_rest : (operation : Operation) (path : List Ref) (former : Option ℕ) (node : Node) → AtRest (after_update operation path former node)
  update_rest operation path former (Tomb single) = climbing_rest operation (record { path = path; single = single; former = former })
  update_rest operation path former (Indirection x y) = (tt, tt)
  update_rest operation path former (Branch b es) = (tt, tt)
  update_rest operation path former (Single k v) = (tt, tt)
  update_rest operation path former (Listed s) = (tt, tt)

  climbed_on_rest : (operation : Operation) (c : Climb) (node : Node) → AtRest (climbed_on operation c node)
  climbed_on_rest operation c (Tomb single) = climbing_rest operation (higher c c.single)
  climbed_on_rest operation c (Indirection x y) = (tt, tt)
  climbed_on_rest operation c (Branch b es) = (tt, tt)
  climbed_on_rest operation c (Single k v) = (tt, tt)
  climbed_on_rest operation c (Listed s) = (tt, tt)

  pub swapped_rest : (operation : Operation) (node : Node) (why : Purpose) (done : Bool) → AtRest (swapped operation node why done)
  swapped_rest operation node (purpose.Update path former) true = update_rest operation path former node
  swapped_rest operation node (purpose.Update path former) false = (tt, tt)
  swapped_rest operation node (purpose.Renew path) true = (tt, (tt, refl))
  swapped_rest operation node (purpose.Renew path) false = (tt, tt)
  swapped_rest operation node purpose.Clean done = (tt, tt)
  swapped_rest operation node (purpose.Climb c) true = climbed_on_rest operation c node
  swapped_rest operation node (purpose.Climb c) false = (tt, tt)

  -- ---- ROOT, COPY and WALK

  from_root_rest : (call : Call) (r : Ref) → AtRest (from_root call r)
  from_root_rest (Clear x) r = (tt, (tt, refl))
  from_root_rest (Snapshot x) r = (tt, (tt, refl))
  from_root_rest (Freeze x) r = (tt, (tt, refl))
  from_root_rest (Get x k) r = (tt, (tt, current-push [] r))
  from_root_rest (Put x k v) r = (tt, (tt, current-push [] r))
  from_root_rest (PutIfAbsent x k v) r = (tt, (tt, current-push [] r))
  from_root_rest (Replace x k v) r = (tt, (tt, current-push [] r))
  from_root_rest (ReplaceIf x k a b) r = (tt, (tt, current-push [] r))
  from_root_rest (Remove x k) r = (tt, (tt, current-push [] r))
  from_root_rest (RemoveIf x k v) r = (tt, (tt, current-push [] r))
  from_root_rest (Close x) r = (tt, (tt, current-push [] r))
  from_root_rest (Entries x) r = (tt, (tt, current-push [] r))
  from_root_rest (Count x) r = (tt, (tt, current-push [] r))

  pub root_word_rest : (operation : Operation) (word : RootWord) → AtRest (after_root operation (after_root_word word))
  root_word_rest operation (Plain r) = from_root_rest operation.call r
  root_word_rest operation (Offer offer) = (tt, tt)

  pub climb_word_rest : (state : State) (operation : Operation) (c : Climb) (word : RootWord) → AtRest (climb_after_root state operation c (after_root_word word))
  climb_word_rest state operation c (Plain r) = climb_given_rest state operation c r
  climb_word_rest state operation c (Offer offer) = (tt, tt)

  pub given_rest : (call : Call) (at main : Ref) → G at main → AtRest (after_given call at main)
  given_rest (Clear x) at main g = (tt, g)
  given_rest (Snapshot x) at main g = (tt, g)
  given_rest (Freeze x) at main g = (tt, g)
  given_rest (Get x k) at main g = (tt, g)
  given_rest (Put x k v) at main g = (tt, g)
  given_rest (PutIfAbsent x k v) at main g = (tt, g)
  given_rest (Replace x k v) at main g = (tt, g)
  given_rest (ReplaceIf x k a b) at main g = (tt, g)
  given_rest (Remove x k) at main g = (tt, g)
  given_rest (RemoveIf x k v) at main g = (tt, g)
  given_rest (Close x) at main g = (tt, g)
  given_rest (Entries x) at main g = (tt, g)
  given_rest (Count x) at main g = (tt, g)

  pub offer_rest : (offer : Descriptor) (b : Bool) → AtRest (after_offer offer b)
  offer_rest offer true = (tt, tt)
  offer_rest offer false = (tt, tt)

  pub copy_done_rest : (operation : Operation) (done : Bool) → AtRest (copy_after_complete operation (Gives done))
  copy_done_rest operation done = grind arith

  pub walk_next_rest : (operation : Operation) (todo : List Ref) (pairs : List (ℕ × ℕ)) → AtRest (walk_next operation todo pairs)
  walk_next_rest operation [] pairs = (tt, tt)
  walk_next_rest operation (entry ∷ todo) pairs = (tt, tt)

  pub walk_entry_rest : (operation : Operation) (entry : Ref) (todo : List Ref) (pairs : List (ℕ × ℕ)) (node : Node) → AtRest (walk_after_entry operation entry todo pairs node)
  walk_entry_rest operation entry todo pairs (Indirection x y) = (tt, tt)
  walk_entry_rest operation entry todo pairs (Single k v) = walk_next_rest operation todo (pairs ++ (k, v) ∷ [])
  walk_entry_rest operation entry todo pairs (Branch b es) = (tt, tt)
  walk_entry_rest operation entry todo pairs (Tomb s) = (tt, tt)
  walk_entry_rest operation entry todo pairs (Listed s) = (tt, tt)

  -- ---- after a node was made

  abbrev pub AfterMade : Ref → Line → Type 0
  AfterMade n l = HasMade G n (stage_of l) × Remembers G W l

  single_made : (state : State) (operation : Operation) (path : List Ref) (main : Ref) (former : Option ℕ) (s : Site) (n : Ref) → G (current path) main →
      AfterMade n (after_single state operation path main former s n)
  single_made state operation path main former site.Absent n g = (tt, g)
  single_made state operation path main former (site.At position) n g = (tt, g)
  single_made state operation path main former (site.Beside position) n g = (tt, g)

  -- what BUILD leads to
  pub build_made : (state : State) (operation : Operation) (l : BuildLine) (n : Ref) → Remembers G W (line.Build l) → AfterMade n (build_after_made state operation l n)
  build_made state operation (build.Single path main s former) n g = single_made state operation path main former s n g
  build_made state operation (build.Pair path main position single depth) n g = (refl, g)
  build_made state operation (build.Link path main position below depth) n g = grind arith
  build_made state operation (build.Rung path main position below depth) n g = (refl, g)
  build_made state operation (build.Main path main c former) n g = ((refl, g), (tt, g))

  pub renew_link_made : (state : State) (path : List Ref) (main : Ref) (done : List Ref) (n : Ref) → G (current path) main → AfterMade n (renew_after_link state path main done (Some n))
  renew_link_made state path main done n g = grind arith

  successor_made : (operation : Operation) (call : Call) (at main n : Ref) → G at main → AfterMade n (after_successor operation call at main n)
  successor_made operation (Snapshot x) at main n g = (tt, g)
  successor_made operation (Clear x) at main n g = (tt, g)
  successor_made operation (Freeze x) at main n g = (tt, g)
  successor_made operation (Get x k) at main n g = (tt, g)
  successor_made operation (Put x k v) at main n g = (tt, g)
  successor_made operation (PutIfAbsent x k v) at main n g = (tt, g)
  successor_made operation (Replace x k v) at main n g = (tt, g)
  successor_made operation (ReplaceIf x k a b) at main n g = (tt, g)
  successor_made operation (Remove x k) at main n g = (tt, g)
  successor_made operation (RemoveIf x k v) at main n g = (tt, g)
  successor_made operation (Close x) at main n g = (tt, g)
  successor_made operation (Entries x) at main n g = (tt, g)
  successor_made operation (Count x) at main n g = (tt, g)

  pub copy_successor_made : (operation : Operation) (at main n : Ref) → G at main → AfterMade n (copy_after_made operation (copy.Successor at main) n)
  copy_successor_made operation at main n g = successor_made operation operation.call at main n g
