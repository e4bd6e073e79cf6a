-- Where an operation stands after its next step depends on contents and the one word besides that the step names.
use Rattle.std.proofs.Common.{◌≡◌, ℕ, ◌+◌, ◌-◌, ◌==◌, Bool, true, false, nat_lt, List, [], ◌∷◌, ◌++◌, length, Option, Some, None}
use Rattle.std.proofs.Common.{if◌then◌else◌, refl, ap, ◌∙◌}
use Rattle.machine_model.specs.Beneath.slot_arena.specs.declared.refs.Ref.{Ref}
use Rattle.machine_model.specs.Beneath.slot_arena.specs.declared.nodes.Node.{Node}
use Rattle.machine_model.specs.Beneath.slot_arena.specs.declared.nodes.Node.TheVariants.{Indirection, Branch, Single, Tomb, List as Listed}
use Rattle.machine_model.specs.Beneath.slot_arena.specs.Heaps.{bitmap_of, entries_of, entry_at, generation_of, next_ref, node_at}
use Rattle.machine_model.specs.declared.actions.Action.{Action}
use Rattle.machine_model.specs.declared.actions.Action.TheVariants as act
use Rattle.machine_model.specs.declared.building.BuildLine.{BuildLine}
use Rattle.machine_model.specs.declared.building.BuildLine.TheVariants as build
use Rattle.machine_model.specs.declared.building.Site.{Site}
use Rattle.machine_model.specs.declared.building.Site.TheVariants as site
use Rattle.machine_model.specs.declared.finding.KeyLine.{KeyLine}
use Rattle.machine_model.specs.declared.finding.KeyLine.TheVariants as key
use Rattle.machine_model.specs.declared.finding.WhenFound.{WhenFound}
use Rattle.machine_model.specs.declared.finding.WhenFound.TheVariants.{Answers, Sets, Removes}
use Rattle.machine_model.specs.declared.reading.After.{After}
use Rattle.machine_model.specs.declared.reading.After.TheVariants.{Goes, Gives}
use Rattle.machine_model.specs.declared.reading.Read.{Read}
use Rattle.machine_model.specs.declared.reading.Swap.{Swap}
use Rattle.machine_model.specs.declared.repairs.RenewLine.{RenewLine}
use Rattle.machine_model.specs.declared.repairs.RenewLine.TheVariants as renew
use Rattle.machine_model.specs.declared.repairs.CleanLine.{CleanLine}
use Rattle.machine_model.specs.declared.repairs.CleanLine.TheVariants as clean
use Rattle.machine_model.specs.declared.repairs.Climb.{Climb}
use Rattle.machine_model.specs.declared.repairs.ClimbLine.{ClimbLine}
use Rattle.machine_model.specs.declared.repairs.ClimbLine.TheVariants as climb
use Rattle.machine_model.specs.declared.copying.CopyLine.{CopyLine}
use Rattle.machine_model.specs.declared.copying.CopyLine.TheVariants as copy
use Rattle.machine_model.specs.declared.walking.WalkLine.{WalkLine}
use Rattle.machine_model.specs.declared.walking.WalkLine.TheVariants as walk
use Rattle.machine_model.specs.declared.lines.Purpose.{Purpose}
use Rattle.machine_model.specs.declared.lines.Purpose.TheVariants as purpose
use Rattle.machine_model.specs.declared.lines.Line.{Line}
use Rattle.machine_model.specs.declared.lines.Line.TheVariants as line
use Rattle.machine_model.specs.declared.roots.RootLine.{RootLine}
use Rattle.machine_model.specs.declared.operations.Operation.{Operation}
use Rattle.machine_model.specs.Calls.{handle_of, key_of, when_found}
use Rattle.machine_model.specs.Paths.{is_start}
use Rattle.machine_model.specs.States.{State, root_of, word_at}
use Rattle.machine_model.specs.Reading.{at_indirection, read_action, read_step, reading}
use Rattle.machine_model.specs.Swapping.{is_plain, root_action, root_after, swap_after}
use Rattle.machine_model.specs.Finding.{absent_beside, absent_listed, after_listed, after_sibling, found, found_so, key_action, key_after, key_after_entry, key_after_main, key_after_read, removing}
use Rattle.machine_model.specs.Building.{after_single, build_action, build_after_made, build_if_made, key_in}
use Rattle.machine_model.specs.Renewing.{next_entry, renew_action, renew_after, renew_after_branch, renew_after_entry, renew_after_link, renew_after_read, renew_next}
use Rattle.machine_model.specs.Cleaning.{after_child, clean_action, clean_after, clean_after_contracted, clean_after_entry, clean_after_main, clean_after_read, clean_after_tomb, clean_next}
use Rattle.machine_model.specs.Climbing.{climb_action, climb_after, climb_after_contracted, climb_after_main, climb_after_read, climb_after_root, climbed, climbing}
use Rattle.machine_model.specs.Copying.{after_offer, copy_action, copy_after, copy_after_complete, copy_after_read, copy_if_made}
use Rattle.machine_model.specs.Walking.{first_of, rest_of, walk_action, walk_after, walk_after_entry, walk_after_read, walk_next}
use Rattle.machine_model.specs.Operations.{action_of, after_root, after_swap, generation_after, generation_from, given_root, line_action, line_after, swapped}
use Rattle.machine_model.specs.declared.roots.RootWord.{RootWord}
use Rattle.machine_model.specs.Acting.{attempt_after, mark_after, operation_after, private_after, with_made}
use Rattle.machine_model.specs.Words.{SameContents, SameWord, StepsReadOneWord}
use Rattle.machine_model.proofs.LooksOn.{entry_same as same_entry, action_same}
use Rattle.machine_model.proofs.Looks.{bitmaps, by_content, complete_same, entries, generations, keys, read_same, root_same, swap_same}

module _ (one other : State) (same : SameContents one other) (operation : Operation) where
  abbrev entries_in : (r : Ref) → entries_of (node_at one.heap r) ≡ entries_of (node_at other.heap r)
  entries_in = entries one other same

  abbrev generation_in : (r : Ref) → generation_of (node_at one.heap r) ≡ generation_of (node_at other.heap r)
  generation_in = generations one other same

  abbrev bitmap_in : (r : Ref) → bitmap_of (node_at one.heap r) ≡ bitmap_of (node_at other.heap r)
  bitmap_in = bitmaps one other same

  abbrev key_of_single : (r : Ref) → key_in (node_at one.heap r) ≡ key_in (node_at other.heap r)
  key_of_single = keys one other same

  abbrev hash : one.limits.hash ≡ other.limits.hash
  hash = same.hash

  abbrev entry_same : (main : Ref) (position : ℕ) → entry_at one.heap main position ≡ entry_at other.heap main position
  entry_same = same_entry one other same operation

  -- ---- where KEY and RENEW stand after it

  abbrev word_in : State → RootWord
  word_in state = word_at state (handle_of operation.call)

  abbrev Word : Action → Type 0
  Word action = SameWord one other (handle_of operation.call) action

  pub step_same : (r : Read) → Word (read_action r.indirection r.line) → read_step one operation r ≡ read_step other operation r
  step_same r e = ap (at_indirection r.indirection) (read_same one other same (handle_of operation.call) operation.access r.indirection r.line e)

  renew_next_same : (path : List Ref) (main : Ref) (done : List Ref) → renew_next one path main done ≡ renew_next other path main done
  renew_next_same path main done = ap (λ es. if nat_lt (length done) (length es) then line.Renew (renew.Entry path main done) else line.Renew (renew.Branch path main done)) (entries_in main)

  removing_same : (path : List Ref) (main : Ref) (position value : ℕ) (n : Node) → removing one path main position value n ≡ removing other path main position value n
  removing_same path main position value (Branch bitmap es) = refl
  removing_same path main position value (Listed ss) = simp entry_same
  removing_same path main position value (Indirection generation word) = refl
  removing_same path main position value (Single k v) = refl
  removing_same path main position value (Tomb single) = refl

  found_same : (path : List Ref) (main : Ref) (position value : ℕ) (w : WhenFound) → found_so one path main position value w ≡ found_so other path main position value w
  found_same path main position value (Answers answer) = refl
  found_same path main position value Sets = refl
  found_same path main position value Removes =
      removing_same path main position value (node_at one.heap main) ∙ by_content one other same (removing other path main position value) (λ g m n. refl) main

  key_main_same : (path : List Ref) (main : Ref) (n : Node) → key_after_main one operation path main n ≡ key_after_main other operation path main n
  key_main_same path main (Indirection generation word) = refl
  key_main_same path main (Branch bitmap es) = simp hash
  key_main_same path main (Single k v) = refl
  key_main_same path main (Tomb single) = refl
  key_main_same path main (Listed ss) = refl

  key_entry_same : (path : List Ref) (main : Ref) (position : ℕ) (n : Node) → key_after_entry one operation path main position n ≡ key_after_entry other operation path main position n
  key_entry_same path main position (Indirection generation word) = simp (entry_same, renew_next_same)
  key_entry_same path main position (Single k v) =
      ap (λ (l : Line). if k == key_of operation.call then l else absent_beside operation path main position) (found_same path main position v (when_found operation.call v))
  key_entry_same path main position (Branch bitmap es) = refl
  key_entry_same path main position (Tomb single) = refl
  key_entry_same path main position (Listed ss) = refl

  listed_same : (path : List Ref) (main : Ref) (position : ℕ) (n : Node) → after_listed one operation path main position n ≡ after_listed other operation path main position n
  listed_same path main position (Single k v) =
      ap (λ (es : List Ref). if k == key_of operation.call then found one operation path main position v
      else (if nat_lt (position + 1) (length es) then line.Key (key.Listed path main (position + 1)) else absent_listed operation path main (length es))) (entries_in main)
      ∙ ap (λ (l : Line). if k == key_of operation.call then l
      else (if nat_lt (position + 1) (length (entries_of (node_at other.heap main))) then line.Key (key.Listed path main (position + 1))
      else absent_listed operation path main (length (entries_of (node_at other.heap main))))) (found_same path main position v (when_found operation.call v))
  listed_same path main position (Indirection generation word) = refl
  listed_same path main position (Branch bitmap es) = refl
  listed_same path main position (Tomb single) = refl
  listed_same path main position (Listed ss) = refl

  key_same : (l : KeyLine) → Word (key_action one l) → key_after one operation l ≡ key_after other operation l
  key_same (key.Read path r) e = ap (key_after_read path) (step_same r e)
  key_same (key.Main path main) e = key_main_same path main (node_at one.heap main) ∙ by_content one other same (key_after_main other operation path main) (λ g m n. refl) main
  key_same (key.Entry path main position) e =
      key_entry_same path main position (node_at one.heap (entry_at one.heap main position))
      ∙ by_content one other same (key_after_entry other operation path main position) (λ g m n. refl) (entry_at one.heap main position)
      ∙ ap (λ r. key_after_entry other operation path main position (node_at other.heap r)) (entry_same main position)
  key_same (key.Listed path main position) e =
      listed_same path main position (node_at one.heap (entry_at one.heap main position))
      ∙ by_content one other same (after_listed other operation path main position) (λ g m n. refl) (entry_at one.heap main position)
      ∙ ap (λ r. after_listed other operation path main position (node_at other.heap r)) (entry_same main position)
  key_same (key.Sibling path main position former) e =
      by_content one other same (after_sibling path main position former (entry_at one.heap main (1 - position))) (λ g m n. refl) (entry_at one.heap main (1 - position))
      ∙ ap (λ r. after_sibling path main position former r (node_at other.heap r)) (entry_same main (1 - position))

  renew_entry_same : (path : List Ref) (main : Ref) (done : List Ref) (entry : Ref) (n : Node) →
      renew_after_entry one operation path main done entry n ≡ renew_after_entry other operation path main done entry n
  renew_entry_same path main done entry (Indirection generation word) =
      ap (λ l. if is_start operation generation then l else line.Renew (renew.Read path main done (reading entry))) (renew_next_same path main (done ++ entry ∷ []))
  renew_entry_same path main done entry (Single k v) = renew_next_same path main (done ++ entry ∷ [])
  renew_entry_same path main done entry (Branch bitmap es) = refl
  renew_entry_same path main done entry (Tomb single) = refl
  renew_entry_same path main done entry (Listed ss) = refl

  link_same : (path : List Ref) (main : Ref) (done : List Ref) (o : Option Ref) → renew_after_link one path main done o ≡ renew_after_link other path main done o
  link_same path main done None = refl
  link_same path main done (Some made) = renew_next_same path main (done ++ made ∷ [])

  renew_same : (l : RenewLine) → Word (renew_action one operation l) → renew_after one operation l ≡ renew_after other operation l
  renew_same (renew.Entry path main done) e =
      renew_entry_same path main done (next_entry one main done) (node_at one.heap (next_entry one main done))
      ∙ by_content one other same (renew_after_entry other operation path main done (next_entry one main done)) (λ g m n. refl) (next_entry one main done)
      ∙ ap (λ r. renew_after_entry other operation path main done r (node_at other.heap r)) (entry_same main (length done))
  renew_same (renew.Read path main done r) e = ap (renew_after_read path main done) (step_same r e)
  renew_same (renew.Link path main done child) e = link_same path main done (next_ref one.heap) ∙ ap (renew_after_link other path main done) e
  renew_same (renew.Branch path main done) e = ap (renew_after_branch path main) e

  -- ---- where CLEAN and CLIMB stand

  clean_next_same : (path : List Ref) (main : Ref) (done : List Ref) → clean_next one path main done ≡ clean_next other path main done
  clean_next_same path main done = simp entries_in

  clean_main_same : (path : List Ref) (main : Ref) (n : Node) → clean_after_main one path main n ≡ clean_after_main other path main n
  clean_main_same path main (Branch bitmap es) = clean_next_same path main []
  clean_main_same path main (Indirection generation word) = refl
  clean_main_same path main (Single k v) = refl
  clean_main_same path main (Tomb single) = refl
  clean_main_same path main (Listed ss) = refl

  clean_entry_same : (path : List Ref) (main : Ref) (done : List Ref) (entry : Ref) (n : Node) →
      clean_after_entry one path main done entry n ≡ clean_after_entry other path main done entry n
  clean_entry_same path main done entry (Indirection generation word) = refl
  clean_entry_same path main done entry (Single k v) = clean_next_same path main (done ++ entry ∷ [])
  clean_entry_same path main done entry (Branch bitmap es) = refl
  clean_entry_same path main done entry (Tomb single) = refl
  clean_entry_same path main done entry (Listed ss) = refl

  kept_same : (path : List Ref) (main : Ref) (done : List Ref) → clean_next one path main (done ++ next_entry one main done ∷ []) ≡ clean_next other path main (done ++ next_entry other main done ∷ [])
  kept_same path main done =
      clean_next_same path main (done ++ next_entry one main done ∷ []) ∙ ap (λ r. clean_next other path main (done ++ r ∷ [])) (entry_same main (length done))

  clean_tomb_same : (path : List Ref) (main : Ref) (done : List Ref) (n : Node) → clean_after_tomb one path main done n ≡ clean_after_tomb other path main done n
  clean_tomb_same path main done (Tomb single) = clean_next_same path main (done ++ single ∷ [])
  clean_tomb_same path main done (Indirection generation word) = kept_same path main done
  clean_tomb_same path main done (Branch bitmap es) = kept_same path main done
  clean_tomb_same path main done (Single k v) = kept_same path main done
  clean_tomb_same path main done (Listed ss) = kept_same path main done

  clean_same : (l : CleanLine) → Word (clean_action one l) → clean_after one operation l ≡ clean_after other operation l
  clean_same (clean.Read path r) e = ap (clean_after_read path) (step_same r e)
  clean_same (clean.Main path main) e = clean_main_same path main (node_at one.heap main) ∙ by_content one other same (clean_after_main other path main) (λ g m n. refl) main
  clean_same (clean.Entry path main done) e =
      clean_entry_same path main done (next_entry one main done) (node_at one.heap (next_entry one main done))
      ∙ by_content one other same (clean_after_entry other path main done (next_entry one main done)) (λ g m n. refl) (next_entry one main done)
      ∙ ap (λ r. clean_after_entry other path main done r (node_at other.heap r)) (entry_same main (length done))
  clean_same (clean.Child path main done r) e = ap (after_child path main done) (step_same r e)
  clean_same (clean.Tomb path main done child) e = clean_tomb_same path main done (node_at one.heap child) ∙ by_content one other same (clean_after_tomb other path main done) (λ g m n. refl) child
  clean_same (clean.Contracted path main done) e = ap (clean_after_contracted path main) e

  climb_main_same : (c : Climb) (main : Ref) (n : Node) → climb_after_main one operation c main n ≡ climb_after_main other operation c main n
  climb_main_same c main (Branch bitmap es) = simp (hash, bitmap_in)
  climb_main_same c main (Tomb single) = refl
  climb_main_same c main (Indirection generation word) = refl
  climb_main_same c main (Single k v) = refl
  climb_main_same c main (Listed ss) = refl

  climb_root_same : (c : Climb) (a : After RootLine Ref) → climb_after_root one operation c a ≡ climb_after_root other operation c a
  climb_root_same c (Goes r) = refl
  climb_root_same c (Gives r) = ap (λ g. if is_start operation g then climbing operation c else climbed operation c.former) (generation_in r)

  root_in_same : (l : RootLine) → Word (root_action l) → root_after one.heap operation.access (word_in one) l ≡ root_after other.heap operation.access (word_in other) l
  root_in_same l e = root_same one other same (handle_of operation.call) operation.access l e

  climb_same : (l : ClimbLine) → Word (climb_action one operation l) → climb_after one operation l ≡ climb_after other operation l
  climb_same (climb.Read c r) e = ap (climb_after_read c) (step_same r e)
  climb_same (climb.Main c main) e = climb_main_same c main (node_at one.heap main) ∙ by_content one other same (climb_after_main other operation c main) (λ g m n. refl) main
  climb_same (climb.Contracted c main) e = ap (climb_after_contracted operation c main) e
  climb_same (climb.Root c l) e = ap (climb_after_root one operation c) (root_in_same l e) ∙ climb_root_same c (root_after other.heap operation.access (word_in other) l)

  -- ---- where the others stand

  single_same : (path : List Ref) (main : Ref) (former : Option ℕ) (s : Site) (made : Ref) → after_single one operation path main former s made ≡ after_single other operation path main former s made
  single_same path main former site.Absent made = refl
  single_same path main former (site.At position) made = refl
  single_same path main former (site.Beside position) made = simp (hash, entry_same, key_of_single)

  built_same : (l : BuildLine) (made : Ref) → build_after_made one operation l made ≡ build_after_made other operation l made
  built_same (build.Single path main s former) made = single_same path main former s made
  built_same (build.Pair path main position single depth) made = refl
  built_same (build.Link path main position below depth) made = refl
  built_same (build.Rung path main position below depth) made = refl
  built_same (build.Main path main c former) made = refl

  built_by : (l : BuildLine) (o : Option Ref) → build_if_made one operation l o ≡ build_if_made other operation l o
  built_by l None = refl
  built_by l (Some made) = built_same l made

  makes : (l : BuildLine) → Word (build_action one operation l) → next_ref one.heap ≡ next_ref other.heap
  makes (build.Single path main s former) e = e
  makes (build.Pair path main position single depth) e = e
  makes (build.Link path main position below depth) e = e
  makes (build.Rung path main position below depth) e = e
  makes (build.Main path main c former) e = e

  copy_same : (l : CopyLine) → Word (copy_action l) → copy_after one operation l ≡ copy_after other operation l
  copy_same (copy.Read root r) e = ap (copy_after_read operation root) (step_same r e)
  copy_same (copy.Successor root main) e = ap (copy_if_made operation (copy.Successor root main)) e
  copy_same (copy.Second root main successor) e = ap (copy_if_made operation (copy.Second root main successor)) e
  copy_same (copy.Empty root main) e = ap (copy_if_made operation (copy.Empty root main)) e
  copy_same (copy.Cleared root main branch) e = ap (copy_if_made operation (copy.Cleared root main branch)) e
  copy_same (copy.Offer offer) e = ap (λ w. after_offer offer (is_plain w offer.root)) e
  copy_same (copy.Complete c) e = ap (copy_after_complete operation) (complete_same one other same (handle_of operation.call) operation.access c e)

  walk_same : (l : WalkLine) → Word (walk_action l) → walk_after one operation l ≡ walk_after other operation l
  walk_same walk.Root e = ap (λ w. line.Walk (walk.Read (reading (root_of w)) [] [])) e
  walk_same (walk.Read r todo pairs) e = ap (walk_after_read todo pairs) (step_same r e)
  walk_same (walk.Main main todo pairs) e = ap (λ es. walk_next operation (es ++ todo) pairs) (entries_in main)
  walk_same (walk.Entry todo pairs) e = by_content one other same (walk_after_entry operation (first_of todo) (rest_of todo) pairs) (λ g m n. refl) (first_of todo)

  swapped_blind : (why : Purpose) (done : Bool) (g : ℕ) (m n : Ref) → swapped operation (Indirection g m) why done ≡ swapped operation (Indirection g n) why done
  swapped_blind (purpose.Update path former) true g m n = refl
  swapped_blind (purpose.Update path former) false g m n = refl
  swapped_blind (purpose.Renew path) true g m n = refl
  swapped_blind (purpose.Renew path) false g m n = refl
  swapped_blind purpose.Clean done g m n = refl
  swapped_blind (purpose.Climb c) true g m n = refl
  swapped_blind (purpose.Climb c) false g m n = refl

  swapped_same : (why : Purpose) (s : Swap) (a : After Swap Bool) → after_swap one operation why s a ≡ after_swap other operation why s a
  swapped_same why s (Goes next) = refl
  swapped_same why s (Gives done) = by_content one other same (λ n. swapped operation n why done) (swapped_blind why done) s.fresh

  pub line_same : (l : Line) → Word (line_action one operation l) → line_after one operation l ≡ line_after other operation l
  line_same (line.Root l) e = ap (after_root operation) (root_in_same l e)
  line_same (line.Key l) e = key_same l e
  line_same (line.Build l) e = built_by l (next_ref one.heap) ∙ ap (build_if_made other operation l) (makes l e)
  line_same (line.Swap why s) e =
      ap (after_swap one operation why s) (swap_same one other same (handle_of operation.call) operation.access s e)
      ∙ swapped_same why s (swap_after other.heap operation.access (word_in other) s)
  line_same (line.Renew l) e = renew_same l e
  line_same (line.Clean l) e = clean_same l e
  line_same (line.Climb l) e = climb_same l e
  line_same (line.Copy l) e = copy_same l e
  line_same (line.Walk l) e = walk_same l e
  line_same (line.End answer) e = refl
  line_same line.Impossible e = refl

  -- ---- the whole operation

  given_same : (a : After RootLine Ref) (g : Option ℕ) → given_root one a g ≡ given_root other a g
  given_same (Goes l) g = refl
  given_same (Gives r) g = ap Some (generation_in r)

  pub from_same : (l : Line) → Word (line_action one operation l) → generation_from one operation l ≡ generation_from other operation l
  from_same (line.Root l) e =
      ap (λ a. given_root one a operation.generation) (root_in_same l e) ∙ given_same (root_after other.heap operation.access (word_in other) l) operation.generation
  from_same (line.Key l) e = refl
  from_same (line.Build l) e = refl
  from_same (line.Swap why s) e = refl
  from_same (line.Renew l) e = refl
  from_same (line.Clean l) e = refl
  from_same (line.Climb l) e = refl
  from_same (line.Copy l) e = refl
  from_same (line.Walk l) e = refl
  from_same (line.End answer) e = refl
  from_same line.Impossible e = refl

  private_same : (action : Action) → Word action → private_after one operation.private action ≡ private_after other operation.private action
  private_same (act.Make node) e = ap (with_made operation.private) e
  private_same (act.MakeRoot main) e = ap (with_made operation.private) e
  private_same (act.Publish i replaced fresh) e = refl
  private_same (act.Offer offer) e = refl
  private_same act.ReadRoot e = refl
  private_same (act.Abort offer) e = refl
  private_same (act.Complete offer main) e = refl
  private_same (act.ReadMain i) e = refl
  private_same (act.Restore i main previous) e = refl
  private_same (act.ReadPrev main) e = refl
  private_same (act.Decide i main previous told) e = refl
  private_same (act.Look at) e = refl
  private_same (act.End answer) e = refl

  after_by : Action → List Ref → Option ℕ → Line → Operation
  after_by action private generation l = record operation {
    private = private;
    attempt = attempt_after operation.attempt action;
    is_marked = mark_after operation.is_marked action;
    generation = generation;
    line = l;
  }

  -- so is the operation after it, where what the step does is the same
  pub operation_same : action_of one operation ≡ action_of other operation → Word (action_of one operation) → operation_after one operation ≡ operation_after other operation
  unfolding after_by
  operation_same acts e =
      ap (λ p. after_by (action_of one operation) p (generation_after one operation) (line_after one operation operation.line)) (private_same (action_of one operation) e)
      ∙ ap (λ a. after_by a (private_after other operation.private a) (generation_after one operation) (line_after one operation operation.line)) acts
      ∙ ap (λ g. after_by (action_of other operation) (private_after other operation.private (action_of other operation)) g (line_after one operation operation.line)) (from_same operation.line e)
      ∙ ap (after_by (action_of other operation) (private_after other operation.private (action_of other operation)) (generation_after other operation)) (line_same operation.line e)

pub steps_read_one_word : StepsReadOneWord
steps_read_one_word one other operation same holds =
    let acts = action_same one other same operation holds in (acts, operation_same one other same operation acts)
