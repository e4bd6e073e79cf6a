-- What each step of an operation makes of the most that its private list has.
use Rattle.std.proofs.Common.{ℕ, ◌≤◌, ◌||◌, nat_eq, nat_lt, Bool, true, false, List, [], ◌∷◌, ◌++◌, length, Option, Some, None, sym, subst, refl, ltb-true, arith}
use Rattle.std.specs.Cmp.Lexicographic.{pointwise}
use Rattle.std.proofs.lemmas.Bool.{cond_both}
use Rattle.std.proofs.lemmas.List.{length_push}
use Rattle.proof_operations.specs.Vocabulary.{Call, Clear, Close, Count, Entries, Freeze, Snapshot, Node, Indirection, Branch, Single, Tomb, List as Listed, Ref, entries_of, generation_at, node_at}
use Rattle.proof_operations.specs.Vocabulary.{CopyLine, Line, Operation, After, Gives, Read, CleanLine, Climb, ClimbLine, RenewLine, Complete, Descriptor, RootLine, WalkLine, with_made, after_child}
use Rattle.proof_operations.specs.Vocabulary.{clean_action, clean_next, clean_after, clean_after_contracted, clean_after_entry, clean_after_main, clean_after_read, clean_after_tomb, climb_action}
use Rattle.proof_operations.specs.Vocabulary.{climb_after, climb_after_contracted, climb_after_main, climb_after_read, climb_after_root, holds_it, after_given, after_offer, after_successor}
use Rattle.proof_operations.specs.Vocabulary.{copy_action, copy_after, copy_after_complete, copy_after_read, copy_if_made, after_root, line_action, line_after, is_start, next_entry, renew_action}
use Rattle.proof_operations.specs.Vocabulary.{renew_after, renew_after_branch, renew_after_entry, renew_after_link, renew_after_read, renew_next, State, first_of, rest_of, walk_action, walk_after}
use Rattle.proof_operations.specs.Vocabulary.{walk_after_entry, walk_after_read, walk_next}
use Rattle.proof_operations.specs.Beneath.machine_model.specs.declared.actions.Action.TheVariants as act
use Rattle.proof_operations.specs.Beneath.machine_model.specs.declared.copying.CopyLine.TheVariants as copy
use Rattle.proof_operations.specs.Beneath.machine_model.specs.declared.lines.Line.TheVariants as line
use Rattle.proof_operations.specs.Beneath.machine_model.specs.declared.reading.After.TheVariants.{Goes}
use Rattle.proof_operations.specs.Beneath.machine_model.specs.declared.repairs.CleanLine.TheVariants as clean
use Rattle.proof_operations.specs.Beneath.machine_model.specs.declared.repairs.ClimbLine.TheVariants as climb
use Rattle.proof_operations.specs.Beneath.machine_model.specs.declared.repairs.RenewLine.TheVariants as renew
use Rattle.proof_operations.specs.Beneath.machine_model.specs.declared.walking.WalkLine.TheVariants as walk
use Rattle.proof_operations.specs.Beneath.machine_model.specs.Operations.{from_root}
use Rattle.proof_operations.proofs.Building.{HoldsAfter, builds, climbing_holds, complete_leaves, keys, left_so, read_leaves, root_leaves, swaps}
use Rattle.proof_operations.proofs.MostHeld.{CopyHolds, LineHolds, RenewHolds}

module _ (state : State) (few : (r : Ref) → length (entries_of (node_at state.heap r)) ≤ 32) (operation : Operation) where
  -- RENEW
  renewing_holds : (n : ℕ) (path : List Ref) (main : Ref) (done : List Ref) → n ≤ length done → length done ≤ 32 → LineHolds n (renew_next state path main done)
  renewing_holds n path main done held short =
      cond_both (nat_lt (length done) (length (entries_of (node_at state.heap main)))) _ _ (LineHolds n)
      (λ e. (held, let within = ltb-true (length done) (length (entries_of (node_at state.heap main))) e in omega (arith, within, few main))) (λ e. omega (arith, held, short))

  renew_entry : (n : ℕ) (path : List Ref) (main : Ref) (done : List Ref) (entry : Ref) (node : Node) → n ≤ length done → length done ≤ 31 →
      LineHolds n (renew_after_entry state operation path main done entry node)
  renew_entry n path main done entry (Indirection generation word) held short =
      cond_both (is_start operation generation) _ _ (LineHolds n)
      (λ e. renewing_holds n path main (done ++ entry ∷ []) (omega (arith, held, length_push done entry)) (omega (arith, short, length_push done entry))) (λ e. (held, short))
  renew_entry n path main done entry (Single k v) held short =
      renewing_holds n path main (done ++ entry ∷ []) (omega (arith, held, length_push done entry)) (omega (arith, short, length_push done entry))
  renew_entry n path main done entry (Branch bitmap entries) held short = omega (arith, held, short)
  renew_entry n path main done entry (Tomb single) held short = omega (arith, held, short)
  renew_entry n path main done entry (Listed singles) held short = omega (arith, held, short)

  renew_read : (n : ℕ) (path : List Ref) (main : Ref) (done : List Ref) (o : After Read Ref) → n ≤ length done → length done ≤ 31 → LineHolds n (renew_after_read path main done o)
  renew_read n path main done (Goes r) held short = (held, short)
  renew_read n path main done (Gives child) held short = (held, short)

  renew_link : (private : List Ref) (path : List Ref) (main : Ref) (done : List Ref) (made : Option Ref) → length private ≤ length done → length done ≤ 31 →
      LineHolds (length (with_made private made)) (renew_after_link state path main done made)
  renew_link private path main done None held short = omega arith
  renew_link private path main done (Some made) held short =
      renewing_holds (length (private ++ made ∷ [])) path main (done ++ made ∷ []) (omega (arith, held, length_push done made, length_push private made))
      (omega (arith, short, length_push done made))

  renew_branch : (private : List Ref) (path : List Ref) (main : Ref) (made : Option Ref) → length private ≤ 32 →
      LineHolds (length (with_made private made)) (renew_after_branch path main made)
  renew_branch private path main None held = omega arith
  renew_branch private path main (Some made) held = omega (arith, held, length_push private made)

  renews : (private : List Ref) (l : RenewLine) → RenewHolds (length private) l → HoldsAfter state private (renew_action state operation l) (renew_after state operation l)
  renews private (renew.Entry path main done) h = renew_entry (length private) path main done _ _ h.0 h.1
  renews private (renew.Read path main done r) h =
      subst (λ rs. LineHolds (length rs) (renew_after state operation (renew.Read path main done r))) (sym (read_leaves state private r.indirection r.line))
      (renew_read (length private) path main done _ h.0 h.1)
  renews private (renew.Link path main done child) h = renew_link private path main done _ h.0 h.1
  renews private (renew.Branch path main done) h = renew_branch private path main _ h

  -- CLEAN
  cleaning_holds : (path : List Ref) (main : Ref) (done : List Ref) → LineHolds 0 (clean_next state path main done)
  cleaning_holds path main done =
      cond_both (nat_lt (length done) (length (entries_of (node_at state.heap main)))) _ _ (LineHolds 0) (λ e. omega arith)
      (λ e. cond_both (pointwise nat_eq done (entries_of (node_at state.heap main))) _ _ (LineHolds 0) (λ f. omega arith) (λ f. omega arith))

  clean_read : (path : List Ref) (o : After Read Ref) → LineHolds 0 (clean_after_read path o)
  clean_read path (Goes r) = omega arith
  clean_read path (Gives main) = omega arith

  clean_main : (path : List Ref) (main : Ref) (node : Node) → LineHolds 0 (clean_after_main state path main node)
  clean_main path main (Branch bitmap entries) = cleaning_holds path main []
  clean_main path main (Indirection generation word) = omega arith
  clean_main path main (Single k v) = omega arith
  clean_main path main (Tomb single) = omega arith
  clean_main path main (Listed singles) = omega arith

  clean_entry : (path : List Ref) (main : Ref) (done : List Ref) (entry : Ref) (node : Node) → LineHolds 0 (clean_after_entry state path main done entry node)
  clean_entry path main done entry (Indirection generation word) = omega arith
  clean_entry path main done entry (Single k v) = cleaning_holds path main (done ++ entry ∷ [])
  clean_entry path main done entry (Branch bitmap entries) = omega arith
  clean_entry path main done entry (Tomb single) = omega arith
  clean_entry path main done entry (Listed singles) = omega arith

  clean_child : (path : List Ref) (main : Ref) (done : List Ref) (o : After Read Ref) → LineHolds 0 (after_child path main done o)
  clean_child path main done (Goes r) = omega arith
  clean_child path main done (Gives child) = omega arith

  clean_tomb : (path : List Ref) (main : Ref) (done : List Ref) (node : Node) → LineHolds 0 (clean_after_tomb state path main done node)
  clean_tomb path main done (Tomb single) = cleaning_holds path main (done ++ single ∷ [])
  clean_tomb path main done (Indirection generation word) = cleaning_holds path main (done ++ next_entry state main done ∷ [])
  clean_tomb path main done (Branch bitmap entries) = cleaning_holds path main (done ++ next_entry state main done ∷ [])
  clean_tomb path main done (Single k v) = cleaning_holds path main (done ++ next_entry state main done ∷ [])
  clean_tomb path main done (Listed singles) = cleaning_holds path main (done ++ next_entry state main done ∷ [])

  clean_made : (private : List Ref) (path : List Ref) (main : Ref) (made : Option Ref) → length private ≤ 0 →
      LineHolds (length (with_made private made)) (clean_after_contracted path main made)
  clean_made private path main None h = omega arith
  clean_made private path main (Some made) h = omega (arith, h, length_push private made)

  cleans : (private : List Ref) (l : CleanLine) → length private ≤ 0 → HoldsAfter state private (clean_action state l) (clean_after state operation l)
  cleans private (clean.Read path r) h = left_so state private _ _ (read_leaves state private r.indirection r.line) h (clean_read path _)
  cleans private (clean.Main path main) h = left_so state private (act.Look main) _ refl h (clean_main path main (node_at state.heap main))
  cleans private (clean.Entry path main done) h =
      let entry = next_entry state main done in left_so state private (act.Look entry) _ refl h (clean_entry path main done entry (node_at state.heap entry))
  cleans private (clean.Child path main done r) h = left_so state private _ _ (read_leaves state private r.indirection r.line) h (clean_child path main done _)
  cleans private (clean.Tomb path main done child) h = left_so state private (act.Look child) _ refl h (clean_tomb path main done (node_at state.heap child))
  cleans private (clean.Contracted path main done) h = clean_made private path main _ h

  -- CLIMB
  climb_read : (c : Climb) (o : After Read Ref) → LineHolds 0 (climb_after_read c o)
  climb_read c (Goes r) = omega arith
  climb_read c (Gives main) = omega arith

  climb_main : (c : Climb) (main : Ref) (node : Node) → LineHolds 0 (climb_after_main state operation c main node)
  climb_main c main (Tomb single) = climbing_holds state operation _
  climb_main c main (Branch bitmap entries) = cond_both (holds_it state operation c main bitmap entries.items) _ _ (LineHolds 0) (λ e. omega arith) (λ e. omega arith)
  climb_main c main (Indirection generation word) = omega arith
  climb_main c main (Single k v) = omega arith
  climb_main c main (Listed singles) = omega arith

  climb_made : (private : List Ref) (c : Climb) (main : Ref) (made : Option Ref) → length private ≤ 0 →
      LineHolds (length (with_made private made)) (climb_after_contracted operation c main made)
  climb_made private c main None h = omega arith
  climb_made private c main (Some made) h = omega (arith, h, length_push private made)

  climb_root : (c : Climb) (o : After RootLine Ref) → LineHolds 0 (climb_after_root state operation c o)
  climb_root c (Goes l) = omega arith
  climb_root c (Gives r) = cond_both (is_start operation (generation_at state.heap r)) _ _ (LineHolds 0) (λ e. climbing_holds state operation c) (λ e. omega arith)

  climbs : (private : List Ref) (l : ClimbLine) → length private ≤ 0 → HoldsAfter state private (climb_action state operation l) (climb_after state operation l)
  climbs private (climb.Read c r) h = left_so state private _ _ (read_leaves state private r.indirection r.line) h (climb_read c _)
  climbs private (climb.Main c main) h = left_so state private (act.Look main) _ refl h (climb_main c main (node_at state.heap main))
  climbs private (climb.Contracted c main) h = climb_made private c main _ h
  climbs private (climb.Root c l) h = left_so state private _ _ (root_leaves state private l) h (climb_root c _)

  -- a snapshot, a freeze or a clear
  given_holds : (call : Call) (r main : Ref) → LineHolds 0 (after_given call r main)
  given_holds (Clear h) r main = omega arith
  given_holds (Snapshot h) r main = omega arith
  given_holds (Freeze h) r main = omega arith
  given_holds (Close h) r main = omega arith
  given_holds (Entries h) r main = omega arith
  given_holds (Count h) r main = omega arith
  given_holds call r main = omega arith

  successor_holds : (n : ℕ) (call : Call) (r main made : Ref) → n ≤ 1 → LineHolds n (after_successor operation call r main made)
  successor_holds n (Snapshot h) r main made few = few
  successor_holds n (Clear h) r main made few = omega (arith, few)
  successor_holds n (Freeze h) r main made few = omega (arith, few)
  successor_holds n (Close h) r main made few = omega (arith, few)
  successor_holds n (Entries h) r main made few = omega (arith, few)
  successor_holds n (Count h) r main made few = omega (arith, few)
  successor_holds n call r main made few = omega (arith, few)

  copy_read : (r : Ref) (o : After Read Ref) → LineHolds 0 (copy_after_read operation r o)
  copy_read r (Goes l) = omega arith
  copy_read r (Gives main) = given_holds operation.call r main

  copy_made : (private : List Ref) (l : CopyLine) (made : Option Ref) → CopyHolds (length private) l → LineHolds (length (with_made private made)) (copy_if_made operation l made)
  copy_made private l None h = omega arith
  copy_made private (copy.Successor r main) (Some made) h = successor_holds _ operation.call r main made (omega (arith, h, length_push private made))
  copy_made private (copy.Second r main successor) (Some made) h = omega (arith, h, length_push private made)
  copy_made private (copy.Empty r main) (Some made) h = omega (arith, h, length_push private made)
  copy_made private (copy.Cleared r main branch) (Some made) h = omega (arith, h, length_push private made)
  copy_made private (copy.Read r l) (Some made) h = omega (arith, h, length_push private made)
  copy_made private (copy.Offer offer) (Some made) h = omega (arith, h, length_push private made)
  copy_made private (copy.Complete c) (Some made) h = omega (arith, h, length_push private made)

  offer_holds : (offer : Descriptor) (b : Bool) → LineHolds 0 (after_offer offer b)
  offer_holds offer true = omega arith
  offer_holds offer false = omega arith

  complete_holds : (o : After Complete Bool) → LineHolds 0 (copy_after_complete operation o)
  complete_holds (Goes c) = omega arith
  complete_holds (Gives done) = cond_both (done || operation.is_marked) _ _ (LineHolds 0) (λ e. omega arith) (λ e. omega arith)

  copies : (private : List Ref) (l : CopyLine) → CopyHolds (length private) l → HoldsAfter state private (copy_action l) (copy_after state operation l)
  copies private (copy.Read r l) h = left_so state private _ _ (read_leaves state private l.indirection l.line) h (copy_read r _)
  copies private (copy.Successor r main) h = copy_made private (copy.Successor r main) _ h
  copies private (copy.Second r main successor) h = copy_made private (copy.Second r main successor) _ h
  copies private (copy.Empty r main) h = copy_made private (copy.Empty r main) _ h
  copies private (copy.Cleared r main branch) h = copy_made private (copy.Cleared r main branch) _ h
  copies private (copy.Offer offer) h = offer_holds offer _
  copies private (copy.Complete c) h = left_so state private _ _ (complete_leaves state private c.offer c.line) h (complete_holds _)

  -- walks
  walking_holds : (todo : List Ref) (pairs : List (ℕ × ℕ)) → LineHolds 0 (walk_next operation todo pairs)
  walking_holds [] pairs = omega arith
  walking_holds (entry ∷ todo) pairs = omega arith

  walk_read : (todo : List Ref) (pairs : List (ℕ × ℕ)) (o : After Read Ref) → LineHolds 0 (walk_after_read todo pairs o)
  walk_read todo pairs (Goes r) = omega arith
  walk_read todo pairs (Gives main) = omega arith

  walk_entry : (entry : Ref) (todo : List Ref) (pairs : List (ℕ × ℕ)) (node : Node) → LineHolds 0 (walk_after_entry operation entry todo pairs node)
  walk_entry entry todo pairs (Indirection generation word) = omega arith
  walk_entry entry todo pairs (Single k v) = walking_holds todo (pairs ++ (k, v) ∷ [])
  walk_entry entry todo pairs (Branch bitmap entries) = omega arith
  walk_entry entry todo pairs (Tomb single) = omega arith
  walk_entry entry todo pairs (Listed singles) = omega arith

  walks : (private : List Ref) (l : WalkLine) → length private ≤ 0 → HoldsAfter state private (walk_action l) (walk_after state operation l)
  walks private walk.Root h = left_so state private act.ReadRoot (walk_after state operation walk.Root) refl h (omega arith)
  walks private (walk.Read r todo pairs) h = left_so state private _ _ (read_leaves state private r.indirection r.line) h (walk_read todo pairs _)
  walks private (walk.Main main todo pairs) h = left_so state private (act.Look main) _ refl h (walking_holds (entries_of (node_at state.heap main) ++ todo) pairs)
  walks private (walk.Entry todo pairs) h =
      let entry = first_of todo in left_so state private (act.Look entry) _ refl h (walk_entry entry (rest_of todo) pairs (node_at state.heap entry))

  -- ROOT in the first line
  from_root_holds : (call : Call) (r : Ref) → LineHolds 0 (from_root call r)
  from_root_holds (Clear h) r = omega arith
  from_root_holds (Snapshot h) r = omega arith
  from_root_holds (Freeze h) r = omega arith
  from_root_holds call r = omega arith

  root_holds : (o : After RootLine Ref) → LineHolds 0 (after_root operation o)
  root_holds (Goes l) = omega arith
  root_holds (Gives r) = from_root_holds operation.call r

  -- each line
  pub holds_after : (private : List Ref) (l : Line) → LineHolds (length private) l → HoldsAfter state private (line_action state operation l) (line_after state operation l)
  holds_after private (line.Root l) h = left_so state private _ _ (root_leaves state private l) h (root_holds _)
  holds_after private (line.Key l) h = keys state operation private l h
  holds_after private (line.Build l) h = builds state operation private l h
  holds_after private (line.Swap why s) h = swaps state operation private why s s.line h
  holds_after private (line.Renew l) h = renews private l h
  holds_after private (line.Clean l) h = cleans private l h
  holds_after private (line.Climb l) h = climbs private l h
  holds_after private (line.Copy l) h = copies private l h
  holds_after private (line.Walk l) h = walks private l h
  holds_after private (line.End answer) h = h
  holds_after private line.Impossible h = h
