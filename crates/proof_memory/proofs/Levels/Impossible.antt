-- Which lines can lead to the impossible line: two alone, a tomb at the end of a path of one indirection and a list as the parent in CLIMB. That these don't come
-- about is shown by levels.
use Rattle.std.proofs.Common.{◌≡◌, ℕ, ◌+◌, ◌-◌, ◌==◌, ◌&&◌, Bool, true, false, nat_lt, nat_eq, List, [], ◌∷◌, ◌++◌, Option, Some, None, length, refl, ap, arith}
use Rattle.std.specs.Cmp.Lexicographic.{pointwise}
use Rattle.std.proofs.lemmas.Bool.{false≢true, cond_both}
use Rattle.std.proofs.lemmas.List.Elements.{All-head}
use Rattle.proof_memory.specs.Vocabulary.{Access, Writable, ReadOnly, Ref, Node, Indirection, Branch, Single, Tomb, List as Listed, node_at, entry_at, entries_of, next_ref, has_flag, Operation}
use Rattle.proof_memory.specs.Vocabulary.{Swap, Purpose, Line, RootLine, WhenFound, Answers, Sets, Removes, BuildLine, Climb, CopyLine, needs_writable, when_found, key_of, State, is_below_root}
use Rattle.proof_memory.specs.Vocabulary.{is_start, flag_in, line_after, renew_next, next_entry, renew_after, renew_after_entry, renew_after_link, renew_after_branch, key_after, absent}
use Rattle.proof_memory.specs.Vocabulary.{absent_beside, absent_listed, removing, found_so, after_tomb, key_after_main, key_after_entry, is_passable, after_listed, after_sibling, build_after}
use Rattle.proof_memory.specs.Vocabulary.{clean_next, clean_after, clean_after_entry, clean_after_main, clean_after_tomb, climb_after, climb_after_main, climbing, higher, holds_it, copy_after}
use Rattle.proof_memory.specs.Vocabulary.{walk_after, walk_next, walk_after_entry, first_of, rest_of}
use Rattle.arrayvec.specs.ArrayVec.{ArrayVec}
use Rattle.machine_model.specs.declared.lines.Line.TheVariants as line
use Rattle.machine_model.specs.declared.finding.KeyLine.TheVariants as key
use Rattle.machine_model.specs.declared.repairs.RenewLine.TheVariants as renew
use Rattle.machine_model.specs.declared.repairs.CleanLine.TheVariants as clean
use Rattle.machine_model.specs.declared.repairs.ClimbLine.TheVariants as climb
use Rattle.machine_model.specs.declared.walking.WalkLine.TheVariants as walk
use Rattle.proof_memory.specs.Wants.{AMain, ABranch, AList, TombOrList, AnEntry, ASingle, meets, is_list, Is, Each, Holds, AllHold, listed, line_wants}
use Rattle.proof_memory.proofs.Claims.Uses.{Meets, meets_of, is_also, all_of, fact_of}
use Rattle.proof_memory.proofs.Claims.Nodes.{Heaped, listed_entries, at_position, entry_met}
use Rattle.proof_memory.proofs.Claims.Named.{main_claim, past_place, left_claim, past_climb}
use Rattle.proof_memory.proofs.Lines.Key.{Changes, reader_changes, listed_either, changed_list}

abbrev pub IsImpossible : Line → Type 0
IsImpossible line.Impossible = Unit {0}
IsImpossible l = ⊥

abbrev pub is_tomb : Node → Bool
is_tomb (Tomb single) = true
is_tomb node = false

-- a tomb at a root, or a list as parent
abbrev pub IsStrange : State → Line → Type 0
IsStrange state (line.Key (key.Main path main)) = (is_below_root path ≡ false) × (is_tomb (node_at state.heap main) ≡ true)
IsStrange state (line.Climb (climb.Main c main)) = is_list (node_at state.heap main) ≡ true
IsStrange state l = ⊥

-- ---- programs that never lead there

root_never : (state : State) (operation : Operation) (l : RootLine) → IsImpossible (line_after state operation (line.Root l)) → ⊥
root_never state operation l h = grind arith

build_never : (state : State) (operation : Operation) (l : BuildLine) → IsImpossible (build_after state operation l) → ⊥
build_never state operation l h = grind arith

swap_never : (state : State) (operation : Operation) (why : Purpose) (s : Swap) → IsImpossible (line_after state operation (line.Swap why s)) → ⊥
swap_never state operation why s h = grind arith

copy_never : (state : State) (operation : Operation) (l : CopyLine) → IsImpossible (copy_after state operation l) → ⊥
copy_never state operation l h = grind arith

-- ---- the others, by the node that is looked at

module _ (state : State) (operation : Operation) where
  renew_next_never : (path : List Ref) (main : Ref) (done : List Ref) → IsImpossible (renew_next state path main done) → ⊥
  renew_next_never path main done = cond_both (nat_lt (length done) (length (entries_of (node_at state.heap main)))) _ _ (λ l. IsImpossible l → ⊥) (λ e h. h) (λ e h. h)

  clean_next_never : (path : List Ref) (main : Ref) (done : List Ref) → IsImpossible (clean_next state path main done) → ⊥
  clean_next_never path main done =
      cond_both (nat_lt (length done) (length (entries_of (node_at state.heap main)))) _ _ (λ l. IsImpossible l → ⊥) (λ e h. h)
      (λ e. cond_both (pointwise nat_eq done (entries_of (node_at state.heap main))) _ _ (λ l. IsImpossible l → ⊥) (λ e h. h) (λ e h. h))

  removing_branch_never : (path : List Ref) (main : Ref) (position value : ℕ) (node : Node) → meets ABranch node ≡ true → IsImpossible (removing state path main position value node) → ⊥
  removing_branch_never path main position value (Branch bitmap entries) e =
      cond_both (is_below_root path && (length entries.items == 2)) _ _ (λ l. IsImpossible l → ⊥) (λ e h. h) (λ e h. h)
  removing_branch_never path main position value node e = λ h. false≢true e

  removing_list_never : (path : List Ref) (main : Ref) (position value : ℕ) (node : Node) → meets AList node ≡ true → IsImpossible (removing state path main position value node) → ⊥
  removing_list_never path main position value (Listed singles) e = cond_both (length singles.items == 2) _ _ (λ l. IsImpossible l → ⊥) (λ e h. h) (λ e h. h)
  removing_list_never path main position value node e = λ h. false≢true e

  found_never : (path : List Ref) (main : Ref) (position value : ℕ) (todo : WhenFound) → (Changes todo → IsImpossible (removing state path main position value (node_at state.heap main)) → ⊥) →
      IsImpossible (found_so state path main position value todo) → ⊥
  found_never path main position value (Answers answer) f h = h
  found_never path main position value Sets f h = h
  found_never path main position value Removes f h = f tt h

  absent_never : (path : List Ref) (main : Ref) → IsImpossible (absent operation path main) → ⊥
  absent_never path main h = grind arith

  beside_never : (path : List Ref) (main : Ref) (position : ℕ) → IsImpossible (absent_beside operation path main position) → ⊥
  beside_never path main position h = grind arith

  listed_never : (path : List Ref) (main : Ref) (singles : ℕ) → IsImpossible (absent_listed operation path main singles) → ⊥
  listed_never path main singles h = grind arith

  tomb_strange : (access : Access) (path : List Ref) (main : Ref) → IsImpossible (after_tomb access path main) → is_below_root path ≡ false
  tomb_strange Writable path main = cond_both (is_below_root path) _ _ (λ l. IsImpossible l → is_below_root path ≡ false) (λ e h. absurd h) (λ e h. e)
  tomb_strange ReadOnly path main = λ h. absurd h

  main_strange : (path : List Ref) (main : Ref) (node : Node) → node_at state.heap main ≡ node → meets AMain node ≡ true → IsImpossible (key_after_main state operation path main node) →
      IsStrange state (line.Key (key.Main path main))
  main_strange path main (Branch bitmap entries) e m h = absurd (cond_both (has_flag bitmap (flag_in state operation path)) _ _ (λ l. IsImpossible l → ⊥) (λ e h. h) (λ e. absent_never path main) h)
  main_strange path main (Tomb single) e m h = (tomb_strange operation.access path main h, ap is_tomb e)
  main_strange path main (Listed singles) e m h = absurd h
  main_strange path main node e m h = absurd (false≢true m)

  entry_never : (path : List Ref) (main : Ref) (position : ℕ) (node : Node) → meets AnEntry node ≡ true → meets ABranch (node_at state.heap main) ≡ true →
      IsImpossible (key_after_entry state operation path main position node) → ⊥
  entry_never path main position (Indirection generation word) e m = cond_both (is_passable operation generation) _ _ (λ l. IsImpossible l → ⊥) (λ e h. h) (λ e. renew_next_never path main [])
  entry_never path main position (Single k v) e m =
      cond_both (k == key_of operation.call) _ _ (λ l. IsImpossible l → ⊥)
      (λ e. found_never path main position v (when_found operation.call v) (λ c. removing_branch_never path main position v (node_at state.heap main) m)) (λ e. beside_never path main position)
  entry_never path main position node e m = λ h. false≢true e

  sibling_never : (path : List Ref) (main : Ref) (position former : ℕ) (other : Ref) (node : Node) → meets AnEntry node ≡ true → IsImpossible (after_sibling path main position former other node) → ⊥
  sibling_never path main position former other (Indirection generation word) e h = h
  sibling_never path main position former other (Single k v) e h = h
  sibling_never path main position former other node e h = false≢true e

  renew_entry_never : (path : List Ref) (main : Ref) (done : List Ref) (entry : Ref) (node : Node) → meets AnEntry node ≡ true →
      IsImpossible (renew_after_entry state operation path main done entry node) → ⊥
  renew_entry_never path main done entry (Indirection generation word) e =
      cond_both (is_start operation generation) _ _ (λ l. IsImpossible l → ⊥) (λ e. renew_next_never path main (done ++ entry ∷ [])) (λ e h. h)
  renew_entry_never path main done entry (Single k v) e = renew_next_never path main (done ++ entry ∷ [])
  renew_entry_never path main done entry node e = λ h. false≢true e

  clean_entry_never : (path : List Ref) (main : Ref) (done : List Ref) (entry : Ref) (node : Node) → meets AnEntry node ≡ true → IsImpossible (clean_after_entry state path main done entry node) → ⊥
  clean_entry_never path main done entry (Indirection generation word) e = λ h. h
  clean_entry_never path main done entry (Single k v) e = clean_next_never path main (done ++ entry ∷ [])
  clean_entry_never path main done entry node e = λ h. false≢true e

  clean_main_never : (path : List Ref) (main : Ref) (node : Node) → IsImpossible (clean_after_main state path main node) → ⊥
  clean_main_never path main (Branch bitmap entries) = clean_next_never path main []
  clean_main_never path main node = λ h. h

  clean_tomb_never : (path : List Ref) (main : Ref) (done : List Ref) (node : Node) → IsImpossible (clean_after_tomb state path main done node) → ⊥
  clean_tomb_never path main done (Tomb single) = clean_next_never path main (done ++ single ∷ [])
  clean_tomb_never path main done node = clean_next_never path main (done ++ next_entry state main done ∷ [])

  climbing_never : (c : Climb) → IsImpossible (climbing operation c) → ⊥
  climbing_never c = cond_both (is_below_root c.path) _ _ (λ l. IsImpossible l → ⊥) (λ e h. h) (λ e h. h)

  branch_never : (c : Climb) (main : Ref) (bitmap : ℕ) (entries : ArrayVec Ref) → IsImpossible (climb_after_main state operation c main (Branch bitmap entries)) → ⊥
  branch_never c main bitmap entries = cond_both (holds_it state operation c main bitmap entries.items) _ _ (λ l. IsImpossible l → ⊥) (λ e h. h) (λ e h. h)

  climb_strange : (c : Climb) (main : Ref) (node : Node) → node_at state.heap main ≡ node → meets AMain node ≡ true → IsImpossible (climb_after_main state operation c main node) →
      is_list (node_at state.heap main) ≡ true
  climb_strange c main (Branch bitmap entries) e m h = absurd (branch_never c main bitmap entries h)
  climb_strange c main (Tomb single) e m h = absurd (climbing_never (higher c single) h)
  climb_strange c main (Listed singles) e m h = ap is_list e
  climb_strange c main node e m h = absurd (false≢true m)

  walk_next_never : (todo : List Ref) (pairs : List (ℕ × ℕ)) → IsImpossible (walk_next operation todo pairs) → ⊥
  walk_next_never [] pairs h = h
  walk_next_never (entry ∷ todo) pairs h = h

  walk_entry_never : (entry : Ref) (todo : List Ref) (pairs : List (ℕ × ℕ)) (node : Node) → meets AnEntry node ≡ true → IsImpossible (walk_after_entry operation entry todo pairs node) → ⊥
  walk_entry_never entry todo pairs (Indirection generation word) e = λ h. h
  walk_entry_never entry todo pairs (Single k v) e = walk_next_never todo (pairs ++ (k, v) ∷ [])
  walk_entry_never entry todo pairs node e = λ h. false≢true e

  module _ (S : Ref → Type 0) (H : Heaped S state.heap) (fits : operation.access ≡ ReadOnly → needs_writable operation.call ≡ false) where
    -- the entry that is looked at
    single_never : (path : List Ref) (main : Ref) (position : ℕ) (node : Node) → meets ASingle node ≡ true → Holds S state.heap (Is main (listed operation.access)) →
        IsImpossible (after_listed state operation path main position node) → ⊥
    single_never path main position (Single k v) e m =
        cond_both (k == key_of operation.call) _ _ (λ l. IsImpossible l → ⊥)
        (λ e. found_never path main position v (when_found operation.call v)
        (λ c. removing_list_never path main position v (node_at state.heap main) (meets_of (changed_list state operation S H fits (λ n. reader_changes operation.call v n c) m))))
        (λ e. cond_both (nat_lt (position + 1) (length (entries_of (node_at state.heap main)))) _ _ (λ l. IsImpossible l → ⊥) (λ e h. h) (λ e. listed_never path main _))
    single_never path main position node e m = λ h. false≢true e

    pub impossible_strange : (l : Line) → AllHold S state.heap (line_wants state.limits.hash operation.call operation.access l) → (IsImpossible l → ⊥) →
        IsImpossible (line_after state operation l) → IsStrange state l
    impossible_strange (line.Root l) h n i = absurd (root_never state operation l i)
    impossible_strange (line.Key (key.Read path r)) h n i = absurd (read_never i)
      where
        read_never : IsImpossible (key_after state operation (key.Read path r)) → ⊥
        read_never x = grind arith
    impossible_strange (line.Key (key.Main path main)) h n i = main_strange path main (node_at state.heap main) refl (meets_of (main_claim h)) i
    impossible_strange (line.Key (key.Entry path main position)) h n i =
        absurd (entry_never path main position (node_at state.heap (entry_at state.heap main position)) (entry_met S state.heap H (main_claim h) (past_place h).0).1 (meets_of (main_claim h)) i)
    impossible_strange (line.Key (key.Listed path main position)) h n i =
        absurd (single_never path main position (node_at state.heap (entry_at state.heap main position))
        ((at_position S state.heap ASingle position (listed_entries S state.heap H (is_also TombOrList (listed_either operation.access) (main_claim h))) (past_place h).0).1) (main_claim h) i)
    impossible_strange (line.Key (key.Sibling path main position former)) h n i =
        absurd (sibling_never path main position former _ (node_at state.heap (entry_at state.heap main (1 - position))) (entry_met S state.heap H (main_claim h) (past_place h).0).1 i)
    impossible_strange (line.Build l) h n i = absurd (build_never state operation l i)
    impossible_strange (line.Swap why s) h n i = absurd (swap_never state operation why s i)
    impossible_strange (line.Renew (renew.Entry path main done)) h n i =
        absurd (renew_entry_never path main done (next_entry state main done) (node_at state.heap (next_entry state main done)) (entry_met S state.heap H (main_claim h) (left_claim h)).1 i)
    impossible_strange (line.Renew (renew.Read path main done r)) h n i = absurd (renew_read_never i)
      where
        renew_read_never : IsImpossible (renew_after state operation (renew.Read path main done r)) → ⊥
        renew_read_never x = grind arith
    impossible_strange (line.Renew (renew.Link path main done child)) h n i = absurd (link_never (next_ref state.heap) i)
      where
        link_never : (o : Option Ref) → IsImpossible (renew_after_link state path main done o) → ⊥
        link_never None x = x
        link_never (Some made) x = renew_next_never path main (done ++ made ∷ []) x
    impossible_strange (line.Renew (renew.Branch path main done)) h n i = absurd (branch_never (next_ref state.heap) i)
      where
        branch_never : (o : Option Ref) → IsImpossible (renew_after_branch path main o) → ⊥
        branch_never None x = x
        branch_never (Some made) x = x
    impossible_strange (line.Clean (clean.Main path main)) h n i = absurd (clean_main_never path main (node_at state.heap main) i)
    impossible_strange (line.Clean (clean.Entry path main done)) h n i =
        absurd (clean_entry_never path main done (next_entry state main done) (node_at state.heap (next_entry state main done)) (entry_met S state.heap H (main_claim h) (left_claim h)).1 i)
    impossible_strange (line.Clean (clean.Tomb path main done child)) h n i = absurd (clean_tomb_never path main done (node_at state.heap child) i)
    impossible_strange (line.Clean (clean.Read path r)) h n i = absurd (clean_read_never i)
      where
        clean_read_never : IsImpossible (clean_after state operation (clean.Read path r)) → ⊥
        clean_read_never x = grind arith
    impossible_strange (line.Clean (clean.Child path main done r)) h n i = absurd (clean_child_never i)
      where
        clean_child_never : IsImpossible (clean_after state operation (clean.Child path main done r)) → ⊥
        clean_child_never x = grind arith
    impossible_strange (line.Clean (clean.Contracted path main done)) h n i = absurd (contracted_never i)
      where
        contracted_never : IsImpossible (clean_after state operation (clean.Contracted path main done)) → ⊥
        contracted_never x = grind arith
    impossible_strange (line.Climb (climb.Main c main)) h n i = climb_strange c main (node_at state.heap main) refl (meets_of (past_climb h).0) i
    impossible_strange (line.Climb (climb.Read c r)) h n i = absurd (climb_read_never i)
      where
        climb_read_never : IsImpossible (climb_after state operation (climb.Read c r)) → ⊥
        climb_read_never x = grind arith
    impossible_strange (line.Climb (climb.Contracted c main)) h n i = absurd (climb_made_never i)
      where
        climb_made_never : IsImpossible (climb_after state operation (climb.Contracted c main)) → ⊥
        climb_made_never x = grind arith
    impossible_strange (line.Climb (climb.Root c l)) h n i = absurd (climb_root_never i)
      where
        climb_root_never : IsImpossible (climb_after state operation (climb.Root c l)) → ⊥
        climb_root_never x = grind arith
    impossible_strange (line.Copy l) h n i = absurd (copy_never state operation l i)
    impossible_strange (line.Walk walk.Root) h n i = absurd i
    impossible_strange (line.Walk (walk.Read r todo pairs)) h n i = absurd (walk_read_never i)
      where
        walk_read_never : IsImpossible (walk_after state operation (walk.Read r todo pairs)) → ⊥
        walk_read_never x = grind arith
    impossible_strange (line.Walk (walk.Main main todo pairs)) h n i = absurd (walk_next_never (entries_of (node_at state.heap main) ++ todo) pairs i)
    impossible_strange (line.Walk (walk.Entry todo pairs)) h n i =
        absurd (walk_entry_never (first_of todo) (rest_of todo) pairs (node_at state.heap (first_of todo)) (first_meets todo h.0 (fact_of h.1.0)) i)
      where
        first_meets : (todo : List Ref) → Holds S state.heap (Each todo AnEntry) → nat_lt 0 (length todo) ≡ true → meets AnEntry (node_at state.heap (first_of todo)) ≡ true
        first_meets [] t long = absurd (false≢true long)
        first_meets (entry ∷ todo) t long = (All-head (Meets S state.heap AnEntry) entry todo (all_of t)).1
    impossible_strange (line.End answer) h n i = absurd i
    impossible_strange line.Impossible h n i = absurd (n tt)
