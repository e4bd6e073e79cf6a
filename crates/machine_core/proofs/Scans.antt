-- What a scan finds on its way, and what it has taken behind each step.
use Rattle.std.proofs.Common.{◌≡◌, ℕ, suc, ◌+◌, ◌-◌, ◌*◌, ◌%◌, ◌^◌, ◌<◌, ◌≤◌, Bool, true, false, cond, List, [], ◌∷◌, ◌++◌, length, take, drop, get_or, Option, Some, None}
use Rattle.std.proofs.Common.{arith, refl, sym, ap, subst, ◌∙◌}
use Rattle.std.specs.List.{filter, flat_map}
use Rattle.std.specs.Option.{IsSome}
use Rattle.std.proofs.lemmas.List.{get_or-drop, length-drop}
use Rattle.arrayvec.specs.ArrayVec.{ArrayVec}
use Rattle.machine_core.specs.Vocabulary.{hash_of, position_of, HashKind, Node, Branch, Indirection, Single, Tomb, List as Listed, Ref, Heap, bitmap_of, entries_of, logical_main, node_at, flag_of}
use Rattle.machine_core.specs.Vocabulary.{has_flag, Root, content_at, most_levels, pairs_below, by_key, State, root_at, root_of, word_at, word_of, is_branch, IsOfRun, is_after, next_of}
use Rattle.machine_core.specs.Vocabulary.{IsEntryPlaced, IsMainPlaced, is_behind, walked, walked_in}
use Rattle.proof_core.specs.Scanning.{IsPlaced, scanned}
use Rattle.proof_core.proofs.Gathering.{gather_more, gather_none}
use Rattle.proof_core.proofs.Scanned.{entry_in_place, singles_met}
use Rattle.proof_core.proofs.Scanning.Cursors.{branch_off, branch_on, branch_way, list_behind, tomb_walked}
use Rattle.proof_core.proofs.Scanning.Placed.{placed}
use Rattle.proof_core.proofs.Scanning.Sorts.{walk_sorts}
use Rattle.proof_core.proofs.Scanning.Walks.{none_walked, some_placed, some_walked}
use Rattle.proof_core.proofs.Taking.{filter_all, taken_enough, taken_nothing, taken_on, taken_one, taken_with}
use Rattle.machine_core.specs.Scanning.{IsMainOnWay, IsOnWay, with_next}

-- ---- what is taken

module _ (kind : HashKind) (after : Option ℕ) (room : ℕ) (taken : List (ℕ × ℕ)) where
  abbrev behind : ℕ × ℕ → Bool
  behind pair = is_behind kind after pair.0

  pub none_next : with_next kind after room taken [] ≡ taken
  unfolding with_next
  none_next = taken_nothing room taken

  pub enough_next : (pairs : List (ℕ × ℕ)) → room ≤ length taken → with_next kind after room taken pairs ≡ taken
  unfolding with_next
  enough_next pairs enough = taken_enough room taken (filter behind pairs) enough

  pub one_next : (key value : ℕ) → length taken < room → is_behind kind after key ≡ true → with_next kind after room taken ((key, value) ∷ []) ≡ taken ++ (key, value) ∷ []
  unfolding with_next
  one_next key value few is =
      ap (λ b. taken_with room taken (cond b ((key, value) ∷ []) [])) is ∙ taken_one room taken (key, value) few

  pub other_next : (key value : ℕ) → is_behind kind after key ≡ false → with_next kind after room taken ((key, value) ∷ []) ≡ taken
  unfolding with_next
  other_next key value is = ap (λ b. taken_with room taken (cond b ((key, value) ∷ []) [])) is ∙ taken_nothing room taken

  -- what is taken behind what was taken of these pairs, where all of it is behind the cursor
  pub then_all : (pairs rest : List (ℕ × ℕ)) → with_next kind None room (with_next kind after room taken pairs) rest ≡ taken_with room taken (filter behind pairs ++ rest)
  unfolding with_next
  then_all pairs rest = ap (taken_with room (taken_with room taken (filter behind pairs))) (filter_all rest) ∙ taken_on room taken (filter behind pairs) rest

-- ---- entries, one by one

module _ (kind : HashKind) (room : ℕ) (f : Ref → List (ℕ × ℕ)) (es : List Ref) (i : ℕ) (d : Ref) where
  pub each_next : (before after : List (ℕ × ℕ)) → i < length es → after ≡ with_next kind None room before (f (get_or es i d)) →
      with_next kind None room after (flat_map f (drop (i + 1) es)) ≡ with_next kind None room before (flat_map f (drop i es))
  unfolding with_next
  each_next before after within is =
      let here = f (get_or es i d) in
      let rest = flat_map f (drop (i + 1) es) in
      ap (λ taken. with_next kind None room taken rest) is
      ∙ then_all kind None room before here rest
      ∙ ap (λ pairs. taken_with room before (pairs ++ rest)) (filter_all here)
      ∙ ap (taken_with room before) (sym (gather_more f es i d within) ∙ sym (filter_all (flat_map f (drop i es))))

pub each_done : (kind : HashKind) (room : ℕ) (f : Ref → List (ℕ × ℕ)) (es : List Ref) (i : ℕ) (taken : List (ℕ × ℕ)) → length es ≤ i → with_next kind None room taken (flat_map f (drop i es)) ≡ taken
each_done kind room f es i taken past = ap (with_next kind None room taken) (gather_none f es i past) ∙ none_next kind None room taken

-- ---- on the way

module _ (kind : HashKind) (heap : Heap) (levels depth : ℕ) (after : Option ℕ) where
  pub main_on_way : (at : Ref) (generation : ℕ) (main : Ref) → 0 < levels → node_at heap at ≡ Indirection generation main → IsOnWay kind heap levels depth after at →
      IsMainOnWay kind heap (levels - 1) depth after (node_at heap (logical_main heap at))
  main_on_way at generation main some is way = record {
    path = way.path;
    placed = subst (IsEntryPlaced kind heap (IsPlaced kind (levels - 1) heap) depth way.path at) is (some_placed kind levels heap depth way.path at some way.placed);
    along = way.along;
  }

  pub tomb_on_way : (node : Node) (single : Ref) → node ≡ Tomb single → IsMainOnWay kind heap levels depth after node → IsOnWay kind heap levels depth after single
  tomb_on_way node single is way = record {
    path = way.path;
    placed = subst (IsMainPlaced kind heap (IsPlaced kind levels heap) depth way.path) is way.placed;
    along = way.along;
  }

  -- an entry of a branch, where there is no cursor any more
  pub each_on_way : (node : Node) (i : ℕ) (d : Ref) → is_branch node ≡ true → i < length (entries_of node) → IsMainOnWay kind heap levels depth after node →
      IsOnWay kind heap levels (depth + 1) None (get_or (entries_of node) i d)
  each_on_way (Branch bitmap entries) i d is within way =
      let next : suc depth ≡ depth + 1 = omega arith in
      let (deeper, placed) = entry_in_place kind heap (IsPlaced kind levels heap) depth way.path bitmap entries i d within way.placed in
      record { path = deeper; placed = subst (λ n. IsPlaced kind levels heap n deeper (get_or entries.items i d)) next placed; along = tt }
  each_on_way (Single key value) i d is within way = absurd (omega (arith, within))
  each_on_way (Indirection generation main) i d is within way = absurd (omega (arith, within))
  each_on_way (Tomb single) i d is within way = cc is
  each_on_way (Listed singles) i d is within way = cc is

  pub rest_on_way : (node : Node) (p i : ℕ) (d : Ref) → is_branch node ≡ true → i < length (drop p (entries_of node)) → IsMainOnWay kind heap levels depth after node →
      IsOnWay kind heap levels (depth + 1) None (get_or (drop p (entries_of node)) i d)
  rest_on_way node p i d is within way =
      let left = length-drop p (entries_of node) in
      subst (IsOnWay kind heap levels (depth + 1) None) (sym (get_or-drop p (entries_of node) i d)) (each_on_way node (p + i) d is (omega (arith, left, within)) way)

-- the entry to which the cursor's hash leads
pub flagged_on_way : (kind : HashKind) (heap : Heap) (levels depth last : ℕ) (node : Node) (d : Ref) → is_branch node ≡ true →
    has_flag (bitmap_of node) (flag_of (hash_of kind last) depth) ≡ true → IsMainOnWay kind heap levels depth (Some last) node →
    IsOnWay kind heap levels (depth + 1) (Some last) (get_or (entries_of node) (position_of (flag_of (hash_of kind last) depth) (bitmap_of node)) d)
flagged_on_way kind heap levels depth last (Branch bitmap entries) d is flag way =
    let next : suc depth ≡ depth + 1 = omega arith in
    let at = get_or entries.items (position_of (flag_of (hash_of kind last) depth) bitmap) d in
    subst (λ n. IsOnWay kind heap levels n (Some last) at) next (record {
      path = hash_of kind last % 2 ^ (5 * suc depth);
      placed = branch_way kind levels heap depth way.path last way.along bitmap entries way.placed d flag;
      along = refl;
    })
flagged_on_way kind heap levels depth last (Single key value) d is flag way = cc is
flagged_on_way kind heap levels depth last (Indirection generation main) d is flag way = cc is
flagged_on_way kind heap levels depth last (Tomb single) d is flag way = cc is
flagged_on_way kind heap levels depth last (Listed singles) d is flag way = cc is

-- ---- a branch behind the cursor

module _ (kind : HashKind) (heap : Heap) (levels depth last room : ℕ) (before : List (ℕ × ℕ)) where
  abbrev position : Node → ℕ
  position node = position_of (flag_of (hash_of kind last) depth) (bitmap_of node)

  pub flagged_next : (node : Node) (d : Ref) (middle : List (ℕ × ℕ)) → is_branch node ≡ true → has_flag (bitmap_of node) (flag_of (hash_of kind last) depth) ≡ true →
      IsMainOnWay kind heap levels depth (Some last) node → middle ≡ with_next kind (Some last) room before (walked levels heap (get_or (entries_of node) (position node) d)) →
      with_next kind None room middle (flat_map (walked levels heap) (drop (position node + 1) (entries_of node)))
      ≡ with_next kind (Some last) room before (flat_map (walked levels heap) (entries_of node))
  unfolding with_next
  flagged_next (Branch bitmap entries) d middle is flag way taken =
      let f = walked levels heap in
      let p = position_of (flag_of (hash_of kind last) depth) bitmap in
      let rest = flat_map f (drop (p + 1) entries.items) in
      ap (λ t. with_next kind None room t rest) taken
      ∙ then_all kind (Some last) room before (f (get_or entries.items p d)) rest
      ∙ ap (taken_with room before) (sym (branch_on kind levels heap depth way.path last way.along bitmap entries way.placed d flag))
  flagged_next (Single key value) d middle is flag way taken = cc is
  flagged_next (Indirection generation main) d middle is flag way taken = cc is
  flagged_next (Tomb single) d middle is flag way taken = cc is
  flagged_next (Listed singles) d middle is flag way taken = cc is

  pub unflagged_next : (node : Node) → is_branch node ≡ true → has_flag (bitmap_of node) (flag_of (hash_of kind last) depth) ≡ false →
      IsMainOnWay kind heap levels depth (Some last) node →
      with_next kind None room before (flat_map (walked levels heap) (drop (position node) (entries_of node)))
      ≡ with_next kind (Some last) room before (flat_map (walked levels heap) (entries_of node))
  unfolding with_next
  unflagged_next (Branch bitmap entries) is flag way =
      let p = position_of (flag_of (hash_of kind last) depth) bitmap in
      ap (taken_with room before)
      (filter_all (flat_map (walked levels heap) (drop p entries.items)) ∙ sym (branch_off kind levels heap depth way.path last way.along bitmap entries way.placed flag))
  unflagged_next (Single key value) is flag way = cc is
  unflagged_next (Indirection generation main) is flag way = cc is
  unflagged_next (Tomb single) is flag way = cc is
  unflagged_next (Listed singles) is flag way = cc is

-- ---- a list

module _ (kind : HashKind) (heap : Heap) (levels depth room : ℕ) (singles : ArrayVec Ref) where
  in_list : (after : Option ℕ) → IsMainOnWay kind heap levels depth after (Listed singles) →
      filter (λ (pair : ℕ × ℕ). is_behind kind after pair.0) (by_key (flat_map (walked levels heap) singles.items))
      ≡ filter (λ (pair : ℕ × ℕ). is_after after pair.0) (by_key (flat_map (walked levels heap) singles.items))
  in_list None way = refl
  in_list (Some last) way = list_behind kind levels heap depth way.path last way.along singles way.placed

  pub listed_next : (after : Option ℕ) (node : Node) (before next : List (ℕ × ℕ)) → node ≡ Listed singles → IsMainOnWay kind heap levels depth after node →
      next ≡ next_of after (room - length before) (by_key (flat_map (pairs_below levels heap) (entries_of node))) →
      before ++ next ≡ with_next kind after room before (walked_in (walked levels heap) node)
  unfolding with_next
  listed_next after node before next is way taken =
      let here = subst (IsMainOnWay kind heap levels depth after) is way in
      let met = singles_met levels heap singles.items here.placed.1 in
      ap (λ xs. before ++ xs) (taken ∙ ap (λ n. next_of after (room - length before) (by_key (flat_map (pairs_below levels heap) (entries_of n)))) is
      ∙ ap (λ xs. next_of after (room - length before) (by_key xs)) (sym met)
      ∙ ap (take (room - length before)) (sym (in_list after here)))
      ∙ ap (λ n. before ++ take (room - length before) (filter (λ (pair : ℕ × ℕ). is_behind kind after pair.0) (walked_in (walked levels heap) n))) (sym is)

-- ---- from a handle's root

module _ (state : State) (run : IsOfRun state) (handle : ℕ) where
  on_way : (after : Option ℕ) (o : Option Root) → root_at state handle ≡ o → IsSome o → IsOnWay state.limits.hash state.heap most_levels 0 after (root_of (word_of o))
  on_way after None at some = cc some
  on_way None (Some root) at some = record { path = 0; placed = placed state run handle root at; along = tt }
  on_way (Some last) (Some root) at some = record { path = 0; placed = placed state run handle root at; along = omega arith }

  pub root_on_way : (after : Option ℕ) → IsSome (root_at state handle) → IsOnWay state.limits.hash state.heap most_levels 0 after (root_of (word_at state handle))
  root_on_way after some = on_way after (root_at state handle) refl some

  pub all_scanned : (after : Option ℕ) (room : ℕ) → IsSome (root_at state handle) →
      with_next state.limits.hash after room [] (walked most_levels state.heap (root_of (word_at state handle))) ≡ scanned state.limits.hash after room (content_at state handle)
  unfolding with_next
  all_scanned after room some =
      let none : room - 0 ≡ room = omega arith in
      let passes = filter (λ (pair : ℕ × ℕ). is_behind state.limits.hash after pair.0) in
      ap (λ n. take n (passes (walked most_levels state.heap (root_of (word_at state handle))))) none
      ∙ ap (λ pairs. take room (passes pairs)) (sym (walk_sorts state run handle some))

pub ruleset scanning = (
  arith,
  none_walked,
  some_walked,
  none_next,
  enough_next,
  one_next,
  other_next,
  each_next,
  each_done,
  main_on_way,
  tomb_on_way,
  tomb_walked,
  each_on_way,
  rest_on_way,
  flagged_on_way,
  flagged_next,
  unflagged_next,
  listed_next,
)
