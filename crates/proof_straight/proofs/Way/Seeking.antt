-- How a call on one key finds its single, or sees that there is none.
use Rattle.std.proofs.Common.{◌≡◌, ℕ, zero, suc, ◌+◌, ◌*◌, ◌<◌, ◌≤◌, ◌==◌, ◌&&◌, nat_le, Bool, true, false, cond, nat_lt, List, [], length, None, refl, sym, ap, ◌∙◌, subst, eq-eqb, lt-ltb, arith}
use Rattle.std.proofs.lemmas.Bool.{le-leb, le-ltb, lt-leb}
use Rattle.arrayvec.specs.ArrayVec.{ArrayVec}
use Rattle.proof_straight.specs.Vocabulary.{position_of, Call, Ref, Node, Branch, Single, List as Listed, node_at, main_at, prev_at, entry_at, entries_of, flag_of, has_flag, Site, Line, key_of}
use Rattle.proof_straight.specs.Vocabulary.{when_found, inserts, absent_reply, going_down, absent, absent_beside, absent_listed, found, found_so, key_after_main, key_after_entry, after_listed}
use Rattle.proof_straight.specs.Vocabulary.{State, key_hash, Record}
use Rattle.proof_straight.specs.Beneath.slot_arena.specs.declared.nodes.Prev.TheVariants as prev
use Rattle.proof_straight.specs.Beneath.history.specs.declared.replies.Reply.TheVariants as reply
use Rattle.machine_model.specs.declared.building.BuildLine.TheVariants as build
use Rattle.machine_model.specs.declared.building.Site.TheVariants as site
use Rattle.machine_model.specs.declared.finding.KeyLine.TheVariants as key
use Rattle.machine_model.specs.declared.lines.Line.TheVariants as line
use Rattle.proof_straight.specs.Drafts.{first_draft}
use Rattle.proof_straight.specs.Places.{ComesDown, steps_down}
use Rattle.proof_straight.specs.Places.{HasEntry, HasRoom, Finds, IsOther, Misses, entry_for, in_branch, in_list, no_entry, beside_other, not_listed}
use Rattle.proof_straight.proofs.Steps.Alone.{Alone, IsCalm}
use Rattle.proof_straight.proofs.Steps.Going.{begun_record}
use Rattle.proof_straight.proofs.Steps.Noting.{with_read}
use Rattle.proof_straight.proofs.Way.Descent.{rooted, IsBefore, IsPath, OnLine, at_line, line_of, comes_down, depth_is, finds_entry, reads_main, seeks}

-- where the call comes to
pub finds_down : {state : State} {call : Call} {root : Ref} {depth : ℕ} {indirection : Ref} {position value looks : ℕ} → Finds state call root depth indirection position value looks →
    ComesDown state call root depth indirection
finds_down (in_branch down entry is) = down
finds_down (in_list down decided listed within others is) = down

module _ (state : State) (past : Record) (k : ℕ) (call : Call) (root : Ref) (alone : Alone state k) (calm : IsCalm state (first_draft state)) (fits : k < length past.moments) where
  -- what is recorded once the main node of this indirection, of this depth, is read
  abbrev pub looked : ℕ → Ref → Record
  looked depth indirection = with_read (begun_record state past k call) k (state.steps + suc (4 * depth + 1)) (main_at state.heap indirection)

  abbrev On : ℕ → Ref → Line → ℕ → Type 0
  On depth indirection l c = OnLine state past k call root alone calm (looked depth indirection) l c

  pub again : {so_far : Record} (l m : Line) (c n : ℕ) → l ≡ m → c ≡ n → OnLine state past k call root alone calm so_far l c → OnLine state past k call root alone calm so_far m n
  again {so_far} l m c n same count h =
      subst (λ x. OnLine state past k call root alone calm so_far x n) same (subst (λ x. OnLine state past k call root alone calm so_far l x) count h)

  -- the main node of the indirection is read
  pub at_main : (depth : ℕ) (indirection : Ref) (before : IsBefore state past k call root alone calm depth indirection) → prev_at state.heap (main_at state.heap indirection) ≡ prev.None →
      On depth indirection (line.Key (key.Main before.path (main_at state.heap indirection))) (4 * depth + 3)
  at_main depth indirection before decided =
      let l = line.Key (key.Main before.path (main_at state.heap indirection)) in
      again l l (suc (suc (4 * depth + 1))) (4 * depth + 3) refl (omega arith)
      (subst (λ r. OnLine state past k call root alone calm r l (suc (suc (4 * depth + 1)))) (before.only_reads (state.steps + suc (4 * depth + 1)) (main_at state.heap indirection))
      (reads_main state past k call root alone calm before.path indirection (4 * depth + 1) before.within before.stands decided))

  -- ---- lists

  module _ (depth : ℕ) (indirection : Ref) (singles : ArrayVec Ref) (before : IsBefore state past k call root alone calm depth indirection)
      (decided : prev_at state.heap (main_at state.heap indirection) ≡ prev.None) (listed : node_at state.heap (main_at state.heap indirection) ≡ Listed singles) where
    abbrev main : Ref
    main = main_at state.heap indirection

    abbrev listed_at : ℕ → Line
    listed_at position = line.Key (key.Listed before.path main position)

    at_list : On depth indirection (listed_at 0) (4 * depth + 4)
    at_list =
        again (listed_at 0) (listed_at 0) (suc (4 * depth + 3)) (4 * depth + 4) refl one_more
        (seeks state past k call root alone calm (key.Main before.path main) (listed_at 0) (4 * depth + 3) (at_main depth indirection before decided) tt refl
        (ap (λ node. key_after_main (at_line state past k call root alone calm (line.Key (key.Main before.path main)) (4 * depth + 3))
        (line_of state past k call root alone calm (line.Key (key.Main before.path main))) before.path main node) listed))
      where
        one_more : suc (4 * depth + 3) ≡ 4 * depth + 4
        one_more = omega arith

    -- what comes behind a look at the single of another key
    abbrev behind : ℕ → Line
    behind position =
        cond (nat_lt (position + 1) (length singles.items)) (listed_at (position + 1)) (absent_listed (rooted state call root) before.path main (length singles.items))

    passes_by : (position c : ℕ) → On depth indirection (listed_at position) c → IsOther state call root indirection position → On depth indirection (behind position) (suc c)
    passes_by position c so_far (other, value, is, differs) =
        let st = at_line state past k call root alone calm (listed_at position) c in
        let o = line_of state past k call root alone calm (listed_at position) in
        seeks state past k call root alone calm (key.Listed before.path main position) (behind position) c so_far tt refl
        (ap (λ node. after_listed st o before.path main position node) is
        ∙ ap (λ b. cond b (found st o before.path main position value) (cond (nat_lt (position + 1) (length (entries_of (node_at state.heap main)))) (listed_at (position + 1))
        (absent_listed o before.path main (length (entries_of (node_at state.heap main))))))
        differs
        ∙ ap (λ node. cond (nat_lt (position + 1) (length (entries_of node))) (listed_at (position + 1)) (absent_listed o before.path main (length (entries_of node)))) listed)

    -- so the call comes to each single behind those of other keys
    comes_to : (position : ℕ) → position < length singles.items → ((j : ℕ) → j < position → IsOther state call root indirection j) → On depth indirection (listed_at position)
        (4 * depth + position + 4)
    comes_to zero within others = again (listed_at 0) (listed_at 0) (4 * depth + 4) (4 * depth + 0 + 4) refl (omega arith) at_list
    comes_to (suc position) within others =
        let here = comes_to position (omega (arith, within)) (λ j h. others j (omega (arith, h))) in
        again (behind position) (listed_at (suc position)) (suc (4 * depth + position + 4)) (4 * depth + suc position + 4)
        (ap (λ p. cond (nat_lt p (length singles.items)) (listed_at p) (absent_listed (rooted state call root) before.path main (length singles.items))) next
        ∙ ap (λ b. cond b (listed_at (suc position)) (absent_listed (rooted state call root) before.path main (length singles.items))) (lt-ltb (suc position) (length singles.items) within))
        one_more (passes_by position (4 * depth + position + 4) here (others position (omega arith)))
      where
        one_more : suc (4 * depth + position + 4) ≡ 4 * depth + suc position + 4
        one_more = omega arith

        next : position + 1 ≡ suc position
        next = omega arith

    -- and finds its own
    finds_listed : (position value : ℕ) → position < length singles.items → ((j : ℕ) → j < position → IsOther state call root indirection j) →
        node_at state.heap (entry_at state.heap main position) ≡ Single (key_of call) value →
        On depth indirection (found_so state before.path main position value (when_found call value)) (steps_down depth (suc position))
    finds_listed position value within others is =
        let st = at_line state past k call root alone calm (listed_at position) (4 * depth + position + 4) in
        let o = line_of state past k call root alone calm (listed_at position) in
        again _ _ (suc (4 * depth + position + 4)) (steps_down depth (suc position)) refl one_more
        (seeks state past k call root alone calm (key.Listed before.path main position) (found_so state before.path main position value (when_found call value)) (4 * depth + position + 4)
        (comes_to position within others) tt refl
        (ap (λ node. after_listed st o before.path main position node) is
        ∙ ap (λ b. cond b (found_so state before.path main position value (when_found call value))
        (cond (nat_lt (position + 1) (length (entries_of (node_at state.heap main)))) (listed_at (position + 1))
        (absent_listed o before.path main (length (entries_of (node_at state.heap main))))))
        (eq-eqb (key_of call) (key_of call) refl)))
      where
        one_more : suc (4 * depth + position + 4) ≡ steps_down depth (suc position)
        one_more = omega arith

    -- or comes to the end
    misses_listed : (more : ℕ) → length singles.items ≡ suc more → ((j : ℕ) → j < suc more → IsOther state call root indirection j) →
        On depth indirection (absent_listed (rooted state call root) before.path main (length singles.items)) (steps_down depth (suc more))
    misses_listed more size others =
        again (behind more) _ (suc (4 * depth + more + 4)) (steps_down depth (suc more))
        (ap (λ b. cond b (listed_at (more + 1)) (absent_listed (rooted state call root) before.path main (length singles.items))) (le-ltb (more + 1) (length singles.items) (omega (arith, size))))
        one_more (passes_by more (4 * depth + more + 4) (comes_to more (omega (arith, size)) (λ j h. others j (omega (arith, h)))) (others more (omega arith)))
      where
        one_more : suc (4 * depth + more + 4) ≡ steps_down depth (suc more)
        one_more = omega arith

  -- ---- branches

  -- the key's own single is found
  finds_entered : (depth bitmap value : ℕ) (indirection : Ref) (entries : ArrayVec Ref) (before : IsBefore state past k call root alone calm depth indirection) →
      HasEntry state.heap (key_hash state (key_of call)) depth indirection bitmap entries →
      node_at state.heap (entry_for state.heap (key_hash state (key_of call)) depth indirection bitmap) ≡ Single (key_of call) value →
      On depth indirection (found_so state before.path (main_at state.heap indirection) (position_of (flag_of (key_hash state (key_of call)) depth) bitmap) value (when_found call value))
      (steps_down depth 1)
  finds_entered depth bitmap value indirection entries before entry is =
      let main = main_at state.heap indirection in
      let position = position_of (flag_of (key_hash state (key_of call)) depth) bitmap in
      let l = line.Key (key.Entry before.path main position) in
      let st = at_line state past k call root alone calm l (suc (4 * depth + 3)) in
      let o = line_of state past k call root alone calm l in
      again _ _ (suc (suc (4 * depth + 3))) (steps_down depth 1) refl two_more
      (seeks state past k call root alone calm (key.Entry before.path main position) (found_so state before.path main position value (when_found call value)) (suc (4 * depth + 3))
      (finds_entry state past k call root alone calm before.path depth bitmap indirection entries (4 * depth + 3) before.is entry (at_main depth indirection before entry.decided)) tt refl
      (ap (λ node. key_after_entry st o before.path main position node) is
      ∙ ap (λ b. cond b (found_so state before.path main position value (when_found call value)) (absent_beside o before.path main position)) (eq-eqb (key_of call) (key_of call) refl)))
    where
      two_more : suc (suc (4 * depth + 3)) ≡ steps_down depth 1
      two_more = omega arith

  -- the single of another key is
  misses_beside : (depth bitmap other value : ℕ) (indirection : Ref) (entries : ArrayVec Ref) (before : IsBefore state past k call root alone calm depth indirection) →
      HasEntry state.heap (key_hash state (key_of call)) depth indirection bitmap entries →
      node_at state.heap (entry_for state.heap (key_hash state (key_of call)) depth indirection bitmap) ≡ Single other value → (other == key_of call) ≡ false →
      On depth indirection (absent_beside (rooted state call root) before.path (main_at state.heap indirection) (position_of (flag_of (key_hash state (key_of call)) depth) bitmap))
      (steps_down depth 1)
  misses_beside depth bitmap other value indirection entries before entry is differs =
      let main = main_at state.heap indirection in
      let position = position_of (flag_of (key_hash state (key_of call)) depth) bitmap in
      let l = line.Key (key.Entry before.path main position) in
      let st = at_line state past k call root alone calm l (suc (4 * depth + 3)) in
      let o = line_of state past k call root alone calm l in
      again _ _ (suc (suc (4 * depth + 3))) (steps_down depth 1) refl two_more
      (seeks state past k call root alone calm (key.Entry before.path main position) (absent_beside (rooted state call root) before.path main position) (suc (4 * depth + 3))
      (finds_entry state past k call root alone calm before.path depth bitmap indirection entries (4 * depth + 3) before.is entry (at_main depth indirection before entry.decided)) tt refl
      (ap (λ node. key_after_entry st o before.path main position node) is
      ∙ ap (λ b. cond b (found st o before.path main position value) (absent_beside (rooted state call root) before.path main position)) differs))
    where
      two_more : suc (suc (4 * depth + 3)) ≡ steps_down depth 1
      two_more = omega arith

  -- there is no entry
  misses_entry : (depth bitmap : ℕ) (indirection : Ref) (entries : ArrayVec Ref) (before : IsBefore state past k call root alone calm depth indirection) →
      prev_at state.heap (main_at state.heap indirection) ≡ prev.None → node_at state.heap (main_at state.heap indirection) ≡ Branch bitmap entries →
      has_flag bitmap (flag_of (key_hash state (key_of call)) depth) ≡ false →
      On depth indirection (absent (rooted state call root) before.path (main_at state.heap indirection)) (steps_down depth 0)
  misses_entry depth bitmap indirection entries before decided branch wanting =
      let main = main_at state.heap indirection in
      let l = line.Key (key.Main before.path main) in
      again _ _ (suc (4 * depth + 3)) (steps_down depth 0) refl one_more
      (seeks state past k call root alone calm (key.Main before.path main) (absent (rooted state call root) before.path main) (4 * depth + 3) (at_main depth indirection before decided) tt refl
      (ap (λ node. key_after_main (at_line state past k call root alone calm l (4 * depth + 3)) (line_of state past k call root alone calm l) before.path main node) branch
      ∙ ap (λ d. by_flag before.path main bitmap (flag_of (key_hash state (key_of call)) d) (has_flag bitmap (flag_of (key_hash state (key_of call)) d)))
      (depth_is before.path depth indirection before.is)
      ∙ ap (λ b. by_flag before.path main bitmap (flag_of (key_hash state (key_of call)) depth) b) wanting))
    where
      by_flag : List Ref → Ref → ℕ → ℕ → Bool → Line
      by_flag path main bitmap flag b = cond b (line.Key (key.Entry path main (position_of flag bitmap))) (absent (rooted state call root) path main)

      one_more : suc (4 * depth + 3) ≡ steps_down depth 0
      one_more = omega arith

  -- from before the indirection
  pub found_from : (depth : ℕ) (indirection : Ref) (position value looks : ℕ) (before : IsBefore state past k call root alone calm depth indirection) →
      Finds state call root depth indirection position value looks →
      On depth indirection (found_so state before.path (main_at state.heap indirection) position value (when_found call value)) (steps_down depth looks)
  found_from depth indirection position value looks before (in_branch {bitmap} {entries} down entry is) = finds_entered depth bitmap value indirection entries before entry is
  found_from depth indirection position value looks before (in_list {singles} down decided listed within others is) =
      finds_listed depth indirection singles before decided listed position value within others is

  -- ---- where the call comes to

  pub record HasFound (depth : ℕ) (indirection : Ref) (position value looks : ℕ) : Type 0 where
    pub path : List Ref
    pub is : IsPath path depth indirection
    pub stands : On depth indirection (found_so state path (main_at state.heap indirection) position value (when_found call value)) (steps_down depth looks)

  -- the call stands on a line of this path
  pub record HasMissed (depth : ℕ) (indirection : Ref) (l : List Ref → Line) (looks : ℕ) : Type 0 where
    pub path : List Ref
    pub is : IsPath path depth indirection
    pub stands : On depth indirection (l path) (steps_down depth looks)

  module _ (at_root : OnLine state past k call root alone calm (begun_record state past k call) (going_down [] root) 1) where
    pub comes_found : (depth : ℕ) (indirection : Ref) (position value looks : ℕ) → Finds state call root depth indirection position value looks →
        HasFound depth indirection position value looks
    comes_found depth indirection position value looks finds =
        let before = comes_down state past k call root alone calm fits at_root depth indirection (finds_down finds) in
        record { path = before.path; is = before.is; stands = found_from depth indirection position value looks before finds }

    -- a call that inserts nothing
    pub comes_missed : (depth : ℕ) (indirection : Ref) (s : Site) (looks : ℕ) → Misses state call root depth indirection s looks → inserts call ≡ false →
        HasMissed depth indirection (λ path. line.End (absent_reply call)) looks
    comes_missed depth indirection s looks (no_entry {bitmap} {entries} down decided branch wanting) reads =
        let before = comes_down state past k call root alone calm fits at_root depth indirection down in
        record {
          path = before.path;
          is = before.is;
          stands = again _ _ (steps_down depth 0) (steps_down depth 0) (ap (λ b. cond b (line.Build (build.Single before.path (main_at state.heap indirection) site.Absent None))
              (line.End (absent_reply call))) reads) refl
              (misses_entry depth bitmap indirection entries before decided branch wanting);
        }
    comes_missed depth indirection s looks (beside_other {bitmap} {key = other} {value} {entries} down entry is differs) reads =
        let before = comes_down state past k call root alone calm fits at_root depth indirection down in
        record {
          path = before.path;
          is = before.is;
          stands = again _ _ (steps_down depth 1) (steps_down depth 1) (ap (λ b. cond b (line.Build (build.Single before.path (main_at state.heap indirection) s None))
              (line.End (absent_reply call))) reads) refl
              (misses_beside depth bitmap other value indirection entries before entry is differs);
        }
    comes_missed depth indirection s looks (not_listed {more} {singles} down decided listed size others) reads =
        let before = comes_down state past k call root alone calm fits at_root depth indirection down in
        record {
          path = before.path;
          is = before.is;
          stands = again _ _ (steps_down depth (suc more)) (steps_down depth (suc more))
              (ap (λ b. cond (b && nat_le 32 (length singles.items)) (line.End reply.Crowded)
              (cond b (line.Build (build.Single before.path (main_at state.heap indirection) site.Absent None)) (line.End (absent_reply call)))) reads) refl
              (misses_listed depth indirection singles before decided listed more size others);
        }

    -- one that inserts its key, where there is room
    pub comes_absent : (depth : ℕ) (indirection : Ref) (s : Site) (looks : ℕ) → Misses state call root depth indirection s looks → inserts call ≡ true →
        HasRoom (node_at state.heap (main_at state.heap indirection)) →
        HasMissed depth indirection (λ path. line.Build (build.Single path (main_at state.heap indirection) s None)) looks
    comes_absent depth indirection s looks (no_entry {bitmap} {entries} down decided branch wanting) puts room =
        let before = comes_down state past k call root alone calm fits at_root depth indirection down in
        record {
          path = before.path;
          is = before.is;
          stands = again _ _ (steps_down depth 0) (steps_down depth 0) (ap (λ b. cond b (line.Build (build.Single before.path (main_at state.heap indirection) site.Absent None))
              (line.End (absent_reply call))) puts) refl
              (misses_entry depth bitmap indirection entries before decided branch wanting);
        }
    comes_absent depth indirection s looks (beside_other {bitmap} {key = other} {value} {entries} down entry is differs) puts room =
        let before = comes_down state past k call root alone calm fits at_root depth indirection down in
        record {
          path = before.path;
          is = before.is;
          stands = again _ _ (steps_down depth 1) (steps_down depth 1) (ap (λ b. cond b (line.Build (build.Single before.path (main_at state.heap indirection) s None))
              (line.End (absent_reply call))) puts) refl
              (misses_beside depth bitmap other value indirection entries before entry is differs);
        }
    comes_absent depth indirection s looks (not_listed {more} {singles} down decided listed size others) puts room =
        let before = comes_down state past k call root alone calm fits at_root depth indirection down in
        let place = line.Build (build.Single before.path (main_at state.heap indirection) site.Absent None) in
        record {
          path = before.path;
          is = before.is;
          stands = again _ _ (steps_down depth (suc more)) (steps_down depth (suc more))
              (ap (λ b. cond (inserts call && b) (line.End reply.Crowded) (cond (inserts call) place (line.End (absent_reply call)))) (lt-leb 32 (length singles.items) (few singles listed))
              ∙ ap (λ b. cond (b && false) (line.End reply.Crowded) (cond b place (line.End (absent_reply call)))) puts) refl
              (misses_listed depth indirection singles before decided listed more size others);
        }
      where
        few : (singles : ArrayVec Ref) → node_at state.heap (main_at state.heap indirection) ≡ Listed singles → length singles.items < 32
        few singles listed = subst HasRoom listed room

    -- where there is none
    pub comes_crowded : (depth : ℕ) (indirection : Ref) (s : Site) (looks : ℕ) (full : ArrayVec Ref) → Misses state call root depth indirection s looks → inserts call ≡ true →
        node_at state.heap (main_at state.heap indirection) ≡ Listed full → 32 ≤ length full.items → HasMissed depth indirection (λ path. line.End reply.Crowded) looks
    comes_crowded depth indirection s looks full (no_entry {bitmap} {entries} down decided branch wanting) puts is many =
        let wrong = sym branch ∙ is in absurd (cc wrong)
    comes_crowded depth indirection s looks full (beside_other {bitmap} {entries} down entry at differs) puts is many =
        let wrong = sym entry.branch ∙ is in absurd (cc wrong)
    comes_crowded depth indirection s looks full (not_listed {more} {singles} down decided listed size others) puts is many =
        let before = comes_down state past k call root alone calm fits at_root depth indirection down in
        record {
          path = before.path;
          is = before.is;
          stands = again _ _ (steps_down depth (suc more)) (steps_down depth (suc more))
              (ap (λ b. cond (inserts call && b) (line.End reply.Crowded) (absent (rooted state call root) before.path (main_at state.heap indirection)))
              (le-leb 32 (length singles.items) (enough singles listed))
              ∙ ap (λ b. cond (b && true) (line.End reply.Crowded) (absent (rooted state call root) before.path (main_at state.heap indirection))) puts) refl
              (misses_listed depth indirection singles before decided listed more size others);
        }
      where
        enough : (singles : ArrayVec Ref) → node_at state.heap (main_at state.heap indirection) ≡ Listed singles → 32 ≤ length singles.items
        enough singles listed = subst (λ (node : Node). 32 ≤ length (entries_of node)) (sym is ∙ listed) many
