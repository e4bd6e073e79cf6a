-- KEY: what its lines want gives what their steps want, and what the lines after them do.
use Rattle.std.proofs.Common.{◌≡◌, ℕ, ◌+◌, ◌-◌, ◌==◌, ◌&&◌, true, false, nat_lt, nat_le, List, [], length, refl, sym, ap, ◌∙◌}
use Rattle.std.proofs.lemmas.Bool.{false≢true, true≢false, and_parts, cond_both}
use Rattle.proof_memory.specs.Vocabulary.{position_of, Access, Writable, ReadOnly, Call, Get, Close, Entries, Count, Ref, Node, Indirection, Branch, Single, Tomb, List as Listed, node_at, entry_at}
use Rattle.proof_memory.specs.Vocabulary.{entries_of, index_in, has_flag, Operation, After, Gives, Read, KeyLine, WhenFound, Answers, Sets, Removes, Line, handle_of, key_of, needs_writable, inserts}
use Rattle.proof_memory.specs.Vocabulary.{when_found, State, word_at, above, is_below_root, flag_in, hash_in, depth_of, read_step, renew_next, key_action, key_after, absent, absent_beside}
use Rattle.proof_memory.specs.Vocabulary.{absent_listed, removing, found_so, key_after_read, after_tomb, key_after_main, is_passable, key_after_entry, after_listed, after_sibling}
use Rattle.machine_model.specs.declared.reading.After.TheVariants.{Goes}
use Rattle.machine_model.specs.declared.finding.KeyLine.TheVariants as key
use Rattle.proof_memory.specs.Wants.{Wanted, AnIndirection, ABranch, AList, BranchOrList, TombOrList, AnEntry, ASingle, WithEntry, WithFlag, ToSpare, meets, is_formed, Is, Each}
use Rattle.proof_memory.specs.Wants.{EntryIs, So, Holds, is, entry_is, so, AllHold, word_wants, read_wants, action_wants, listed, key_wants, line_wants}
use Rattle.proof_memory.proofs.Claims.Uses.{safe_of, meets_of, is_also, from_meets}
use Rattle.proof_memory.proofs.Claims.Nodes.{Heaped, listed_entries, at_position, branch_both, list_both, entry_met}
use Rattle.proof_memory.proofs.Claims.Named.{main_claim, past_place}
use Rattle.proof_memory.proofs.Lines.Read.{step_wants, read_acts, read_next, indirection_next}
use Rattle.proof_memory.proofs.Lines.Shared.{position_within, this, current_is, above_each, above_long, pushed_each, pushed_long, none_each, flag_spares, formed_ones, at_most}
use Rattle.proof_memory.proofs.Lines.Shared.{other_of_two, three, first_of_two}

-- the call changes the map
abbrev pub Changes : WhenFound → Type 0
Changes (Answers answer) = ⊥
Changes todo = Unit {0}

-- a call that needs no writable handle doesn't
pub reader_changes : (call : Call) (value : ℕ) → needs_writable call ≡ false → Changes (when_found call value) → ⊥
reader_changes (Get h k) value n c = c
reader_changes (Close h) value n c = c
reader_changes (Entries h) value n c = c
reader_changes (Count h) value n c = c
reader_changes call value n c = true≢false n

reader_inserts : (call : Call) → needs_writable call ≡ false → inserts call ≡ true → ⊥
reader_inserts (Get h k) n i = false≢true i
reader_inserts (Close h) n i = false≢true i
reader_inserts (Entries h) n i = false≢true i
reader_inserts (Count h) n i = false≢true i
reader_inserts call n i = true≢false n

-- a list may be looked at on any handle
list_listed : (access : Access) (node : Node) → meets AList node ≡ true → meets (listed access) node ≡ true
list_listed Writable node e = e
list_listed ReadOnly (Listed singles) e = refl
list_listed ReadOnly node e = absurd (false≢true e)

-- what is listed is a list or a tomb
pub listed_either : (access : Access) (node : Node) → meets (listed access) node ≡ true → meets TombOrList node ≡ true
listed_either Writable (Listed singles) e = refl
listed_either Writable node e = absurd (false≢true e)
listed_either ReadOnly node e = e

-- what is done to a single of a list is done on a writable handle
writer_lists : (access : Access) (call : Call) (node : Node) → (access ≡ ReadOnly → needs_writable call ≡ false) → (needs_writable call ≡ false → ⊥) →
    meets (listed access) node ≡ true → meets AList node ≡ true
writer_lists Writable call node fits writes e = e
writer_lists ReadOnly call node fits writes e = absurd (writes (fits refl))

module _ (state : State) (operation : Operation) (S : Ref → Type 0) (H : Heaped S state.heap) where
  -- the wants of a line of this operation
  abbrev Wants : Line → Type 0
  Wants l = AllHold S state.heap (line_wants state.limits.hash operation.call operation.access l)

  abbrev At : Ref → Wanted → Type 0
  At r wanted = Holds S state.heap (Is r wanted)

  -- a path
  abbrev IsPath : List Ref → Type 0
  IsPath path = Holds S state.heap (Each path AnIndirection) × Holds S state.heap (So (nat_lt 0 (length path)))

  -- ---- RENEW's next line, which KEY leads to as well

  pub renew_next_wants : (path : List Ref) (main : Ref) (done : List Ref) → IsPath path → At main ABranch → Holds S state.heap (Each done AnEntry) →
      Wants (renew_next state path main done)
  renew_next_wants path main done p m d =
      cond_both (nat_lt (length done) (length (entries_of (node_at state.heap main)))) _ _ Wants (λ e. (p.0, (p.1, (m, (d, (is (safe_of m) e, tt))))))
      (λ e. (p.0, (p.1, (m, (d, (is (safe_of m) (at_most (length done) (length (entries_of (node_at state.heap main))) e), tt))))))

  -- ---- absent keys

  absent_wants : (path : List Ref) (main : Ref) → IsPath path → (inserts operation.call ≡ true → At main BranchOrList) → Wants (absent operation path main)
  absent_wants path main p m = cond_both (inserts operation.call) _ _ Wants (λ i. (p.0, (p.1, (m i, tt)))) (λ i. tt)

  beside_wants : (path : List Ref) (main : Ref) (position : ℕ) → IsPath path → At main ABranch → Holds S state.heap (EntryIs main position ASingle) →
      Wants (absent_beside operation path main position)
  beside_wants path main position p m e =
      cond_both (inserts operation.call) _ _ Wants (λ i. (p.0, (p.1, (is_also BranchOrList branch_both m, (m, (e, tt)))))) (λ i. tt)

  listed_wants : (path : List Ref) (main : Ref) (singles : ℕ) → IsPath path → (inserts operation.call ≡ true → At main BranchOrList) →
      Wants (absent_listed operation path main singles)
  listed_wants path main singles p m = cond_both (inserts operation.call && nat_le 32 singles) _ _ Wants (λ e. tt) (λ e. absent_wants path main p m)

  -- ---- keys that are found

  removing_branch : (path : List Ref) (main : Ref) (position value : ℕ) (node : Node) → node_at state.heap main ≡ node → IsPath path → At main ABranch →
      At main (WithFlag (flag_in state operation path)) → Wants (removing state path main position value node)
  removing_branch path main position value (Branch bitmap entries) e p m f =
      cond_both (is_below_root path && (length entries.items == 2)) _ _ Wants
      (λ two. (
        p.0,
        (
          p.1,
          (
            m,
            (
              this S state.heap (WithEntry (1 - position)) (Branch bitmap entries) (safe_of m) e
                  (other_of_two position (length entries.items) (and_parts (is_below_root path) _ two).1),
              (f, tt),
            ),
          ),
        ),
      ))
      (λ other. (p.0, (p.1, (is_also BranchOrList branch_both m, (is_also (ToSpare (flag_in state operation path)) (flag_spares (flag_in state operation path)) f, tt)))))
  removing_branch path main position value node e p m f = absurd (false≢true (sym (ap (meets ABranch) e) ∙ meets_of m))

  removing_list : (path : List Ref) (main : Ref) (position value : ℕ) (node : Node) → node_at state.heap main ≡ node → is_formed node ≡ true → IsPath path → At main AList →
      Wants (removing state path main position value node)
  removing_list path main position value (Listed singles) e formed p m =
      let singles_in = listed_entries S state.heap H (is_also TombOrList (listed_either Writable) m) in
      cond_both (length singles.items == 2) _ _ Wants
      (λ two. (
        p.0,
        (
          p.1,
          (
            is_also BranchOrList list_both m,
            (
              from_meets (entry_at state.heap main (1 - position)) (at_position S state.heap ASingle (1 - position) singles_in
                  (this S state.heap (WithEntry (1 - position)) (Listed singles) (safe_of m) e (other_of_two position (length singles.items) two))),
              tt,
            ),
          ),
        ),
      ))
      (λ other. (
        p.0,
        (
          p.1,
          (
            is_also BranchOrList list_both m,
            (this S state.heap (ToSpare (flag_in state operation path)) (Listed singles) (safe_of m) e (three (length singles.items) formed other), tt),
          ),
        ),
      ))
  removing_list path main position value node e formed p m = absurd (false≢true (sym (ap (meets AList) e) ∙ meets_of m))

  found_wants : (path : List Ref) (main : Ref) (position value : ℕ) (todo : WhenFound) → IsPath path →
      (Changes todo → At main BranchOrList) → (Changes todo → Wants (removing state path main position value (node_at state.heap main))) →
      Wants (found_so state path main position value todo)
  found_wants path main position value (Answers answer) p m r = tt
  found_wants path main position value Sets p m r = (p.0, (p.1, (m tt, (so refl, tt))))
  found_wants path main position value Removes p m r = r tt

  -- ---- what comes after each line

  key_read_next : (path : List Ref) (a : After Read Ref) → IsPath path → AllHold S state.heap (step_wants a) → Wants (key_after_read path a)
  key_read_next path (Goes r) p h = (p.0, (p.1, h))
  key_read_next path (Gives main) p h = (p.0, (p.1, h))

  tomb_next : (access : Access) (path : List Ref) (main : Ref) (single : Ref) → node_at state.heap main ≡ Tomb single → IsPath path → S main →
      AllHold S state.heap (line_wants state.limits.hash operation.call access (after_tomb access path main))
  tomb_next Writable path main single e p s =
      cond_both (is_below_root path) _ _ (λ l. AllHold S state.heap (line_wants state.limits.hash operation.call Writable l))
      (λ below. (above_each S state.heap path p.0, (so (above_long path below), (current_is S state.heap (above path) (above_each S state.heap path p.0) (above_long path below), tt))))
      (λ root. tt)
  tomb_next ReadOnly path main single e p s =
      (p.0, (p.1, (this S state.heap TombOrList (Tomb single) s e refl, (this S state.heap (WithEntry 0) (Tomb single) s e refl, tt))))

  key_main_next : (path : List Ref) (main : Ref) (node : Node) → node_at state.heap main ≡ node → is_formed node ≡ true → IsPath path → S main →
      Wants (key_after_main state operation path main node)
  key_main_next path main (Branch bitmap entries) e formed p s =
      cond_both (has_flag bitmap (flag_in state operation path)) _ _ Wants
      (λ f. (
        p.0,
        (
          p.1,
          (
            this S state.heap ABranch (Branch bitmap entries) s e refl,
            (
              this S state.heap (WithEntry (position_of (flag_in state operation path) bitmap)) (Branch bitmap entries) s e
                  (position_within bitmap (index_in (hash_in state operation) (depth_of path)) (length entries.items) f (formed_ones bitmap (length entries.items) _ formed)),
              (this S state.heap (WithFlag (flag_in state operation path)) (Branch bitmap entries) s e f, tt),
            ),
          ),
        ),
      ))
      (λ f. absent_wants path main p (λ i. this S state.heap BranchOrList (Branch bitmap entries) s e refl))
  key_main_next path main (Tomb single) e formed p s = tomb_next operation.access path main single e p s
  key_main_next path main (Listed singles) e formed p s = (
    p.0,
    (
      p.1,
      (
        this S state.heap (listed operation.access) (Listed singles) s e (list_listed operation.access (Listed singles) refl),
        (this S state.heap (WithEntry 0) (Listed singles) s e (first_of_two (length singles.items) formed), tt),
      ),
    ),
  )
  key_main_next path main (Indirection generation word) e formed p s = tt
  key_main_next path main (Single k v) e formed p s = tt

  key_entry_next : (path : List Ref) (main : Ref) (position : ℕ) (node : Node) → node_at state.heap (entry_at state.heap main position) ≡ node → IsPath path →
      At main ABranch → At main (WithEntry position) → At main (WithFlag (flag_in state operation path)) → S (entry_at state.heap main position) →
      Wants (key_after_entry state operation path main position node)
  key_entry_next path main position (Indirection generation word) e p m within f s =
      let entry = this S state.heap AnIndirection (Indirection generation word) s e refl in
      cond_both (is_passable operation generation) _ _ Wants
      (λ passed. (pushed_each S state.heap path (entry_at state.heap main position) p.0 entry, (so (pushed_long path (entry_at state.heap main position)), (entry, tt))))
      (λ other. renew_next_wants path main [] p m (none_each S state.heap))
  key_entry_next path main position (Single k v) e p m within f s =
      let entry = this S state.heap ASingle (Single k v) s e refl in
      cond_both (k == key_of operation.call) _ _ Wants
      (λ here. found_wants path main position v (when_found operation.call v) p (λ c. is_also BranchOrList branch_both m)
      (λ c. removing_branch path main position v (node_at state.heap main) refl p m f))
      (λ other. beside_wants path main position p m
      (entry_is (safe_of m) (Rattle.std.proofs.lemmas.Bool.ltb-true position (length (entries_of (node_at state.heap main))) (meets_of within)) s (meets_of entry)))
  key_entry_next path main position node e p m within f s = tt

  after_sibling_next : (path : List Ref) (main : Ref) (position former : ℕ) (other : Ref) (node : Node) → node_at state.heap other ≡ node → IsPath path →
      At main ABranch → At main (WithFlag (flag_in state operation path)) → S other → Wants (after_sibling path main position former other node)
  after_sibling_next path main position former other (Single k v) e p m f s =
      (p.0, (p.1, (is_also BranchOrList branch_both m, (this S state.heap ASingle (Single k v) s e refl, tt))))
  after_sibling_next path main position former other (Indirection generation word) e p m f s =
      (p.0, (p.1, (is_also BranchOrList branch_both m, (is_also (ToSpare (flag_in state operation path)) (flag_spares (flag_in state operation path)) f, tt))))
  after_sibling_next path main position former other node e p m f s = tt

  module _ (fits : operation.access ≡ ReadOnly → needs_writable operation.call ≡ false) where
    -- a list where its call changes something
    pub changed_list : {main : Ref} → (needs_writable operation.call ≡ false → ⊥) → At main (listed operation.access) → At main AList
    changed_list {main} writes m = is_also AList (λ node. writer_lists operation.access operation.call node fits writes) m

    listed_next : (path : List Ref) (main : Ref) (position : ℕ) (node : Node) → IsPath path → At main (listed operation.access) →
        Wants (after_listed state operation path main position node)
    listed_next path main position (Single k v) p m =
        cond_both (k == key_of operation.call) _ _ Wants
        (λ here. found_wants path main position v (when_found operation.call v) p
        (λ c. is_also BranchOrList list_both (changed_list (λ n. reader_changes operation.call v n c) m))
        (λ c. removing_list path main position v (node_at state.heap main) refl (H.formed main (safe_of m)) p (changed_list (λ n. reader_changes operation.call v n c) m)))
        (λ other. cond_both (nat_lt (position + 1) (length (entries_of (node_at state.heap main)))) _ _ Wants
        (λ more. (p.0, (p.1, (m, (is (safe_of m) more, tt)))))
        (λ last. listed_wants path main _ p (λ i. is_also BranchOrList list_both (changed_list (λ n. reader_inserts operation.call n i) m))))
    listed_next path main position node p m = tt

    module _ (W : AllHold S state.heap (word_wants (word_at state (handle_of operation.call)))) where
      -- a step of a READ
      pub step_next : (r : Read) → AllHold S state.heap (read_wants r.indirection r.line) → AllHold S state.heap (step_wants (read_step state operation r))
      step_next r h = indirection_next S state.heap r.indirection _ (read_next S state.heap H operation.access (word_at state (handle_of operation.call)) W r.indirection r.line h)

      pub key_next : (l : KeyLine) → AllHold S state.heap (key_wants state.limits.hash operation.call operation.access l) → Wants (key_after state operation l)
      key_next (key.Read path r) h = key_read_next path (read_step state operation r) (h.0, h.1.0) (step_next r h.1.1)
      key_next (key.Main path main) h =
          key_main_next path main (node_at state.heap main) refl (H.formed main (safe_of (main_claim h))) (h.0, h.1.0) (safe_of (main_claim h))
      key_next (key.Entry path main position) h =
          key_entry_next path main position (node_at state.heap (entry_at state.heap main position)) refl (h.0, h.1.0) (main_claim h) (past_place h).0 (past_place h).1.0
          ((entry_met S state.heap H (main_claim h) (past_place h).0).0)
      key_next (key.Listed path main position) h = listed_next path main position (node_at state.heap (entry_at state.heap main position)) (h.0, h.1.0) (main_claim h)
      key_next (key.Sibling path main position former) h =
          after_sibling_next path main position former (entry_at state.heap main (1 - position)) (node_at state.heap (entry_at state.heap main (1 - position))) refl (h.0, h.1.0) (main_claim h)
          (past_place h).1.0 ((entry_met S state.heap H (main_claim h) (past_place h).0).0)

  -- ---- its steps

  pub key_acts : (l : KeyLine) → AllHold S state.heap (key_wants state.limits.hash operation.call operation.access l) → AllHold S state.heap (action_wants (key_action state l))
  key_acts (key.Read path r) h = read_acts S state.heap r.indirection r.line h.1.1
  key_acts (key.Main path main) h = (is (safe_of (main_claim h)) refl, tt)
  key_acts (key.Entry path main position) h = (is ((entry_met S state.heap H (main_claim h) (past_place h).0).0) refl, tt)
  key_acts (key.Listed path main position) h =
      (is ((at_position S state.heap ASingle position (listed_entries S state.heap H (is_also TombOrList (listed_either operation.access) (main_claim h))) (past_place h).0).0) refl, tt)
  key_acts (key.Sibling path main position former) h =
      (is ((entry_met S state.heap H (main_claim h) (past_place h).0).0) refl, tt)
