-- Levels after a step: those of a line give those of the line after it.
use Rattle.std.proofs.Common.{◌≡◌, ℕ, ◌+◌, ◌<◌, ◌≤◌, ◌==◌, ◌&&◌, ◌||◌, Bool, true, false, nat_lt, nat_le, nat_eq, List, [], ◌∷◌, ◌++◌, All, length, Option, ap, ◌∙◌, subst, inl, inr, ltb-true, arith}
use Rattle.std.specs.Cmp.Lexicographic.{pointwise}
use Rattle.std.proofs.lemmas.Bool.{false≢true, cond_both}
use Rattle.std.proofs.lemmas.List.Elements.{All-nil, All-push}
use Rattle.proof_memory.specs.Vocabulary.{Access, Writable, ReadOnly, Call, Clear, Snapshot, Freeze, Ref, Node, Indirection, Branch, Single, Tomb, List as Listed, Prev, node_at, prev_at, main_at}
use Rattle.proof_memory.specs.Vocabulary.{main_of, entry_at, entries_of, generation_at, has_flag, Operation, After, Gives, ReadLine, Swap, SwapLine, Complete, CompleteLine, Descriptor, RootLine}
use Rattle.proof_memory.specs.Vocabulary.{RootWord, Plain, Offer, WhenFound, Answers, Sets, Removes, Climb, Purpose, Line, handle_of, key_of, inserts, when_found, State, word_at, above, depth_of}
use Rattle.proof_memory.specs.Vocabulary.{is_below_root, flag_in, is_start, Verdict, Commits, Fails, Overtaken, read_after, after_prev, after_ask, after_decide, after_restore, verdict}
use Rattle.proof_memory.specs.Vocabulary.{at_indirection, after_publish, after_deciding, after_check, on_line, after_reading, after_complete, of_offer, complete_after, after_root_word}
use Rattle.proof_memory.specs.Vocabulary.{after_completing, root_after, renew_next, next_entry, renew_after_entry, renew_after_read, absent, removing, found_so, key_after_read, after_tomb}
use Rattle.proof_memory.specs.Vocabulary.{key_after_main, is_passable, key_after_entry, after_listed, after_sibling, clean_next, clean_after_read, clean_after_main, clean_after_entry, after_child}
use Rattle.proof_memory.specs.Vocabulary.{clean_after_tomb, climbing, higher, climb_after_read, holds_it, climb_after_main, climb_after_root, copy_after_read, after_given, after_offer}
use Rattle.proof_memory.specs.Vocabulary.{copy_after_complete, walk_next, walk_after_read, walk_after_entry, after_root, after_update, climbed_on, swapped}
use Rattle.proof_memory.specs.Beneath.slot_arena.specs.declared.nodes.Prev.TheVariants as prev
use Rattle.machine_model.specs.declared.reading.After.TheVariants.{Goes}
use Rattle.machine_model.specs.declared.reading.ReadLine.TheVariants as read
use Rattle.machine_model.specs.declared.roots.CompleteLine.TheVariants as complete
use Rattle.machine_model.specs.declared.roots.RootLine.TheVariants as root
use Rattle.machine_model.specs.declared.lines.Purpose.TheVariants as purpose
use Rattle.machine_model.specs.Operations.{from_root}
use Rattle.machine_model.specs.Operations.{after_swap as line_after_swap}
use Rattle.proof_memory.specs.Wants.{AnIndirection, ABranch, ASingle, meets, Is, Holds, AllHold, node_wants, read_wants, complete_wants, offer_wants, root_wants}
use Rattle.proof_memory.proofs.Claims.Uses.{safe_of, meets_of, last_hold}
use Rattle.proof_memory.proofs.Lines.Shared.{above_long, pushed_depth}
use Rattle.proof_memory.specs.Levels.{EntryLevel, KindLevel, NodeLevel, PrevLevel, OfferLevel, WordLevel, PairLevel, ReadLevel, CompleteLevel, RootLevel, PathLevel, PlaceLevel}
use Rattle.proof_memory.specs.Levels.{SwapLineLevel, PurposeLevel, SwapLevel, DoneLevel, LineLevel}
use Rattle.proof_memory.proofs.Levels.Paths.{current_level, above_level, pushed_level, single_level_by}

module _ (lv : Ref → ℕ) (state : State) (operation : Operation) (S : Ref → Type 0) (N : (r : Ref) → S r → NodeLevel lv r (node_at state.heap r) × PrevLevel lv r (prev_at state.heap r)) where
  abbrev pub L : Line → Type 0
  L l = LineLevel lv l

  -- ---- what is read

  pub main_level_by : (i : Ref) (node : Node) → meets AnIndirection node ≡ true → NodeLevel lv i node → lv (main_of node) ≡ lv i
  main_level_by i (Indirection generation main) e n = n.0
  main_level_by i node e n = absurd (false≢true e)

  pub main_level : (i : Ref) → Holds S state.heap (Is i AnIndirection) → lv (main_at state.heap i) ≡ lv i
  main_level i h = main_level_by i (node_at state.heap i) (meets_of h) ((N i (safe_of h)).0)

  pub single_level : (r : Ref) → Holds S state.heap (Is r ASingle) → lv r ≡ 0
  single_level r h = single_level_by lv r (node_at state.heap r) (meets_of h) ((N r (safe_of h)).0)

  -- the entries of a branch
  pub branch_level_by : (main : Ref) (node : Node) → meets ABranch node ≡ true → NodeLevel lv main node → All (EntryLevel lv (lv main)) (entries_of node)
  branch_level_by main (Branch bitmap entries) e n = n.0
  branch_level_by main node e n = absurd (false≢true e)

  pub branch_level : (main : Ref) → Holds S state.heap (Is main ABranch) → All (EntryLevel lv (lv main)) (entries_of (node_at state.heap main))
  branch_level main h = branch_level_by main (node_at state.heap main) (meets_of h) ((N main (safe_of h)).0)

  -- an indirection among them
  pub deeper : (level : ℕ) (e : Ref) (generation word : ℕ) → node_at state.heap e ≡ Indirection generation word → S e → EntryLevel lv level e → lv e ≡ level + 1
  deeper level e generation word is s (inr d) = d
  deeper level e generation word is s (inl none) = absurd (above_zero (subst (KindLevel lv (lv e)) is ((N e s).0.1)) none)
    where
      above_zero : 1 ≤ lv e → lv e ≡ 0 → ⊥
      above_zero a b = omega arith

  -- ---- READ

  abbrev pub AfterLevel : Ref → After ReadLine Ref → Type 0
  AfterLevel i (Goes l) = ReadLevel lv i l
  AfterLevel i (Gives main) = lv main ≡ lv i

  pub prev_next : (access : Access) (i main : Ref) (p : Prev) → PrevLevel lv main p → lv main ≡ lv i → AfterLevel i (after_prev access main p)
  prev_next access i main prev.None p e = e
  prev_next access i main (prev.Failed previous) p e = p.0 ∙ e
  prev_next Writable i main (prev.Pending previous) p e = (e, p.0 ∙ e, p.1)
  prev_next ReadOnly i main (prev.Pending previous) p e = (e, p.0 ∙ e, p.1)

  pub ask_next : (i main previous : Ref) (word : RootWord) → WordLevel lv word → PairLevel lv i main previous → AfterLevel i (after_ask state.heap main previous word)
  ask_next i main previous (Plain r) w p = p
  ask_next i main previous (Offer offer) w p = (p, w)

  pub decide_next : (i main : Ref) (v : Verdict) → lv main ≡ lv i → AfterLevel i (after_decide main v)
  decide_next i main Commits e = e
  decide_next i main Fails e = tt
  decide_next i main (Overtaken true) e = e
  decide_next i main (Overtaken false) e = tt

  pub restore_next : (i previous : Ref) (b : Bool) → lv previous ≡ lv i → AfterLevel i (after_restore previous b)
  restore_next i previous true e = e
  restore_next i previous false e = tt

  module _ (W : WordLevel lv (word_at state (handle_of operation.call))) where
    pub read_next : (i : Ref) (l : ReadLine) → AllHold S state.heap (read_wants i l) → ReadLevel lv i l →
        AfterLevel i (read_after state.heap operation.access (word_at state (handle_of operation.call)) i l)
    read_next i read.Main h e = main_level i h.0
    read_next i (read.Prev main) h e = prev_next operation.access i main (prev_at state.heap main) ((N main (safe_of h.1.0)).1) e
    read_next i (read.AskRoot main previous) h e = ask_next i main previous (word_at state (handle_of operation.call)) W e
    read_next i (read.Abort main previous offer) h e = e.0
    read_next i (read.Decide main previous told) h e = decide_next i main (verdict state.heap i main previous told) e.0
    read_next i (read.Restore main previous) h e = restore_next i previous (main_at state.heap i == main) e

  -- ---- COMPLETE and ROOT

  abbrev pub CompletedLevel : After Complete Bool → Type 0
  CompletedLevel (Goes c) = CompleteLevel lv c.offer c.line
  CompletedLevel (Gives done) = Unit {0}

  abbrev pub RootedLevel : After RootLine Ref → Type 0
  RootedLevel (Goes l) = RootLevel lv l
  RootedLevel (Gives r) = lv r ≡ 1

  pub reading_next : (offer : Descriptor) (a : After ReadLine Ref) → OfferLevel lv offer → AfterLevel offer.root a → CompletedLevel (of_offer offer (after_reading a))
  reading_next offer (Goes l) o e = (o, e)
  reading_next offer (Gives main) o e = (o, tt)

  pub completing_next : (a : After Complete Bool) → CompletedLevel a → RootedLevel (after_completing a)
  completing_next (Goes c) e = e
  completing_next (Gives done) e = tt

  pub word_next : (word : RootWord) → WordLevel lv word → RootedLevel (after_root_word word)
  word_next (Plain r) w = w
  word_next (Offer offer) w = (w, tt)

  module _ (W : WordLevel lv (word_at state (handle_of operation.call))) where
    complete_next_at : (offer : Descriptor) (l : CompleteLine) → AllHold S state.heap (complete_wants offer l) → CompleteLevel lv offer l →
        CompletedLevel (of_offer offer (after_complete state.heap operation.access (word_at state (handle_of operation.call)) offer l))
    complete_next_at offer (complete.Reading l) h e =
        reading_next offer _ e.0 (read_next W offer.root l (last_hold S state.heap (offer_wants offer) (read_wants offer.root l) h) e.1)
    complete_next_at offer (complete.Swap main) h e = tt

    pub complete_next : (c : Complete) → AllHold S state.heap (complete_wants c.offer c.line) → CompleteLevel lv c.offer c.line →
        CompletedLevel (complete_after state.heap operation.access (word_at state (handle_of operation.call)) c)
    complete_next c h e = complete_next_at c.offer c.line h e

    pub root_next : (l : RootLine) → AllHold S state.heap (root_wants l) → RootLevel lv l → RootedLevel (root_after state.heap operation.access (word_at state (handle_of operation.call)) l)
    root_next root.Read h e = word_next (word_at state (handle_of operation.call)) W
    root_next (root.Completing c) h e = completing_next _ (complete_next c h e)

  -- ---- lines of several programs

  pub renew_next_level : (path : List Ref) (main : Ref) (done : List Ref) → DoneLevel lv path main done → L (renew_next state path main done)
  renew_next_level path main done d = cond_both (nat_lt (length done) (length (entries_of (node_at state.heap main)))) _ _ L (λ e. d) (λ e. d)

  pub clean_next_level : (path : List Ref) (main : Ref) (done : List Ref) → DoneLevel lv path main done → L (clean_next state path main done)
  clean_next_level path main done d =
      cond_both (nat_lt (length done) (length (entries_of (node_at state.heap main)))) _ _ L (λ e. d)
      (λ e. cond_both (pointwise nat_eq done (entries_of (node_at state.heap main))) _ _ L (λ e. tt) (λ e. d))

  pub more_done : (path : List Ref) (main : Ref) (done : List Ref) (e : Ref) → DoneLevel lv path main done → EntryLevel lv (depth_of path + 1) e → DoneLevel lv path main (done ++ e ∷ [])
  more_done path main done e d h = (d.0, All-push (EntryLevel lv (depth_of path + 1)) done e d.1 h)

  pub none_done : (path : List Ref) (main : Ref) → PlaceLevel lv path main → DoneLevel lv path main []
  none_done path main p = (p, All-nil (EntryLevel lv (depth_of path + 1)))

  -- an entry of a branch at the end of a path
  pub entry_level : (path : List Ref) (main e : Ref) → PlaceLevel lv path main → EntryLevel lv (lv main) e → EntryLevel lv (depth_of path + 1) e
  entry_level path main e p h = subst (λ l. EntryLevel lv l e) p.1 h

  -- ---- KEY

  pub key_read_level : (path : List Ref) (i : Ref) (a : After ReadLine Ref) → PathLevel lv path → lv i ≡ depth_of path + 1 → AfterLevel i a → L (key_after_read path (at_indirection i a))
  key_read_level path i (Goes l) p e h = (p, e, h)
  key_read_level path i (Gives main) p e h = (p, h ∙ e)

  pub absent_level : (path : List Ref) (main : Ref) → PlaceLevel lv path main → L (absent operation path main)
  absent_level path main p = cond_both (inserts operation.call) _ _ L (λ e. p) (λ e. tt)

  pub removing_level : (path : List Ref) (main : Ref) (position value : ℕ) (node : Node) → PlaceLevel lv path main → L (removing state path main position value node)
  removing_level path main position value (Branch bitmap entries) p = cond_both (is_below_root path && (length entries.items == 2)) _ _ L (λ e. p) (λ e. (p, tt))
  removing_level path main position value (Listed singles) p = cond_both (length singles.items == 2) _ _ L (λ e. (p, tt)) (λ e. (p, tt))
  removing_level path main position value node p = tt

  pub found_level : (path : List Ref) (main : Ref) (position value : ℕ) (todo : WhenFound) → PlaceLevel lv path main → L (found_so state path main position value todo)
  found_level path main position value (Answers answer) p = tt
  found_level path main position value Sets p = p
  found_level path main position value Removes p = removing_level path main position value (node_at state.heap main) p

  pub tomb_level : (access : Access) (path : List Ref) (main : Ref) → PlaceLevel lv path main → L (after_tomb access path main)
  tomb_level Writable path main p =
      cond_both (is_below_root path) _ _ L
      (λ below. (above_level lv path p.0, current_level lv (above path) (above_level lv path p.0) (above_long path below), tt)) (λ e. tt)
  tomb_level ReadOnly path main p = p

  pub key_main_level : (path : List Ref) (main : Ref) (node : Node) → PlaceLevel lv path main → L (key_after_main state operation path main node)
  key_main_level path main (Branch bitmap entries) p = cond_both (has_flag bitmap (flag_in state operation path)) _ _ L (λ e. p) (λ e. absent_level path main p)
  key_main_level path main (Tomb single) p = tomb_level operation.access path main p
  key_main_level path main (Listed singles) p = p
  key_main_level path main (Indirection generation word) p = tt
  key_main_level path main (Single k v) p = tt

  pub key_entry_level : (path : List Ref) (main : Ref) (position : ℕ) (node : Node) → node_at state.heap (entry_at state.heap main position) ≡ node → S (entry_at state.heap main position) →
      nat_lt 0 (length path) ≡ true → PlaceLevel lv path main → EntryLevel lv (lv main) (entry_at state.heap main position) → L (key_after_entry state operation path main position node)
  key_entry_level path main position (Indirection generation word) e s long p h =
      let down = deeper (depth_of path + 1) (entry_at state.heap main position) generation word e s (entry_level path main (entry_at state.heap main position) p h) in
      let some : 0 < length path = ltb-true 0 (length path) long in
      let next : lv (entry_at state.heap main position) ≡ length path + 1 = omega (arith, down) in
      cond_both (is_passable operation generation) _ _ L
      (λ e. (pushed_level lv path (entry_at state.heap main position) p.0 next, next ∙ ap (λ n. n + 1) (pushed_depth path (entry_at state.heap main position)), tt))
      (λ e. renew_next_level path main [] (none_done path main p))
  key_entry_level path main position (Single k v) e s long p h =
      cond_both (k == key_of operation.call) _ _ L (λ e. found_level path main position v (when_found operation.call v) p)
      (λ e. cond_both (inserts operation.call) _ _ L (λ e. p) (λ e. tt))
  key_entry_level path main position node e s long p h = tt

  pub listed_level : (path : List Ref) (main : Ref) (position : ℕ) (node : Node) → PlaceLevel lv path main → L (after_listed state operation path main position node)
  listed_level path main position (Single k v) p =
      cond_both (k == key_of operation.call) _ _ L (λ e. found_level path main position v (when_found operation.call v) p)
      (λ e. cond_both (nat_lt (position + 1) (length (entries_of (node_at state.heap main)))) _ _ L (λ e. p)
      (λ e. cond_both (inserts operation.call && nat_le 32 (length (entries_of (node_at state.heap main)))) _ _ L (λ e. tt) (λ e. absent_level path main p)))
  listed_level path main position node p = tt

  pub sibling_level : (path : List Ref) (main : Ref) (position former : ℕ) (other : Ref) (node : Node) → PlaceLevel lv path main → L (after_sibling path main position former other node)
  sibling_level path main position former other (Single k v) p = (p, tt)
  sibling_level path main position former other (Indirection generation word) p = (p, tt)
  sibling_level path main position former other node p = tt

  -- ---- RENEW

  pub renew_entry_level : (path : List Ref) (main : Ref) (done : List Ref) (entry : Ref) (node : Node) → node_at state.heap entry ≡ node → S entry → DoneLevel lv path main done →
      EntryLevel lv (depth_of path + 1) entry → L (renew_after_entry state operation path main done entry node)
  renew_entry_level path main done entry (Indirection generation word) e s d h =
      cond_both (is_start operation generation) _ _ L (λ e. renew_next_level path main (done ++ entry ∷ []) (more_done path main done entry d h))
      (λ other. (d, two_deeper (deeper (depth_of path + 1) entry generation word e s h), tt))
    where
      two_deeper : lv entry ≡ depth_of path + 1 + 1 → lv entry ≡ depth_of path + 2
      two_deeper x = omega arith
  renew_entry_level path main done entry (Single k v) e s d h = renew_next_level path main (done ++ entry ∷ []) (more_done path main done entry d h)
  renew_entry_level path main done entry node e s d h = tt

  pub renew_read_level : (path : List Ref) (main : Ref) (done : List Ref) (i : Ref) (a : After ReadLine Ref) → DoneLevel lv path main done → lv i ≡ depth_of path + 2 → AfterLevel i a →
      L (renew_after_read path main done (at_indirection i a))
  renew_read_level path main done i (Goes l) d e h = (d, e, h)
  renew_read_level path main done i (Gives child) d e h = (d, h ∙ e)

  -- ---- CLEAN

  pub clean_read_level : (path : List Ref) (i : Ref) (a : After ReadLine Ref) → PathLevel lv path → lv i ≡ depth_of path + 1 → AfterLevel i a → L (clean_after_read path (at_indirection i a))
  clean_read_level path i (Goes l) p e h = (p, e, h)
  clean_read_level path i (Gives main) p e h = (p, h ∙ e)

  pub clean_main_level : (path : List Ref) (main : Ref) (node : Node) → PlaceLevel lv path main → L (clean_after_main state path main node)
  clean_main_level path main (Branch bitmap entries) p = clean_next_level path main [] (none_done path main p)
  clean_main_level path main node p = tt

  pub clean_entry_level : (path : List Ref) (main : Ref) (done : List Ref) (entry : Ref) (node : Node) → DoneLevel lv path main done → EntryLevel lv (depth_of path + 1) entry →
      L (clean_after_entry state path main done entry node)
  clean_entry_level path main done entry (Indirection generation word) d h = (d, tt)
  clean_entry_level path main done entry (Single k v) d h = clean_next_level path main (done ++ entry ∷ []) (more_done path main done entry d h)
  clean_entry_level path main done entry node d h = tt

  pub child_level : (path : List Ref) (main : Ref) (done : List Ref) (i : Ref) (a : After ReadLine Ref) → DoneLevel lv path main done → AfterLevel i a →
      L (after_child path main done (at_indirection i a))
  child_level path main done i (Goes l) d h = (d, h)
  child_level path main done i (Gives child) d h = d

  pub clean_tomb_level : (path : List Ref) (main : Ref) (done : List Ref) (node : Node) → AllHold S state.heap (node_wants node) → DoneLevel lv path main done →
      EntryLevel lv (depth_of path + 1) (next_entry state main done) →
      L (clean_after_tomb state path main done node)
  clean_tomb_level path main done (Tomb single) n d h = clean_next_level path main (done ++ single ∷ []) (more_done path main done single d (inl (single_level single n.0)))
  clean_tomb_level path main done node n d h = clean_next_level path main (done ++ next_entry state main done ∷ []) (more_done path main done (next_entry state main done) d h)

  -- ---- CLIMB

  pub climbing_level : (c : Climb) → PathLevel lv c.path → L (climbing operation c)
  climbing_level c p =
      cond_both (is_below_root c.path) _ _ L (λ below. (p, current_level lv (above c.path) (above_level lv c.path p) (above_long c.path below), tt)) (λ e. tt)

  pub climb_read_level : (c : Climb) (i : Ref) (a : After ReadLine Ref) → PathLevel lv c.path → lv i ≡ depth_of (above c.path) + 1 → AfterLevel i a → L (climb_after_read c (at_indirection i a))
  climb_read_level c i (Goes l) p e h = (p, e, h)
  climb_read_level c i (Gives main) p e h = (p, h ∙ e)

  pub climb_main_level : (c : Climb) (main : Ref) (node : Node) → PathLevel lv c.path → lv main ≡ depth_of (above c.path) + 1 → L (climb_after_main state operation c main node)
  climb_main_level c main (Tomb single) p e = climbing_level (higher c single) (above_level lv c.path p)
  climb_main_level c main (Branch bitmap entries) p e = cond_both (holds_it state operation c main bitmap entries.items) _ _ L (λ x. (p, e)) (λ x. tt)
  climb_main_level c main node p e = tt

  pub climb_root_level : (c : Climb) (a : After RootLine Ref) → PathLevel lv c.path → RootedLevel a → L (climb_after_root state operation c a)
  climb_root_level c (Goes l) p e = (p, e)
  climb_root_level c (Gives r) p e = cond_both (is_start operation (generation_at state.heap r)) _ _ L (λ x. climbing_level c p) (λ x. tt)

  -- ---- COPY

  pub given_level : (call : Call) (r main : Ref) → lv r ≡ 1 → lv main ≡ 1 → L (after_given call r main)
  given_level (Clear h) r main a b = (a, b)
  given_level call r main a b = (a, b)

  pub copy_read_level : (r i : Ref) (a : After ReadLine Ref) → lv r ≡ 1 → lv i ≡ 1 → AfterLevel i a → L (copy_after_read operation r (at_indirection i a))
  copy_read_level r i (Goes l) a b h = (a, b, h)
  copy_read_level r i (Gives main) a b h = given_level operation.call r main a (h ∙ b)

  pub copy_offer_level : (offer : Descriptor) (b : Bool) → OfferLevel lv offer → L (after_offer offer b)
  copy_offer_level offer true o = (o, tt)
  copy_offer_level offer false o = tt

  pub copy_complete_level : (a : After Complete Bool) → CompletedLevel a → L (copy_after_complete operation a)
  copy_complete_level (Goes c) e = e
  copy_complete_level (Gives done) e = cond_both (done || operation.is_marked) _ _ L (λ x. tt) (λ x. tt)

  -- ---- WALK

  pub walk_next_level : (todo : List Ref) (pairs : List (ℕ × ℕ)) → L (walk_next operation todo pairs)
  walk_next_level [] pairs = tt
  walk_next_level (entry ∷ todo) pairs = tt

  pub walk_read_level : (todo : List Ref) (pairs : List (ℕ × ℕ)) (i : Ref) (a : After ReadLine Ref) → AfterLevel i a → L (walk_after_read todo pairs (at_indirection i a))
  walk_read_level todo pairs i (Goes l) h = h
  walk_read_level todo pairs i (Gives main) h = tt

  pub walk_entry_level : (entry : Ref) (todo : List Ref) (pairs : List (ℕ × ℕ)) (node : Node) → L (walk_after_entry operation entry todo pairs node)
  walk_entry_level entry todo pairs (Indirection generation word) = tt
  walk_entry_level entry todo pairs (Single k v) = walk_next_level todo (pairs ++ (k, v) ∷ [])
  walk_entry_level entry todo pairs node = tt

  -- ---- the root

  pub from_root_level : (call : Call) (r : Ref) → lv r ≡ 1 → L (from_root call r)
  from_root_level (Clear h) r e = (e, e, tt)
  from_root_level (Snapshot h) r e = (e, e, tt)
  from_root_level (Freeze h) r e = (e, e, tt)
  from_root_level call r e = (pushed_level lv [] r (λ k d within. absurd (omega arith)) e, e, tt)

  pub root_line_level : (a : After RootLine Ref) → RootedLevel a → L (after_root operation a)
  root_line_level (Goes l) e = e
  root_line_level (Gives r) e = from_root_level operation.call r e

  -- ---- SWAP

  abbrev pub SwappedLevel : Swap → After SwapLine Bool → Type 0
  SwappedLevel s (Goes l) = SwapLineLevel lv s.indirection l
  SwappedLevel s (Gives done) = Unit {0}

  pub publish_level : (s : Swap) (b : Bool) → SwapLevel lv s.indirection s.replaced s.fresh → SwappedLevel s (after_publish s.fresh b)
  publish_level s true h = h.1
  publish_level s false h = tt

  pub deciding_level : (s : Swap) (a : After ReadLine Ref) → AfterLevel s.indirection a → SwappedLevel s (after_deciding a)
  deciding_level s (Goes l) h = h
  deciding_level s (Gives main) h = tt

  pub check_level : (s : Swap) (p : Prev) → SwappedLevel s (after_check p)
  check_level s prev.None = tt
  check_level s (prev.Pending p) = tt
  check_level s (prev.Failed p) = tt

  pub update_level : (path : List Ref) (former : Option ℕ) (node : Node) → PathLevel lv path → L (after_update operation path former node)
  update_level path former (Tomb single) p = climbing_level (record { path = path; single = single; former = former }) p
  update_level path former node p = tt

  pub climbed_level : (c : Climb) (node : Node) → PathLevel lv c.path → L (climbed_on operation c node)
  climbed_level c (Tomb single) p = climbing_level (higher c c.single) (above_level lv c.path p)
  climbed_level c node p = tt

  -- a renewed path is not empty
  abbrev pub RenewsPath : Purpose → Type 0
  RenewsPath (purpose.Renew path) = nat_lt 0 (length path) ≡ true
  RenewsPath why = Unit {0}

  pub swapped_level : (node : Node) (why : Purpose) (done : Bool) → RenewsPath why → PurposeLevel lv why → L (swapped operation node why done)
  swapped_level node (purpose.Update path former) true long p = update_level path former node p
  swapped_level node (purpose.Update path former) false long p = tt
  swapped_level node (purpose.Renew path) true long p = (p, current_level lv path p long, tt)
  swapped_level node (purpose.Renew path) false long p = tt
  swapped_level node purpose.Clean done long p = tt
  swapped_level node (purpose.Climb c) true long p = climbed_level c node p
  swapped_level node (purpose.Climb c) false long p = (p, tt)

  pub line_swap_level : (why : Purpose) (s : Swap) (a : After SwapLine Bool) → RenewsPath why → SwapLevel lv s.indirection s.replaced s.fresh → SwappedLevel s a → PurposeLevel lv why →
      L (line_after_swap state operation why s (on_line s a))
  line_swap_level why s (Goes l) long h e p = (h, e, p)
  line_swap_level why s (Gives done) long h e p = swapped_level (node_at state.heap s.fresh) why done long p
