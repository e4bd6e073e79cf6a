-- What holds below a root: what is on the way down is in use, and no slot is met twice.
use Rattle.std.proofs.Common.{◌≡◌, ◌⊎◌, inl, inr, ℕ, ◌+◌, ◌*◌, ◌<◌, ◌≤◌, ◌^◌, true, count_ones, nat_lt, nat_le, All, length, refl, sym, ap, ◌∙◌, subst, ltb-true, arith, is_some}
use Rattle.std.proofs.lemmas.List.Elements.{All-weaker}
use Rattle.std.proofs.lemmas.Option.{same_Some}
use Rattle.std.proofs.lemmas.Bool.{and_parts, false≢true}
use Rattle.arrayvec.specs.ArrayVec.{ArrayVec}
use Rattle.proof_core.specs.Vocabulary.{position_of, index_at, Access, Node, Branch, Indirection, Slot, Ref, AreLive, IsLive, is_indirection, Heap, entries_of, entry_at, main_at, main_of, node_at}
use Rattle.proof_core.specs.Vocabulary.{no_ref, refs_of_node, birth_limit, slot_of, Plain, State, root_at, word_at, flag_of, has_flag, IsInUse, EntryLevel, InsideLevel, KindLevel, AMain, AnEntry}
use Rattle.proof_core.specs.Vocabulary.{AnIndirection, Anything, Holds, Is, AllHold, is, is_formed, meets, word_wants, below, entry_for, to_root, IsOfRun, HasEmptySlots}
use Rattle.proof_core.specs.Beneath.slot_arena.proofs.Live.{same_ref}
use Rattle.proof_core.specs.Beneath.machine_model.proofs.Grown.{standing_parts}
use Rattle.proof_core.specs.Beneath.proof_memory.proofs.Claims.Nodes.{Heaped, main_entries, main_read}
use Rattle.proof_core.specs.Beneath.proof_memory.proofs.Claims.Uses.{Meets, meets_of, safe_of}
use Rattle.proof_core.specs.Beneath.proof_memory.proofs.Holding.Lives.{in_use_lives}
use Rattle.proof_core.specs.Beneath.proof_memory.proofs.Levels.Runs.{has_levels, levels_of}
use Rattle.proof_core.specs.Beneath.proof_memory.proofs.Levels.States.{HasLevels, heaped_in_use, level_under}
use Rattle.proof_core.specs.Beneath.proof_memory.proofs.Lines.Shared.{position_within}
use Rattle.proof_core.specs.Beneath.proof_memory.proofs.Safety.AtEachTime.{safe_along}
use Rattle.proof_core.specs.Beneath.proof_memory.proofs.Safety.Guards.{Safe}
use Rattle.proof_core.specs.Beneath.proof_memory.proofs.Safety.States.{IsSafe, open_word}
use Rattle.proof_straight.specs.Places.{Leads}
use Rattle.proof_straight.proofs.Change.Slots.{same_stored}
use Rattle.proof_core.specs.Drafting.{CanSwap}
use Rattle.proof_core.specs.Tries.{IsTrie}

-- the entry of a flag that a branch has lies within
pub placed : (bitmap i : ℕ) (entries : ArrayVec Ref) → is_formed (Branch bitmap entries) ≡ true → has_flag bitmap (2 ^ i) ≡ true → position_of (2 ^ i) bitmap < length entries.items
placed bitmap i entries formed flagged =
    ltb-true (position_of (2 ^ i) bitmap) (length entries.items)
    (position_within bitmap i (length entries.items) flagged (and_parts (nat_lt bitmap (2 ^ 32)) (nat_le (count_ones bitmap) (length entries.items)) formed).1)

inside_main : (lv : Ref → ℕ) (level : ℕ) (node : Node) → meets AnIndirection node ≡ true → InsideLevel lv level node → lv (main_of node) ≡ level
inside_main lv level (Indirection generation main) e h = h
inside_main lv level node e h = absurd (false≢true e)

kind_entry : (lv : Ref → ℕ) (level own : ℕ) (node : Node) → is_indirection node ≡ true → KindLevel lv own node → (own ≡ 0) ⊎ (own ≡ level + 1) → own ≡ level + 1
kind_entry lv level own (Indirection generation main) e h (inl none) = absurd (omega (arith, h, none))
kind_entry lv level own node e h (inr same) = same
kind_entry lv level own node e h (inl none) = absurd (false≢true e)

module _ (heap : Heap) (root : Ref) (t : IsTrie heap root) where
  abbrev S : Ref → Type 0
  S = IsInUse heap

  pub nodes_safe : Heaped S heap
  nodes_safe = record { inside = t.nodes; formed = t.formed; before = t.prevs }

  abbrev Leading : Access → ℕ → ℕ → Ref → Type 0
  Leading access hash depth indirection = Leads heap access hash root depth indirection

  pub leads_holds : (access : Access) (hash depth : ℕ) (indirection : Ref) → Leading access hash depth indirection → Holds S heap (Is indirection AnIndirection)
  leads_holds access hash depth indirection (to_root e) = is t.used t.indirection
  leads_holds access hash depth indirection (below {depth = d} {bitmap} {above} {entries} higher entry over passed) =
      let main : Holds S heap (Is (main_at heap above) AMain) = main_read S heap nodes_safe (leads_holds access hash d above higher) in
      let formed = ap is_formed (sym entry.branch) ∙ t.formed (main_at heap above) (safe_of main) in
      let within = placed bitmap (index_at hash (5 * d)) entries formed entry.flagged in
      let met : Meets S heap AnEntry (entry_for heap hash d above bitmap) =
      main_entries S heap nodes_safe main (position_of (flag_of hash d) bitmap) no_ref
      (subst (λ n. position_of (flag_of hash d) bitmap < length (entries_of n)) (sym entry.branch) within) in
      is met.0 (ap is_indirection over)

  pub leads_main : (access : Access) (hash depth : ℕ) (indirection : Ref) → Leading access hash depth indirection → Holds S heap (Is (main_at heap indirection) AMain)
  leads_main access hash depth indirection leads = main_read S heap nodes_safe (leads_holds access hash depth indirection leads)

  -- the entry of a flag that a branch in use has
  pub entry_meets : (main : Ref) (bitmap i : ℕ) (entries : ArrayVec Ref) → S main → node_at heap main ≡ Branch bitmap entries → has_flag bitmap (2 ^ i) ≡ true →
      Meets S heap AnEntry (entry_at heap main (position_of (2 ^ i) bitmap)) × (position_of (2 ^ i) bitmap < length entries.items)
  entry_meets main bitmap i entries used branch flagged =
      let within = placed bitmap i entries (ap is_formed (sym branch) ∙ t.formed main used) flagged in (
        main_entries S heap nodes_safe {wanted = Anything} (is used refl) (position_of (2 ^ i) bitmap) no_ref
            (subst (λ n. position_of (2 ^ i) bitmap < length (entries_of n)) (sym branch) within),
        within,
      )

  -- all entries of a branch in use
  pub entries_meet : (main : Ref) (bitmap : ℕ) (entries : ArrayVec Ref) → S main → node_at heap main ≡ Branch bitmap entries → All (Meets S heap AnEntry) entries.items
  entries_meet main bitmap entries used branch = subst (λ n. All (Meets S heap AnEntry) (entries_of n)) branch (main_entries S heap nodes_safe {wanted = Anything} (is used refl))

  -- ---- levels

  pub level_over : (i : Ref) → S i → is_indirection (node_at heap i) ≡ true → t.level (main_at heap i) ≡ t.level i
  level_over i used e = inside_main t.level (t.level i) (node_at heap i) e ((t.levels i used).0)

  pub level_entry : (main : Ref) (bitmap position : ℕ) (entries : ArrayVec Ref) → S main → node_at heap main ≡ Branch bitmap entries → position < length entries.items →
      is_indirection (node_at heap (entry_at heap main position)) ≡ true → t.level (entry_at heap main position) ≡ t.level main + 1
  level_entry main bitmap position entries used branch within e =
      let entry = entry_at heap main position in
      let inside : All (EntryLevel t.level (t.level main)) entries.items = subst (InsideLevel t.level (t.level main)) branch ((t.levels main used).0) in
      let all : All (EntryLevel t.level (t.level main)) (entries_of (node_at heap main)) = subst (λ n. All (EntryLevel t.level (t.level main)) (entries_of n)) (sym branch) inside in
      let met : Meets S heap AnEntry entry =
      subst (λ n. All (Meets S heap AnEntry) (entries_of n)) (sym branch) (entries_meet main bitmap entries used branch) position no_ref
      (subst (λ n. position < length (entries_of n)) (sym branch) within) in
      kind_entry t.level (t.level main) (t.level entry) (node_at heap entry) e ((t.levels entry met.0).1)
      (all position no_ref (subst (λ n. position < length (entries_of n)) (sym branch) within))

  pub leads_level : (access : Access) (hash depth : ℕ) (indirection : Ref) → Leading access hash depth indirection → t.level indirection ≡ t.level root + depth
  leads_level access hash depth indirection (to_root e) = omega arith
  leads_level access hash depth indirection (below {depth = d} {bitmap} {above} {entries} higher entry over passed) =
      let at = leads_holds access hash d above higher in
      let main = leads_main access hash d above higher in
      let within = (entry_meets (main_at heap above) bitmap (index_at hash (5 * d)) entries (safe_of main) entry.branch entry.flagged).1 in
      omega (
        arith,
        leads_level access hash d above higher,
        level_over above (safe_of at) (meets_of at),
        level_entry (main_at heap above) bitmap (position_of (flag_of hash d) bitmap) entries (safe_of main) entry.branch within (ap is_indirection over),
      )

  -- references in use to one slot are one
  pub one_slot : (r q : Ref) → S r → S q → slot_of r ≡ slot_of q → r ≡ q
  one_slot r q (slot, at_r) (other, at_q) same =
      let (stands, birth) = standing_parts heap r slot at_r in
      let (stands_too, birth_too) = standing_parts heap q other at_q in
      same_ref r q same (sym birth ∙ ap (λ (s : Slot). s.birth) (same_Some slot other (sym stands ∙ same_stored heap r q same ∙ stands_too)) ∙ birth_too)

  -- no way down comes to one slot on two levels
  pub ways_apart : (access : Access) (hash d e : ℕ) (r q : Ref) → Leading access hash d r → Leading access hash e q → d < e → slot_of r ≡ slot_of q → ⊥
  ways_apart access hash d e r q first second less same =
      let one = one_slot r q (safe_of (leads_holds access hash d r first)) (safe_of (leads_holds access hash e q second)) same in
      omega (arith, leads_level access hash d r first, leads_level access hash e q second, ap t.level one, less)

  -- ---- what is in use is live

  -- so is the entry of a flag that the branch has
  pub entry_lives : (access : Access) (hash depth : ℕ) (indirection : Ref) (bitmap : ℕ) (entries : ArrayVec Ref) → Leading access hash depth indirection →
      node_at heap (main_at heap indirection) ≡ Branch bitmap entries → has_flag bitmap (flag_of hash depth) ≡ true →
      IsLive heap (entry_at heap (main_at heap indirection) (position_of (flag_of hash depth) bitmap))
  entry_lives access hash depth indirection bitmap entries leads branch flagged =
      in_use_lives heap _
      (entry_meets (main_at heap indirection) bitmap (index_at hash (5 * depth)) entries (safe_of (leads_main access hash depth indirection leads)) branch flagged).0.0

  -- an indirection to which a hash leads can get another main node over its branch
  pub can_swap_there : (access : Access) (hash depth : ℕ) (indirection main : Ref) (bitmap : ℕ) (entries : ArrayVec Ref) (nodes : ℕ) → HasEmptySlots heap → heap.births + nodes < birth_limit →
      Leading access hash depth indirection → main ≡ main_at heap indirection → node_at heap main ≡ Branch bitmap entries → nodes ≤ length heap.free → CanSwap heap indirection main nodes
  can_swap_there access hash depth indirection main bitmap entries nodes empty births leads there branch free =
      let own = leads_holds access hash depth indirection leads in
      let over : Holds S heap (Is main AMain) = subst (λ r. Holds S heap (Is r AMain)) (sym there) (main_read S heap nodes_safe own) in
      record {
        empty = empty;
        free = free;
        births = births;
        live = in_use_lives heap indirection (safe_of own);
        kind = meets_of own;
        over = sym there;
        main_live = in_use_lives heap main (safe_of over);
        entries = subst (λ n. AreLive heap (refs_of_node n)) (sym branch)
            (All-weaker (Meets S heap AnEntry) (IsLive heap) (λ r met. in_use_lives heap r met.0) entries.items (entries_meet main bitmap entries (safe_of over) branch));
      }

-- ---- at a state of a run

pub safe_state : (state : State) → IsOfRun state → IsSafe state
safe_state state h = subst IsSafe (sym h.is) (safe_along state.limits h.limits h.steps)

pub trie_of_run : (state : State) (handle : ℕ) (root : Ref) → IsOfRun state → is_some (root_at state handle) ≡ true → word_at state handle ≡ Plain root → IsTrie state.heap root
trie_of_run state handle root h opened word =
    let safe = safe_state state h in
    let all = heaped_in_use state safe in
    let levels : HasLevels (levels_of state.limits h.steps) state = subst (HasLevels (levels_of state.limits h.steps)) (sym h.is) (has_levels state.limits h.limits h.steps) in
    let own : Holds (Safe state state.epoch) state.heap (Is root AnIndirection) =
    (subst (λ w. AllHold (Safe state state.epoch) state.heap (word_wants w)) word (open_word state safe state.epoch handle opened)).0 in
    record {
      used = (safe_of own).used;
      indirection = meets_of own;
      nodes = all.inside;
      formed = all.formed;
      prevs = all.before;
      level = levels_of state.limits h.steps;
      levels = λ r used. (level_under (levels_of state.limits h.steps) state safe levels r used).0;
    }
