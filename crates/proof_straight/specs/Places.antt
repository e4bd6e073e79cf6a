-- Where a call on one key comes to, on a way that needs no repair.
use Rattle.std.specs.Prelude.{None, ◌≡◌, ℕ, zero, suc, ◌+◌, ◌*◌, ◌-◌, ◌<◌, ◌≤◌, ◌==◌, true, false, nat_eq, length, Some}
use Rattle.std.specs.Option.{option_eq}
use Rattle.proof_straight.specs.Vocabulary.{position_of, Access, Call, Ref, Node, Indirection, Branch, Single, List as Listed, Heap, node_at, main_at, prev_at, entry_at, generation_at, slot_of}
use Rattle.proof_straight.specs.Vocabulary.{flag_of, has_flag, Site, key_of, passes, begun_operation, State, key_hash}
use Rattle.proof_straight.specs.Beneath.slot_arena.specs.declared.nodes.Prev.TheVariants as prev
use Rattle.arrayvec.specs.ArrayVec.{ArrayVec}
use Rattle.machine_model.specs.declared.building.Site.TheVariants as site

-- the main node of the indirection is decided, and a branch that has an entry for the hash at this depth
pub record HasEntry (heap : Heap) (hash depth : ℕ) (indirection : Ref) (bitmap : ℕ) (entries : ArrayVec Ref) : Type 0 where
  pub decided : prev_at heap (main_at heap indirection) ≡ prev.None
  pub branch : node_at heap (main_at heap indirection) ≡ Branch bitmap entries
  pub flagged : has_flag bitmap (flag_of hash depth) ≡ true

-- that entry
abbrev pub entry_for : Heap → ℕ → ℕ → Ref → ℕ → Ref
entry_for heap hash depth indirection bitmap = entry_at heap (main_at heap indirection) (position_of (flag_of hash depth) bitmap)

-- the hash leads from the root down to an indirection of this depth: on a writable handle through indirections of the root's generation alone
pub data Leads (heap : Heap) (access : Access) (hash : ℕ) (root : Ref) : ℕ → Ref → Type 0 where
  to_root : {generation main : ℕ} → node_at heap root ≡ Indirection generation main → Leads heap access hash root zero root
  below : {depth bitmap generation : ℕ} {above word : Ref} {entries : ArrayVec Ref} → Leads heap access hash root depth above → HasEntry heap hash depth above bitmap entries →
      node_at heap (entry_for heap hash depth above bitmap) ≡ Indirection generation word →
      passes access (option_eq nat_eq (Some (generation_at heap root)) (Some generation)) ≡ true →
      Leads heap access hash root (suc depth) (entry_for heap hash depth above bitmap)

-- a list takes 32 singles at most
abbrev pub HasRoom : Node → Type 0
HasRoom (Listed singles) = length singles.items < 32
HasRoom node = Unit {0}

module _ (state : State) (call : Call) (root : Ref) where
  -- the call comes to this indirection, of this depth
  abbrev pub ComesDown : ℕ → Ref → Type 0
  ComesDown depth indirection = Leads state.heap (begun_operation state call None).access (key_hash state (key_of call)) root depth indirection

  -- the single of another key stands at this position of the indirection's main node
  abbrev pub IsOther : Ref → ℕ → Type 0
  IsOther indirection position =
      (key value : ℕ) × (node_at state.heap (entry_at state.heap (main_at state.heap indirection) position) ≡ Single key value) × ((key == key_of call) ≡ false)

  -- the key's single, with this value, stands at this position of the main node of the indirection of this depth: the call finds it by so many looks at entries
  pub data Finds : (depth : ℕ) → Ref → (position value looks : ℕ) → Type 0 where
    in_branch : {depth bitmap value : ℕ} {indirection : Ref} {entries : ArrayVec Ref} → ComesDown depth indirection →
        HasEntry state.heap (key_hash state (key_of call)) depth indirection bitmap entries →
        node_at state.heap (entry_for state.heap (key_hash state (key_of call)) depth indirection bitmap) ≡ Single (key_of call) value →
        Finds depth indirection (position_of (flag_of (key_hash state (key_of call)) depth) bitmap) value 1
    in_list : {depth position value : ℕ} {indirection : Ref} {singles : ArrayVec Ref} → ComesDown depth indirection →
        prev_at state.heap (main_at state.heap indirection) ≡ prev.None → node_at state.heap (main_at state.heap indirection) ≡ Listed singles →
        position < length singles.items → ((k : ℕ) → k < position → IsOther indirection k) →
        node_at state.heap (entry_at state.heap (main_at state.heap indirection) position) ≡ Single (key_of call) value →
        Finds depth indirection position value (suc position)

  -- the key doesn't stand below the indirection of this depth, and this is where a single of it would go: the call sees that by so many looks at entries
  pub data Misses : (depth : ℕ) → Ref → Site → (looks : ℕ) → Type 0 where
    no_entry : {depth bitmap : ℕ} {indirection : Ref} {entries : ArrayVec Ref} → ComesDown depth indirection →
        prev_at state.heap (main_at state.heap indirection) ≡ prev.None → node_at state.heap (main_at state.heap indirection) ≡ Branch bitmap entries →
        has_flag bitmap (flag_of (key_hash state (key_of call)) depth) ≡ false → Misses depth indirection site.Absent 0
    beside_other : {depth bitmap key value : ℕ} {indirection : Ref} {entries : ArrayVec Ref} → ComesDown depth indirection →
        HasEntry state.heap (key_hash state (key_of call)) depth indirection bitmap entries →
        node_at state.heap (entry_for state.heap (key_hash state (key_of call)) depth indirection bitmap) ≡ Single key value → (key == key_of call) ≡ false →
        Misses depth indirection (site.Beside (position_of (flag_of (key_hash state (key_of call)) depth) bitmap)) 1
    not_listed : {depth more : ℕ} {indirection : Ref} {singles : ArrayVec Ref} → ComesDown depth indirection →
        prev_at state.heap (main_at state.heap indirection) ≡ prev.None → node_at state.heap (main_at state.heap indirection) ≡ Listed singles →
        length singles.items ≡ suc more → ((k : ℕ) → k < suc more → IsOther indirection k) → Misses depth indirection site.Absent (suc more)

-- when the entry at this position of the indirection's main node is taken out more than a single is left, so that no tomb is made: the call sees that by so many
-- looks at the other entry
pub data Leaves (heap : Heap) (depth : ℕ) (indirection : Ref) (position : ℕ) : (looks : ℕ) → Type 0 where
  at_root : {bitmap : ℕ} {entries : ArrayVec Ref} → node_at heap (main_at heap indirection) ≡ Branch bitmap entries → depth ≡ 0 → Leaves heap depth indirection position 0
  not_two : {bitmap : ℕ} {entries : ArrayVec Ref} → node_at heap (main_at heap indirection) ≡ Branch bitmap entries → ¬ (length entries.items ≡ 2) →
      Leaves heap depth indirection position 0
  an_indirection : {bitmap generation word : ℕ} {entries : ArrayVec Ref} → node_at heap (main_at heap indirection) ≡ Branch bitmap entries → 1 ≤ depth → length entries.items ≡ 2 →
      node_at heap (entry_at heap (main_at heap indirection) (1 - position)) ≡ Indirection generation word → Leaves heap depth indirection position 1
  not_two_listed : {singles : ArrayVec Ref} → node_at heap (main_at heap indirection) ≡ Listed singles → ¬ (length singles.items ≡ 2) → Leaves heap depth indirection position 0

-- When the entry at this position of the indirection's main node is taken out a single is left alone, at the other position: so a tomb of it is made. The call sees
-- that by so many looks at it.
pub data LeavesSingle (heap : Heap) (indirection : Ref) (position : ℕ) : (looks : ℕ) → Type 0 where
  of_branch : {bitmap key value : ℕ} {entries : ArrayVec Ref} → node_at heap (main_at heap indirection) ≡ Branch bitmap entries → length entries.items ≡ 2 →
      node_at heap (entry_at heap (main_at heap indirection) (1 - position)) ≡ Single key value → LeavesSingle heap indirection position 1
  of_list : {singles : ArrayVec Ref} → node_at heap (main_at heap indirection) ≡ Listed singles → length singles.items ≡ 2 → LeavesSingle heap indirection position 0

-- The entry for the call's key in the main node of an indirection of this depth, the branch with this bitmap and these entries, is that other indirection, and the
-- call goes on there.
pub record StandsOver (state : State) (call : Call) (root : Ref) (depth : ℕ) (above : Ref) (bitmap : ℕ) (entries : ArrayVec Ref) (indirection : Ref) : Type 0 where
  pub down : ComesDown state call root depth above
  pub entry : HasEntry state.heap (key_hash state (key_of call)) depth above bitmap entries
  pub same : entry_for state.heap (key_hash state (key_of call)) depth above bitmap ≡ indirection
  pub generation : ℕ
  pub word : Ref
  pub is : node_at state.heap (entry_for state.heap (key_hash state (key_of call)) depth above bitmap) ≡ Indirection generation word
  pub passed : passes (begun_operation state call None).access (option_eq nat_eq (Some (generation_at state.heap root)) (Some generation)) ≡ true
  -- they stand in two slots
  pub apart : slot_of above ≡ slot_of indirection → ⊥

-- so many steps lead to an indirection of this depth, and by these looks at entries to where the key stands or would
abbrev pub steps_down : ℕ → ℕ → ℕ
steps_down depth looks = 4 * depth + looks + 4

-- the step in which the call reads the main word of that indirection
abbrev pub read_in : State → ℕ → ℕ
read_in state depth = state.steps + (4 * depth + 2)
