-- The branch that a change of a key makes.
use Rattle.std.proofs.Common.{◌≡◌, ℕ, ◌-◌, ◌≤◌, true, length, List, refl, sym, ap, ◌∙◌, subst}
use Rattle.arrayvec.specs.ArrayVec.{ArrayVec}
use Rattle.machine_core.specs.Vocabulary.{Call, Node, Branch, Indirection, Single, Ref, AreLive, IsLive, is_main_node, Heap, entries_of, entry_at, main_at, node_at, refs_of_node, Change, changed}
use Rattle.machine_core.specs.Vocabulary.{key_of, value_of, State, key_hash, flag_of, changed_main, with_change, with_single, Draft, first_draft, swapped_in, IsDraft, an_indirection, not_two}
use Rattle.epochs.specs.Memories.{Memory}
use Rattle.machine_model.specs.declared.building.Change.TheVariants as change
use Rattle.machine_core.specs.Beneath.proof_straight.specs.Drafts.{with_made}
use Rattle.machine_core.specs.Beneath.proof_generations.proofs.Falling.MadeNodes.{ChangeFits, changed_entries}
use Rattle.machine_core.specs.declared.descending.Entry.{Entry}
use Rattle.machine_core.specs.declared.descending.Entry.TheVariants.{Vacant, Own, Other}
use Rattle.machine_core.specs.Changing.{putting}
use Rattle.machine_core.specs.Descending.{IsHere}
use Rattle.machine_core.specs.Beneath.proof_straight.specs.Places.{Leaves, at_root}

-- the change leaves a branch
abbrev pub IsNoTomb : Change → Type 0
IsNoTomb (change.Entomb single) = ⊥
IsNoTomb c = Unit {0}

pub puts_no_tomb : (entry : Entry) (position : ℕ) (single : Ref) → IsNoTomb (putting entry position single)
puts_no_tomb Vacant position single = tt
puts_no_tomb (Own value) position single = tt
puts_no_tomb Other position single = tt

pub puts_live : (heap : Heap) (entry : Entry) (position : ℕ) (single : Ref) → IsLive heap single → ChangeFits (IsLive heap) (putting entry position single)
puts_live heap Vacant position single live = live
puts_live heap (Own value) position single live = live
puts_live heap Other position single live = live

branch_live : (heap : Heap) (flag bitmap : ℕ) (entries : ArrayVec Ref) (c : Change) → IsNoTomb c → AreLive heap (entries_of (changed flag (Branch bitmap entries) c)) →
    AreLive heap (refs_of_node (changed flag (Branch bitmap entries) c))
branch_live heap flag bitmap entries (change.Insert single) kept live = live
branch_live heap flag bitmap entries (change.Update position entry) kept live = live
branch_live heap flag bitmap entries (change.Remove position) kept live = live
branch_live heap flag bitmap entries (change.Entomb single) kept live = absurd kept

branch_main : (flag bitmap : ℕ) (entries : ArrayVec Ref) (c : Change) → is_main_node (changed flag (Branch bitmap entries) c) ≡ true
branch_main flag bitmap entries (change.Insert single) = refl
branch_main flag bitmap entries (change.Update position entry) = refl
branch_main flag bitmap entries (change.Remove position) = refl
branch_main flag bitmap entries (change.Entomb single) = refl

-- its entries are live where those before it were, and what it brings in
pub changed_live : (heap : Heap) (flag bitmap : ℕ) (entries : ArrayVec Ref) (before node : Node) (c : Change) → before ≡ Branch bitmap entries → node ≡ changed flag before c → IsNoTomb c →
    AreLive heap (refs_of_node before) → ChangeFits (IsLive heap) c → AreLive heap (refs_of_node node)
changed_live heap flag bitmap entries before node c branch is kept all fits =
    subst (λ n. AreLive heap (refs_of_node n)) (sym (is ∙ ap (λ n. changed flag n c) branch))
    (branch_live heap flag bitmap entries c kept
    (changed_entries (IsLive heap) flag (Branch bitmap entries) c refl (subst (λ n. AreLive heap (refs_of_node n)) branch all) fits))

-- and it is a main node
pub changed_is_main : (flag bitmap : ℕ) (entries : ArrayVec Ref) (before node : Node) (c : Change) → before ≡ Branch bitmap entries → node ≡ changed flag before c → is_main_node node ≡ true
changed_is_main flag bitmap entries before node c branch is = ap is_main_node (is ∙ ap (λ n. changed flag n c) branch) ∙ branch_main flag bitmap entries c

-- ---- the draft

-- the call's single is made
pub single_made : (state : State) (call : Call) (key value : ℕ) (memory : Memory) → key_of call ≡ key → value_of call ≡ value →
    IsDraft state (with_made state (first_draft state) (Single key value)) memory → IsDraft state (with_single state call) memory
single_made state call key value memory k v is =
    subst (λ n. IsDraft state (with_made state (first_draft state) n) memory) (sym (ap (λ x. Single x (value_of call)) k ∙ ap (Single key) v)) is

-- the main node of the call's key is changed
pub main_changed : (state : State) (call : Call) (depth : ℕ) (indirection main : Ref) (flag key : ℕ) (node : Node) (draft : Draft) (c own : Change) (heap : Heap) (memory : Memory) →
    heap ≡ state.heap → main_at heap indirection ≡ main → key_of call ≡ key → flag ≡ flag_of (key_hash state key) depth → own ≡ c → node ≡ changed flag (node_at heap main) own →
    IsDraft state (swapped_in state (with_made state draft node) indirection main) memory → IsDraft state (with_change state call depth indirection draft c) memory
main_changed state call depth indirection main flag key node draft c own heap memory same over k f o is so =
    let here : main ≡ main_at state.heap indirection = sym over ∙ ap (λ h. main_at h indirection) same in
    let made : node ≡ changed_main state call depth indirection c =
    is ∙ ap (λ h. changed flag (node_at h main) own) same ∙ ap (λ r. changed flag (node_at state.heap r) own) here
    ∙ ap (λ x. changed x (node_at state.heap (main_at state.heap indirection)) own) (f ∙ ap (λ x. flag_of (key_hash state x) depth) (sym k))
    ∙ ap (changed (flag_of (key_hash state (key_of call)) depth) (node_at state.heap (main_at state.heap indirection))) o in
    subst (λ r. IsDraft state (swapped_in state (with_made state draft (changed_main state call depth indirection c)) indirection r) memory) here
    (subst (λ n. IsDraft state (swapped_in state (with_made state draft n) indirection main) memory) made so)

-- ---- what is left where an entry is taken out

module _ (heap : Heap) (main indirection : Ref) (flag key position depth : ℕ) (entry : Entry) (there : main ≡ main_at heap indirection) (here : IsHere heap main flag key position entry) where
  branch_there : node_at heap (main_at heap indirection) ≡ Branch here.bitmap here.entries
  branch_there = ap (node_at heap) (sym there) ∙ here.branch

  many : (items : List Ref) → items ≡ entries_of (node_at heap main) → length items ≡ length here.entries.items
  many items is = ap length (is ∙ ap entries_of here.branch)

  -- in the root's main node any number may be left
  pub leaves_at_root : depth ≡ 0 → Leaves heap depth indirection position 0
  leaves_at_root top = at_root branch_there top

  -- there aren't two entries
  pub leaves_others : (items : List Ref) → items ≡ entries_of (node_at heap main) → ¬ (length items ≡ 2) → Leaves heap depth indirection position 0
  leaves_others items is other = not_two branch_there (λ two. other (many items is ∙ two))

  -- the other one is an indirection
  pub leaves_indirection : (items : List Ref) (other : Ref) (at : ℕ) {generation word : ℕ} → items ≡ entries_of (node_at heap main) → 1 ≤ depth → length items ≡ 2 →
      other ≡ entry_at heap main at → at ≡ 1 - position → node_at heap other ≡ Indirection generation word → Leaves heap depth indirection position 1
  leaves_indirection items other at is deep two entry place node =
      an_indirection branch_there deep (sym (many items is) ∙ two)
      (ap (λ m. node_at heap (entry_at heap m (1 - position))) (sym there) ∙ ap (λ k. node_at heap (entry_at heap main k)) (sym place) ∙ ap (node_at heap) (sym entry) ∙ node)
