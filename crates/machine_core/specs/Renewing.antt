-- The way down to a key past indirections of any generation, and what is renewed on it.
use Rattle.std.specs.Prelude.{None, ◌≡◌, ℕ, suc, ◌+◌, ◌<◌, ◌≤◌, true, List, [], drop, length}
use Rattle.arrayvec.specs.ArrayVec.{ArrayVec}
use Rattle.machine_core.specs.Vocabulary.{position_of, Writable, Call, Node, Branch, Indirection, Single, Ref, AreLive, IsLive, Heap, entries_of, entry_at, generation_at, main_at, node_at, prev_at}
use Rattle.machine_core.specs.Vocabulary.{key_of, needs_writable, most_levels, FitsKey, State, key_hash, flag_of, has_flag, first_draft, Renewal, renewal_of, renewed_entries, steps_of_renewal}
use Rattle.machine_core.specs.Vocabulary.{with_renewal, IsDraft}
use Rattle.slot_arena.specs.declared.nodes.Prev.TheVariants as prev
use Rattle.epochs.specs.Memories.{Memory}
use Rattle.machine_model.specs.declared.steps.Step.TheVariants as step
use Rattle.machine_core.specs.Beneath.proof_straight.specs.Places.{Leads}
use Rattle.machine_core.specs.Beneath.proof_straight.specs.Running.{IsKeyed}
use Rattle.machine_core.specs.declared.descending.Onward.{Onward}
use Rattle.machine_core.specs.declared.descending.Onward.TheVariants.{Below, Here, Barred}
use Rattle.machine_core.specs.declared.descending.Place.{Place}
use Rattle.machine_core.specs.declared.parts.Parts.{Parts}
use Rattle.machine_core.specs.Descending.{IsHere}
use Rattle.machine_core.specs.Keeping.{IsKept}
use Rattle.machine_core.specs.Pairing.{Makes}
use Rattle.machine_core.specs.Seen.{seen}
use Rattle.machine_core.specs.Straight.{CanGo, LeadsTo}

-- ---- the way down

-- what a branch that can be renewed has: singles, and indirections over decided main nodes
abbrev pub IsDecided : Heap → Node → Type 0
IsDecided heap (Indirection generation main) = prev_at heap main ≡ prev.None
IsDecided heap (Single key value) = Unit {0}
IsDecided heap node = ⊥

abbrev pub AreDecided : Heap → Ref → ℕ → Type 0
AreDecided heap main count = (k : ℕ) → k < count → IsDecided heap (node_at heap (entry_at heap main k))

-- the main node is a decided branch, which can be renewed, and has in the place of the flag an indirection over this main node
pub record IsOver (heap : Heap) (main : Ref) (flag : ℕ) (below : Ref) : Type 0 where
  pub bitmap : ℕ
  pub entries : ArrayVec Ref
  pub generation : ℕ
  pub decided : prev_at heap main ≡ prev.None
  pub branch : node_at heap main ≡ Branch bitmap entries
  pub few : length entries.items ≤ 32
  pub flagged : has_flag bitmap flag ≡ true
  pub renewable : AreDecided heap main (length entries.items)
  pub is : node_at heap (entry_at heap main (position_of flag bitmap)) ≡ Indirection generation below

-- what a look into a main node for the key finds, past an indirection of any generation
abbrev pub FindsPast : Heap → (main : Ref) → (flag key : ℕ) → Onward → Type 0
FindsPast heap main flag key (Below at generation) = IsOver heap main flag (main_at heap at)
FindsPast heap main flag key (Here position entry) = IsHere heap main flag key position entry
FindsPast heap main flag key Barred = Unit {0}

-- from this main node, of this depth, the hash leads to the place, whose main node is that one
pub data LeadsOn (heap : Heap) (hash key : ℕ) (place : Place) (node : Node) : (depth : ℕ) → (main : Ref) → Type 0 where
  here : IsHere heap place.main place.flag key place.position place.entry → node_at heap place.main ≡ node → LeadsOn heap hash key place node place.depth place.main
  past : {depth : ℕ} {main below : Ref} → IsOver heap main (flag_of hash depth) below → LeadsOn heap hash key place node (suc depth) below →
      LeadsOn heap hash key place node depth main

-- the hash leads from the root to the place
pub record EndsPast (heap : Heap) (root : Ref) (hash key : ℕ) (place : Place) : Type 0 where
  pub leads : LeadsOn heap hash key place (node_at heap place.main) 0 (main_at heap root)
  pub flag : place.flag ≡ flag_of hash place.depth
  pub lit : 0 < place.flag
  pub deep : place.depth < most_levels

-- ---- a branch is renewed

-- the heap has come as far as this renewal, of which these are the slots that were made, and those the new entries
pub record IsSoFar (state : State) (so_far : Renewal) (memory : Memory) (made entries : List Ref) : Type 0 where
  pub draft_is : IsDraft state so_far.draft memory
  pub private : so_far.draft.private ≡ made
  pub entries_are : so_far.entries ≡ entries

-- the branch is renewed and swapped in, as in so many steps
pub record Renews (state : State) (root indirection : Ref) (bitmap : ℕ) (entries : ArrayVec Ref) (steps : ℕ) (memory : Memory) : Type 0 where
  pub draft_is : IsDraft state (with_renewal state root indirection bitmap entries) memory
  pub takes : steps ≡ steps_of_renewal state root entries

abbrev pub IsBranch : Heap → Ref → Type 0
IsBranch heap main = (bitmap : ℕ) × (entries : ArrayVec Ref) × (node_at heap main ≡ Branch bitmap entries)

-- the main nodes of its entries are in use
abbrev pub AreOverLive : Heap → Ref → Type 0
AreOverLive heap main =
    (k generation : ℕ) (word : Ref) → k < length (entries_of (node_at heap main)) → node_at heap (entry_at heap main k) ≡ Indirection generation word → IsLive heap word

-- the first entries of the branch are renewed
pub record IsRenewing (before : Memory) (main : Ref) (generation i : ℕ) (memory : Memory) (made entries : List Ref) : Type 0 where
  pub makes : Makes i before [] memory made
  pub many : length entries ≡ i
  pub live : AreLive memory.heap entries
  pub draft : (state : State) (root : Ref) (all : ArrayVec Ref) → IsDraft state (first_draft state) before → generation_at state.heap root ≡ generation →
      entries_of (node_at before.heap main) ≡ all.items →
      (so_far : Renewal) × (renewed_entries state root (drop i all.items) so_far ≡ renewal_of state root all) × IsSoFar state so_far memory made entries

-- ---- on the way down

-- A call of this start that changes a key has come down to this indirection, of this depth, in the second state, and has renewed all on its way; the hash leads on to
-- the place, whose main node is that one.
pub record IsDown (start state : State) (actor : ℕ) (call : Call) (root : Ref) (place : Place) (node : Node) (depth : ℕ) (indirection : Ref) : Type 0 where
  pub levels : ℕ
  pub further : place.depth ≡ depth + levels
  pub deep : place.depth < most_levels
  pub flag : place.flag ≡ flag_of (key_hash state (key_of call)) place.depth
  pub lit : 0 < place.flag
  pub can : CanGo state actor call root levels
  pub keyed : IsKeyed call
  pub writes : needs_writable call ≡ true
  pub fits : FitsKey (step.Begin actor call None)
  pub leads : LeadsTo start state actor call depth
  pub down : Leads state.heap Writable (key_hash state (key_of call)) root depth indirection
  pub on : LeadsOn state.heap (key_hash state (key_of call)) (key_of call) place node depth (main_at state.heap indirection)

-- so it has on these parts, which keep all that those of a core keep
pub record IsOn (start : State) (parts : Parts) (actor : ℕ) (call : Call) (root : Ref) (place : Place) (node : Node) (depth : ℕ) (indirection : Ref) : Type 0 where
  pub is : IsDown start (seen parts) actor call root place node depth indirection
  pub kept : IsKept parts
  pub settled : parts.heap.noted ≡ []

-- there is a call on this key of which that is so, and whose place lies further down
abbrev pub IsOnTheWay : Parts → (root : Ref) → (key depth : ℕ) → (indirection : Ref) → Type 0
IsOnTheWay parts root key depth indirection =
    (start : State) × (actor : ℕ) × (call : Call) × (place : Place) × (node : Node) × (key ≡ key_of call) × (depth < place.depth) × IsOn start parts actor call root place node depth indirection
