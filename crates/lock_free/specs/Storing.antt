-- What stores in slots of a seat's own ask and tell, and what taking a slot does.
use Rattle.history.specs.declared.calls.Call.{Call}
use Rattle.std.specs.Prelude.{◌≡◌, ◌≢◌, ℕ, ◌+◌, ◌*◌, ◌^◌, ◌<◌, ◌≤◌, ◌==◌, Bool, true, false, Contains, List, [], ◌∷◌, ◌++◌, length, slice_index_or, Some, None}
use Rattle.atomic_table.specs.Table.{Me, Step}
use Rattle.trie_words.specs.Codes.{link_code}
use Rattle.machine_model.specs.Beneath.slot_arena.specs.declared.refs.Ref.{Ref}
use Rattle.machine_model.specs.Beneath.slot_arena.specs.declared.nodes.Node.{Node}
use Rattle.machine_model.specs.Beneath.slot_arena.specs.declared.nodes.Node.TheVariants.{Indirection}
use Rattle.machine_model.specs.Beneath.slot_arena.specs.declared.nodes.Slot.{Slot}
use Rattle.lock_free.specs.Accounts.{place_of}
use Rattle.machine_model.specs.Beneath.slot_arena.specs.Heaps.{entries_of, next_ref}
use Rattle.machine_model.specs.Beneath.slot_arena.specs.Refs.{slot_of}
use Rattle.machine_model.specs.declared.actions.Action.TheVariants as act
use Rattle.machine_model.specs.declared.lines.Line.{Line}
use Rattle.lock_free.specs.declared.accounts.Account.{Account}
use Rattle.lock_free.specs.declared.rules.View.{View}
use Rattle.lock_free.specs.declared.stores.Tried.{Tried}
use Rattle.lock_free.specs.declared.stores.Tried.TheVariants as tried
use Rattle.lock_free.specs.Loading.{now, seen, IsAt, IsUsed, IsSound, Waited, Took}
use Rattle.lock_free.specs.Making.{over_of, with_draft, with_slot, Drafted, DraftsNode, made_by}
use Rattle.lock_free.specs.Nodes.{class_of}
use Rattle.lock_free.specs.Owning.{MayOwn}
use Rattle.lock_free.specs.Places.{stride, words_in, words_of, part_of, taken_word}
use Rattle.lock_free.specs.Rules.{IsFree, pool_of}

-- ---- a word of a free slot is written

-- it is one of a slot that is free for the seat
abbrev pub IsOwnWord : View → ℕ → Type 0
IsOwnWord v word = (class : ℕ) × (name : ℕ) × IsFree v class name × (2 * name ≤ word) × (word < 2 * name + words_in class)

abbrev pub drafted : View → ℕ → ℕ → View
drafted v word value = record v { drafts = with_draft v.drafts word value }

abbrev pub has_drafted : Step Call → Me Call View → ℕ → Me Call View → Type 0
has_drafted step before found after = after ≡ (drafted before.0 step.word step.first, before.1)

-- ---- a slot is taken

abbrev pub with_free : View → ℕ → ℕ → View
with_free v class name = record v { pool = with_slot v.pool class name }

-- the slot of this number in its class's part
abbrev pub IsSlotOf : View → ℕ → ℕ → ℕ → Type 0
IsSlotOf v class number name = 2 * name ≡ part_of v.sizes class + stride class * number

abbrev pub has_taken : Step Call → Me Call View → ℕ → Me Call View → Type 0
has_taken step before found after =
    (found ≡ step.first → (class name : ℕ) → class < 3 → step.word ≡ taken_word class → IsSlotOf before.0 class found name → after ≡ (with_free before.0 class name, before.1))
    × (found ≢ step.first → after ≡ before)

-- a slot more is free for the seat, or nothing has changed
abbrev pub HasTaken : View → ℕ → Tried → View → Type 0
HasTaken before class (tried.Slot name) after = after ≡ with_free before class name
HasTaken before class tried.Full after = after ≡ before
HasTaken before class tried.Lost after = after ≡ before

-- ---- a node is made

-- the seat has written this node in the last of its free slots, but for this word; whether what it has is its own
pub record Writes (v : View) (line : Line) (word value : ℕ) (node : Node) (rest : List ℕ) (name : ℕ) (own : Bool) : Type 0 where
  pub last : pool_of v.pool (class_of node) ≡ rest ++ name ∷ []
  pub small : length (entries_of node) ≤ 32
  pub low : 2 * name ≤ word
  pub high : word < 2 * name + words_in (class_of node)
  pub drafts : DraftsNode v.account (now v).heap (over_of line) (Drafted v.drafts word value) name own node
  pub owns : MayOwn line node own

-- the next step makes it
abbrev pub IsAtMake : View → ℕ → ℕ → Type 0
IsAtMake v word value =
    (node : Node) × (rest : List ℕ) × (name : ℕ) × (own : Bool) × (p : IsAt v (act.Make node)) × Writes v p.operation.line word value node rest name own

-- the new node has the next number, and all others are what they were
pub record IsAdded (before : View) (account : Account) (node : Node) (after : View) : Type 0 where
  pub made : Ref
  pub next : next_ref (now (seen before account)).heap ≡ Some made
  pub number : slot_of made ≡ length account.names
  pub slot : Slot
  pub used : IsUsed after made slot
  pub node_is : slot.node ≡ node
  pub others : (k : ℕ) → k ≢ slot_of made → slice_index_or (now after).heap.slots k None ≡ slice_index_or (now (seen before account)).heap.slots k None

-- it was made
abbrev pub IsMade : View → ℕ → ℕ → Account → View → Type 0
IsMade before word value account after =
    (node : Node) × (rest : List ℕ) × (name : ℕ) × (own : Bool) × (p : IsAt before (act.Make node)) × Writes before p.operation.line word value node rest name own
    × (after ≡ made_by before (class_of node) name rest own node account) × IsAdded before account node after

abbrev pub HasMade : View → ℕ → ℕ → View → Type 0
HasMade before word value after = (account : Account) × Waited before account × Took before account after × IsMade before word value account after

abbrev pub has_made : Step Call → Me Call View → ℕ → Me Call View → Type 0
has_made step before found after =
    HasMade before.0 step.word step.first after.0 × IsSound (words_of before.0.sizes) after.0 × (after.1 ≡ before.1)

-- ---- the root of a copy is made

-- The seat has written the indirection in the last of its free slots, with this generation: it is made where that is the next one to be given out.
pub record WritesRoot (v : View) (line : Line) (generation : ℕ) (main : Ref) (rest : List ℕ) (name : ℕ) (own : Bool) : Type 0 where
  pub last : pool_of v.pool 0 ≡ rest ++ name ∷ []
  pub small : generation < 2 ^ 36
  pub drafts : Contains v.drafts (2 * name, link_code (record { generation = generation; main = record { slot = place_of v.account main; own = own } }))
  pub used : (slot : Slot) × IsUsed v main slot
  pub owns : MayOwn line (Indirection generation main) own

abbrev pub IsAtMakeRoot : View → ℕ → Type 0
IsAtMakeRoot v generation = (main : Ref) × (rest : List ℕ) × (name : ℕ) × (own : Bool) × (p : IsAt v (act.MakeRoot main)) × WritesRoot v p.operation.line generation main rest name own

-- it was made, where that was the next generation, or nothing has happened
abbrev pub IsRootMade : View → ℕ → Account → View → Type 0
IsRootMade before generation account after =
    (main : Ref) × (rest : List ℕ) × (name : ℕ) × (own : Bool) × (p : IsAt before (act.MakeRoot main)) × WritesRoot before p.operation.line generation main rest name own
    × (after ≡ made_by before 0 name rest own (Indirection generation main) account) × IsAdded before account (Indirection generation main) after
    × ((now (seen before account)).generations ≡ generation)

abbrev pub HasMadeRoot : View → ℕ → Bool → View → Type 0
HasMadeRoot before generation stood after =
    (stood ≡ true → (account : Account) × Waited before account × Took before account after × IsRootMade before generation account after) × (stood ≡ false → after ≡ before)

abbrev pub has_made_root : Step Call → Me Call View → ℕ → Me Call View → Type 0
has_made_root step before found after =
    HasMadeRoot before.0 step.first (found == step.first) after.0 × (IsSound (words_of before.0.sizes) before.0 → IsSound (words_of before.0.sizes) after.0) × (after.1 ≡ before.1)
