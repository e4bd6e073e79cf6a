-- Slots are retired, and become free again.
use Rattle.history.specs.declared.calls.Call.{Call}
use Rattle.std.specs.Prelude.{◌≡◌, ◌+◌, ◌++◌, ◌≤◌, ◌==◌, ℕ, Bool, true, false, not, List, [], ◌∷◌, Contains, filter, nat_le, slice_index_or, if◌then◌else◌, Option, Some, None}
use Rattle.atomic_table.specs.Table.{Me, Step}
use Rattle.trie_words.specs.Codes.{header_of}
use Rattle.trie_words.specs.declared.headers.Header.{Header}
use Rattle.trie_words.specs.declared.headers.Previous.{Previous}
use Rattle.trie_words.specs.declared.headers.Previous.TheVariants as previous
use Rattle.trie_words.specs.declared.names.Name.{Name}
use Rattle.machine_model.specs.Beneath.slot_arena.specs.declared.nodes.Node.{Node}
use Rattle.machine_model.specs.Beneath.slot_arena.specs.declared.nodes.Node.TheVariants.{Indirection, Single}
use Rattle.machine_model.specs.Beneath.slot_arena.specs.declared.nodes.Slot.{Slot}
use Rattle.machine_model.specs.Beneath.slot_arena.specs.declared.refs.Ref.{Ref}
use Rattle.machine_model.specs.Beneath.slot_arena.specs.Heaps.{node_at}
use Rattle.machine_model.specs.Beneath.slot_arena.specs.Refs.{slot_of}
use Rattle.machine_model.specs.declared.lines.Line.TheVariants as line
use Rattle.machine_model.specs.declared.lines.Purpose.{Purpose}
use Rattle.machine_model.specs.declared.operations.Operation.{Operation}
use Rattle.machine_model.specs.declared.reading.SwapLine.TheVariants as swap
use Rattle.lock_free.specs.declared.reclaiming.Decided.{Decided}
use Rattle.lock_free.specs.declared.reclaiming.Decided.TheVariants.{Commits, Fails}
use Rattle.lock_free.specs.declared.reclaiming.Kind.{Kind}
use Rattle.lock_free.specs.declared.reclaiming.Kind.TheVariants as kinds
use Rattle.lock_free.specs.declared.reclaiming.Retiree.{Retiree}
use Rattle.lock_free.specs.declared.rules.Retired.{Retired}
use Rattle.lock_free.specs.declared.rules.View.{View}
use Rattle.lock_free.specs.declared.sizes.Sizes.{Sizes}
use Rattle.lock_free.specs.Accounts.{place_of, running, state_of, IsOwn}
use Rattle.lock_free.specs.Classes.{shape_class}
use Rattle.lock_free.specs.LettingGo.{let_go, HoldsLeft}
use Rattle.lock_free.specs.Links.{link_in}
use Rattle.lock_free.specs.Loading.{now, HasGone, IsSound, HasReadHeader}
use Rattle.lock_free.specs.Making.{others_than, with_slot}
use Rattle.lock_free.specs.Nodes.{class_of}
use Rattle.lock_free.specs.Owing.{owes_then, owing}
use Rattle.lock_free.specs.Passing.{Later}
use Rattle.lock_free.specs.Places.{count_word, words_of}

-- The epoch has grown three times since: all have ended who ran when the slot was retired, and all who may have met an offer of theirs.
abbrev pub is_ripe : ℕ → ℕ → Bool
is_ripe epoch stamp = nat_le (stamp + 3) epoch

-- the seat has retired this slot, and the epoch that it has seen is so much later
abbrev pub IsRipe : View → ℕ → ℕ → Type 0
IsRipe v class name = (x : Retired) × Contains v.retired x × (x.class ≡ class) × (x.name ≡ name) × (x.stamp + 3 ≤ v.epoch) × (x.deep ≡ false)

-- all but that in this slot
abbrev pub without : ℕ → List Retired → List Retired
without name retired = filter (λ (x : Retired). not (x.name == name)) retired

-- it is free for the seat
abbrev pub reclaiming : View → ℕ → ℕ → View
reclaiming v class name =
    record v { pool = with_slot v.pool class name; retired = without name v.retired; links = others_than (count_word v.sizes class name) v.links }

-- and this was its link, where the seat knew it
abbrev pub HasReclaimed : View → ℕ → ℕ → ℕ → View → Type 0
HasReclaimed before class name link after =
    ((known : ℕ) → Contains before.links (count_word before.sizes class name, known) → link ≡ known) × (after ≡ reclaiming before class name)

-- by a load of the count's word
abbrev pub has_reclaimed : Step Call → Me Call View → ℕ → Me Call View → Type 0
has_reclaimed step before found after =
    ((class name : ℕ) → IsRipe before.0 class name → step.word ≡ count_word before.0.sizes class name → HasReclaimed before.0 class name (link_in found) after.0)
    × IsSound (words_of before.0.sizes) after.0 × (after.1 ≡ before.1)

-- ---- what was retired

-- of a node to which there is no reference any more
abbrev pub kind_of_node : Node → Kind
kind_of_node (Single key value) = kinds.Single
kind_of_node (Indirection generation main) = kinds.Indirection
kind_of_node node = kinds.Main

abbrev pub kind_by : Bool → Node → Kind
kind_by true node = kind_of_node node
kind_by false node = kinds.Replaced

abbrev pub kind_in : Bool → Option Slot → Kind
kind_in false found = kinds.Replaced
kind_in true None = kinds.Main
kind_in true (Some slot) = kind_of_node slot.node

abbrev pub kind_of : Sizes → Retired → Kind
kind_of sizes x = kind_in x.deep (slice_index_or (state_of sizes x.account).heap.slots x.number None)

-- ---- the last step of a SWAP retires the main node that it lets go of

-- the operation is at the last line of its SWAP
pub record IsChecking (v : View) (i m f : Ref) : Type 0 where
  pub operation : Operation
  pub runs : running v.sizes v.account v.actor operation
  pub why : Purpose
  pub line_is : operation.line ≡ line.Swap why (record { indirection = i; replaced = m; fresh = f; line = swap.Check })

abbrev pub is_decided : Previous → Bool
is_decided previous.None = true
is_decided p = false

abbrev pub retiring : View → Retired → View
retiring v x = record v { retired = v.retired ++ x ∷ [] }

-- and more than one, in this order
abbrev pub retiring_all : View → List Retired → View
retiring_all v xs = record v { retired = v.retired ++ xs }

-- its slot is the newest that the seat has retired
pub record HasRetiredIt (v : View) (m : Ref) (deep : Bool) (gone after : View) : Type 0 where
  pub item : Retired
  pub number : item.number ≡ slot_of m
  pub name : item.name ≡ place_of v.account m
  pub class : item.class ≡ class_of (node_at (now v).heap m)
  pub kind : item.deep ≡ deep
  pub what : kind_of v.sizes item ≡ kind_by deep (node_at (now v).heap m)
  pub is : after ≡ retiring gone item

abbrev pub HasRetiredOrNot : View → Option Ref → View → View → Type 0
HasRetiredOrNot v None gone after = after ≡ gone
HasRetiredOrNot v (Some m) gone after = HasRetiredIt v m false gone after

-- the step was taken: the seat has retired the node that was let go of, and what that one held, or the claim on the replaced one, is its own then
pub record HasRetired (before : View) (m f : Ref) (own committed : Bool) (word found : ℕ) (after : View) : Type 0 where
  pub gone : View
  pub went : HasGone before word found gone
  pub retired : HasRetiredOrNot before (let_go own committed m f) (owing gone (owes_then before went.0.kept.account)) after
  pub holds : HoldsLeft before own m f committed after.owed

-- by a load of the fresh node's header, which is the operation's step
abbrev pub has_retired : Step Call → Me Call View → ℕ → Me Call View → Type 0
has_retired step before found after =
    ((i m f : Ref) (own : Bool) → IsChecking before.0 i m f → IsOwn before.0.account i m own → HasRetired before.0 m f own (is_decided (header_of found).previous) step.word found after.0)
    × IsSound (words_of before.0.sizes) after.0 × (after.1 ≡ before.1)

-- the slot of the main node of this name, which is replaced, if that one is the indirection's own
abbrev pub retiree_of : Name → ℕ → Option Retiree
retiree_of replaced class = if replaced.own then Some (record { class = class; slot = replaced.slot }) else None

-- what the header of the fresh node in this slot says, where it is to replace that one
abbrev pub decided_by : Name → ℕ → ℕ → Header → Decided
decided_by replaced class fresh header =
    if is_decided header.previous then Commits (retiree_of replaced class) else Fails (record { class = shape_class header.shape; slot = fresh })

abbrev pub is_committed : Decided → Bool
is_committed (Commits r) = true
is_committed (Fails r) = false

-- so it tells whether the fresh node was committed
pub record HasCheckedSwap (before : View) (m f : Ref) (replaced : Name) (class fresh : ℕ) (result : Decided) (after : View) : Type 0 where
  pub gone : View
  pub header : Header
  pub read : HasReadHeader before header gone
  pub is : result ≡ decided_by replaced class fresh header
  pub retired : HasRetiredOrNot before (let_go replaced.own (is_committed result) m f) (owing gone (owes_then before read.0.account)) after
  pub holds : HoldsLeft before replaced.own m f (is_committed result) after.owed

-- ---- what a whole SWAP retires

abbrev pub IsRetiree : Retired → Retiree → Type 0
IsRetiree x r = (x.class ≡ r.class) × (x.name ≡ r.slot) × (x.deep ≡ false)

-- this slot comes to those that were retired, or none
abbrev pub AddsRetired : Option Retiree → List Retired → List Retired → Type 0
AddsRetired None before after = after ≡ before
AddsRetired (Some r) before after = (x : Retired) × (after ≡ before ++ x ∷ []) × IsRetiree x r

-- the seat has seen more happen, and may have retired slots, which hang then; it holds other references
pub record LaterRetiring (v w : View) : Type 0 where
  pub gone : View
  pub later : Later v gone
  pub is : w ≡ record gone { epoch = w.epoch; passed = w.passed; retired = w.retired; owed = w.owed; links = w.links }
