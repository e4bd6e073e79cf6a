-- BUILD's last line: a main node is made from the one before, by one change of its entries.
use Rattle.std.specs.Prelude.{◌≡◌, ◌<◌, ◌≤◌, ℕ, false, bit_or, bit_xor, count_ones, insert, remove, slice_set, List, length, Option, Some, None}
use Rattle.trie_words.specs.declared.entries.Entry.{Entry}
use Rattle.trie_words.specs.declared.headers.Header.{Header}
use Rattle.trie_words.specs.declared.headers.Shape.{Shape}
use Rattle.trie_words.specs.declared.headers.Shape.TheVariants as shape
use Rattle.trie_words.specs.declared.names.Name.{Name}
use Rattle.machine_model.specs.Beneath.ctrie_base.specs.Paths.{position_of}
use Rattle.machine_model.specs.Beneath.slot_arena.specs.declared.refs.Ref.{Ref}
use Rattle.machine_model.specs.Beneath.slot_arena.specs.declared.nodes.Node.{Node}
use Rattle.machine_model.specs.declared.actions.Action.TheVariants as act
use Rattle.machine_model.specs.declared.building.BuildLine.TheVariants as build
use Rattle.machine_model.specs.declared.building.Change.{Change}
use Rattle.machine_model.specs.declared.building.Change.TheVariants as change
use Rattle.machine_model.specs.declared.lines.Line.TheVariants as line
use Rattle.machine_model.specs.Paths.{current}
use Rattle.nodes.specs.Levels.{has_flag}
use Rattle.lock_free.specs.declared.changing.Edit.{Edit}
use Rattle.lock_free.specs.declared.changing.Edit.TheVariants as edit
use Rattle.lock_free.specs.declared.leaving.Drops.{Drops}
use Rattle.lock_free.specs.declared.leaving.Drops.TheVariants as drops
use Rattle.lock_free.specs.declared.rules.View.{View}
use Rattle.lock_free.specs.Accounts.{place_of}
use Rattle.lock_free.specs.Becoming.{HasNew, HasRested}
use Rattle.lock_free.specs.Exchanging.{IsNamed}
use Rattle.lock_free.specs.GoingDown.{IsFlag}
use Rattle.lock_free.specs.Holding.{IsOn}
use Rattle.lock_free.specs.Loading.{IsAt}
use Rattle.lock_free.specs.Passing.{KnowsMain}
use Rattle.lock_free.specs.SeenEntries.{entry_to, unowned}

-- ---- a change of entries

-- one more comes to this place
abbrev pub edited : List Entry → ℕ → Edit → List Entry
edited entries place (edit.Insert entry) = insert entries place entry
edited entries place (edit.Update position entry) = slice_set entries position entry
edited entries place (edit.Remove position) = remove entries position
edited entries place (edit.Entomb single) = entries

abbrev pub edited_bitmap : ℕ → ℕ → Edit → ℕ
edited_bitmap bitmap flag (edit.Insert entry) = bit_or bitmap flag
edited_bitmap bitmap flag (edit.Remove position) = bit_xor bitmap flag
edited_bitmap bitmap flag e = bitmap

-- a list has no place for flags: one more comes last
abbrev pub place_in : Shape → ℕ → ℕ
place_in (shape.Branch bitmap) flag = position_of flag bitmap
place_in (shape.List count) flag = count
place_in s flag = 0

abbrev pub count_in : Shape → ℕ
count_in (shape.Branch bitmap) = count_ones bitmap
count_in (shape.List count) = count
count_in s = 0

-- there is room for one more, or there is an entry at that position
abbrev pub HasPlaceFor : Shape → ℕ → Edit → Type 0
HasPlaceFor (shape.Branch bitmap) flag (edit.Insert entry) = has_flag bitmap flag ≡ false
HasPlaceFor s flag (edit.Insert entry) = count_in s < 32
HasPlaceFor s flag (edit.Update position entry) = position < count_in s
HasPlaceFor s flag (edit.Remove position) = position < count_in s
HasPlaceFor s flag (edit.Entomb single) = Unit {0}

-- where the new entry stands then, if there is one
abbrev pub brought : ℕ → Edit → Option ℕ
brought place (edit.Insert entry) = Some place
brought place (edit.Update position entry) = Some position
brought place e = None

-- so the entries themselves
abbrev pub CanEdit : {X : Type 0} → List X → ℕ → Edit → Type 0
CanEdit entries place (edit.Insert entry) = (place ≤ length entries) × (length entries < 32)
CanEdit entries place (edit.Update position entry) = position < length entries
CanEdit entries place (edit.Remove position) = position < length entries
CanEdit entries place (edit.Entomb single) = Unit {0}

abbrev pub IsNoTomb : Edit → Type 0
IsNoTomb (edit.Entomb single) = ⊥
IsNoTomb e = Unit {0}

-- what of the entries before isn't among the new ones
abbrev pub drops_of : Edit → Drops
drops_of (edit.Insert entry) = drops.Nothing
drops_of (edit.Update position entry) = drops.At position
drops_of (edit.Remove position) = drops.At position
drops_of (edit.Entomb single) = drops.Others

-- it is what the definition changes
abbrev pub IsChange : View → Edit → Change → Type 0
IsChange v (edit.Insert entry) (change.Insert single) = unowned entry ≡ entry_to v single
IsChange v (edit.Update position entry) (change.Update at other) = (position ≡ at) × (unowned entry ≡ entry_to v other)
IsChange v (edit.Remove position) (change.Remove at) = position ≡ at
IsChange v (edit.Entomb name) (change.Entomb single) = place_of v.account single ≡ name.slot
IsChange v e c = ⊥

-- ---- the main node

-- its operation is to make this change of the main node of this name and shape, where its key has this flag
pub record IsChanging (v : View) (name : Name) (what : Shape) (flag : ℕ) (e : Edit) : Type 0 where
  pub path : List Ref
  pub main : Ref
  pub its : Change
  pub former : Option ℕ
  pub on : IsOn v (line.Build (build.Main path main its former))
  pub names : IsNamed v (current path) main name
  pub header : Header
  pub known : KnowsMain v main header
  pub is_shape : header.shape ≡ what
  pub is_flag : IsFlag v path flag
  pub is_change : IsChange v e its

-- it has made the node, or had no slot for it, and stays where it was
abbrev pub HasBuiltNode : View → Node → Option ℕ → View → Type 0
HasBuiltNode before node None after = HasRested before after
HasBuiltNode before node (Some name) after = HasNew before node name after

abbrev pub HasBuilt : View → Option ℕ → View → Type 0
HasBuilt before result after = (node : Node) → IsAt before (act.Make node) → HasBuiltNode before node result after
