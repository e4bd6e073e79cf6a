-- What nodes say of one key. What stands under each reference is a function, and so is the main node of each indirection.
use Rattle.std.specs.Prelude.{◌≡◌, ℕ, zero, suc, ◌==◌, List, [], ◌∷◌, Option, Some, None, slice_index_or, if◌then◌else◌}
use Rattle.std.specs.FinMap as map
use Rattle.std.specs.FinMap.{FinMap}
use Rattle.std.specs.Ordering.{nat_cmp}
use Rattle.proof_contents.specs.Vocabulary.{position_of, Ref, Node, Indirection, Branch, Single, Tomb, List as Listed, no_ref, flag_of, has_flag}

-- what a main node says of a key: it isn't there, it has this value, or it may be below this indirection
pub data Found : Type 0 where
  Absent : Found
  Has : (value : ℕ) → Found
  Below : (indirection : Ref) → Found

-- an entry, as the node under it has it
abbrev pub look_at : ℕ → Ref → Node → Found
look_at key entry (Single k v) = if k == key then Has v else Absent
look_at key entry (Indirection generation main) = Below entry
look_at key entry node = Absent

abbrev pub or_else : Found → Found → Found
or_else Absent other = other
or_else (Has value) other = Has value
or_else (Below indirection) other = Below indirection

-- the first of these singles that has the key
abbrev pub look_among : (Ref → Node) → ℕ → List Ref → Found
look_among node key [] = Absent
look_among node key (single ∷ singles) = or_else (look_at key single (node single)) (look_among node key singles)

-- a main node; flag is that of the key at its depth
abbrev pub look_in : (Ref → Node) → ℕ → ℕ → Node → Found
look_in node flag key (Branch bitmap entries) =
    if has_flag bitmap flag then (let entry = slice_index_or entries.items (position_of flag bitmap) no_ref in look_at key entry (node entry)) else Absent
look_in node flag key (Tomb single) = look_at key single (node single)
look_in node flag key (Listed singles) = look_among node key singles.items
look_in node flag key other = Absent

-- the value of a key, by what is below
abbrev pub value_by : (Ref → Option ℕ) → Found → Option ℕ
value_by below Absent = None
value_by below (Has value) = Some value
value_by below (Below indirection) = below indirection

-- the value of a key at an indirection of this depth, within so many levels
unfoldable pub find_at : (Ref → Node) → (Ref → Ref) → (ℕ → ℕ) → ℕ → ℕ → ℕ → Ref → Option ℕ
find_at node main hash key zero depth indirection = None
find_at node main hash key (suc levels) depth indirection =
    value_by (find_at node main hash key levels (suc depth)) (look_in node (flag_of (hash key) depth) key (node (main indirection)))

-- the value of a key in a main node of this depth, with so many levels below it
abbrev pub value_in : (Ref → Node) → (Ref → Ref) → (ℕ → ℕ) → ℕ → ℕ → ℕ → Node → Option ℕ
value_in node main hash key levels depth main_node = value_by (find_at node main hash key levels (suc depth)) (look_in node (flag_of (hash key) depth) key main_node)

-- the content of a main node is this map
abbrev pub HoldsMap : (Ref → Node) → (Ref → Ref) → (ℕ → ℕ) → ℕ → ℕ → Node → FinMap nat_cmp ℕ → Type 0
HoldsMap node main hash levels depth main_node m = (key : ℕ) → value_in node main hash key levels depth main_node ≡ map.get m key
