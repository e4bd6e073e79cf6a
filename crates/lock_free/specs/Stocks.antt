-- What a seat owns in plain memory: the slots that are free for it, and those of the nodes that its operation has made and nobody else knows.
use Rattle.std.specs.Prelude.{◌≡◌, ℕ, ◌+◌, ◌≤◌, List, [], ◌∷◌, ◌++◌, map, length, Option, Some, None}
use Rattle.machine_model.specs.Beneath.slot_arena.specs.declared.refs.Ref.{Ref}
use Rattle.machine_model.specs.Beneath.slot_arena.specs.Heaps.{node_at}
use Rattle.machine_model.specs.declared.operations.Operation.{Operation}
use Rattle.machine_model.specs.States.{operation_of}
use Rattle.machine_model.specs.declared.lines.Purpose.{Purpose}
use Rattle.lock_free.specs.declared.swapping.Swapped.{Swapped}
use Rattle.lock_free.specs.declared.swapping.Swapped.TheVariants.{Misses}
use Rattle.lock_free.specs.Becoming.{HasBecome}
use Rattle.lock_free.specs.Swaps.{swap_done, is_done, IsSwapping}
use Rattle.lock_free.specs.declared.limbo.Limbo.{Limbo}
use Rattle.lock_free.specs.declared.reclaiming.Kind.{Kind}
use Rattle.lock_free.specs.declared.rules.Pool.{Pool}
use Rattle.lock_free.specs.declared.rules.View.{View}
use Rattle.lock_free.specs.declared.sizes.Sizes.{Sizes}
use Rattle.lock_free.specs.declared.stock.OwnNode.{OwnNode}
use Rattle.lock_free.specs.Accounts.{place_of}
use Rattle.lock_free.specs.Limbos.{IsLimbo}
use Rattle.lock_free.specs.Loading.{now}
use Rattle.lock_free.specs.Making.{with_slots, with_slot}
use Rattle.lock_free.specs.Nodes.{class_of}
use Rattle.lock_free.specs.Reclaiming.{kind_of_node}
use Rattle.lock_free.specs.Rules.{pool_of}

-- a stock as contracts see it: free slots by class, the next one last, what was made, in order, and how hangs what the seat has retired
pub record Stocked : Type 0 where
  pub sizes : Sizes
  pub pool : Pool
  pub made : List OwnNode
  pub limbo : Limbo

-- ---- what it says of a view

-- the nodes of its running operation that nobody else knows
abbrev pub own_of : Option Operation → List Ref
own_of None = []
own_of (Some operation) = operation.private

abbrev pub own_nodes : View → List Ref
own_nodes v = own_of (operation_of (now v) v.actor)

abbrev pub made_of : View → Ref → OwnNode
made_of v r = record { kind = kind_of_node (node_at (now v).heap r); class = class_of (node_at (now v).heap r); slot = place_of v.account r }

-- the stock is this seat's
pub record IsStock (stock : Stocked) (v : View) : Type 0 where
  pub sizes : stock.sizes ≡ v.sizes
  pub pool : stock.pool ≡ v.pool
  pub made : stock.made ≡ map (made_of v) (own_nodes v)
  pub limbo : IsLimbo stock.limbo v

-- ---- what is taken from it, and goes back

-- the last of these, if there are any
abbrev pub IsLast : List ℕ → Option ℕ → Type 0
IsLast names None = names ≡ []
IsLast names (Some name) = (rest : List ℕ) × (names ≡ rest ++ name ∷ [])

-- all that was made is free again, in the order in which it was made
abbrev pub put_back : List OwnNode → Pool → Pool
put_back [] pool = pool
put_back (m ∷ ms) pool = put_back ms (with_slot pool m.class m.slot)

-- after a SWAP that came to this
abbrev pub settled_pool : Swapped → List OwnNode → Pool → Pool
settled_pool Misses made pool = put_back made pool
settled_pool swapped made pool = pool

-- so many slots of a class are kept at most, with those of all that was made
abbrev pub most_kept : ℕ
most_kept = 128

abbrev pub AreFew : Pool → List OwnNode → Type 0
AreFew pool made = (class : ℕ) → length (pool_of pool class) + length made ≤ most_kept

-- there is room for so many more of this class
abbrev pub HasRoomFor : Stocked → ℕ → ℕ → Type 0
HasRoomFor stock class more = length (pool_of stock.pool class) + length stock.made + more ≤ most_kept

-- or of any
abbrev pub HasRoom : Stocked → ℕ → Type 0
HasRoom stock more = (class : ℕ) → HasRoomFor stock class more

-- the last one of the class is free no more
abbrev pub IsPopped : Pool → ℕ → Option ℕ → Pool → Type 0
IsPopped before class None after = (pool_of before class ≡ []) × (after ≡ before)
IsPopped before class (Some name) after = (rest : List ℕ) × (pool_of before class ≡ rest ++ name ∷ []) × (after ≡ with_slots before class rest)

-- the last free slot of the class has become that of a node of this kind
abbrev pub NotesLast : Stocked → Kind → ℕ → Stocked → Type 0
NotesLast before kind class after = (rest : List ℕ) (name : ℕ) → pool_of before.pool class ≡ rest ++ name ∷ [] →
    (after.pool ≡ with_slots before.pool class rest) × (after.made ≡ before.made ++ record { kind = kind; class = class; slot = name } ∷ [])

-- ---- a slot for the next node

-- this slot of the class is the last of those that are free: the seat had it, or has taken it now
pub record HasSlot (before : View) (class name : ℕ) (after : View) : Type 0 where
  pub is : after ≡ record before { pool = after.pool }
  pub last : (rest : List ℕ) × (pool_of after.pool class ≡ rest ++ name ∷ [])

-- or there is none, and nothing has changed
abbrev pub HasSlotOrNone : View → ℕ → Option ℕ → View → Type 0
HasSlotOrNone before class None after = after ≡ before
HasSlotOrNone before class (Some name) after = HasSlot before class name after

-- ---- a SWAP of what was made

abbrev pub HasSwapped : View → Swapped → View → Type 0
HasSwapped before result after = (why : Purpose) (i replaced made : Ref) → IsSwapping before why i replaced made →
    HasBecome (swap_done why (node_at (now before).heap made) (is_done result)) before after
