-- What an operation goes by: its generation, its path, and where its key leads. A path has the indirections from the root down; the last is the current
-- one.
use Rattle.std.specs.Prelude.{ℕ, ◌-◌, Bool, nat_lt, nat_eq, List, length, take, slice_index_or, Some, unwrap_or}
use Rattle.std.specs.Option.{option_eq}
use Rattle.machine_model.specs.Beneath.slot_arena.specs.declared.refs.Ref.{Ref}
use Rattle.machine_model.specs.Beneath.slot_arena.specs.Heaps.{no_ref}
use Rattle.nodes.specs.Levels.{flag_of}
use Rattle.machine_model.specs.declared.operations.Operation.{Operation}
use Rattle.machine_model.specs.Calls.{key_of}
use Rattle.machine_model.specs.States.{State, key_hash}

-- the last indirection
abbrev pub current : List Ref → Ref
current path = slice_index_or path (length path - 1) no_ref

-- the path without the last indirection
abbrev pub above : List Ref → List Ref
above path = take (length path - 1) path

-- the last indirection isn't the root
abbrev pub is_below_root : List Ref → Bool
is_below_root path = nat_lt 1 (length path)

-- the depth of the last indirection: the root's is 0
abbrev pub depth_of : List Ref → ℕ
depth_of path = length path - 1

-- the hash of the call's key
abbrev pub hash_in : State → Operation → ℕ
hash_in state operation = key_hash state (key_of operation.call)

-- the flag of the call's key at the last indirection
abbrev pub flag_in : State → Operation → List Ref → ℕ
flag_in state operation path = flag_of (hash_in state operation) (depth_of path)

-- the generation of the root that ROOT gave last; the laws say that there is one wherever a program asks for it
abbrev pub start_of : Operation → ℕ
start_of operation = unwrap_or operation.generation 0

-- this is that generation
abbrev pub is_start : Operation → ℕ → Bool
is_start operation generation = option_eq nat_eq operation.generation (Some generation)
