-- Why a call isn't even begun.
use Rattle.std.specs.Prelude.{ℕ, Bool, true, false, ◌&&◌, nat_le, Option, Some, None, if◌then◌else◌}
use Rattle.ctrie_map.specs.Vocabulary.{Access, Writable, ReadOnly as Frozen, HandleState, handle_limit}
use Rattle.ctrie_map.specs.declared.errors.MapError.{MapError}
use Rattle.ctrie_map.specs.declared.errors.MapError.TheVariants.{NoHandle, ReadOnly, HandlesFull}

abbrev pub is_frozen : Access → Bool
is_frozen Writable = false
is_frozen Frozen = true

-- a call on a handle, which writes, or opens another handle; so many are open
abbrev pub denial_by : Bool → Bool → Option HandleState → ℕ → Option MapError
denial_by writes opens None taken = Some NoHandle
denial_by writes opens (Some shown) taken =
    if writes && is_frozen shown.access then Some ReadOnly else (if opens && nat_le handle_limit taken then Some HandlesFull else None)
