-- Handles of the wrong kind.
use Rattle.std.specs.Prelude.{ℕ, Option, Some, None}
use Rattle.history.specs.declared.calls.Access.{Access}
use Rattle.history.specs.declared.calls.Access.TheVariants.{Writable, ReadOnly}
use Rattle.history.specs.declared.faults.Obstacle.{Obstacle}
use Rattle.history.specs.declared.faults.Obstacle.TheVariants.{NeedsWritable, NeedsReadOnly}

-- the obstacle where a call needs such a handle, and the one that it names is of this kind
abbrev pub mismatch : Option Access → Access → ℕ → Option Obstacle
mismatch (Some Writable) ReadOnly handle = Some (NeedsWritable handle)
mismatch (Some ReadOnly) Writable handle = Some (NeedsReadOnly handle)
mismatch needed access handle = None
