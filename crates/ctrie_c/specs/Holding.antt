-- What a C program holds: a value behind a pointer, or none.
use Rattle.std.specs.Prelude.{Option, Some, None}
use base.Fml.{Fml, feq}
use denote.RattleType.{RattleType}
use denote.RawPtr.{Ptr, null_ptr}
use Rattle.std.specs.Global.{Global}
use Rattle.std.specs.contracts.impls.GlobalAllocator.TheImpl.{ghosts}
use Rattle.std.specs.Box.Ownership.{box_owns}

-- null where there is none; else the value's block
abbrev pub holds : (R : RattleType) → Global → Ptr → Option R.Denot → Fml
holds R alloc at None = feq Ptr at null_ptr
holds R alloc at (Some value) = box_owns (ghosts.dealloc_token alloc) R at value
