-- The colours of bars.
use Rattle.std.specs.Prelude.{ℕ, Bool, false, ◌==◌, ◌||◌, Option, Some, None, if◌then◌else◌}
use Rattle.history.specs.declared.calls.Call.{Call}
use Rattle.history.specs.declared.calls.Call.TheVariants.{Snapshot, Freeze}
use Rattle.history.specs.declared.replies.Reply.{Reply}
use Rattle.history.specs.declared.replies.Reply.TheVariants.{NoSlots}
use Rattle.history.specs.declared.faults.OrderFault.{OrderFault}
use Rattle.history.specs.declared.faults.OrderFault.TheVariants.{WrongEvent, NotBegun, StandsTwice, WasRefused, StandsBehind, NoEffect, OtherReply, Missing}
use Rattle.history_scene.specs.declared.colours.Colour.{Colour}
use Rattle.history_scene.specs.declared.colours.Colour.TheVariants as colour

-- whether the fault names the operation
abbrev pub names : OrderFault → ℕ → Bool
names (WrongEvent place) id = false
names (NotBegun one) id = one == id
names (StandsTwice one) id = one == id
names (WasRefused one) id = one == id
names (StandsBehind one other) id = (one == id) || (other == id)
names (NoEffect one obstacle) id = one == id
names (OtherReply one call recorded given) id = one == id
names (Missing one) id = one == id

abbrev pub is_named : Option OrderFault → ℕ → Bool
is_named None id = false
is_named (Some fault) id = names fault id

-- a refused operation's colour, else that of a copy, else the plain one
abbrev pub colour_by : Call → Option Reply → Colour
colour_by call (Some NoSlots) = colour.Refused
colour_by (Snapshot h) reply = colour.Copy
colour_by (Freeze h) reply = colour.Copy
colour_by call reply = colour.Plain

-- the operations that the first fault names have a colour of their own
abbrev pub colour_of : Option OrderFault → ℕ → Call → Option Reply → Colour
colour_of fault id call reply = if is_named fault id then colour.Wrong else colour_by call reply
