-- The texts of faults of an order, in plain words.
use Rattle.std.specs.Prelude.{ℕ, List, ◌++◌, codes}
use Rattle.std.specs.Fmt.{decimal}
use Rattle.history.specs.declared.faults.Obstacle.{Obstacle}
use Rattle.history.specs.declared.faults.Obstacle.TheVariants.{NotOpen, NeedsWritable, NeedsReadOnly, OpenAlready}
use Rattle.history.specs.declared.faults.OrderFault.{OrderFault}
use Rattle.history.specs.declared.faults.OrderFault.TheVariants.{WrongEvent, NotBegun, StandsTwice, WasRefused, StandsBehind, NoEffect, OtherReply, Missing}
use Rattle.history_text.specs.Texts.{call_text, reply_text}

abbrev pub obstacle_text : Obstacle → List ℕ
obstacle_text (NotOpen h) = codes "handle " ++ (decimal h ++ codes " isn't open")
obstacle_text (NeedsWritable h) = codes "handle " ++ (decimal h ++ codes " is read-only")
obstacle_text (NeedsReadOnly h) = codes "handle " ++ (decimal h ++ codes " isn't read-only")
obstacle_text (OpenAlready h) = codes "handle " ++ (decimal h ++ codes " is open already")

-- `operation`, its id, and what is wrong with it
abbrev pub operation_text : ℕ → List ℕ → List ℕ
operation_text id wrong = codes "operation " ++ (decimal id ++ wrong)

abbrev pub fault_text : OrderFault → List ℕ
fault_text (WrongEvent place) = codes "event " ++ (decimal place ++ codes " may not come there")
fault_text (NotBegun id) = operation_text id (codes " has not begun")
fault_text (StandsTwice id) = operation_text id (codes " stands twice")
fault_text (WasRefused id) = operation_text id (codes " was refused for want of slots")
fault_text (StandsBehind id other) = operation_text id (codes " ended before operation " ++ (decimal other ++ codes " began, and stands behind it"))
fault_text (NoEffect id obstacle) = operation_text id (codes " has no effect there: " ++ obstacle_text obstacle)
fault_text (OtherReply id call recorded given) =
    operation_text id (codes ", " ++ (call_text call ++ (codes ", was answered " ++ (reply_text recorded ++ (codes "; the maps before it give " ++ reply_text given)))))
fault_text (Missing id) = operation_text id (codes " was answered and is missing")
