-- Where things stand in the picture, in pixels: an event is 96 wide, and a lane 72 high.
use Rattle.std.specs.Prelude.{ℕ, ◌+◌, ◌-◌, ◌*◌, max, length, Option, Some, None, unwrap_or, String}
use Rattle.std.specs.String.{string_bytes}
use Rattle.std.specs.declared.alloc.Global.{Global}
use Rattle.history_scene.specs.declared.scenes.Bar.{Bar}
use Rattle.history_scene.specs.declared.scenes.Scene.{Scene}
use Rattle.history_scene.specs.declared.scenes.Stand.{Stand}

-- an event
abbrev pub x_of : ℕ → ℕ
x_of event = 96 * event + 112

-- the top of a lane
abbrev pub lane_y : ℕ → ℕ
lane_y lane = 72 * lane + 64

-- the top of a bar in a lane
abbrev pub bar_y : ℕ → ℕ
bar_y lane = lane_y lane + 24

-- how many events further a bar ends; an open bar ends behind the last of so many events
abbrev pub span_of : Bar → ℕ → ℕ
span_of bar events = unwrap_or bar.to events - bar.from

-- a line for the reason, of which a character is less than 8 wide
abbrev pub reason_width : Option (String Global) → ℕ
reason_width None = 0
reason_width (Some reason) = 8 * length (string_bytes reason) + 128

-- as wide as the events and the reason, and at least as the legend
abbrev pub width_of : Scene → ℕ
width_of scene = max (96 * scene.events + 128) (max (reason_width scene.reason) 820)

-- the bottom of the lanes
abbrev pub bottom_of : Scene → ℕ
bottom_of scene = lane_y (length scene.actors.items)

abbrev pub height_of : Scene → ℕ
height_of scene = bottom_of scene + 196

-- where the line of the order passes an operation: half a step behind its moment, at half the height of its bar
abbrev pub point_x : Stand → ℕ
point_x stand = x_of stand.moment + 48

abbrev pub point_y : ℕ → ℕ
point_y lane = bar_y lane + 19
