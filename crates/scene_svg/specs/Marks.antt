-- The texts of time, of lanes and of the line of the order.
use Rattle.std.specs.Prelude.{ℕ, zero, suc, ◌+◌, List, [], ◌∷◌, ◌++◌, Option, Some, None, codes, slice_get}
use Rattle.std.specs.List.{flat_map}
use Rattle.std.specs.Fmt.{decimal}
use Rattle.history_scene.specs.declared.scenes.Bar.{Bar}
use Rattle.history_scene.specs.declared.scenes.Scene.{Scene}
use Rattle.history_scene.specs.declared.scenes.Stand.{Stand}
use Rattle.scene_svg.specs.Geometry.{x_of, lane_y, width_of, bottom_of, point_x, point_y}

-- a line from above the lanes to their bottom, and the event's number
abbrev pub mark_text : ℕ → ℕ → List ℕ
mark_text event bottom =
    codes "<path class=\"mark\" d=\"M" ++ (decimal (x_of event) ++ (codes " 56V" ++ (decimal bottom
    ++ (codes "\"/><text class=\"time\" x=\"" ++ (decimal (x_of event) ++ (codes "\" y=\"50\">" ++ (decimal event ++ codes "</text>\n")))))))

-- the marks of the first so many events
abbrev pub first_marks : ℕ → ℕ → List ℕ
first_marks bottom zero = []
first_marks bottom (suc event) = first_marks bottom event ++ mark_text event bottom

unfoldable pub marks_text : Scene → List ℕ
marks_text scene = first_marks (bottom_of scene) scene.events

-- a line at the top of the lane, and the actor at its left
abbrev pub lane_text : ℕ → ℕ → ℕ → List ℕ
lane_text width lane actor =
    codes "<path class=\"lane\" d=\"M0 " ++ (decimal (lane_y lane) ++ (codes "H" ++ (decimal width
    ++ (codes "\"/><text class=\"actor\" x=\"16\" y=\"" ++ (decimal (point_y lane + 4) ++ (codes "\">actor " ++ (decimal actor ++ codes "</text>\n")))))))

-- the lanes of these actors, the first of which is that lane
abbrev pub lanes_from : ℕ → ℕ → List ℕ → List ℕ
lanes_from width lane [] = []
lanes_from width lane (actor ∷ actors) = lane_text width lane actor ++ lanes_from width (lane + 1) actors

unfoldable pub lanes_text : Scene → List ℕ
lanes_text scene = lanes_from (width_of scene) 0 scene.actors.items

-- where the line passes an operation that has a bar and stands in the order
abbrev pub stand_text : ℕ → Option Stand → List ℕ
stand_text lane None = []
stand_text lane (Some stand) = codes " " ++ (decimal (point_x stand) ++ (codes "," ++ decimal (point_y lane)))

abbrev pub bar_point : Option Bar → List ℕ
bar_point None = []
bar_point (Some bar) = stand_text bar.lane bar.stand

abbrev pub point_text : Scene → ℕ → List ℕ
point_text scene id = bar_point (slice_get scene.bars.items id)

abbrev pub points_text : Scene → List ℕ
points_text scene = flat_map (point_text scene) scene.order.items

-- a line through the bars in the order
abbrev pub line_text : Scene → List ℕ
line_text scene = codes "<polyline class=\"order\" points=\"" ++ (points_text scene ++ codes "\"/>\n")
