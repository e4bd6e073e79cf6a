-- The texts of bars.
use Rattle.std.specs.Prelude.{ℕ, ◌+◌, ◌-◌, ◌*◌, List, [], ◌++◌, Option, Some, None, String, codes, if◌then◌else◌}
use Rattle.std.specs.List.{flat_map}
use Rattle.std.specs.Fmt.{decimal}
use Rattle.std.specs.String.{string_bytes}
use Rattle.std.specs.declared.alloc.Global.{Global}
use Rattle.history_scene.specs.declared.colours.Colour.{Colour}
use Rattle.history_scene.specs.declared.colours.Colour.TheVariants.{Wrong, Refused, Copy, Plain}
use Rattle.history_scene.specs.declared.scenes.Bar.{Bar}
use Rattle.history_scene.specs.declared.scenes.Scene.{Scene}
use Rattle.history_scene.specs.declared.scenes.Stand.{Stand}
use Rattle.scene_svg.specs.Escapes.{escaped, fitted}
use Rattle.scene_svg.specs.Geometry.{x_of, bar_y, span_of}

abbrev pub class_of : Colour → List ℕ
class_of Wrong = codes "wrong"
class_of Refused = codes "refused"
class_of Copy = codes "copy"
class_of Plain = codes "plain"

-- what became of an operation
abbrev pub answer_text : Option (String Global) → List ℕ
answer_text None = codes " has not ended"
answer_text (Some reply) = codes " was answered " ++ escaped (string_bytes reply)

-- all that is known of the operation
abbrev pub title_text : Bar → List ℕ
title_text bar =
    codes "<title>operation " ++ (decimal bar.id ++ (codes " of actor " ++ (decimal bar.actor ++ (codes ": " ++ (escaped (string_bytes bar.call) ++ (answer_text bar.reply ++ codes "</title>"))))))

-- a box of this width, or one that is open at its right
abbrev pub box_text : ℕ → ℕ → ℕ → Option ℕ → List ℕ
box_text x y width (Some end) =
    codes "<path d=\"M" ++ (decimal x ++ (codes " " ++ (decimal y ++ (codes "h" ++ (decimal width ++ (codes "v38h-" ++ (decimal width ++ codes "z\"/>")))))))
box_text x y width None =
    codes "<path d=\"M" ++ (decimal (x + width) ++ (codes " " ++ (decimal y ++ (codes "h-" ++ (decimal width ++ (codes "v38h" ++ (decimal width ++ codes "\"/>")))))))

abbrev pub outline_text : ℕ → Bar → List ℕ
outline_text events bar = box_text (x_of bar.from) (bar_y bar.lane) (96 * span_of bar events) bar.to

-- a line of a bar's label, as far as there is room
abbrev pub words_text : Bar → ℕ → List ℕ → ℕ → List ℕ
words_text bar y text room =
    codes "<text x=\"" ++ (decimal (x_of bar.from + 4) ++ (codes "\" y=\"" ++ (decimal y ++ (codes "\">" ++ (fitted (room - 1) text ++ codes "</text>")))))

abbrev pub reply_in : Bar → ℕ → ℕ → Option (String Global) → List ℕ
reply_in bar y room None = []
reply_in bar y room (Some reply) = words_text bar y (string_bytes reply) room

abbrev pub reply_line : Bar → ℕ → ℕ → List ℕ
reply_line bar y room = reply_in bar y room bar.reply

-- the call, and below it the reply: 14 characters fit into the width of an event, but for one
abbrev pub label_text : ℕ → Bar → List ℕ
label_text events bar =
    words_text bar (bar_y bar.lane + 15) (string_bytes bar.call) (14 * span_of bar events) ++ reply_line bar (bar_y bar.lane + 30) (14 * span_of bar events)

-- the place in the order, and whether the operation is late
abbrev pub place_text : Bar → Option Stand → List ℕ
place_text bar None = []
place_text bar (Some stand) =
    codes "<text class=\"number\" x=\"" ++ (decimal (x_of bar.from) ++ (codes "\" y=\"" ++ (decimal (bar_y bar.lane - 6) ++ (codes "\">" ++ (decimal stand.place
    ++ ((if stand.is_late then codes "<tspan class=\"late\" dx=\"6\">late</tspan>" else []) ++ codes "</text>"))))))

abbrev pub number_text : Bar → List ℕ
number_text bar = place_text bar bar.stand

abbrev pub bar_text : ℕ → Bar → List ℕ
bar_text events bar =
    codes "<g class=\"" ++ (class_of bar.colour ++ (codes "\">" ++ (title_text bar ++ (outline_text events bar ++ (label_text events bar ++ (codes "</g>" ++ (number_text bar ++ codes "\n")))))))

abbrev pub bars_text : Scene → List ℕ
bars_text scene = flat_map (bar_text scene.events) scene.bars.items
