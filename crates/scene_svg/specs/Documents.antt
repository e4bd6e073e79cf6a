-- The text of a scene as a document.
use Rattle.std.specs.Prelude.{ℕ, ◌+◌, Bool, true, false, List, [], ◌++◌, length, Option, Some, None, is_none, String, codes}
use Rattle.std.specs.Fmt.{decimal}
use Rattle.std.specs.String.{string_bytes}
use Rattle.std.specs.declared.alloc.Global.{Global}
use Rattle.history_scene.specs.declared.scenes.Scene.{Scene}
use Rattle.scene_svg.specs.declared.style.TheConstants.{STYLE, LEGEND}
use Rattle.scene_svg.specs.Escapes.{escaped}
use Rattle.scene_svg.specs.Geometry.{width_of, bottom_of, height_of}
use Rattle.scene_svg.specs.Marks.{marks_text, lanes_text, line_text}
use Rattle.scene_svg.specs.Bars.{bars_text}

abbrev pub verdict_of : Bool → List ℕ
verdict_of true = codes "is legal"
verdict_of false = codes "isn't legal"

-- the declaration, and the beginning of the element with its size
abbrev pub opening_text : Scene → List ℕ
opening_text scene =
    codes "<?xml version=\"1.0\" encoding=\"UTF-8\"?>\n<svg xmlns=\"http://www.w3.org/2000/svg\" version=\"1.1\" width=\"" ++ (decimal (width_of scene)
    ++ (codes "\" height=\"" ++ (decimal (height_of scene) ++ (codes "\" viewBox=\"0 0 " ++ (decimal (width_of scene) ++ (codes " " ++ (decimal (height_of scene) ++ codes "\">\n")))))))

-- what is shown
abbrev pub heading_text : Scene → List ℕ
heading_text scene =
    codes "A history and its order, which " ++ (verdict_of (is_none scene.reason) ++ (codes ": operations " ++ (decimal (length scene.bars.items)
    ++ (codes ", actors " ++ (decimal (length scene.actors.items) ++ (codes ", events " ++ decimal scene.events))))))

-- the ground over the whole picture, and the heading
abbrev pub ground_text : Scene → List ℕ
ground_text scene =
    codes "<path class=\"ground\" d=\"M0 0H" ++ (decimal (width_of scene) ++ (codes "V" ++ (decimal (height_of scene)
    ++ (codes "H0z\"/>\n<text class=\"head\" x=\"16\" y=\"26\">" ++ (heading_text scene ++ codes "</text>\n")))))

-- the element, its title, the style, the ground and the heading
abbrev pub head_text : Scene → List ℕ
head_text scene = opening_text scene ++ (codes "<title>" ++ (heading_text scene ++ (codes "</title>\n" ++ (STYLE.now ++ ground_text scene))))

-- why the order isn't legal
abbrev pub told_text : Scene → Option (String Global) → List ℕ
told_text scene None = []
told_text scene (Some reason) =
    codes "<text class=\"reason\" x=\"16\" y=\"" ++ (decimal (bottom_of scene + 30) ++ (codes "\">Not legal: " ++ (escaped (string_bytes reason) ++ codes "</text>\n")))

abbrev pub reason_text : Scene → List ℕ
reason_text scene = told_text scene scene.reason

-- what colours and marks mean, and the end of the element
abbrev pub legend_text : Scene → List ℕ
legend_text scene = codes "<g transform=\"translate(16 " ++ (decimal (bottom_of scene + 58) ++ (codes ")\">\n" ++ (LEGEND.now ++ codes "</g>\n</svg>\n")))

-- the reason and the legend, below the lanes
abbrev pub foot_text : Scene → List ℕ
foot_text scene = reason_text scene ++ legend_text scene

-- The document: marks of time, lanes, the line of the order, the bars, and below them what they mean.
abbrev pub svg_text : Scene → List ℕ
svg_text scene = head_text scene ++ (marks_text scene ++ (lanes_text scene ++ (line_text scene ++ (bars_text scene ++ foot_text scene))))
