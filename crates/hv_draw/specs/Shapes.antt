-- The shapes of a row of a sequence chart, in SVG. None of them is a group, as a row is.
use Rattle.std.specs.Prelude.{ℕ, ◌++◌, ◌-◌, ◌==◌, List, [], codes, decimal, if◌then◌else◌}
use Rattle.hv_draw.specs.declared.shapes.Class.{Class}
use Rattle.hv_draw.specs.declared.shapes.Class.TheVariants as class
use Rattle.hv_draw.specs.declared.shapes.Label.{Label}
use Rattle.hv_draw.specs.declared.shapes.Mark.{Mark}
use Rattle.hv_draw.specs.declared.shapes.Mark.TheVariants as mark
use Rattle.hv_draw.specs.declared.shapes.Place.{Place}
use Rattle.hv_draw.specs.declared.shapes.Shapes.{Shapes}

-- a thin line from the number of a row to the lane of its processor
unfoldable pub guide_text : Place → List ℕ
guide_text at =
    (codes "<path class=\"guide\" d=\"M44 " ++ decimal at.y) ++ (codes "H" ++ decimal at.from) ++ codes "\"/>"

-- an arrow to another lane, or back to its own
unfoldable pub tip_text : Place → List ℕ
tip_text at =
    if at.from == at.to then codes "h24v8h-20\"/>" else (codes "H" ++ decimal at.to ++ codes "\"/>")

unfoldable pub shaft_text : Place → List ℕ
shaft_text at =
    (codes "<path class=\"arrow\" d=\"M" ++ decimal at.from) ++ (codes " " ++ decimal at.y) ++ tip_text at

unfoldable pub dot_text : Place → List ℕ
dot_text at =
    (codes "<circle cx=\"" ++ decimal at.from) ++ (codes "\" cy=\"" ++ decimal at.y) ++ codes "\" r=\"3\"/>"

unfoldable pub cross_text : Place → List ℕ
cross_text at =
    (codes "<path class=\"cross\" d=\"M" ++ decimal (at.from - 4)) ++ (codes " " ++ decimal (at.y - 4))
    ++ codes "l8 8m0-8l-8 8\"/>"

-- the mark of a row on the lane of its processor
abbrev pub mark_text : Place → Mark → List ℕ
mark_text at mark.Arrow = shaft_text at ++ dot_text at
mark_text at mark.Dot = dot_text at
mark_text at mark.Cross = cross_text at

-- the beginning of a text, with its class and its place
abbrev pub class_text : Class → List ℕ
class_text class.Number = codes "number"
class_text class.Left = codes "left"
class_text class.Right = codes "right"

unfoldable pub place_text : Label → List ℕ
place_text at =
    (codes "<text class=\"" ++ class_text at.class ++ codes "\"") ++ (codes " x=\"" ++ decimal at.x)
    ++ (codes "\" y=\"" ++ decimal at.y) ++ codes "\">"

-- the number of a row's event
unfoldable pub number_text : Label → ℕ → List ℕ
number_text at number = place_text at ++ decimal number ++ codes "</text>"

-- the text of a row
unfoldable pub label_text : Label → List ℕ → List ℕ
label_text at text = place_text at ++ text ++ codes "</text>"

-- the shapes of the row of the event with this number, with this text
unfoldable pub shapes_text : ℕ → Shapes → List ℕ → List ℕ
shapes_text number shapes text =
    guide_text shapes.place ++ number_text shapes.number number ++ mark_text shapes.place shapes.mark
    ++ label_text shapes.label text
