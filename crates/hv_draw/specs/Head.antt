-- The head of a sequence chart, in SVG: its size, its style, the white ground, and its lanes. None of them is
-- a group, as a row is.
use Rattle.std.specs.Prelude.{ℕ, ◌≡◌, ◌++◌, List, [], ◌∷◌, All, codes, decimal}
use Rattle.hv_policy.specs.declared.event.Caller.{Caller}

-- a mark and a number
abbrev pub marked : List ℕ → ℕ → List ℕ
marked mark number = mark ++ decimal number

-- the beginning of a chart of this size
unfoldable pub size_text : ℕ → ℕ → List ℕ
size_text width height =
    marked (codes "<svg xmlns=\"http://www.w3.org/2000/svg\" width=\"") width ++ marked (codes "\" height=\"")
    height ++ codes "\">\n"

-- the style of each class of shapes
abbrev pub style_text : List ℕ
style_text =
    codes "<style>text{font:11px Helvetica,Arial,sans-serif;fill:#222;stroke:#fff;" ++ codes
    "stroke-width:3px;paint-order:stroke}.vp{font-size:14px;font-weight:bold}" ++ codes
    ".vp,.of,.left,.number{text-anchor:middle}.left,.number{text-anchor:end}" ++ codes
    ".of,.number{fill:#777}.lane{stroke:#bbb}.guide{stroke:#eee}" ++ codes
    ".arrow{stroke:#05a;fill:none;marker-end:url(#head)}.waits .arrow{stroke-dasharray:6 4}" ++ codes
    ".cross{stroke:#c00;stroke-width:2;fill:none}.refused text{fill:#c00}</style>\n"

-- the white ground, and the head of an arrow
abbrev pub ground_text : List ℕ
ground_text =
    codes "<rect width=\"100%\" height=\"100%\" fill=\"#fff\"/><marker id=\"head\" " ++ codes
    "viewBox=\"0 0 8 8\" refX=\"8\" refY=\"4\" markerWidth=\"8\" markerHeight=\"8\" orient=\"auto\">" ++ codes
    "<path d=\"M0 0 8 4 0 8z\" fill=\"#05a\"/></marker>\n"

-- the line of a lane
unfoldable pub line_text : ℕ → ℕ → List ℕ
line_text x end = marked (codes "<path class=\"lane\" d=\"M") x ++ marked (codes " 58V") end ++ codes "\"/>"

-- the beginning of a text at a place
unfoldable pub text_at : List ℕ → ℕ → ℕ → List ℕ
text_at mark x y = marked mark x ++ marked (codes "\" y=\"") y ++ codes "\">"

-- the name of a processor
unfoldable pub index_text : Caller → List ℕ
index_text vp = decimal vp.part ++ codes "." ++ decimal vp.vp ++ codes "</text>"

-- the name of its partition
unfoldable pub partition_text : ℕ → List ℕ
partition_text part = codes "partition " ++ decimal part ++ codes "</text>"

-- both, one below the other
unfoldable pub name_text : Caller → ℕ → ℕ → ℕ → List ℕ
name_text vp x y foot =
    text_at (codes "<text class=\"vp\" x=\"") x y ++ index_text vp
    ++ text_at (codes "<text class=\"of\" x=\"") x foot ++ partition_text vp.part

-- the name of this processor at this x
pub record IsName (vp : Caller) (x : ℕ) (text : List ℕ) : Type 0 where
  pub y : ℕ
  pub foot : ℕ
  pub is : text ≡ name_text vp x y foot

-- texts one after another
abbrev pub joined : List (List ℕ) → List ℕ
joined [] = []
joined (text ∷ texts) = text ++ joined texts

-- the lane of a processor: a line, and the processor's name above it, below it and at any other heights
pub record IsLane (text : List ℕ) : Type 0 where
  pub vp : Caller
  pub x : ℕ
  pub end : ℕ
  pub below : ℕ
  pub foot : ℕ
  pub names : List (List ℕ)
  pub are : All (IsName vp x) names
  pub is : text ≡ line_text x end ++ name_text vp x 36 50 ++ name_text vp x below foot ++ joined names ++
      codes "\n"

-- the end of a phase: a dashed line, and a text above it
unfoldable pub end_text : ℕ → ℕ → ℕ → ℕ → List ℕ
end_text y right foot phase =
    marked (codes "<path class=\"lane\" stroke-dasharray=\"2 4\" d=\"M44 ") y ++ marked (codes "H") right
    ++ marked (codes "\"/><text x=\"48\" y=\"") foot ++ marked (codes "\">phase ") phase ++ codes
    " ends</text>\n"

pub record IsEnd (text : List ℕ) : Type 0 where
  pub y : ℕ
  pub right : ℕ
  pub foot : ℕ
  pub phase : ℕ
  pub is : text ≡ end_text y right foot phase

-- a text gains a part of this kind
pub record HasOne (Is : List ℕ → Type 0) (old new : List ℕ) : Type 0 where
  pub own : List ℕ
  pub is : Is own
  pub added : new ≡ old ++ own

-- a text gains parts of this kind
pub record HasSome (Is : List ℕ → Type 0) (old new : List ℕ) : Type 0 where
  pub own : List (List ℕ)
  pub are : All Is own
  pub added : new ≡ old ++ joined own

-- the text is the head of a chart
pub record IsHead (text : List ℕ) : Type 0 where
  pub width : ℕ
  pub height : ℕ
  pub middle : List ℕ
  pub lanes : HasSome IsLane (size_text width height ++ style_text ++ ground_text) middle
  pub ends : HasSome IsEnd middle text
