-- The elements of the drawing (this project's own, in Scalable Vector Graphics).
use Rattle.std.specs.Prelude.{ℕ, ◌++◌, List, codes, decimal}
use Rattle.scr_drawing.specs.declared.elements.TheConstants.{LEFT}

unfoldable pub attribute : List ℕ → ℕ → List ℕ
attribute name number = ((name ++ codes "=\"") ++ decimal number) ++ codes "\""

-- a rectangle that begins where bars begin, with how its inside and its line are drawn
unfoldable pub rect : ℕ → ℕ → ℕ → List ℕ → List ℕ
rect y width height style =
    (((((codes "<rect" ++ attribute (codes " x") LEFT) ++ attribute (codes " y") y) ++ attribute (codes " width") width)
    ++ attribute (codes " height") height) ++ style) ++ codes "/>\n"

unfoldable pub text_start : ℕ → ℕ → List ℕ
text_start x y = ((codes "<text" ++ attribute (codes " x") x) ++ attribute (codes " y") y) ++ codes ">"
