-- The drawing of the requirement (this project's own): a row for the requirement, each module and each sub-module, with its
-- name, its bounds gross and net, and bars to one scale.
use Rattle.std.specs.Prelude.{ℕ, pos, ◌+◌, ◌*◌, ◌/◌, ◌++◌, ◌==◌, ◌||◌, Bool, true, false, List, [], ◌∷◌, if◌then◌else◌, codes, get_or, max, min, unsigned_abs}
use Rattle.scr_amounts.specs.declared.bounds.Bounds.{Bounds}
use Rattle.scr_amounts.specs.Amounts.{amount}
use Rattle.scr_drawing.specs.Elements.{rect, text_start}
use Rattle.scr_drawing.specs.Rows.{Shown, rows}
use Rattle.scr_drawing.specs.declared.elements.TheConstants.{LEFT}

abbrev pub cell_in : List Bounds → ℕ → Bounds
cell_in cells k = get_or cells k (record { low = pos 0; high = pos 0 })

-- ---- lengths

-- the bound that is farther from nil, without its sign, as far as it is drawn to scale
unfoldable pub drawn : Bounds → ℕ
drawn bounds = min (max (unsigned_abs bounds.low) (unsigned_abs bounds.high)) 1_000_000_000_000_000_000_000_000_000_000

-- what the longest bar stands for: the Basic Solvency Capital Requirement with what diversification takes
abbrev pub whole_of : List Bounds → ℕ
whole_of cells = max (drawn (cell_in cells 10) + drawn (cell_in cells 11)) 1

unfoldable pub width_of : ℕ → Bounds → ℕ
width_of whole bounds = min (drawn bounds * 560 / whole) 640

-- ---- a row

abbrev pub outline : Bool → List ℕ
outline true = codes " fill=\"none\" stroke=\"black\" stroke-dasharray=\"5 3\""
outline false = codes " fill=\"none\" stroke=\"black\""

-- an outlined bar for gross, and a filled one within it for net; a dashed one for what is taken off
unfoldable pub bars : List Bounds → ℕ → ℕ → Shown → List ℕ
bars cells whole y row =
    rect y (width_of whole (cell_in cells row.gross)) 18 (outline row.takes)
    ++ (if row.takes then [] else rect (y + 5) (width_of whole (cell_in cells row.net)) 8 (codes " fill=\"dimgray\""))

unfoldable pub between : Bounds → List ℕ
between bounds = (amount bounds.low ++ codes " to ") ++ amount bounds.high

unfoldable pub amounts : List Bounds → Shown → List ℕ
amounts cells row =
    if row.takes || row.gross == row.net then between (cell_in cells row.gross)
    else (((codes "gross " ++ between (cell_in cells row.gross)) ++ codes ", net ") ++ between (cell_in cells row.net))

unfoldable pub row_text : List Bounds → ℕ → ℕ → Shown → List ℕ
row_text cells whole y row =
    ((((((text_start (10 + 16 * row.level) (y + 14) ++ row.label) ++ codes "</text>\n") ++ bars cells whole y row)
    ++ text_start LEFT (y + 32)) ++ amounts cells row) ++ codes "</text>\n")

-- rows below one another, from this height on
abbrev pub rows_text : List Bounds → ℕ → ℕ → List Shown → List ℕ
rows_text cells whole y [] = []
rows_text cells whole y (row ∷ below) = row_text cells whole y row ++ rows_text cells whole (y + 40) below

-- ---- the whole

unfoldable pub head : List ℕ
head =
    codes "<svg xmlns=\"http://www.w3.org/2000/svg\" width=\"210mm\" height=\"297mm\" viewBox=\"0 0 980 1386\" font-family=\"sans-serif\" font-size=\"13\">\n<title>Solvency Capital Requirement</title>\n"

unfoldable pub legend : List ℕ
legend =
    codes "<text x=\"10\" y=\"24\">Outlined: gross. Filled: net. Dashed: what is taken off. Amounts: a lower and an upper bound, in "

unfoldable pub drawing : List ℕ → List Bounds → List ℕ
drawing currency cells =
    ((((head ++ legend) ++ currency) ++ codes "</text>\n") ++ rows_text cells (whole_of cells) 50 rows) ++ codes "</svg>\n"
