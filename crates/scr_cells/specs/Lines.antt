-- The lines of a block as they were last formed (this project's own): which part of the text is that of each, and what it tells of its
-- figure.
use Rattle.std.specs.Prelude.{◌≡◌, ℕ, List, [], ◌∷◌, Some, drop, length, take}
use Rattle.scr_num.specs.Rounding.{ends}
use Rattle.scr_figure_ids.specs.Families.{family_of}
use Rattle.scr_partial_sums.specs.Marks.{figure_of}
use Rattle.scr_partial_sums.specs.declared.cell.Mark.{Mark}
use Rattle.scr_partial_sums.specs.declared.figure.Figure.{Figure}
use Rattle.scr_cells.specs.Block.{bounds_line, bounds_of}
use Rattle.scr_cells.specs.Table.{NamedFigure, table}
use Rattle.scr_cells.specs.declared.lines.Line.{Line}

abbrev pub LineList : Type 0
LineList = List Line

-- the line of a cell with the bounds of a figure
abbrev pub figure_line : NamedFigure → Figure → List ℕ
figure_line cell figure = bounds_line cell.name (bounds_of (ends figure.span) figure.close)

-- It has as many bytes as the text of the cell's line, which tells the figure of the mark, and the figure of the cell is of the family that
-- is kept. Of a wide figure, which has no mark, the text alone tells what it was.
pub record IsLineOf (cell : NamedFigure) (line : Line) (text : List ℕ) : Type 0 where
  pub marked : (mark : Mark) → line.mark ≡ Some mark → text ≡ figure_line cell (figure_of mark)
  pub family : family_of cell.node ≡ line.family
  pub long : length text ≡ line.bytes

-- the text is that of the lines of cells, one after another
abbrev pub AreLines : LineList → List NamedFigure → List ℕ → Type 0
AreLines [] cells text = text ≡ []
AreLines (line ∷ lines) [] text = text ≡ []
AreLines (line ∷ lines) (cell ∷ cells) text = IsLineOf cell line (take line.bytes text) × AreLines lines cells (drop line.bytes text)

-- the text is that of the lines of the report's cells
abbrev pub IsBlock : LineList → List ℕ → Type 0
IsBlock lines text = AreLines lines table text
