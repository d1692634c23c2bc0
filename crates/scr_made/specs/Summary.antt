-- What is printed of a made book (this project's own): the number that it was made from, how many securities, funds and
-- liabilities it has, the line of one cell of it, how many records its script has and how many of them were accepted,
-- and the line of that cell after them.
use Rattle.std.specs.Prelude.{ℕ, ◌++◌, List, codes, decimal}
use Rattle.scr_made.specs.declared.making.TheConstants.{SECURITIES, FUNDS, LIABILITIES}

-- a label and a number
unfoldable pub count_line : List ℕ → ℕ → List ℕ
count_line label count = (label ++ decimal count) ++ codes "\n"

unfoldable pub counts_text : ℕ → List ℕ
counts_text number =
    ((count_line (codes "made ") number ++ count_line (codes "securities ") SECURITIES)
    ++ count_line (codes "funds ") FUNDS) ++ count_line (codes "lines ") LIABILITIES

-- the line of the cell in the book, with its end
unfoldable pub book_line : List ℕ → List ℕ
book_line cell = codes "book " ++ cell

unfoldable pub edits_line : ℕ → ℕ → List ℕ
edits_line edits accepted =
    (((codes "edits " ++ decimal edits) ++ codes " accepted ") ++ decimal accepted) ++ codes "\n"

-- the line of the cell after the last record, with its end
unfoldable pub last_line : List ℕ → List ℕ
last_line cell = codes "last " ++ cell
