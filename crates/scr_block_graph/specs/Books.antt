-- A book as its graph of figures sees it (own): its balance sheet with its member lists.
use Rattle.scr_book.specs.RolledSheets.{RolledSheet}
use Rattle.scr_book.specs.Rolls.{roll_of}
use Rattle.scr_block_graph.specs.Graph.{Rolled}

-- The balance sheet of a book with the members of each list (own).
abbrev pub rolled_of : RolledSheet → Rolled
rolled_of book = record { sheet = book.sheet; rolls = λ roll. roll_of roll book.rolls }
