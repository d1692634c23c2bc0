-- What a book tells of the list of a sum.
use Rattle.std.proofs.Common.{◌≡◌, ℕ, List, subst}
use Rattle.std.specs.List.{IsDistinct}
use Rattle.scr_tables.specs.Names.{same_name}
use Rattle.scr_member_lists.specs.Members.{has}
use Rattle.scr_sheet.specs.Members.{is_member}
use Rattle.scr_sheet.specs.declared.roll.Roll.{Roll}
use Rattle.scr_book.specs.RolledSheets.{RolledSheet}
use Rattle.scr_book.specs.Rolls.{roll_of as names_in}
use Rattle.scr_block_graph.specs.Books.{rolled_of}
use Rattle.scr_block_graph.specs.Graph.{IsRoll}
use Rattle.scr_block_graph.specs.Sums.{roll_of}
use Rattle.scr_block_graph.specs.declared.sum.Sum.{Sum}

pub own-roll : (book : RolledSheet) (sum : Sum) (roll : Roll) → roll ≡ roll_of sum → IsDistinct same_name (names_in roll book.rolls)
    → ((name : List ℕ) → has name (names_in roll book.rolls) ≡ is_member roll name book.sheet) → IsRoll (rolled_of book) (roll_of sum)
own-roll book sum roll is once members = subst (IsRoll (rolled_of book)) is (record { members = members; once = once })
