-- Points read off numbers (this project's own).
use Rattle.std.specs.Prelude.{◌≡◌, ℕ, true, Some}
use Rattle.scr_sheet.specs.Members.{is_member, table_of}
use Rattle.scr_nodes.specs.declared.node.Direction.TheVariants as directions
use Rattle.scr_nodes.specs.declared.node.Measure.TheVariants as measures
use Rattle.scr_nodes.specs.declared.node.Node.{Node}
use Rattle.scr_nodes.specs.declared.node.Node.TheVariants as nodes
use Rattle.scr_nodes.specs.declared.node.OfCurrency.TheVariants as of_currencies
use Rattle.scr_sheet.specs.declared.keys.Table.{Table}
use Rattle.scr_sheet.specs.declared.roll.Roll.{Roll}
use Rattle.scr_sheet.specs.declared.sheet.BalanceSheet.{BalanceSheet}
use Rattle.scr_member_lists.specs.Members.{name_at}
use Rattle.scr_member_lists.specs.Seatings.{seat_at}
use Rattle.scr_member_lists.specs.declared.seats.Seats.{Seats}
use Rattle.scr_book.specs.Places.{names_in}
use Rattle.scr_book.specs.Rolls.{KeptRolls, number_of_roll, seat_of_roll, seated_in}
use Rattle.scr_block_graph.specs.BlockNumbers.{list_number}
use Rattle.scr_block_graph.specs.Sums.{reader_of}
use Rattle.scr_block_graph.specs.declared.sum.Sum.{Sum}
use Rattle.scr_block_graph.specs.declared.sum.Sum.TheVariants as sums

-- the seats of the row at a place of a table
abbrev pub seats_at : Table → ℕ → KeptRolls → Seats
seats_at table row kept = seat_at row (seated_in table kept).seats

-- the row at a place of a table is a member of the roll, which has its members in this seat
pub record IsRollAt (table : Table) (row seat : ℕ) (sheet : BalanceSheet) (roll : Roll) : Type 0 where
  pub table_is : table_of roll ≡ table
  pub seat_is : seat_of_roll roll ≡ seat
  pub member : is_member roll (name_at row (names_in table sheet)) sheet ≡ true

-- the list of all tables that has the number is that of the roll
pub record IsRollOf (kept : KeptRolls) (list : ℕ) (roll : Roll) : Type 0 where
  pub number : ℕ
  pub numbered : number_of_roll roll kept ≡ Some number
  pub is : list_number roll number ≡ list

-- of a foreign currency the fall beside the rise, which both are reckoned from one sum; of every other sum the one figure that there is
abbrev pub fall_of : Sum → Node
fall_of (sums.Assets currency) = nodes.Currency currency (of_currencies.Scenario directions.Down measures.Gross)
fall_of (sums.Presents currency) = nodes.Currency currency (of_currencies.Scenario directions.Down measures.Gross)
fall_of sum = reader_of sum
