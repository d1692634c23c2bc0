-- The order of the first reckoning of all figures (this project's own): row by row, and then those of the whole sheet by their
-- numbers, each after all that it is reckoned from.
use Rattle.std.specs.Prelude.{◌≡◌, ◌⊎◌, ℕ, ◌+◌, ◌<◌, Some, slice_get}
use Rattle.scr_figure_ids.specs.Families.{family_of, name_of, table_of}
use Rattle.scr_figure_ids.specs.Numbers.{names_in}
use Rattle.scr_sheet.specs.declared.sheet.BalanceSheet.{BalanceSheet}
use Rattle.scr_nodes.specs.declared.node.Node.{Node}
use Rattle.scr_nodes.specs.declared.node.Node.TheVariants as nodes
use Rattle.scr_nodes.specs.declared.node.OfSecurity.TheVariants as of_securities
use Rattle.scr_nodes.specs.declared.node.Whole.TheVariants as wholes

-- Stage of a figure in the first run, from 0 (own). Totals of funds come first, then totals of securities, then the assets against
-- which concentrations are measured. The other figures follow: of securities, liabilities, groups, currencies and the whole sheet.
abbrev pub stage_of : Node → ℕ
stage_of (nodes.Fund name what) = 0
stage_of (nodes.Security name of_securities.Total) = 1
stage_of (nodes.Whole wholes.Assets) = 2
stage_of (nodes.Security name what) = 3
stage_of (nodes.Liability name what) = 4
stage_of (nodes.Group name what) = 5
stage_of (nodes.Currency name what) = 6
stage_of (nodes.Whole what) = 7

-- how far the reckoning has come: the stage, the row and the figure of the row that are next
pub record Turn : Type 0 where
  pub stage : ℕ
  pub row : ℕ
  pub family : ℕ

-- The turn of figure `family` of the row at position `row`, from 0, in a stage of the first run (own).
abbrev pub turn : ℕ → ℕ → ℕ → Turn
turn stage row family = record { stage = stage; row = row; family = family }

-- the turn of a figure of the row at a place
abbrev pub turn_of : Node → ℕ → Turn
turn_of node row = turn (stage_of node) row (family_of node)

-- The turn of the next family in the same row and stage (own).
abbrev pub next : Turn → Turn
next t = turn t.stage t.row (t.family + 1)

-- it is of an earlier row, or an earlier figure of the row
pub record IsEarlier (sheet : BalanceSheet) (t : Turn) (node : Node) : Type 0 where
  pub k : ℕ
  pub named : slice_get (names_in sheet (table_of node)) k ≡ Some (name_of node)
  pub before : (k < t.row) ⊎ ((k ≡ t.row) × (family_of node < t.family))

-- A figure comes before a turn: in an earlier stage, or in the same stage earlier by row and family (own).
abbrev pub IsBefore : BalanceSheet → Turn → Node → Type 0
IsBefore sheet t node = (stage_of node < t.stage) ⊎ ((stage_of node ≡ t.stage) × IsEarlier sheet t node)
