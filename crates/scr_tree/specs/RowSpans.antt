-- The figures of rows, each row by itself (this project's own).
use Rattle.std.specs.Prelude.{◌≡◌, ℕ, ◌+◌, ◌<◌, true, List, Some, length, map, slice_get}
use Rattle.std.specs.List.{AllZip}
use Rattle.std.specs.Option.{option_map}
use Rattle.scr_num.specs.Rounding.{ends}
use Rattle.scr_num.specs.declared.span.Span.{Span}
use Rattle.scr_factors.specs.Values.{FactorValues}
use Rattle.scr_ids.specs.Ranges.{IsAt, Numbered, stride}
use Rattle.scr_ids.specs.declared.table.Table.{Table}
use Rattle.scr_ids.specs.declared.table.Table.TheVariants as tables
use Rattle.scr_figure_ids.specs.Families.{family_of, name_of, table_of}
use Rattle.scr_figure_ids.specs.Numbers.{names_in}
use Rattle.scr_sheet.specs.BalanceSheet.{position_name}
use Rattle.scr_sheet.specs.Totals.{total_of}
use Rattle.scr_sheet.specs.declared.rows.{Liability.Liability, Position.Position}
use Rattle.scr_sheet.specs.declared.sheet.BalanceSheet.{BalanceSheet}
use Rattle.scr_nodes.specs.Live.{is_live}
use Rattle.scr_nodes.specs.Sources.{liability_present, liability_rate, security_rate, unit_loss}
use Rattle.scr_nodes.specs.declared.node.Direction.TheVariants.{Up, Down}
use Rattle.scr_nodes.specs.declared.node.Node.{Node}
use Rattle.scr_nodes.specs.declared.node.Node.TheVariants as nodes
use Rattle.scr_nodes.specs.declared.node.Whole.TheVariants as wholes
use Rattle.scr_parallel.specs.declared.rows.Sort.{Sort}
use Rattle.scr_parallel.specs.declared.rows.Sort.TheVariants as sorts
use Rattle.scr_rules.specs.Worked.{worked}
use Rattle.scr_rules.specs.declared.liability_rows.Estimate.{Estimate}
use Rattle.scr_rules.specs.declared.security_rows.SecurityLosses.{SecurityLosses}
use Rattle.scr_tree.specs.First.{IsGround}
use Rattle.scr_tree.specs.declared.making.Ground.{Ground}
use Rattle.scr_tree.specs.declared.row_spans.RowGround.{RowGround}

-- the table of rows of a sort
abbrev pub sort_table : Sort → Table
sort_table sorts.Liability = tables.Liability
sort_table sorts.Security = tables.Security
sort_table sorts.Group = tables.Group

-- how many rows of a sort there are
abbrev pub row_count : BalanceSheet → Sort → ℕ
row_count sheet sorts.Liability = length sheet.liabilities
row_count sheet sorts.Security = length sheet.securities
row_count sheet sorts.Group = length sheet.groups

-- what figures of rows are reckoned from is that of one valid balance sheet
pub record IsRowGround (b : RowGround) : Type 0 where
  pub ground : IsGround b.ground
  pub totals : b.totals.now ≡ map (λ p. total_of b.ground.inputs.book.now.sheet (position_name p)) b.ground.inputs.book.now.sheet.securities
  pub assets : ends b.assets ≡ worked b.ground.inputs.factors.now b.ground.inputs.book.now.sheet (nodes.Whole wholes.Assets)

-- The figures of the security at position `row`, from 0, begin at this id (own).
abbrev pub BeginsAt : Numbered → ℕ → ℕ → Type 0
BeginsAt places number row = IsAt places tables.Security row 0 number

-- The figures of the securities at these positions begin at these ids, pair by pair (own).
abbrev pub BeginAt : Numbered → List ℕ → List ℕ → Type 0
BeginAt places numbers rows = AllZip (BeginsAt places) numbers rows

-- the figure is one of the row at a place
pub record IsOfRow (sheet : BalanceSheet) (sort : Sort) (k : ℕ) (node : Node) : Type 0 where
  pub table : table_of node ≡ sort_table sort
  pub named : slice_get (names_in sheet (sort_table sort)) k ≡ Some (name_of node)
  pub live : is_live sheet node ≡ true

-- So many spans of a row, from one family on: each figure of these families that the balance sheet has is the one that is worked
-- out.
pub record IsRowPart (factors : FactorValues) (sheet : BalanceSheet) (sort : Sort) (k from many : ℕ) (part : List Span) : Type 0 where
  pub count : length part ≡ many
  pub right : (node : Node) (j : ℕ) → IsOfRow sheet sort k node → family_of node ≡ from + j → j < many
      → option_map ends (slice_get part j) ≡ Some (worked factors sheet node)

-- one span for each family of the row's table
abbrev pub IsRowOf : FactorValues → BalanceSheet → Sort → ℕ → List Span → Type 0
IsRowOf factors sheet sort k row = IsRowPart factors sheet sort k 0 (stride (sort_table sort)) row

-- ---- the figures of a row at a place

-- what the security loses by rates, per unit and in all
pub record AreLosses (factors : FactorValues) (sheet : BalanceSheet) (p : Position) (losses : SecurityLosses) : Type 0 where
  pub unit_up : ends losses.unit_up ≡ worked factors sheet (unit_loss Up p)
  pub unit_down : ends losses.unit_down ≡ worked factors sheet (unit_loss Down p)
  pub rate_up : ends losses.rate_up ≡ worked factors sheet (security_rate Up p)
  pub rate_down : ends losses.rate_down ≡ worked factors sheet (security_rate Down p)

-- what the liability costs more by rates, and what it is worth
pub record AreEstimates (factors : FactorValues) (sheet : BalanceSheet) (l : Liability) (estimate : Estimate) : Type 0 where
  pub rate_up : ends estimate.rate_up ≡ worked factors sheet (liability_rate Up l)
  pub rate_down : ends estimate.rate_down ≡ worked factors sheet (liability_rate Down l)
  pub present : ends estimate.present ≡ worked factors sheet (liability_present l)

-- An estimate has the figures of the liability at position `k`, from 0; nothing is claimed past the last liability (own).
abbrev pub IsEstimateAt : Ground → ℕ → Estimate → Type 0
IsEstimateAt ground k estimate =
    (l : Liability) → slice_get ground.inputs.book.now.sheet.liabilities k ≡ Some l
    → AreEstimates ground.inputs.factors.now ground.inputs.book.now.sheet l estimate
