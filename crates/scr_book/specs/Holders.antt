-- The graph of the funds that a book keeps beside its rows (this project's own), so that no record looks at all funds anew.
use Rattle.std.specs.Prelude.{◌≡◌}
use Rattle.scr_fund_graph.specs.Graph.{Graph, components_under}
use Rattle.scr_sheet.specs.BalanceSheet.{components_of}
use Rattle.scr_sheet.specs.declared.sheet.BalanceSheet.{BalanceSheet}

-- Each fund has in it the components of its record, and no other name has any. So the names of the components are entered,
-- and a security or a fund that none holds need not be.
pub record IsGraphOf (sheet : BalanceSheet) (graph : Graph) : Type 0 where
  pub components : components_under graph ≡ components_of sheet.funds
