use Rattle.std.proofs.Common.{◌≡◌, map, take}
use Rattle.scr_sheet.specs.BalanceSheet.{position_name, stake_name}
use Rattle.scr_nodes.specs.Rows.{holds}
use Rattle.scr_figure_ids.specs.Places.{places_by}
use Rattle.scr_figure_ids.proofs.gathered.fund_lists.Given as goal

-- the rows so far are entered
abbrev pub invariant-loop-k : goal.invariant-loop-k
invariant-loop-k l = record {
  securities : l.securities ≡ places_by holds (map position_name l.sheet.securities) (take l.k l.sheet.funds);
  funds : l.funds ≡ places_by holds (map stake_name l.sheet.funds) (take l.k l.sheet.funds);
}
