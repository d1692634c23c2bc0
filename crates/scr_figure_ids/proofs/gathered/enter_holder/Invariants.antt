use Rattle.std.proofs.Common.{◌≡◌, map, take}
use Rattle.std.specs.List.{list_any}
use Rattle.scr_sheet.specs.BalanceSheet.{position_name, stake_name}
use Rattle.scr_nodes.specs.Rows.{is_component}
use Rattle.scr_figure_ids.specs.Places.{entered_where}
use Rattle.scr_figure_ids.proofs.gathered.enter_holder.Given as goal

-- entered under each of the components so far
abbrev pub invariant-loop-component : goal.invariant-loop-component
invariant-loop-component l = record {
  securities : l.securities
      ≡ entered_where (λ name. list_any (is_component name) (take l.component-index l.component-items))
      (map position_name l.sheet.securities) l.k l.initial.securities;
  funds : l.funds
      ≡ entered_where (λ name. list_any (is_component name) (take l.component-index l.component-items))
      (map stake_name l.sheet.funds) l.k l.initial.funds;
}
