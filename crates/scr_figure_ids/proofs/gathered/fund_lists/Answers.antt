use Rattle.std.proofs.Common.{map, ap, ◌∙◌, arith}
use Rattle.std.proofs.lemmas.List.{take_all}
use Rattle.scr_sheet.specs.BalanceSheet.{position_name, stake_name}
use Rattle.scr_nodes.specs.Rows.{holds}
use Rattle.scr_figure_ids.specs.Places.{places_by}
use Rattle.scr_figure_ids.proofs.Entering.{none-named}
use Rattle.scr_figure_ids.proofs.gathered.fund_lists.Goals as goal

pub loop-k-init : goal.loop-k-init
loop-k-init c = record {
  securities = none-named holds position_name c.args.sheet.now.securities c.len.result c.in_ok-securities.securities
      c.len.ensures.count c.in_ok-securities.ensures;
  funds = none-named holds stake_name c.args.sheet.now.funds c.len-2.result c.in_ok-funds.funds
      c.len-2.ensures.count c.in_ok-funds.ensures;
}

pub returns : goal.returns
returns c =
    let sheet = c.args.sheet.now in
    let all = take_all c.loop-k.k sheet.funds (omega (arith, c.loop-k-test.false, c.len-k-end.ensures.count)) in
    record {
      holding_securities = c.in_ok-holding_securities.ensures ∙ c.loop-k.invariant.securities
          ∙ ap (places_by holds (map position_name sheet.securities)) all;
      holding_funds = c.in_ok-holding_funds.ensures ∙ c.loop-k.invariant.funds
          ∙ ap (places_by holds (map stake_name sheet.funds)) all;
    }
