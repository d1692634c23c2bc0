use Rattle.std.proofs.Common.{map, take, ◌∙◌}
use Rattle.std.proofs.lemmas.List.{length-map}
use Rattle.scr_sheet.specs.BalanceSheet.{position_name, stake_name}
use Rattle.scr_sheet.specs.Validity.{IsStake}
use Rattle.scr_nodes.specs.Rows.{holds}
use Rattle.scr_nodes.proofs.Walks.{on_ok}
use Rattle.scr_figure_ids.proofs.GatheredRows.{at-place, keys-entered, long}
use Rattle.scr_figure_ids.proofs.gathered.enter_fund.Goals as goal

pub enter_holder-requires-clause-securities : goal.enter_holder-requires-clause-securities
enter_holder-requires-clause-securities c =
    long holds (map position_name c.args.sheet.now.securities) (take c.args.k c.args.sheet.now.funds) c.args.securities.now c.requires.securities
    ∙ length-map c.args.sheet.now.securities position_name

pub enter_holder-requires-clause-funds : goal.enter_holder-requires-clause-funds
enter_holder-requires-clause-funds c =
    long holds (map stake_name c.args.sheet.now.funds) (take c.args.k c.args.sheet.now.funds) c.args.funds.now c.requires.funds
    ∙ length-map c.args.sheet.now.funds stake_name

pub enter_holder-requires-clause-once : goal.enter_holder-requires-clause-once
enter_holder-requires-clause-once c =
    (at-place IsStake c.args.sheet.now.funds c.args.k c.at-stake.result.now c.requires.valid.funds c.at-stake.ensures).3

pub returns-clause-securities : goal.returns-clause-securities
returns-clause-securities c =
    on_ok c.enter_holder.result _ _
    (λ entered. keys-entered holds (map position_name c.args.sheet.now.securities) c.args.sheet.now.funds c.args.k c.at-stake.result.now
    c.args.securities.now c.enter_holder.new.securities c.at-stake.ensures c.requires.securities entered)
    c.enter_holder.ensures.securities

pub returns-clause-funds : goal.returns-clause-funds
returns-clause-funds c =
    on_ok c.enter_holder.result _ _
    (λ entered. keys-entered holds (map stake_name c.args.sheet.now.funds) c.args.sheet.now.funds c.args.k c.at-stake.result.now
    c.args.funds.now c.enter_holder.new.funds c.at-stake.ensures c.requires.funds entered)
    c.enter_holder.ensures.funds
