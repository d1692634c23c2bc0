use Rattle.std.proofs.Common.{ℕ, ℤ, List, ap, length, map, subst, sym, take, ◌∙◌}
use Rattle.std.specs.List.{IsDistinct, list_any}
use Rattle.scr_tables.specs.Names.{same_name}
use Rattle.scr_sheet.specs.BalanceSheet.{position_name, stake_name}
use Rattle.scr_nodes.specs.Rows.{is_component}
use Rattle.scr_figure_ids.proofs.Entering.{entered-none, length-entered}
use Rattle.scr_figure_ids.proofs.GatheredRows.{element-at, holder-entered, row-within}
use Rattle.scr_figure_ids.proofs.gathered.enter_holder.Goals as goal

pub loop-component-init : goal.loop-component-init
loop-component-init c = record {
  securities = sym (entered-none (map position_name c.args.sheet.now.securities) c.args.k c.args.securities.now);
  funds = sym (entered-none (map stake_name c.args.sheet.now.funds) c.args.k c.args.funds.now);
}

pub enter-requires : goal.enter-requires
enter-requires c =
    let items = c.as_slice-component-items.result.now in
    row-within position_name c.component-item.result.0 c.args.sheet.now.securities c.place-security.result _
    (ap length c.loop-component.invariant.securities
    ∙ length-entered (λ name. list_any (is_component name) (take c.loop-component.component-index items))
    (map position_name c.args.sheet.now.securities) c.args.k c.args.securities.now
    ∙ c.requires.securities)
    c.place-security.ensures.place

pub enter-requires-in-loop-component : goal.enter-requires-in-loop-component
enter-requires-in-loop-component c =
    let items = c.as_slice-component-items.result.now in
    row-within stake_name c.component-item.result.0 c.args.sheet.now.funds c.place-fund.result _
    (ap length c.loop-component.invariant.funds
    ∙ length-entered (λ name. list_any (is_component name) (take c.loop-component.component-index items))
    (map stake_name c.args.sheet.now.funds) c.args.k c.args.funds.now
    ∙ c.requires.funds)
    c.place-fund.ensures.place

pub loop-component-preserved : goal.loop-component-preserved
loop-component-preserved c =
    let items = c.as_slice-component-items.result.now in
    let item = c.component-item.result in
    let i = c.loop-component.component-index in
    let at = element-at items i item c.loop-component-test.true c.component-item.is in
    let once : IsDistinct same_name (map (λ (c : List ℕ × ℤ). c.0) items) =
    subst (λ (cs : List (List ℕ × ℤ)). IsDistinct same_name (map (λ (c : List ℕ × ℤ). c.0) cs))
    (sym c.as_slice-component-items.ensures) c.requires.once in
    record {
      securities = holder-entered (λ (c : List ℕ × ℤ). c.0) position_name c.args.sheet.now.securities items i item
          c.place-security.result c.args.k c.args.securities.now c.loop-component.securities c.enter.new.self at once
          c.len-securities.ensures.apart c.place-security.ensures.there c.place-security.ensures.place c.requires.securities
          c.loop-component.invariant.securities c.in_ok-enter.ensures;
      funds = holder-entered (λ (c : List ℕ × ℤ). c.0) stake_name c.args.sheet.now.funds items i item
          c.place-fund.result c.args.k c.args.funds.now c.loop-component.funds c.enter-in-loop-component.new.self at once
          c.len-funds.ensures.apart c.place-fund.ensures.there c.place-fund.ensures.place c.requires.funds
          c.loop-component.invariant.funds c.in_ok-enter-2.ensures;
    }
