-- The figures that are reckoned from a row at hand are those of its nodes.
use Rattle.std.proofs.Common.{◌≡◌, true, List, map, sym, ap, subst, ◌∙◌}
use Rattle.scr_num.specs.Rounding.{Ends}
use Rattle.scr_factors.specs.Values.{FactorValues, IsInForm}
use Rattle.scr_sheet.specs.declared.sheet.BalanceSheet.{BalanceSheet}
use Rattle.scr_sheet.specs.Validity.{Valid}
use Rattle.scr_nodes.specs.declared.node.Node.{Node}
use Rattle.scr_nodes.specs.Live.{is_live}
use Rattle.scr_nodes.specs.OwnOf.{own_of}
use Rattle.scr_nodes.specs.Sources.{sources_of}
use Rattle.scr_rules.specs.ByRow.{by_rule}
use Rattle.scr_discounts.specs.Discounts.{CurrencyDiscounts}
use Rattle.scr_rules.specs.Discounts.{own_discounts, discounts_in}
use Rattle.scr_rules.specs.Fits.{Fits}
use Rattle.scr_discounts.specs.Kept.{all_discounts}
use Rattle.scr_rules.specs.Rules.{rule}
use Rattle.scr_rules.specs.Worked.{worked}
use Rattle.scr_rules.proofs.Equations.{worked-equation}
use Rattle.scr_rules.proofs.KeptRows as kept_rows
use Rattle.scr_rules.proofs.Ranges.{node-fits}

module _ (factors : FactorValues) (sheet : BalanceSheet) (valid : Valid sheet) where
  -- the rule of a node on the figures of its sources
  pub by-rule-worked : IsInForm factors → (node : Node) → is_live sheet node ≡ true → (rows : List CurrencyDiscounts)
      → rows ≡ all_discounts sheet → (figures : List Ends) → figures ≡ map (worked factors sheet) (sources_of sheet node)
      → by_rule factors sheet rows node figures ≡ worked factors sheet node
  by-rule-worked form node live rows kept figures are =
      let own = own_of factors sheet node in
      let fits : Fits own figures = subst (Fits own) (sym are) (node-fits factors form sheet valid node live) in
      ap (λ row. rule own row figures)
      (ap (λ rs. discounts_in sheet rs node) kept ∙ kept_rows.own-row factors sheet node figures fits)
      ∙ (ap (rule own (own_discounts own)) are ∙ sym (worked-equation factors sheet valid node))
