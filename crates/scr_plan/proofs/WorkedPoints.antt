-- From the worked figures of its sources and the discounts of all curves the rule of a figure or a block gives the worked one.
use Rattle.std.proofs.Common.{◌≡◌, List, map, refl, sym, ap, ◌∙◌}
use Rattle.scr_num.specs.Rounding.{Ends}
use Rattle.scr_num.specs.Sums.{sum_ends}
use Rattle.scr_factors.specs.Values.{FactorValues}
use Rattle.scr_sheet.specs.Validity.{Valid}
use Rattle.scr_book.specs.RolledSheets.{RolledSheet}
use Rattle.scr_book.specs.Rolls.{AreRollsOf}
use Rattle.scr_book.proofs.RollSteps.{distinct-kept}
use Rattle.scr_nodes.specs.OwnOf.{own_of}
use Rattle.scr_nodes.specs.declared.node.Measure.TheVariants as measures
use Rattle.scr_nodes.specs.declared.node.Node.TheVariants as nodes
use Rattle.scr_nodes.specs.declared.node.OfCurrency.TheVariants as of_currencies
use Rattle.scr_discounts.specs.Discounts.{CurrencyDiscounts}
use Rattle.scr_discounts.specs.Kept.{all_discounts}
use Rattle.scr_rules.specs.Discounts.{discounts_in, own_discounts}
use Rattle.scr_rules.specs.Fits.{Fits}
use Rattle.scr_rules.specs.Rules.{rule}
use Rattle.scr_rules.specs.Worked.{worked}
use Rattle.scr_rules.proofs.KeptRows.{own-row}
use Rattle.scr_block_graph.specs.Books.{rolled_of}
use Rattle.scr_block_graph.specs.Changed.{own_in}
use Rattle.scr_block_graph.specs.Graph.{AreRolls, sources_in, worth_in}
use Rattle.scr_block_graph.specs.declared.point.Point.{Point}
use Rattle.scr_block_graph.specs.declared.point.Point.TheVariants as points
use Rattle.scr_tree.proofs.PointEquations.{obeys}
use Rattle.scr_plan.specs.Rules.{discounts_at}

module _ (factors : FactorValues) (book : RolledSheet) (valid : Valid book.sheet) (kept : AreRollsOf book.sheet book.rolls) where
  rolls : AreRolls (rolled_of book)
  rolls = record { members = kept.members; once = distinct-kept book.sheet book.rolls kept }

  -- the discounts of all curves are those at the figure's own rates; of a block and of a foreign currency's scenario the rule takes none
  by-own : (point : Point) (rows : List CurrencyDiscounts) (figures : List Ends) → Fits (own_in factors (rolled_of book) point) figures
      → rows ≡ all_discounts book.sheet
      → rule (own_in factors (rolled_of book) point) (discounts_at book.sheet rows point) figures
      ≡ rule (own_in factors (rolled_of book) point) (own_discounts (own_in factors (rolled_of book) point)) figures
  by-own (points.Figure (nodes.Currency currency (of_currencies.Scenario direction measures.Gross))) rows figures fits all = refl
  by-own (points.Figure node) rows figures fits all =
      ap (λ row. rule (own_of factors book.sheet node) row figures)
      (ap (λ rs. discounts_in book.sheet rs node) all ∙ own-row factors book.sheet node figures fits)
  by-own (points.Block block) rows figures fits all = refl

  pub worked-by-rule : (point : Point) (rows : List CurrencyDiscounts) (figures : List Ends)
      → Fits (own_in factors (rolled_of book) point) figures → rows ≡ all_discounts book.sheet
      → figures ≡ map (worth_in sum_ends (worked factors book.sheet) (rolled_of book)) (sources_in (rolled_of book) point)
      → rule (own_in factors (rolled_of book) point) (discounts_at book.sheet rows point) figures
      ≡ worth_in sum_ends (worked factors book.sheet) (rolled_of book) point
  worked-by-rule point rows figures fits all are =
      by-own point rows figures fits all
      ∙ (ap (rule (own_in factors (rolled_of book) point) (own_discounts (own_in factors (rolled_of book) point))) are
      ∙ sym (obeys factors (rolled_of book) valid rolls point))
