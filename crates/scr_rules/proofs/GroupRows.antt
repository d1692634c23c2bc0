-- The square of a group in a row at hand: found under its name, its rule is that of its own data.
use Rattle.std.proofs.Common.{◌≡◌, List, [], ◌∷◌, Option, Some, None, sym, subst}
use Rattle.std.specs.Option.{option_map_or}
use Rattle.scr_num.specs.Rounding.{Ends}
use Rattle.scr_factors.specs.Values.{FactorValues}
use Rattle.scr_profile.specs.declared.group_kind.GroupKind.TheVariants as group_kinds
use Rattle.scr_sheet.specs.declared.{rows.Group.Group, sheet.BalanceSheet.BalanceSheet}
use Rattle.scr_nodes.specs.Own.Own.{Square}
use Rattle.scr_nodes.specs.OwnOf.{group_square, own_of}
use Rattle.scr_nodes.specs.Rows.{group_of}
use Rattle.scr_nodes.specs.declared.node.Node.TheVariants as nodes
use Rattle.scr_nodes.specs.declared.node.OfGroup.TheVariants as of_groups
use Rattle.scr_discounts.specs.Discounts.{no_discounts}
use Rattle.scr_rules.specs.ByRow.{by_rule}
use Rattle.scr_rules.specs.Fits.{Fits}
use Rattle.scr_rules.specs.MarketFits.{FitsSquare}
use Rattle.scr_rules.specs.MarketRules.{group_square_ends}
use Rattle.scr_rules.specs.Rules.{amount_of, rule}

module _ (sheet : BalanceSheet) (group : Group) (row : group_of group.name sheet.groups ≡ Some group) where
  pub square-fits : (factors : FactorValues) (figures : List Ends)
      → Fits (own_of factors sheet (nodes.Group group.name of_groups.ConcentrationSquare)) figures → FitsSquare group.step figures
  square-fits factors figures fits = subst (λ (o : Option Group). Fits (option_map_or group_square o (Square group_kinds.Name None)) figures) row fits

  pub square-by-rule : (factors : FactorValues) (assets exposure e : Ends) → e ≡ group_square_ends group.kind group.step (amount_of assets) (amount_of exposure)
      → e ≡ by_rule factors sheet [] (nodes.Group group.name of_groups.ConcentrationSquare) (assets ∷ exposure ∷ [])
  square-by-rule factors assets exposure e is =
      subst (λ (o : Option Group). e ≡ rule (option_map_or group_square o (Square group_kinds.Name None)) no_discounts (assets ∷ exposure ∷ [])) (sym row) is
