-- What a figure that covers its rule encloses: all that its rule gives, on the figures of its sources. Where these are whole
-- numbers, its rule gives the worked figure.
use Rattle.std.proofs.Common.{◌≡◌, ℕ, Bool, true, false, List, [], ◌∷◌, Option, Some, None, map, filter, refl, ap, ap₂, sym, subst, ◌∙◌}
use Rattle.std.specs.List.{AllByRecursion}
use Rattle.std.specs.Option.{option_map_or}
use Rattle.std.proofs.lemmas.Bool.{true≢false}
use Rattle.scr_num.specs.Enclosure.{Encloses}
use Rattle.scr_num.specs.Figure.{Figure}
use Rattle.scr_num.specs.Rounding.{Ends}
use Rattle.scr_num.proofs.Enclosing.{Encloses-wider}
use Rattle.scr_factors.specs.Values.{FactorValues}
use Rattle.scr_profile.specs.declared.group_kind.GroupKind.TheVariants as kinds
use Rattle.scr_tables.proofs.TableRows.{All-append}
use Rattle.scr_sheet.specs.BalanceSheet.{position_of}
use Rattle.scr_sheet.specs.Validity.{Valid}
use Rattle.scr_sheet.specs.declared.{rows.Class.Class, rows.Group.Group, rows.Position.Position, sheet.BalanceSheet.BalanceSheet}
use Rattle.scr_sheet.specs.declared.rows.Class.TheVariants as classes
use Rattle.scr_nodes.specs.declared.node.Equities.TheVariants as equities
use Rattle.scr_nodes.specs.declared.node.Node.{Node}
use Rattle.scr_nodes.specs.declared.node.Node.TheVariants as nodes
use Rattle.scr_nodes.specs.declared.node.OfFund.TheVariants as of_funds
use Rattle.scr_nodes.specs.declared.node.OfGroup.TheVariants as of_groups
use Rattle.scr_nodes.specs.declared.node.OfSecurity.TheVariants as of_securities
use Rattle.scr_nodes.specs.declared.node.Operational.TheVariants as operations
use Rattle.scr_nodes.specs.declared.node.Whole.TheVariants as wholes
use Rattle.scr_nodes.specs.Own.Own.{Stressed, Square}
use Rattle.scr_nodes.specs.OwnOf.{own_of, bond_stressed, group_square}
use Rattle.scr_nodes.specs.Rows.{group_of, holders, is_closed, has_class, has_group, is_of_default_class, is_of_group}
use Rattle.scr_nodes.specs.Sources.{concentration_square, fund_total, funds_of_class, group_loss, security_total, sources_of}
use Rattle.scr_discounts.specs.Discounts.{CurrencyDiscounts}
use Rattle.scr_rules.specs.Discounts.{own_discounts}
use Rattle.scr_rules.specs.Rules.{rule}
use Rattle.scr_rules.specs.Worked.{node_rule, worked}
use Rattle.scr_rules.proofs.Equations.{worked-equation, worked-only}
use Rattle.scr_exact.specs.Covering.{AreCovering, is_whole_number}

abbrev IsNumber : Node → Type 0
IsNumber node = is_whole_number node ≡ true

-- a figure of whole numbers and of what the sheet itself tells
abbrev pub is_leaf : Node → Bool
is_leaf (nodes.Security name of_securities.Spread) = true
is_leaf (nodes.Whole (wholes.EquityPart kind)) = true
is_leaf (nodes.Whole wholes.Property) = true
is_leaf (nodes.Whole wholes.Concentration) = true
is_leaf (nodes.Whole wholes.Variance) = true
is_leaf (nodes.Whole wholes.DefaultType2) = true
is_leaf (nodes.Whole (wholes.Segment segment)) = true
is_leaf (nodes.Whole (wholes.CatCharge key)) = true
is_leaf (nodes.Whole (wholes.Lapse set)) = true
is_leaf (nodes.Whole wholes.Intangible) = true
is_leaf (nodes.Whole (wholes.OpPart operations.Premiums)) = true
is_leaf (nodes.Whole (wholes.OpPart operations.Provisions)) = true
is_leaf node = false

-- each row's figure is a whole number
each-number : {Row : Type 0} (node_of : Row → Node) → ((row : Row) → IsNumber (node_of row)) → (rows : List Row) → AllByRecursion IsNumber (map node_of rows)
each-number node_of own [] = tt
each-number node_of own (row ∷ rows) = (own row, each-number node_of own rows)

module _ (factors : FactorValues) (sheet : BalanceSheet) (valid : Valid sheet) where
  -- ---- whole numbers are of whole numbers
  class-funds : (class : Class) → AllByRecursion IsNumber (funds_of_class class sheet)
  class-funds classes.Type2Equity = each-number fund_total (λ s. refl) (filter is_closed sheet.funds)
  class-funds class = tt

  numbers-closed : (node : Node) → IsNumber node → AllByRecursion IsNumber (sources_of sheet node)
  numbers-closed (nodes.Fund name of_funds.Total) is = each-number fund_total (λ s. refl) (holders name sheet)
  numbers-closed (nodes.Security name of_securities.Total) is = each-number fund_total (λ s. refl) (holders name sheet)
  numbers-closed (nodes.Group name of_groups.Total) is = each-number security_total (λ p. refl) (filter (is_of_group name) sheet.securities)
  numbers-closed (nodes.Group name of_groups.ConcentrationSquare) is = (refl, (refl, tt))
  numbers-closed (nodes.Group name of_groups.Loss) is = tt
  numbers-closed (nodes.Whole (wholes.ClassSum class)) is =
      All-append IsNumber (map security_total (filter (has_class class) sheet.securities)) (funds_of_class class sheet)
      (each-number security_total (λ p. refl) (filter (has_class class) sheet.securities)) (class-funds class)
  numbers-closed (nodes.Whole wholes.Assets) is = each-number security_total (λ p. refl) (filter has_group sheet.securities)
  numbers-closed (nodes.Whole (wholes.ClassLoss class)) is = each-number group_loss (λ g. refl) (filter (is_of_default_class class) sheet.groups)
  numbers-closed (nodes.Whole (wholes.ClassSquare class)) is = each-number group_loss (λ g. refl) (filter (is_of_default_class class) sheet.groups)
  numbers-closed node is = absurd (true≢false (sym is))

  -- and so are these figures
  leaves-closed : (node : Node) → is_leaf node ≡ true → AllByRecursion IsNumber (sources_of sheet node)
  leaves-closed (nodes.Security name of_securities.Spread) is = (refl, tt)
  leaves-closed (nodes.Whole (wholes.EquityPart equities.Type1)) is = (refl, (refl, tt))
  leaves-closed (nodes.Whole (wholes.EquityPart equities.Type2)) is = (refl, (refl, tt))
  leaves-closed (nodes.Whole (wholes.EquityPart equities.Infrastructure)) is = (refl, tt)
  leaves-closed (nodes.Whole (wholes.EquityPart equities.InfrastructureCorporate)) is = (refl, tt)
  leaves-closed (nodes.Whole wholes.Property) is = (refl, tt)
  leaves-closed (nodes.Whole wholes.Concentration) is = each-number concentration_square (λ g. refl) sheet.groups
  leaves-closed (nodes.Whole wholes.Variance) is = (refl, (refl, (refl, (refl, (refl, (refl, (refl, (refl, (refl, (refl, (refl, (refl, tt))))))))))))
  leaves-closed (nodes.Whole wholes.DefaultType2) is = tt
  leaves-closed (nodes.Whole (wholes.Segment segment)) is = tt
  leaves-closed (nodes.Whole (wholes.CatCharge key)) is = tt
  leaves-closed (nodes.Whole (wholes.Lapse set)) is = tt
  leaves-closed (nodes.Whole wholes.Intangible) is = tt
  leaves-closed (nodes.Whole (wholes.OpPart operations.Premiums)) is = tt
  leaves-closed (nodes.Whole (wholes.OpPart operations.Provisions)) is = tt
  leaves-closed node is = absurd (true≢false (sym is))

  -- ---- neither is discounted
  square-alike : (found : Option Group) (a b : CurrencyDiscounts) (figures : List Ends)
      → rule (option_map_or group_square found (Square kinds.Name None)) a figures ≡ rule (option_map_or group_square found (Square kinds.Name None)) b figures
  square-alike None a b figures = refl
  square-alike (Some g) a b figures = refl

  bond-alike : (found : Option Position) (a b : CurrencyDiscounts) (figures : List Ends)
      → rule (option_map_or (bond_stressed factors sheet) found (Stressed factors None 0)) a figures
      ≡ rule (option_map_or (bond_stressed factors sheet) found (Stressed factors None 0)) b figures
  bond-alike None a b figures = refl
  bond-alike (Some p) a b figures = refl

  numbers-alike : (node : Node) → IsNumber node → (a b : CurrencyDiscounts) (figures : List Ends) → rule (own_of factors sheet node) a figures ≡ rule (own_of factors sheet node) b figures
  numbers-alike (nodes.Fund name of_funds.Total) is a b figures = refl
  numbers-alike (nodes.Security name of_securities.Total) is a b figures = refl
  numbers-alike (nodes.Group name of_groups.Total) is a b figures = refl
  numbers-alike (nodes.Group name of_groups.ConcentrationSquare) is a b figures = square-alike (group_of name sheet.groups) a b figures
  numbers-alike (nodes.Group name of_groups.Loss) is a b figures = refl
  numbers-alike (nodes.Whole (wholes.ClassSum class)) is a b figures = refl
  numbers-alike (nodes.Whole wholes.Assets) is a b figures = refl
  numbers-alike (nodes.Whole (wholes.ClassLoss class)) is a b figures = refl
  numbers-alike (nodes.Whole (wholes.ClassSquare class)) is a b figures = refl
  numbers-alike node is a b figures = absurd (true≢false (sym is))

  leaves-alike : (node : Node) → is_leaf node ≡ true → (a b : CurrencyDiscounts) (figures : List Ends) → rule (own_of factors sheet node) a figures ≡ rule (own_of factors sheet node) b figures
  leaves-alike (nodes.Security name of_securities.Spread) is a b figures = bond-alike (position_of name sheet.securities) a b figures
  leaves-alike (nodes.Whole (wholes.EquityPart kind)) is a b figures = refl
  leaves-alike (nodes.Whole wholes.Property) is a b figures = refl
  leaves-alike (nodes.Whole wholes.Concentration) is a b figures = refl
  leaves-alike (nodes.Whole wholes.Variance) is a b figures = refl
  leaves-alike (nodes.Whole wholes.DefaultType2) is a b figures = refl
  leaves-alike (nodes.Whole (wholes.Segment segment)) is a b figures = refl
  leaves-alike (nodes.Whole (wholes.CatCharge key)) is a b figures = refl
  leaves-alike (nodes.Whole (wholes.Lapse set)) is a b figures = refl
  leaves-alike (nodes.Whole wholes.Intangible) is a b figures = refl
  leaves-alike (nodes.Whole (wholes.OpPart operations.Premiums)) is a b figures = refl
  leaves-alike (nodes.Whole (wholes.OpPart operations.Provisions)) is a b figures = refl
  leaves-alike node is a b figures = absurd (true≢false (sym is))

  -- ---- figures that cover their rules
  module _ (figure : Node → Ends) (covering : AreCovering factors sheet figure) where
    -- what the rule of a figure gives
    abbrev pub due : Node → Ends
    due node = rule (own_of factors sheet node) (covering.discounts node) (map figure (sources_of sheet node))

    -- the figure encloses all that this does
    pub covered : (unit : ℕ) (node : Node) (f : Figure) → Encloses unit (due node).low (due node).high f → Encloses unit (figure node).low (figure node).high f
    covered unit node f h =
        let reach = covering.covers node in
        Encloses-wider unit (due node).low (figure node).low (due node).high (figure node).high f reach.low reach.high h

    number-equation : (node : Node) → IsNumber node → figure node ≡ node_rule factors sheet node (map figure (sources_of sheet node))
    number-equation node is =
        covering.whole node is ∙ numbers-alike node is (covering.discounts node) (own_discounts (own_of factors sheet node)) (map figure (sources_of sheet node))

    -- a whole number is the worked one
    pub number-is : (node : Node) → is_whole_number node ≡ true → figure node ≡ worked factors sheet node
    number-is node is = worked-only factors sheet valid IsNumber numbers-closed figure number-equation node is

    pub numbers-are : (list : List Node) → AllByRecursion IsNumber list → map figure list ≡ map (worked factors sheet) list
    numbers-are [] all = refl
    numbers-are (node ∷ list) all = ap₂ ◌∷◌ (number-is node all.0) (numbers-are list all.1)

    pub numbers-of : {Row : Type 0} (node_of : Row → Node) → ((row : Row) → is_whole_number (node_of row) ≡ true) → (rows : List Row)
        → map figure (map node_of rows) ≡ map (worked factors sheet) (map node_of rows)
    numbers-of node_of own rows = numbers-are (map node_of rows) (each-number node_of own rows)

    pub number-encloses : (unit : ℕ) (node : Node) (f : Figure) → is_whole_number node ≡ true
        → Encloses unit (worked factors sheet node).low (worked factors sheet node).high f → Encloses unit (figure node).low (figure node).high f
    number-encloses unit node f is h = subst (λ (e : Ends). Encloses unit e.low e.high f) (sym (number-is node is)) h

    -- of whole numbers, and of what the sheet itself tells, a rule gives the worked figure
    leaf-is : (node : Node) → is_leaf node ≡ true → due node ≡ worked factors sheet node
    leaf-is node is =
        let own = own_of factors sheet node in
        leaves-alike node is (covering.discounts node) (own_discounts own) (map figure (sources_of sheet node))
        ∙ ap (rule own (own_discounts own)) (numbers-are (sources_of sheet node) (leaves-closed node is)) ∙ sym (worked-equation factors sheet valid node)

    pub leaf-encloses : (unit : ℕ) (node : Node) (f : Figure) → is_leaf node ≡ true
        → Encloses unit (worked factors sheet node).low (worked factors sheet node).high f → Encloses unit (figure node).low (figure node).high f
    leaf-encloses unit node f is h = covered unit node f (subst (λ (e : Ends). Encloses unit e.low e.high f) (sym (leaf-is node is)) h)
