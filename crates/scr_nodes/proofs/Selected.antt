-- The table of sources tells the sources.
use Rattle.std.proofs.Common.{◌≡◌, true, nat_le, ◌≤◌, List, [], ◌∷◌, ◌++◌, map, filter, length, refl, sym, ap, ◌∙◌, append_assoc}
use Rattle.std.proofs.lemmas.Bool.{leb-true}
use Rattle.std.proofs.lemmas.List.{append-nil}
use Rattle.scr_profile.specs.declared.set.Set.TheVariants as sets
use Rattle.scr_sheet.specs.declared.sheet.BalanceSheet.{BalanceSheet}
use Rattle.scr_sheet.specs.declared.rows.Class.TheVariants as classes
use Rattle.scr_nodes.specs.declared.{node.Node.Node, node.OfCurrency.OfCurrency, node.OfGroup.OfGroup, node.OfLiability.OfLiability}
use Rattle.scr_nodes.specs.declared.node.Adjustment.TheVariants as adjustments
use Rattle.scr_nodes.specs.declared.node.Alternatives.TheVariants as alternatives
use Rattle.scr_nodes.specs.declared.node.Equities.TheVariants as equities
use Rattle.scr_nodes.specs.declared.node.Measure.TheVariants.{Gross}
use Rattle.scr_nodes.specs.declared.node.Node.TheVariants as nodes
use Rattle.scr_nodes.specs.declared.node.OfCurrency.TheVariants as of_currencies
use Rattle.scr_nodes.specs.declared.node.OfFund.TheVariants as of_funds
use Rattle.scr_nodes.specs.declared.node.OfGroup.TheVariants as of_groups
use Rattle.scr_nodes.specs.declared.node.OfLiability.TheVariants as of_liabilities
use Rattle.scr_nodes.specs.declared.node.OfSecurity.TheVariants as of_securities
use Rattle.scr_nodes.specs.declared.node.Operational.TheVariants as operations
use Rattle.scr_nodes.specs.declared.node.Whole.TheVariants as wholes
use Rattle.scr_nodes.specs.declared.{selections.Counterparties.Counterparties, selections.Currencies.Currencies, selections.Obligations.Obligations}
use Rattle.scr_nodes.specs.declared.selections.Counterparties.TheVariants as counterparties
use Rattle.scr_nodes.specs.declared.selections.Currencies.TheVariants as currencies
use Rattle.scr_nodes.specs.declared.selections.Obligations.TheVariants as obligations
use Rattle.scr_nodes.specs.declared.selections.Selection.{Selection}
use Rattle.scr_nodes.specs.declared.selections.Selection.TheVariants as selections
use Rattle.scr_nodes.specs.Selections.{currency_figure, group_figure, is_counterparty, is_currency, is_obligation, liability_figure, selected}
use Rattle.scr_nodes.specs.Sources.{sources_of, words_of}
use Rattle.scr_nodes.specs.Table.{first_of, second_of}

-- ---- all rows of a table

filter-all : {Row : Type 0} (rows : List Row) → filter (λ row. true) rows ≡ rows
filter-all [] = refl
filter-all (row ∷ rows) = ap (λ rest. row ∷ rest) (filter-all rows)

module _ (sheet : BalanceSheet) where
  pub selected-liabilities : (which : Obligations) (what : OfLiability)
      → map (liability_figure what) (filter (is_obligation which) sheet.liabilities)
      ≡ selected sheet (selections.Liabilities which what)
  selected-liabilities obligations.All what = ap (map (liability_figure what)) (filter-all sheet.liabilities)
  selected-liabilities which what = refl

  pub selected-currencies : (which : Currencies) (what : OfCurrency)
      → map (currency_figure what) (filter (is_currency sheet which) sheet.curves)
      ≡ selected sheet (selections.Currencies which what)
  selected-currencies currencies.All what = ap (map (currency_figure what)) (filter-all sheet.curves)
  selected-currencies which what = refl

  pub selected-groups : (which : Counterparties) (what : OfGroup)
      → map (group_figure what) (filter (is_counterparty which) sheet.groups)
      ≡ selected sheet (selections.Groups which what)
  selected-groups counterparties.All what = ap (map (group_figure what)) (filter-all sheet.groups)
  selected-groups which what = refl

  -- ---- what is read off tables, and words

  abbrev pub read : Node → List Node
  read node = selected sheet (first_of node) ++ (selected sheet (second_of node) ++ words_of node)

  one : (node : Node) → sources_of sheet node ≡ selected sheet (first_of node)
      → selected sheet (second_of node) ++ words_of node ≡ [] → sources_of sheet node ≡ read node
  one node first none =
      first ∙ sym (append-nil (selected sheet (first_of node)))
      ∙ ap (λ rest. selected sheet (first_of node) ++ rest) (sym none)

  two : (front back : List Node) → front ++ back ≡ front ++ (back ++ [])
  two front back = ap (λ rest. front ++ rest) (sym (append-nil back))

  pub sources-selected : (node : Node) → sources_of sheet node ≡ read node
  sources-selected (nodes.Fund name of_funds.Total) = one (nodes.Fund name of_funds.Total) refl refl
  sources-selected (nodes.Security name of_securities.Total) = one (nodes.Security name of_securities.Total) refl refl
  sources-selected (nodes.Liability name of_liabilities.Present) = refl
  sources-selected (nodes.Currency currency (of_currencies.Loss direction)) =
      two (selected sheet (first_of (nodes.Currency currency (of_currencies.Loss direction))))
      (selected sheet (second_of (nodes.Currency currency (of_currencies.Loss direction))))
  sources-selected (nodes.Currency currency (of_currencies.Scenario direction Gross)) =
      two (selected sheet (first_of (nodes.Currency currency (of_currencies.Scenario direction Gross))))
      (selected sheet (second_of (nodes.Currency currency (of_currencies.Scenario direction Gross))))
  sources-selected (nodes.Group name of_groups.Total) = one (nodes.Group name of_groups.Total) refl refl
  sources-selected (nodes.Whole (wholes.InterestScenario direction Gross)) =
      one (nodes.Whole (wholes.InterestScenario direction Gross)) refl refl
  sources-selected (nodes.Whole (wholes.Currency measure)) = one (nodes.Whole (wholes.Currency measure)) refl refl
  sources-selected (nodes.Whole (wholes.ClassSum classes.Type2Equity)) =
      two (selected sheet (first_of (nodes.Whole (wholes.ClassSum classes.Type2Equity))))
      (selected sheet (second_of (nodes.Whole (wholes.ClassSum classes.Type2Equity))))
  sources-selected (nodes.Whole (wholes.ClassSum class)) = refl
  sources-selected (nodes.Whole wholes.Spread) = one (nodes.Whole wholes.Spread) refl refl
  sources-selected (nodes.Whole wholes.Assets) = one (nodes.Whole wholes.Assets) refl refl
  sources-selected (nodes.Whole wholes.Concentration) = one (nodes.Whole wholes.Concentration) refl refl
  sources-selected (nodes.Whole (wholes.ClassLoss class)) = one (nodes.Whole (wholes.ClassLoss class)) refl refl
  sources-selected (nodes.Whole (wholes.ClassSquare class)) = one (nodes.Whole (wholes.ClassSquare class)) refl refl
  sources-selected (nodes.Whole (wholes.BioScenario biometric projection Gross)) =
      one (nodes.Whole (wholes.BioScenario biometric projection Gross)) refl refl
  sources-selected node = refl

  -- what is read is pushed piece by piece
  pub sources-pushed : (node : Node) (start front middle all : List Node) (first second : Selection) → start ≡ []
      → first ≡ first_of node → second ≡ second_of node → front ≡ start ++ selected sheet first
      → middle ≡ front ++ selected sheet second → all ≡ middle ++ words_of node → all ≡ sources_of sheet node
  sources-pushed node start front middle all first second none is-first is-second one two three =
      three
      ∙ ap (λ xs. xs ++ words_of node) (two ∙ ap (λ xs. xs ++ selected sheet second) (one ∙ ap (λ xs. xs
      ++ selected sheet first) none))
      ∙ append_assoc (selected sheet first) (selected sheet second) (words_of node)
      ∙ ap (λ s. selected sheet s ++ (selected sheet second ++ words_of node)) is-first
      ∙ ap (λ s. selected sheet (first_of node) ++ (selected sheet s ++ words_of node)) is-second
      ∙ sym (sources-selected node)

-- ---- how many words

few : (node : Node) → nat_le (length (words_of node)) 12 ≡ true
few (nodes.Fund name of_funds.Total) = refl
few (nodes.Security name of_securities.Spread) = refl
few (nodes.Liability name of_liabilities.Present) = refl
few (nodes.Currency currency (of_currencies.Scenario direction Gross)) = refl
few (nodes.Group name of_groups.Total) = refl
few (nodes.Whole (wholes.InterestScenario direction Gross)) = refl
few (nodes.Whole (wholes.BioScenario biometric projection Gross)) = refl
few (nodes.Whole (wholes.Choice alternatives.Interest)) = refl
few (nodes.Whole (wholes.Picked alternatives.Interest measure)) = refl
few (nodes.Whole (wholes.EquityPart equities.Type1)) = refl
few (nodes.Whole (wholes.PremiumReserve sets.Nl)) = refl
few (nodes.Whole (wholes.OpPart operations.Premiums)) = refl
few (nodes.Whole (wholes.Adjust adjustments.TechnicalProvisions)) = refl
few node = refl

pub few-words : (node : Node) → length (words_of node) ≤ 12
few-words node = leb-true (length (words_of node)) 12 (few node)
