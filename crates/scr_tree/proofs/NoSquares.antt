-- No figure whose sources are linked is reckoned from the square of a group.
use Rattle.std.proofs.Common.{◌≡◌, inl, inr, ℕ, Bool, true, false, ◌||◌, List, [], ◌∷◌, map, filter, refl, sym, ap, ◌∙◌}
use Rattle.std.specs.List.{list_any}
use Rattle.scr_funds.proofs.Members.{IsMember, IsMember-map}
use Rattle.scr_profile.specs.declared.set.Set.TheVariants as sets
use Rattle.scr_sheet.specs.declared.sheet.BalanceSheet.{BalanceSheet}
use Rattle.scr_nodes.specs.Rows.{holders, is_foreign, is_of_default_class}
use Rattle.scr_nodes.specs.Sources.{currency_loss, currency_picked, fund_total, group_loss, sources_of}
use Rattle.scr_nodes.specs.declared.node.Adjustment.TheVariants as adjustments
use Rattle.scr_nodes.specs.declared.node.Alternatives.TheVariants as alternatives
use Rattle.scr_nodes.specs.declared.node.Equities.TheVariants as equities
use Rattle.scr_nodes.specs.declared.node.Measure.TheVariants.{Gross}
use Rattle.scr_nodes.specs.declared.node.Node.{Node}
use Rattle.scr_nodes.specs.declared.node.Node.TheVariants as nodes
use Rattle.scr_nodes.specs.declared.node.OfCurrency.TheVariants as of_currencies
use Rattle.scr_nodes.specs.declared.node.OfFund.TheVariants as of_funds
use Rattle.scr_nodes.specs.declared.node.OfGroup.TheVariants as of_groups
use Rattle.scr_nodes.specs.declared.node.OfSecurity.TheVariants as of_securities
use Rattle.scr_nodes.specs.declared.node.Operational.TheVariants as operations
use Rattle.scr_nodes.specs.declared.node.Risk.TheVariants as risks
use Rattle.scr_nodes.specs.declared.node.Whole.TheVariants as wholes
use Rattle.scr_tree.specs.Points.{is_linked}

abbrev is_square : Node → Bool
is_square (nodes.Group name of_groups.ConcentrationSquare) = true
is_square node = false

tested : (list : List Node) → list_any is_square list ≡ false → (name : List ℕ) → IsMember (nodes.Group name of_groups.ConcentrationSquare) list → ⊥
tested [] none name h = absurd h
tested (node ∷ list) none name (inl e) =
    let one : is_square node ≡ true = ap is_square (sym e) in
    let clash : true ≡ false = sym (ap (λ t. t || list_any is_square list) one) ∙ none in
    absurd (cc)
tested (node ∷ list) none name (inr h) = by (is_square node) refl (λ rest. tested list rest name h)
  where
    by : (t : Bool) → is_square node ≡ t → (list_any is_square list ≡ false → ⊥) → ⊥
    by true e later = let clash : true ≡ false = sym (ap (λ t. t || list_any is_square list) e) ∙ none in absurd (cc)
    by false e later = later (sym (ap (λ t. t || list_any is_square list) e) ∙ none)

mapped : {Row : Type 0} (figure : Row → Node) → ((row : Row) → is_square (figure row) ≡ false) → (rows : List Row) (name : List ℕ)
    → IsMember (nodes.Group name of_groups.ConcentrationSquare) (map figure rows) → ⊥
mapped figure none rows name h =
    let m = IsMember-map figure rows (nodes.Group name of_groups.ConcentrationSquare) h in
    let clash : false ≡ true = sym (none m.0) ∙ ap is_square m.2 in
    absurd (cc)

module _ (sheet : BalanceSheet) (name : List ℕ) where
  abbrev Square : Node
  Square = nodes.Group name of_groups.ConcentrationSquare

  tell : (node : Node) → list_any is_square (sources_of sheet node) ≡ false → IsMember Square (sources_of sheet node) → ⊥
  tell node none h = tested (sources_of sheet node) none name h

  pub square-apart : (node : Node) → is_linked node ≡ true → IsMember Square (sources_of sheet node) → ⊥
  square-apart (nodes.Fund of of_funds.Total) linked h = mapped fund_total (λ row. refl) (holders of sheet) name h
  square-apart (nodes.Security of of_securities.Total) linked h = mapped fund_total (λ row. refl) (holders of sheet) name h
  square-apart (nodes.Security of what) linked h = absurd (cc)
  square-apart (nodes.Liability of what) linked h = absurd (cc)
  square-apart (nodes.Group of what) linked h = absurd (cc)
  square-apart (nodes.Currency currency (of_currencies.Loss direction)) linked h = absurd (cc)
  square-apart (nodes.Currency currency (of_currencies.Scenario direction Gross)) linked h = absurd (cc)
  square-apart (nodes.Whole (wholes.ClassSum class)) linked h = absurd (cc)
  square-apart (nodes.Whole wholes.Spread) linked h = absurd (cc)
  square-apart (nodes.Whole wholes.Assets) linked h = absurd (cc)
  square-apart (nodes.Whole wholes.Concentration) linked h = absurd (cc)
  square-apart (nodes.Whole (wholes.BioScenario biometric projection Gross)) linked h = absurd (cc)
  square-apart (nodes.Whole (wholes.InterestScenario direction Gross)) linked h = mapped (currency_loss direction) (λ row. refl) sheet.curves name h
  square-apart (nodes.Whole (wholes.Currency measure)) linked h =
      mapped (currency_picked measure) (λ row. refl) (filter (is_foreign sheet) sheet.curves) name h
  square-apart (nodes.Whole (wholes.ClassLoss class)) linked h = mapped group_loss (λ row. refl) (filter (is_of_default_class class) sheet.groups) name h
  square-apart (nodes.Whole (wholes.ClassSquare class)) linked h = mapped group_loss (λ row. refl) (filter (is_of_default_class class) sheet.groups) name h
  square-apart (nodes.Whole (wholes.Choice alternatives.Interest)) linked h = tell (nodes.Whole (wholes.Choice alternatives.Interest)) refl h
  square-apart (nodes.Whole (wholes.Choice alternatives.LifeLapse)) linked h = tell (nodes.Whole (wholes.Choice alternatives.LifeLapse)) refl h
  square-apart (nodes.Whole (wholes.Choice alternatives.HealthLapse)) linked h = tell (nodes.Whole (wholes.Choice alternatives.HealthLapse)) refl h
  square-apart (nodes.Whole (wholes.Picked alternatives.Interest measure)) linked h = tell (nodes.Whole (wholes.Picked alternatives.Interest measure)) refl h
  square-apart (nodes.Whole (wholes.Picked alternatives.LifeLapse measure)) linked h = tell (nodes.Whole (wholes.Picked alternatives.LifeLapse measure)) refl h
  square-apart (nodes.Whole (wholes.Picked alternatives.HealthLapse measure)) linked h = tell (nodes.Whole (wholes.Picked alternatives.HealthLapse measure)) refl h
  square-apart (nodes.Whole (wholes.EquityPart equities.Type1)) linked h = tell (nodes.Whole (wholes.EquityPart equities.Type1)) refl h
  square-apart (nodes.Whole (wholes.EquityPart equities.Type2)) linked h = tell (nodes.Whole (wholes.EquityPart equities.Type2)) refl h
  square-apart (nodes.Whole (wholes.NetPart risks.Equity)) linked h = tell (nodes.Whole (wholes.NetPart risks.Equity)) refl h
  square-apart (nodes.Whole (wholes.NetPart risks.Property)) linked h = tell (nodes.Whole (wholes.NetPart risks.Property)) refl h
  square-apart (nodes.Whole (wholes.Market Gross)) linked h = tell (nodes.Whole (wholes.Market Gross)) refl h
  square-apart (nodes.Whole (wholes.Health Gross)) linked h = tell (nodes.Whole (wholes.Health Gross)) refl h
  square-apart (nodes.Whole (wholes.Bscr Gross)) linked h = tell (nodes.Whole (wholes.Bscr Gross)) refl h
  square-apart (nodes.Whole (wholes.PremiumReserve sets.Nl)) linked h = tell (nodes.Whole (wholes.PremiumReserve sets.Nl)) refl h
  square-apart (nodes.Whole (wholes.OpPart operations.Premiums)) linked h = tell (nodes.Whole (wholes.OpPart operations.Premiums)) refl h
  square-apart (nodes.Whole (wholes.OpPart operations.Provisions)) linked h = tell (nodes.Whole (wholes.OpPart operations.Provisions)) refl h
  square-apart (nodes.Whole (wholes.OpPart operations.Cap)) linked h = tell (nodes.Whole (wholes.OpPart operations.Cap)) refl h
  square-apart (nodes.Whole (wholes.Adjust adjustments.TechnicalProvisions)) linked h = tell (nodes.Whole (wholes.Adjust adjustments.TechnicalProvisions)) refl h
  square-apart node linked h = tell node refl h
