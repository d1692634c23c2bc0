-- Figures that rest on no choice: those of funds, securities, liabilities and groups, and the assets of which concentrations are
-- measured.
use Rattle.std.proofs.Common.{◌≡◌, ◌||◌, ℕ, zero, suc, Bool, true, false, List, [], ◌∷◌, filter, map, slice_get, slice_index, Some, None, is_some, if◌then◌else◌, refl, sym, ap, ap₂, ◌∙◌}
use Rattle.std.specs.List.{AllByRecursion, list_any}
use Rattle.scr_num.specs.Rounding.{Ends, ends}
use Rattle.scr_factors.specs.Values.{FactorValues}
use Rattle.scr_tables.specs.Names.{same_name}
use Rattle.scr_tables.specs.Tables.{row_of, has_row}
use Rattle.scr_tables.proofs.TableRows.{same_name-itself}
use Rattle.scr_sheet.specs.BalanceSheet.{position_name, stake_name}
use Rattle.scr_sheet.specs.Totals.{total_of}
use Rattle.scr_sheet.specs.declared.rows.{Position.Position, Stake.Stake}
use Rattle.scr_sheet.specs.declared.sheet.BalanceSheet.{BalanceSheet}
use Rattle.scr_sheet.specs.Validity.{Valid}
use Rattle.scr_nodes.specs.declared.node.Node.{Node}
use Rattle.scr_nodes.specs.declared.node.Node.TheVariants as nodes
use Rattle.scr_nodes.specs.declared.node.OfFund.TheVariants as of_funds
use Rattle.scr_nodes.specs.declared.node.OfGroup.TheVariants as of_groups
use Rattle.scr_nodes.specs.declared.node.OfLiability.TheVariants as of_liabilities
use Rattle.scr_nodes.specs.declared.node.OfSecurity.TheVariants as of_securities
use Rattle.scr_nodes.specs.declared.node.Whole.TheVariants as wholes
use Rattle.scr_nodes.specs.Rows.{has_group, holders, is_of_group}
use Rattle.scr_nodes.specs.Sources.{sources_of, fund_total, security_total}
use Rattle.scr_nodes.proofs.Reckoning.{reckoned-only}
use Rattle.scr_rules.specs.Close.{close_under, is_open_choice}
use Rattle.scr_rules.specs.Worked.{worked}
use Rattle.scr_rules.proofs.Totals.{fund-worked, security-worked}
use Rattle.scr_tree.specs.Figures.{total_worth, worth_at, worth_of}
use Rattle.scr_partial_sums.specs.declared.figure.Figure.{Figure}

-- ---- no choice lies under them

abbrev pub is_plain : Node → Bool
is_plain (nodes.Fund name what) = true
is_plain (nodes.Security name what) = true
is_plain (nodes.Liability name what) = true
is_plain (nodes.Group name what) = true
is_plain (nodes.Whole wholes.Assets) = true
is_plain node = false

abbrev IsPlain : Node → Type 0
IsPlain node = is_plain node ≡ true

funds-are : (stakes : List Stake) → AllByRecursion IsPlain (map fund_total stakes)
funds-are [] = tt
funds-are (s ∷ stakes) = (refl, funds-are stakes)

securities-are : (positions : List Position) → AllByRecursion IsPlain (map security_total positions)
securities-are [] = tt
securities-are (p ∷ positions) = (refl, securities-are positions)

none-open : (ns : List Node) → list_any (λ b. b) (map (λ n. false) ns) ≡ false
none-open [] = refl
none-open (n ∷ ns) = none-open ns

sources-are : (sheet : BalanceSheet) (node : Node) → IsPlain node → AllByRecursion IsPlain (sources_of sheet node)
sources-are sheet (nodes.Fund name of_funds.Total) h = funds-are (holders name sheet)
sources-are sheet (nodes.Security name of_securities.Total) h = funds-are (holders name sheet)
sources-are sheet (nodes.Security name (of_securities.UnitLoss direction)) h = tt
sources-are sheet (nodes.Security name (of_securities.Rate direction)) h = (refl, (refl, tt))
sources-are sheet (nodes.Security name of_securities.Spread) h = (refl, tt)
sources-are sheet (nodes.Liability name (of_liabilities.Rate direction)) h = tt
sources-are sheet (nodes.Liability name of_liabilities.Present) h = tt
sources-are sheet (nodes.Liability name (of_liabilities.Loss projection)) h = tt
sources-are sheet (nodes.Group name of_groups.Loss) h = tt
sources-are sheet (nodes.Group name of_groups.Total) h = securities-are (filter (is_of_group name) sheet.securities)
sources-are sheet (nodes.Group name of_groups.ConcentrationSquare) h = (refl, (refl, tt))
sources-are sheet (nodes.Whole wholes.Assets) h = securities-are (filter has_group sheet.securities)
sources-are sheet node h = absurd (cc)

closed-step : (factors : FactorValues) (sheet : BalanceSheet) (node : Node) → IsPlain node
    → false ≡ (is_open_choice factors sheet node || list_any (λ b. b) (map (λ n. false) (sources_of sheet node)))
closed-step factors sheet (nodes.Fund name what) h = sym (none-open (sources_of sheet (nodes.Fund name what)))
closed-step factors sheet (nodes.Security name what) h = sym (none-open (sources_of sheet (nodes.Security name what)))
closed-step factors sheet (nodes.Liability name what) h = sym (none-open (sources_of sheet (nodes.Liability name what)))
closed-step factors sheet (nodes.Group name what) h = sym (none-open (sources_of sheet (nodes.Group name what)))
closed-step factors sheet (nodes.Whole wholes.Assets) h = sym (none-open (sources_of sheet (nodes.Whole wholes.Assets)))
closed-step factors sheet node h = absurd (cc)

pub never-close : (factors : FactorValues) (sheet : BalanceSheet) → Valid sheet → (node : Node) → IsPlain node
    → close_under factors sheet node ≡ false
unfolding close_under
never-close factors sheet valid node plain =
    sym (reckoned-only false (λ n below. is_open_choice factors sheet n || list_any (λ b. b) below) sheet valid IsPlain
    (sources-are sheet) (λ n. false) (closed-step factors sheet) node plain)

-- ---- what a figure of a row is worth

module _ (factors : FactorValues) (sheet : BalanceSheet) (valid : Valid sheet) where
  pub plain-worth : (node : Node) (figure : Figure) → is_plain node ≡ true → ends figure.span ≡ worked factors sheet node
      → figure.close ≡ false → worth_of figure ≡ worth_at factors sheet node
  plain-worth node figure plain is close =
      ap₂ (λ (e : Ends) (b : Bool). record { worked = e; close = b }) is
      (close ∙ sym (never-close factors sheet valid node plain))

-- ---- totals

own-row : {Row : Type 0} (name_of : Row → List ℕ) (rows : List Row) (k : ℕ) (row : Row) → slice_get rows k ≡ Some row
    → has_row name_of (name_of row) rows ≡ true
own-row name_of [] k row is = absurd (let clash : None ≡ Some row = is in cc)
own-row name_of (r ∷ rows) zero row is =
    let same : r ≡ row = cc in rw (sym same) (rw (same_name-itself (name_of r)) refl)
own-row name_of (r ∷ rows) (suc k) row is = later (same_name (name_of row) (name_of r)) (own-row name_of rows k row is)
  where
    later : (b : Bool) → has_row name_of (name_of row) rows ≡ true
        → is_some (if b then Some r else row_of name_of (name_of row) rows) ≡ true
    later true h = refl
    later false h = h

-- the number at the place of a row
value-at : {Row : Type 0} (f : Row → ℕ) (rows : List Row) (k : ℕ) (row : Row) (values : List ℕ)
    → values ≡ map f rows → slice_get rows k ≡ Some row
    → slice_index values k ≡ f row
value-at f [] k row values is at = absurd (let clash : None ≡ Some row = at in cc)
value-at f (r ∷ rows) zero row values is at = let same : r ≡ row = cc in ap (λ vs. slice_index vs 0) is ∙ ap f same
value-at f (r ∷ rows) (suc k) row [] is at = absurd (cc)
value-at f (r ∷ rows) (suc k) row (v ∷ values) is at = let rest : values ≡ map f rows = cc in value-at f rows k row
    values rest at

module _ (factors : FactorValues) (sheet : BalanceSheet) (valid : Valid sheet) where
  -- a total by its place is worth what its node is
  pub fund-placed : (totals : List ℕ) → totals ≡ map (λ s. total_of sheet (stake_name s)) sheet.funds
      → (k : ℕ) (s : Stake) → slice_get sheet.funds k ≡ Some s
      → total_worth (slice_index totals k) ≡ worth_at factors sheet (fund_total s)
  fund-placed totals are k s at =
      ap total_worth (value-at (λ s. total_of sheet (stake_name s)) sheet.funds k s totals are at)
      ∙ ap₂ (λ (e : Ends) (b : Bool). record { worked = e; close = b })
      (sym (fund-worked factors sheet valid s.fund.name (own-row stake_name sheet.funds k s at)))
      (sym (never-close factors sheet valid (fund_total s) refl))

  pub security-placed : (totals : List ℕ) → totals ≡ map (λ p. total_of sheet (position_name p)) sheet.securities
      → (k : ℕ) (p : Position) → slice_get sheet.securities k ≡ Some p
      → total_worth (slice_index totals k) ≡ worth_at factors sheet (security_total p)
  security-placed totals are k p at =
      ap total_worth (value-at (λ p. total_of sheet (position_name p)) sheet.securities k p totals are at)
      ∙ ap₂ (λ (e : Ends) (b : Bool). record { worked = e; close = b })
      (sym (security-worked factors sheet valid p.security.name (own-row position_name sheet.securities k p at)))
      (sym (never-close factors sheet valid (security_total p) refl))
