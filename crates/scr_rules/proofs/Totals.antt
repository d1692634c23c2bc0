-- The worked totals of funds and securities are what is held of them, and their rule fits.
use Rattle.std.proofs.Common.{◌≡◌, ℕ, ◌+◌, ◌≤◌, true, List, map, filter, pos, refl, ap, sym, subst, ◌∙◌, Some, is_some, arith}
use Rattle.std.specs.List.{AllByRecursion}
use Rattle.std.proofs.lemmas.List.Elements.{All-from_recursion}
use Rattle.scr_num.specs.Amounts.{IsAmount}
use Rattle.scr_num.proofs.AmountBounds.{amount-exact}
use Rattle.scr_num.specs.Rounding.{Ends, exact_ends}
use Rattle.scr_factors.specs.Values.{FactorValues}
use Rattle.scr_funds.proofs.Members.{each-from_members}
use Rattle.scr_tables.specs.Tables.{has_row}
use Rattle.scr_tables.proofs.TableRows.{All-map}
use Rattle.scr_sheet.specs.BalanceSheet.{stake_name, position_name, stake_of, held_of}
use Rattle.scr_sheet.specs.declared.sheet.BalanceSheet.{BalanceSheet}
use Rattle.scr_sheet.specs.Totals.{total_of}
use Rattle.scr_sheet.specs.Validity.{Valid}
use Rattle.scr_sheet.proofs.HeldNames.{held-of-security, held-of-fund}
use Rattle.scr_sheet.proofs.SeenThrough.{each-map, total-equation, fund-small, security-small}
use Rattle.scr_profile.specs.declared.limits.TheConstants.{MAX_HELD}
use Rattle.scr_nodes.specs.declared.node.Node.{Node}
use Rattle.scr_nodes.specs.declared.node.Node.TheVariants as nodes
use Rattle.scr_nodes.specs.declared.node.OfFund.TheVariants as of_funds
use Rattle.scr_nodes.specs.declared.node.OfSecurity.TheVariants as of_securities
use Rattle.scr_nodes.specs.Rows.{holds, share_in, security_held, fund_held}
use Rattle.scr_nodes.specs.Sources.{sources_of, fund_total, holder_totals}
use Rattle.scr_nodes.proofs.Chosen.{each-chosen}
use Rattle.scr_nodes.proofs.OwnRows.{own-funds}
use Rattle.scr_rules.specs.Fits.{FitsHeld}
use Rattle.scr_rules.specs.Rules.{parts_held}
use Rattle.scr_rules.specs.Worked.{node_rule, worked}
use Rattle.scr_rules.proofs.Equations.{worked-only}
use Rattle.scr_rules.proofs.ShareParts.{parts-held, shares-fit}

module _ (factors : FactorValues) (sheet : BalanceSheet) (valid : Valid sheet) where
  abbrev figure : Node → Ends
  figure node = worked factors sheet node

  -- what is held, as ends
  abbrev cents_of : List ℕ → Ends
  cents_of name = exact_ends (pos (total_of sheet name))

  found : Node → Ends
  found (nodes.Fund name of_funds.Total) = cents_of name
  found (nodes.Security name of_securities.Total) = cents_of name
  found node = exact_ends (pos 0)

  IsTotal : Node → Type 0
  IsTotal (nodes.Fund name of_funds.Total) = has_row stake_name name sheet.funds ≡ true
  IsTotal (nodes.Security name of_securities.Total) = has_row position_name name sheet.securities ≡ true
  IsTotal node = ⊥

  holders-are : (name : List ℕ) → AllByRecursion IsTotal (holder_totals name sheet)
  unfolding IsTotal
  holders-are name =
      each-chosen (λ s. stake_of (stake_name s) sheet.funds ≡ Some s) IsTotal (holds name) fund_total sheet.funds (own-funds sheet valid) (λ s own e. ap is_some own)

  closed : (node : Node) → IsTotal node → AllByRecursion IsTotal (sources_of sheet node)
  unfolding IsTotal
  closed (nodes.Fund name of_funds.Total) h = holders-are name
  closed (nodes.Security name of_securities.Total) h = holders-are name
  closed node h = absurd h

  -- the parts of all holders, where the figure of each is its total
  holders-parts : (name : List ℕ) (worth : Node → Ends) → AllByRecursion (λ s. worth (fund_total s) ≡ cents_of (stake_name s)) sheet.funds
      → held_of sheet name + parts_held (map (share_in name) (filter (holds name) sheet.funds)) (map worth (map fund_total (filter (holds name) sheet.funds)))
      ≡ total_of sheet name
  holders-parts name worth are =
      ap (λ n. held_of sheet name + n) (parts-held name worth (total_of sheet) sheet.funds valid.funds are) ∙ sym (total-equation sheet valid name)

  found-funds : AllByRecursion (λ s. found (fund_total s) ≡ cents_of (stake_name s)) sheet.funds
  unfolding found
  found-funds = each-from_members (λ s. found (fund_total s) ≡ cents_of (stake_name s)) sheet.funds (λ s m. refl)

  equation : (node : Node) → IsTotal node → found node ≡ node_rule factors sheet node (map found (sources_of sheet node))
  unfolding IsTotal found
  equation (nodes.Fund name of_funds.Total) h =
      ap (λ n. exact_ends (pos n)) (sym (ap (λ n. n + parts_held (map (share_in name) (filter (holds name) sheet.funds)) (map found (holder_totals name sheet))) (sym (held-of-fund sheet valid.named_once name h)) ∙ holders-parts name found found-funds))
  equation (nodes.Security name of_securities.Total) h =
      ap (λ n. exact_ends (pos n)) (sym (ap (λ n. n + parts_held (map (share_in name) (filter (holds name) sheet.funds)) (map found (holder_totals name sheet))) (sym (held-of-security sheet valid.named_once name h)) ∙ holders-parts name found found-funds))
  equation node h = absurd h

  pub fund-worked : (name : List ℕ) → has_row stake_name name sheet.funds ≡ true → figure (nodes.Fund name of_funds.Total) ≡ cents_of name
  unfolding IsTotal found
  fund-worked name has = sym (worked-only factors sheet valid IsTotal closed found equation (nodes.Fund name of_funds.Total) has)

  pub security-worked : (name : List ℕ) → has_row position_name name sheet.securities ≡ true → figure (nodes.Security name of_securities.Total) ≡ cents_of name
  unfolding IsTotal found
  security-worked name has = sym (worked-only factors sheet valid IsTotal closed found equation (nodes.Security name of_securities.Total) has)

  pub fund-amount : (name : List ℕ) → has_row stake_name name sheet.funds ≡ true → IsAmount MAX_HELD (figure (nodes.Fund name of_funds.Total))
  fund-amount name has = subst (IsAmount MAX_HELD) (sym (fund-worked name has)) (amount-exact MAX_HELD (total_of sheet name) (fund-small sheet valid name has))

  pub security-amount : (name : List ℕ) → has_row position_name name sheet.securities ≡ true → IsAmount MAX_HELD (figure (nodes.Security name of_securities.Total))
  security-amount name has = subst (IsAmount MAX_HELD) (sym (security-worked name has)) (amount-exact MAX_HELD (total_of sheet name) (security-small sheet valid name has))

  -- ---- the rule of a total fits
  worked-funds : AllByRecursion (λ s. figure (fund_total s) ≡ cents_of (stake_name s)) sheet.funds
  worked-funds =
      All-map (λ s. stake_of (stake_name s) sheet.funds ≡ Some s) (λ s. figure (fund_total s) ≡ cents_of (stake_name s)) sheet.funds
      (λ s own. fund-worked (stake_name s) (ap is_some own)) (own-funds sheet valid)

  fits : (name : List ℕ) (cents : ℕ) → held_of sheet name ≡ cents → total_of sheet name ≤ MAX_HELD
      → FitsHeld cents (map (share_in name) (filter (holds name) sheet.funds)) (map figure (holder_totals name sheet))
  fits name cents held small = record {
    by_weights = All-from_recursion _ _ (shares-fit name sheet.funds valid.funds);
    totals = All-from_recursion (IsAmount MAX_HELD) (map figure (holder_totals name sheet))
        (each-map (IsAmount MAX_HELD) figure (holder_totals name sheet)
        (each-chosen (λ s. stake_of (stake_name s) sheet.funds ≡ Some s) (λ n. IsAmount MAX_HELD (figure n)) (holds name) fund_total sheet.funds (own-funds sheet valid)
        (λ s own e. fund-amount (stake_name s) (ap is_some own))));
    all = omega (arith, small, held, holders-parts name figure worked-funds);
  }

  pub fund-fits : (name : List ℕ) → has_row stake_name name sheet.funds ≡ true
      → FitsHeld (fund_held name sheet) (map (share_in name) (filter (holds name) sheet.funds)) (map figure (holder_totals name sheet))
  fund-fits name has = fits name (fund_held name sheet) (held-of-fund sheet valid.named_once name has) (fund-small sheet valid name has)

  pub security-fits : (name : List ℕ) → has_row position_name name sheet.securities ≡ true
      → FitsHeld (security_held name sheet) (map (share_in name) (filter (holds name) sheet.funds)) (map figure (holder_totals name sheet))
  security-fits name has = fits name (security_held name sheet) (held-of-security sheet valid.named_once name has) (security-small sheet valid name has)
