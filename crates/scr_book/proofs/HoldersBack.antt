-- How the graph of the funds moves back.
use Rattle.std.proofs.Common.{◌≡◌, ℕ, zero, suc, Bool, true, false, cond, List, [], ◌∷◌, map, insert, Option, Some, None, sym, ap, subst, ◌∙◌}
use Rattle.std.specs.List.{IsDistinct}
use Rattle.std.specs.Option.{option_map_or}
use Rattle.scr_funds.specs.Chains.{LeadsTo}
use Rattle.scr_fund_graph.specs.Graph.{Graph, components_under, components_after}
use Rattle.scr_tables.specs.Names.{same_name}
use Rattle.scr_tables.specs.Pasts.{restored, HasPlace}
use Rattle.scr_tables.specs.Tables.{row_of, has_row, with_row}
use Rattle.scr_tables.specs.declared.past.Past.{Past}
use Rattle.scr_tables.specs.declared.past.Past.TheVariants as pasts
use Rattle.scr_tables.proofs.TableRows.{same_or_other, same_name-is, same_name-itself, row_of-here, row_of-later, row_of-with_row_own, row_of-with_row_other}
use Rattle.scr_sheet.specs.BalanceSheet.{stake_name, components_of}
use Rattle.scr_sheet.specs.Earlier.{with_earlier, FitsIn}
use Rattle.scr_sheet.specs.Validity.{Valid}
use Rattle.scr_sheet.specs.declared.earlier.Earlier.TheVariants as earlier
use Rattle.scr_sheet.specs.declared.rows.Stake.{Stake}
use Rattle.scr_sheet.specs.declared.sheet.BalanceSheet.{BalanceSheet}
use Rattle.scr_sheet.proofs.Holds.{distinct-funds}
use Rattle.scr_book.specs.Holders.{IsGraphOf}
use Rattle.scr_book.specs.Pasts.{name_in, components_in}
use Rattle.scr_book.proofs.Holders.{cleared_is}

module _ {Row : Type 0} (name_of : Row → List ℕ) where
  -- a row that stands at a place is found by its name, and every other as before
  found-own : (row : Row) (rows : List Row) (k : ℕ) → has_row name_of (name_of row) rows ≡ false → row_of name_of (name_of row) (insert rows k row) ≡ Some row
  found-own row [] zero new = row_of-here name_of (name_of row) row [] (same_name-itself (name_of row))
  found-own row [] (suc k) new = row_of-here name_of (name_of row) row [] (same_name-itself (name_of row))
  found-own row (first ∷ rows) zero new = row_of-here name_of (name_of row) row (first ∷ rows) (same_name-itself (name_of row))
  found-own row (first ∷ rows) (suc k) new =
      same_or_other (name_of row) (name_of first)
      (λ e. let there : true ≡ false = sym (ap (λ (o : Option Row). has o) (row_of-here name_of (name_of row) first rows e)) ∙ new in absurd (cc))
      (λ e. row_of-later name_of (name_of row) first (insert rows k row) e ∙ found-own row rows k (sym (ap (λ (o : Option Row). has o) (row_of-later name_of (name_of row) first rows e)) ∙ new))
    where
      has : Option Row → Bool
      has None = false
      has (Some r) = true

  found-other : (name : List ℕ) (row : Row) (rows : List Row) (k : ℕ) → same_name name (name_of row) ≡ false → row_of name_of name (insert rows k row) ≡ row_of name_of name rows
  found-other name row [] zero other = row_of-later name_of name row [] other
  found-other name row [] (suc k) other = row_of-later name_of name row [] other
  found-other name row (first ∷ rows) zero other = row_of-later name_of name row (first ∷ rows) other
  found-other name row (first ∷ rows) (suc k) other =
      same_or_other name (name_of first)
      (λ e. row_of-here name_of name first (insert rows k row) e ∙ sym (row_of-here name_of name first rows e))
      (λ e. row_of-later name_of name first (insert rows k row) e ∙ found-other name row rows k other ∙ sym (row_of-later name_of name first rows e))

-- the names of a fund's components
abbrev names_in : Stake → List (List ℕ)
names_in stake = map (λ c. c.0) stake.fund.components

abbrev found : Option Stake → List (List ℕ)
found o = option_map_or names_in o []

-- the components of the fund that comes back stand in the place of its own
restored_is : (past : Past Stake) (funds : List Stake) (under : List ℕ → List (List ℕ)) → under ≡ components_of funds → IsDistinct same_name (map stake_name funds) → HasPlace stake_name past funds
    → (λ (x : List ℕ). cond (same_name x (name_in stake_name past)) (map (λ c. c.0) (components_in past)) (under x)) ≡ components_of (restored stake_name past funds)
restored_is (pasts.New name) funds under is apart place = cleared_is funds under is name apart
restored_is (pasts.Replaced row) funds under is apart place = λ i x. at x i
  where
    at : (x : List ℕ) → cond (same_name x row.fund.name) (names_in row) (under x) ≡ components_of (with_row stake_name row funds) x
    at x =
        same_or_other x row.fund.name
        (λ e. ap (λ b. cond b (names_in row) (under x)) e
        ∙ sym (ap (components_of (with_row stake_name row funds)) (same_name-is x row.fund.name e) ∙ ap found (row_of-with_row_own stake_name row funds)))
        (λ e. ap (λ b. cond b (names_in row) (under x)) e ∙ (λ i. is i x) ∙ sym (ap found (row_of-with_row_other stake_name x row funds e)))
restored_is (pasts.Dropped k row room) funds under is apart place = λ i x. at x i
  where
    at : (x : List ℕ) → cond (same_name x row.fund.name) (names_in row) (under x) ≡ components_of (insert funds k row) x
    at x =
        same_or_other x row.fund.name
        (λ e. ap (λ b. cond b (names_in row) (under x)) e
        ∙ sym (ap (components_of (insert funds k row)) (same_name-is x row.fund.name e) ∙ ap found (found-own stake_name row funds k place.1)))
        (λ e. ap (λ b. cond b (names_in row) (under x)) e ∙ (λ i. is i x) ∙ sym (ap found (found-other stake_name x row funds k e)))

module _ (sheet : BalanceSheet) (graph : Graph) (is : IsGraphOf sheet graph) where
  module _ (past : Past Stake) (fits : FitsIn (earlier.Funds past) sheet) (valid : Valid sheet) where
    after : components_after (name_in stake_name past) (components_in past) graph ≡ components_of (restored stake_name past sheet.funds)
    after = restored_is past sheet.funds (components_under graph) is.components (distinct-funds sheet valid.named_once) fits

    -- no fund leads to itself then
    pub apart-back : Valid (with_earlier (earlier.Funds past) sheet) → ¬ LeadsTo (components_after (name_in stake_name past) (components_in past) graph) (name_in stake_name past) (name_in stake_name past)
    apart-back back = subst (λ f. ¬ LeadsTo f (name_in stake_name past) (name_in stake_name past)) (sym after) (back.acyclic (name_in stake_name past))

    pub graph-fund_back : (now : Graph) → components_under now ≡ components_after (name_in stake_name past) (components_in past) graph → IsGraphOf (with_earlier (earlier.Funds past) sheet) now
    graph-fund_back now under = record { components = under ∙ after }
