-- The greatest of a measure over the rows of a table, and the greatest number of years to a payment, after a row changes.
use Rattle.std.proofs.Common.{◌≡◌, ℕ, ℤ, ◌≤◌, inl, inr, List, [], ◌∷◌, Option, Some, sym, subst, arith}
use Rattle.std.specs.List.{AllByRecursion}
use Rattle.std.specs.Option.{option_map_or}
use Rattle.scr_dates.specs.declared.day.Day.{Day}
use Rattle.scr_tables.specs.Tables.{row_of, with_row, without, changed}
use Rattle.scr_sheet.specs.CashFlows.{greatest_years, flows_under, with_flows, all_projections}
use Rattle.scr_sheet.specs.BalanceSheet.{greatest, liability_years}
use Rattle.scr_sheet.specs.declared.{keys.Projection.Projection, rows.Liability.Liability}
use Rattle.scr_tables.proofs.TableRows.{All-map, All-with_row, All-without, All-row_of, All-changed}
use Rattle.scr_sheet.proofs.Projections.{each_projection, every_projection, one_or_other, under-with}

module _ {Row : Type 0} (f : Row → ℕ) where
  -- it is no more than what no row is more than
  pub greatest-le : (most : ℕ) (rows : List Row) → AllByRecursion (λ row. f row ≤ most) rows → greatest f rows ≤ most
  greatest-le most [] all = omega arith
  greatest-le most (row ∷ rows) all = let here = all.0 in let rest = greatest-le most rows all.1 in omega arith

  -- and no row is more
  pub le-greatest : (rows : List Row) → AllByRecursion (λ row. f row ≤ greatest f rows) rows
  le-greatest [] = tt
  le-greatest (row ∷ rows) = (omega arith, All-map _ _ rows (λ other h. omega arith) (le-greatest rows))

  -- so each row is within a bound of the greatest
  pub each-le : (most : ℕ) (rows : List Row) → greatest f rows ≤ most → AllByRecursion (λ row. f row ≤ most) rows
  each-le most rows h = All-map _ _ rows (λ row below. omega arith) (le-greatest rows)

  module _ (name_of : Row → List ℕ) where
    -- ---- a row put in, found, taken out or changed

    pub greatest-with_row-le : (most : ℕ) (new : Row) (rows : List Row) → f new ≤ most → greatest f rows ≤ most → greatest f (with_row name_of new rows) ≤ most
    greatest-with_row-le most new rows own h = greatest-le most (with_row name_of new rows) (All-with_row name_of (λ row. f row ≤ most) new rows own (each-le most rows h))

    pub le-greatest-with_row : (new : Row) (rows : List Row) → f new ≤ greatest f (with_row name_of new rows)
    le-greatest-with_row new [] = omega arith
    le-greatest-with_row new (row ∷ rows) = let rest = le-greatest-with_row new rows in grind (arith, rest)

    pub row_of-le-greatest : (name : List ℕ) (rows : List Row) (row : Row) → row_of name_of name rows ≡ Some row → f row ≤ greatest f rows
    row_of-le-greatest name rows row is = All-row_of name_of (λ r. f r ≤ greatest f rows) name rows row is (le-greatest rows)

    pub greatest-without-le : (name : List ℕ) (rows : List Row) → greatest f (without name_of name rows) ≤ greatest f rows
    greatest-without-le name rows = greatest-le (greatest f rows) (without name_of name rows) (All-without name_of (λ row. f row ≤ greatest f rows) name rows (le-greatest rows))

    pub greatest-changed-le : (most : ℕ) (change : Row → Row) (name : List ℕ) (rows : List Row) → ((row : Row) → f row ≤ most → f (change row) ≤ most) → greatest f rows ≤ most → greatest f (changed name_of change name rows) ≤ most
    greatest-changed-le most change name rows keeps h =
        greatest-le most (changed name_of change name rows) (All-changed name_of (λ row. f row ≤ most) change name rows (λ row is below. keeps row below) (each-le most rows h))

    pub le-greatest-changed : (change : Row → Row) (name : List ℕ) (rows : List Row) (row : Row) → row_of name_of name rows ≡ Some row → f (change row) ≤ greatest f (changed name_of change name rows)
    le-greatest-changed change name rows row is =
        let after : Option Row → List Row = λ found. option_map_or (λ r. with_row name_of (change r) rows) found rows in
        subst (λ (found : Option Row). f (change row) ≤ greatest f (after found)) (sym is) (le-greatest-with_row (change row) rows)

-- ---- a liability's years

module _ (asof : ℤ) where
  abbrev years_under : Liability → Projection → ℕ
  years_under liability projection = greatest_years asof (flows_under projection liability.flows)

  -- with other flows under one projection
  pub liability_years-with_flows-le : (most : ℕ) (p : Projection) (new : List (Day × ℤ)) (liability : Liability) → greatest_years asof new ≤ most → liability_years asof liability ≤ most → liability_years asof (record liability { flows = with_flows p new liability.flows }) ≤ most
  liability_years-with_flows-le most p new liability own h =
      let changed_liability : Liability = record liability { flows = with_flows p new liability.flows } in
      let old : (q : Projection) → years_under liability q ≤ most = each_projection (λ q. years_under liability q ≤ most) (each-le (years_under liability) most all_projections h) in
      let each : (q : Projection) → years_under changed_liability q ≤ most =
      λ q. elim (one_or_other p q) [
        | inl e ↦ subst (λ (other : Projection). years_under changed_liability other ≤ most) e (subst (λ (flows : List (Day × ℤ)). greatest_years asof flows ≤ most) (sym (under-with new liability.flows p)) own)
        | inr e ↦ subst (λ (flows : List (Day × ℤ)). greatest_years asof flows ≤ most) (sym (e new liability.flows)) (old q)
      ] in
      greatest-le (years_under changed_liability) most all_projections (every_projection (λ q. years_under changed_liability q ≤ most) each)

  pub le-liability_years-with_flows : (p : Projection) (new : List (Day × ℤ)) (liability : Liability) → greatest_years asof new ≤ liability_years asof (record liability { flows = with_flows p new liability.flows })
  le-liability_years-with_flows p new liability =
      let changed_liability : Liability = record liability { flows = with_flows p new liability.flows } in
      subst (λ (flows : List (Day × ℤ)). greatest_years asof flows ≤ liability_years asof changed_liability) (under-with new liability.flows p)
      (each_projection (λ q. years_under changed_liability q ≤ liability_years asof changed_liability) (le-greatest (years_under changed_liability) all_projections) p)
