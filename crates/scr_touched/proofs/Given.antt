-- Figures that read nothing of the tables which change, and what a test of own data says.
use Rattle.std.proofs.Common.{◌≡◌, Bool, true, false, ◌++◌, map, filter, refl, ap}
use Rattle.scr_factors.specs.Values.{FactorValues}
use Rattle.scr_sheet.specs.declared.rows.Class.{Class}
use Rattle.scr_sheet.specs.declared.rows.Class.TheVariants as classes
use Rattle.scr_sheet.specs.declared.sheet.BalanceSheet.{BalanceSheet}
use Rattle.scr_nodes.specs.Rows.{has_class, is_closed}
use Rattle.scr_nodes.specs.Sources.{security_total, fund_total, funds_of_class}
use Rattle.scr_nodes.specs.declared.node.Node.TheVariants as nodes
use Rattle.scr_nodes.specs.declared.node.Whole.TheVariants as wholes
use Rattle.scr_touched.specs.Touched.{IsSame}
use Rattle.scr_touched.specs.Comparisons.{is_touched}

-- ---- figures that read nothing that changes

-- a class of securities, where securities and funds stay
pub same-class : (factors : FactorValues) (s t : BalanceSheet) (class : Class) → s.securities ≡ t.securities
    → s.funds ≡ t.funds → IsSame factors s t (nodes.Whole (wholes.ClassSum class))
same-class factors s t class e f = record {
  live = refl;
  own = refl;
  sources = λ i. map security_total (filter (has_class class) (e i)) ++ closed class i;
}
  where
    closed : (of : Class) → funds_of_class of s ≡ funds_of_class of t
    closed classes.Type2Equity = ap (λ funds. map fund_total (filter is_closed funds)) f
    closed of = refl

-- ---- what a test says

-- a figure that stays one, with the same sources, is touched where its data differ
pub own-moved : (live own : Bool) → is_touched live live own true ≡ true → own ≡ false
own-moved false own e = absurd (cc)
own-moved true true e = absurd (cc)
own-moved true false e = refl
