-- What is kept of rates in the first reckoning.
use Rattle.std.proofs.Common.{◌≡◌, sym, ap, subst}
use Rattle.scr_discounts.specs.Kept.{all_discounts, rows_of, AreDiscountsOf}
use Rattle.scr_discounts.specs.KeptRates.{KnownRates}
use Rattle.scr_discounts.proofs.CurveRows.{all-are}
use Rattle.scr_tree.specs.First.{IsGround}
use Rattle.scr_tree.specs.declared.making.{Ground.Ground}

module _ (ground : Ground) (g : IsGround ground) where
  -- what is kept of rates is the book's
  pub rows-are : rows_of ground.inputs.rates.now.curves ≡ all_discounts ground.inputs.book.now.sheet
  rows-are = ap (λ (k : KnownRates). k.rows) g.rates

  pub discounts-are : AreDiscountsOf ground.inputs.book.now.sheet.curves (rows_of ground.inputs.rates.now.curves)
  discounts-are = subst (AreDiscountsOf ground.inputs.book.now.sheet.curves) (sym rows-are) (all-are ground.inputs.book.now.sheet g.valid)
