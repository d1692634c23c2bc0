use Rattle.std.proofs.Common.{◌≡◌, ℕ, get_or, map, sym, subst, arith, lit<}
use Rattle.scr_num.specs.Figure.{Frac}
use Rattle.scr_num.specs.Rounding.{Ends, ends}
use Rattle.scr_num.specs.Enclosure.{Encloses}
use Rattle.scr_yield_curve.specs.Discount.{discount_exact, present_exact}
use Rattle.scr_yield_curve.specs.DiscountEnds.{one}
use Rattle.scr_flow.proofs.SumLemmas.{Encloses-weighted}
use Rattle.scr_flow.proofs.SizeLemmas.{within-discount}
use Rattle.scr_flow.proofs.value.present.Goals as goal

pub weighted_sum-requires-clause-in_range : goal.weighted_sum-requires-clause-in_range
weighted_sum-requires-clause-in_range c = λ k d within. within-discount _ (c.requires.in_range k d within)

pub returns-clause-encloses : goal.returns-clause-encloses
returns-clause-encloses c = λ rate enclosed.
    let flows = c.args.flows.now in
    let table = map ends c.args.d.now.at in
    let whole = Encloses-weighted one (lit< tt) (λ years. discount_exact (rate years) years) 1 flows table c.weighted_sum.ensures.places
    (λ k d within.
    subst (λ (j : ℕ). Encloses one (get_or table k d).low (get_or table k d).high (Frac (discount_exact (rate j) j))) (omega arith) (enclosed.each k d within)) in
    let P : Ends → Type 0 = λ e. Encloses one e.low e.high (Frac (present_exact flows rate)) in
    subst P (sym c.weighted_sum.ensures.ends) whole
