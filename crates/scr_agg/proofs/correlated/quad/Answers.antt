use Rattle.std.proofs.Common.{◌≡◌, ℕ, ◌*◌, ◌^◌, ◌-◌, ◌<◌, ◌≤◌, ℤ, pos, negsuc, ◌*ℤ◌, ◌<ℤ◌, ap, ap₂, ◌∙◌, sym, subst, arith}
use Rattle.std.proofs.lemmas.Int.{ints}
use Rattle.std.proofs.lemmas.List.{length-map}
use Rattle.std.proofs.lemmas.Nat.{mul-le}
use Rattle.scr_num.specs.Rounding.{Ends, or_zero, ceil_div, root_ends}
use Rattle.scr_num.proofs.Enclosing.{Encloses-same}
use Rattle.scr_num.proofs.Quadratic.{Encloses-quad}
use Rattle.scr_num.proofs.Roots.{root_above}
use Rattle.scr_agg.specs.Correlated.{table_of, all_ends, total_high}
use Rattle.scr_agg.specs.declared.form.Side.TheVariants.{Low, High}
use Rattle.scr_agg.specs.declared.form.Sign.TheVariants.{Positive, Negative}
use Rattle.scr_agg.proofs.Bounded.{form_bound, form_rises}
use Rattle.scr_agg.proofs.Roots.{sum_of, table_of-square, scaled_root, root_over_sums, root_at_most}
use Rattle.scr_num.specs.Amounts.{IsAmount}
use Rattle.scr_agg.proofs.RootSizes.{root-size}
use Rattle.scr_agg.proofs.correlated.quad.Goals as goal

positive : (den : ℤ) → pos 0 <ℤ den → 0 < or_zero den
positive (pos n) h = omega (arith, ints)
positive (negsuc n) h = absurd (omega (arith, ints))

total_below : (den : ℤ) (total : ℕ) → pos 0 <ℤ den → or_zero den * (total * total) < 2 ^ 127 → total < 2 ^ 64
total_below den total h small =
    let some : 1 ≤ or_zero den = positive den h in
    let square = mul-le 1 (total * total) (or_zero den) (total * total) some (omega arith) in
    root_above total 18_446_744_073_709_551_616 (omega (arith, square))

pub forms-positive-requires-clause-highs : goal.forms-positive-requires-clause-highs
forms-positive-requires-clause-highs c =
    total_below c.args.m.now.den (total_high c.args.parts.now) c.requires.denominator c.requires.small

pub forms-positive-requires-clause-low_fits : goal.forms-positive-requires-clause-low_fits
forms-positive-requires-clause-low_fits c =
    omega (
      arith,
      form_bound Low Positive c.args.m.now.den c.args.m.now.n c.args.m.now.cells c.args.parts.now
          c.requires.count c.requires.lows (omega (arith, ints)) c.requires.cells,
    )

pub forms-positive-requires-clause-high_fits : goal.forms-positive-requires-clause-high_fits
forms-positive-requires-clause-high_fits c =
    omega (
      arith,
      form_bound High Positive c.args.m.now.den c.args.m.now.n c.args.m.now.cells c.args.parts.now
          c.requires.count c.requires.lows (omega (arith, ints)) c.requires.cells,
    )

pub forms-negative-requires-clause-highs : goal.forms-negative-requires-clause-highs
forms-negative-requires-clause-highs c =
    total_below c.args.m.now.den (total_high c.args.parts.now) c.requires.denominator c.requires.small

pub forms-negative-requires-clause-low_fits : goal.forms-negative-requires-clause-low_fits
forms-negative-requires-clause-low_fits c =
    omega (
      arith,
      form_bound Low Negative c.args.m.now.den c.args.m.now.n c.args.m.now.cells c.args.parts.now
          c.requires.count c.requires.lows (omega (arith, ints)) c.requires.cells,
    )

pub forms-negative-requires-clause-high_fits : goal.forms-negative-requires-clause-high_fits
forms-negative-requires-clause-high_fits c =
    omega (
      arith,
      form_bound High Negative c.args.m.now.den c.args.m.now.n c.args.m.now.cells c.args.parts.now
          c.requires.count c.requires.lows (omega (arith, ints)) c.requires.cells,
    )

pub between-requires-clause-ordered : goal.between-requires-clause-ordered
between-requires-clause-ordered c =
    omega (
      arith,
      form_rises Positive c.args.m.now.cells c.args.parts.now c.requires.lows,
      form_rises Negative c.args.m.now.cells c.args.parts.now c.requires.lows,
    )

pub between-requires-clause-fits : goal.between-requires-clause-fits
between-requires-clause-fits c =
    omega (
      arith,
      form_bound High Positive c.args.m.now.den c.args.m.now.n c.args.m.now.cells c.args.parts.now
          c.requires.count c.requires.lows (omega (arith, ints)) c.requires.cells,
    )

low_is : (c : goal.After-root_of) → c.less-low.result
    ≡ sum_of Low Positive c.args.m.now c.args.parts.now - sum_of High Negative c.args.m.now c.args.parts.now
low_is c = c.less-low.ensures ∙ ap₂ ◌-◌ c.forms-positive.ensures.low c.forms-negative.ensures.high

high_is : (c : goal.After-root_of) → c.less-high.result
    ≡ sum_of High Positive c.args.m.now c.args.parts.now - sum_of Low Negative c.args.m.now c.args.parts.now
high_is c = c.less-high.ensures ∙ ap₂ ◌-◌ c.forms-positive.ensures.high c.forms-negative.ensures.low

pub returns-clause-ends : goal.returns-clause-ends
returns-clause-ends c =
    c.root_of.ensures.ends
    ∙ ap root_ends c.scale.ensures.ends
    ∙ scaled_root c.between.result.low c.between.result.high _ _ c.denominator.result (or_zero c.args.m.now.den)
    (c.between.ensures.low ∙ ap pos (low_is c)) (c.between.ensures.high ∙ ap pos (high_is c)) c.denominator.ensures
    ∙ root_over_sums c.args.m.now c.args.parts.now c.requires.count c.requires.lows
    (positive c.args.m.now.den c.requires.denominator)

pub returns-clause-encloses : goal.returns-clause-encloses
returns-clause-encloses c =
    let e = returns-clause-ends c in
    λ unit unit_positive figures h. Encloses-same unit _ _ _ _ _ (ap (λ (x : Ends). x.low) e)
    (ap (λ (x : Ends). x.high) e)
    (Encloses-quad unit unit_positive (all_ends c.args.parts.now) figures (table_of c.args.m.now)
    (positive c.args.m.now.den c.requires.denominator)
    (rw length-map (rw c.requires.count (table_of-square c.args.m.now))) h)

pub returns-clause-at_most_the_sum : goal.returns-clause-at_most_the_sum
returns-clause-at_most_the_sum c =
    let total = total_high c.args.parts.now in
    let bound = form_bound High Positive c.args.m.now.den c.args.m.now.n c.args.m.now.cells c.args.parts.now
    c.requires.count c.requires.lows (omega (arith, ints)) c.requires.cells in
    let small : c.less-high.result ≤ c.denominator.result * (total * total) = rw c.denominator.ensures (omega arith) in
    let quotient : c.scale.result.high ≡ ceil_div (pos c.less-high.result *ℤ pos 1) c.denominator.result =
    c.scale.ensures.high ∙ ap (λ z. ceil_div (z *ℤ pos 1) c.denominator.result) c.between.ensures.high in
    let root = root_at_most c.scale.result.high c.less-high.result c.denominator.result total
    (rw c.denominator.ensures (positive c.args.m.now.den c.requires.denominator)) small quotient in
    rw c.root_of.ensures.high (omega (arith, ints))

pub returns-clause-size : goal.returns-clause-size
returns-clause-size c =
    subst (IsAmount (total_high c.args.parts.now)) (sym (returns-clause-ends c))
    (root-size c.args.m.now c.args.parts.now c.requires.count c.requires.lows c.requires.denominator c.requires.cells)
