use Rattle.std.proofs.Common.{◌≡◌, ℕ, ◌*◌, ◌^◌, pos, List, ◌∙◌, sym, refl, ap₂, arith}
use Rattle.std.specs.Prelude.{slice_index}
use Rattle.scr_num.specs.Rounding.{ends, exact_ends, add_ends, scale_ends}
use Rattle.scr_default.specs.VarianceEnds.{between_num, between_den, between_term_ends}
use Rattle.scr_num.specs.Amounts.{IsAmount}
use Rattle.scr_default.proofs.AddedUp.{ends_below-zero, ends_below-next}
use Rattle.scr_num.proofs.AmountBounds.{amount-wider}
use Rattle.scr_default.proofs.Enclosed.{product-size, between_term-size, row-size}
use Rattle.scr_default.proofs.terms.row.Goals as goal

-- the term of both classes, over numbers that equal theirs
both_is : (totals : List ℕ) (j k x y num den : ℕ) → x ≡ slice_index totals j → y ≡ slice_index totals k
    → num ≡ between_num j k → den ≡ between_den j k
    → scale_ends (exact_ends (pos (x * y))) num den ≡ between_term_ends totals j k
both_is totals j k x y num den e f g h = rw (e, f, g, h) refl

pub loop-k-init : goal.loop-k-init
loop-k-init c = c.number-sum.ensures.ends ∙ sym (ends_below-zero (between_term_ends c.args.totals.now c.args.j))

pub term-requires : goal.term-requires
term-requires c =
    rw (c.from.ensures, c.from-in-loop-k.ensures)
    (product-size (slice_index c.args.totals.now c.args.j) (slice_index c.args.totals.now c.loop-k.k)
    (c.requires.totals c.args.j c.requires.class) (c.requires.totals c.loop-k.k c.loop-k-test.true))

sum_room : (c : goal.After-term) → IsAmount (2 ^ 125) (ends c.loop-k.sum)
sum_room c =
    let most = c.loop-k.k * (25 * 10 ^ 29) in
    let up_to : IsAmount most (ends c.loop-k.sum) = rw c.loop-k.invariant
    (row-size c.args.totals.now c.args.j c.loop-k.k c.requires.class
    (omega (arith, c.loop-k-test.true)) c.requires.totals) in
    amount-wider most (2 ^ 125) (ends c.loop-k.sum) (omega (arith, c.loop-k-test.true)) up_to

pub add-sum-requires-clause-a_low : goal.add-sum-requires-clause-a_low
add-sum-requires-clause-a_low c = (sum_room c).low_size

pub add-sum-requires-clause-a_high : goal.add-sum-requires-clause-a_high
add-sum-requires-clause-a_high c = (sum_room c).high_size

-- what is added is the term of both classes
term_is : (c : goal.After-term) → ends c.term.result ≡ between_term_ends c.args.totals.now c.args.j c.loop-k.k
term_is c =
    c.term.ensures ∙ both_is c.args.totals.now c.args.j c.loop-k.k _ _ _ _ c.from.ensures c.from-in-loop-k.ensures
    c.between.ensures.num c.between.ensures.den

term_room : (c : goal.After-term) → IsAmount (2 ^ 125) (ends c.term.result)
term_room c =
    amount-wider (25 * 10 ^ 29) (2 ^ 125) (ends c.term.result) (omega arith)
    (rw (term_is c) (between_term-size c.args.totals.now c.args.j c.loop-k.k c.requires.class c.loop-k-test.true
    c.requires.totals))

pub add-sum-requires-clause-b_low : goal.add-sum-requires-clause-b_low
add-sum-requires-clause-b_low c = (term_room c).low_size

pub add-sum-requires-clause-b_high : goal.add-sum-requires-clause-b_high
add-sum-requires-clause-b_high c = (term_room c).high_size

pub loop-k-preserved : goal.loop-k-preserved
loop-k-preserved c =
    c.add-sum.ensures.ends ∙ ap₂ add_ends c.loop-k.invariant
    (c.term.ensures ∙ both_is c.args.totals.now c.args.j c.loop-k.k _ _ _ _ c.from.ensures
    c.from-in-loop-k.ensures c.between.ensures.num c.between.ensures.den)
    ∙ sym (ends_below-next (between_term_ends c.args.totals.now c.args.j) c.loop-k.k)
