use Rattle.std.proofs.Common.{◌≡◌, ℕ, ◌*◌, ◌^◌, pos, List, ◌∙◌, sym, refl, ap₂, arith}
use Rattle.std.specs.Prelude.{slice_index}
use Rattle.scr_num.specs.Rounding.{ends, exact_ends, add_ends, scale_ends}
use Rattle.scr_default.specs.VarianceEnds.{within_num, within_den, within_term_ends}
use Rattle.scr_num.specs.Amounts.{IsAmount}
use Rattle.scr_default.proofs.AddedUp.{ends_below-zero, ends_below-next}
use Rattle.scr_num.proofs.AmountBounds.{amount-wider}
use Rattle.scr_default.proofs.Enclosed.{within_term-size, within-size}
use Rattle.scr_default.proofs.terms.within_classes.Goals as goal

-- the term of a class, over numbers that equal its own
one_is : (squares : List ℕ) (j num den : ℕ) → num ≡ within_num j → den ≡ within_den j
    → scale_ends (exact_ends (pos (slice_index squares j))) num den ≡ within_term_ends squares j
one_is squares j num den e f = rw (e, f) refl

pub loop-j-init : goal.loop-j-init
loop-j-init c = c.number-sum.ensures.ends ∙ sym (ends_below-zero (within_term_ends c.args.squares.now))

sum_room : (c : goal.After-term) → IsAmount (2 ^ 125) (ends c.loop-j.sum)
sum_room c =
    let most = c.loop-j.j * (25 * 10 ^ 29) in
    let up_to : IsAmount most (ends c.loop-j.sum) = rw c.loop-j.invariant
    (within-size c.args.squares.now c.loop-j.j (omega (arith, c.loop-j-test.true)) c.requires) in
    amount-wider most (2 ^ 125) (ends c.loop-j.sum) (omega (arith, c.loop-j-test.true)) up_to

-- what is added is the term of the class
term_is : (c : goal.After-term) → ends c.term.result ≡ within_term_ends c.args.squares.now c.loop-j.j
term_is c =
    c.term.ensures ∙ one_is c.args.squares.now c.loop-j.j _ _ c.within.ensures.num c.within.ensures.den

term_room : (c : goal.After-term) → IsAmount (2 ^ 125) (ends c.term.result)
term_room c =
    amount-wider (25 * 10 ^ 29) (2 ^ 125) (ends c.term.result) (omega arith)
    (rw (term_is c) (within_term-size c.args.squares.now c.loop-j.j c.loop-j-test.true c.requires))

pub add-sum-requires-clause-a_low : goal.add-sum-requires-clause-a_low
add-sum-requires-clause-a_low c = (sum_room c).low_size

pub add-sum-requires-clause-a_high : goal.add-sum-requires-clause-a_high
add-sum-requires-clause-a_high c = (sum_room c).high_size

pub add-sum-requires-clause-b_low : goal.add-sum-requires-clause-b_low
add-sum-requires-clause-b_low c = (term_room c).low_size

pub add-sum-requires-clause-b_high : goal.add-sum-requires-clause-b_high
add-sum-requires-clause-b_high c = (term_room c).high_size

pub loop-j-preserved : goal.loop-j-preserved
loop-j-preserved c =
    c.add-sum.ensures.ends ∙ ap₂ add_ends c.loop-j.invariant
    (c.term.ensures ∙ one_is c.args.squares.now c.loop-j.j _ _ c.within.ensures.num c.within.ensures.den)
    ∙ sym (ends_below-next (within_term_ends c.args.squares.now) c.loop-j.j)
