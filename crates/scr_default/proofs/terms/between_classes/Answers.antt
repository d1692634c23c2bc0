use Rattle.std.proofs.Common.{ℕ, ◌*◌, ◌^◌, List, ◌∙◌, sym, ap₂, arith}
use Rattle.scr_num.specs.Rounding.{Ends, ends, add_ends}
use Rattle.scr_default.specs.VarianceEnds.{between_term_ends, sum_of_class_ends}
use Rattle.scr_num.specs.Amounts.{IsAmount}
use Rattle.scr_default.proofs.AddedUp.{ends_below-zero, ends_below-next}
use Rattle.scr_num.proofs.AmountBounds.{amount-wider}
use Rattle.scr_default.proofs.Enclosed.{row-size, between-size}
use Rattle.scr_default.proofs.terms.between_classes.Goals as goal

abbrev row_at : List ℕ → ℕ → Ends
row_at totals j = sum_of_class_ends (between_term_ends totals j)

pub loop-j-init : goal.loop-j-init
loop-j-init c = c.number-sum.ensures.ends ∙ sym (ends_below-zero (row_at c.args.totals.now))

sum_room : (c : goal.After-row) → IsAmount (2 ^ 125) (ends c.loop-j.sum)
sum_room c =
    let most = c.loop-j.j * (15 * 10 ^ 30) in
    let up_to : IsAmount most (ends c.loop-j.sum) = rw c.loop-j.invariant
    (between-size c.args.totals.now c.loop-j.j (omega (arith, c.loop-j-test.true)) c.requires) in
    amount-wider most (2 ^ 125) (ends c.loop-j.sum) (omega (arith, c.loop-j-test.true)) up_to

row_room : (c : goal.After-row) → IsAmount (2 ^ 125) (ends c.row.result)
row_room c =
    amount-wider (15 * 10 ^ 30) (2 ^ 125) (ends c.row.result) (omega arith)
    (rw c.row.ensures (row-size c.args.totals.now c.loop-j.j 6 c.loop-j-test.true (omega arith) c.requires))

pub add-sum-requires-clause-a_low : goal.add-sum-requires-clause-a_low
add-sum-requires-clause-a_low c = (sum_room c).low_size

pub add-sum-requires-clause-a_high : goal.add-sum-requires-clause-a_high
add-sum-requires-clause-a_high c = (sum_room c).high_size

pub add-sum-requires-clause-b_low : goal.add-sum-requires-clause-b_low
add-sum-requires-clause-b_low c = (row_room c).low_size

pub add-sum-requires-clause-b_high : goal.add-sum-requires-clause-b_high
add-sum-requires-clause-b_high c = (row_room c).high_size

pub loop-j-preserved : goal.loop-j-preserved
loop-j-preserved c =
    c.add-sum.ensures.ends ∙ ap₂ add_ends c.loop-j.invariant c.row.ensures
    ∙ sym (ends_below-next (row_at c.args.totals.now) c.loop-j.j)
