use Rattle.std.proofs.Common.{◌*◌, ◌^◌, ◌∙◌, ap, ap₂, arith}
use Rattle.scr_num.specs.Rounding.{Ends, ends, add_ends}
use Rattle.scr_num.specs.Amounts.{IsAmount}
use Rattle.scr_num.proofs.Enclosing.{Encloses-same}
use Rattle.scr_num.proofs.AmountBounds.{amount-wider}
use Rattle.scr_default.proofs.Enclosed.{between-size, within-size, squares-size, variance-encloses, variance-size}
use Rattle.scr_default.proofs.terms.variance.Goals as goal

between_room : (c : goal.After-within_classes) → IsAmount (2 ^ 125) (ends c.between_classes.result)
between_room c =
    amount-wider (90 * 10 ^ 30) (2 ^ 125) (ends c.between_classes.result) (omega arith)
    (rw c.between_classes.ensures (between-size c.args.totals.now 6 (omega arith) c.requires.totals))

within_room : (c : goal.After-within_classes) → IsAmount (2 ^ 125) (ends c.within_classes.result)
within_room c =
    amount-wider (15 * 10 ^ 30) (2 ^ 125) (ends c.within_classes.result) (omega arith)
    (rw c.within_classes.ensures
    (within-size c.args.squares.now 6 (omega arith)
    (squares-size c.args.totals.now c.args.squares.now c.requires.totals c.requires.squares)))

pub add-requires-clause-a_low : goal.add-requires-clause-a_low
add-requires-clause-a_low c = (between_room c).low_size

pub add-requires-clause-a_high : goal.add-requires-clause-a_high
add-requires-clause-a_high c = (between_room c).high_size

pub add-requires-clause-b_low : goal.add-requires-clause-b_low
add-requires-clause-b_low c = (within_room c).low_size

pub add-requires-clause-b_high : goal.add-requires-clause-b_high
add-requires-clause-b_high c = (within_room c).high_size

pub returns-clause-ends : goal.returns-clause-ends
returns-clause-ends c = c.add.ensures.ends ∙ ap₂ add_ends c.between_classes.ensures c.within_classes.ensures

pub returns-clause-encloses : goal.returns-clause-encloses
returns-clause-encloses c =
    let e = returns-clause-ends c in
    Encloses-same 1000000 _ _ _ _ _ (ap (λ (x : Ends). x.low) e) (ap (λ (x : Ends). x.high) e)
    (variance-encloses c.args.totals.now c.args.squares.now)

pub returns-clause-size : goal.returns-clause-size
returns-clause-size c =
    rw (returns-clause-ends c)
    (variance-size c.args.totals.now c.args.squares.now c.requires.totals
    (squares-size c.args.totals.now c.args.squares.now c.requires.totals c.requires.squares))
