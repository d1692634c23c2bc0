use Rattle.std.proofs.Common.{◌+◌, get_or, arith, pos}
use Rattle.scr_yield_curve.proofs.PowerLemmas.{in_range}
use Rattle.scr_yield_curve.proofs.TableLemmas.{table_by_place, table_about_powers, table_encloses}
use Rattle.scr_yield_curve.proofs.discount.discounts.Goals as goal

pub returns-clause-ends : goal.returns-clause-ends
returns-clause-ends c =
    table_by_place 1 c.loop-i.at c.args.curve.now (omega arith) (λ k d e within. c.loop-i.invariant.1 k d e (omega arith))

pub returns-clause-in_range : goal.returns-clause-in_range
returns-clause-in_range c = λ k d within.
    rw (c.loop-i.invariant.1 k d (pos 0) (omega arith)) (in_range (get_or c.args.curve.now k (pos 0)) (1 + k) (c.requires k (pos 0) (omega arith)) (omega arith))

pub returns-clause-powers : goal.returns-clause-powers
returns-clause-powers c = λ rate exact.
    rw (returns-clause-ends c) (table_about_powers c.args.curve.now rate c.requires exact)

pub returns-clause-encloses : goal.returns-clause-encloses
returns-clause-encloses c = λ rate exact.
    rw (returns-clause-ends c) (table_encloses c.args.curve.now rate c.requires exact)
