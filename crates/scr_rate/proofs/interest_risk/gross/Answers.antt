use Rattle.std.proofs.Common.{sym, subst, pos, ◌≤ℤ◌}
use Rattle.scr_num.specs.Rounding.{Ends}
use Rattle.scr_agg.specs.Correlated.{all_ends}
use Rattle.scr_rate.proofs.SizeLemmas.{gross-low, lows-of}
use Rattle.scr_rate.proofs.interest_risk.gross.Goals as goal

pub returns-clause-value : goal.returns-clause-value
returns-clause-value c =
    let total = c.total.ensures.value in
    let scaled = c.scale.ensures.ends in
    cc

pub returns-clause-low : goal.returns-clause-low
returns-clause-low c = λ all.
    subst (λ (e : Ends). pos 0 ≤ℤ e.low) (sym (returns-clause-value c)) (gross-low (all_ends c.args.losses.now) (lows-of c.args.losses.now all))
