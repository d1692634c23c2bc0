use Rattle.std.proofs.Common.{◌≡◌, ◌+◌, map}
use Rattle.scr_agg.specs.declared.form.Side.TheVariants.{Low, High}
use Rattle.scr_agg.specs.Forms.{end_of, weighed}
use Rattle.scr_agg.proofs.Sums.{sum_from}
use Rattle.scr_agg.proofs.form.forms.Given as goal

abbrev pub invariant-loop-i : goal.invariant-loop-i
invariant-loop-i l =
    let lows = map (end_of Low) l.parts in
    let highs = map (end_of High) l.parts in
    (l.low + sum_from (weighed l.sign) l.m.cells lows lows l.i ≡ sum_from (weighed l.sign) l.m.cells lows lows 0)
    × (l.high + sum_from (weighed l.sign) l.m.cells highs highs l.i ≡ sum_from (weighed l.sign) l.m.cells highs highs 0)
