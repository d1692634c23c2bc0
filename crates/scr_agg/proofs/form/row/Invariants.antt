use Rattle.std.proofs.Common.{◌≡◌, ◌+◌, ◌*◌, ◌≤◌, map}
use Rattle.scr_agg.specs.declared.form.Side.TheVariants.{Low, High}
use Rattle.scr_agg.specs.Forms.{end_of, weighed}
use Rattle.scr_agg.proofs.Sums.{row_from}
use Rattle.scr_agg.proofs.form.row.Given as goal

abbrev pub invariant-loop-j : goal.invariant-loop-j
invariant-loop-j l =
    let lows = map (end_of Low) l.parts in
    let highs = map (end_of High) l.parts in
    (l.low + row_from (weighed l.sign) 1 l.cells lows l.j ≡ row_from (weighed l.sign) 1 l.cells lows 0)
    × (l.high + row_from (weighed l.sign) 1 l.cells highs l.j ≡ row_from (weighed l.sign) 1 l.cells highs 0)
    × (l.low ≤ l.j * 1_208_925_819_614_629_174_706_176)
    × (l.high ≤ l.j * 1_208_925_819_614_629_174_706_176)
