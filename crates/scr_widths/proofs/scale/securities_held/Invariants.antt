use Rattle.std.proofs.Common.{◌≡◌, sum_by, take}
use Rattle.scr_sheet.specs.declared.rows.Position.{Position}
use Rattle.scr_widths.proofs.scale.securities_held.Given as goal

abbrev pub invariant-loop-k : goal.invariant-loop-k
invariant-loop-k l = l.held ≡ sum_by (λ (p : Position). p.held) (take l.k l.sheet.securities)
