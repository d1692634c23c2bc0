use Rattle.std.proofs.Common.{◌≡◌, sum_by, take}
use Rattle.scr_sheet.specs.declared.rows.Stake.{Stake}
use Rattle.scr_widths.proofs.scale.funds_held.Given as goal

abbrev pub invariant-loop-k : goal.invariant-loop-k
invariant-loop-k l = l.held ≡ sum_by (λ (s : Stake). s.held) (take l.k l.sheet.funds)
