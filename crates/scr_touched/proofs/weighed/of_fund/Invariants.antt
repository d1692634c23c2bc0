use Rattle.std.proofs.Common.{◌≡◌, ◌*◌, ◌^◌, ◌≤◌, sum_by, take}
use Rattle.scr_sheet.specs.Records.{natural}
use Rattle.scr_touched.specs.Weighed.{AreWeighed}
use Rattle.scr_touched.proofs.weighed.of_fund.Given as goal

-- the components so far are in the table, with the sum of their weights
abbrev pub invariant-loop-component : goal.invariant-loop-component
invariant-loop-component l =
    AreWeighed l.rows (take l.component-index l.components)
    × (l.all ≡ sum_by (λ c. natural c.1) (take l.component-index l.components))
    × (l.all ≤ 2 ^ 64 * l.component-index)
