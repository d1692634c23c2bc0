use Rattle.std.proofs.Common.{◌≡◌, ◌*◌, ◌^◌, ◌≤◌, take}
use Rattle.scr_dates.specs.Payments.{total}
use Rattle.scr_dates.proofs.payments.total.Given as goal

abbrev pub invariant-loop-amount : goal.invariant-loop-amount
invariant-loop-amount l = (l.sum ≡ total (take l.amount-index l.pairs)) × (l.sum ≤ 2 ^ 63 * l.amount-index)
