use Rattle.std.proofs.Common.{◌≡◌, ◌++◌, map, take}
use Rattle.scr_sheet.specs.BalanceSheet.{stake_name, position_name, held_of}
use Rattle.scr_look_through.proofs.amounts.held_by_number.Given as goal

-- what is held of the funds so far
abbrev pub invariant-loop-k : goal.invariant-loop-k
invariant-loop-k l = l.held.items ≡ map (λ s. held_of l.sheet (stake_name s)) (take l.k l.sheet.funds)

-- what is held of all funds, and of the securities so far
abbrev pub invariant-loop-k-2 : goal.invariant-loop-k-2
invariant-loop-k-2 l = l.held.items ≡ map (λ s. held_of l.sheet (stake_name s)) l.sheet.funds ++ map (λ p. held_of l.sheet (position_name p)) (take l.k l.sheet.securities)
