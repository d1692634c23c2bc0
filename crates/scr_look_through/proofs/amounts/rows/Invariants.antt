use Rattle.std.proofs.Common.{◌≡◌, map, take}
use Rattle.scr_funds.specs.ByNumber.{weighted_rows}
use Rattle.scr_look_through.specs.ByNumber.{row_by_number}
use Rattle.scr_look_through.proofs.amounts.rows.Given as goal

-- the rows of the funds so far
abbrev pub invariant-loop-k : goal.invariant-loop-k
invariant-loop-k l = weighted_rows l.rows.items ≡ map (row_by_number l.sheet) (take l.k l.sheet.funds)
