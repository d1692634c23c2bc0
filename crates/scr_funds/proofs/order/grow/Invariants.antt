-- So many rows without components were pushed, and there is room for the others.
use Rattle.std.proofs.Common.{◌≡◌, ℕ, ◌+◌, ◌-◌, ◌≤◌, ◌++◌, List, [], replicate, vec_len, vec_capacity}
use Rattle.scr_funds.specs.Search.{rows_of}
use Rattle.scr_funds.proofs.order.grow.Given as goal

abbrev pub invariant-loop : goal.invariant-loop
invariant-loop l =
    let none : List ℕ = [] in
    record {
      rows : rows_of l.rows.items ≡ rows_of l.fn.rows.items ++ replicate l.counter none;
      room : vec_len l.rows + (l.missing - l.counter) ≤ vec_capacity l.rows;
    }
