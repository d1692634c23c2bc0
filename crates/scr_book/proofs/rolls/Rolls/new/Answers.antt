use Rattle.std.proofs.Common.{rules}
use Rattle.scr_book.proofs.RollsOpening.{liabilities-few, opening-none, opening-rolls}
use Rattle.scr_book.proofs.rolls.Rolls.new.Goals as goal

pub seating-requires-3 : goal.seating-requires-3
seating-requires-3 c = let eleven = liabilities-few in search (rules, eleven)

pub returns-clause-rolls : goal.returns-clause-rolls
returns-clause-rolls c =
    let securities = c.in_ok-securities.ensures in
    let funds = c.in_ok-funds.ensures in
    let liabilities = c.in_ok-liabilities.ensures in
    let groups = c.in_ok-groups.ensures in
    opening-rolls _ (record { count = securities.count; own = securities.own; names = securities.names; empty = securities.seated })
    (record { count = funds.count; own = funds.own; names = funds.names; empty = funds.seated })
    (record { count = liabilities.count; own = liabilities.own; names = liabilities.names; empty = liabilities.seated })
    (record { count = groups.count; own = groups.own; names = groups.names; empty = groups.seated })
    c.new-of_groups.ensures c.new-of_assets.ensures c.new-of_lines.ensures

pub returns-clause-none : goal.returns-clause-none
returns-clause-none c =
    let securities = c.in_ok-securities.ensures in
    let funds = c.in_ok-funds.ensures in
    let liabilities = c.in_ok-liabilities.ensures in
    let groups = c.in_ok-groups.ensures in
    opening-none _ (record { count = securities.count; own = securities.own; names = securities.names; empty = securities.seated })
    (record { count = funds.count; own = funds.own; names = funds.names; empty = funds.seated })
    (record { count = liabilities.count; own = liabilities.own; names = liabilities.names; empty = liabilities.seated })
    (record { count = groups.count; own = groups.own; names = groups.names; empty = groups.seated })
    c.new-of_groups.ensures c.new-of_assets.ensures c.new-of_lines.ensures
