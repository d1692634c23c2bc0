-- No list has a place.
use Rattle.std.proofs.Common.{◌≤◌, length, arith, ap}
use Rattle.scr_links.specs.Chains.{none}
use Rattle.scr_links.proofs.Linked.{lists_without, list_without}
use Rattle.scr_links.proofs.chains.Chains.new.Goals as goal

pub invariant_of-result : goal.invariant_of-result
invariant_of-result c =
    let same = ap length c.new.ensures.items in
    let few : length c.new.result.items ≤ none = omega (arith, same) in
    lists_without _ few c.new-2.ensures

pub returns-clause-lists : goal.returns-clause-lists
returns-clause-lists c = λ number. list_without _ number (c.new-2.ensures number)
