-- Each figure as it is worked out from the factors and the balance sheet: its rule on the figures of its sources, by plain
-- recursion (this project's own). A law says that it obeys its equation for every valid balance sheet.
use Rattle.std.specs.Prelude.{pos, List}
use Rattle.scr_num.specs.Rounding.{Ends, exact_ends}
use Rattle.scr_factors.specs.Values.{FactorValues}
use Rattle.scr_sheet.specs.declared.sheet.BalanceSheet.{BalanceSheet}
use Rattle.scr_nodes.specs.declared.node.Node.{Node}
use Rattle.scr_nodes.specs.OwnOf.{own_of}
use Rattle.scr_nodes.specs.Reckoned.{reckoned}
use Rattle.scr_rules.specs.Discounts.{own_discounts}
use Rattle.scr_rules.specs.Rules.{rule}

-- the rule of a node, on what the node reads of its own and the discounts at its own rates
abbrev pub node_rule : FactorValues → BalanceSheet → Node → List Ends → Ends
node_rule factors sheet node figures =
    let own = own_of factors sheet node in rule own (own_discounts own) figures

unfoldable pub worked : FactorValues → BalanceSheet → Node → Ends
worked factors sheet node = reckoned (exact_ends (pos 0)) (node_rule factors sheet) sheet node
