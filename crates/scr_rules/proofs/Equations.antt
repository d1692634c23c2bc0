-- The worked figures obey their equation for every valid balance sheet, and nothing else does.
use Rattle.std.proofs.Common.{◌≡◌, false, ◌||◌, pos, map}
use Rattle.std.specs.List.{AllByRecursion, list_any}
use Rattle.scr_num.specs.Rounding.{Ends, exact_ends}
use Rattle.scr_factors.specs.Values.{FactorValues}
use Rattle.scr_sheet.specs.declared.sheet.BalanceSheet.{BalanceSheet}
use Rattle.scr_sheet.specs.Validity.{Valid}
use Rattle.scr_nodes.specs.declared.node.Node.{Node}
use Rattle.scr_nodes.specs.Sources.{sources_of}
use Rattle.scr_nodes.proofs.Reckoning.{reckoned-equation, reckoned-only}
use Rattle.scr_rules.specs.Close.{is_open_choice, close_under}
use Rattle.scr_rules.specs.Worked.{node_rule, worked}

pub worked-equation : (factors : FactorValues) (sheet : BalanceSheet) → Valid sheet → (node : Node)
    → worked factors sheet node ≡ node_rule factors sheet node (map (worked factors sheet) (sources_of sheet node))
unfolding worked
worked-equation factors sheet valid node = reckoned-equation (exact_ends (pos 0)) (node_rule factors sheet) sheet valid node

pub worked-only : (factors : FactorValues) (sheet : BalanceSheet) → Valid sheet → (In : Node → Type 0) → ((node : Node) → In node → AllByRecursion In (sources_of sheet node))
    → (found : Node → Ends) → ((node : Node) → In node → found node ≡ node_rule factors sheet node (map found (sources_of sheet node)))
    → (node : Node) → In node → found node ≡ worked factors sheet node
unfolding worked
worked-only factors sheet valid In closed found equation node within =
    reckoned-only (exact_ends (pos 0)) (node_rule factors sheet) sheet valid In closed found equation node within

pub close-equation : (factors : FactorValues) (sheet : BalanceSheet) → Valid sheet → (node : Node)
    → close_under factors sheet node ≡ (is_open_choice factors sheet node || list_any (λ b. b) (map (close_under factors sheet) (sources_of sheet node)))
unfolding close_under
close-equation factors sheet valid node =
    reckoned-equation false (λ n below. is_open_choice factors sheet n || list_any (λ b. b) below) sheet valid node
