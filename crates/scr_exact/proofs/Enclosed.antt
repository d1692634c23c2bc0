-- The worked figures enclose the exact ones: they are figures that cover their rules.
use Rattle.std.proofs.Common.{◌≡◌, true, Some}
use Rattle.scr_num.specs.Enclosure.{Encloses}
use Rattle.scr_num.specs.Figure.{Figure}
use Rattle.scr_factors.specs.Values.{FactorValues, IsInForm}
use Rattle.scr_sheet.specs.Validity.{Valid}
use Rattle.scr_sheet.specs.declared.sheet.BalanceSheet.{BalanceSheet}
use Rattle.scr_nodes.specs.declared.node.Node.{Node}
use Rattle.scr_nodes.specs.Live.{is_live}
use Rattle.scr_rules.specs.Alternatives.{EncloseAlternatives}
use Rattle.scr_rules.specs.Worked.{worked}
use Rattle.scr_exact.specs.Exact.{exact, exact_outcomes, unit_of}
use Rattle.scr_exact.proofs.Enclosures as enclosures
use Rattle.scr_exact.proofs.Enclosures.{is_of_market}
use Rattle.scr_exact.proofs.WorkedCovers.{market-least, modules-least, worked-covering}

abbrev WorkedEncloses : FactorValues → BalanceSheet → Node → Type 0
WorkedEncloses factors sheet node = (f : Figure) → exact factors sheet node ≡ Some f
    → Encloses (unit_of node) (worked factors sheet node).low (worked factors sheet node).high f

pub node-encloses : (factors : FactorValues) → IsInForm factors → (sheet : BalanceSheet) → Valid sheet → (node : Node) → is_live sheet node ≡ true → WorkedEncloses factors sheet node
node-encloses factors known sheet valid node live =
    enclosures.node-encloses factors known sheet valid (worked factors sheet) (worked-covering factors sheet valid) (market-least factors sheet valid) (modules-least factors known sheet valid) node live

-- those of market risk, whatever the factors
pub market-node-encloses : (factors : FactorValues) (sheet : BalanceSheet) → Valid sheet → (node : Node) → is_of_market node ≡ true → WorkedEncloses factors sheet node
market-node-encloses factors sheet valid node of =
    enclosures.market-node-encloses factors sheet valid (worked factors sheet) (worked-covering factors sheet valid) (market-least factors sheet valid) node of

pub outcomes-enclosed : (factors : FactorValues) (sheet : BalanceSheet) → Valid sheet → EncloseAlternatives (worked factors sheet) (exact_outcomes sheet)
outcomes-enclosed factors sheet valid = enclosures.outcomes-enclosed factors sheet valid (worked factors sheet) (worked-covering factors sheet valid)
