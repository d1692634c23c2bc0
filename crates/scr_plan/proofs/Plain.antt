-- What is told of sizes and of touched figures, in the words of those who ask.
use Rattle.std.proofs.Common.{◌≡◌, ◌^◌, List, Contains, None, arith}
use Rattle.std.specs.Prelude.{◌↔◌}
use Rattle.scr_num.specs.Rounding.{Ends}
use Rattle.scr_num.specs.Sizes.{AreTogether}
use Rattle.scr_factors.specs.Values.{FactorValues}
use Rattle.scr_sheet.specs.Faults.{fault_of}
use Rattle.scr_sheet.specs.Records.{applied}
use Rattle.scr_sheet.specs.declared.edit.Edit.{Edit}
use Rattle.scr_sheet.specs.declared.sheet.BalanceSheet.{BalanceSheet}
use Rattle.scr_nodes.specs.Changed.{IsChanged}
use Rattle.scr_nodes.specs.declared.node.Node.{Node}
use Rattle.scr_touched.specs.Touched.{AreTouched}

pub wider : (es : List Ends) → AreTogether (10 ^ 33) es → AreTogether (2 ^ 124) es
wider es h = let low = h.lows in let high = h.highs in record { lows = omega (arith, low); highs = omega (arith, high) }

pub told-by : (sheet : BalanceSheet) (edit : Edit) (list : List Node) → AreTouched sheet edit list
    → (factors : FactorValues) (node : Node) → fault_of edit sheet ≡ None → Contains list node ↔ IsChanged factors sheet (applied edit sheet) node
unfolding AreTouched
told-by sheet edit list told factors node none = (told factors node none).listed
