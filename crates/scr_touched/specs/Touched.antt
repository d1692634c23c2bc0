-- Which figures a record touches (this project's own): those whose own data or list of sources it changes, and those
-- which it makes or takes away.
use Rattle.std.specs.Prelude.{◌≡◌, ◌↔◌, ◌||◌, IsTrue, List, Contains, None}
use Rattle.scr_factors.specs.Values.{FactorValues}
use Rattle.scr_sheet.specs.Faults.{fault_of}
use Rattle.scr_sheet.specs.Records.{applied}
use Rattle.scr_sheet.specs.declared.edit.Edit.{Edit}
use Rattle.scr_sheet.specs.declared.sheet.BalanceSheet.{BalanceSheet}
use Rattle.scr_nodes.specs.Live.{is_live}
use Rattle.scr_nodes.specs.declared.node.Node.{Node}
-- what changes of a figure
pub use Rattle.scr_nodes.specs.Changed.{IsChanged, IsSame}

-- An edit touches a figure: it changes between the balance sheet before and after the edit, as `IsChanged` says (own).
abbrev pub IsTouched : FactorValues → BalanceSheet → Edit → Node → Type 0
IsTouched factors sheet edit node = IsChanged factors sheet (applied edit sheet) node

-- the figure stands in the list exactly where the record touches it, and a figure of the balance sheet before or after
-- that does not stand there is the same
pub record IsTold (factors : FactorValues) (sheet : BalanceSheet) (edit : Edit) (list : List Node) (node : Node)
    : Type 0 where
  pub listed : Contains list node ↔ IsTouched factors sheet edit node
  pub rest : (Contains list node → ⊥) → IsTrue (is_live sheet node || is_live (applied edit sheet) node)
      → IsSame factors sheet (applied edit sheet) node

-- the list has just the figures that the record touches, whatever the factors, unless the record has a fault
unfoldable pub AreTouched : BalanceSheet → Edit → List Node → Type 0
AreTouched sheet edit list = (factors : FactorValues) (node : Node) → fault_of edit sheet ≡ None
    → IsTold factors sheet edit list node
