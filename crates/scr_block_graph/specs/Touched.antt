-- The points that a record touches (own): points whose own data or sources it changes, and points that it makes or removes.
use Rattle.std.specs.Prelude.{◌≡◌, ◌⊎◌, true, Contains}
use Rattle.scr_factors.specs.Values.{FactorValues}
use Rattle.scr_book.specs.Rolls.{rolled}
use Rattle.scr_sheet.specs.Records.{applied}
use Rattle.scr_sheet.specs.declared.edit.Edit.{Edit}
use Rattle.scr_sheet.specs.declared.sheet.BalanceSheet.{BalanceSheet}
use Rattle.scr_nodes.specs.Live.{is_live}
use Rattle.scr_nodes.specs.Sources.{sources_of}
use Rattle.scr_nodes.specs.declared.node.Node.{Node}
use Rattle.scr_block_graph.specs.Changed.{IsChangedIn}
use Rattle.scr_block_graph.specs.Graph.{Rolled}
use Rattle.scr_block_graph.specs.declared.point.Point.{Point}

-- The book after the record (own).
abbrev pub applied_in : Edit → Rolled → Rolled
applied_in edit book = record { sheet = applied edit book.sheet; rolls = λ roll. rolled edit book.sheet roll (book.rolls roll) }

-- The record touches the point: the books before and after it differ in it (own).
abbrev pub IsTouchedIn : FactorValues → Rolled → Edit → Point → Type 0
IsTouchedIn factors book edit point = IsChangedIn factors book (applied_in edit book) point

-- The balance sheet has the edge from `source` to the figure (own).
abbrev pub IsPair : BalanceSheet → Node → Node → Type 0
IsPair sheet node source = (is_live sheet node ≡ true) × Contains (sources_of sheet node) source

-- Exactly one of two balance sheets has the edge from `source` to the figure (own).
abbrev pub IsGainedOrLost : BalanceSheet → BalanceSheet → Node → Node → Type 0
IsGainedOrLost before after node source =
    (IsPair before node source × ¬ IsPair after node source) ⊎ (IsPair after node source × ¬ IsPair before node source)
