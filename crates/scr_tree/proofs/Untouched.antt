-- What a record that the book has taken does not touch is the same before and after it.
use Rattle.std.proofs.Common.{◌≡◌, ◌||◌, true, Contains, sym, subst}
use Rattle.std.specs.Prelude.{IsTrue}
use Rattle.scr_factors.specs.Values.{FactorValues}
use Rattle.scr_sheet.specs.Records.{applied}
use Rattle.scr_sheet.specs.Validity.{Valid}
use Rattle.scr_nodes.specs.Changed.{IsChanged, IsSame}
use Rattle.scr_nodes.specs.Live.{is_live}
use Rattle.scr_nodes.specs.declared.node.Node.{Node}
use Rattle.scr_book.specs.RolledSheets.{RolledSheet}
use Rattle.scr_touched.specs.Touched.{AreTouched}
use Rattle.scr_touched.proofs.Whole.{all-touched}
use Rattle.scr_block_graph.specs.Books.{rolled_of}
use Rattle.scr_block_graph.specs.Changed.{IsSameIn}
use Rattle.scr_block_graph.specs.Graph.{AreRolls, Rolled, is_live_in}
use Rattle.scr_block_graph.specs.Touched.{applied_in}
use Rattle.scr_block_graph.specs.declared.point.Point.{Point}
use Rattle.scr_block_graph.proofs.Untouched.{untouched-same}
use Rattle.scr_tree.specs.Changed.{IsTakenFrom}
use Rattle.scr_tree.specs.declared.edits.Taken.{Taken}

module _ (factors : FactorValues) (before after : RolledSheet) (taken : Taken) (by : IsTakenFrom factors before after taken) where
  -- the book after is what the record makes of the one before
  pub taken-is : rolled_of after ≡ applied_in taken.edit.now (rolled_of before)
  taken-is = λ i. record { sheet = by.sheet i; rolls = λ roll. by.rolls roll i }

  rest : (node : Node) → (IsChanged factors before.sheet (applied taken.edit.now before.sheet) node → ⊥)
      → IsTrue (is_live before.sheet node || is_live (applied taken.edit.now before.sheet) node)
      → IsSame factors before.sheet (applied taken.edit.now before.sheet) node
  unfolding AreTouched
  rest node apart live =
      let told = all-touched before.sheet taken.edit.now by.valid factors node by.none in
      told.rest (λ has. apart (told.listed.0 has)) live

  pub untouched : Valid after.sheet → AreRolls (rolled_of before) → (point : Point) → (Contains taken.touched.now point → ⊥)
      → (is_live_in (rolled_of before) point || is_live_in (rolled_of after) point) ≡ true
      → IsSameIn factors (rolled_of before) (rolled_of after) point
  untouched later rolls point none live =
      subst (λ (book : Rolled). IsSameIn factors (rolled_of before) book point) (sym taken-is)
      (untouched-same factors taken.edit.now (rolled_of before) by.valid (subst Valid by.sheet later) rolls rest point
      (λ is. none ((by.touched point).1 is))
      (subst (λ (book : Rolled). IsTrue (is_live_in (rolled_of before) point || is_live_in book point)) taken-is live))
