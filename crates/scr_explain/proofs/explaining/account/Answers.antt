use Rattle.std.proofs.Common.{◌∙◌, ◌++◌, ℕ, zero, Bool, false, List, [], ap, ap₂, sym, slice_get}
use Rattle.scr_explanation.specs.Account.{account}
use Rattle.scr_cells.specs.Table.{NamedFigure, table}
use Rattle.scr_explain.specs.Answer.{account_answer, heading}
use Rattle.scr_explain.proofs.Cells.{of_part}
use Rattle.scr_explain.proofs.explaining.account.Goals as goal

pub push_account-requires-clause-live : goal.push_account-requires-clause-live
push_account-requires-clause-live c = c.cell_node.ensures.live c.args.engine.now.sheet

pub returns : goal.returns
unfolding account_answer
returns c =
    let factors = c.args.engine.now.factors in
    let sheet = c.args.engine.now.sheet in
    let tree = of_part (λ (cell : NamedFigure). cell.node)
    (account factors sheet c.args.extent.top c.args.extent.depth zero) [] (slice_get table c.args.cell) _ c.cell_node.ensures.node in
    ap (λ (text : List ℕ). let answer : List ℕ × Bool = (text, false) in answer)
    (c.in_ok-push_account.ensures
    ∙ ap₂ (λ (front : List ℕ) (rest : List ℕ). front ++ rest)
    (c.in_ok-push_heading.ensures ∙ ap (λ (text : List ℕ). text ++ heading sheet c.args.cell) c.new-text.ensures.items)
    (sym tree))
