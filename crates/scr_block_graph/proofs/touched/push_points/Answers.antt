use Rattle.std.proofs.Common.{◌++◌, ap, ap₂, ◌∙◌}
use Rattle.scr_block_graph.specs.Books.{rolled_of}
use Rattle.scr_block_graph.specs.Told.{points_by, turn_at}
use Rattle.scr_block_graph.proofs.Answered.{on-ok}
use Rattle.scr_block_graph.proofs.Have.{have-either}
use Rattle.scr_block_graph.proofs.touched.push_points.Goals as goal

pub returns-clause-list : goal.returns-clause-list
returns-clause-list c =
    let at = turn_at c.args.edit.now (rolled_of c.args.book.now) in
    let one = c.turn_at-first.ensures.turn ∙ ap at c.sums_of-first.ensures.first in
    let two = c.turn_at-second.ensures.turn ∙ ap at c.sums_of-first.ensures.second in
    on-ok _ _ (λ e. e ∙ ap₂ (λ a b. c.args.list.now.items ++ points_by c.args.node.now a b) one two) c.push_turned.result c.push_turned.ensures

pub returns-clause-rolls : goal.returns-clause-rolls
returns-clause-rolls c =
    let book = rolled_of c.args.book.now in
    on-ok _ _
    (λ e. have-either book c.args.node.now
    (λ sum is. c.turn_at-first.ensures.own sum (c.sums_of-first.ensures.first ∙ is))
    (λ sum is. c.turn_at-second.ensures.own sum (c.sums_of-first.ensures.second ∙ is)))
    c.push_turned.result c.push_turned.ensures
