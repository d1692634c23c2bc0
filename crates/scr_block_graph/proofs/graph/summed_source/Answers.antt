use Rattle.std.proofs.Common.{◌-◌, Some, length, slice_get, sym, ap, ◌∙◌}
use Rattle.scr_sum_tree.specs.Blocks.{top_count}
use Rattle.scr_sum_tree.proofs.TopChanges.{length-tops}
use Rattle.scr_block_graph.specs.Books.{rolled_of}
use Rattle.scr_block_graph.specs.Graph.{block_point, member_point, roll_in, tops_of}
use Rattle.scr_block_graph.specs.Sums.{second_sum}
use Rattle.scr_block_graph.proofs.Placed.{behind-of, front-of}
use Rattle.scr_block_graph.proofs.graph.summed_source.Goals as goal

pub returns-then-place-count : goal.returns-then-place-count
returns-then-place-count c =
    let book = rolled_of c.args.book.now in
    let sum = c.args.first.now in
    c.top.ensures
    ∙ front-of (tops_of book (Some sum)) (tops_of book (second_sum c.args.node.now)) c.args.place _
    (length-tops (member_point sum) (block_point sum) (roll_in book sum) ∙ ap (λ names. top_count (length names)) (sym c.members.ensures.names) ∙ sym c.top_count-count.ensures)
    c.if-place-count.true

pub returns-in-Some : goal.returns-in-Some
returns-in-Some c =
    let book = rolled_of c.args.book.now in
    let sum = c.args.first.now in
    c.top-in-Some.ensures
    ∙ ap (λ s. slice_get (tops_of book s) (c.args.place - c.top_count-count.result)) (sym (sym c.second_sum.ensures ∙ c.in-Some.is))
    ∙ behind-of (tops_of book (Some sum)) (tops_of book (second_sum c.args.node.now)) c.args.place _
    (length-tops (member_point sum) (block_point sum) (roll_in book sum) ∙ ap (λ names. top_count (length names)) (sym c.members.ensures.names) ∙ sym c.top_count-count.ensures)
    c.if-place-count.false

pub returns-in-None : goal.returns-in-None
returns-in-None c =
    let book = rolled_of c.args.book.now in
    let sum = c.args.first.now in
    ap (λ s. slice_get (tops_of book s) (c.args.place - c.top_count-count.result)) (sym (sym c.second_sum.ensures ∙ c.in-None.is))
    ∙ behind-of (tops_of book (Some sum)) (tops_of book (second_sum c.args.node.now)) c.args.place _
    (length-tops (member_point sum) (block_point sum) (roll_in book sum) ∙ ap (λ names. top_count (length names)) (sym c.members.ensures.names) ∙ sym c.top_count-count.ensures)
    c.if-place-count.false
