use Rattle.std.proofs.Common.{slice_get, length, map, sym, ap, ◌∙◌}
use Rattle.std.specs.List.{range_with_len}
use Rattle.scr_sum_tree.specs.Blocks.{block_sources, part, parts}
use Rattle.scr_sum_tree.specs.declared.blocks.Level.TheVariants as levels
use Rattle.scr_sum_tree.proofs.PartLemmas.{part-map}
use Rattle.scr_block_graph.specs.Books.{rolled_of}
use Rattle.scr_block_graph.specs.Graph.{block_point, member_point, roll_in}
use Rattle.scr_block_graph.proofs.graph.block_source.Goals as goal

pub returns-in-First : goal.returns-in-First
returns-in-First c =
    let block = c.args.block.now in
    let roll = roll_in (rolled_of c.args.book.now) block.sum in
    c.member_at.ensures
    ∙ ap (λ list. slice_get list c.args.place)
    (ap (map (member_point block.sum)) (c.part.ensures ∙ ap (part block.index) c.members-names.ensures.names)
    ∙ sym (part-map (member_point block.sum) block.index roll)
    ∙ ap (λ level. block_sources (member_point block.sum) (block_point block.sum) roll level block.index) (sym c.in-First.is))

pub returns-in-Second : goal.returns-in-Second
returns-in-Second c =
    let block = c.args.block.now in
    let roll = roll_in (rolled_of c.args.book.now) block.sum in
    c.first_at.ensures
    ∙ ap (λ list. slice_get list c.args.place)
    (ap (λ n. part block.index (map (block_point block.sum levels.First) (range_with_len 0 n))) (c.parts.ensures ∙ ap (λ names. parts (length names)) c.members-names.ensures.names)
    ∙ ap (λ level. block_sources (member_point block.sum) (block_point block.sum) roll level block.index) (sym c.in-Second.is))
