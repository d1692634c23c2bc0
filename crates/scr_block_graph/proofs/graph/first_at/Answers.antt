use Rattle.std.proofs.Common.{map, sym, ◌∙◌, arith}
use Rattle.std.specs.List.{range_with_len}
use Rattle.std.proofs.lemmas.List.FromFn.{length-map-range_with_len}
use Rattle.scr_sum_tree.specs.declared.blocks.Level.TheVariants as levels
use Rattle.scr_block_graph.specs.Graph.{block_point}
use Rattle.scr_block_graph.proofs.Placed.{part-none, part-there}
use Rattle.scr_block_graph.proofs.graph.first_at.Goals as goal

pub returns-then-own-among : goal.returns-then-own-among
returns-then-own-among c =
    let first = block_point c.args.sum.now levels.First in
    let start = c.places-among.ensures.start in
    let end = c.places-among.ensures.end in
    let before = c.if-own-among.true in
    let long = length-map-range_with_len first 0 c.args.count in
    c.block_at.ensures
    ∙ part-there (map first (range_with_len 0 c.args.count)) c.args.index c.args.place _
    (omega (arith, start, end, before)) (omega (arith, start, end, before)) (omega (arith, start, end, before, long))

pub returns-else-own-among : goal.returns-else-own-among
returns-else-own-among c =
    let first = block_point c.args.sum.now levels.First in
    let start = c.places-among.ensures.start in
    let end = c.places-among.ensures.end in
    let past = c.if-own-among.false in
    let long = length-map-range_with_len first 0 c.args.count in
    sym (part-none (map first (range_with_len 0 c.args.count)) c.args.index c.args.place (omega (arith, start, end, past, long)))
