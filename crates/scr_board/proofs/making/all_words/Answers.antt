use Rattle.std.proofs.Common.{arith}
use Rattle.scr_board.specs.Making.{opening_words}
use Rattle.scr_board.proofs.Opening.{words-next}
use Rattle.scr_board.proofs.making.all_words.Goals as goal

pub loop-n-preserved : goal.loop-n-preserved
loop-n-preserved g c =
    let round = g.G.Graph.round c.args.graph.now in
    let more = c.loop-n-test.true in
    let count = c.nodes-n-end.ensures in
    words-next round.places c.loop-n.n c.source_count.result c.loop-n.words.items c.push_node.new.words.items (opening_words round)
    (omega (arith, more, count)) c.source_count.ensures c.in_ok-push_node.ensures c.loop-n.invariant
