-- The lines end with the last newline.
use Rattle.scr_line_chunks.proofs.Closed.{up_to}
use Rattle.scr_line_chunks.proofs.passages.Passages.add.Goals as goal

pub close-requires-clause-lines : goal.close-requires-clause-lines
close-requires-clause-lines c =
    let last = c.in-Some.ensures in
    up_to c.args.bytes.now c.in-Some.end last.0.high last.1
