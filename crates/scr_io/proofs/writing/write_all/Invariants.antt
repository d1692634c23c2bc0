-- What was taken so far and what is left make up the bytes.
use Rattle.std.proofs.Common.{◌≡◌, length}
use Rattle.scr_io.proofs.Pieces.{Took}
use Rattle.scr_io.proofs.writing.write_all.Given as goal

abbrev pub invariant-pieces : goal.invariant-pieces
invariant-pieces g l =
    Took (g.K.Sink.written l.fn.sink) (g.K.Sink.written l.sink) l.bytes l.rest
    × (g.K.Sink.faults l.sink ≡ g.K.Sink.faults l.fn.sink)

abbrev pub decreases-pieces : goal.decreases-pieces
decreases-pieces g l = length l.rest
