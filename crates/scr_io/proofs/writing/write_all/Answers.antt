use Rattle.std.proofs.Common.{◌∙◌}
use Rattle.scr_io.proofs.Pieces.{Took-piece}
use Rattle.scr_io.proofs.writing.write_all.Goals as goal

pub pieces-preserved : goal.pieces-preserved
pieces-preserved g c =
    (Took-piece _ _ _ _ _ _ c.pieces.invariant.0 c.in_ok-count.ensures.appends, c.in_ok-count.ensures.steady ∙ c.pieces.invariant.1)
