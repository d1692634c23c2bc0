use Rattle.scr_tests.proofs.Rungs.{workable}
use Rattle.scr_tests.proofs.board.spans.Goals as goal

pub spans_by-requires-clause-due : goal.spans_by-requires-clause-due
spans_by-requires-clause-due g c κs within = workable c.args.dues.now c.requires
