use Rattle.std.proofs.Common.{arith}
use Rattle.std.proofs.lemmas.Option.{slice_get_within}
use Rattle.scr_cells.proofs.lines.line_at.Goals as goal

pub returns-in-None-clause-there : goal.returns-in-None-clause-there
returns-in-None-clause-there c = λ line is.
    let low = slice_get_within c.args.lines.now c.args.k line is in
    let past = c.in-None.ensures.lookup.3 in
    absurd (omega (arith, low, past))
