use Rattle.std.proofs.Common.{arith}
use Rattle.scr_ids.proofs.Runs.{owner-told}
use Rattle.scr_ids.proofs.places.owner_of.Goals as goal

pub run_of-requires-clause-first : goal.run_of-requires-clause-first
run_of-requires-clause-first c = omega (arith, c.requires.begin)

pub returns : goal.returns
returns c =
    owner-told c.args.runs.now c.requires c.args.number c.run_of.result c.run_of.ensures.known c.run_of.ensures.low c.run_of.ensures.high
    _ _ c.split-row.ensures.rows c.split-row.ensures.rest
