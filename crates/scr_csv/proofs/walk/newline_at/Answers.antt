-- The place of the first newline.
use Rattle.std.proofs.Common.{◌==◌}
use Rattle.scr_csv.proofs.Cuts.{first_place}
use Rattle.scr_csv.proofs.walk.newline_at.Goals as goal

pub returns-clause-place : goal.returns-clause-place
returns-clause-place c = first_place (λ b. b == 10) c.args.bytes.now c.memchr.result c.memchr.ensures
