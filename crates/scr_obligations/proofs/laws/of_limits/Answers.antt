use Rattle.scr_obligations.proofs.Limits.{refused}
use Rattle.scr_obligations.proofs.laws.of_limits.Goals as goal

pub returns : goal.returns
returns g c = record { refused = λ most too_long due next bytes. refused most too_long due next bytes }
