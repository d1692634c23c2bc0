use Rattle.scr_args.proofs.Workers.{within}
use Rattle.scr_args.proofs.laws.workers.Goals as goal

pub returns : goal.returns
returns c = λ words says said. within words says said
