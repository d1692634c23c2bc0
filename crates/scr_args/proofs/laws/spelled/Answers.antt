use Rattle.scr_args.proofs.Spelling.{gives, spells}
use Rattle.scr_args.proofs.laws.spelled.Goals as goal

pub returns : goal.returns
returns c = λ words options. (gives words options, spells words options)
