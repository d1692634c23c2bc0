use Rattle.std.proofs.Common.{refl}
use Rattle.scr_args.proofs.Matched.{matched, taken_words}
use Rattle.scr_args.specs.Command.{program}
use Rattle.scr_args.proofs.laws.clap_agrees.Goals as goal

pub returns : goal.returns
returns c = record {
  takes = taken_words;
  finds = λ words matches some has. matched words program matches _ refl has refl some;
}
