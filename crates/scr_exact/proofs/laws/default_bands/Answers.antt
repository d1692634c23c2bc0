use Rattle.scr_rules.specs.Worked.{worked}
use Rattle.scr_exact.proofs.DefaultEnclosures.{band-has-decisive}
use Rattle.scr_exact.proofs.WorkedCovers.{worked-covering}
use Rattle.scr_exact.proofs.laws.default_bands.Goals as goal

pub returns : goal.returns
returns c = record {
  decisive = λ factors sheet valid. band-has-decisive factors sheet valid (worked factors sheet) (worked-covering factors sheet valid);
}
