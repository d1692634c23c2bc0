use Rattle.scr_rules.specs.Worked.{worked}
use Rattle.scr_exact.proofs.Enclosed.{node-encloses}
use Rattle.scr_exact.proofs.Enclosures.{choice-has-decisive}
use Rattle.scr_exact.proofs.MarketEnclosures.{change-choice-has-decisive}
use Rattle.scr_exact.proofs.WorkedCovers.{worked-covering}
use Rattle.scr_exact.proofs.laws.enclosure.Goals as goal

pub returns : goal.returns
returns c = record {
  encloses = node-encloses;
  interest = λ factors sheet valid. choice-has-decisive factors sheet valid (worked factors sheet) (worked-covering factors sheet valid);
  currency = λ factors sheet valid. change-choice-has-decisive factors sheet valid (worked factors sheet) (worked-covering factors sheet valid);
}
