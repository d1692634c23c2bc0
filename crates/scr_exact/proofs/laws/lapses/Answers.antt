use Rattle.scr_rules.specs.Worked.{worked}
use Rattle.scr_exact.proofs.LifeEnclosures.{life_choice-has-decisive, health_choice-has-decisive}
use Rattle.scr_exact.proofs.WorkedCovers.{worked-covering}
use Rattle.scr_exact.proofs.laws.lapses.Goals as goal

pub returns : goal.returns
returns c = record {
  life = λ factors sheet valid. life_choice-has-decisive factors sheet valid (worked factors sheet) (worked-covering factors sheet valid);
  health = λ factors sheet valid. health_choice-has-decisive factors sheet valid (worked factors sheet) (worked-covering factors sheet valid);
}
