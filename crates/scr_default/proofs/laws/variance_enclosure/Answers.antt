use Rattle.scr_default.proofs.Enclosed.{variance-encloses, variance-size, squares-size}
use Rattle.scr_default.proofs.laws.variance_enclosure.Goals as goal

pub returns : goal.returns
returns c = record {
  encloses = variance-encloses;
  size = λ totals squares h k. variance-size totals squares h (squares-size totals squares h k);
}
