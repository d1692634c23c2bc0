use Rattle.scr_conc.proofs.Squares.{squares-enclosed, root-encloses, concentration-encloses, squares-size, root-size}
use Rattle.scr_conc.proofs.laws.concentration_enclosure.Goals as goal

pub returns : goal.returns
returns c = record {
  sum = squares-enclosed;
  root = root-encloses;
  encloses = concentration-encloses;
  sum_size = squares-size;
  root_size = root-size;
}
