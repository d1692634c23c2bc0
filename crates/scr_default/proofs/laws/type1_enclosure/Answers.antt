use Rattle.scr_num.specs.Rounding.{root_ends}
use Rattle.scr_default.specs.Type1Ends.{is_possible}
use Rattle.scr_default.specs.LossesEnds.{totals_in, squares_in}
use Rattle.scr_default.specs.Variance.{variance_exact}
use Rattle.scr_default.specs.VarianceEnds.{variance_ends}
use Rattle.scr_default.proofs.Enclosed.{variance-encloses}
use Rattle.scr_default.proofs.Band.{type1-encloses, type1-bit, mask-positive, mask-below, several, type1-size}
use Rattle.scr_default.proofs.laws.type1_enclosure.Goals as goal

pub returns : goal.returns
returns c = record {
  encloses = type1-encloses;
  over_losses = λ total totals squares. type1-encloses total (variance_ends totals squares)
      (variance_exact (totals_in totals) (squares_in squares)) (variance-encloses totals squares);
  band = type1-bit;
  some_band = mask-positive;
  several = λ total variance. several (is_possible (root_ends variance) total);
  no_other_bits = λ total variance. mask-below (is_possible (root_ends variance) total);
  size = type1-size;
}
