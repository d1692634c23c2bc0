use Rattle.scr_conc.proofs.Table.{any_threshold, any_factor, threshold-exact, factor-exact, charge-size}
use Rattle.scr_conc.proofs.laws.thresholds_and_factors.Goals as goal

pub returns : goal.returns
returns c = record {
  thresholds = any_threshold;
  factors = any_factor;
  threshold = threshold-exact;
  factor = factor-exact;
  most = charge-size;
}
