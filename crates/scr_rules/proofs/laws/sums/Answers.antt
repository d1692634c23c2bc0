use Rattle.scr_rules.proofs.BySums.{rule-by-sum, rule-by-two-sums, fits-by-sums, fits-by-two-sums}
use Rattle.scr_rules.proofs.laws.sums.Goals as goal

pub returns : goal.returns
returns c = record { one = rule-by-sum; two = rule-by-two-sums; fits_one = fits-by-sums; fits_two = fits-by-two-sums }
