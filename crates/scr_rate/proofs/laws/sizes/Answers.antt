use Rattle.scr_rate.proofs.SizeLemmas.{sum-within, sum-low, gross-within, gross-low, net-within, net-low, scenario-cost}
use Rattle.scr_rate.proofs.laws.sizes.Goals as goal

pub returns : goal.returns
returns c = record {
  sum = sum-within;
  sum_low = sum-low;
  gross = gross-within;
  gross_low = gross-low;
  net = net-within;
  net_low = net-low;
  scenario = scenario-cost;
}
