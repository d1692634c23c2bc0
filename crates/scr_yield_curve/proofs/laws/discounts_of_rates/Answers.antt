use Rattle.scr_yield_curve.proofs.PowerLemmas.{in_range}
use Rattle.scr_yield_curve.proofs.TableLemmas.{table_in_range, table_encloses}
use Rattle.scr_yield_curve.proofs.laws.discounts_of_rates.Goals as goal

pub returns : goal.returns
returns c = record { size = in_range; table = table_in_range; encloses = table_encloses }
