-- What contracts see of a `Factors` (this project's own).
use Rattle.scr_factors.specs.declared.values.Factors.TheInside.{Inside}
use Rattle.scr_factors.specs.Values.{FactorValues}

abbrev pub values_held : Inside → FactorValues
values_held a = record {
  spread = a.spread;
  nl_premium = a.nl_premium;
  nl_reserve = a.nl_reserve;
  correlations = a.correlations;
  nslt_premium = a.nslt_premium;
  nslt_reserve = a.nslt_reserve;
}
