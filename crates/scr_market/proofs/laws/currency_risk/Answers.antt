use Rattle.scr_market.proofs.CurrencyLemmas.{rise-encloses, fall-encloses, rise-size, fall-size}
use Rattle.scr_market.proofs.laws.currency_risk.Goals as goal

pub returns-clause-rise : goal.returns-clause-rise
returns-clause-rise c = rise-encloses

pub returns-clause-fall : goal.returns-clause-fall
returns-clause-fall c = fall-encloses

pub returns-clause-rise_size : goal.returns-clause-rise_size
returns-clause-rise_size c = rise-size

pub returns-clause-fall_size : goal.returns-clause-fall_size
returns-clause-fall_size c = fall-size
