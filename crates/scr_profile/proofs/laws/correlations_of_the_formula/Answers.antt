use Rattle.std.proofs.Common.{refl}
use Rattle.scr_profile.specs.declared.correlations.TheConstants.{BSCR, MARKET_0, MARKET_HALF, LIFE, SLT, HEALTH}
use Rattle.scr_profile.specs.declared.correlations.TheConstants.{NONLIFE, NSLT, EQUITY, DEFAULT}
use Rattle.scr_profile.proofs.CorrelationRules.{is_correlation-holds}
use Rattle.scr_profile.proofs.laws.correlations_of_the_formula.Goals as goal

pub returns-clause-bscr : goal.returns-clause-bscr
returns-clause-bscr c = is_correlation-holds BSCR refl

pub returns-clause-market_0 : goal.returns-clause-market_0
returns-clause-market_0 c = is_correlation-holds MARKET_0 refl

pub returns-clause-market_half : goal.returns-clause-market_half
returns-clause-market_half c = is_correlation-holds MARKET_HALF refl

pub returns-clause-life : goal.returns-clause-life
returns-clause-life c = is_correlation-holds LIFE refl

pub returns-clause-slt : goal.returns-clause-slt
returns-clause-slt c = is_correlation-holds SLT refl

pub returns-clause-health : goal.returns-clause-health
returns-clause-health c = is_correlation-holds HEALTH refl

pub returns-clause-nonlife : goal.returns-clause-nonlife
returns-clause-nonlife c = is_correlation-holds NONLIFE refl

pub returns-clause-nslt : goal.returns-clause-nslt
returns-clause-nslt c = is_correlation-holds NSLT refl

pub returns-clause-equity : goal.returns-clause-equity
returns-clause-equity c = is_correlation-holds EQUITY refl

pub returns-clause-default : goal.returns-clause-default
returns-clause-default c = is_correlation-holds DEFAULT refl
