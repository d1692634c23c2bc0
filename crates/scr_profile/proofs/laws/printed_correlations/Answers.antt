use Rattle.std.proofs.Common.{pos, refl}
use Rattle.scr_profile.specs.declared.correlations.TheConstants.{BSCR, MARKET_0, MARKET_HALF, LIFE, SLT, HEALTH}
use Rattle.scr_profile.specs.declared.correlations.TheConstants.{NONLIFE, NSLT, EQUITY, DEFAULT}
use Rattle.scr_profile.specs.CorrelationTables.{bscr, market, life, slt, health, nonlife, nslt, equity, default}
use Rattle.scr_profile.proofs.PrintedRules.{is_printed-holds}
use Rattle.scr_profile.proofs.laws.printed_correlations.Goals as goal

pub returns-clause-bscr : goal.returns-clause-bscr
returns-clause-bscr c = is_printed-holds 5 bscr BSCR refl refl

pub returns-clause-market_0 : goal.returns-clause-market_0
returns-clause-market_0 c = is_printed-holds 6 (market (pos 0)) MARKET_0 refl refl

pub returns-clause-market_half : goal.returns-clause-market_half
returns-clause-market_half c = is_printed-holds 6 (market (pos 50)) MARKET_HALF refl refl

pub returns-clause-life : goal.returns-clause-life
returns-clause-life c = is_printed-holds 7 life LIFE refl refl

pub returns-clause-slt : goal.returns-clause-slt
returns-clause-slt c = is_printed-holds 6 slt SLT refl refl

pub returns-clause-health : goal.returns-clause-health
returns-clause-health c = is_printed-holds 3 health HEALTH refl refl

pub returns-clause-nonlife : goal.returns-clause-nonlife
returns-clause-nonlife c = is_printed-holds 3 nonlife NONLIFE refl refl

pub returns-clause-nslt : goal.returns-clause-nslt
returns-clause-nslt c = is_printed-holds 4 nslt NSLT refl refl

pub returns-clause-equity : goal.returns-clause-equity
returns-clause-equity c = is_printed-holds 2 equity EQUITY refl refl

pub returns-clause-default : goal.returns-clause-default
returns-clause-default c = is_printed-holds 2 default DEFAULT refl refl
