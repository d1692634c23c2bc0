-- How far roots over the tables of the formula spread, those of uncorrelated charges among them.
use Rattle.std.proofs.Common.{refl, arith, lit<, ℕ, pos}
use Rattle.scr_agg.specs.Correlated.{SpreadsBy, uncorrelated}
use Rattle.scr_agg.proofs.TableWidths.{known-spreads}
use Rattle.scr_profile.specs.declared.correlations.TheConstants.{BSCR, MARKET_0, MARKET_HALF, HEALTH, NONLIFE, NSLT}
use Rattle.scr_profile.specs.declared.correlations.TheConstants.{EQUITY, DEFAULT}
use Rattle.scr_profile.specs.declared.matrix.Matrix.{Matrix}

pub bscr-spreads : SpreadsBy 3 BSCR
bscr-spreads = known-spreads BSCR 3 refl refl (lit< tt) (omega arith)

pub market_0-spreads : SpreadsBy 3 MARKET_0
market_0-spreads = known-spreads MARKET_0 3 refl refl (lit< tt) (omega arith)

pub market_half-spreads : SpreadsBy 3 MARKET_HALF
market_half-spreads = known-spreads MARKET_HALF 3 refl refl (lit< tt) (omega arith)

pub health-spreads : SpreadsBy 2 HEALTH
health-spreads = known-spreads HEALTH 2 refl refl (lit< tt) (omega arith)

pub nonlife-spreads : SpreadsBy 2 NONLIFE
nonlife-spreads = known-spreads NONLIFE 2 refl refl (lit< tt) (omega arith)

pub nslt-spreads : SpreadsBy 2 NSLT
nslt-spreads = known-spreads NSLT 2 refl refl (lit< tt) (omega arith)

pub equity-spreads : SpreadsBy 2 EQUITY
equity-spreads = known-spreads EQUITY 2 refl refl (lit< tt) (omega arith)

pub default-spreads : SpreadsBy 2 DEFAULT
default-spreads = known-spreads DEFAULT 2 refl refl (lit< tt) (omega arith)

-- ---- two, three, five and six that are not correlated
abbrev pub apart : ℕ → Matrix
apart n = record { n = n; den = pos 1; cells = (uncorrelated n).rows }

pub two-spreads : SpreadsBy 2 (apart 2)
two-spreads = known-spreads (apart 2) 2 refl refl (lit< tt) (omega arith)

pub three-spreads : SpreadsBy 2 (apart 3)
three-spreads = known-spreads (apart 3) 2 refl refl (lit< tt) (omega arith)

pub five-spreads : SpreadsBy 3 (apart 5)
five-spreads = known-spreads (apart 5) 3 refl refl (lit< tt) (omega arith)

pub six-spreads : SpreadsBy 3 (apart 6)
six-spreads = known-spreads (apart 6) 3 refl refl (lit< tt) (omega arith)
