use Rattle.std.proofs.Common.{refl, arith, lit<}
use Rattle.scr_profile.specs.declared.correlations.TheConstants.{BSCR, MARKET_0, MARKET_HALF, HEALTH, NONLIFE, NSLT}
use Rattle.scr_profile.specs.declared.correlations.TheConstants.{EQUITY, DEFAULT}
use Rattle.scr_agg.proofs.RootWidths.{narrow-table, narrow-life, narrow-slt}
use Rattle.scr_agg.proofs.TableWidths.{known-spreads}
use Rattle.scr_agg.proofs.laws.roots_spread.Goals as goal

pub returns-clause-table : goal.returns-clause-table
returns-clause-table c =
    λ m k is none some size mosts widths parts count h g.
    narrow-table m k mosts widths parts is none some size count h g

pub returns-clause-life : goal.returns-clause-life
returns-clause-life c = narrow-life

pub returns-clause-slt : goal.returns-clause-slt
returns-clause-slt c = narrow-slt

pub returns-clause-bscr : goal.returns-clause-bscr
returns-clause-bscr c = known-spreads BSCR 3 refl refl (lit< tt) (omega arith)

pub returns-clause-market_0 : goal.returns-clause-market_0
returns-clause-market_0 c = known-spreads MARKET_0 3 refl refl (lit< tt) (omega arith)

pub returns-clause-market_half : goal.returns-clause-market_half
returns-clause-market_half c = known-spreads MARKET_HALF 3 refl refl (lit< tt) (omega arith)

pub returns-clause-health : goal.returns-clause-health
returns-clause-health c = known-spreads HEALTH 2 refl refl (lit< tt) (omega arith)

pub returns-clause-nonlife : goal.returns-clause-nonlife
returns-clause-nonlife c = known-spreads NONLIFE 2 refl refl (lit< tt) (omega arith)

pub returns-clause-nslt : goal.returns-clause-nslt
returns-clause-nslt c = known-spreads NSLT 2 refl refl (lit< tt) (omega arith)

pub returns-clause-equity : goal.returns-clause-equity
returns-clause-equity c = known-spreads EQUITY 2 refl refl (lit< tt) (omega arith)

pub returns-clause-default : goal.returns-clause-default
returns-clause-default c = known-spreads DEFAULT 2 refl refl (lit< tt) (omega arith)
