use Rattle.scr_cells.proofs.Bounded.{certified, market_bounded}
use Rattle.scr_cells.proofs.laws.enclosure.Goals as goal

pub returns : goal.returns
returns c = record { certified = certified; market = market_bounded }
