use Rattle.scr_exact.proofs.Enclosures.{node-encloses}
use Rattle.scr_exact.proofs.WorkedCovers.{market-least, modules-least, worked-covering}
use Rattle.scr_exact.proofs.laws.covering.Goals as goal

pub returns : goal.returns
returns c = record { encloses = node-encloses; worked = worked-covering; market = market-least; modules = modules-least }
