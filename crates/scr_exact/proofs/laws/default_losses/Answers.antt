use Rattle.scr_exact.proofs.DefaultEnclosures.{group-told, class-told, square-told}
use Rattle.scr_exact.proofs.laws.default_losses.Goals as goal

pub returns : goal.returns
returns c = record { group = group-told; class = class-told; squares = square-told }
