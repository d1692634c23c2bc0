use Rattle.scr_conc.proofs.Squares.{square-exact, square-none, square-size}
use Rattle.scr_conc.proofs.laws.squares.Goals as goal

pub returns : goal.returns
returns c = record { exact = square-exact; none = square-none; size = square-size }
