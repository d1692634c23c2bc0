use Rattle.scr_tree.proofs.Ceiling.{no-ceiling}
use Rattle.scr_tree.proofs.opening.opened.Goals as goal

pub returns-clause-state : goal.returns-clause-state
returns-clause-state g c =
    let opened = c.in_ok-rates.ensures in
    record { rates = opened.rates; graph = opened.graph; figures = opened.figures; ceiling = no-ceiling _ _ _ c.new-2.ensures; size = opened.size }
