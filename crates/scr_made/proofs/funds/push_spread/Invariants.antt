-- What is made so far is appended.
use Rattle.scr_made.specs.Made.{spread_component}
use Rattle.scr_made.specs.Records.{Adds}
use Rattle.scr_made.specs.Draws.{each}
use Rattle.scr_made.proofs.funds.push_spread.Given as goal

abbrev pub invariant-loop-j : goal.invariant-loop-j
invariant-loop-j l =
    Adds (each l.j (spread_component l.first)) l.fn.draws.state l.fn.list.items l.draws.state l.list.items
