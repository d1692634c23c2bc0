use Rattle.scr_figure_ids.proofs.Live.{live-stands, named-once}
use Rattle.scr_figure_ids.proofs.Standing.{exact, only}
use Rattle.scr_figure_ids.proofs.laws.numbers.Goals as goal

pub returns-clause-live : goal.returns-clause-live
returns-clause-live c = live-stands

pub returns-clause-only : goal.returns-clause-only
returns-clause-only c = λ sheet places valid. only sheet places (named-once sheet valid)

pub returns-clause-exact : goal.returns-clause-exact
returns-clause-exact c = exact
