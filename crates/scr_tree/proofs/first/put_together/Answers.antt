use Rattle.std.proofs.Common.{sym, subst, ◌∙◌}
use Rattle.scr_tree.specs.First.{AreRowsDone}
use Rattle.scr_tree.proofs.AllMade.{nothing-reckoned}
use Rattle.scr_tree.proofs.first.put_together.Goals as goal

pub enter_totals-requires-clause-totals : goal.enter_totals-requires-clause-totals
enter_totals-requires-clause-totals g c = c.as_slice.ensures.value ∙ c.requires.totals

pub enter_totals-requires-clause-nothing : goal.enter_totals-requires-clause-nothing
enter_totals-requires-clause-nothing g c = nothing-reckoned c.args.ground c.requires.ground c.args.figures c.requires.room

pub put_by_pieces-requires-clause-totals : goal.put_by_pieces-requires-clause-totals
put_by_pieces-requires-clause-totals g c κs within = c.as_slice-2.ensures.value ∙ c.requires.totals

pub put_groups-requires-clause-done : goal.put_groups-requires-clause-done
put_groups-requires-clause-done g c =
    subst (λ figures. AreRowsDone c.args.ground figures) (sym c.making_of-making.ensures) c.in_ok-links.ensures.rows

pub put_currencies-requires-clause-linked : goal.put_currencies-requires-clause-linked
put_currencies-requires-clause-linked g c = record { ground = c.requires.ground; links = c.in_ok-links.ensures.links }
