use Rattle.std.proofs.Common.{sym, subst, ◌∙◌}
use Rattle.scr_tree.specs.First.{AreRowsDone, AreLinkedTo, IsLinkGround}
use Rattle.scr_tree.specs.Turns.{turn}
use Rattle.scr_tree.proofs.AllMade.{all-made, nothing-reckoned}
use Rattle.scr_tree.proofs.Grounds.{for-links}
use Rattle.scr_tree.proofs.first.put_in_turn.Goals as goal

pub enter_totals-requires-clause-totals : goal.enter_totals-requires-clause-totals
enter_totals-requires-clause-totals g c = c.as_slice.ensures.value ∙ c.requires.totals

pub enter_totals-requires-clause-nothing : goal.enter_totals-requires-clause-nothing
enter_totals-requires-clause-nothing g c = nothing-reckoned c.args.ground c.requires.ground c.args.figures c.requires.room

pub put_rows-requires-clause-totals : goal.put_rows-requires-clause-totals
put_rows-requires-clause-totals g c = c.as_slice-2.ensures.value ∙ c.requires.totals

pub all_links-requires : goal.all_links-requires
all_links-requires g c = subst IsLinkGround (sym c.for_links.ensures) (for-links c.args.ground c.requires.ground)

pub put_groups-requires-clause-done : goal.put_groups-requires-clause-done
put_groups-requires-clause-done g c =
    subst (λ figures. AreRowsDone c.args.ground figures) (sym c.making_of-making.ensures) c.in_ok-put_rows.ensures

pub put_currencies-requires-clause-linked : goal.put_currencies-requires-clause-linked
put_currencies-requires-clause-linked g c = record {
  ground = c.requires.ground;
  links = subst (λ l. AreLinkedTo l c.in_ok-links.links (turn 7 0 153)) c.for_links.ensures c.in_ok-links.ensures;
}

pub put_wholes-requires-clause-linked : goal.put_wholes-requires-clause-linked
put_wholes-requires-clause-linked g c = record {
  ground = c.requires.ground;
  links = subst (λ l. AreLinkedTo l c.in_ok-links.links (turn 7 0 153)) c.for_links.ensures c.in_ok-links.ensures;
}

pub returns : goal.returns
returns g c =
    all-made c.args.ground c.requires.ground c.put_wholes.new.making.figures c.in_ok-links.links c.in_ok-put_wholes.ensures
    (subst (λ l. AreLinkedTo l c.in_ok-links.links (turn 7 0 153)) c.for_links.ensures c.in_ok-links.ensures)
