use Rattle.std.proofs.Common.{ap, arith, length, subst, sym, ◌∙◌}
use Rattle.scr_subgraph.specs.Naming.{AreBelow, AreNamed}
use Rattle.scr_subgraph.proofs.Entering.{below-at, naming_done, naming_next, naming_none, naming_room, rows-from}
use Rattle.scr_subgraph.proofs.round.all_dependants.Goals as goal

pub loop-place-init : goal.loop-place-init
loop-place-init c = record {
  naming = naming_none c.args.slots.now c.in_ok-lists.lists.rows
      (c.in_ok-lists.ensures.count ∙ ap length c.as_slice.ensures.value ∙ c.in_ok-counts.ensures.long) c.in_ok-lists.ensures.empty;
  rooms = c.in_ok-lists.ensures.rooms ∙ c.as_slice.ensures.value;
}

pub enter-requires-clause-below : goal.enter-requires-clause-below
enter-requires-clause-below c =
    subst (λ n. AreBelow n c.row.result.now) (sym c.loop-place.invariant.naming.long)
    (below-at (length c.args.slots.now) c.args.slots.now c.loop-place.place c.row.result.now (omega arith) c.row.ensures c.requires.within)

pub enter-requires-clause-room : goal.enter-requires-clause-room
enter-requires-clause-room c =
    naming_room c.args.slots.now c.loop-place.lists c.in_ok-counts.counts.items c.loop-place.place c.row.result.now c.loop-place.invariant.naming
    c.loop-place.invariant.rooms c.in_ok-counts.ensures
    (rows-from c.args.slots.now c.loop-place.place c.row.result.now (omega arith) c.row.ensures)

pub loop-place-preserved : goal.loop-place-preserved
loop-place-preserved c = record {
  naming = naming_next c.args.slots.now c.loop-place.lists.rows c.enter.new.lists.rows c.loop-place.place c.row.result.now
      c.loop-place.invariant.naming (rows-from c.args.slots.now c.loop-place.place c.row.result.now (omega arith) c.row.ensures) c.enter.ensures.entered;
  rooms = c.enter.ensures.rooms ∙ c.loop-place.invariant.rooms;
}

pub returns : goal.returns
returns c =
    subst (AreNamed c.args.slots.now) (sym c.into_rows.ensures)
    (naming_done c.args.slots.now c.loop-place.lists.rows c.loop-place.place (omega arith) c.loop-place.invariant.naming)
