use Rattle.std.proofs.Common.{◌≡◌, true, false, refl, ◌∙◌}
use Rattle.scr_num.specs.Rounding.{ends}
use Rattle.scr_flow.specs.Due.{dues}
use Rattle.scr_nodes.specs.declared.node.Direction.TheVariants as directions
use Rattle.scr_rules.proofs.FallRows.{falls-within, kept-paid}
use Rattle.scr_rules.proofs.RowFigures.{fits-here, known-here, promised, total-promised, unit-small}
use Rattle.scr_rules.proofs.security_rows.unit_losses.Goals as goal

pub both_losses-requires-clause-days_in : goal.both_losses-requires-clause-days_in
both_losses-requires-clause-days_in c = rw c.as_slice.ensures (fits-here c.args.sheet.now c.args.position.now c.requires.row c.requires.valid).days

pub both_losses-requires-clause-near : goal.both_losses-requires-clause-near
both_losses-requires-clause-near c = rw (c.as_slice.ensures, c.requires.rates.asof) (fits-here c.args.sheet.now c.args.position.now c.requires.row c.requires.valid).near

pub both_losses-requires-clause-none_owed : goal.both_losses-requires-clause-none_owed
both_losses-requires-clause-none_owed c = rw c.as_slice.ensures (promised c.args.sheet.now c.args.position.now c.requires.row c.requires.valid)

pub both_losses-requires-clause-small : goal.both_losses-requires-clause-small
both_losses-requires-clause-small c = rw c.as_slice.ensures (fits-here c.args.sheet.now c.args.position.now c.requires.row c.requires.valid).small

pub falls_of-up-requires : goal.falls_of-up-requires
falls_of-up-requires c =
    falls-within c.args.sheet.now c.requires.valid c.args.position.now.security.currency c.args.rates.now.curves c.args.rates.now c.in-Some.place c.requires.rows c.requires.rates c.in-Some.ensures.place

pub falls_of-down-requires : goal.falls_of-down-requires
falls_of-down-requires c =
    falls-within c.args.sheet.now c.requires.valid c.args.position.now.security.currency c.args.rates.now.curves c.args.rates.now c.in-Some.place c.requires.rows c.requires.rates c.in-Some.ensures.place

pub returns-clause-up : goal.returns-clause-up
returns-clause-up c =
    let p = c.args.position.now in
    kept-paid c.args.sheet.now c.requires.valid c.args.position.now.security.currency c.args.rates.now.curves c.args.rates.now c.in-Some.place c.requires.rows c.requires.rates c.in-Some.ensures.place
    p.security.flows directions.Up (dues c.args.sheet.now.numbers.asof.number p.security.flows) c.falls_of-up.result.now (ends c.both_losses.result.0) c.falls_of-up.ensures refl
    (rw (c.as_slice.ensures, c.requires.rates.asof) at c.both_losses.ensures.first)

pub returns-clause-down : goal.returns-clause-down
returns-clause-down c =
    let p = c.args.position.now in
    kept-paid c.args.sheet.now c.requires.valid c.args.position.now.security.currency c.args.rates.now.curves c.args.rates.now c.in-Some.place c.requires.rows c.requires.rates c.in-Some.ensures.place
    p.security.flows directions.Down (dues c.args.sheet.now.numbers.asof.number p.security.flows) c.falls_of-down.result.now (ends c.both_losses.result.1) c.falls_of-down.ensures refl
    (rw (c.as_slice.ensures, c.requires.rates.asof) at c.both_losses.ensures.second)

pub returns-clause-up_within : goal.returns-clause-up_within
returns-clause-up_within c =
    let few = total-promised c.args.sheet.now c.args.position.now c.requires.row c.requires.valid in
    record {
      low = unit-small _ _ (rw c.as_slice.ensures at c.both_losses.ensures.first_low) few;
      high = unit-small _ _ (rw c.as_slice.ensures at c.both_losses.ensures.first_high) few;
    }

pub returns-clause-down_within : goal.returns-clause-down_within
returns-clause-down_within c =
    let few = total-promised c.args.sheet.now c.args.position.now c.requires.row c.requires.valid in
    record {
      low = unit-small _ _ (rw c.as_slice.ensures at c.both_losses.ensures.second_low) few;
      high = unit-small _ _ (rw c.as_slice.ensures at c.both_losses.ensures.second_high) few;
    }

pub unreachable-requires : goal.unreachable-requires
unreachable-requires c =
    let has = (known-here c.args.sheet.now c.args.position.now c.requires.row c.requires.valid).currency in
    let never : false ≡ true = c.in_default.ensures.there ∙ has in
    cc
