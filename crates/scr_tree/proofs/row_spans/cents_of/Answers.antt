use Rattle.std.proofs.Common.{slice_index_or, refl, ap, arith}
use Rattle.scr_ids.specs.declared.table.Table.TheVariants as tables
use Rattle.scr_tree.proofs.row_spans.cents_of.Goals as goal

pub bounds-cents-place : goal.bounds-cents-place
bounds-cents-place c =
    let place = c.in-Some.place in
    let one =
    c.len-numbers.ensures.apart c.args.first place.table place.row place.family tables.Security c.requires.0 0 c.in-Some.ensures.there c.requires.1 in
    let rows = one.rows in
    let low = c.requires.2 in
    omega (arith, rows, low)

pub offset_bounds-cents-place : goal.offset_bounds-cents-place
offset_bounds-cents-place c =
    let place = c.in-Some.place in
    let one =
    c.len-numbers.ensures.apart c.args.first place.table place.row place.family tables.Security c.requires.0 0 c.in-Some.ensures.there c.requires.1 in
    let rows = one.rows in
    let low = c.requires.2 in
    omega (arith, rows, low)

pub unreachable-requires : goal.unreachable-requires
unreachable-requires c = c.in-None.ensures.absent refl tables.Security c.requires.0 0 c.requires.1

pub returns : goal.returns
returns c = λ row at.
    let place = c.in-Some.place in
    let one = c.len-numbers.ensures.apart c.args.first place.table place.row place.family tables.Security row 0 c.in-Some.ensures.there at in
    ap (λ k. slice_index_or c.args.cents.now k 0) one.rows
