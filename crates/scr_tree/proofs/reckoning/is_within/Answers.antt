use Rattle.std.proofs.Common.{◌+◌, ◌<◌, IfSome, IsNone, refl, sym, subst, arith}
use Rattle.scr_ids.specs.Ranges.{IsAt, count, first}
use Rattle.scr_ids.specs.declared.table.Table.{Table}
use Rattle.scr_ids.specs.declared.table.Table.TheVariants as ranged
use Rattle.scr_partial_sums.specs.Tables.{IsAmountBeforeNothing}
use Rattle.scr_tree.proofs.reckoning.is_within.Goals as goal

pub first-first-requires : goal.first-first-requires
first-first-requires c =
    let there = subst (λ o. IfSome o (λ p. IsAt c.args.places.now p.table p.row p.family c.args.number)) c.in-Some.is c.at.ensures.there in
    subst (λ (table : Table). c.in-Some.place.row < count c.args.places.now table) c.in-Group.is there.row

pub is_amount_before_nothing-requires : goal.is_amount_before_nothing-requires
is_amount_before_nothing-requires c =
    let there = subst (λ o. IfSome o (λ p. IsAt c.args.places.now p.table p.row p.family c.args.number)) c.in-Some.is c.at.ensures.there in
    let row : c.in-Some.place.row < count c.args.places.now ranged.Group = subst (λ (table : Table). c.in-Some.place.row < count c.args.places.now table) c.in-Group.is there.row in
    let low = c.len.ensures.within (first c.args.places.now ranged.Group c.in-Some.place.row + 1) ranged.Group c.in-Some.place.row 1
    (record { row = row; family = omega arith; is = refl }) in
    omega (arith, low, c.requires, c.first-first.ensures.first)

pub returns-in-Group : goal.returns-in-Group
returns-in-Group c = λ yes row family at.
    let there = subst (λ o. IfSome o (λ p. IsAt c.args.places.now p.table p.row p.family c.args.number)) c.in-Some.is c.at.ensures.there in
    let one = c.len.ensures.apart c.args.number ranged.Group row family c.in-Some.place.table c.in-Some.place.row c.in-Some.place.family at there in
    subst (λ k. IsAmountBeforeNothing c.args.most c.args.figures.now (first c.args.places.now ranged.Group k)) (sym one.rows)
    (subst (IsAmountBeforeNothing c.args.most c.args.figures.now) c.first-first.ensures.first (c.is_amount_before_nothing.ensures.yes yes))

pub returns-in_default-table : goal.returns-in_default-table
returns-in_default-table c = λ yes row family at.
    let there = subst (λ o. IfSome o (λ p. IsAt c.args.places.now p.table p.row p.family c.args.number)) c.in-Some.is c.at.ensures.there in
    let one = c.len.ensures.apart c.args.number ranged.Group row family c.in-Some.place.table c.in-Some.place.row c.in-Some.place.family at there in
    absurd (c.in_default-table.not-Group (sym one.tables))

pub returns-in_default : goal.returns-in_default
returns-in_default c = λ yes row family at. absurd (c.at.ensures.absent (subst (λ found. IsNone found) (sym c.in_default.is) refl) ranged.Group row family at)
