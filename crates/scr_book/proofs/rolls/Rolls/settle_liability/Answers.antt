use Rattle.std.proofs.Common.{◌≡◌, false, length, map, refl, sym, ap, ◌∙◌, arith}
use Rattle.std.proofs.lemmas.List.{length-map}
use Rattle.scr_tables.specs.Tables.{row_of}
use Rattle.scr_member_lists.specs.Seatings.{seat_at, target}
use Rattle.scr_sheet.specs.BalanceSheet.{liability_name}
use Rattle.scr_sheet.specs.declared.keys.Table.{Table}
use Rattle.scr_sheet.specs.declared.keys.Table.TheVariants as tables
use Rattle.scr_book.specs.Rolls.{liability_rolls, same_table, seated_in}
use Rattle.scr_book.proofs.RollLaws.{own-before, row-listed}
use Rattle.scr_book.proofs.RollSteps.{for-seats, liability-seat, room-for, row-at, settles}
use Rattle.scr_book.proofs.rolls.Rolls.settle_liability.Goals as goal

pub arrange-requires : goal.arrange-requires
arrange-requires c =
    let found = row-at liability_name c.args.sheet.now.liabilities c.placed-place.result c.at.result.now c.args.name.now c.len-count.ensures.apart c.at.ensures c.placed-place.ensures.name in
    let told : c.losses_of-rolls.result ≡ liability_rolls c.args.lines c.args.losses (row_of liability_name c.args.name.now c.args.sheet.now.liabilities) =
    c.losses_of-rolls.ensures ∙ ap (liability_rolls c.args.lines c.args.losses) (sym found) in
    let long : length c.losses_of-rolls.result ≡ 11 = ap length c.losses_of-rolls.ensures in (
      omega arith,
      (
        c.placed-place.ensures.seated,
        (
          c.placed-place.ensures.place,
          (
            omega (arith, long),
            (
              for-seats c.args.self.now.liabilities.rolls c.placed-place.new.self.rolls c.losses_of-rolls.result (seat_at c.placed-place.result c.placed-place.new.self.seats)
                  (λ seat. target seat (liability_rolls c.args.lines c.args.losses (row_of liability_name c.args.name.now c.args.sheet.now.liabilities))) c.placed-place.ensures.rolls
                  (λ seat. ap (target seat) (sym told)) (omega (arith, long)) c.requires.0.fits,
              room-for c.args.self.now.liabilities.rolls c.placed-place.new.self.rolls c.losses_of-rolls.result (seat_at c.placed-place.result c.placed-place.new.self.seats)
                  (λ seat. target seat (liability_rolls c.args.lines c.args.losses (row_of liability_name c.args.name.now c.args.sheet.now.liabilities))) c.placed-place.ensures.rolls
                  (λ seat. ap (target seat) (sym told)) _ c.placed-place.ensures.seats c.requires.0.room,
            ),
          ),
        ),
      ),
    )

pub returns : goal.returns
returns c =
    let place = c.placed-place.ensures.place in
    let rows = length-map c.args.sheet.now.liabilities liability_name in
    let found = row-at liability_name c.args.sheet.now.liabilities c.placed-place.result c.at.result.now c.args.name.now c.len-count.ensures.apart c.at.ensures c.placed-place.ensures.name in
    let told : c.losses_of-rolls.result ≡ liability_rolls c.args.lines c.args.losses (row_of liability_name c.args.name.now c.args.sheet.now.liabilities) =
    c.losses_of-rolls.ensures ∙ ap (liability_rolls c.args.lines c.args.losses) (sym found) in
    let long : length c.losses_of-rolls.result ≡ 11 = ap length c.losses_of-rolls.ensures in
    settles tables.Liability c.args.name.now (λ seat. target seat (liability_rolls c.args.lines c.args.losses (row_of liability_name c.args.name.now c.args.sheet.now.liabilities)))
    c.args.sheet.now c.args.self.now (record c.args.self.now { liabilities = c.arrange.new.self }) c.placed-place.new.self c.placed-place.result c.losses_of-rolls.result c.placed-place.ensures.rolls
    (λ seat. ap (target seat) (sym told)) elsewhere refl refl refl (λ roll e. let few = liability-seat roll e in omega (arith, few, long))
    c.arrange.ensures.seated c.arrange.ensures.seats c.arrange.ensures.room c.placed-place.ensures.name
    (own-before (map liability_name c.args.sheet.now.liabilities) c.arrange.new.self c.arrange.ensures.seated c.len-count.ensures.apart c.placed-place.result (omega (arith, place, rows)) c.args.name.now c.placed-place.ensures.name)
    (row-listed (map liability_name c.args.sheet.now.liabilities) c.placed-place.new.self c.placed-place.ensures.seated c.len-count.ensures.apart c.placed-place.result (omega (arith, place, rows)) c.args.name.now c.placed-place.ensures.name)
    c.arrange.ensures.own c.arrange.ensures.names
  where
    elsewhere : (other : Table) → same_table other tables.Liability ≡ false → seated_in other (record c.args.self.now { liabilities = c.arrange.new.self }) ≡ seated_in other c.args.self.now
    elsewhere tables.Liability apart = absurd (cc)
    elsewhere tables.Security apart = refl
    elsewhere tables.Fund apart = refl
    elsewhere tables.Group apart = refl
    elsewhere tables.Bank apart = refl
    elsewhere tables.Rein apart = refl
    elsewhere tables.Curve apart = refl
