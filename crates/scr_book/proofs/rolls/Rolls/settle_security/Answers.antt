use Rattle.std.proofs.Common.{◌≡◌, Some, false, length, map, set, refl, sym, ap, ◌∙◌, arith}
use Rattle.std.specs.Prelude.{if◌then◌else◌}
use Rattle.std.specs.Option.{option_map_or}
use Rattle.std.proofs.lemmas.List.{length-map}
use Rattle.scr_member_lists.specs.Seatings.{NOWHERE, seat_at, target}
use Rattle.scr_sheet.specs.BalanceSheet.{position_name, position_of}
use Rattle.scr_sheet.specs.Members.{is_paying}
use Rattle.scr_sheet.specs.declared.keys.Table.{Table}
use Rattle.scr_sheet.specs.declared.keys.Table.TheVariants as tables
use Rattle.scr_book.specs.Rolls.{same_table, seated_in, security_rolls}
use Rattle.scr_book.proofs.RollLaws.{own-before, row-listed}
use Rattle.scr_book.proofs.RollSteps.{five, for-seats, room-for, row-at, security-seat, settles}
use Rattle.scr_book.proofs.rolls.Rolls.settle_security.Goals.{else-not-is_paying, then-not-is_paying}
use Rattle.scr_book.proofs.rolls.Rolls.settle_security.Goals as goal

pub arrange-requires : goal.arrange-requires
arrange-requires c =
    let found : position_of c.args.name.now c.args.sheet.now.securities ≡ Some c.at.result.now =
    row-at position_name c.args.sheet.now.securities c.placed-place.result c.at.result.now c.args.name.now c.len-count.ensures.apart c.at.ensures c.placed-place.ensures.name in
    let pays = ap (λ o. option_map_or is_paying o false) found ∙ sym c.is_paying.ensures in
    let told : c.if-not-is_paying.numbers ≡ security_rolls c.args.numbers (position_of c.args.name.now c.args.sheet.now.securities) =
    elim c.if-not-is_paying.branch [
      | then-not-is_paying w ↦ w.numbers-is ∙ sym (ap (λ b. if b then c.args.numbers else set c.args.numbers 4 NOWHERE) (pays ∙ w.if-not-is_paying.true))
      | else-not-is_paying w ↦ w.numbers-is ∙ sym (ap (λ b. if b then c.args.numbers else set c.args.numbers 4 NOWHERE) (pays ∙ w.if-not-is_paying.false))
    ] in
    let long : length c.if-not-is_paying.numbers ≡ 5 = ap length told ∙ five c.args.numbers c.requires.1 (option_map_or is_paying (position_of c.args.name.now c.args.sheet.now.securities) false) in (
      omega arith,
      (
        c.placed-place.ensures.seated,
        (
          c.placed-place.ensures.place,
          (
            omega (arith, long),
            (
              for-seats c.args.self.now.securities.rolls c.placed-place.new.self.rolls c.if-not-is_paying.numbers (seat_at c.placed-place.result c.placed-place.new.self.seats)
                  (λ seat. target seat (security_rolls c.args.numbers (position_of c.args.name.now c.args.sheet.now.securities))) c.placed-place.ensures.rolls
                  (λ seat. ap (target seat) (sym told)) (omega (arith, long)) c.requires.0.fits,
              room-for c.args.self.now.securities.rolls c.placed-place.new.self.rolls c.if-not-is_paying.numbers (seat_at c.placed-place.result c.placed-place.new.self.seats)
                  (λ seat. target seat (security_rolls c.args.numbers (position_of c.args.name.now c.args.sheet.now.securities))) c.placed-place.ensures.rolls
                  (λ seat. ap (target seat) (sym told)) _ c.placed-place.ensures.seats c.requires.0.room,
            ),
          ),
        ),
      ),
    )

pub returns : goal.returns
returns c =
    let place = c.placed-place.ensures.place in
    let rows = length-map c.args.sheet.now.securities position_name in
    let found : position_of c.args.name.now c.args.sheet.now.securities ≡ Some c.at.result.now =
    row-at position_name c.args.sheet.now.securities c.placed-place.result c.at.result.now c.args.name.now c.len-count.ensures.apart c.at.ensures c.placed-place.ensures.name in
    let pays = ap (λ o. option_map_or is_paying o false) found ∙ sym c.is_paying.ensures in
    let told : c.if-not-is_paying.numbers ≡ security_rolls c.args.numbers (position_of c.args.name.now c.args.sheet.now.securities) =
    elim c.if-not-is_paying.branch [
      | then-not-is_paying w ↦ w.numbers-is ∙ sym (ap (λ b. if b then c.args.numbers else set c.args.numbers 4 NOWHERE) (pays ∙ w.if-not-is_paying.true))
      | else-not-is_paying w ↦ w.numbers-is ∙ sym (ap (λ b. if b then c.args.numbers else set c.args.numbers 4 NOWHERE) (pays ∙ w.if-not-is_paying.false))
    ] in
    let long : length c.if-not-is_paying.numbers ≡ 5 = ap length told ∙ five c.args.numbers c.requires.1 (option_map_or is_paying (position_of c.args.name.now c.args.sheet.now.securities) false) in
    settles tables.Security c.args.name.now (λ seat. target seat (security_rolls c.args.numbers (position_of c.args.name.now c.args.sheet.now.securities))) c.args.sheet.now c.args.self.now
    (record c.args.self.now { securities = c.arrange.new.self }) c.placed-place.new.self c.placed-place.result c.if-not-is_paying.numbers c.placed-place.ensures.rolls
    (λ seat. ap (target seat) (sym told)) elsewhere refl refl refl (λ roll e. let few = security-seat roll e in omega (arith, few, long))
    c.arrange.ensures.seated c.arrange.ensures.seats c.arrange.ensures.room c.placed-place.ensures.name
    (own-before (map position_name c.args.sheet.now.securities) c.arrange.new.self c.arrange.ensures.seated c.len-count.ensures.apart c.placed-place.result (omega (arith, place, rows)) c.args.name.now c.placed-place.ensures.name)
    (row-listed (map position_name c.args.sheet.now.securities) c.placed-place.new.self c.placed-place.ensures.seated c.len-count.ensures.apart c.placed-place.result (omega (arith, place, rows)) c.args.name.now c.placed-place.ensures.name)
    c.arrange.ensures.own c.arrange.ensures.names
  where
    elsewhere : (other : Table) → same_table other tables.Security ≡ false → seated_in other (record c.args.self.now { securities = c.arrange.new.self }) ≡ seated_in other c.args.self.now
    elsewhere tables.Security apart = absurd (cc)
    elsewhere tables.Fund apart = refl
    elsewhere tables.Liability apart = refl
    elsewhere tables.Group apart = refl
    elsewhere tables.Bank apart = refl
    elsewhere tables.Rein apart = refl
    elsewhere tables.Curve apart = refl
