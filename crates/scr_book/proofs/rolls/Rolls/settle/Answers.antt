use Rattle.std.proofs.Common.{◌≡◌, ◌<◌, false, [], ◌∷◌, length, map, eqb, refl, sym, subst, arith}
use Rattle.std.specs.Prelude.{if◌then◌else◌}
use Rattle.std.proofs.lemmas.List.{length-map}
use Rattle.scr_tables.specs.Tables.{row_of}
use Rattle.scr_member_lists.specs.Members.{name_at}
use Rattle.scr_member_lists.specs.Seatings.{roll_in, seat_at, target}
use Rattle.scr_sheet.specs.BalanceSheet.{liability_name, position_name, position_of}
use Rattle.scr_sheet.specs.declared.keys.Table.{Table}
use Rattle.scr_sheet.specs.declared.keys.Table.TheVariants as tables
use Rattle.scr_book.specs.Rolls.{Await, IsPlaced, IsTaken, liability_rolls, same_table, seated_in, security_rolls}
use Rattle.scr_book.specs.declared.rolls.Aim.{Aim}
use Rattle.scr_book.specs.declared.rolls.Aim.TheVariants as aims
use Rattle.scr_book.proofs.RollLaws.{own-before}
use Rattle.scr_book.proofs.RollSteps.{fund-seat, group-seat, placed-for, placed-room, settles-first, settles-seat}
use Rattle.scr_book.proofs.RollsDone.{taken, taken-still}
use Rattle.scr_book.proofs.rolls.Rolls.settle.Goals as goal

pub seat-requires : goal.seat-requires
seat-requires c =
    let placed : IsPlaced tables.Security c.in-Payments.place 4 c.in-Payments.number c.args.sheet.now c.args.self.now =
    subst (λ (a : Aim). Await a c.args.sheet.now c.args.self.now) c.in-Payments.is c.requires in
    let within : c.in-Payments.place < length (map position_name c.args.sheet.now.securities) = placed.within in
    let long = length-map c.args.sheet.now.securities position_name in (
      omega arith,
      (
        placed.seated,
        (
          omega (arith, within, long),
          (
            omega arith,
            (
              placed-for tables.Security c.in-Payments.place 4 c.in-Payments.number c.args.sheet.now c.args.self.now placed,
              placed-room tables.Security c.in-Payments.place 4 c.in-Payments.number c.args.sheet.now c.args.self.now placed placed.seated c.len-count.ensures.apart,
            ),
          ),
        ),
      ),
    )

pub seat-requires-in-Projected : goal.seat-requires-in-Projected
seat-requires-in-Projected c =
    let placed : IsPlaced tables.Liability c.in-Projected.place c.in-Projected.seat c.in-Projected.number c.args.sheet.now c.args.self.now =
    subst (λ (a : Aim). Await a c.args.sheet.now c.args.self.now) c.in-Projected.is c.requires in
    let within : c.in-Projected.place < length (map liability_name c.args.sheet.now.liabilities) = placed.within in
    let long = length-map c.args.sheet.now.liabilities liability_name in (
      omega arith,
      (
        placed.seated,
        (
          omega (arith, within, long),
          (
            placed.few,
            (
              placed-for tables.Liability c.in-Projected.place c.in-Projected.seat c.in-Projected.number c.args.sheet.now c.args.self.now placed,
              placed-room tables.Liability c.in-Projected.place c.in-Projected.seat c.in-Projected.number c.args.sheet.now c.args.self.now placed placed.seated c.len-count-in-Projected.ensures.apart,
            ),
          ),
        ),
      ),
    )

pub returns-in-Security : goal.returns-in-Security
returns-in-Security c =
    subst (λ (a : Aim). IsTaken c.args.sheet.now a c.args.self.now c.settle_security.new.self) (sym c.in-Security.is)
    (taken tables.Security refl c.in-Security.name (λ seat. target seat (security_rolls c.in-Security.numbers (position_of c.in-Security.name c.args.sheet.now.securities))) c.args.sheet.now
    c.args.self.now c.settle_security.new.self (subst (λ (a : Aim). Await a c.args.sheet.now c.args.self.now) c.in-Security.is c.requires).0 c.settle_security.ensures
    (aims.Security c.in-Security.name c.in-Security.numbers) (λ edit before first ready. ready) refl refl)

pub returns-in-Liability : goal.returns-in-Liability
returns-in-Liability c =
    subst (λ (a : Aim). IsTaken c.args.sheet.now a c.args.self.now c.settle_liability.new.self) (sym c.in-Liability.is)
    (taken tables.Liability refl c.in-Liability.name
    (λ seat. target seat (liability_rolls c.in-Liability.lines c.in-Liability.losses (row_of liability_name c.in-Liability.name c.args.sheet.now.liabilities))) c.args.sheet.now
    c.args.self.now c.settle_liability.new.self (subst (λ (a : Aim). Await a c.args.sheet.now c.args.self.now) c.in-Liability.is c.requires).0 c.settle_liability.ensures
    (aims.Liability c.in-Liability.name c.in-Liability.lines c.in-Liability.losses) (λ edit before first ready. ready) refl refl)

pub returns-in-Payments : goal.returns-in-Payments
returns-in-Payments c =
    let placed : IsPlaced tables.Security c.in-Payments.place 4 c.in-Payments.number c.args.sheet.now c.args.self.now =
    subst (λ (a : Aim). Await a c.args.sheet.now c.args.self.now) c.in-Payments.is c.requires in
    subst (λ (a : Aim). IsTaken c.args.sheet.now a c.args.self.now (record c.args.self.now { securities = c.seat.new.self })) (sym c.in-Payments.is)
    (taken tables.Security refl (name_at c.in-Payments.place (map position_name c.args.sheet.now.securities))
    (λ s. if eqb 4 s then c.in-Payments.number else roll_in s (seat_at c.in-Payments.place c.args.self.now.securities.seats)) c.args.sheet.now c.args.self.now
    (record c.args.self.now { securities = c.seat.new.self }) placed.awaited
    (settles-seat tables.Security c.args.sheet.now c.args.self.now (record c.args.self.now { securities = c.seat.new.self }) c.in-Payments.place 4 c.in-Payments.number elsewhere refl refl refl
    c.seat.ensures.seated c.seat.ensures.seats c.seat.ensures.room placed.seated c.len-count.ensures.apart placed.within
    (own-before (map position_name c.args.sheet.now.securities) c.seat.new.self c.seat.ensures.seated c.len-count.ensures.apart c.in-Payments.place placed.within
    (name_at c.in-Payments.place (map position_name c.args.sheet.now.securities)) refl)
    c.seat.ensures.own c.seat.ensures.names)
    (aims.Payments c.in-Payments.place c.in-Payments.number) (λ edit before first ready. ready) refl refl)
  where
    elsewhere : (other : Table) → same_table other tables.Security ≡ false → seated_in other (record c.args.self.now { securities = c.seat.new.self }) ≡ seated_in other c.args.self.now
    elsewhere tables.Security apart = absurd (cc)
    elsewhere tables.Fund apart = refl
    elsewhere tables.Liability apart = refl
    elsewhere tables.Group apart = refl
    elsewhere tables.Bank apart = refl
    elsewhere tables.Rein apart = refl
    elsewhere tables.Curve apart = refl

pub returns-in-Projected : goal.returns-in-Projected
returns-in-Projected c =
    let placed : IsPlaced tables.Liability c.in-Projected.place c.in-Projected.seat c.in-Projected.number c.args.sheet.now c.args.self.now =
    subst (λ (a : Aim). Await a c.args.sheet.now c.args.self.now) c.in-Projected.is c.requires in
    subst (λ (a : Aim). IsTaken c.args.sheet.now a c.args.self.now (record c.args.self.now { liabilities = c.seat-in-Projected.new.self })) (sym c.in-Projected.is)
    (taken tables.Liability refl (name_at c.in-Projected.place (map liability_name c.args.sheet.now.liabilities))
    (λ s. if eqb c.in-Projected.seat s then c.in-Projected.number else roll_in s (seat_at c.in-Projected.place c.args.self.now.liabilities.seats)) c.args.sheet.now c.args.self.now
    (record c.args.self.now { liabilities = c.seat-in-Projected.new.self }) placed.awaited
    (settles-seat tables.Liability c.args.sheet.now c.args.self.now (record c.args.self.now { liabilities = c.seat-in-Projected.new.self }) c.in-Projected.place c.in-Projected.seat c.in-Projected.number
    elsewhere refl refl refl
    c.seat-in-Projected.ensures.seated c.seat-in-Projected.ensures.seats c.seat-in-Projected.ensures.room placed.seated c.len-count-in-Projected.ensures.apart placed.within
    (own-before (map liability_name c.args.sheet.now.liabilities) c.seat-in-Projected.new.self c.seat-in-Projected.ensures.seated c.len-count-in-Projected.ensures.apart c.in-Projected.place placed.within
    (name_at c.in-Projected.place (map liability_name c.args.sheet.now.liabilities)) refl)
    c.seat-in-Projected.ensures.own c.seat-in-Projected.ensures.names)
    (aims.Projected c.in-Projected.place c.in-Projected.seat c.in-Projected.number) (λ edit before first ready. ready) refl refl)
  where
    elsewhere : (other : Table) → same_table other tables.Liability ≡ false → seated_in other (record c.args.self.now { liabilities = c.seat-in-Projected.new.self }) ≡ seated_in other c.args.self.now
    elsewhere tables.Liability apart = absurd (cc)
    elsewhere tables.Security apart = refl
    elsewhere tables.Fund apart = refl
    elsewhere tables.Group apart = refl
    elsewhere tables.Bank apart = refl
    elsewhere tables.Rein apart = refl
    elsewhere tables.Curve apart = refl

pub returns-in-Fund : goal.returns-in-Fund
returns-in-Fund c =
    subst (λ (a : Aim). IsTaken c.args.sheet.now a c.args.self.now (record c.args.self.now { funds = c.stand.new.seating })) (sym c.in-Fund.is)
    (taken tables.Fund refl c.in-Fund.name (λ s. target s (c.in-Fund.number ∷ [])) c.args.sheet.now c.args.self.now (record c.args.self.now { funds = c.stand.new.seating })
    (subst (λ (a : Aim). Await a c.args.sheet.now c.args.self.now) c.in-Fund.is c.requires)
    (settles-first tables.Fund c.in-Fund.name c.args.sheet.now c.args.self.now (record c.args.self.now { funds = c.stand.new.seating }) c.in-Fund.number elsewhere refl refl refl fund-seat
    c.stand.ensures.seated c.stand.ensures.keeps c.stand.ensures.room c.stand.ensures.own c.stand.ensures.stood c.stand.ensures.names)
    (aims.Fund c.in-Fund.name c.in-Fund.number) (λ edit before first ready. ready) refl refl)
  where
    elsewhere : (other : Table) → same_table other tables.Fund ≡ false → seated_in other (record c.args.self.now { funds = c.stand.new.seating }) ≡ seated_in other c.args.self.now
    elsewhere tables.Fund apart = absurd (cc)
    elsewhere tables.Security apart = refl
    elsewhere tables.Liability apart = refl
    elsewhere tables.Group apart = refl
    elsewhere tables.Bank apart = refl
    elsewhere tables.Rein apart = refl
    elsewhere tables.Curve apart = refl

pub returns-in-Group : goal.returns-in-Group
returns-in-Group c =
    subst (λ (a : Aim). IsTaken c.args.sheet.now a c.args.self.now (record c.args.self.now { groups = c.stand-in-Group.new.seating })) (sym c.in-Group.is)
    (taken tables.Group refl c.in-Group.name (λ s. target s (0 ∷ [])) c.args.sheet.now c.args.self.now (record c.args.self.now { groups = c.stand-in-Group.new.seating })
    (subst (λ (a : Aim). Await a c.args.sheet.now c.args.self.now) c.in-Group.is c.requires)
    (settles-first tables.Group c.in-Group.name c.args.sheet.now c.args.self.now (record c.args.self.now { groups = c.stand-in-Group.new.seating }) 0 elsewhere refl refl refl group-seat
    c.stand-in-Group.ensures.seated c.stand-in-Group.ensures.keeps c.stand-in-Group.ensures.room c.stand-in-Group.ensures.own c.stand-in-Group.ensures.stood c.stand-in-Group.ensures.names)
    (aims.Group c.in-Group.name) (λ edit before first ready. ready) refl refl)
  where
    elsewhere : (other : Table) → same_table other tables.Group ≡ false → seated_in other (record c.args.self.now { groups = c.stand-in-Group.new.seating }) ≡ seated_in other c.args.self.now
    elsewhere tables.Group apart = absurd (cc)
    elsewhere tables.Security apart = refl
    elsewhere tables.Fund apart = refl
    elsewhere tables.Liability apart = refl
    elsewhere tables.Bank apart = refl
    elsewhere tables.Rein apart = refl
    elsewhere tables.Curve apart = refl

pub returns-in-Still : goal.returns-in-Still
returns-in-Still c =
    subst (λ (a : Aim). IsTaken c.args.sheet.now a c.args.self.now c.args.self.now) (sym c.in-Still.is)
    (taken-still c.args.sheet.now c.args.self.now (subst (λ (a : Aim). Await a c.args.sheet.now c.args.self.now) c.in-Still.is c.requires))
