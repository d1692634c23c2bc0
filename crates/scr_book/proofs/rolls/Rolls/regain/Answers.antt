use Rattle.std.proofs.Common.{◌≡◌, false, refl, sym, subst}
use Rattle.scr_sheet.specs.declared.keys.Table.{Table}
use Rattle.scr_sheet.specs.declared.keys.Table.TheVariants as tables
use Rattle.scr_book.specs.Rolls.{IsRegained, same_table, seated_in}
use Rattle.scr_book.proofs.rolls.Rolls.regain.Goals as goal

pub returns-in-Security : goal.returns-in-Security
returns-in-Security c =
    subst (λ (t : Table). IsRegained t c.args.name.now c.args.before.now c.args.sheet.now c.args.self.now (record c.args.self.now { securities = c.regain.new.self })) (sym c.in-Security.is)
    (record {
      elsewhere = elsewhere;
      of_groups = refl;
      of_assets = refl;
      of_lines = refl;
      seated = c.regain.ensures.seated;
      keeps = c.regain.ensures.seats;
      names = c.regain.ensures.names;
    })
  where
    elsewhere : (other : Table) → same_table other tables.Security ≡ false → seated_in other (record c.args.self.now { securities = c.regain.new.self }) ≡ seated_in other c.args.self.now
    elsewhere tables.Security apart = absurd (cc)
    elsewhere tables.Fund apart = refl
    elsewhere tables.Liability apart = refl
    elsewhere tables.Group apart = refl
    elsewhere tables.Bank apart = refl
    elsewhere tables.Rein apart = refl
    elsewhere tables.Curve apart = refl

pub returns-in-Fund : goal.returns-in-Fund
returns-in-Fund c =
    subst (λ (t : Table). IsRegained t c.args.name.now c.args.before.now c.args.sheet.now c.args.self.now (record c.args.self.now { funds = c.regain-in-Fund.new.self })) (sym c.in-Fund.is)
    (record {
      elsewhere = elsewhere;
      of_groups = refl;
      of_assets = refl;
      of_lines = refl;
      seated = c.regain-in-Fund.ensures.seated;
      keeps = c.regain-in-Fund.ensures.seats;
      names = c.regain-in-Fund.ensures.names;
    })
  where
    elsewhere : (other : Table) → same_table other tables.Fund ≡ false → seated_in other (record c.args.self.now { funds = c.regain-in-Fund.new.self }) ≡ seated_in other c.args.self.now
    elsewhere tables.Fund apart = absurd (cc)
    elsewhere tables.Security apart = refl
    elsewhere tables.Liability apart = refl
    elsewhere tables.Group apart = refl
    elsewhere tables.Bank apart = refl
    elsewhere tables.Rein apart = refl
    elsewhere tables.Curve apart = refl

pub returns-in-Liability : goal.returns-in-Liability
returns-in-Liability c =
    subst (λ (t : Table). IsRegained t c.args.name.now c.args.before.now c.args.sheet.now c.args.self.now (record c.args.self.now { liabilities = c.regain-in-Liability.new.self })) (sym c.in-Liability.is)
    (record {
      elsewhere = elsewhere;
      of_groups = refl;
      of_assets = refl;
      of_lines = refl;
      seated = c.regain-in-Liability.ensures.seated;
      keeps = c.regain-in-Liability.ensures.seats;
      names = c.regain-in-Liability.ensures.names;
    })
  where
    elsewhere : (other : Table) → same_table other tables.Liability ≡ false → seated_in other (record c.args.self.now { liabilities = c.regain-in-Liability.new.self }) ≡ seated_in other c.args.self.now
    elsewhere tables.Liability apart = absurd (cc)
    elsewhere tables.Security apart = refl
    elsewhere tables.Fund apart = refl
    elsewhere tables.Group apart = refl
    elsewhere tables.Bank apart = refl
    elsewhere tables.Rein apart = refl
    elsewhere tables.Curve apart = refl

pub returns-in-Group : goal.returns-in-Group
returns-in-Group c =
    subst (λ (t : Table). IsRegained t c.args.name.now c.args.before.now c.args.sheet.now c.args.self.now (record c.args.self.now { groups = c.regain-in-Group.new.self })) (sym c.in-Group.is)
    (record {
      elsewhere = elsewhere;
      of_groups = refl;
      of_assets = refl;
      of_lines = refl;
      seated = c.regain-in-Group.ensures.seated;
      keeps = c.regain-in-Group.ensures.seats;
      names = c.regain-in-Group.ensures.names;
    })
  where
    elsewhere : (other : Table) → same_table other tables.Group ≡ false → seated_in other (record c.args.self.now { groups = c.regain-in-Group.new.self }) ≡ seated_in other c.args.self.now
    elsewhere tables.Group apart = absurd (cc)
    elsewhere tables.Security apart = refl
    elsewhere tables.Fund apart = refl
    elsewhere tables.Liability apart = refl
    elsewhere tables.Bank apart = refl
    elsewhere tables.Rein apart = refl
    elsewhere tables.Curve apart = refl
