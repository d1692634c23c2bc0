use Rattle.std.proofs.Common.{◌≡◌, ◌⊎◌, inl, inr, false, refl, sym, ap, subst, arith}
use Rattle.scr_sheet.specs.declared.edit.Edit.TheVariants as edits
use Rattle.scr_sheet.specs.declared.keys.Table.{Table}
use Rattle.scr_sheet.specs.declared.keys.Table.TheVariants as tables
use Rattle.scr_book.specs.Rolls.{IsPrepared, same_table, seated_in}
use Rattle.scr_book.specs.declared.rolls.Aim.TheVariants as aims
use Rattle.scr_book.proofs.RollsDropped.{dropped-prepared, prepared-bare}
use Rattle.scr_book.proofs.rolls.Rolls.release.Goals as goal

pub returns-in-Security : goal.returns-in-Security
returns-in-Security c =
    subst (λ (t : Table). IsPrepared (edits.Remove t c.args.name.now) c.args.sheet.now aims.Still c.args.self.now (record c.args.self.now { securities = c.release.new.self })) (sym c.in-Security.is)
    (dropped-prepared tables.Security refl c.args.name.now c.args.sheet.now c.args.self.now (record c.args.self.now { securities = c.release.new.self }) c.requires.valid c.requires.rolls
    elsewhere refl refl refl c.release.ensures.seated c.release.ensures.seats c.release.ensures.room c.release.ensures.names c.release.ensures.rows)
  where
    elsewhere : (other : Table) → same_table other tables.Security ≡ false → seated_in other (record c.args.self.now { securities = c.release.new.self }) ≡ seated_in other c.args.self.now
    elsewhere tables.Security apart = absurd (cc)
    elsewhere tables.Fund apart = refl
    elsewhere tables.Liability apart = refl
    elsewhere tables.Group apart = refl
    elsewhere tables.Bank apart = refl
    elsewhere tables.Rein apart = refl
    elsewhere tables.Curve apart = refl

pub returns-in-Fund : goal.returns-in-Fund
returns-in-Fund c =
    subst (λ (t : Table). IsPrepared (edits.Remove t c.args.name.now) c.args.sheet.now aims.Still c.args.self.now (record c.args.self.now { funds = c.release-in-Fund.new.self })) (sym c.in-Fund.is)
    (dropped-prepared tables.Fund refl c.args.name.now c.args.sheet.now c.args.self.now (record c.args.self.now { funds = c.release-in-Fund.new.self }) c.requires.valid c.requires.rolls
    elsewhere refl refl refl c.release-in-Fund.ensures.seated c.release-in-Fund.ensures.seats c.release-in-Fund.ensures.room c.release-in-Fund.ensures.names c.release-in-Fund.ensures.rows)
  where
    elsewhere : (other : Table) → same_table other tables.Fund ≡ false → seated_in other (record c.args.self.now { funds = c.release-in-Fund.new.self }) ≡ seated_in other c.args.self.now
    elsewhere tables.Fund apart = absurd (cc)
    elsewhere tables.Security apart = refl
    elsewhere tables.Liability apart = refl
    elsewhere tables.Group apart = refl
    elsewhere tables.Bank apart = refl
    elsewhere tables.Rein apart = refl
    elsewhere tables.Curve apart = refl

pub returns-in-Liability : goal.returns-in-Liability
returns-in-Liability c =
    subst (λ (t : Table). IsPrepared (edits.Remove t c.args.name.now) c.args.sheet.now aims.Still c.args.self.now (record c.args.self.now { liabilities = c.release-in-Liability.new.self })) (sym c.in-Liability.is)
    (dropped-prepared tables.Liability refl c.args.name.now c.args.sheet.now c.args.self.now (record c.args.self.now { liabilities = c.release-in-Liability.new.self }) c.requires.valid c.requires.rolls
    elsewhere refl refl refl c.release-in-Liability.ensures.seated c.release-in-Liability.ensures.seats c.release-in-Liability.ensures.room c.release-in-Liability.ensures.names c.release-in-Liability.ensures.rows)
  where
    elsewhere : (other : Table) → same_table other tables.Liability ≡ false → seated_in other (record c.args.self.now { liabilities = c.release-in-Liability.new.self }) ≡ seated_in other c.args.self.now
    elsewhere tables.Liability apart = absurd (cc)
    elsewhere tables.Security apart = refl
    elsewhere tables.Fund apart = refl
    elsewhere tables.Group apart = refl
    elsewhere tables.Bank apart = refl
    elsewhere tables.Rein apart = refl
    elsewhere tables.Curve apart = refl

pub returns-in-Group : goal.returns-in-Group
returns-in-Group c =
    subst (λ (t : Table). IsPrepared (edits.Remove t c.args.name.now) c.args.sheet.now aims.Still c.args.self.now (record c.args.self.now { groups = c.release-in-Group.new.self })) (sym c.in-Group.is)
    (dropped-prepared tables.Group refl c.args.name.now c.args.sheet.now c.args.self.now (record c.args.self.now { groups = c.release-in-Group.new.self }) c.requires.valid c.requires.rolls
    elsewhere refl refl refl c.release-in-Group.ensures.seated c.release-in-Group.ensures.seats c.release-in-Group.ensures.room c.release-in-Group.ensures.names c.release-in-Group.ensures.rows)
  where
    elsewhere : (other : Table) → same_table other tables.Group ≡ false → seated_in other (record c.args.self.now { groups = c.release-in-Group.new.self }) ≡ seated_in other c.args.self.now
    elsewhere tables.Group apart = absurd (cc)
    elsewhere tables.Security apart = refl
    elsewhere tables.Fund apart = refl
    elsewhere tables.Liability apart = refl
    elsewhere tables.Bank apart = refl
    elsewhere tables.Rein apart = refl
    elsewhere tables.Curve apart = refl

pub release-requires : goal.release-requires
release-requires c =
    (omega arith, c.requires.rolls.seated tables.Security)

pub release-requires-in-Fund : goal.release-requires-in-Fund
release-requires-in-Fund c =
    (omega arith, c.requires.rolls.seated tables.Fund)

pub release-requires-in-Liability : goal.release-requires-in-Liability
release-requires-in-Liability c =
    (omega arith, c.requires.rolls.seated tables.Liability)

pub release-requires-in-Group : goal.release-requires-in-Group
release-requires-in-Group c =
    (omega arith, c.requires.rolls.seated tables.Group)

-- banks, reinsurers and curves
bare : (table : Table) → (table ≡ tables.Bank) ⊎ ((table ≡ tables.Rein) ⊎ (table ≡ tables.Curve)) → same_table table table ≡ false
bare table (inl e) = ap (λ (t : Table). same_table t t) e
bare table (inr (inl e)) = ap (λ (t : Table). same_table t t) e
bare table (inr (inr e)) = ap (λ (t : Table). same_table t t) e

pub returns-in-Bank : goal.returns-in-Bank
returns-in-Bank c = prepared-bare c.args.table c.args.name.now c.args.sheet.now c.args.self.now (bare c.args.table c.in-Bank.is) c.requires.rolls
