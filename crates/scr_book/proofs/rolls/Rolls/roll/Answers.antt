use Rattle.std.proofs.Common.{ℕ, ◌+◌, ◌<◌, [], Option, IfSome, length, refl, sym, ap, subst, ◌∙◌, arith}
use Rattle.std.specs.Option.{option_map_or}
use Rattle.scr_member_lists.specs.Seatings.{names_of}
use Rattle.scr_sheet.specs.declared.keys.Table.TheVariants as tables
use Rattle.scr_sheet.specs.declared.roll.Roll.{Roll}
use Rattle.scr_sheet.specs.declared.roll.Roll.TheVariants as rolls
use Rattle.scr_sheet.specs.declared.rows.Class.TheVariants as classes
use Rattle.scr_book.specs.Rolls.{class_number, kind_number, roll_of}
use Rattle.scr_book.specs.Sums.{place_of}
use Rattle.scr_book.proofs.RollsAsked.{first-inside, first-names, next-inside, next-names}
use Rattle.scr_book.proofs.rolls.Rolls.roll.Goals as goal

pub roll-requires : goal.roll-requires
roll-requires c =
    (omega arith, subst (λ n. n < length c.args.self.now.securities.rolls) (sym c.class_number.ensures) (c.requires.1.numbered.own (rolls.Class c.in-Class.class) (class_number c.in-Class.class) refl).0)

pub roll-requires-in-Bonds : goal.roll-requires-in-Bonds
roll-requires-in-Bonds c =
    (omega arith, subst (λ n. n < length c.args.self.now.securities.rolls) (sym c.class_number-in-Bonds.ensures) (c.requires.1.numbered.own rolls.Bonds (class_number classes.Bond) refl).0)

pub roll-requires-in-Grouped : goal.roll-requires-in-Grouped
roll-requires-in-Grouped c =
    (omega arith, (c.requires.1.numbered.own rolls.Grouped 10 refl).0)

pub roll-requires-in-Closed : goal.roll-requires-in-Closed
roll-requires-in-Closed c =
    (omega arith, (c.requires.1.numbered.own rolls.Closed 0 refl).0)

pub roll-requires-in-Groups : goal.roll-requires-in-Groups
roll-requires-in-Groups c =
    (omega arith, (c.requires.1.numbered.own rolls.Groups 0 refl).0)

pub roll-requires-in-Losses : goal.roll-requires-in-Losses
roll-requires-in-Losses c = (
  omega arith,
  subst (λ n. n < length c.args.self.now.liabilities.rolls)
      (sym (ap (λ n. n + c.place_of.result) c.first_loss.ensures.number ∙ ap (λ s. kind_number c.in-Losses.kind + s) c.place_of.ensures.place))
      (c.requires.1.numbered.own (rolls.Losses c.in-Losses.kind c.in-Losses.projection) (kind_number c.in-Losses.kind + place_of c.in-Losses.projection) refl).0,
)

pub owned-requires : goal.owned-requires
owned-requires c = (
  omega arith,
  (
    subst (λ (found : Option ℕ). IfSome found (λ n. n + 0 < length c.args.self.now.securities.rolls)) (sym c.number.ensures)
        (first-inside _ c.args.self.now.securities.rolls (λ n e. (c.requires.1.numbered.own (rolls.Group c.in-Group.group) n e).0)),
    (c.requires.1.seated tables.Security).few,
  ),
)

pub owned-requires-in-Assets : goal.owned-requires-in-Assets
owned-requires-in-Assets c = (
  omega arith,
  (
    subst (λ (found : Option ℕ). IfSome found (λ n. n + 0 < length c.args.self.now.securities.rolls)) (sym c.number-in-Assets.ensures)
        (first-inside _ c.args.self.now.securities.rolls (λ n e. (c.requires.1.numbered.own (rolls.Assets c.in-Assets.currency) n e).0)),
    (c.requires.1.seated tables.Security).few,
  ),
)

pub owned-requires-in-Flows : goal.owned-requires-in-Flows
owned-requires-in-Flows c = (
  omega arith,
  (
    subst (λ (found : Option ℕ). IfSome found (λ n. n + 1 < length c.args.self.now.securities.rolls)) (sym c.number-in-Flows.ensures)
        (next-inside _ c.args.self.now.securities.rolls (λ n e. (c.requires.1.numbered.own (rolls.Flows c.in-Flows.currency) n e).0)),
    (c.requires.1.seated tables.Security).few,
  ),
)

pub owned-requires-in-Lines : goal.owned-requires-in-Lines
owned-requires-in-Lines c = (
  omega arith,
  (
    subst (λ (found : Option ℕ). IfSome found (λ n. n + 0 < length c.args.self.now.liabilities.rolls)) (sym c.number-in-Lines.ensures)
        (first-inside _ c.args.self.now.liabilities.rolls (λ n e. (c.requires.1.numbered.own (rolls.Lines c.in-Lines.currency) n e).0)),
    (c.requires.1.seated tables.Liability).few,
  ),
)

pub returns-in-Class : goal.returns-in-Class
returns-in-Class c =
    c.roll.ensures.names ∙ ap (λ n. names_of n c.args.self.now.securities.rolls) c.class_number.ensures ∙ ap (λ (r : Roll). roll_of r c.args.self.now) (sym c.in-Class.is)

pub returns-in-Bonds : goal.returns-in-Bonds
returns-in-Bonds c =
    c.roll-in-Bonds.ensures.names ∙ ap (λ n. names_of n c.args.self.now.securities.rolls) c.class_number-in-Bonds.ensures ∙ ap (λ (r : Roll). roll_of r c.args.self.now) (sym c.in-Bonds.is)

pub returns-in-Grouped : goal.returns-in-Grouped
returns-in-Grouped c = c.roll-in-Grouped.ensures.names ∙ ap (λ (r : Roll). roll_of r c.args.self.now) (sym c.in-Grouped.is)

pub returns-in-Group : goal.returns-in-Group
returns-in-Group c =
    c.owned.ensures ∙ ap (λ (found : Option ℕ). option_map_or (λ n. names_of (n + 0) c.args.self.now.securities.rolls) found []) c.number.ensures
    ∙ first-names _ c.args.self.now.securities.rolls ∙ ap (λ (r : Roll). roll_of r c.args.self.now) (sym c.in-Group.is)

pub returns-in-Assets : goal.returns-in-Assets
returns-in-Assets c =
    c.owned-in-Assets.ensures ∙ ap (λ (found : Option ℕ). option_map_or (λ n. names_of (n + 0) c.args.self.now.securities.rolls) found []) c.number-in-Assets.ensures
    ∙ first-names _ c.args.self.now.securities.rolls ∙ ap (λ (r : Roll). roll_of r c.args.self.now) (sym c.in-Assets.is)

pub returns-in-Flows : goal.returns-in-Flows
returns-in-Flows c =
    c.owned-in-Flows.ensures ∙ ap (λ (found : Option ℕ). option_map_or (λ n. names_of (n + 1) c.args.self.now.securities.rolls) found []) c.number-in-Flows.ensures
    ∙ next-names _ c.args.self.now.securities.rolls ∙ ap (λ (r : Roll). roll_of r c.args.self.now) (sym c.in-Flows.is)

pub returns-in-Lines : goal.returns-in-Lines
returns-in-Lines c =
    c.owned-in-Lines.ensures ∙ ap (λ (found : Option ℕ). option_map_or (λ n. names_of (n + 0) c.args.self.now.liabilities.rolls) found []) c.number-in-Lines.ensures
    ∙ first-names _ c.args.self.now.liabilities.rolls ∙ ap (λ (r : Roll). roll_of r c.args.self.now) (sym c.in-Lines.is)

pub returns-in-Losses : goal.returns-in-Losses
returns-in-Losses c =
    c.roll-in-Losses.ensures.names
    ∙ ap (λ n. names_of n c.args.self.now.liabilities.rolls) (ap (λ n. n + c.place_of.result) c.first_loss.ensures.number ∙ ap (λ s. kind_number c.in-Losses.kind + s) c.place_of.ensures.place)
    ∙ ap (λ (r : Roll). roll_of r c.args.self.now) (sym c.in-Losses.is)

pub returns-in-Closed : goal.returns-in-Closed
returns-in-Closed c = c.roll-in-Closed.ensures.names ∙ ap (λ (r : Roll). roll_of r c.args.self.now) (sym c.in-Closed.is)

pub returns-in-Groups : goal.returns-in-Groups
returns-in-Groups c = c.roll-in-Groups.ensures.names ∙ ap (λ (r : Roll). roll_of r c.args.self.now) (sym c.in-Groups.is)
