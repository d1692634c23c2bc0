use Rattle.std.proofs.Common.{refl, ◌≡◌, ℕ, ◌-◌, ap, arith, subst}
use Rattle.scr_sheet.specs.Records.{applied}
use Rattle.scr_sheet.proofs.Sums.{components-part}
use Rattle.scr_sheet.specs.declared.keys.Table.TheVariants as tables
use Rattle.scr_book.specs.Kept.{IsKept}
use Rattle.scr_book.specs.declared.ledger.Ledger.TheInside.{Inside}
use Rattle.scr_sheet.specs.declared.edit.Edit.TheVariants as edits
use Rattle.scr_book.proofs.Moved.{sums-drop_fund}
use Rattle.scr_book.proofs.Applied.{sums_now, days_kept, graph_now, kept-whole}
use Rattle.scr_book.proofs.Holders.{graph-drop_fund}
use Rattle.scr_sheet.specs.Validity.{Valid}
use Rattle.scr_book.proofs.ledger.Ledger.remove_fund.Goals as goal

kept : (c : goal.After-self-1) → let components : ℕ = c.self.inside.sums.components - c.component_count-old.result in
    let new : Inside = record c.self.inside { sheet = record c.self.inside.sheet { funds = c.remove.new.self }; graph = c.clear.new.self; sums = record c.self.inside.sums { components = components } } in IsKept new × (new.sheet ≡ applied (edits.Remove tables.Fund c.args.name.now) c.args.self.now)
kept c =
    let components : ℕ = c.self.inside.sums.components - c.component_count-old.result in
    let new : Inside = record c.self.inside { sheet = record c.self.inside.sheet { funds = c.remove.new.self }; graph = c.clear.new.self; sums = record c.self.inside.sums { components = components } } in
    kept-whole c.self.inside new c.args.self.now c.self.view_is c.self.invariant (edits.Remove tables.Fund c.args.name.now) c.requires.formed c.requires.no_fault
    (ap (λ rows. record c.self.inside.sheet { funds = rows }) c.remove.ensures)
    (sums-drop_fund c.args.name.now c.args.self.now c.self.inside.sums components c.requires.no_fault (sums_now c.self.inside c.args.self.now c.self.view_is c.self.invariant)
    (ap (λ n. c.self.inside.sums.components - n) c.component_count-old.ensures.value))
    (days_kept c.self.inside new c.args.self.now c.self.view_is c.self.invariant (edits.Remove tables.Fund c.args.name.now) c.requires.formed c.requires.no_fault refl)
    (λ fresh. graph-drop_fund c.args.self.now c.self.inside.graph c.clear.new.self (graph_now c.self.inside c.args.self.now c.self.view_is c.self.invariant fresh)
    c.args.name.now (subst Valid c.self.view_is c.self.invariant.valid) c.clear.ensures.components)

pub overflow_sub-self : goal.overflow_sub-self
overflow_sub-self c =
    let are = sums_now c.self.inside c.args.self.now c.self.view_is c.self.invariant in
    omega (arith, are.components, components-part c.args.name.now c.args.self.now, c.component_count-old.ensures.value)

pub invariant_of-self : goal.invariant_of-self
invariant_of-self c = (kept c).0

pub returns : goal.returns
returns c = (kept c).1
