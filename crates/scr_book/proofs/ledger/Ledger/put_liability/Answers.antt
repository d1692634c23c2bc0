use Rattle.std.proofs.Common.{◌≡◌, ℕ, List, refl, sym, ap, ◌∙◌, rules, subst}
use Rattle.std.specs.Option.{option_map_or}
use Rattle.scr_sheet.specs.BalanceSheet.{liability_name}
use Rattle.scr_sheet.specs.CashFlows.{no_flows}
use Rattle.scr_sheet.specs.Records.{applied}
use Rattle.scr_tables.specs.Tables.{row_of, with_row, changed}
use Rattle.scr_sheet.specs.declared.rows.Liability.{Liability}
use Rattle.scr_sheet.specs.declared.rows.LiabilityFlows.{LiabilityFlows}
use Rattle.scr_book.specs.Kept.{IsKept}
use Rattle.scr_book.specs.declared.ledger.Ledger.TheInside.{Inside}
use Rattle.scr_sheet.specs.declared.edit.Edit.TheVariants as edits
use Rattle.scr_book.proofs.Moved.{none_there}
use Rattle.scr_book.proofs.Applied.{changed-from, replaced, kept-still}
use Rattle.scr_book.proofs.ledger.Ledger.put_liability.Goals as goal

kept-replaced : (c : goal.After-change) → let new : Inside = record c.self.inside { sheet = record c.self.inside.sheet { liabilities = c.change.new.self } } in IsKept new × (new.sheet ≡ applied (edits.Liability c.args.name.now c.args.kind c.args.currency.now) c.args.self.now)
kept-replaced c =
    let new : Inside = record c.self.inside { sheet = record c.self.inside.sheet { liabilities = c.change.new.self } } in
    let change : Liability → Liability = λ l. record l { kind = c.args.kind; currency = c.args.currency.now } in
    let liability : List ℕ → LiabilityFlows → Liability = λ n flows. record { name = n; kind = c.args.kind; currency = c.args.currency.now; flows = flows } in
    let kept : LiabilityFlows = option_map_or (λ l. l.flows) (row_of liability_name c.args.name.now c.self.inside.sheet.liabilities) no_flows in
    let written : c.change.new.self ≡ changed liability_name change c.args.name.now c.self.inside.sheet.liabilities = changed-from liability_name change _ c.args.name.now c.self.inside.sheet.liabilities c.change.new.self (λ old row ran. search rules) c.change.ensures in
    let same : changed liability_name change c.args.name.now c.self.inside.sheet.liabilities ≡ with_row liability_name (liability c.args.name.now kept) c.self.inside.sheet.liabilities =
    replaced liability_name change (liability c.args.name.now kept) c.args.name.now c.self.inside.sheet.liabilities (sym c.contains.ensures ∙ c.if-contains.true)
    (λ l is named. ap (λ n. liability n l.flows) (sym named) ∙ ap (liability c.args.name.now) (sym (ap (λ o. option_map_or (λ m. m.flows) o no_flows) is))) in
    kept-still c.self.inside new c.args.self.now c.self.view_is c.self.invariant (edits.Liability c.args.name.now c.args.kind c.args.currency.now) c.requires.formed c.requires.no_fault refl
    (ap (λ rows. record c.self.inside.sheet { liabilities = rows }) (written ∙ same)) refl

kept-made : (c : goal.In_ok-put) → let new : Inside = record c.self.inside { sheet = record c.self.inside.sheet { liabilities = c.put.new.self } } in IsKept new × (new.sheet ≡ applied (edits.Liability c.args.name.now c.args.kind c.args.currency.now) c.args.self.now)
kept-made c =
    let new : Inside = record c.self.inside { sheet = record c.self.inside.sheet { liabilities = c.put.new.self } } in
    let liability : LiabilityFlows → Liability = λ flows. record { name = c.args.name.now; kind = c.args.kind; currency = c.args.currency.now; flows = flows } in
    let none = none_there liability_name c.args.name.now c.self.inside.sheet.liabilities (sym c.contains.ensures ∙ c.if-contains.false) in
    kept-still c.self.inside new c.args.self.now c.self.view_is c.self.invariant (edits.Liability c.args.name.now c.args.kind c.args.currency.now) c.requires.formed c.requires.no_fault refl
    (ap (λ rows. record c.self.inside.sheet { liabilities = rows })
    (c.in_ok-put.ensures.ok ∙ ap (λ flows. with_row liability_name (liability flows) c.self.inside.sheet.liabilities) c.none.ensures
    ∙ ap (λ o. with_row liability_name (liability (option_map_or (λ m. m.flows) o no_flows)) c.self.inside.sheet.liabilities) (sym none)))
    refl

pub invariant_of-self : goal.invariant_of-self
invariant_of-self c = (kept-replaced c).0

pub returns-then-contains-clause-ok : goal.returns-then-contains-clause-ok
returns-then-contains-clause-ok c = (kept-replaced c).1

pub invariant_of-self-2 : goal.invariant_of-self-2
invariant_of-self-2 c = (kept-made c).0

pub returns-clause-ok : goal.returns-clause-ok
returns-clause-ok c = (kept-made c).1

pub invariant_of-self-in_err-put : goal.invariant_of-self-in_err-put
invariant_of-self-in_err-put c =
    subst (λ (rows : List Liability). IsKept (record c.self.inside { sheet = record c.self.inside.sheet { liabilities = rows } })) (sym c.in_err-put.ensures.err) c.self.invariant
