use Rattle.std.proofs.Common.{sym, ap, subst, ◌∙◌}
use Rattle.scr_nodes.specs.Nth.{IsNth}
use Rattle.scr_nodes.specs.Selections.{selected}
use Rattle.scr_nodes.proofs.Selected.{selected-currencies, selected-groups, selected-liabilities}
use Rattle.scr_nodes.proofs.nth.nth_selected.Goals as goal

pub returns-in-Liabilities : goal.returns-in-Liabilities
returns-in-Liabilities c =
    let sheet = c.args.sheet.now in
    subst (λ list. IsNth list c.args.place c.nth_of_liabilities.result)
    (selected-liabilities sheet c.in-Liabilities.obligations c.in-Liabilities.what
    ∙ ap (selected sheet) (sym c.in-Liabilities.is))
    c.nth_of_liabilities.ensures

pub returns-in-Currencies : goal.returns-in-Currencies
returns-in-Currencies c =
    let sheet = c.args.sheet.now in
    subst (λ list. IsNth list c.args.place c.nth_of_currencies.result)
    (selected-currencies sheet c.in-Currencies.currencies c.in-Currencies.what
    ∙ ap (selected sheet) (sym c.in-Currencies.is))
    c.nth_of_currencies.ensures

pub returns-in-Groups : goal.returns-in-Groups
returns-in-Groups c =
    let sheet = c.args.sheet.now in
    subst (λ list. IsNth list c.args.place c.nth_of_groups.result)
    (selected-groups sheet c.in-Groups.counterparties c.in-Groups.what ∙ ap (selected sheet) (sym c.in-Groups.is))
    c.nth_of_groups.ensures
