use Rattle.std.proofs.Common.{◌≡◌, ◌++◌, ap, sym, subst, ◌∙◌}
use Rattle.std.specs.Prelude.{OnOk}
use Rattle.scr_nodes.specs.Selections.{selected}
use Rattle.scr_nodes.proofs.Selected.{selected-currencies, selected-groups, selected-liabilities}
use Rattle.scr_nodes.proofs.lists.push_selected.Goals as goal

pub returns-in-Liabilities : goal.returns-in-Liabilities
returns-in-Liabilities c =
    let sheet = c.args.sheet.now in
    subst (λ more. OnOk c.push_of_liabilities.result
    (c.push_of_liabilities.new.list.items ≡ c.args.list.now.items ++ more))
    (selected-liabilities sheet c.in-Liabilities.obligations c.in-Liabilities.what
    ∙ ap (selected sheet) (sym c.in-Liabilities.is))
    c.push_of_liabilities.ensures

pub returns-in-Currencies : goal.returns-in-Currencies
returns-in-Currencies c =
    let sheet = c.args.sheet.now in
    subst (λ more. OnOk c.push_of_currencies.result
    (c.push_of_currencies.new.list.items ≡ c.args.list.now.items ++ more))
    (selected-currencies sheet c.in-Currencies.currencies c.in-Currencies.what
    ∙ ap (selected sheet) (sym c.in-Currencies.is))
    c.push_of_currencies.ensures

pub returns-in-Groups : goal.returns-in-Groups
returns-in-Groups c =
    let sheet = c.args.sheet.now in
    subst (λ more. OnOk c.push_of_groups.result
    (c.push_of_groups.new.list.items ≡ c.args.list.now.items ++ more))
    (selected-groups sheet c.in-Groups.counterparties c.in-Groups.what ∙ ap (selected sheet) (sym c.in-Groups.is))
    c.push_of_groups.ensures
