use Rattle.std.proofs.Common.{ℕ, List, None, sym, ap, ◌∙◌, map, filter, fold, rules}
use Rattle.std.proofs.lemmas.List.Sums.{fold-append}
use Rattle.scr_tables.specs.Names.{same_name, earlier}
use Rattle.scr_sheet.specs.BalanceSheet.{position_name, liability_name}
use Rattle.scr_sheet.proofs.users.first_in_currency.Goals as goal

pub returns : goal.returns
returns c =
    let currency = c.args.currency.now in
    let sheet = c.args.sheet.now in
    let securities : List (List ℕ) = map position_name (filter (λ p. same_name currency p.security.currency) sheet.securities) in
    let liabilities : List (List ℕ) = map liability_name (filter (λ l. same_name currency l.currency) sheet.liabilities) in
    c.earliest.ensures (λ l. same_name currency l.currency) (λ row told says. search rules)
    ∙ ap (λ first. fold earlier first liabilities) (c.earliest-securities.ensures (λ p. same_name currency p.security.currency) (λ row told says. search rules))
    ∙ sym (fold-append earlier None securities liabilities)
