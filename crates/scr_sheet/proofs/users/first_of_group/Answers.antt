use Rattle.std.proofs.Common.{ℕ, List, None, ◌++◌, sym, ap, ◌∙◌, map, filter, fold, rules}
use Rattle.std.proofs.lemmas.List.Sums.{fold-append}
use Rattle.scr_tables.specs.Names.{same_name, earlier}
use Rattle.scr_sheet.specs.BalanceSheet.{position_name, bank_name, rein_name}
use Rattle.scr_sheet.specs.Members.{is_of_group}
use Rattle.scr_sheet.proofs.users.first_of_group.Goals as goal

pub returns : goal.returns
returns c =
    let group = c.args.group.now in
    let sheet = c.args.sheet.now in
    let securities : List (List ℕ) = map position_name (filter (is_of_group group) sheet.securities) in
    let banks : List (List ℕ) = map bank_name (filter (λ b. same_name group b.group) sheet.banks) in
    let reinsurers : List (List ℕ) = map rein_name (filter (λ r. same_name group r.group) sheet.reinsurers) in
    c.earliest.ensures (λ r. same_name group r.group) (λ row told says. search rules)
    ∙ ap (λ first. fold earlier first reinsurers)
    (c.earliest-banks.ensures (λ b. same_name group b.group) (λ row told says. search rules)
    ∙ ap (λ first. fold earlier first banks) (c.earliest-securities.ensures (is_of_group group) (λ row told says. search rules)) ∙ sym (fold-append earlier None securities banks))
    ∙ sym (fold-append earlier None (securities ++ banks) reinsurers)
