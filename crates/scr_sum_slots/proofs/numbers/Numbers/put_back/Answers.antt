use Rattle.std.proofs.Common.{◌≡◌, List, length, ap, ◌∙◌, rules}
use Rattle.std.specs.List.{swap}
use Rattle.scr_sum_slots.specs.Parts.{NumberList}
use Rattle.scr_sum_slots.specs.Firsts.{joined}
use Rattle.scr_sum_slots.proofs.Members.{swap-back}
use Rattle.scr_sum_slots.proofs.numbers.Numbers.put_back.Goals as goal

pub returns-clause-items : goal.returns-clause-items
returns-clause-items c =
    let place = c.args.place in
    let last = c.len-last.result in
    let same : c.self.inside.numbers.items ≡ c.args.self.now.items = ap (λ (list : NumberList). list.items) c.self.view_is in
    let last_is : last ≡ length c.args.self.now.items = grind (rules, c.len-last.ensures, ap length same) in
    c.swap.ensures.items ∙ ap (λ (xs : List _). swap xs place last) c.push_reserved.ensures.items
    ∙ ap (λ (xs : List _). swap (joined c.args.number xs) place last) same
    ∙ swap-back c.args.self.now.items c.args.number place last c.requires.place last_is
