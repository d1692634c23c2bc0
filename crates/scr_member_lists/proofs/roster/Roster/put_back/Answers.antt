use Rattle.std.proofs.Common.{◌≡◌, List, length, ap, ◌∙◌, rules}
use Rattle.std.specs.List.{swap}
use Rattle.scr_member_lists.specs.Members.{MemberList, come}
use Rattle.scr_member_lists.proofs.Places.{swap-come}
use Rattle.scr_member_lists.proofs.roster.Roster.put_back.Goals as goal

pub returns-clause-names : goal.returns-clause-names
returns-clause-names c =
    let place = c.args.place in
    let last = c.len-last.result in
    let same : c.self.inside.names.items ≡ c.args.self.now.names = ap (λ (list : MemberList). list.names) c.self.view_is in
    let last_is : last ≡ length c.args.self.now.names = grind (rules, c.len-last.ensures, ap length same) in
    c.swap.ensures.items ∙ ap (λ (xs : List _). swap xs place last) c.push_reserved.ensures.items
    ∙ ap (λ (xs : List _). swap (come c.args.name xs) place last) same
    ∙ swap-come c.args.self.now.names c.args.name place last c.requires.place last_is
