-- The first place of a list leads over it.
use Rattle.std.proofs.Common.{◌≡◌, length, ap, sym, subst, ◌∙◌}
use Rattle.scr_links.specs.Chains.{Chained, AreChains, Leads, ends_at, list_of, places_from}
use Rattle.scr_links.specs.declared.chains.Ends.{Ends}
use Rattle.scr_links.proofs.Linked.{list_leads}
use Rattle.scr_links.proofs.chains.Chains.first.Goals as goal

ends_are : (c : goal.After-at) → c.at.result ≡ ends_at c.args.self.now.ends c.args.list
ends_are c = c.at.ensures.at ∙ ap (λ (v : Chained). ends_at v.ends c.args.list) c.self.view_is

pub returns-clause-value : goal.returns-clause-value
returns-clause-value c = ap (λ (ends : Ends). ends.first) (ends_are c)

pub returns-clause-listed : goal.returns-clause-listed
unfolding list_of
returns-clause-listed c =
    ap (λ (ends : Ends). places_from c.args.self.now.links (length c.args.self.now.links) ends.first) (ends_are c)

pub returns-clause-leads : goal.returns-clause-leads
returns-clause-leads c =
    let P : Ends → Type 0 = λ ends. Leads c.args.self.now.links ends.first (list_of c.args.self.now c.args.list) in
    let all = subst AreChains c.self.view_is c.self.invariant in
    subst P (sym (ends_are c)) (list_leads c.args.self.now all c.args.list)
