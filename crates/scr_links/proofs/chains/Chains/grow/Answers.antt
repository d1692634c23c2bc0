-- More room leaves each list as it is.
use Rattle.std.proofs.Common.{refl, ap, ◌∙◌}
use Rattle.scr_links.specs.Chains.{Chained, list_of}
use Rattle.scr_links.specs.ChainsInside.{chained}
use Rattle.scr_links.proofs.Linked.{grown_chains, grown_list}
use Rattle.scr_links.proofs.chains.Chains.grow.Goals as goal

pub invariant_of-self : goal.invariant_of-self
invariant_of-self c =
    grown_chains (chained c.self.inside) _ c.self.invariant (c.grow_links.ensures.few c.self.invariant.few)
    c.grow_links.ensures.same (λ number. refl) c.grow_links.ensures.longer

pub returns-in_err-grow_links-clause-lists : goal.returns-in_err-grow_links-clause-lists
returns-in_err-grow_links-clause-lists c = λ number.
    grown_list (chained c.self.inside) _ c.self.invariant (c.grow_links.ensures.few c.self.invariant.few)
    c.grow_links.ensures.same (λ number. refl) c.grow_links.ensures.longer number
    ∙ ap (λ (v : Chained). list_of v number) c.self.view_is

pub invariant_of-self-2 : goal.invariant_of-self-2
invariant_of-self-2 c =
    grown_chains (chained c.self.inside) _ c.self.invariant (c.grow_links.ensures.few c.self.invariant.few)
    c.grow_links.ensures.same c.reserve.ensures.at c.grow_links.ensures.longer

pub returns-clause-lists : goal.returns-clause-lists
returns-clause-lists c = λ number.
    grown_list (chained c.self.inside) _ c.self.invariant (c.grow_links.ensures.few c.self.invariant.few)
    c.grow_links.ensures.same c.reserve.ensures.at c.grow_links.ensures.longer number
    ∙ ap (λ (v : Chained). list_of v number) c.self.view_is
