-- No list has a place.
use Rattle.std.proofs.Common.{refl, ◌∙◌}
use Rattle.scr_links.proofs.States.{empty_kept}
use Rattle.scr_links.proofs.links.Links.new.Goals as goal

pub invariant_of-result : goal.invariant_of-result
invariant_of-result c =
    empty_kept _ (λ number. c.in_ok-grow.ensures.lists number ∙ c.new-order.ensures.lists number)
    c.new.ensures.lists c.new-2.ensures.lists refl refl refl c.in_ok-grow.ensures.ok.1
