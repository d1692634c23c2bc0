-- A walk over the places of a number.
use Rattle.std.proofs.Common.{◌≡◌, ℕ, ◌<◌, List, length, map, ap, sym, subst, ◌∙◌, true}
use Rattle.scr_links.specs.Places.{has}
use Rattle.scr_links.specs.Chains.{list_of}
use Rattle.scr_links.specs.Ends.{pair_at}
use Rattle.scr_links.specs.declared.links.Pair.{Pair}
use Rattle.scr_links.proofs.States.{dependant_paired, sources_shown}
use Rattle.scr_links.proofs.links.Links.sources.Goals as goal

pub new-requires : goal.new-requires
new-requires c =
    let P : List Pair → Type 0 = λ pairs. (place : ℕ)
    → has place (list_of c.self.inside.tables.by_dependant c.args.n) ≡ true → place < length pairs in
    subst P (sym c.as_slice.ensures.value)
    (dependant_paired c.self.inside c.self.invariant c.args.self.now c.self.view_is c.args.n)

pub returns : goal.returns
returns c =
    c.new.ensures
    ∙ ap (λ (pairs : List Pair). map {B = ℕ × ℕ} (λ p. ((pair_at pairs p).source, p))
    (list_of c.self.inside.tables.by_dependant c.args.n)) c.as_slice.ensures.value
    ∙ sources_shown c.self.inside c.self.invariant c.args.self.now c.self.view_is c.args.n
