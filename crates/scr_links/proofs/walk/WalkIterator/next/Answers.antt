-- One step of a walk.
use Rattle.std.proofs.Common.{◌≡◌, ℕ, ◌<◌, ◌∷◌, List, true, map, length, ap, sym, refl, subst, ◌∙◌, arith, ne_eqb}
use Rattle.scr_links.specs.Places.{has}
use Rattle.scr_links.specs.Chains.{none, link_at, places_from, Leads}
use Rattle.scr_links.specs.Ends.{pair_at, other_end}
use Rattle.scr_links.proofs.Lists.{has-self, has-later}
use Rattle.scr_links.proofs.Linked.{Stepped, stepped}
use Rattle.scr_links.proofs.walk.WalkIterator.next.Goals as goal

pub bounds-self-inside-place : goal.bounds-self-inside-place
bounds-self-inside-place c =
    let some = ne_eqb c.self.inside.at none c.if-place.false in
    let links = c.self.inside.chains.now.links in
    let step = stepped links (length links) c.self.inside.at c.self.invariant.leads some in
    let P : List ℕ → Type 0 = λ these. has c.self.inside.at these ≡ true in
    c.self.invariant.paired c.self.inside.at (subst P (sym step.first) (has-self c.self.inside.at _))

step : (c : goal.After-new) → Stepped c.self.inside.chains.now.links
    (length c.self.inside.chains.now.links) c.self.inside.at
step c =
    stepped c.self.inside.chains.now.links (length c.self.inside.chains.now.links) c.self.inside.at
    c.self.invariant.leads (ne_eqb c.self.inside.at none c.if-place.false)

pub invariant_of-self : goal.invariant_of-self
invariant_of-self c =
    let links = c.self.inside.chains.now.links in
    let most = length links in
    let P : ℕ → Type 0 = λ at. Leads links at (places_from links most at) in
    let Q : ℕ → Type 0 = λ at. (x : ℕ) → has x (places_from links most at) ≡ true
    → x < length c.self.inside.pairs.now in
    let R : List ℕ → Type 0 = λ these. (x : ℕ) → has x these ≡ true → x < length c.self.inside.pairs.now in
    record {
      leads = subst P (sym c.next-self-inside.ensures) (step c).leads;
      paired = subst Q (sym c.next-self-inside.ensures)
          (λ x h. subst R (step c).first c.self.invariant.paired x (has-later x c.self.inside.at _ h));
    }

-- what was left is this edge and what is left now
begins : (c : goal.After-new) → c.args.self.now
    ≡ (c.of-other.result, c.new.result)
    ∷ map (λ place. (other_end c.self.inside.towards (pair_at c.self.inside.pairs.now place), place))
    (places_from c.self.inside.chains.now.links (length c.self.inside.chains.now.links) c.next-self-inside.result)
begins c =
    let links = c.self.inside.chains.now.links in
    let most = length links in
    let shown : ℕ → ℕ × ℕ = λ place. (other_end c.self.inside.towards (pair_at c.self.inside.pairs.now place), place) in
    let later = ap (λ (at : ℕ). map shown (places_from links most at)) (sym c.next-self-inside.ensures) in
    let first : shown c.self.inside.at ≡ (c.of-other.result, c.new.result) = rw
    (c.of-other.ensures, c.new.ensures) refl in
    sym c.self.view_is ∙ ap (map shown) (step c).first
    ∙ ap (λ (one : ℕ × ℕ). one ∷ map shown (places_from links most (link_at links c.self.inside.at).next)) first
    ∙ ap (λ (rest : List (ℕ × ℕ)). (c.of-other.result, c.new.result) ∷ rest) later

pub returns-clause-steps : goal.returns-clause-steps
returns-clause-steps c = begins c

pub returns-clause-goes : goal.returns-clause-goes
returns-clause-goes c =
    let long = ap length (begins c) in
    record { on = λ _. (tt, tt, omega (arith, long)); keeps = tt; rests = λ _. tt }
