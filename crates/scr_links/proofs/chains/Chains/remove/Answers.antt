-- Two steps take a place out of its list.
use Rattle.std.proofs.Common.{◌≡◌, ℕ, false, eqb, eq-eqb, length, refl, ap, sym, ◌∙◌, arith}
use Rattle.std.proofs.lemmas.Bool.{cond-true, cond-false}
use Rattle.scr_links.specs.Places.{has, without}
use Rattle.scr_links.specs.Chains.{Chained, ends_at, list_of}
use Rattle.scr_links.specs.ChainsInside.{chained}
use Rattle.scr_links.proofs.Linked.{Kept, listed_below}
use Rattle.scr_links.proofs.Changed.{previous_linked, next_linked, removed, gone, fewer}
use Rattle.scr_links.proofs.chains.Chains.remove.Goals as goal

pub set_next-requires : goal.set_next-requires
set_next-requires c =
    previous_linked c.args.self.now (chained c.self.inside) c.args.list c.args.place c.self.view_is c.self.invariant
    c.at-ends.result c.at-ends.ensures.at c.requires c.index.result.now c.index.ensures

pub set_previous-requires : goal.set_previous-requires
set_previous-requires c = λ some.
    let low = next_linked c.args.self.now (chained c.self.inside) c.args.list c.args.place c.self.view_is
    c.self.invariant c.at-ends.result c.at-ends.ensures.at c.requires c.index.result.now c.index.ensures some in
    let same = c.set_next.ensures.places in
    omega (arith, low, same)

pub set-requires : goal.set-requires
set-requires c =
    listed_below (chained c.self.inside) c.args.list c.args.place c.self.inside.ends.room
    (ap (λ (v : Chained). has c.args.place (list_of v c.args.list)) c.self.view_is ∙ c.requires)
    (λ high. sym c.at-ends.ensures.at ∙ c.at-ends.ensures.past high)

abbrev after : goal.After-set → Chained
after c = record {
  links = c.set_previous.new.links.items;
  ends = c.set.new.self;
  room = c.set.new.self.room;
}

here : (c : goal.After-set) → c.set_previous.new.ends ≡ ends_at (after c).ends c.args.list
here c = sym (c.set.ensures.at c.args.list ∙ cond-true _ _ _ (eq-eqb c.args.list c.args.list refl))

there : (c : goal.After-set) → (number : ℕ) → eqb number c.args.list ≡ false
    → ends_at (after c).ends number ≡ ends_at (chained c.self.inside).ends number
there c number f = c.set.ensures.at number ∙ cond-false _ _ _ f

stays : (c : goal.After-set)
    → Kept c.args.self.now (after c) c.args.list (without c.args.place (list_of c.args.self.now c.args.list))
stays c =
    removed c.args.self.now (chained c.self.inside) c.args.list c.args.place c.self.view_is c.self.invariant
    c.at-ends.result c.at-ends.ensures.at c.requires c.index.result.now c.index.ensures
    (after c) c.set_previous.new.ends (here c) (there c) _ _ c.set_next.ensures c.set_previous.ensures

pub invariant_of-self : goal.invariant_of-self
invariant_of-self c = (stays c).chains

pub returns : goal.returns
returns c =
    let links = ap (λ (v : Chained). length v.links) c.self.view_is in
    let room = ap (λ (v : Chained). v.room) c.self.view_is in
    let same = c.set.ensures.room in
    record {
      listed = (stays c).listed;
      fewer = fewer c.args.self.now (chained c.self.inside) (after c) c.args.list c.args.place c.self.view_is
          c.self.invariant c.requires (stays c);
      gone = gone c.args.self.now (chained c.self.inside) (after c) c.args.list c.args.place c.self.view_is
          c.self.invariant c.requires (stays c);
      others = (stays c).others;
      places = c.set_previous.ensures.places ∙ c.set_next.ensures.places ∙ links;
      numbers = omega (arith, room, same);
    }
