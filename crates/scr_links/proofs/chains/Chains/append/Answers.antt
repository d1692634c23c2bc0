-- Four steps put a place at the end of its list.
use Rattle.std.proofs.Common.{◌≡◌, ℕ, ◌++◌, ◌∷◌, [], false, eqb, eq-eqb, length, refl, ap, sym, ◌∙◌, arith}
use Rattle.std.proofs.lemmas.Bool.{cond-true, cond-false}
use Rattle.scr_links.specs.Chains.{Chained, ends_at, list_of}
use Rattle.scr_links.specs.ChainsInside.{chained}
use Rattle.scr_links.proofs.Linked.{Kept, list_few}
use Rattle.scr_links.proofs.Changed.{last_linked, appended}
use Rattle.scr_links.proofs.chains.Chains.append.Goals as goal

pub set_next-requires : goal.set_next-requires
set_next-requires c =
    let before = chained c.self.inside in
    last_linked before before c.args.list c.args.place refl c.self.invariant c.at-ends.result c.at-ends.ensures.at

abbrev after : goal.After-set → Chained
after c = record {
  links = c.set_previous-2.new.links.items;
  ends = c.set.new.self;
  room = c.set.new.self.room;
}

here : (c : goal.After-set) → c.set_previous-2.new.ends ≡ ends_at (after c).ends c.args.list
here c = sym (c.set.ensures.at c.args.list ∙ cond-true _ _ _ (eq-eqb c.args.list c.args.list refl))

there : (c : goal.After-set) → (number : ℕ) → eqb number c.args.list ≡ false
    → ends_at (after c).ends number ≡ ends_at (chained c.self.inside).ends number
there c number f = c.set.ensures.at number ∙ cond-false _ _ _ f

stays : (c : goal.After-set)
    → Kept c.args.self.now (after c) c.args.list (list_of c.args.self.now c.args.list ++ c.args.place ∷ [])
stays c =
    appended c.args.self.now (chained c.self.inside) c.args.list c.args.place c.self.view_is c.self.invariant
    c.at-ends.result c.at-ends.ensures.at (after c) c.set_previous-2.new.ends (here c) (there c)
    c.requires.free c.requires.place
    _ _ _ _ _ _ c.set_next.ensures c.set_previous.ensures c.set_next-2.ensures c.set_previous-2.ensures

pub invariant_of-self : goal.invariant_of-self
invariant_of-self c = (stays c).chains

pub returns : goal.returns
returns c =
    let chains = (stays c).chains in
    let some = list_few (after c) chains c.args.list in
    let links = ap (λ (v : Chained). length v.links) c.self.view_is in
    let room = ap (λ (v : Chained). v.room) c.self.view_is in
    let same = c.set.ensures.room in
    record {
      listed = (stays c).listed;
      others = (stays c).others;
      places = c.set_previous-2.ensures.places ∙ c.set_next-2.ensures.places ∙ c.set_previous.ensures.places
          ∙ c.set_next.ensures.places ∙ links;
      numbers = omega (arith, room, same);
      few = omega (arith, some, chains.few);
    }
