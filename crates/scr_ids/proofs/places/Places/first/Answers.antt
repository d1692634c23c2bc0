use Rattle.std.proofs.Common.{ap, length, sym, ◌∙◌, arith}
use Rattle.scr_ids.specs.Ranges.{Numbered, RangeList, first, first_in, made, roll_at}
use Rattle.scr_ids.specs.Kept.{numbered_of}
use Rattle.scr_ids.proofs.Views.{below-size, first-is, live-made, made-is}
use Rattle.scr_ids.proofs.places.Places.first.Goals as goal

pub first-requires : goal.first-requires
first-requires c =
    let some = live-made c.self.inside c.self.invariant c.args.self.now c.self.view_is c.args.table in
    let is = made-is (numbered_of c.self.inside) c.args.table in
    let view = ap (λ (v : Numbered). made v c.args.table) c.self.view_is in
    let roll = ap (λ (r : RangeList). length r.firsts) (c.roll_of.ensures ∙ ap (λ rs. roll_at rs c.args.table) c.deref.ensures.value) in
    omega (arith, c.requires, some, is, view, roll)

pub returns-clause-first : goal.returns-clause-first
returns-clause-first c =
    c.first.ensures ∙ ap (λ (r : RangeList). first_in r.firsts c.args.k) (c.roll_of.ensures ∙ ap (λ rs. roll_at rs c.args.table) c.deref.ensures.value)
    ∙ sym (first-is (numbered_of c.self.inside) c.args.table c.args.k) ∙ ap (λ (v : Numbered). first v c.args.table c.args.k) c.self.view_is

pub returns-clause-low : goal.returns-clause-low
returns-clause-low c =
    let some = live-made c.self.inside c.self.invariant c.args.self.now c.self.view_is c.args.table in
    let below = below-size c.self.inside c.self.invariant c.args.self.now c.self.view_is c.args.table c.args.k (omega (arith, c.requires, some)) in
    omega (arith, below, c.self.invariant.size)
