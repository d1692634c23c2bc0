use Rattle.std.proofs.Common.{◌≡◌, ◌≤◌, ℕ, List, ap, length, sym, ◌∙◌, arith, get_or-take}
use Rattle.std.proofs.lemmas.List.{length-take-le}
use Rattle.scr_ids.specs.Ranges.{Numbered, RangeList, count, first, first_in, made, roll_at}
use Rattle.scr_ids.specs.Kept.{numbered_of}
use Rattle.scr_ids.proofs.Views.{below-size, count-is, first-is, live-made, made-is}
use Rattle.scr_ids.proofs.places.Places.firsts.Goals as goal

-- as many as there are rows, which are among the ranges
many : (c : goal.After-firsts) → c.live-live.result ≡ count c.args.self.now c.args.table
many c =
    c.live-live.ensures ∙ ap (λ (r : RangeList). r.live) (c.roll_of-roll.ensures ∙ ap (λ rs. roll_at rs c.args.table) c.deref.ensures.value)
    ∙ sym (count-is (numbered_of c.self.inside) c.args.table) ∙ ap (λ (v : Numbered). count v c.args.table) c.self.view_is

few : (c : goal.After-firsts) → c.live-live.result ≤ length c.firsts.result.now
few c =
    let some = live-made c.self.inside c.self.invariant c.args.self.now c.self.view_is c.args.table in
    let is = made-is (numbered_of c.self.inside) c.args.table in
    let view = ap (λ (v : Numbered). made v c.args.table) c.self.view_is in
    let roll = ap (λ (r : RangeList). length r.firsts) (c.roll_of-roll.ensures ∙ ap (λ rs. roll_at rs c.args.table) c.deref.ensures.value) in
    let got = ap (λ (firsts : List ℕ). length firsts) c.firsts.ensures in
    let live = many c in
    omega (arith, some, is, view, roll, got, live)

pub slice_bounds-result-end : goal.slice_bounds-result-end
slice_bounds-result-end c = sym (length-take-le c.live-live.result c.firsts.result.now (few c))

pub returns-clause-count : goal.returns-clause-count
returns-clause-count c = length-take-le c.live-live.result c.firsts.result.now (few c) ∙ many c

pub returns-clause-each : goal.returns-clause-each
returns-clause-each c = λ k below.
    let live = many c in
    get_or-take c.live-live.result c.firsts.result.now k 0 (omega (arith, below, live))
    ∙ ap (λ (firsts : List ℕ). first_in firsts k) c.firsts.ensures
    ∙ ap (λ (r : RangeList). first_in r.firsts k) (c.roll_of-roll.ensures ∙ ap (λ rs. roll_at rs c.args.table) c.deref.ensures.value)
    ∙ sym (first-is (numbered_of c.self.inside) c.args.table k) ∙ ap (λ (v : Numbered). first v c.args.table k) c.self.view_is

pub returns-clause-low : goal.returns-clause-low
returns-clause-low c = λ k few.
    let some = live-made c.self.inside c.self.invariant c.args.self.now c.self.view_is c.args.table in
    let below = below-size c.self.inside c.self.invariant c.args.self.now c.self.view_is c.args.table k (omega (arith, few, some)) in
    omega (arith, below, c.self.invariant.size)
