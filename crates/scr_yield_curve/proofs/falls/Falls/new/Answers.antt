use Rattle.std.proofs.Common.{◌≡◌, ◌+◌, ◌<◌, length, get_or, map, ℤ, sym, ◌∙◌, arith, rules, pos, FitsSigned, w64, to_z-of_z}
use Rattle.std.proofs.lemmas.List.{get_or-map, length-map}
use Rattle.scr_num.specs.Rounding.{Ends, ends}
use Rattle.scr_yield_curve.specs.Falls.{difference}
use Rattle.scr_yield_curve.proofs.FallLemmas.{falls-begun, falls-more, falls-all, fall-at}
use Rattle.scr_yield_curve.proofs.falls.Falls.new.Goals as goal

pub loop-i-init : goal.loop-i-init
loop-i-init c = falls-begun c.args.base.now (map ends c.args.from.now.at) c.args.stressed.now (map ends c.args.to.now.at) c.exact-at.result

pub loop-i-preserved : goal.loop-i-preserved
loop-i-preserved c =
    let i = c.loop-i.i in
    let base_fits : FitsSigned w64 (get_or c.args.base.now c.loop-i.i (pos 0)) = search rules in
    let stressed_fits : FitsSigned w64 (get_or c.args.stressed.now c.loop-i.i (pos 0)) = search rules in
    let base : length c.args.base.now ≡ 100 = search rules in
    let stressed : length c.args.stressed.now ≡ 100 = search rules in
    let from : length c.args.from.now.at ≡ 100 = search rules in
    let to : length c.args.to.now.at ≡ 100 = search rules in
    let froms : length (map ends c.args.from.now.at) ≡ 100 = rw length-map from in
    let tos : length (map ends c.args.to.now.at) ≡ 100 = rw length-map to in
    let is = simp to_z-of_z at c.fall_of.ensures.ends in
    falls-more c.args.base.now (map ends c.args.from.now.at) c.args.stressed.now (map ends c.args.to.now.at) c.loop-i.at i c.fall_of.result c.loop-i-test.true froms tos
    (fall-at c.args.base.now c.args.from.now.at c.args.stressed.now c.args.to.now.at i (ends c.fall_of.result) c.index-from-i.result c.index-to-i.result base from stressed to c.loop-i-test.true is)
    (record { low = c.fall_of.ensures.low_size; high = c.fall_of.ensures.high_size }) c.loop-i.invariant

pub invariant_of-result : goal.invariant_of-result
invariant_of-result c = λ k d within. c.loop-i.invariant.small k d (omega (arith, within, c.loop-i.invariant.count, c.loop-i-test.false))

pub returns-clause-ends : goal.returns-clause-ends
returns-clause-ends c =
    let base : length c.args.base.now ≡ 100 = search rules in
    let stressed : length c.args.stressed.now ≡ 100 = search rules in
    falls-all c.args.base.now (map ends c.args.from.now.at) c.args.stressed.now (map ends c.args.to.now.at) c.loop-i.at c.loop-i.i base stressed c.loop-i-test.false c.loop-i.invariant

pub returns-clause-count : goal.returns-clause-count
returns-clause-count c = length-map c.loop-i.at ends ∙ c.loop-i.invariant.count
