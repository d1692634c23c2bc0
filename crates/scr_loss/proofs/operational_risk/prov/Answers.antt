use Rattle.std.proofs.Common.{ℤ, ap, ap₂, ◌∙◌, FitsSigned, to_z-of_z, rules}
use Rattle.std.specs.Int.{w64, w128}
use Rattle.scr_num.specs.Rounding.{Ends, exact_ends, add_ends, scale_ends}
use Rattle.scr_num.proofs.Enclosing.{Encloses-same}
use Rattle.scr_loss.specs.OperationalEnds.{or_nil_ends}
use Rattle.scr_loss.proofs.OperationalBounds.{prov-encloses, prov-size}
use Rattle.scr_loss.proofs.operational_risk.prov.Goals as goal

pub returns-clause-ends : goal.returns-clause-ends
returns-clause-ends c =
    let tpl_fits : FitsSigned w64 c.args.input.now.tpl = search rules in
    let tpul_fits : FitsSigned w64 c.args.input.now.tpul = search rules in
    let tpn_fits : FitsSigned w64 c.args.input.now.tpn = search rules in
    let difference_fits : FitsSigned w128 c.difference.result = search rules in
    let from_fits : FitsSigned w128 c.from.result = search rules in
    let life = simp to_z-of_z at c.difference.ensures.value in
    let nonlife = simp to_z-of_z at c.from.ensures in
    c.add.ensures.ends
    ∙ ap₂ add_ends (simp to_z-of_z at c.provisions-life.ensures.ends ∙ ap (λ (x : ℤ). scale_ends (or_nil_ends (exact_ends x)) 9 2) life)
    (simp to_z-of_z at c.provisions.ensures.ends ∙ ap (λ (x : ℤ). scale_ends (or_nil_ends (exact_ends x)) 30 1) nonlife)

pub returns-clause-encloses : goal.returns-clause-encloses
returns-clause-encloses c =
    let e = returns-clause-ends c in
    Encloses-same 1000 _ _ _ _ _ (ap (λ (x : Ends). x.low) e) (ap (λ (x : Ends). x.high) e) (prov-encloses c.args.input.now)

pub returns-clause-not_negative : goal.returns-clause-not_negative
returns-clause-not_negative c =
    let size = prov-size c.args.input.now c.requires in rw (ap (λ (x : Ends). x.low) (returns-clause-ends c)) size.not_negative

pub returns-clause-low_size : goal.returns-clause-low_size
returns-clause-low_size c =
    let size = prov-size c.args.input.now c.requires in rw (ap (λ (x : Ends). x.low) (returns-clause-ends c)) size.low_size

pub returns-clause-high_size : goal.returns-clause-high_size
returns-clause-high_size c =
    let size = prov-size c.args.input.now c.requires in rw (ap (λ (x : Ends). x.high) (returns-clause-ends c)) size.high_size
