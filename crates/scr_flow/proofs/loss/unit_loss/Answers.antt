use Rattle.std.proofs.Common.{◌≡◌, length, map, ap, sym, subst, ◌∙◌, rules, lit<}
use Rattle.scr_num.specs.Figure.{Frac}
use Rattle.scr_num.specs.Rounding.{Ends, ends}
use Rattle.scr_num.specs.Enclosure.{Encloses}
use Rattle.scr_yield_curve.specs.DiscountEnds.{one}
use Rattle.scr_flow.specs.Loss.{loss_exact, discount_fall}
use Rattle.scr_yield_curve.specs.Falls.{differences}
use Rattle.scr_flow.specs.Sums.{weighted_ends}
use Rattle.scr_flow.proofs.SumLemmas.{Encloses-weighted}
use Rattle.scr_flow.proofs.LossLemmas.{differences_enclose}
use Rattle.scr_flow.proofs.loss.unit_loss.Goals as goal

pub returns-clause-encloses : goal.returns-clause-encloses
returns-clause-encloses c = λ before after rates rates'.
    let flows = c.args.flows.now in
    let base = c.args.base.now in
    let stressed = c.args.stressed.now in
    let froms = map ends c.args.from.now.at in
    let tos = map ends c.args.to.now.at in
    let flow_places : length c.args.flows.now ≡ 100 = search rules in
    let places = ap length (sym c.new.ensures.ends) ∙ c.new.ensures.count in
    let whole = Encloses-weighted one (lit< tt) (discount_fall before after) 1 flows (differences base froms stressed tos) (flow_places ∙ sym places)
    (differences_enclose base froms stressed tos before after rates rates' (c.requires.from_encloses before rates) (c.requires.to_encloses after rates')) in
    let P : Ends → Type 0 = λ e. Encloses one e.low e.high (Frac (loss_exact flows before after)) in
    subst P (sym (c.fallen.ensures.ends ∙ ap (weighted_ends flows) c.new.ensures.ends)) whole
