use Rattle.std.proofs.Common.{ap, lit<}
use Rattle.scr_num.proofs.Enclosing.{Encloses-same}
use Rattle.scr_agg.specs.Choice.{chosen}
use Rattle.scr_agg.specs.Correlated.{all_ends}
use Rattle.scr_agg.specs.Unbeaten.{Alternative, alternative}
use Rattle.scr_agg.proofs.Chosen.{chosen-is}
use Rattle.scr_rate.specs.Interest.{gross_exact, scenario_outcome, interest_outcomes}
use Rattle.scr_rate.proofs.Costs.{gross_encloses, scenario_encloses, outcomes_enclosed}
use Rattle.scr_rate.proofs.SizeLemmas.{picked-cost, picked-low}
use Rattle.scr_num.specs.Figure.{Frac}
use Rattle.scr_rate.proofs.interest.Goals as goal

pub returns-clause-up_encloses : goal.returns-clause-up_encloses
returns-clause-up_encloses c =
    λ losses h. Encloses-same 1000 _ _ _ _ (Frac (gross_exact losses)) (ap (λ (a : Alternative). a.gross.low) c.scenario-up.ensures.value)
    (ap (λ (a : Alternative). a.gross.high) c.scenario-up.ensures.value) (gross_encloses (all_ends c.args.up.now) losses h)

pub returns-clause-down_encloses : goal.returns-clause-down_encloses
returns-clause-down_encloses c =
    λ losses h. Encloses-same 1000 _ _ _ _ (Frac (gross_exact losses)) (ap (λ (a : Alternative). a.gross.low) c.scenario-down.ensures.value)
    (ap (λ (a : Alternative). a.gross.high) c.scenario-down.ensures.value) (gross_encloses (all_ends c.args.down.now) losses h)

pub returns-clause-chosen : goal.returns-clause-chosen
returns-clause-chosen c =
    λ ups downs h k.
    let outcomes = interest_outcomes ups downs c.args.absorb_up c.args.absorb_down in
    c.pick-picked.ensures.chosen 1000 outcomes (chosen outcomes)
    (rw (c.scenario-up.ensures.value, c.scenario-down.ensures.value)
    (outcomes_enclosed (all_ends c.args.up.now) (all_ends c.args.down.now) ups downs c.args.absorb_up c.args.absorb_down h k))
    (chosen-is outcomes (lit< tt))

pub returns-clause-up_net_encloses : goal.returns-clause-up_net_encloses
returns-clause-up_net_encloses c =
    λ losses h. Encloses-same 1000 _ _ _ _ (Frac (scenario_outcome losses c.args.absorb_up).net) (ap (λ (a : Alternative). a.net.low) c.scenario-up.ensures.value)
    (ap (λ (a : Alternative). a.net.high) c.scenario-up.ensures.value) (scenario_encloses (all_ends c.args.up.now) losses c.args.absorb_up h).net

pub returns-clause-down_net_encloses : goal.returns-clause-down_net_encloses
returns-clause-down_net_encloses c =
    λ losses h. Encloses-same 1000 _ _ _ _ (Frac (scenario_outcome losses c.args.absorb_down).net) (ap (λ (a : Alternative). a.net.low) c.scenario-down.ensures.value)
    (ap (λ (a : Alternative). a.net.high) c.scenario-down.ensures.value) (scenario_encloses (all_ends c.args.down.now) losses c.args.absorb_down h).net

pub returns-clause-picked_size : goal.returns-clause-picked_size
returns-clause-picked_size c =
    picked-cost 1_000_000_000_000_000_000 (alternative c.scenario-up.result) (alternative c.scenario-down.result) c.pick-picked.result.gross c.pick-picked.result.net
    c.pick-picked.ensures.gross c.pick-picked.ensures.net c.scenario-up.ensures.size c.scenario-down.ensures.size

pub returns-clause-gross_lows : goal.returns-clause-gross_lows
returns-clause-gross_lows c = λ ups downs.
    let up = c.scenario-up.ensures.gross_low ups in
    let down = c.scenario-down.ensures.gross_low downs in
    let picked = picked-low (alternative c.scenario-up.result) (alternative c.scenario-down.result) c.pick-picked.result.gross 1_000_000_000_000_000_000
    c.pick-picked.ensures.gross c.scenario-up.ensures.size.gross c.scenario-down.ensures.size.gross up down in
    (up, down, picked)
