-- Each figure of a row tells the row's name.
use Rattle.std.proofs.Common.{◌≡◌}
use Rattle.scr_sheet.specs.BalanceSheet.{group_name, position_name, liability_name, stake_name, curve_name}
use Rattle.scr_sheet.specs.declared.{keys.Projection.Projection, rows.Curve.Curve, rows.Group.Group, rows.Liability.Liability, rows.Position.Position, rows.Stake.Stake}
use Rattle.scr_nodes.specs.declared.{node.Direction.Direction, node.Measure.Measure}
use Rattle.scr_nodes.specs.Sources.{fund_total, security_total, unit_loss, security_rate, liability_rate, liability_present, liability_loss, currency_loss, currency_scenario, currency_choice, currency_picked, security_spread, group_total, concentration_square, group_loss}

pub told-fund : (a b : Stake) → fund_total a ≡ fund_total b → stake_name a ≡ stake_name b
told-fund a b e = cc

pub told-security : (a b : Position) → security_total a ≡ security_total b → position_name a ≡ position_name b
told-security a b e = cc

pub told-unit : (direction : Direction) (a b : Position) → unit_loss direction a ≡ unit_loss direction b
    → position_name a ≡ position_name b
told-unit direction a b e = cc

pub told-rate : (direction : Direction) (a b : Position) → security_rate direction a ≡ security_rate direction b
    → position_name a ≡ position_name b
told-rate direction a b e = cc

pub told-liability : (direction : Direction) (a b : Liability) → liability_rate direction a ≡ liability_rate direction b
    → liability_name a ≡ liability_name b
told-liability direction a b e = cc

pub told-present : (a b : Liability) → liability_present a ≡ liability_present b → liability_name a ≡ liability_name b
told-present a b e = cc

pub told-loss : (projection : Projection) (a b : Liability) → liability_loss projection a ≡ liability_loss projection b
    → liability_name a ≡ liability_name b
told-loss projection a b e = cc

pub told-currency : (direction : Direction) (a b : Curve) → currency_loss direction a ≡ currency_loss direction b
    → curve_name a ≡ curve_name b
told-currency direction a b e = cc

pub told-scenario : (direction : Direction) (measure : Measure) (a b : Curve)
    → currency_scenario direction measure a ≡ currency_scenario direction measure b → curve_name a ≡ curve_name b
told-scenario direction measure a b e = cc

pub told-choice : (a b : Curve) → currency_choice a ≡ currency_choice b → curve_name a ≡ curve_name b
told-choice a b e = cc

pub told-picked : (measure : Measure) (a b : Curve) → currency_picked measure a ≡ currency_picked measure b
    → curve_name a ≡ curve_name b
told-picked measure a b e = cc

pub told-spread : (a b : Position) → security_spread a ≡ security_spread b → position_name a ≡ position_name b
told-spread a b e = cc

pub told-group : (a b : Group) → group_total a ≡ group_total b → group_name a ≡ group_name b
told-group a b e = cc

pub told-square : (a b : Group) → concentration_square a ≡ concentration_square b → group_name a ≡ group_name b
told-square a b e = cc

pub told-group_loss : (a b : Group) → group_loss a ≡ group_loss b → group_name a ≡ group_name b
told-group_loss a b e = cc
