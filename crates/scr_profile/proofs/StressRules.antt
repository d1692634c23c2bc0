-- The tables of interest rate stresses follow the rule.
use Rattle.std.proofs.Common.{◌≡◌, map, refl}
use Rattle.std.specs.List.{range_with_len}
use Rattle.scr_profile.specs.declared.tables.TheConstants.{INTEREST_UP, INTEREST_DOWN}
use Rattle.scr_profile.specs.Interest.{rise, fall, stress}

pub interest_up : INTEREST_UP ≡ map (stress rise) (range_with_len 1 100)
interest_up = refl

pub interest_down : INTEREST_DOWN ≡ map (stress fall) (range_with_len 1 100)
interest_down = refl
