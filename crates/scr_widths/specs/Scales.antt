-- What is so of the scale of each book (this project's own): what it holds and pays is within limits.
use Rattle.std.specs.Prelude.{◌≤◌}
use Rattle.scr_widths.specs.declared.scale.Scale.{Scale}

pub record IsScale (scale : Scale) : Type 0 where
  pub multiple : scale.multiple ≤ 31
  pub foreign : scale.foreign ≤ 32
  pub tax : scale.tax ≤ 1_000_000
