-- What is taken off (this project's own): the edges of one fund.
use Rattle.std.specs.Prelude.{ℕ, List}

pub record KeptEdges : Type 0 where
  pub from : ℕ
  pub edges : List ℕ
