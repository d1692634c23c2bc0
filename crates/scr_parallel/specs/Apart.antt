-- Nodes of a board none of which is reckoned from another (this project's own).
use Rattle.std.specs.Prelude.{◌≡◌, ℕ, ◌<◌, ◌^◌, List, [], length, pos, replicate}
use Rattle.std.specs.List.{range_with_len}
use Rattle.scr_num.specs.Rounding.{exact_ends}
use Rattle.scr_board.specs.BoardRounds.{BoardRound}

-- all nodes are starts, and few enough to be counted in 32 bits
pub record AreStarts (starts : List ℕ) : Type 0 where
  pub all : starts ≡ range_with_len 0 (length starts)
  pub few : length starts < 2 ^ 32

-- the round of so many nodes without a place, a dependant or a figure that is told
abbrev pub apart_round : ℕ → BoardRound
apart_round many = record {
  places = replicate many [];
  dependants = replicate many [];
  starts = range_with_len 0 many;
  worked = replicate many (exact_ends (pos 0));
}
