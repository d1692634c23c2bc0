-- A round of nodes, each worked out from its sources (own).
use Rattle.std.specs.Prelude.{◌≡◌, ℕ, ◌<◌, ◌≤◌, List, [], length, slice_index_or}
use Rattle.scr_board.specs.declared.lists.Round.{Round}
use Rattle.scr_board.specs.Counts.{times}

-- A graph of `count` nodes, numbered from 0, without a cycle (own). Each source is listed once, and a rank falls from each node
-- to its sources. A node is among the dependants of another exactly if the other is among its sources. The starts are the nodes
-- without a source, each once.
pub record IsRound (count : ℕ) (sources dependants : ℕ → List ℕ) (starts : List ℕ) : Type 0 where
  pub within : (n m : ℕ) → 0 < times m (sources n) → (n < count) × (m < count)
  pub once : (n m : ℕ) → times m (sources n) ≤ 1
  pub pairs : (n m : ℕ) → times n (dependants m) ≡ times m (sources n)
  pub low : (n : ℕ) → 0 < times n starts → n < count
  pub single : (n : ℕ) → times n starts ≤ 1
  pub free : (n : ℕ) → 0 < times n starts → sources n ≡ []
  pub begins : (n : ℕ) → n < count → sources n ≡ [] → 0 < times n starts
  pub rank : ℕ → ℕ
  pub falls : (n m : ℕ) → 0 < times m (sources n) → rank m < rank n

-- The number of nodes of a round (own).
abbrev pub count_of : Round → ℕ
count_of round = length round.sources

-- The sources of node `n`, from 0; none past the last node (own).
abbrev pub sources_of : Round → ℕ → List ℕ
sources_of round n = slice_index_or round.sources n []

-- The dependants of node `n`, from 0; none past the last node (own).
abbrev pub dependants_of : Round → ℕ → List ℕ
dependants_of round n = slice_index_or round.dependants n []

-- Word `j` of the figure listed for node `n`, both from 0; 0 past the last (own).
abbrev pub word_of : Round → ℕ → ℕ → ℕ
word_of round n j = slice_index_or (slice_index_or round.words n []) j 0

-- The lists of a round form a graph without a cycle, as `IsRound` says (own).
abbrev pub IsFormed : Round → Type 0
IsFormed round = IsRound (count_of round) (sources_of round) (dependants_of round) round.starts
