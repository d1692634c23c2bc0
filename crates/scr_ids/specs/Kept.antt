-- The stored form of ids (own). Ranges lie one behind another and own disjoint ids. Each range has an index, in the order in which
-- ranges were made. Consecutive ranges of one table are stored as one run, with each range's row beside it.
use Rattle.std.specs.Prelude.{◌≡◌, ℕ, ◌+◌, ◌-◌, ◌*◌, ◌<◌, ◌≤◌, ◌^◌, ◌++◌, List, [], ◌∷◌, length, if◌then◌else◌, nat_lt, replicate, slice_index_or}
use Rattle.scr_ids.specs.Ranges.{Numbered, count, made, first, stride}
use Rattle.scr_ids.specs.declared.places.Places.TheInside.{Inside}
use Rattle.scr_ids.specs.declared.places.Owner.{Owner}
use Rattle.scr_ids.specs.declared.places.Run.{Run}
use Rattle.scr_ids.specs.declared.table.Table.{Table}
use Rattle.scr_ids.specs.declared.table.Table.TheVariants as tables

-- A range of ids: its table, its position there, and its first id (own).
pub record Range : Type 0 where
  pub table : Table
  pub place : ℕ
  pub first : ℕ

-- The range of a table with this position and first id (own).
abbrev pub range_of : Table → ℕ → ℕ → Range
range_of table place start = record { table = table; place = place; first = start }

-- The range of this index; the start of the whole sheet if there is none (own).
abbrev pub range_at : List Range → ℕ → Range
range_at ranges id = slice_index_or ranges id (range_of tables.Whole 0 0)

-- For each id the index of its range (own). The ranges have indexes from `id` on and lie one behind another, each as long as its
-- table's stride.
abbrev pub owners_from : ℕ → List Range → List ℕ
owners_from id [] = []
owners_from id (range ∷ ranges) = replicate (stride range.table) id ++ owners_from (id + 1) ranges

-- For each id, from 0, the index of its range (own).
abbrev pub owners : List Range → List ℕ
owners ranges = owners_from 0 ranges

-- The index of the range that owns an id; 0 past the end (own).
abbrev pub owner_at : List ℕ → ℕ → ℕ
owner_at owner number = slice_index_or owner number 0

-- Id `start` + `j` is owned by the range at position `k` of the table, which begins at `start` (own).
pub record IsOwned (ranges : List Range) (owner : List ℕ) (table : Table) (k start j : ℕ) : Type 0 where
  pub within : start + j < length owner
  pub known : owner_at owner (start + j) < length ranges
  pub is : range_at ranges (owner_at owner (start + j)) ≡ range_of table k start

-- The range is in its table's list at its position, and owns all its ids (own).
pub record IsListed (made_in : Table → ℕ) (first_of : Table → ℕ → ℕ) (owner : List ℕ) (id : ℕ) (range : Range) : Type 0 where
  pub place : range.place < made_in range.table
  pub start : first_of range.table range.place ≡ range.first
  pub owns : (j : ℕ) → j < stride range.table → owner_at owner (range.first + j) ≡ id

-- The id is one of the range with this index (own).
pub record IsOf (ranges : List Range) (number id : ℕ) : Type 0 where
  pub known : id < length ranges
  pub low : (range_at ranges id).first ≤ number
  pub high : number < (range_at ranges id).first + stride (range_at ranges id).table

-- Lists of ranges, ranges and ids agree (own): each listed range owns its ids, each range is listed, and each id is of the range
-- that owns it.
pub record AreKept (made_in : Table → ℕ) (first_of : Table → ℕ → ℕ) (ranges : List Range) (owner : List ℕ) : Type 0 where
  pub owned : (table : Table) (k j : ℕ) → k < made_in table → j < stride table
      → IsOwned ranges owner table k (first_of table k) j
  pub listed : (id : ℕ) → id < length ranges → IsListed made_in first_of owner id (range_at ranges id)
  pub held : (number : ℕ) → number < length owner → IsOf ranges number (owner_at owner number)

-- ---- runs

-- The run of the whole sheet, with range 0 and the ids from 0 on (own).
abbrev pub first_run : Run
first_run = record { table = tables.Whole; first = 0; id = 0 }

-- Run number `n`, from 0; the run of the whole sheet past the end (own).
abbrev pub run_at : List Run → ℕ → Run
run_at runs n = slice_index_or runs n first_run

-- The last run (own).
abbrev pub last_run : List Run → Run
last_run runs = run_at runs (length runs - 1)

-- The last run among `run` and `runs` that begins at or before the range with this index (own).
abbrev pub run_from : Run → List Run → ℕ → Run
run_from run [] id = run
run_from run (next ∷ runs) id = if nat_lt id next.id then run else run_from next runs id

-- The run of the range with this index (own).
abbrev pub run_of : List Run → ℕ → Run
run_of runs id = run_from first_run runs id

-- The first id of the range with this index, if it is of this run (own).
abbrev pub start_in : Run → ℕ → ℕ
start_in run id = run.first + (id - run.id) * stride run.table

-- The first id of the range with this index (own).
abbrev pub start_of : List Run → ℕ → ℕ
start_of runs id = start_in (run_of runs id) id

-- The position in its table of the range with this index; 0 past the end (own).
abbrev pub place_at : List ℕ → ℕ → ℕ
place_at places id = slice_index_or places id 0

-- The range with this index, at this position of its table (own).
abbrev pub range_in : List Run → ℕ → ℕ → Range
range_in runs id place = range_of (run_of runs id).table place (start_of runs id)

-- The ranges with indexes from `id` on, with these positions in their tables (own).
abbrev pub ranges_from : List Run → ℕ → List ℕ → List Range
ranges_from runs id [] = []
ranges_from runs id (place ∷ places) = range_in runs id place ∷ ranges_from runs (id + 1) places

-- All ranges, with these positions in their tables (own).
abbrev pub ranges_of : List Run → List ℕ → List Range
ranges_of runs places = ranges_from runs 0 places

-- A run begins where the ranges of the one before it end (own).
pub record IsNext (run next : Run) : Type 0 where
  pub id : run.id ≤ next.id
  pub first : next.first ≡ start_in run next.id

-- Each run begins where the one before it ends, the first of them after `run` (own).
abbrev pub Follow : Run → List Run → Type 0
Follow run runs = (n : ℕ) → n < length runs → IsNext (run_at (run ∷ runs) n) (run_at runs n)

-- There is a run, and the first begins at id 0 (own). Each further one begins where the one before it ends.
pub record AreInTurn (runs : List Run) : Type 0 where
  pub some : 0 < length runs
  pub begin : (run_at runs 0).first ≡ 0
  pub follow : Follow first_run runs

-- The runs cover `count` ranges, which own exactly the ids below `size` (own).
pub record AreRuns (runs : List Run) (count size : ℕ) : Type 0 where
  pub turn : AreInTurn runs
  pub low : (n : ℕ) → n < length runs → (run_at runs n).id ≤ count
  pub end : start_of runs count ≡ size

-- The id is at place `family` of the range that `owner` names (own).
pub record IsOwner (runs : List Run) (number : ℕ) (owner : Owner) : Type 0 where
  pub table : (run_of runs owner.id).table ≡ owner.table
  pub family : owner.family < stride owner.table
  pub is : start_of runs owner.id + owner.family ≡ number

-- ---- the stored form

-- All ranges of the stored ids (own).
abbrev pub ranges_in : Inside → List Range
ranges_in places = ranges_of places.runs.items places.places.items

-- What contracts see of the stored ids (own).
abbrev pub numbered_of : Inside → Numbered
numbered_of places = record { size = length (owners (ranges_in places)); rolls = places.rolls.items }

-- The invariant of stored ids (own): seven tables, all ids below 2^32, and runs, lists of ranges and ids in agreement.
pub record IsKept (places : Inside) : Type 0 where
  pub tables : length places.rolls.items ≡ 7
  pub live : (table : Table) → count (numbered_of places) table ≤ made (numbered_of places) table
  pub few : (table : Table) → made (numbered_of places) table ≤ length places.places.items
  pub numbers : length places.places.items ≤ length (owners (ranges_in places))
  pub end : length (owners (ranges_in places)) ≡ places.size
  pub size : places.size < 2 ^ 32
  pub runs : AreRuns places.runs.items (length places.places.items) places.size
  pub ranges : AreKept (made (numbered_of places)) (first (numbered_of places)) (ranges_in places) (owners (ranges_in places))
