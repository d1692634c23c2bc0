-- How the fields of a `MemShelf` stand for what it holds (this project's own).
use Rattle.std.specs.Prelude.{ℕ, ◌<◌, ◌≤◌, List, [], length, drop, Option, None, Some, String, slice_get, map}
use Rattle.std.specs.Option.{option_map_or, ForSome}
use Rattle.std.specs.Global.{Global, Vec}
use Rattle.scr_io.specs.Memory.{ShelfState, file_of}
use Rattle.scr_io.specs.declared.memory.MemShelf.TheInside.{Inside}

-- the bytes of the file at that place
abbrev pub bytes_at : List (String Global × Vec ℕ) → ℕ → List ℕ
bytes_at files place = option_map_or (λ file. file.1.items) (slice_get files place) []

-- what is left of the open file, of which `offset` bytes were read
abbrev pub left_of : List (String Global × Vec ℕ) → Option ℕ → ℕ → List ℕ
left_of files None offset = []
left_of files (Some place) offset = drop offset (bytes_at files place)

abbrev pub state_of : Inside → ShelfState
state_of s = record {
  files = map file_of s.files.items;
  fails = s.fails.items;
  piece = s.piece;
  calls = s.calls;
  left = left_of s.files.items s.place s.offset;
  faults = s.faults;
  strays = s.strays;
}

-- the open file is one of the files, no more of it was read than it has, and a read can give a byte
pub record IsPlaced (s : Inside) : Type 0 where
  pub place : ForSome s.place (λ k. k < length s.files.items)
  pub offset : ForSome s.place (λ k. s.offset ≤ length (bytes_at s.files.items k))
  pub piece : 1 ≤ s.piece
