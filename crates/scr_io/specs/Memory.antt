-- What a shelf and a sink that stand in memory hold, and what their calls make of it (this project's own).
use Rattle.std.specs.Prelude.{ℕ, ◌+◌, min, Bool, not, ◌&&◌, ◌||◌, ◌==◌, nat_eq, nat_le, nat_lt, if◌then◌else◌, List, [], ◌++◌, length, take, drop, Option, None, Some, is_some, unwrap_or, String, string_bytes}
use Rattle.std.specs.Option.{option_map}
use Rattle.std.specs.List.{find, list_any}
use Rattle.std.specs.Cmp.Lexicographic.{pointwise}
use Rattle.std.specs.Global.{Global, Vec}
use Rattle.scr_io.specs.Cause.{risen}
use Rattle.scr_io.specs.Content.{Content, Absent, Holds}
use Rattle.scr_io.specs.declared.memory.TheConstants.{RESERVE}

-- a file's name and its bytes
abbrev pub file_of : String Global × Vec ℕ → List ℕ × List ℕ
file_of file = (string_bytes file.0, file.1.items)

-- the bytes of the first file of that name
abbrev pub bytes_under : List (List ℕ × List ℕ) → List ℕ → Option (List ℕ)
bytes_under files name = option_map (λ file. file.1) (find (λ file. pointwise nat_eq file.0 name) files)

abbrev as_content : Option (List ℕ) → Content
as_content None = Absent
as_content (Some bytes) = Holds bytes

-- such a shelf tells the content of each name
abbrev pub content_under : List (List ℕ × List ℕ) → List ℕ → Content
content_under files name = as_content (bytes_under files name)

-- the call after this many is one of those that are to fail
abbrev pub is_to_fail : List ℕ → ℕ → Bool
is_to_fail fails calls = list_any (λ call. call == risen calls) fails

-- a shelf in memory
pub record ShelfState : Type 0 where
  -- names and bytes
  pub files : List (List ℕ × List ℕ)
  -- which calls are to fail, counted from 1
  pub fails : List ℕ
  -- the most bytes that a read gives
  pub piece : ℕ
  -- how many calls were made
  pub calls : ℕ
  -- what is left of the open file
  pub left : List ℕ
  pub faults : ℕ
  pub strays : ℕ

-- an `open` of this name succeeds
abbrev pub can_open : ShelfState → List ℕ → Bool
can_open s name = is_some (bytes_under s.files name) && not (is_to_fail s.fails s.calls)

-- the shelf after an `open` of this name
abbrev pub after_open : ShelfState → List ℕ → ShelfState
after_open s name = record s {
  calls = risen s.calls;
  left = (if can_open s name then unwrap_or (bytes_under s.files name) [] else []);
  faults = (if can_open s name then s.faults else risen s.faults);
  strays = (if is_some (bytes_under s.files name) then s.strays else risen s.strays);
}

-- how many bytes a read into a buffer of that length gives
abbrev pub read_count : ShelfState → ℕ → ℕ
read_count s room = min s.piece (min (length s.left) room)

-- the shelf after a read into a buffer of that length
abbrev pub after_read : ShelfState → ℕ → ShelfState
after_read s room = record s {
  calls = risen s.calls;
  left = (if is_to_fail s.fails s.calls then s.left else drop (read_count s room) s.left);
  faults = (if is_to_fail s.fails s.calls then risen s.faults else s.faults);
}

-- a sink in memory
pub record SinkState : Type 0 where
  -- all bytes that it took
  pub written : List ℕ
  -- which calls are to fail, counted from 1
  pub fails : List ℕ
  -- the most bytes that a write takes
  pub piece : ℕ
  -- how many calls were made
  pub calls : ℕ
  pub faults : ℕ

-- how many of these bytes a write takes
abbrev pub write_count : SinkState → List ℕ → ℕ
write_count s bytes = min s.piece (length bytes)

-- a write of these bytes succeeds: it is not one that is to fail, it takes a byte if there is one, and what it takes
-- has room
abbrev pub can_write : SinkState → List ℕ → Bool
can_write s bytes =
    not (is_to_fail s.fails s.calls)
    && (nat_lt 0 (write_count s bytes) || nat_eq (length bytes) 0)
    && nat_le (length s.written + write_count s bytes) RESERVE

-- the sink after a write of these bytes
abbrev pub after_write : SinkState → List ℕ → SinkState
after_write s bytes = record s {
  calls = risen s.calls;
  written = (if can_write s bytes then s.written ++ take (write_count s bytes) bytes else s.written);
  faults = (if can_write s bytes then s.faults else risen s.faults);
}
