-- How the fields of a `MemSink` stand for what it holds (this project's own).
use Rattle.std.specs.Prelude.{◌≤◌, length, vec_capacity}
use Rattle.scr_io.specs.Memory.{SinkState}
use Rattle.scr_io.specs.declared.memory.TheConstants.{RESERVE}
use Rattle.scr_io.specs.declared.memory.MemSink.TheInside.{Inside}

abbrev pub state_of : Inside → SinkState
state_of s = record {
  written = s.bytes.items;
  fails = s.fails.items;
  piece = s.piece;
  calls = s.calls;
  faults = s.faults;
}

-- the reserved room is there, and no more than that is taken
pub record HasRoom (s : Inside) : Type 0 where
  pub reserved : RESERVE ≤ vec_capacity s.bytes
  pub within : length s.bytes.items ≤ RESERVE
