-- A run as a plan (this project's own): files are read one after another, and by the bytes of each the run ends or goes
-- on; at its end it has a status, and a text that it writes or none.
use Rattle.std.specs.Prelude.{ℕ, List, Result, Ok, Err, if◌then◌else◌, length, nat_le}

pub data Plan (S : Type 0) : Type 0 where
  -- the file of this name is read whole, and its bytes say how the run goes on
  Ask : (name : List ℕ) → (List ℕ → Plan S) → Plan S
  -- the run ends with this status, and writes nothing
  End : S → Plan S
  -- the text is written, and the run ends with this status
  Tell : S → (text : List ℕ) → Plan S

-- a value goes on, and a status ends the run
abbrev pub unless_refused : {S V : Type 0} → (V → Plan S) → Result V S → Plan S
unless_refused rest (Ok value) = rest value
unless_refused rest (Err due) = Plan.End due

-- a value is read further, and a status stays
abbrev pub and_then : {S V W : Type 0} → (V → Result W S) → Result V S → Result W S
and_then next (Ok value) = next value
and_then next (Err due) = Err due

-- the bytes of a file within a limit, or the status that a longer file calls for
abbrev pub limited : {S : Type 0} → ℕ → S → List ℕ → Result (List ℕ) S
limited most too_long bytes = if nat_le (length bytes) most then Ok bytes else Err too_long

-- what the bytes of a file within a limit stand for
abbrev pub within : {S V : Type 0} → ℕ → S → (List ℕ → Result V S) → List ℕ → Result V S
within most too_long reading bytes = and_then reading (limited most too_long bytes)

-- a file is read whole, and what its bytes stand for goes on, or they call for a status
abbrev pub ask : {S V : Type 0} → List ℕ → (List ℕ → Result V S) → (V → Plan S) → Plan S
ask name reading rest = Plan.Ask name (λ bytes. unless_refused rest (reading bytes))
