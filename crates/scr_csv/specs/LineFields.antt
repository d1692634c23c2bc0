-- The fields of a line (this project's own): those that csv gives for the line alone, without headers and without
-- trimming.
use Rattle.std.specs.Prelude.{ℕ, Bool, not, ◌&&◌, ◌==◌, List, [], Option, Some, None, nat_le}
use Rattle.csv.specs.Machine.{Read, next_record}
use Rattle.csv.specs.Reading.{default_config}
use Rattle.csv.specs.declared.parser.State.TheVariants as state

abbrev pub fields_read : Option Read → List (List ℕ)
fields_read None = []
fields_read (Some read) = read.0

-- Commas separate. A field that begins with a double quote runs to the next lone double quote, a doubled quote
-- inside stands for one, and a quote that is not closed runs to the line's end. An empty line has no field.
unfoldable pub line_fields : List ℕ → List (List ℕ)
line_fields text = fields_read (next_record default_config state.StartRecord [] [] text)

-- a byte from a blank to `~`
abbrev pub is_printed : ℕ → Bool
is_printed b = nat_le 0x20 b && nat_le b 0x7E

-- any other byte
abbrev pub is_unprinted : ℕ → Bool
is_unprinted b = not (is_printed b)

-- a double quote
abbrev pub is_quote : ℕ → Bool
is_quote b = b == 34

-- a byte that stands for itself in a line
abbrev pub is_plain : ℕ → Bool
is_plain b = is_printed b && not (is_quote b)
