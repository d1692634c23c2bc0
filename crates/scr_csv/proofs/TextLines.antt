-- The first line of a text, and the lines after it.
use Rattle.std.proofs.Common.{◌≡◌, ℕ, ◌+◌, ◌<◌, ◌==◌, Bool, false, cond, List, [], ◌∷◌, length, take, drop, refl, ap, ◌∙◌, arith, Some, None}
use Rattle.std.specs.Prelude.{position}
use Rattle.std.specs.List.{slice_split}
use Rattle.std.specs.Str.Lines.{lines, lines_of_parts, strip_carriage_return}
use Rattle.scr_csv.proofs.Cuts.{cut_at, cut_nowhere, pieces_left}

abbrev newline : ℕ → Bool
newline b = b == 10

-- a part that others follow is a line without its carriage return
part_before : (part : List ℕ) (parts : List (List ℕ)) → 0 < length parts
    → lines_of_parts (part ∷ parts) ≡ strip_carriage_return part ∷ lines_of_parts parts
part_before part [] more = absurd (omega (arith, more))
part_before part (next ∷ parts) more = refl

pub lines_at : (bytes : List ℕ) (end : ℕ) → position newline bytes ≡ Some end
    → lines bytes ≡ strip_carriage_return (take end bytes) ∷ lines (drop (end + 1) bytes)
lines_at bytes end found =
    ap lines_of_parts (cut_at newline bytes end found)
    ∙ part_before (take end bytes) (slice_split newline (drop (end + 1) bytes))
    (pieces_left newline (drop (end + 1) bytes))

not_empty : (b : ℕ) (bytes : List ℕ) → (length (b ∷ bytes) == 0) ≡ false
not_empty b bytes = grind arith

pub lines_none : (bytes : List ℕ) → 0 < length bytes → position newline bytes ≡ None → lines bytes ≡ bytes ∷ []
lines_none [] some none = absurd (omega (arith, some))
lines_none (b ∷ bytes) some none =
    ap lines_of_parts (cut_nowhere newline (b ∷ bytes) none)
    ∙ ap (λ empty. cond empty [] ((b ∷ bytes) ∷ [])) (not_empty b bytes)
