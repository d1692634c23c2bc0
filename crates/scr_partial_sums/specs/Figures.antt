-- Figures by id, and the figures of a list's members (own).
use Rattle.std.specs.Prelude.{ℕ, ◌+◌, pos, List, map, slice_get}
use Rattle.std.specs.Option.{option_map_or}
use Rattle.scr_num.specs.Rounding.{Ends, ends, exact_ends}
use Rattle.scr_partial_sums.specs.declared.figure.Figure.{Figure}

-- The ends of the figure with this id; 0 exactly if there is none (own).
abbrev pub ends_at : List Figure → ℕ → Ends
ends_at figures number = option_map_or (λ (figure : Figure). ends figure.span) (slice_get figures number) (exact_ends (pos 0))

-- The id of a member's figure: the first id of the member's row plus the figure's family, counted from 0 (own).
abbrev pub member_number : ℕ → ℕ → ℕ
member_number family first = first + family

-- The ends of figure `family` of the members whose rows begin at ids `firsts` (own).
abbrev pub members_ends : List Figure → ℕ → List ℕ → List Ends
members_ends figures family firsts = map (λ first. ends_at figures (member_number family first)) firsts
