-- The alternatives that may be the one chosen, where of each gross and net requirement only two ends are known (this
-- project's own).
use Rattle.std.specs.Prelude.{ℕ, zero, suc, ◌^◌, ◌≤◌, ◌++◌, pos, ◌≤ℤ◌, Bool, ◌&&◌, ◌||◌, int_lt, nat_lt, List, [], ◌∷◌}
use Rattle.std.specs.Prelude.{map, fold, length, sum_by, slice_index_or, if◌then◌else◌}
use Rattle.std.specs.List.{list_any, range_with_len}
use Rattle.std.specs.Ordering.{int_eq}
use Rattle.std.specs.Int.RustNames.{count_ones}
use Rattle.scr_num.specs.Figure.Figure.{Frac}
use Rattle.scr_num.specs.Rounding.{Ends, ends, exact_ends, hull_ends, max_ends}
use Rattle.scr_num.specs.Enclosure.{Encloses}
use Rattle.scr_agg.specs.declared.scenario.Scenario.{Scenario}
use Rattle.scr_agg.specs.Choice.{Outcome}

-- the ends of a scenario's gross and net requirement
pub record Alternative : Type 0 where
  pub gross : Ends
  pub net : Ends

abbrev pub alternative : Scenario → Alternative
alternative scenario = record { gross = ends scenario.gross; net = ends scenario.net }

abbrev pub alternatives : List Scenario → List Alternative
alternatives list = map alternative list

abbrev pub alternative_at : List Alternative → ℕ → Alternative
alternative_at list k = slice_index_or list k (record { gross = exact_ends (pos 0); net = exact_ends (pos 0) })

-- both are known exactly, and are equal
abbrev pub are_one : Ends → Ends → Bool
are_one a b = int_eq a.low a.high && (int_eq b.low b.high && int_eq a.low b.low)

-- the first gross requirement is greater, or both are known and equal and it is listed earlier
abbrev pub outweighs : Bool → Ends → Ends → Bool
outweighs earlier a b = int_lt b.high a.low || (are_one a b && earlier)

-- Whatever the exact requirements are, the first alternative is taken in place of the second: its net is greater, or
-- both nets are known and equal and the gross decides.
abbrev pub beats : Bool → Alternative → Alternative → Bool
beats earlier a b = int_lt b.net.high a.net.low || (are_one a.net b.net && outweighs earlier a.gross b.gross)

-- some alternative beats the one at the place
unfoldable pub is_beaten : List Alternative → ℕ → Bool
is_beaten list place =
    list_any (λ j. beats (nat_lt j place) (alternative_at list j) (alternative_at list place))
    (range_with_len 0 (length list))

-- the places below n of those that nothing beats
unfoldable pub unbeaten_below : List Alternative → ℕ → List ℕ
unbeaten_below list zero = []
unbeaten_below list (suc n) = if is_beaten list n then unbeaten_below list n else unbeaten_below list n ++ n ∷ []

abbrev pub unbeaten : List Alternative → List ℕ
unbeaten list = unbeaten_below list (length list)

-- one bit for each
abbrev pub mask_of : List Alternative → ℕ
mask_of list = sum_by (λ k. 2 ^ k) (unbeaten list)

-- two or more bits of a mask are set: more than one alternative may be chosen
abbrev pub HasSeveral : ℕ → Type 0
HasSeveral mask = 2 ≤ count_ones mask

-- the least ends that hold all of a list
abbrev pub hull_of : List Ends → Ends
hull_of [] = exact_ends (pos 0)
hull_of (e ∷ es) = fold hull_ends e es

-- the greatest of a list, end by end
abbrev pub greatest_of : List Ends → Ends
greatest_of [] = exact_ends (pos 0)
greatest_of (e ∷ es) = fold max_ends e es

-- the ends of the gross requirement chosen, and of the net one
abbrev pub chosen_gross : List Alternative → Ends
chosen_gross list = hull_of (map (λ k. (alternative_at list k).gross) (unbeaten list))

abbrev pub chosen_net : List Alternative → Ends
chosen_net list = greatest_of (map (λ a. a.net) list)

-- the first ends reach as far as the second ones, or further
pub record Covers (wide e : Ends) : Type 0 where
  pub low : wide.low ≤ℤ e.low
  pub high : e.high ≤ℤ wide.high

-- the ends enclose the exact requirements, in a unit of which `unit` make one of theirs
pub record EncloseOutcome (unit : ℕ) (a : Alternative) (outcome : Outcome) : Type 0 where
  pub gross : Encloses unit a.gross.low a.gross.high (Frac outcome.gross)
  pub net : Encloses unit a.net.low a.net.high (Frac outcome.net)

-- place by place
abbrev pub EncloseOutcomes : ℕ → List Alternative → List Outcome → Type 0
EncloseOutcomes unit [] [] = Unit {0}
EncloseOutcomes unit (a ∷ rest) (o ∷ os) = EncloseOutcome unit a o × EncloseOutcomes unit rest os
EncloseOutcomes unit [] (o ∷ os) = ⊥
EncloseOutcomes unit (a ∷ rest) [] = ⊥
