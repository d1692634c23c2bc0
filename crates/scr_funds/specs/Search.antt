-- What the search for a chain notes down (this project's own).
use Rattle.std.specs.Prelude.{◌≡◌, ℕ, ◌<◌, ◌&&◌, ◌||◌, Bool, not, nat_lt, List, [], ◌∷◌, Vec, Some, map, nat_eq, is_some, if◌then◌else◌, length, slice_get}
use Rattle.std.specs.Global.{Global}
use Rattle.std.specs.Map.{lookup}
use Rattle.indexmap.specs.IndexMap.{insert_entry}
use Rattle.scr_funds.specs.Components.{Components}

-- the components of each row
abbrev pub rows_of : List (Vec ℕ Global) → Components
rows_of rows = map (λ row. row.items) rows

-- A search for chains to a fund has to go on from here: what has no components leads nowhere, and where the ranks are
-- in order what is not above the fund does not lead to it. `components` gives those of each.
abbrev pub goes_on : (ℕ → List ℕ) → (ℕ → ℕ) → Bool → ℕ → ℕ → Bool
goes_on components rank are_ranked to fund =
    not (nat_eq (length (components fund)) 0) && (not are_ranked || nat_lt (rank to) (rank fund))

-- the entries once those components that were not reached before and from which the search goes on are entered, with
-- the place of what leads to them
abbrev pub entered : (ℕ → Bool) → ℕ → List ℕ → List (ℕ × ℕ) → List (ℕ × ℕ)
entered on place [] entries = entries
entered on place (c ∷ cs) entries =
    entered on place cs
    (if is_some (lookup (nat_eq c) entries) || not (on c) then entries else insert_entry nat_eq entries c place)

-- The entry at the place is led to through the funds of the list, the last of them first: each entry names the place,
-- before its own, of what leads to it, and the first entry is the fund from which the search began.
abbrev pub IsTraced : List (ℕ × ℕ) → ℕ → ℕ → List ℕ → Type 0
IsTraced entries from place [] = (place ≡ 0) × (before : ℕ) × (slice_get entries 0 ≡ Some (from, before))
IsTraced entries from place (fund ∷ trail) =
    (before : ℕ) × (before < place) × (slice_get entries place ≡ Some (fund, before))
    × IsTraced entries from before trail
