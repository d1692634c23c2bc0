-- The cells of each row are of the table, and it stands at one of three levels.
use Rattle.std.proofs.Common.{◌≡◌, ◌∙◌, ℕ, ◌&&◌, Bool, true, Some, slice_get, nat_lt, refl, ap, sym}
use Rattle.std.proofs.lemmas.Bool.{and_parts, ltb-true, true_from_ne_false, true≢false}
use Rattle.std.proofs.lemmas.List.Folds.{list_all_at}
use Rattle.std.proofs.lemmas.Option.{get_or_from_slice_get, slice_get_within}
use Rattle.std.specs.List.{list_all}
use Rattle.scr_drawing.specs.Rows.{IsWithin, Shown, rows}

abbrev is_within : Shown → Bool
is_within r = nat_lt r.gross 102 && (nat_lt r.net 102 && nat_lt r.level 3)

all_within : list_all is_within rows ≡ true
unfolding rows
all_within = refl

passes : (k : ℕ) (r : Shown) → slice_get rows k ≡ Some r → is_within r ≡ true
passes k r is =
    true_from_ne_false (is_within r)
    (λ fails. true≢false (sym all_within ∙ list_all_at is_within rows k r (slice_get_within rows k r is)
    (ap is_within (get_or_from_slice_get rows k r r is) ∙ fails)))

pub within : (k : ℕ) (r : Shown) → slice_get rows k ≡ Some r → IsWithin r
within k r is =
    let both = and_parts (nat_lt r.gross 102) (nat_lt r.net 102 && nat_lt r.level 3) (passes k r is) in
    let rest = and_parts (nat_lt r.net 102) (nat_lt r.level 3) both.1 in
    (ltb-true r.gross 102 both.0, (ltb-true r.net 102 rest.0, ltb-true r.level 3 rest.1))
