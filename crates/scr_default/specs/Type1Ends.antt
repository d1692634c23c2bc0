-- The capital requirement for type 1 exposures as it is worked out, in grains (this project's own). Of the standard
-- deviation only two ends are known, so more than one band can be possible.
use Rattle.std.specs.Prelude.{ℕ, zero, suc, ◌*◌, ◌^◌, pos, Bool, ◌&&◌, nat_le, nat_lt, List, [], ◌∷◌, map, filter, sum_by, if◌then◌else◌}
use Rattle.scr_num.specs.Rounding.{Ends, exact_ends, scale_ends, hull_ends, root_ends, or_zero}
use Rattle.scr_agg.specs.Unbeaten.{hull_of}

-- whether some standard deviation between the ends lies in the band: at most 7 percent of the total, above 7 and at
-- most 20 percent, above 20 percent
abbrev pub is_possible : (deviation : Ends) (total band : ℕ) → Bool
is_possible deviation total zero = nat_le (100 * or_zero deviation.low) (7 * total)
is_possible deviation total (suc zero) =
    nat_lt (7 * total) (100 * or_zero deviation.high) && nat_le (5 * or_zero deviation.low) total
is_possible deviation total (suc (suc _)) = nat_lt total (5 * or_zero deviation.high)

-- what each band charges
abbrev pub charge_ends : (deviation : Ends) (total band : ℕ) → Ends
charge_ends deviation total zero = scale_ends deviation 3 1
charge_ends deviation total (suc zero) = scale_ends deviation 5 1
charge_ends deviation total (suc (suc _)) = exact_ends (pos total)

abbrev pub possible_bands : (deviation : Ends) (total : ℕ) → List ℕ
possible_bands deviation total = filter (is_possible deviation total) (0 ∷ 1 ∷ 2 ∷ [])

-- one bit for each possible band
abbrev pub type1_mask : (total : ℕ) (variance : Ends) → ℕ
type1_mask total variance = sum_by (λ band. 2 ^ band) (possible_bands (root_ends variance) total)

-- the least ends that hold what each possible band charges
abbrev pub type1_ends : (total : ℕ) (variance : Ends) → Ends
type1_ends total variance =
    let deviation = root_ends variance in
    hull_of (map (charge_ends deviation total) (possible_bands deviation total))

-- ---- the same band by band
abbrev pub widened : (so_far : Ends) (possible : Bool) (next : Ends) → Ends
widened so_far possible next = if possible then hull_ends so_far next else so_far

-- beginning with the first possible band, whose charges are `a`, `b` and `c`
abbrev pub hull_of_bands : (first second third : Bool) (a b c : Ends) → Ends
hull_of_bands first second third a b c =
    widened (widened (if first then a else (if second then b else c)) second b) third c

abbrev pub bit_of : Bool → ℕ → ℕ
bit_of is_set value = if is_set then value else 0
