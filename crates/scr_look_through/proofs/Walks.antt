-- A walk along a table, row by row.
use Rattle.std.proofs.Common.{◌≡◌, ℕ, zero, suc, ◌+◌, List, [], ◌∷◌, ◌++◌, map, take, slice_get, Some, None, ap, add-one}

-- what is mapped so far, with the next row
pub map-next : {X Y : Type 0} (f : X → Y) (xs : List X) (k : ℕ) (x : X) → slice_get xs k ≡ Some x
    → map f (take (k + 1) xs) ≡ map f (take k xs) ++ f x ∷ []
map-next f [] zero x is = absurd (let clash : None ≡ Some x = is in cc)
map-next f [] (suc k) x is = absurd (let clash : None ≡ Some x = is in cc)
map-next f (y ∷ xs) zero x is = let same : y ≡ x = cc in ap (λ z. f z ∷ []) same
map-next f (y ∷ xs) (suc k) x is = rw add-one (ap (λ ys. f y ∷ ys) (rw add-one at (map-next f xs k x is)))
