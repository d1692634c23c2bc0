-- Sums over the cells of a table, cell by cell.
use Rattle.std.proofs.Common.{◌≡◌, ℕ, ◌+◌, ◌<◌, List, [], ◌∷◌, ℤ, pos, length, get_or, drop, map, refl, sym, ap, ap₂}
use Rattle.std.proofs.Common.{◌∙◌, le_refl, arith}
use Rattle.std.proofs.lemmas.List.{drop_more, drop_all, length-map, get_or-map}
use Rattle.scr_num.specs.Table.{row_sum, sum_over}

-- the sum along a row from column j on
abbrev pub row_from : (ℤ → ℕ → ℕ → ℕ) → ℕ → List ℤ → List ℕ → ℕ → ℕ
row_from term x cells ys j = row_sum 0 ◌+◌ term x (drop j cells) (drop j ys)

-- the sum over the rows from row i on
abbrev pub sum_from : (ℤ → ℕ → ℕ → ℕ) → List (List ℤ) → List ℕ → List ℕ → ℕ → ℕ
sum_from term rows xs all i = sum_over 0 ◌+◌ term (drop i rows) (drop i xs) all

row_cons : (term : ℤ → ℕ → ℕ → ℕ) (x : ℕ) (c : ℤ) (cells : List ℤ) (y : ℕ) (ys : List ℕ)
    → row_sum 0 ◌+◌ term x (c ∷ cells) (y ∷ ys) ≡ term c x y + row_sum 0 ◌+◌ term x cells ys
unfolding row_sum
row_cons term x c cells y ys = refl

sum_cons : (term : ℤ → ℕ → ℕ → ℕ) (row : List ℤ) (rows : List (List ℤ)) (x : ℕ) (xs all : List ℕ)
    → sum_over 0 ◌+◌ term (row ∷ rows) (x ∷ xs) all ≡ row_sum 0 ◌+◌ term x row all + sum_over 0 ◌+◌ term rows xs all
unfolding sum_over
sum_cons term row rows x xs all = refl

row_end : (term : ℤ → ℕ → ℕ → ℕ) (x : ℕ) (cells : List ℤ) → row_sum 0 ◌+◌ term x cells [] ≡ 0
unfolding row_sum
row_end term x [] = refl
row_end term x (c ∷ cells) = refl

sum_end : (term : ℤ → ℕ → ℕ → ℕ) (rows : List (List ℤ)) (all : List ℕ) → sum_over 0 ◌+◌ term rows [] all ≡ 0
unfolding sum_over
sum_end term [] all = refl
sum_end term (row ∷ rows) all = refl

pub row_from-next : (term : ℤ → ℕ → ℕ → ℕ) (x : ℕ) (cells : List ℤ) (ys : List ℕ) (j : ℕ) → j < length cells
    → j < length ys
    → row_from term x cells ys j ≡ term (get_or cells j (pos 0)) x (get_or ys j 0) + row_from term x cells ys (j + 1)
row_from-next term x cells ys j h k =
    ap₂ (λ a b. row_sum 0 ◌+◌ term x a b) (drop_more cells j (pos 0) h) (drop_more ys j 0 k)
    ∙ row_cons term x (get_or cells j (pos 0)) (drop (j + 1) cells) (get_or ys j 0) (drop (j + 1) ys)

pub sum_from-next : (term : ℤ → ℕ → ℕ → ℕ) (rows : List (List ℤ)) (xs all : List ℕ) (i : ℕ) → i < length rows
    → i < length xs
    → sum_from term rows xs all i ≡ row_sum 0 ◌+◌ term (get_or xs i 0)
    (get_or rows i []) all + sum_from term rows xs all (i + 1)
sum_from-next term rows xs all i h k =
    ap₂ (λ a b. sum_over 0 ◌+◌ term a b all) (drop_more rows i [] h) (drop_more xs i 0 k)
    ∙ sum_cons term (get_or rows i []) (drop (i + 1) rows) (get_or xs i 0) (drop (i + 1) xs) all

-- nothing is left behind the last part
pub row_from-end : (term : ℤ → ℕ → ℕ → ℕ) (x : ℕ) (cells : List ℤ) (ys : List ℕ)
    → row_from term x cells ys (length ys) ≡ 0
row_from-end term x cells ys = rw (drop_all (length ys) ys (le_refl (length ys)))
    (row_end term x (drop (length ys) cells))

pub sum_from-end : (term : ℤ → ℕ → ℕ → ℕ) (rows : List (List ℤ)) (xs all : List ℕ)
    → sum_from term rows xs all (length xs) ≡ 0
sum_from-end term rows xs all = rw (drop_all (length xs) xs (le_refl (length xs)))
    (sum_end term (drop (length xs) rows) all)

-- what `f` gives of a part
value_at : {X : Type 0} (f : X → ℕ) (parts : List X) (j : ℕ) (part : X) → j < length parts → part ≡ get_or parts j part
    → get_or (map f parts) j 0 ≡ f part
value_at f parts j part h e = get_or-map f parts j part 0 h ∙ ap f (sym e)

-- one step of the sum along a row, and of that over the rows
pub row_step : {X : Type 0} (term : ℤ → ℕ → ℕ → ℕ) (x : ℕ) (cells : List ℤ) (f : X → ℕ) (parts : List X) (j sum : ℕ)
    (part : X)
    → j < length cells → j < length parts → part ≡ get_or parts j part
    → sum + row_from term x cells (map f parts) j ≡ row_from term x cells (map f parts) 0
    → (sum + term (get_or cells j (pos 0)) x (f part)) + row_from term x cells (map f parts) (j + 1)
    ≡ row_from term x cells (map f parts) 0
row_step term x cells f parts j sum part h k e so_far =
    let next = row_from-next term x cells (map f parts) j h (rw length-map k) in
    let here = ap (term (get_or cells j (pos 0)) x) (value_at f parts j part k e) in
    omega arith

pub sum_step : {X : Type 0} (term : ℤ → ℕ → ℕ → ℕ) (rows : List (List ℤ)) (f : X → ℕ) (parts : List X) (i sum : ℕ)
    (part : X)
    → i < length rows → i < length parts → part ≡ get_or parts i part
    → sum + sum_from term rows (map f parts) (map f parts) i ≡ sum_from term rows (map f parts) (map f parts) 0
    → (sum + row_sum 0 ◌+◌ term (f part) (get_or rows i []) (map f parts)) + sum_from term rows (map f parts)
    (map f parts) (i + 1)
    ≡ sum_from term rows (map f parts) (map f parts) 0
sum_step term rows f parts i sum part h k e so_far =
    let next = sum_from-next term rows (map f parts) (map f parts) i h (rw length-map k) in
    let here = ap (λ y. row_sum 0 ◌+◌ term y (get_or rows i []) (map f parts)) (value_at f parts i part k e) in
    omega arith

pub row_done : {X : Type 0} (term : ℤ → ℕ → ℕ → ℕ) (x : ℕ) (cells : List ℤ) (f : X → ℕ) (parts : List X) (j : ℕ)
    → j ≡ length parts
    → row_from term x cells (map f parts) j ≡ 0
row_done term x cells f parts j e =
    let all : j ≡ length (map f parts) = rw length-map e in rw all (row_from-end term x cells (map f parts))

pub sum_done : {X : Type 0} (term : ℤ → ℕ → ℕ → ℕ) (rows : List (List ℤ)) (f : X → ℕ) (parts : List X) (i : ℕ)
    → i ≡ length parts
    → sum_from term rows (map f parts) (map f parts) i ≡ 0
sum_done term rows f parts i e =
    let all : i ≡ length (map f parts) = rw length-map e in rw all (sum_from-end term rows (map f parts) (map f parts))
