-- One more component of a row: what has its part, what waits for it no longer, and what is ready then.
use Rattle.std.proofs.Common.{All, ◌*◌, sum_by, ◌≡◌, ◌⊎◌, ℕ, zero, suc, ◌+◌, ◌-◌, ◌<◌, ◌≤◌, List, [], ◌∷◌, ◌++◌, Vec, map, length, get_or, set, take, drop, drop_of_length-le, sum, nat_eq, if◌then◌else◌, Contains, refl, sym, ap, subst, ◌∙◌, inl, inr, arith, add-one, get_or-set_same, get_or-set_other}
use Rattle.std.proofs.lemmas.Bool.{cases_eq, eq-eqb}
use Rattle.std.specs.Global.{Global}
use Rattle.std.proofs.lemmas.List.{append-nil, length-map, length-take-le, take_all}
use Rattle.std.proofs.lemmas.List.Elements.{All-take, All-weaker, Contains-append_left, Contains-push, Contains-push_cases}
use Rattle.std.proofs.lemmas.List.Sums.{count_by-le-length, sum_by-cons, sum_by-le, sum_by_more, sum_by_more_le}
use Rattle.scr_funds.specs.ByNumber.{IsRow, weighted_rows}
use Rattle.scr_funds.specs.HandedOn.{AreReady, times}
use Rattle.scr_funds.specs.LookThrough.{Weighted, falling_to}
use Rattle.scr_funds.proofs.Members.{IsMember-from_Contains, Contains-from_IsMember}
use Rattle.scr_funds.proofs.Ranges.{distinct_none, distinct-push}

-- ---- parts

pub falling_to-within : (x : ℕ) (names parts : List ℕ) → falling_to nat_eq x names parts ≤ sum parts
falling_to-within x [] parts = omega arith
falling_to-within x (name ∷ names) [] = omega arith
falling_to-within x (name ∷ names) (part ∷ parts) = let rest = falling_to-within x names parts in grind (arith, rest, sum_by-cons (λ p. p) part parts)

falling_to-suc : (x : ℕ) (row : Weighted ℕ) (parts : List ℕ) (i : ℕ) → i < length row → i < length parts
    → falling_to nat_eq x (map (λ c. c.0) (take (suc i) row)) (take (suc i) parts)
    ≡ falling_to nat_eq x (map (λ c. c.0) (take i row))
    (take i parts) + (if nat_eq x (get_or row i (0, 0)).0 then get_or parts i 0 else 0)
falling_to-suc x [] parts i l m = absurd (omega arith)
falling_to-suc x (c ∷ cs) [] i l m = absurd (omega arith)
falling_to-suc x (c ∷ cs) (part ∷ parts) zero l m = omega arith
falling_to-suc x (c ∷ cs) (part ∷ parts) (suc i) l m =
    let later = falling_to-suc x cs parts i (omega arith) (omega arith) in omega (arith, later)

falling_to-more : (x : ℕ) (row : Weighted ℕ) (parts : List ℕ) (i : ℕ) → i < length row → i < length parts
    → falling_to nat_eq x (map (λ c. c.0) (take (i + 1) row)) (take (i + 1) parts)
    ≡ falling_to nat_eq x (map (λ c. c.0) (take i row))
    (take i parts) + (if nat_eq x (get_or row i (0, 0)).0 then get_or parts i 0 else 0)
falling_to-more x row parts i l m =
    ap (λ n. falling_to nat_eq x (map (λ c. c.0) (take n row)) (take n parts)) (add-one i)
    ∙ falling_to-suc x row parts i l m

-- what is added at one place
pub added_at : (values : List ℕ) (place more x : ℕ) → place < length values
    → get_or (set values place (get_or values place 0 + more)) x 0
    ≡ get_or values x 0 + (if nat_eq x place then more else 0)
added_at values place more x l =
    let own = get_or-set_same values place (get_or values place 0 + more) 0 l in
    let other = get_or-set_other values place x (get_or values place 0 + more) 0 in
    grind (arith, own, other)

pub part_added : (old values : List ℕ) (row : Weighted ℕ) (parts : List ℕ) (i x : ℕ) → i < length row → i < length parts
    → (get_or row i (0, 0)).0 < length values
    → get_or values x 0 ≡ get_or old x 0 + falling_to nat_eq x (map (λ c. c.0) (take i row)) (take i parts)
    → get_or (set values (get_or row i (0, 0)).0 (get_or values (get_or row i (0, 0)).0 0 + get_or parts i 0)) x 0
    ≡ get_or old x 0 + falling_to nat_eq x (map (λ c. c.0) (take (i + 1) row)) (take (i + 1) parts)
part_added old values row parts i x l m within was =
    let now = added_at values (get_or row i (0, 0)).0 (get_or parts i 0) x within in
    let more = falling_to-more x row parts i l m in
    omega (arith, was, now, more)

-- ---- who waits

pub times-more : (x : ℕ) (row : Weighted ℕ) (i : ℕ) → i < length row
    → times x (take (i + 1) row) ≡ times x (take i row) + (if nat_eq x (get_or row i (0, 0)).0 then 1 else 0)
times-more x row i l = sum_by_more (λ c. if nat_eq x c.0 then 1 else 0) row i (0, 0) l

-- the component itself waits
pub waits : (old waiting : List ℕ) (row : Weighted ℕ) (i : ℕ) → i < length row
    → ((x : ℕ) → times x row ≤ get_or old x 0)
    → ((x : ℕ) → get_or waiting x 0 + times x (take i row) ≡ get_or old x 0)
    → 0 < get_or waiting (get_or row i (0, 0)).0 0
waits old waiting row i l counted was =
    let x = (get_or row i (0, 0)).0 in
    let all = sum_by_more_le (λ c. if nat_eq x c.0 then 1 else 0) row i (0, 0) l in
    let one : ◌≡◌ {A = ℕ} (if nat_eq x x then 1 else 0) 1 = ap (λ b. if b then 1 else 0) (eq-eqb x x refl) in
    let count = counted x in
    let now = was x in
    omega (arith, all, one, count, now)

pub taken_at : (waiting : List ℕ) (place x : ℕ) → place < length waiting → 0 < get_or waiting place 0
    → get_or (set waiting place (get_or waiting place 0 - 1)) x 0 + (if nat_eq x place then 1 else 0)
    ≡ get_or waiting x 0
taken_at waiting place x l some =
    let own = get_or-set_same waiting place (get_or waiting place 0 - 1) 0 l in
    let other = get_or-set_other waiting place x (get_or waiting place 0 - 1) 0 in
    grind (arith, some, own, other)

pub waits_less : (old waiting : List ℕ) (row : Weighted ℕ) (i x : ℕ) → i < length row
    → (get_or row i (0, 0)).0 < length waiting → 0 < get_or waiting (get_or row i (0, 0)).0 0
    → get_or waiting x 0 + times x (take i row) ≡ get_or old x 0
    → get_or (set waiting (get_or row i (0, 0)).0 (get_or waiting (get_or row i (0, 0)).0 0 - 1)) x 0 + times x
    (take (i + 1) row) ≡ get_or old x 0
waits_less old waiting row i x l within some was =
    let now = taken_at waiting (get_or row i (0, 0)).0 x within some in
    let more = times-more x row i l in
    omega (arith, was, now, more)

-- ---- who is ready

module _ (count : ℕ) (waiting ready : List ℕ) (place : ℕ) (sound : AreReady count waiting ready)
    (within : place < length waiting) (some : 0 < get_or waiting place 0) where
  -- what was ready is not the place, and still waits for none
  still : (fund : ℕ) → Contains ready fund
      → (fund < count) × (get_or (set waiting place (get_or waiting place 0 - 1)) fund 0 ≡ 0)
  still fund h =
      let was = sound.each fund h in (
        was.0,
        get_or-set_other waiting place fund (get_or waiting place 0 - 1) 0
            (λ e. let none : get_or waiting place 0 ≡ 0 = ap (λ y. get_or waiting y 0) (sym e) ∙ was.1 in omega arith)
            ∙ was.1,
      )

  -- one that waits no longer is ready
  pub ready_more : place < count → get_or waiting place 0 - 1 ≡ 0
      → AreReady count (set waiting place (get_or waiting place 0 - 1)) (ready ++ place ∷ [])
  ready_more below none = record {
    once = distinct-push ready place (λ m. let was : get_or waiting place 0 ≡ 0 =
        (sound.each place (Contains-from_IsMember ready place m)).1 in omega arith) sound.once;
    each = λ fund h. each fund (Contains-push_cases ready place fund h);
    all = λ fund l e. all fund l e (cases_eq fund place);
  }
    where
      each : (fund : ℕ) → Contains ready fund ⊎ (place ≡ fund)
          → (fund < count) × (get_or (set waiting place (get_or waiting place 0 - 1)) fund 0 ≡ 0)
      each fund (inl h) = still fund h
      each fund (inr e) = (
        subst (λ y. y < count) e below,
        ap (λ y. get_or (set waiting place (get_or waiting place 0 - 1)) y 0) (sym e)
            ∙ get_or-set_same waiting place (get_or waiting place 0 - 1) 0 within ∙ none,
      )

      all : (fund : ℕ) → fund < count → get_or (set waiting place (get_or waiting place 0 - 1)) fund 0 ≡ 0
          → (fund ≡ place) ⊎ (fund ≡ place → ⊥) → Contains (ready ++ place ∷ []) fund
      all fund l e (inl k) = subst (Contains (ready ++ place ∷ [])) (sym k) (Contains-push ready place)
      all fund l e (inr n) = Contains-append_left ready (place ∷ []) fund
          (sound.all fund l (sym (get_or-set_other waiting place fund (get_or waiting place 0 - 1) 0 n) ∙ e))

  -- one that still waits, or is no fund, is not
  pub ready_same : (0 < get_or waiting place 0 - 1) ⊎ (count ≤ place)
      → AreReady count (set waiting place (get_or waiting place 0 - 1)) ready
  ready_same why = record {
    once = sound.once;
    each = still;
    all = λ fund l e. all fund l e (cases_eq fund place) why;
  }
    where
      all : (fund : ℕ) → fund < count → get_or (set waiting place (get_or waiting place 0 - 1)) fund 0 ≡ 0
          → (fund ≡ place) ⊎ (fund ≡ place → ⊥) → (0 < get_or waiting place 0 - 1) ⊎ (count ≤ place)
          → Contains ready fund
      all fund l e (inl k) (inl w) =
          let none : get_or waiting place 0 - 1 ≡ 0 =
          sym (get_or-set_same waiting place (get_or waiting place 0 - 1) 0 within)
          ∙ ap (λ y. get_or (set waiting place (get_or waiting place 0 - 1)) y 0) (sym k) ∙ e in absurd (omega arith)
      all fund l e (inl k) (inr w) = absurd (omega arith)
      all fund l e (inr n) w = sound.all fund l
          (sym (get_or-set_other waiting place fund (get_or waiting place 0 - 1) 0 n) ∙ e)

-- the first funds, one more each time
pub ready_next : (fund : ℕ) (waiting ready : List ℕ) → AreReady fund waiting ready → get_or waiting fund 0 ≡ 0
    → AreReady (fund + 1) waiting (ready ++ fund ∷ [])
ready_next fund waiting ready sound none = record {
  once = distinct-push ready fund (λ m. let below : fund < fund =
      (sound.each fund (Contains-from_IsMember ready fund m)).0 in omega arith) sound.once;
  each = λ k h. each k (Contains-push_cases ready fund k h);
  all = λ k l e. all k l e (cases_eq k fund);
}
  where
    each : (k : ℕ) → Contains ready k ⊎ (fund ≡ k) → (k < fund + 1) × (get_or waiting k 0 ≡ 0)
    each k (inl h) = let was = sound.each k h in (omega arith, was.1)
    each k (inr e) = (omega arith, ap (λ y. get_or waiting y 0) (sym e) ∙ none)

    all : (k : ℕ) → k < fund + 1 → get_or waiting k 0 ≡ 0 → (k ≡ fund) ⊎ (k ≡ fund → ⊥)
        → Contains (ready ++ fund ∷ []) k
    all k l e (inl s) = subst (Contains (ready ++ fund ∷ [])) (sym s) (Contains-push ready fund)
    all k l e (inr n) = Contains-append_left ready (fund ∷ []) k (sound.all k (omega arith) e)

pub ready_skip : (fund : ℕ) (waiting ready : List ℕ) → AreReady fund waiting ready → (get_or waiting fund 0 ≡ 0 → ⊥)
    → AreReady (fund + 1) waiting ready
ready_skip fund waiting ready sound some = record {
  once = sound.once;
  each = λ k h. let was = sound.each k h in (omega arith, was.1);
  all = λ k l e. all k l e (cases_eq k fund);
}
  where
    all : (k : ℕ) → k < fund + 1 → get_or waiting k 0 ≡ 0 → (k ≡ fund) ⊎ (k ≡ fund → ⊥) → Contains ready k
    all k l e (inl s) = absurd (some (ap (λ y. get_or waiting y 0) (sym s) ∙ e))
    all k l e (inr n) = sound.all k (omega arith) e

pub ready_none : (waiting : List ℕ) → AreReady 0 waiting []
ready_none waiting = record {
  once = distinct_none;
  each = λ k h. absurd (IsMember-from_Contains [] k h);
  all = λ k l e. absurd (omega arith);
}

-- ---- rows and written slices

-- the row at a place
pub row-at : (rows : List (Vec (ℕ × ℕ) Global)) (i : ℕ) (row : Vec (ℕ × ℕ) Global) → i < length rows
    → row ≡ get_or rows i row → get_or (weighted_rows rows) i [] ≡ row.items
row-at [] i row l e = absurd (omega arith)
row-at (r ∷ rs) zero row l e = ap (λ v. v.items) (sym e)
row-at (r ∷ rs) (suc i) row l e = row-at rs i row (omega arith) e

-- what a slice that lends a whole list leaves in it
pub written : (xs new : List ℕ) (n : ℕ) → length new ≡ length xs → n ≡ length xs
    → take n (new ++ drop (length new) xs) ≡ new
written xs new n l m =
    ap (λ rest. take n (new ++ rest)) (drop_of_length-le xs {i = length new} (omega arith))
    ∙ ap (take n) (append-nil new) ∙ take_all n new (omega arith)

pub row_sound : (size : ℕ) (rows : List (Vec (ℕ × ℕ) Global)) (i : ℕ) (row : Vec (ℕ × ℕ) Global) → i < length rows
    → row ≡ get_or rows i row → All (IsRow size) (weighted_rows rows) → IsRow size row.items
row_sound size rows i row l e sound =
    subst (IsRow size) (row-at rows i row l e)
    (sound i [] (subst (λ n. i < n) (sym (length-map {A = Vec (ℕ × ℕ) Global} {B = Weighted ℕ} rows (λ r. r.items))) l))

-- few rows give few places to wait for
pub times-short : (size x i : ℕ) (rows : List (Weighted ℕ)) → All (IsRow size) rows → i ≤ length rows
    → sum_by (times x) (take i rows) ≤ i * 1000
times-short size x i rows sound l =
    let most : sum_by (times x) (take i rows) ≤ length (take i rows) * 1000 =
    sum_by-le (times x) 1000 (take i rows)
    (All-take (λ row. times x row ≤ 1000) i rows (All-weaker (IsRow size) (λ row. times x row ≤ 1000) short rows sound))
    in
    omega (arith, most, ap (λ n. n * 1000) (length-take-le i rows l))
  where
    short : (row : Weighted ℕ) → IsRow size row → times x row ≤ 1000
    short row s = let few : length row ≤ 1000 = s.few in let some = count_by-le-length (λ c. nat_eq x c.0) row in
        omega (arith, some)
