-- The names of the funds and the securities of a sheet by number: no two numbers have one name.
use Rattle.std.proofs.Common.{◌≡◌, ℕ, zero, suc, ◌+◌, ◌<◌, true, false, List, [], ◌∷◌, ◌++◌, map, length, get_or, slice_get, Some, None, if◌then◌else◌, refl, sym, ap, ◌∙◌, inl, inr, arith}
use Rattle.std.specs.List.{AllByRecursion, IsDistinct}
use Rattle.std.proofs.lemmas.Bool.{true≢false}
use Rattle.std.proofs.lemmas.List.{get_or_append_left, get_or-append-add, length-append, length-map, map-append}
use Rattle.std.proofs.lemmas.List.Elements.{All-from_recursion}
use Rattle.std.proofs.lemmas.Simd.{map-map}
use Rattle.std.proofs.lemmas.Option.{get_or_from_slice_get, slice_get_within, slice_get-get_or}
use Rattle.scr_funds.proofs.Members.{IsMember}
use Rattle.scr_tables.specs.Names.{same_name}
use Rattle.scr_tables.proofs.TableRows.{same_name-itself, same_name-flip, same_name-is, same_or_other}
use Rattle.scr_sheet.specs.BalanceSheet.{position_name, stake_name, names_of}
use Rattle.scr_sheet.specs.declared.sheet.BalanceSheet.{BalanceSheet}
use Rattle.scr_sheet.specs.Validity.{IsHeld}
use Rattle.scr_sheet.proofs.HeldNames.{held-member, names-once}
use Rattle.scr_look_through.specs.ByNumber.{names_by_number, place_among, number_of}

-- ---- lists of names without repeats

-- what stands later is another name
another : (n : List ℕ) (names : List (List ℕ)) → AllByRecursion (λ other. same_name n other ≡ false) names → (k : ℕ) → k < length names → same_name n (get_or names k []) ≡ false
another n names apart k l = All-from_recursion (λ other. same_name n other ≡ false) names apart k [] l

another-not : (n other : List ℕ) → same_name n other ≡ false → n ≡ other → ⊥
another-not n other f e = true≢false (sym (same_name-itself n) ∙ ap (same_name n) e ∙ f)

pub one_to_one : (names : List (List ℕ)) → IsDistinct same_name names → (j k : ℕ) → j < length names → k < length names → get_or names j [] ≡ get_or names k [] → j ≡ k
unfolding IsDistinct
one_to_one [] apart j k l m e = absurd (omega arith)
one_to_one (n ∷ names) apart zero zero l m e = refl
one_to_one (n ∷ names) apart zero (suc k) l m e = absurd (another-not n (get_or names k []) (another n names apart.0 k (omega arith)) e)
one_to_one (n ∷ names) apart (suc j) zero l m e = absurd (another-not n (get_or names j []) (another n names apart.0 j (omega arith)) (sym e))
one_to_one (n ∷ names) apart (suc j) (suc k) l m e = ap suc (one_to_one names apart.1 j k (omega arith) (omega arith) e)

-- ---- places

place-here : (n name : List ℕ) (names : List (List ℕ)) → same_name name n ≡ true → place_among (n ∷ names) name ≡ 0
place-here n name names t = ap (λ b. if b then 0 else suc (place_among names name)) t

place-later : (n name : List ℕ) (names : List (List ℕ)) → same_name name n ≡ false → place_among (n ∷ names) name ≡ suc (place_among names name)
place-later n name names f = ap (λ b. if b then 0 else suc (place_among names name)) f

-- what stands at a place is found there
pub place-at : (names : List (List ℕ)) → IsDistinct same_name names → (k : ℕ) (name : List ℕ) → slice_get names k ≡ Some name → place_among names name ≡ k
unfolding IsDistinct
place-at [] apart k name is = absurd (let clash : None ≡ Some name = is in cc)
place-at (n ∷ names) apart zero name is = let e : n ≡ name = cc in place-here n name names (ap (same_name name) e ∙ same_name-itself name)
place-at (n ∷ names) apart (suc k) name is =
    let there : get_or names k [] ≡ name = get_or_from_slice_get names k name [] is in
    place-later n name names (same_name-flip name n ∙ ap (same_name n) (sym there) ∙ another n names apart.0 k (slice_get_within names k name is))
    ∙ ap suc (place-at names apart.1 k name is)

-- and the place of one of the names has it
pub place-back : (names : List (List ℕ)) (name : List ℕ) → IsMember name names → (get_or names (place_among names name) [] ≡ name) × (place_among names name < length names)
place-back [] name m = absurd m
place-back (n ∷ names) name m =
    same_or_other name n
    (λ t. (ap (λ k. get_or (n ∷ names) k []) (place-here n name names t) ∙ sym (same_name-is name n t), let first = place-here n name names t in omega arith))
    (λ f. later f (place-back names name (left m f)))
  where
    left : IsMember name (n ∷ names) → same_name name n ≡ false → IsMember name names
    left (inl e) f = absurd (another-not name n f e)
    left (inr k) f = k

    later : same_name name n ≡ false → (get_or names (place_among names name) [] ≡ name) × (place_among names name < length names)
        → (get_or (n ∷ names) (place_among (n ∷ names) name) [] ≡ name) × (place_among (n ∷ names) name < length (n ∷ names))
    later f h =
        let next = place-later n name names f in
        let within : place_among names name < length names = h.1 in
        (ap (λ k. get_or (n ∷ names) k []) next ∙ h.0, omega arith)

-- ---- the numbers of a sheet

module _ (sheet : BalanceSheet) where
  -- the name of a number
  abbrev pub name_at : ℕ → List ℕ
  name_at k = get_or (names_by_number sheet) k []

  pub count-names : length (names_by_number sheet) ≡ length sheet.funds + length sheet.securities
  count-names =
      let funds : length (map stake_name sheet.funds) ≡ length sheet.funds = length-map sheet.funds stake_name in
      let securities : length (map position_name sheet.securities) ≡ length sheet.securities = length-map sheet.securities position_name in
      omega (arith, length-append (map stake_name sheet.funds) (map position_name sheet.securities))

  -- what each name has, funds first
  pub map-names : {X : Type 0} (f : List ℕ → X) → map f (names_by_number sheet) ≡ map (λ s. f (stake_name s)) sheet.funds ++ map (λ p. f (position_name p)) sheet.securities
  map-names f =
      map-append f (map stake_name sheet.funds) (map position_name sheet.securities)
      ∙ ap (λ xs. xs ++ map f (map position_name sheet.securities)) (map-map f stake_name sheet.funds)
      ∙ ap (λ xs. map (λ s. f (stake_name s)) sheet.funds ++ xs) (map-map f position_name sheet.securities)

  -- a security or a fund has a number, and that number has its name
  pub numbered-name : (name : List ℕ) → IsHeld sheet name → (name_at (number_of sheet name) ≡ name) × (number_of sheet name < length (names_by_number sheet))
  numbered-name name held = place-back (names_by_number sheet) name (held-member sheet name held)

  module _ (apart : IsDistinct same_name (names_of sheet)) where
    -- the number of a fund is its place
    pub number-fund : (k : ℕ) (name : List ℕ) → slice_get (map stake_name sheet.funds) k ≡ Some name → number_of sheet name ≡ k
    number-fund k name is = place-at (names_by_number sheet) (names-once sheet apart) k name there
      where
        there : slice_get (names_by_number sheet) k ≡ Some name
        there =
            let within : k < length (map stake_name sheet.funds) = slice_get_within (map stake_name sheet.funds) k name is in
            slice_get-get_or (names_by_number sheet) k name (omega (arith, length-append (map stake_name sheet.funds) (map position_name sheet.securities)))
            ∙ ap Some (get_or_append_left (map stake_name sheet.funds) (map position_name sheet.securities) name k within ∙ get_or_from_slice_get (map stake_name sheet.funds) k name name is)

    -- and that of a security comes after all funds
    pub number-security : (k : ℕ) (name : List ℕ) → slice_get (map position_name sheet.securities) k ≡ Some name → number_of sheet name ≡ length sheet.funds + k
    number-security k name is = place-at (names_by_number sheet) (names-once sheet apart) (length sheet.funds + k) name there
      where
        funds : List (List ℕ)
        funds = map stake_name sheet.funds

        securities : List (List ℕ)
        securities = map position_name sheet.securities

        after : length (map stake_name sheet.funds) + k ≡ length sheet.funds + k
        after = ap (λ n. n + k) (length-map sheet.funds stake_name)

        there : slice_get (names_by_number sheet) (length sheet.funds + k) ≡ Some name
        there =
            let within : k < length (map position_name sheet.securities) = slice_get_within (map position_name sheet.securities) k name is in
            ap (slice_get (names_by_number sheet)) (sym after)
            ∙ slice_get-get_or (names_by_number sheet) (length (map stake_name sheet.funds) + k) name (omega (arith, length-append (map stake_name sheet.funds) (map position_name sheet.securities)))
            ∙ ap Some (get_or-append-add (map stake_name sheet.funds) (map position_name sheet.securities) k name ∙ get_or_from_slice_get (map position_name sheet.securities) k name name is)
