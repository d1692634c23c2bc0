-- What the code keeps along its loops.
use Rattle.std.proofs.Common.{◌≡◌, ℕ, zero, suc, ◌+◌, ◌-◌, ◌*◌, ◌/◌, ◌^◌, ◌<◌, ◌≤◌, true, false, ◌||◌, ℤ, pos, negsuc, List, [], ◌∷◌, ◌++◌, Some, length, map, filter, get_or, slice_get, drop, take, set, sum_by, if◌then◌else◌, unsigned_abs, FitsSigned, to_z, of_z, to_z-of_z, w64, refl, ap, ap₂, sym, subst, ◌∙◌, arith}
use Rattle.std.specs.Prelude.{All}
use Rattle.std.specs.List.{IsDistinct, list_any, range_with_len}
use Rattle.std.specs.Option.{option_map, option_map_or}
use Rattle.std.proofs.lemmas.Int.{ints}
use Rattle.std.proofs.lemmas.List.{drop_all, drop_more, get_or-map, length-map, map-append, take_more_set}
use Rattle.std.proofs.lemmas.List.Elements.{All-from_recursion}
use Rattle.std.proofs.lemmas.List.Sums.{sum_by-cons}
use Rattle.std.proofs.lemmas.Option.{get_or_from_slice_get, slice_get_within, slice_get-map}
use Rattle.scr_num.specs.Rounding.{Ends, ends, exact_ends}
use Rattle.scr_dates.specs.declared.day.Day.{Day}
use Rattle.scr_yield_curve.specs.Parts.{rates_in_parts}
use Rattle.scr_yield_curve.specs.declared.tilt.Tilt.TheVariants as tilts
use Rattle.scr_flow.specs.Due.{dues}
use Rattle.scr_flow.specs.LossEnds.{loss_ends}
use Rattle.scr_yield_curve.specs.declared.table.Discounts.{Discounts}
use Rattle.scr_agg.specs.Unbeaten.{Alternative, alternative}
use Rattle.scr_agg.specs.declared.scenario.Scenario.{Scenario}
use Rattle.scr_tables.specs.Names.{same_name}
use Rattle.scr_tables.specs.Tables.{row_of}
use Rattle.scr_tables.proofs.TableRows.{same_name-is, same_name-flip, same_name-itself}
use Rattle.scr_sheet.specs.Records.{natural}
use Rattle.scr_sheet.specs.Forms.{IsName}
use Rattle.scr_sheet.specs.Validity.{Valid, IsBetween, IsStake}
use Rattle.scr_sheet.specs.BalanceSheet.{curve_name}
use Rattle.scr_sheet.specs.declared.{rows.Curve.Curve, sheet.BalanceSheet.BalanceSheet, rows.Stake.Stake}
use Rattle.scr_profile.specs.declared.limits.TheConstants.{MIN_WEIGHT, MAX_WEIGHT, MAX_FUND_COMPONENTS}
use Rattle.scr_nodes.specs.Own.{Share}
use Rattle.scr_nodes.specs.Rows.{is_component, holds, share_in, weights_before, weights_through}
use Rattle.scr_discounts.specs.Discounts.{CurrencyDiscounts}
use Rattle.scr_discounts.specs.Kept.{AreDiscountsAt, AreDiscountsOf, row_in, tables, rows_of}
use Rattle.scr_rules.specs.Rules.{figure_at, amount_of, paid_ends, part_of, parts_held, alternative_from}
use Rattle.scr_rules.specs.Paid.{paid_in}
use Rattle.scr_nodes.specs.declared.node.Direction.{Direction}
use Rattle.scr_nodes.specs.declared.node.Direction.TheVariants as directions
use Rattle.scr_rules.specs.Weights.{AreWeights}
use Rattle.scr_rules.proofs.ShareParts.{weights-small, through-all}

-- ---- weights
abbrev pub weights_sum : List (List ℕ × ℤ) → ℕ
weights_sum cs = sum_by (λ c. natural c.1) cs

pub weights-few : (cs : List (List ℕ × ℤ)) → AreWeights cs → weights_sum cs ≤ 10 ^ 12
weights-few cs h = let small = weights-small cs h.each in let few : length cs ≤ MAX_FUND_COMPONENTS = h.few in omega (arith, small, few)

-- the weight of an item is its own size
pub item-weight : (cs : List (List ℕ × ℤ)) (i : ℕ) (item : List ℕ × ℤ) → AreWeights cs → i < length cs → item ≡ get_or cs i item → unsigned_abs (to_z w64 (of_z w64 item.1)) ≡ natural item.1
item-weight cs i item h within is =
    let own = All-from_recursion (λ (c : List ℕ × ℤ). IsName c.0 × IsBetween MIN_WEIGHT MAX_WEIGHT c.1) cs h.each i item within in
    size item.1 (subst (λ (c : List ℕ × ℤ). IsBetween MIN_WEIGHT MAX_WEIGHT c.1) (sym is) own.1)
  where
    size : (z : ℤ) → IsBetween MIN_WEIGHT MAX_WEIGHT z → unsigned_abs (to_z w64 (of_z w64 z)) ≡ natural z
    size (pos n) h =
        let most = h.1 in
        let fits : FitsSigned w64 (pos n) = omega (arith, ints, most) in
        ap unsigned_abs (to_z-of_z fits)
    size (negsuc n) h = absurd (omega (arith, ints, h.0))

pub sum-at : (cs : List (List ℕ × ℤ)) (i : ℕ) (item : List ℕ × ℤ) → i < length cs → item ≡ get_or cs i item → drop i cs ≡ item ∷ drop (i + 1) cs
sum-at cs i item within is = drop_more cs i item within ∙ ap (λ c. c ∷ drop (i + 1) cs) (sym is)

sum-split : (cs : List (List ℕ × ℤ)) (i : ℕ) (item : List ℕ × ℤ) → i < length cs → item ≡ get_or cs i item → weights_sum (drop i cs) ≡ natural item.1 + weights_sum (drop (i + 1) cs)
sum-split cs i item within is = ap weights_sum (sum-at cs i item within is) ∙ sum_by-cons (λ (c : List ℕ × ℤ). natural c.1) item (drop (i + 1) cs)

-- the sum of the weights before place i, where all of them and the rest make the whole
pub record AreSummed (cs : List (List ℕ × ℤ)) (i all : ℕ) : Type 0 where
  pub so_far : all + weights_sum (drop i cs) ≡ weights_sum cs

pub summed-more : (cs : List (List ℕ × ℤ)) (i all weight : ℕ) (item : List ℕ × ℤ) → i < length cs → item ≡ get_or cs i item → weight ≡ natural item.1 → AreSummed cs i all → AreSummed cs (i + 1) (all + weight)
summed-more cs i all weight item within is size so_far = record { so_far = omega (arith, so_far.so_far, sum-split cs i item within is, size) }

pub summed-small : (cs : List (List ℕ × ℤ)) (i all weight : ℕ) (item : List ℕ × ℤ) → AreWeights cs → i < length cs → item ≡ get_or cs i item → weight ≡ natural item.1 → AreSummed cs i all → all + weight ≤ 10 ^ 12
summed-small cs i all weight item h within is size so_far = omega (arith, so_far.so_far, sum-split cs i item within is, size, weights-few cs h)

-- no component before place i has the name, and what they weigh stands before it
pub record IsNotBefore (name : List ℕ) (cs : List (List ℕ × ℤ)) (i before : ℕ) : Type 0 where
  pub summed : AreSummed cs i before
  pub held : list_any (is_component name) cs ≡ list_any (is_component name) (drop i cs)
  pub in_front : weights_before name cs ≡ before + weights_before name (drop i cs)
  pub through : weights_through name cs ≡ before + weights_through name (drop i cs)

module _ (name : List ℕ) (cs : List (List ℕ × ℤ)) (i before weight : ℕ) (item : List ℕ × ℤ) (within : i < length cs) (is : item ≡ get_or cs i item) (size : weight ≡ natural item.1)
    (so_far : IsNotBefore name cs i before) where
  rest-is : drop i cs ≡ item ∷ drop (i + 1) cs
  rest-is = sum-at cs i item within is

  pub found-here : same_name name item.0 ≡ true
      → (list_any (is_component name) cs ≡ true) × (before ≡ weights_before name cs) × (before + weight ≡ weights_through name cs)
  found-here same =
      let front : weights_before name (drop i cs) ≡ 0 = ap (weights_before name) rest-is ∙ ap (λ b. if b then 0 else natural item.1 + weights_before name (drop (i + 1) cs)) same in
      let with_it : weights_through name (drop i cs) ≡ natural item.1 + 0 = ap (weights_through name) rest-is ∙ ap (λ b. natural item.1 + (if b then 0 else weights_through name (drop (i + 1) cs))) same in (
        so_far.held ∙ ap (list_any (is_component name)) rest-is ∙ ap (λ b. b || list_any (is_component name) (drop (i + 1) cs)) same,
        omega (arith, front, so_far.in_front),
        omega (arith, with_it, so_far.through, size),
      )

  pub passed-over : same_name name item.0 ≡ false → IsNotBefore name cs (i + 1) (before + weight)
  passed-over other =
      let front : weights_before name (drop i cs) ≡ natural item.1 + weights_before name (drop (i + 1) cs) =
      ap (weights_before name) rest-is ∙ ap (λ b. if b then 0 else natural item.1 + weights_before name (drop (i + 1) cs)) other in
      let with_it : weights_through name (drop i cs) ≡ natural item.1 + weights_through name (drop (i + 1) cs) =
      ap (weights_through name) rest-is ∙ ap (λ b. natural item.1 + (if b then 0 else weights_through name (drop (i + 1) cs))) other in
      record {
        summed = summed-more cs i before weight item within is size so_far.summed;
        held = so_far.held ∙ ap (list_any (is_component name)) rest-is ∙ ap (λ b. b || list_any (is_component name) (drop (i + 1) cs)) other;
        in_front = omega (arith, front, so_far.in_front, size);
        through = omega (arith, with_it, so_far.through, size);
      }

-- ---- the parts of all funds that hold a name
module _ (name : List ℕ) where
  abbrev shares : List Stake → List Share
  shares stakes = map (share_in name) (filter (holds name) stakes)

  -- the parts of the funds from place k on, whose totals stand from place next on, and the sum so far make the whole
  pub record AreAdded (cents : ℕ) (funds : List Stake) (figures : List Ends) (k next sum : ℕ) : Type 0 where
    pub so_far : sum + parts_held (shares (drop k funds)) (drop next figures) ≡ cents + parts_held (shares funds) figures
    pub places : next ≤ k

  none-left : (rest : List Share) → parts_held rest [] ≡ 0
  none-left [] = refl
  none-left (s ∷ rest) = refl

  -- where no fund is left, or no total, the sum is the whole
  pub added-funds : (cents : ℕ) (funds : List Stake) (figures : List Ends) (k next sum : ℕ) → length funds ≤ k
      → AreAdded cents funds figures k next sum → sum ≡ cents + parts_held (shares funds) figures
  added-funds cents funds figures k next sum past so =
      let none : parts_held (shares (drop k funds)) (drop next figures) ≡ 0 =
      ap (λ stakes. parts_held (shares stakes) (drop next figures)) (drop_all k funds past) in
      let all = so.so_far in
      omega (arith, all, none)

  pub added-totals : (cents : ℕ) (funds : List Stake) (figures : List Ends) (k next sum : ℕ) → length figures ≤ next
      → AreAdded cents funds figures k next sum → sum ≡ cents + parts_held (shares funds) figures
  added-totals cents funds figures k next sum past so =
      let none : parts_held (shares (drop k funds)) (drop next figures) ≡ 0 =
      ap (parts_held (shares (drop k funds))) (drop_all next figures past) ∙ none-left (shares (drop k funds)) in
      let all = so.so_far in
      omega (arith, all, none)

  no-part : (share : Share) → part_of 0 share ≡ 0
  no-part share = nothing share.through share.before share.all
    where
      nothing : (t b a : ℕ) → 0 * t / a - 0 * b / a ≡ 0
      nothing t b a = omega arith

  -- the first share takes the figure at the place
  none-there : (n : ℕ) → figure_at [] n ≡ exact_ends (pos 0)
  none-there zero = refl
  none-there (suc n) = refl

  drop-none : (n : ℕ) → ◌≡◌ {A = List Ends} (drop n []) []
  drop-none zero = refl
  drop-none (suc n) = refl

  first-part : (share : Share) (rest : List Share) (figures : List Ends) (next : ℕ)
      → parts_held (share ∷ rest) (drop next figures) ≡ part_of (amount_of (figure_at figures next)) share + parts_held rest (drop (suc next) figures)
  first-part share rest [] next =
      let a = ap (parts_held (share ∷ rest)) (drop-none next) in
      let b = ap (parts_held rest) (drop-none (suc next)) ∙ none-left rest in
      let c = ap (λ (e : Ends). part_of (amount_of e) share) (none-there next) ∙ no-part share in
      omega (arith, a, b, c)
  first-part share rest (e ∷ figures) zero = refl
  first-part share rest (e ∷ figures) (suc next) = first-part share rest figures next

  module _ (cents : ℕ) (funds : List Stake) (figures : List Ends) (k next sum : ℕ) (s : Stake) (is : slice_get funds k ≡ Some s) (so_far : AreAdded cents funds figures k next sum) where
    split : drop k funds ≡ s ∷ drop (k + 1) funds
    split = drop_more funds k s (slice_get_within funds k s is) ∙ ap (λ t. t ∷ drop (k + 1) funds) (get_or_from_slice_get funds k s s is)

    abbrev part_here : ℕ
    part_here = part_of (amount_of (figure_at figures next)) (share_in name s)

    with-part : holds name s ≡ true → parts_held (shares (drop k funds)) (drop next figures) ≡ part_here + parts_held (shares (drop (k + 1) funds)) (drop (next + 1) figures)
    with-part held =
        ap (λ stakes. parts_held (shares stakes) (drop next figures)) split
        ∙ ap (λ b. parts_held (map (share_in name) (if b then s ∷ filter (holds name) (drop (k + 1) funds) else filter (holds name) (drop (k + 1) funds))) (drop next figures)) held
        ∙ first-part (share_in name s) (shares (drop (k + 1) funds)) figures next
        ∙ ap (λ n. part_here + parts_held (shares (drop (k + 1) funds)) (drop n figures)) next-place
      where
        next-place : suc next ≡ next + 1
        next-place = omega arith

    pub added-part : holds name s ≡ true → AreAdded cents funds figures (k + 1) (next + 1) (sum + part_here)
    added-part held = record { so_far = omega (arith, so_far.so_far, with-part held); places = omega (arith, so_far.places) }

    pub part-small : holds name s ≡ true → sum + part_here ≤ cents + parts_held (shares funds) figures
    part-small held = omega (arith, so_far.so_far, with-part held)

    pub added-none : holds name s ≡ false → AreAdded cents funds figures (k + 1) next sum
    added-none none = record {
      so_far =
          ap (λ n. sum + n)
          (sym (ap (λ stakes. parts_held (shares stakes) (drop next figures)) split
          ∙ ap (λ b. parts_held (map (share_in name) (if b then s ∷ filter (holds name) (drop (k + 1) funds) else filter (holds name) (drop (k + 1) funds))) (drop next figures)) none))
          ∙ so_far.so_far;
      places = omega (arith, so_far.places);
    }

-- ---- alternatives, one by one
pub record AreListed (figures : List Ends) (k : ℕ) (list : List Scenario) : Type 0 where
  pub places : length list ≡ 8
  pub so_far : map alternative (take k list) ≡ map (alternative_from figures) (range_with_len 0 k)

range-more : (first k : ℕ) → range_with_len first (k + 1) ≡ range_with_len first k ++ (first + k) ∷ []
range-more first zero = ap (λ (n : ℕ). n ∷ []) (omega arith)
range-more first (suc k) =
    ap (λ (n : ℕ). range_with_len first n) moved ∙ ap (λ (xs : List ℕ). first ∷ xs) (range-more (first + 1) k) ∙ ap (λ (n : ℕ). first ∷ (range_with_len (first + 1) k ++ n ∷ [])) next
  where
    moved : suc k + 1 ≡ suc (k + 1)
    moved = omega arith

    next : first + 1 + k ≡ first + suc k
    next = omega arith

pub listed-more : (figures : List Ends) (k : ℕ) (list after : List Scenario) (s : Scenario) → k < 8 → alternative s ≡ alternative_from figures k → after ≡ set list k s → length after ≡ length list
    → AreListed figures k list → AreListed figures (k + 1) after
listed-more figures k list after s few is set_is count h =
    let within : k < length list = omega (arith, few, h.places) in
    record {
      places = count ∙ h.places;
      so_far =
          ap (λ xs. map alternative (take (k + 1) xs)) set_is ∙ ap (map alternative) (take_more_set list k s within) ∙ map-append alternative (take k list) (s ∷ [])
          ∙ ap₂ (λ (xs : List Alternative) (x : Alternative). xs ++ x ∷ []) h.so_far (is ∙ ap (alternative_from figures) first)
          ∙ sym (ap (map (alternative_from figures)) (range-more 0 k) ∙ map-append (alternative_from figures) (range_with_len 0 k) ((0 + k) ∷ []));
    }
  where
    first : k ≡ 0 + k
    first = omega arith

-- ---- rows of discounts
-- the row at the place of a currency's curve is the currency's, and holds discounts at the curve's rates
pub record IsRowAt (currency : List ℕ) (curves : List Curve) (rows : List CurrencyDiscounts) (row : CurrencyDiscounts) (rates : List ℤ) : Type 0 where
  pub own : row_in currency curves rows ≡ row
  pub rates_are : option_map_or (λ (c : Curve). c.rates) (row_of curve_name currency curves) [] ≡ rates
  pub discounts : AreDiscountsAt rates row

pub row-at : (currency : List ℕ) (curves : List Curve) (rows : List CurrencyDiscounts) (k : ℕ) (curve : Curve) (row : CurrencyDiscounts)
    → IsDistinct same_name (map curve_name curves) → AreDiscountsOf curves rows
    → slice_get curves k ≡ Some curve → same_name currency curve.currency ≡ true → slice_get rows k ≡ Some row → IsRowAt currency curves rows row curve.rates
unfolding IsDistinct
row-at currency [] rows k curve row apart are is same there = absurd (cc)
row-at currency (c ∷ curves) [] k curve row apart are is same there = absurd are
row-at currency (c ∷ curves) (r ∷ rows) zero curve row apart are is same there =
    let first : c ≡ curve = cc in
    let own : r ≡ row = cc in
    let here : same_name currency c.currency ≡ true = ap (λ (x : Curve). same_name currency x.currency) first ∙ same in
    record {
      own = ap (λ b. if b then r else row_in currency curves rows) here ∙ own;
      rates_are = ap (λ b. option_map_or (λ (x : Curve). x.rates) (if b then Some c else row_of curve_name currency curves) []) here ∙ ap (λ (x : Curve). x.rates) first;
      discounts = subst (AreDiscountsAt curve.rates) own (subst (λ (x : Curve). AreDiscountsAt x.rates r) first are.0);
    }
row-at currency (c ∷ curves) (r ∷ rows) (suc k) curve row apart are is same there =
    let later = row-at currency curves rows k curve row apart.1 are.1 is same there in
    let other : same_name currency c.currency ≡ false = elsewhere in
    record {
      own = ap (λ b. if b then r else row_in currency curves rows) other ∙ later.own;
      rates_are = ap (λ b. option_map_or (λ (x : Curve). x.rates) (if b then Some c else row_of curve_name currency curves) []) other ∙ later.rates_are;
      discounts = later.discounts;
    }
  where
    elsewhere : same_name currency c.currency ≡ false
    elsewhere =
        let name : currency ≡ curve.currency = same_name-is currency curve.currency same in
        let within : k < length curves = slice_get_within curves k curve is in
        let at : get_or (map curve_name curves) k [] ≡ curve.currency = get_or-map curve_name curves k curve [] within ∙ ap curve_name (get_or_from_slice_get curves k curve curve is) in
        let apart_there = All-from_recursion (λ n. same_name c.currency n ≡ false) (map curve_name curves) apart.0 k [] (omega (arith, within, length-map curves curve_name)) in
        same_name-flip currency c.currency ∙ ap (same_name c.currency) (name ∙ sym at) ∙ apart_there

pub row-found : (sheet : BalanceSheet) → Valid sheet → (currency : List ℕ) (rows : List (List Discounts)) (k : ℕ) (curve : Curve) (row : List Discounts)
    → AreDiscountsOf sheet.curves (rows_of rows) → option_map curve_name (slice_get sheet.curves k) ≡ Some currency → slice_get sheet.curves k ≡ Some curve → slice_get rows k ≡ Some row
    → IsRowAt currency sheet.curves (rows_of rows) (tables row) curve.rates
row-found sheet valid currency rows k curve row are named is there =
    let same : Some curve.currency ≡ Some currency = sym (ap (option_map curve_name) is) ∙ named in
    let name : curve.currency ≡ currency = cc in
    row-at currency sheet.curves (rows_of rows) k curve (tables row) valid.currencies_once are is (ap (same_name currency) name ∙ same_name-itself currency)
    (slice_get-map tables rows k ∙ ap (option_map tables) there)

-- what payments lose by the row of their currency
module _ (sheet : BalanceSheet) (currency : List ℕ) (payments : List (Day × ℤ)) (rows : List CurrencyDiscounts) (row : CurrencyDiscounts) (rates flows : List ℤ) (e : Ends) (base to : List Ends)
    (found : IsRowAt currency sheet.curves rows row rates) (flows_are : flows ≡ dues sheet.numbers.asof.number payments) (base_is : row.base ≡ base) where
  pub paid-up : (direction : Direction) → direction ≡ directions.Up → row.up ≡ to → e ≡ loss_ends flows (rates_in_parts rates tilts.Base) base (rates_in_parts rates tilts.Up) to
      → e ≡ paid_ends (paid_in sheet currency payments direction) (row_in currency sheet.curves rows)
  unfolding paid_ends
  paid-up direction up to_is is = rw (up, found.own, found.rates_are, base_is, to_is, sym flows_are) is

  pub paid-down : (direction : Direction) → direction ≡ directions.Down → row.down ≡ to → e ≡ loss_ends flows (rates_in_parts rates tilts.Base) base (rates_in_parts rates tilts.Down) to
      → e ≡ paid_ends (paid_in sheet currency payments direction) (row_in currency sheet.curves rows)
  unfolding paid_ends
  paid-down direction down to_is is = rw (down, found.own, found.rates_are, base_is, to_is, sym flows_are) is

pub stake-formed : (sheet : BalanceSheet) → Valid sheet → (k : ℕ) (s : Stake) → slice_get sheet.funds k ≡ Some s → IsStake s
stake-formed sheet valid k s is =
    subst IsStake (get_or_from_slice_get sheet.funds k s s is) (All-from_recursion IsStake sheet.funds valid.funds k s (slice_get_within sheet.funds k s is))

-- the part in a fund, as the code works it out
pub part-worked : (name : List ℕ) (figures : List Ends) (next : ℕ) (s : Stake) (span : Ends) (cents part : ℕ) (share : Share) → span ≡ figure_at figures next → cents ≡ amount_of span
    → share ≡ share_in name s → part ≡ part_of cents share → part ≡ part_of (amount_of (figure_at figures next)) (share_in name s)
part-worked name figures next s span cents part share span_is cents_is share_is is =
    is ∙ ap₂ part_of (cents_is ∙ ap amount_of span_is) share_is

-- the weights up to a component are within all
pub through-small : (name : List ℕ) (s : Stake) (components : List (List ℕ × ℤ)) → IsStake s → components ≡ s.fund.components → weights_through name components ≤ 10 ^ 12
through-small name s components formed is =
    subst (λ cs. weights_through name cs ≤ 10 ^ 12) (sym is)
    (let few : length s.fund.components ≤ 1000 = formed.2 in omega (arith, few, weights-small s.fund.components formed.1, through-all name s.fund.components))
