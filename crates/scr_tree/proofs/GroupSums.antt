-- What is held of the securities of a group is the sum of their totals.
use Rattle.std.proofs.Common.{◌≡◌, inl, inr, is_some, ℕ, zero, suc, ◌+◌, ◌<◌, List, [], ◌∷◌, get_or, length, map, take, pos, Some, None, slice_get, slice_index_or, refl, sym, ap, ap₂, subst, ◌∙◌, arith, append-nil}
use Rattle.std.specs.Prelude.{sum_by}
use Rattle.std.specs.List.{AllByRecursion, AllZip}
use Rattle.std.proofs.lemmas.List.{length-map, take_more}
use Rattle.std.proofs.lemmas.List.Sums.{sum_by-append, sum_by-cons}
use Rattle.std.proofs.lemmas.Option.{slice_get_within}
use Rattle.scr_num.specs.Rounding.{add_ends, exact_ends}
use Rattle.scr_num.specs.Sums.{sum_ends}
use Rattle.scr_factors.specs.Values.{FactorValues}
use Rattle.scr_figure_ids.specs.Numbers.{StandsAt}
use Rattle.scr_funds.proofs.Members.{Contains-from_IsMember, IsMember}
use Rattle.scr_member_index.specs.Lists.{first_of, members_of}
use Rattle.scr_ids.specs.Ranges.{IsAt}
use Rattle.scr_ids.specs.declared.table.Table.TheVariants as ranged
use Rattle.scr_sum_slots.proofs.Views.{one-some}
use Rattle.scr_sheet.specs.BalanceSheet.{position_name, position_of}
use Rattle.scr_sheet.specs.declared.keys.Table.TheVariants as tables
use Rattle.scr_sheet.specs.declared.{rows.Group.Group, rows.Position.Position, sheet.BalanceSheet.BalanceSheet}
use Rattle.scr_sheet.specs.Totals.{total_of}
use Rattle.scr_sheet.specs.Validity.{Valid}
use Rattle.scr_nodes.specs.Sources.{group_total, security_total}
use Rattle.scr_nodes.specs.declared.node.Node.{Node}
use Rattle.scr_nodes.proofs.OwnRows.{own-securities}
use Rattle.scr_rules.specs.Worked.{worked}
use Rattle.scr_rules.proofs.Equations.{worked-equation}
use Rattle.scr_rules.proofs.Totals.{security-worked}
use Rattle.scr_block_graph.specs.Books.{rolled_of}
use Rattle.scr_block_graph.specs.Graph.{listed, roll_in}
use Rattle.scr_block_graph.specs.Sums.{member_of, roll_of}
use Rattle.scr_block_graph.specs.declared.sum.Sum.{Sum}
use Rattle.scr_block_graph.specs.declared.sum.Sum.TheVariants as sums
use Rattle.scr_block_graph.proofs.Listed.{sources-listed}
use Rattle.scr_tree.specs.Points.{AreNumbersOf}
use Rattle.scr_tree.specs.RowSpans.{BeginAt, BeginsAt}
use Rattle.scr_tree.specs.Summed.{family_in}
use Rattle.scr_tree.specs.declared.graph.Numbers.{Numbers}
use Rattle.scr_tree.proofs.FirstRows.{each-get, got-map, got-row, group-live}
use Rattle.scr_tree.proofs.SumNumbers.{firsts-are, member-live, member-stands, rolls}
use Rattle.scr_tree.proofs.SumWorth.{by-table}

index-of-map : {Row : Type 0} (f : Row → ℕ) (rows : List Row) (i : ℕ) (row : Row) → slice_get rows i ≡ Some row → slice_index_or (map f rows) i 0 ≡ f row
index-of-map f [] i row at = absurd (let clash : None ≡ Some row = at in cc)
index-of-map f (other ∷ rows) zero row at = let same : other ≡ row = cc in ap f same
index-of-map f (other ∷ rows) (suc i) row at = index-of-map f rows i row at

-- what stands at a place is one thing
pub one-row : {Row : Type 0} (rows : List Row) (k : ℕ) (a b : Row) → slice_get rows k ≡ Some a → slice_get rows k ≡ Some b → a ≡ b
one-row rows k a b x y = let both : Some a ≡ Some b = sym x ∙ y in cc

-- ---- totals

module _ (factors : FactorValues) (sheet : BalanceSheet) (valid : Valid sheet) where
  abbrev cents : Position → ℕ
  cents p = total_of sheet (position_name p)

  all-worked : AllByRecursion (λ p. worked factors sheet (security_total p) ≡ exact_ends (pos (cents p))) sheet.securities
  all-worked = each sheet.securities (own-securities sheet valid)
    where
      each : (ps : List Position) → AllByRecursion (λ p. position_of (position_name p) sheet.securities ≡ Some p) ps
          → AllByRecursion (λ p. worked factors sheet (security_total p) ≡ exact_ends (pos (cents p))) ps
      each [] all = tt
      each (p ∷ ps) all = (security-worked factors sheet valid (position_name p) (ap is_some all.0), each ps all.1)

  pub total-right : (k : ℕ) (p : Position) → slice_get sheet.securities k ≡ Some p → worked factors sheet (security_total p) ≡ exact_ends (pos (cents p))
  total-right k p at =
      each-get (λ q. worked factors sheet (security_total q) ≡ exact_ends (pos (cents q))) sheet.securities k p all-worked at

  -- the total at a place among those of all securities
  pub total-at : (k : ℕ) (p : Position) → slice_get sheet.securities k ≡ Some p → (totals : List ℕ) → totals ≡ map cents sheet.securities
      → slice_index_or totals k 0 ≡ cents p
  total-at k p at totals are = ap (λ ts. slice_index_or ts k 0) are ∙ index-of-map cents sheet.securities k p at

-- ---- places and what stands at them

-- what is said of two lists, of what stands at one place
pub zip-at : (At : ℕ → ℕ → Type 0) (xs ys : List ℕ) (i d : ℕ) → AllZip At xs ys → i < length xs → At (get_or xs i d) (get_or ys i 0)
zip-at At [] ys i d zip within = absurd (omega (arith, within))
zip-at At (x ∷ xs) [] i d zip within = absurd zip
zip-at At (x ∷ xs) (y ∷ ys) zero d zip within = zip.0
zip-at At (x ∷ xs) (y ∷ ys) (suc i) d zip within = zip-at At xs ys i d zip.1 (omega (arith, within))

-- one more of a list is added
pub sum-next : (weight : ℕ → ℕ) (rows : List ℕ) (i : ℕ) → i < length rows
    → sum_by weight (take (i + 1) rows) ≡ sum_by weight (take i rows) + weight (get_or rows i 0)
sum-next weight rows i within =
    let one = sum_by-cons weight (get_or rows i 0) [] in
    let more = ap (sum_by weight) (take_more rows i 0 within) ∙ sum_by-append weight (take i rows) (get_or rows i 0 ∷ []) in
    omega (arith, one, more)

-- ---- groups

-- what names come to is what stands at their rows
module _ (totals : List ℕ) (weight : List ℕ → ℕ) where
  abbrev Weighs : (List ℕ → ℕ → Type 0) → List ℕ → ℕ → Type 0
  Weighs At name row = At name row × (row < length totals) × (slice_index_or totals row 0 ≡ weight name)

  module _ (At : List ℕ → ℕ → Type 0) where
    -- each of some names has a row
    rows-for : (names : List (List ℕ)) → ((name : List ℕ) → IsMember name names → (row : ℕ) × Weighs At name row)
        → (rows : List ℕ) × AllZip (Weighs At) names rows
    rows-for [] each = ([], tt)
    rows-for (name ∷ names) each =
        let one = each name (inl refl) in
        let more = rows-for names (λ other h. each other (inr h)) in
        (one.0 ∷ more.0, (one.1, more.1))

    rows-low : (names : List (List ℕ)) (rows : List ℕ) → AllZip (Weighs At) names rows → AllByRecursion (λ row. row < length totals) rows
    rows-low [] [] zip = tt
    rows-low [] (row ∷ rows) zip = absurd zip
    rows-low (name ∷ names) [] zip = absurd zip
    rows-low (name ∷ names) (row ∷ rows) zip = (zip.0.1, rows-low names rows zip.1)

    rows-weigh : (names : List (List ℕ)) (rows : List ℕ) → AllZip (Weighs At) names rows
        → sum_by (λ row. slice_index_or totals row 0) rows ≡ sum_by weight names
    rows-weigh [] [] zip = refl
    rows-weigh [] (row ∷ rows) zip = absurd zip
    rows-weigh (name ∷ names) [] zip = absurd zip
    rows-weigh (name ∷ names) (row ∷ rows) zip =
        let one = zip.0.2 in
        let more = rows-weigh names rows zip.1 in
        let left = sum_by-cons (λ r. slice_index_or totals r 0) row rows in
        let right = sum_by-cons weight name names in
        omega (arith, one, more, left, right)

  rows-at : (first : List ℕ → ℕ) (At : ℕ → ℕ → Type 0) (names : List (List ℕ)) (rows : List ℕ)
      → AllZip (Weighs (λ name row. At (first name) row)) names rows → AllZip At (map first names) rows
  rows-at first At [] [] zip = tt
  rows-at first At [] (row ∷ rows) zip = absurd zip
  rows-at first At (name ∷ names) [] zip = absurd zip
  rows-at first At (name ∷ names) (row ∷ rows) zip = (zip.0.0, rows-at first At names rows zip.1)

module _ (numbers : Numbers) (are : AreNumbersOf numbers.book.now numbers.places.now numbers.lists.now) (factors : FactorValues)
    (valid : Valid numbers.book.now.sheet) (k : ℕ) (h : Group) (at : slice_get numbers.book.now.sheet.groups k ≡ Some h)
    (totals : List ℕ) (all : totals ≡ map (λ p. total_of numbers.book.now.sheet (position_name p)) numbers.book.now.sheet.securities) where
  abbrev sheet : BalanceSheet
  sheet = numbers.book.now.sheet

  abbrev held : List ℕ → ℕ
  held name = total_of sheet name

  abbrev of_group : Sum
  of_group = sums.Group h.name

  abbrev start : List ℕ → ℕ
  start name = first_of numbers.book.now.sheet numbers.places.now tables.Security name

  abbrev members : List (List ℕ)
  members = roll_in (rolled_of numbers.book.now) of_group

  abbrev Begins : List ℕ → ℕ → Type 0
  Begins name row = BeginsAt numbers.places.now (start name) row

  long : length totals ≡ length sheet.securities
  long = ap length all ∙ length-map sheet.securities (λ p. total_of sheet (position_name p))

  -- a member is a security, whose numbers begin where the list says
  member : (name : List ℕ) → IsMember name members → (row : ℕ) × Weighs totals held Begins name row
  member name there = (stood.k, (record { row = at_row.row; family = at_row.family; is = at_row.is ∙ from }, low, worth))
    where
      stood : StandsAt sheet numbers.places.now (member_of of_group name) (start name + family_in of_group)
      stood = member-stands numbers are valid of_group (group-live sheet valid k h at) name (Contains-from_IsMember members name there)

      at_row : IsAt numbers.places.now ranged.Security stood.k 0 (start name + family_in of_group)
      at_row = stood.at

      from : start name + family_in of_group ≡ start name
      from = let none : family_in of_group ≡ 0 = refl in omega (arith, none)

      row : slice_get (map position_name sheet.securities) stood.k ≡ Some name
      row = stood.row

      within : stood.k < length (map position_name sheet.securities)
      within = slice_get_within (map position_name sheet.securities) stood.k name row

      low : stood.k < length totals
      low = let named = length-map sheet.securities position_name in omega (arith, within, named, long)

      its : (p : Position) × (slice_get sheet.securities stood.k ≡ Some p)
      its = got-row sheet.securities stood.k (let named = length-map sheet.securities position_name in omega (arith, within, named))

      called : position_name its.0 ≡ name
      called = one-some (sym (got-map position_name sheet.securities stood.k its.0 its.1) ∙ row)

      worth : slice_index_or totals stood.k 0 ≡ held name
      worth = total-at factors sheet valid stood.k its.0 its.1 totals all ∙ ap held called

  pub group-rows : (rows : List ℕ) × AllZip (Weighs totals held Begins) members rows
  group-rows = rows-for totals held Begins members member

  pub group-low : AllByRecursion (λ row. row < length totals) group-rows.0
  group-low = rows-low totals held Begins members group-rows.0 group-rows.1

  pub group-begin : (firsts : List ℕ) → firsts ≡ members_of (roll_of of_group) numbers.book.now.rolls numbers.lists.now
      → BeginAt numbers.places.now firsts group-rows.0
  group-begin firsts is =
      subst (λ ns. BeginAt numbers.places.now ns group-rows.0) (sym (is ∙ firsts-are numbers are valid of_group))
      (rows-at totals held start (BeginsAt numbers.places.now) members group-rows.0 group-rows.1)

  exact-sum : (names : List (List ℕ)) → ((name : List ℕ) → IsMember name names → worked factors sheet (member_of of_group name) ≡ exact_ends (pos (held name)))
      → sum_ends (map (λ name. worked factors sheet (member_of of_group name)) names) ≡ exact_ends (pos (sum_by held names))
  exact-sum [] each = refl
  exact-sum (name ∷ names) each =
      ap₂ add_ends (each name (inl refl)) (exact-sum names (λ other h. each other (inr h)))
      ∙ ap (λ (n : ℕ). exact_ends (pos n)) (sym (sum_by-cons held name names))

  -- what is held of the members is what the group comes to
  pub group-sum : exact_ends (pos (sum_by (λ row. slice_index_or totals row 0) group-rows.0)) ≡ worked factors sheet (group_total h)
  group-sum =
      ap (λ (n : ℕ). exact_ends (pos n)) (rows-weigh totals held Begins members group-rows.0 group-rows.1)
      ∙ sym (exact-sum members (λ name there. security-worked factors sheet valid name
      (member-live (rolled_of numbers.book.now) valid (rolls numbers are valid) of_group name (Contains-from_IsMember members name there)
      (group-live sheet valid k h at))))
      ∙ by-table factors numbers.book.now valid (rolls numbers are valid) (Some of_group)
      ∙ ap (λ (ns : List Node). sum_ends (map (worked factors sheet) ns)) (sym (sources-listed sheet (group_total h) refl ∙ append-nil (listed sheet (Some of_group))))
      ∙ sym (worked-equation factors sheet valid (group_total h))
