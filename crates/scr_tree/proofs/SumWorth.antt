-- What large sums come to, and how large what they add up is together.
use Rattle.std.proofs.Common.{◌≡◌, ◌⊎◌, inl, inr, ℕ, ◌+◌, ◌≤◌, ◌^◌, ◌++◌, true, false, cond, List, [], ◌∷◌, Option, Some, None, length, map, sum_by, take, drop, unsigned_abs, pos, refl, sym, ap, ap₂, subst, ◌∙◌, arith}
use Rattle.std.specs.Prelude.{is_some}
use Rattle.std.specs.List.{list_any}
use Rattle.std.proofs.lemmas.Bool.{and_parts}
use Rattle.std.proofs.lemmas.List.{drop_at, length-append, length-map, map-append, take_at}
use Rattle.std.proofs.lemmas.List.Sums.{sum_by-append, sum_by-cons}
use Rattle.scr_tables.specs.Names.{same_name}
use Rattle.scr_num.specs.Amounts.{IsAmount}
use Rattle.scr_num.specs.Rounding.{Ends, add_ends, exact_ends}
use Rattle.scr_num.specs.Sizes.{AreTogether, IsWithin}
use Rattle.scr_num.specs.Sums.{sum_ends}
use Rattle.scr_num.proofs.AddedEnds.{zero-add_ends}
use Rattle.scr_num.proofs.SumLemmas.{add_ends-swap, sum_ends-append}
use Rattle.scr_profile.specs.declared.limits.TheConstants.{MAX_HELD}
use Rattle.scr_sum_tree.specs.Blocks.{is_block, top_count}
use Rattle.scr_sum_tree.specs.Sums.{AddsUp, total}
use Rattle.scr_sum_tree.specs.declared.blocks.Level.{Level}
use Rattle.scr_sum_tree.proofs.BlockSizes.{sources-together, tops-together}
use Rattle.scr_sum_tree.proofs.ListedSums.{ends-add_up, sum-same, total-ends}
use Rattle.scr_sum_tree.proofs.Regrouped.{map-map}
use Rattle.scr_sum_tree.proofs.TopChanges.{length-tops}
use Rattle.scr_discounts.specs.Discounts.{CurrencyDiscounts}
use Rattle.scr_factors.specs.Values.{FactorValues, IsInForm}
use Rattle.scr_figure_ids.specs.Families.{name_of}
use Rattle.scr_sheet.specs.declared.sheet.BalanceSheet.{BalanceSheet}
use Rattle.scr_sheet.specs.Validity.{Valid}
use Rattle.scr_nodes.specs.Live.{is_live}
use Rattle.scr_nodes.specs.Own.{Own}
use Rattle.scr_nodes.specs.Own.Own.{Added, Converted, Foreign, Lost, Spread, SquareRoot}
use Rattle.scr_nodes.specs.OwnOf.{held_in, own_of}
use Rattle.scr_nodes.specs.Sources.{sources_of}
use Rattle.scr_nodes.specs.declared.node.Direction.{Direction}
use Rattle.scr_nodes.specs.declared.node.Measure.TheVariants as measures
use Rattle.scr_nodes.specs.declared.node.Node.{Node}
use Rattle.scr_nodes.specs.declared.node.Node.TheVariants as nodes
use Rattle.scr_nodes.specs.declared.node.OfCurrency.TheVariants as of_currencies
use Rattle.scr_nodes.specs.declared.node.OfGroup.TheVariants as of_groups
use Rattle.scr_nodes.specs.declared.node.Whole.TheVariants as wholes
use Rattle.scr_rules.specs.BySums.{is_of_sum}
use Rattle.scr_rules.specs.Discounts.{own_discounts}
use Rattle.scr_rules.specs.Fits.{Fits}
use Rattle.scr_rules.specs.MarketFits.{FitsForeign}
use Rattle.scr_rules.specs.MarketRules.{foreign_ends}
use Rattle.scr_rules.specs.Rules.{amount_of, rule}
use Rattle.scr_rules.specs.Worked.{worked}
use Rattle.scr_rules.proofs.BySums.{fits-by-sums, fits-by-two-sums, rule-by-sum, rule-by-two-sums}
use Rattle.scr_rules.proofs.Equations.{worked-equation}
use Rattle.scr_rules.proofs.Ranges.{node-fits}
use Rattle.scr_book.specs.RolledSheets.{RolledSheet}
use Rattle.scr_block_graph.specs.Books.{rolled_of}
use Rattle.scr_block_graph.specs.Graph.{AreRolls, Rolled, block_point, is_live_in, listed, member_point, reads, roll_in, sources_in, tops_of, worth_in}
use Rattle.scr_block_graph.specs.Sums.{first_sum, member_of, names_listed, reader_of, roll_of, second_sum}
use Rattle.scr_block_graph.specs.declared.point.Block.{Block}
use Rattle.scr_block_graph.specs.declared.point.Point.{Point}
use Rattle.scr_block_graph.specs.declared.point.Point.TheVariants as points
use Rattle.scr_block_graph.specs.declared.sum.Sum.{Sum}
use Rattle.scr_block_graph.specs.declared.sum.Sum.TheVariants as sums
use Rattle.scr_block_graph.proofs.Listed.{sources-listed}
use Rattle.scr_block_graph.proofs.Lives.{own-sum, summed-reader}
use Rattle.scr_block_graph.proofs.Members.{listed-members, listed-once}
use Rattle.scr_block_graph.proofs.Worth.{block-sources, ends-tops}
use Rattle.scr_tree.specs.Summed.{foreign_of, summed_in}

-- ---- sizes

nat-adds : AddsUp 0 (λ a b. a + b)
nat-adds = record { grouped = λ a b c. omega arith; swapped = λ a b. omega arith; empty = λ a. omega arith }

total-sizes : {X Y : Type 0} (size : X → ℕ) (f : Y → X) (ys : List Y) → total 0 (λ a b. a + b) (map (λ y. size (f y)) ys) ≡ sum_by size (map f ys)
total-sizes size f [] = refl
total-sizes size f (y ∷ ys) =
    ap (λ n. size (f y) + n) (total-sizes size f ys) ∙ sym (sum_by-cons size (f y) (map f ys))

pub no-more : (most : ℕ) → AreTogether most []
no-more most = record { lows = omega arith; highs = omega arith }

-- those in front, and those behind
front : (most : ℕ) (xs ys : List Ends) → AreTogether most (xs ++ ys) → AreTogether most xs
front most xs ys all = record {
  lows = omega (arith, all.lows, sum_by-append (λ (e : Ends). unsigned_abs e.low) xs ys);
  highs = omega (arith, all.highs, sum_by-append (λ (e : Ends). unsigned_abs e.high) xs ys);
}

behind : (most : ℕ) (xs ys : List Ends) → AreTogether most (xs ++ ys) → AreTogether most ys
behind most xs ys all = record {
  lows = omega (arith, all.lows, sum_by-append (λ (e : Ends). unsigned_abs e.low) xs ys);
  highs = omega (arith, all.highs, sum_by-append (λ (e : Ends). unsigned_abs e.high) xs ys);
}

wider : (es : List Ends) → AreTogether (10 ^ 33) es → AreTogether (2 ^ 124) es
wider es h = let low = h.lows in let high = h.highs in record { lows = omega (arith, low); highs = omega (arith, high) }

-- what a rule fits that sees a sum alone
own-together : (own : Own) (figures : List Ends) → is_of_sum own ≡ true → Fits own figures → AreTogether (2 ^ 124) figures
own-together Lost figures of fits = wider figures fits
own-together Converted figures of fits = wider figures fits
own-together Added figures of fits = wider figures fits
own-together Spread figures of fits = wider figures fits
own-together SquareRoot figures of fits =
    let low = fits.together.lows in let high = fits.together.highs in record { lows = omega (arith, low); highs = omega (arith, high) }
own-together own figures of fits = absurd (cc)

-- ---- a sum over the members of a list is one over rows of a table

module _ (book : Rolled) (valid : Valid book.sheet) (rolls : AreRolls book) (sum : Sum) where
  same-names : (name : List ℕ) → list_any (same_name name) (names_listed book.sheet sum) ≡ list_any (same_name name) (roll_in book sum)
  same-names name = listed-members book.sheet valid sum name ∙ sym (rolls.members (roll_of sum) name)

  module _ (worth : Node → Ends) where
    pub roll-listed : sum_ends (map (λ name. worth (member_of sum name)) (roll_in book sum)) ≡ sum_ends (map worth (listed book.sheet (Some sum)))
    roll-listed =
        sym (sum-same (exact_ends (pos 0)) add_ends ends-add_up sum_ends total-ends (λ name. worth (member_of sum name)) (names_listed book.sheet sum)
        (roll_in book sum) (listed-once book.sheet valid sum) (rolls.once (roll_of sum)) same-names)
        ∙ sym (ap sum_ends (map-map worth (member_of sum) (names_listed book.sheet sum)))

    roll-sizes : (size : Ends → ℕ) → sum_by size (map (λ name. worth (member_of sum name)) (roll_in book sum)) ≡ sum_by size (map worth (listed book.sheet (Some sum)))
    roll-sizes size =
        sym (total-sizes size (λ name. worth (member_of sum name)) (roll_in book sum))
        ∙ sym (sum-same 0 (λ a b. a + b) nat-adds (total 0 (λ a b. a + b)) (λ xs. refl) (λ name. size (worth (member_of sum name))) (names_listed book.sheet sum)
        (roll_in book sum) (listed-once book.sheet valid sum) (rolls.once (roll_of sum)) same-names)
        ∙ total-sizes size (λ name. worth (member_of sum name)) (names_listed book.sheet sum)
        ∙ sym (ap (sum_by size) (map-map worth (member_of sum) (names_listed book.sheet sum)))

    pub roll-together : (most : ℕ) → AreTogether most (map worth (listed book.sheet (Some sum)))
        → AreTogether most (map (λ name. worth (member_of sum name)) (roll_in book sum))
    roll-together most all = record {
      lows = let same = roll-sizes (λ e. unsigned_abs e.low) in let whole = all.lows in omega (arith, same, whole);
      highs = let same = roll-sizes (λ e. unsigned_abs e.high) in let whole = all.highs in omega (arith, same, whole);
    }

    as-points : map (worth_in sum_ends worth book) (map (member_point sum) (roll_in book sum)) ≡ map (λ name. worth (member_of sum name)) (roll_in book sum)
    as-points = map-map (worth_in sum_ends worth book) (member_point sum) (roll_in book sum)

    -- so what is left at the top, and what a Block adds up
    pub tops-small : (most : ℕ) → AreTogether most (map (λ name. worth (member_of sum name)) (roll_in book sum))
        → AreTogether most (map (worth_in sum_ends worth book) (tops_of book (Some sum)))
    tops-small most all =
        tops-together (worth_in sum_ends worth book) (member_point sum) (block_point sum) (roll_in book sum)
        (λ level i there. block-sources sum_ends worth book sum level i) most (subst (AreTogether most) (sym as-points) all)

    pub below-small : (most : ℕ) → AreTogether most (map (λ name. worth (member_of sum name)) (roll_in book sum))
        → (level : Level) (i : ℕ) → is_block (length (roll_in book sum)) level i ≡ true
        → AreTogether most (map (worth_in sum_ends worth book) (sources_in book (block_point sum level i)))
    below-small most all =
        sources-together (worth_in sum_ends worth book) (member_point sum) (block_point sum) (roll_in book sum)
        (λ level i there. block-sources sum_ends worth book sum level i) most (subst (AreTogether most) (sym as-points) all)

-- the rules of sums read no discounts
any-discounts : (own : Own) (one other : CurrencyDiscounts) (figures : List Ends) → is_of_sum own ≡ true → rule own one figures ≡ rule own other figures
any-discounts Lost one other figures of = refl
any-discounts Converted one other figures of = refl
any-discounts Added one other figures of = refl
any-discounts Spread one other figures of = refl
any-discounts SquareRoot one other figures of = refl
any-discounts own one other figures of = absurd (cc)

sum-of-two : (a b : Ends) → sum_ends (a ∷ b ∷ []) ≡ add_ends a b
sum-of-two a b = ap (add_ends a) (add_ends-swap b (exact_ends (pos 0)) ∙ zero-add_ends b)

-- ---- figures that are reckoned from sums

module _ (factors : FactorValues) (form : IsInForm factors) (sheet : BalanceSheet) (valid : Valid sheet) where
  -- what the first sum adds up, and what the second does
  abbrev pub held : Node → List Ends
  held node = map (worked factors sheet) (listed sheet (first_sum node))

  abbrev pub owed : Node → List Ends
  owed node = map (worked factors sheet) (listed sheet (second_sum node))

  are-sides : (node : Node) → is_some (first_sum node) ≡ true → map (worked factors sheet) (sources_of sheet node) ≡ held node ++ owed node
  are-sides node some =
      ap (map (worked factors sheet)) (sources-listed sheet node some)
      ∙ map-append (worked factors sheet) (listed sheet (first_sum node)) (listed sheet (second_sum node))

  -- ---- a currency, whose figure sees two sums

  module _ (currency : List ℕ) (direction : Direction) where
    abbrev scenario : Node
    scenario = nodes.Currency currency (of_currencies.Scenario direction measures.Gross)

    counted : held_in currency sheet ≡ length (held scenario)
    counted = sym (length-map (listed sheet (Some (sums.Assets currency))) (worked factors sheet) ∙ length-map _ _ ∙ length-map _ _)

    foreign-fits : is_live sheet scenario ≡ true → FitsForeign (length (held scenario)) (held scenario ++ owed scenario)
    foreign-fits live =
        subst (λ n. FitsForeign n (held scenario ++ owed scenario)) counted
        (subst (FitsForeign (held_in currency sheet)) (are-sides scenario refl) (node-fits factors form sheet valid scenario live))

    pub foreign-held : is_live sheet scenario ≡ true → IsAmount MAX_HELD (sum_ends (held scenario))
    foreign-held live = (fits-by-two-sums (held scenario) (owed scenario) (foreign-fits live)).0

    pub foreign-owed : is_live sheet scenario ≡ true → IsWithin (10 ^ 33) (sum_ends (owed scenario))
    foreign-owed live = (fits-by-two-sums (held scenario) (owed scenario) (foreign-fits live)).1

    pub foreign-worked : worked factors sheet scenario ≡ foreign_ends direction (amount_of (sum_ends (held scenario))) (sum_ends (owed scenario))
    foreign-worked =
        worked-equation factors sheet valid scenario
        ∙ ap₂ (λ n figures. rule (Foreign direction n) (own_discounts (own_of factors sheet scenario)) figures) counted (are-sides scenario refl)
        ∙ rule-by-two-sums direction (own_discounts (own_of factors sheet scenario)) (held scenario) (owed scenario)

  -- where a figure is one
  pub is-scenario : (node : Node) (direction : Direction) → foreign_of node ≡ Some direction → node ≡ scenario (name_of node) direction
  is-scenario (nodes.Currency currency (of_currencies.Scenario way measures.Gross)) direction e =
      let same : way ≡ direction = cc in ap (scenario currency) same
  is-scenario node direction e = absurd (cc)

  -- ---- how large

  abbrev AreSmall : Node → Type 0
  AreSmall node = AreTogether (2 ^ 124) (held node) × AreTogether (2 ^ 124) (owed node)

  by-one : (node : Node) → is_some (first_sum node) ≡ true → is_live sheet node ≡ true → is_of_sum (own_of factors sheet node) ≡ true → AreSmall node
  by-one node some live of =
      let all : AreTogether (2 ^ 124) (held node ++ owed node) =
      subst (AreTogether (2 ^ 124)) (are-sides node some)
      (own-together (own_of factors sheet node) (map (worked factors sheet) (sources_of sheet node)) of (node-fits factors form sheet valid node live)) in
      (front (2 ^ 124) (held node) (owed node) all, behind (2 ^ 124) (held node) (owed node) all)

  by-two : (currency : List ℕ) (direction : Direction) → is_live sheet (scenario currency direction) ≡ true → AreSmall (scenario currency direction)
  by-two currency direction live =
      let one = held (scenario currency direction) in
      let other = owed (scenario currency direction) in
      let fits = foreign-fits currency direction live in (
        wider one (subst (AreTogether (10 ^ 33)) (take_at one other (length one) refl) fits.held),
        wider other (subst (AreTogether (10 ^ 33)) (drop_at one other (length one) refl) fits.owed),
      )

  pub are-small : (node : Node) → is_some (first_sum node) ≡ true → is_live sheet node ≡ true → AreSmall node
  are-small (nodes.Group name of_groups.Total) some live = by-one (nodes.Group name of_groups.Total) some live refl
  are-small (nodes.Currency currency (of_currencies.Loss direction)) some live = by-one (nodes.Currency currency (of_currencies.Loss direction)) some live refl
  are-small (nodes.Currency currency (of_currencies.Scenario direction measures.Gross)) some live = by-two currency direction live
  are-small (nodes.Whole (wholes.ClassSum class)) some live = by-one (nodes.Whole (wholes.ClassSum class)) some live refl
  are-small (nodes.Whole wholes.Spread) some live = by-one (nodes.Whole wholes.Spread) some live refl
  are-small (nodes.Whole wholes.Assets) some live = by-one (nodes.Whole wholes.Assets) some live refl
  are-small (nodes.Whole wholes.Concentration) some live = by-one (nodes.Whole wholes.Concentration) some live refl
  are-small (nodes.Whole (wholes.BioScenario biometric projection measures.Gross)) some live =
      by-one (nodes.Whole (wholes.BioScenario biometric projection measures.Gross)) some live refl
  are-small node some live = absurd (cc)

  pub listed-small : (sum : Sum) → reads sheet sum ≡ true → AreTogether (2 ^ 124) (map (worked factors sheet) (listed sheet (Some sum)))
  listed-small sum live = by (own-sum sum)
    where
      of : Option Sum → Type 0
      of found = AreTogether (2 ^ 124) (map (worked factors sheet) (listed sheet found))

      small : AreSmall (reader_of sum)
      small = are-small (reader_of sum) (summed-reader sum) live

      by : (first_sum (reader_of sum) ≡ Some sum) ⊎ (second_sum (reader_of sum) ≡ Some sum) → of (Some sum)
      by (inl e) = subst of e small.0
      by (inr e) = subst of e small.1

  -- ---- by its rule

  of-one : (node : Node) → is_some (first_sum node) ≡ true → foreign_of node ≡ None → is_of_sum (own_of factors sheet node) ≡ true
  of-one (nodes.Group name of_groups.Total) some home = refl
  of-one (nodes.Currency currency (of_currencies.Loss direction)) some home = refl
  of-one (nodes.Currency currency (of_currencies.Scenario direction measures.Gross)) some home = absurd (cc)
  of-one (nodes.Whole (wholes.ClassSum class)) some home = refl
  of-one (nodes.Whole wholes.Spread) some home = refl
  of-one (nodes.Whole wholes.Assets) some home = refl
  of-one (nodes.Whole wholes.Concentration) some home = refl
  of-one (nodes.Whole (wholes.BioScenario biometric projection measures.Gross)) some home = refl
  of-one node some home = absurd (cc)

  module _ (node : Node) (some : is_some (first_sum node) ≡ true) (home : foreign_of node ≡ None) where
    abbrev both : List Ends
    both = sum_ends (held node) ∷ sum_ends (owed node) ∷ []

    pub sums-fit : is_live sheet node ≡ true → Fits (own_of factors sheet node) both
    sums-fit live =
        fits-by-sums (own_of factors sheet node) (held node) (owed node) (of-one node some home)
        (subst (Fits (own_of factors sheet node)) (are-sides node some) (node-fits factors form sheet valid node live))

    pub sums-worked : (discounts : CurrencyDiscounts) → rule (own_of factors sheet node) discounts both ≡ worked factors sheet node
    sums-worked discounts =
        let own = own_of factors sheet node in
        let of = of-one node some home in
        any-discounts own discounts (own_discounts own) both of
        ∙ rule-by-sum own (own_discounts own) both (held node ++ owed node) of
        (sum-of-two (sum_ends (held node)) (sum_ends (owed node)) ∙ sym (sum_ends-append (held node) (owed node)))
        ∙ ap (rule own (own_discounts own)) (sym (are-sides node some))
        ∙ sym (worked-equation factors sheet valid node)

-- ---- of a book

module _ (factors : FactorValues) (book : RolledSheet) (valid : Valid book.sheet) (rolls : AreRolls (rolled_of book)) where
  -- what a sum comes to, if there is one, in the order of its table
  pub by-table : (found : Option Sum) → summed_in factors book found ≡ sum_ends (map (worked factors book.sheet) (listed book.sheet found))
  by-table None = refl
  by-table (Some sum) = roll-listed (rolled_of book) valid rolls sum (worked factors book.sheet)

  -- and by what is left at its top
  pub by-tops : (found : Option Sum)
      → sum_ends (map (worth_in sum_ends (worked factors book.sheet) (rolled_of book)) (tops_of (rolled_of book) found)) ≡ summed_in factors book found
  by-tops found = ends-tops (worked factors book.sheet) (rolled_of book) valid rolls found ∙ sym (by-table found)

  pub tops-few : (found : Option Sum) → AreTogether (2 ^ 124) (map (worked factors book.sheet) (listed book.sheet found))
      → AreTogether (2 ^ 124) (map (worth_in sum_ends (worked factors book.sheet) (rolled_of book)) (tops_of (rolled_of book) found))
  tops-few None small = no-more (2 ^ 124)
  tops-few (Some sum) small =
      tops-small (rolled_of book) valid rolls sum (worked factors book.sheet) (2 ^ 124)
      (roll-together (rolled_of book) valid rolls sum (worked factors book.sheet) (2 ^ 124) small)

  -- the members of a sum that is read
  pub members-small : IsInForm factors → (sum : Sum) → reads book.sheet sum ≡ true
      → AreTogether (2 ^ 124) (map (λ name. worked factors book.sheet (member_of sum name)) (roll_in (rolled_of book) sum))
  members-small form sum live =
      roll-together (rolled_of book) valid rolls sum (worked factors book.sheet) (2 ^ 124) (listed-small factors form book.sheet valid sum live)

  module _ (form : IsInForm factors) (node : Node) (held_ends owed_ends : Ends) (held_is : held_ends ≡ summed_in factors book (first_sum node))
      (owed_is : owed_ends ≡ summed_in factors book (second_sum node)) where
    its-held : held_ends ≡ sum_ends (held factors form book.sheet valid node)
    its-held = held_is ∙ by-table (first_sum node)

    its-owed : owed_ends ≡ sum_ends (owed factors form book.sheet valid node)
    its-owed = owed_is ∙ by-table (second_sum node)

    -- of a currency in a scenario
    module _ (direction : Direction) (foreign : foreign_of node ≡ Some direction) where
      is : node ≡ scenario factors form book.sheet valid (name_of node) direction
      is = is-scenario factors form book.sheet valid node direction foreign

      held-there : held_ends ≡ sum_ends (held factors form book.sheet valid (scenario factors form book.sheet valid (name_of node) direction))
      held-there = its-held ∙ ap (λ n. sum_ends (held factors form book.sheet valid n)) is

      owed-there : owed_ends ≡ sum_ends (owed factors form book.sheet valid (scenario factors form book.sheet valid (name_of node) direction))
      owed-there = its-owed ∙ ap (λ n. sum_ends (owed factors form book.sheet valid n)) is

      pub held-amount : is_live book.sheet node ≡ true → IsAmount MAX_HELD held_ends
      held-amount live =
          subst (IsAmount MAX_HELD) (sym held-there)
          (foreign-held factors form book.sheet valid (name_of node) direction (subst (λ n. is_live book.sheet n ≡ true) is live))

      pub owed-within : is_live book.sheet node ≡ true → IsWithin (10 ^ 33) owed_ends
      owed-within live =
          subst (IsWithin (10 ^ 33)) (sym owed-there)
          (foreign-owed factors form book.sheet valid (name_of node) direction (subst (λ n. is_live book.sheet n ≡ true) is live))

      pub foreign-right : foreign_ends direction (amount_of held_ends) owed_ends ≡ worked factors book.sheet node
      foreign-right =
          ap₂ (λ a b. foreign_ends direction (amount_of a) b) held-there owed-there
          ∙ sym (foreign-worked factors form book.sheet valid (name_of node) direction)
          ∙ sym (ap (worked factors book.sheet) is)

    -- of any other
    module _ (some : is_some (first_sum node) ≡ true) (home : foreign_of node ≡ None) where
      two-sums : held_ends ∷ owed_ends ∷ [] ≡ both factors form book.sheet valid node some home
      two-sums = ap₂ (λ a b. a ∷ b ∷ []) its-held its-owed

      pub both-fit : is_live book.sheet node ≡ true → Fits (own_of factors book.sheet node) (held_ends ∷ owed_ends ∷ [])
      both-fit live = subst (Fits (own_of factors book.sheet node)) (sym two-sums) (sums-fit factors form book.sheet valid node some home live)

      pub both-right : (discounts : CurrencyDiscounts) → rule (own_of factors book.sheet node) discounts (held_ends ∷ owed_ends ∷ []) ≡ worked factors book.sheet node
      both-right discounts =
          ap (rule (own_of factors book.sheet node) discounts) two-sums ∙ sums-worked factors form book.sheet valid node some home discounts

  -- ---- what is below a figure or a Block

  abbrev worth : Point → Ends
  worth = worth_in sum_ends (worked factors book.sheet) (rolled_of book)

  -- what a figure is reckoned from that is reckoned from no sum
  pub plain-below : (node : Node) → is_some (first_sum node) ≡ false → map worth (sources_in (rolled_of book) (points.Figure node))
      ≡ map (worked factors book.sheet) (sources_of book.sheet node)
  plain-below node none =
      ap (λ t. map worth (cond t (tops_of (rolled_of book) (first_sum node) ++ tops_of (rolled_of book) (second_sum node)) (map points.Figure (sources_of book.sheet node)))) none
      ∙ map-map worth points.Figure (sources_of book.sheet node)

  pub summed-below : (node : Node) → is_some (first_sum node) ≡ true → map worth (sources_in (rolled_of book) (points.Figure node))
      ≡ map worth (tops_of (rolled_of book) (first_sum node)) ++ map worth (tops_of (rolled_of book) (second_sum node))
  summed-below node some =
      ap (λ t. map worth (cond t (tops_of (rolled_of book) (first_sum node) ++ tops_of (rolled_of book) (second_sum node)) (map points.Figure (sources_of book.sheet node)))) some
      ∙ map-append worth (tops_of (rolled_of book) (first_sum node)) (tops_of (rolled_of book) (second_sum node))

  -- what stands in front of the sources of the second sum, and these
  module _ (form : IsInForm factors) (node : Node) (some : is_some (first_sum node) ≡ true) (below : List Ends)
      (are : below ≡ map worth (sources_in (rolled_of book) (points.Figure node))) (sum : Sum) (first : first_sum node ≡ Some sum)
      (count : ℕ) (counted : count ≡ top_count (length (roll_in (rolled_of book) sum))) where
    parted : below ≡ map worth (tops_of (rolled_of book) (first_sum node)) ++ map worth (tops_of (rolled_of book) (second_sum node))
    parted = are ∙ summed-below node some

    in-front : length (map worth (tops_of (rolled_of book) (first_sum node))) ≡ count
    in-front =
        length-map (tops_of (rolled_of book) (first_sum node)) worth
        ∙ ap (λ o. length (tops_of (rolled_of book) o)) first
        ∙ length-tops (member_point sum) (block_point sum) (roll_in (rolled_of book) sum)
        ∙ sym counted

    pub within : count ≤ length below
    within = omega (
      arith,
      in-front,
      ap length parted,
      length-append (map worth (tops_of (rolled_of book) (first_sum node))) (map worth (tops_of (rolled_of book) (second_sum node))),
    )

    pub taken : take count below ≡ map worth (tops_of (rolled_of book) (first_sum node))
    taken = ap (take count) parted
        ∙ take_at (map worth (tops_of (rolled_of book) (first_sum node))) (map worth (tops_of (rolled_of book) (second_sum node))) count in-front

    pub left : drop count below ≡ map worth (tops_of (rolled_of book) (second_sum node))
    left = ap (drop count) parted
        ∙ drop_at (map worth (tops_of (rolled_of book) (first_sum node))) (map worth (tops_of (rolled_of book) (second_sum node))) count in-front

    pub taken-small : is_live book.sheet node ≡ true → AreTogether (2 ^ 124) (take count below)
    taken-small live = subst (AreTogether (2 ^ 124)) (sym taken) (tops-few (first_sum node) (are-small factors form book.sheet valid node some live).0)

    pub left-small : is_live book.sheet node ≡ true → AreTogether (2 ^ 124) (drop count below)
    left-small live = subst (AreTogether (2 ^ 124)) (sym left) (tops-few (second_sum node) (are-small factors form book.sheet valid node some live).1)

    pub taken-sum : sum_ends (take count below) ≡ summed_in factors book (first_sum node)
    taken-sum = ap sum_ends taken ∙ by-tops (first_sum node)

    pub left-sum : sum_ends (drop count below) ≡ summed_in factors book (second_sum node)
    left-sum = ap sum_ends left ∙ by-tops (second_sum node)

  -- of a Block
  pub block-small : IsInForm factors → (block : Block) → is_live_in (rolled_of book) (points.Block block) ≡ true
      → AreTogether (2 ^ 124) (map worth (sources_in (rolled_of book) (points.Block block)))
  block-small form block live =
      let is = and_parts (reads book.sheet block.sum) (is_block (length (roll_in (rolled_of book) block.sum)) block.level block.index) live in
      below-small (rolled_of book) valid rolls block.sum (worked factors book.sheet) (2 ^ 124) (members-small form block.sum is.0) block.level block.index is.1

  pub block-sum : (block : Block) → sum_ends (map worth (sources_in (rolled_of book) (points.Block block))) ≡ worth (points.Block block)
  block-sum block = sym (block-sources sum_ends (worked factors book.sheet) (rolled_of book) block.sum block.level block.index)
