-- What points come to together, from their figures as they stand.
use Rattle.std.proofs.Common.{◌≡◌, ◌⊎◌, inl, inr, ℕ, zero, suc, ◌+◌, ◌-◌, ◌<◌, ◌≤◌, ◌^◌, ◌++◌, ◌||◌, Bool, true, false, cond, ltb, All, List, [], ◌∷◌, Option, Some, None, is_some, length, map, pos, refl, sym, ap, ap₂, subst, ◌∙◌, arith}
use Rattle.std.specs.List.{AllByRecursion, AllZip, list_any, range_with_len}
use Rattle.std.proofs.lemmas.Bool.{cases_lt, ltb-true}
use Rattle.scr_funds.proofs.Members.{All-from_members, at_member}
use Rattle.scr_num.specs.Rounding.{Ends, ends, exact_ends}
use Rattle.scr_num.specs.Sizes.{AreTogether}
use Rattle.scr_num.specs.Sums.{sum_ends}
use Rattle.scr_num.specs.declared.span.Span.{Span}
use Rattle.scr_sum_tree.specs.Blocks.{blocks_at, blocks_over, parts}
use Rattle.scr_sum_tree.specs.declared.blocks.Level.{Level}
use Rattle.scr_sum_tree.specs.declared.blocks.Level.TheVariants as levels
use Rattle.scr_factors.specs.Values.{IsInForm}
use Rattle.scr_figure_ids.specs.Families.{family_of}
use Rattle.scr_figure_ids.proofs.Zipped.{all-back, all-front, zip-append}
use Rattle.scr_member_index.specs.Lists.{first_of}
use Rattle.scr_sheet.specs.Members.{table_of}
use Rattle.scr_nodes.specs.Live.{is_live}
use Rattle.scr_nodes.specs.Sources.{sources_of}
use Rattle.scr_nodes.specs.declared.node.Measure.TheVariants as measures
use Rattle.scr_nodes.specs.declared.node.Node.{Node}
use Rattle.scr_nodes.specs.declared.node.Node.TheVariants as nodes
use Rattle.scr_nodes.specs.declared.node.OfCurrency.TheVariants as of_currencies
use Rattle.scr_nodes.specs.declared.node.OfGroup.TheVariants as of_groups
use Rattle.scr_nodes.specs.declared.node.Whole.TheVariants as wholes
use Rattle.scr_reachability.specs.Graph.{IsLive}
use Rattle.scr_reachability.specs.Linked.{AreAt}
use Rattle.scr_partial_sums.specs.Figures.{ends_at, members_ends}
use Rattle.scr_partial_sums.specs.Written.{any_block_open, any_open, blocks_ends, is_open_at, number_of}
use Rattle.scr_partial_sums.specs.declared.figure.Figure.{Figure}
use Rattle.scr_partial_sums.specs.declared.writing.Subtotals.{Subtotals}
use Rattle.scr_block_graph.specs.Books.{rolled_of}
use Rattle.scr_block_graph.specs.Graph.{block_point, member_point, reads, roll_in, sources_in, tops_of}
use Rattle.scr_block_graph.specs.Sums.{first_sum, member_of, roll_of, second_sum}
use Rattle.scr_block_graph.specs.declared.point.Point.{Point}
use Rattle.scr_block_graph.specs.declared.point.Point.TheVariants as points
use Rattle.scr_block_graph.specs.declared.sum.Sum.{Sum}
use Rattle.scr_tree.specs.Adding.{AreKnownAt, IsAddedUp, blocks_among, worked_of}
use Rattle.scr_tree.specs.Figures.{HasFigure, HaveFigures, Reckoning, opens, worth_of}
use Rattle.scr_tree.specs.Points.{book_graph}
use Rattle.scr_tree.specs.Ready.{IsBasis, IsReadyOn, StandsOn, reckoning_on}
use Rattle.scr_tree.specs.Summed.{summed_in}
use Rattle.scr_tree.specs.Together.{any_close}
use Rattle.scr_tree.specs.declared.basis.Basis.{Basis}
use Rattle.scr_tree.proofs.AddedUp.{each-shifted, ends-have, ends-one, open-shifted}
use Rattle.scr_tree.proofs.Here.{have-here}
use Rattle.scr_tree.proofs.PointSources.{members-at, members-live, over-none, tops-live, tops-members}
use Rattle.scr_tree.proofs.Spanned.{close-all, point-right}
use Rattle.scr_tree.proofs.SumWorth.{by-tops, listed-small, tops-few}
use Rattle.scr_tree.proofs.Turning.{have-within}
use Rattle.scr_tree.proofs.Upright.{book-up, rolls-are}

-- ---- lists side by side

zip-front : {A B : Type 0} (R S : A → B → Type 0) (xs us : List A) (ys vs : List B) → AllZip R xs ys → AllZip S (xs ++ us) (ys ++ vs) → AllZip S xs ys
zip-front R S [] us [] vs front all = tt
zip-front R S [] us (y ∷ ys) vs front all = absurd front
zip-front R S (x ∷ xs) us [] vs front all = absurd front
zip-front R S (x ∷ xs) us (y ∷ ys) vs front all = (all.0, zip-front R S xs us ys vs front.1 all.1)

zip-back : {A B : Type 0} (R S : A → B → Type 0) (xs us : List A) (ys vs : List B) → AllZip R xs ys → AllZip S (xs ++ us) (ys ++ vs) → AllZip S us vs
zip-back R S [] us [] vs front all = all
zip-back R S [] us (y ∷ ys) vs front all = absurd front
zip-back R S (x ∷ xs) us [] vs front all = absurd front
zip-back R S (x ∷ xs) us (y ∷ ys) vs front all = zip-back R S xs us ys vs front.1 all.1

-- what holds of each number that is made of a range
each-made : (P : ℕ → Type 0) (f : ℕ → ℕ) (start many : ℕ) → AllByRecursion P (map f (range_with_len start many))
    → (i : ℕ) → start ≤ i → i < start + many → P (f i)
each-made P f start zero all i from low = absurd (omega (arith, from, low))
each-made P f start (suc many) all i from low =
    by (cases_lt start i) (λ later. each-made P f (start + 1) many all.1 i (omega (arith, later)) (omega (arith, low)))
  where
    by : (start < i) ⊎ (i ≤ start) → (start < i → P (f i)) → P (f i)
    by (inl later) further = further later
    by (inr first) further = subst (λ k. P (f k)) (omega (arith, first, from)) all.0

zip-made : {B : Type 0} (R : ℕ → B → Type 0) (f : ℕ → ℕ) (g : ℕ → B) (start many : ℕ) → ((i : ℕ) → start ≤ i → i < start + many → R (f i) (g i))
    → AllZip R (map f (range_with_len start many)) (map g (range_with_len start many))
zip-made R f g start zero each = tt
zip-made R f g start (suc many) each = (
  each start (omega arith) (omega arith),
  zip-made R f g (start + 1) many (λ i from low. each i (omega (arith, from)) (omega (arith, low))),
)

any-made : (figures : List Figure) (f : ℕ → ℕ) (list : List ℕ) → list_any (λ i. is_open_at figures (f i)) list ≡ any_close figures (map f list)
any-made figures f [] = refl
any-made figures f (i ∷ list) = ap (λ b. is_open_at figures (f i) || b) (any-made figures f list)

ends-made : (reckoning : Reckoning Point) (figures : List Figure) (f : ℕ → ℕ) (g : ℕ → Point) (list : List ℕ) → HaveFigures reckoning figures (map f list) (map g list)
    → map (λ i. ends_at figures (f i)) list ≡ map (λ p. (reckoning.worth p).worked) (map g list)
ends-made reckoning figures f g [] have = refl
ends-made reckoning figures f g (i ∷ list) have =
    ap₂ (λ (e : Ends) (es : List Ends). e ∷ es) (ends-one reckoning figures (f i) (g i) have.0) (ends-made reckoning figures f g list have.1)

-- a list that does not fall into Blocks has none of either level
pub none-at : (count : ℕ) (level : Level) → blocks_at count levels.First ≡ 0 → blocks_at count level ≡ 0
none-at count levels.First none = none
none-at count levels.Second none = by (ltb 32 (parts count)) refl
  where
    few : count ≤ 32
    few = over-none count none

    by : (t : Bool) → ltb 32 (parts count) ≡ t → blocks_over (parts count) ≡ 0
    by true e = let many : 32 < parts count = ltb-true 32 (parts count) e in absurd (omega (arith, many, few))
    by false e = ap (λ t. cond t (parts (parts count)) 0) e

-- ---- points that are known

module _ (b : Basis) (is : IsBasis b) where
  numbers-of : (list : List Point) → AllByRecursion (IsLive (book_graph (rolled_of b.inputs.book.now))) list → (numbers : List ℕ) × AreAt (StandsOn b) numbers list
  numbers-of [] live = ([], tt)
  numbers-of (p ∷ list) live =
      let own = is.graph.numbers_of.numbers.live p live.0 in
      let rest = numbers-of list live.1 in (own.0 ∷ rest.0, (own.1, rest.1))

  module _ (figures : List Figure) where
    known-front : (xs ys : List Point) → AllByRecursion (IsLive (book_graph (rolled_of b.inputs.book.now))) ys → AreKnownAt b figures (xs ++ ys)
        → AreKnownAt b figures xs
    known-front xs ys live known = λ numbers at.
        let rest = numbers-of ys live in
        zip-front (λ number p. StandsOn b p number) (HasFigure (reckoning_on b) figures) numbers rest.0 xs ys at
        (known (numbers ++ rest.0) (zip-append (λ number p. StandsOn b p number) numbers rest.0 xs ys at rest.1))

    known-back : (xs ys : List Point) → AllByRecursion (IsLive (book_graph (rolled_of b.inputs.book.now))) xs → AreKnownAt b figures (xs ++ ys)
        → AreKnownAt b figures ys
    known-back xs ys live known = λ numbers at.
        let rest = numbers-of xs live in
        zip-back (λ number p. StandsOn b p number) (HasFigure (reckoning_on b) figures) rest.0 numbers xs ys rest.1
        (known (rest.0 ++ numbers) (zip-append (λ number p. StandsOn b p number) rest.0 numbers xs ys rest.1 at))

    -- the sources of one that is ready
    pub sources-known : (number : ℕ) → IsReadyOn b figures number → (point : Point) → StandsOn b point number
        → AreKnownAt b figures (sources_in (rolled_of b.inputs.book.now) point)
    sources-known number ready point at = λ list there. have-here b is figures number ready point at list there

    -- and so the figures at given numbers are there
    pub known-within : (list : List Point) → AreKnownAt b figures list → (numbers : List ℕ) → AreAt (StandsOn b) numbers list
        → All (λ n. n < length figures) numbers
    known-within list known numbers at =
        let each = have-within (reckoning_on b) (StandsOn b) b.places.now.size (book-up b is) figures numbers list (known numbers at) in
        All-from_members (λ n. n < length figures) numbers (λ n m. at_member (λ n. n < length figures) numbers n each m)

    -- ---- Blocks one after another

    module _ (sum : Sum) (level : Level) (start many : ℕ) (blocks : Subtotals)
        (stand : (i : ℕ) → start ≤ i → i < start + many → StandsOn b (block_point sum level i) (number_of blocks level i))
        (known : AreKnownAt b figures (map (block_point sum level) (range_with_len start many))) where
      abbrev among : List Point
      among = map (block_point sum level) (range_with_len start many)

      own-numbers : List ℕ
      own-numbers = map (number_of blocks level) (range_with_len start many)

      at : AreAt (StandsOn b) (map (number_of blocks level) (range_with_len start many)) (map (block_point sum level) (range_with_len start many))
      at = zip-made (λ number p. StandsOn b p number) (number_of blocks level) (block_point sum level) start many stand

      have : HaveFigures (reckoning_on b) figures (map (number_of blocks level) (range_with_len start many)) (map (block_point sum level) (range_with_len start many))
      have = known (map (number_of blocks level) (range_with_len start many)) at

      pub blocks-within : (i : ℕ) → start ≤ i → i < start + many → number_of blocks level i < length figures
      blocks-within =
          each-made (λ n. n < length figures) (number_of blocks level) start many
          (have-within (reckoning_on b) (StandsOn b) b.places.now.size (book-up b is) figures (map (number_of blocks level) (range_with_len start many))
          (map (block_point sum level) (range_with_len start many)) have)

      pub blocks-worth : blocks_ends figures blocks level start many ≡ map (worked_of b) (map (block_point sum level) (range_with_len start many))
      blocks-worth = ends-made (reckoning_on b) figures (number_of blocks level) (block_point sum level) (range_with_len start many) have

      pub blocks-open : any_block_open figures blocks level start many
          ≡ list_any (λ t. t) (map (λ p. ((reckoning_on b).worth p).close) (map (block_point sum level) (range_with_len start many)))
      blocks-open =
          any-made figures (number_of blocks level) (range_with_len start many)
          ∙ close-all b is figures (map (number_of blocks level) (range_with_len start many)) (map (block_point sum level) (range_with_len start many)) have

  -- no figure is the sum of no points
  pub nothing-added : (sum : Sum) (level : Level) (start end : ℕ) (figure : Figure) → end - start ≡ 0 → ends figure.span ≡ exact_ends (pos 0)
      → figure.close ≡ false → IsAddedUp b (blocks_among sum level start end) figure
  nothing-added sum level start end figure none span close = record {
    span = span ∙ ap (λ n. sum_ends (map (worked_of b) (map (block_point sum level) (range_with_len start n)))) (sym none);
    close = close ∙ ap (λ n. list_any (λ t. t) (map (λ p. ((reckoning_on b).worth p).close) (map (block_point sum level) (range_with_len start n)))) (sym none);
  }

  pub none-added : (found : Option Sum) (figure : Figure) → found ≡ None → ends figure.span ≡ exact_ends (pos 0) → figure.close ≡ false
      → IsAddedUp b (tops_of (rolled_of b.inputs.book.now) found) figure
  none-added found figure none span close =
      subst (λ o. IsAddedUp b (tops_of (rolled_of b.inputs.book.now) o) figure) (sym none) (record { span = span; close = close })

  -- ---- a figure by its sums

  module _ (node : Node) (some : is_some (first_sum node) ≡ true) where
    parted : sources_in (rolled_of b.inputs.book.now) (points.Figure node)
        ≡ tops_of (rolled_of b.inputs.book.now) (first_sum node) ++ tops_of (rolled_of b.inputs.book.now) (second_sum node)
    parted =
        ap (λ t. cond t (tops_of (rolled_of b.inputs.book.now) (first_sum node) ++ tops_of (rolled_of b.inputs.book.now) (second_sum node))
        (map points.Figure (sources_of b.inputs.book.now.sheet node))) some

    module _ (figures : List Figure) (number : ℕ) (ready : IsReadyOn b figures number) (at : StandsOn b (points.Figure node) number)
        (live : is_live b.inputs.book.now.sheet node ≡ true) where
      all-live : AllByRecursion (IsLive (book_graph (rolled_of b.inputs.book.now)))
          (tops_of (rolled_of b.inputs.book.now) (first_sum node) ++ tops_of (rolled_of b.inputs.book.now) (second_sum node))
      all-live = subst (AllByRecursion (IsLive (book_graph (rolled_of b.inputs.book.now)))) parted ((book-up b is).closed (points.Figure node) live)

      both : AreKnownAt b figures (tops_of (rolled_of b.inputs.book.now) (first_sum node) ++ tops_of (rolled_of b.inputs.book.now) (second_sum node))
      both = subst (AreKnownAt b figures) parted (sources-known figures number ready (points.Figure node) at)

      pub first-known : AreKnownAt b figures (tops_of (rolled_of b.inputs.book.now) (first_sum node))
      first-known =
          known-front figures (tops_of (rolled_of b.inputs.book.now) (first_sum node)) (tops_of (rolled_of b.inputs.book.now) (second_sum node))
          (all-back (IsLive (book_graph (rolled_of b.inputs.book.now))) (tops_of (rolled_of b.inputs.book.now) (first_sum node))
          (tops_of (rolled_of b.inputs.book.now) (second_sum node)) all-live) both

      pub second-known : AreKnownAt b figures (tops_of (rolled_of b.inputs.book.now) (second_sum node))
      second-known =
          known-back figures (tops_of (rolled_of b.inputs.book.now) (first_sum node)) (tops_of (rolled_of b.inputs.book.now) (second_sum node))
          (all-front (IsLive (book_graph (rolled_of b.inputs.book.now))) (tops_of (rolled_of b.inputs.book.now) (first_sum node))
          (tops_of (rolled_of b.inputs.book.now) (second_sum node)) all-live) both

    -- none of them is an open choice
    opens-none : (mask : Ends) → opens node mask ≡ false
    opens-none mask = by node some
      where
        by : (node : Node) → is_some (first_sum node) ≡ true → opens node mask ≡ false
        by (nodes.Group name of_groups.Total) some = refl
        by (nodes.Currency currency (of_currencies.Loss direction)) some = refl
        by (nodes.Currency currency (of_currencies.Scenario direction measures.Gross)) some = refl
        by (nodes.Whole (wholes.ClassSum class)) some = refl
        by (nodes.Whole wholes.Spread) some = refl
        by (nodes.Whole wholes.Assets) some = refl
        by (nodes.Whole wholes.Concentration) some = refl
        by (nodes.Whole (wholes.BioScenario biometric projection measures.Gross)) some = refl
        by node some = absurd (cc)

    -- a figure by its rule, above what is left of both
    pub summed-right : (held owed : Figure) → IsAddedUp b (tops_of (rolled_of b.inputs.book.now) (first_sum node)) held
        → IsAddedUp b (tops_of (rolled_of b.inputs.book.now) (second_sum node)) owed → (span : Span) (close : Bool)
        → ends span ≡ ((reckoning_on b).worth (points.Figure node)).worked → close ≡ (held.close || owed.close)
        → worth_of (record { span = span; close = close }) ≡ (reckoning_on b).worth (points.Figure node)
    summed-right held owed one two span close worked_is close_is =
        point-right b is (points.Figure node) span close (held.close || owed.close) worked_is
        (ap₂ (λ (x : Bool) (y : Bool). x || y) one.close two.close
        ∙ sym (any-append (tops_of (rolled_of b.inputs.book.now) (first_sum node)) (tops_of (rolled_of b.inputs.book.now) (second_sum node)))
        ∙ sym (ap (λ ps. list_any (λ t. t) (map (λ p. ((reckoning_on b).worth p).close) ps)) parted))
        (close_is ∙ sym (ap (λ t. t || (held.close || owed.close)) (opens-none (ends span))))
      where
        or-assoc : (x y z : Bool) → (x || (y || z)) ≡ ((x || y) || z)
        or-assoc true y z = refl
        or-assoc false y z = refl

        any-append : (xs ys : List Point) → list_any (λ t. t) (map (λ p. ((reckoning_on b).worth p).close) (xs ++ ys))
            ≡ (list_any (λ t. t) (map (λ p. ((reckoning_on b).worth p).close) xs) || list_any (λ t. t) (map (λ p. ((reckoning_on b).worth p).close) ys))
        any-append [] ys = refl
        any-append (x ∷ xs) ys =
            ap (λ t. ((reckoning_on b).worth x).close || t) (any-append xs ys)
            ∙ or-assoc ((reckoning_on b).worth x).close (list_any (λ t. t) (map (λ p. ((reckoning_on b).worth p).close) xs))
            (list_any (λ t. t) (map (λ p. ((reckoning_on b).worth p).close) ys))

  -- ---- a sum by what is left at its top

  pub top-sum : (found : Option Sum) (figure : Figure) → IsAddedUp b (tops_of (rolled_of b.inputs.book.now) found) figure
      → ends figure.span ≡ summed_in b.inputs.factors.now b.inputs.book.now found
  top-sum found figure added =
      added.span ∙ by-tops b.inputs.factors.now b.inputs.book.now is.valid (rolls-are b.inputs.book.now is.graph.numbers_of.rolls) found

  pub top-small : IsInForm b.inputs.factors.now → (sum : Sum) → reads b.inputs.book.now.sheet sum ≡ true
      → AreTogether (2 ^ 124) (map (worked_of b) (tops_of (rolled_of b.inputs.book.now) (Some sum)))
  top-small form sum live =
      tops-few b.inputs.factors.now b.inputs.book.now is.valid (rolls-are b.inputs.book.now is.graph.numbers_of.rolls) (Some sum)
      (listed-small b.inputs.factors.now form b.inputs.book.now.sheet is.valid sum live)

  -- of a list that does not fall into Blocks the members are left

  module _ (figures : List Figure) (sum : Sum) (there : reads b.inputs.book.now.sheet sum ≡ true) (family : ℕ)
      (own_family : (name : List ℕ) → family ≡ family_of (member_of sum name)) (firsts : List ℕ)
      (are : firsts ≡ map (first_of b.inputs.book.now.sheet b.places.now (table_of (roll_of sum))) (roll_in (rolled_of b.inputs.book.now) sum))
      (none : blocks_at (length (roll_in (rolled_of b.inputs.book.now) sum)) levels.First ≡ 0)
      (known : AreKnownAt b figures (tops_of (rolled_of b.inputs.book.now) (Some sum))) where
    tops-are : map (member_point sum) (roll_in (rolled_of b.inputs.book.now) sum) ≡ tops_of (rolled_of b.inputs.book.now) (Some sum)
    tops-are = tops-members (member_point sum) (block_point sum) (roll_in (rolled_of b.inputs.book.now) sum) none

    at-members : AreAt (StandsOn b) (map (λ n. n + family) firsts) (tops_of (rolled_of b.inputs.book.now) (Some sum))
    at-members =
        subst (λ ns. AreAt (StandsOn b) (map (λ n. n + family) ns) (tops_of (rolled_of b.inputs.book.now) (Some sum))) (sym are)
        (subst (AreAt (StandsOn b) (map (λ n. n + family) (map (first_of b.inputs.book.now.sheet b.places.now (table_of (roll_of sum)))
        (roll_in (rolled_of b.inputs.book.now) sum)))) tops-are
        (members-at b.inputs.book.now b.places.now b.lists.now is.graph.numbers_of is.valid sum family own_family (roll_in (rolled_of b.inputs.book.now) sum)
        (members-live b.inputs.book.now b.places.now b.lists.now is.graph.numbers_of is.valid sum (roll_in (rolled_of b.inputs.book.now) sum)
        (tops_of (rolled_of b.inputs.book.now) (Some sum)) tops-are
        (tops-live b.inputs.book.now b.places.now b.lists.now is.graph.numbers_of is.valid sum there))))

    have-members : HaveFigures (reckoning_on b) figures (map (λ n. n + family) firsts) (tops_of (rolled_of b.inputs.book.now) (Some sum))
    have-members = known (map (λ n. n + family) firsts) at-members

    pub members-within : All (λ n. n + family < length figures) firsts
    members-within =
        each-shifted family (length figures) firsts
        (known-within figures (tops_of (rolled_of b.inputs.book.now) (Some sum)) known (map (λ n. n + family) firsts) at-members)

    pub members-worth : members_ends figures family firsts ≡ map (worked_of b) (tops_of (rolled_of b.inputs.book.now) (Some sum))
    members-worth = ends-have (reckoning_on b) figures family firsts (tops_of (rolled_of b.inputs.book.now) (Some sum)) have-members

    pub members-open : any_open figures family firsts
        ≡ list_any (λ t. t) (map (λ p. ((reckoning_on b).worth p).close) (tops_of (rolled_of b.inputs.book.now) (Some sum)))
    members-open =
        open-shifted figures family firsts
        ∙ close-all b is figures (map (λ n. n + family) firsts) (tops_of (rolled_of b.inputs.book.now) (Some sum)) have-members
