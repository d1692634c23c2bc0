-- What a figure or a Block that the book has is reckoned from, the book has too.
use Rattle.std.proofs.Common.{◌≡◌, ◌⊎◌, inl, inr, ℕ, Bool, true, false, cond, ◌&&◌, ◌||◌, Contains, List, [], ◌∷◌, ◌++◌, Option, Some, None, length, map, refl, sym, ap, subst, ◌∙◌}
use Rattle.std.specs.Prelude.{is_some}
use Rattle.std.specs.List.{list_any}
use Rattle.std.specs.Option.{option_map_or}
use Rattle.std.specs.Cmp.Lexicographic.{nat_list_eq_equiv}
use Rattle.std.proofs.lemmas.Bool.{and_parts}
use Rattle.std.proofs.lemmas.List.Elements.{Contains-append_cases}
use Rattle.scr_funds.proofs.Members.{IsMember, IsMember-from_Contains, IsMember-left, IsMember-map, IsMember-mapped, IsMember-right, at_member}
use Rattle.scr_tables.specs.Names.{same_name}
use Rattle.scr_sum_tree.specs.Blocks.{is_block}
use Rattle.scr_sum_tree.specs.Readers.{IsReader, added_by}
use Rattle.scr_sum_tree.specs.declared.readers.Reader.{Reader}
use Rattle.scr_sum_tree.specs.declared.readers.Reader.TheVariants as readers
use Rattle.scr_sum_tree.proofs.Read.{IsOwn, added-only}
use Rattle.scr_sum_tree.proofs.SameMembers.{same_name-is}
use Rattle.scr_sheet.specs.Validity.{Valid}
use Rattle.scr_sheet.specs.declared.rows.Class.TheVariants as classes
use Rattle.scr_sheet.specs.declared.sheet.BalanceSheet.{BalanceSheet}
use Rattle.scr_nodes.specs.declared.node.Measure.TheVariants as measures
use Rattle.scr_nodes.specs.declared.node.Node.{Node}
use Rattle.scr_nodes.specs.declared.node.Node.TheVariants as nodes
use Rattle.scr_nodes.specs.declared.node.OfCurrency.TheVariants as of_currencies
use Rattle.scr_nodes.specs.declared.node.OfGroup.TheVariants as of_groups
use Rattle.scr_nodes.specs.declared.node.Whole.TheVariants as wholes
use Rattle.scr_nodes.specs.Live.{is_live}
use Rattle.scr_nodes.specs.Sources.{sources_of}
use Rattle.scr_nodes.proofs.LiveSources.{IsLive, sources-live}
use Rattle.scr_block_graph.specs.Graph.{AreRolls, Rolled, block_point, is_live_in, listed, member_point, reads, roll_in, sources_in, tops_of}
use Rattle.scr_block_graph.specs.Sums.{first_sum, member_of, names_listed, reader_of, roll_of, second_sum}
use Rattle.scr_block_graph.specs.declared.point.Point.{Point}
use Rattle.scr_block_graph.specs.declared.point.Point.TheVariants as points
use Rattle.scr_block_graph.specs.declared.sum.Sum.{Sum}
use Rattle.scr_block_graph.specs.declared.sum.Sum.TheVariants as sums
use Rattle.scr_block_graph.proofs.Listed.{sources-listed}
use Rattle.scr_block_graph.proofs.Members.{listed-members}

-- ---- names in lists

pub named : (name : List ℕ) (names : List (List ℕ)) → list_any (same_name name) names ≡ true → IsMember name names
named name [] there = absurd (cc)
named name (other ∷ names) there = by (same_name name other) refl (named name names)
  where
    by : (t : Bool) → same_name name other ≡ t → (list_any (same_name name) names ≡ true → IsMember name names) → IsMember name (other ∷ names)
    by true e later = inl (same_name-is name other e)
    by false e later = inr (later (sym (ap (λ t. t || list_any (same_name name) names) e) ∙ there))

or-last : (a b : Bool) → b ≡ true → (a || b) ≡ true
or-last true b e = refl
or-last false b e = e

pub is-named : (name : List ℕ) (names : List (List ℕ)) → IsMember name names → list_any (same_name name) names ≡ true
is-named name [] h = absurd h
is-named name (other ∷ names) (inl e) =
    ap (λ t. t || list_any (same_name name) names) (ap (same_name name) (sym e) ∙ nat_list_eq_equiv.refl name)
is-named name (other ∷ names) (inr h) = or-last (same_name name other) (list_any (same_name name) names) (is-named name names h)

-- ---- what the sheet has

-- a sum has a figure that is reckoned from it
pub summed-reader : (sum : Sum) → is_some (first_sum (reader_of sum)) ≡ true
summed-reader (sums.Class class) = refl
summed-reader sums.Closed = refl
summed-reader sums.Spreads = refl
summed-reader sums.Grouped = refl
summed-reader (sums.Group name) = refl
summed-reader (sums.Assets currency) = refl
summed-reader (sums.Rates currency direction) = refl
summed-reader (sums.Costs currency direction) = refl
summed-reader (sums.Presents currency) = refl
summed-reader (sums.Losses biometric projection) = refl
summed-reader sums.Squares = refl

pub own-sum : (sum : Sum) → (first_sum (reader_of sum) ≡ Some sum) ⊎ (second_sum (reader_of sum) ≡ Some sum)
own-sum (sums.Class class) = inl refl
own-sum sums.Closed = inr refl
own-sum sums.Spreads = inl refl
own-sum sums.Grouped = inl refl
own-sum (sums.Group name) = inl refl
own-sum (sums.Assets currency) = inl refl
own-sum (sums.Rates currency direction) = inl refl
own-sum (sums.Costs currency direction) = inr refl
own-sum (sums.Presents currency) = inr refl
own-sum (sums.Losses biometric projection) = inl refl
own-sum sums.Squares = inl refl

module _ (sheet : BalanceSheet) where
  -- a figure that is reckoned from a sum reads it
  first-reads : (node : Node) → is_live sheet node ≡ true → option_map_or (reads sheet) (first_sum node) true ≡ true
  first-reads (nodes.Group name of_groups.Total) live = live
  first-reads (nodes.Currency currency (of_currencies.Loss direction)) live = live
  first-reads (nodes.Currency currency (of_currencies.Scenario direction measures.Gross)) live = live
  first-reads (nodes.Whole (wholes.BioScenario biometric projection measures.Gross)) live = live
  first-reads node live = refl

  second-reads : (node : Node) → is_live sheet node ≡ true → option_map_or (reads sheet) (second_sum node) true ≡ true
  second-reads (nodes.Currency currency (of_currencies.Loss direction)) live = live
  second-reads (nodes.Currency currency (of_currencies.Scenario direction measures.Gross)) live = live
  second-reads (nodes.Whole (wholes.ClassSum classes.Type2Equity)) live = refl
  second-reads node live = refl

  module _ (valid : Valid sheet) where
    -- what a sum lists are figures that the sheet has
    listed-live : (sum : Sum) (node : Node) → reads sheet sum ≡ true → IsMember node (listed sheet (Some sum)) → is_live sheet node ≡ true
    listed-live sum node there h =
        at_member (IsLive sheet) (sources_of sheet (reader_of sum)) node (sources-live sheet valid (reader_of sum) there)
        (subst (IsMember node) (sym (sources-listed sheet (reader_of sum) (summed-reader sum))) (by (own-sum sum)))
      where
        by : (first_sum (reader_of sum) ≡ Some sum) ⊎ (second_sum (reader_of sum) ≡ Some sum)
            → IsMember node (listed sheet (first_sum (reader_of sum)) ++ listed sheet (second_sum (reader_of sum)))
        by (inl e) = IsMember-left (listed sheet (first_sum (reader_of sum))) (listed sheet (second_sum (reader_of sum))) node
            (subst (λ o. IsMember node (listed sheet o)) (sym e) h)
        by (inr e) = IsMember-right (listed sheet (first_sum (reader_of sum))) (listed sheet (second_sum (reader_of sum))) node
            (subst (λ o. IsMember node (listed sheet o)) (sym e) h)

-- ---- what the book has

module _ (book : Rolled) (valid : Valid book.sheet) (rolls : AreRolls book) where
  -- the figure of a member of a sum that is read
  member-live : (sum : Sum) (name : List ℕ) → reads book.sheet sum ≡ true → Contains (roll_in book sum) name
      → is_live book.sheet (member_of sum name) ≡ true
  member-live sum name there h =
      listed-live book.sheet valid sum (member_of sum name) there
      (IsMember-mapped (member_of sum) (names_listed book.sheet sum) name
      (named name (names_listed book.sheet sum)
      (listed-members book.sheet valid sum name ∙ sym (rolls.members (roll_of sum) name)
      ∙ is-named name (roll_in book sum) (IsMember-from_Contains (roll_in book sum) name h))))

  -- what a reader of a sum adds up
  added-live : (sum : Sum) → reads book.sheet sum ≡ true → (reader : Reader) → IsReader (length (roll_in book sum)) reader
      → (source : Point) → Contains (added_by (member_point sum) (block_point sum) (roll_in book sum) reader) source
      → is_live_in book source ≡ true
  added-live sum there reader reads source h =
      by (added-only (member_point sum) (block_point sum) (roll_in book sum) reader reads source h)
    where
      by : IsOwn (member_point sum) (block_point sum) (roll_in book sum) source → is_live_in book source ≡ true
      by (inl m) = subst (λ p. is_live_in book p ≡ true) m.2 (member-live sum m.0 there m.1)
      by (inr b) = subst (λ p. is_live_in book p ≡ true) b.3 (ap (λ t. t && is_block (length (roll_in book sum)) b.0 b.1) there ∙ b.2)

  tops-live : (sum : Option Sum) → option_map_or (reads book.sheet) sum true ≡ true → (source : Point) → Contains (tops_of book sum) source
      → is_live_in book source ≡ true
  tops-live None there source h = absurd (IsMember-from_Contains [] source h)
  tops-live (Some sum) there source h = added-live sum there readers.Whole tt source h

  pub sources-live-in : (point source : Point) → is_live_in book point ≡ true → Contains (sources_in book point) source
      → is_live_in book source ≡ true
  sources-live-in (points.Figure node) source live h = by (is_some (first_sum node)) h
    where
      by : (t : Bool) → Contains (cond t (tops_of book (first_sum node) ++ tops_of book (second_sum node)) (map points.Figure (sources_of book.sheet node))) source
          → is_live_in book source ≡ true
      by true h = either (Contains-append_cases (tops_of book (first_sum node)) (tops_of book (second_sum node)) source h)
        where
          either : Contains (tops_of book (first_sum node)) source ⊎ Contains (tops_of book (second_sum node)) source → is_live_in book source ≡ true
          either (inl one) = tops-live (first_sum node) (first-reads book.sheet node live) source one
          either (inr two) = tops-live (second_sum node) (second-reads book.sheet node live) source two
      by false h =
          let s = IsMember-map points.Figure (sources_of book.sheet node) source
          (IsMember-from_Contains (map points.Figure (sources_of book.sheet node)) source h) in
          subst (λ p. is_live_in book p ≡ true) s.2
          (at_member (IsLive book.sheet) (sources_of book.sheet node) s.0 (sources-live book.sheet valid node live) s.1)
  sources-live-in (points.Block block) source live h =
      let has = and_parts (reads book.sheet block.sum) (is_block (length (roll_in book block.sum)) block.level block.index) live in
      added-live block.sum has.0 (readers.Block block.level block.index) has.1 source h
