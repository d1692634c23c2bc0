-- A balance sheet reckons the reader of a sum from the figure of a row exactly where it has the reader and the row is a member.
use Rattle.std.proofs.Common.{◌≡◌, ◌⊎◌, inl, inr, ℕ, ◌<◌, true, List, ◌++◌, Option, Some, None, sym, ap, subst, ◌∙◌, arith}
use Rattle.std.specs.Option.{option_map_or}
use Rattle.std.proofs.lemmas.Option.{same_Some}
use Rattle.scr_funds.proofs.Members.{Contains-from_IsMember, IsMember, IsMember-cases, IsMember-from_Contains, IsMember-left, IsMember-map, IsMember-mapped, IsMember-right}
use Rattle.scr_sheet.specs.Members.{is_member}
use Rattle.scr_sheet.specs.Validity.{Valid}
use Rattle.scr_sheet.specs.declared.sheet.BalanceSheet.{BalanceSheet}
use Rattle.scr_nodes.specs.Sources.{sources_of}
use Rattle.scr_nodes.specs.declared.node.Node.{Node}
use Rattle.scr_block_graph.specs.Graph.{listed, reads}
use Rattle.scr_block_graph.specs.Sums.{first_sum, member_of, names_listed, reader_of, roll_of, second_sum}
use Rattle.scr_block_graph.specs.Touched.{IsPair}
use Rattle.scr_block_graph.specs.declared.point.Point.TheVariants as points
use Rattle.scr_block_graph.specs.declared.sum.Sum.{Sum}
use Rattle.scr_block_graph.proofs.Apart.{members-apart}
use Rattle.scr_block_graph.proofs.Listed.{sources-listed}
use Rattle.scr_block_graph.proofs.Lives.{is-named, named, own-sum, summed-reader}
use Rattle.scr_block_graph.proofs.Members.{listed-members}
use Rattle.scr_block_graph.proofs.Once.{member-number, numbers-differ, sum_number, table_number}

-- ---- two sums with one reader are told apart by the tables of their rows

pub order-sums : (node : Node) (one two : Sum) → first_sum node ≡ Some one → second_sum node ≡ Some two → sum_number one < sum_number two
order-sums node one two first second =
    let differ = numbers-differ node in
    omega (arith, differ, ap (λ sum. option_map_or sum_number sum 0) first, ap (λ sum. option_map_or sum_number sum 3) second)

pub one-sum : (one two : Sum) → reader_of one ≡ reader_of two → sum_number one ≡ sum_number two → one ≡ two
one-sum one two reader number = by (own-sum one) (own-sum two)
  where
    by : (first_sum (reader_of one) ≡ Some one) ⊎ (second_sum (reader_of one) ≡ Some one)
        → (first_sum (reader_of two) ≡ Some two) ⊎ (second_sum (reader_of two) ≡ Some two) → one ≡ two
    by (inl e) (inl d) = same_Some one two (sym e ∙ ap first_sum reader ∙ d)
    by (inr e) (inr d) = same_Some one two (sym e ∙ ap second_sum reader ∙ d)
    by (inl e) (inr d) = absurd (omega (arith, number, order-sums (reader_of one) one two e (ap second_sum reader ∙ d)))
    by (inr e) (inl d) = absurd (omega (arith, number, order-sums (reader_of one) two one (ap first_sum reader ∙ d) e))

-- ---- what a sum lists

module _ (sheet : BalanceSheet) where
  -- the figures that a sum lists are those of rows of its table
  pub listed-number : (sum : Option Sum) (none : ℕ) (node : Node) → IsMember node (listed sheet sum) → table_number node ≡ option_map_or sum_number sum none
  listed-number None none node h = absurd h
  listed-number (Some sum) none node h =
      let m = IsMember-map (member_of sum) (names_listed sheet sum) node h in
      ap table_number (sym m.2) ∙ member-number sum m.0

  module _ (sum : Sum) (node : Node) where
    abbrev both : List Node
    both = listed sheet (first_sum (reader_of sum)) ++ listed sheet (second_sum (reader_of sum))

    to-both : IsMember node (listed sheet (Some sum)) → IsMember node both
    to-both h = by (own-sum sum)
      where
        by : (first_sum (reader_of sum) ≡ Some sum) ⊎ (second_sum (reader_of sum) ≡ Some sum) → IsMember node both
        by (inl e) =
            IsMember-left (listed sheet (first_sum (reader_of sum))) (listed sheet (second_sum (reader_of sum))) node
            (subst (λ s. IsMember node (listed sheet s)) (sym e) h)
        by (inr e) =
            IsMember-right (listed sheet (first_sum (reader_of sum))) (listed sheet (second_sum (reader_of sum))) node
            (subst (λ s. IsMember node (listed sheet s)) (sym e) h)

    from-both : table_number node ≡ sum_number sum → IsMember node both → IsMember node (listed sheet (Some sum))
    from-both number h =
        by (own-sum sum) (IsMember-cases (listed sheet (first_sum (reader_of sum))) (listed sheet (second_sum (reader_of sum))) node h)
      where
        differ : option_map_or sum_number (first_sum (reader_of sum)) 0 < option_map_or sum_number (second_sum (reader_of sum)) 3
        differ = numbers-differ (reader_of sum)

        by : (first_sum (reader_of sum) ≡ Some sum) ⊎ (second_sum (reader_of sum) ≡ Some sum)
            → IsMember node (listed sheet (first_sum (reader_of sum))) ⊎ IsMember node (listed sheet (second_sum (reader_of sum)))
            → IsMember node (listed sheet (Some sum))
        by (inl e) (inl m) = subst (λ s. IsMember node (listed sheet s)) e m
        by (inr e) (inr m) = subst (λ s. IsMember node (listed sheet s)) e m
        by (inl e) (inr m) =
            absurd (omega (arith, differ, number, ap (λ s. option_map_or sum_number s 0) e, listed-number (second_sum (reader_of sum)) 3 node m))
        by (inr e) (inl m) =
            absurd (omega (arith, differ, number, ap (λ s. option_map_or sum_number s 3) e, listed-number (first_sum (reader_of sum)) 0 node m))

  module _ (valid : Valid sheet) (sum : Sum) (name : List ℕ) where
    are-listed : sources_of sheet (reader_of sum) ≡ both sum (member_of sum name)
    are-listed = sources-listed sheet (reader_of sum) (summed-reader sum)

    pub pair-of : reads sheet sum ≡ true → is_member (roll_of sum) name sheet ≡ true → IsPair sheet (reader_of sum) (member_of sum name)
    pair-of live member = (
      live,
      Contains-from_IsMember (sources_of sheet (reader_of sum)) (member_of sum name)
          (subst (IsMember (member_of sum name)) (sym are-listed)
          (to-both sum (member_of sum name)
          (IsMember-mapped (member_of sum) (names_listed sheet sum) name
          (named name (names_listed sheet sum) (listed-members sheet valid sum name ∙ member))))),
    )

    pub pair-is : IsPair sheet (reader_of sum) (member_of sum name) → (reads sheet sum ≡ true) × (is_member (roll_of sum) name sheet ≡ true)
    pair-is pair =
        let m = IsMember-map (member_of sum) (names_listed sheet sum) (member_of sum name)
        (from-both sum (member_of sum name) (member-number sum name)
        (subst (IsMember (member_of sum name)) are-listed
        (IsMember-from_Contains (sources_of sheet (reader_of sum)) (member_of sum name) pair.1))) in
        let own : m.0 ≡ name = members-apart sum m.0 name (ap points.Figure m.2) in
        (pair.0, sym (listed-members sheet valid sum name) ∙ is-named name (names_listed sheet sum) (subst (λ n. IsMember n (names_listed sheet sum)) own m.1))
