-- A figure that is reckoned from sums changes exactly where what is left at the top of one of them does.
use Rattle.std.proofs.Common.{◌≡◌, ◌↔◌, ℕ, Bool, true, false, cond, eqb, not, List, [], ◌∷◌, ◌++◌, filter, length, map, refl, sym, ap, ap₂, ◌∙◌, inl, inr, arith}
use Rattle.std.specs.Prelude.{is_some}
use Rattle.std.specs.Option.{option_map_or}
use Rattle.std.proofs.lemmas.Bool.Decides.{nat_tests}
use Rattle.scr_factors.specs.Values.{FactorValues}
use Rattle.scr_funds.proofs.Members.{Contains-from_IsMember, IsMember}
use Rattle.scr_sum_tree.proofs.TopChanges.{length-tops}
use Rattle.scr_nodes.specs.Live.{is_live}
use Rattle.scr_nodes.specs.Own.Own.{Foreign}
use Rattle.scr_nodes.specs.declared.node.Measure.TheVariants as measures
use Rattle.scr_nodes.specs.declared.node.Node.{Node}
use Rattle.scr_nodes.specs.declared.node.Node.TheVariants as nodes
use Rattle.scr_nodes.specs.declared.node.OfCurrency.TheVariants as of_currencies
use Rattle.scr_nodes.specs.declared.node.OfGroup.TheVariants as of_groups
use Rattle.scr_nodes.specs.declared.node.Whole.TheVariants as wholes
use Rattle.scr_nodes.specs.Sources.{sources_of}
use Rattle.scr_block_graph.specs.Changed.{IsSameIn, own_in}
use Rattle.scr_block_graph.specs.Graph.{Rolled, block_point, member_point, roll_in, sources_in, tops_of}
use Rattle.scr_block_graph.specs.Sums.{first_sum, second_sum}
use Rattle.scr_block_graph.specs.declared.point.Point.{Point}
use Rattle.scr_block_graph.specs.declared.point.Point.TheVariants as points
use Rattle.scr_block_graph.specs.declared.sum.Sum.TheVariants as sums
use Rattle.scr_block_graph.proofs.Once.{numbers-differ, point_number, sum_number, tops-number}

-- ---- two lists one behind the other, told apart by a test

module _ {X : Type 0} (test : X → Bool) where
  filter-none : (ys : List X) → ((z : X) → IsMember z ys → test z ≡ false) → filter test ys ≡ []
  filter-none [] fail = refl
  filter-none (y ∷ ys) fail =
      ap (λ t. cond t (y ∷ filter test ys) (filter test ys)) (fail y (inl refl)) ∙ filter-none ys (λ z h. fail z (inr h))

  pub filter-front : (xs ys : List X) → ((z : X) → IsMember z xs → test z ≡ true) → ((z : X) → IsMember z ys → test z ≡ false)
      → filter test (xs ++ ys) ≡ xs
  filter-front [] ys pass fail = filter-none ys fail
  filter-front (x ∷ xs) ys pass fail =
      ap (λ t. cond t (x ∷ filter test (xs ++ ys)) (filter test (xs ++ ys))) (pass x (inl refl))
      ∙ ap (λ zs. x ∷ zs) (filter-front xs ys (λ z h. pass z (inr h)) fail)

  pub filter-back : (xs ys : List X) → ((z : X) → IsMember z xs → test z ≡ false) → ((z : X) → IsMember z ys → test z ≡ true)
      → filter test (xs ++ ys) ≡ ys
  filter-back [] ys fail pass = all ys pass
    where
      all : (ys : List X) → ((z : X) → IsMember z ys → test z ≡ true) → filter test ys ≡ ys
      all [] pass = refl
      all (y ∷ ys) pass =
          ap (λ t. cond t (y ∷ filter test ys) (filter test ys)) (pass y (inl refl)) ∙ ap (λ zs. y ∷ zs) (all ys (λ z h. pass z (inr h)))
  filter-back (x ∷ xs) ys fail pass =
      ap (λ t. cond t (x ∷ filter test (xs ++ ys)) (filter test (xs ++ ys))) (fail x (inl refl))
      ∙ filter-back xs ys (λ z h. fail z (inr h)) pass

-- ---- what a figure reads of its own

module _ (factors : FactorValues) (before after : Rolled) where
  own-same : (node : Node) → is_some (first_sum node) ≡ true → tops_of before (first_sum node) ≡ tops_of after (first_sum node)
      → own_in factors before (points.Figure node) ≡ own_in factors after (points.Figure node)
  own-same (nodes.Group name of_groups.Total) summed same = refl
  own-same (nodes.Currency currency (of_currencies.Loss direction)) summed same = refl
  own-same (nodes.Currency currency (of_currencies.Scenario direction measures.Gross)) summed same =
      ap (Foreign direction) (
      sym (length-tops (member_point (sums.Assets currency)) (block_point (sums.Assets currency)) (roll_in before (sums.Assets currency)))
      ∙ ap length same
      ∙ length-tops (member_point (sums.Assets currency)) (block_point (sums.Assets currency)) (roll_in after (sums.Assets currency)))
  own-same (nodes.Whole (wholes.ClassSum class)) summed same = refl
  own-same (nodes.Whole wholes.Spread) summed same = refl
  own-same (nodes.Whole wholes.Assets) summed same = refl
  own-same (nodes.Whole wholes.Concentration) summed same = refl
  own-same (nodes.Whole (wholes.BioScenario biometric projection measures.Gross)) summed same = refl
  own-same node summed same = absurd (cc)

  module _ (node : Node) (summed : is_some (first_sum node) ≡ true) where
    are-tops : (book : Rolled) → sources_in book (points.Figure node) ≡ tops_of book (first_sum node) ++ tops_of book (second_sum node)
    are-tops book = ap (λ t. cond t (tops_of book (first_sum node) ++ tops_of book (second_sum node)) (map points.Figure (sources_of book.sheet node))) summed

    -- the points of the first sum bear its number, those of the second another
    first-number : ℕ
    first-number = option_map_or sum_number (first_sum node) 0

    is-first : Point → Bool
    is-first z = eqb (point_number z) first-number

    of-first : (book : Rolled) (z : Point) → IsMember z (tops_of book (first_sum node)) → is-first z ≡ true
    unfolding is-first first-number
    of-first book z h = let is = tops-number book (first_sum node) 0 z (Contains-from_IsMember (tops_of book (first_sum node)) z h) in
        grind (arith, nat_tests, is)

    of-second : (book : Rolled) (z : Point) → IsMember z (tops_of book (second_sum node)) → is-first z ≡ false
    unfolding is-first first-number
    of-second book z h = let is = tops-number book (second_sum node) 3 z (Contains-from_IsMember (tops_of book (second_sum node)) z h) in
        let differ = numbers-differ node in grind (arith, nat_tests, is, differ)

    both-same : sources_in before (points.Figure node) ≡ sources_in after (points.Figure node)
        → (tops_of before (first_sum node) ≡ tops_of after (first_sum node)) × (tops_of before (second_sum node) ≡ tops_of after (second_sum node))
    both-same same = (
      sym (filter-front is-first (tops_of before (first_sum node)) (tops_of before (second_sum node)) (of-first before) (of-second before))
          ∙ ap (filter is-first) one
          ∙ filter-front is-first (tops_of after (first_sum node)) (tops_of after (second_sum node)) (of-first after) (of-second after),
      sym (filter-back (λ z. not (is-first z)) (tops_of before (first_sum node)) (tops_of before (second_sum node))
          (λ z h. ap not (of-first before z h)) (λ z h. ap not (of-second before z h)))
          ∙ ap (filter (λ z. not (is-first z))) one
          ∙ filter-back (λ z. not (is-first z)) (tops_of after (first_sum node)) (tops_of after (second_sum node))
          (λ z h. ap not (of-first after z h)) (λ z h. ap not (of-second after z h)),
    )
      where
        one : tops_of before (first_sum node) ++ tops_of before (second_sum node) ≡ tops_of after (first_sum node) ++ tops_of after (second_sum node)
        one = sym (are-tops before) ∙ same ∙ are-tops after

    pub summed-same : is_live before.sheet node ≡ is_live after.sheet node → IsSameIn factors before after (points.Figure node)
        ↔ ((tops_of before (first_sum node) ≡ tops_of after (first_sum node)) × (tops_of before (second_sum node) ≡ tops_of after (second_sum node)))
    summed-same live = (
      λ same. both-same same.sources,
      λ tops. record {
        live = live;
        own = own-same node summed tops.0;
        sources = are-tops before ∙ ap₂ (λ one two. one ++ two) tops.0 tops.1 ∙ sym (are-tops after);
      },
    )
