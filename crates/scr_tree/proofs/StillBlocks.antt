-- Where all squares come to nothing each Block of the first level over them does.
use Rattle.std.proofs.Common.{◌≡◌, ◌||◌, ℕ, ◌+◌, Bool, true, false, List, [], ◌∷◌, map, pos, Option, Some, None, slice_get, refl, sym, ap, ap₂, subst, ◌∙◌, arith}
use Rattle.std.specs.Option.{option_map, option_map_or}
use Rattle.scr_num.specs.Rounding.{add_ends, exact_ends}
use Rattle.scr_num.specs.Sums.{sum_ends}
use Rattle.scr_sum_tree.specs.Blocks.{part}
use Rattle.scr_sum_tree.specs.declared.blocks.Level.TheVariants as levels
use Rattle.scr_figure_ids.specs.Families.{family_of}
use Rattle.scr_member_index.specs.Lists.{first_of}
use Rattle.scr_sheet.specs.Members.{table_of}
use Rattle.scr_nodes.specs.declared.node.Node.TheVariants as nodes
use Rattle.scr_nodes.specs.declared.node.OfGroup.TheVariants as of_groups
use Rattle.scr_reachability.specs.Linked.{AreAt}
use Rattle.scr_partial_sums.specs.Figures.{members_ends}
use Rattle.scr_partial_sums.specs.Tables.{nothing}
use Rattle.scr_partial_sums.specs.Written.{any_open, is_open_at}
use Rattle.scr_partial_sums.specs.declared.figure.Figure.{Figure}
use Rattle.scr_block_graph.specs.Books.{rolled_of}
use Rattle.scr_block_graph.specs.Graph.{block_point, is_live_in, member_point, roll_in, sources_in}
use Rattle.scr_block_graph.specs.Sums.{member_of, roll_of}
use Rattle.scr_block_graph.specs.declared.point.Block.{Block}
use Rattle.scr_block_graph.specs.declared.point.Point.TheVariants as points
use Rattle.scr_block_graph.specs.declared.sum.Sum.TheVariants as sums
use Rattle.scr_tree.specs.Figures.{HaveFigures, Worth, worth_of}
use Rattle.scr_tree.specs.Ready.{IsBasis, IsReadyOn, IsRightOn, IsSquareOn, StandsOn, reckoning_on}
use Rattle.scr_tree.specs.Still.{AreNothingOn}
use Rattle.scr_tree.specs.declared.basis.Basis.{Basis}
use Rattle.scr_tree.proofs.AddedUp.{added-right, at-members, ends-one, have}
use Rattle.scr_tree.proofs.PointSources.{first-sources}
use Rattle.scr_tree.proofs.SquareBlocks.{figure-right, point-lives}
use Rattle.scr_tree.proofs.SquaresEntered.{rows}

mark-one : (figures : List Figure) (number : ℕ) → option_map worth_of (slice_get figures number) ≡ Some (worth_of nothing) → is_open_at figures number ≡ false
mark-one figures number has = by (slice_get figures number) has
  where
    by : (found : Option Figure) → option_map worth_of found ≡ Some (worth_of nothing) → option_map_or (λ (figure : Figure). figure.close) found false ≡ false
    by None has = let clash : None ≡ Some (worth_of nothing) = has in absurd (cc)
    by (Some figure) has = let same : worth_of figure ≡ worth_of nothing = cc in ap (λ (w : Worth). w.close) same

module _ (b : Basis) (is : IsBasis b) (none : AreNothingOn b) where
  square-of : (name : List ℕ) (number : ℕ) → StandsOn b (points.Figure (nodes.Group name of_groups.ConcentrationSquare)) number
      → (row : ℕ) × IsSquareOn b row number
  square-of name number s =
      let there = rows b.inputs.book.now b.places.now b.lists.now is.graph.numbers_of in
      let low = s.at.row in (s.k, (omega (arith, low, there), s.at.is))

  none-ends : (figures : List Figure) (family : ℕ) (own : List ℕ) (names : List (List ℕ))
      → AreAt (StandsOn b) (map (λ n. n + family) own) (map (member_point sums.Squares) names)
      → HaveFigures (reckoning_on b) figures (map (λ n. n + family) own) (map (member_point sums.Squares) names)
      → (sum_ends (members_ends figures family own) ≡ exact_ends (pos 0)) × (any_open figures family own ≡ false)
  none-ends figures family [] [] at have = (refl, refl)
  none-ends figures family [] (name ∷ names) at have = absurd at
  none-ends figures family (n ∷ own) [] at have = absurd at
  none-ends figures family (n ∷ own) (name ∷ names) at have =
      let rest = none-ends figures family own names at.1 have.1 in
      let square = square-of name (n + family) at.0 in
      let worth = none square.0 (n + family) square.1 (points.Figure (nodes.Group name of_groups.ConcentrationSquare)) at.0 in (
        ap₂ add_ends
            (ends-one (reckoning_on b) figures (n + family) (points.Figure (nodes.Group name of_groups.ConcentrationSquare)) have.0
            ∙ ap (λ (w : Worth). w.worked) (sym worth)) rest.0,
        ap₂ (λ (x : Bool) (y : Bool). x || y) (mark-one figures (n + family) (have.0 ∙ ap Some (sym worth))) rest.1,
      )

  module _ (index number : ℕ) (figures : List Figure) (ready : IsReadyOn b figures number)
      (stands : StandsOn b (block_point sums.Squares levels.First index) number) where
    abbrev block : Block
    block = record { sum = sums.Squares; level = levels.First; index = index }

    abbrev names : List (List ℕ)
    names = part index (roll_in (rolled_of b.inputs.book.now) sums.Squares)

    abbrev own : List ℕ
    own = map (first_of b.inputs.book.now.sheet b.places.now (table_of (roll_of sums.Squares))) names

    live : is_live_in (rolled_of b.inputs.book.now) (points.Block block) ≡ true
    live = point-lives b is figures number ready (block_point sums.Squares levels.First index) stands

    below-is : map (member_point sums.Squares) names ≡ sources_in (rolled_of b.inputs.book.now) (points.Block block)
    below-is = first-sources b.inputs.book.now b.places.now b.lists.now is.graph.numbers_of is.valid block live refl

    both : (sum_ends (members_ends figures (family_of (member_of sums.Squares [])) own) ≡ exact_ends (pos 0))
        × (any_open figures (family_of (member_of sums.Squares [])) own ≡ false)
    both = none-ends figures (family_of (member_of sums.Squares [])) own names
        (subst (AreAt (StandsOn b) (map (λ n. n + family_of (member_of sums.Squares [])) own)) (sym below-is)
        (at-members b is block live refl (family_of (member_of sums.Squares [])) (λ name. refl) own refl))
        (subst (HaveFigures (reckoning_on b) figures (map (λ n. n + family_of (member_of sums.Squares [])) own)) (sym below-is)
        (have b is block live refl (family_of (member_of sums.Squares [])) (λ name. refl) own refl figures number ready stands))

    pub block-still : IsRightOn b number nothing
    block-still =
        figure-right b is figures number ready (block_point sums.Squares levels.First index) stands nothing
        (added-right b is block live refl (family_of (member_of sums.Squares [])) (λ name. refl) own refl figures number ready stands nothing.span false
        (sym both.0) (sym both.1))
