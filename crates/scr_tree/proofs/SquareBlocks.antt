-- The Blocks of the first level over the squares of all groups, by their numbers.
use Rattle.std.proofs.Common.{◌≡◌, ◌+◌, ◌-◌, ◌<◌, ◌≤◌, ℕ, true, List, length, Some, slice_get, sym, ap, subst, ◌∙◌, arith}
use Rattle.scr_sum_tree.specs.Blocks.{blocks_at}
use Rattle.scr_sum_tree.specs.declared.blocks.Level.TheVariants as levels
use Rattle.scr_sheet.specs.Validity.{Valid}
use Rattle.scr_partial_sums.specs.Written.{AreNumbered, number_of}
use Rattle.scr_partial_sums.specs.declared.figure.Figure.{Figure}
use Rattle.scr_partial_sums.specs.declared.writing.Subtotals.{Subtotals}
use Rattle.scr_block_graph.specs.Books.{rolled_of}
use Rattle.scr_block_graph.specs.Graph.{block_point, is_live_in}
use Rattle.scr_block_graph.specs.declared.point.Point.{Point}
use Rattle.scr_block_graph.specs.declared.sum.Sum.TheVariants as sums
use Rattle.scr_tree.specs.Figures.{worth_of}
use Rattle.scr_tree.specs.Points.{StandsIn}
use Rattle.scr_tree.specs.Ready.{IsBasis, IsReadyOn, IsRightOn, StandsOn, numbers_on, reckoning_on}
use Rattle.scr_tree.specs.SquareRun.{IsBlockAtOn, IsBlockRunOn}
use Rattle.scr_tree.specs.Summed.{AreOwnBlocks, count_on, firsts_on}
use Rattle.scr_tree.specs.declared.basis.Basis.{Basis}
use Rattle.scr_tree.specs.declared.graph.Numbers.{Numbers}
use Rattle.scr_tree.proofs.Here.{numbers-here, stands-here}
use Rattle.scr_tree.proofs.PointSources.{blocks-few}
use Rattle.scr_tree.proofs.SumNumbers.{as-many}

-- ---- a point at a number whose figure can be reckoned

module _ (b : Basis) (is : IsBasis b) (figures : List Figure) (number : ℕ) (ready : IsReadyOn b figures number)
    (point : Point) (at : StandsOn b point number) where
  pub point-lives : is_live_in (rolled_of b.inputs.book.now) point ≡ true
  point-lives =
      subst (λ p. is_live_in (rolled_of b.inputs.book.now) p ≡ true)
      (sym (is.graph.numbers_of.numbers.exact number point ready.node at ready.at)) ready.live

  pub figure-right : (figure : Figure) → worth_of figure ≡ (reckoning_on b).worth point → IsRightOn b number figure
  figure-right figure own = λ other there. own ∙ ap (reckoning_on b).worth (is.graph.numbers_of.numbers.exact number point other at there)

-- ---- over the squares

module _ (b : Basis) (is : IsBasis b) (n : Numbers) (same : n ≡ numbers_on b) where
  pub valid-numbers : Valid n.book.now.sheet
  valid-numbers = subst (λ (m : Numbers). Valid m.book.now.sheet) (sym same) is.valid

  -- of a list without Blocks none comes
  pub none-over : blocks_at (count_on n sums.Squares) levels.First ≡ 0 → (index : ℕ) (numbers : List ℕ) (place : ℕ)
      → IsBlockAtOn b index numbers place → ⊥
  none-over none index numbers place on =
      let low = on.0 in
      let no_block = subst (λ (m : Numbers). blocks_at (count_on m sums.Squares) levels.First ≡ 0) same none in
      omega (arith, low, no_block)

  module _ (members : List ℕ) (all : members ≡ firsts_on n sums.Squares) where
    many : length members ≡ count_on n sums.Squares
    many = ap length all ∙ as-many n (numbers-here b is n same) valid-numbers sums.Squares

    many-on : length members ≡ count_on (numbers_on b) sums.Squares
    many-on = many ∙ ap (λ (m : Numbers). count_on m sums.Squares) same

    pub squares-numbered : (blocks : Subtotals) → AreOwnBlocks n sums.Squares blocks → AreNumbered blocks (length members)
    squares-numbered blocks own = subst (AreNumbered blocks) (sym many) own.numbered

    pub squares-few : blocks_at (length members) levels.First ≤ 20000
    squares-few =
        subst (λ m. blocks_at m levels.First ≤ 20000) (sym many)
        (blocks-few n.book.now n.places.now n.lists.now (numbers-here b is n same) valid-numbers sums.Squares levels.First)

    pub block-own : (blocks : Subtotals) → AreOwnBlocks n sums.Squares blocks → (index number : ℕ)
        → index < blocks_at (length members) levels.First → number ≡ number_of blocks levels.First index
        → StandsOn b (block_point sums.Squares levels.First index) number
    block-own blocks own index number low number_is =
        stands-here b is n same (block_point sums.Squares levels.First index) number
        (subst (StandsIn n.book.now n.places.now n.lists.now (block_point sums.Squares levels.First index)) (sym number_is)
        (own.at levels.First index (subst (λ m. index < blocks_at m levels.First) many low)))

    pub block-comes : (blocks : Subtotals) → AreOwnBlocks n sums.Squares blocks → (index number : ℕ)
        → index < blocks_at (length members) levels.First → number ≡ number_of blocks levels.First index
        → (numbers : List ℕ) (place : ℕ) → slice_get numbers place ≡ Some number → IsBlockAtOn b index numbers place
    block-comes blocks own index number low number_is numbers place at =
        (subst (λ m. index < blocks_at m levels.First) many-on low, number, block-own blocks own index number low number_is, at)

    pub block-not : (blocks : Subtotals) → AreOwnBlocks n sums.Squares blocks → (index number : ℕ)
        → index < blocks_at (length members) levels.First → number ≡ number_of blocks levels.First index
        → (numbers : List ℕ) (place : ℕ) → (slice_get numbers place ≡ Some number → ⊥) → IsBlockAtOn b index numbers place → ⊥
    block-not blocks own index number low number_is numbers place not on =
        not (on.3 ∙ ap Some (is.graph.numbers_of.numbers.only (block_point sums.Squares levels.First index) on.1 number on.2
        (block-own blocks own index number low number_is)))

    pub past-blocks : (index : ℕ) → blocks_at (length members) levels.First ≤ index → (numbers : List ℕ) (place : ℕ)
        → IsBlockAtOn b index numbers place → ⊥
    past-blocks index high numbers place on =
        let low = on.0 in
        let past = subst (λ m. blocks_at m levels.First ≤ index) many-on high in
        omega (arith, low, past)

-- so many Blocks came, and the next does not
pub blocks-over : (b : Basis) (numbers : List ℕ) (start end index : ℕ) → end ≡ start + index
    → ((other : ℕ) → other < index → IsBlockAtOn b other numbers (start + other)) → (IsBlockAtOn b index numbers end → ⊥)
    → IsBlockRunOn b numbers start end
blocks-over b numbers start end index far each not = record {
  on = omega (arith, far);
  each = λ other low. each other (omega (arith, low, far));
  last = λ on. let same : end - start ≡ index = omega (arith, far) in not (subst (λ r. IsBlockAtOn b r numbers end) same on);
}
