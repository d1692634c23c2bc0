-- Where all figures are known each Block is the sum of those that it adds up.
use Rattle.std.proofs.Common.{◌≡◌, ℕ, ◌||◌, ◌<◌, Bool, true, false, List, [], ◌∷◌, Option, Some, None, length, map, slice_get, refl, sym, ap, ap₂, ◌∙◌}
use Rattle.std.specs.List.{list_any}
use Rattle.std.specs.Option.{option_map, option_map_or}
use Rattle.std.proofs.lemmas.Option.{slice_get_within}
use Rattle.scr_funds.proofs.Members.{Contains-from_IsMember, each-from_members}
use Rattle.scr_num.specs.Rounding.{Ends}
use Rattle.scr_num.specs.Sums.{sum_ends}
use Rattle.scr_factors.specs.Values.{FactorValues}
use Rattle.scr_sheet.specs.Validity.{Valid}
use Rattle.scr_book.specs.RolledSheets.{RolledSheet}
use Rattle.scr_reachability.specs.Linked.{AreAt}
use Rattle.scr_rules.specs.Close.{close_under}
use Rattle.scr_partial_sums.specs.Figures.{ends_at}
use Rattle.scr_partial_sums.specs.Written.{is_open_at}
use Rattle.scr_partial_sums.specs.declared.figure.Figure.{Figure}
use Rattle.scr_block_graph.specs.Books.{rolled_of}
use Rattle.scr_block_graph.specs.Graph.{AreRolls, is_live_in, sources_in}
use Rattle.scr_block_graph.specs.declared.point.Block.{Block}
use Rattle.scr_block_graph.specs.declared.point.Point.{Point}
use Rattle.scr_block_graph.specs.declared.point.Point.TheVariants as points
use Rattle.scr_block_graph.proofs.Lives.{sources-live-in}
use Rattle.scr_block_graph.proofs.Worth.{block-sources}
use Rattle.scr_tree.specs.Figures.{AreKnownOf, AreSettled, HasFigure, HaveFigures, Reckoning, Worth, worth_of}
use Rattle.scr_tree.specs.Points.{book_reckoning}
use Rattle.scr_tree.specs.Renewed.{IsSumAt}
use Rattle.scr_tree.specs.Together.{any_close}
use Rattle.scr_tree.proofs.AddedUp.{ends-one}
use Rattle.scr_tree.proofs.Known.{known-have}
use Rattle.scr_tree.proofs.SumWorth.{block-sum}

-- ---- figures that are there, at their numbers

module _ {Node : Type 0} (reckoning : Reckoning Node) (figures : List Figure) where
  figure-within : (number : ℕ) (node : Node) → HasFigure reckoning figures number node → number < length figures
  figure-within number node has = by (slice_get figures number) refl has
    where
      by : (found : Option Figure) → slice_get figures number ≡ found → option_map worth_of found ≡ Some (reckoning.worth node) → number < length figures
      by None e h = let clash : None ≡ Some (reckoning.worth node) = h in absurd (cc)
      by (Some figure) e h = slice_get_within figures number figure e

  close-one : (number : ℕ) (node : Node) → HasFigure reckoning figures number node → is_open_at figures number ≡ (reckoning.worth node).close
  close-one number node has = by (slice_get figures number) has
    where
      by : (found : Option Figure) → option_map worth_of found ≡ Some (reckoning.worth node)
          → option_map_or (λ (figure : Figure). figure.close) found false ≡ (reckoning.worth node).close
      by None h = let clash : None ≡ Some (reckoning.worth node) = h in absurd (cc)
      by (Some figure) h = ap (λ found. option_map_or (λ (w : Worth). w.close) found false) h

  ends-all : (numbers : List ℕ) (nodes : List Node) → HaveFigures reckoning figures numbers nodes
      → map (ends_at figures) numbers ≡ map (λ node. (reckoning.worth node).worked) nodes
  ends-all [] [] have = refl
  ends-all [] (m ∷ nodes) have = absurd have
  ends-all (n ∷ numbers) [] have = absurd have
  ends-all (n ∷ numbers) (m ∷ nodes) have =
      ap₂ (λ (e : Ends) (es : List Ends). e ∷ es) (ends-one reckoning figures n m have.0) (ends-all numbers nodes have.1)

  close-each : (numbers : List ℕ) (nodes : List Node) → HaveFigures reckoning figures numbers nodes
      → any_close figures numbers ≡ list_any (λ b. b) (map (λ node. (reckoning.worth node).close) nodes)
  close-each [] [] have = refl
  close-each [] (m ∷ nodes) have = absurd have
  close-each (n ∷ numbers) [] have = absurd have
  close-each (n ∷ numbers) (m ∷ nodes) have =
      ap₂ (λ (x : Bool) (y : Bool). x || y) (close-one n m have.0) (close-each numbers nodes have.1)

-- ---- Blocks

module _ (factors : FactorValues) (book : RolledSheet) (valid : Valid book.sheet) (rolls : AreRolls (rolled_of book))
    (At : Point → ℕ → Type 0) (figures : List Figure) (known : AreSettled (book_reckoning factors (rolled_of book)) At figures)
    (block : Block) (live : is_live_in (rolled_of book) (points.Block block) ≡ true) where
  abbrev own : Reckoning Point
  own = book_reckoning factors (rolled_of book)

  abbrev below : List Point
  below = sources_in (rolled_of book) (points.Block block)

  have-below : (numbers : List ℕ) → AreAt At numbers below → HaveFigures own figures numbers below
  have-below numbers at =
      known-have own At figures (λ node. Unit {0}) known numbers below at
      (each-from_members (λ node. (own.graph.live node ≡ true) × Unit {0}) below
      (λ source h. (sources-live-in (rolled_of book) valid rolls (points.Block block) source live (Contains-from_IsMember below source h), tt)))

  has-own : (number : ℕ) → At (points.Block block) number → HasFigure own figures number (points.Block block)
  unfolding AreKnownOf
  has-own number at = known (points.Block block) number at live tt

  pub sum-known : (number : ℕ) (numbers : List ℕ) → At (points.Block block) number → AreAt At numbers below → IsSumAt figures numbers number
  sum-known number numbers at ats = record {
    there = figure-within own figures number (points.Block block) (has-own number at);
    span = ends-one own figures number (points.Block block) (has-own number at)
        ∙ sym (block-sum factors book valid rolls block)
        ∙ ap sum_ends (sym (ends-all own figures numbers below (have-below numbers ats)));
    close = close-one own figures number (points.Block block) (has-own number at)
        ∙ block-sources (list_any (λ b. b)) (close_under factors book.sheet) (rolled_of book) block.sum block.level block.index
        ∙ sym (close-each own figures numbers below (have-below numbers ats));
  }
