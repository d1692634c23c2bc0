-- A Block of the first level, from the figures of its members.
use Rattle.std.proofs.Common.{◌≡◌, ℕ, zero, suc, ◌+◌, ◌<◌, ◌^◌, ◌||◌, Bool, true, nat_eq, All, IfSome, List, [], ◌∷◌, Option, Some, None, get_or, length, map, pos, slice_get, refl, sym, ap, ap₂, subst, ◌∙◌, arith}
use Rattle.std.specs.List.{IsDistinct}
use Rattle.std.specs.Option.{option_map, option_map_or}
use Rattle.scr_num.specs.Rounding.{Ends, ends, exact_ends}
use Rattle.scr_num.specs.Sizes.{AreTogether}
use Rattle.scr_num.specs.Sums.{sum_ends}
use Rattle.scr_num.specs.declared.span.Span.{Span}
use Rattle.scr_sum_tree.specs.Blocks.{part}
use Rattle.scr_sum_tree.proofs.Regrouped.{map-map}
use Rattle.scr_nodes.proofs.SingleSources.{sources-once as plain-once}
use Rattle.scr_sum_tree.specs.declared.blocks.Level.TheVariants as levels
use Rattle.scr_factors.specs.Values.{IsInForm}
use Rattle.scr_figure_ids.specs.Families.{family_of}
use Rattle.scr_member_index.specs.Lists.{first_of}
use Rattle.scr_sheet.specs.Members.{table_of}
use Rattle.scr_reachability.specs.Linked.{AreAt}
use Rattle.scr_partial_sums.specs.Figures.{ends_at, members_ends}
use Rattle.scr_partial_sums.specs.Written.{any_open, is_open_at}
use Rattle.scr_partial_sums.specs.declared.figure.Figure.{Figure}
use Rattle.scr_block_graph.specs.Books.{rolled_of}
use Rattle.scr_block_graph.specs.Graph.{is_live_in, roll_in, sources_in}
use Rattle.scr_block_graph.specs.Sums.{member_of, roll_of}
use Rattle.scr_block_graph.proofs.Once.{sources-once}
use Rattle.scr_block_graph.specs.declared.point.Block.{Block}
use Rattle.scr_block_graph.specs.declared.point.Point.{Point}
use Rattle.scr_block_graph.specs.declared.point.Point.TheVariants as points
use Rattle.scr_tree.specs.Figures.{HasFigure, HaveFigures, Reckoning, Worth, worth_of}
use Rattle.scr_tree.specs.Ready.{IsBasis, IsReadyOn, StandsOn, graph_on, reckoning_on}
use Rattle.scr_tree.specs.Renewed.{IsSumOf}
use Rattle.scr_tree.specs.Together.{any_close}
use Rattle.scr_tree.specs.declared.basis.Basis.{Basis}
use Rattle.scr_tree.proofs.Here.{have-here, pushed-here, within-here}
use Rattle.scr_tree.proofs.PointSources.{below-live, first-sources, members-pushed}
use Rattle.scr_tree.proofs.Spanned.{close-all, distinct-numbers, point-right}
use Rattle.scr_tree.proofs.SumWorth.{block-small, block-sum}
use Rattle.scr_tree.proofs.Upright.{rolls-are}

map-at : (family : ℕ) (list : List ℕ) (i d : ℕ) → i < length list → get_or (map (λ n. n + family) list) i (d + family) ≡ get_or list i d + family
map-at family [] i d low = absurd (omega (arith, low))
map-at family (x ∷ list) zero d low = refl
map-at family (x ∷ list) (suc i) d low = map-at family list i d (omega (arith, low))

length-shifted : (family : ℕ) (list : List ℕ) → length (map (λ n. n + family) list) ≡ length list
length-shifted family [] = refl
length-shifted family (x ∷ list) = ap suc (length-shifted family list)

pub each-shifted : (family many : ℕ) (list : List ℕ) → All (λ n. n < many) (map (λ n. n + family) list) → All (λ n. n + family < many) list
each-shifted family many list all = λ i d low.
    subst (λ n. n < many) (map-at family list i d low) (all i (d + family) (subst (λ n. i < n) (sym (length-shifted family list)) low))

-- what rests on an open choice of the figures of members, by their numbers
pub open-shifted : (figures : List Figure) (family : ℕ) (list : List ℕ) → any_open figures family list ≡ any_close figures (map (λ n. n + family) list)
open-shifted figures family [] = refl
open-shifted figures family (x ∷ list) = ap (λ b. is_open_at figures (x + family) || b) (open-shifted figures family list)

-- the ends of figures that are those of points
pub ends-one : {Node : Type 0} (reckoning : Reckoning Node) (figures : List Figure) (number : ℕ) (node : Node) → HasFigure reckoning figures number node
    → ends_at figures number ≡ (reckoning.worth node).worked
ends-one {Node} reckoning figures number node has = by (slice_get figures number) has
  where
    by : (found : Option Figure) → option_map worth_of found ≡ Some (reckoning.worth node)
        → option_map_or (λ (figure : Figure). ends figure.span) found (exact_ends (pos 0)) ≡ (reckoning.worth node).worked
    by None has = let clash : None ≡ Some (reckoning.worth node) = has in absurd (cc)
    by (Some figure) has = let same : worth_of figure ≡ reckoning.worth node = cc in ap (λ (w : Worth). w.worked) same

pub ends-have : {Node : Type 0} (reckoning : Reckoning Node) (figures : List Figure) (family : ℕ) (own : List ℕ) (nodes : List Node)
    → HaveFigures reckoning figures (map (λ n. n + family) own) nodes
    → members_ends figures family own ≡ map (λ node. (reckoning.worth node).worked) nodes
ends-have reckoning figures family [] [] have = refl
ends-have reckoning figures family [] (m ∷ nodes) have = absurd have
ends-have reckoning figures family (n ∷ own) [] have = absurd have
ends-have reckoning figures family (n ∷ own) (m ∷ nodes) have =
    ap₂ (λ (e : Ends) (es : List Ends). e ∷ es) (ends-one reckoning figures (n + family) m have.0) (ends-have reckoning figures family own nodes have.1)

module _ (b : Basis) (is : IsBasis b) (block : Block) (live : is_live_in (rolled_of b.inputs.book.now) (points.Block block) ≡ true)
    (first : block.level ≡ levels.First) (family : ℕ) (own_family : (name : List ℕ) → family ≡ family_of (member_of block.sum name)) (own : List ℕ)
    (owns : own ≡ map (first_of b.inputs.book.now.sheet b.places.now (table_of (roll_of block.sum)))
    (part block.index (roll_in (rolled_of b.inputs.book.now) block.sum))) where
  abbrev below : List Point
  below = sources_in (rolled_of b.inputs.book.now) (points.Block block)

  pub at-members : AreAt (StandsOn b) (map (λ n. n + family) own) (sources_in (rolled_of b.inputs.book.now) (points.Block block))
  at-members =
      pushed-here b is (graph_on b) refl (points.Block block) [] (map (λ n. n + family) own) refl
      (members-pushed b.inputs.book.now b.places.now b.lists.now is.graph.numbers_of is.valid block.sum family own_family
      (part block.index (roll_in (rolled_of b.inputs.book.now) block.sum)) below
      (first-sources b.inputs.book.now b.places.now b.lists.now is.graph.numbers_of is.valid block live first)
      (below-live b.inputs.book.now b.places.now b.lists.now is.graph.numbers_of is.valid block live) own [] (map (λ n. n + family) own) owns refl)

  pub numbers-once : IsDistinct nat_eq (map (λ n. n + family) own)
  numbers-once =
      distinct-numbers b is (map (λ n. n + family) own) below at-members
      (sources-once (rolled_of b.inputs.book.now) (rolls-are b.inputs.book.now is.graph.numbers_of.rolls)
      (λ node. plain-once b.inputs.book.now.sheet is.valid node) (points.Block block))

  module _ (figures : List Figure) (number : ℕ) (ready : IsReadyOn b figures number) (stands : StandsOn b (points.Block block) number) where
    pub have : HaveFigures (reckoning_on b) figures (map (λ n. n + family) own) (sources_in (rolled_of b.inputs.book.now) (points.Block block))
    have = have-here b is figures number ready (points.Block block) stands (map (λ n. n + family) own) at-members

    pub added-within : All (λ n. n + family < length figures) own
    added-within = each-shifted family (length figures) own
        (within-here b is figures number ready (points.Block block) stands (map (λ n. n + family) own) at-members)

    same : members_ends figures family own ≡ map (λ p. ((reckoning_on b).worth p).worked) below
    same = ends-have (reckoning_on b) figures family own below have

    pub added-together : IsInForm b.inputs.factors.now → AreTogether (2 ^ 124) (members_ends figures family own)
    added-together form =
        subst (AreTogether (2 ^ 124)) (sym same)
        (block-small b.inputs.factors.now b.inputs.book.now is.valid (rolls-are b.inputs.book.now is.graph.numbers_of.rolls) form block live)

    pub added-right : (span : Span) (close : Bool) → ends span ≡ sum_ends (members_ends figures family own)
        → close ≡ any_open figures family own
        → worth_of (record { span = span; close = close }) ≡ (reckoning_on b).worth (points.Block block)
    added-right span close sum any =
        point-right b is (points.Block block) span close (any_close figures (map (λ n. n + family) own))
        (sum ∙ ap sum_ends same
        ∙ block-sum b.inputs.factors.now b.inputs.book.now is.valid (rolls-are b.inputs.book.now is.graph.numbers_of.rolls) block)
        (close-all b is figures (map (λ n. n + family) own) below have) (any ∙ open-shifted figures family own)

    pub numbers-within : All (λ n. n < length figures) (map (λ n. n + family) own)
    numbers-within = within-here b is figures number ready (points.Block block) stands (map (λ n. n + family) own) at-members

    -- the same of a figure that is known to be their sum
    pub renewed-right : (figure : Figure) → IsSumOf figures (map (λ n. n + family) own) figure
        → worth_of figure ≡ (reckoning_on b).worth (points.Block block)
    renewed-right figure sum =
        added-right figure.span figure.close (sum.span ∙ ap sum_ends (map-map (ends_at figures) (λ n. n + family) own))
        (sum.close ∙ sym (open-shifted figures family own))

-- one that is renewed is right
pub renewed-if : (result : Option Figure) (P : Figure → Type 0) (worth : Worth) → IfSome result P
    → ((figure : Figure) → P figure → worth_of figure ≡ worth) → IfSome result (λ figure. worth_of figure ≡ worth)
renewed-if None P worth is right = tt
renewed-if (Some figure) P worth is right = right figure is
