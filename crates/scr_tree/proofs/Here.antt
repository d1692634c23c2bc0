-- The point that is found at a number, and the numbers of what it is reckoned from.
use Rattle.std.proofs.Common.{◌≡◌, ◌++◌, ◌<◌, ℕ, All, List, [], true, length, sym, ap, subst, ◌∙◌}
use Rattle.std.specs.List.{AllByRecursion}
use Rattle.scr_funds.proofs.Members.{All-from_members, at_member}
use Rattle.scr_sheet.specs.Validity.{Valid}
use Rattle.scr_reachability.specs.LinkedDues.{IsLiveAt}
use Rattle.scr_reachability.specs.Linked.{AreAt}
use Rattle.scr_partial_sums.specs.declared.figure.Figure.{Figure}
use Rattle.scr_block_graph.specs.Books.{rolled_of}
use Rattle.scr_block_graph.specs.Graph.{is_live_in, sources_in}
use Rattle.scr_nodes.specs.declared.node.Node.{Node}
use Rattle.scr_block_graph.specs.declared.point.Block.{Block}
use Rattle.scr_block_graph.specs.declared.point.Point.{Point}
use Rattle.scr_block_graph.specs.declared.point.Point.TheVariants as points
use Rattle.scr_tree.specs.Figures.{HaveFigures}
use Rattle.scr_tree.specs.Points.{AreNumbersOf, IsGraphOf, StandsIn, book_graph}
use Rattle.scr_tree.specs.Ready.{IsBasis, IsReadyOn, StandsOn, graph_on, numbers_on, reckoning_on}
use Rattle.scr_tree.specs.declared.basis.Basis.{Basis}
use Rattle.scr_tree.specs.declared.graph.Graph.{Graph}
use Rattle.scr_tree.specs.declared.graph.Numbers.{Numbers}
use Rattle.scr_tree.proofs.Turning.{ready-within}
use Rattle.scr_tree.proofs.Upright.{book-up}

-- ---- by the numbers of a basis

module _ (b : Basis) (is : IsBasis b) (n : Numbers) (same : n ≡ numbers_on b) where
  pub numbers-here : AreNumbersOf n.book.now n.places.now n.lists.now
  numbers-here = subst (λ (m : Numbers). AreNumbersOf m.book.now m.places.now m.lists.now) (sym same) is.graph.numbers_of

  pub stands-here : (point : Point) (number : ℕ) → StandsIn n.book.now n.places.now n.lists.now point number → StandsOn b point number
  stands-here point number there = subst (λ (m : Numbers). StandsIn m.book.now m.places.now m.lists.now point number) same there

  module _ (number : ℕ) (live : IsLiveAt (book_graph (rolled_of b.inputs.book.now)) (StandsOn b) number) where
    -- a point that lives is found
    pub found-here : ((point : Point) → StandsIn n.book.now n.places.now n.lists.now point number
        → is_live_in (rolled_of n.book.now) point ≡ true → ⊥) → ⊥
    found-here none =
        (subst (λ (m : Numbers). (point : Point) → StandsIn m.book.now m.places.now m.lists.now point number
        → is_live_in (rolled_of m.book.now) point ≡ true → ⊥) same none) live.0 live.1 live.2

    -- and what is found lives
    pub lives-here : (point : Point) → StandsIn n.book.now n.places.now n.lists.now point number
        → is_live_in (rolled_of b.inputs.book.now) point ≡ true
    lives-here point there =
        let one = is.graph.numbers_of.numbers.exact number point live.0 (stands-here point number there) live.1 in
        subst (λ p. is_live_in (rolled_of b.inputs.book.now) p ≡ true) (sym one) live.2

-- where no figure stands a Block does
pub block-there : (b : Basis) (number : ℕ) (point : Point) → StandsOn b point number → ((node : Node) → StandsOn b (points.Figure node) number → ⊥)
    → (block : Block) × StandsOn b (points.Block block) number
block-there b number (points.Figure node) at none = absurd (none node at)
block-there b number (points.Block block) at none = (block, at)

-- ---- by its graph

module _ (b : Basis) (is : IsBasis b) (g : Graph) (same : g ≡ graph_on b) where
  pub graph-here : IsGraphOf g.numbers.book.now g.numbers.places.now g.numbers.lists.now g.links.now.edges
  graph-here =
      subst (λ (h : Graph). IsGraphOf h.numbers.book.now h.numbers.places.now h.numbers.lists.now h.links.now.edges) (sym same) is.graph

  pub valid-here : Valid g.numbers.book.now.sheet
  valid-here = subst (λ (h : Graph). Valid h.numbers.book.now.sheet) (sym same) is.valid

  pub at-graph : (point : Point) (number : ℕ) → StandsOn b point number
      → StandsIn g.numbers.book.now g.numbers.places.now g.numbers.lists.now point number
  at-graph point number at =
      subst (λ (h : Graph). StandsIn h.numbers.book.now h.numbers.places.now h.numbers.lists.now point number) (sym same) at

  pub live-graph : (point : Point) → is_live_in (rolled_of b.inputs.book.now) point ≡ true
      → is_live_in (rolled_of g.numbers.book.now) point ≡ true
  live-graph point live = subst (λ (h : Graph). is_live_in (rolled_of h.numbers.book.now) point ≡ true) (sym same) live

  -- what was pushed onto nothing
  pub pushed-here : (point : Point) (before list : List ℕ) → before ≡ []
      → (more : List ℕ) × (list ≡ before ++ more)
      × AreAt (StandsIn g.numbers.book.now g.numbers.places.now g.numbers.lists.now) more (sources_in (rolled_of g.numbers.book.now) point)
      → AreAt (StandsOn b) list (sources_in (rolled_of b.inputs.book.now) point)
  pushed-here point before list none pushed =
      subst (λ xs. AreAt (StandsOn b) xs (sources_in (rolled_of b.inputs.book.now) point)) (sym (pushed.1 ∙ ap (λ xs. xs ++ pushed.0) none))
      (subst (λ (h : Graph). AreAt (StandsIn h.numbers.book.now h.numbers.places.now h.numbers.lists.now) pushed.0
      (sources_in (rolled_of h.numbers.book.now) point)) same pushed.2)

-- ---- a point that is ready

module _ (b : Basis) (is : IsBasis b) (figures : List Figure) (number : ℕ) (ready : IsReadyOn b figures number)
    (point : Point) (at : StandsOn b point number) (list : List ℕ)
    (there : AreAt (StandsOn b) list (sources_in (rolled_of b.inputs.book.now) point)) where
  own : point ≡ ready.node
  own = is.graph.numbers_of.numbers.exact number point ready.node at ready.at

  -- the figures of its sources are known
  pub have-here : HaveFigures (reckoning_on b) figures list (sources_in (rolled_of b.inputs.book.now) point)
  have-here =
      subst (λ p. HaveFigures (reckoning_on b) figures list (sources_in (rolled_of b.inputs.book.now) p)) (sym own)
      (ready.sources list (subst (λ p. AreAt (StandsOn b) list (sources_in (rolled_of b.inputs.book.now) p)) own there))

  -- and there
  pub within-here : All (λ source. source < length figures) list
  within-here =
      let each : AllByRecursion (λ source. source < length figures) list =
      ready-within (reckoning_on b) (StandsOn b) b.places.now.size (book-up b is) figures number ready list
      (λ node node_at. subst (λ p. AreAt (StandsOn b) list (sources_in (rolled_of b.inputs.book.now) p))
      (is.graph.numbers_of.numbers.exact number point node at node_at) there) in
      All-from_members (λ source. source < length figures) list (λ n m. at_member (λ source. source < length figures) list n each m)
