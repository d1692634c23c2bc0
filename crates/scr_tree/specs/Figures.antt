-- Figures at the numbers of their nodes, and when they are those of a balance sheet (this project's own).
use Rattle.std.specs.Prelude.{◌≡◌, ℕ, Bool, true, false, List, Some, pos, map, slice_get}
use Rattle.std.specs.List.{AllZip, list_any}
use Rattle.std.specs.Option.{option_map}
use Rattle.scr_num.specs.Rounding.{Ends, ends, exact_ends}
use Rattle.scr_factors.specs.Values.{FactorValues}
use Rattle.scr_sheet.specs.declared.sheet.BalanceSheet.{BalanceSheet}
use Rattle.scr_nodes.specs.declared.node.Node.{Node}
use Rattle.scr_nodes.specs.declared.node.Node.TheVariants as nodes
use Rattle.scr_nodes.specs.declared.node.OfCurrency.TheVariants as of_currencies
use Rattle.scr_nodes.specs.declared.node.Whole.TheVariants as wholes
use Rattle.scr_rules.specs.Close.{close_under, is_open}
use Rattle.scr_rules.specs.Worked.{worked}
use Rattle.scr_reachability.specs.Graph.{Graph}
use Rattle.scr_tree.specs.Graphs.{graph_of}
use Rattle.scr_tree.specs.declared.figures.Below.{Below}
use Rattle.scr_partial_sums.specs.declared.figure.Figure.{Figure}

-- what a figure comes to, and whether it rests on an open choice
pub record Worth : Type 0 where
  pub worked : Ends
  pub close : Bool

-- The ends of a kept figure, and whether it rests on an open choice (own).
abbrev pub worth_of : Figure → Worth
worth_of figure = record { worked = ends figure.span; close = figure.close }

-- the same of a node, as worked out
abbrev pub worth_at : FactorValues → BalanceSheet → Node → Worth
worth_at factors sheet node = record { worked = worked factors sheet node; close = close_under factors sheet node }

-- a graph whose figures come to something
pub record Reckoning (Node : Type 0) : Type 0 where
  pub graph : Graph Node
  pub worth : Node → Worth

-- that of a balance sheet, by the factors
abbrev pub reckoning_of : FactorValues → BalanceSheet → Reckoning Node
reckoning_of factors sheet = record { graph = graph_of sheet; worth = worth_at factors sheet }

-- so many cents, which rest on no choice
abbrev pub total_worth : ℕ → Worth
total_worth cents = record { worked = exact_ends (pos cents); close = false }

-- these ends are the mask of a choice that is open
abbrev pub opens : Node → Ends → Bool
opens (nodes.Whole (wholes.Choice which)) mask = is_open mask
opens (nodes.Currency currency of_currencies.Choice) mask = is_open mask
opens (nodes.Whole wholes.DefaultBand) mask = is_open mask
opens node mask = false

-- ---- figures by number

-- the node's figure is at the number
abbrev pub HasFigure : {Node : Type 0} → Reckoning Node → List Figure → ℕ → Node → Type 0
HasFigure reckoning figures number node = option_map worth_of (slice_get figures number) ≡ Some (reckoning.worth node)

-- those of these nodes are at these numbers, in their order
abbrev pub HaveFigures : {Node : Type 0} → Reckoning Node → List Figure → List ℕ → List Node → Type 0
HaveFigures reckoning figures numbers nodes = AllZip (HasFigure reckoning figures) numbers nodes

-- those of all nodes of this kind are there that the graph has
unfoldable pub AreKnownOf : {Node : Type 0} → Reckoning Node → (Node → ℕ → Type 0) → List Figure → (Node → Type 0) → Type 0
AreKnownOf {Node} reckoning At figures P =
    (node : Node) (number : ℕ) → At node number → reckoning.graph.live node ≡ true → P node
    → HasFigure reckoning figures number node

-- those of all
abbrev pub AreSettled : {Node : Type 0} → Reckoning Node → (Node → ℕ → Type 0) → List Figure → Type 0
AreSettled reckoning At figures = AreKnownOf reckoning At figures (λ node. Unit {0})

-- a figure is written at the node's number that is the node's, and all others stay
pub record IsPutRight {Node : Type 0} (reckoning : Reckoning Node) (At : Node → ℕ → Type 0) (old now : List Figure)
    (node : Node) (number : ℕ) : Type 0 where
  pub at : At node number
  pub there : HasFigure reckoning now number node
  pub others : (other : ℕ) → (other ≡ number → ⊥) → slice_get now other ≡ slice_get old other

-- ---- what a figure is reckoned from

-- these are read at these numbers, in their order: their spans, and whether one of them rests on an open choice
pub record AreReadAt (figures : List Figure) (numbers : List ℕ) (below : Below) : Type 0 where
  pub read : List Figure
  pub at : AllZip (λ number figure. slice_get figures number ≡ Some figure) numbers read
  pub spans : below.spans.items ≡ map (λ (figure : Figure). figure.span) read
  pub close : below.close ≡ list_any (λ (figure : Figure). figure.close) read

-- these are the spans of the figures of these nodes, and one of them rests on an open choice or none
pub record AreSpansOf {Node : Type 0} (reckoning : Reckoning Node) (nodes : List Node) (below : Below) : Type 0 where
  pub spans : map ends below.spans.items ≡ map (λ node. (reckoning.worth node).worked) nodes
  pub close : below.close ≡ list_any (λ b. b) (map (λ node. (reckoning.worth node).close) nodes)
