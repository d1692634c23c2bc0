-- The touched points by their numbers, and what is due to be linked there (this project's own).
use Rattle.std.specs.Prelude.{◌≡◌, ◌↔◌, ◌⊎◌, ◌++◌, ◌∷◌, ◌&&◌, ℕ, Bool, true, false, not, Contains, List, [], if◌then◌else◌}
use Rattle.std.specs.List.{AllByRecursion}
use Rattle.scr_links.specs.Edges.{Edge}
use Rattle.scr_reachability.specs.declared.ranks.Due.{Due}
use Rattle.scr_sheet.specs.declared.edit.Edit.{Edit}
use Rattle.scr_sheet.specs.declared.edit.Edit.TheVariants as edits
use Rattle.scr_sheet.specs.declared.keys.Table.TheVariants as tables
use Rattle.scr_nodes.specs.declared.node.Node.{Node}
use Rattle.scr_nodes.specs.declared.node.Node.TheVariants as nodes
use Rattle.scr_reachability.specs.LinkedDues.{IsLiveAt, numbers_of}
use Rattle.scr_reachability.specs.Graph.{Graph}
use Rattle.scr_reachability.specs.Linked.{sources_in}
use Rattle.scr_block_graph.specs.declared.point.Point.{Point}
use Rattle.scr_block_graph.specs.declared.point.Point.TheVariants as points
use Rattle.scr_tree.specs.Points.{is_linked}

-- ---- whose links a record may change

-- the record is of a fund
abbrev pub is_of_fund : Edit → Bool
is_of_fund (edits.Fund name components) = true
is_of_fund (edits.Remove tables.Fund name) = true
is_of_fund edit = false

-- Who holds a fund or a security, no record changes but that of a fund. One that comes or goes nobody holds.
abbrev pub keeps_links : Edit → Node → Bool
keeps_links edit (nodes.Fund name what) = not (is_of_fund edit)
keeps_links edit (nodes.Security name what) = not (is_of_fund edit)
keeps_links edit node = false

-- the touched figures whose links the record may change
abbrev pub relinked : Edit → List Point → List Node
relinked edit [] = []
relinked edit (points.Figure node ∷ rest) =
    if is_linked node && not (keeps_links edit node) then node ∷ relinked edit rest else relinked edit rest
relinked edit (points.Block block ∷ rest) = relinked edit rest

-- ---- numbers

-- the figure's number stands last, or it has none
abbrev pub IsNumberPushed : {Node : Type 0} → (Node → ℕ → Type 0) → Node → List ℕ → List ℕ → Type 0
IsNumberPushed At node old new =
    ((number : ℕ) × At node number × (new ≡ old ++ number ∷ []))
    ⊎ (((number : ℕ) → At node number → ⊥) × (new ≡ old))

-- nothing is pushed of a figure whose links the record leaves
abbrev pub IsPushedIf : (Node → ℕ → Type 0) → Edit → Node → List ℕ → List ℕ → Type 0
IsPushedIf At edit node old new =
    ((is_linked node && not (keeps_links edit node)) ≡ true → IsNumberPushed At node old new)
    × ((is_linked node && not (keeps_links edit node)) ≡ false → new ≡ old)

-- of a Block nothing is pushed, since it has no links
abbrev pub IsPointPushed : (Node → ℕ → Type 0) → Edit → Point → List ℕ → List ℕ → Type 0
IsPointPushed At edit (points.Figure node) old new = IsPushedIf At edit node old new
IsPointPushed At edit (points.Block block) old new = new ≡ old

-- the number of the point is marked, if the graph has the point, and what was
abbrev pub IsMarkedOf : {Node : Type 0} → Graph Node → (Node → ℕ → Type 0) → Node → List ℕ → List ℕ → Type 0
IsMarkedOf {Node} graph At node old new =
    (number : ℕ) → Contains new number ↔ (Contains old number ⊎ ((graph.live node ≡ true) × At node number))

-- the numbers of those of these points that the graph has are marked, and what was
abbrev pub AreMarked : {Node : Type 0} → Graph Node → (Node → ℕ → Type 0) → List Node → List ℕ → List ℕ → Type 0
AreMarked {Node} graph At touched old new =
    (number : ℕ) → Contains new number
    ↔ (Contains old number ⊎ ((node : Node) × Contains touched node × (graph.live node ≡ true) × At node number))

-- ---- what is due

-- a live figure stands at the number, or the due has no sources
abbrev pub IsLiveOrEmpty : {Node : Type 0} → Graph Node → (Node → ℕ → Type 0) → Due → Type 0
IsLiveOrEmpty graph At due = IsLiveAt graph At due.number ⊎ (due.sources.items ≡ [])

-- at each of the numbers what is linked to it
pub record AreFormer (list : List ℕ) (edges : List Edge) (dues : List Due) : Type 0 where
  pub numbers : numbers_of dues ≡ list
  pub each : AllByRecursion (λ (due : Due). due.sources.items ≡ sources_in edges due.number) dues
