-- How a place in lists that follow one another is found (this project's own).
use Rattle.std.specs.Prelude.{◌≡◌, ℕ, ◌+◌, List, Some, length, slice_get}
use Rattle.scr_nodes.specs.declared.node.Node.{Node}
use Rattle.scr_nodes.specs.declared.nth.Nth.{Nth}
use Rattle.scr_nodes.specs.declared.nth.Nth.TheVariants as nths

-- the node at the place, or how far past the list's end the place lies
abbrev pub IsNth : List Node → ℕ → Nth → Type 0
IsNth list place (nths.There node) = slice_get list place ≡ Some node
IsNth list place (nths.Past left) = place ≡ length list + left
