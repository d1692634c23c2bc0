-- Which figures an exchanged group of counterparties touches (this project's own).
use Rattle.std.specs.Prelude.{ℕ, ◌&&◌, ◌||◌, ◌++◌, Bool, true, false, not, List, [], ◌∷◌, Option, Some, None, is_some, filter, map}
use Rattle.std.specs.Bool.{beq}
use Rattle.std.specs.Option.{option_map_or}
use Rattle.scr_tables.specs.Names.{same_name}
use Rattle.scr_profile.specs.DefaultClasses.{class_of_step}
use Rattle.scr_profile.specs.declared.default_class.DefaultClass.{DefaultClass}
use Rattle.scr_sheet.specs.BalanceSheet.{position_of}
use Rattle.scr_sheet.specs.declared.rows.Group.{Group}
use Rattle.scr_sheet.specs.declared.sheet.BalanceSheet.{BalanceSheet}
use Rattle.scr_nodes.specs.Live.{is_bond}
use Rattle.scr_nodes.specs.Rows.{is_of_group, is_of_default_class}
use Rattle.scr_nodes.specs.Sources.{security_spread}
use Rattle.scr_nodes.specs.declared.node.Node.{Node}
use Rattle.scr_nodes.specs.declared.node.Node.TheVariants as nodes
use Rattle.scr_nodes.specs.declared.node.OfSecurity.TheVariants as of_securities
use Rattle.scr_nodes.specs.declared.node.OfGroup.TheVariants as of_groups
use Rattle.scr_nodes.specs.declared.node.Whole.TheVariants as wholes
use Rattle.scr_row_change.specs.Comparisons.{is_kept, passes}
use Rattle.scr_row_change.specs.Readings.{is_same_kind, kind_of, same_step}
use Rattle.scr_touched.specs.Comparisons.{is_touched}

-- ---- what is read of a group, if there is one

-- a security of this name that is of the group
abbrev pub counts_in : BalanceSheet → List ℕ → List ℕ → Bool
counts_in sheet group name = option_map_or (is_of_group group) (position_of name sheet.securities) false

-- ---- families of figures of one group

-- it comes or goes
abbrev pub is_moved : Option Group → Option Group → Bool
is_moved old new = is_touched (is_some old) (is_some new) true true

-- Whether the concentration square of a group changes: the group comes or goes, or its kind or credit quality step changes
-- (own).
abbrev pub square_touched : Option Group → Option Group → Bool
square_touched old new =
    is_touched (is_some old) (is_some new) (is_same_kind (kind_of old) (kind_of new) && same_step old new) true

-- Whether the members of a class of default change: the group joins or leaves the class (own).
abbrev pub class_touched : Option Group → Option Group → DefaultClass → Bool
class_touched old new class = is_touched true true true (is_kept (is_of_default_class class) old new)

-- the step of a bond is that of its group
abbrev pub step_touched : BalanceSheet → List ℕ → Option Group → Option Group → List ℕ → Bool
step_touched sheet name old new security =
    let has = is_bond sheet security in
    is_touched has has (not (counts_in sheet name security) || same_step old new) true

-- ---- all families

-- the group of counterparties of this name becomes another, or comes or goes
abbrev pub group_touches : BalanceSheet → List ℕ → Option Group → Option Group → Node → Bool
group_touches sheet name old new (nodes.Security x of_securities.Spread) = step_touched sheet name old new x
group_touches sheet name old new (nodes.Group x of_groups.Total) = same_name x name && is_moved old new
group_touches sheet name old new (nodes.Group x of_groups.ConcentrationSquare) = same_name x name && square_touched old new
group_touches sheet name old new (nodes.Whole wholes.Concentration) = is_touched true true true (beq (is_some old) (is_some new))
group_touches sheet name old new (nodes.Group x of_groups.Loss) = same_name x name && is_moved old new
group_touches sheet name old new (nodes.Whole (wholes.ClassLoss class)) = class_touched old new class
group_touches sheet name old new (nodes.Whole (wholes.ClassSquare class)) = class_touched old new class
group_touches sheet name old new node = false

-- ---- what may be touched

-- the figures of the group itself, and the one over all groups
abbrev pub own_nodes : List ℕ → List Node
own_nodes name =
    nodes.Group name of_groups.Total ∷ nodes.Group name of_groups.ConcentrationSquare ∷ nodes.Group name of_groups.Loss ∷ nodes.Whole wholes.Concentration ∷ []

-- those of its class of probabilities of default
abbrev pub class_nodes : Option Group → List Node
class_nodes None = []
class_nodes (Some group) =
    nodes.Whole (wholes.ClassLoss (class_of_step group.step)) ∷ nodes.Whole (wholes.ClassSquare (class_of_step group.step)) ∷ []

-- those of its securities
abbrev pub spread_nodes : BalanceSheet → List ℕ → List Node
spread_nodes sheet name = map security_spread (filter (is_of_group name) sheet.securities)

-- The figures that a change of the group `name` may touch, with its class of default as in `old` (own).
abbrev pub group_nodes : List ℕ → Option Group → List Node
group_nodes name old = own_nodes name ++ class_nodes old

-- The figures that the new state of the group `name` may touch besides: its class of default, and the spreads of its securities
-- (own).
abbrev pub later_group_nodes : BalanceSheet → List ℕ → Option Group → List Node
later_group_nodes sheet name new = class_nodes new ++ spread_nodes sheet name

-- it is a figure of the class of the group
abbrev pub is_of_class_of : Option Group → Node → Bool
is_of_class_of row (nodes.Whole (wholes.ClassLoss class)) = passes (is_of_default_class class) row
is_of_class_of row (nodes.Whole (wholes.ClassSquare class)) = passes (is_of_default_class class) row
is_of_class_of row node = false
