-- The text of an account (this project's own): a figure with its bounds and how it comes about, and under it, further in,
-- its sources, their sources and so on.
use Rattle.std.specs.Prelude.{ℕ, zero, suc, ◌+◌, ◌-◌, ◌/◌, ◌%◌, ◌++◌, ◌==◌, List, [], Option, Some, if◌then◌else◌, codes, decimal, flat_map, length}
use Rattle.scr_factors.specs.Values.{FactorValues}
use Rattle.scr_sheet.specs.declared.sheet.BalanceSheet.{BalanceSheet}
use Rattle.scr_nodes.specs.declared.node.Node.{Node}
use Rattle.scr_nodes.specs.Sources.{sources_of}
use Rattle.scr_rules.specs.Close.{close_under}
use Rattle.scr_amounts.specs.Amounts.{amount}
use Rattle.scr_cells.specs.Block.{close_mark}
use Rattle.scr_figure_titles.specs.Steps.{step_words, taking}
use Rattle.scr_figure_titles.specs.Titles.{article, step_of, title, unit_of}
use Rattle.scr_figure_titles.specs.Units.{first, is_amount, mark, second, third}
use Rattle.scr_figure_titles.specs.declared.unit.Unit.{Unit}
use Rattle.scr_explanation.specs.Taken.{excess, parts_of}
use Rattle.scr_explanation.specs.Told.{shown, size, told_bounds}
use Rattle.scr_amounts.specs.declared.bounds.Bounds.{Bounds}

-- two blanks for each level
unfoldable pub indent : ℕ → List ℕ
indent zero = []
indent (suc level) = indent level ++ codes "  "

unfoldable pub between : Bounds → List ℕ
between bounds = ((codes " " ++ amount bounds.low) ++ codes " ") ++ amount bounds.high

-- ---- a figure

-- an alternative, where its bit is set
abbrev pub alternative : List ℕ → ℕ → List ℕ
alternative name bit = if bit == 1 then (codes " (" ++ name) ++ codes ")" else []

-- the alternatives that may decide
unfoldable pub alternatives : Unit → ℕ → List ℕ
alternatives unit mask = (alternative (first unit) (mask % 2) ++ alternative (second unit) (mask / 2 % 2)) ++ alternative (third unit) (mask / 4 % 2)

unfoldable pub amounts : FactorValues → BalanceSheet → Node → List ℕ
amounts factors sheet node =
    (between (told_bounds factors sheet node) ++ mark (unit_of node)) ++ close_mark (close_under factors sheet node)

-- what a figure comes to: its bounds, or which alternatives may decide
abbrev pub worth : FactorValues → BalanceSheet → Node → List ℕ
worth factors sheet node =
    if is_amount (unit_of node) then amounts factors sheet node else alternatives (unit_of node) (size factors sheet node)

unfoldable pub figure_line : FactorValues → BalanceSheet → ℕ → Node → List ℕ
figure_line factors sheet level node =
    (((indent level ++ title node) ++ codes ":") ++ worth factors sheet node) ++ codes "\n"

-- ---- how it comes about

abbrev pub taken_text : Option (List ℕ) → Option Bounds → List ℕ
taken_text (Some words) (Some bounds) = (codes "; " ++ words) ++ between bounds
taken_text words bounds = []

unfoldable pub how_line : FactorValues → BalanceSheet → ℕ → Node → List ℕ
how_line factors sheet level node =
    (((((indent level ++ codes "  = ") ++ step_words (step_of node)) ++ taken_text (taking (step_of node))
    (excess (parts_of factors sheet (sources_of sheet node)) (told_bounds factors sheet node)))
    ++ codes " [") ++ article node) ++ codes "]\n"

unfoldable pub figure_text : FactorValues → BalanceSheet → ℕ → Node → List ℕ
figure_text factors sheet level node = figure_line factors sheet level node ++ how_line factors sheet level node

-- ---- the tree

-- how many sources are not told
abbrev pub rest_text : ℕ → ℕ → List ℕ
rest_text level zero = []
rest_text level (suc left) = ((indent level ++ codes "and ") ++ decimal (suc left)) ++ codes " smaller\n"

-- a figure, and under it so many levels of sources, of each list at most the so many largest
unfoldable pub account : FactorValues → BalanceSheet → ℕ → ℕ → ℕ → Node → List ℕ
account factors sheet top zero level node = figure_text factors sheet level node
account factors sheet top (suc depth) level node =
    let sources = sources_of sheet node in
    let told = shown factors sheet top sources in
    (figure_text factors sheet level node ++ flat_map (account factors sheet top depth (level + 1)) told)
    ++ rest_text (level + 1) (length sources - length told)
