-- When a figure rests on a choice that the figures leave open (this project's own).
use Rattle.std.specs.Prelude.{Bool, false, ◌||◌, nat_le, count_ones}
use Rattle.std.specs.List.{list_any}
use Rattle.scr_num.specs.Rounding.{Ends}
use Rattle.scr_factors.specs.Values.{FactorValues}
use Rattle.scr_sheet.specs.declared.sheet.BalanceSheet.{BalanceSheet}
use Rattle.scr_nodes.specs.declared.node.Node.{Node}
use Rattle.scr_nodes.specs.declared.node.Node.TheVariants as nodes
use Rattle.scr_nodes.specs.declared.node.OfCurrency.TheVariants as of_currencies
use Rattle.scr_nodes.specs.declared.node.Whole.TheVariants as wholes
use Rattle.scr_nodes.specs.Reckoned.{reckoned}
use Rattle.scr_rules.specs.Rules.{amount_of}
use Rattle.scr_rules.specs.Worked.{worked}

-- two or more of the alternatives may be the one that decides: the mask has as many bits
abbrev pub is_open : Ends → Bool
is_open mask = nat_le 2 (count_ones (amount_of mask))

abbrev pub is_open_choice : FactorValues → BalanceSheet → Node → Bool
is_open_choice factors sheet (nodes.Whole (wholes.Choice which)) = is_open (worked factors sheet (nodes.Whole (wholes.Choice which)))
is_open_choice factors sheet (nodes.Currency currency of_currencies.Choice) =
    is_open (worked factors sheet (nodes.Currency currency of_currencies.Choice))
is_open_choice factors sheet (nodes.Whole wholes.DefaultBand) = is_open (worked factors sheet (nodes.Whole wholes.DefaultBand))
is_open_choice factors sheet node = false

-- the node is a choice that is open, or one lies under it: among its sources, their sources, and so on
unfoldable pub close_under : FactorValues → BalanceSheet → Node → Bool
close_under factors sheet node =
    reckoned false (λ n below. is_open_choice factors sheet n || list_any (λ b. b) below) sheet node
