-- What the graph of the funds keeps of a row, and whether it can be moved back by it (this project's own).
use Rattle.std.specs.Prelude.{Bool, true, false, Option, Some, None}
use Rattle.scr_fund_graph.specs.Graph.{Graph}
use Rattle.scr_fund_graph.specs.KeptNumbers.{AreNumbersOf, stands_for}
use Rattle.scr_fund_graph.specs.declared.kept.KeptComponents.{KeptComponents}
use Rattle.scr_sheet.specs.BalanceSheet.{stake_name}
use Rattle.scr_sheet.specs.declared.earlier.Earlier.{Earlier}
use Rattle.scr_sheet.specs.declared.earlier.Earlier.TheVariants as earlier
use Rattle.scr_book.specs.Pasts.{name_in, components_in}

-- of a fund the numbers of its components, and nothing else
abbrev pub IsKeptOf : Earlier → Option KeptComponents → Graph → Type 0
IsKeptOf (earlier.Funds past) (Some kept) graph = AreNumbersOf kept (name_in stake_name past) graph
IsKeptOf (earlier.Funds past) None graph = ⊥
IsKeptOf other None graph = Unit {0}
IsKeptOf other (Some kept) graph = ⊥

-- what was kept of a fund are the numbers of its components; nothing else moves the graph
abbrev pub moves_back : Earlier → Option KeptComponents → Graph → Bool
moves_back (earlier.Funds past) (Some kept) graph = stands_for kept (name_in stake_name past) (components_in past) graph
moves_back (earlier.Funds past) None graph = false
moves_back other kept graph = true
