-- The numbers of a balance sheet's figures are numbers of figures.
use Rattle.scr_ids.specs.Ranges.{IsApart, IsWithin, Numbered}
use Rattle.scr_sheet.specs.Validity.{Valid}
use Rattle.scr_sheet.specs.declared.sheet.BalanceSheet.{BalanceSheet}
use Rattle.scr_figure_ids.specs.Families.{family_of, table_of}
use Rattle.scr_figure_ids.specs.Numbers.{IsNumbered, StandsAt}
use Rattle.scr_figure_ids.proofs.Live.{live-stands, named-once}
use Rattle.scr_figure_ids.proofs.Standing.{exact, only}
use Rattle.scr_reachability.specs.Linked.{AreNumbers}
use Rattle.scr_tree.specs.Graphs.{graph_of}

pub are-numbers : (sheet : BalanceSheet) (places : Numbered) → Valid sheet → IsNumbered sheet places → IsWithin places → IsApart places
    → AreNumbers (graph_of sheet) (StandsAt sheet places) places.size
are-numbers sheet places valid numbered within apart = record {
  exact = exact sheet places apart;
  only = λ node n m. only sheet places (named-once sheet valid) n m node;
  live = λ node live. live-stands sheet places numbered node live;
  within = λ node n s. within n (table_of node) s.k (family_of node) s.at;
}
