-- The number of a figure of the whole sheet is its family, and the first numbers are those of such figures.
use Rattle.std.proofs.Common.{◌≡◌, ℕ, ◌<◌, true, List, Some, slice_get, subst, sym, ap, arith, refl}
use Rattle.std.specs.Option.{option_map}
use Rattle.scr_factors.specs.Values.{FactorValues}
use Rattle.scr_ids.specs.Ranges.{IsAt, Numbered, count, first}
use Rattle.scr_ids.specs.declared.table.Table.TheVariants as tables
use Rattle.scr_sheet.specs.declared.sheet.BalanceSheet.{BalanceSheet}
use Rattle.scr_book.specs.RolledSheets.{RolledSheet}
use Rattle.scr_member_index.specs.declared.lists.Lists.{Lists}
use Rattle.scr_nodes.specs.Live.{is_live}
use Rattle.scr_nodes.specs.declared.node.Node.TheVariants as nodes
use Rattle.scr_nodes.specs.declared.node.Whole.{Whole}
use Rattle.scr_figure_ids.specs.Families.{whole_family}
use Rattle.scr_figure_ids.specs.Numbers.{IsNumbered, StandsAt}
use Rattle.scr_figure_ids.proofs.Live.{live-stands}
use Rattle.scr_partial_sums.specs.declared.figure.Figure.{Figure}
use Rattle.scr_block_graph.specs.Books.{rolled_of}
use Rattle.scr_block_graph.specs.declared.point.Point.TheVariants as points
use Rattle.scr_tree.specs.Figures.{AreSettled, worth_at, worth_of}
use Rattle.scr_tree.specs.Points.{StandsIn, book_reckoning}
use Rattle.scr_tree.specs.Standing.{Standing, standing_on}
use Rattle.scr_tree.proofs.Standings.{settled-point}

whole-stands : (sheet : BalanceSheet) (places : Numbered) → IsNumbered sheet places → (whole : Whole) → is_live sheet (nodes.Whole whole) ≡ true
    → (number : ℕ) → whole_family whole ≡ number → StandsAt sheet places (nodes.Whole whole) number
whole-stands sheet places numbered whole live number family =
    let own = live-stands sheet places numbered (nodes.Whole whole) live in
    let rows : count places tables.Whole ≡ 1 = numbered.rows tables.Whole refl in
    let row = own.1.at.row in
    let only : own.1.k ≡ 0 = omega (arith, rows, row) in
    let from = ap (first places tables.Whole) only in
    let start = numbered.whole in
    let at = own.1.at.is in
    let is : own.0 ≡ number = omega (arith, from, start, at, family) in
    subst (StandsAt sheet places (nodes.Whole whole)) is own.1

-- each of the first numbers is that of a place of the sheet's one row
pub whole-place : (sheet : BalanceSheet) (places : Numbered) → IsNumbered sheet places → (number : ℕ) → number < 154
    → IsAt places tables.Whole 0 number number
whole-place sheet places numbered number low =
    let rows : count places tables.Whole ≡ 1 = numbered.rows tables.Whole refl in
    let start = numbered.whole in
    record { row = omega (arith, rows); family = low; is = omega (arith, start) }

-- and the figure of that family stands there
pub whole-there : (sheet : BalanceSheet) (places : Numbered) → IsNumbered sheet places → (whole : Whole) (number : ℕ)
    → whole_family whole ≡ number → number < 154 → StandsAt sheet places (nodes.Whole whole) number
whole-there sheet places numbered whole number family low = record {
  k = 0;
  row = refl;
  at = subst (λ j. IsAt places tables.Whole 0 j number) (sym family) (whole-place sheet places numbered number low);
}

-- what stands there is what it comes to
pub whole-known : (factors : FactorValues) (book : RolledSheet) (places : Numbered) (lists : Lists) (figures : List Figure) (now : Standing)
    → standing_on factors book ≡ now → AreSettled (book_reckoning factors (rolled_of book)) (StandsIn book places lists) figures
    → IsNumbered book.sheet places → (whole : Whole) (number : ℕ) → is_live now.sheet (nodes.Whole whole) ≡ true → whole_family whole ≡ number
    → option_map worth_of (slice_get figures number) ≡ Some (worth_at now.factors now.sheet (nodes.Whole whole))
whole-known factors book places lists figures now is settled numbered whole number live family =
    settled-point factors book places lists figures now is settled (points.Figure (nodes.Whole whole)) number
    (whole-stands book.sheet places numbered whole (subst (λ (s : Standing). is_live s.sheet (nodes.Whole whole) ≡ true) (sym is) live) number family)
    live
