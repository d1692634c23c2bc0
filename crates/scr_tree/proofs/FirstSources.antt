-- In the first reckoning every source of a figure comes before it.
use Rattle.std.proofs.Common.{◌≡◌, inl, inr, ℕ, ◌+◌, ◌<◌, ◌≤◌, true, List, [], map, filter, Some, slice_get, refl, arith}
use Rattle.std.specs.List.{AllByRecursion}
use Rattle.scr_tables.proofs.TableRows.{All-append}
use Rattle.scr_funds.proofs.Members.{IsMember, Contains-from_IsMember, each-from_members, each_weaker}
use Rattle.scr_figure_ids.specs.Families.{family_of, name_of, table_of, whole_family}
use Rattle.scr_figure_ids.specs.Numbers.{names_in}
use Rattle.scr_figure_ids.specs.Order as order
use Rattle.scr_figure_ids.proofs.WholeOrder.{turn-before}
use Rattle.scr_ids.specs.declared.table.Table.TheVariants as tables
use Rattle.scr_sheet.specs.declared.sheet.BalanceSheet.{BalanceSheet}
use Rattle.scr_sheet.specs.Validity.{Valid}
use Rattle.scr_nodes.specs.Live.{is_live}
use Rattle.scr_nodes.specs.Rows.{has_group, is_held_in, is_of_group, is_owed_in, is_paying_in}
use Rattle.scr_nodes.specs.Sources.{liability_present, liability_rate, security_rate, security_total, sources_of}
use Rattle.scr_nodes.specs.declared.{node.Node.Node, node.Whole.Whole}
use Rattle.scr_nodes.specs.declared.node.Direction.TheVariants.{Up, Down}
use Rattle.scr_nodes.specs.declared.node.Measure.TheVariants.{Gross, Net}
use Rattle.scr_nodes.specs.declared.node.Node.TheVariants as nodes
use Rattle.scr_nodes.specs.declared.node.OfCurrency.TheVariants as of_currencies
use Rattle.scr_nodes.specs.declared.node.OfFund.TheVariants as of_funds
use Rattle.scr_nodes.specs.declared.node.OfGroup.TheVariants as of_groups
use Rattle.scr_nodes.specs.declared.node.OfLiability.TheVariants as of_liabilities
use Rattle.scr_nodes.specs.declared.node.OfSecurity.TheVariants as of_securities
use Rattle.scr_nodes.specs.declared.node.Whole.TheVariants as wholes
use Rattle.scr_nodes.proofs.Below.{AllBelow, below-chosen}
use Rattle.scr_tree.specs.Turns.{IsBefore, stage_of, turn, turn_of}

module _ (sheet : BalanceSheet) where
  -- of an earlier stage
  of-stages : (s row f : ℕ) (list : List Node) → AllBelow stage_of s list → AllByRecursion (IsBefore sheet (turn s row f)) list
  of-stages s row f list below = each_weaker (λ n. stage_of n < s) (IsBefore sheet (turn s row f)) (λ n l. inl l) list below

  -- an earlier figure of the same row
  of-row : (row f : ℕ) (n : Node) (s : ℕ) → stage_of n ≡ s → slice_get (names_in sheet (table_of n)) row ≡ Some (name_of n)
      → family_of n < f → IsBefore sheet (turn s row f) n
  of-row row f n s same named less = inr (same, record { k = row; named = named; before = inr (refl, less) })

  whole-source : Valid sheet → (what : Whole) → is_live sheet (nodes.Whole what) ≡ true → (row : ℕ)
      → slice_get (names_in sheet tables.Whole) row ≡ Some [] → order.turn_of what ≡ 1 + whole_family what
      → (m : Node) → IsMember m (sources_of sheet (nodes.Whole what)) → IsBefore sheet (turn 7 row (whole_family what)) m
  whole-source valid what live row named own (nodes.Fund name of) has = inl (omega arith)
  whole-source valid what live row named own (nodes.Security name of_securities.Total) has = inl (omega arith)
  whole-source valid what live row named own (nodes.Security name of) has = inl (omega arith)
  whole-source valid what live row named own (nodes.Liability name of) has = inl (omega arith)
  whole-source valid what live row named own (nodes.Currency name of) has = inl (omega arith)
  whole-source valid what live row named own (nodes.Group name of) has = inl (omega arith)
  whole-source valid what live row named own (nodes.Whole wholes.Assets) has = inl (omega arith)
  whole-source valid what live row named own (nodes.Whole source) has =
      let earlier = turn-before sheet what source valid live
      (Contains-from_IsMember (sources_of sheet (nodes.Whole what)) (nodes.Whole source) has) in
      of-row row (whole_family what) (nodes.Whole source) 7 refl named (omega (arith, own, earlier))

  pub sources-before : Valid sheet → (node : Node) → is_live sheet node ≡ true → (row : ℕ)
      → slice_get (names_in sheet (table_of node)) row ≡ Some (name_of node) → 2 ≤ stage_of node
      → AllByRecursion (IsBefore sheet (turn_of node row)) (sources_of sheet node)
  sources-before valid (nodes.Fund name of_funds.Total) live row named high = absurd (omega (arith, high))
  sources-before valid (nodes.Security name of_securities.Total) live row named high = absurd (omega (arith, high))
  sources-before valid (nodes.Security name (of_securities.UnitLoss direction)) live row named high = tt
  sources-before valid (nodes.Security name (of_securities.Rate direction)) live row named high = (
    inl (omega arith),
    (
      of-row row (family_of (nodes.Security name (of_securities.Rate direction)))
          (nodes.Security name (of_securities.UnitLoss direction)) 3 refl named (omega arith),
      tt,
    ),
  )
  sources-before valid (nodes.Security name of_securities.Spread) live row named high = (inl (omega arith), tt)
  sources-before valid (nodes.Liability name (of_liabilities.Rate direction)) live row named high = tt
  sources-before valid (nodes.Liability name of_liabilities.Present) live row named high = tt
  sources-before valid (nodes.Liability name (of_liabilities.Loss projection)) live row named high = tt
  sources-before valid (nodes.Group name of_groups.Total) live row named high =
      of-stages 5 row 0 (sources_of sheet (nodes.Group name of_groups.Total))
      (below-chosen stage_of 5 (is_of_group name) security_total sheet.securities (λ p. omega arith))
  sources-before valid (nodes.Group name of_groups.ConcentrationSquare) live row named high = (
    inl (omega arith),
    (of-row row 1 (nodes.Group name of_groups.Total) 5 refl named (omega arith), tt),
  )
  sources-before valid (nodes.Group name of_groups.Loss) live row named high = tt
  sources-before valid (nodes.Currency name (of_currencies.Loss direction)) live row named high =
      of-stages 6 row (family_of (nodes.Currency name (of_currencies.Loss direction)))
      (sources_of sheet (nodes.Currency name (of_currencies.Loss direction)))
      (All-append (λ n. stage_of n < 6) (map (security_rate direction) (filter (is_paying_in name) sheet.securities))
      (map (liability_rate direction) (filter (is_owed_in name) sheet.liabilities))
      (below-chosen stage_of 6 (is_paying_in name) (security_rate direction) sheet.securities (λ p. omega arith))
      (below-chosen stage_of 6 (is_owed_in name) (liability_rate direction) sheet.liabilities (λ l. omega arith)))
  sources-before valid (nodes.Currency name (of_currencies.Scenario direction Gross)) live row named high =
      of-stages 6 row (family_of (nodes.Currency name (of_currencies.Scenario direction Gross)))
      (sources_of sheet (nodes.Currency name (of_currencies.Scenario direction Gross)))
      (All-append (λ n. stage_of n < 6) (map security_total (filter (is_held_in name) sheet.securities))
      (map liability_present (filter (is_owed_in name) sheet.liabilities))
      (below-chosen stage_of 6 (is_held_in name) security_total sheet.securities (λ p. omega arith))
      (below-chosen stage_of 6 (is_owed_in name) liability_present sheet.liabilities (λ l. omega arith)))
  sources-before valid (nodes.Currency name (of_currencies.Scenario direction Net)) live row named high = (
    of-row row (family_of (nodes.Currency name (of_currencies.Scenario direction Net)))
        (nodes.Currency name (of_currencies.Scenario direction Gross)) 6 refl named (omega arith),
    tt,
  )
  sources-before valid (nodes.Currency name of_currencies.Choice) live row named high = (
    of-row row 6 (nodes.Currency name (of_currencies.Scenario Up Gross)) 6 refl named (omega arith),
    (
      of-row row 6 (nodes.Currency name (of_currencies.Scenario Up Net)) 6 refl named (omega arith),
      (
        of-row row 6 (nodes.Currency name (of_currencies.Scenario Down Gross)) 6 refl named (omega arith),
        (of-row row 6 (nodes.Currency name (of_currencies.Scenario Down Net)) 6 refl named (omega arith), tt),
      ),
    ),
  )
  sources-before valid (nodes.Currency name (of_currencies.Picked measure)) live row named high =
      let f = family_of (nodes.Currency name (of_currencies.Picked measure)) in (
        of-row row f (nodes.Currency name (of_currencies.Scenario Up Gross)) 6 refl named (omega arith),
        (
          of-row row f (nodes.Currency name (of_currencies.Scenario Up Net)) 6 refl named (omega arith),
          (
            of-row row f (nodes.Currency name (of_currencies.Scenario Down Gross)) 6 refl named (omega arith),
            (
              of-row row f (nodes.Currency name (of_currencies.Scenario Down Net)) 6 refl named (omega arith),
              (of-row row f (nodes.Currency name of_currencies.Choice) 6 refl named (omega arith), tt),
            ),
          ),
        ),
      )
  sources-before valid (nodes.Whole wholes.Assets) live row named high =
      of-stages 2 row 153 (sources_of sheet (nodes.Whole wholes.Assets))
      (below-chosen stage_of 2 has_group security_total sheet.securities (λ p. omega arith))
  sources-before valid (nodes.Whole what) live row named high =
      each-from_members (IsBefore sheet (turn 7 row (whole_family what))) (sources_of sheet (nodes.Whole what))
      (whole-source valid what live row named (omega arith))
