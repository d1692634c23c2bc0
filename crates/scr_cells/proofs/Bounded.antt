-- The printed bounds of each cell enclose its exact figure, and are no further apart than its stated width unless it is close.
use Rattle.std.proofs.Common.{◌≡◌, ℕ, ◌==◌, ◌&&◌, true, Option, Some, None, is_some, refl, sym, subst, lit<}
use Rattle.std.proofs.lemmas.Bool.{and_parts, eqb-true, true≢false}
use Rattle.std.specs.List.{AllByRecursion}
use Rattle.scr_num.specs.Enclosure.{Encloses}
use Rattle.scr_num.specs.Figure.{Figure}
use Rattle.scr_num.specs.Rounding.{Ends}
use Rattle.scr_num.proofs.Enclosing.{Encloses-coarser}
use Rattle.scr_tables.proofs.TableRows.{All-both, All-map}
use Rattle.scr_factors.specs.Values.{FactorValues, IsInForm}
use Rattle.scr_sheet.specs.declared.sheet.BalanceSheet.{BalanceSheet}
use Rattle.scr_sheet.specs.Validity.{Valid}
use Rattle.scr_nodes.specs.declared.node.Node.{Node}
use Rattle.scr_nodes.specs.Live.{is_live}
use Rattle.scr_exact.specs.Exact.{exact, exact_outcomes, unit_of}
use Rattle.scr_rules.specs.Worked.{worked}
use Rattle.scr_rules.specs.Close.{close_under}
use Rattle.scr_exact.proofs.Enclosed.{market-node-encloses, node-encloses, outcomes-enclosed}
use Rattle.scr_exact.proofs.Enclosures.{is_of_market}
use Rattle.scr_cells.specs.Block.{lower_bound, upper_bound}
use Rattle.scr_cells.specs.Certified.{Certified, IsBounded, KeepsWidth, RestsOnNearChoice}
use Rattle.scr_cells.specs.Table.{NamedFigure, market_cells, table}
use Rattle.scr_cells.proofs.LiveCells.{IsLive, IsStated, all-pass, all_live, all_stated, in_grains}
use Rattle.scr_widths.specs.Widths.{stated_width}
use Rattle.scr_widths.proofs.AllWidths.{cents-kept}
use Rattle.scr_widths.proofs.NearChoices.{rests-near}

-- grains rounded outward to cents
in-cents : (worked : Ends) (exact : Figure) → Encloses 1000 worked.low worked.high exact
    → Encloses 1 (lower_bound worked) (upper_bound worked) exact
in-cents worked exact enclosed = Encloses-coarser 1 1000 worked.low worked.high exact (lit< tt) enclosed

-- what is there is something
there : {A : Type 0} (o : Option A) → is_some o ≡ true → (x : A) × (o ≡ Some x)
there (Some x) some = (x, refl)
there None some = absurd (true≢false (sym some))

-- each cell shows a figure, and no choice
abbrev IsShown : FactorValues → BalanceSheet → NamedFigure → Type 0
IsShown factors sheet cell = is_some (exact factors sheet cell.node) ≡ true

all_shown : (factors : FactorValues) (sheet : BalanceSheet) → AllByRecursion (IsShown factors sheet) table
unfolding table
all_shown factors sheet = all-pass (λ (cell : NamedFigure). is_some (exact factors sheet cell.node)) table refl

module _ (factors : FactorValues) (sheet : BalanceSheet) (valid : Valid sheet) where
  -- a figure whose ends enclose the exact one
  bounded_by : (node : Node) → unit_of node ≡ 1000 → is_some (exact factors sheet node) ≡ true
      → ((figure : Figure) → exact factors sheet node ≡ Some figure
      → Encloses (unit_of node) (worked factors sheet node).low (worked factors sheet node).high figure)
      → IsBounded factors sheet node
  bounded_by node in_grains shown encloses =
      let figure = there (exact factors sheet node) shown in
      let ends = worked factors sheet node in (
        figure.0,
        figure.1,
        in-cents ends figure.0
            (subst (λ (unit : ℕ). Encloses unit ends.low ends.high figure.0) in_grains (encloses figure.0 figure.1)),
      )

  -- those of market risk, whatever the factors
  pub market_bounded : AllByRecursion (λ (cell : NamedFigure). IsBounded factors sheet cell.node) market_cells
  market_bounded =
      All-map (λ (cell : NamedFigure). (is_of_market cell.node && ((unit_of cell.node == 1000) && is_some (exact factors sheet cell.node))) ≡ true)
      (λ cell. IsBounded factors sheet cell.node) market_cells
      (λ cell passed. let (of_market, rest) = and_parts (is_of_market cell.node) _ passed in
      let (grains, shown) = and_parts (unit_of cell.node == 1000) _ rest in
      bounded_by cell.node (eqb-true (unit_of cell.node) 1000 grains) shown (market-node-encloses factors sheet valid cell.node of_market))
      (all-pass (λ (cell : NamedFigure). is_of_market cell.node && ((unit_of cell.node == 1000) && is_some (exact factors sheet cell.node))) market_cells refl)

  -- a figure that is close rests on a choice between alternatives that are near
  pub rests : (node : Node) → close_under factors sheet node ≡ true → RestsOnNearChoice factors sheet node
  rests node close = rests-near factors sheet valid (exact_outcomes sheet) (outcomes-enclosed factors sheet valid) node close

module _ (factors : FactorValues) (known : IsInForm factors) (sheet : BalanceSheet) (valid : Valid sheet) where
  bounded : (node : Node) → is_live sheet node ≡ true → unit_of node ≡ 1000 → is_some (exact factors sheet node) ≡ true
      → IsBounded factors sheet node
  bounded node live in_grains shown =
      bounded_by factors sheet valid node in_grains shown (node-encloses factors known sheet valid node live)

  all_bounded : AllByRecursion (λ (cell : NamedFigure). IsBounded factors sheet cell.node) table
  all_bounded =
      All-both (λ cell. IsLive sheet cell × (unit_of cell.node ≡ 1000)) (IsShown factors sheet) _ table
      (λ cell of_grains shown. bounded cell.node of_grains.0 of_grains.1 shown)
      (All-both (IsLive sheet) (λ cell. unit_of cell.node ≡ 1000) _ table (λ cell live grains. (live, grains)) (all_live sheet) in_grains)
      (all_shown factors sheet)

  kept : (node : Node) → is_live sheet node ≡ true → is_some (stated_width sheet node) ≡ true → KeepsWidth factors sheet node
  kept node live stated =
      let width = there (stated_width sheet node) stated in
      record {
        width = width.0;
        stated = width.1;
        narrow = λ clear. (cents-kept factors known sheet valid node live clear width.0 width.1).apart;
        near = rests factors sheet valid node;
      }

  all_kept : AllByRecursion (λ (cell : NamedFigure). KeepsWidth factors sheet cell.node) table
  all_kept =
      All-both (IsLive sheet) (IsStated sheet) _ table (λ cell live stated. kept cell.node live stated) (all_live sheet)
      (all_stated sheet)

  pub certified : Certified factors sheet
  certified = record { enclosing = all_bounded; narrow = all_kept }
