-- A number has one figure, and a figure one number.
use Rattle.std.proofs.Common.{◌≡◌, ℕ, suc, ◌+◌, ◌<◌, true, false, List, [], ◌∷◌, Some, length, map, refl, sym, ap, subst, ◌∙◌, arith}
use Rattle.std.specs.List.{slice_get}
use Rattle.std.specs.Option.{is_some}
use Rattle.std.proofs.lemmas.Option.{slice_get_within}
use Rattle.scr_tables.specs.Tables.{has_row}
use Rattle.scr_tables.proofs.TableRows.{same_name-is, same_or_other, row_of-later}
use Rattle.scr_ids.specs.Moves.{IsSameBut}
use Rattle.scr_ids.specs.Ranges.{IsApart, IsAt, IsOne, Numbered, first, same_table, stride}
use Rattle.scr_ids.specs.declared.table.Table.{Table}
use Rattle.scr_ids.specs.declared.table.Table.TheVariants as tables
use Rattle.scr_sheet.specs.declared.sheet.BalanceSheet.{BalanceSheet}
use Rattle.scr_nodes.specs.declared.node.Node.{Node}
use Rattle.scr_nodes.specs.declared.node.Node.TheVariants as nodes
use Rattle.scr_figure_ids.specs.Families.{family_of, name_of, table_of}
use Rattle.scr_figure_ids.specs.Numbers.{AreNamedOnce, IsNumbered, StandsAt, is_of_sheet, names_in}
use Rattle.scr_figure_ids.proofs.RowNames.{placed-at}
use Rattle.scr_figure_ids.proofs.Told.{told}

pub exact : (sheet : BalanceSheet) (places : Numbered) → IsApart places → (number : ℕ) (a b : Node) → StandsAt sheet places a number
    → StandsAt sheet places b number → a ≡ b
exact sheet places apart number a b x y =
    told a b one.tables one.families named x.at.family
  where
    one : IsOne (table_of a) x.k (family_of a) (table_of b) y.k (family_of b)
    one = apart number (table_of a) x.k (family_of a) (table_of b) y.k (family_of b) x.at y.at

    named : name_of a ≡ name_of b
    named =
        let same : Some (name_of a) ≡ Some (name_of b) =
        sym x.row ∙ ap (λ t. slice_get (names_in sheet t) x.k) one.tables
        ∙ ap (slice_get (names_in sheet (table_of b))) one.rows ∙ y.row in
        cc

pub only : (sheet : BalanceSheet) (places : Numbered) → AreNamedOnce sheet → (n m : ℕ) (node : Node) → StandsAt sheet places node n
    → StandsAt sheet places node m → n ≡ m
only sheet places once n m node x y =
    let names = names_in sheet (table_of node) in
    let same : Some x.k ≡ Some y.k =
    sym (placed-at (name_of node) names x.k (once (table_of node)) x.row)
    ∙ placed-at (name_of node) names y.k (once (table_of node)) y.row in
    let row : x.k ≡ y.k = cc in
    let start : first places (table_of node) x.k ≡ first places (table_of node) y.k = ap (first places (table_of node)) row in
    omega (arith, x.at.is, y.at.is, start)

-- the table of a figure is one of the sheet's
pub of-sheet : (node : Node) → is_of_sheet (table_of node) ≡ true
of-sheet (nodes.Fund name what) = refl
of-sheet (nodes.Security name what) = refl
of-sheet (nodes.Liability name what) = refl
of-sheet (nodes.Currency name what) = refl
of-sheet (nodes.Group name what) = refl
of-sheet (nodes.Whole what) = refl

-- so is the table of a name
pub row-of_sheet : (sheet : BalanceSheet) (table : Table) (k : ℕ) → k < length (names_in sheet table) → is_of_sheet table ≡ true
row-of_sheet sheet tables.Part k l = absurd (omega (arith, l))
row-of_sheet sheet tables.Whole k l = refl
row-of_sheet sheet tables.Fund k l = refl
row-of_sheet sheet tables.Security k l = refl
row-of_sheet sheet tables.Liability k l = refl
row-of_sheet sheet tables.Group k l = refl
row-of_sheet sheet tables.Currency k l = refl

-- a figure of a row has a number
pub stands : (sheet : BalanceSheet) (places : Numbered) → IsNumbered sheet places → (node : Node) → family_of node < stride (table_of node)
    → (k : ℕ) → slice_get (names_in sheet (table_of node)) k ≡ Some (name_of node)
    → StandsAt sheet places node (first places (table_of node) k + family_of node)
stands sheet places numbered node family k row = record {
  k = k;
  row = row;
  at = record {
    row = let room = slice_get_within (names_in sheet (table_of node)) k (name_of node) row in
        omega (arith, room, numbered.rows (table_of node) (of-sheet node));
    family = family;
    is = refl;
  };
}

-- ---- parts of member lists

pub not-part : (node : Node) → same_table tables.Part (table_of node) ≡ false
not-part (nodes.Fund name what) = refl
not-part (nodes.Security name what) = refl
not-part (nodes.Liability name what) = refl
not-part (nodes.Currency name what) = refl
not-part (nodes.Group name what) = refl
not-part (nodes.Whole what) = refl

pub figure-or-part : (sheet : BalanceSheet) (places : Numbered) → IsApart places → (node : Node) (number : ℕ) → StandsAt sheet places node number
    → (k j : ℕ) → IsAt places tables.Part k j number → ⊥
figure-or-part sheet places apart node number x k j at =
    let one : IsOne (table_of node) x.k (family_of node) tables.Part k j =
    apart number (table_of node) x.k (family_of node) tables.Part k j x.at at in
    let other = not-part node in
    let same : same_table tables.Part (table_of node) ≡ true = ap (same_table tables.Part) one.tables in
    absurd (cc)

module _ (sheet : BalanceSheet) (before now : Numbered) (same : IsSameBut tables.Part before now) where
  other-table : (table : Table) → is_of_sheet table ≡ true → same_table tables.Part table ≡ false
  other-table tables.Whole of = refl
  other-table tables.Fund of = refl
  other-table tables.Security of = refl
  other-table tables.Liability of = refl
  other-table tables.Group of = refl
  other-table tables.Currency of = refl
  other-table tables.Part of = absurd (cc)

  pub parts-numbered : IsNumbered sheet before → IsNumbered sheet now
  parts-numbered numbered = record {
    rows = λ table of. same.counts table (other-table table of) ∙ numbered.rows table of;
    whole = same.firsts tables.Whole refl 0 ∙ numbered.whole;
  }

  pub parts-keep : (node : Node) (number : ℕ) → StandsAt sheet before node number → StandsAt sheet now node number
  parts-keep node number x = record {
    k = x.k;
    row = x.row;
    at = record {
      row = let rows = same.counts (table_of node) (not-part node) in omega (arith, x.at.row, rows);
      family = x.at.family;
      is = let start = same.firsts (table_of node) (not-part node) x.k in omega (arith, start, x.at.is);
    };
  }

-- a row of a name stands somewhere
pub found : {Row : Type 0} (name_in : Row → List ℕ) (name : List ℕ) (rows : List Row) → has_row name_in name rows ≡ true
    → (k : ℕ) × (slice_get (map name_in rows) k ≡ Some name)
found name_in name [] has = absurd (cc)
found name_in name (row ∷ rows) has = same_or_other name (name_in row)
    (λ e. (0, ap Some (sym (same_name-is name (name_in row) e))))
    (λ e.
    let rest = found name_in name rows (sym (ap is_some (row_of-later name_in name row rows e)) ∙ has) in
    (rest.0 + 1, next (rest.0) rest.1))
  where
    next : (n : ℕ) → slice_get (map name_in rows) n ≡ Some name → slice_get (name_in row ∷ map name_in rows) (n + 1) ≡ Some name
    next n at =
        let e : suc n ≡ n + 1 = omega arith in
        subst (λ m. slice_get (name_in row ∷ map name_in rows) m ≡ Some name) e at
