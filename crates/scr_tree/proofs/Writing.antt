-- The figures of rows, once they are written at their numbers.
use Rattle.std.proofs.Common.{◌≡◌, ◌⊎◌, inl, inr, ℕ, zero, suc, ◌+◌, ◌-◌, ◌<◌, ◌≤◌, ◌++◌, Bool, true, false, cond, nat_eq, List, [], ◌∷◌, length, map, take, drop, set, Option, Some, None, slice_get, refl, sym, ap, subst, ◌∙◌, arith}
use Rattle.std.specs.Option.{option_map}
use Rattle.std.proofs.lemmas.Bool.{and_parts, cases_lt, eqb-true}
use Rattle.std.proofs.lemmas.List.Sums.{sum_by-cons}
use Rattle.std.proofs.lemmas.List.{append-nil, append_assoc, drop_more, flat_map_more, length-map, length-set}
use Rattle.std.proofs.lemmas.Option.{get_or_from_slice_get, slice_get_within}
use Rattle.scr_num.specs.Rounding.{ends}
use Rattle.scr_num.specs.declared.span.Span.{Span}
use Rattle.scr_figure_ids.specs.Families.{family_of, name_of, table_of}
use Rattle.scr_figure_ids.specs.Numbers.{IsNumbered, StandsAt, names_in}
use Rattle.scr_figure_ids.proofs.Live.{live-stands}
use Rattle.scr_figure_ids.proofs.Standing.{stands}
use Rattle.scr_ids.specs.Ranges.{IsApart, IsAt, IsOne, IsWithin, Numbered, count, first, stride}
use Rattle.scr_ids.specs.declared.table.Table.TheVariants as tables
use Rattle.scr_sheet.specs.BalanceSheet.{group_name, liability_name, position_name}
use Rattle.scr_sheet.specs.declared.sheet.BalanceSheet.{BalanceSheet}
use Rattle.scr_nodes.specs.Live.{is_live}
use Rattle.scr_nodes.specs.declared.node.Node.{Node}
use Rattle.scr_nodes.specs.declared.node.Node.TheVariants as nodes
use Rattle.scr_nodes.specs.declared.node.OfSecurity.TheVariants as of_securities
use Rattle.scr_nodes.specs.declared.node.Whole.TheVariants as wholes
use Rattle.scr_parallel.specs.Rows.{AreAllRows, Row, all_rows, row, rows_from, rows_in, rows_of, same_row, sort_number, times_row}
use Rattle.scr_parallel.specs.Rows as in_pieces
use Rattle.scr_parallel.specs.declared.rows.Part.{Part}
use Rattle.scr_parallel.specs.declared.rows.Piece.{Piece}
use Rattle.scr_parallel.specs.declared.rows.Sort.{Sort}
use Rattle.scr_parallel.specs.declared.rows.Sort.TheVariants as sorts
use Rattle.scr_parallel.proofs.Counted.{all-once, times_row-append}
use Rattle.scr_rules.specs.Worked.{worked}
use Rattle.scr_tree.specs.Figures.{AreKnownOf, HasFigure, reckoning_of, worth_of}
use Rattle.scr_tree.specs.First.{AreDoneTo, AreReckonedTo, AreRowsDone, IsGround}
use Rattle.scr_tree.specs.RowSpans.{IsOfRow, IsRowOf, row_count, sort_table}
use Rattle.scr_tree.specs.Turns.{IsBefore, turn}
use Rattle.scr_tree.specs.Written.{IsOfRows, IsWrittenAt, IsWrittenOf, is_by_row, plain_of, rows_among}
use Rattle.scr_partial_sums.specs.declared.figure.Figure.{Figure}
use Rattle.scr_tree.specs.declared.making.Ground.{Ground}
use Rattle.scr_tree.proofs.BlockTurns.{blocks-kept, blocks-rows}
use Rattle.scr_tree.proofs.Grounds.{late}
use Rattle.scr_tree.proofs.Journaled.{set-here, set-other}
use Rattle.scr_tree.proofs.Known.{take-next}
use Rattle.scr_tree.proofs.Plain.{is_plain, plain-worth}
use Rattle.scr_tree.proofs.Turns.{family-within}

-- ---- spans, one after another

-- so many of them are written
pub record AreWrittenYet (start j : ℕ) (spans : List Span) (before now : List Figure) : Type 0 where
  pub count : length now ≡ length before
  pub there : (i : ℕ) (span : Span) → i < j → slice_get spans i ≡ Some span → slice_get now (start + i) ≡ Some (plain_of span)
  pub others : (number : ℕ) → (number < start) ⊎ (start + j ≤ number) → slice_get now number ≡ slice_get before number

pub none-yet : (start : ℕ) (spans : List Span) (figures : List Figure) → AreWrittenYet start 0 spans figures figures
none-yet start spans figures = record {
  count = refl;
  there = λ i span low got. absurd (omega (arith, low));
  others = λ number out. refl;
}

pub one-yet : (start j : ℕ) (spans : List Span) (before now : List Figure) (span : Span) → slice_get spans j ≡ Some span
    → start + j < length now → AreWrittenYet start j spans before now
    → AreWrittenYet start (j + 1) spans before (set now (start + j) (plain_of span))
one-yet start j spans before now span got room yet = record {
  count = length-set now (start + j) (plain_of span) ∙ yet.count;
  there = λ i other low at. there i other at (cases_lt i j) low;
  others = λ number out. others number out;
}
  where
    there : (i : ℕ) (other : Span) → slice_get spans i ≡ Some other → (i < j) ⊎ (j ≤ i) → i < j + 1
        → slice_get (set now (start + j) (plain_of span)) (start + i) ≡ Some (plain_of other)
    there i other at (inl less) low =
        set-other now (start + j) (start + i) (plain_of span) (λ same. omega (arith, same, less)) ∙ yet.there i other less at
    there i other at (inr from) low =
        let same : i ≡ j = omega (arith, from, low) in
        let both : Some other ≡ Some span = sym at ∙ (ap (slice_get spans) same ∙ got) in
        let one : other ≡ span = cc in
        subst (λ k. slice_get (set now (start + j) (plain_of span)) (start + k) ≡ Some (plain_of other)) (sym same)
        (set-here now (start + j) (plain_of span) room ∙ ap (λ s. Some (plain_of s)) (sym one))

    others : (number : ℕ) → (number < start) ⊎ (start + (j + 1) ≤ number)
        → slice_get (set now (start + j) (plain_of span)) number ≡ slice_get before number
    others number (inl low) =
        set-other now (start + j) number (plain_of span) (λ same. omega (arith, same, low)) ∙ yet.others number (inl low)
    others number (inr high) =
        set-other now (start + j) number (plain_of span) (λ same. omega (arith, same, high))
        ∙ yet.others number (inr (omega (arith, high)))

pub all-yet : (start j : ℕ) (spans : List Span) (before now : List Figure) → j ≡ length spans
    → AreWrittenYet start j spans before now → IsWrittenAt start spans before now
all-yet start j spans before now end yet = record {
  count = yet.count;
  there = λ i span got. let low = slice_get_within spans i span got in yet.there i span (omega (arith, low, end)) got;
  others = λ number out. yet.others number (past number out);
}
  where
    past : (number : ℕ) → (number < start) ⊎ (start + length spans ≤ number) → (number < start) ⊎ (start + j ≤ number)
    past number (inl low) = inl low
    past number (inr high) = inr (omega (arith, high, end))

-- ---- one row

abbrev mark : Bool → ℕ
mark b = cond b 1 0

-- a row among one is this one
row-among : (one other : Row) → 0 < times_row one (other ∷ []) → same_row one other ≡ true
row-among one other some = by (same_row one other) refl (sum_by-cons (λ x. mark (same_row one x)) other [])
  where
    by : (b : Bool) → same_row one other ≡ b → times_row one (other ∷ []) ≡ mark (same_row one other) + times_row one []
        → same_row one other ≡ true
    by true e all = e
    by false e all = let here : mark (same_row one other) ≡ 0 = ap mark e in absurd (omega (arith, some, all, here))

sort-is : (a b : Sort) → nat_eq (sort_number a) (sort_number b) ≡ true → a ≡ b
sort-is sorts.Liability sorts.Liability e = refl
sort-is sorts.Liability sorts.Security e = absurd (let clash : false ≡ true = e in cc)
sort-is sorts.Liability sorts.Group e = absurd (let clash : false ≡ true = e in cc)
sort-is sorts.Security sorts.Liability e = absurd (let clash : false ≡ true = e in cc)
sort-is sorts.Security sorts.Security e = refl
sort-is sorts.Security sorts.Group e = absurd (let clash : false ≡ true = e in cc)
sort-is sorts.Group sorts.Liability e = absurd (let clash : false ≡ true = e in cc)
sort-is sorts.Group sorts.Security e = absurd (let clash : false ≡ true = e in cc)
sort-is sorts.Group sorts.Group e = refl

row-is : (one other : Row) → same_row one other ≡ true → (one.sort ≡ other.sort) × (one.place ≡ other.place)
row-is one other same =
    let both = and_parts (nat_eq (sort_number one.sort) (sort_number other.sort)) (nat_eq one.place other.place) same in
    (sort-is one.sort other.sort both.0, eqb-true one.place other.place both.1)

-- no figure of a row rests on a choice
row-plain : (sort : Sort) (node : Node) → table_of node ≡ sort_table sort → is_plain node ≡ true
row-plain sort (nodes.Fund name what) same = refl
row-plain sort (nodes.Security name what) same = refl
row-plain sort (nodes.Liability name what) same = refl
row-plain sort (nodes.Group name what) same = refl
row-plain sorts.Liability (nodes.Currency name what) same = absurd (cc)
row-plain sorts.Security (nodes.Currency name what) same = absurd (cc)
row-plain sorts.Group (nodes.Currency name what) same = absurd (cc)
row-plain sorts.Liability (nodes.Whole what) same = absurd (cc)
row-plain sorts.Security (nodes.Whole what) same = absurd (cc)
row-plain sorts.Group (nodes.Whole what) same = absurd (cc)

-- rows of no sort are parts of lists
sort-no-part : (sort : Sort) → tables.Part ≡ sort_table sort → ⊥
sort-no-part sorts.Liability same = absurd (cc)
sort-no-part sorts.Security same = absurd (cc)
sort-no-part sorts.Group same = absurd (cc)

-- what is added to one number to come to another
rest-of : (a b : ℕ) → a ≤ b → (d : ℕ) × (a + d ≡ b)
rest-of zero b l = (b, omega arith)
rest-of (suc a) zero l = absurd (omega (arith, l))
rest-of (suc a) (suc b) l = let r = rest-of a b (omega (arith, l)) in let e = r.1 in (r.0, omega (arith, e))

-- spans that come first
pub first-own : (own rest : List Span) (n : ℕ) → length own ≡ n → take n (own ++ rest) ≡ own
first-own [] rest zero e = refl
first-own [] rest (suc n) e = absurd (omega (arith, e))
first-own (s ∷ own) rest zero e = absurd (omega (arith, e))
first-own (s ∷ own) rest (suc n) e = ap (λ ss. s ∷ ss) (first-own own rest n (omega (arith, e)))

pub past-own : (own rest : List Span) (n : ℕ) → length own ≡ n → drop n (own ++ rest) ≡ rest
past-own [] rest zero e = refl
past-own [] rest (suc n) e = absurd (omega (arith, e))
past-own (s ∷ own) rest zero e = absurd (omega (arith, e))
past-own (s ∷ own) rest (suc n) e = past-own own rest n (omega (arith, e))

module _ (ground : Ground) (g : IsGround ground) where
  abbrev At : Node → ℕ → Type 0
  At = StandsAt ground.inputs.book.now.sheet ground.places.now

  abbrev Has : List Figure → ℕ → Node → Type 0
  Has figures number node = HasFigure (reckoning_of ground.inputs.factors.now ground.inputs.book.now.sheet) figures number node

  module _ (sort : Sort) (k : ℕ) (own : List Span) (is : IsRowOf ground.inputs.factors.now ground.inputs.book.now.sheet sort k own) (start : ℕ)
      (at : start ≡ first ground.places.now (sort_table sort) k) (a b : List Figure) (written : IsWrittenAt start own a b) where
    its-place : (node : Node) (number : ℕ) → At node number → IsOfRow ground.inputs.book.now.sheet sort k node
        → number ≡ start + family_of node
    its-place node number stood of_row =
        let named : slice_get (names_in ground.inputs.book.now.sheet (table_of node)) k ≡ Some (name_of node) =
        subst (λ t. slice_get (names_in ground.inputs.book.now.sheet t) k ≡ Some (name_of node)) (sym of_row.table) of_row.named in
        g.numbers.only node number (first ground.places.now (table_of node) k + family_of node) stood
        (stands ground.inputs.book.now.sheet ground.places.now g.numbered node
        (family-within ground.inputs.book.now.sheet ground.places.now g.numbered node of_row.live) k named)
        ∙ ap (λ n. n + family_of node) (ap (λ t. first ground.places.now t k) of_row.table ∙ sym at)

    here : (node : Node) (number : ℕ) → At node number → IsOfRow ground.inputs.book.now.sheet sort k node → Has b number node
    here node number stood of_row =
        let few : family_of node < stride (sort_table sort) =
        subst (λ t. family_of node < stride t) of_row.table
        (family-within ground.inputs.book.now.sheet ground.places.now g.numbered node of_row.live) in
        found (slice_get own (family_of node)) refl (is.right node (family_of node) of_row (omega arith) few)
      where
        found : (got : Option Span) → slice_get own (family_of node) ≡ got
            → option_map ends got ≡ Some (worked ground.inputs.factors.now ground.inputs.book.now.sheet node) → Has b number node
        found None e right = absurd (cc)
        found (Some span) e right =
            let both : Some (ends span) ≡ Some (worked ground.inputs.factors.now ground.inputs.book.now.sheet node) = right in
            let same : ends span ≡ worked ground.inputs.factors.now ground.inputs.book.now.sheet node = cc in
            subst (λ n. Has b n node) (sym (its-place node number stood of_row))
            (ap (option_map worth_of) (written.there (family_of node) span e)
            ∙ ap Some (plain-worth ground.inputs.factors.now ground.inputs.book.now.sheet g.valid node (plain_of span)
            (row-plain sort node of_row.table) same refl))

    still : IsApart ground.places.now → k < count ground.places.now (sort_table sort) → (node : Node) (number : ℕ) → At node number
        → is_live ground.inputs.book.now.sheet node ≡ true → Has a number node → Has b number node
    still apart few node number stood live has =
        by (cases_lt number start) (cases_lt number (start + length own))
      where
        same : (number < start) ⊎ (start + length own ≤ number) → Has b number node
        same out = ap (option_map worth_of) (written.others number out) ∙ has

        inside : start ≤ number → number < start + length own → Has b number node
        inside from low =
            let d = rest-of start number from in
            let sum : start + d.0 ≡ number = d.1 in
            let long = is.count in
            let one : IsOne (table_of node) stood.k (family_of node) (sort_table sort) k d.0 =
            apart number (table_of node) stood.k (family_of node) (sort_table sort) k d.0 stood.at
            (record { row = few; family = omega (arith, sum, low, long); is = ap (λ n. n + d.0) (sym at) ∙ sum }) in
            here node number stood (record {
              table = one.tables;
              named = subst (λ t. slice_get (names_in ground.inputs.book.now.sheet t) k ≡ Some (name_of node)) one.tables
                  (subst (λ m. slice_get (names_in ground.inputs.book.now.sheet (table_of node)) m ≡ Some (name_of node)) one.rows stood.row);
              live = live;
            })

        by : (number < start) ⊎ (start ≤ number) → (number < start + length own) ⊎ (start + length own ≤ number) → Has b number node
        by (inl low) l = same (inl low)
        by (inr from) (inr high) = same (inr high)
        by (inr from) (inl low) = inside from low

    -- a part of a list has none of the row's numbers
    off-parts : IsApart ground.places.now → k < count ground.places.now (sort_table sort) → (slot j number : ℕ)
        → IsAt ground.places.now tables.Part slot j number → slice_get b number ≡ slice_get a number
    off-parts apart few slot j number stood = by (cases_lt number start) (cases_lt number (start + length own))
      where
        inside : start ≤ number → number < start + length own → ⊥
        inside from low =
            let d = rest-of start number from in
            let sum : start + d.0 ≡ number = d.1 in
            let long = is.count in
            let one : IsOne tables.Part slot j (sort_table sort) k d.0 =
            apart number tables.Part slot j (sort_table sort) k d.0 stood
            (record { row = few; family = omega (arith, sum, low, long); is = ap (λ n. n + d.0) (sym at) ∙ sum }) in
            sort-no-part sort one.tables

        by : (number < start) ⊎ (start ≤ number) → (number < start + length own) ⊎ (start + length own ≤ number)
            → slice_get b number ≡ slice_get a number
        by (inl low) l = written.others number (inl low)
        by (inr from) (inr high) = written.others number (inr high)
        by (inr from) (inl low) = absurd (inside from low)

    pub row-written : IsApart ground.places.now → k < count ground.places.now (sort_table sort)
        → IsWrittenOf ground (row sort k ∷ []) a b
    row-written apart few = record {
      count = written.count;
      each = λ node number stood of. here node number stood (own-row node of.one of.among of.of_row);
      kept = λ node number stood live has. still apart few node number stood live has;
      parts = off-parts apart few;
    }
      where
        own-row : (node : Node) (one : Row) → 0 < times_row one (row sort k ∷ []) → IsOfRow ground.inputs.book.now.sheet one.sort one.place node
            → IsOfRow ground.inputs.book.now.sheet sort k node
        own-row node one among of_row =
            let same = row-is one (row sort k) (row-among one (row sort k) among) in
            subst (λ s. IsOfRow ground.inputs.book.now.sheet s k node) same.0
            (subst (λ n. IsOfRow ground.inputs.book.now.sheet one.sort n node) same.1 of_row)

  -- ---- rows after rows

  pub written-none : (figures : List Figure) → IsWrittenOf ground [] figures figures
  written-none figures = record {
    count = refl;
    each = λ node number stood of. let some : 0 < 0 = of.among in absurd (omega (arith, some));
    kept = λ node number stood live has. has;
    parts = λ slot j number stood. refl;
  }

  pub written-and : (rows more : List Row) (a b c : List Figure) → IsWrittenOf ground rows a b → IsWrittenOf ground more b c
      → IsWrittenOf ground (rows ++ more) a c
  written-and rows more a b c one two = record {
    count = two.count ∙ one.count;
    each = λ node number stood of. each node number stood of (cases_lt 0 (times_row of.one rows));
    kept = λ node number stood live has. two.kept node number stood live (one.kept node number stood live has);
    parts = λ slot j number stood. two.parts slot j number stood ∙ one.parts slot j number stood;
  }
    where
      each : (node : Node) (number : ℕ) → At node number → (of : IsOfRows ground.inputs.book.now.sheet (rows ++ more) node)
          → (0 < times_row of.one rows) ⊎ (times_row of.one rows ≤ 0) → Has c number node
      each node number stood of (inl some) =
          two.kept node number stood of.of_row.live
          (one.each node number stood (record { one = of.one; among = some; of_row = of.of_row }))
      each node number stood of (inr none) =
          let sum = times_row-append of.one rows more in
          let some = of.among in
          two.each node number stood (record { one = of.one; among = omega (arith, sum, some, none); of_row = of.of_row })

  pub written-as : (rows more : List Row) (a b : List Figure) → rows ≡ more → IsWrittenOf ground rows a b → IsWrittenOf ground more a b
  written-as rows more a b same is = subst (λ rs. IsWrittenOf ground rs a b) same is

  -- ---- all rows

  -- the row of a figure that is reckoned with those of its row
  its-row : (rows : List Row) → ((sort : Sort) (k : ℕ) → k < row_count ground.inputs.book.now.sheet sort → 0 < times_row (row sort k) rows)
      → (node : Node) → is_live ground.inputs.book.now.sheet node ≡ true → is_by_row node ≡ true
      → IsOfRows ground.inputs.book.now.sheet rows node
  its-row rows all node live by = own node (live-stands ground.inputs.book.now.sheet ground.places.now g.numbered node live).1 live by
    where
      long : {R : Type 0} (name_in : R → List ℕ) (list : List R) (k : ℕ) (name : List ℕ) → slice_get (map name_in list) k ≡ Some name
          → k < length list
      long name_in list k name got =
          let low = slice_get_within (map name_in list) k name got in let e = length-map list name_in in omega (arith, low, e)

      own : (n : Node) → {number : ℕ} → At n number → is_live ground.inputs.book.now.sheet n ≡ true → is_by_row n ≡ true
          → IsOfRows ground.inputs.book.now.sheet rows n
      own (nodes.Security name what) stood alive h = record {
        one = row sorts.Security stood.k;
        among = all sorts.Security stood.k (long position_name ground.inputs.book.now.sheet.securities stood.k name stood.row);
        of_row = record { table = refl; named = stood.row; live = alive };
      }
      own (nodes.Liability name what) stood alive h = record {
        one = row sorts.Liability stood.k;
        among = all sorts.Liability stood.k (long liability_name ground.inputs.book.now.sheet.liabilities stood.k name stood.row);
        of_row = record { table = refl; named = stood.row; live = alive };
      }
      own (nodes.Group name what) stood alive h = record {
        one = row sorts.Group stood.k;
        among = all sorts.Group stood.k (long group_name ground.inputs.book.now.sheet.groups stood.k name stood.row);
        of_row = record { table = refl; named = stood.row; live = alive };
      }
      own (nodes.Fund name what) stood alive h = absurd (let clash : false ≡ true = h in cc)
      own (nodes.Currency name what) stood alive h = absurd (let clash : false ≡ true = h in cc)
      own (nodes.Whole what) stood alive h = absurd (let clash : false ≡ true = h in cc)

  -- ---- by one worker

  -- what comes before the currencies is known beforehand, or is reckoned with its row
  early-or : (node : Node) → IsBefore ground.inputs.book.now.sheet (turn 6 0 0) node
      → IsBefore ground.inputs.book.now.sheet (turn 3 0 0) node ⊎ (is_by_row node ≡ true)
  early-or (nodes.Fund name what) before = inl (inl (omega arith))
  early-or (nodes.Security name of_securities.Total) before = inl (inl (omega arith))
  early-or (nodes.Security name what) before = inr refl
  early-or (nodes.Liability name what) before = inr refl
  early-or (nodes.Group name what) before = inr refl
  early-or (nodes.Currency name what) before = absurd (late ground.inputs.book.now.sheet 6 (nodes.Currency name what) (omega arith) before)
  early-or (nodes.Whole wholes.Assets) before = inl (inl (omega arith))
  early-or (nodes.Whole what) before = absurd (late ground.inputs.book.now.sheet 6 (nodes.Whole what) (omega arith) before)

  pub rows-reckoned : (rows : List Row) → ((sort : Sort) (k : ℕ) → k < row_count ground.inputs.book.now.sheet sort → 0 < times_row (row sort k) rows)
      → (a b : List Figure) → AreReckonedTo ground a (turn 3 0 0) → IsWrittenOf ground rows a b → AreReckonedTo ground b (turn 6 0 0)
  unfolding AreKnownOf
  rows-reckoned rows all a b is written = record {
    count = written.count ∙ is.count;
    known = λ node number stood live before. by node number stood live (early-or node before);
  }
    where
      by : (node : Node) (number : ℕ) → At node number → is_live ground.inputs.book.now.sheet node ≡ true
          → IsBefore ground.inputs.book.now.sheet (turn 3 0 0) node ⊎ (is_by_row node ≡ true) → Has b number node
      by node number stood live (inl early) = written.kept node number stood live (is.known node number stood live early)
      by node number stood live (inr own) = written.each node number stood (its-row rows all node live own)

  -- all rows are written, and nothing but their figures
  pub rows-done : (rows : List Row) → ((sort : Sort) (k : ℕ) → k < row_count ground.inputs.book.now.sheet sort → 0 < times_row (row sort k) rows)
      → (a b : List Figure) → AreDoneTo ground a (turn 3 0 0) (turn 3 0 0) → IsWrittenOf ground rows a b → AreRowsDone ground b
  rows-done rows all a b is written = record {
    reckoned = rows-reckoned rows all a b is.reckoned written;
    blocks_there = blocks-rows ground g b (blocks-kept ground g a b (turn 3 0 0) written.parts is.blocks_there);
  }

-- ---- spans of rows

last-row : (sort : Sort) (from many : ℕ) → rows_from sort from (suc many) ≡ rows_from sort from many ++ row sort (from + many) ∷ []
last-row sort from zero = let e : from + 0 ≡ from = omega arith in ap (λ n. row sort n ∷ []) (sym e)
last-row sort from (suc many) =
    let e : from + 1 + many ≡ from + suc many = omega arith in
    ap (λ rs. row sort from ∷ rs) (last-row sort (from + 1) many ∙ ap (λ n. rows_from sort (from + 1) many ++ row sort n ∷ []) e)

-- one row more
pub rows-next : (sort : Sort) (from many : ℕ) → rows_from sort from (many + 1) ≡ rows_from sort from many ++ row sort (from + many) ∷ []
rows-next sort from many =
    let e : many + 1 ≡ suc many = omega arith in ap (rows_from sort from) e ∙ last-row sort from many

-- those from a place on, and those up to it
pub piece-next : (sort : Sort) (k end : ℕ) → k < end → rows_from sort k (end - k) ≡ row sort k ∷ rows_from sort (k + 1) (end - (k + 1))
piece-next sort k end low = let e : end - k ≡ suc (end - (k + 1)) = omega (arith, low) in ap (rows_from sort k) e

pub piece-on : (sort : Sort) (from k : ℕ) → from ≤ k → rows_from sort from (k - from) ++ row sort k ∷ [] ≡ rows_from sort from (k + 1 - from)
piece-on sort from k low =
    let e : k + 1 - from ≡ k - from + 1 = omega (arith, low) in
    let at : from + (k - from) ≡ k = omega (arith, low) in
    ap (λ n. rows_from sort from (k - from) ++ row sort n ∷ []) (sym at)
    ∙ sym (ap (rows_from sort from) e ∙ rows-next sort from (k - from))

drop-at : {A : Type 0} (xs : List A) (k : ℕ) (x : A) → slice_get xs k ≡ Some x → drop k xs ≡ x ∷ drop (k + 1) xs
drop-at xs k x is =
    drop_more xs k x (slice_get_within xs k x is)
    ∙ ap (λ y. y ∷ drop (k + 1) xs) (get_or_from_slice_get xs k x x is)

pub pieces-next : (pieces : List Piece) (i : ℕ) (piece : Piece) → slice_get pieces i ≡ Some piece
    → rows_of (take i pieces) ++ rows_in piece ≡ rows_of (take (i + 1) pieces)
pieces-next pieces i piece got = flat_map_more rows_in [] (take i pieces) piece ∙ ap rows_of (sym (take-next pieces i piece got))

pub pieces-left : (pieces : List Piece) (i : ℕ) (piece : Piece) → slice_get pieces i ≡ Some piece
    → rows_of (drop i pieces) ≡ rows_in piece ++ rows_of (drop (i + 1) pieces)
pieces-left pieces i piece got = ap rows_of (drop-at pieces i piece got)

among-append : (parts : List Part) (part : Part) → rows_among (parts ++ part ∷ []) ≡ rows_among parts ++ rows_of part.pieces.items
among-append [] part = append-nil (rows_of part.pieces.items)
among-append (p ∷ parts) part =
    ap (λ rs. rows_of p.pieces.items ++ rs) (among-append parts part)
    ∙ sym (append_assoc (rows_of p.pieces.items) (rows_among parts) (rows_of part.pieces.items))

pub parts-next : (parts : List Part) (i : ℕ) (part : Part) → slice_get parts i ≡ Some part
    → rows_among (take i parts) ++ rows_of part.pieces.items ≡ rows_among (take (i + 1) parts)
parts-next parts i part got = sym (ap rows_among (take-next parts i part got) ∙ among-append (take i parts) part)

-- each row that there is lies in a piece of a part
among-count : (one : Row) (parts : List Part) → in_pieces.row_count one parts ≡ times_row one (rows_among parts)
among-count one [] = refl
among-count one (part ∷ parts) =
    let all = sum_by-cons (λ (p : Part). times_row one (rows_of p.pieces.items)) part parts in
    let both = times_row-append one (rows_of part.pieces.items) (rows_among parts) in
    let more = among-count one parts in
    omega (arith, all, both, more)

pub all-among : (count : Sort → ℕ) (is_row : Sort → ℕ → List Span → Type 0) (parts : List Part) → AreAllRows count is_row parts
    → (sort : Sort) (k : ℕ) → k < count sort → 0 < times_row (row sort k) (rows_among parts)
all-among count is_row parts all sort k low =
    let one = all.once sort k low in
    let same = among-count (row sort k) parts in
    omega (arith, one, same)

-- and of one worker
pub all-sorts : (count : Sort → ℕ) (sort : Sort) (k : ℕ) → k < count sort → 0 < times_row (row sort k) (all_rows count)
all-sorts count sort k low = let one = all-once count sort k low in omega (arith, one)

-- ---- the room of a row

module _ (sheet : BalanceSheet) (places : Numbered) (numbered : IsNumbered sheet places) where
  pub few-rows : (sort : Sort) (k : ℕ) → k < row_count sheet sort → k < count places (sort_table sort)
  few-rows sorts.Liability k low =
      let rows = numbered.rows tables.Liability refl in
      let long = length-map sheet.liabilities liability_name in
      omega (arith, low, rows, long)
  few-rows sorts.Security k low =
      let rows = numbered.rows tables.Security refl in
      let long = length-map sheet.securities position_name in
      omega (arith, low, rows, long)
  few-rows sorts.Group k low =
      let rows = numbered.rows tables.Group refl in
      let long = length-map sheet.groups group_name in
      omega (arith, low, rows, long)

module _ (ground : Ground) (g : IsGround ground) where
  pub row-few : (sort : Sort) (k : ℕ) → k < row_count ground.inputs.book.now.sheet sort → k < count ground.places.now (sort_table sort)
  row-few = few-rows ground.inputs.book.now.sheet ground.places.now g.numbered

  -- all numbers of a row are below the size
  pub row-room : IsWithin ground.places.now → (sort : Sort) (k : ℕ) → k < row_count ground.inputs.book.now.sheet sort
      → first ground.places.now (sort_table sort) k + stride (sort_table sort) ≤ ground.places.now.size
  row-room within sort k low = room sort (row-few sort k low)
    where
      room : (s : Sort) → k < count ground.places.now (sort_table s)
          → first ground.places.now (sort_table s) k + stride (sort_table s) ≤ ground.places.now.size
      room sorts.Liability few =
          let last = within (first ground.places.now tables.Liability k + 11) tables.Liability k 11
          (record { row = few; family = omega arith; is = refl }) in
          omega (arith, last)
      room sorts.Security few =
          let last = within (first ground.places.now tables.Security k + 5) tables.Security k 5
          (record { row = few; family = omega arith; is = refl }) in
          omega (arith, last)
      room sorts.Group few =
          let last = within (first ground.places.now tables.Group k + 2) tables.Group k 2
          (record { row = few; family = omega arith; is = refl }) in
          omega (arith, last)
