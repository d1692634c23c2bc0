-- A ceiling of what is held of each group, from one edit to the next.
use Rattle.std.proofs.Common.{◌≡◌, ◌⊎◌, inl, inr, ℕ, suc, ◌+◌, ◌<◌, true, is_some, List, [], ◌∷◌, length, IfSome, Option, Some, None, slice_get, refl, sym, ap, subst, ◌∙◌, arith}
use Rattle.std.specs.Prelude.{slice_index}
use Rattle.std.specs.Option.{option_map}
use Rattle.std.proofs.lemmas.Bool.{cases_eq}
use Rattle.std.proofs.lemmas.Option.{slice_get_within}
use Rattle.scr_ids.specs.Ranges.{Numbered, count, first}
use Rattle.scr_ids.specs.declared.table.Table.TheVariants as ranged
use Rattle.scr_figure_ids.specs.Steps.{Takes}
use Rattle.scr_figure_ids.specs.declared.steps.Step.{Step}
use Rattle.scr_figure_ids.specs.declared.steps.Step.TheVariants as steps
use Rattle.scr_sheet.specs.BalanceSheet.{group_name}
use Rattle.scr_sheet.specs.declared.rows.Group.{Group}
use Rattle.scr_nodes.specs.Sources.{concentration_square, group_total}
use Rattle.scr_partial_sums.specs.Tables.{IsAmountBeforeNothing, nothing}
use Rattle.scr_partial_sums.specs.declared.figure.Figure.{Figure}
use Rattle.scr_block_graph.specs.declared.point.Point.{Point}
use Rattle.scr_block_graph.specs.declared.point.Point.TheVariants as points
use Rattle.scr_tree.specs.Ceiling.{IsCeiling, IsWithinAt, ceiling_after}
use Rattle.scr_tree.specs.Figures.{AreKnownOf, Worth, worth_of}
use Rattle.scr_tree.specs.Order.{IsJournaled, undone}
use Rattle.scr_tree.specs.Ready.{AreSettledOn, IsBasis, IsRightOn, StandsOn, reckoning_on, square_number}
use Rattle.scr_tree.specs.Still.{AreAllWithin, AreStillOn, IsTotalWithin}
use Rattle.scr_tree.specs.declared.basis.Basis.{Basis}
use Rattle.scr_tree.specs.declared.journal.Former.{Former}
use Rattle.scr_tree.proofs.FirstRows.{got-map, group-live}
use Rattle.scr_tree.proofs.Journaled.{one-figure, set-other}
use Rattle.scr_tree.proofs.SquareRow.{square-lives, square-stands}
use Rattle.scr_tree.proofs.SquaresEntered.{rows}
use Rattle.scr_tree.proofs.Still.{row-group}

-- ---- what is kept of a table of figures

pub no-ceiling : (places : Numbered) (figures : List Figure) (ceiling : Option ℕ) → ceiling ≡ None → IsCeiling places figures ceiling
no-ceiling places figures ceiling none = record {
  each = λ most some row low. let clash : None ≡ Some most = sym none ∙ some in absurd (cc);
}

amount-kept : (old now : List Figure) (most number : ℕ) → ((n : ℕ) → n < length old → slice_get now n ≡ slice_get old n)
    → IsAmountBeforeNothing most old number → IsAmountBeforeNothing most now number
amount-kept old now most number same is = record {
  figure = is.figure;
  here = same number (slice_get_within old number is.figure is.here) ∙ is.here;
  amount = is.amount;
  next = same (number + 1) (slice_get_within old (number + 1) nothing is.next) ∙ is.next;
}

-- where the rows of groups stay and none of the figures became another
pub ceiling-kept : (before after : Numbered) (old now : List Figure) (ceiling : Option ℕ)
    → count after ranged.Group ≡ count before ranged.Group → ((k : ℕ) → first after ranged.Group k ≡ first before ranged.Group k)
    → ((n : ℕ) → n < length old → slice_get now n ≡ slice_get old n) → IsCeiling before old ceiling → IsCeiling after now ceiling
ceiling-kept before after old now ceiling counts firsts same is = record {
  each = λ most some row low.
      subst (IsAmountBeforeNothing most now) (sym (firsts row))
      (amount-kept old now most (first before ranged.Group row) same (is.each most some row (omega (arith, low, counts))));
}

-- once the numbers of rows have followed
pub ceiling-followed : (step : Step) (old now : Numbered) (figures : List Figure) (ceiling : Option ℕ) → Takes step old now
    → IsCeiling old figures ceiling → IsCeiling now figures (ceiling_after step ceiling)
ceiling-followed steps.Stays old now figures ceiling same is = subst (λ (p : Numbered). IsCeiling p figures ceiling) (sym same) is
ceiling-followed (steps.Comes table) old now figures ceiling takes is = no-ceiling now figures None refl
ceiling-followed (steps.Goes table k) old now figures ceiling takes is = no-ceiling now figures None refl

-- ---- while figures are reckoned anew

-- the former figure of the number is kept, or none became another there
kept-or-same : (former : List Former) (n : ℕ)
    → ((k : ℕ) × (was : Former) × (slice_get former k ≡ Some was) × (was.number ≡ n))
    ⊎ ((now : List Figure) → slice_get (undone former now) n ≡ slice_get now n)
kept-or-same [] n = inr (λ now. refl)
kept-or-same (was ∷ later) n = elim (cases_eq was.number n) [
  | inl same ↦ inl (0, was, refl, same)
  | inr other ↦
      (elim (kept-or-same later n) [
        | inl t ↦ inl (suc t.0, t.1, t.2, t.3)
        | inr not ↦ inr (λ now. set-other (undone later now) was.number n was.figure (λ e. other (sym e)) ∙ not now)
      ])
]

module _ (places : Numbered) (most : ℕ) (former : List Former) (before now : List Figure) (is : IsJournaled former before now)
    (kept : (k : ℕ) (was : Former) → slice_get former k ≡ Some was → IsWithinAt places now most was.number) where
  same-now : (n : ℕ) → ((figures : List Figure) → slice_get (undone former figures) n ≡ slice_get figures n) → slice_get now n ≡ slice_get before n
  same-now n same = sym (same now) ∙ ap (λ (figures : List Figure). slice_get figures n) is.back

  still-stands : (row : ℕ) → row < count places ranged.Group → IsAmountBeforeNothing most before (first places ranged.Group row)
      → IsAmountBeforeNothing most now (first places ranged.Group row)
  still-stands row low one = elim (kept-or-same former (first places ranged.Group row)) [
    | inl t ↦
        (let at = t.3 in kept t.0 t.1 t.2 row 0 (record { row = low; family = omega arith; is = omega (arith, at) }))
    | inr same ↦
        (elim (kept-or-same former (first places ranged.Group row + 1)) [
          | inl t ↦
              (let at = t.3 in kept t.0 t.1 t.2 row 1 (record { row = low; family = omega arith; is = omega (arith, at) }))
          | inr same_next ↦
              record {
                figure = one.figure;
                here = same-now (first places ranged.Group row) same ∙ one.here;
                amount = one.amount;
                next = same-now (first places ranged.Group row + 1) same_next ∙ one.next;
              }
        ])
  ]

  -- a ceiling stands where each figure that became another is still within it
  pub ceiling-stands : IsCeiling places before (Some most) → IsCeiling places now (Some most)
  ceiling-stands was = record {
    each = λ other some row low.
        let same : most ≡ other = cc in
        subst (λ n. IsAmountBeforeNothing n now (first places ranged.Group row)) same (still-stands row low (was.each most refl row low));
  }

-- it is one of the totals at the first numbers of all groups
pub ceiling-firsts : (places : Numbered) (figures : List Figure) (ceiling : Option ℕ) (firsts : List ℕ) → IsCeiling places figures ceiling
    → length firsts ≡ count places ranged.Group
    → ((k : ℕ) → k < count places ranged.Group → slice_index firsts k ≡ first places ranged.Group k)
    → IfSome ceiling (AreAllWithin figures firsts)
ceiling-firsts places figures None firsts is long of = tt
ceiling-firsts places figures (Some most) firsts is long of = λ row low.
    let within : row < count places ranged.Group = omega (arith, low, long) in
    subst (IsAmountBeforeNothing most figures) (sym (of row within)) (is.each most refl row within)

-- what is told of all is told by the ceiling that is kept
pub kept-still : (kept : Option ℕ) (P : ℕ → Type 0) (many count most : ℕ) → IfSome kept (λ ceiling. (many ≡ count) × (most ≡ ceiling)) → (many ≡ count → P most)
    → IfSome kept P
kept-still None P many count most told all = tt
kept-still (Some ceiling) P many count most told all = subst P told.1 (all told.0)

pub some-still : (kept : Option ℕ) (P : ℕ → Type 0) (Q : Type 0) → ((most : ℕ) → P most → Q) → IfSome kept P → is_some kept ≡ true → Q
some-still None P Q step told is = absurd (cc)
some-still (Some most) P Q step told is = step most told

-- ---- once all figures are right

there : (figures : List Figure) (number : ℕ) (worth : Worth) → option_map worth_of (slice_get figures number) ≡ Some worth → (figure : Figure)
    → worth_of figure ≡ worth → slice_get figures number ≡ Some figure
there figures number worth has figure right = by (slice_get figures number) has
  where
    by : (found : Option Figure) → option_map worth_of found ≡ Some worth → found ≡ Some figure
    by None none = absurd (cc)
    by (Some other) is =
        let both : Some (worth_of other) ≡ Some worth = is in
        let same : worth_of other ≡ worth_of figure = (let one : worth_of other ≡ worth = cc in one ∙ sym right) in
        ap Some (one-figure other figure (ap (λ (w : Worth). w.worked) same) (ap (λ (w : Worth). w.close) same))

module _ (b : Basis) (is : IsBasis b) (figures : List Figure) (settled : AreSettledOn b figures) where
  figure-there : (point : Point) (number : ℕ) → StandsOn b point number → (reckoning_on b).graph.live point ≡ true → (figure : Figure)
      → IsRightOn b number figure → slice_get figures number ≡ Some figure
  unfolding AreKnownOf
  figure-there point number at live figure right =
      there figures number ((reckoning_on b).worth point) (settled point number at live tt) figure (right point at)

  total-there : (most row : ℕ) → row < count b.places.now ranged.Group → AreStillOn b most → IsAmountBeforeNothing most figures (first b.places.now ranged.Group row)
  total-there most row low still = record {
    figure = own.0;
    here = figure-there (points.Figure (group_total group)) number total-stands (group-live b.inputs.book.now.sheet is.valid row group got) own.0 own.2;
    amount = own.1;
    next = figure-there (points.Figure (concentration_square group)) (square_number b row) (square-stands b is row group got (square_number b row) (within, refl))
        (square-lives b is row group got (square_number b row) (within, refl)) nothing (still.squares row (square_number b row) (within, refl));
  }
    where
      number : ℕ
      number = first b.places.now ranged.Group row

      within : row < length b.inputs.book.now.sheet.groups
      within = let same = rows b.inputs.book.now b.places.now b.lists.now is.graph.numbers_of in omega (arith, low, same)

      found : (group : Group) × (slice_get b.inputs.book.now.sheet.groups row ≡ Some group)
      found = row-group b.inputs.book.now.sheet.groups row within

      group : Group
      group = found.0

      got : slice_get b.inputs.book.now.sheet.groups row ≡ Some group
      got = found.1

      own : IsTotalWithin b most row
      own = still.totals row within

      total-stands : StandsOn b (points.Figure (group_total group)) number
      total-stands = record {
        k = row;
        row = got-map group_name b.inputs.book.now.sheet.groups row group got;
        at = record { row = low; family = omega arith; is = omega arith };
      }

  -- a ceiling of what the totals come to is one of the table
  pub ceiling-settled : (ceiling : Option ℕ) → IfSome ceiling (AreStillOn b) → IsCeiling b.places.now figures ceiling
  ceiling-settled None still = no-ceiling b.places.now figures None refl
  ceiling-settled (Some most) still = record {
    each = λ other some row low.
        let same : most ≡ other = cc in
        subst (λ n. IsAmountBeforeNothing n figures (first b.places.now ranged.Group row)) same (total-there most row low still);
  }
