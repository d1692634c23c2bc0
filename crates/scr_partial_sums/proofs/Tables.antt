-- A table of figures that one is written in.
use Rattle.std.proofs.Common.{◌≡◌, ℕ, zero, suc, ◌+◌, ◌<◌, ◌≤◌, ◌++◌, List, [], ◌∷◌, Some, length, map, replicate, set, slice_get, refl, sym, ap, ap₂, subst, ◌∙◌, arith}
use Rattle.std.specs.List.{count_by}
use Rattle.std.specs.Option.{option_map}
use Rattle.std.specs.Vec.{vec_capacity}
use Rattle.std.proofs.lemmas.List.{length-append, length-map, length-replicate, map-set}
use Rattle.std.proofs.lemmas.List.Sums.{count_by-le-length}
use Rattle.std.proofs.lemmas.Option.{slice_get-get_or, slice_get-map, slice_get_within}
use Rattle.scr_partial_sums.specs.KeptTables.{IsKept, figure_of, figures_in, is_here}
use Rattle.scr_partial_sums.specs.Tables.{nothing}
use Rattle.scr_partial_sums.specs.declared.cell.Kept.{Kept}
use Rattle.scr_partial_sums.specs.declared.cell.Kept.TheVariants as kept
use Rattle.scr_partial_sums.specs.declared.figure.Figure.{Figure}
use Rattle.scr_partial_sums.specs.declared.figures.Figures.TheInside.{Inside}
use Rattle.scr_partial_sums.proofs.Apart.{AreOwn, AreWithin, count-here, count-last, own-here, own-last, within-here, within-last, written-apart, written-last}

-- the number is one of the cells
pub number-low : (table : Inside) (figures : List Figure) (number : ℕ) → figures_in table ≡ figures → number < length figures
    → number < length table.cells.items
number-low table figures number is low =
    let long = ap length is in let same = length-map table.cells.items (figure_of table.wide.items) in omega (arith, long, same, low)

-- what is read off a cell
pub read-here : (table : Inside) (figures : List Figure) (number : ℕ) (figure : Figure) → figures_in table ≡ figures
    → slice_get table.cells.items number ≡ Some (kept.Here figure) → slice_get figures number ≡ Some figure
read-here table figures number figure is at =
    ap (λ (fs : List Figure). slice_get fs number) (sym is) ∙ slice_get-map (figure_of table.wide.items) table.cells.items number
    ∙ ap (option_map (figure_of table.wide.items)) at

-- and where it tells a place, at that
pub read-apart : (table : Inside) (figures : List Figure) (number place : ℕ) (figure : Figure) → figures_in table ≡ figures
    → slice_get table.cells.items number ≡ Some (kept.Apart place) → slice_get table.wide.items place ≡ Some figure
    → slice_get figures number ≡ Some figure
read-apart table figures number place figure is at stood =
    ap (λ (fs : List Figure). slice_get fs number) (sym is) ∙ slice_get-map (figure_of table.wide.items) table.cells.items number
    ∙ ap (option_map (figure_of table.wide.items)) at
    ∙ sym (slice_get-get_or table.wide.items place nothing (slice_get_within table.wide.items place figure stood)) ∙ stood

module _ (before after : Inside) (number : ℕ) (figure : Figure) where
  -- a narrow figure is written over one
  pub kept-here : (old : Figure) → slice_get before.cells.items number ≡ Some (kept.Here old)
      → after.cells.items ≡ set before.cells.items number (kept.Here figure) → after.wide.items ≡ before.wide.items
      → vec_capacity before.wide ≤ vec_capacity after.wide → IsKept before → IsKept after
  kept-here old at cells wide room is = record {
    within = subst (λ cs. AreWithin cs (length after.wide.items)) (sym cells)
        (subst (λ ws. AreWithin (set before.cells.items number (kept.Here figure)) (length ws)) (sym wide)
        (within-here before.cells.items (length before.wide.items) number figure is.within));
    own = subst AreOwn (sym cells) (own-here before.cells.items number figure is.own);
    room = let same = count-here before.cells.items number old figure at in let now = ap (count_by is_here) cells in
        let long = ap (λ (ws : List Figure). length ws) wide in let was = is.room in omega (arith, same, now, long, room, was);
  }

  pub shown-here : after.cells.items ≡ set before.cells.items number (kept.Here figure) → after.wide.items ≡ before.wide.items
      → figures_in after ≡ set (figures_in before) number figure
  shown-here cells wide =
      ap₂ (λ (ws : List Figure) (cs : List Kept). map (figure_of ws) cs) wide cells
      ∙ map-set (figure_of before.wide.items) before.cells.items number (kept.Here figure)

  -- one is written over that stands apart
  pub shown-apart : (place : ℕ) → slice_get before.cells.items number ≡ Some (kept.Apart place) → after.cells.items ≡ before.cells.items
      → after.wide.items ≡ set before.wide.items place figure → IsKept before → figures_in after ≡ set (figures_in before) number figure
  shown-apart place at cells wide is =
      ap₂ (λ (ws : List Figure) (cs : List Kept). map (figure_of ws) cs) wide cells
      ∙ written-apart before.wide.items before.cells.items number place figure is.own at (is.within number place at)

  -- one comes to stand apart
  pub kept-last : (old : Figure) → slice_get before.cells.items number ≡ Some (kept.Here old)
      → after.cells.items ≡ set before.cells.items number (kept.Apart (length before.wide.items))
      → after.wide.items ≡ before.wide.items ++ figure ∷ [] → vec_capacity before.wide ≤ vec_capacity after.wide → IsKept before → IsKept after
  kept-last old at cells wide room is = record {
    within = subst (λ cs. AreWithin cs (length after.wide.items)) (sym cells)
        (subst (AreWithin (set before.cells.items number (kept.Apart (length before.wide.items)))) (sym long)
        (within-last before.cells.items (length before.wide.items) number is.within));
    own = subst AreOwn (sym cells) (own-last before.cells.items (length before.wide.items) number is.within is.own);
    room = let fewer = count-last before.cells.items number (length before.wide.items) old at in let now = ap (count_by is_here) cells in
        let more = long in let was = is.room in omega (arith, fewer, now, more, room, was);
  }
    where
      long : length after.wide.items ≡ length before.wide.items + 1
      long = ap (λ (ws : List Figure). length ws) wide ∙ length-append before.wide.items (figure ∷ [])

  pub shown-last : after.cells.items ≡ set before.cells.items number (kept.Apart (length before.wide.items))
      → after.wide.items ≡ before.wide.items ++ figure ∷ [] → IsKept before → figures_in after ≡ set (figures_in before) number figure
  shown-last cells wide is =
      ap₂ (λ (ws : List Figure) (cs : List Kept). map (figure_of ws) cs) wide cells
      ∙ written-last before.wide.items before.cells.items number figure is.within

-- there is room for one more that stands apart where a cell holds its figure
pub room-left : (table : Inside) (number : ℕ) (figure : Figure) → slice_get table.cells.items number ≡ Some (kept.Here figure) → IsKept table
    → length table.wide.items < vec_capacity table.wide
room-left table number figure at is =
    let fewer = count-last table.cells.items number 0 figure at in let was = is.room in omega (arith, fewer, was)

-- what stands in cells that all hold the figure that comes to nothing
none-apart : (size number place : ℕ) → slice_get (replicate size (kept.Here nothing)) number ≡ Some (kept.Apart place) → ⊥
none-apart zero number place is = absurd (cc)
none-apart (suc size) zero place is = absurd (cc)
none-apart (suc size) (suc number) place is = none-apart size number place is

all-nothing : (wide : List Figure) (size : ℕ) → map (figure_of wide) (replicate size (kept.Here nothing)) ≡ replicate size nothing
all-nothing wide zero = refl
all-nothing wide (suc size) = ap (λ (fs : List Figure). nothing ∷ fs) (all-nothing wide size)

pub kept-new : (table : Inside) (size : ℕ) → table.cells.items ≡ replicate size (kept.Here nothing) → table.wide.items ≡ []
    → size ≤ vec_capacity table.wide → IsKept table
kept-new table size cells wide room = record {
  within = λ number place is. absurd (none-apart size number place (ap (λ cs. slice_get cs number) (sym cells) ∙ is));
  own = λ one other place is also. absurd (none-apart size one place (ap (λ cs. slice_get cs one) (sym cells) ∙ is));
  room = let few = count_by-le-length is_here table.cells.items in let long = ap (λ (cs : List Kept). length cs) cells ∙ length-replicate size (kept.Here nothing) in
      let none = ap (λ (ws : List Figure). length ws) wide in omega (arith, few, long, none, room);
}

pub shown-new : (table : Inside) (size : ℕ) → table.cells.items ≡ replicate size (kept.Here nothing) → figures_in table ≡ replicate size nothing
shown-new table size cells = ap (map (figure_of table.wide.items)) cells ∙ all-nothing table.wide.items size

-- one cell more, which holds it
one-more : (cells : List Kept) (number place : ℕ) → slice_get (cells ++ kept.Here nothing ∷ []) number ≡ Some (kept.Apart place)
    → slice_get cells number ≡ Some (kept.Apart place)
one-more [] zero place is = absurd (cc)
one-more [] (suc number) place is = is
one-more (cell ∷ cells) zero place is = is
one-more (cell ∷ cells) (suc number) place is = one-more cells number place is

pub kept-more : (before after : Inside) → after.cells.items ≡ before.cells.items ++ kept.Here nothing ∷ [] → after.wide.items ≡ before.wide.items
    → length before.wide.items + (length before.cells.items + 1) ≤ vec_capacity after.wide → IsKept before → IsKept after
kept-more before after cells wide room is = record {
  within = λ number place at. subst (λ (ws : List Figure). place < length ws) (sym wide)
      (is.within number place (one-more before.cells.items number place (ap (λ cs. slice_get cs number) (sym cells) ∙ at)));
  own = λ one other place at also. is.own one other place
      (one-more before.cells.items one place (ap (λ cs. slice_get cs one) (sym cells) ∙ at))
      (one-more before.cells.items other place (ap (λ cs. slice_get cs other) (sym cells) ∙ also));
  room = let few = count_by-le-length is_here after.cells.items in
      let long = ap (λ (cs : List Kept). length cs) cells ∙ length-append before.cells.items (kept.Here nothing ∷ []) in
      let same = ap (λ (ws : List Figure). length ws) wide in omega (arith, few, long, same, room);
}

-- more room alone changes nothing
pub kept-roomier : (before after : Inside) → after.cells.items ≡ before.cells.items → after.wide.items ≡ before.wide.items
    → vec_capacity before.wide ≤ vec_capacity after.wide → IsKept before → IsKept after
kept-roomier before after cells wide room is = record {
  within = subst (λ cs. AreWithin cs (length after.wide.items)) (sym cells)
      (subst (λ (ws : List Figure). AreWithin before.cells.items (length ws)) (sym wide) is.within);
  own = subst AreOwn (sym cells) is.own;
  room = let now = ap (count_by is_here) cells in let long = ap (λ (ws : List Figure). length ws) wide in let was = is.room in
      omega (arith, now, long, room, was);
}
