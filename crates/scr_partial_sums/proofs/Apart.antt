-- Cells of a table, and the figures that stand apart.
use Rattle.std.proofs.Common.{◌≡◌, ◌⊎◌, inl, inr, ℕ, zero, suc, ◌+◌, ◌<◌, ◌++◌, List, [], ◌∷◌, Some, length, map, set, get_or, slice_get, refl, sym, ap, ap₂, ◌∙◌, arith}
use Rattle.std.specs.List.{count_by}
use Rattle.std.specs.Option.{option_map}
use Rattle.std.specs.Prelude.{cond}
use Rattle.std.proofs.Math.Seq.{get_or-append_seam}
use Rattle.std.proofs.lemmas.List.{get_or-set_other, get_or-set_same, get_or_append_left, map-set, set-get_or}
use Rattle.std.proofs.lemmas.List.Sums.{sum_by-set}
use Rattle.std.proofs.lemmas.Option.{get_or_from_slice_get, slice_get-map, slice_get_within}
use Rattle.scr_partial_sums.specs.KeptTables.{figure_of, is_here}
use Rattle.scr_partial_sums.specs.Tables.{nothing}
use Rattle.scr_partial_sums.specs.declared.cell.Kept.{Kept}
use Rattle.scr_partial_sums.specs.declared.cell.Kept.TheVariants as kept
use Rattle.scr_partial_sums.specs.declared.figure.Figure.{Figure}
use Rattle.scr_partial_sums.proofs.Putting.{set-here}

module _ {A B : Type 0} where
  -- what two calls tell alike of each element they tell alike of the list
  pub map-agree : (f g : A → B) (xs : List A) → ((i : ℕ) (x : A) → slice_get xs i ≡ Some x → f x ≡ g x) → map f xs ≡ map g xs
  map-agree f g [] same = refl
  map-agree f g (x ∷ xs) same = ap₂ (λ (y : B) (ys : List B). y ∷ ys) (same 0 x refl) (map-agree f g xs (λ i. same (suc i)))

module _ {A : Type 0} where
  -- what stands at a place of a list in which one place was set: what was set there, or what stood there
  pub got-one : (xs : List A) (k : ℕ) (y : A) (i : ℕ) (z : A) → slice_get (set xs k y) i ≡ Some z
      → ((i ≡ k) × (z ≡ y)) ⊎ (slice_get xs i ≡ Some z)
  got-one [] k y i z is = inr is
  got-one (x ∷ xs) zero y zero z is = inl (refl, let e : y ≡ z = cc in sym e)
  got-one (x ∷ xs) zero y (suc i) z is = inr is
  got-one (x ∷ xs) (suc k) y zero z is = inr is
  got-one (x ∷ xs) (suc k) y (suc i) z is = further (got-one xs k y i z is)
    where
      further : ((i ≡ k) × (z ≡ y)) ⊎ (slice_get xs i ≡ Some z) → ((suc i ≡ suc k) × (z ≡ y)) ⊎ (slice_get (x ∷ xs) (suc i) ≡ Some z)
      further (inl two) = inl (ap suc two.0, two.1)
      further (inr at) = inr at

-- no two cells have one place
abbrev pub AreOwn : List Kept → Type 0
AreOwn cells = (one other place : ℕ) → slice_get cells one ≡ Some (kept.Apart place) → slice_get cells other ≡ Some (kept.Apart place) → one ≡ other

-- each place is one of so many
abbrev pub AreWithin : List Kept → ℕ → Type 0
AreWithin cells size = (number place : ℕ) → slice_get cells number ≡ Some (kept.Apart place) → place < size

-- a cell does not hold both
both : {A : Type 0} (cells : List Kept) (number place : ℕ) (figure : Figure) → slice_get cells number ≡ Some (kept.Here figure)
    → slice_get cells number ≡ Some (kept.Apart place) → A
both cells number place figure here apart = let e : Some (kept.Here figure) ≡ Some (kept.Apart place) = sym here ∙ apart in absurd (cc)

-- a figure is written over one that stands apart
pub written-apart : (wide : List Figure) (cells : List Kept) (number place : ℕ) (figure : Figure) → AreOwn cells
    → slice_get cells number ≡ Some (kept.Apart place) → place < length wide
    → map (figure_of (set wide place figure)) cells ≡ set (map (figure_of wide) cells) number figure
written-apart wide cells number place figure own at within =
    sym (sym (map-set (figure_of wide) cells number (kept.Here figure))
    ∙ map-agree (figure_of wide) (figure_of (set wide place figure)) (set cells number (kept.Here figure)) agree
    ∙ map-set (figure_of (set wide place figure)) cells number (kept.Here figure)
    ∙ ap (set (map (figure_of (set wide place figure)) cells) number) (sym there)
    ∙ set-get_or (map (figure_of (set wide place figure)) cells) number nothing)
  where
    there : get_or (map (figure_of (set wide place figure)) cells) number nothing ≡ figure
    there = get_or_from_slice_get (map (figure_of (set wide place figure)) cells) number (figure_of (set wide place figure) (kept.Apart place)) nothing
        (slice_get-map (figure_of (set wide place figure)) cells number ∙ ap (option_map (figure_of (set wide place figure))) at)
        ∙ get_or-set_same wide place figure nothing within

    agree : (i : ℕ) (cell : Kept) → slice_get (set cells number (kept.Here figure)) i ≡ Some cell
        → figure_of wide cell ≡ figure_of (set wide place figure) cell
    agree i (kept.Here one) is = refl
    agree i (kept.Apart other) is = sym (get_or-set_other wide place other figure nothing (λ e. by e (got-one cells number (kept.Here figure) i (kept.Apart other) is)))
      where
        by : other ≡ place → ((i ≡ number) × (kept.Apart other ≡ kept.Here figure)) ⊎ (slice_get cells i ≡ Some (kept.Apart other)) → ⊥
        by e (inl two) = let no = two.1 in absurd (cc)
        by e (inr stood) =
            let same : i ≡ number = own i number place (stood ∙ ap (λ (p : ℕ). Some (kept.Apart p)) e) at in
            both (set cells number (kept.Here figure)) number other figure
            (set-here cells number (kept.Here figure) (slice_get_within cells number (kept.Apart place) at))
            (ap (slice_get (set cells number (kept.Here figure))) (sym same) ∙ is)

-- a figure comes to stand apart
pub written-last : (wide : List Figure) (cells : List Kept) (number : ℕ) (figure : Figure) → AreWithin cells (length wide)
    → map (figure_of (wide ++ figure ∷ [])) (set cells number (kept.Apart (length wide))) ≡ set (map (figure_of wide) cells) number figure
written-last wide cells number figure within =
    map-set (figure_of (wide ++ figure ∷ [])) cells number (kept.Apart (length wide))
    ∙ ap₂ (λ (figures : List Figure) (one : Figure). set figures number one)
    (sym (map-agree (figure_of wide) (figure_of (wide ++ figure ∷ [])) cells agree)) (get_or-append_seam wide figure [] nothing)
  where
    agree : (i : ℕ) (cell : Kept) → slice_get cells i ≡ Some cell → figure_of wide cell ≡ figure_of (wide ++ figure ∷ []) cell
    agree i (kept.Here one) is = refl
    agree i (kept.Apart place) is = sym (get_or_append_left wide (figure ∷ []) nothing place (within i place is))

-- places stay within and own where a cell takes a figure
pub within-here : (cells : List Kept) (size number : ℕ) (figure : Figure) → AreWithin cells size → AreWithin (set cells number (kept.Here figure)) size
within-here cells size number figure within i place is = by (got-one cells number (kept.Here figure) i (kept.Apart place) is)
  where
    by : ((i ≡ number) × (kept.Apart place ≡ kept.Here figure)) ⊎ (slice_get cells i ≡ Some (kept.Apart place)) → place < size
    by (inl two) = let no = two.1 in absurd (cc)
    by (inr stood) = within i place stood

pub own-here : (cells : List Kept) (number : ℕ) (figure : Figure) → AreOwn cells → AreOwn (set cells number (kept.Here figure))
own-here cells number figure own one other place first second =
    own one other place (stood one first) (stood other second)
  where
    stood : (i : ℕ) → slice_get (set cells number (kept.Here figure)) i ≡ Some (kept.Apart place) → slice_get cells i ≡ Some (kept.Apart place)
    stood i is = by (got-one cells number (kept.Here figure) i (kept.Apart place) is)
      where
        by : ((i ≡ number) × (kept.Apart place ≡ kept.Here figure)) ⊎ (slice_get cells i ≡ Some (kept.Apart place)) → slice_get cells i ≡ Some (kept.Apart place)
        by (inl two) = let no = two.1 in absurd (cc)
        by (inr at) = at

-- and where one takes the next place
pub within-last : (cells : List Kept) (size number : ℕ) → AreWithin cells size → AreWithin (set cells number (kept.Apart size)) (size + 1)
within-last cells size number within i place is = by (got-one cells number (kept.Apart size) i (kept.Apart place) is)
  where
    by : ((i ≡ number) × (kept.Apart place ≡ kept.Apart size)) ⊎ (slice_get cells i ≡ Some (kept.Apart place)) → place < size + 1
    by (inl two) = let same = two.1 in let e : place ≡ size = cc in omega (arith, e)
    by (inr stood) = let low = within i place stood in omega (arith, low)

pub own-last : (cells : List Kept) (size number : ℕ) → AreWithin cells size → AreOwn cells → AreOwn (set cells number (kept.Apart size))
own-last cells size number within own one other place first second =
    by (got-one cells number (kept.Apart size) one (kept.Apart place) first) (got-one cells number (kept.Apart size) other (kept.Apart place) second)
  where
    by : ((one ≡ number) × (kept.Apart place ≡ kept.Apart size)) ⊎ (slice_get cells one ≡ Some (kept.Apart place))
        → ((other ≡ number) × (kept.Apart place ≡ kept.Apart size)) ⊎ (slice_get cells other ≡ Some (kept.Apart place)) → one ≡ other
    by (inl a) (inl b) = a.0 ∙ sym b.0
    by (inl a) (inr b) = let same = a.1 in let e : place ≡ size = cc in let low = within other place b in absurd (omega (arith, e, low))
    by (inr a) (inl b) = let same = b.1 in let e : place ≡ size = cc in let low = within one place a in absurd (omega (arith, e, low))
    by (inr a) (inr b) = own one other place a b

-- how many cells hold their figures
pub count-last : (cells : List Kept) (number place : ℕ) (figure : Figure) → slice_get cells number ≡ Some (kept.Here figure)
    → count_by is_here (set cells number (kept.Apart place)) + 1 ≡ count_by is_here cells
count-last cells number place figure at =
    let all = sum_by-set (λ (cell : Kept). cond (is_here cell) 1 0) cells number (kept.Apart place) (kept.Here figure) (slice_get_within cells number (kept.Here figure) at) in
    let one : ◌≡◌ {A = ℕ} (cond (is_here (get_or cells number (kept.Here figure))) 1 0) 1 =
    ap {B = ℕ} (λ (cell : Kept). cond (is_here cell) 1 0) (get_or_from_slice_get cells number (kept.Here figure) (kept.Here figure) at) in
    omega (arith, all, one)

pub count-here : (cells : List Kept) (number : ℕ) (before after : Figure) → slice_get cells number ≡ Some (kept.Here before)
    → count_by is_here (set cells number (kept.Here after)) ≡ count_by is_here cells
count-here cells number before after at =
    let all = sum_by-set (λ (cell : Kept). cond (is_here cell) 1 0) cells number (kept.Here after) (kept.Here before) (slice_get_within cells number (kept.Here before) at) in
    let one : ◌≡◌ {A = ℕ} (cond (is_here (get_or cells number (kept.Here before))) 1 0) 1 =
    ap {B = ℕ} (λ (cell : Kept). cond (is_here cell) 1 0) (get_or_from_slice_get cells number (kept.Here before) (kept.Here before) at) in
    omega (arith, all, one)
