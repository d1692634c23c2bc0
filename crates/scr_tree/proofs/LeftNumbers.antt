-- The numbers of what is left of the first reckoning, listed one after another.
use Rattle.std.proofs.Common.{◌≡◌, ◌⊎◌, inl, inr, ℕ, ◌+◌, ◌<◌, ◌++◌, true, false, nat_eq, List, [], ◌∷◌, Contains, refl, sym, ap, subst, ◌∙◌, arith}
use Rattle.std.specs.List.{IsDistinct}
use Rattle.std.proofs.lemmas.Bool.{eqb-true, eq-eqb}
use Rattle.scr_figure_ids.specs.Families.{whole_family}
use Rattle.scr_figure_ids.specs.Numbers.{IsNumbered, StandsAt}
use Rattle.scr_tables.proofs.TableRows.{passes_or_fails}
use Rattle.scr_nodes.specs.Live.{is_live}
use Rattle.scr_nodes.specs.declared.node.Node.TheVariants as nodes
use Rattle.scr_nodes.specs.declared.node.Whole.{Whole}
use Rattle.scr_nodes.specs.declared.node.Whole.TheVariants as wholes
use Rattle.scr_ids.specs.Ranges.{Numbered, count, first}
use Rattle.scr_ids.specs.declared.table.Table.TheVariants as tables
use Rattle.scr_sheet.specs.declared.sheet.BalanceSheet.{BalanceSheet}
use Rattle.scr_funds.proofs.Members.{IsMember, Contains-from_IsMember, IsMember-from_Contains, IsMember-left, IsMember-right, IsMember-cases}
use Rattle.scr_reachability.specs.LinkedDues.{IsLiveAt}
use Rattle.scr_block_graph.specs.Books.{rolled_of}
use Rattle.scr_block_graph.specs.Graph.{is_live_in}
use Rattle.scr_block_graph.specs.declared.point.Point.{Point}
use Rattle.scr_block_graph.specs.declared.point.Point.TheVariants as points
use Rattle.scr_tree.specs.Left.{AreLeft, IsLeftAt, is_after_rows, is_left}
use Rattle.scr_tree.specs.Points.{AreNumbersOf, StandsIn, book_graph}
use Rattle.scr_tree.specs.Turns.{stage_of}
use Rattle.scr_tree.specs.declared.graph.Numbers.{Numbers}
use Rattle.scr_tree.proofs.Sorting.{distinct-last, none-distinct}
use Rattle.scr_tree.proofs.Turns.{whole-last}

-- what is left lives
pub live-left : (numbers : Numbers) (number : ℕ) → IsLeftAt numbers number
    → IsLiveAt (book_graph (rolled_of numbers.book.now)) (StandsIn numbers.book.now numbers.places.now numbers.lists.now) number
live-left numbers number left = (left.0, left.1, left.2)

-- none that it has there is left
abbrev HasNoneLeft : Numbers → ℕ → Type 0
HasNoneLeft numbers number = (point : Point) → StandsIn numbers.book.now numbers.places.now numbers.lists.now point number
    → is_live_in (rolled_of numbers.book.now) point ≡ true → is_left point ≡ false

-- a figure of the whole sheet has its family as its number, and the assets of which concentrations are measured have the last one
after-rows : (what : Whole) → is_after_rows what ≡ true → stage_of (nodes.Whole what) ≡ 7
after-rows wholes.Assets after = absurd (let clash : false ≡ true = after in cc)
after-rows what after = refl

first-number : (sheet : BalanceSheet) (places : Numbered) → IsNumbered sheet places → (what : Whole) (number : ℕ)
    → StandsAt sheet places (nodes.Whole what) number → is_live sheet (nodes.Whole what) ≡ true → is_after_rows what ≡ true → number < 153
first-number sheet places numbered what number at live after =
    let rows : count places tables.Whole ≡ 1 = numbered.rows tables.Whole refl in
    let row = at.at.row in
    let only : at.k ≡ 0 = omega (arith, rows, row) in
    let from = ap (first places tables.Whole) only in
    let start = numbered.whole in
    let is = at.at.is in
    let low : whole_family what < 153 = whole-last sheet places numbered what live (after-rows what after) in
    omega (arith, from, start, is, low)

-- just the numbers below the end of what is left are listed, each once
pub record AreLeftBelow (numbers : Numbers) (end : ℕ) (list : List ℕ) : Type 0 where
  pub once : IsDistinct nat_eq list
  pub each : (number : ℕ) → Contains list number → (number < end) × IsLeftAt numbers number
  pub all : (point : Point) (number : ℕ) → number < end → StandsIn numbers.book.now numbers.places.now numbers.lists.now point number
      → is_live_in (rolled_of numbers.book.now) point ≡ true → is_left point ≡ true → Contains list number

-- a number below the next end is below this one, or is the end
below-or : (number end : ℕ) → number < end + 1 → (number < end) ⊎ (number ≡ end)
below-or number end low = passes_or_fails (nat_eq number end)
    (λ e. inr (eqb-true number end e))
    (λ e.
    let other : number ≡ end → ⊥ =
    λ same. (let clash : true ≡ false = sym (eq-eqb number end same) ∙ e in absurd (cc)) in
    inl (omega (arith, low, other)))

module _ (numbers : Numbers) where
  -- ---- what stands at a number

  module _ (number : ℕ) (are : AreNumbersOf numbers.book.now numbers.places.now numbers.lists.now) (own : Point)
      (there : StandsIn numbers.book.now numbers.places.now numbers.lists.now own number) where
    -- a point that is not left
    pub not-left : is_left own ≡ false → HasNoneLeft numbers number
    not-left none point at live = subst (λ p. is_left p ≡ false) (are.numbers.exact number own point there at) none

    -- one that the book does not have
    pub not-live : is_live_in (rolled_of numbers.book.now) own ≡ false → HasNoneLeft numbers number
    not-live dead point at live =
        let gone : is_live_in (rolled_of numbers.book.now) point ≡ false =
        subst (λ p. is_live_in (rolled_of numbers.book.now) p ≡ false) (are.numbers.exact number own point there at) dead in
        let clash : true ≡ false = sym live ∙ gone in absurd (cc)

  -- ---- one number after another

  pub below-none : (list : List ℕ) → list ≡ [] → AreLeftBelow numbers 0 list
  below-none list empty = record {
    once = subst (IsDistinct nat_eq) (sym empty) none-distinct;
    each = λ number has. absurd (IsMember-from_Contains [] number (subst (λ ns. Contains ns number) empty has));
    all = λ point number low at live left. absurd (omega (arith, low));
  }

  module _ (number : ℕ) (list : List ℕ) (so : AreLeftBelow numbers number list) where
    -- none is left at the number
    pub below-dead : HasNoneLeft numbers number → AreLeftBelow numbers (number + 1) list
    below-dead dead = record {
      once = so.once;
      each = λ m has. let e = so.each m has in let low = e.0 in (omega (arith, low), e.1);
      all = λ point m low at live left. all point m at live left (below-or m number low);
    }
      where
        all : (point : Point) (m : ℕ) → StandsIn numbers.book.now numbers.places.now numbers.lists.now point m
            → is_live_in (rolled_of numbers.book.now) point ≡ true → is_left point ≡ true → (m < number) ⊎ (m ≡ number) → Contains list m
        all point m at live left (inl low) = so.all point m low at live left
        all point m at live left (inr same) =
            let none : is_left point ≡ false = subst (HasNoneLeft numbers) (sym same) dead point at live in
            let clash : true ≡ false = sym left ∙ none in absurd (cc)

    -- one is
    pub below-live : (new : List ℕ) → IsLeftAt numbers number → new ≡ list ++ number ∷ [] → AreLeftBelow numbers (number + 1) new
    below-live new its more = record {
      once = subst (IsDistinct nat_eq) (sym more) (distinct-last list number so.once fresh);
      each = λ m has. each m (IsMember-cases list (number ∷ []) m (subst (IsMember m) more (IsMember-from_Contains new m has)));
      all = λ point m low at live left. all point m at live left (below-or m number low);
    }
      where
        fresh : IsMember number list → ⊥
        fresh has =
            let e = so.each number (Contains-from_IsMember list number has) in let low = e.0 in
            let no : ⊥ = omega (arith, low) in no

        in-now : (m : ℕ) → IsMember m (list ++ number ∷ []) → Contains new m
        in-now m has = Contains-from_IsMember new m (subst (IsMember m) (sym more) has)

        each : (m : ℕ) → IsMember m list ⊎ IsMember m (number ∷ []) → (m < number + 1) × IsLeftAt numbers m
        each m (inl has) = let e = so.each m (Contains-from_IsMember list m has) in let low = e.0 in (omega (arith, low), e.1)
        each m (inr (inl same)) = (omega (arith, same), subst (IsLeftAt numbers) (sym same) its)
        each m (inr (inr has)) = absurd has

        all : (point : Point) (m : ℕ) → StandsIn numbers.book.now numbers.places.now numbers.lists.now point m
            → is_live_in (rolled_of numbers.book.now) point ≡ true → is_left point ≡ true → (m < number) ⊎ (m ≡ number) → Contains new m
        all point m at live left (inl low) =
            in-now m (IsMember-left list (number ∷ []) m (IsMember-from_Contains list m (so.all point m low at live left)))
        all point m at live left (inr same) = in-now m (IsMember-right list (number ∷ []) m (inl same))

  -- the others have later numbers
  pub below-all : AreNumbersOf numbers.book.now numbers.places.now numbers.lists.now → (list : List ℕ) → AreLeftBelow numbers 153 list
      → AreLeft numbers list
  below-all are list so = record {
    once = so.once;
    each = λ number has. (so.each number has).1;
    all = λ point number at live left. so.all point number (early point number at live left) at live left;
  }
    where
      early : (point : Point) (number : ℕ) → StandsIn numbers.book.now numbers.places.now numbers.lists.now point number
          → is_live_in (rolled_of numbers.book.now) point ≡ true → is_left point ≡ true → number < 153
      early (points.Figure (nodes.Whole what)) number at live left =
          first-number numbers.book.now.sheet numbers.places.now are.numbered what number at live left
      early (points.Figure (nodes.Fund name what)) number at live left = absurd (let clash : false ≡ true = left in cc)
      early (points.Figure (nodes.Security name what)) number at live left = absurd (let clash : false ≡ true = left in cc)
      early (points.Figure (nodes.Liability name what)) number at live left = absurd (let clash : false ≡ true = left in cc)
      early (points.Figure (nodes.Group name what)) number at live left = absurd (let clash : false ≡ true = left in cc)
      early (points.Figure (nodes.Currency name what)) number at live left = absurd (let clash : false ≡ true = left in cc)
      early (points.Block block) number at live left = absurd (let clash : false ≡ true = left in cc)
