-- The ends at a number are those of the point there, and what is due in an order can be reckoned by several workers.
use Rattle.std.proofs.Common.{◌≡◌, ◌⊎◌, inl, inr, ◌||◌, ◌&&◌, ℕ, suc, ◌+◌, ◌<◌, ◌++◌, Bool, true, false, cond, nat_eq, List, [], ◌∷◌, Option, Some, None, Result, Ok, Err, IfOk, length, map, pos, slice_get, Contains, refl, sym, ap, ap₂, subst, ◌∙◌, arith}
use Rattle.std.specs.Prelude.{flat_map}
use Rattle.std.specs.List.{AllByRecursion, IsDistinct, list_any, range_with_len}
use Rattle.std.specs.Option.{option_and_then, option_map, option_map_or}
use Rattle.std.proofs.lemmas.Bool.{and_parts, cases_Bool, eq-eqb, eqb-true}
use Rattle.std.proofs.lemmas.List.{length-map, map-append}
use Rattle.std.proofs.lemmas.Option.{slice_get-map, slice_get_within}
use Rattle.scr_num.specs.Rounding.{Ends, ends, exact_ends}
use Rattle.scr_num.specs.declared.span.Span.{Span}
use Rattle.scr_sum_tree.specs.Blocks.{HasEachOnce, blocks_at, is_block}
use Rattle.scr_sum_tree.specs.declared.blocks.Level.{Level}
use Rattle.scr_sum_tree.specs.declared.blocks.Level.TheVariants as levels
use Rattle.scr_reachability.specs.declared.ranks.Due.{Due}
use Rattle.scr_nodes.specs.declared.node.Node.{Node}
use Rattle.scr_nodes.specs.Live.{is_live}
use Rattle.scr_nodes.specs.LiveNodes.{live_nodes}
use Rattle.scr_nodes.proofs.Ordered.{live_nodes-live}
use Rattle.scr_nodes.proofs.SingleSources.{sources-once as plain-once}
use Rattle.scr_funds.proofs.Members.{IsMember, IsMember-cases, IsMember-from_Contains, IsMember-left, IsMember-map, IsMember-mapped, IsMember-right, Contains-from_IsMember, at_member, each-from_members, each_push}
use Rattle.scr_ids.specs.Ranges.{first}
use Rattle.scr_ids.specs.declared.table.Table.TheVariants as ranged
use Rattle.scr_figure_ids.specs.Families.{family_of, name_of, table_of}
use Rattle.scr_figure_ids.specs.Numbers.{names_in}
use Rattle.scr_figure_ids.proofs.Live.{named-once}
use Rattle.scr_figure_ids.proofs.RowNames.{placed-at}
use Rattle.scr_sum_slots.specs.Parts.{slot_of}
use Rattle.scr_reachability.specs.LinkedDues.{IsDue, IsLiveAt, numbers_of}
use Rattle.scr_reachability.specs.Graph.{IsLive}
use Rattle.scr_reachability.specs.Linked.{AreAt}
use Rattle.scr_reachability.proofs.Placed.{get-member, placed-get, standing}
use Rattle.scr_block_graph.specs.BlockNumbers.{part_of, place_of}
use Rattle.scr_block_graph.specs.Books.{rolled_of}
use Rattle.scr_block_graph.specs.Graph.{Rolled, block_point, is_live_in, reads, roll_in, sources_in}
use Rattle.scr_block_graph.specs.Sums.{first_sum, reader_of, second_sum}
use Rattle.scr_block_graph.specs.declared.point.Point.{Point}
use Rattle.scr_block_graph.specs.declared.point.Point.TheVariants as points
use Rattle.scr_block_graph.specs.declared.sum.Sum.{Sum}
use Rattle.scr_block_graph.proofs.Listing.{in-flat, of-flat}
use Rattle.scr_block_graph.proofs.Lives.{own-sum}
use Rattle.scr_block_graph.proofs.Once.{sources-once}
use Rattle.scr_block_graph.proofs.Turned.{blocks-in}
use Rattle.scr_partial_sums.specs.declared.figure.Figure.{Figure}
use Rattle.scr_tree.specs.Figures.{HasFigure, HaveFigures, Reckoning, Worth, worth_of}
use Rattle.scr_tree.specs.Opening.{opens_at, opens_in}
use Rattle.scr_tree.specs.Points.{book_graph, point_worth}
use Rattle.scr_tree.specs.Ready.{AreInTurnOn, AreKnownBut, IsBasis, IsNoneOf, StandsOn, reckoning_on}
use Rattle.scr_partial_sums.specs.Written.{is_open_at}
use Rattle.scr_tree.specs.Together.{AreDuesOn, AreSpansOn, IsDueOn, IsKnownOn, IsSpanOn, any_close, blocks_below, blocks_of_level, blocks_under, ends_at, ends_on, has_number, live_points, point_number, point_with}
use Rattle.scr_tree.specs.declared.basis.Basis.{Basis}
use Rattle.scr_tree.proofs.Known.{known-have, opens-is}
use Rattle.scr_tree.proofs.PointEquations.{opens}
use Rattle.scr_tree.proofs.SumsRead.{first-reads, second-reads}
use Rattle.scr_tree.proofs.Upright.{book-up, rolls-are}
use Rattle.scr_parallel.specs.Workable.{AreWorkable}

-- ---- all points of a book

module _ (book : Rolled) where
  of-level : (sum : Sum) (level : Level) (point : Point) → reads book.sheet sum ≡ true → IsMember point (blocks_of_level book sum level)
      → is_live_in book point ≡ true
  of-level sum level point there h =
      let i = IsMember-map (block_point sum level) (range_with_len 0 (blocks_at (length (roll_in book sum)) level)) point h in
      let is = (blocks-in (length (roll_in book sum)) level i.0).0
      (Contains-from_IsMember (range_with_len 0 (blocks_at (length (roll_in book sum)) level)) i.0 i.1) in
      subst (λ p. is_live_in book p ≡ true) i.2 (ap (λ t. t && is_block (length (roll_in book sum)) level i.0) there ∙ is)

  under-live : (sum : Option Sum) (point : Point) → option_map_or (reads book.sheet) sum true ≡ true → IsMember point (blocks_under book sum)
      → is_live_in book point ≡ true
  under-live None point there h = absurd h
  under-live (Some sum) point there h =
      by (IsMember-cases (blocks_of_level book sum levels.First) (blocks_of_level book sum levels.Second) point h)
    where
      by : IsMember point (blocks_of_level book sum levels.First) ⊎ IsMember point (blocks_of_level book sum levels.Second) → is_live_in book point ≡ true
      by (inl m) = of-level sum levels.First point there m
      by (inr m) = of-level sum levels.Second point there m

  below-live : (node : Node) (point : Point) → is_live book.sheet node ≡ true → IsMember point (blocks_below book node) → is_live_in book point ≡ true
  below-live node point live h = by (IsMember-cases (blocks_under book (first_sum node)) (blocks_under book (second_sum node)) point h)
    where
      by : IsMember point (blocks_under book (first_sum node)) ⊎ IsMember point (blocks_under book (second_sum node)) → is_live_in book point ≡ true
      by (inl m) = under-live (first_sum node) point (first-reads book.sheet node live) m
      by (inr m) = under-live (second_sum node) point (second-reads book.sheet node live) m

  under-in : (sum : Sum) (level : Level) (i : ℕ) → is_block (length (roll_in book sum)) level i ≡ true
      → IsMember (block_point sum level i) (blocks_under book (Some sum))
  under-in sum levels.First i is =
      IsMember-left (blocks_of_level book sum levels.First) (blocks_of_level book sum levels.Second) (block_point sum levels.First i)
      (IsMember-mapped (block_point sum levels.First) (range_with_len 0 (blocks_at (length (roll_in book sum)) levels.First)) i
      (IsMember-from_Contains (range_with_len 0 (blocks_at (length (roll_in book sum)) levels.First)) i
      ((blocks-in (length (roll_in book sum)) levels.First i).1 is)))
  under-in sum levels.Second i is =
      IsMember-right (blocks_of_level book sum levels.First) (blocks_of_level book sum levels.Second) (block_point sum levels.Second i)
      (IsMember-mapped (block_point sum levels.Second) (range_with_len 0 (blocks_at (length (roll_in book sum)) levels.Second)) i
      (IsMember-from_Contains (range_with_len 0 (blocks_at (length (roll_in book sum)) levels.Second)) i
      ((blocks-in (length (roll_in book sum)) levels.Second i).1 is)))

  below-in : (sum : Sum) (point : Point) → IsMember point (blocks_under book (Some sum)) → IsMember point (blocks_below book (reader_of sum))
  below-in sum point h = by (own-sum sum)
    where
      by : (first_sum (reader_of sum) ≡ Some sum) ⊎ (second_sum (reader_of sum) ≡ Some sum) → IsMember point (blocks_below book (reader_of sum))
      by (inl e) = IsMember-left (blocks_under book (first_sum (reader_of sum))) (blocks_under book (second_sum (reader_of sum))) point
          (subst (λ o. IsMember point (blocks_under book o)) (sym e) h)
      by (inr e) = IsMember-right (blocks_under book (first_sum (reader_of sum))) (blocks_under book (second_sum (reader_of sum))) point
          (subst (λ o. IsMember point (blocks_under book o)) (sym e) h)

module _ (b : Basis) (is : IsBasis b) where
  abbrev book : Rolled
  book = rolled_of b.inputs.book.now

  abbrev At : Point → ℕ → Type 0
  At = StandsOn b

  abbrev Lives : Point → Type 0
  Lives point = is_live_in book point ≡ true

  all-live : (point : Point) → IsMember point (live_points book) → Lives point
  all-live point h = by (IsMember-cases (map points.Figure (live_nodes book.sheet)) (flat_map (blocks_below book) (live_nodes book.sheet)) point h)
    where
      one : (node : Node) → IsMember node (live_nodes book.sheet) → is_live book.sheet node ≡ true
      one node m = (live_nodes-live book.sheet is.valid node).0 (Contains-from_IsMember (live_nodes book.sheet) node m)

      by : IsMember point (map points.Figure (live_nodes book.sheet)) ⊎ IsMember point (flat_map (blocks_below book) (live_nodes book.sheet)) → Lives point
      by (inl m) = let s = IsMember-map points.Figure (live_nodes book.sheet) point m in subst Lives s.2 (one s.0 s.1)
      by (inr m) = let s = of-flat (blocks_below book) point (live_nodes book.sheet) m in below-live book s.0 point (one s.0 s.1) s.2

  all-in : (point : Point) → Lives point → IsMember point (live_points book)
  all-in (points.Figure node) live =
      IsMember-left (map points.Figure (live_nodes book.sheet)) (flat_map (blocks_below book) (live_nodes book.sheet)) (points.Figure node)
      (IsMember-mapped points.Figure (live_nodes book.sheet) node
      (IsMember-from_Contains (live_nodes book.sheet) node ((live_nodes-live book.sheet is.valid node).1 live)))
  all-in (points.Block block) live =
      let has = and_parts (reads book.sheet block.sum) (is_block (length (roll_in book block.sum)) block.level block.index) live in
      IsMember-right (map points.Figure (live_nodes book.sheet)) (flat_map (blocks_below book) (live_nodes book.sheet)) (points.Block block)
      (in-flat (blocks_below book) (reader_of block.sum) (points.Block block) (live_nodes book.sheet)
      (IsMember-from_Contains (live_nodes book.sheet) (reader_of block.sum) ((live_nodes-live book.sheet is.valid (reader_of block.sum)).1 has.0))
      (below-in book block.sum (points.Block block) (under-in book block.sum block.level block.index has.1)))

  -- ---- the point at a number

  number-is : (point : Point) (number : ℕ) → At point number → point_number b.inputs.book.now b.places.now b.lists.now point ≡ Some number
  number-is (points.Figure node) number at =
      ap (option_map (λ k. first b.places.now (table_of node) k + family_of node))
      (placed-at (name_of node) (names_in book.sheet (table_of node)) at.k (named-once book.sheet is.valid (table_of node)) at.row)
      ∙ ap Some at.at.is
  number-is (points.Block block) number at =
      ap (λ (found : Option ℕ). option_and_then (λ (list : ℕ).
      option_map (λ (slot : ℕ). first b.places.now ranged.Part slot + place_of block.sum) (slot_of (part_of list block) b.lists.now.parts)) found) at.numbered
      ∙ ap (option_map (λ (slot : ℕ). first b.places.now ranged.Part slot + place_of block.sum)) at.part
      ∙ ap Some at.at.is

  abbrev Has : ℕ → Point → Bool
  Has number point = has_number b.inputs.book.now b.places.now b.lists.now number point

  abbrev With : ℕ → List Point → Option Point
  With number list = point_with b.inputs.book.now b.places.now b.lists.now number list

  number-has : (point : Point) (number : ℕ) → At point number → Has number point ≡ true
  number-has point number at = ap (λ found. option_map_or (nat_eq number) found false) (number-is point number at) ∙ eq-eqb number number refl

  -- a live point that passes has the number
  has-number : (point : Point) (number : ℕ) → Lives point → Has number point ≡ true → At point number
  has-number point number live has =
      let own = is.graph.numbers_of.numbers.live point live in
      let same = eqb-true number own.0 (sym (ap (λ found. option_map_or (nat_eq number) found false) (number-is point own.0 own.1)) ∙ has) in
      subst (At point) (sym same) own.1

  point-here : (list : List Point) (point : Point) (number : ℕ) → AllByRecursion Lives list → IsMember point list → At point number
      → With number list ≡ Some point
  point-here [] point number live h at = absurd h
  point-here (p ∷ list) point number live h at = by (Has number p) refl h (λ later. point-here list point number live.1 later at)
    where
      by : (t : Bool) → Has number p ≡ t → IsMember point (p ∷ list) → (IsMember point list → With number list ≡ Some point)
          → cond t (Some p) (With number list) ≡ Some point
      by true has h later = ap Some (is.graph.numbers_of.numbers.exact number p point (has-number p number live.0 has) at)
      by false has (inl same) later =
          let clash : true ≡ false = sym (number-has point number at) ∙ (ap (Has number) same ∙ has) in absurd (cc)
      by false has (inr h) later = later h

  pub ends-here : (point : Point) (number : ℕ) → At point number → Lives point → ends_on b number ≡ ((reckoning_on b).worth point).worked
  unfolding ends_at
  ends-here point number at live =
      ap (λ found. option_map_or (λ p. (point_worth b.inputs.factors.now book p).worked) found (exact_ends (pos 0)))
      (point-here (live_points book) point number (each-from_members Lives (live_points book) all-live) (all-in point live) at)

  pub ends-each : (numbers : List ℕ) (list : List Point) → AreAt At numbers list → AllByRecursion Lives list
      → map (ends_on b) numbers ≡ map (λ p. ((reckoning_on b).worth p).worked) list
  ends-each [] [] at live = refl
  ends-each [] (m ∷ list) at live = absurd at
  ends-each (n ∷ numbers) [] at live = absurd at
  ends-each (n ∷ numbers) (m ∷ list) at live = ap₂ (λ e es. e ∷ es) (ends-here m n at.0 live.0) (ends-each numbers list at.1 live.1)

  -- ---- numbers of points that differ

  later-none : (m : Point) (list : List Point) → HasEachOnce (m ∷ list) → IsMember m list → ⊥
  later-none m list once h =
      let has = Contains-from_IsMember list m h in
      let low : has.0 < length list = has.1 in
      once 0 (suc has.0) (omega arith) (omega (arith, low)) (sym (placed-get list m has))

  pub distinct-numbers : (numbers : List ℕ) (list : List Point) → AreAt At numbers list → HasEachOnce list → IsDistinct nat_eq numbers
  unfolding IsDistinct
  distinct-numbers [] list at once = tt
  distinct-numbers (q ∷ numbers) [] at once = absurd at
  distinct-numbers (q ∷ numbers) (m ∷ list) at once = (
    each-from_members (λ y. nat_eq q y ≡ false) numbers (λ y h. by y h (cases_Bool (nat_eq q y))),
    distinct-numbers numbers list at.1
        (λ j k earlier within. once (suc j) (suc k) (omega (arith, earlier)) (omega (arith, within))),
  )
    where
      by : (y : ℕ) → IsMember y numbers → (nat_eq q y ≡ true) ⊎ (nat_eq q y ≡ false) → nat_eq q y ≡ false
      by y h (inr other) = other
      by y h (inl e) =
          let s = standing At numbers list at.1 y h in
          let one = is.graph.numbers_of.numbers.exact y m s.0 (subst (At m) (eqb-true q y e) at.0) s.2 in
          absurd (later-none m list once (subst (λ p. IsMember p list) (sym one) s.1))

  -- ---- open choices

  opens-point : (point : Point) → opens_in point ((reckoning_on b).worth point).worked ≡ opens_at b.inputs.factors.now book.sheet point
  opens-point (points.Figure node) = opens-is b.inputs.factors.now book.sheet node
  opens-point (points.Block block) = refl

  -- a figure with the span of its point, that rests on an open choice where the point is one or where one of its sources does
  pub point-right : (point : Point) (span : Span) (close below : Bool) → ends span ≡ ((reckoning_on b).worth point).worked
      → below ≡ list_any (λ t. t) (map (λ p. ((reckoning_on b).worth p).close) (sources_in book point))
      → close ≡ (opens_in point (ends span) || below)
      → worth_of (record { span = span; close = close }) ≡ (reckoning_on b).worth point
  point-right point span close below worked_is below_is rests =
      ap₂ (λ (e : Ends) (t : Bool). record { worked = e; close = t }) worked_is
      (rests
      ∙ ap₂ (λ (x : Bool) (y : Bool). x || y) (ap (opens_in point) worked_is ∙ opens-point point) below_is
      ∙ sym (opens b.inputs.factors.now book is.valid (rolls-are b.inputs.book.now is.graph.numbers_of.rolls) point))

  close-one : (figures : List Figure) (number : ℕ) (point : Point) → HasFigure (reckoning_on b) figures number point
      → is_open_at figures number ≡ ((reckoning_on b).worth point).close
  close-one figures number point has = by (slice_get figures number) has
    where
      by : (found : Option Figure) → option_map worth_of found ≡ Some ((reckoning_on b).worth point)
          → option_map_or (λ (figure : Figure). figure.close) found false ≡ ((reckoning_on b).worth point).close
      by None has = let clash : None ≡ Some ((reckoning_on b).worth point) = has in absurd (cc)
      by (Some figure) has = ap (λ found. option_map_or (λ (w : Worth). w.close) found false) has

  pub close-all : (figures : List Figure) (numbers : List ℕ) (list : List Point) → HaveFigures (reckoning_on b) figures numbers list
      → any_close figures numbers ≡ list_any (λ t. t) (map (λ p. ((reckoning_on b).worth p).close) list)
  close-all figures [] [] have = refl
  close-all figures [] (m ∷ list) have = absurd have
  close-all figures (n ∷ numbers) [] have = absurd have
  close-all figures (n ∷ numbers) (m ∷ list) have =
      ap₂ (λ (x : Bool) (y : Bool). x || y) (close-one figures n m have.0) (close-all figures numbers list have.1)

-- ---- spans at numbers

pub as-many : (b : Basis) (numbers : List ℕ) (spans : List Span) → AreSpansOn b numbers spans → length spans ≡ length numbers
as-many b numbers spans are =
    let a = length-map spans ends in
    let d = length-map numbers (ends_on b) in
    let same = ap length are in
    omega (arith, a, d, same)

pub span-there : (b : Basis) (numbers : List ℕ) (spans : List Span) (k number : ℕ) (span : Span) → AreSpansOn b numbers spans
    → slice_get numbers k ≡ Some number → slice_get spans k ≡ Some span → IsSpanOn b number span
span-there b numbers spans k number span are at there =
    let same : Some (ends span) ≡ Some (ends_on b number) =
    sym (slice_get-map ends spans k ∙ ap (option_map ends) there) ∙ ap (λ (es : List Ends). slice_get es k) are
    ∙ (slice_get-map (ends_on b) numbers k ∙ ap (option_map (ends_on b)) at) in
    cc

-- ---- what a figure that is there comes to

figure-there : {Node : Type 0} (reckoning : Reckoning Node) (figures : List Figure) (number : ℕ) (node : Node)
    → HasFigure reckoning figures number node
    → (figure : Figure) × (slice_get figures number ≡ Some figure) × (worth_of figure ≡ reckoning.worth node)
figure-there {Node} reckoning figures number node has = by (slice_get figures number) refl has
  where
    by : (found : Option Figure) → slice_get figures number ≡ found → option_map worth_of found ≡ Some (reckoning.worth node)
        → (figure : Figure) × (slice_get figures number ≡ Some figure) × (worth_of figure ≡ reckoning.worth node)
    by None e has = let clash : None ≡ Some (reckoning.worth node) = has in absurd (cc)
    by (Some figure) e has = let same : worth_of figure ≡ reckoning.worth node = cc in (figure, e, same)

pub known-within : (b : Basis) (figures : List Figure) (number : ℕ) → IsKnownOn b figures number → number < length figures
unfolding IsKnownOn
known-within b figures number is =
    let there = figure-there (reckoning_on b) figures number is.1.0 is.1.3 in
    slice_get_within figures number there.0 there.1

pub known-ends : (b : Basis) (figures : List Figure) (number : ℕ) (figure : Figure) → IsKnownOn b figures number
    → slice_get figures number ≡ Some figure → ends figure.span ≡ ends_on b number
unfolding IsKnownOn
known-ends b figures number figure is here =
    let there = figure-there (reckoning_on b) figures number is.1.0 is.1.3 in
    let same : figure ≡ there.0 = (let both : Some figure ≡ Some there.0 = sym here ∙ there.1 in cc) in
    ap (λ (f : Figure). ends f.span) same ∙ ap (λ (w : Worth). w.worked) there.2
    ∙ sym (ends-here b is.0 is.1.0 number is.1.1 is.1.2)

pub due-basis : (b : Basis) (due : Due) → IsDueOn b due → IsBasis b
unfolding IsDueOn
due-basis b due is = is.0

pub due-is : (b : Basis) (due : Due) → IsDueOn b due → IsDue (book_graph (rolled_of b.inputs.book.now)) (StandsOn b) due
unfolding IsDueOn
due-is b due is = is.1

-- what is due of a live point, with the numbers of its sources
pub due-on : (b : Basis) (due : Due) → IsBasis b → IsLiveAt (book_graph (rolled_of b.inputs.book.now)) (StandsOn b) due.number
    → ((point : Point) → StandsOn b point due.number → AreAt (StandsOn b) due.sources.items (sources_in (rolled_of b.inputs.book.now) point))
    → IsDueOn b due
unfolding IsDueOn
due-on b due is live sources = (is, record { node = live.0; at = live.1; live = live.2; sources = sources live.0 live.1 })

pub dues-none : (b : Basis) (dues : List Due) → dues ≡ [] → AreDuesOn b [] dues
dues-none b dues e = subst (AreDuesOn b []) (sym e) (record { numbers_are = refl; each = tt })

pub dues-next : (b : Basis) (done numbers : List ℕ) (old dues : List Due) (due : Due) → AreDuesOn b done old → IsDueOn b due
    → dues ≡ old ++ due ∷ [] → numbers ≡ done ++ due.number ∷ [] → AreDuesOn b numbers dues
dues-next b done numbers old dues due are on more last =
    subst (AreDuesOn b numbers) (sym more) (record {
      numbers_are = map-append (λ (d : Due). d.number) old (due ∷ []) ∙ ap (λ xs. xs ++ due.number ∷ []) are.numbers_are ∙ sym last;
      each = each_push (IsDueOn b) old due are.each on;
    })

-- ---- what is due in turn can be reckoned by several workers

module _ (b : Basis) (is : IsBasis b) (figures : List Figure) (dues : List Due) (turn : AreInTurnOn b (numbers_of dues))
    (known : AreKnownBut b figures (numbers_of dues)) (on : AreDuesOn b (numbers_of dues) dues) where
  abbrev NoneLeft : Point → Type 0
  NoneLeft = IsNoneOf (StandsOn b) (numbers_of dues)

  due-of : (due : Due) → IsMember due dues → IsDue (book_graph (rolled_of b.inputs.book.now)) (StandsOn b) due
  due-of due h = due-is b due (at_member (IsDueOn b) dues due on.each h)

  number-there : (i : ℕ) (due : Due) → slice_get dues i ≡ Some due → slice_get (numbers_of dues) i ≡ Some due.number
  number-there i due at = slice_get-map (λ (d : Due). d.number) dues i ∙ ap (option_map (λ (d : Due). d.number)) at

  -- a source of what is due is the number of a source of its point
  source-there : (due : Due) (h : IsMember due dues) (source : ℕ) → Contains due.sources.items source
      → (s : Point) × IsMember s (sources_in (rolled_of b.inputs.book.now) (due-of due h).node) × StandsOn b s source
  source-there due h source has =
      standing (StandsOn b) due.sources.items (sources_in (rolled_of b.inputs.book.now) (due-of due h).node) (due-of due h).sources source
      (IsMember-from_Contains due.sources.items source has)

  is-known : (due : Due) → IsMember due dues → (source : ℕ) → Contains due.sources.items source
      → (Contains (numbers_of dues) source → ⊥) → IsKnownOn b figures source
  unfolding IsKnownOn
  is-known due h source has none =
      let own = due-of due h in
      let s = source-there due h source has in
      let lives = at_member (IsLive (book_graph (rolled_of b.inputs.book.now))) (sources_in (rolled_of b.inputs.book.now) own.node) s.0
      ((book-up b is).closed own.node own.live) s.1 in
      let apart : NoneLeft s.0 = λ m at left.
      none (subst (Contains (numbers_of dues)) (is.graph.numbers_of.numbers.only s.0 m source at s.2) left) in
      let figure = known-have (reckoning_on b) (StandsOn b) figures NoneLeft known (source ∷ []) (s.0 ∷ []) (s.2, tt) ((lives, apart), tt) in
      (is, (s.0, s.2, lives, figure.0))

  pub workable : AreWorkable (IsKnownOn b figures) (IsDueOn b) dues
  workable = record {
    once = turn.once;
    single = each-from_members (λ (due : Due). IsDistinct nat_eq due.sources.items) dues
        (λ due h. distinct-numbers b is due.sources.items (sources_in (rolled_of b.inputs.book.now) (due-of due h).node) (due-of due h).sources
        (sources-once (rolled_of b.inputs.book.now) (rolls-are b.inputs.book.now is.graph.numbers_of.rolls)
        (λ node. plain-once b.inputs.book.now.sheet is.valid node) (due-of due h).node));
    before = λ i j due from at there named.
        let h = get-member dues i due at in
        let own = due-of due h in
        let s = source-there due h from.number named in
        turn.before i j due.number from.number own.node s.0 (number-there i due at) own.at
        (Contains-from_IsMember (sources_in (rolled_of b.inputs.book.now) own.node) s.0 s.1) s.2 (number-there j from there);
    due = on.each;
    known = λ due source has named none. is-known due (IsMember-from_Contains dues due has) source named none;
  }

-- the ends of what is due are those at the numbers
pub ends-due : (b : Basis) (list : List Due) → map (λ (due : Due). ends_on b due.number) list ≡ map (ends_on b) (numbers_of list)
ends-due b [] = refl
ends-due b (due ∷ list) = ap (λ es. ends_on b due.number ∷ es) (ends-due b list)

pub ok-weaker : {A B : Type 0} (P Q : A → Type 0) → ((a : A) → P a → Q a) → (result : Result A B) → IfOk result P → IfOk result Q
ok-weaker P Q step (Ok a) h = step a h
ok-weaker P Q step (Err e) h = tt

-- ---- open choices, one after another

pub close-no : (figures : List Figure) (source : ℕ) (figure : Figure) (rest : List ℕ) → slice_get figures source ≡ Some figure
    → figure.close ≡ false → any_close figures rest ≡ any_close figures (source ∷ rest)
close-no figures source figure rest here none =
    sym (ap (λ found. option_map_or (λ (f : Figure). f.close) found false || any_close figures rest) here
    ∙ ap (λ b. b || any_close figures rest) none)

pub close-yes : (figures : List Figure) (source : ℕ) (figure : Figure) (rest : List ℕ) → slice_get figures source ≡ Some figure
    → figure.close ≡ true → any_close figures (source ∷ rest) ≡ true
close-yes figures source figure rest here one =
    ap (λ found. option_map_or (λ (f : Figure). f.close) found false || any_close figures rest) here
    ∙ ap (λ b. b || any_close figures rest) one
