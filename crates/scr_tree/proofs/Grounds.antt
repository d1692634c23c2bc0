-- The first reckoning figure by figure and table by table: what is made after each.
use Rattle.std.proofs.Common.{◌≡◌, ◌⊎◌, inl, inr, is_some, map, None, Option, slice_index, ℕ, ◌+◌, ◌<◌, ◌≤◌, ◌++◌, true, false, List, [], ◌∷◌, length, Some, slice_get, refl, sym, ap, ap₂, subst, ◌∙◌, arith}
use Rattle.std.specs.List.{AllByRecursion, AllZip}
use Rattle.std.proofs.lemmas.Bool.{and_parts}
use Rattle.std.proofs.lemmas.List.{length-map}
use Rattle.std.proofs.lemmas.Option.{slice_get_within}
use Rattle.scr_factors.specs.Values.{FactorValues}
use Rattle.std.specs.Option.{option_map}
use Rattle.scr_figure_ids.specs.Families.{currency_family, family_of, name_of, table_of, whole_family}
use Rattle.scr_figure_ids.specs.Numbers.{StandsAt, names_in}
use Rattle.scr_figure_ids.proofs.Standing.{of-sheet, stands}
use Rattle.scr_ids.specs.Ranges.{Numbered, count, first, stride}
use Rattle.scr_ids.specs.declared.table.Table.TheVariants as tables
use Rattle.scr_sheet.specs.BalanceSheet.{position_name, stake_name, stake_of}
use Rattle.scr_sheet.specs.Totals.{total_of}
use Rattle.scr_sheet.specs.declared.{rows.Position.Position, rows.Stake.Stake, sheet.BalanceSheet.BalanceSheet}
use Rattle.scr_nodes.specs.Live.{is_live}
use Rattle.scr_nodes.specs.Sources.{fund_total, security_total, sources_of}
use Rattle.scr_nodes.proofs.OwnRows.{own-funds}
use Rattle.scr_nodes.specs.declared.{node.Node.Node, node.OfCurrency.OfCurrency, node.Whole.Whole}
use Rattle.scr_nodes.specs.declared.node.Node.TheVariants as nodes
use Rattle.scr_tree.specs.Figures.{AreKnownOf, HaveFigures, reckoning_of, total_worth, worth_at, worth_of}
use Rattle.scr_tree.specs.First.{AreDone, AreDoneTo, AreLinkedTo, AreReckonedTo, IsBlockBefore, IsGround, IsLinkGround, link_ground}
use Rattle.scr_tree.specs.Points.{StandsIn, book_reckoning, is_linked}
use Rattle.scr_tree.specs.Turns.{IsBefore, Turn, next, stage_of, turn, turn_of}
use Rattle.scr_figure_ids.specs.SourceNumbers.{ArePushed}
use Rattle.scr_links.specs.Edges.{Linked}
use Rattle.scr_reachability.specs.Linked.{sources_in}
use Rattle.scr_block_graph.specs.Books.{rolled_of}
use Rattle.scr_block_graph.specs.Graph.{is_live_in}
use Rattle.scr_block_graph.specs.Sums.{reader_of}
use Rattle.scr_block_graph.specs.declared.point.Point.{Point}
use Rattle.scr_block_graph.specs.declared.point.Point.TheVariants as points
use Rattle.scr_tree.proofs.BlocksMade.{blocks-beside, blocks-next, blocks-none, reader-unlinked}
use Rattle.scr_partial_sums.specs.declared.figure.Figure.{Figure}
use Rattle.scr_tree.specs.declared.making.Ground.{Ground}
use Rattle.scr_tree.specs.declared.making.LinkGround.{LinkGround}
use Rattle.scr_tree.proofs.FirstRows.{each-get, got-map, got-row, security-named, total-live}
use Rattle.scr_tree.proofs.Plain.{fund-placed, security-placed}
use Rattle.scr_tree.proofs.Known.{known-weaker}
use Rattle.scr_tree.proofs.Made.{known-sources, reckoned-next}
use Rattle.scr_tree.proofs.Turns.{IsAsGood, TakesTurn, all-done, assets-first, dead-skipped, family-within, of-table, row-begun, row-ended, stage-of-whole, table-ended, table_at, total-last}

-- no figure of a later stage is done
pub late : (sheet : BalanceSheet) (s : ℕ) (node : Node) → s ≤ stage_of node → IsBefore sheet (turn s 0 0) node → ⊥
late sheet s node from (inl less) = omega (arith, from, less)
late sheet s node from (inr h) = by h.1.before
  where
    by : (h.1.k < 0) ⊎ ((h.1.k ≡ 0) × (family_of node < 0)) → ⊥
    by (inl less) = omega (arith, less)
    by (inr same) = let l = same.1 in omega (arith, l)

-- as many rows as names
pub as-long : {Row : Type 0} (name_in : Row → List ℕ) (rows : List Row) (k : ℕ) → k ≡ length rows → k ≡ length (map name_in rows)
as-long name_in rows k same = same ∙ sym (length-map rows name_in)

-- the turn of a figure of the whole sheet, and of a currency
pub whole-turn : (what : Whole) (n : ℕ) → whole_family what ≡ n → n < 153 → turn_of (nodes.Whole what) 0 ≡ turn 7 0 n
whole-turn what n same few =
    ap₂ (λ (s : ℕ) (f : ℕ). turn s 0 f) (stage-of-whole what (subst (λ m. m < 153) (sym same) few)) same

pub currency-turn : (name : List ℕ) (what : OfCurrency) (k f : ℕ) → currency_family what ≡ f
    → turn_of (nodes.Currency name what) k ≡ turn 6 k f
currency-turn name what k f same = ap (turn 6 k) same

module _ (ground : LinkGround) (g : IsLinkGround ground) where
  -- ---- a figure of a row

  module _ (node : Node) (row number : ℕ)
      (named : slice_get (names_in ground.book.now.sheet (table_of node)) row ≡ Some (name_of node))
      (own : number ≡ first ground.places.now (table_of node) row + family_of node)
      (live : is_live ground.book.now.sheet node ≡ true) where
    pub its-number : StandsAt ground.book.now.sheet ground.places.now node number
    its-number =
        subst (StandsAt ground.book.now.sheet ground.places.now node) (sym own)
        (stands ground.book.now.sheet ground.places.now g.numbered node
        (family-within ground.book.now.sheet ground.places.now g.numbered node live) row named)

    pub family-few : family_of node < stride (table_of node)
    family-few = family-within ground.book.now.sheet ground.places.now g.numbered node live

    pub row-few : row < count ground.places.now (table_of node)
    row-few =
        let room = slice_get_within (names_in ground.book.now.sheet (table_of node)) row (name_of node) named in
        let rows = g.numbered.rows (table_of node) (of-sheet node) in
        omega (arith, room, rows)

    pub number-within : number < ground.places.now.size
    number-within = g.numbers.within node number its-number

  -- the rows of funds and of securities
  pub fund-live : (k : ℕ) (s : Stake) → slice_get ground.book.now.sheet.funds k ≡ Some s
      → is_live ground.book.now.sheet (fund_total s) ≡ true
  fund-live k s at =
      ap is_some (each-get (λ r. stake_of (stake_name r) ground.book.now.sheet.funds ≡ Some r) ground.book.now.sheet.funds k s
      (own-funds ground.book.now.sheet g.valid) at)

  pub fund-named : (k : ℕ) (s : Stake) → slice_get ground.book.now.sheet.funds k ≡ Some s
      → slice_get (map stake_name ground.book.now.sheet.funds) k ≡ Some s.fund.name
  fund-named k s at = got-map stake_name ground.book.now.sheet.funds k s at

  pub security-alive : (k : ℕ) (p : Position) → slice_get ground.book.now.sheet.securities k ≡ Some p
      → is_live ground.book.now.sheet (security_total p) ≡ true
  security-alive k p at = total-live ground.book.now.sheet g.valid ground.places.now g.numbered k p at

  pub security-called : (k : ℕ) (p : Position) → slice_get ground.book.now.sheet.securities k ≡ Some p
      → slice_get (map position_name ground.book.now.sheet.securities) k ≡ Some p.security.name
  security-called k p at = security-named ground.book.now.sheet g.valid ground.places.now g.numbered k p at

  -- numbers of figures are below the size
  pub at-within : (numbers : List ℕ) (list : List Node)
      → AllZip (λ n node. StandsAt ground.book.now.sheet ground.places.now node n) numbers list
      → AllByRecursion (λ n. n < ground.places.now.size) numbers
  at-within [] [] at = tt
  at-within [] (m ∷ list) at = absurd at
  at-within (n ∷ numbers) [] at = absurd at
  at-within (n ∷ numbers) (m ∷ list) at = (g.numbers.within m n at.0, at-within numbers list at.1)

module _ (ground : Ground) (g : IsGround ground) where
  pub for-links : IsLinkGround (link_ground ground)
  for-links = record { valid = g.valid; numbered = g.numbered; numbers = g.numbers; members = g.members }

  -- ---- turns that come to the same

  pub blocks-on : (figures : List Figure) (t u : Turn) → IsAsGood ground.inputs.book.now.sheet t u
      → AreKnownOf (book_reckoning ground.inputs.factors.now (rolled_of ground.inputs.book.now))
      (StandsIn ground.inputs.book.now ground.places.now ground.lists.now) figures (IsBlockBefore ground.inputs.book.now.sheet t)
      → AreKnownOf (book_reckoning ground.inputs.factors.now (rolled_of ground.inputs.book.now))
      (StandsIn ground.inputs.book.now ground.places.now ground.lists.now) figures (IsBlockBefore ground.inputs.book.now.sheet u)
  blocks-on figures t u good known =
      known-weaker (book_reckoning ground.inputs.factors.now (rolled_of ground.inputs.book.now))
      (StandsIn ground.inputs.book.now ground.places.now ground.lists.now) figures
      (IsBlockBefore ground.inputs.book.now.sheet t) (IsBlockBefore ground.inputs.book.now.sheet u) (λ point live before. back point live before) known
    where
      back : (point : Point) → is_live_in (rolled_of ground.inputs.book.now) point ≡ true → IsBlockBefore ground.inputs.book.now.sheet u point
          → IsBlockBefore ground.inputs.book.now.sheet t point
      back (points.Figure node) live before = absurd before
      back (points.Block block) live before = good.back (reader_of block.sum) (and_parts _ _ live).0 before

  pub reckoned-good : (figures : List Figure) (t u : Turn) → IsAsGood ground.inputs.book.now.sheet t u → AreReckonedTo ground figures t
      → AreReckonedTo ground figures u
  reckoned-good figures t u good is = record {
    count = is.count;
    known = known-weaker (reckoning_of ground.inputs.factors.now ground.inputs.book.now.sheet) (StandsAt ground.inputs.book.now.sheet ground.places.now) figures
        (IsBefore ground.inputs.book.now.sheet t) (IsBefore ground.inputs.book.now.sheet u) (λ n live before. good.back n live before) is.known;
  }

  done-on : (figures : List Figure) (t u : Turn) → IsAsGood ground.inputs.book.now.sheet t u → AreDone ground figures t → AreDone ground figures u
  done-on figures t u good is = record {
    reckoned = reckoned-good figures t u good is.reckoned;
    blocks_there = blocks-on figures t u good is.blocks_there;
  }

  pub turned : (figures : List Figure) (t u : Turn) → t ≡ u → AreDone ground figures t → AreDone ground figures u
  turned figures t u same is = subst (AreDone ground figures) same is

  -- a table has no more rows
  pub table-done : (s count : ℕ) → count ≡ length (names_in ground.inputs.book.now.sheet (table_at s)) → (figures : List Figure)
      → AreDone ground figures (turn s count 0) → AreDone ground figures (turn (s + 1) 0 0)
  table-done s count long figures is =
      done-on figures (turn s count 0) (turn (s + 1) 0 0) (table-ended ground.inputs.book.now.sheet ground.places.now g.numbered s count long) is

  pub currency-done : (k : ℕ) (figures : List Figure) → AreDone ground figures (turn 6 k 9) → AreDone ground figures (turn 6 (k + 1) 0)
  currency-done k figures is =
      done-on figures (turn 6 k 9) (turn 6 (k + 1) 0)
      (row-ended ground.inputs.book.now.sheet 6 k 9
      (λ n alive s. of-table ground.inputs.book.now.sheet ground.places.now g.numbered 6 n alive s)) is

  -- ---- a figure from all its sources

  module _ (node : Node) (row number : ℕ)
      (named : slice_get (names_in ground.inputs.book.now.sheet (table_of node)) row ≡ Some (name_of node))
      (own : number ≡ first ground.places.now (table_of node) row + family_of node)
      (live : is_live ground.inputs.book.now.sheet node ≡ true) where
    turn_is : TakesTurn ground.inputs.book.now.sheet (turn_of node row) node
    turn_is = record { at = refl; row = named; family = refl }

    stood : StandsAt ground.inputs.book.now.sheet ground.places.now node number
    stood = its-number (link_ground ground) for-links node row number named own live

    -- all of them are linked to it, and known
    pub sources-known : (links : Linked) → AreLinkedTo (link_ground ground) links (turn 7 0 153) → is_linked node ≡ true → 2 ≤ stage_of node
        → (a : List Figure) → AreDone ground a (turn_of node row)
        → HaveFigures (reckoning_of ground.inputs.factors.now ground.inputs.book.now.sheet) a (sources_in links.edges number)
        (sources_of ground.inputs.book.now.sheet node)
    sources-known links all its high a is =
        known-sources ground.inputs.factors.now ground.inputs.book.now.sheet g.valid ground.places.now g.numbered g.numbers a
        node row live named high is.reckoned.known (sources_in links.edges number)
        (all.linked.done node number stood live (all-done ground.inputs.book.now.sheet ground.places.now g.numbered node live, its))

    -- it is of none of the sums: its figure is written, and no Block
    pub linked-done : (a b : List Figure) (figure : Figure) → is_linked node ≡ true → AreDone ground a (turn_of node row)
        → worth_of figure ≡ worth_at ground.inputs.factors.now ground.inputs.book.now.sheet node → length b ≡ length a
        → slice_get b number ≡ Some figure → ((other : ℕ) → (other ≡ number → ⊥) → slice_get b other ≡ slice_get a other)
        → AreDone ground b (next (turn_of node row))
    linked-done a b figure links is right count there others = record {
      reckoned = record {
        count = count ∙ is.reckoned.count;
        known = reckoned-next ground.inputs.factors.now ground.inputs.book.now.sheet g.valid ground.places.now g.numbered g.numbers
            a b (turn_of node row) node number is.reckoned.known turn_is
            (record { at = stood; there = ap (option_map worth_of) there ∙ ap Some right; others = others });
      };
      blocks_there = blocks-next ground g b (turn_of node row) node turn_is live
          (λ sum reads. let clash : true ≡ false = sym links ∙ (ap is_linked (sym reads) ∙ reader-unlinked sum) in absurd (cc))
          (blocks-beside ground g a b node number (IsBlockBefore ground.inputs.book.now.sheet (turn_of node row))
          (λ n before. before) stood others is.blocks_there);
    }

  -- where the balance sheet does not have the figure
  pub dead-done : (node : Node) (row : ℕ) → slice_get (names_in ground.inputs.book.now.sheet (table_of node)) row ≡ Some (name_of node)
      → (is_live ground.inputs.book.now.sheet node ≡ true → ⊥) → (figures : List Figure) → AreDone ground figures (turn_of node row)
      → AreDone ground figures (next (turn_of node row))
  dead-done node row named dead figures is =
      done-on figures (turn_of node row) (next (turn_of node row))
      (dead-skipped ground.inputs.book.now.sheet ground.places.now g.numbered (turn_of node row) node
      (record { at = refl; row = named; family = refl }) dead) is

  -- ---- the assets of which concentrations are measured

  -- their turn comes when all totals are there
  pub assets-begun : (figures : List Figure) → AreReckonedTo ground figures (turn 2 0 0) → AreDoneTo ground figures (turn 2 0 153) (turn 2 0 153)
  assets-begun figures is =
      done-on figures (turn 2 0 0) (turn 2 0 153) (row-begun ground.inputs.book.now.sheet 2 0 153 (λ n alive s. assets-first n s))
      (record { reckoned = is; blocks_there = blocks-none ground g figures })

  pub assets-done : (figures : List Figure) → AreDoneTo ground figures (turn 2 0 154) (turn 2 0 154) → AreDoneTo ground figures (turn 3 0 0) (turn 3 0 0)
  assets-done figures is =
      done-on figures (turn 2 1 0) (turn 3 0 0) (table-ended ground.inputs.book.now.sheet ground.places.now g.numbered 2 1 refl)
      (done-on figures (turn 2 0 154) (turn 2 1 0)
      (row-ended ground.inputs.book.now.sheet 2 0 154
      (λ n alive s. of-table ground.inputs.book.now.sheet ground.places.now g.numbered 2 n alive s)) is)

  -- ---- totals

  -- a total is written
  pub total-made : (node : Node) (row number cents : ℕ) (a b : List Figure)
      → slice_get (names_in ground.inputs.book.now.sheet (table_of node)) row ≡ Some (name_of node)
      → number ≡ first ground.places.now (table_of node) row + family_of node → is_live ground.inputs.book.now.sheet node ≡ true
      → total_worth cents ≡ worth_at ground.inputs.factors.now ground.inputs.book.now.sheet node
      → AreReckonedTo ground a (turn_of node row) → length b ≡ length a
      → option_map worth_of (slice_get b number) ≡ Some (total_worth cents)
      → ((other : ℕ) → (other ≡ number → ⊥) → slice_get b other ≡ slice_get a other)
      → AreReckonedTo ground b (next (turn_of node row))
  total-made node row number cents a b named own live worth is count there others = record {
    count = count ∙ is.count;
    known = reckoned-next ground.inputs.factors.now ground.inputs.book.now.sheet g.valid ground.places.now g.numbered g.numbers
        a b (turn_of node row) node number is.known
        (record { at = refl; row = named; family = refl })
        (record { at = its-number (link_ground ground) for-links node row number named own live; there = there ∙ ap Some worth; others = others });
  }

  -- one total a row
  pub funds-on : (k : ℕ) (a : List Figure) → AreReckonedTo ground a (turn 0 k 1) → AreReckonedTo ground a (turn 0 (k + 1) 0)
  funds-on k a is =
      reckoned-good a (turn 0 k 1) (turn 0 (k + 1) 0)
      (row-ended ground.inputs.book.now.sheet 0 k 1 (λ n alive s. of-table ground.inputs.book.now.sheet ground.places.now g.numbered 0 n alive s)) is

  pub securities-on : (k : ℕ) (a : List Figure) → AreReckonedTo ground a (turn 1 k 1) → AreReckonedTo ground a (turn 1 (k + 1) 0)
  securities-on k a is =
      reckoned-good a (turn 1 k 1) (turn 1 (k + 1) 0) (row-ended ground.inputs.book.now.sheet 1 k 1 (λ n alive s. total-last n s)) is

  -- a table has no more rows
  pub reckoned-over : (s count : ℕ) → count ≡ length (names_in ground.inputs.book.now.sheet (table_at s)) → (a : List Figure)
      → AreReckonedTo ground a (turn s count 0) → AreReckonedTo ground a (turn (s + 1) 0 0)
  reckoned-over s count long a is =
      reckoned-good a (turn s count 0) (turn (s + 1) 0 0)
      (table-ended ground.inputs.book.now.sheet ground.places.now g.numbered s count long) is

  its-own : (n : ℕ) → n ≡ n + 0
  its-own n = omega arith

  pub fund-within : (k number : ℕ) → k < length ground.inputs.book.now.sheet.funds → number ≡ first ground.places.now tables.Fund k
      → (a : List Figure) (t : Turn) → AreReckonedTo ground a t → number < length a
  fund-within k number l own a t is =
      let s = got-row ground.inputs.book.now.sheet.funds k l in
      subst (λ n. number < n) (sym is.count)
      (number-within (link_ground ground) for-links (fund_total s.0) k number (fund-named (link_ground ground) for-links k s.0 s.1)
      (own ∙ its-own (first ground.places.now tables.Fund k))
      (fund-live (link_ground ground) for-links k s.0 s.1))

  pub fund-written : (k number : ℕ) → k < length ground.inputs.book.now.sheet.funds → number ≡ first ground.places.now tables.Fund k
      → (totals : List ℕ) → totals ≡ map (λ s. total_of ground.inputs.book.now.sheet (stake_name s)) ground.inputs.book.now.sheet.funds
      → (a b : List Figure) → AreReckonedTo ground a (turn 0 k 0) → length b ≡ length a
      → option_map worth_of (slice_get b number) ≡ Some (total_worth (slice_index totals k))
      → ((other : ℕ) → (other ≡ number → ⊥) → slice_get b other ≡ slice_get a other)
      → AreReckonedTo ground b (turn 0 (k + 1) 0)
  fund-written k number l own totals are a b is count there others =
      let s = got-row ground.inputs.book.now.sheet.funds k l in
      funds-on k b
      (total-made (fund_total s.0) k number (slice_index totals k) a b (fund-named (link_ground ground) for-links k s.0 s.1)
      (own ∙ its-own (first ground.places.now tables.Fund k)) (fund-live (link_ground ground) for-links k s.0 s.1)
      (fund-placed ground.inputs.factors.now ground.inputs.book.now.sheet g.valid totals are k s.0 s.1) is count there others)

  pub security-within : (k number : ℕ) → k < length ground.inputs.book.now.sheet.securities
      → number ≡ first ground.places.now tables.Security k → (a : List Figure) (t : Turn) → AreReckonedTo ground a t
      → number < length a
  security-within k number l own a t is =
      let p = got-row ground.inputs.book.now.sheet.securities k l in
      subst (λ n. number < n) (sym is.count)
      (number-within (link_ground ground) for-links (security_total p.0) k number
      (security-named ground.inputs.book.now.sheet g.valid ground.places.now g.numbered k p.0 p.1)
      (own ∙ its-own (first ground.places.now tables.Security k))
      (total-live ground.inputs.book.now.sheet g.valid ground.places.now g.numbered k p.0 p.1))

  pub security-written : (k number : ℕ) → k < length ground.inputs.book.now.sheet.securities
      → number ≡ first ground.places.now tables.Security k → (totals : List ℕ)
      → totals ≡ map (λ p. total_of ground.inputs.book.now.sheet (position_name p)) ground.inputs.book.now.sheet.securities
      → (a b : List Figure) → AreReckonedTo ground a (turn 1 k 0) → length b ≡ length a
      → option_map worth_of (slice_get b number) ≡ Some (total_worth (slice_index totals k))
      → ((other : ℕ) → (other ≡ number → ⊥) → slice_get b other ≡ slice_get a other)
      → AreReckonedTo ground b (turn 1 (k + 1) 0)
  security-written k number l own totals are a b is count there others =
      let p = got-row ground.inputs.book.now.sheet.securities k l in
      securities-on k b
      (total-made (security_total p.0) k number (slice_index totals k) a b
      (security-named ground.inputs.book.now.sheet g.valid ground.places.now g.numbered k p.0 p.1)
      (own ∙ its-own (first ground.places.now tables.Security k))
      (total-live ground.inputs.book.now.sheet g.valid ground.places.now g.numbered k p.0 p.1)
      (security-placed ground.inputs.factors.now ground.inputs.book.now.sheet g.valid totals are k p.0 p.1) is count there others)

-- what was pushed is all that the list has
pub pushed-at : (sheet book : BalanceSheet) (places : Numbered) (node : Node) (old now : List ℕ) → sheet ≡ book → old ≡ []
    → ArePushed sheet places node old now
    → AllZip (λ number source. StandsAt book places source number) now (sources_of book node)
pushed-at sheet book places node old now same none pushed =
    subst (λ s. AllZip (λ number source. StandsAt s places source number) now (sources_of s node)) same
    (subst (λ xs. AllZip (λ number source. StandsAt sheet places source number) xs (sources_of sheet node))
    (sym (pushed.list ∙ ap (λ xs. xs ++ pushed.more) none)) pushed.at)

-- figures that are there are within
pub have-within : (factors : FactorValues) (sheet : BalanceSheet) (figures : List Figure) (numbers : List ℕ) (list : List Node)
    → HaveFigures (reckoning_of factors sheet) figures numbers list → AllByRecursion (λ n. n < length figures) numbers
have-within factors sheet figures [] [] have = tt
have-within factors sheet figures [] (m ∷ list) have = absurd have
have-within factors sheet figures (n ∷ numbers) [] have = absurd have
have-within factors sheet figures (n ∷ numbers) (m ∷ list) have =
    (some-within (slice_get figures n) refl have.0, have-within factors sheet figures numbers list have.1)
  where
    some-within : (found : Option Figure) → slice_get figures n ≡ found
        → option_map worth_of found ≡ Some (worth_at factors sheet m) → n < length figures
    some-within None got h = absurd (cc)
    some-within (Some f) got h = slice_get_within figures n f got
