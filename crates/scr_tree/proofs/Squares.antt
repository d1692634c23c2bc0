-- Squares and what adds them up: all leads to the assets.
use Rattle.std.proofs.Common.{◌≡◌, ◌⊎◌, inl, inr, ℕ, ◌+◌, ◌*◌, ◌/◌, ◌<◌, ◌≤◌, true, false, List, [], ◌∷◌, length, map, Some, refl, sym, ap, subst, ◌∙◌, arith}
use Rattle.std.specs.Prelude.{if◌then◌else◌, is_some, nat_le}
use Rattle.std.proofs.lemmas.Bool.{cases_lt, le-leb, lt-leb, lt-ltb}
use Rattle.std.proofs.lemmas.List.{length-map}
use Rattle.scr_sum_tree.specs.Blocks.{blocks_at, is_block, parts}
use Rattle.scr_sum_tree.specs.Readers.{reader_of_block, reader_of_member}
use Rattle.scr_sum_tree.specs.Sums.{AddsUp, total}
use Rattle.scr_sum_tree.specs.declared.blocks.Level.{Level}
use Rattle.scr_sum_tree.specs.declared.blocks.Level.TheVariants as levels
use Rattle.scr_sum_tree.specs.declared.readers.Reader.{Reader}
use Rattle.scr_sum_tree.specs.declared.readers.Reader.TheVariants as readers
use Rattle.scr_sum_tree.proofs.BlockTests.{Decides-is_block_over}
use Rattle.scr_sum_tree.proofs.Partition.{is_block-numbered}
use Rattle.scr_sum_tree.proofs.SameMembers.{total-same}
use Rattle.scr_figure_ids.specs.Numbers.{StandsAt}
use Rattle.scr_member_index.specs.declared.lists.Lists.{Lists}
use Rattle.scr_ids.specs.Ranges.{Numbered, count as count_of, first}
use Rattle.scr_ids.specs.declared.table.Table.TheVariants as ranged
use Rattle.scr_book.specs.RolledSheets.{RolledSheet}
use Rattle.scr_sheet.specs.BalanceSheet.{group_name}
use Rattle.scr_sheet.specs.Validity.{Valid}
use Rattle.scr_sheet.specs.declared.roll.Roll.TheVariants as rolls
use Rattle.scr_nodes.specs.Live.{is_live}
use Rattle.scr_nodes.specs.Rows.{group_of}
use Rattle.scr_nodes.specs.declared.node.Node.TheVariants as nodes
use Rattle.scr_nodes.specs.declared.node.OfGroup.TheVariants as of_groups
use Rattle.scr_nodes.proofs.OwnRows.{own-groups}
use Rattle.scr_reachability.specs.Leading.{Leads}
use Rattle.scr_reachability.specs.Leading.Leads.{above, touched}
use Rattle.scr_block_graph.specs.Books.{rolled_of}
use Rattle.scr_block_graph.specs.Graph.{block_point, is_live_in, member_point, reads, roll_in}
use Rattle.scr_block_graph.specs.Reading.{IsReading}
use Rattle.scr_block_graph.specs.declared.point.Block.{Block}
use Rattle.scr_block_graph.specs.declared.point.Point.{Point}
use Rattle.scr_block_graph.specs.declared.point.Point.TheVariants as points
use Rattle.scr_block_graph.specs.declared.sum.Sum.TheVariants as sums
use Rattle.scr_block_graph.proofs.Members.{listed-members, once-groups}
use Rattle.scr_tree.specs.Marking.{AreMarkedMore, IsAboveAt, IsAboveSquares, IsReaderAt, IsSquare, IsSquareOrAbove, assets}
use Rattle.scr_tree.specs.Points.{AreNumbersOf, StandsIn, book_graph}
use Rattle.scr_tree.proofs.Dependants.{rolls-of}
use Rattle.scr_tree.proofs.FirstRows.{each-get, got-map, got-row}
use Rattle.scr_tree.proofs.MarkedMore.{marked-as, marked-none}
use Rattle.scr_tree.proofs.PlainReaders.{block-read, member-read}

-- ---- how many squares there are

counts : AddsUp 0 (λ a b. a + b)
counts = record { grouped = λ a b c. omega arith; swapped = λ a b. omega arith; empty = λ a. omega arith }

counted : (names : List (List ℕ)) → total 0 (λ a b. a + b) (map (λ name. 1) names) ≡ length names
counted [] = refl
counted (name ∷ names) = let rest = counted names in omega (arith, rest)

-- ---- what adds up the first member or Block that a Block spans

member-own : (count i : ℕ) → is_block count levels.First i ≡ true → reader_of_member count (32 * i) ≡ readers.Block levels.First i
member-own count i is =
    let long = (Decides-is_block_over count i).0 is in
    let more : nat_le count 32 ≡ false = lt-leb count 32 long.0 in
    let own : (32 * i) / 32 ≡ i = omega arith in
    ap (λ t. if t then readers.Whole else readers.Block levels.First ((32 * i) / 32)) more ∙ ap (readers.Block levels.First) own

member-inside : (count i : ℕ) → is_block count levels.First i ≡ true → 32 * i < count
member-inside count i is = let long = (Decides-is_block_over count i).0 is in let low : i < (count + 31) / 32 = long.1 in omega (arith, low)

block-own : (count i : ℕ) → is_block count levels.Second i ≡ true → reader_of_block count levels.First (32 * i) ≡ readers.Block levels.Second i
block-own count i is =
    let long = (Decides-is_block_over (parts count) i).0 is in
    let more : nat_le (parts count) 32 ≡ false = lt-leb (parts count) 32 long.0 in
    let own : (32 * i) / 32 ≡ i = omega arith in
    ap (λ t. if t then readers.Whole else readers.Block levels.Second ((32 * i) / 32)) more ∙ ap (readers.Block levels.Second) own

block-inside : (count i : ℕ) → is_block count levels.Second i ≡ true → is_block count levels.First (32 * i) ≡ true
block-inside count i is =
    let long = (Decides-is_block_over (parts count) i).0 is in
    let many : 32 < (count + 31) / 32 = long.0 in
    let low : i < ((count + 31) / 32 + 31) / 32 = long.1 in
    let more : 32 < count = omega (arith, many) in
    let inside : 32 * i < (count + 31) / 32 = omega (arith, low) in
    (Decides-is_block_over count (32 * i)).1 (more, inside)

-- what stands first at the top
abbrev Top : ℕ → Type 0
Top count =
    (reader_of_member count 0 ≡ readers.Whole)
    ⊎ ((level : Level) × (is_block count level 0 ≡ true) × (reader_of_block count level 0 ≡ readers.Whole))

top : (count : ℕ) → 0 < count → Top count
top count some = by (cases_lt 32 count)
  where
    over : 32 < count → (32 < parts count) ⊎ (parts count ≤ 32) → Top count
    over more (inl many) =
        let first : 0 < (parts count + 31) / 32 = omega (arith, many) in
        inr (levels.Second, (Decides-is_block_over (parts count) 0).1 (many, first), refl)
    over more (inr few) =
        let first : 0 < (count + 31) / 32 = omega (arith, more) in
        inr (
          levels.First,
          (Decides-is_block_over count 0).1 (more, first),
          ap (λ t. if t then readers.Whole else readers.Block levels.Second (0 / 32)) (le-leb (parts count) 32 few),
        )

    by : (32 < count) ⊎ (count ≤ 32) → Top count
    by (inl more) = over more (cases_lt 32 (parts count))
    by (inr few) = inl (ap (λ t. if t then readers.Whole else readers.Block levels.First (0 / 32)) (le-leb count 32 few))

module _ (book : RolledSheet) (places : Numbered) (lists : Lists) (numbers : AreNumbersOf book places lists) where
  abbrev names : List (List ℕ)
  names = roll_in (rolled_of book) sums.Squares

  -- there are as many members as groups
  pub groups-counted : Valid book.sheet → length (roll_in (rolled_of book) sums.Squares) ≡ length book.sheet.groups
  groups-counted valid =
      sym (counted names)
      ∙ total-same 0 (λ a b. a + b) counts (λ name. 1) names (map group_name book.sheet.groups) ((rolls-of book places lists numbers).once rolls.Groups)
      (once-groups book.sheet valid)
      (λ name. (rolls-of book places lists numbers).members rolls.Groups name ∙ sym (listed-members book.sheet valid sums.Squares name))
      ∙ counted (map group_name book.sheet.groups) ∙ length-map book.sheet.groups group_name

  -- ---- all that squares lead to leads to the assets

  module _ (number : ℕ) (at_assets : StandsIn book places lists assets number) where
    abbrev Leading : Point → Type 0
    Leading point = Leads (book_graph (rolled_of book)) (λ below. StandsIn book places lists below number) point

    square-leads : (name : List ℕ) → Leading (points.Figure (nodes.Group name of_groups.ConcentrationSquare))
    square-leads name =
        above (points.Figure (nodes.Group name of_groups.ConcentrationSquare)) assets (0, omega arith, refl) (touched assets at_assets)

    -- a live point that adds up a member
    member-leads : (point : Point) (place : ℕ) → is_live_in (rolled_of book) point ≡ true → place < length names
        → IsReading sums.Squares (reader_of_member (length names) place) point → Leading point
    member-leads point place live low reads =
        let found = got-row names place low in
        above point (member_point sums.Squares found.0)
        (member-read (rolled_of book) (rolls-of book places lists numbers) sums.Squares point (member_point sums.Squares found.0) live
        (record { place = place; name = found.0; at = found.1; is = refl; reads = reads }))
        (square-leads found.0)

    -- or a Block that leads there
    block-leads : (point : Point) (level : Level) (i : ℕ) → is_live_in (rolled_of book) point ≡ true → is_block (length names) level i ≡ true
        → IsReading sums.Squares (reader_of_block (length names) level i) point → Leading (block_point sums.Squares level i) → Leading point
    block-leads point level i live there reads leads =
        above point (block_point sums.Squares level i)
        (block-read (rolled_of book) (rolls-of book places lists numbers) sums.Squares point (block_point sums.Squares level i) live
        (record { level = level; index = i; there = there; is = refl; reads = reads }))
        leads

    live-block : (level : Level) (i : ℕ) → is_block (length names) level i ≡ true → is_live_in (rolled_of book) (block_point sums.Squares level i) ≡ true
    live-block level i there = there

    first-leads : (i : ℕ) → is_block (length names) levels.First i ≡ true → Leading (block_point sums.Squares levels.First i)
    first-leads i there =
        member-leads (block_point sums.Squares levels.First i) (32 * i) (live-block levels.First i there) (member-inside (length names) i there)
        (subst (λ r. IsReading sums.Squares r (block_point sums.Squares levels.First i)) (sym (member-own (length names) i there)) refl)

    second-leads : (i : ℕ) → is_block (length names) levels.Second i ≡ true → Leading (block_point sums.Squares levels.Second i)
    second-leads i there =
        let below = block-inside (length names) i there in
        block-leads (block_point sums.Squares levels.Second i) levels.First (32 * i) (live-block levels.Second i there) below
        (subst (λ r. IsReading sums.Squares r (block_point sums.Squares levels.Second i)) (sym (block-own (length names) i there)) refl)
        (first-leads (32 * i) below)

    any-leads : (level : Level) (i : ℕ) → is_block (length names) level i ≡ true → Leading (block_point sums.Squares level i)
    any-leads levels.First i there = first-leads i there
    any-leads levels.Second i there = second-leads i there

    whole-leads : (point : Point) → is_live_in (rolled_of book) point ≡ true → 0 < length names → IsReading sums.Squares readers.Whole point → Leading point
    whole-leads point live some reads = by (top (length names) some)
      where
        by : Top (length names) → Leading point
        by (inl is) = member-leads point 0 live some (subst (λ r. IsReading sums.Squares r point) (sym is) reads)
        by (inr (level, there, is)) = block-leads point level 0 live there (subst (λ r. IsReading sums.Squares r point) (sym is) reads) (any-leads level 0 there)

    pub squares-above : (other : ℕ) → IsSquareOrAbove book places lists other → IsAboveAt book places lists number other
    squares-above other s = record { point = s.point; at = s.at; live = s.live; leads = by s.point s.live s.is }
      where
        by : (point : Point) → is_live_in (rolled_of book) point ≡ true → IsSquare point ⊎ ((reader : Reader) × IsReading sums.Squares reader point) → Leading point
        by point live (inl (name, e)) = subst Leading (sym e) (square-leads name)
        by point live (inr (readers.Whole, reads)) = whole-leads point live s.some reads
        by (points.Figure node) live (inr (readers.Block level i, reads)) = absurd reads
        by (points.Block block) live (inr (readers.Block level i, reads)) =
            let there : is_block (length names) level i ≡ true =
            subst (λ (b : Block). is_live_in (rolled_of book) (points.Block b) ≡ true) reads live in
            subst (λ (b : Block). Leading (points.Block b)) (sym reads) (any-leads level i there)

  -- a Block of the level
  pub is-block : (level : Level) (count i : ℕ) → count ≡ blocks_at (length (roll_in (rolled_of book) sums.Squares)) level → i < count
      → is_block (length (roll_in (rolled_of book) sums.Squares)) level i ≡ true
  is-block level count i own low =
      is_block-numbered (length names) level i ∙ lt-ltb i (blocks_at (length names) level) (subst (λ n. i < n) own low)

  module _ (valid : Valid book.sheet) where
    pub record SquareStands (k : ℕ) : Type 0 where
      pub name : List ℕ
      pub at : StandsAt book.sheet places (nodes.Group name of_groups.ConcentrationSquare) (first places ranged.Group k + 1)
      pub live : is_live book.sheet (nodes.Group name of_groups.ConcentrationSquare) ≡ true

    pub square-number : (k : ℕ) → k < length book.sheet.groups → SquareStands k
    square-number k low =
        let group = got-row book.sheet.groups k low in
        let rows : count_of places ranged.Group ≡ length (map group_name book.sheet.groups) = numbers.numbered.rows ranged.Group refl in
        let called : length (map group_name book.sheet.groups) ≡ length book.sheet.groups = length-map book.sheet.groups group_name in
        record {
          name = group_name group.0;
          at = record {
            k = k;
            row = got-map group_name book.sheet.groups k group.0 group.1;
            at = record { row = omega (arith, low, rows, called); family = omega arith; is = refl };
          };
          live = ap is_some (each-get (λ g. group_of (group_name g) book.sheet.groups ≡ Some g) book.sheet.groups k group.0 (own-groups book.sheet valid) group.1);
        }

    -- where there are no groups there are no squares
    pub none-marked : length book.sheet.groups ≡ 0 → (list : List ℕ) → AreMarkedMore (IsAboveSquares book places lists) list list
    none-marked none list =
        marked-none (IsAboveSquares book places lists) list (λ other s. let some = s.some in let all = groups-counted valid in omega (arith, some, all, none))

    -- and where there are some, what adds all up is reckoned from them
    pub above-marked : 0 < length book.sheet.groups → (old new : List ℕ) → AreMarkedMore (IsReaderAt book places lists sums.Squares readers.Whole) old new
        → AreMarkedMore (IsAboveSquares book places lists) old new
    above-marked some old new = marked-as (IsReaderAt book places lists sums.Squares readers.Whole) (IsAboveSquares book places lists) old new to from
      where
        to : (other : ℕ) → IsReaderAt book places lists sums.Squares readers.Whole other → IsAboveSquares book places lists other
        to other r =
            let all = groups-counted valid in
            record { point = r.point; at = r.at; live = r.live; some = omega (arith, some, all); reads = r.reads }

        from : (other : ℕ) → IsAboveSquares book places lists other → IsReaderAt book places lists sums.Squares readers.Whole other
        from other a = record { point = a.point; at = a.at; live = a.live; reads = a.reads }
