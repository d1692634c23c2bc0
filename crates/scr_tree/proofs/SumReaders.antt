-- What adds up a member of a sum or a Block, by its number.
use Rattle.std.proofs.Common.{◌≡◌, ◌⊎◌, inl, inr, ℕ, ◌<◌, ◌≤◌, ◌^◌, Bool, true, false, cond, ◌&&◌, ◌++◌, Contains, List, length, map, Option, Some, None, slice_get, refl, sym, ap, subst, ◌∙◌, arith}
use Rattle.std.specs.Prelude.{IfSome, IsNone, is_some}
use Rattle.std.proofs.lemmas.Bool.{and_parts, cases_lt, ltb-true}
use Rattle.std.proofs.lemmas.Option.{same_Some, slice_get_within}
use Rattle.scr_funds.proofs.Members.{IsMember-from_Contains, IsMember-map}
use Rattle.scr_sum_tree.specs.Blocks.{HasEachOnce, blocks_at, is_block}
use Rattle.scr_sum_tree.specs.Readers.{reader_of_block, reader_of_member}
use Rattle.scr_sum_tree.specs.declared.blocks.Level.{Level}
use Rattle.scr_sum_tree.specs.declared.readers.Reader.{Reader}
use Rattle.scr_sum_tree.specs.declared.readers.Reader.TheVariants as readers
use Rattle.scr_sum_tree.proofs.Partition.{is_block-numbered}
use Rattle.scr_sum_tree.proofs.SameMembers.{names-once}
use Rattle.scr_figure_ids.specs.Numbers.{StandsAt}
use Rattle.scr_member_index.specs.declared.lists.Lists.{Lists}
use Rattle.scr_ids.specs.Ranges.{Numbered}
use Rattle.scr_book.specs.RolledSheets.{RolledSheet}
use Rattle.scr_sheet.specs.Validity.{Valid}
use Rattle.scr_sheet.specs.declared.rows.Class.TheVariants as classes
use Rattle.scr_sheet.specs.declared.sheet.BalanceSheet.{BalanceSheet}
use Rattle.scr_nodes.specs.Live.{is_live}
use Rattle.scr_nodes.specs.Sources.{sources_of}
use Rattle.scr_nodes.specs.declared.node.Direction.TheVariants as directions
use Rattle.scr_nodes.specs.declared.node.Measure.TheVariants as measures
use Rattle.scr_nodes.specs.declared.node.Node.{Node}
use Rattle.scr_nodes.specs.declared.node.Node.TheVariants as nodes
use Rattle.scr_nodes.specs.declared.node.OfCurrency.TheVariants as of_currencies
use Rattle.scr_nodes.specs.declared.node.OfGroup.TheVariants as of_groups
use Rattle.scr_nodes.specs.declared.node.Whole.TheVariants as wholes
use Rattle.scr_block_graph.specs.Books.{rolled_of}
use Rattle.scr_block_graph.specs.Graph.{block_point, is_live_in, reads, roll_in, sources_in, tops_of}
use Rattle.scr_block_graph.specs.Reading.{IsReading, ReadsBlock, ReadsMember}
use Rattle.scr_block_graph.specs.Sums.{first_sum, member_of, reader_of, roll_of, second_sum}
use Rattle.scr_block_graph.specs.declared.point.Block.{Block}
use Rattle.scr_block_graph.specs.declared.point.Point.{Point}
use Rattle.scr_block_graph.specs.declared.point.Point.TheVariants as points
use Rattle.scr_block_graph.specs.declared.sum.Sum.{Sum}
use Rattle.scr_block_graph.specs.declared.sum.Sum.TheVariants as sums
use Rattle.scr_block_graph.proofs.Apart.{points-apart}
use Rattle.scr_block_graph.proofs.Counts.{few_members}
use Rattle.scr_block_graph.proofs.Lives.{own-sum}
use Rattle.scr_block_graph.proofs.ReadSums.{summed-read}
use Rattle.scr_block_graph.proofs.Small.{blocks-small}
use Rattle.scr_tree.specs.Marking.{AreMarkedMore, IsDependantAt, IsMemberReaderAt, IsReaderAt}
use Rattle.scr_tree.specs.Points.{AreNumbersOf, StandsIn}
use Rattle.scr_tree.specs.Reading.{fall_of}
use Rattle.scr_tree.proofs.Dependants.{no-block, rolls-of}
use Rattle.scr_tree.proofs.MarkedMore.{marked-as, marked-none, marked-then_as}
use Rattle.scr_tree.proofs.PlainReaders.{block-read}

-- ---- the figures that are reckoned from a sum

abbrev IsOne : Node → Sum → Type 0
IsOne node sum = (node ≡ reader_of sum) ⊎ (node ≡ fall_of sum)

as-sum : (node : Node) (own sum : Sum) → ◌≡◌ {A = Option Sum} (Some own) (Some sum) → IsOne node own → IsOne node sum
as-sum node own sum e is = subst (IsOne node) (same_Some own sum e) is

first-one : (node : Node) (sum : Sum) → first_sum node ≡ Some sum → IsOne node sum
first-one (nodes.Group name of_groups.Total) sum e = as-sum (nodes.Group name of_groups.Total) (sums.Group name) sum e (inl refl)
first-one (nodes.Currency currency (of_currencies.Loss direction)) sum e =
    as-sum (nodes.Currency currency (of_currencies.Loss direction)) (sums.Rates currency direction) sum e (inl refl)
first-one (nodes.Currency currency (of_currencies.Scenario directions.Up measures.Gross)) sum e =
    as-sum (nodes.Currency currency (of_currencies.Scenario directions.Up measures.Gross)) (sums.Assets currency) sum e (inl refl)
first-one (nodes.Currency currency (of_currencies.Scenario directions.Down measures.Gross)) sum e =
    as-sum (nodes.Currency currency (of_currencies.Scenario directions.Down measures.Gross)) (sums.Assets currency) sum e (inr refl)
first-one (nodes.Whole (wholes.ClassSum class)) sum e = as-sum (nodes.Whole (wholes.ClassSum class)) (sums.Class class) sum e (inl refl)
first-one (nodes.Whole wholes.Spread) sum e = as-sum (nodes.Whole wholes.Spread) sums.Spreads sum e (inl refl)
first-one (nodes.Whole wholes.Assets) sum e = as-sum (nodes.Whole wholes.Assets) sums.Grouped sum e (inl refl)
first-one (nodes.Whole wholes.Concentration) sum e = as-sum (nodes.Whole wholes.Concentration) sums.Squares sum e (inl refl)
first-one (nodes.Whole (wholes.BioScenario biometric projection measures.Gross)) sum e =
    as-sum (nodes.Whole (wholes.BioScenario biometric projection measures.Gross)) (sums.Losses biometric projection) sum e (inl refl)
first-one node sum e = absurd (cc)

second-one : (node : Node) (sum : Sum) → second_sum node ≡ Some sum → IsOne node sum
second-one (nodes.Currency currency (of_currencies.Loss direction)) sum e =
    as-sum (nodes.Currency currency (of_currencies.Loss direction)) (sums.Costs currency direction) sum e (inl refl)
second-one (nodes.Currency currency (of_currencies.Scenario directions.Up measures.Gross)) sum e =
    as-sum (nodes.Currency currency (of_currencies.Scenario directions.Up measures.Gross)) (sums.Presents currency) sum e (inl refl)
second-one (nodes.Currency currency (of_currencies.Scenario directions.Down measures.Gross)) sum e =
    as-sum (nodes.Currency currency (of_currencies.Scenario directions.Down measures.Gross)) (sums.Presents currency) sum e (inr refl)
second-one (nodes.Whole (wholes.ClassSum classes.Type2Equity)) sum e =
    as-sum (nodes.Whole (wholes.ClassSum classes.Type2Equity)) sums.Closed sum e (inl refl)
second-one node sum e = absurd (cc)

one-of : (node : Node) (sum : Sum) → IsReading sum readers.Whole (points.Figure node) → IsOne node sum
one-of node sum (inl e) = first-one node sum e
one-of node sum (inr e) = second-one node sum e

fall-reads : (sum : Sum) → IsReading sum readers.Whole (points.Figure (fall_of sum))
fall-reads (sums.Assets currency) = inl refl
fall-reads (sums.Presents currency) = inr refl
fall-reads (sums.Class class) = own-sum (sums.Class class)
fall-reads sums.Closed = own-sum sums.Closed
fall-reads sums.Spreads = own-sum sums.Spreads
fall-reads sums.Grouped = own-sum sums.Grouped
fall-reads (sums.Group name) = own-sum (sums.Group name)
fall-reads (sums.Rates currency direction) = own-sum (sums.Rates currency direction)
fall-reads (sums.Costs currency direction) = own-sum (sums.Costs currency direction)
fall-reads (sums.Losses biometric projection) = own-sum (sums.Losses biometric projection)
fall-reads sums.Squares = own-sum sums.Squares

fall-lives : (sheet : BalanceSheet) (sum : Sum) → is_live sheet (fall_of sum) ≡ reads sheet sum
fall-lives sheet (sums.Assets currency) = refl
fall-lives sheet (sums.Presents currency) = refl
fall-lives sheet (sums.Class class) = refl
fall-lives sheet sums.Closed = refl
fall-lives sheet sums.Spreads = refl
fall-lives sheet sums.Grouped = refl
fall-lives sheet (sums.Group name) = refl
fall-lives sheet (sums.Rates currency direction) = refl
fall-lives sheet (sums.Costs currency direction) = refl
fall-lives sheet (sums.Losses biometric projection) = refl
fall-lives sheet sums.Squares = refl

-- ---- a number that is looked up

pub found-is : (P : ℕ → Type 0) (found : Option ℕ) → IfSome found P → (other : ℕ) → found ≡ Some other → P other
found-is P None there other e = absurd (cc)
found-is P (Some n) there other e = subst P (same_Some n other e) there

pub is-found : (P : ℕ → Type 0) (found : Option ℕ) → ((n m : ℕ) → P n → P m → n ≡ m) → IfSome found P → (IsNone found → (n : ℕ) → P n → ⊥)
    → (other : ℕ) → P other → found ≡ Some other
is-found P None only there absent other p = absurd (absent refl other p)
is-found P (Some n) only there absent other p = ap Some (only n other there p)

module _ (book : RolledSheet) (places : Numbered) (lists : Lists) (numbers : AreNumbersOf book places lists) where
  pub found-within : (point : Point) (found : Option ℕ) → IfSome found (StandsIn book places lists point) → (size : ℕ) → places.size ≤ size
      → IfSome found (λ n. n < size)
  found-within point None there size room = tt
  found-within point (Some n) there size room = let low = numbers.numbers.within point n there in omega (arith, low, room)

  -- marks where the point has a number
  pub point-marked : (point : Point) (found : Option ℕ) → IfSome found (StandsIn book places lists point)
      → (IsNone found → (n : ℕ) → StandsIn book places lists point n → ⊥) → (old new : List ℕ)
      → AreMarkedMore (λ other. found ≡ Some other) old new → AreMarkedMore (StandsIn book places lists point) old new
  point-marked point found there absent old new =
      marked-as (λ other. found ≡ Some other) (StandsIn book places lists point) old new
      (found-is (StandsIn book places lists point) found there)
      (is-found (StandsIn book places lists point) found (numbers.numbers.only point) there absent)

  -- the same of a figure of a balance sheet that is the book's
  module _ (sheet : BalanceSheet) (told node : Node) (same : sheet ≡ book.sheet) (is : told ≡ node) (found : Option ℕ)
      (there : IfSome found (StandsAt sheet places told)) (absent : IsNone found → (n : ℕ) → StandsAt sheet places told n → ⊥) where
    abbrev Own : ℕ → Type 0
    Own n = StandsAt book.sheet places node n

    own-there : IfSome found Own
    own-there = subst (λ x. IfSome found (StandsAt book.sheet places x)) is (subst (λ (s : BalanceSheet). IfSome found (StandsAt s places told)) same there)

    own-absent : IsNone found → (n : ℕ) → Own n → ⊥
    own-absent none n at =
        absent none n (subst (λ (s : BalanceSheet). StandsAt s places told n) (sym same) (subst (λ x. StandsAt book.sheet places x n) (sym is) at))

    pub figure-within : (size : ℕ) → places.size ≤ size → IfSome found (λ n. n < size)
    figure-within size room = found-within (points.Figure node) found own-there size room

    pub figure-marked : (old new : List ℕ) → AreMarkedMore (λ other. found ≡ Some other) old new → AreMarkedMore (StandsAt book.sheet places node) old new
    figure-marked old new is = point-marked (points.Figure node) found own-there own-absent old new is

  -- the number of a Block on its level is small
  pub index-small : Valid book.sheet → (sum : Sum) (level : Level) (i : ℕ) → is_block (length (roll_in (rolled_of book) sum)) level i ≡ true → i < 2 ^ 32
  index-small valid sum level i is =
      let rolls = rolls-of book places lists numbers in
      let few = few_members (rolled_of book) valid sum (record { members = rolls.members (roll_of sum); once = rolls.once (roll_of sum) }) in
      let blocks = blocks-small (length (roll_in (rolled_of book) sum)) level 20000 few in
      let low = ltb-true i (blocks_at (length (roll_in (rolled_of book) sum)) level)
      (sym (is_block-numbered (length (roll_in (rolled_of book) sum)) level i) ∙ is) in
      omega (arith, blocks, low)

  module _ (sum : Sum) where
    -- ---- the readers of the whole sum

    -- by the rise, or the one figure that there is, and by the fall
    pub whole-to : reads book.sheet sum ≡ true → (other : ℕ)
        → StandsAt book.sheet places (reader_of sum) other ⊎ StandsAt book.sheet places (fall_of sum) other → IsReaderAt book places lists sum readers.Whole other
    whole-to live other (inl s) = record { point = points.Figure (reader_of sum); at = s; live = live; reads = own-sum sum }
    whole-to live other (inr s) = record { point = points.Figure (fall_of sum); at = s; live = fall-lives book.sheet sum ∙ live; reads = fall-reads sum }

    pub whole-from : (other : ℕ) → IsReaderAt book places lists sum readers.Whole other
        → StandsAt book.sheet places (reader_of sum) other ⊎ StandsAt book.sheet places (fall_of sum) other
    whole-from other r = by r.point r.at r.reads
      where
        at-one : (node : Node) → StandsAt book.sheet places node other → IsOne node sum
            → StandsAt book.sheet places (reader_of sum) other ⊎ StandsAt book.sheet places (fall_of sum) other
        at-one node s (inl e) = inl (subst (λ n. StandsAt book.sheet places n other) e s)
        at-one node s (inr e) = inr (subst (λ n. StandsAt book.sheet places n other) e s)

        by : (point : Point) → StandsIn book places lists point other → IsReading sum readers.Whole point
            → StandsAt book.sheet places (reader_of sum) other ⊎ StandsAt book.sheet places (fall_of sum) other
        by (points.Figure node) s is = at-one node s (one-of node sum is)
        by (points.Block block) s is = absurd is

    pub whole-both : reads book.sheet sum ≡ true → (old mid new : List ℕ) → AreMarkedMore (StandsAt book.sheet places (reader_of sum)) old mid
        → AreMarkedMore (StandsAt book.sheet places (fall_of sum)) mid new → AreMarkedMore (IsReaderAt book places lists sum readers.Whole) old new
    whole-both live old mid new one two = marked-then_as _ _ _ old mid new one two (whole-to live) whole-from

    -- where there is no fall beside it
    pub whole-one : reads book.sheet sum ≡ true → fall_of sum ≡ reader_of sum → (old new : List ℕ)
        → AreMarkedMore (StandsAt book.sheet places (reader_of sum)) old new → AreMarkedMore (IsReaderAt book places lists sum readers.Whole) old new
    whole-one live same old new one =
        marked-as (StandsAt book.sheet places (reader_of sum)) (IsReaderAt book places lists sum readers.Whole) old new
        (λ other s. whole-to live other (inl s)) (λ other r. alone other (whole-from other r)) one
      where
        alone : (other : ℕ) → StandsAt book.sheet places (reader_of sum) other ⊎ StandsAt book.sheet places (fall_of sum) other
            → StandsAt book.sheet places (reader_of sum) other
        alone other (inl s) = s
        alone other (inr s) = subst (λ n. StandsAt book.sheet places n other) same s

    -- a live reader, so the sum is read
    pub read-live : (reader : Reader) (other : ℕ) → IsReaderAt book places lists sum reader other → reads book.sheet sum ≡ true
    read-live reader other r = by reader r.point r.live r.reads
      where
        of-one : (node : Node) → is_live book.sheet node ≡ true → IsOne node sum → reads book.sheet sum ≡ true
        of-one node live (inl e) = subst (λ n. is_live book.sheet n ≡ true) e live
        of-one node live (inr e) = sym (fall-lives book.sheet sum) ∙ subst (λ n. is_live book.sheet n ≡ true) e live

        by : (reader : Reader) (point : Point) → is_live_in (rolled_of book) point ≡ true → IsReading sum reader point → reads book.sheet sum ≡ true
        by readers.Whole (points.Figure node) live is = of-one node live (one-of node sum is)
        by readers.Whole (points.Block block) live is = absurd is
        by (readers.Block level i) (points.Figure node) live is = absurd is
        by (readers.Block level i) (points.Block block) live is =
            subst (λ (b : Block). reads book.sheet b.sum ≡ true) is
            (and_parts (reads book.sheet block.sum) (is_block (length (roll_in (rolled_of book) block.sum)) block.level block.index) live).0

    pub unread : (reader : Reader) (list : List ℕ) → reads book.sheet sum ≡ false → AreMarkedMore (IsReaderAt book places lists sum reader) list list
    unread reader list none =
        marked-none (IsReaderAt book places lists sum reader) list
        (λ other r. let clash : false ≡ true = sym none ∙ read-live reader other r in absurd (cc))

    -- ---- a Block that adds up others

    pub block-marked : (level : Level) (i : ℕ) → reads book.sheet sum ≡ true → is_block (length (roll_in (rolled_of book) sum)) level i ≡ true
        → (old new : List ℕ) → AreMarkedMore (StandsIn book places lists (block_point sum level i)) old new
        → AreMarkedMore (IsReaderAt book places lists sum (readers.Block level i)) old new
    block-marked level i live there old new = marked-as _ _ old new to back
      where
        to : (other : ℕ) → StandsIn book places lists (block_point sum level i) other → IsReaderAt book places lists sum (readers.Block level i) other
        to other s = record {
          point = block_point sum level i;
          at = s;
          live = ap (λ t. t && is_block (length (roll_in (rolled_of book) sum)) level i) live ∙ there;
          reads = refl;
        }

        back : (other : ℕ) → IsReaderAt book places lists sum (readers.Block level i) other → StandsIn book places lists (block_point sum level i) other
        back other r = by r.point r.at r.reads
          where
            by : (point : Point) → StandsIn book places lists point other → IsReading sum (readers.Block level i) point
                → StandsIn book places lists (block_point sum level i) other
            by (points.Figure node) s is = absurd is
            by (points.Block block) s is = subst (λ (b : Block). StandsIn book places lists (points.Block b) other) is s

    -- ---- members

    module _ (name : List ℕ) (place : ℕ) (at : slice_get (roll_in (rolled_of book) sum) place ≡ Some name) where
      abbrev count : ℕ
      count = length (roll_in (rolled_of book) sum)

      same-place : (q : ℕ) → slice_get (roll_in (rolled_of book) sum) q ≡ Some name → q ≡ place
      same-place q there = by (cases_lt q place) (cases_lt place q)
        where
          once : HasEachOnce (roll_in (rolled_of book) sum)
          once = names-once (roll_in (rolled_of book) sum) ((rolls-of book places lists numbers).once (roll_of sum))

          by : (q < place) ⊎ (place ≤ q) → (place < q) ⊎ (q ≤ place) → q ≡ place
          by (inl low) d = absurd (once q place low (slice_get_within (roll_in (rolled_of book) sum) place name at) (there ∙ sym at))
          by (inr high) (inl low) = absurd (once place q low (slice_get_within (roll_in (rolled_of book) sum) q name there) (at ∙ sym there))
          by (inr high) (inr low) = omega (arith, high, low)

      pub member-marked : (old new : List ℕ) → AreMarkedMore (IsReaderAt book places lists sum (reader_of_member (length (roll_in (rolled_of book) sum)) place)) old new
          → AreMarkedMore (IsMemberReaderAt book places lists sum name) old new
      member-marked old new = marked-as _ _ old new to back
        where
          to : (other : ℕ) → IsReaderAt book places lists sum (reader_of_member count place) other → IsMemberReaderAt book places lists sum name other
          to other r = record {
            point = r.point;
            at = r.at;
            live = r.live;
            reads = record { place = place; name = name; at = at; is = refl; reads = r.reads };
          }

          back : (other : ℕ) → IsMemberReaderAt book places lists sum name other → IsReaderAt book places lists sum (reader_of_member count place) other
          back other m =
              let called : m.reads.name ≡ name = (points-apart sum).members m.reads.name name m.reads.is in
              let one : m.reads.place ≡ place =
              same-place m.reads.place (subst (λ (x : List ℕ). slice_get (roll_in (rolled_of book) sum) m.reads.place ≡ Some x) called m.reads.at) in
              record {
                point = m.point;
                at = m.at;
                live = m.live;
                reads = subst (λ p. IsReading sum (reader_of_member count p) m.point) one m.reads.reads;
              }

  -- ---- what is reckoned from a Block

  abbrev block_in : Block → Point → Block
  block_in other (points.Block block) = block
  block_in other (points.Figure node) = other

  module _ (block : Block) (number : ℕ) (from : StandsIn book places lists (points.Block block) number)
      (live : is_live_in (rolled_of book) (points.Block block) ≡ true) where
    there : is_block (length (roll_in (rolled_of book) block.sum)) block.level block.index ≡ true
    there = (and_parts (reads book.sheet block.sum) (is_block (length (roll_in (rolled_of book) block.sum)) block.level block.index) live).1

    abbrev Above : Reader
    Above = reader_of_block (length (roll_in (rolled_of book) block.sum)) block.level block.index

    to-above : (other : ℕ) → IsReaderAt book places lists block.sum Above other → IsDependantAt book places lists number other
    to-above other r = record {
      point = r.point;
      below = points.Block block;
      at = r.at;
      live = r.live;
      from = from;
      reads = block-read (rolled_of book) (rolls-of book places lists numbers) block.sum r.point (points.Block block) r.live
          (record { level = block.level; index = block.index; there = there; is = refl; reads = r.reads });
    }

    -- whatever reads a Block reads it for its sum
    pub reads-block : (point : Point) → is_live_in (rolled_of book) point ≡ true → Contains (sources_in (rolled_of book) point) (points.Block block)
        → IsReading block.sum Above point
    reads-block point lives h = by point lives h
      where
        from-read : (point : Point) → (sum : Sum) × (ReadsMember (rolled_of book) sum point (points.Block block) ⊎ ReadsBlock (rolled_of book) sum point (points.Block block))
            → IsReading block.sum Above point
        from-read point (sum, inl m) = absurd (no-block (member_of sum m.name) (points.Block block) m.is tt)
        from-read point (sum, inr b) =
            subst (λ (x : Block). IsReading x.sum (reader_of_block (length (roll_in (rolled_of book) x.sum)) x.level x.index) point)
            (ap (block_in block) b.is) b.reads

        by : (point : Point) → is_live_in (rolled_of book) point ≡ true → Contains (sources_in (rolled_of book) point) (points.Block block)
            → IsReading block.sum Above point
        by (points.Block other) lives h =
            from-read (points.Block other)
            ((summed-read (rolled_of book) (rolls-of book places lists numbers) (points.Block other) (points.Block block) tt lives).0 h)
        by (points.Figure node) lives h = of-figure (is_some (first_sum node)) refl
          where
            shown : Bool → List Point
            shown t = cond t (tops_of (rolled_of book) (first_sum node) ++ tops_of (rolled_of book) (second_sum node)) (map points.Figure (sources_of book.sheet node))

            of-figure : (t : Bool) → is_some (first_sum node) ≡ t → IsReading block.sum Above (points.Figure node)
            of-figure true e =
                from-read (points.Figure node)
                ((summed-read (rolled_of book) (rolls-of book places lists numbers) (points.Figure node) (points.Block block) e lives).0 h)
            of-figure false e =
                let m = IsMember-map points.Figure (sources_of book.sheet node) (points.Block block)
                (IsMember-from_Contains (map points.Figure (sources_of book.sheet node)) (points.Block block)
                (subst (λ t. Contains (shown t) (points.Block block)) e h)) in
                absurd (no-block m.0 (points.Block block) m.2 tt)

    pub above-marked : (old new : List ℕ) → AreMarkedMore (IsReaderAt book places lists block.sum Above) old new
        → AreMarkedMore (IsDependantAt book places lists number) old new
    above-marked old new = marked-as _ _ old new to-above back
      where
        back : (other : ℕ) → IsDependantAt book places lists number other → IsReaderAt book places lists block.sum Above other
        back other d = record {
          point = d.point;
          at = d.at;
          live = d.live;
          reads = reads-block d.point d.live
              (subst (Contains (sources_in (rolled_of book) d.point)) (numbers.numbers.exact number d.below (points.Block block) d.from from) d.reads);
        }
