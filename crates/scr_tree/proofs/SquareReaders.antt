-- What is reckoned from squares, and from the Blocks over them: such Blocks again, and what is reckoned from all squares together.
use Rattle.std.proofs.Common.{◌≡◌, ◌⊎◌, inl, inr, ℕ, ◌+◌, ◌/◌, ◌<◌, Bool, true, false, cond, ◌++◌, Contains, List, length, map, refl, sym, ap, subst, ◌∙◌, arith}
use Rattle.std.proofs.lemmas.Bool.{and_parts}
use Rattle.scr_funds.proofs.Members.{IsMember, IsMember-from_Contains, IsMember-map}
use Rattle.scr_sum_tree.specs.Blocks.{is_block, parts}
use Rattle.scr_sum_tree.specs.Readers.{reader_of_block, reader_of_member}
use Rattle.scr_sum_tree.specs.declared.blocks.Level.{Level}
use Rattle.scr_sum_tree.specs.declared.blocks.Level.TheVariants as levels
use Rattle.scr_sum_tree.specs.declared.readers.Reader.{Reader}
use Rattle.scr_sum_tree.specs.declared.readers.Reader.TheVariants as readers
use Rattle.scr_sum_tree.proofs.BlockTests.{Decides-is_block_over}
use Rattle.scr_figure_ids.specs.Numbers.{StandsAt}
use Rattle.scr_member_index.specs.declared.lists.Lists.{Lists}
use Rattle.scr_ids.specs.Ranges.{Numbered}
use Rattle.scr_book.specs.RolledSheets.{RolledSheet}
use Rattle.scr_nodes.specs.Live.{is_live}
use Rattle.scr_reachability.specs.LinkedDues.{IsLiveAt}
use Rattle.scr_nodes.specs.Sources.{sources_of}
use Rattle.scr_nodes.specs.declared.node.Node.{Node}
use Rattle.scr_nodes.specs.declared.node.Node.TheVariants as nodes
use Rattle.scr_nodes.specs.declared.node.OfGroup.TheVariants as of_groups
use Rattle.scr_block_graph.specs.Books.{rolled_of}
use Rattle.scr_block_graph.specs.Graph.{is_live_in, reads, roll_in, sources_in, tops_of}
use Rattle.scr_block_graph.specs.Reading.{IsReading}
use Rattle.scr_block_graph.specs.Sums.{first_sum, second_sum}
use Rattle.scr_block_graph.specs.declared.point.Block.{Block}
use Rattle.scr_block_graph.specs.declared.point.Point.{Point}
use Rattle.scr_block_graph.specs.declared.point.Point.TheVariants as points
use Rattle.scr_block_graph.specs.declared.sum.Sum.{Sum}
use Rattle.scr_block_graph.specs.declared.sum.Sum.TheVariants as sums
use Rattle.scr_tree.specs.Marking.{IsAboveSquares, IsDependantAt, IsSquare, IsSquareOrAbove, IsSquaresAt, is_of_squares, is_squares}
use Rattle.scr_tree.specs.Points.{AreNumbersOf, IsLinkedPoint, StandsIn, book_graph, is_linked}
use Rattle.scr_tree.proofs.Dependants.{ByMember, ByRow, member-as, plain-cases}
use Rattle.scr_tree.proofs.MemberSeats.{is-member}
use Rattle.scr_tree.proofs.NoSquares.{square-apart}
use Rattle.scr_tree.proofs.PlainReaders.{not-summed}
use Rattle.scr_tree.proofs.SumReaders.{reads-block}

-- the figures of a list of figures as points
pub figures-of : (node : Node) (list : List Node) → Contains (map points.Figure list) (points.Figure node) → IsMember node list
figures-of node list h =
    let m = IsMember-map points.Figure list (points.Figure node) (IsMember-from_Contains (map points.Figure list) (points.Figure node) h) in
    subst (λ n. IsMember n list) (let same : m.0 ≡ node = cc in same) m.1

-- a point is linked or not
pub linked-or : (point : Point) → IsLinkedPoint point ⊎ (IsLinkedPoint point → ⊥)
linked-or (points.Block block) = inr (λ h. h)
linked-or (points.Figure node) = by (is_linked node) refl
  where
    by : (t : Bool) → is_linked node ≡ t → (is_linked node ≡ true) ⊎ (is_linked node ≡ true → ⊥)
    by true e = inl e
    by false e = inr (λ h. let clash : true ≡ false = sym h ∙ e in absurd (cc))

-- ---- which points they are

pub squares-only : (sum : Sum) → is_squares sum ≡ true → sum ≡ sums.Squares
squares-only (sums.Class class) e = absurd (cc)
squares-only sums.Closed e = absurd (cc)
squares-only sums.Spreads e = absurd (cc)
squares-only sums.Grouped e = absurd (cc)
squares-only (sums.Group group) e = absurd (cc)
squares-only (sums.Assets currency) e = absurd (cc)
squares-only (sums.Rates currency direction) e = absurd (cc)
squares-only (sums.Costs currency direction) e = absurd (cc)
squares-only (sums.Presents currency) e = absurd (cc)
squares-only (sums.Losses biometric projection) e = absurd (cc)
squares-only sums.Squares e = refl

pub square-only : (node : Node) → is_of_squares (points.Figure node) ≡ true → (name : List ℕ) × (node ≡ nodes.Group name of_groups.ConcentrationSquare)
square-only (nodes.Fund name what) e = absurd (cc)
square-only (nodes.Security name what) e = absurd (cc)
square-only (nodes.Liability name what) e = absurd (cc)
square-only (nodes.Group name of_groups.Total) e = absurd (cc)
square-only (nodes.Group name of_groups.ConcentrationSquare) e = (name, refl)
square-only (nodes.Group name of_groups.Loss) e = absurd (cc)
square-only (nodes.Currency name what) e = absurd (cc)
square-only (nodes.Whole what) e = absurd (cc)

pub of-square : (point : Point) → IsSquare point → is_of_squares point ≡ true
of-square point (name, e) = subst (λ p. is_of_squares p ≡ true) (sym e) refl

-- the Block at the same place over another sum
abbrev of-sum : Block → Sum → Block
of-sum block sum = record { sum = sum; level = block.level; index = block.index }

-- where there is a Block there is a member
some-block : (count : ℕ) (level : Level) (i : ℕ) → is_block count level i ≡ true → 0 < count
some-block count levels.First i is = let long = ((Decides-is_block_over count i).0 is).0 in omega (arith, long)
some-block count levels.Second i is =
    let long : 32 < (count + 31) / 32 = ((Decides-is_block_over (parts count) i).0 is).0 in omega (arith, long)

module _ (book : RolledSheet) (places : Numbered) (lists : Lists) (numbers : AreNumbersOf book places lists) where
  -- what is reckoned from a square adds up squares
  above-square : (square : Point) (place other : ℕ) → IsSquare square → StandsIn book places lists square place → IsDependantAt book places lists place other
      → IsSquareOrAbove book places lists other
  above-square square place other (name, e) there d = by (linked-or d.point)
    where
      from : StandsAt book.sheet places (nodes.Group name of_groups.ConcentrationSquare) place
      from = subst (λ p. StandsIn book places lists p place) e there

      below : d.below ≡ points.Figure (nodes.Group name of_groups.ConcentrationSquare)
      below = numbers.numbers.exact place d.below (points.Figure (nodes.Group name of_groups.ConcentrationSquare)) d.from from

      Square : Node
      Square = nodes.Group name of_groups.ConcentrationSquare

      shown : Node → Bool → List Point
      shown node t = cond t (tops_of (rolled_of book) (first_sum node) ++ tops_of (rolled_of book) (second_sum node)) (map points.Figure (sources_of book.sheet node))

      by-member : ByMember book places lists numbers Square other → 0 < length (roll_in (rolled_of book) sums.Squares)
      by-member m =
          let h = member-as book places lists numbers m.sum sums.Squares m.name name m.adds.1 m.adds.0 m.member in
          let low = h.1 in
          omega (arith, low)

      by-reader : (m : ByMember book places lists numbers Square other) → (reader : Reader) × IsReading sums.Squares reader m.reader.point
      by-reader m = (
        reader_of_member (length (roll_in (rolled_of book) m.sum)) m.reader.reads.place,
        subst (λ s. IsReading s (reader_of_member (length (roll_in (rolled_of book) m.sum)) m.reader.reads.place) m.reader.point) m.adds.1 m.reader.reads.reads,
      )

      by : IsLinkedPoint d.point ⊎ (IsLinkedPoint d.point → ⊥) → IsSquareOrAbove book places lists other
      by (inl linked) = absurd (never d.point linked (subst (Contains (sources_in (rolled_of book) d.point)) below d.reads))
        where
          never : (point : Point) → IsLinkedPoint point → Contains (sources_in (rolled_of book) point) (points.Figure (nodes.Group name of_groups.ConcentrationSquare)) → ⊥
          never (points.Block block) linked h = linked
          never (points.Figure node) linked h =
              square-apart book.sheet name node linked
              (figures-of (nodes.Group name of_groups.ConcentrationSquare) (sources_of book.sheet node)
              (subst (λ t. Contains (shown node t) (points.Figure (nodes.Group name of_groups.ConcentrationSquare))) (not-summed node linked) h))
      by (inr plain) = of-plain (plain-cases book places lists numbers (nodes.Group name of_groups.ConcentrationSquare) place from other (d, plain))
        where
          of-plain : ByMember book places lists numbers (nodes.Group name of_groups.ConcentrationSquare) other
              ⊎ ByRow book places lists numbers (nodes.Group name of_groups.ConcentrationSquare) other → IsSquareOrAbove book places lists other
          of-plain (inl m) = record {
            point = m.reader.point;
            at = m.reader.at;
            live = m.reader.live;
            some = by-member m;
            is = inr (by-reader m);
          }
          of-plain (inr r) = absurd r.reads

  -- what is reckoned from all squares together is one that is reckoned from squares
  pub as-above : (other : ℕ) → IsAboveSquares book places lists other → IsSquareOrAbove book places lists other
  as-above other a = record { point = a.point; at = a.at; live = a.live; some = a.some; is = inr (readers.Whole, a.reads) }

  -- so are squares, and the Blocks over them
  pub as-any : (other : ℕ) → IsSquaresAt book places lists other → IsSquareOrAbove book places lists other
  as-any other s = by s.point s.at s.live s.is
    where
      by : (point : Point) → StandsIn book places lists point other → is_live_in (rolled_of book) point ≡ true → is_of_squares point ≡ true
          → IsSquareOrAbove book places lists other
      by (points.Figure node) at live is =
          let square = square-only node is in
          let lives : is_live book.sheet (nodes.Group square.0 of_groups.ConcentrationSquare) ≡ true = subst (λ n. is_live book.sheet n ≡ true) square.1 live in
          let member = is-member book numbers.rolls sums.Squares square.0 lives in
          let low = member.1 in
          record { point = points.Figure node; at = at; live = live; some = omega (arith, low); is = inl (square.0, ap points.Figure square.1) }
      by (points.Block block) at live is = record {
        point = points.Block block;
        at = at;
        live = live;
        some = subst (λ s. 0 < length (roll_in (rolled_of book) s)) (squares-only block.sum is)
            (some-block (length (roll_in (rolled_of book) block.sum)) block.level block.index
            (and_parts (reads book.sheet block.sum) (is_block (length (roll_in (rolled_of book) block.sum)) block.level block.index) live).1);
        is = inr (
          readers.Block block.level block.index,
          ap (of-sum block) (squares-only block.sum is),
        );
      }

  squares-or-above : (other : ℕ) → IsSquareOrAbove book places lists other → (point : Point) → StandsIn book places lists point other
      → (is_of_squares point ≡ true) ⊎ IsAboveSquares book places lists other
  squares-or-above other s point here = by s.point s.at s.live s.is
    where
      by : (own : Point) → StandsIn book places lists own other → is_live_in (rolled_of book) own ≡ true
          → IsSquare own ⊎ ((reader : Reader) × IsReading sums.Squares reader own) → (is_of_squares point ≡ true) ⊎ IsAboveSquares book places lists other
      by own at live (inl square) =
          inl (subst (λ p. is_of_squares p ≡ true) (numbers.numbers.exact other own point at here) (of-square own square))
      by own at live (inr (readers.Whole, reads)) = inr (record { point = own; at = at; live = live; some = s.some; reads = reads })
      by (points.Figure node) at live (inr (readers.Block level i, reads)) = absurd reads
      by (points.Block block) at live (inr (readers.Block level i, reads)) =
          inl (subst (λ p. is_of_squares p ≡ true) (numbers.numbers.exact other (points.Block block) point at here)
          (subst (λ (b : Block). is_of_squares (points.Block b) ≡ true) (sym reads) refl))

  -- what is reckoned from one of squares is one of them, or is reckoned from all together
  pub above-squares : (below : Point) (place other : ℕ) → is_of_squares below ≡ true → StandsIn book places lists below place
      → is_live_in (rolled_of book) below ≡ true → (d : IsDependantAt book places lists place other)
      → (is_of_squares d.point ≡ true) ⊎ IsAboveSquares book places lists other
  above-squares (points.Figure node) place other is at live d =
      let square = square-only node is in
      squares-or-above other (above-square (points.Figure node) place other (square.0, ap points.Figure square.1) at d) d.point d.at
  above-squares (points.Block block) place other is at live d =
      squares-or-above other (record {
        point = d.point;
        at = d.at;
        live = d.live;
        some = (as-any place (record { point = points.Block block; at = at; live = live; is = is })).some;
        is = inr (
          reader_of_block (length (roll_in (rolled_of book) block.sum)) block.level block.index,
          subst (λ s. IsReading s (reader_of_block (length (roll_in (rolled_of book) block.sum)) block.level block.index) d.point) (squares-only block.sum is)
              (reads-block book places lists numbers block place at live d.point d.live
              (subst (Contains (sources_in (rolled_of book) d.point)) (numbers.numbers.exact place d.below (points.Block block) d.from at) d.reads)),
        );
      }) d.point d.at

  -- ---- what is found at a number

  pub found-square : (point : Point) (number : ℕ) → StandsIn book places lists point number
      → IsLiveAt (book_graph (rolled_of book)) (StandsIn book places lists) number → is_of_squares point ≡ true → IsSquaresAt book places lists number
  found-square point number at live is = record {
    point = point;
    at = at;
    live = subst (λ p. is_live_in (rolled_of book) p ≡ true) (numbers.numbers.exact number live.0 point live.1 at) live.2;
    is = is;
  }

  pub no-square-found : (point : Point) (number : ℕ) → StandsIn book places lists point number → is_of_squares point ≡ false
      → IsSquaresAt book places lists number → ⊥
  no-square-found point number at is s =
      let clash : true ≡ false = sym s.is ∙ ap is_of_squares (numbers.numbers.exact number s.point point s.at at) ∙ is in absurd (cc)
