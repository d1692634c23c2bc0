-- What is reckoned from a member of a sum, and from a Block under it.
use Rattle.std.proofs.Common.{◌≡◌, ◌⊎◌, inl, inr, ℕ, ◌<◌, Bool, true, false, cond, Contains, List, [], ◌++◌, Option, Some, None, length, get_or, slice_get, map, refl, sym, ap, subst, ◌∙◌, arith}
use Rattle.std.specs.Prelude.{◌↔◌, is_some}
use Rattle.std.proofs.lemmas.List.Elements.{Contains-append_cases, Contains-append_left, Contains-append_right}
use Rattle.std.proofs.lemmas.Option.{slice_get-get_or, slice_get_within}
use Rattle.scr_sum_tree.specs.Blocks.{HasEachOnce, is_block}
use Rattle.scr_sum_tree.specs.Readers.{IsReader, added_by, reader_of_block, reader_of_member}
use Rattle.scr_sum_tree.specs.declared.blocks.Level.{Level}
use Rattle.scr_sum_tree.specs.declared.readers.Reader.{Reader}
use Rattle.scr_sum_tree.specs.declared.readers.Reader.TheVariants as readers
use Rattle.scr_sum_tree.proofs.Read.{IsOwn, added-only, block-read, block-reader, member-read, member-reader}
use Rattle.scr_sum_tree.proofs.SameMembers.{names-once}
use Rattle.scr_nodes.specs.declared.node.Node.{Node}
use Rattle.scr_nodes.specs.Sources.{sources_of}
use Rattle.scr_block_graph.specs.Graph.{AreRolls, Rolled, block_point, is_live_in, member_point, roll_in, sources_in, tops_of}
use Rattle.scr_block_graph.specs.Reading.{IsReading, IsSummed, ReadsBlock, ReadsMember}
use Rattle.scr_block_graph.specs.Sums.{first_sum, roll_of, second_sum}
use Rattle.scr_block_graph.specs.declared.point.Block.{Block}
use Rattle.scr_block_graph.specs.declared.point.Point.{Point}
use Rattle.scr_block_graph.specs.declared.point.Point.TheVariants as points
use Rattle.scr_block_graph.specs.declared.sum.Sum.{Sum}
use Rattle.scr_block_graph.proofs.Apart.{points-apart}
use Rattle.std.proofs.lemmas.Bool.{and_parts}

module _ (book : Rolled) (rolls : AreRolls book) (sum : Sum) where
  abbrev roll : List (List ℕ)
  roll = roll_in book sum

  once : HasEachOnce roll
  once = names-once roll (rolls.once (roll_of sum))

  -- what the reader of the sum's list adds up
  abbrev pub added : Reader → List Point
  added reader = added_by (member_point sum) (block_point sum) roll reader

  abbrev pub Adds : Reader → Point → Type 0
  Adds reader z =
      ((place : ℕ) × (name : List ℕ) × (slice_get roll place ≡ Some name) × (member_point sum name ≡ z) × (reader ≡ reader_of_member (length roll) place))
      ⊎ ((level : Level) × (i : ℕ) × (is_block (length roll) level i ≡ true) × (block_point sum level i ≡ z) × (reader ≡ reader_of_block (length roll) level i))

  pub adds : (reader : Reader) → IsReader (length roll) reader → (z : Point) → Contains (added reader) z → Adds reader z
  adds reader reads z h = by (added-only (member_point sum) (block_point sum) roll reader reads z h)
    where
      by : IsOwn (member_point sum) (block_point sum) roll z → Adds reader z
      by (inl m) =
          let k : ℕ = m.1.0 in
          let at : slice_get roll k ≡ Some m.0 = slice_get-get_or roll k m.0 m.1.1 ∙ ap Some m.1.2 in
          inl (
            k,
            m.0,
            at,
            m.2,
            (member-read (member_point sum) (block_point sum) (points-apart sum) roll once k m.0 at reader reads).0
                (subst (λ p. Contains (added reader) p) (sym m.2) h),
          )
      by (inr b) = inr (
        b.0,
        b.1,
        b.2,
        b.3,
        (block-read (member_point sum) (block_point sum) (points-apart sum) roll b.0 b.1 b.2 reader reads).0
            (subst (λ p. Contains (added reader) p) (sym b.3) h),
      )

  pub member-added : (place : ℕ) (name : List ℕ) → slice_get roll place ≡ Some name
      → Contains (added (reader_of_member (length roll) place)) (member_point sum name)
  member-added place name at =
      (member-read (member_point sum) (block_point sum) (points-apart sum) roll once place name at (reader_of_member (length roll) place)
      (member-reader (length roll) place (slice_get_within roll place name at))).1 refl

  pub block-added : (level : Level) (i : ℕ) → is_block (length roll) level i ≡ true
      → Contains (added (reader_of_block (length roll) level i)) (block_point sum level i)
  block-added level i there =
      (block-read (member_point sum) (block_point sum) (points-apart sum) roll level i there (reader_of_block (length roll) level i)
      (block-reader (length roll) level i there)).1 refl

  -- a reader that the point is
  from-adds : (point : Point) (reader : Reader) → IsReading sum reader point → (z : Point) → Adds reader z
      → ReadsMember book sum point z ⊎ ReadsBlock book sum point z
  from-adds point reader is z (inl m) = inl (record {
    place = m.0;
    name = m.1;
    at = m.2;
    is = m.3;
    reads = subst (λ r. IsReading sum r point) m.4 is;
  })
  from-adds point reader is z (inr b) = inr (record {
    level = b.0;
    index = b.1;
    there = b.2;
    is = b.3;
    reads = subst (λ r. IsReading sum r point) b.4 is;
  })

  pub read-by : (point : Point) (reader : Reader) → IsReader (length roll) reader → IsReading sum reader point → (z : Point)
      → Contains (added reader) z → ReadsMember book sum point z ⊎ ReadsBlock book sum point z
  read-by point reader reads is z h = from-adds point reader is z (adds reader reads z h)

-- ---- both ways

module _ (book : Rolled) (rolls : AreRolls book) (point source : Point) where
  abbrev pub IsRead : Type 0
  IsRead = (sum : Sum) × (ReadsMember book sum point source ⊎ ReadsBlock book sum point source)

module _ (book : Rolled) (rolls : AreRolls book) (source : Point) where
  -- of a figure that is reckoned from sums
  module _ (node : Node) (some : is_some (first_sum node) ≡ true) where
    tops-read : (o : Option Sum) → ((sum : Sum) → o ≡ Some sum → (first_sum node ≡ Some sum) ⊎ (second_sum node ≡ Some sum))
        → Contains (tops_of book o) source → IsRead book rolls (points.Figure node) source
    tops-read None of h = absurd (omega (arith, h.1))
    tops-read (Some sum) of h = (sum, read-by book rolls sum (points.Figure node) readers.Whole tt (of sum refl) source h)

    abbrev shown : Bool → List Point
    shown t = cond t (tops_of book (first_sum node) ++ tops_of book (second_sum node)) (map points.Figure (sources_of book.sheet node))

    figure-read : Contains (sources_in book (points.Figure node)) source → IsRead book rolls (points.Figure node) source
    figure-read h = by (Contains-append_cases (tops_of book (first_sum node)) (tops_of book (second_sum node)) source
        (subst (λ t. Contains (shown t) source) some h))
      where
        by : Contains (tops_of book (first_sum node)) source ⊎ Contains (tops_of book (second_sum node)) source → IsRead book rolls (points.Figure node) source
        by (inl one) = tops-read (first_sum node) (λ sum e. inl e) one
        by (inr two) = tops-read (second_sum node) (λ sum e. inr e) two

    pub added-read : (sum : Sum) → (first_sum node ≡ Some sum) ⊎ (second_sum node ≡ Some sum) → Contains (added book rolls sum readers.Whole) source
        → Contains (sources_in book (points.Figure node)) source
    added-read sum (inl e) h = subst (λ t. Contains (shown t) source) (sym some)
        (Contains-append_left (tops_of book (first_sum node)) (tops_of book (second_sum node)) source (subst (λ o. Contains (tops_of book o) source) (sym e) h))
    added-read sum (inr e) h = subst (λ t. Contains (shown t) source) (sym some)
        (Contains-append_right (tops_of book (first_sum node)) (tops_of book (second_sum node)) source (subst (λ o. Contains (tops_of book o) source) (sym e) h))

    figure-back : (sum : Sum) (reader : Reader) → IsReading sum reader (points.Figure node) → Contains (added book rolls sum reader) source
        → Contains (sources_in book (points.Figure node)) source
    figure-back sum readers.Whole is h = added-read sum is h
    figure-back sum (readers.Block level i) is h = absurd is

    figure-from : IsRead book rolls (points.Figure node) source → Contains (sources_in book (points.Figure node)) source
    figure-from (sum, inl m) = figure-back sum (reader_of_member (length (roll_in book sum)) m.place) m.reads
        (subst (λ p. Contains (added book rolls sum (reader_of_member (length (roll_in book sum)) m.place)) p) m.is (member-added book rolls sum m.place m.name m.at))
    figure-from (sum, inr b) = figure-back sum (reader_of_block (length (roll_in book sum)) b.level b.index) b.reads
        (subst (λ p. Contains (added book rolls sum (reader_of_block (length (roll_in book sum)) b.level b.index)) p) b.is (block-added book rolls sum b.level b.index b.there))

  -- of a Block
  module _ (block : Block) where
    block-read-by : is_live_in book (points.Block block) ≡ true → Contains (sources_in book (points.Block block)) source
        → IsRead book rolls (points.Block block) source
    block-read-by live h = (block.sum, read-by book rolls block.sum (points.Block block) (readers.Block block.level block.index) (and_parts _ _ live).1 refl source h)

    block-back : (sum : Sum) (reader : Reader) → IsReading sum reader (points.Block block) → Contains (added book rolls sum reader) source
        → Contains (sources_in book (points.Block block)) source
    block-back sum readers.Whole is h = absurd is
    block-back sum (readers.Block level i) is h = subst (λ (b : Block). Contains (sources_in book (points.Block b)) source) (sym is) h

    block-from : IsRead book rolls (points.Block block) source → Contains (sources_in book (points.Block block)) source
    block-from (sum, inl m) = block-back sum (reader_of_member (length (roll_in book sum)) m.place) m.reads
        (subst (λ p. Contains (added book rolls sum (reader_of_member (length (roll_in book sum)) m.place)) p) m.is (member-added book rolls sum m.place m.name m.at))
    block-from (sum, inr b) = block-back sum (reader_of_block (length (roll_in book sum)) b.level b.index) b.reads
        (subst (λ p. Contains (added book rolls sum (reader_of_block (length (roll_in book sum)) b.level b.index)) p) b.is (block-added book rolls sum b.level b.index b.there))

pub summed-read : (book : Rolled) → AreRolls book → (point source : Point) → IsSummed point → is_live_in book point ≡ true
    → Contains (sources_in book point) source ↔ ((sum : Sum) × (ReadsMember book sum point source ⊎ ReadsBlock book sum point source))
summed-read book rolls (points.Figure node) source some live = (figure-read book rolls source node some, figure-from book rolls source node some)
summed-read book rolls (points.Block block) source some live = (block-read-by book rolls source block live, block-from book rolls source block)
