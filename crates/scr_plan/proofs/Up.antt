-- Ways up in the graph of a book: what leads to what is touched below a reader of a sum leads there from the reader, over the Blocks
-- between.
use Rattle.std.proofs.Common.{◌≡◌, ◌↔◌, ◌⊎◌, inl, inr, ℕ, ◌/◌, ◌<◌, ◌≤◌, true, false, cond, leb, Contains, List, ◌++◌, Some, length, slice_get, map, refl, sym, ap, subst, ◌∙◌, arith}
use Rattle.std.specs.Prelude.{is_some}
use Rattle.std.proofs.lemmas.Bool.{cases_lt}
use Rattle.std.proofs.lemmas.Bool.Decides.{nat_tests}
use Rattle.std.proofs.lemmas.Option.{slice_get_within}
use Rattle.scr_funds.proofs.Members.{Contains-from_IsMember, IsMember, IsMember-from_Contains, IsMember-left, IsMember-right}
use Rattle.scr_sum_tree.specs.Blocks.{HasEachOnce, is_block, parts}
use Rattle.scr_sum_tree.specs.Readers.{IsReader, added_by, reader_of_block, reader_of_member}
use Rattle.scr_sum_tree.specs.declared.blocks.Level.{Level}
use Rattle.scr_sum_tree.specs.declared.blocks.Level.TheVariants as levels
use Rattle.scr_sum_tree.specs.declared.readers.Reader.{Reader}
use Rattle.scr_sum_tree.specs.declared.readers.Reader.TheVariants as readers
use Rattle.scr_sum_tree.proofs.BlockTests.{Decides-is_block_over}
use Rattle.scr_sum_tree.proofs.Read.{block-reader, block-read, member-read}
use Rattle.scr_sum_tree.proofs.SameMembers.{names-once}
use Rattle.scr_sheet.specs.declared.rows.Class.TheVariants as classes
use Rattle.scr_nodes.specs.Sources.{sources_of}
use Rattle.scr_nodes.specs.declared.node.Measure.TheVariants as measures
use Rattle.scr_nodes.specs.declared.node.Node.{Node}
use Rattle.scr_nodes.specs.declared.node.Node.TheVariants as nodes
use Rattle.scr_nodes.specs.declared.node.OfCurrency.TheVariants as of_currencies
use Rattle.scr_nodes.specs.declared.node.Whole.TheVariants as wholes
use Rattle.scr_reachability.specs.Leading.{Leads}
use Rattle.scr_reachability.specs.Leading.Leads.{above}
use Rattle.scr_block_graph.specs.Graph.{AreRolls, Rolled, block_point, member_point, roll_in, sources_in, tops_of}
use Rattle.scr_block_graph.specs.Sums.{first_sum, roll_of, second_sum}
use Rattle.scr_block_graph.specs.declared.point.Point.{Point}
use Rattle.scr_block_graph.specs.declared.point.Point.TheVariants as points
use Rattle.scr_block_graph.specs.declared.sum.Sum.{Sum}
use Rattle.scr_block_graph.proofs.Apart.{points-apart}
use Rattle.scr_plan.specs.Ways.{book_graph}

-- ---- readers of a sum

-- the figure is reckoned from the sum
abbrev pub Reads : Node → Sum → Type 0
Reads node sum = (first_sum node ≡ Some sum) ⊎ (second_sum node ≡ Some sum)

second-summed : (node : Node) (sum : Sum) → second_sum node ≡ Some sum → is_some (first_sum node) ≡ true
second-summed (nodes.Currency currency (of_currencies.Loss direction)) sum e = refl
second-summed (nodes.Currency currency (of_currencies.Scenario direction measures.Gross)) sum e = refl
second-summed (nodes.Whole (wholes.ClassSum classes.Type2Equity)) sum e = refl
second-summed node sum e = absurd (cc)

pub reads-summed : (node : Node) (sum : Sum) → Reads node sum → is_some (first_sum node) ≡ true
reads-summed node sum (inl e) = ap is_some e
reads-summed node sum (inr e) = second-summed node sum e

module _ (book : Rolled) (node : Node) where
  abbrev firsts-of : List Point
  firsts-of = tops_of book (first_sum node)

  abbrev seconds-of : List Point
  seconds-of = tops_of book (second_sum node)

  pub are-tops : is_some (first_sum node) ≡ true → sources_in book (points.Figure node) ≡ firsts-of ++ seconds-of
  are-tops summed = ap (λ t. cond t (firsts-of ++ seconds-of) (map points.Figure (sources_of book.sheet node))) summed

  -- what is left at the top of a sum is a source of each reader
  top-source : (sum : Sum) → Reads node sum → (z : Point) → Contains (tops_of book (Some sum)) z → Contains (sources_in book (points.Figure node)) z
  top-source sum reads z h =
      subst (λ list. Contains list z) (sym (are-tops (reads-summed node sum reads)))
      (Contains-from_IsMember (firsts-of ++ seconds-of) z (by reads))
    where
      by : Reads node sum → IsMember z (firsts-of ++ seconds-of)
      by (inl e) = IsMember-left firsts-of seconds-of z (IsMember-from_Contains firsts-of z (subst (λ o. Contains (tops_of book o) z) (sym e) h))
      by (inr e) = IsMember-right firsts-of seconds-of z (IsMember-from_Contains seconds-of z (subst (λ o. Contains (tops_of book o) z) (sym e) h))

-- ---- who adds up a member, and a Block of the first level

abbrev index_of : Reader → ℕ
index_of readers.Whole = 0
index_of (readers.Block level i) = i

module _ (book : Rolled) (rolls : AreRolls book) (sum : Sum) where
  abbrev roll : List (List ℕ)
  roll = roll_in book sum

  once : HasEachOnce roll
  once = names-once roll (rolls.once (roll_of sum))

  abbrev Added : Reader → Point → Type 0
  Added reader point = Contains (added_by (member_point sum) (block_point sum) roll reader) point

  block-in : (level : Level) (i : ℕ) → is_block (length roll) level i ≡ true → (reader : Reader) → IsReader (length roll) reader
      → Added reader (block_point sum level i) ↔ (reader ≡ reader_of_block (length roll) level i)
  block-in level i is reader there = block-read (member_point sum) (block_point sum) (points-apart sum) roll level i is reader there

  member-in : (place : ℕ) (name : List ℕ) → slice_get roll place ≡ Some name → (reader : Reader) → IsReader (length roll) reader
      → Added reader (member_point sum name) ↔ (reader ≡ reader_of_member (length roll) place)
  member-in place name at reader there =
      member-read (member_point sum) (block_point sum) (points-apart sum) roll once place name at reader there

  -- where there are Blocks of the first level, and of the second
  by-first : (place : ℕ) → 32 < length roll → reader_of_member (length roll) place ≡ readers.Block levels.First (place / 32)
  by-first place many =
      let past : leb (length roll) 32 ≡ false = grind (arith, nat_tests, many) in
      ap (λ t. cond t readers.Whole (readers.Block levels.First (place / 32))) past

  by-second : (i : ℕ) → 32 < parts (length roll) → reader_of_block (length roll) levels.First i ≡ readers.Block levels.Second (i / 32)
  by-second i many =
      let past : leb (parts (length roll)) 32 ≡ false = grind (arith, nat_tests, many) in
      ap (λ t. cond t readers.Whole (readers.Block levels.Second (i / 32))) past

  -- the number of the Block that adds up a member, and of the one that adds up a Block
  pub number-of-member : (place : ℕ) (name : List ℕ) → slice_get roll place ≡ Some name → (i : ℕ) → is_block (length roll) levels.First i ≡ true
      → Added (readers.Block levels.First i) (member_point sum name) → i ≡ place / 32
  number-of-member place name at i is h =
      ap index_of ((member-in place name at (readers.Block levels.First i) is).0 h
      ∙ by-first place ((Decides-is_block_over (length roll) i).0 is).0)

  pub number-of-first : (k : ℕ) → is_block (length roll) levels.First k ≡ true → (i : ℕ) → is_block (length roll) levels.Second i ≡ true
      → Added (readers.Block levels.Second i) (block_point sum levels.First k) → i ≡ k / 32
  number-of-first k first i is h =
      ap index_of ((block-in levels.First k first (readers.Block levels.Second i) is).0 h
      ∙ by-second k ((Decides-is_block_over (parts (length roll)) i).0 is).0)

-- ---- from Blocks and members to readers

module _ (book : Rolled) (rolls : AreRolls book) (IsTouched : Point → Type 0) (sum : Sum) where
  abbrev IsLed : Point → Type 0
  IsLed point = Leads (book_graph book) IsTouched point

  abbrev names : List (List ℕ)
  names = roll_in book sum

  second-up : (i : ℕ) → is_block (length names) levels.Second i ≡ true → IsLed (block_point sum levels.Second i) → (node : Node) → Reads node sum
      → IsLed (points.Figure node)
  second-up i is led node reads =
      above (points.Figure node) (block_point sum levels.Second i)
      (top-source book node sum reads (block_point sum levels.Second i) ((block-in book rolls sum levels.Second i is readers.Whole tt).1 refl)) led

  first-up : (i : ℕ) → is_block (length names) levels.First i ≡ true → IsLed (block_point sum levels.First i) → (node : Node) → Reads node sum
      → IsLed (points.Figure node)
  first-up i is led node reads = by (cases_lt 32 (parts (length names)))
    where
      by : (32 < parts (length names)) ⊎ (parts (length names) ≤ 32) → IsLed (points.Figure node)
      by (inl many) =
          let own = by-second book rolls sum i many in
          let there : is_block (length names) levels.Second (i / 32) ≡ true =
          subst (IsReader (length names)) own (block-reader (length names) levels.First i is) in
          second-up (i / 32) there
          (above (block_point sum levels.Second (i / 32)) (block_point sum levels.First i)
          ((block-in book rolls sum levels.First i is (readers.Block levels.Second (i / 32)) there).1 (sym own)) led)
          node reads
      by (inr few) =
          let all : leb (parts (length names)) 32 ≡ true = grind (arith, nat_tests, few) in
          above (points.Figure node) (block_point sum levels.First i)
          (top-source book node sum reads (block_point sum levels.First i)
          ((block-in book rolls sum levels.First i is readers.Whole tt).1
          (ap (λ t. cond t readers.Whole (readers.Block levels.Second (i / 32))) (sym all)))) led

  pub block-up : (level : Level) (i : ℕ) → is_block (length names) level i ≡ true → IsLed (block_point sum level i) → (node : Node) → Reads node sum
      → IsLed (points.Figure node)
  block-up levels.First i is led node reads = first-up i is led node reads
  block-up levels.Second i is led node reads = second-up i is led node reads

  module _ (place : ℕ) (name : List ℕ) (at : slice_get names place ≡ Some name) (led : IsLed (member_point sum name)) where
    inside : place < length names
    inside = slice_get_within names place name at

    pub member-first : (i : ℕ) → is_block (length names) levels.First i ≡ true → i ≡ place / 32 → IsLed (block_point sum levels.First i)
    member-first i is own =
        above (block_point sum levels.First i) (member_point sum name)
        ((member-in book rolls sum place name at (readers.Block levels.First i) is).1
        (ap (readers.Block levels.First) own ∙ sym (by-first book rolls sum place ((Decides-is_block_over (length names) i).0 is).0))) led

    pub member-second : (i : ℕ) → is_block (length names) levels.Second i ≡ true → i ≡ place / 1024 → IsLed (block_point sum levels.Second i)
    member-second i is own =
        let many = ((Decides-is_block_over (parts (length names)) i).0 is).0 in
        let first : is_block (length names) levels.First (place / 32) ≡ true =
        (Decides-is_block_over (length names) (place / 32)).1 (omega (arith, many), omega (arith, inside)) in
        let number : i ≡ (place / 32) / 32 = omega (arith, own) in
        above (block_point sum levels.Second i) (block_point sum levels.First (place / 32))
        ((block-in book rolls sum levels.First (place / 32) first (readers.Block levels.Second i) is).1
        (ap (readers.Block levels.Second) number ∙ sym (by-second book rolls sum (place / 32) many)))
        (member-first (place / 32) first refl)

    pub member-up : (node : Node) → Reads node sum → IsLed (points.Figure node)
    member-up node reads = by (cases_lt 32 (length names))
      where
        by : (32 < length names) ⊎ (length names ≤ 32) → IsLed (points.Figure node)
        by (inl many) =
            let first : is_block (length names) levels.First (place / 32) ≡ true =
            (Decides-is_block_over (length names) (place / 32)).1 (many, omega (arith, inside)) in
            first-up (place / 32) first (member-first (place / 32) first refl) node reads
        by (inr few) =
            let all : leb (length names) 32 ≡ true = grind (arith, nat_tests, few) in
            above (points.Figure node) (member_point sum name)
            (top-source book node sum reads (member_point sum name)
            ((member-in book rolls sum place name at readers.Whole tt).1
            (ap (λ t. cond t readers.Whole (readers.Block levels.First (place / 32))) (sym all)))) led
