-- The Blocks under the totals of groups in the first reckoning, list by list.
use Rattle.std.proofs.Common.{◌≡◌, ◌⊎◌, inl, inr, ℕ, ◌+◌, ◌<◌, ◌≤◌, ◌&&◌, Bool, true, false, List, [], Option, None, Some, length, refl, sym, ap, ap₂, subst, ◌∙◌, arith}
use Rattle.std.specs.Prelude.{IfSome, IsNone, is_some}
use Rattle.std.proofs.lemmas.Bool.{and_parts, cases_eq, cases_lt}
use Rattle.scr_sum_tree.specs.Blocks.{is_block, parts}
use Rattle.scr_sum_tree.proofs.BlockTests.{Decides-is_block_over}
use Rattle.scr_book.specs.RolledSheets.{RolledSheet}
use Rattle.scr_book.specs.Rolls.{number_of_roll}
use Rattle.scr_book.proofs.RollSettled.{own-table}
use Rattle.scr_member_index.specs.declared.lists.Lists.{Lists}
use Rattle.scr_ids.specs.Ranges.{Numbered}
use Rattle.scr_sum_slots.specs.Parts.{AreOwn, size_of, slot_of}
use Rattle.scr_sum_slots.specs.declared.parts.Part.{Part}
use Rattle.scr_sum_slots.proofs.Views.{one-some}
use Rattle.scr_sum_tree.specs.declared.blocks.Level.{Level}
use Rattle.scr_sum_tree.specs.declared.blocks.Level.TheVariants as levels
use Rattle.scr_sheet.specs.Members.{table_of}
use Rattle.scr_sheet.specs.declared.roll.Roll.{Roll}
use Rattle.scr_sheet.specs.declared.roll.Roll.TheVariants as rolls
use Rattle.scr_block_graph.specs.BlockNumbers.{list_number, sole}
use Rattle.scr_block_graph.specs.Books.{rolled_of}
use Rattle.scr_block_graph.specs.Graph.{is_live_in, reads, roll_in}
use Rattle.scr_block_graph.specs.Sums.{member_of, reader_of}
use Rattle.scr_block_graph.specs.declared.point.Block.{Block}
use Rattle.scr_block_graph.specs.declared.point.Point.{Point}
use Rattle.scr_block_graph.specs.declared.point.Point.TheVariants as points
use Rattle.scr_block_graph.specs.declared.sum.Sum.{Sum}
use Rattle.scr_block_graph.specs.declared.sum.Sum.TheVariants as sums
use Rattle.scr_block_graph.proofs.ListNumbers.{lists-apart}
use Rattle.scr_partial_sums.specs.declared.figure.Figure.{Figure}
use Rattle.scr_tree.specs.Figures.{AreKnownOf, HasFigure}
use Rattle.scr_tree.specs.First.{AreBlocksThere, AreDone, AreGroupsDone, AreMembersThere, AreRowsDone, IsBlockBefore, IsBlockBelow, IsGround, IsGroupAt, IsGroupBelow, KeepsOffBlocks}
use Rattle.scr_tree.specs.Points.{AreNumbersOf, StandsIn, book_reckoning}
use Rattle.scr_tree.specs.Reading.{IsRollOf}
use Rattle.scr_tree.specs.Turns.{IsBefore, stage_of, turn}
use Rattle.scr_tree.specs.declared.making.Ground.{Ground}
use Rattle.scr_tree.proofs.BlocksMade.{known-off}
use Rattle.scr_tree.proofs.FirstMembers.{IsListOf, list-same, one-list}
use Rattle.scr_tree.proofs.Grounds.{late}
use Rattle.scr_tree.proofs.Known.{known-weaker}
use Rattle.scr_tree.proofs.SumsMade.{figures-off, members-early}

-- ---- which list it is that begins at a slot

group-only : (roll : Roll) (name : List ℕ) → sole roll ≡ sole (rolls.Group name) → roll ≡ rolls.Group name
group-only (rolls.Class class) name e = absurd (cc)
group-only rolls.Closed name e = absurd (cc)
group-only rolls.Bonds name e = absurd (cc)
group-only rolls.Grouped name e = absurd (cc)
group-only (rolls.Group group) name e = e
group-only (rolls.Assets currency) name e = absurd (cc)
group-only (rolls.Flows currency) name e = absurd (cc)
group-only (rolls.Lines currency) name e = absurd (cc)
group-only (rolls.Losses kind projection) name e = absurd (cc)
group-only rolls.Groups name e = absurd (cc)

module _ (book : RolledSheet) (places : Numbered) (lists : Lists) (are : AreNumbersOf book places lists) where
  -- no two lists have one number, where one is a group's
  pub same-roll : (list : ℕ) (roll : Roll) (name : List ℕ) → IsRollOf book.rolls list roll → IsRollOf book.rolls list (rolls.Group name)
      → roll ≡ rolls.Group name
  same-roll list roll name of own =
      let same : IsListOf roll of.number (table_of (rolls.Group name)) own.number =
      one-list roll (table_of (rolls.Group name)) (own-table (rolls.Group name)) of.number own.number
      (of.is ∙ sym own.is ∙ list-same (rolls.Group name) own.number) in
      group-only roll name
      ((lists-apart book.rolls are.rolls.numbered).apart roll (rolls.Group name) own.number (of.numbered ∙ ap Some same.number_is) own.numbered
      same.table_is)

  -- the list of one sum begins at one slot
  pub one-slot : (a b : ℕ) (sum : Sum) → IsGroupAt book lists.parts a sum → IsGroupAt book lists.parts b sum → a ≡ b
  one-slot a b sum at other =
      let both : sums.Group at.name ≡ sums.Group other.name = sym at.is ∙ other.is in
      let name : at.name ≡ other.name = cc in
      let found : Some at.of.number ≡ Some other.of.number =
      sym at.of.numbered ∙ ap (λ n. number_of_roll (rolls.Group n) book.rolls) name ∙ other.of.numbered in
      let number : at.of.number ≡ other.of.number = cc in
      let list : at.list ≡ other.list =
      sym at.of.is ∙ ap₂ (λ (n : List ℕ) (k : ℕ). list_number (rolls.Group n) k) name number ∙ other.of.is in
      let slots : Some a ≡ Some b =
      sym at.begins ∙ ap (λ l. slot_of (record { list = l; level = levels.First; index = 0 }) lists.parts) list ∙ other.begins in
      cc

  module _ (own : AreOwn lists.parts) where
    -- and at one slot no two begin
    pub one-begun : (slot a b : ℕ) → slot_of (record { list = a; level = levels.First; index = 0 }) lists.parts ≡ Some slot
        → slot_of (record { list = b; level = levels.First; index = 0 }) lists.parts ≡ Some slot → a ≡ b
    one-begun slot a b one other =
        ap (λ (p : Part). p.list)
        (one-some (sym (own.own (record { list = a; level = levels.First; index = 0 }) slot one)
        ∙ own.own (record { list = b; level = levels.First; index = 0 }) slot other))

    -- one that has this roll
    pub its-roll : (slot list : ℕ) (roll : Roll) (sum : Sum)
        → slot_of (record { list = list; level = levels.First; index = 0 }) lists.parts ≡ Some slot → IsRollOf book.rolls list roll
        → (at : IsGroupAt book lists.parts slot sum) → roll ≡ rolls.Group at.name
    its-roll slot list roll sum begins of at =
        same-roll list roll at.name of
        (subst (λ l. IsRollOf book.rolls l (rolls.Group at.name)) (one-begun slot at.list list at.begins begins) at.of)

    pub one-sum : (slot : ℕ) (one other : Sum) → IsGroupAt book lists.parts slot one → IsGroupAt book lists.parts slot other → one ≡ other
    one-sum slot one other a b =
        let same : rolls.Group a.name ≡ rolls.Group b.name = its-roll slot a.list (rolls.Group a.name) other a.begins a.of b in
        let name : a.name ≡ b.name = cc in
        a.is ∙ ap sums.Group name ∙ sym b.is

-- ---- figures

-- a sum that is read with the groups is that of a group
group-stage : (sum : Sum) → stage_of (reader_of sum) ≡ 5 → (name : List ℕ) × (sum ≡ sums.Group name)
group-stage (sums.Group name) e = (name, refl)
group-stage (sums.Class class) e = absurd (omega (arith, e))
group-stage sums.Closed e = absurd (omega (arith, e))
group-stage sums.Spreads e = absurd (omega (arith, e))
group-stage sums.Grouped e = absurd (omega (arith, e))
group-stage (sums.Assets currency) e = absurd (omega (arith, e))
group-stage (sums.Rates currency direction) e = absurd (omega (arith, e))
group-stage (sums.Costs currency direction) e = absurd (omega (arith, e))
group-stage (sums.Presents currency) e = absurd (omega (arith, e))
group-stage (sums.Losses biometric projection) e = absurd (omega (arith, e))
group-stage sums.Squares e = absurd (omega (arith, e))

-- where there is any Block, there is the first one of the first level
first-live : (r : Bool) (count : ℕ) (level : Level) (i : ℕ) → r ≡ true → is_block count level i ≡ true
    → (r && is_block count levels.First 0) ≡ true
first-live true count levels.First i e h =
    let d = (Decides-is_block_over count i).0 h in
    let low = d.1 in
    (Decides-is_block_over count 0).1 (d.0, omega (arith, low))
first-live true count levels.Second i e h =
    let many = ((Decides-is_block_over (parts count) i).0 h).0 in
    (Decides-is_block_over count 0).1 (omega (arith, many), omega (arith, many))
first-live false count level i e h = absurd (cc)

-- a list without members has none
pub no-members : (book : RolledSheet) (block : Block) → is_live_in (rolled_of book) (points.Block block) ≡ true
    → roll_in (rolled_of book) block.sum ≡ [] → ⊥
no-members book block live none =
    by block.level
    (subst (λ (ms : List (List ℕ)). is_block (length ms) block.level block.index ≡ true) none
    (and_parts (reads book.sheet block.sum) (is_block (length (roll_in (rolled_of book) block.sum)) block.level block.index) live).1)
  where
    by : (level : Level) → is_block 0 level block.index ≡ true → ⊥
    by levels.First h = let many = ((Decides-is_block_over 0 block.index).0 h).0 in omega (arith, many)
    by levels.Second h = let many = ((Decides-is_block_over (parts 0) block.index).0 h).0 in omega (arith, many)

module _ (ground : Ground) (g : IsGround ground) where
  abbrev At : Point → ℕ → Type 0
  At = StandsIn ground.inputs.book.now ground.places.now ground.lists.now

  abbrev Has : List Figure → ℕ → Point → Type 0
  Has figures number point = HasFigure (book_reckoning ground.inputs.factors.now (rolled_of ground.inputs.book.now)) figures number point

  abbrev Begins : ℕ → Sum → Type 0
  Begins slot sum = IsGroupAt ground.inputs.book.now ground.lists.now.parts slot sum

  -- none is there yet
  pub groups-begun : (figures : List Figure) → AreRowsDone ground figures → AreGroupsDone ground figures 0
  groups-begun figures is = record {
    reckoned = is.reckoned;
    blocks_there = known-weaker (book_reckoning ground.inputs.factors.now (rolled_of ground.inputs.book.now)) At figures
        (IsBlockBefore ground.inputs.book.now.sheet (turn 5 0 0)) (IsBlockBelow ground 0) (λ point live below. back point below) is.blocks_there;
  }
    where
      back : (point : Point) → IsBlockBelow ground 0 point → IsBlockBefore ground.inputs.book.now.sheet (turn 5 0 0) point
      back (points.Figure node) below = below
      back (points.Block block) (inl early) = early
      back (points.Block block) (inr below) = let low = below.before in absurd (omega (arith, low))

  pub group-members : (found : Option Sum) (slot : ℕ) → IfSome found (Begins slot) → (figures : List Figure) → AreGroupsDone ground figures slot
      → AreMembersThere ground figures (λ sum. found ≡ Some sum)
  group-members found slot there figures is =
      members-early ground g figures (turn 6 0 0) (λ sum. found ≡ Some sum)
      (λ sum name e. subst (λ s. stage_of (member_of s name) < 6) (sym (subst (λ o. IfSome o (Begins slot)) e there).is) (omega arith))
      is.reckoned.known

  module _ (own : AreOwn ground.lists.now.parts) where
    -- the Blocks are written of the list that begins at a slot, or none is there
    pub group-made : (found : Option Sum) (slot : ℕ) → IfSome found (Begins slot)
        → (IsNone found → (block : Block) → Begins slot block.sum → is_live_in (rolled_of ground.inputs.book.now) (points.Block block) ≡ true → ⊥)
        → (a now : List Figure) → AreGroupsDone ground a slot → KeepsOffBlocks ground (λ sum. found ≡ Some sum) a now
        → AreBlocksThere ground now (λ sum. found ≡ Some sum) → AreGroupsDone ground now (slot + 1)
    unfolding AreKnownOf
    group-made found slot there absent a now is kept blocks = record {
      reckoned = record {
        count = kept.count ∙ is.reckoned.count;
        known = figures-off ground g a now (λ sum. found ≡ Some sum) (IsBefore ground.inputs.book.now.sheet (turn 6 0 0)) kept is.reckoned.known;
      };
      blocks_there = λ point m at live below. by point m at live below;
    }
      where
        its : (sum : Sum) → found ≡ Some sum → Begins slot sum
        its sum e = subst (λ o. IfSome o (Begins slot)) e there

        apart : (block : Block) → found ≡ Some block.sum → IsBlockBelow ground slot (points.Block block) → ⊥
        apart block e (inl early) =
            let one = its block.sum e in
            late ground.inputs.book.now.sheet 5 (reader_of (sums.Group one.name)) (omega arith)
            (subst (λ s. IsBefore ground.inputs.book.now.sheet (turn 5 0 0) (reader_of s)) one.is early)
        apart block e (inr below) =
            let same = one-slot ground.inputs.book.now ground.places.now ground.lists.now g.points below.slot slot block.sum below.at (its block.sum e) in
            let low = below.before in
            omega (arith, same, low)

        still : (point : Point) (m : ℕ) → At point m → is_live_in (rolled_of ground.inputs.book.now) point ≡ true → IsBlockBelow ground slot point
            → Has now m point
        still = known-off ground g a now (λ sum. found ≡ Some sum) (IsBlockBelow ground slot) apart kept is.blocks_there

        made : (o : Option Sum) → found ≡ o → (block : Block) (m : ℕ) → At (points.Block block) m
            → is_live_in (rolled_of ground.inputs.book.now) (points.Block block) ≡ true → Begins slot block.sum → Has now m (points.Block block)
        made None e block m at live begins = absurd (absent (ap is_some e) block begins live)
        made (Some sum) e block m at live begins =
            blocks (points.Block block) m at live
            (e ∙ ap Some (one-sum ground.inputs.book.now ground.places.now ground.lists.now g.points own slot sum block.sum (its sum e) begins))

        either : (block : Block) (m : ℕ) → At (points.Block block) m → is_live_in (rolled_of ground.inputs.book.now) (points.Block block) ≡ true
            → (below : IsGroupBelow ground (slot + 1) block.sum) → (below.slot ≡ slot) ⊎ (below.slot ≡ slot → ⊥) → Has now m (points.Block block)
        either block m at live below (inl same) =
            made found refl block m at live (subst (λ s. Begins s block.sum) same below.at)
        either block m at live below (inr other) =
            let low = below.before in
            still (points.Block block) m at live (inr (record { slot = below.slot; before = omega (arith, low, other); at = below.at }))

        by : (point : Point) (m : ℕ) → At point m → is_live_in (rolled_of ground.inputs.book.now) point ≡ true → IsBlockBelow ground (slot + 1) point
            → Has now m point
        by (points.Figure node) m at live below = absurd below
        by (points.Block block) m at live (inl early) = still (points.Block block) m at live (inl early)
        by (points.Block block) m at live (inr below) = either block m at live below (cases_eq below.slot slot)

    -- each list that has a Block begins at a slot
    pub groups-ended : (figures : List Figure) (slots : ℕ) → slots ≡ size_of ground.lists.now.parts → AreGroupsDone ground figures slots
        → AreDone ground figures (turn 6 0 0)
    unfolding AreKnownOf
    groups-ended figures slots all is = record {
      reckoned = is.reckoned;
      blocks_there = λ point m at live before. by point m at live before;
    }
      where
        begun : (block : Block) (name : List ℕ) → block.sum ≡ sums.Group name
            → is_live_in (rolled_of ground.inputs.book.now) (points.Block block) ≡ true → IsGroupBelow ground slots block.sum
        begun block name same live =
            let parts = and_parts (reads ground.inputs.book.now.sheet block.sum)
            (is_block (length (roll_in (rolled_of ground.inputs.book.now) block.sum)) block.level block.index) live in
            let first : Block = record { sum = sums.Group name; level = levels.First; index = 0 } in
            let there = g.points.numbers.live (points.Block first)
            (first-live (reads ground.inputs.book.now.sheet (sums.Group name)) (length (roll_in (rolled_of ground.inputs.book.now) (sums.Group name)))
            block.level block.index (subst (λ s. reads ground.inputs.book.now.sheet s ≡ true) same parts.0)
            (subst (λ s. is_block (length (roll_in (rolled_of ground.inputs.book.now) s)) block.level block.index ≡ true) same parts.1)) in
            let at = there.1 in
            let low = own.within (record { list = list_number (rolls.Group name) at.roll; level = levels.First; index = 0 }) at.slot at.part in
            record {
              slot = at.slot;
              before = omega (arith, all, low);
              at = record {
                list = list_number (rolls.Group name) at.roll;
                begins = at.part;
                name = name;
                is = same;
                of = record { number = at.roll; numbered = at.numbered; is = refl };
              };
            }

        stages : (block : Block) (m : ℕ) → At (points.Block block) m → is_live_in (rolled_of ground.inputs.book.now) (points.Block block) ≡ true
            → stage_of (reader_of block.sum) < 6 → (stage_of (reader_of block.sum) < 5) ⊎ (5 ≤ stage_of (reader_of block.sum))
            → Has figures m (points.Block block)
        stages block m at live low (inl early) = is.blocks_there (points.Block block) m at live (inl (inl early))
        stages block m at live low (inr from) =
            let group = group-stage block.sum (omega (arith, low, from)) in
            is.blocks_there (points.Block block) m at live (inr (begun block group.0 group.1 live))

        by : (point : Point) (m : ℕ) → At point m → is_live_in (rolled_of ground.inputs.book.now) point ≡ true
            → IsBlockBefore ground.inputs.book.now.sheet (turn 6 0 0) point → Has figures m point
        by (points.Figure node) m at live before = absurd before
        by (points.Block block) m at live (inl less) = stages block m at live less (cases_lt (stage_of (reader_of block.sum)) 5)
        by (points.Block block) m at live (inr later) =
            let stage = later.0 in
            absurd (late ground.inputs.book.now.sheet 6 (reader_of block.sum) (omega (arith, stage)) (inr later))
