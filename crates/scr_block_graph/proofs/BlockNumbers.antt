-- A number is one Block's, a Block has one number, and it is no figure's.
use Rattle.std.proofs.Common.{◌≡◌, ◌⊎◌, inl, inr, ℕ, ◌+◌, ◌/◌, ◌<◌, true, false, length, get_or, Option, Some, refl, sym, ap, ◌∙◌, arith}
use Rattle.std.specs.Prelude.{if◌then◌else◌, nat_lt}
use Rattle.std.proofs.lemmas.Bool.{and_parts, cases_Bool, ltb-true}
use Rattle.std.proofs.lemmas.Option.{slice_get-get_or}
use Rattle.scr_sum_tree.specs.Blocks.{blocks_at, blocks_over, is_block, is_block_over}
use Rattle.scr_sum_tree.specs.declared.blocks.Level.{Level}
use Rattle.scr_sum_tree.specs.declared.blocks.Level.TheVariants as levels
use Rattle.scr_ids.specs.Ranges.{IsApart, IsOne, IsWithin, Numbered, count, first}
use Rattle.scr_ids.specs.declared.table.Table.TheVariants as numbered_tables
use Rattle.scr_sum_slots.specs.Parts.{AreOwn, Parted, key_of, part_at, slot_of, slots_in}
use Rattle.scr_sum_slots.specs.declared.parts.Part.{Part}
use Rattle.scr_sum_slots.proofs.Views.{one-some}
use Rattle.scr_sheet.specs.Members.{table_of}
use Rattle.scr_sheet.specs.declared.keys.Table.{Table}
use Rattle.scr_sheet.specs.declared.keys.Table.TheVariants as tables
use Rattle.scr_sheet.specs.declared.roll.Roll.{Roll}
use Rattle.scr_sheet.specs.declared.roll.Roll.TheVariants as rolls
use Rattle.scr_sheet.specs.declared.rows.LiabilityKind.{LiabilityKind}
use Rattle.scr_sheet.specs.declared.rows.LiabilityKind.TheVariants as kinds
use Rattle.scr_nodes.specs.declared.node.Biometric.{Biometric}
use Rattle.scr_nodes.specs.declared.node.Biometric.TheVariants as biometrics
use Rattle.scr_nodes.specs.declared.node.Direction.{Direction}
use Rattle.scr_nodes.specs.declared.node.Direction.TheVariants as directions
use Rattle.scr_nodes.specs.Live.{is_live}
use Rattle.scr_nodes.specs.declared.node.Node.{Node}
use Rattle.scr_block_graph.specs.BlockNumbers.{AreListsApart, AreOffParts, BlockAt, HaveParts, KeepsBlocks, PointAt, list_number, part_of, place_of, sole, table_place}
use Rattle.scr_block_graph.specs.Graph.{Rolled, is_live_in, reads, roll_in}
use Rattle.scr_block_graph.specs.Sums.{roll_of}
use Rattle.scr_block_graph.specs.declared.point.Block.{Block}
use Rattle.scr_block_graph.specs.declared.point.Point.{Point}
use Rattle.scr_block_graph.specs.declared.point.Point.TheVariants as points
use Rattle.scr_block_graph.specs.declared.sum.Sum.{Sum}
use Rattle.scr_block_graph.specs.declared.sum.Sum.TheVariants as sums

-- ---- sums over one list are told apart by their places

abbrev direction-at : ℕ → Direction
direction-at n = if nat_lt n 1 then directions.Up else directions.Down

abbrev biometric-of : LiabilityKind → Biometric
biometric-of kinds.Life = biometrics.Life
biometric-of kind = biometrics.Health

abbrev sum-at : Roll → ℕ → Sum
sum-at (rolls.Class class) n = if nat_lt n 1 then sums.Class class else sums.Spreads
sum-at rolls.Closed n = sums.Closed
sum-at rolls.Bonds n = sums.Spreads
sum-at rolls.Grouped n = sums.Grouped
sum-at (rolls.Group name) n = sums.Group name
sum-at (rolls.Assets currency) n = sums.Assets currency
sum-at (rolls.Flows currency) n = sums.Rates currency (direction-at n)
sum-at (rolls.Lines currency) n = if nat_lt n 2 then sums.Costs currency (direction-at n) else sums.Presents currency
sum-at (rolls.Losses kind projection) n = sums.Losses (biometric-of kind) projection
sum-at rolls.Groups n = sums.Squares

led-back : (sum : Sum) → sum-at (sole (roll_of sum)) (place_of sum) ≡ sum
led-back (sums.Class class) = refl
led-back sums.Closed = refl
led-back sums.Spreads = refl
led-back sums.Grouped = refl
led-back (sums.Group name) = refl
led-back (sums.Assets currency) = refl
led-back (sums.Rates currency directions.Up) = refl
led-back (sums.Rates currency directions.Down) = refl
led-back (sums.Costs currency directions.Up) = refl
led-back (sums.Costs currency directions.Down) = refl
led-back (sums.Presents currency) = refl
led-back (sums.Losses biometrics.Life projection) = refl
led-back (sums.Losses biometrics.Health projection) = refl
led-back sums.Squares = refl

sum-told : (one other : Sum) → sole (roll_of one) ≡ sole (roll_of other) → place_of one ≡ place_of other → one ≡ other
sum-told one other list place =
    sym (led-back one) ∙ ap (λ r. sum-at r (place_of one)) list ∙ ap (sum-at (sole (roll_of other))) place ∙ led-back other

-- ---- lists by their numbers

abbrev table-at : ℕ → Table
table-at n = if nat_lt n 1 then tables.Security else (if nat_lt n 2 then tables.Liability else (if nat_lt n 3 then tables.Fund else tables.Group))

place-few : (table : Table) → table_place table < 4
place-few tables.Security = omega arith
place-few tables.Liability = omega arith
place-few tables.Fund = omega arith
place-few table = omega arith

-- the tables that have lists
table-back : (roll : Roll) → table-at (table_place (table_of roll)) ≡ table_of roll
table-back rolls.Closed = refl
table-back (rolls.Lines currency) = refl
table-back (rolls.Losses kind projection) = refl
table-back rolls.Groups = refl
table-back (rolls.Class class) = refl
table-back rolls.Bonds = refl
table-back rolls.Grouped = refl
table-back (rolls.Group name) = refl
table-back (rolls.Assets currency) = refl
table-back (rolls.Flows currency) = refl

pub record IsOneList (one other : Roll) (n m : ℕ) : Type 0 where
  pub tables : table_of one ≡ table_of other
  pub numbers : n ≡ m

list-told : (one other : Roll) (n m : ℕ) → list_number one n ≡ list_number other m → IsOneList one other n m
list-told one other n m e =
    let low = place-few (table_of one) in
    let low_2 = place-few (table_of other) in
    let same : table_place (table_of one) ≡ table_place (table_of other) = omega (arith, e, low, low_2) in
    record {
      tables = sym (table-back one) ∙ ap table-at same ∙ table-back other;
      numbers = omega (arith, e, same);
    }

-- ---- Blocks

module _ (numbers : Roll → Option ℕ) (parts : Parted) (places : Numbered) where
  pub block-exact : IsApart places → AreOwn parts → AreListsApart numbers → (number : ℕ) (a b : Block)
      → BlockAt numbers parts places a number → BlockAt numbers parts places b number → a ≡ b
  block-exact apart own lists number a b x y = told a b sum level index
    where
      one : IsOne numbered_tables.Part x.slot (place_of a.sum) numbered_tables.Part y.slot (place_of b.sum)
      one = apart number numbered_tables.Part x.slot (place_of a.sum) numbered_tables.Part y.slot (place_of b.sum) x.at y.at

      same : part_of x.roll a ≡ part_of y.roll b
      same =
          let of = own.own (part_of x.roll a) x.slot x.part in
          let of_2 = own.own (part_of y.roll b) y.slot y.part in
          one-some (sym of ∙ ap (λ s. part_at s parts) one.rows ∙ of_2)

      list : IsOneList (roll_of a.sum) (roll_of b.sum) x.roll y.roll
      list = list-told (roll_of a.sum) (roll_of b.sum) x.roll y.roll (ap (λ (p : Part). p.list) same)

      sum : a.sum ≡ b.sum
      sum = sum-told a.sum b.sum
          (lists.apart (roll_of a.sum) (roll_of b.sum) y.roll (x.numbered ∙ ap Some list.numbers) y.numbered list.tables) one.families

      level : a.level ≡ b.level
      level = ap (λ (p : Part). p.level) same

      index : a.index ≡ b.index
      index = ap (λ (p : Part). p.index) same

      told : (one other : Block) → one.sum ≡ other.sum → one.level ≡ other.level → one.index ≡ other.index → one ≡ other
      told one other s l i = λ k. record { sum = s k; level = l k; index = i k }

  pub block-only : (block : Block) (n m : ℕ) → BlockAt numbers parts places block n → BlockAt numbers parts places block m → n ≡ m
  block-only block n m x y =
      let roll : x.roll ≡ y.roll = one-some (sym x.numbered ∙ y.numbered) in
      let slot : x.slot ≡ y.slot = one-some (sym x.part ∙ ap (λ r. slot_of (part_of r block) parts) roll ∙ y.part) in
      let start = ap (first places numbered_tables.Part) slot in
      omega (arith, x.at.is, y.at.is, start)

  pub block-within : IsWithin places → (block : Block) (number : ℕ) → BlockAt numbers parts places block number → number < places.size
  block-within within block number x = within number numbered_tables.Part x.slot (place_of block.sum) x.at

place-fits : (sum : Sum) → place_of sum < 3
place-fits (sums.Rates currency directions.Down) = omega arith
place-fits (sums.Costs currency directions.Down) = omega arith
place-fits (sums.Presents currency) = omega arith
place-fits sums.Spreads = omega arith
place-fits sum = omega arith

over-long : (count i : ℕ) → is_block_over count i ≡ true → (32 < count) × (i < blocks_over count)
over-long count i is = (by (cases_Bool (nat_lt 32 count)), low)
  where
    low : i < blocks_over count
    low = ltb-true i (blocks_over count) is

    by : (nat_lt 32 count ≡ true) ⊎ (nat_lt 32 count ≡ false) → 32 < count
    by (inl e) = ltb-true 32 count e
    by (inr e) =
        let none : blocks_over count ≡ 0 = ap (λ t. if t then (count + 31) / 32 else 0) e in
        absurd (omega (arith, low, none))

block-long : (count : ℕ) (level : Level) (i : ℕ) → is_block count level i ≡ true → (32 < count) × (i < blocks_at count level)
block-long count levels.First i is = over-long count i is
block-long count levels.Second i is =
    let over = over-long ((count + 31) / 32) i is in
    let long = over.0 in
    (omega (arith, long), over.1)

pub block-lives : (book : Rolled) (numbers : Roll → Option ℕ) (parts : Parted) (places : Numbered) → HaveParts book numbers parts places → AreOwn parts
    → (block : Block) → is_live_in book (points.Block block) ≡ true → (number : ℕ) × BlockAt numbers parts places block number
block-lives book numbers parts places have own block live =
    let is = (and_parts (reads book.sheet block.sum) (is_block (length (roll_in book block.sum)) block.level block.index) live).1 in
    let long = block-long (length (roll_in book block.sum)) block.level block.index is in
    let roll = have.numbered (roll_of block.sum) long.0 in
    let part : Part = part_of roll.0 block in
    let count = have.counts (roll_of block.sum) roll.0 roll.1 block.level in
    let slots = slots_in (key_of part.list part.level) parts in
    let slot : ℕ = get_or slots block.index 0 in
    let low = long.1 in
    let there : slot_of part parts ≡ Some slot = slice_get-get_or slots block.index 0 (omega (arith, low, count)) in
    let few = have.rows part slot there in (
      first places numbered_tables.Part slot + place_of block.sum,
      record {
        roll = roll.0;
        numbered = roll.1;
        slot = slot;
        part = there;
        at = record { row = few; family = place-fits block.sum; is = refl };
      },
    )

pub block-kept : (numbers_before numbers_now : Roll → Option ℕ) (before now : Parted) (old new : Numbered)
    → KeepsBlocks numbers_before numbers_now before now old new → (block : Block) (number : ℕ)
    → BlockAt numbers_before before old block number → BlockAt numbers_now now new block number
block-kept numbers_before numbers_now before now old new keeps block number x = record {
  roll = x.roll;
  numbered = keeps.numbers (roll_of block.sum) x.roll x.numbered;
  slot = x.slot;
  part = keeps.parts (part_of x.roll block) x.slot x.part;
  at = record {
    row = let low = x.at.row in omega (arith, low, keeps.rows);
    family = x.at.family;
    is = ap (λ n. n + place_of block.sum) (keeps.firsts x.slot x.at.row) ∙ x.at.is;
  };
}

-- ---- figures and Blocks, whatever relation tells the numbers of figures

module _ (At : Node → ℕ → Type 0) where
  pub point-lives : (book : Rolled) (numbers : Roll → Option ℕ) (parts : Parted) (places : Numbered) → HaveParts book numbers parts places → AreOwn parts
      → ((node : Node) → is_live book.sheet node ≡ true → (number : ℕ) × At node number)
      → (point : Point) → is_live_in book point ≡ true → (number : ℕ) × PointAt At numbers parts places point number
  point-lives book numbers parts places have own figures (points.Figure node) live = figures node live
  point-lives book numbers parts places have own figures (points.Block block) live = block-lives book numbers parts places have own block live

  module _ (numbers : Roll → Option ℕ) (parts : Parted) (places : Numbered) where
    pub point-only : ((node : Node) (n m : ℕ) → At node n → At node m → n ≡ m)
        → (point : Point) (n m : ℕ) → PointAt At numbers parts places point n → PointAt At numbers parts places point m → n ≡ m
    point-only only (points.Figure node) n m x y = only node n m x y
    point-only only (points.Block block) n m x y = block-only numbers parts places block n m x y

    pub point-exact : AreOffParts At places → IsApart places → AreOwn parts → AreListsApart numbers
        → ((number : ℕ) (a b : Node) → At a number → At b number → a ≡ b)
        → (number : ℕ) (a b : Point) → PointAt At numbers parts places a number → PointAt At numbers parts places b number → a ≡ b
    point-exact off apart own lists exact number (points.Figure a) (points.Figure b) x y = ap points.Figure (exact number a b x y)
    point-exact off apart own lists exact number (points.Figure a) (points.Block b) x y = absurd (off a number x y.slot (place_of b.sum) y.at)
    point-exact off apart own lists exact number (points.Block a) (points.Figure b) x y = absurd (off b number y x.slot (place_of a.sum) x.at)
    point-exact off apart own lists exact number (points.Block a) (points.Block b) x y =
        ap points.Block (block-exact numbers parts places apart own lists number a b x y)

    pub point-within : IsWithin places → ((node : Node) (number : ℕ) → At node number → number < places.size)
        → (point : Point) (number : ℕ) → PointAt At numbers parts places point number → number < places.size
    point-within within all (points.Figure node) number x = all node number x
    point-within within all (points.Block block) number x = block-within numbers parts places within block number x
