-- The members of a large sum and the Blocks under it by their numbers.
use Rattle.std.proofs.Common.{◌≡◌, ◌⊎◌, inl, inr, ℕ, zero, suc, ◌+◌, ◌*◌, ◌<◌, ◌≤◌, ◌^◌, Bool, true, false, cond, not, All, Contains, List, [], ◌∷◌, ◌++◌, Option, Some, None, length, map, slice_get, refl, sym, ap, ap₂, subst, ◌∙◌, arith}
use Rattle.std.specs.Prelude.{is_some}
use Rattle.std.specs.List.{position_or_len}
use Rattle.std.specs.Option.{option_map, option_map_or}
use Rattle.std.proofs.lemmas.List.{length-map}
use Rattle.std.proofs.lemmas.Option.{slice_get-get_or}
use Rattle.scr_tables.specs.Names.{same_name}
use Rattle.scr_funds.proofs.Members.{All-from_members, IsMember, IsMember-from_Contains, IsMember-left, IsMember-map, IsMember-mapped, IsMember-right, at_member, Contains-from_IsMember}
use Rattle.scr_sum_tree.specs.Blocks.{blocks_at}
use Rattle.scr_sum_tree.specs.Sums.{AreSums}
use Rattle.scr_sum_tree.specs.declared.blocks.Level.{Level}
use Rattle.scr_sum_tree.specs.declared.blocks.Level.TheVariants as levels
use Rattle.scr_figure_ids.specs.Families.{family_of, name_of, table_of}
use Rattle.scr_figure_ids.specs.Numbers.{StandsAt, names_in}
use Rattle.scr_figure_ids.specs.Records.{place_in}
use Rattle.scr_figure_ids.proofs.Live.{live-stands, named-once}
use Rattle.scr_figure_ids.proofs.RowNames.{placed-at}
use Rattle.scr_num.specs.Sizes.{AreTogether}
use Rattle.scr_num.specs.Sums.{sum_ends}
use Rattle.scr_ids.specs.Ranges.{IsApart, IsAt, IsWithin, Numbered, count, first}
use Rattle.scr_ids.specs.declared.table.Table.TheVariants as ranged
use Rattle.scr_sum_slots.specs.Parts.{AreOwn, Parted, count_of, key_of, slot_at, slot_of, slots_of}
use Rattle.scr_sum_slots.proofs.Views.{no-some, one-some}
use Rattle.scr_sheet.specs.Members.{table_of as roll_table}
use Rattle.scr_sheet.specs.Validity.{Valid}
use Rattle.scr_sheet.specs.declared.keys.Table.{Table}
use Rattle.scr_sheet.specs.declared.keys.Table.TheVariants as tables
use Rattle.scr_sheet.specs.declared.roll.Roll.{Roll}
use Rattle.scr_sheet.specs.declared.sheet.BalanceSheet.{BalanceSheet}
use Rattle.scr_nodes.specs.Live.{is_live}
use Rattle.scr_nodes.specs.Sources.{sources_of}
use Rattle.scr_nodes.specs.declared.node.Node.{Node}
use Rattle.scr_nodes.proofs.LiveSources.{IsLive, sources-live}
use Rattle.scr_book.specs.Places.{names_in as names_of_table}
use Rattle.scr_book.specs.RolledSheets.{RolledSheet}
use Rattle.scr_book.specs.Rolls.{listed as rolls_listed, number_of_roll, roll_of as kept_roll}
use Rattle.scr_book.proofs.RollSettled.{own-table}
use Rattle.scr_member_index.specs.Lists.{first_of, ranges_of, table_place as list_place}
use Rattle.scr_member_index.proofs.Members.{members-own}
use Rattle.scr_member_lists.specs.Seatings.{names_of}
use Rattle.scr_partial_sums.specs.Figures.{ends_at, member_number, members_ends}
use Rattle.scr_partial_sums.specs.Written.{AreNumbered, AreOffBlocks, is_open_at, number_of}
use Rattle.scr_partial_sums.specs.declared.figure.Figure.{Figure}
use Rattle.scr_partial_sums.proofs.Members.{members-same}
use Rattle.scr_partial_sums.specs.declared.writing.Subtotals.{Subtotals}
use Rattle.scr_block_graph.specs.BlockNumbers.{list_number, place_of, table_place}
use Rattle.scr_block_graph.specs.Books.{rolled_of}
use Rattle.scr_block_graph.specs.Graph.{AreRolls, Rolled, block_point, listed, member_point, reads, roll_in}
use Rattle.scr_block_graph.specs.Sums.{first_sum, member_of, names_listed, reader_of, roll_of, second_sum}
use Rattle.scr_block_graph.specs.declared.point.Point.{Point}
use Rattle.scr_block_graph.specs.declared.sum.Sum.{Sum}
use Rattle.scr_block_graph.specs.declared.sum.Sum.TheVariants as sums
use Rattle.scr_nodes.specs.declared.node.Direction.TheVariants as directions
use Rattle.scr_block_graph.proofs.Counts.{few_members}
use Rattle.scr_block_graph.proofs.Listed.{sources-listed}
use Rattle.scr_block_graph.proofs.Lives.{is-named, named, own-sum, summed-reader}
use Rattle.scr_block_graph.proofs.Members.{listed-members}
use Rattle.scr_tree.specs.Points.{AreNumbersOf, StandsIn}
use Rattle.scr_tree.specs.Summed.{AreBlocksOn, AreMembersOn, AreOwnBlocks, KeepsOffBlocksOn, count_on, family_in, firsts_on, spanned_ends}
use Rattle.scr_tree.specs.declared.graph.Numbers.{Numbers}
use Rattle.scr_tree.proofs.BlockValues.{block-low, block-there, none-above, to-spanned, to-summed}
use Rattle.scr_tree.proofs.Upright.{rolls-are}

-- ---- members

-- the figures that a sum adds up are of one family
pub one-family : (sum : Sum) (name : List ℕ) → family_in sum ≡ family_of (member_of sum name)
one-family (sums.Class class) name = refl
one-family sums.Closed name = refl
one-family sums.Spreads name = refl
one-family sums.Grouped name = refl
one-family (sums.Group group) name = refl
one-family (sums.Assets currency) name = refl
one-family (sums.Rates currency direction) name = refl
one-family (sums.Costs currency direction) name = refl
one-family (sums.Presents currency) name = refl
one-family (sums.Losses biometric projection) name = refl
one-family sums.Squares name = refl

-- they are figures of the rows of the list's table, by their names
own-ranges : (sum : Sum) (name : List ℕ) → table_of (member_of sum name) ≡ ranges_of (roll_table (roll_of sum))
own-ranges (sums.Class class) name = refl
own-ranges sums.Closed name = refl
own-ranges sums.Spreads name = refl
own-ranges sums.Grouped name = refl
own-ranges (sums.Group group) name = refl
own-ranges (sums.Assets currency) name = refl
own-ranges (sums.Rates currency direction) name = refl
own-ranges (sums.Costs currency direction) name = refl
own-ranges (sums.Presents currency) name = refl
own-ranges (sums.Losses biometric projection) name = refl
own-ranges sums.Squares name = refl

own-rows : (sheet : BalanceSheet) (sum : Sum) (name : List ℕ)
    → names_of_table (roll_table (roll_of sum)) sheet ≡ names_in sheet (table_of (member_of sum name))
own-rows sheet (sums.Class class) name = refl
own-rows sheet sums.Closed name = refl
own-rows sheet sums.Spreads name = refl
own-rows sheet sums.Grouped name = refl
own-rows sheet (sums.Group group) name = refl
own-rows sheet (sums.Assets currency) name = refl
own-rows sheet (sums.Rates currency direction) name = refl
own-rows sheet (sums.Costs currency direction) name = refl
own-rows sheet (sums.Presents currency) name = refl
own-rows sheet (sums.Losses biometric projection) name = refl
own-rows sheet sums.Squares name = refl

own-name : (sum : Sum) (name : List ℕ) → name_of (member_of sum name) ≡ name
own-name (sums.Class class) name = refl
own-name sums.Closed name = refl
own-name sums.Spreads name = refl
own-name sums.Grouped name = refl
own-name (sums.Group group) name = refl
own-name (sums.Assets currency) name = refl
own-name (sums.Rates currency direction) name = refl
own-name (sums.Costs currency direction) name = refl
own-name (sums.Presents currency) name = refl
own-name (sums.Losses biometric projection) name = refl
own-name sums.Squares name = refl

-- a name that is there stands at its first place
at-place : (name : List ℕ) (names : List (List ℕ)) (k : ℕ) → place_in name names ≡ Some k → position_or_len (same_name name) names ≡ k
at-place name [] k e = absurd (no-some e)
at-place name (other ∷ names) k e = by (same_name name other) refl (λ n f. at-place name names n f)
  where
    later : (found : Option ℕ) → place_in name names ≡ found → option_map (λ n. n + 1) found ≡ Some k
        → ((n : ℕ) → place_in name names ≡ Some n → position_or_len (same_name name) names ≡ n) → 1 + position_or_len (same_name name) names ≡ k
    later None f t rest = absurd (no-some t)
    later (Some n) f t rest = let next : n + 1 ≡ k = one-some t in let there = rest n f in omega (arith, next, there)

    by : (t : Bool) → same_name name other ≡ t → ((n : ℕ) → place_in name names ≡ Some n → position_or_len (same_name name) names ≡ n)
        → position_or_len (same_name name) (other ∷ names) ≡ k
    by true t rest =
        ap (λ b. cond (not b) (1 + position_or_len (same_name name) names) 0) t
        ∙ one-some (sym (ap (λ b. cond b (Some 0) (option_map (λ n. n + 1) (place_in name names))) t) ∙ e)
    by false t rest =
        ap (λ b. cond (not b) (1 + position_or_len (same_name name) names) 0) t
        ∙ later (place_in name names) refl (sym (ap (λ b. cond b (Some 0) (option_map (λ n. n + 1) (place_in name names))) t) ∙ e) rest

module _ (sheet : BalanceSheet) (valid : Valid sheet) where
  -- what a sum adds up is reckoned from
  listed-source : (node : Node) → is_some (first_sum node) ≡ true → (sum : Sum) → (first_sum node ≡ Some sum) ⊎ (second_sum node ≡ Some sum)
      → (source : Node) → IsMember source (listed sheet (Some sum)) → IsMember source (sources_of sheet node)
  listed-source node some sum of source h =
      subst (IsMember source) (sym (sources-listed sheet node some)) (by of)
    where
      by : (first_sum node ≡ Some sum) ⊎ (second_sum node ≡ Some sum) → IsMember source (listed sheet (first_sum node) ++ listed sheet (second_sum node))
      by (inl e) = IsMember-left (listed sheet (first_sum node)) (listed sheet (second_sum node)) source
          (subst (λ o. IsMember source (listed sheet o)) (sym e) h)
      by (inr e) = IsMember-right (listed sheet (first_sum node)) (listed sheet (second_sum node)) source
          (subst (λ o. IsMember source (listed sheet o)) (sym e) h)

module _ (book : Rolled) (valid : Valid book.sheet) (rolls : AreRolls book) (sum : Sum) (name : List ℕ) (there : Contains (roll_in book sum) name) where
  pub member-listed : IsMember (member_of sum name) (listed book.sheet (Some sum))
  member-listed =
      IsMember-mapped (member_of sum) (names_listed book.sheet sum) name
      (named name (names_listed book.sheet sum)
      (listed-members book.sheet valid sum name ∙ sym (rolls.members (roll_of sum) name)
      ∙ is-named name (roll_in book sum) (IsMember-from_Contains (roll_in book sum) name there)))

  -- a figure is reckoned from the members of its sums
  pub member-source : (node : Node) → is_some (first_sum node) ≡ true → (first_sum node ≡ Some sum) ⊎ (second_sum node ≡ Some sum)
      → IsMember (member_of sum name) (sources_of book.sheet node)
  member-source node some of = listed-source book.sheet valid node some sum of (member_of sum name) member-listed

  pub member-live : reads book.sheet sum ≡ true → is_live book.sheet (member_of sum name) ≡ true
  member-live live =
      at_member (IsLive book.sheet) (sources_of book.sheet (reader_of sum)) (member_of sum name) (sources-live book.sheet valid (reader_of sum) live)
      (member-source (reader_of sum) (summed-reader sum) (own-sum sum))

-- ---- Blocks

same-place : (table : Table) → list_place table ≡ table_place table
same-place tables.Security = refl
same-place tables.Liability = refl
same-place tables.Fund = refl
same-place tables.Group = refl
same-place tables.Bank = refl
same-place tables.Rein = refl
same-place tables.Curve = refl

place-fits : (sum : Sum) → place_of sum < 3
place-fits (sums.Rates currency directions.Down) = omega arith
place-fits (sums.Costs currency directions.Down) = omega arith
place-fits (sums.Presents currency) = omega arith
place-fits sums.Spreads = omega arith
place-fits sum = omega arith

none-or : (n : ℕ) → (n ≡ 0) ⊎ (0 < n)
none-or zero = inl refl
none-or (suc n) = inr (omega arith)

module _ (numbers : Numbers) (are : AreNumbersOf numbers.book.now numbers.places.now numbers.lists.now) (valid : Valid numbers.book.now.sheet) where
  abbrev book : RolledSheet
  book = numbers.book.now

  abbrev parts : Parted
  parts = numbers.lists.now.parts

  abbrev At : Point → ℕ → Type 0
  At = StandsIn numbers.book.now numbers.places.now numbers.lists.now

  pub rolls : AreRolls (rolled_of book)
  rolls = rolls-are book are.rolls

  -- each list has just the parts that it has Blocks
  parts-counted : (roll : Roll) (number : ℕ) → number_of_roll roll book.rolls ≡ Some number → (level : Level)
      → count_of (list_number roll number) level parts ≡ blocks_at (length (kept_roll roll book.rolls)) level
  parts-counted roll number e level =
      ap (λ n. count_of (4 * number + n) level parts) (sym (same-place (roll_table roll)))
      ∙ are.lists_of.parts (roll_table roll) (own-table roll) number level
      ∙ ap (λ o. blocks_at (length (option_map_or (λ n. names_of n (rolls_listed roll book.rolls)) o [])) level) (sym e)

  module _ (sum : Sum) where
    abbrev many : ℕ
    many = count_on numbers sum

    abbrev roll : Roll
    roll = roll_of sum

    few-members : many ≤ 20000
    few-members = few_members (rolled_of book) valid sum (record { members = rolls.members roll; once = rolls.once roll })

    -- a list of some Blocks has a number
    long-numbered : (level : Level) (i : ℕ) → i < blocks_at many level → (number : ℕ) × (number_of_roll roll book.rolls ≡ Some number)
    long-numbered level i low = by (number_of_roll roll book.rolls) refl
      where
        none-at : (level : Level) → blocks_at 0 level ≡ 0
        none-at levels.First = refl
        none-at levels.Second = refl

        by : (found : Option ℕ) → number_of_roll roll book.rolls ≡ found → (number : ℕ) × (number_of_roll roll book.rolls ≡ Some number)
        by None e =
            let none : many ≡ 0 = ap (λ o. length (option_map_or (λ n. names_of n (rolls_listed roll book.rolls)) o [])) e in
            let no_block : blocks_at many level ≡ 0 = ap (λ n. blocks_at n level) none ∙ none-at level in
            absurd (omega (arith, low, no_block))
        by (Some number) e = (number, e)

    module _ (own : AreOwn parts) (number : ℕ) (numbered : number_of_roll roll book.rolls ≡ Some number) where
      abbrev list : ℕ
      list = list_number roll number

      -- the number of a Block by its slot
      abbrev slot : Level → ℕ → ℕ
      slot level i = slot_at (key_of list level) i parts

      slot-there : (level : Level) (i : ℕ) → i < blocks_at many level → slot_of (record { list = list; level = level; index = i }) parts ≡ Some (slot level i)
      slot-there level i low =
          let count : length (slots_of list level parts) ≡ blocks_at many level = parts-counted roll number numbered level in
          slice_get-get_or (slots_of list level parts) i 0 (omega (arith, low, count))

      at-slot : (level : Level) (i : ℕ) → i < blocks_at many level
          → IsAt numbers.places.now ranged.Part (slot level i) (place_of sum) (first numbers.places.now ranged.Part (slot level i) + place_of sum)
      at-slot level i low = record {
        row = are.lists_of.rows (record { list = list; level = level; index = i }) (slot level i) (slot-there level i low);
        family = place-fits sum;
        is = refl;
      }

      pub block-at : (level : Level) (i : ℕ) → i < blocks_at many level
          → At (block_point sum level i) (first numbers.places.now ranged.Part (slot level i) + place_of sum)
      block-at level i low = record {
        roll = number;
        numbered = numbered;
        slot = slot level i;
        part = slot-there level i low;
        at = at-slot level i low;
      }

    -- no Block has a number where there is none
    pub none-there : AreOwn parts → ((n : ℕ) → At (block_point sum levels.First 0) n → ⊥) → blocks_at many levels.First ≡ 0
    none-there own none = by (none-or (blocks_at many levels.First))
      where
        by : (blocks_at many levels.First ≡ 0) ⊎ (0 < blocks_at many levels.First) → blocks_at many levels.First ≡ 0
        by (inl e) = e
        by (inr some) =
            let its = long-numbered levels.First 0 some in
            absurd (none (first numbers.places.now ranged.Part (slot own its.0 its.1 levels.First 0) + place_of sum) (block-at own its.0 its.1 levels.First 0 some))

    -- ---- the Blocks as a list and a place tell them

    module _ (own : AreOwn parts) (apart : IsApart numbers.places.now) (within : IsWithin numbers.places.now)
        (number : ℕ) (numbered : number_of_roll roll book.rolls ≡ Some number) (blocks : Subtotals)
        (parts_is : blocks.parts.now ≡ parts) (places_is : blocks.places.now ≡ numbers.places.now)
        (list_is : blocks.list ≡ list_number roll number) (own_is : blocks.own ≡ place_of sum) where
      same-number : (level : Level) (i : ℕ) → number_of blocks level i ≡ first numbers.places.now ranged.Part (slot own number numbered level i) + place_of sum
      same-number level i =
          ap (λ p. first p ranged.Part (slot_at (key_of blocks.list level) i blocks.parts.now) + blocks.own) places_is
          ∙ ap (λ p. first numbers.places.now ranged.Part (slot_at (key_of blocks.list level) i p) + blocks.own) parts_is
          ∙ ap (λ l. first numbers.places.now ranged.Part (slot_at (key_of l level) i parts) + blocks.own) list_is
          ∙ ap (λ o. first numbers.places.now ranged.Part (slot own number numbered level i) + o) own_is

      pub are-own : AreOwnBlocks numbers sum blocks
      are-own = record {
        numbered = record {
          own = subst (λ o. o < 3) (sym own_is) (place-fits sum);
          few = few-members;
          parts = λ level. ap (λ p. count_of blocks.list level p) parts_is ∙ ap (λ l. count_of l level parts) list_is
              ∙ parts-counted roll number numbered level;
          rows = λ one slot there. subst (λ p. slot < count p ranged.Part) (sym places_is)
              (are.lists_of.rows one slot (subst (λ p. slot_of one p ≡ Some slot) parts_is there));
          slots = subst AreOwn (sym parts_is) own;
          apart = subst IsApart (sym places_is) apart;
          within = subst IsWithin (sym places_is) within;
        };
        places = places_is;
        at = λ level i low. subst (At (block_point sum level i)) (sym (same-number level i)) (block-at own number numbered level i low);
      }

  -- ---- members by number

  module _ (sum : Sum) where
    abbrev names : List (List ℕ)
    names = roll_in (rolled_of book) sum

    abbrev first_at : List ℕ → ℕ
    first_at name = first_of book.sheet numbers.places.now (roll_table (roll_of sum)) name

    pub firsts-are : firsts_on numbers sum ≡ map first_at names
    firsts-are = members-own book numbers.places.now numbers.lists.now are.lists_of (roll_of sum)

    pub as-many : length (firsts_on numbers sum) ≡ count_on numbers sum
    as-many = ap length firsts-are ∙ length-map names first_at

    -- each member's figure stands where its row begins, by its family
    module _ (live : reads book.sheet sum ≡ true) where
      pub member-stands : (name : List ℕ) → Contains names name → At (member_point sum name) (first_at name + family_in sum)
      member-stands name there = subst (StandsAt book.sheet numbers.places.now node) number stood.1
        where
          node : Node
          node = member_of sum name

          stood : (n : ℕ) × StandsAt book.sheet numbers.places.now node n
          stood = live-stands book.sheet numbers.places.now are.numbered node (member-live (rolled_of book) valid rolls sum name there live)

          k : ℕ
          k = stood.1.k

          row : position_or_len (same_name name) (names_of_table (roll_table (roll_of sum)) book.sheet) ≡ k
          row =
              ap (position_or_len (same_name name)) (own-rows book.sheet sum name)
              ∙ at-place name (names_in book.sheet (table_of node)) k
              (placed-at name (names_in book.sheet (table_of node)) k (named-once book.sheet valid (table_of node))
              (stood.1.row ∙ ap Some (own-name sum name)))

          number : stood.0 ≡ first_at name + family_in sum
          number =
              sym stood.1.at.is
              ∙ ap (λ t. first numbers.places.now t k + family_of node) (own-ranges sum name)
              ∙ ap (λ m. first numbers.places.now (ranges_of (roll_table (roll_of sum))) m + family_of node) (sym row)
              ∙ ap (λ f. first_at name + f) (sym (one-family sum name))

      -- so does that of the row with a first number
      pub first-stands : (start : ℕ) → IsMember start (firsts_on numbers sum)
          → (name : List ℕ) × Contains names name × At (member_point sum name) (start + family_in sum)
      first-stands start h =
          let its = IsMember-map first_at names start (subst (IsMember start) firsts-are h) in
          let there = Contains-from_IsMember names its.0 its.1 in
          (its.0, there, subst (λ n. At (member_point sum its.0) (n + family_in sum)) its.2 (member-stands its.0 there))

-- ---- Blocks that are written, and that are added up

module _ (numbers : Numbers) (are : AreNumbersOf numbers.book.now numbers.places.now numbers.lists.now) (valid : Valid numbers.book.now.sheet)
    (sum : Sum) (live : reads numbers.book.now.sheet sum ≡ true) (firsts : List ℕ) (firsts_is : firsts ≡ firsts_on numbers sum)
    (family : ℕ) (family_is : family ≡ family_in sum) where
  abbrev In : Point → ℕ → Type 0
  In = StandsIn numbers.book.now numbers.places.now numbers.lists.now

  count-is : length firsts ≡ count_on numbers sum
  count-is = ap length firsts_is ∙ as-many numbers are valid sum

  start-stands : (start : ℕ) → IsMember start firsts → (name : List ℕ) × In (member_point sum name) (start + family)
  start-stands start h =
      let its = first-stands numbers are valid sum live start (subst (IsMember start) firsts_is h) in
      (its.0, subst (λ f. In (member_point sum its.0) (start + f)) (sym family_is) its.2)

  pub members-within : (figures : List Figure) → numbers.places.now.size ≤ length figures → All (λ start. start + family < length figures) firsts
  members-within figures room =
      All-from_members (λ start. start + family < length figures) firsts
      (λ start h. let its = start-stands start h in
      let low = are.numbers.within (member_point sum its.0) (start + family) its.1 in omega (arith, low, room))

  pub as-counted : (blocks : Subtotals) → AreNumbered blocks (count_on numbers sum) → AreNumbered blocks (length firsts)
  as-counted blocks is = subst (AreNumbered blocks) (sym count-is) is

  pub ends-same : (figures : List Figure) → members_ends figures family firsts ≡ members_ends figures (family_in sum) (firsts_on numbers sum)
  ends-same figures = ap₂ (members_ends figures) family_is firsts_is

  pub members-few : (figures : List Figure) → AreMembersOn numbers sum figures → AreTogether (2 ^ 124) (members_ends figures family firsts)
  members-few figures few = subst (AreTogether (2 ^ 124)) (sym (ends-same figures)) few

  module _ (blocks : Subtotals) (own : AreOwnBlocks numbers sum blocks) where
    low-on : (level : Level) (i : ℕ) → i < blocks_at (length firsts) level → i < blocks_at (count_on numbers sum) level
    low-on level i low = subst (λ n. i < blocks_at n level) count-is low

    pub low-here : (level : Level) (i : ℕ) → i < blocks_at (count_on numbers sum) level → i < blocks_at (length firsts) level
    low-here level i low = subst (λ n. i < blocks_at n level) (sym count-is) low

    pub members-off : All (λ start. AreOffBlocks blocks (length firsts) (member_number family start)) firsts
    members-off =
        All-from_members (λ start. AreOffBlocks blocks (length firsts) (member_number family start)) firsts
        (λ start h level i low same. let its = start-stands start h in
        apart its.0 level i (are.numbers.exact (start + family) (member_point sum its.0) (block_point sum level i) its.1
        (subst (In (block_point sum level i)) (sym same) (own.at level i (low-on level i low)))))
      where
        apart : (name : List ℕ) (level : Level) (i : ℕ) → member_point sum name ≡ block_point sum level i → ⊥
        apart name level i e = absurd (cc)

    pub room-is : (figures : List Figure) → numbers.places.now.size ≤ length figures → blocks.places.now.size ≤ length figures
    room-is figures room = subst (λ (p : Numbered). p.size ≤ length figures) (sym own.places) room

    one-number : (level : Level) (i number : ℕ) → i < blocks_at (count_on numbers sum) level → In (block_point sum level i) number → number ≡ number_of blocks level i
    one-number level i number low at = are.numbers.only (block_point sum level i) number (number_of blocks level i) at (own.at level i low)

    -- all are written
    module _ (old now : List Figure) (summed : AreSums sum_ends (ends_at now) (member_number family) (number_of blocks) firsts)
        (kept : (number : ℕ) → AreOffBlocks blocks (length firsts) number → slice_get now number ≡ slice_get old number) where
      members-still : members_ends now family firsts ≡ members_ends old family firsts
      members-still = members-same old now family firsts (λ k d low. kept _ (members-off k d low))

      pub written-on : ((level : Level) (i : ℕ) → i < blocks_at (length firsts) level → is_open_at now (number_of blocks level i) ≡ false)
          → AreBlocksOn numbers sum old now
      written-on settled = record {
        sums = λ level i number low at.
            ap (ends_at now) (one-number level i number low at)
            ∙ to-spanned now family firsts (number_of blocks) summed level i (block-there (length firsts) level i (low-here level i low))
            ∙ ap (λ es. spanned_ends es level i) (members-still ∙ ends-same old);
        settled = λ level i number low at. ap (is_open_at now) (one-number level i number low at) ∙ settled level i (low-here level i low);
        same = sym (ends-same now) ∙ members-still ∙ ends-same old;
      }

      pub written-off : length now ≡ length old → KeepsOffBlocksOn numbers sum old now
      written-off long = record {
        count = long;
        others = λ number off. kept number (λ level i low same.
            off (record { sum = sum; level = level; index = i }) refl
            (subst (In (block_point sum level i)) (sym same) (own.at level i (low-on level i low))));
      }

    -- and added up
    pub summed-on : (figures : List Figure) → AreBlocksOn numbers sum figures figures
        → AreSums sum_ends (ends_at figures) (member_number family) (number_of blocks) firsts
    summed-on figures on =
        to-summed figures family firsts (number_of blocks)
        (λ level i there. let low = low-on level i (block-low (length firsts) level i there) in
        on.sums level i (number_of blocks level i) low (own.at level i low) ∙ ap (λ es. spanned_ends es level i) (sym (ends-same figures)))

  -- where there is no Block
  pub none-on : (figures : List Figure) → blocks_at (count_on numbers sum) levels.First ≡ 0 → AreBlocksOn numbers sum figures figures
  none-on figures none = record {
    sums = λ level i number low at. absurd (none-above (count_on numbers sum) none level i low);
    settled = λ level i number low at. absurd (none-above (count_on numbers sum) none level i low);
    same = refl;
  }

  pub none-off : (figures : List Figure) → KeepsOffBlocksOn numbers sum figures figures
  none-off figures = record { count = refl; others = λ number off. refl }
