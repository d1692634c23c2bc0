-- The numbers of what a point is reckoned from: of members, of Blocks and of linked figures.
use Rattle.std.proofs.Common.{◌≡◌, ◌⊎◌, inl, inr, ℕ, ◌+◌, ◌-◌, ◌*◌, ◌^◌, ◌<◌, ◌≤◌, max, min, Bool, true, false, cond, not, ltb, leb, All, Contains, List, [], ◌∷◌, ◌++◌, length, map, get_or, Option, Some, IfSome, is_some, slice_get, refl, sym, ap, subst, ◌∙◌, arith, append-nil, append_assoc}
use Rattle.std.specs.List.{position_or_len, range_with_len}
use Rattle.std.proofs.lemmas.Bool.{and_parts, le-leb, lt-leb, ltb-false, ltb-true}
use Rattle.std.proofs.lemmas.List.{length-map, same_lists}
use Rattle.std.proofs.lemmas.List.FromFn.{get_or-map-range_with_len, length-map-range_with_len, map-range_with_len_more}
use Rattle.std.proofs.lemmas.Option.{get_or_from_slice_get, slice_get_within}
use Rattle.scr_funds.proofs.Members.{All-from_members, Contains-from_IsMember, IsMember, IsMember-from_Contains, IsMember-left, IsMember-map, IsMember-mapped, IsMember-right}
use Rattle.scr_tables.specs.Names.{same_name}
use Rattle.scr_links.specs.Edges.{Edge}
use Rattle.scr_sum_tree.specs.Blocks.{block_sources, blocks_at, blocks_over, end_of, firsts, is_block, part, parts, seconds, start_of, tops}
use Rattle.scr_sum_tree.specs.declared.blocks.Level.{Level}
use Rattle.scr_sum_tree.specs.declared.blocks.Level.TheVariants as levels
use Rattle.scr_sum_tree.proofs.BlockTests.{over-many}
use Rattle.scr_sum_tree.proofs.PartLemmas.{get_or-part, length-part, part-map}
use Rattle.scr_sheet.specs.Validity.{Valid}
use Rattle.scr_sheet.specs.Members.{table_of}
use Rattle.scr_sheet.specs.declared.rows.Class.TheVariants as classes
use Rattle.scr_sheet.specs.declared.roll.Roll.{Roll}
use Rattle.scr_sheet.specs.declared.sheet.BalanceSheet.{BalanceSheet}
use Rattle.scr_member_lists.proofs.SeatLists.{place-of}
use Rattle.scr_book.specs.Places.{names_in}
use Rattle.scr_book.specs.RolledSheets.{RolledSheet}
use Rattle.scr_nodes.specs.Live.{is_live}
use Rattle.scr_nodes.specs.Sources.{sources_of}
use Rattle.scr_nodes.proofs.Numbers.{direction-place-most}
use Rattle.scr_nodes.specs.declared.node.Measure.TheVariants as measures
use Rattle.scr_nodes.specs.declared.node.Node.{Node}
use Rattle.scr_nodes.specs.declared.node.Node.TheVariants as nodes
use Rattle.scr_nodes.specs.declared.node.OfCurrency.TheVariants as of_currencies
use Rattle.scr_nodes.specs.declared.node.OfGroup.TheVariants as of_groups
use Rattle.scr_nodes.specs.declared.node.OfSecurity.TheVariants as of_securities
use Rattle.scr_nodes.specs.declared.node.Whole.TheVariants as wholes
use Rattle.scr_ids.specs.Ranges.{Numbered, count, first, stride}
use Rattle.scr_figure_ids.specs.Families.{family_of, name_of, table_of as figure_table}
use Rattle.scr_figure_ids.specs.Numbers.{StandsAt, names_in as figure_names}
use Rattle.scr_figure_ids.proofs.Live.{live-stands, named-once}
use Rattle.scr_figure_ids.proofs.Zipped.{whole-stands, zip-append}
use Rattle.scr_member_index.specs.Lists.{first_of, members_of, ranges_of}
use Rattle.scr_member_index.specs.declared.lists.Lists.{Lists}
use Rattle.scr_member_index.proofs.Members.{members-own}
use Rattle.scr_reachability.specs.Linked.{AreAt, sources_in as linked_in}
use Rattle.scr_reachability.proofs.Placed.{edge-from}
use Rattle.scr_block_graph.specs.Books.{rolled_of}
use Rattle.scr_block_graph.specs.Graph.{block_point, is_live_in, member_point, reads, roll_in, sources_in, tops_of}
use Rattle.scr_block_graph.specs.Sums.{first_sum, member_of, reader_of, roll_of, second_sum}
use Rattle.scr_block_graph.specs.declared.point.Block.{Block}
use Rattle.scr_block_graph.specs.declared.point.Point.{Point}
use Rattle.scr_block_graph.specs.declared.point.Point.TheVariants as points
use Rattle.scr_block_graph.specs.declared.sum.Sum.{Sum}
use Rattle.scr_block_graph.specs.declared.sum.Sum.TheVariants as sums
use Rattle.scr_block_graph.proofs.Counts.{few_members}
use Rattle.scr_block_graph.proofs.Lives.{own-sum, sources-live-in, summed-reader}
use Rattle.scr_block_graph.proofs.Small.{blocks-small}
use Rattle.scr_tree.specs.Points.{AreNumbersOf, IsGraphOf, IsLinkedPoint, StandsIn, is_beside, is_linked}
use Rattle.scr_tree.proofs.Known.{zip-next}
use Rattle.scr_tree.proofs.Upright.{rolls-are}

-- ---- parts of a range, and what is left at the top

-- a part of the Blocks of the first level spans neighbouring ones
pub part-of_range : {Y : Type 0} (f : ℕ → Y) (i n : ℕ)
    → map f (range_with_len (start_of n levels.First i) (end_of n levels.First i - start_of n levels.First i)) ≡ part i (map f (range_with_len 0 n))
part-of_range {Y} f i n =
    same_lists (map f (range_with_len start size)) (part i all) (lengths ∙ sym long) each
  where
    start : ℕ
    start = min n (32 * i)

    size : ℕ
    size = min n (32 * i + 32) - min n (32 * i)

    all : List Y
    all = map f (range_with_len 0 n)

    lengths : length (map f (range_with_len start size)) ≡ size
    lengths = length-map-range_with_len f start size

    long : length (part i all) ≡ size
    long = let own = length-part i all in let whole = length-map-range_with_len f 0 n in omega (arith, own, whole)

    each : (k : ℕ) (d : Y) → k < length (map f (range_with_len start size)) → get_or (map f (range_with_len start size)) k d ≡ get_or (part i all) k d
    each k d h =
        let inside : k < size = omega (arith, h, lengths) in
        let within : 32 * i + k < n = omega (arith, inside) in
        get_or-map-range_with_len f start size k (32 * i + k) d inside (omega (arith, inside))
        ∙ sym (get_or-part i k all d (omega (arith, inside)) ∙ get_or-map-range_with_len f 0 n (32 * i + k) (32 * i + k) d within (omega arith))

-- where there are Blocks, they are more than 32
over-some : (count : ℕ) → 0 < blocks_over count → 32 < count
over-some count some = by (ltb 32 count) refl
  where
    by : (t : Bool) → ltb 32 count ≡ t → 32 < count
    by true e = ltb-true 32 count e
    by false e = let none : blocks_over count ≡ 0 = ap (λ t. cond t (parts count) 0) e in absurd (omega (arith, some, none))

pub over-none : (count : ℕ) → blocks_over count ≡ 0 → count ≤ 32
over-none count none = by (ltb 32 count) refl
  where
    by : (t : Bool) → ltb 32 count ≡ t → count ≤ 32
    by true e =
        let many : 32 < count = ltb-true 32 count e in
        let all = over-many count many in absurd (omega (arith, none, all, many))
    by false e = ltb-false 32 count e

module _ {Name Node : Type 0} (member : Name → Node) (block : Level → ℕ → Node) (list : List Name) where
  abbrev chosen : Bool → Bool → List Node
  chosen few few_parts = cond few (map member list) (cond few_parts (firsts block (length list)) (seconds block (length list)))

  -- of a list that does not fall into Blocks the members
  pub tops-members : blocks_at (length list) levels.First ≡ 0 → map member list ≡ tops member block list
  tops-members none =
      let few = le-leb (length list) 32 (over-none (length list) none) in
      sym (ap (λ t. chosen t (leb (parts (length list)) 32)) few)

  -- else the Blocks of the first level, where there are no others
  pub tops-firsts : 0 < blocks_at (length list) levels.First → blocks_at (length list) levels.Second ≡ 0
      → map (block levels.First) (range_with_len 0 (blocks_at (length list) levels.First)) ≡ tops member block list
  tops-firsts some none =
      let long = over-some (length list) some in
      let many = lt-leb (length list) 32 long in
      let few = le-leb (parts (length list)) 32 (over-none (parts (length list)) none) in
      ap (λ n. map (block levels.First) (range_with_len 0 n)) (over-many (length list) long)
      ∙ sym (ap (λ t. chosen t (leb (parts (length list)) 32)) many ∙ ap (λ t. chosen false t) few)

  pub tops-seconds : 0 < blocks_at (length list) levels.First → 0 < blocks_at (length list) levels.Second
      → map (block levels.Second) (range_with_len 0 (blocks_at (length list) levels.Second)) ≡ tops member block list
  tops-seconds some more =
      let long = over-some (length list) some in
      let longer = over-some (parts (length list)) more in
      let many = lt-leb (length list) 32 long in
      let many_parts = lt-leb (parts (length list)) 32 longer in
      ap (λ n. map (block levels.Second) (range_with_len 0 n)) (over-many (parts (length list)) longer)
      ∙ sym (ap (λ t. chosen t (leb (parts (length list)) 32)) many ∙ ap (λ t. chosen false t) many_parts)

-- what a Block of the second level adds up are neighbouring Blocks of the first
pub below-second : {Name Node : Type 0} (member : Name → Node) (block : Level → ℕ → Node) (list : List Name) (i : ℕ)
    → is_block (length list) levels.Second i ≡ true → (n : ℕ) → n ≡ blocks_at (length list) levels.First
    → map (block levels.First) (range_with_len (start_of n levels.First i) (end_of n levels.First i - start_of n levels.First i))
    ≡ block_sources member block list levels.Second i
below-second member block list i there n is =
    let low : i < blocks_over (parts (length list)) = ltb-true i (blocks_over (parts (length list))) there in
    let many : 32 < parts (length list) = over-some (parts (length list)) (omega (arith, low)) in
    let long : 32 < length list = omega (arith, many) in
    part-of_range (block levels.First) i n
    ∙ ap (λ m. part i (map (block levels.First) (range_with_len 0 m))) (is ∙ over-many (length list) long)

-- ---- the row of a member

record IsOwnRow (sheet : BalanceSheet) (sum : Sum) (name : List ℕ) : Type 0 where
  table : ranges_of (table_of (roll_of sum)) ≡ figure_table (member_of sum name)
  names : names_in (table_of (roll_of sum)) sheet ≡ figure_names sheet (figure_table (member_of sum name))
  named : name_of (member_of sum name) ≡ name

own-row : (sheet : BalanceSheet) (sum : Sum) (name : List ℕ) → IsOwnRow sheet sum name
own-row sheet (sums.Class class) name = record { table = refl; names = refl; named = refl }
own-row sheet sums.Closed name = record { table = refl; names = refl; named = refl }
own-row sheet sums.Spreads name = record { table = refl; names = refl; named = refl }
own-row sheet sums.Grouped name = record { table = refl; names = refl; named = refl }
own-row sheet (sums.Group group) name = record { table = refl; names = refl; named = refl }
own-row sheet (sums.Assets currency) name = record { table = refl; names = refl; named = refl }
own-row sheet (sums.Rates currency direction) name = record { table = refl; names = refl; named = refl }
own-row sheet (sums.Costs currency direction) name = record { table = refl; names = refl; named = refl }
own-row sheet (sums.Presents currency) name = record { table = refl; names = refl; named = refl }
own-row sheet (sums.Losses biometric projection) name = record { table = refl; names = refl; named = refl }
own-row sheet sums.Squares name = record { table = refl; names = refl; named = refl }

-- the same as a pair
abbrev pub Pushed : RolledSheet → Numbered → Lists → List ℕ → List ℕ → List Point → Type 0
Pushed book places lists old new nodes = (more : List ℕ) × (new ≡ old ++ more) × AreAt (StandsIn book places lists) more nodes

-- the numbers of the points stand behind what stood in the list
pub record ArePushed (book : RolledSheet) (places : Numbered) (lists : Lists) (nodes : List Point) (old new : List ℕ) : Type 0 where
  pub more : List ℕ
  pub list : new ≡ old ++ more
  pub at : AreAt (StandsIn book places lists) more nodes

module _ (book : RolledSheet) (places : Numbered) (lists : Lists) (are : AreNumbersOf book places lists) where
  -- the first number beside a member is that of its row
  module _ (valid : Valid book.sheet) (sum : Sum) where
    pub member-stands : (name : List ℕ) → is_live book.sheet (member_of sum name) ≡ true
        → StandsAt book.sheet places (member_of sum name) (first_of book.sheet places (table_of (roll_of sum)) name + family_of (member_of sum name))
    member-stands name live =
        let node : Node = member_of sum name in
        let own = own-row book.sheet sum name in
        let stands = live-stands book.sheet places are.numbered node live in
        let names : List (List ℕ) = figure_names book.sheet (figure_table node) in
        let k : ℕ = stands.1.k in
        let row : slice_get names k ≡ Some name = stands.1.row ∙ ap Some own.named in
        let place : position_or_len (same_name name) names ≡ k =
        place-of names k name (named-once book.sheet valid (figure_table node)) (slice_get_within names k name row) (get_or_from_slice_get names k name [] row) in
        let start : first_of book.sheet places (table_of (roll_of sum)) name ≡ first places (figure_table node) k =
        ap (λ t. first places t (position_or_len (same_name name) (names_in (table_of (roll_of sum)) book.sheet))) own.table
        ∙ ap (λ xs. first places (figure_table node) (position_or_len (same_name name) xs)) own.names
        ∙ ap (first places (figure_table node)) place in
        subst (StandsAt book.sheet places node) (sym (ap (λ n. n + family_of node) start ∙ stands.1.at.is)) stands.1

    -- the figures of members stand at the numbers that are read off the list
    pub members-at : (family : ℕ) → ((name : List ℕ) → family ≡ family_of (member_of sum name)) → (names : List (List ℕ))
        → ((name : List ℕ) → IsMember name names → is_live book.sheet (member_of sum name) ≡ true)
        → AreAt (StandsIn book places lists) (map (λ n. n + family) (map (first_of book.sheet places (table_of (roll_of sum))) names))
        (map (member_point sum) names)
    members-at family own [] live = tt
    members-at family own (name ∷ names) live = (
      subst (λ f. StandsAt book.sheet places (member_of sum name) (first_of book.sheet places (table_of (roll_of sum)) name + f)) (sym (own name))
          (member-stands name (live name (inl refl))),
      members-at family own names (λ other h. live other (inr h)),
    )

    -- they are numbers of 32 bits
    pub members-low : (family : ℕ) → ((name : List ℕ) → family ≡ family_of (member_of sum name)) → (names : List (List ℕ))
        → ((name : List ℕ) → IsMember name names → is_live book.sheet (member_of sum name) ≡ true) → places.size < 2 ^ 32
        → All (λ n. n + family < 2 ^ 32) (map (first_of book.sheet places (table_of (roll_of sum))) names)
    members-low family own names live few =
        All-from_members (λ n. n + family < 2 ^ 32) (map (first_of book.sheet places (table_of (roll_of sum))) names)
        (λ n h.
        let m = IsMember-map (first_of book.sheet places (table_of (roll_of sum))) names n h in
        let low = are.numbers.within (points.Figure (member_of sum m.0))
        (first_of book.sheet places (table_of (roll_of sum)) m.0 + family_of (member_of sum m.0)) (member-stands m.0 (live m.0 m.1)) in
        let same : n + family ≡ first_of book.sheet places (table_of (roll_of sum)) m.0 + family_of (member_of sum m.0) =
        ap (λ k. k + family) (sym m.2) ∙ ap (λ f. first_of book.sheet places (table_of (roll_of sum)) m.0 + f) (own m.0) in
        omega (arith, low, same, few))

    -- the members of these points live
    pub members-live : (names : List (List ℕ)) (nodes : List Point) → map (member_point sum) names ≡ nodes
        → ((source : Point) → Contains nodes source → is_live_in (rolled_of book) source ≡ true)
        → (name : List ℕ) → IsMember name names → is_live book.sheet (member_of sum name) ≡ true
    members-live names nodes is live name h =
        live (member_point sum name)
        (subst (λ ps. Contains ps (member_point sum name)) is
        (Contains-from_IsMember (map (member_point sum) names) (member_point sum name) (IsMember-mapped (member_point sum) names name h)))

    -- what stands beside the list
    pub firsts-are : (roll : Roll) (firsts : List ℕ) → firsts ≡ members_of roll book.rolls lists → roll ≡ roll_of sum
        → firsts ≡ map (first_of book.sheet places (table_of (roll_of sum))) (roll_in (rolled_of book) sum)
    firsts-are roll firsts is own =
        is ∙ ap (λ r. members_of r book.rolls lists) own ∙ members-own book places lists are.lists_of (roll_of sum)

    -- so there are as many, and as many Blocks over it
    pub counted-are : (roll : Roll) (firsts : List ℕ) → firsts ≡ members_of roll book.rolls lists → roll ≡ roll_of sum
        → length firsts ≡ length (roll_in (rolled_of book) sum)
    counted-are roll firsts is own =
        ap length (firsts-are roll firsts is own) ∙ length-map (roll_in (rolled_of book) sum) (first_of book.sheet places (table_of (roll_of sum)))

    pub blocks-are : (roll : Roll) (firsts : List ℕ) → firsts ≡ members_of roll book.rolls lists → roll ≡ roll_of sum → (level : Level)
        → blocks_at (length firsts) level ≡ blocks_at (length (roll_in (rolled_of book) sum)) level
    blocks-are roll firsts is own level = ap (λ n. blocks_at n level) (counted-are roll firsts is own)

    -- the numbers of members are those of the points
    pub members-pushed : (family : ℕ) → ((name : List ℕ) → family ≡ family_of (member_of sum name)) → (names : List (List ℕ)) (nodes : List Point)
        → map (member_point sum) names ≡ nodes
        → ((source : Point) → Contains nodes source → is_live_in (rolled_of book) source ≡ true)
        → (firsts old new : List ℕ) → firsts ≡ map (first_of book.sheet places (table_of (roll_of sum))) names
        → new ≡ old ++ map (λ n. n + family) firsts
        → Pushed book places lists old new nodes
    members-pushed family own names nodes is live firsts old new are_firsts now = (
      map (λ n. n + family) firsts,
      now,
      subst (λ ns. AreAt (StandsIn book places lists) (map (λ n. n + family) ns) nodes) (sym are_firsts)
          (subst (AreAt (StandsIn book places lists) (map (λ n. n + family) (map (first_of book.sheet places (table_of (roll_of sum))) names))) is
          (members-at family own names (members-live names nodes is live))),
    )

    pub members-few : (family : ℕ) → ((name : List ℕ) → family ≡ family_of (member_of sum name)) → (names : List (List ℕ)) (nodes : List Point)
        → map (member_point sum) names ≡ nodes
        → ((source : Point) → Contains nodes source → is_live_in (rolled_of book) source ≡ true)
        → (firsts : List ℕ) → firsts ≡ map (first_of book.sheet places (table_of (roll_of sum))) names → places.size < 2 ^ 32
        → All (λ n. n + family < 2 ^ 32) firsts
    members-few family own names nodes is live firsts are_firsts few =
        subst (All (λ n. n + family < 2 ^ 32)) (sym are_firsts) (members-low family own names (members-live names nodes is live) few)

    -- there are few Blocks, as there are few members
    pub blocks-few : (level : Level) → blocks_at (length (roll_in (rolled_of book) sum)) level ≤ 20000
    blocks-few level =
        let rolls = rolls-are book are.rolls in
        let few = few_members (rolled_of book) valid sum (record { members = rolls.members (roll_of sum); once = rolls.once (roll_of sum) }) in
        blocks-small (length (roll_in (rolled_of book) sum)) level 20000 few

    -- what is left of a sum that is read
    pub tops-live : reads book.sheet sum ≡ true → (source : Point) → Contains (tops_of (rolled_of book) (Some sum)) source
        → is_live_in (rolled_of book) source ≡ true
    tops-live there source h =
        sources-live-in (rolled_of book) valid (rolls-are book are.rolls) (points.Figure (reader_of sum)) source there
        (subst (λ t. Contains (cond t (tops_of (rolled_of book) (first_sum (reader_of sum)) ++ tops_of (rolled_of book) (second_sum (reader_of sum)))
        (map points.Figure (sources_of book.sheet (reader_of sum)))) source) (sym (summed-reader sum))
        (Contains-from_IsMember _ source (by (own-sum sum))))
      where
        by : (first_sum (reader_of sum) ≡ Some sum) ⊎ (second_sum (reader_of sum) ≡ Some sum)
            → IsMember source (tops_of (rolled_of book) (first_sum (reader_of sum)) ++ tops_of (rolled_of book) (second_sum (reader_of sum)))
        by (inl e) =
            IsMember-left (tops_of (rolled_of book) (first_sum (reader_of sum))) (tops_of (rolled_of book) (second_sum (reader_of sum))) source
            (subst (λ o. IsMember source (tops_of (rolled_of book) o)) (sym e) (IsMember-from_Contains (tops_of (rolled_of book) (Some sum)) source h))
        by (inr e) =
            IsMember-right (tops_of (rolled_of book) (first_sum (reader_of sum))) (tops_of (rolled_of book) (second_sum (reader_of sum))) source
            (subst (λ o. IsMember source (tops_of (rolled_of book) o)) (sym e) (IsMember-from_Contains (tops_of (rolled_of book) (Some sum)) source h))

  -- ---- Blocks, one after another

  module _ (sum : Sum) (level : Level) where
    pub block-pushed : (start index : ℕ) (old items after : List ℕ) (number : ℕ) → start ≤ index
        → StandsIn book places lists (block_point sum level index) number → after ≡ items ++ number ∷ []
        → ArePushed book places lists (map (block_point sum level) (range_with_len start (index - start))) old items
        → ArePushed book places lists (map (block_point sum level) (range_with_len start (index + 1 - start))) old after
    block-pushed start index old items after number from there is so = record {
      more = so.more ++ number ∷ [];
      list = is ∙ ap (λ xs. xs ++ number ∷ []) so.list ∙ append_assoc old so.more (number ∷ []);
      at = subst (AreAt (StandsIn book places lists) (so.more ++ number ∷ [])) (sym longer)
          (zip-next (λ n point. StandsIn book places lists point n) so.more (map (block_point sum level) (range_with_len start (index - start)))
          number (block_point sum level index) so.at there);
    }
      where
        longer : map (block_point sum level) (range_with_len start (index + 1 - start))
            ≡ map (block_point sum level) (range_with_len start (index - start)) ++ block_point sum level index ∷ []
        longer =
            ap (λ n. map (block_point sum level) (range_with_len start n)) (omega (arith, from))
            ∙ map-range_with_len_more (block_point sum level) start (index - start) index (omega (arith, from))

-- those of the Blocks from a first one up to an index
pub record AreBlocksSoFar (book : RolledSheet) (places : Numbered) (lists : Lists) (sum : Sum) (level : Level) (start end : ℕ) (old : List ℕ) (index : ℕ) (now : List ℕ)
    : Type 0 where
  pub from : start ≤ index
  pub until : index ≤ max start end
  pub so_far : ArePushed book places lists (map (block_point sum level) (range_with_len start (index - start))) old now

module _ (book : RolledSheet) (places : Numbered) (lists : Lists) (sum : Sum) (level : Level) (start end : ℕ) (old : List ℕ) where
  pub no-blocks : AreBlocksSoFar book places lists sum level start end old start old
  no-blocks = record {
    from = omega arith;
    until = omega arith;
    so_far = subst (λ n. ArePushed book places lists (map (block_point sum level) (range_with_len start n)) old old) none
        (record { more = []; list = sym (append-nil old); at = tt });
  }
    where
      none : 0 ≡ start - start
      none = omega arith

  pub all-blocks : (index : ℕ) (now : List ℕ) → end ≤ index → AreBlocksSoFar book places lists sum level start end old index now
      → Pushed book places lists old now (map (block_point sum level) (range_with_len start (end - start)))
  all-blocks index now past so =
      let from = so.from in
      let until = so.until in
      let same : index - start ≡ end - start = omega (arith, past, from, until) in
      subst (λ n. Pushed book places lists old now (map (block_point sum level) (range_with_len start n))) same
      (so.so_far.more, so.so_far.list, so.so_far.at)

  pub next-block : AreNumbersOf book places lists → (index : ℕ) (items after : List ℕ) (number : ℕ) → index < end
      → StandsIn book places lists (block_point sum level index) number → after ≡ items ++ number ∷ [] → AreBlocksSoFar book places lists sum level start end old index items
      → AreBlocksSoFar book places lists sum level start end old (index + 1) after
  next-block are index items after number low there is so =
      let from = so.from in
      record {
        from = omega (arith, from);
        until = omega (arith, low);
        so_far = block-pushed book places lists are sum level start index old items after number from there is so.so_far;
      }

-- what a Block adds up
module _ (book : RolledSheet) (places : Numbered) (lists : Lists) (are : AreNumbersOf book places lists) (valid : Valid book.sheet) (block : Block)
    (live : is_live_in (rolled_of book) (points.Block block) ≡ true) where
  pub read-and-there : (reads book.sheet block.sum ≡ true) × (is_block (length (roll_in (rolled_of book) block.sum)) block.level block.index ≡ true)
  read-and-there =
      and_parts (reads book.sheet block.sum) (is_block (length (roll_in (rolled_of book) block.sum)) block.level block.index) live

  pub below-live : (source : Point) → Contains (sources_in (rolled_of book) (points.Block block)) source → is_live_in (rolled_of book) source ≡ true
  below-live source h = sources-live-in (rolled_of book) valid (rolls-are book are.rolls) (points.Block block) source live h

  pub first-sources : block.level ≡ levels.First
      → map (member_point block.sum) (part block.index (roll_in (rolled_of book) block.sum)) ≡ sources_in (rolled_of book) (points.Block block)
  first-sources is =
      sym (part-map (member_point block.sum) block.index (roll_in (rolled_of book) block.sum))
      ∙ ap (λ l. block_sources (member_point block.sum) (block_point block.sum) (roll_in (rolled_of book) block.sum) l block.index) (sym is)

  pub first-firsts : (firsts own : List ℕ) → own ≡ part block.index firsts
      → firsts ≡ map (first_of book.sheet places (table_of (roll_of block.sum))) (roll_in (rolled_of book) block.sum)
      → own ≡ map (first_of book.sheet places (table_of (roll_of block.sum))) (part block.index (roll_in (rolled_of book) block.sum))
  first-firsts firsts own is all =
      is ∙ ap (part block.index) all
      ∙ part-map (first_of book.sheet places (table_of (roll_of block.sum))) block.index (roll_in (rolled_of book) block.sum)

  -- so are those that stand beside the list
  pub part-firsts : (roll : Roll) → roll ≡ roll_of block.sum → (firsts own : List ℕ) → firsts ≡ members_of roll book.rolls lists → own ≡ part block.index firsts
      → own ≡ map (first_of book.sheet places (table_of (roll_of block.sum))) (part block.index (roll_in (rolled_of book) block.sum))
  part-firsts roll told firsts own beside is = first-firsts firsts own is (firsts-are book places lists are valid block.sum roll firsts beside told)

  pub second-sources : block.level ≡ levels.Second → (count start end : ℕ) → count ≡ blocks_at (length (roll_in (rolled_of book) block.sum)) levels.First
      → start ≡ start_of count levels.First block.index → end ≡ end_of count levels.First block.index
      → map (block_point block.sum levels.First) (range_with_len start (end - start)) ≡ sources_in (rolled_of book) (points.Block block)
  second-sources is count start end own from until =
      ap (λ n. map (block_point block.sum levels.First) (range_with_len n (end - n))) from
      ∙ ap (λ n. map (block_point block.sum levels.First)
      (range_with_len (start_of count levels.First block.index) (n - start_of count levels.First block.index))) until
      ∙ below-second (member_point block.sum) (block_point block.sum) (roll_in (rolled_of book) block.sum) block.index
      (subst (λ l. is_block (length (roll_in (rolled_of book) block.sum)) l block.index ≡ true) is read-and-there.1) count own
      ∙ ap (λ l. block_sources (member_point block.sum) (block_point block.sum) (roll_in (rolled_of book) block.sum) l block.index) (sym is)

  -- so are those that are counted beside the list
  pub second-beside : block.level ≡ levels.Second → (roll : Roll) → roll ≡ roll_of block.sum → (firsts : List ℕ) → firsts ≡ members_of roll book.rolls lists
      → (count start end : ℕ) → count ≡ blocks_at (length firsts) levels.First → start ≡ start_of count levels.First block.index → end ≡ end_of count levels.First block.index
      → map (block_point block.sum levels.First) (range_with_len start (end - start)) ≡ sources_in (rolled_of book) (points.Block block)
  second-beside is roll told firsts beside count start end own from until =
      second-sources is count start end (own ∙ blocks-are book places lists are valid block.sum roll firsts beside told levels.First) from until

-- of a figure that is reckoned from sums what is left of them
pub both-pushed : (book : RolledSheet) (places : Numbered) (lists : Lists) (node : Node) (one two : Option Sum) → one ≡ first_sum node → two ≡ second_sum node
    → is_some one ≡ true → (old mid new : List ℕ) → Pushed book places lists old mid (tops_of (rolled_of book) one)
    → Pushed book places lists mid new (tops_of (rolled_of book) two)
    → Pushed book places lists old new (sources_in (rolled_of book) (points.Figure node))
both-pushed book places lists node one two is_one is_two some old mid new a b = (
  a.0 ++ b.0,
  b.1 ∙ ap (λ xs. xs ++ b.0) a.1 ∙ append_assoc old a.0 b.0,
  subst (AreAt (StandsIn book places lists) (a.0 ++ b.0)) same
      (zip-append (λ n point. StandsIn book places lists point n) a.0 b.0 (tops_of (rolled_of book) one) (tops_of (rolled_of book) two) a.2 b.2),
)
  where
    same : tops_of (rolled_of book) one ++ tops_of (rolled_of book) two ≡ sources_in (rolled_of book) (points.Figure node)
    same =
        ap (λ o. tops_of (rolled_of book) o ++ tops_of (rolled_of book) two) is_one
        ∙ ap (λ o. tops_of (rolled_of book) (first_sum node) ++ tops_of (rolled_of book) o) is_two
        ∙ sym (ap (λ t. cond t (tops_of (rolled_of book) (first_sum node) ++ tops_of (rolled_of book) (second_sum node))
        (map points.Figure (sources_of book.sheet node))) (sym (ap is_some is_one) ∙ some))

-- ---- figures of one row

abbrev pub is_rate : Node → Bool
is_rate (nodes.Security name (of_securities.Rate direction)) = true
is_rate node = false

abbrev pub is_spread : Node → Bool
is_spread (nodes.Security name of_securities.Spread) = true
is_spread node = false

abbrev pub is_square : Node → Bool
is_square (nodes.Group name of_groups.ConcentrationSquare) = true
is_square node = false

module _ (sheet : BalanceSheet) (places : Numbered) where
  -- another figure of the row of one that has a number
  pub beside-at : (node other : Node) (number at : ℕ) → StandsAt sheet places node number → figure_table other ≡ figure_table node
      → name_of other ≡ name_of node → family_of other < stride (figure_table other) → at + family_of node ≡ number + family_of other
      → StandsAt sheet places other at
  beside-at node other number at x table name few is = record {
    k = x.k;
    row = ap (λ t. slice_get (figure_names sheet t) x.k) table ∙ x.row ∙ ap Some (sym name);
    at = record {
      row = subst (λ t. x.k < count places t) (sym table) x.at.row;
      family = few;
      is = let from = x.at.is in
          let start = ap (λ t. first places t x.k) table in omega (arith, from, start, is);
    };
  }

module _ (book : RolledSheet) (places : Numbered) (lists : Lists) (are : AreNumbersOf book places lists) where
  -- a rate of a security is reckoned from its total and the loss of a unit
  pub rate-sources : (node : Node) (number own : ℕ) → is_rate node ≡ true → StandsAt book.sheet places node number → own + family_of node ≡ number
      → AreAt (StandsIn book places lists) (own ∷ (number - 2) ∷ []) (sources_in (rolled_of book) (points.Figure node))
  rate-sources (nodes.Security name (of_securities.Rate direction)) number own is x from = (
    beside-at book.sheet places (nodes.Security name (of_securities.Rate direction)) (nodes.Security name of_securities.Total) number own x refl refl
        (omega arith) (omega (arith, from)),
    (
      beside-at book.sheet places (nodes.Security name (of_securities.Rate direction)) (nodes.Security name (of_securities.UnitLoss direction)) number
          (number - 2) x refl refl (omega (arith, direction-place-most)) (omega (arith, from)),
      tt,
    ),
  )
  rate-sources node number own is x from = absurd (cc)

  pub spread-sources : (node : Node) (number : ℕ) → is_spread node ≡ true → StandsAt book.sheet places node number
      → AreAt (StandsIn book places lists) ((number - 5) ∷ []) (sources_in (rolled_of book) (points.Figure node))
  spread-sources (nodes.Security name of_securities.Spread) number is x =
      let from = x.at.is in (
        beside-at book.sheet places (nodes.Security name of_securities.Spread) (nodes.Security name of_securities.Total) number (number - 5) x refl refl
            (omega arith) (omega (arith, from)),
        tt,
      )
  spread-sources node number is x = absurd (cc)

  pub square-sources : (node : Node) (number : ℕ) → is_square node ≡ true → StandsAt book.sheet places node number
      → AreAt (StandsIn book places lists) (153 ∷ (number - 1) ∷ []) (sources_in (rolled_of book) (points.Figure node))
  square-sources (nodes.Group name of_groups.ConcentrationSquare) number is x =
      let from = x.at.is in (
        whole-stands book.sheet places are.numbered (nodes.Whole wholes.Assets) wholes.Assets refl refl,
        (
          beside-at book.sheet places (nodes.Group name of_groups.ConcentrationSquare) (nodes.Group name of_groups.Total) number (number - 1) x refl refl
              (omega arith) (omega (arith, from)),
          tt,
        ),
      )
  square-sources node number is x = absurd (cc)

-- ---- which sums a figure reads

pub first-read : (sheet : BalanceSheet) (node : Node) → is_live sheet node ≡ true → IfSome (first_sum node) (λ sum. reads sheet sum ≡ true)
first-read sheet (nodes.Group name of_groups.Total) live = live
first-read sheet (nodes.Currency currency (of_currencies.Loss direction)) live = live
first-read sheet (nodes.Currency currency (of_currencies.Scenario direction measures.Gross)) live = live
first-read sheet (nodes.Whole (wholes.ClassSum class)) live = live
first-read sheet (nodes.Whole wholes.Spread) live = live
first-read sheet (nodes.Whole wholes.Assets) live = live
first-read sheet (nodes.Whole wholes.Concentration) live = live
first-read sheet (nodes.Whole (wholes.BioScenario biometric projection measures.Gross)) live = live
first-read sheet node live = tt

pub second-read : (sheet : BalanceSheet) (node : Node) → is_live sheet node ≡ true → IfSome (second_sum node) (λ sum. reads sheet sum ≡ true)
second-read sheet (nodes.Currency currency (of_currencies.Loss direction)) live = live
second-read sheet (nodes.Currency currency (of_currencies.Scenario direction measures.Gross)) live = live
second-read sheet (nodes.Whole (wholes.ClassSum classes.Type2Equity)) live = live
second-read sheet node live = tt

-- ---- figures that no sum gives

linked-or-alone : (sheet : BalanceSheet) (node : Node) → is_some (first_sum node) ≡ false → is_beside node ≡ false
    → (is_linked node ≡ true) ⊎ (sources_of sheet node ≡ [])
linked-or-alone sheet (nodes.Fund name what) none other = inl refl
linked-or-alone sheet (nodes.Security name of_securities.Total) none other = inl refl
linked-or-alone sheet (nodes.Security name (of_securities.UnitLoss direction)) none other = inr refl
linked-or-alone sheet (nodes.Security name (of_securities.Rate direction)) none other = absurd (cc)
linked-or-alone sheet (nodes.Security name of_securities.Spread) none other = absurd (cc)
linked-or-alone sheet (nodes.Liability name what) none other = inr refl
linked-or-alone sheet (nodes.Group name of_groups.Total) none other = absurd (cc)
linked-or-alone sheet (nodes.Group name of_groups.ConcentrationSquare) none other = absurd (cc)
linked-or-alone sheet (nodes.Group name of_groups.Loss) none other = inr refl
linked-or-alone sheet (nodes.Currency currency what) none other = inl (ap not none)
linked-or-alone sheet (nodes.Whole what) none other = inl (ap not none)

module _ (book : RolledSheet) (places : Numbered) (lists : Lists) (edges : List Edge) (graph : IsGraphOf book places lists edges)
    (node : Node) (number : ℕ) (at : StandsIn book places lists (points.Figure node) number) (live : is_live book.sheet node ≡ true) where
  -- to a figure that is not linked nothing is
  nothing-linked : is_linked node ≡ false → (numbers : List ℕ) → linked_in edges number ≡ numbers → AreAt {Node = Point} (StandsIn book places lists) numbers []
  nothing-linked not_linked [] is = tt
  nothing-linked not_linked (source ∷ numbers) is =
      let e = edge-from edges number source (subst (IsMember source) (sym is) (inl refl)) in
      let point = graph.linked.only e.0 (Contains-from_IsMember edges e.0 e.1) in
      let same : point.0 ≡ points.Figure node =
      graph.numbers_of.numbers.exact number point.0 (points.Figure node) (subst (StandsIn book places lists point.0) e.3 point.1) at in
      let linked : is_linked node ≡ true = subst IsLinkedPoint same point.3 in
      absurd (cc)

  -- the numbers that are linked are those of the sources
  pub linked-at : is_some (first_sum node) ≡ false → is_beside node ≡ false
      → AreAt (StandsIn book places lists) (linked_in edges number) (sources_in (rolled_of book) (points.Figure node))
  linked-at none other = by (linked-or-alone book.sheet node none other) (is_linked node) refl
    where
      plain : sources_in (rolled_of book) (points.Figure node) ≡ map points.Figure (sources_of book.sheet node)
      plain = ap (λ t. cond t (tops_of (rolled_of book) (first_sum node) ++ tops_of (rolled_of book) (second_sum node))
          (map points.Figure (sources_of book.sheet node))) none

      by : (is_linked node ≡ true) ⊎ (sources_of book.sheet node ≡ []) → (t : Bool) → is_linked node ≡ t
          → AreAt (StandsIn book places lists) (linked_in edges number) (sources_in (rolled_of book) (points.Figure node))
      by which true e = graph.linked.done (points.Figure node) number at live e
      by (inl linked) false e = absurd (cc)
      by (inr alone) false e =
          subst (AreAt (StandsIn book places lists) (linked_in edges number)) (sym (plain ∙ ap (map points.Figure) alone))
          (nothing-linked e (linked_in edges number) refl)
