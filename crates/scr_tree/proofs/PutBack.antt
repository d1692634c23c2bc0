-- What is kept of a book once a record is taken back: each figure and each Block has the number that it had.
use Rattle.std.proofs.Common.{◌≡◌, ◌⊎◌, inl, inr, ℕ, ◌+◌, ◌<◌, ◌≤◌, Bool, true, false, cond, nat_lt, get_or, List, [], ◌∷◌, length, Option, Some, None, refl, sym, ap, subst, ◌∙◌, arith}
use Rattle.std.specs.List.{position_or_len}
use Rattle.std.specs.Option.{option_map_or}
use Rattle.std.proofs.lemmas.Bool.{cases_lt}
use Rattle.std.proofs.lemmas.Option.{get_or_from_slice_get, slice_get-get_or, slice_get_past, slice_get_within}
use Rattle.std.proofs.lemmas.List.{get_or-replicate, get_or_past}
use Rattle.scr_funds.proofs.Members.{IsMember, IsMember-from_Contains, Contains-from_IsMember, each-from_members}
use Rattle.scr_links.specs.Edges.{Edge}
use Rattle.scr_tables.specs.Names.{same_name}
use Rattle.scr_ids.specs.Moves.{Came, PutBack, Retired, Risen, Went}
use Rattle.scr_ids.specs.Ranges.{Numbered, count, first, made, same_table, stride}
use Rattle.scr_ids.specs.declared.table.Table.{Table}
use Rattle.scr_ids.specs.declared.table.Table.TheVariants as tables
use Rattle.scr_ids.proofs.Back.{sunk-risen}
use Rattle.scr_ids.proofs.Views.{of_all}
use Rattle.scr_member_lists.specs.Members.{name_at}
use Rattle.scr_member_lists.specs.Seatings.{AreSeated, NOWHERE, Seated, free, names_of, roll_in, seat_of, seats_of}
use Rattle.scr_member_lists.specs.declared.seating.Numbered.{Numbered as RollNumbered}
use Rattle.scr_sheet.specs.declared.keys.Table.{Table as RowTable}
use Rattle.scr_sheet.specs.declared.keys.Table.TheVariants as row_tables
use Rattle.scr_sheet.specs.declared.sheet.BalanceSheet.{BalanceSheet}
use Rattle.scr_nodes.proofs.Reckoning.{map-same}
use Rattle.scr_book.specs.Places.{names_in as row_names}
use Rattle.scr_book.specs.RolledSheets.{RolledSheet}
use Rattle.scr_book.specs.Rolls.{seated_in}
use Rattle.scr_book.proofs.RollSteps.{seated-in}
use Rattle.scr_figure_ids.specs.Families.{family_of, table_of}
use Rattle.scr_figure_ids.specs.Numbers.{IsNumbered, is_of_sheet}
use Rattle.scr_figure_ids.specs.Steps.{CanTakeBack, IsRowLess, IsRowMore, LeadsTo, Takes, TakesBack}
use Rattle.scr_figure_ids.specs.declared.steps.Step.{Step}
use Rattle.scr_figure_ids.specs.declared.steps.Step.TheVariants as steps
use Rattle.scr_figure_ids.proofs.Moved.{step-can, step-can_back}
use Rattle.scr_figure_ids.proofs.Standing.{not-part}
use Rattle.scr_sum_slots.specs.Parts.{key_of, slot_of, slots_in}
use Rattle.scr_sum_slots.specs.declared.parts.Part.{Part}
use Rattle.scr_member_index.specs.Following.{AreStill}
use Rattle.scr_member_index.specs.Lists.{AreListsOf, first_of, lists_in, ranges_of}
use Rattle.scr_member_index.specs.Parting.{HasMoreParts}
use Rattle.scr_member_index.specs.declared.lists.Lists.{Lists}
use Rattle.scr_reachability.specs.Linked.{AreAt, AreLinkedOf, sources_in as linked_in}
use Rattle.scr_reachability.proofs.Placed.{at-weaker, edge-from, source-of}
use Rattle.scr_partial_sums.specs.declared.figure.Figure.{Figure}
use Rattle.scr_block_graph.specs.BlockNumbers.{place_of}
use Rattle.scr_block_graph.specs.Books.{rolled_of}
use Rattle.scr_block_graph.specs.declared.point.Point.{Point}
use Rattle.scr_block_graph.specs.declared.point.Point.TheVariants as points
use Rattle.scr_tree.specs.Figures.{AreKnownOf, AreSettled, Reckoning}
use Rattle.scr_tree.proofs.PointNumbers.{have-ranges}
use Rattle.scr_tree.specs.Points.{AreNumbersOf, IsLinkedPoint, StandsIn, book_graph}

-- ---- rows

-- each row of the sheet has the numbers that it had; there may be more rows of parts
pub record IsAsWas (before now : Numbered) : Type 0 where
  counts : (table : Table) → same_table tables.Part table ≡ false → count now table ≡ count before table
  firsts : (table : Table) → same_table tables.Part table ≡ false → (k : ℕ) → k < count before table → first now table k ≡ first before table k
  rows : count before tables.Part ≤ count now tables.Part
  part_firsts : (k : ℕ) → k < count before tables.Part → first now tables.Part k ≡ first before tables.Part k
  size : before.size ≤ now.size

of-sheet-other : (table : Table) → is_of_sheet table ≡ true → same_table tables.Part table ≡ false
of-sheet-other tables.Whole of = refl
of-sheet-other tables.Fund of = refl
of-sheet-other tables.Security of = refl
of-sheet-other tables.Liability of = refl
of-sheet-other tables.Group of = refl
of-sheet-other tables.Currency of = refl
of-sheet-other tables.Part of = absurd (cc)

-- a part is no row of the sheet
pub more-other : (table : Table) (s t : BalanceSheet) → IsRowMore table s t → (same_table tables.Part table ≡ false) × (same_table table tables.Part ≡ false)
more-other tables.Whole s t more = (refl, refl)
more-other tables.Fund s t more = (refl, refl)
more-other tables.Security s t more = (refl, refl)
more-other tables.Liability s t more = (refl, refl)
more-other tables.Group s t more = (refl, refl)
more-other tables.Currency s t more = (refl, refl)
more-other tables.Part s t more = let clash : [] ≡ more.name ∷ [] = more.rows in absurd (cc)

pub less-other : (table : Table) (k : ℕ) (s t : BalanceSheet) → IsRowLess table k s t → (same_table tables.Part table ≡ false) × (same_table table tables.Part ≡ false)
less-other tables.Whole k s t less = (refl, refl)
less-other tables.Fund k s t less = (refl, refl)
less-other tables.Security k s t less = (refl, refl)
less-other tables.Liability k s t less = (refl, refl)
less-other tables.Group k s t less = (refl, refl)
less-other tables.Currency k s t less = (refl, refl)
less-other tables.Part k s t less = absurd (let l = less.place in omega (arith, l))

still-more : (before now : Numbered) → HasMoreParts before now → IsAsWas before now
still-more before now more = record {
  counts = λ table f. more.others.counts table f;
  firsts = λ table f k l. more.others.firsts table f k;
  rows = more.rows;
  part_firsts = more.firsts;
  size = more.size;
}

-- no size shrinks where a row comes
came-grown : (table : Table) (before now : Numbered) → Came table before now → before.size ≤ now.size
came-grown table before now came = by (nat_lt (count before table) (made before table)) came.size
  where
    by : (t : Bool) → now.size ≡ cond t before.size (before.size + stride table) → before.size ≤ now.size
    by true e = omega (arith, e)
    by false e = omega (arith, e)

pub takes-grown : (step : Step) (old now : Numbered) → Takes step old now → old.size ≤ now.size
takes-grown steps.Stays old now takes = let same : now.size ≡ old.size = ap (λ (p : Numbered). p.size) takes in omega (arith, same)
takes-grown (steps.Comes table) old now takes = came-grown table old now takes
takes-grown (steps.Goes table k) old now takes = let same = takes.size in omega (arith, same)

module _ (s t : BalanceSheet) (a b m d : Numbered) (numbered : IsNumbered s a) (more : HasMoreParts b m) where
  came-as-was : (table : Table) → IsRowMore table s t → Came table a b → Retired table m d → IsAsWas a d
  came-as-was table row came retired = record {
    counts = of_all (λ any. same_table tables.Part any ≡ false → count d any ≡ count a any) table
        (λ f. let gone = retired.one_less in let was = came.one_more in let same = more.others.counts table f in omega (arith, gone, was, same))
        (λ other g f. retired.others.counts other g ∙ more.others.counts other f ∙ came.others.counts other g);
    firsts = of_all (λ any. same_table tables.Part any ≡ false → (k : ℕ) → k < count a any → first d any k ≡ first a any k) table
        (λ f k l. retired.firsts k ∙ more.others.firsts table f k ∙ came.firsts k (let w = came.within in omega (arith, l, w)))
        (λ other g f k l. retired.others.firsts other g k ∙ more.others.firsts other f k ∙ came.others.firsts other g k);
    rows = let now = retired.others.counts tables.Part apart in let was = came.others.counts tables.Part apart in let less = more.rows in
        omega (arith, now, was, less);
    part_firsts = λ k l. retired.others.firsts tables.Part apart k
        ∙ more.firsts k (let was = came.others.counts tables.Part apart in omega (arith, l, was)) ∙ came.others.firsts tables.Part apart k;
    size = let now = retired.size in let less = more.size in let was = came-grown table a b came in omega (arith, now, less, was);
  }
    where
      apart : same_table table tables.Part ≡ false
      apart = (more-other table s t row).1

  went-as-was : (table : Table) (k : ℕ) → IsRowLess table k s t → k < count a table → Went table k a b → PutBack table k m d → IsAsWas a d
  went-as-was table k row inside went back = record {
    counts = of_all (λ any. same_table tables.Part any ≡ false → count d any ≡ count a any) table
        (λ f. let now = back.one_more in let was = went.one_less in omega (arith, now, was, same))
        (λ other g f. back.others.counts other g ∙ more.others.counts other f ∙ went.others.counts other g);
    firsts = of_all (λ any. same_table tables.Part any ≡ false → (n : ℕ) → n < count a any → first d any n ≡ first a any n) table
        (λ f n l. sunk-risen k (count b table) (first a table) (first b table) (first d table) (let was = went.one_less in omega (arith, inside, was))
        went.firsts risen n)
        (λ other g f n l. back.others.firsts other g n ∙ more.others.firsts other f n ∙ went.others.firsts other g n);
    rows = let now = back.others.counts tables.Part apart.1 in let was = went.others.counts tables.Part apart.1 in let less = more.rows in
        omega (arith, now, was, less);
    part_firsts = λ n l. back.others.firsts tables.Part apart.1 n
        ∙ more.firsts n (let was = went.others.counts tables.Part apart.1 in omega (arith, l, was)) ∙ went.others.firsts tables.Part apart.1 n;
    size = let now = back.size in let less = more.size in let was = went.size in omega (arith, now, less, was);
  }
    where
      apart : (same_table tables.Part table ≡ false) × (same_table table tables.Part ≡ false)
      apart = less-other table k s t row

      same : count m table ≡ count b table
      same = more.others.counts table apart.0

      first-same : (n : ℕ) → first m table n ≡ first b table n
      first-same n = more.others.firsts table apart.0 n

      from : Risen k (count b table) (first m table) (first d table)
      from = subst (λ high. Risen k high (first m table) (first d table)) same back.firsts

      risen : Risen k (count b table) (first b table) (first d table)
      risen = record {
        below = λ n l. from.below n l ∙ first-same n;
        between = λ n p q. from.between n p q ∙ first-same n;
        moved = from.moved ∙ first-same (count b table);
        above = λ n l. from.above n l ∙ first-same n;
      }

  pub taken-back : (step : Step) → LeadsTo step s t → Takes step a b → TakesBack step m d → IsAsWas a d
  taken-back steps.Stays leads takes back = subst (λ now. IsAsWas a now) (sym back) (subst (λ was. IsAsWas was m) takes (still-more b m more))
  taken-back (steps.Comes table) leads takes back = came-as-was table leads takes back
  taken-back (steps.Goes table k) leads takes back = went-as-was table k leads (step-can (steps.Goes table k) s t a leads numbered) takes back

  -- so the step can be taken back
  pub can-go-back : (step : Step) → LeadsTo step s t → Takes step a b → CanTakeBack step m
  can-go-back steps.Stays leads takes = tt
  can-go-back (steps.Comes table) leads takes =
      let rows = more.others.counts table (more-other table s t leads).0 in
      let can = step-can_back (steps.Comes table) s t a b leads numbered takes in omega (arith, rows, can)
  can-go-back (steps.Goes table k) leads takes =
      let f = (less-other table k s t leads).0 in
      let rows = more.others.counts table f in
      let ranges = more.others.ranges table f in
      let can = step-can_back (steps.Goes table k) s t a b leads numbered takes in
      (let low = can.0 in omega (arith, rows, low), let free_range = can.1 in omega (arith, rows, ranges, free_range))

-- ---- members of lists are rows

-- a list with a member has a number that is one
list-numbered : (st : Seated) (list place : ℕ) → length st.rolls ≤ NOWHERE → place < length (names_of list st.rolls) → list ≡ NOWHERE → ⊥
list-numbered st list place few low e =
    let none : length (names_of list st.rolls) ≡ 0 =
    ap (λ (found : Option RollNumbered). length (option_map_or (λ (roll : RollNumbered). roll.roster.names) found []))
    (slice_get_past st.rolls list (omega (arith, few, e))) in
    omega (arith, low, none)

module _ (names : List (List ℕ)) (st : Seated) (seated : AreSeated names st) where
  found : (list place : ℕ) → place < length (names_of list st.rolls)
      → position_or_len (same_name (name_at place (names_of list st.rolls))) names < length names
  found list place inside = by (cases_lt (position_or_len (same_name (name_at place (names_of list st.rolls))) names) (length names))
    where
      by : (position_or_len (same_name (name_at place (names_of list st.rolls))) names < length names)
          ⊎ (length names ≤ position_or_len (same_name (name_at place (names_of list st.rolls))) names)
          → position_or_len (same_name (name_at place (names_of list st.rolls))) names < length names
      by (inl low) = low
      by (inr past) =
          let none : seats_of names st.seats (name_at place (names_of list st.rolls)) ≡ free =
          get_or_past st.seats (position_or_len (same_name (name_at place (names_of list st.rolls))) names) free (let long = seated.beside in omega (arith, past, long)) in
          let roll : list ≡ roll_in (seat_of list st.rolls) free =
          sym (seated.rolled list place inside) ∙ ap (roll_in (seat_of list st.rolls)) none in
          absurd (list-numbered st list place seated.few inside (roll ∙ nowhere (seat_of list st.rolls) (seated.seats list)))
        where
          nowhere : (seat : ℕ) → seat < 11 → roll_in seat free ≡ NOWHERE
          nowhere seat low = get_or-replicate 11 seat NOWHERE NOWHERE low

  pub member-row : (list : ℕ) (name : List ℕ) → IsMember name (names_of list st.rolls) → position_or_len (same_name name) names < length names
  member-row list name h =
      let c = Contains-from_IsMember (names_of list st.rolls) name h in
      let at : name_at c.0 (names_of list st.rolls) ≡ name =
      get_or_from_slice_get (names_of list st.rolls) c.0 name []
      (slice_get-get_or (names_of list st.rolls) c.0 name c.1 ∙ ap Some c.2) in
      subst (λ n. position_or_len (same_name n) names < length names) at (found list c.0 c.1)

range-other : (table : RowTable) → same_table tables.Part (ranges_of table) ≡ false
range-other row_tables.Security = refl
range-other row_tables.Liability = refl
range-other row_tables.Fund = refl
range-other row_tables.Group = refl
range-other row_tables.Bank = refl
range-other row_tables.Rein = refl
range-other row_tables.Curve = refl

-- ---- all that has numbers

module _ (book : RolledSheet) (a d : Numbered) (lists back : Lists) (was : IsAsWas a d) (still : AreStill lists back) (are : AreNumbersOf book a lists) where
  numbered-yet : IsNumbered book.sheet d
  numbered-yet = record {
    rows = λ table of. was.counts table (of-sheet-other table of) ∙ are.numbered.rows table of;
    whole = was.firsts tables.Whole refl 0 (let one = are.numbered.rows tables.Whole refl in omega (arith, one)) ∙ are.numbered.whole;
  }

  slot-back : (part : Part) (slot : ℕ) → slot_of part back.parts ≡ Some slot → slot_of part lists.parts ≡ Some slot
  slot-back part slot is = by (slot_of part lists.parts) refl
    where
      slots : List ℕ
      slots = slots_in (key_of part.list part.level) lists.parts

      low : part.index < length slots
      low =
          let inside = slice_get_within (slots_in (key_of part.list part.level) back.parts) part.index slot is in
          let same = still.parts.counts part.list part.level in omega (arith, inside, same)

      by : (found : Option ℕ) → slot_of part lists.parts ≡ found → slot_of part lists.parts ≡ Some slot
      by None e = let clash : None ≡ Some (get_or slots part.index 0) = sym e ∙ slice_get-get_or slots part.index 0 low in absurd (cc)
      by (Some other) e =
          let both : Some other ≡ Some slot = sym (still.parts.kept part other e) ∙ is in e ∙ both

  pub lists-yet : AreListsOf book d back
  lists-yet = record {
    firsts = λ table has list.
        still.firsts table has list ∙ are.lists_of.firsts table has list
        ∙ map-same (first_of book.sheet a table) (first_of book.sheet d table) (names_of list (lists_in table book.rolls))
        (each-from_members (λ name. first_of book.sheet a table name ≡ first_of book.sheet d table name) (names_of list (lists_in table book.rolls))
        (λ name h. sym (was.firsts (ranges_of table) (range-other table) (position_or_len (same_name name) (row_names table book.sheet))
        (let low = member-row (row_names table book.sheet) (seated_in table book.rolls)
        (seated-in table book.sheet book.rolls has (are.rolls.seated table)) list name h in
        let many = have-ranges book.sheet a are.numbered table has in omega (arith, low, many)))));
    parts = λ table has number level. still.parts.counts _ level ∙ are.lists_of.parts table has number level;
    rows = λ part slot is.
        let low = are.lists_of.rows part slot (slot-back part slot is) in
        let more = was.rows in omega (arith, low, more);
  }

  stands-yet : (point : Point) (number : ℕ) → StandsIn book a lists point number → StandsIn book d back point number
  stands-yet (points.Figure node) number x = record {
    k = x.k;
    row = x.row;
    at = record {
      row = let many = was.counts (table_of node) (not-part node) in let low = x.at.row in omega (arith, many, low);
      family = x.at.family;
      is = ap (λ n. n + family_of node) (was.firsts (table_of node) (not-part node) x.k x.at.row) ∙ x.at.is;
    };
  }
  stands-yet (points.Block block) number x = record {
    roll = x.roll;
    numbered = x.numbered;
    slot = x.slot;
    part = still.parts.kept _ x.slot x.part;
    at = record {
      row = let more = was.rows in let low = x.at.row in omega (arith, more, low);
      family = x.at.family;
      is = ap (λ n. n + place_of block.sum) (was.part_firsts x.slot x.at.row) ∙ x.at.is;
    };
  }

  stood-there : (point : Point) (number : ℕ) → StandsIn book d back point number → StandsIn book a lists point number
  stood-there (points.Figure node) number x =
      let low : x.k < count a (table_of node) =
      (let many = was.counts (table_of node) (not-part node) in let l = x.at.row in omega (arith, many, l)) in record {
        k = x.k;
        row = x.row;
        at = record {
          row = low;
          family = x.at.family;
          is = ap (λ n. n + family_of node) (sym (was.firsts (table_of node) (not-part node) x.k low)) ∙ x.at.is;
        };
      }
  stood-there (points.Block block) number x =
      let part = slot-back _ x.slot x.part in
      let low = are.lists_of.rows _ x.slot part in record {
        roll = x.roll;
        numbered = x.numbered;
        slot = x.slot;
        part = part;
        at = record {
          row = low;
          family = x.at.family;
          is = ap (λ n. n + place_of block.sum) (sym (was.part_firsts x.slot low)) ∙ x.at.is;
        };
      }

  pub numbers-yet : AreNumbersOf book d back
  numbers-yet = record {
    rolls = are.rolls;
    numbered = numbered-yet;
    lists_of = lists-yet;
    numbers = record {
      exact = λ number p q x y. are.numbers.exact number p q (stood-there p number x) (stood-there q number y);
      only = λ point n m x y. are.numbers.only point n m (stood-there point n x) (stood-there point m y);
      live = λ point live. let own = are.numbers.live point live in (own.0, stands-yet point own.0 own.1);
      within = λ point number x. let low = are.numbers.within point number (stood-there point number x) in let grown = was.size in omega (arith, low, grown);
    };
  }

  pub linked-yet : (edges now : List Edge) → AreLinkedOf (book_graph (rolled_of book)) (StandsIn book a lists) edges IsLinkedPoint
      → ((number : ℕ) → linked_in now number ≡ linked_in edges number)
      → AreLinkedOf (book_graph (rolled_of book)) (StandsIn book d back) now IsLinkedPoint
  linked-yet edges now linked same = record {
    done = λ point number x live of.
        subst (λ list. AreAt (StandsIn book d back) list ((book_graph (rolled_of book)).sources point)) (sym (same number))
        (at-weaker (StandsIn book a lists) (StandsIn book d back) (linked_in edges number) ((book_graph (rolled_of book)).sources point)
        (λ source q h y. stands-yet source q y) (linked.done point number (stood-there point number x) live of));
    only = λ edge h.
        let from = source-of now edge.dependant edge (IsMember-from_Contains now edge h) refl in
        let e = edge-from edges edge.dependant edge.source (subst (IsMember edge.source) (same edge.dependant) from) in
        let p = linked.only e.0 (Contains-from_IsMember edges e.0 e.1) in
        (p.0, subst (StandsIn book d back p.0) e.3 (stands-yet p.0 (e.0).dependant p.1), p.2, p.3);
  }

  pub settled-yet : (reckoning : Reckoning Point) (figures : List Figure) → AreSettled reckoning (StandsIn book a lists) figures
      → AreSettled reckoning (StandsIn book d back) figures
  unfolding AreKnownOf
  settled-yet reckoning figures settled = λ point number x live any. settled point number (stood-there point number x) live any
