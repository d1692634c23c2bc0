-- The lists of a book follow the row of a record: they can, and then they are those of the book after it.
use Rattle.std.proofs.Common.{◌≡◌, ◌≢◌, ◌⊎◌, inl, inr, ℕ, suc, ◌+◌, ◌<◌, ◌≤◌, Bool, true, false, List, [], ◌∷◌, length, map, get_or, eqb, slice_get, slice_set, Option, Some, None, IfSome, refl, sym, ap, ap₂, subst, ◌∙◌, arith}
use Rattle.std.specs.Prelude.{if◌then◌else◌, nat_lt}
use Rattle.std.specs.List.{IsDistinct, position_or_len}
use Rattle.std.specs.Option.{option_and_then, option_map}
use Rattle.std.proofs.lemmas.Bool.{cases_Bool, cases_eq}
use Rattle.std.proofs.lemmas.Bool.Decides.{Decides-eqb}
use Rattle.std.proofs.lemmas.List.{get_or-map, get_or_at, length-map, length_push}
use Rattle.std.proofs.lemmas.Option.{slice_get-get_or, slice_get_within}
use Rattle.scr_tables.specs.Names.{same_name}
use Rattle.scr_tables.proofs.TableRows.{same_or_other}
use Rattle.scr_sum_tree.specs.Blocks.{blocks_at}
use Rattle.scr_sum_tree.specs.declared.blocks.Level.{Level}
use Rattle.scr_ids.specs.Ranges.{IsAt, Numbered as Ranges, count, first, same_table as is_one}
use Rattle.scr_ids.specs.declared.table.Table.{Table as Ranged}
use Rattle.scr_ids.specs.declared.table.Table.TheVariants as ranged
use Rattle.scr_ids.proofs.Tables.{same_table-is, stride-some}
use Rattle.scr_member_lists.specs.Members.{come, has, moved, name_at, left as left_of}
use Rattle.scr_member_lists.specs.Seatings.{NOWHERE, AreSeated, Seated, StandsAt as Stands, free, names_of, place_in, roll_in, seat_of, seats_of}
use Rattle.scr_member_lists.specs.declared.seats.Seats.{Seats}
use Rattle.scr_member_lists.proofs.SeatLists.{place-of}
use Rattle.scr_member_lists.proofs.SeatReturns.{at-has, has-at, never-member}
use Rattle.scr_member_lists.proofs.SeatTables.{seats-none}
use Rattle.scr_sum_slots.specs.Firsts.{FirstLists, first_at, firsts_in, joined}
use Rattle.scr_sum_slots.specs.Following.{AreSeatsOf, HasFollowed, reseated}
use Rattle.scr_sum_slots.specs.Parts.{AreOwn, count_of, size_of}
use Rattle.scr_sum_slots.proofs.Members as beside
use Rattle.scr_sum_slots.proofs.Views.{no-some, one-some}
use Rattle.scr_sheet.specs.BalanceSheet.{is_in}
use Rattle.scr_sheet.specs.Members.{edit_name}
use Rattle.scr_sheet.specs.Records.{applied}
use Rattle.scr_sheet.specs.Validity.{Valid}
use Rattle.scr_sheet.specs.declared.{sheet.BalanceSheet.BalanceSheet, edit.Edit.Edit, keys.Table.Table}
use Rattle.scr_sheet.specs.declared.keys.Table.TheVariants as tables
use Rattle.scr_book.specs.Places.{names_in}
use Rattle.scr_book.specs.RolledSheets.{AreListsMoved, AreRolled, RolledSheet, numbered_in}
use Rattle.scr_book.specs.Rolls.{AreRollsOf, KeepsNumbers, moves_in, same_table, seated_in}
use Rattle.scr_book.proofs.RollGrowth.{names-past}
use Rattle.scr_book.proofs.RollLaws.{apart-roll, has-moved}
use Rattle.scr_book.proofs.RollLists.{lists-moved, moves-own, stands-by}
use Rattle.scr_book.proofs.RollSettled.{same-table, table-cases}
use Rattle.scr_book.proofs.RollSteps.{seated-in}
use Rattle.scr_book.proofs.RollsBack.{listed-in}
use Rattle.scr_book.proofs.RollsStill.{once-in}
use Rattle.scr_nodes.specs.declared.node.Direction.TheVariants as directions
use Rattle.scr_nodes.specs.declared.node.Node.{Node}
use Rattle.scr_nodes.specs.declared.node.Node.TheVariants as nodes
use Rattle.scr_nodes.specs.declared.node.OfFund.TheVariants as of_funds
use Rattle.scr_nodes.specs.declared.node.OfGroup.TheVariants as of_groups
use Rattle.scr_nodes.specs.declared.node.OfLiability.TheVariants as of_liabilities
use Rattle.scr_nodes.specs.declared.node.OfSecurity.TheVariants as of_securities
use Rattle.scr_figure_ids.specs.Numbers.{IsNumbered, StandsAt, is_of_sheet}
use Rattle.scr_figure_ids.specs.Numbers as figures
use Rattle.scr_figure_ids.specs.Records.{step_of}
use Rattle.scr_figure_ids.specs.Steps.{IsRowLess, IsRowMore, LeadsTo, Takes}
use Rattle.scr_figure_ids.specs.declared.steps.Step.{Step}
use Rattle.scr_figure_ids.specs.declared.steps.Step.TheVariants as steps
use Rattle.scr_figure_ids.proofs.Live.{named-once}
use Rattle.scr_figure_ids.proofs.Moved.{step-keeps, step-numbered}
use Rattle.scr_figure_ids.proofs.Recorded.{record-leads}
use Rattle.scr_member_index.specs.Following.{AreFollowed, CanFollow, CanMove}
use Rattle.scr_member_index.specs.Lists.{AreListsOf, HasLists, first_of, firsts_at, list_in, ranges_of, table_place}
use Rattle.scr_member_index.specs.Parting.{HasMoreParts}
use Rattle.scr_member_index.specs.Standing.{first_in, move_of, moved_from, seats_in, stood_of}
use Rattle.scr_member_index.specs.declared.lists.Lists.{Lists}
use Rattle.scr_member_index.specs.declared.standing.Move.{Move}
use Rattle.scr_member_index.specs.declared.standing.Stood.{Stood}
use Rattle.scr_member_index.proofs.Counting.{table-apart}

-- ---- rows of parts, which no record moves

more-not_part : (table : Ranged) (s t : BalanceSheet) → IsRowMore table s t → is_one table ranged.Part ≡ false
more-not_part table s t more = by (cases_Bool (is_one table ranged.Part))
  where
    by : (is_one table ranged.Part ≡ true) ⊎ (is_one table ranged.Part ≡ false) → is_one table ranged.Part ≡ false
    by (inl e) =
        let own : IsRowMore ranged.Part s t = subst (λ (T : Ranged). IsRowMore T s t) (same_table-is table ranged.Part e) more in
        let long = ap length own.rows in
        absurd (omega (arith, long))
    by (inr f) = f

less-not_part : (table : Ranged) (k : ℕ) (s t : BalanceSheet) → IsRowLess table k s t → is_one table ranged.Part ≡ false
less-not_part table k s t less = by (cases_Bool (is_one table ranged.Part))
  where
    by : (is_one table ranged.Part ≡ true) ⊎ (is_one table ranged.Part ≡ false) → is_one table ranged.Part ≡ false
    by (inl e) =
        let own : IsRowLess ranged.Part k s t = subst (λ (T : Ranged). IsRowLess T k s t) (same_table-is table ranged.Part e) less in
        let place = own.place in
        absurd (omega (arith, place))
    by (inr f) = f

part-rows-stay : (step : Step) (s t : BalanceSheet) (old now : Ranges) → LeadsTo step s t → Takes step old now → count now ranged.Part ≡ count old ranged.Part
part-rows-stay steps.Stays s t old now leads takes = ap (λ (places : Ranges). count places ranged.Part) takes
part-rows-stay (steps.Comes table) s t old now leads takes = takes.others.counts ranged.Part (more-not_part table s t leads)
part-rows-stay (steps.Goes table k) s t old now leads takes = takes.others.counts ranged.Part (less-not_part table k s t leads)

-- ---- the number of a row by its name

-- a name stands at its first place
at-position : (x : List ℕ) (names : List (List ℕ)) → IsDistinct same_name names → has x names ≡ true → slice_get names (position_or_len (same_name x) names) ≡ Some x
at-position x names apart there =
    let at = at-has x names there in
    ap (slice_get names) (place-of names at.0 x apart at.1 at.2) ∙ got names at.0 x at.1 at.2
  where
    got : (names : List (List ℕ)) (k : ℕ) (x : List ℕ) → k < length names → get_or names k [] ≡ x → slice_get names k ≡ Some x
    got names k x low is = slice_get-get_or names k [] low ∙ ap Some is

-- the first figure of a row, which has the row's first number
abbrev first-figure : Table → List ℕ → Node
first-figure tables.Security x = nodes.Security x of_securities.Total
first-figure tables.Liability x = nodes.Liability x (of_liabilities.Rate directions.Up)
first-figure tables.Fund x = nodes.Fund x of_funds.Total
first-figure table x = nodes.Group x of_groups.Total

module _ (sheet : BalanceSheet) (places : Ranges) (valid : Valid sheet) (numbered : IsNumbered sheet places) (x : List ℕ) where
  row-at : (table : Ranged) (names : List (List ℕ)) → is_of_sheet table ≡ true → names ≡ figures.names_in sheet table → IsDistinct same_name names → has x names ≡ true
      → IsAt places table (position_or_len (same_name x) names) 0 (first places table (position_or_len (same_name x) names))
  row-at table names of same apart there = record {
    row = (
        let low = slice_get_within names (position_or_len (same_name x) names) x (at-position x names apart there) in
        let long = ap length same in
        let rows = numbered.rows table of in
        omega (arith, low, long, rows));
    family = stride-some table;
    is = omega arith;
  }

  pub stands-first : (table : Table) → HasLists table → has x (names_in table sheet) ≡ true → StandsAt sheet places (first-figure table x) (first_of sheet places table x)
  stands-first tables.Security own there = record {
    k = position_or_len (same_name x) (names_in tables.Security sheet);
    row = at-position x (names_in tables.Security sheet) (once-in tables.Security sheet valid refl) there;
    at = row-at ranged.Security (names_in tables.Security sheet) refl refl (once-in tables.Security sheet valid refl) there;
  }
  stands-first tables.Liability own there = record {
    k = position_or_len (same_name x) (names_in tables.Liability sheet);
    row = at-position x (names_in tables.Liability sheet) (once-in tables.Liability sheet valid refl) there;
    at = row-at ranged.Liability (names_in tables.Liability sheet) refl refl (once-in tables.Liability sheet valid refl) there;
  }
  stands-first tables.Fund own there = record {
    k = position_or_len (same_name x) (names_in tables.Fund sheet);
    row = at-position x (names_in tables.Fund sheet) (once-in tables.Fund sheet valid refl) there;
    at = row-at ranged.Fund (names_in tables.Fund sheet) refl refl (once-in tables.Fund sheet valid refl) there;
  }
  stands-first tables.Group own there = record {
    k = position_or_len (same_name x) (names_in tables.Group sheet);
    row = at-position x (names_in tables.Group sheet) (once-in tables.Group sheet valid refl) there;
    at = row-at ranged.Group (names_in tables.Group sheet) refl refl (once-in tables.Group sheet valid refl) there;
  }
  stands-first tables.Bank own there = absurd (cc)
  stands-first tables.Rein own there = absurd (cc)
  stands-first tables.Curve own there = absurd (cc)

off-parts : (table : Table) → is_one ranged.Part (ranges_of table) ≡ false
off-parts tables.Security = refl
off-parts tables.Liability = refl
off-parts tables.Fund = refl
off-parts table = refl

-- tables with lists are told apart by their places
abbrev table-at : ℕ → Table
table-at n = if nat_lt n 1 then tables.Security else (if nat_lt n 2 then tables.Liability else (if nat_lt n 3 then tables.Fund else tables.Group))

table-back : (table : Table) → HasLists table → table-at (table_place table) ≡ table
table-back tables.Security own = refl
table-back tables.Liability own = refl
table-back tables.Fund own = refl
table-back tables.Group own = refl
table-back tables.Bank own = absurd (cc)
table-back tables.Rein own = absurd (cc)
table-back tables.Curve own = absurd (cc)

-- numbers beside names that keep them
map-kept : (f g : List ℕ → ℕ) (names : List (List ℕ)) → ((y : List ℕ) → has y names ≡ true → f y ≡ g y) → map f names ≡ map g names
map-kept f g [] same = refl
map-kept f g (name ∷ names) same =
    ap₂ (λ (n : ℕ) (ns : List ℕ). n ∷ ns) (same name (has-at name (name ∷ names) 0 (omega arith) refl))
    (map-kept f g names (λ y there. same y (later y there)))
  where
    later : (y : List ℕ) → has y names ≡ true → has y (name ∷ names) ≡ true
    later y there = let at = at-has y names there in has-at y (name ∷ names) (at.0 + 1) (let low = at.1 in omega (arith, low)) (next at.0 ∙ at.2)
      where
        next : (k : ℕ) → get_or (name ∷ names) (k + 1) [] ≡ get_or names k []
        next k = let one : k + 1 ≡ suc k = omega arith in ap (λ n. get_or (name ∷ names) n []) one

-- ---- seats

-- a member of a list has a row
listed : (names : List (List ℕ)) (seated : Seated) → AreSeated names seated → (n : ℕ) (y : List ℕ) → has y (names_of n seated.rolls) ≡ true → has y names ≡ true
listed names seated h n y there = by (has y names) refl
  where
    by : (t : Bool) → has y names ≡ t → has y names ≡ true
    by true e = e
    by false e = let never : false ≡ true = sym (never-member names seated y h e n) ∙ there in absurd (cc)

-- the seats that are told of a row are those of its name
seats-told : (table : Table) (own : HasLists table) (book : RolledSheet) → AreRollsOf book.sheet book.rolls → (x : List ℕ)
    → seats_in table x book ≡ seats_of (names_in table book.sheet) (seated_in table book.rolls).seats x
seats-told table own book kept x = by (is_in table x book.sheet) refl
  where
    mine : Seats
    mine = seats_of (names_in table book.sheet) (seated_in table book.rolls).seats x

    by : (t : Bool) → is_in table x book.sheet ≡ t → (if t then mine else free) ≡ mine
    by true e = refl
    by false e =
        sym (seats-none (names_in table book.sheet) (seated_in table book.rolls).seats x (seated-in table book.sheet book.rolls own (kept.seated table)).beside
        (sym (listed-in table x book.sheet) ∙ e))

-- ---- a record that a book has taken, with the numbers of rows a step on

pub record IsStepped (edit : Edit) (before after : RolledSheet) (old now : Ranges) : Type 0 where
  pub valid : Valid before.sheet
  pub later : Valid after.sheet
  pub sheet : after.sheet ≡ applied edit before.sheet
  pub was : AreRollsOf before.sheet before.rolls
  pub is : AreRollsOf after.sheet after.rolls
  pub rolls : AreRolled edit before after
  pub numbers : KeepsNumbers before.rolls after.rolls
  pub numbered : IsNumbered before.sheet old
  pub takes : Takes (step_of edit before.sheet) old now

module _ (edit : Edit) (before after : RolledSheet) (old now : Ranges) (h : IsStepped edit before after old now) where
  abbrev pub x : List ℕ
  x = edit_name edit

  pub numbered-then : IsNumbered after.sheet now
  numbered-then =
      subst (λ (s : BalanceSheet). IsNumbered s now) (sym h.sheet)
      (step-numbered (step_of edit before.sheet) before.sheet (applied edit before.sheet) old now (record-leads edit before.sheet) h.takes h.numbered)

  pub figures-keep : (node : Node) (n m : ℕ) → StandsAt before.sheet old node n → StandsAt after.sheet now node m → n ≡ m
  figures-keep node n m one two =
      step-keeps (step_of edit before.sheet) before.sheet (applied edit before.sheet) old now (record-leads edit before.sheet) h.takes
      (named-once before.sheet h.valid) (named-once (applied edit before.sheet) (subst Valid h.sheet h.later)) node n m one
      (subst (λ (s : BalanceSheet). StandsAt s now node m) h.sheet two)

  -- a row that is there before and after keeps its first number
  pub first-kept : (table : Table) → HasLists table → (y : List ℕ) → has y (names_in table before.sheet) ≡ true → has y (names_in table after.sheet) ≡ true
      → first_of after.sheet now table y ≡ first_of before.sheet old table y
  first-kept table own y there here =
      sym (figures-keep (first-figure table y) (first_of before.sheet old table y) (first_of after.sheet now table y)
      (stands-first before.sheet old h.valid h.numbered y table own there) (stands-first after.sheet now h.later numbered-then y table own here))

  lists : AreListsMoved edit before after
  lists = lists-moved edit before after h.later h.sheet h.was h.is h.rolls h.numbers

  seated-was : (table : Table) → HasLists table → AreSeated (names_in table before.sheet) (seated_in table before.rolls)
  seated-was table own = seated-in table before.sheet before.rolls own (h.was.seated table)

  seated-is : (table : Table) → HasLists table → AreSeated (names_in table after.sheet) (seated_in table after.rolls)
  seated-is table own = seated-in table after.sheet after.rolls own (h.is.seated table)

  abbrev pub former : Table → ℕ → List (List ℕ)
  former table n = names_of n (numbered_in table before)

  abbrev pub present : Table → ℕ → List (List ℕ)
  present table n = names_of n (numbered_in table after)

  abbrev pub seat-of : Table → ℕ → ℕ
  seat-of table n = seat_of n (numbered_in table after)

  -- where the row stood, and stands
  abbrev pub sat : Table → Seats
  sat table = seats_of (names_in table before.sheet) (seated_in table before.rolls).seats x

  abbrev pub sits : Table → Seats
  sits table = seats_of (names_in table after.sheet) (seated_in table after.rolls).seats x

  abbrev pub a-move : Table → (was is : Seats) → ℕ → Move
  a-move table was is first = record { table = table; before = was; after = is; first = first }

  abbrev pub a-stood : Table → Stood
  a-stood table = record { table = table; name = x; seats = seats_in table x before; first = first_in table x before old }

  -- what the record does to the row
  pub record IsMoveOf (move : Move) : Type 0 where
    pub table : Table
    pub of : moves_in edit ≡ Some table
    pub first : ℕ
    pub told : a-move table (sat table) (sits table) first ≡ move
    pub here : is_in table x after.sheet ≡ true → first ≡ first_of after.sheet now table x
    pub gone : is_in table x after.sheet ≡ false → (is_in table x before.sheet ≡ true) × (first ≡ first_of before.sheet old table x)

  -- the row neither was there nor is
  pub record IsNoMove : Type 0 where
    pub was-not : (table : Table) → moves_in edit ≡ Some table → is_in table x before.sheet ≡ false
    pub is-not : (table : Table) → moves_in edit ≡ Some table → is_in table x after.sheet ≡ false

  abbrev pub Told : Option Move → Type 0
  Told None = IsNoMove
  Told (Some move) = IsMoveOf move

  abbrev pub told-as : Table → ℕ → Move
  told-as table first = a-move table (seats_in table x before) (seats_in table x after) first

  pub told-move : Told (move_of (stood_of edit before old) after now)
  told-move = by (moves_in edit) refl
    where
      moving : Option Table → Option Move
      moving found = option_and_then (moved_from after now) (option_map a-stood found)

      is-move : (table : Table) → moves_in edit ≡ Some table → (first : ℕ) → (is_in table x after.sheet ≡ true → first ≡ first_of after.sheet now table x)
          → (is_in table x after.sheet ≡ false → (is_in table x before.sheet ≡ true) × (first ≡ first_of before.sheet old table x)) → IsMoveOf (told-as table first)
      is-move table of first here gone = record {
        table = table;
        of = of;
        first = first;
        told = ap₂ (λ (s t : Seats). a-move table s t first) (sym (seats-told table (moves-own edit table of) before h.was x))
            (sym (seats-told table (moves-own edit table of) after h.is x));
        here = here;
        gone = gone;
      }

      no-table : moves_in edit ≡ None → (table : Table) → moves_in edit ≡ Some table → ⊥
      no-table none table some = no-some (sym none ∙ some)

      one-table : (table : Table) → moves_in edit ≡ Some table → (other : Table) → moves_in edit ≡ Some other → table ≡ other
      one-table table of other also = one-some (sym of ∙ also)

      was-in : (table : Table) → moves_in edit ≡ Some table → is_in table x after.sheet ≡ false → (t : Bool) → is_in table x before.sheet ≡ t
          → Told (option_map (told-as table) (if t then Some (first_of before.sheet old table x) else None))
      was-in table of out true there = is-move table of (first_of before.sheet old table x) (λ e. let never : true ≡ false = sym e ∙ out in absurd (cc)) (λ e. (there, refl))
      was-in table of out false none = record {
        was-not = λ other also. subst (λ (t : Table). is_in t x before.sheet ≡ false) (one-table table of other also) none;
        is-not = λ other also. subst (λ (t : Table). is_in t x after.sheet ≡ false) (one-table table of other also) out;
      }

      is-in : (table : Table) → moves_in edit ≡ Some table → (t : Bool) → is_in table x after.sheet ≡ t
          → Told (option_map (told-as table) (if t then (if t then Some (first_of after.sheet now table x) else None) else first_in table x before old))
      is-in table of true here = is-move table of (first_of after.sheet now table x) (λ e. refl) (λ e. let never : true ≡ false = sym here ∙ e in absurd (cc))
      is-in table of false out = was-in table of out (is_in table x before.sheet) refl

      by : (found : Option Table) → moves_in edit ≡ found → Told (moving (moves_in edit))
      by None none = subst (λ (o : Option Table). Told (moving o)) (sym none) (record {
        was-not = λ table some. absurd (no-table none table some);
        is-not = λ table some. absurd (no-table none table some);
      })
      by (Some table) of = subst (λ (o : Option Table). Told (moving o)) (sym of) (is-in table of (is_in table x after.sheet) refl)

  -- ---- the row's lists, before and after

  module _ (table : Table) (of : moves_in edit ≡ Some table) where
    own : HasLists table
    own = moves-own edit table of

    -- a list in which somebody stood has its members in the same seat
    same-seat : (n : ℕ) (y : List ℕ) → has y (former table n) ≡ true → seat-of table n ≡ seat_of n (numbered_in table before)
    same-seat n y there = lists.seats table n y there

    -- the lists of its seats have their members in them
    stood-there : (seat : ℕ) → roll_in seat (sat table) ≢ NOWHERE → has x (former table (roll_in seat (sat table))) ≡ true
    stood-there seat some =
        let at = (seated-was table own).there x seat some in
        has-at x (former table (roll_in seat (sat table))) (place_in seat (sat table)) at.within at.named

    seats-before : AreSeatsOf (seat-of table) (sat table)
    seats-before seat low some = same-seat (roll_in seat (sat table)) x (stood-there seat some) ∙ ((seated-was table own).there x seat some).own

    seats-after : AreSeatsOf (seat-of table) (sits table)
    seats-after seat low some = ((seated-is table own).there x seat some).own

    few-seats : (n : ℕ) → seat-of table n < 11
    few-seats n = (seated-is table own).seats n

    -- the row stood in a list as its seats say
    stood-by : (n : ℕ) → n ≢ NOWHERE → eqb (roll_in (seat-of table n) (sat table)) n ≡ has x (former table n)
    stood-by n some = by (has x (former table n)) refl (eqb (roll_in (seat-of table n) (sat table)) n) refl
      where
        by : (t : Bool) → has x (former table n) ≡ t → (u : Bool) → eqb (roll_in (seat-of table n) (sat table)) n ≡ u → u ≡ t
        by true e true d = refl
        by false e false d = refl
        by true e false d =
            let here = stands-by (names_in table before.sheet) (seated_in table before.rolls) x (seated-was table own) (once-in table before.sheet h.valid own) n some in
            let never : true ≡ false = sym e ∙ sym here ∙ ap (λ s. eqb (roll_in s (sat table)) n) (sym (same-seat n x e)) ∙ d in
            absurd (cc)
        by false e true d =
            let at : roll_in (seat-of table n) (sat table) ≡ n = (Decides-eqb (roll_in (seat-of table n) (sat table)) n).0 d in
            let there = (seated-was table own).there x (seat-of table n) (λ z. some (sym at ∙ z)) in
            let member : has x (names_of (roll_in (seat-of table n) (sat table)) (numbered_in table before)) ≡ true =
            has-at x (names_of (roll_in (seat-of table n) (sat table)) (numbered_in table before)) (place_in (seat-of table n) (sat table)) there.within there.named in
            let never : true ≡ false = sym member ∙ ap (λ m. has x (former table m)) at ∙ e in
            absurd (cc)

    stands-now : (n : ℕ) → n ≢ NOWHERE → eqb (roll_in (seat-of table n) (sits table)) n ≡ has x (present table n)
    stands-now n some = stands-by (names_in table after.sheet) (seated_in table after.rolls) x (seated-is table own) (once-in table after.sheet h.later own) n some

    moves : (n : ℕ) → n ≢ NOWHERE → present table n ≡ moved x (has x (former table n)) (has x (present table n)) (former table n)
    moves n some = lists.own table of n some ∙ ap (λ b. moved x (has x (former table n)) b (former table n)) (stands-now n some)

    nobody-past : (n : ℕ) → n ≡ NOWHERE → (former table n ≡ []) × (present table n ≡ [])
    nobody-past n e = (
      (let few = (seated-was table own).few in names-past n (numbered_in table before) (omega (arith, few, e))),
      (let few = (seated-is table own).few in names-past n (numbered_in table after) (omega (arith, few, e))),
    )

    -- in a seat in which it comes to a list it comes last
    came-last : (seat : ℕ) → roll_in seat (sits table) ≢ NOWHERE → roll_in seat (sat table) ≢ roll_in seat (sits table)
        → place_in seat (sits table) ≡ length (former table (roll_in seat (sits table)))
    came-last seat some apart = last (has x (former table n)) refl
      where
        n : ℕ
        n = roll_in seat (sits table)

        at : Stands (numbered_in table after) x seat n (place_in seat (sits table))
        at = (seated-is table own).there x seat some

        here : has x (present table n) ≡ true
        here = has-at x (present table n) (place_in seat (sits table)) at.within at.named

        last : (t : Bool) → has x (former table n) ≡ t → place_in seat (sits table) ≡ length (former table n)
        last true e =
            let there : eqb (roll_in (seat-of table n) (sat table)) n ≡ true = stood-by n some ∙ e in
            absurd (apart (ap (λ s. roll_in s (sat table)) (sym at.own) ∙ (Decides-eqb (roll_in (seat-of table n) (sat table)) n).0 there))
        last false e =
            let comes : present table n ≡ come x (former table n) =
            moves n some ∙ ap (λ b. moved x b (has x (present table n)) (former table n)) e ∙ ap (λ b. moved x false b (former table n)) here in
            let long : length (present table n) ≡ length (former table n) + 1 = ap length comes ∙ length_push (former table n) x in
            let named : name_at (length (former table n)) (present table n) ≡ x =
            ap (name_at (length (former table n))) comes ∙ get_or_at (former table n) x [] [] (length (former table n)) refl in
            ap (λ s. place_in s (sits table)) (sym at.own)
            ∙ ap (λ y. place_in (seat-of table n) (seats_of (names_in table after.sheet) (seated_in table after.rolls).seats y)) (sym named)
            ∙ (seated-is table own).placed n (length (former table n)) (omega (arith, long))

  -- ---- the lists can follow

  module _ (all : Lists) (are : AreListsOf before old all) where
    firsts-long : (table : Table) → HasLists table → (n : ℕ) → length (firsts_in n (firsts_at table all)) ≡ length (former table n)
    firsts-long table own n = ap length (are.firsts table own n) ∙ length-map (former table n) (first_of before.sheet old table)

    can-move : (table : Table) (of : moves_in edit ≡ Some table) (first : ℕ) → (is_in table x after.sheet ≡ true → first ≡ first_of after.sheet now table x)
        → (is_in table x after.sheet ≡ false → (is_in table x before.sheet ≡ true) × (first ≡ first_of before.sheet old table x))
        → CanMove (a-move table (sat table) (sits table) first) (firsts_at table all) all.parts
    can-move table of first here gone = record {
      seat_of = seat-of table;
      few = few-seats table of;
      before = seats-before table of;
      after = seats-after table of;
      there = λ seat low some apart. (
          let at = (seated-was table has_lists).there x seat some in
          let within = at.within in
          let long = firsts-long table has_lists (roll_in seat (sat table)) in
          omega (arith, within, long));
      own = λ seat low some apart. (
          let at = (seated-was table has_lists).there x seat some in
          ap (first_at (place_in seat (sat table))) (are.firsts table has_lists (roll_in seat (sat table)))
          ∙ get_or-map (first_of before.sheet old table) (former table (roll_in seat (sat table))) (place_in seat (sat table)) [] 0 at.within
          ∙ ap (first_of before.sheet old table) at.named ∙ sym (first-is (roll_in seat (sat table)) (stood-there table of seat some) (is_in table x after.sheet) refl));
      place = λ seat low some apart. came-last table of seat some apart ∙ sym (firsts-long table has_lists (roll_in seat (sits table)));
      parts = λ n level. are.parts table has_lists n level ∙ ap (λ m. blocks_at m level) (sym (firsts-long table has_lists n));
    }
      where
        has_lists : HasLists table
        has_lists = moves-own edit table of

        first-is : (n : ℕ) → has x (former table n) ≡ true → (t : Bool) → is_in table x after.sheet ≡ t → first ≡ first_of before.sheet old table x
        first-is n there true e =
            here e ∙ first-kept table has_lists x (listed (names_in table before.sheet) (seated_in table before.rolls) (seated-was table has_lists) n x there)
            (sym (listed-in table x after.sheet) ∙ e)
        first-is n there false e = (gone e).1

    pub can-follow : (move : Move) → IsMoveOf move → CanFollow move all
    can-follow move m =
        subst (λ (v : Move). CanFollow v all) m.told (moves-own edit m.table m.of, can-move m.table m.of m.first m.here m.gone)

  -- ---- the lists have followed

  -- who is in a list of the record's table then
  member-then : (table : Table) (of : moves_in edit ≡ Some table) (n : ℕ) → n ≢ NOWHERE → (y : List ℕ)
      → has y (present table n) ≡ (if same_name x y then has x (present table n) else has y (former table n))
  member-then table of n some y =
      ap (has y) (moves table of n some)
      ∙ has-moved x y (has x (present table n)) (former table n)
      (apart-roll (names_in table before.sheet) (seated_in table before.rolls) (seated-was table (moves-own edit table of)) n)

  -- nobody moves in a table that is not the record's
  still-elsewhere : (table : Table) → (moves_in edit ≡ Some table → ⊥) → (n : ℕ) → present table n ≡ former table n
  still-elsewhere table apart n = lists.elsewhere table apart n

  -- a record moves in this table, or it does not
  moves-or-not : (table : Table) → HasLists table → (moves_in edit ≡ Some table) ⊎ (moves_in edit ≡ Some table → ⊥)
  moves-or-not table own = by (moves_in edit) refl
    where
      by : (found : Option Table) → moves_in edit ≡ found → (moves_in edit ≡ Some table) ⊎ (moves_in edit ≡ Some table → ⊥)
      by None e = inr (λ some. no-some (sym e ∙ some))
      by (Some other) e =
          table-cases other table
          (λ same. inl (e ∙ ap Some (same-table other table same)))
          (λ apart. inr (λ some.
          let one : other ≡ table = one-some (sym e ∙ some) in
          let never : true ≡ false = sym own ∙ ap (λ (t : Table). same_table t table) (sym one) ∙ apart in
          absurd (cc)))

  -- nor where the row neither was there nor is
  nothing-moves : IsNoMove → (table : Table) → HasLists table → (n : ℕ) → present table n ≡ former table n
  nothing-moves none table own n = by (moves-or-not table own) (cases_eq n NOWHERE)
    where
      out : (book : RolledSheet) → AreRollsOf book.sheet book.rolls → is_in table x book.sheet ≡ false → has x (names_of n (numbered_in table book)) ≡ false
      out book kept absent =
          never-member (names_in table book.sheet) (seated_in table book.rolls) x (seated-in table book.sheet book.rolls own (kept.seated table))
          (sym (listed-in table x book.sheet) ∙ absent) n

      by : (moves_in edit ≡ Some table) ⊎ (moves_in edit ≡ Some table → ⊥) → (n ≡ NOWHERE) ⊎ (n ≢ NOWHERE) → present table n ≡ former table n
      by (inr apart) at = still-elsewhere table apart n
      by (inl of) (inl e) = let nobody = nobody-past table of n e in nobody.1 ∙ sym nobody.0
      by (inl of) (inr some) =
          moves table of n some
          ∙ ap (λ b. moved x b (has x (present table n)) (former table n)) (out before h.was (none.was-not table of))
          ∙ ap (λ b. moved x false b (former table n)) (out after h.is (none.is-not table of))

  module _ (all : Lists) (are : AreListsOf before old all) (later : Ranges) (more : HasMoreParts now later) where
    abbrev was-first : Table → List ℕ → ℕ
    was-first table = first_of before.sheet old table

    abbrev is-first : Table → List ℕ → ℕ
    is-first table = first_of after.sheet later table

    -- first numbers stay while parts come
    still-first : (table : Table) (y : List ℕ) → first_of after.sheet later table y ≡ first_of after.sheet now table y
    still-first table y = more.others.firsts (ranges_of table) (off-parts table) (position_or_len (same_name y) (names_in table after.sheet))

    same-first : (table : Table) → HasLists table → (n : ℕ) (y : List ℕ) → has y (former table n) ≡ true → has y (present table n) ≡ true → was-first table y ≡ is-first table y
    same-first table own n y there here =
        sym (still-first table y
        ∙ first-kept table own y (listed (names_in table before.sheet) (seated_in table before.rolls) (seated-was table own) n y there)
        (listed (names_in table after.sheet) (seated_in table after.rolls) (seated-is table own) n y here))

    -- beside a list in which nobody moves stand the numbers that stood there
    beside-still : (table : Table) → HasLists table → (n : ℕ) → present table n ≡ former table n
        → firsts_in n (firsts_at table all) ≡ map (is-first table) (present table n)
    beside-still table own n same =
        are.firsts table own n
        ∙ map-kept (was-first table) (is-first table) (former table n) (λ y there. same-first table own n y there (ap (has y) same ∙ there))
        ∙ ap (map (is-first table)) (sym same)

    module _ (table : Table) (of : moves_in edit ≡ Some table) (first : ℕ) (here : is_in table x after.sheet ≡ true → first ≡ first_of after.sheet now table x)
        (then_firsts : FirstLists) (followed : HasFollowed (seat-of table) (sat table) (sits table) first (firsts_at table all) then_firsts) where
      list-own : HasLists table
      list-own = moves-own edit table of

      -- what a list of the table has come to, by whether the row stood there and stands there
      beside-moved : (n : ℕ) → n ≢ NOWHERE → (t u : Bool) → has x (former table n) ≡ t → has x (present table n) ≡ u
          → firsts_in n then_firsts
          ≡ reseated first (if t then Some (place_in (seat-of table n) (sat table)) else None) (if u then Some (place_in (seat-of table n) (sits table)) else None)
          (map (was-first table) (former table n))
      beside-moved n some t u e d =
          followed.lists n some (few-seats table of n)
          ∙ ap₂ (λ (a b : Option ℕ). reseated first a b (firsts_in n (firsts_at table all)))
          (ap (λ b. if b then Some (place_in (seat-of table n) (sat table)) else None) (stood-by table of n some ∙ e))
          (ap (λ b. if b then Some (place_in (seat-of table n) (sits table)) else None) (stands-now table of n some ∙ d))
          ∙ ap (reseated first (if t then Some (place_in (seat-of table n) (sat table)) else None) (if u then Some (place_in (seat-of table n) (sits table)) else None))
          (are.firsts table list-own n)

      names-moved : (n : ℕ) → n ≢ NOWHERE → (t u : Bool) → has x (former table n) ≡ t → has x (present table n) ≡ u → present table n ≡ moved x t u (former table n)
      names-moved n some t u e d =
          moves table of n some
          ∙ ap₂ (λ (a b : Bool). moved x a b (former table n)) e d

      comes : (n : ℕ) → n ≢ NOWHERE → has x (former table n) ≡ false → has x (present table n) ≡ true → firsts_in n then_firsts ≡ map (is-first table) (present table n)
      comes n some e d =
          beside-moved n some false true e d
          ∙ ap (λ b. if b then joined first beside_names else joined (first_at place beside_names) (slice_set beside_names place first)) ((Decides-eqb place (length beside_names)).1 last)
          ∙ ap (λ (ns : List ℕ). joined first ns)
          (map-kept (was-first table) (is-first table) (former table n) (λ y there. same-first table list-own n y there (stays y there)))
          ∙ ap (λ m. joined m (map (is-first table) (former table n))) own_first
          ∙ sym (beside.came (is-first table) x (former table n))
          ∙ ap (map (is-first table)) (sym (names-moved n some false true e d))
        where
          place : ℕ
          place = place_in (seat-of table n) (sits table)

          beside_names : List ℕ
          beside_names = map (was-first table) (former table n)

          sits_there : roll_in (seat-of table n) (sits table) ≡ n
          sits_there = (Decides-eqb (roll_in (seat-of table n) (sits table)) n).0 (stands-now table of n some ∙ d)

          sat_elsewhere : roll_in (seat-of table n) (sat table) ≢ roll_in (seat-of table n) (sits table)
          sat_elsewhere same =
              let there = (Decides-eqb (roll_in (seat-of table n) (sat table)) n).1 (same ∙ sits_there) in
              let never : true ≡ false = sym there ∙ stood-by table of n some ∙ e in
              absurd (cc)

          last : place ≡ length beside_names
          last =
              came-last table of (seat-of table n) (λ z. some (sym sits_there ∙ z)) sat_elsewhere
              ∙ ap (λ m. length (former table m)) sits_there ∙ sym (length-map (former table n) (was-first table))

          stays : (y : List ℕ) → has y (former table n) ≡ true → has y (present table n) ≡ true
          stays y there =
              member-then table of n some y
              ∙ same_or_other x y
              (λ one. ap (λ b. if b then has x (present table n) else has y (former table n)) one ∙ d)
              (λ other. ap (λ b. if b then has x (present table n) else has y (former table n)) other ∙ there)

          own_first : first ≡ is-first table x
          own_first =
              here (listed-in table x after.sheet ∙ listed (names_in table after.sheet) (seated_in table after.rolls) (seated-is table list-own) n x d)
              ∙ sym (still-first table x)

      leaves : (n : ℕ) → n ≢ NOWHERE → has x (former table n) ≡ true → has x (present table n) ≡ false → firsts_in n then_firsts ≡ map (is-first table) (present table n)
      leaves n some e d =
          beside-moved n some true false e d
          ∙ sym (beside.gone (was-first table) place (former table n) low)
          ∙ ap (map (was-first table)) (ap (λ k. left_of k (former table n)) (sym position) ∙ sym (names-moved n some true false e d))
          ∙ map-kept (was-first table) (is-first table) (present table n) (λ y there. same-first table list-own n y (was y there) there)
        where
          place : ℕ
          place = place_in (seat-of table n) (sat table)

          sat_there : roll_in (seat-of table n) (sat table) ≡ n
          sat_there = (Decides-eqb (roll_in (seat-of table n) (sat table)) n).0 (stood-by table of n some ∙ e)

          at : Stands (numbered_in table before) x (seat-of table n) (roll_in (seat-of table n) (sat table)) place
          at = (seated-was table list-own).there x (seat-of table n) (λ z. some (sym sat_there ∙ z))

          low : place < length (former table n)
          low = subst (λ m. place < length (former table m)) sat_there at.within

          named : name_at place (former table n) ≡ x
          named = ap (λ m. name_at place (former table m)) (sym sat_there) ∙ at.named

          position : position_or_len (same_name x) (former table n) ≡ place
          position = place-of (former table n) place x (apart-roll (names_in table before.sheet) (seated_in table before.rolls) (seated-was table list-own) n) low named

          was : (y : List ℕ) → has y (present table n) ≡ true → has y (former table n) ≡ true
          was y there = by (same_name x y) refl
            where
              by : (t : Bool) → same_name x y ≡ t → has y (former table n) ≡ true
              by true one =
                  let never : true ≡ false = sym there ∙ member-then table of n some y ∙ ap (λ b. if b then has x (present table n) else has y (former table n)) one ∙ d in
                  absurd (cc)
              by false other = sym (member-then table of n some y ∙ ap (λ b. if b then has x (present table n) else has y (former table n)) other) ∙ there

      pub beside-then : (n : ℕ) → firsts_in n then_firsts ≡ map (is-first table) (present table n)
      beside-then n = at (cases_eq n NOWHERE)
        where
          by : n ≢ NOWHERE → (t u : Bool) → has x (former table n) ≡ t → has x (present table n) ≡ u → firsts_in n then_firsts ≡ map (is-first table) (present table n)
          by some true false e d = leaves n some e d
          by some false true e d = comes n some e d
          by some true true e d =
              beside-moved n some true true e d ∙ sym (are.firsts table list-own n) ∙ beside-still table list-own n (names-moved n some true true e d)
          by some false false e d =
              beside-moved n some false false e d ∙ sym (are.firsts table list-own n) ∙ beside-still table list-own n (names-moved n some false false e d)

          at : (n ≡ NOWHERE) ⊎ (n ≢ NOWHERE) → firsts_in n then_firsts ≡ map (is-first table) (present table n)
          at (inr some) = by some (has x (former table n)) (has x (present table n)) refl refl
          at (inl e) =
              let nobody = nobody-past table of n e in
              ap (λ m. firsts_in m then_firsts) e ∙ followed.nowhere ∙ ap (λ m. firsts_in m (firsts_at table all)) (sym e)
              ∙ are.firsts table list-own n ∙ ap (map (was-first table)) nobody.0 ∙ sym (ap (map (is-first table)) nobody.1)

    -- all lists once those of the record's table have followed
    module _ (then_all : Lists) (own_parts : AreOwn then_all.parts) (rows : size_of then_all.parts ≤ count later ranged.Part) (table : Table) (of : moves_in edit ≡ Some table) (first : ℕ)
        (here : is_in table x after.sheet ≡ true → first ≡ first_of after.sheet now table x)
        (followed : AreFollowed (a-move table (sat table) (sits table) first) all then_all) where
      beside-own : (n : ℕ) → firsts_in n (firsts_at table then_all) ≡ map (is-first table) (present table n)
      beside-own = beside-then table of first here (firsts_at table then_all) (followed.own.firsts (seat-of table) (seats-before table of) (seats-after table of))

      -- tables other than the record's
      elsewhere : (other : Table) → (moves_in edit ≡ Some other → ⊥) → other ≢ table
      elsewhere other apart same = apart (of ∙ ap Some (sym same))

      place-apart : (other : Table) → HasLists other → other ≢ table → table_place other ≢ table_place table
      place-apart other own apart e = apart (sym (table-back other own) ∙ ap table-at e ∙ table-back table (moves-own edit table of))

      firsts-all : (other : Table) → HasLists other → (n : ℕ) → firsts_in n (firsts_at other then_all) ≡ map (is-first other) (present other n)
      firsts-all other own n = by (moves-or-not other own)
        where
          by : (moves_in edit ≡ Some other) ⊎ (moves_in edit ≡ Some other → ⊥) → firsts_in n (firsts_at other then_all) ≡ map (is-first other) (present other n)
          by (inl also) =
              let same : table ≡ other = one-some (sym of ∙ also) in
              subst (λ (t : Table). firsts_in n (firsts_at t then_all) ≡ map (is-first t) (present t n)) same (beside-own n)
          by (inr apart) =
              ap (firsts_in n) (followed.elsewhere other own (elsewhere other apart)) ∙ beside-still other own n (still-elsewhere other apart n)

      parts-all : (other : Table) → HasLists other → (n : ℕ) (level : Level) → count_of (list_in other n) level then_all.parts ≡ blocks_at (length (present other n)) level
      parts-all other own n level = by (moves-or-not other own)
        where
          here_parts : count_of (list_in table n) level then_all.parts ≡ blocks_at (length (present table n)) level
          here_parts =
              followed.own.parts n level
              ∙ ap (λ m. blocks_at m level) (ap length (beside-own n) ∙ length-map (present table n) (is-first table))

          by : (moves_in edit ≡ Some other) ⊎ (moves_in edit ≡ Some other → ⊥) → count_of (list_in other n) level then_all.parts ≡ blocks_at (length (present other n)) level
          by (inl also) =
              let same : table ≡ other = one-some (sym of ∙ also) in
              subst (λ (t : Table). count_of (list_in t n) level then_all.parts ≡ blocks_at (length (present t n)) level) same here_parts
          by (inr apart) =
              followed.own.others (list_in other n) (λ m. table-apart other table (place-apart other own (elsewhere other apart)) n m) level
              ∙ are.parts other own n level ∙ ap (λ (names : List (List ℕ)). blocks_at (length names) level) (sym (still-elsewhere other apart n))

      lists-moved-on : AreListsOf after later then_all
      lists-moved-on = record {
        firsts = firsts-all;
        parts = parts-all;
        rows = λ part slot there. let low = own_parts.within part slot there in omega (arith, low, rows);
      }

    -- where no row moves, all lists stay
    lists-stay : IsNoMove → AreListsOf after later all
    lists-stay none = record {
      firsts = λ table own n. beside-still table own n (nothing-moves none table own n);
      parts = λ table own n level.
          are.parts table own n level ∙ ap (λ (names : List (List ℕ)). blocks_at (length names) level) (sym (nothing-moves none table own n));
      rows = λ part slot there. (
          let low = are.rows part slot there in
          let same = part-rows-stay (step_of edit before.sheet) before.sheet (applied edit before.sheet) old now (record-leads edit before.sheet) h.takes in
          let grown = more.rows in
          omega (arith, low, same, grown));
    }

    pub lists-then : (then_all : Lists) → AreOwn then_all.parts → (found : Option Move) → Told found
        → IfSome found (λ move. AreFollowed move all then_all × (size_of then_all.parts ≤ count later ranged.Part)) → (found ≡ None → then_all ≡ all)
        → AreListsOf after later then_all
    lists-then then_all parts_own None none followed still = subst (λ (l : Lists). AreListsOf after later l) (sym (still refl)) (lists-stay none)
    lists-then then_all parts_own (Some move) m followed still =
        lists-moved-on then_all parts_own followed.1 m.table m.of m.first m.here (subst (λ (v : Move). AreFollowed v all then_all) (sym m.told) followed.0)
