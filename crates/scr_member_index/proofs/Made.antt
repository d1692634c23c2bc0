-- What stands beside the lists of a book is made from nothing.
use Rattle.std.proofs.Common.{◌≡◌, ◌≢◌, ℕ, ◌+◌, ◌≤◌, Bool, true, false, cond, nat_lt, List, [], length, map, refl, sym, ap, ap₂, subst, ◌∷◌, ◌∙◌, arith}
use Rattle.std.proofs.lemmas.List.{length-map}
use Rattle.scr_sum_tree.specs.Blocks.{blocks_at}
use Rattle.scr_sum_tree.specs.declared.blocks.Level.{Level}
use Rattle.scr_ids.specs.Moves.{Came}
use Rattle.scr_ids.specs.Ranges.{Numbered as Ranges, count, first, made, stride}
use Rattle.scr_ids.specs.declared.table.Table.{Table as Ranged}
use Rattle.scr_ids.specs.declared.table.Table.TheVariants as ranged
use Rattle.std.specs.List.{IsDistinct, position_or_len}
use Rattle.scr_tables.specs.Names.{same_name}
use Rattle.scr_member_lists.specs.Seatings.{AreSeated, Seated, names_of}
use Rattle.scr_sheet.specs.Validity.{Valid}
use Rattle.scr_book.specs.Places.{names_in}
use Rattle.scr_book.specs.Rolls.{AreRollsOf, seated_in}
use Rattle.scr_book.proofs.RollSteps.{seated-in}
use Rattle.scr_book.proofs.RollsStill.{once-in}
use Rattle.scr_sum_slots.specs.Filling.{AreFirsts}
use Rattle.scr_sum_slots.specs.Firsts.{FirstLists, firsts_in}
use Rattle.scr_sum_slots.specs.Parts.{AreOwn, Parted, count_of, key_of, slots_in, size_of}
use Rattle.scr_sheet.specs.declared.keys.Table.{Table}
use Rattle.scr_sheet.specs.declared.keys.Table.TheVariants as tables
use Rattle.scr_book.specs.RolledSheets.{RolledSheet}
use Rattle.scr_member_index.specs.Lists.{AreListsOf, HasLists, first_of, firsts_at, list_in, lists_in, ranges_of, table_place}
use Rattle.scr_member_index.specs.Parting.{AreGrown, HasMoreParts}
use Rattle.scr_member_index.specs.declared.lists.Lists.{Lists}
use Rattle.scr_member_index.proofs.Counting.{table-apart}

-- ---- rows of parts

pub no-more : (places : Ranges) → HasMoreParts places places
no-more places = record {
  others = record { counts = λ other apart. refl; ranges = λ other apart. refl; firsts = λ other apart k. refl };
  rows = omega arith;
  size = omega arith;
  firsts = λ k low. refl;
}

-- no size shrinks where a row comes
grown : (table : Ranged) (before now : Ranges) → Came table before now → before.size ≤ now.size
grown table before now came = by (nat_lt (count before table) (made before table)) came.size
  where
    by : (t : Bool) → now.size ≡ cond t before.size (before.size + stride table) → before.size ≤ now.size
    by true e = omega (arith, e)
    by false e = omega (arith, e)

pub one-more : (before mid now : Ranges) → HasMoreParts before mid → Came ranged.Part mid now → HasMoreParts before now
one-more before mid now were came = record {
  others = record {
    counts = λ other apart. came.others.counts other apart ∙ were.others.counts other apart;
    ranges = λ other apart. came.others.ranges other apart ∙ were.others.ranges other apart;
    firsts = λ other apart k. came.others.firsts other apart k ∙ were.others.firsts other apart k;
  };
  rows = let more = came.one_more in let was = were.rows in omega (arith, more, was);
  size = let more = grown ranged.Part mid now came in let was = were.size in omega (arith, more, was);
  firsts = λ k low. (
      let was = were.rows in
      let inside = came.within in
      came.firsts k (omega (arith, low, was, inside)) ∙ were.firsts k low);
}

map-same : (f g : List ℕ → ℕ) → ((name : List ℕ) → f name ≡ g name) → (names : List (List ℕ)) → map f names ≡ map g names
map-same f g same [] = refl
map-same f g same (name ∷ names) = ap₂ (λ (n : ℕ) (ns : List ℕ). n ∷ ns) (same name) (map-same f g same names)

-- what holds of each table whose rows are members
pub four-tables : (P : Table → Type 0) → P tables.Security → P tables.Liability → P tables.Fund → P tables.Group → (table : Table) → HasLists table → P table
four-tables P one two three four tables.Security has = one
four-tables P one two three four tables.Liability has = two
four-tables P one two three four tables.Fund has = three
four-tables P one two three four tables.Group has = four
four-tables P one two three four tables.Bank has = absurd (cc)
four-tables P one two three four tables.Rein has = absurd (cc)
four-tables P one two three four tables.Curve has = absurd (cc)

-- what is made for a table's rows with their seats is that of the book
pub firsts-of : (book : RolledSheet) (places : Ranges) (table : Table) → HasLists table → Valid book.sheet → AreRollsOf book.sheet book.rolls
    → (seating : Seated) → seating ≡ seated_in table book.rolls → (firsts : FirstLists)
    → ((names : List (List ℕ)) → AreSeated names seating → IsDistinct same_name names
    → AreFirsts (λ name. first places (ranges_of table) (position_or_len (same_name name) names)) seating.rolls firsts)
    → AreFirsts (first_of book.sheet places table) (lists_in table book.rolls) firsts
firsts-of book places table has valid rolls seating own firsts is =
    subst (λ (s : Seated). AreFirsts (first_of book.sheet places table) s.rolls firsts) own
    (is (names_in table book.sheet)
    (subst (AreSeated (names_in table book.sheet)) (sym own) (seated-in table book.sheet book.rolls has (rolls.seated table)))
    (once-in table book.sheet valid has))

-- ---- the parts of four tables

module _ (book : RolledSheet) (places now : Ranges) (lists : Lists) (none securities liabilities funds : Parted)
    (empty : (key : ℕ) → slots_in key none ≡ [])
    (one : AreGrown tables.Security lists.securities none securities) (two : AreGrown tables.Liability lists.liabilities securities liabilities)
    (three : AreGrown tables.Fund lists.funds liabilities funds) (four : AreGrown tables.Group lists.groups funds lists.parts) where
  no-count : (list : ℕ) (level : Level) → count_of list level none ≡ 0
  no-count list level = ap length (empty (key_of list level))

  other : (table another : Table) → table_place table ≢ table_place another → (number : ℕ) → (n : ℕ) → list_in table number ≢ list_in another n
  other table another ne number n = table-apart table another ne number n

  counted : (table : Table) → HasLists table → (number : ℕ) (level : Level)
      → count_of (list_in table number) level lists.parts ≡ blocks_at (length (firsts_in number (firsts_at table lists))) level
  counted tables.Security has number level =
      let list = list_in tables.Security number in
      let zero = no-count list level in
      let own = one.own number level in
      let then = two.others list (table-apart tables.Security tables.Liability (λ e. absurd (cc)) number) level in
      let later = three.others list (table-apart tables.Security tables.Fund (λ e. absurd (cc)) number) level in
      let last = four.others list (table-apart tables.Security tables.Group (λ e. absurd (cc)) number) level in
      omega (arith, zero, own, then, later, last)
  counted tables.Liability has number level =
      let list = list_in tables.Liability number in
      let zero = no-count list level in
      let before = one.others list (table-apart tables.Liability tables.Security (λ e. absurd (cc)) number) level in
      let own = two.own number level in
      let later = three.others list (table-apart tables.Liability tables.Fund (λ e. absurd (cc)) number) level in
      let last = four.others list (table-apart tables.Liability tables.Group (λ e. absurd (cc)) number) level in
      omega (arith, zero, before, own, later, last)
  counted tables.Fund has number level =
      let list = list_in tables.Fund number in
      let zero = no-count list level in
      let before = one.others list (table-apart tables.Fund tables.Security (λ e. absurd (cc)) number) level in
      let then = two.others list (table-apart tables.Fund tables.Liability (λ e. absurd (cc)) number) level in
      let own = three.own number level in
      let last = four.others list (table-apart tables.Fund tables.Group (λ e. absurd (cc)) number) level in
      omega (arith, zero, before, then, own, last)
  counted tables.Group has number level =
      let list = list_in tables.Group number in
      let zero = no-count list level in
      let before = one.others list (table-apart tables.Group tables.Security (λ e. absurd (cc)) number) level in
      let then = two.others list (table-apart tables.Group tables.Liability (λ e. absurd (cc)) number) level in
      let later = three.others list (table-apart tables.Group tables.Fund (λ e. absurd (cc)) number) level in
      let own = four.own number level in
      omega (arith, zero, before, then, later, own)
  counted tables.Bank has number level = absurd (cc)
  counted tables.Rein has number level = absurd (cc)
  counted tables.Curve has number level = absurd (cc)

  -- the rows of members keep their numbers while rows of parts come
  still : HasMoreParts places now → (table : Table) → HasLists table → (name : List ℕ) → first_of book.sheet now table name ≡ first_of book.sheet places table name
  still more tables.Security has name = more.others.firsts ranged.Security refl _
  still more tables.Liability has name = more.others.firsts ranged.Liability refl _
  still more tables.Fund has name = more.others.firsts ranged.Fund refl _
  still more tables.Group has name = more.others.firsts ranged.Group refl _
  still more tables.Bank has name = absurd (cc)
  still more tables.Rein has name = absurd (cc)
  still more tables.Curve has name = absurd (cc)

  pub made-of : HasMoreParts places now → size_of lists.parts ≤ count now ranged.Part → AreOwn lists.parts
      → ((table : Table) → HasLists table → AreFirsts (first_of book.sheet places table) (lists_in table book.rolls) (firsts_at table lists))
      → AreListsOf book now lists
  made-of more rows own firsts = record {
    firsts = λ table has list.
        firsts table has list
        ∙ map-same (first_of book.sheet places table) (first_of book.sheet now table) (λ name. sym (still more table has name)) (names_of list (lists_in table book.rolls));
    parts = λ table has number level.
        counted table has number level
        ∙ ap (λ n. blocks_at n level) (ap length (firsts table has number) ∙ length-map (names_of number (lists_in table book.rolls)) (first_of book.sheet places table));
    rows = λ part slot is. let low = own.within part slot is in omega (arith, low, rows);
  }
