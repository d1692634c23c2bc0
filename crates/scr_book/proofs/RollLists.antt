-- Lists by their numbers, where rolls keep theirs: one in which somebody stands is a roll's, and moves as the roll does.
use Rattle.std.proofs.Common.{◌≡◌, ◌≢◌, ◌⊎◌, inl, inr, ℕ, ◌<◌, ◌≤◌, Bool, true, false, List, [], ◌∷◌, length, eqb, Option, Some, None, refl, sym, ap, ◌∙◌, arith}
use Rattle.std.specs.Prelude.{if◌then◌else◌}
use Rattle.std.specs.List.{IsDistinct}
use Rattle.std.specs.Option.{option_map_or}
use Rattle.std.proofs.lemmas.Bool.{cases_lt}
use Rattle.std.proofs.lemmas.Bool.Decides.{Decides-eqb}
use Rattle.scr_tables.specs.Names.{same_name}
use Rattle.scr_member_lists.specs.Members.{has, moved}
use Rattle.scr_member_lists.specs.Seatings.{NOWHERE, AreSeated, Seated, names_of, roll_in, seat_of, seats_of}
use Rattle.scr_member_lists.proofs.SeatReturns.{has-at}
use Rattle.scr_member_lists.proofs.Settled.{moved-same}
use Rattle.scr_sheet.specs.Members.{edit_name, is_member, table_of}
use Rattle.scr_sheet.specs.Records.{applied}
use Rattle.scr_sheet.specs.Validity.{Valid}
use Rattle.scr_sheet.specs.declared.{sheet.BalanceSheet.BalanceSheet, edit.Edit.Edit, keys.Table.Table, roll.Roll.Roll}
use Rattle.scr_sheet.specs.declared.edit.Edit.TheVariants as edits
use Rattle.scr_sheet.specs.declared.keys.Table.TheVariants as tables
use Rattle.scr_book.specs.Places.{names_in}
use Rattle.scr_book.specs.RolledSheets.{AreListsMoved, AreListsStill, RolledSheet, numbered_in, stands_on}
use Rattle.scr_book.specs.Rolls.{AreMoved, AreNumbered, AreRollsOf, AreSame, KeepsNumbers, KeptRolls, listed, moves_in, number_of_roll, roll_of, same_table, seated_in}
use Rattle.scr_book.proofs.RollGrowth.{names-past}
use Rattle.scr_book.proofs.RollLaws.{has-by-seat}
use Rattle.scr_book.proofs.RollSettled.{same-table}
use Rattle.scr_book.proofs.RollSteps.{seated-in}
use Rattle.scr_book.proofs.RollWays.{way-fund, way-group, way-liability, way-payments, way-projected, way-security}
use Rattle.scr_book.proofs.RollsStill.{dropped-other, once-in, still-members}

-- ---- a record and tables that are not its own

-- tables that are not one
away : (one two : Table) → (two ≡ one → ⊥) → same_table one two ≡ false
away one two apart = by (same_table one two) refl
  where
    by : (t : Bool) → same_table one two ≡ t → t ≡ false
    by true e = absurd (apart (sym (same-table one two e)))
    by false e = refl

-- a record moves nobody in a roll of another table
pub members-elsewhere : (edit : Edit) (sheet : BalanceSheet) (roll : Roll) → (moves_in edit ≡ Some (table_of roll) → ⊥) → (x : List ℕ)
    → is_member roll x (applied edit sheet) ≡ is_member roll x sheet
members-elsewhere (edits.Group name kind step) sheet roll apart x =
    sym ((way-group sheet name kind step).others roll x (inl (away (table_of roll) tables.Group (λ e. apart (ap (λ t. Some t) e)))))
members-elsewhere (edits.Security name class group currency duration) sheet roll apart x =
    sym ((way-security sheet name class group currency duration).others roll x (inl (away (table_of roll) tables.Security (λ e. apart (ap (λ t. Some t) e)))))
members-elsewhere (edits.Flows name flows) sheet roll apart x =
    sym ((way-payments sheet name flows).others roll x (inl (away (table_of roll) tables.Security (λ e. apart (ap (λ t. Some t) e)))))
members-elsewhere (edits.Fund name components) sheet roll apart x =
    sym ((way-fund sheet name components).others roll x (inl (away (table_of roll) tables.Fund (λ e. apart (ap (λ t. Some t) e)))))
members-elsewhere (edits.Liability name kind currency) sheet roll apart x =
    sym ((way-liability sheet name kind currency).others roll x (inl (away (table_of roll) tables.Liability (λ e. apart (ap (λ t. Some t) e)))))
members-elsewhere (edits.LiabilityFlows name projection flows) sheet roll apart x =
    sym ((way-projected sheet name projection flows).others roll x (inl (away (table_of roll) tables.Liability (λ e. apart (ap (λ t. Some t) e)))))
members-elsewhere (edits.Remove table name) sheet roll apart x = by (same_table table table) refl
  where
    by : (t : Bool) → same_table table table ≡ t → is_member roll x (applied (edits.Remove table name) sheet) ≡ is_member roll x sheet
    by true own =
        dropped-other table name sheet roll x own
        (away (table_of roll) table (λ e. apart (ap (λ b. if b then Some table else None) own ∙ ap (λ t. Some t) e)))
    by false own = still-members (edits.Remove table name) sheet (ap (λ b. if b then Some table else None) own) roll x
members-elsewhere edit sheet roll apart x = still-members edit sheet refl roll x

-- the table of a record has rolls
pub moves-own : (edit : Edit) (table : Table) → moves_in edit ≡ Some table → same_table table table ≡ true
moves-own (edits.Group name kind step) table e = let is : tables.Group ≡ table = cc in ap (λ (t : Table). same_table t t) (sym is)
moves-own (edits.Security name class group currency duration) table e = let is : tables.Security ≡ table = cc in ap (λ (t : Table). same_table t t) (sym is)
moves-own (edits.Flows name flows) table e = let is : tables.Security ≡ table = cc in ap (λ (t : Table). same_table t t) (sym is)
moves-own (edits.Fund name components) table e = let is : tables.Fund ≡ table = cc in ap (λ (t : Table). same_table t t) (sym is)
moves-own (edits.Liability name kind currency) table e = let is : tables.Liability ≡ table = cc in ap (λ (t : Table). same_table t t) (sym is)
moves-own (edits.LiabilityFlows name projection flows) table e = let is : tables.Liability ≡ table = cc in ap (λ (t : Table). same_table t t) (sym is)
moves-own (edits.Remove of name) table e = by (same_table of of) refl e
  where
    by : (t : Bool) → same_table of of ≡ t → (if t then Some of else None) ≡ Some table → same_table table table ≡ true
    by true own some = let is : of ≡ table = cc in ap (λ (t : Table). same_table t t) (sym is) ∙ own
    by false own none = absurd (cc)
moves-own edit table e = absurd (cc)

-- ---- a list and the roll whose it is

-- a list has a member or none
who : (names : List (List ℕ)) → (names ≡ []) ⊎ ((name : List ℕ) × (has name names ≡ true))
who [] = inl refl
who (name ∷ names) = inr (name, has-at name (name ∷ names) 0 (omega arith) refl)

-- the list of a number is a roll's, before and now
record IsTold (table : Table) (number : ℕ) (old new : KeptRolls) : Type 0 where
  pub roll : Roll
  pub of : table_of roll ≡ table
  pub before : roll_of roll old ≡ names_of number (seated_in table old).rolls
  pub now : roll_of roll new ≡ names_of number (seated_in table new).rolls

told : (table : Table) (n : ℕ) (kept : KeptRolls) (roll : Roll) → table_of roll ≡ table → number_of_roll roll kept ≡ Some n → roll_of roll kept ≡ names_of n (seated_in table kept).rolls
told table n kept roll of e =
    ap (λ (o : Option ℕ). option_map_or (λ m. names_of m (listed roll kept)) o []) e ∙ ap (λ (t : Table). names_of n (seated_in t kept).rolls) of

module _ (old new : KeptRolls) (was : AreNumbered old) (is : AreNumbered new) (keeps : KeepsNumbers old new) (table : Table) (n : ℕ) where
  abbrev former : List (List ℕ)
  former = names_of n (seated_in table old).rolls

  abbrev present : List (List ℕ)
  present = names_of n (seated_in table new).rolls

  -- where nobody stood in it, its roll had no number, or the same, and no member
  nobody-then : former ≡ [] → (roll : Roll) → table_of roll ≡ table → number_of_roll roll new ≡ Some n → roll_of roll old ≡ former
  nobody-then empty roll of numbered = by (number_of_roll roll old) refl
    where
      by : (found : Option ℕ) → number_of_roll roll old ≡ found → roll_of roll old ≡ former
      by None e = ap (λ (o : Option ℕ). option_map_or (λ m. names_of m (listed roll old)) o []) e ∙ sym empty
      by (Some m) e =
          let again = keeps roll m e in
          let same : m ≡ n = cc in
          told table n old roll of (e ∙ ap (λ k. Some k) same)

  by-number : ((former ≡ []) × (present ≡ [])) ⊎ IsTold table n old new
  by-number = first (who former)
    where
      second : former ≡ [] → ((present ≡ []) ⊎ ((name : List ℕ) × (has name present ≡ true))) → ((former ≡ []) × (present ≡ [])) ⊎ IsTold table n old new
      second empty (inl none) = inl (empty, none)
      second empty (inr one) =
          let r = is.owned table n one.0 one.1 in
          inr (record { roll = r.roll; of = r.of; before = nobody-then empty r.roll r.of r.numbered; now = told table n new r.roll r.of r.numbered })

      first : ((former ≡ []) ⊎ ((name : List ℕ) × (has name former ≡ true))) → ((former ≡ []) × (present ≡ [])) ⊎ IsTold table n old new
      first (inl empty) = second empty (who present)
      first (inr one) =
          let r = was.owned table n one.0 one.1 in
          inr (record { roll = r.roll; of = r.of; before = told table n old r.roll r.of r.numbered; now = told table n new r.roll r.of (keeps r.roll n r.numbered) })

  pub seats-kept : (name : List ℕ) → has name former ≡ true → seat_of n (seated_in table new).rolls ≡ seat_of n (seated_in table old).rolls
  seats-kept name stands =
      let r = was.owned table n name stands in
      ap (λ (t : Table). seat_of n (seated_in t new).rolls) (sym r.of) ∙ (is.own r.roll n (keeps r.roll n r.numbered)).1
      ∙ sym (ap (λ (t : Table). seat_of n (seated_in t old).rolls) (sym r.of) ∙ (was.own r.roll n r.numbered).1)

-- ---- rolls that are the same

pub lists-still : (old new : RolledSheet) → AreRollsOf old.sheet old.rolls → AreRollsOf new.sheet new.rolls → AreSame old.rolls new.rolls → KeepsNumbers old.rolls new.rolls
    → AreListsStill old new
lists-still old new was is same keeps = record {
  names = λ table n. by table n (by-number old.rolls new.rolls was.numbered is.numbered keeps table n);
  seats = λ table n. seats-kept old.rolls new.rolls was.numbered is.numbered keeps table n;
}
  where
    by : (table : Table) (n : ℕ) → ((names_of n (numbered_in table old) ≡ []) × (names_of n (numbered_in table new) ≡ [])) ⊎ IsTold table n old.rolls new.rolls
        → names_of n (numbered_in table new) ≡ names_of n (numbered_in table old)
    by table n (inl none) = none.1 ∙ sym none.0
    by table n (inr t) = sym t.now ∙ same t.roll ∙ t.before

-- ---- rolls that a record moves

-- the row of a name stands in a list as its seats say
pub stands-by : (names : List (List ℕ)) (seated : Seated) (x : List ℕ) → AreSeated names seated → IsDistinct same_name names → (n : ℕ) → n ≢ NOWHERE
    → eqb (roll_in (seat_of n seated.rolls) (seats_of names seated.seats x)) n ≡ has x (names_of n seated.rolls)
stands-by names seated x h apart n some = at (cases_lt n (length seated.rolls))
  where
    at : ((n < length seated.rolls) ⊎ (length seated.rolls ≤ n)) → eqb (roll_in (seat_of n seated.rolls) (seats_of names seated.seats x)) n ≡ has x (names_of n seated.rolls)
    at (inl inside) = sym (has-by-seat names seated x h apart n inside)
    at (inr past) = by (eqb (roll_in (seat_of n seated.rolls) (seats_of names seated.seats x)) n) refl ∙ sym (ap (has x) (names-past n seated.rolls past))
      where
        by : (t : Bool) → eqb (roll_in (seat_of n seated.rolls) (seats_of names seated.seats x)) n ≡ t → t ≡ false
        by false e = refl
        by true e =
            let here : roll_in (seat_of n seated.rolls) (seats_of names seated.seats x) ≡ n = (Decides-eqb (roll_in (seat_of n seated.rolls) (seats_of names seated.seats x)) n).0 e in
            let inside = (h.there x (seat_of n seated.rolls) (λ z. some (sym here ∙ z))).numbered in
            absurd (omega (arith, inside, here, past))

module _ (edit : Edit) (old new : RolledSheet) (valid : Valid new.sheet) (after : new.sheet ≡ applied edit old.sheet) (was : AreRollsOf old.sheet old.rolls) (is : AreRollsOf new.sheet new.rolls)
    (moves : AreMoved edit old.sheet old.rolls new.rolls) (keeps : KeepsNumbers old.rolls new.rolls) where
  abbrev x : List ℕ
  x = edit_name edit

  abbrev Told : Table → ℕ → Type 0
  Told table n = ((names_of n (numbered_in table old) ≡ []) × (names_of n (numbered_in table new) ≡ [])) ⊎ IsTold table n old.rolls new.rolls

  -- by who is a member before and after
  moves-at : (table : Table) (n : ℕ) → Told table n
      → names_of n (numbered_in table new) ≡ moved x (has x (names_of n (numbered_in table old))) (has x (names_of n (numbered_in table new))) (names_of n (numbered_in table old))
  moves-at table n (inl none) =
      none.1
      ∙ sym (ap (λ (names : List (List ℕ)). moved x (has x names) (has x (names_of n (numbered_in table new))) names) none.0
      ∙ ap (λ (names : List (List ℕ)). moved x false (has x names) []) none.1)
  moves-at table n (inr t) =
      sym t.now ∙ moves t.roll
      ∙ ap (λ b. moved x b (is_member t.roll x (applied edit old.sheet)) (roll_of t.roll old.rolls)) (sym (was.members t.roll x))
      ∙ ap (λ b. moved x (has x (roll_of t.roll old.rolls)) b (roll_of t.roll old.rolls)) (sym (is.members t.roll x ∙ ap (is_member t.roll x) after))
      ∙ ap (λ (names : List (List ℕ)). moved x (has x names) (has x (roll_of t.roll new.rolls)) names) t.before
      ∙ ap (λ (names : List (List ℕ)). moved x (has x (names_of n (numbered_in table old))) (has x names) (names_of n (numbered_in table old))) t.now

  stays-at : (table : Table) (n : ℕ) → (moves_in edit ≡ Some table → ⊥) → Told table n → names_of n (numbered_in table new) ≡ names_of n (numbered_in table old)
  stays-at table n apart (inl none) = none.1 ∙ sym none.0
  stays-at table n apart (inr t) =
      sym t.now ∙ moves t.roll
      ∙ ap (λ b. moved x (is_member t.roll x old.sheet) b (roll_of t.roll old.rolls)) (members-elsewhere edit old.sheet t.roll (λ e. apart (e ∙ ap (λ (u : Table). Some u) t.of)) x)
      ∙ moved-same x (is_member t.roll x old.sheet) (roll_of t.roll old.rolls) ∙ t.before

  pub lists-moved : AreListsMoved edit old new
  lists-moved = record {
    own = own;
    elsewhere = λ table apart n. stays-at table n apart (by-number old.rolls new.rolls was.numbered is.numbered keeps table n);
    seats = λ table n. seats-kept old.rolls new.rolls was.numbered is.numbered keeps table n;
  }
    where
      own : (table : Table) → moves_in edit ≡ Some table → (n : ℕ) → n ≢ NOWHERE
          → names_of n (numbered_in table new) ≡ moved x (has x (names_of n (numbered_in table old))) (stands_on table x n new) (names_of n (numbered_in table old))
      own table of n some =
          let lists = moves-own edit table of in
          moves-at table n (by-number old.rolls new.rolls was.numbered is.numbered keeps table n)
          ∙ ap (λ b. moved x (has x (names_of n (numbered_in table old))) b (names_of n (numbered_in table old)))
          (sym (stands-by (names_in table new.sheet) (seated_in table new.rolls) x (seated-in table new.sheet new.rolls lists (is.seated table)) (once-in table new.sheet valid lists) n some))
