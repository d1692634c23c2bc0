-- Rolls once the row of a record stands where it is to stand.
use Rattle.std.proofs.Common.{◌≡◌, ◌⊎◌, inl, inr, ℕ, ◌<◌, ◌≤◌, Bool, true, false, List, [], eqb, length, Option, Some, None, refl, sym, ap, subst, ◌∙◌, arith}
use Rattle.std.specs.Prelude.{if◌then◌else◌}
use Rattle.std.specs.List.{IsDistinct}
use Rattle.std.specs.Option.{option_map_or}
use Rattle.std.proofs.lemmas.Bool.{cases_lt}
use Rattle.std.proofs.lemmas.Bool.Decides.{Decides-eqb}
use Rattle.scr_tables.specs.Names.{same_name}
use Rattle.scr_tables.proofs.TableRows.{same_name-is, same_or_other}
use Rattle.scr_member_lists.specs.Members.{has, moved}
use Rattle.scr_member_lists.specs.Owned.{number_of}
use Rattle.scr_member_lists.specs.Seatings.{NOWHERE, AreSeated, Seated, names_of, roll_in, seat_of}
use Rattle.scr_member_lists.proofs.Settled.{moved-same}
use Rattle.scr_sheet.specs.Members.{edit_name, is_member, table_of}
use Rattle.scr_sheet.specs.Records.{applied}
use Rattle.scr_sheet.specs.declared.{sheet.BalanceSheet.BalanceSheet, edit.Edit.Edit, keys.Table.Table, roll.Roll.Roll}
use Rattle.scr_sheet.specs.declared.keys.Table.TheVariants as tables
use Rattle.scr_sheet.specs.declared.roll.Roll.TheVariants as rolls
use Rattle.scr_book.specs.Places.{names_in}
use Rattle.scr_book.specs.Rolls.{AreMoved, AreNumbered, AreRollsOf, HaveSeats, IsKnown, IsOfRoll, IsSettled, KeptRolls, listed, number_of_roll, roll_of, rolled, same_table, seated_in, seat_of_roll}
use Rattle.scr_book.proofs.RollGrowth.{names-past, same-numbers}
use Rattle.scr_book.proofs.RollLaws.{apart-roll, has-moved}

-- tables that have rolls
pub same-table : (one two : Table) → same_table one two ≡ true → one ≡ two
same-table tables.Security tables.Security e = refl
same-table tables.Fund tables.Fund e = refl
same-table tables.Liability tables.Liability e = refl
same-table tables.Group tables.Group e = refl
same-table one two e = absurd (cc)

pub own-table : (roll : Roll) → same_table (table_of roll) (table_of roll) ≡ true
own-table (rolls.Class class) = refl
own-table rolls.Closed = refl
own-table rolls.Bonds = refl
own-table rolls.Grouped = refl
own-table (rolls.Group group) = refl
own-table (rolls.Assets currency) = refl
own-table (rolls.Flows currency) = refl
own-table (rolls.Lines currency) = refl
own-table (rolls.Losses kind projection) = refl
own-table rolls.Groups = refl

-- a table is the same or another
pub table-cases : {P : Type 0} (one two : Table) → (same_table one two ≡ true → P) → (same_table one two ≡ false → P) → P
table-cases {P} one two same other = by (same_table one two) refl
  where
    by : (t : Bool) → same_table one two ≡ t → P
    by true e = same e
    by false e = other e

-- no name stands twice in a roll of a table that has its seats
pub apart-in : (table : Table) (sheet : BalanceSheet) (kept : KeptRolls) → same_table table table ≡ true → HaveSeats table sheet kept → (n : ℕ) → IsDistinct same_name (names_of n (seated_in table kept).rolls)
apart-in tables.Security sheet kept own h n = apart-roll (names_in tables.Security sheet) kept.securities h n
apart-in tables.Fund sheet kept own h n = apart-roll (names_in tables.Fund sheet) kept.funds h n
apart-in tables.Liability sheet kept own h n = apart-roll (names_in tables.Liability sheet) kept.liabilities h n
apart-in tables.Group sheet kept own h n = apart-roll (names_in tables.Group sheet) kept.groups h n
apart-in tables.Bank sheet kept own h n = absurd (cc)
apart-in tables.Rein sheet kept own h n = absurd (cc)
apart-in tables.Curve sheet kept own h n = absurd (cc)

-- a table has few rolls
pub few-of : (table : Table) (sheet : BalanceSheet) (kept : KeptRolls) → HaveSeats table sheet kept → length (seated_in table kept).rolls ≤ NOWHERE
few-of tables.Security sheet kept h = h.few
few-of tables.Fund sheet kept h = h.few
few-of tables.Liability sheet kept h = h.few
few-of tables.Group sheet kept h = h.few
few-of tables.Bank sheet kept h = omega arith
few-of tables.Rein sheet kept h = omega arith
few-of tables.Curve sheet kept h = omega arith

module _ (table : Table) (name : List ℕ) (aim : ℕ → ℕ) (sheet : BalanceSheet) (old new : KeptRolls) (known : IsKnown table name aim sheet old)
    (distinct : (n : ℕ) → IsDistinct same_name (names_of n (seated_in table old).rolls)) (settled : IsSettled table name aim sheet old new) where
  numbers : (roll : Roll) → number_of_roll roll new ≡ number_of_roll roll old
  numbers roll = same-numbers roll old new settled.of_groups settled.of_assets settled.of_lines

  roll-at : (roll : Roll) → roll_of roll new ≡ option_map_or (λ n. names_of n (listed roll new)) (number_of_roll roll old) []
  roll-at roll = ap (λ o. option_map_or (λ n. names_of n (listed roll new)) o []) (numbers roll)

  -- each roll has moved by the membership of the row
  moves-own : (roll : Roll) → same_table (table_of roll) table ≡ true → roll_of roll new ≡ moved name (has name (roll_of roll old)) (is_member roll name sheet) (roll_of roll old)
  moves-own roll same = roll-at roll ∙ by (number_of_roll roll old) refl
    where
      is : table_of roll ≡ table
      is = same-table (table_of roll) table same

      names-of : KeptRolls → ℕ → List (List ℕ)
      names-of kept n = names_of n (seated_in (table_of roll) kept).rolls

      by : (found : Option ℕ) → number_of_roll roll old ≡ found
          → option_map_or (names-of new) found []
          ≡ moved name (has name (option_map_or (names-of old) found [])) (is_member roll name sheet) (option_map_or (names-of old) found [])
      by None e = sym (ap (λ b. moved name false b []) (known.none roll same e))
      by (Some n) e =
          let had = known.numbered.own roll n e in
          let inside : n < length (seated_in table old).rolls = subst (λ (t : Table). n < length (seated_in t old).rolls) is had.0 in
          let seat : seat_of n (seated_in table old).rolls ≡ seat_of_roll roll = ap (λ (t : Table). seat_of n (seated_in t old).rolls) (sym is) ∙ had.1 in
          ap (λ (t : Table). names_of n (seated_in t new).rolls) is ∙ settled.names n inside
          ∙ ap (λ b. moved name (has name (names_of n (seated_in table old).rolls)) b (names_of n (seated_in table old).rolls))
          (ap (λ k. eqb (roll_in k settled.now) n) seat ∙ ap (λ m. eqb m n) (settled.stands roll is) ∙ known.own roll n same e)
          ∙ ap (λ (t : Table). moved name (has name (names_of n (seated_in t old).rolls)) (is_member roll name sheet) (names_of n (seated_in t old).rolls)) (sym is)

  stays-other : (roll : Roll) → same_table (table_of roll) table ≡ false → roll_of roll new ≡ roll_of roll old
  stays-other roll other = roll-at roll ∙ ap (λ (s : Seated). option_map_or (λ n. names_of n s.rolls) (number_of_roll roll old) []) (settled.elsewhere (table_of roll) other)

  pub moves : (roll : Roll) → roll_of roll new ≡ moved name (has name (roll_of roll old)) (is_member roll name sheet) (roll_of roll old)
  moves roll =
      table-cases (table_of roll) table (moves-own roll)
      (λ other. stays-other roll other
      ∙ sym (ap (λ b. moved name (has name (roll_of roll old)) b (roll_of roll old)) (sym (known.others roll name (inl other)))
      ∙ moved-same name (has name (roll_of roll old)) (roll_of roll old)))

  distinct-roll : (roll : Roll) → same_table (table_of roll) table ≡ true → IsDistinct same_name (roll_of roll old)
  distinct-roll roll same = by (number_of_roll roll old)
    where
      by : (found : Option ℕ) → IsDistinct same_name (option_map_or (λ n. names_of n (listed roll old)) found [])
      by None = distinct-none
        where
          distinct-none : IsDistinct same_name []
          distinct-none = subst (λ (xs : List (List ℕ)). IsDistinct same_name xs) (names-past (length (seated_in table old).rolls) (seated_in table old).rolls (omega arith)) (distinct (length (seated_in table old).rolls))
      by (Some n) = subst (λ (t : Table). IsDistinct same_name (names_of n (seated_in t old).rolls)) (sym (same-table (table_of roll) table same)) (distinct n)

  members : (roll : Roll) (other : List ℕ) → has other (roll_of roll new) ≡ is_member roll other sheet
  members roll other =
      table-cases (table_of roll) table
      (λ same.
      ap (has other) (moves-own roll same) ∙ has-moved name other (is_member roll name sheet) (roll_of roll old) (distinct-roll roll same)
      ∙ same_or_other name other
      (λ e. ap (λ b. if b then is_member roll name sheet else has other (roll_of roll old)) e ∙ ap (λ x. is_member roll x sheet) (same_name-is name other e))
      (λ e. ap (λ b. if b then is_member roll name sheet else has other (roll_of roll old)) e ∙ known.others roll other (inr e)))
      (λ apart. ap (has other) (stays-other roll apart) ∙ known.others roll other (inl apart))

  seated-elsewhere : (other : Table) → same_table other table ≡ false → HaveSeats other sheet new
  seated-elsewhere tables.Security apart = subst (λ (s : Seated). AreSeated (names_in tables.Security sheet) s) (sym (settled.elsewhere tables.Security apart)) (known.elsewhere tables.Security apart)
  seated-elsewhere tables.Fund apart = subst (λ (s : Seated). AreSeated (names_in tables.Fund sheet) s) (sym (settled.elsewhere tables.Fund apart)) (known.elsewhere tables.Fund apart)
  seated-elsewhere tables.Liability apart = subst (λ (s : Seated). AreSeated (names_in tables.Liability sheet) s) (sym (settled.elsewhere tables.Liability apart)) (known.elsewhere tables.Liability apart)
  seated-elsewhere tables.Group apart = subst (λ (s : Seated). AreSeated (names_in tables.Group sheet) s) (sym (settled.elsewhere tables.Group apart)) (known.elsewhere tables.Group apart)
  seated-elsewhere tables.Bank apart = tt
  seated-elsewhere tables.Rein apart = tt
  seated-elsewhere tables.Curve apart = tt

  seated : (other : Table) → HaveSeats other sheet new
  seated other = table-cases other table (λ same. subst (λ (t : Table). HaveSeats t sheet new) (sym (same-table other table same)) settled.seated) (seated-elsewhere other)

  -- a list in which the row or another stands is a roll's
  of-roll : (other : Table) (n : ℕ) → IsOfRoll other n old → IsOfRoll other n new
  of-roll other n was = record { roll = was.roll; of = was.of; numbered = numbers was.roll ∙ was.numbered }

  came : (n : ℕ) → n < length (seated_in table old).rolls → n < NOWHERE → roll_in (seat_of n (seated_in table old).rolls) settled.now ≡ n → IsOfRoll table n old
  came n inside few at = by (settled.own seat (λ e. let never : ⊥ = omega (arith, few, at, e) in never))
    where
      seat : ℕ
      seat = seat_of n (seated_in table old).rolls

      by : (roll_in seat settled.now ≡ aim seat) ⊎ (has name (names_of (roll_in seat settled.now) (seated_in table old).rolls) ≡ true) → IsOfRoll table n old
      by (inl aims) =
          subst (λ m. IsOfRoll table m old) (sym aims ∙ at) (known.aimed seat (λ e. let never : ⊥ = omega (arith, few, at, aims, e) in never))
      by (inr stood) = known.numbered.owned table n name (subst (λ m. has name (names_of m (seated_in table old).rolls) ≡ true) at stood)

  owned-here : (n : ℕ) (other : List ℕ) → has other (names_of n (seated_in table new).rolls) ≡ true → IsOfRoll table n old
  owned-here n other stands = at (cases_lt n (length (seated_in table old).rolls))
    where
      roll_before : List (List ℕ)
      roll_before = names_of n (seated_in table old).rolls

      at : ((n < length (seated_in table old).rolls) ⊎ (length (seated_in table old).rolls ≤ n)) → IsOfRoll table n old
      at (inr past) =
          let count = settled.keeps.count in
          let nobody : names_of n (seated_in table new).rolls ≡ [] = names-past n (seated_in table new).rolls (omega (arith, past, count)) in
          let never : false ≡ true = sym (ap (has other) nobody) ∙ stands in
          absurd (cc)
      at (inl inside) =
          by (same_name name other) refl
          (sym (ap (has other) (settled.names n inside) ∙ has-moved name other test roll_before (distinct n)) ∙ stands)
        where
          test : Bool
          test = eqb (roll_in (seat_of n (seated_in table old).rolls) settled.now) n

          by : (t : Bool) → same_name name other ≡ t → (if t then test else has other roll_before) ≡ true → IsOfRoll table n old
          by true e is =
              let most = few-of table sheet new settled.seated in
              let count = settled.keeps.count in
              came n inside (omega (arith, inside, most, count)) ((Decides-eqb (roll_in (seat_of n (seated_in table old).rolls) settled.now) n).0 is)
          by false e is = known.numbered.owned table n other is

  numbered : AreNumbered new
  numbered = record {
    own = λ roll n e. own roll n (sym (numbers roll) ∙ e);
    owned = owned;
    groups = λ one two n a b. known.numbered.groups one two n (ap (number_of one) (sym settled.of_groups) ∙ a) (ap (number_of two) (sym settled.of_groups) ∙ b);
    assets = λ one two n a b. known.numbered.assets one two n (ap (number_of one) (sym settled.of_assets) ∙ a) (ap (number_of two) (sym settled.of_assets) ∙ b);
    lines = λ one two n a b. known.numbered.lines one two n (ap (number_of one) (sym settled.of_lines) ∙ a) (ap (number_of two) (sym settled.of_lines) ∙ b);
  }
    where
      own : (roll : Roll) (n : ℕ) → number_of_roll roll old ≡ Some n → (n < length (listed roll new)) × (seat_of n (listed roll new) ≡ seat_of_roll roll)
      own roll n e =
          table-cases (table_of roll) table
          (λ same.
          let is = same-table (table_of roll) table same in
          let had = known.numbered.own roll n e in
          let inside : n < length (seated_in table old).rolls = subst (λ (t : Table). n < length (seated_in t old).rolls) is had.0 in
          let count = settled.keeps.count in
          let now : n < length (seated_in table new).rolls = omega (arith, inside, count) in (
            subst (λ (t : Table). n < length (seated_in t new).rolls) (sym is) now,
            ap (λ (t : Table). seat_of n (seated_in t new).rolls) is ∙ settled.keeps.own n ∙ ap (λ (t : Table). seat_of n (seated_in t old).rolls) (sym is) ∙ had.1,
          ))
          (λ apart.
          let same = settled.elsewhere (table_of roll) apart in
          let had = known.numbered.own roll n e in
          (subst (λ (s : Seated). n < length s.rolls) (sym same) had.0, ap (λ (s : Seated). seat_of n s.rolls) same ∙ had.1))

      owned : (other : Table) (n : ℕ) (x : List ℕ) → has x (names_of n (seated_in other new).rolls) ≡ true → IsOfRoll other n new
      owned other n x stands =
          table-cases other table
          (λ same.
          let is = same-table other table same in
          subst (λ (t : Table). IsOfRoll t n new) (sym is) (of-roll table n (owned-here n x (subst (λ (t : Table). has x (names_of n (seated_in t new).rolls) ≡ true) is stands))))
          (λ apart. of-roll other n (known.numbered.owned other n x (subst (λ (s : Seated). has x (names_of n s.rolls) ≡ true) (settled.elsewhere other apart) stands)))

  pub settled-rolls : AreRollsOf sheet new
  settled-rolls = record { numbered = numbered; seated = seated; members = members }

-- each roll has moved as the record says
pub moved-all : (edit : Edit) (before : BalanceSheet) (name : List ℕ) (first mid new : KeptRolls) → name ≡ edit_name edit → AreRollsOf before mid
    → ((roll : Roll) → roll_of roll mid ≡ roll_of roll first)
    → ((roll : Roll) → roll_of roll new ≡ moved name (has name (roll_of roll mid)) (is_member roll name (applied edit before)) (roll_of roll mid))
    → AreMoved edit before first new
moved-all edit before name first mid new named kept same moves roll =
    moves roll
    ∙ ap (λ b. moved name b (is_member roll name (applied edit before)) (roll_of roll mid)) (kept.members roll name)
    ∙ ap (λ x. moved x (is_member roll x before) (is_member roll x (applied edit before)) (roll_of roll mid)) named
    ∙ ap (λ names. rolled edit before roll names) (same roll)
