-- Rolls once a row stands again where it stood.
use Rattle.std.proofs.Common.{◌≡◌, ◌⊎◌, inl, inr, ℕ, ◌<◌, ◌≤◌, Bool, true, false, List, [], eqb, length, Option, Some, None, is_some, refl, sym, ap, subst, ◌∙◌, arith}
use Rattle.std.specs.Prelude.{if◌then◌else◌}
use Rattle.std.specs.Option.{option_map_or}
use Rattle.std.proofs.lemmas.Bool.{cases_lt}
use Rattle.std.proofs.lemmas.Bool.Decides.{Decides-eqb}
use Rattle.scr_tables.specs.Names.{same_name}
use Rattle.scr_tables.proofs.TableRows.{same_name-is, same_or_other}
use Rattle.scr_member_lists.specs.Members.{has, returned}
use Rattle.scr_member_lists.specs.Owned.{number_of}
use Rattle.scr_member_lists.specs.Seatings.{AreSeated, Seated, names_of, place_in, roll_in, seat_of, stood}
use Rattle.scr_sheet.specs.Members.{is_member, table_of}
use Rattle.scr_sheet.specs.declared.{sheet.BalanceSheet.BalanceSheet, keys.Table.Table, roll.Roll.Roll}
use Rattle.scr_sheet.specs.declared.keys.Table.TheVariants as tables
use Rattle.scr_book.specs.Places.{names_in}
use Rattle.scr_book.specs.Rolls.{AreNumbered, AreRollsOf, GoesBack, HaveReturned, HaveSeats, IsOfRoll, IsRegained, KeptRolls, listed, number_of_roll, roll_back, roll_of, same_table, seat_of_roll, seated_in, seats_before}
use Rattle.scr_book.specs.declared.rolls.Standing.{Standing}
use Rattle.scr_book.proofs.RollGrowth.{names-past, same-numbers}
use Rattle.scr_book.proofs.RollLaws.{has-returned}
use Rattle.scr_book.proofs.RollSettled.{apart-in, few-of, same-table, table-cases}

module _ (standing : Standing) (own : same_table standing.table standing.table ≡ true) (goal sheet : BalanceSheet) (first new : KeptRolls)
    (kept : AreRollsOf sheet first) (goes : GoesBack standing goal sheet first)
    (fits : (roll : Roll) (n place : ℕ) → same_table (table_of roll) standing.table ≡ true → number_of_roll roll first ≡ Some n
    → stood (seat_of_roll roll) n (seats_before standing) ≡ Some place → has standing.name (names_of n (seated_in standing.table first).rolls) ≡ false → place ≤ length (names_of n (seated_in standing.table first).rolls))
    (regained : IsRegained standing.table standing.name (seats_before standing) goal first new) where
  abbrev table : Table
  table = standing.table

  abbrev name : List ℕ
  name = standing.name

  numbers : (roll : Roll) → number_of_roll roll new ≡ number_of_roll roll first
  numbers roll = same-numbers roll first new regained.of_groups regained.of_assets regained.of_lines

  stays-other : (roll : Roll) → same_table (table_of roll) table ≡ false → roll_of roll new ≡ roll_of roll first
  stays-other roll other =
      ap (λ (o : Option ℕ). option_map_or (λ n. names_of n (listed roll new)) o []) (numbers roll)
      ∙ ap (λ (s : Seated). option_map_or (λ n. names_of n s.rolls) (number_of_roll roll first) []) (regained.elsewhere (table_of roll) other)

  -- the roll of a number, as it is then
  then-of : (roll : Roll) (n : ℕ) → same_table (table_of roll) table ≡ true → number_of_roll roll first ≡ Some n
      → names_of n (listed roll new) ≡ returned name (stood (seat_of_roll roll) n (seats_before standing)) (names_of n (listed roll first))
  then-of roll n same e =
      let is = same-table (table_of roll) table same in
      let had = kept.numbered.own roll n e in
      let inside : n < length (seated_in table first).rolls = subst (λ (t : Table). n < length (seated_in t first).rolls) is had.0 in
      let seat : seat_of n (seated_in table first).rolls ≡ seat_of_roll roll = ap (λ (t : Table). seat_of n (seated_in t first).rolls) (sym is) ∙ had.1 in
      ap (λ (t : Table). names_of n (seated_in t new).rolls) is ∙ regained.names n inside
      ∙ ap (λ k. returned name (stood k n (seats_before standing)) (names_of n (seated_in table first).rolls)) seat
      ∙ ap (λ (t : Table). returned name (stood (seat_of_roll roll) n (seats_before standing)) (names_of n (seated_in t first).rolls)) (sym is)

  -- each roll is as the way back says
  returns-own : (roll : Roll) → same_table (table_of roll) table ≡ true
      → roll_of roll new ≡ option_map_or (λ n. returned name (stood (seat_of_roll roll) n (seats_before standing)) (names_of n (listed roll first))) (number_of_roll roll first) []
  returns-own roll same = ap (λ (o : Option ℕ). option_map_or (λ n. names_of n (listed roll new)) o []) (numbers roll) ∙ by (number_of_roll roll first) refl
    where
      by : (found : Option ℕ) → number_of_roll roll first ≡ found
          → option_map_or (λ n. names_of n (listed roll new)) found []
          ≡ option_map_or (λ n. returned name (stood (seat_of_roll roll) n (seats_before standing)) (names_of n (listed roll first))) found []
      by None e = refl
      by (Some n) e = then-of roll n same e

  rolls : (roll : Roll) → roll_of roll new ≡ roll_back (Some standing) roll first
  rolls roll =
      table-cases (table_of roll) table
      (λ same. returns-own roll same
      ∙ sym (ap (λ b. if b then option_map_or (λ n. returned name (stood (seat_of_roll roll) n (seats_before standing)) (names_of n (listed roll first))) (number_of_roll roll first) [] else roll_of roll first) same))
      (λ other. stays-other roll other
      ∙ sym (ap (λ b. if b then option_map_or (λ n. returned name (stood (seat_of_roll roll) n (seats_before standing)) (names_of n (listed roll first))) (number_of_roll roll first) [] else roll_of roll first) other))

  members-own : (roll : Roll) (other : List ℕ) → same_table (table_of roll) table ≡ true → has other (roll_of roll new) ≡ is_member roll other goal
  members-own roll other same = ap (has other) (returns-own roll same) ∙ by (number_of_roll roll first) refl
    where
      is : table_of roll ≡ table
      is = same-table (table_of roll) table same

      by : (found : Option ℕ) → number_of_roll roll first ≡ found
          → has other (option_map_or (λ n. returned name (stood (seat_of_roll roll) n (seats_before standing)) (names_of n (listed roll first))) found []) ≡ is_member roll other goal
      by None e =
          same_or_other name other
          (λ one. sym (ap (λ x. is_member roll x goal) (sym (same_name-is name other one)) ∙ goes.none roll same e))
          (λ apart.
          ap (λ (o : Option ℕ). has other (option_map_or (λ n. names_of n (listed roll first)) o [])) (sym e)
          ∙ kept.members roll other ∙ sym (goes.others roll other (inr apart)))
      by (Some n) e =
          ap (λ (t : Table). has other (returned name (stood (seat_of_roll roll) n (seats_before standing)) (names_of n (seated_in t first).rolls))) is
          ∙ has-returned name other (stood (seat_of_roll roll) n (seats_before standing)) (names_of n (seated_in table first).rolls) (apart-in table sheet first own (kept.seated table) n)
          (λ place there none. fits roll n place same e there none)
          ∙ same_or_other name other
          (λ one.
          ap (λ b. if b then is_some (stood (seat_of_roll roll) n (seats_before standing)) else has other (names_of n (seated_in table first).rolls)) one
          ∙ goes.own roll n same e ∙ ap (λ x. is_member roll x goal) (same_name-is name other one))
          (λ apart.
          ap (λ b. if b then is_some (stood (seat_of_roll roll) n (seats_before standing)) else has other (names_of n (seated_in table first).rolls)) apart
          ∙ ap (λ (t : Table). has other (names_of n (seated_in t first).rolls)) (sym is)
          ∙ ap (λ (o : Option ℕ). has other (option_map_or (λ m. names_of m (listed roll first)) o [])) (sym e)
          ∙ kept.members roll other ∙ sym (goes.others roll other (inr apart)))

  members : (roll : Roll) (other : List ℕ) → has other (roll_of roll new) ≡ is_member roll other goal
  members roll other =
      table-cases (table_of roll) table (members-own roll other)
      (λ apart. ap (has other) (stays-other roll apart) ∙ kept.members roll other ∙ sym (goes.others roll other (inl apart)))

  seated-elsewhere : (other : Table) → same_table other table ≡ false → HaveSeats other goal new
  seated-elsewhere other apart = by other apart (kept.seated other) (regained.elsewhere other apart) (goes.elsewhere other apart)
    where
      by : (t : Table) → same_table t table ≡ false → HaveSeats t sheet first → seated_in t new ≡ seated_in t first → names_in t goal ≡ names_in t sheet → HaveSeats t goal new
      by tables.Security a h s e = subst (λ (names : List (List ℕ)). AreSeated names new.securities) (sym e) (subst (λ (z : Seated). AreSeated (names_in tables.Security sheet) z) (sym s) h)
      by tables.Fund a h s e = subst (λ (names : List (List ℕ)). AreSeated names new.funds) (sym e) (subst (λ (z : Seated). AreSeated (names_in tables.Fund sheet) z) (sym s) h)
      by tables.Liability a h s e = subst (λ (names : List (List ℕ)). AreSeated names new.liabilities) (sym e) (subst (λ (z : Seated). AreSeated (names_in tables.Liability sheet) z) (sym s) h)
      by tables.Group a h s e = subst (λ (names : List (List ℕ)). AreSeated names new.groups) (sym e) (subst (λ (z : Seated). AreSeated (names_in tables.Group sheet) z) (sym s) h)
      by tables.Bank a h s e = tt
      by tables.Rein a h s e = tt
      by tables.Curve a h s e = tt

  seated : (other : Table) → HaveSeats other goal new
  seated other = table-cases other table (λ same. subst (λ (t : Table). HaveSeats t goal new) (sym (same-table other table same)) regained.seated) (seated-elsewhere other)

  -- a list in which the row or another stands is a roll's
  of-roll : (other : Table) (n : ℕ) → IsOfRoll other n first → IsOfRoll other n new
  of-roll other n was = record { roll = was.roll; of = was.of; numbered = numbers was.roll ∙ was.numbered }

  owned-here : (n : ℕ) (other : List ℕ) → has other (names_of n (seated_in table new).rolls) ≡ true → IsOfRoll table n first
  owned-here n other stands = by-member (has other (names_of n (seated_in table first).rolls)) refl
    where
      roll_before : List (List ℕ)
      roll_before = names_of n (seated_in table first).rolls

      seat : ℕ
      seat = seat_of n (seated_in table first).rolls

      -- the row came to it
      comes : n < length (seated_in table first).rolls → (t : Bool) → eqb (roll_in seat (seats_before standing)) n ≡ t
          → has other (returned name (if t then Some (place_in seat (seats_before standing)) else None) roll_before) ≡ true → has other roll_before ≡ false → IsOfRoll table n first
      comes inside true at there absent =
          let most = few-of table sheet first (kept.seated table) in
          let is : roll_in seat (seats_before standing) ≡ n = (Decides-eqb (roll_in seat (seats_before standing)) n).0 at in
          subst (λ m. IsOfRoll table m first) is (goes.stood seat (λ e. let never : ⊥ = omega (arith, inside, most, is, e) in never))
      comes inside false at there absent =
          let told =
          has-returned name other None roll_before (apart-in table sheet first own (kept.seated table) n) (λ place none. let never : None ≡ Some place = none in absurd (cc)) in
          by (same_name name other) told
        where
          by : (t : Bool) → has other (returned name None roll_before) ≡ (if t then false else has other roll_before) → IsOfRoll table n first
          by true e = let never : true ≡ false = sym there ∙ e in absurd (cc)
          by false e = let never : true ≡ false = sym there ∙ e ∙ absent in absurd (cc)

      by-member : (t : Bool) → has other roll_before ≡ t → IsOfRoll table n first
      by-member true member = kept.numbered.owned table n other member
      by-member false absent = at (cases_lt n (length (seated_in table first).rolls))
        where
          at : ((n < length (seated_in table first).rolls) ⊎ (length (seated_in table first).rolls ≤ n)) → IsOfRoll table n first
          at (inr past) =
              let count = regained.keeps.count in
              let nobody : names_of n (seated_in table new).rolls ≡ [] = names-past n (seated_in table new).rolls (omega (arith, past, count)) in
              let never : false ≡ true = sym (ap (has other) nobody) ∙ stands in
              absurd (cc)
          at (inl inside) = comes inside (eqb (roll_in seat (seats_before standing)) n) refl (sym (ap (has other) (regained.names n inside)) ∙ stands) absent

  numbered : AreNumbered new
  numbered = record {
    own = λ roll n e. own-number roll n (sym (numbers roll) ∙ e);
    owned = owned;
    groups = λ one two n a b. kept.numbered.groups one two n (ap (number_of one) (sym regained.of_groups) ∙ a) (ap (number_of two) (sym regained.of_groups) ∙ b);
    assets = λ one two n a b. kept.numbered.assets one two n (ap (number_of one) (sym regained.of_assets) ∙ a) (ap (number_of two) (sym regained.of_assets) ∙ b);
    lines = λ one two n a b. kept.numbered.lines one two n (ap (number_of one) (sym regained.of_lines) ∙ a) (ap (number_of two) (sym regained.of_lines) ∙ b);
  }
    where
      own-number : (roll : Roll) (n : ℕ) → number_of_roll roll first ≡ Some n → (n < length (listed roll new)) × (seat_of n (listed roll new) ≡ seat_of_roll roll)
      own-number roll n e =
          table-cases (table_of roll) table
          (λ same.
          let is = same-table (table_of roll) table same in
          let had = kept.numbered.own roll n e in
          let inside : n < length (seated_in table first).rolls = subst (λ (t : Table). n < length (seated_in t first).rolls) is had.0 in
          let count = regained.keeps.count in
          let now : n < length (seated_in table new).rolls = omega (arith, inside, count) in (
            subst (λ (t : Table). n < length (seated_in t new).rolls) (sym is) now,
            ap (λ (t : Table). seat_of n (seated_in t new).rolls) is ∙ regained.keeps.own n ∙ ap (λ (t : Table). seat_of n (seated_in t first).rolls) (sym is) ∙ had.1,
          ))
          (λ apart.
          let same = regained.elsewhere (table_of roll) apart in
          let had = kept.numbered.own roll n e in
          (subst (λ (s : Seated). n < length s.rolls) (sym same) had.0, ap (λ (s : Seated). seat_of n s.rolls) same ∙ had.1))

      owned : (other : Table) (n : ℕ) (x : List ℕ) → has x (names_of n (seated_in other new).rolls) ≡ true → IsOfRoll other n new
      owned other n x stands =
          table-cases other table
          (λ same.
          let is = same-table other table same in
          subst (λ (t : Table). IsOfRoll t n new) (sym is) (of-roll table n (owned-here n x (subst (λ (t : Table). has x (names_of n (seated_in t new).rolls) ≡ true) is stands))))
          (λ apart. of-roll other n (kept.numbered.owned other n x (subst (λ (s : Seated). has x (names_of n s.rolls) ≡ true) (regained.elsewhere other apart) stands)))

  pub have-returned : HaveReturned (Some standing) goal first new
  have-returned = record { kept = record { numbered = numbered; seated = seated; members = members }; rolls = rolls }
