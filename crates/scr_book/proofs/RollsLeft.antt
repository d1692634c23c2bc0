-- A row that was made leaves its rolls before it goes again, and one that stood there goes back to them.
use Rattle.std.proofs.Common.{◌≡◌, ◌≢◌, ◌⊎◌, inl, inr, ℕ, zero, suc, ◌+◌, ◌<◌, ◌≤◌, Bool, true, false, List, [], ◌∷◌, length, map, eqb, insert, Option, Some, None, is_some, refl, sym, ap, subst, ◌∙◌, arith}
use Rattle.std.specs.Prelude.{if◌then◌else◌}
use Rattle.std.specs.Option.{option_map_or}
use Rattle.std.proofs.lemmas.Bool.Decides.{Decides-eqb, nat_tests}
use Rattle.std.proofs.lemmas.List.{length-map}
use Rattle.scr_tables.proofs.TableRows.{same_name-is, same_or_other}
use Rattle.scr_member_lists.specs.Members.{has, moved, returned}
use Rattle.scr_member_lists.specs.Seatings.{NOWHERE, AreSeated, Rejoins, Seated, free, names_of, place_in, roll_in, seats_now, seats_of, stood}
use Rattle.scr_member_lists.specs.declared.seats.Seats.{Seats}
use Rattle.scr_member_lists.proofs.SeatMoves.{nowhere}
use Rattle.scr_member_lists.proofs.SeatReturns.{has-at}
use Rattle.scr_member_lists.proofs.Settled.{moved-same}
use Rattle.scr_sheet.specs.BalanceSheet.{group_name, liability_name, position_name, stake_name}
use Rattle.scr_sheet.specs.Members.{is_member, is_member_in, table_of}
use Rattle.scr_sheet.specs.Records.{applied}
use Rattle.scr_sheet.specs.Validity.{Valid}
use Rattle.scr_sheet.specs.declared.{sheet.BalanceSheet.BalanceSheet, keys.Table.Table, roll.Roll.Roll}
use Rattle.scr_sheet.specs.declared.edit.Edit.TheVariants as edits
use Rattle.scr_sheet.specs.declared.keys.Table.TheVariants as tables
use Rattle.scr_sheet.specs.declared.roll.Roll.TheVariants as list_of
use Rattle.scr_sheet.proofs.Membership.{member-other}
use Rattle.scr_book.specs.Places.{names_in}
use Rattle.scr_book.specs.Rolls.{AreAlike, AreMoved, AreRollsOf, CanRegain, GoesBack, GoesIn, HaveReturned, HaveSeats, IsPrepared, IsRegained, IsReturning, IsReturningBy, KeptRolls, Regains, listed, number_of_roll, roll_back, roll_of, same_table, seat_of_roll, seated_in, stood_nowhere}
use Rattle.scr_book.specs.declared.rolls.Aim.TheVariants as aims
use Rattle.scr_book.specs.declared.rolls.Standing.{Standing}
use Rattle.scr_book.proofs.RollAims.{few}
use Rattle.scr_book.proofs.RollNumbers.{nowhere-apart}
use Rattle.scr_book.proofs.RollProjections.{place-below}
use Rattle.scr_book.proofs.RollSettled.{same-table, table-cases}
use Rattle.scr_book.proofs.RollsReturned.{have-returned}
use Rattle.scr_book.proofs.RollsStill.{dropped-member, dropped-other}

-- ---- sheets that are alike

seats-alike : (table : Table) (one two : BalanceSheet) (kept : KeptRolls) → (same_table table table ≡ true → names_in table one ≡ names_in table two) → HaveSeats table two kept → HaveSeats table one kept
seats-alike tables.Security one two kept same h = subst (λ (ns : List (List ℕ)). AreSeated ns kept.securities) (sym (same refl)) h
seats-alike tables.Fund one two kept same h = subst (λ (ns : List (List ℕ)). AreSeated ns kept.funds) (sym (same refl)) h
seats-alike tables.Liability one two kept same h = subst (λ (ns : List (List ℕ)). AreSeated ns kept.liabilities) (sym (same refl)) h
seats-alike tables.Group one two kept same h = subst (λ (ns : List (List ℕ)). AreSeated ns kept.groups) (sym (same refl)) h
seats-alike tables.Bank one two kept same h = tt
seats-alike tables.Rein one two kept same h = tt
seats-alike tables.Curve one two kept same h = tt

pub alike-rolls : (one two : BalanceSheet) (kept : KeptRolls) → AreAlike one two → AreRollsOf two kept → AreRollsOf one kept
alike-rolls one two kept alike h = record {
  numbered = h.numbered;
  seated = λ table. seats-alike table one two kept (alike.names table) (h.seated table);
  members = λ roll name. h.members roll name ∙ sym (alike.members roll name);
}

-- ---- a row that was made

-- the rows of the goal are those without it
goal-names : (table : Table) (name : List ℕ) (goal sheet : BalanceSheet) (kept : KeptRolls) → GoesIn table (record { table = table; name = name; seats = None }) goal sheet kept
    → names_in table goal ≡ names_in table (applied (edits.Remove table name) sheet)
goal-names tables.Security name goal sheet kept row = ap (map position_name) row
goal-names tables.Fund name goal sheet kept row = ap (map stake_name) row
goal-names tables.Liability name goal sheet kept row = ap (map liability_name) row
goal-names tables.Group name goal sheet kept row = ap (map group_name) row
goal-names tables.Bank name goal sheet kept row = absurd row
goal-names tables.Rein name goal sheet kept row = absurd row
goal-names tables.Curve name goal sheet kept row = absurd row

pub goes-own-table : (table : Table) (name : List ℕ) (seats : Option Seats) (goal sheet : BalanceSheet) (kept : KeptRolls) → GoesIn table (record { table = table; name = name; seats = seats }) goal sheet kept
    → same_table table table ≡ true
goes-own-table tables.Security name seats goal sheet kept row = refl
goes-own-table tables.Fund name seats goal sheet kept row = refl
goes-own-table tables.Liability name seats goal sheet kept row = refl
goes-own-table tables.Group name seats goal sheet kept row = refl
goes-own-table tables.Bank name seats goal sheet kept row = absurd row
goes-own-table tables.Rein name seats goal sheet kept row = absurd row
goes-own-table tables.Curve name seats goal sheet kept row = absurd row

-- the names of the other tables are not those of this one
names-stay : (table other : Table) (name : List ℕ) (sheet : BalanceSheet) → same_table table table ≡ true → same_table other table ≡ false → names_in other sheet ≡ names_in other (applied (edits.Remove table name) sheet)
names-stay tables.Security tables.Security name sheet own apart = absurd (cc)
names-stay tables.Fund tables.Fund name sheet own apart = absurd (cc)
names-stay tables.Liability tables.Liability name sheet own apart = absurd (cc)
names-stay tables.Group tables.Group name sheet own apart = absurd (cc)
names-stay tables.Bank other name sheet own apart = absurd (cc)
names-stay tables.Rein other name sheet own apart = absurd (cc)
names-stay tables.Curve other name sheet own apart = absurd (cc)
names-stay tables.Security other name sheet own apart = refl
names-stay tables.Fund other name sheet own apart = refl
names-stay tables.Liability other name sheet own apart = refl
names-stay tables.Group other name sheet own apart = refl

module _ (table : Table) (name : List ℕ) (goal sheet : BalanceSheet) (first new : KeptRolls) (valid : Valid sheet) (h : AreRollsOf sheet first)
    (goes : GoesBack (record { table = table; name = name; seats = None }) goal sheet first)
    (kept : AreRollsOf (applied (edits.Remove table name) sheet) new) (moves : AreMoved (edits.Remove table name) sheet first new) where
  abbrev after : BalanceSheet
  after = applied (edits.Remove table name) sheet

  abbrev standing : Standing
  standing = record { table = table; name = name; seats = None }

  own : same_table table table ≡ true
  own = goes-own-table table name None goal sheet first goes.row

  free-stood : (seat n : ℕ) → n < NOWHERE → stood seat n free ≡ None
  free-stood seat n small = ap (λ b. if b then Some (place_in seat free) else None) (ap (λ r. eqb r n) (nowhere seat) ∙ nowhere-apart n small)

  -- the name is a member of no roll of its table, neither in the goal nor without its row
  gone : (roll : Roll) → same_table (table_of roll) table ≡ true → is_member roll name after ≡ false
  gone roll same = ap (λ (t : Table). is_member_in t roll name after) (same-table (table_of roll) table same) ∙ dropped-member table name sheet valid own roll

  goal-gone : (roll : Roll) → same_table (table_of roll) table ≡ true → is_member roll name goal ≡ false
  goal-gone roll same = by (number_of_roll roll first) refl
    where
      by : (found : Option ℕ) → number_of_roll roll first ≡ found → is_member roll name goal ≡ false
      by None e = goes.none roll same e
      by (Some n) e = sym (goes.own roll n same e) ∙ ap is_some (free-stood (seat_of_roll roll) n (few sheet first h roll n e))

  alike : AreAlike goal after
  alike = record { names = names; members = members }
    where
      names : (other : Table) → same_table other other ≡ true → names_in other goal ≡ names_in other after
      names other self =
          table-cases other table
          (λ same. subst (λ (t : Table). names_in t goal ≡ names_in t after) (sym (same-table other table same)) (goal-names table name goal sheet first goes.row))
          (λ apart. goes.elsewhere other apart ∙ names-stay table other name sheet own apart)

      members : (roll : Roll) (x : List ℕ) → is_member roll x goal ≡ is_member roll x after
      members roll x =
          table-cases (table_of roll) table
          (λ same.
          same_or_other name x
          (λ one. let is : name ≡ x = same_name-is name x one in ap (λ y. is_member roll y goal) (sym is) ∙ goal-gone roll same ∙ sym (gone roll same) ∙ ap (λ y. is_member roll y after) is)
          (λ other. goes.others roll x (inr other) ∙ sym (member-other sheet roll x (edits.Remove table name) other)))
          (λ apart. goes.others roll x (inl apart) ∙ sym (dropped-other table name sheet roll x own apart))

  back : (roll : Roll) → roll_of roll new ≡ roll_back (Some standing) roll first
  back roll = moves roll ∙ table-cases (table_of roll) table same other
    where
      names : List (List ℕ)
      names = roll_of roll first

      same : same_table (table_of roll) table ≡ true → moved name (is_member roll name sheet) (is_member roll name after) (roll_of roll first) ≡ roll_back (Some standing) roll first
      same e =
          ap (λ b. moved name b (is_member roll name after) (roll_of roll first)) (sym (h.members roll name))
          ∙ ap (λ b. moved name (has name (roll_of roll first)) b (roll_of roll first)) (gone roll e)
          ∙ by (number_of_roll roll first) refl
          ∙ sym (ap (λ b. if b then option_map_or (λ n. returned name (stood (seat_of_roll roll) n free) (names_of n (listed roll first))) (number_of_roll roll first) [] else roll_of roll first) e)
        where
          by : (found : Option ℕ) → number_of_roll roll first ≡ found
              → moved name (has name (option_map_or (λ n. names_of n (listed roll first)) found [])) false (option_map_or (λ n. names_of n (listed roll first)) found [])
              ≡ option_map_or (λ n. returned name (stood (seat_of_roll roll) n free) (names_of n (listed roll first))) found []
          by None found = refl
          by (Some n) found = sym (ap (λ (o : Option ℕ). returned name o (names_of n (listed roll first))) (free-stood (seat_of_roll roll) n (few sheet first h roll n found)))

      other : same_table (table_of roll) table ≡ false → moved name (is_member roll name sheet) (is_member roll name after) (roll_of roll first) ≡ roll_back (Some standing) roll first
      other e =
          ap (λ b. moved name (is_member roll name sheet) b (roll_of roll first)) (dropped-other table name sheet roll name own e)
          ∙ moved-same name (is_member roll name sheet) (roll_of roll first)
          ∙ sym (ap (λ b. if b then option_map_or (λ n. returned name (stood (seat_of_roll roll) n free) (names_of n (listed roll first))) (number_of_roll roll first) [] else roll_of roll first) e)

  pub left-returned : HaveReturned (Some standing) goal first new
  left-returned = record { kept = alike-rolls goal after new alike kept; rolls = back }

-- ---- a row that stood there

length-insert : {A : Type 0} (xs : List A) (i : ℕ) (x : A) → length (insert xs i x) ≡ length xs + 1
length-insert xs zero x = omega arith
length-insert [] (suc i) x = omega arith
length-insert (y ∷ xs) (suc i) x = let r = length-insert xs i x in let s : length (insert (y ∷ xs) (suc i) x) ≡ suc (length (insert xs i x)) = refl in omega (arith, r, s)

module _ {Row : Type 0} (name_of : Row → List ℕ) (name : List ℕ) (before : Seats) (rows : List Row) (seated : Seated) (regains : Regains name_of name before rows seated) where
  abbrev now : Seats
  now = seats_now (map name_of rows) seated.seats name

  -- where the name stands now, it is a member
  stands-now : (seat : ℕ) → roll_in seat now ≢ NOWHERE → has name (names_of (roll_in seat now) seated.rolls) ≡ true
  stands-now seat some = by regains.has
    where
      by : (AreSeated (map name_of rows) seated ⊎ Rejoins name_of name rows seated) → has name (names_of (roll_in seat now) seated.rolls) ≡ true
      by (inl h) =
          let same : now ≡ seats_of (map name_of rows) seated.seats name =
          ap (λ b. if b then seats_of (map name_of rows) seated.seats name else free) ((Decides-eqb (length seated.seats) (length (map name_of rows))).1 h.beside) in
          let at = h.there name seat (λ e. some (ap (roll_in seat) same ∙ e)) in
          subst (λ (s : Seats). has name (names_of (roll_in seat s) seated.rolls) ≡ true) (sym same)
          (has-at name (names_of (roll_in seat (seats_of (map name_of rows) seated.seats name)) seated.rolls) (place_in seat (seats_of (map name_of rows) seated.seats name)) at.within at.named)
      by (inr e) =
          let long : length rows ≡ length e.before + 1 = ap length e.rows ∙ length-insert e.before e.place e.row in
          let beside = e.seats.beside in
          let mapped = length-map rows name_of in
          let mapped_before = length-map e.before name_of in
          let short : length seated.seats < length (map name_of rows) = omega (arith, long, beside, mapped, mapped_before) in
          let apart : eqb (length seated.seats) (length (map name_of rows)) ≡ false = grind (arith, nat_tests, short) in
          absurd (some (ap (λ b. roll_in seat (if b then seats_of (map name_of rows) seated.seats name else free)) apart ∙ nowhere seat))

  pub regains-fit : (seat n place : ℕ) → seat < 11 → n < NOWHERE → stood seat n before ≡ Some place → has name (names_of n seated.rolls) ≡ false → place ≤ length (names_of n seated.rolls)
  regains-fit seat n place inside small stands none = by (eqb (roll_in seat before) n) refl stands
    where
      by : (t : Bool) → eqb (roll_in seat before) n ≡ t → (if t then Some (place_in seat before) else None) ≡ Some place → place ≤ length (names_of n seated.rolls)
      by false e some = absurd (cc)
      by true e some =
          let is : roll_in seat before ≡ n = (Decides-eqb (roll_in seat before) n).0 e in
          let at : place_in seat before ≡ place = cc in
          let fit = ((regains.seats seat inside).room (λ z. let never : ⊥ = omega (arith, is, z, small) in never)
          (λ z.
          let here : roll_in seat now ≡ n = sym z ∙ is in
          let member : has name (names_of (roll_in seat now) seated.rolls) ≡ true = stands-now seat (λ y. let never : ⊥ = omega (arith, here, y, small) in never) in
          let never : true ≡ false = sym member ∙ ap (λ k. has name (names_of k seated.rolls)) here ∙ none in
          absurd (cc))).0 in
          subst (λ k. place ≤ length (names_of k seated.rolls)) is (subst (λ k. k ≤ length (names_of (roll_in seat before) seated.rolls)) at fit)

-- what a row needs to go back, by its table
pub can-regain : (table : Table) (name : List ℕ) (seats : Seats) (goal sheet : BalanceSheet) (kept : KeptRolls) → AreRollsOf sheet kept → GoesBack (record { table = table; name = name; seats = Some seats }) goal sheet kept
    → CanRegain table name seats goal kept
can-regain tables.Security name seats goal sheet kept h goes = record { has = goes.row.0 (h.seated tables.Security); there = goes.row.1; seats = goes.seats }
can-regain tables.Fund name seats goal sheet kept h goes = record { has = goes.row.0 (h.seated tables.Fund); there = goes.row.1; seats = goes.seats }
can-regain tables.Liability name seats goal sheet kept h goes = record { has = goes.row.0 (h.seated tables.Liability); there = goes.row.1; seats = goes.seats }
can-regain tables.Group name seats goal sheet kept h goes = record { has = goes.row.0 (h.seated tables.Group); there = goes.row.1; seats = goes.seats }
can-regain tables.Bank name seats goal sheet kept h goes = absurd goes.row
can-regain tables.Rein name seats goal sheet kept h goes = absurd goes.row
can-regain tables.Curve name seats goal sheet kept h goes = absurd goes.row

fits-in-table : (table : Table) (name : List ℕ) (seats : Seats) (goal : BalanceSheet) (kept : KeptRolls) → same_table table table ≡ true → CanRegain table name seats goal kept
    → (seat n place : ℕ) → seat < 11 → n < NOWHERE → stood seat n seats ≡ Some place → has name (names_of n (seated_in table kept).rolls) ≡ false → place ≤ length (names_of n (seated_in table kept).rolls)
fits-in-table tables.Security name seats goal kept own r = regains-fit position_name name seats goal.securities kept.securities r
fits-in-table tables.Fund name seats goal kept own r = regains-fit stake_name name seats goal.funds kept.funds r
fits-in-table tables.Liability name seats goal kept own r = regains-fit liability_name name seats goal.liabilities kept.liabilities r
fits-in-table tables.Group name seats goal kept own r = regains-fit group_name name seats goal.groups kept.groups r
fits-in-table tables.Bank name seats goal kept own r = absurd (cc)
fits-in-table tables.Rein name seats goal kept own r = absurd (cc)
fits-in-table tables.Curve name seats goal kept own r = absurd (cc)

seat-few : (roll : Roll) → seat_of_roll roll < 11
seat-few (list_of.Class class) = omega arith
seat-few list_of.Closed = omega arith
seat-few list_of.Bonds = omega arith
seat-few list_of.Grouped = omega arith
seat-few (list_of.Group group) = omega arith
seat-few (list_of.Assets currency) = omega arith
seat-few (list_of.Flows currency) = omega arith
seat-few (list_of.Lines currency) = omega arith
seat-few (list_of.Losses kind projection) = let below = place-below projection in omega (arith, below)
seat-few list_of.Groups = omega arith

pub regained-returned : (table : Table) (name : List ℕ) (seats : Seats) (goal sheet : BalanceSheet) (first new : KeptRolls) → AreRollsOf sheet first
    → GoesBack (record { table = table; name = name; seats = Some seats }) goal sheet first → IsRegained table name seats goal first new
    → HaveReturned (Some (record { table = table; name = name; seats = Some seats })) goal first new
regained-returned table name seats goal sheet first new h goes regained =
    have-returned (record { table = table; name = name; seats = Some seats }) own goal sheet first new h goes
    (λ roll n place same e stands none.
    fits-in-table table name seats goal first own (can-regain table name seats goal sheet first h goes) (seat_of_roll roll) n place (seat-few roll) (few sheet first h roll n e) stands none)
    regained
  where
    own : same_table table table ≡ true
    own = goes-own-table table name (Some seats) goal sheet first goes.row

-- ---- the two steps of the way back

pub returning-none : (goal sheet : BalanceSheet) (kept : KeptRolls) → AreRollsOf sheet kept → AreAlike goal sheet → IsReturning None goal kept kept
returning-none goal sheet kept h alike = record { kept = alike-rolls goal sheet kept alike h; rolls = λ roll. refl }

-- a row that the record made has left its rolls
pub returning-made : (table : Table) (name : List ℕ) (seats : Option Seats) (goal sheet : BalanceSheet) (first new : KeptRolls) → seats ≡ None → Valid sheet → AreRollsOf sheet first
    → GoesBack (record { table = table; name = name; seats = seats }) goal sheet first → IsPrepared (edits.Remove table name) sheet aims.Still first new
    → IsReturning (Some (record { table = table; name = name; seats = seats })) goal first new
returning-made table name None goal sheet first new none valid h goes left = left-returned table name goal sheet first new valid h goes left.awaits left.ready.moved
returning-made table name (Some seats) goal sheet first new none valid h goes left = absurd (cc)

-- one that stood there waits for its row
pub returning-there : (table : Table) (name : List ℕ) (seats : Option Seats) (goal sheet : BalanceSheet) (first : KeptRolls) → is_some seats ≡ true → AreRollsOf sheet first
    → GoesBack (record { table = table; name = name; seats = seats }) goal sheet first → IsReturning (Some (record { table = table; name = name; seats = seats })) goal first first
returning-there table name (Some seats) goal sheet first there h goes = record { still = refl; sheet = sheet; kept = h; goes = goes }
returning-there table name None goal sheet first there h goes = absurd (cc)

-- one that stood nowhere has returned already
pub returned-already : (standing : Option Standing) (goal : BalanceSheet) (first now : KeptRolls) → stood_nowhere standing ≡ true → IsReturning standing goal first now → HaveReturned standing goal first now
returned-already standing goal first now nowhere_then returning = subst (λ b. IsReturningBy b standing goal first now) nowhere_then returning

pub returning-can : (table : Table) (name : List ℕ) (seats : Seats) (goal : BalanceSheet) (first now : KeptRolls) → IsReturning (Some (record { table = table; name = name; seats = Some seats })) goal first now
    → CanRegain table name seats goal now
returning-can table name seats goal first now returning = can-regain table name seats goal returning.sheet now returning.kept returning.goes

pub returned-then : (table : Table) (name : List ℕ) (seats : Seats) (goal : BalanceSheet) (first now new : KeptRolls) → IsReturning (Some (record { table = table; name = name; seats = Some seats })) goal first now
    → IsRegained table name seats goal now new → HaveReturned (Some (record { table = table; name = name; seats = Some seats })) goal first new
returned-then table name seats goal first now new returning regained =
    subst (λ (f : KeptRolls). HaveReturned (Some (record { table = table; name = name; seats = Some seats })) goal f new) returning.still
    (regained-returned table name seats goal returning.sheet now new returning.kept returning.goes regained)
