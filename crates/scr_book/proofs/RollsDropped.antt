-- A row that goes out of its table leaves its rolls, and can go back to them.
use Rattle.std.proofs.Common.{◌≡◌, ◌⊎◌, inl, inr, ℕ, suc, ◌+◌, ◌<◌, ◌≤◌, Bool, true, false, List, [], ◌∷◌, length, map, eqb, slice_get, Option, Some, None, is_some, refl, sym, ap, subst, ◌∙◌, arith}
use Rattle.std.specs.Prelude.{if◌then◌else◌}
use Rattle.std.specs.List.{IsDistinct}
use Rattle.std.specs.Option.{option_map}
use Rattle.std.proofs.lemmas.Bool.Decides.{nat_tests}
use Rattle.std.proofs.lemmas.List.{length-map}
use Rattle.scr_tables.specs.Names.{same_name}
use Rattle.scr_tables.specs.Tables.{has_row, row_of, without}
use Rattle.scr_tables.proofs.PastRows.{back-dropped, back-none, missing}
use Rattle.scr_tables.proofs.TableRows.{names-changed, row_of-later, row_of-without_own, same_name-is, same_or_other}
use Rattle.scr_member_lists.specs.Members.{has, moved}
use Rattle.scr_member_lists.specs.Seatings.{NOWHERE, AreSeated, KeepsRoom, KeepsSeats, Seated, free, names_of, roll_in, seat_of, seats_now, seats_of}
use Rattle.scr_member_lists.specs.declared.seats.Seats.{Seats}
use Rattle.scr_member_lists.proofs.SeatMoves.{nowhere}
use Rattle.scr_member_lists.proofs.SeatReturns.{never-member}
use Rattle.scr_member_lists.proofs.SeatTables.{seats-none}
use Rattle.scr_sheet.specs.BalanceSheet.{group_name, is_in, liability_name, position_name, stake_name}
use Rattle.scr_sheet.specs.Members.{edit_name, is_member, table_of}
use Rattle.scr_sheet.specs.Records.{applied, natural}
use Rattle.scr_sheet.specs.Validity.{Valid}
use Rattle.scr_sheet.specs.declared.{sheet.BalanceSheet.BalanceSheet, edit.Edit.Edit, keys.Table.Table, roll.Roll.Roll, rows.Position.Position, rows.Stake.Stake}
use Rattle.scr_sheet.specs.declared.edit.Edit.TheVariants as edits
use Rattle.scr_sheet.specs.declared.keys.Table.TheVariants as tables
use Rattle.scr_sheet.proofs.Membership.{member-other}
use Rattle.scr_book.specs.Places.{names_in}
use Rattle.scr_book.specs.Rolls.{AreMoved, AreRollsOf, CanGoBack, Goes, GoesIn, HaveSeats, IsDone, IsPrepared, IsSettled, KeptRolls, moves_in, roll_back, same_table, seat_of_roll, seated_in, standing_of, stands_in}
use Rattle.scr_book.specs.declared.rolls.Aim.TheVariants as aims
use Rattle.scr_book.specs.declared.rolls.Standing.{Standing}
use Rattle.scr_book.proofs.RollGrowth.{kept-same, same-numbers}
use Rattle.scr_book.proofs.RollNumbers.{nowhere-apart}
use Rattle.scr_book.proofs.RollSettled.{apart-in, moved-all, moves, settled-rolls}
use Rattle.scr_book.proofs.RollSteps.{seated-in}
use Rattle.scr_book.proofs.RollWays.{Way}
use Rattle.scr_book.proofs.RollsBack.{can-go-back, listed-in}
use Rattle.scr_book.proofs.RollsDone.{settled-back, settled-returns}
use Rattle.scr_book.proofs.RollsStill.{dropped-other, known-dropped, once-in, still-members, still-moved, still-rolls, unmoved}

-- ---- records that move no row

still-names : (edit : Edit) (sheet : BalanceSheet) → moves_in edit ≡ None → (table : Table) → same_table table table ≡ true → names_in table sheet ≡ names_in table (applied edit sheet)
still-names (edits.Hold name cents) sheet none tables.Security own = sym (names-changed position_name (λ (p : Position). record p { held = natural cents }) name sheet.securities (λ p. refl))
still-names (edits.Hold name cents) sheet none tables.Fund own = sym (names-changed stake_name (λ (s : Stake). record s { held = natural cents }) name sheet.funds (λ s. refl))
still-names (edits.Hold name cents) sheet none tables.Liability own = refl
still-names (edits.Hold name cents) sheet none tables.Group own = refl
still-names (edits.Group name kind step) sheet none table own = absurd (cc)
still-names (edits.Security name class group currency duration) sheet none table own = absurd (cc)
still-names (edits.Flows name flows) sheet none table own = absurd (cc)
still-names (edits.Fund name components) sheet none table own = absurd (cc)
still-names (edits.Liability name kind currency) sheet none table own = absurd (cc)
still-names (edits.LiabilityFlows name projection flows) sheet none table own = absurd (cc)
still-names (edits.Remove tables.Security name) sheet none table own = absurd (cc)
still-names (edits.Remove tables.Fund name) sheet none table own = absurd (cc)
still-names (edits.Remove tables.Liability name) sheet none table own = absurd (cc)
still-names (edits.Remove tables.Group name) sheet none table own = absurd (cc)
still-names edit sheet none tables.Security own = refl
still-names edit sheet none tables.Fund own = refl
still-names edit sheet none tables.Liability own = refl
still-names edit sheet none tables.Group own = refl
still-names edit sheet none table own = absurd (cc)

pub done-none : (edit : Edit) (sheet : BalanceSheet) (kept : KeptRolls) → moves_in edit ≡ None → IsDone edit sheet kept kept
done-none edit sheet kept none = record {
  moved = still-moved edit sheet kept none;
  numbers = λ roll n e. e;
  back = subst (λ (o : Option Standing). CanGoBack o sheet (applied edit sheet) kept) (sym standing)
      (record { names = still-names edit sheet none; members = λ roll name. sym (still-members edit sheet none roll name) });
  returns = λ roll. ap (λ (o : Option Standing). roll_back o roll kept) standing;
}
  where
    standing : standing_of edit sheet kept ≡ None
    standing = ap (option_map (λ (t : Table). stands_in t (edit_name edit) sheet kept)) none

pub prepared-none : (edit : Edit) (sheet : BalanceSheet) (kept : KeptRolls) → moves_in edit ≡ None → AreRollsOf sheet kept → IsPrepared edit sheet aims.Still kept kept
prepared-none edit sheet kept none h = record { awaits = still-rolls edit sheet kept none h; ready = done-none edit sheet kept none }

-- banks, reinsurers and curves are members of none
pub prepared-bare : (table : Table) (name : List ℕ) (sheet : BalanceSheet) (kept : KeptRolls) → same_table table table ≡ false → AreRollsOf sheet kept → IsPrepared (edits.Remove table name) sheet aims.Still kept kept
prepared-bare table name sheet kept other h = prepared-none (edits.Remove table name) sheet kept (ap (λ b. if b then Some table else None) other) h

-- ---- a row that is not there

module _ (table : Table) (own : same_table table table ≡ true) (edit : Edit) (before : BalanceSheet) (kept : KeptRolls) (valid : Valid before) (h : AreRollsOf before kept)
    (table_is : moves_in edit ≡ Some table) (absent : is_in table (edit_name edit) before ≡ false) (same : applied edit before ≡ before) where
  abbrev x : List ℕ
  x = edit_name edit

  seated : AreSeated (names_in table before) (seated_in table kept)
  seated = seated-in table before kept own (h.seated table)

  unlisted : has x (names_in table before) ≡ false
  unlisted = sym (listed-in table x before) ∙ absent

  absent-settled : IsSettled table x (λ seat. NOWHERE) before kept kept
  absent-settled = record {
    elsewhere = λ other apart. refl;
    of_groups = refl;
    of_assets = refl;
    of_lines = refl;
    seated = h.seated table;
    keeps = record { count = refl; own = λ n. refl };
    room = λ n. omega arith;
    now = free;
    held = seats-none (names_in table before) (seated_in table kept).seats x seated.beside unlisted;
    stands = λ roll e. nowhere (seat_of_roll roll);
    own = λ seat some. absurd (some (nowhere seat));
    names = names;
  }
    where
      names : (n : ℕ) → n < length (seated_in table kept).rolls
          → names_of n (seated_in table kept).rolls ≡ moved x (has x (names_of n (seated_in table kept).rolls)) (eqb (roll_in (seat_of n (seated_in table kept).rolls) free) n) (names_of n (seated_in table kept).rolls)
      names n inside =
          let most = seated.few in
          let few : n < NOWHERE = omega (arith, inside, most) in
          sym (ap (λ b. moved x b (eqb (roll_in (seat_of n (seated_in table kept).rolls) free) n) (names_of n (seated_in table kept).rolls)) (never-member (names_in table before) (seated_in table kept) x seated unlisted n)
          ∙ ap (λ b. moved x false b (names_of n (seated_in table kept).rolls)) (ap (λ r. eqb r n) (nowhere (seat_of n (seated_in table kept).rolls)) ∙ nowhere-apart n few))

  absent-then : IsSettled table x (λ seat. NOWHERE) (applied edit before) kept kept
  absent-then = subst (λ (s : BalanceSheet). IsSettled table x (λ seat. NOWHERE) s kept kept) (sym same) absent-settled

  pub prepared-still : Way table x before (applied edit before) → IsPrepared edit before aims.Still kept kept
  prepared-still way = record {
    awaits = subst (λ (s : BalanceSheet). AreRollsOf s kept) (sym same) h;
    ready = record {
      moved = unmoved edit before kept (λ roll. ap (is_member roll x) same);
      numbers = λ roll n e. e;
      back = settled-back table own (λ seat. NOWHERE) edit before kept kept kept valid table_is h (kept-same before kept h).ready absent-then way;
      returns = settled-returns table own (λ seat. NOWHERE) edit before kept kept kept valid table_is h (kept-same before kept h).ready absent-then;
    };
  }

-- ---- a row that is dropped

-- where the row of a name is
place-of-row : {Row : Type 0} (name_of : Row → List ℕ) (x : List ℕ) (rows : List Row) → has_row name_of x rows ≡ true → (k : ℕ) × (row : Row) × (slice_get rows k ≡ Some row) × (name_of row ≡ x)
place-of-row name_of x [] there = absurd (cc)
place-of-row {Row} name_of x (row ∷ rows) there =
    same_or_other x (name_of row)
    (λ same. (0, row, refl, sym (same_name-is x (name_of row) same)))
    (λ other.
    let rest = place-of-row name_of x rows (sym (ap is_some (row_of-later name_of x row rows other)) ∙ there) in
    (suc rest.0, rest.1, rest.2, rest.3))

-- the rows without it lead back to those with it
drops : {Row : Type 0} (name_of : Row → List ℕ) (x : List ℕ) (rows : List Row) (seated : Seated) (seats : Seats) → (has_row name_of x rows ≡ true → 0 < seated.room) → IsDistinct same_name (map name_of rows)
    → (t : Bool) → has_row name_of x rows ≡ t → Goes name_of (if t then Some seats else None) x rows (without name_of x rows) seated
drops name_of x rows seated seats room apart true e =
    let at = place-of-row name_of x rows e in
    let back = back-dropped name_of x rows at.0 at.1 (length rows) apart at.2 at.3 (omega arith) in
    let fits : (at.0 ≤ length (without name_of x rows)) × (has_row name_of (name_of at.1) (without name_of x rows) ≡ false) × (length (without name_of x rows) < length rows) = back.1 in
    (λ h. inr (record { row = at.1; named = at.3; place = at.0; before = without name_of x rows; rows = sym back.0; within = fits.0; new = fits.1; seats = h; room = room e }), e)
drops name_of x rows seated seats room apart false e = sym (back-none name_of x rows (missing (row_of name_of x rows) e))

fewer : {Row : Type 0} (name_of : Row → List ℕ) (x : List ℕ) (rows : List Row) → IsDistinct same_name (map name_of rows) → has_row name_of x rows ≡ true
    → length (map name_of (without name_of x rows)) < length (map name_of rows)
fewer name_of x rows apart e =
    let at = place-of-row name_of x rows e in
    let back = back-dropped name_of x rows at.0 at.1 (length rows) apart at.2 at.3 (omega arith) in
    let fits : (at.0 ≤ length (without name_of x rows)) × (has_row name_of (name_of at.1) (without name_of x rows) ≡ false) × (length (without name_of x rows) < length rows) = back.1 in
    let less = fits.2 in
    omega (arith, less, length-map rows name_of, length-map (without name_of x rows) name_of)

module _ (x : List ℕ) (before : BalanceSheet) (valid : Valid before) (new : KeptRolls) (seats : Seats) where
  abbrev gone : Table → BalanceSheet
  gone table = applied (edits.Remove table x) before

  drops-in : (table : Table) → same_table table table ≡ true → (is_in table x before ≡ true → 0 < (seated_in table new).room) → (t : Bool) → is_in table x before ≡ t
      → GoesIn table (record { table = table; name = x; seats = if t then Some seats else None }) before (gone table) new
  drops-in tables.Security own room t e = drops position_name x before.securities new.securities seats room (once-in tables.Security before valid refl) t e
  drops-in tables.Fund own room t e = drops stake_name x before.funds new.funds seats room (once-in tables.Fund before valid refl) t e
  drops-in tables.Liability own room t e = drops liability_name x before.liabilities new.liabilities seats room (once-in tables.Liability before valid refl) t e
  drops-in tables.Group own room t e = drops group_name x before.groups new.groups seats room (once-in tables.Group before valid refl) t e
  drops-in tables.Bank own room t e = absurd (cc)
  drops-in tables.Rein own room t e = absurd (cc)
  drops-in tables.Curve own room t e = absurd (cc)

  fewer-in : (table : Table) → same_table table table ≡ true → is_in table x before ≡ true → length (names_in table (gone table)) < length (names_in table before)
  fewer-in tables.Security own e = fewer position_name x before.securities (once-in tables.Security before valid refl) e
  fewer-in tables.Fund own e = fewer stake_name x before.funds (once-in tables.Fund before valid refl) e
  fewer-in tables.Liability own e = fewer liability_name x before.liabilities (once-in tables.Liability before valid refl) e
  fewer-in tables.Group own e = fewer group_name x before.groups (once-in tables.Group before valid refl) e
  fewer-in tables.Bank own e = absurd (cc)
  fewer-in tables.Rein own e = absurd (cc)
  fewer-in tables.Curve own e = absurd (cc)

  gone-in : (table : Table) → same_table table table ≡ true → is_in table x (gone table) ≡ false
  gone-in tables.Security own = ap is_some (row_of-without_own position_name x before.securities (once-in tables.Security before valid refl))
  gone-in tables.Fund own = ap is_some (row_of-without_own stake_name x before.funds (once-in tables.Fund before valid refl))
  gone-in tables.Liability own = ap is_some (row_of-without_own liability_name x before.liabilities (once-in tables.Liability before valid refl))
  gone-in tables.Group own = ap is_some (row_of-without_own group_name x before.groups (once-in tables.Group before valid refl))
  gone-in tables.Bank own = absurd (cc)
  gone-in tables.Rein own = absurd (cc)
  gone-in tables.Curve own = absurd (cc)

  stay-in : (table other : Table) → same_table table table ≡ true → same_table other table ≡ false → names_in other before ≡ names_in other (gone table)
  stay-in tables.Security tables.Security own apart = absurd (cc)
  stay-in tables.Fund tables.Fund own apart = absurd (cc)
  stay-in tables.Liability tables.Liability own apart = absurd (cc)
  stay-in tables.Group tables.Group own apart = absurd (cc)
  stay-in tables.Bank other own apart = absurd (cc)
  stay-in tables.Rein other own apart = absurd (cc)
  stay-in tables.Curve other own apart = absurd (cc)
  stay-in tables.Security other own apart = refl
  stay-in tables.Fund other own apart = refl
  stay-in tables.Liability other own apart = refl
  stay-in tables.Group other own apart = refl

module _ (table : Table) (own : same_table table table ≡ true) (x : List ℕ) (before : BalanceSheet) (old new : KeptRolls) (valid : Valid before) (h : AreRollsOf before old)
    (elsewhere : (other : Table) → same_table other table ≡ false → seated_in other new ≡ seated_in other old)
    (of_groups : new.of_groups ≡ old.of_groups) (of_assets : new.of_assets ≡ old.of_assets) (of_lines : new.of_lines ≡ old.of_lines)
    (seated : HaveSeats table (applied (edits.Remove table x) before) new)
    (keeps : KeepsSeats (seated_in table old).rolls (seated_in table new).rolls) (room : KeepsRoom (seated_in table old).rolls (seated_in table new).rolls)
    (names : (n : ℕ) → names_of n (seated_in table new).rolls ≡ moved x (has x (names_of n (seated_in table old).rolls)) false (names_of n (seated_in table old).rolls))
    (rows : is_in table x before ≡ true → (seated_in table old).room + 1 ≤ (seated_in table new).room) where
  abbrev after : BalanceSheet
  after = applied (edits.Remove table x) before

  abbrev edit : Edit
  edit = edits.Remove table x

  was : AreSeated (names_in table before) (seated_in table old)
  was = seated-in table before old own (h.seated table)

  is : AreSeated (names_in table after) (seated_in table new)
  is = seated-in table after new own seated

  dropped-settled : IsSettled table x (λ seat. NOWHERE) after old new
  dropped-settled = record {
    elsewhere = elsewhere;
    of_groups = of_groups;
    of_assets = of_assets;
    of_lines = of_lines;
    seated = seated;
    keeps = keeps;
    room = room;
    now = free;
    held = seats-none (names_in table after) (seated_in table new).seats x is.beside (sym (listed-in table x after) ∙ gone-in x before valid new free table own);
    stands = λ roll e. nowhere (seat_of_roll roll);
    own = λ seat some. absurd (some (nowhere seat));
    names = names-then;
  }
    where
      names-then : (n : ℕ) → n < length (seated_in table old).rolls → names_of n (seated_in table new).rolls
          ≡ moved x (has x (names_of n (seated_in table old).rolls)) (eqb (roll_in (seat_of n (seated_in table old).rolls) free) n) (names_of n (seated_in table old).rolls)
      names-then n inside =
          let most = was.few in
          let few : n < NOWHERE = omega (arith, inside, most) in
          names n ∙ ap (λ b. moved x (has x (names_of n (seated_in table old).rolls)) b (names_of n (seated_in table old).rolls))
          (sym (ap (λ r. eqb r n) (nowhere (seat_of n (seated_in table old).rolls)) ∙ nowhere-apart n few))

  distinct : (n : ℕ) → IsDistinct same_name (names_of n (seated_in table old).rolls)
  distinct = apart-in table before old own (h.seated table)

  pub dropped-rolls : AreRollsOf after new
  dropped-rolls = settled-rolls table x (λ seat. NOWHERE) after old new (known-dropped table x before old valid h own) distinct dropped-settled

  pub dropped-moved : AreMoved edit before old new
  dropped-moved =
      moved-all edit before x old old new refl h (λ roll. refl) (moves table x (λ seat. NOWHERE) after old new (known-dropped table x before old valid h own) distinct dropped-settled)

  table-is : moves_in edit ≡ Some table
  table-is = ap (λ b. if b then Some table else None) own

  pub dropped-done : IsDone edit before old new
  unfolding dropped-settled
  dropped-done = record {
    moved = dropped-moved;
    numbers = λ roll n e. same-numbers roll old new of_groups of_assets of_lines ∙ e;
    back = subst (λ (o : Option Standing). CanGoBack o before after new) (sym standing)
        (can-go-back table own x (λ seat. NOWHERE) before after old new h was (once-in table before valid own) dropped-settled
        (λ other apart. stay-in x before valid new free table other own apart) others
        (drops-in x before valid new (seats_of (names_in table before) (seated_in table old).seats x) table own (λ e. let more = rows e in omega (arith, more)) (is_in table x before) refl) seats-are);
    returns = settled-returns table own (λ seat. NOWHERE) edit before old old new valid table-is h (kept-same before old h).ready dropped-settled;
  }
    where
      standing : standing_of edit before old ≡ Some (stands_in table x before old)
      standing = ap (option_map (λ (t : Table). stands_in t x before old)) table-is

      others : (roll : Roll) (name : List ℕ) → ((same_table (table_of roll) table ≡ false) ⊎ (same_name x name ≡ false)) → is_member roll name before ≡ is_member roll name after
      others roll name (inl apart) = sym (dropped-other table x before roll name own apart)
      others roll name (inr apart) = sym (member-other before roll name edit apart)

      seats-are : is_in table x before ≡ true → seats_now (names_in table before) (seated_in table new).seats x ≡ free
      seats-are there =
          let less = fewer-in x before valid new free table own there in
          let beside = is.beside in
          let short : length (seated_in table new).seats < length (names_in table before) = omega (arith, less, beside) in
          let apart : eqb (length (seated_in table new).seats) (length (names_in table before)) ≡ false = grind (arith, nat_tests, short) in
          ap (λ b. if b then seats_of (names_in table before) (seated_in table new).seats x else free) apart

  pub dropped-prepared : IsPrepared edit before aims.Still old new
  dropped-prepared = record { awaits = dropped-rolls; ready = dropped-done }
