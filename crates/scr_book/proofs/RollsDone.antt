-- A record whose row stands where it is to stand: the rolls are those of the sheet, each has moved as the record says, and all can go
-- back.
use Rattle.std.proofs.Common.{◌≡◌, ℕ, true, List, length, Option, Some, None, refl, sym, ap, subst, ◌∙◌}
use Rattle.std.specs.Prelude.{if◌then◌else◌}
use Rattle.std.specs.List.{IsDistinct}
use Rattle.std.specs.Option.{option_map}
use Rattle.std.proofs.lemmas.Bool.Decides.{Decides-eqb}
use Rattle.scr_tables.specs.Names.{same_name}
use Rattle.scr_member_lists.specs.Members.{has, moved}
use Rattle.scr_member_lists.specs.Seatings.{free, names_of, seats_now, seats_of}
use Rattle.scr_member_lists.specs.declared.seats.Seats.{Seats}
use Rattle.scr_sheet.specs.BalanceSheet.{is_in}
use Rattle.scr_sheet.specs.Members.{edit_name, is_member}
use Rattle.scr_sheet.specs.Records.{applied}
use Rattle.scr_sheet.specs.Validity.{Valid}
use Rattle.scr_sheet.specs.declared.{sheet.BalanceSheet.BalanceSheet, edit.Edit.Edit, keys.Table.Table, roll.Roll.Roll}
use Rattle.scr_book.specs.Places.{names_in}
use Rattle.scr_book.specs.Rolls.{AreMoved, AreReady, AreRollsOf, CanGoBack, IsAimed, IsAwaited, IsReady, IsSettled, IsTaken, aim_name, aim_table, KeptRolls, moves_in, roll_back, roll_of, same_table, seated_in, standing_of, stands_in}
use Rattle.scr_book.specs.declared.rolls.Aim.{Aim}
use Rattle.scr_book.specs.declared.rolls.Aim.TheVariants as aims
use Rattle.scr_book.specs.declared.rolls.Standing.{Standing}
use Rattle.scr_book.proofs.RollGrowth.{same-numbers}
use Rattle.scr_book.proofs.RollSettled.{moved-all, moves, settled-rolls}
use Rattle.scr_book.proofs.RollSteps.{apart-awaited, seated-in}
use Rattle.scr_book.proofs.RollWays.{Way, goes-in, ways}
use Rattle.scr_book.proofs.RollsBack.{can-go-back, goes-back}
use Rattle.scr_book.proofs.RollsStill.{once-in}

-- the way back of a row that is settled
module _ (table : Table) (own : same_table table table ≡ true) (aim : ℕ → ℕ) (edit : Edit) (before : BalanceSheet) (first old new : KeptRolls) (valid : Valid before)
    (table_is : moves_in edit ≡ Some table) (kept : AreRollsOf before old) (ready : AreReady first old)
    (settled : IsSettled table (edit_name edit) aim (applied edit before) old new) where
  abbrev x : List ℕ
  x = edit_name edit

  abbrev after : BalanceSheet
  after = applied edit before

  -- where the row stood, by the rolls as they are now
  pub standing-is : standing_of edit before first ≡ Some (stands_in table x before old)
  standing-is =
      ap (option_map (λ (t : Table). stands_in t x before first)) table_is
      ∙ ap (λ (seats : List Seats). Some (told seats)) (sym (ready.seats table))
    where
      told : List Seats → Standing
      told seats = record { table = table; name = x; seats = if is_in table x before then Some (seats_of (names_in table before) seats x) else None }

  pub settled-returns : (roll : Roll) → roll_back (standing_of edit before first) roll new ≡ roll_of roll first
  settled-returns roll =
      ap (λ (o : Option Standing). roll_back o roll new) standing-is
      ∙ goes-back table own x aim before after old new kept (seated-in table before old own (kept.seated table)) (once-in table before valid own) settled roll
      ∙ ready.rolls roll

  pub settled-back : Way table x before after → CanGoBack (standing_of edit before first) before after new
  settled-back way =
      subst (λ (o : Option Standing). CanGoBack o before after new) (sym standing-is)
      (can-go-back table own x aim before after old new kept (seated-in table before old own (kept.seated table)) (once-in table before valid own) settled
      way.elsewhere way.others (goes-in x before after new (seats_of (names_in table before) (seated_in table old).seats x) table own way (is_in table x before) refl) seats-are)
    where
      seats-are : is_in table x before ≡ true → seats_now (names_in table before) (seated_in table new).seats x ≡ settled.now
      seats-are there =
          let same = way.names there in
          let beside = (seated-in table after new own settled.seated).beside in
          let long : length (seated_in table new).seats ≡ length (names_in table before) = beside ∙ ap length same in
          ap (λ b. if b then seats_of (names_in table before) (seated_in table new).seats x else free) ((Decides-eqb (length (seated_in table new).seats) (length (names_in table before))).1 long)
          ∙ ap (λ (ns : List (List ℕ)). seats_of ns (seated_in table new).seats x) (sym same)
          ∙ settled.held

-- a row that was awaited and is settled
module _ (table : Table) (own : same_table table table ≡ true) (name : List ℕ) (aim : ℕ → ℕ) (sheet : BalanceSheet) (old new : KeptRolls)
    (awaited : IsAwaited table name aim sheet old) (settled : IsSettled table name aim sheet old new) where
  distinct : (n : ℕ) → IsDistinct same_name (names_of n (seated_in table old).rolls)
  distinct = apart-awaited table name sheet old own awaited.seated

  pub then-rolls : AreRollsOf sheet new
  then-rolls = settled-rolls table name aim sheet old new awaited.known distinct settled

  module _ (edit : Edit) (before : BalanceSheet) (first : KeptRolls) (is : sheet ≡ applied edit before) (named : name ≡ edit_name edit) (kept : AreRollsOf before old) (ready : AreReady first old) where
    pub then-moved : AreMoved edit before first new
    then-moved =
        moved-all edit before name first old new named kept ready.rolls
        (λ roll. moves table name aim sheet old new awaited.known distinct settled roll ∙ ap (λ (s : BalanceSheet). moved name (has name (roll_of roll old)) (is_member roll name s) (roll_of roll old)) is)

    settled-then : IsSettled table (edit_name edit) aim (applied edit before) old new
    settled-then = subst (λ (x : List ℕ). IsSettled table x aim (applied edit before) old new) named (subst (λ (s : BalanceSheet). IsSettled table name aim s old new) is settled)

    there-then : is_in table (edit_name edit) (applied edit before) ≡ true
    there-then = subst (λ (x : List ℕ). is_in table x (applied edit before) ≡ true) named (subst (λ (s : BalanceSheet). is_in table name s ≡ true) is awaited.there)

    module _ (valid : Valid before) (table_is : moves_in edit ≡ Some table) where
      pub then-back : CanGoBack (standing_of edit before first) before sheet new
      then-back =
          subst (λ (s : BalanceSheet). CanGoBack (standing_of edit before first) before s new) (sym is)
          (settled-back table own aim edit before first old new valid table_is kept ready settled-then (ways before edit table valid table_is there-then))

      pub then-returns : (roll : Roll) → roll_back (standing_of edit before first) roll new ≡ roll_of roll first
      then-returns roll = settled-returns table own aim edit before first old new valid table_is kept ready settled-then roll

  pub taken : (aim_of : Aim) → ((edit : Edit) (before : BalanceSheet) (first : KeptRolls) → IsReady edit before aim_of first old → IsAimed edit before aim_of first old)
      → aim_table aim_of ≡ table → aim_name aim_of sheet ≡ name → IsTaken sheet aim_of old new
  taken aim_of aimed of called = record {
    rolls = then-rolls;
    moved = λ edit before first is ready. let a = aimed edit before first ready in then-moved edit before first is (named edit before first is a) a.kept a.ready;
    numbers = λ edit before first ready roll n e. same-numbers roll old new settled.of_groups settled.of_assets settled.of_lines ∙ (aimed edit before first ready).ready.numbers roll n e;
    back = λ edit before first valid is ready.
        let a = aimed edit before first ready in
        then-back edit before first is (named edit before first is a) a.kept a.ready valid (a.table ∙ ap (λ t. Some t) of);
    returns = λ edit before first valid is ready.
        let a = aimed edit before first ready in
        then-returns edit before first is (named edit before first is a) a.kept a.ready valid (a.table ∙ ap (λ t. Some t) of);
  }
    where
      named : (edit : Edit) (before : BalanceSheet) (first : KeptRolls) → sheet ≡ applied edit before → IsAimed edit before aim_of first old → name ≡ edit_name edit
      named edit before first is a = sym called ∙ ap (aim_name aim_of) is ∙ a.name

-- where nothing was left to move
pub taken-still : (sheet : BalanceSheet) (kept : KeptRolls) → AreRollsOf sheet kept → IsTaken sheet aims.Still kept kept
taken-still sheet kept h = record {
  rolls = h;
  moved = λ edit before first is ready. ready.moved;
  numbers = λ edit before first ready. ready.numbers;
  back = λ edit before first valid is ready. subst (λ (s : BalanceSheet). CanGoBack (standing_of edit before first) before s kept) (sym is) ready.back;
  returns = λ edit before first valid is ready. ready.returns;
}
