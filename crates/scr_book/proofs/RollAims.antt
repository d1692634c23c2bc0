-- Where the row of a record is to stand: the rolls at which it aims are those of which the sheet has it as a member.
use Rattle.std.proofs.Common.{◌≡◌, ◌≢◌, ◌⊎◌, inl, inr, ℕ, zero, suc, ℤ, ◌+◌, ◌<◌, ◌≤◌, Bool, true, false, ◌&&◌, List, [], ◌∷◌, length, map, set, eqb, Option, Some, None, is_some, refl, sym, ap, subst, ◌∙◌, arith}
use Rattle.std.specs.Prelude.{if◌then◌else◌}
use Rattle.std.specs.Option.{option_map, option_map_or}
use Rattle.scr_tables.specs.Names.{same_name}
use Rattle.scr_tables.specs.Tables.{has_row, row_of, with_row}
use Rattle.scr_tables.proofs.TableRows.{row_of-with_row_own, same_name-is, same_or_other}
use Rattle.scr_member_lists.specs.Members.{has}
use Rattle.scr_member_lists.specs.Owned.{number_of}
use Rattle.scr_member_lists.specs.declared.seating.Numbered.{Numbered}
use Rattle.scr_member_lists.specs.Seatings.{NOWHERE, AreSeated, AwaitsSeats, IsFor, Seated, room_of, target}
use Rattle.scr_sheet.specs.BalanceSheet.{group_name, liability_name, position_name, position_of, stake_name}
use Rattle.scr_sheet.specs.CashFlows.{no_flows}
use Rattle.scr_sheet.specs.Members.{edit_name, has_flows, has_liability, has_security, is_closed, is_member, is_member_in, is_paying, table_of}
use Rattle.scr_sheet.specs.Records.{applied, kept_flows, kept_hold, natural}
use Rattle.scr_sheet.specs.declared.{sheet.BalanceSheet.BalanceSheet, edit.Edit.Edit, keys.Projection.Projection, keys.Table.Table, roll.Roll.Roll, rows.Class.Class, rows.Group.Group, rows.Liability.Liability, rows.LiabilityKind.LiabilityKind, rows.Position.Position, rows.Stake.Stake}
use Rattle.scr_sheet.specs.declared.keys.Projection.TheVariants as projections
use Rattle.scr_profile.specs.declared.group_kind.GroupKind.{GroupKind}
use Rattle.scr_sheet.specs.declared.edit.Edit.TheVariants as edits
use Rattle.scr_sheet.specs.declared.keys.Table.TheVariants as tables
use Rattle.scr_sheet.specs.declared.roll.Roll.TheVariants as rolls
use Rattle.scr_sheet.proofs.Membership.{member-other}
use Rattle.scr_book.specs.Rolls.{AreRollsOf, GroupNumber, HaveSeats, IsAwaited, IsOfRoll, KeptRolls, class_number, kind_number, liability_rolls, listed, number_of_roll, roll_of, same_table, seat_of_roll, seated_in, security_rolls}
use Rattle.scr_book.specs.Sums.{place_of}
use Rattle.scr_book.proofs.RollNumbers.{liability-own, security-own}
use Rattle.scr_book.proofs.RollSettled.{same-table}

-- ---- what stays

-- the names of a table where a row takes the place of the one of its name
pub names-replaced : {Row : Type 0} (name_of : Row → List ℕ) (new : Row) (rows : List Row) → has_row name_of (name_of new) rows ≡ true
    → map name_of (with_row name_of new rows) ≡ map name_of rows
names-replaced name_of new [] there = absurd (cc)
names-replaced name_of new (row ∷ rows) there = let rest = names-replaced name_of new rows in grind (arith, there, rest, same_name-is (name_of new) (name_of row))

-- a table with a row that is replaced has its seats, and one with a row more awaits them
awaits-row : {Row : Type 0} (name_of : Row → List ℕ) (row : Row) (rows : List Row) (seated : Seated) → AreSeated (map name_of rows) seated → 0 < seated.room
    → AwaitsSeats name_of (name_of row) (with_row name_of row rows) seated
awaits-row name_of row rows seated h room = by (has_row name_of (name_of row) rows) refl
  where
    by : (t : Bool) → has_row name_of (name_of row) rows ≡ t → AwaitsSeats name_of (name_of row) (with_row name_of row rows) seated
    by true e = inl (subst (λ (names : List (List ℕ)). AreSeated names seated) (sym (names-replaced name_of row rows e)) h)
    by false e = inr (record { row = row; named = refl; before = rows; rows = refl; new = e; seats = h; room = room })

module _ (sheet : BalanceSheet) (x : List ℕ) where
  pub apart-securities : (roll : Roll) (rows : List Position) → same_table (table_of roll) tables.Security ≡ false → is_member roll x (record sheet { securities = rows }) ≡ is_member roll x sheet
  apart-securities rolls.Closed rows e = refl
  apart-securities (rolls.Lines currency) rows e = refl
  apart-securities (rolls.Losses kind projection) rows e = refl
  apart-securities rolls.Groups rows e = refl
  apart-securities roll rows e = absurd (cc)

  pub apart-liabilities : (roll : Roll) (rows : List Liability) → same_table (table_of roll) tables.Liability ≡ false → is_member roll x (record sheet { liabilities = rows }) ≡ is_member roll x sheet
  apart-liabilities (rolls.Lines currency) rows e = absurd (cc)
  apart-liabilities (rolls.Losses kind projection) rows e = absurd (cc)
  apart-liabilities roll rows e = refl

  pub apart-funds : (roll : Roll) (rows : List Stake) → same_table (table_of roll) tables.Fund ≡ false → is_member roll x (record sheet { funds = rows }) ≡ is_member roll x sheet
  apart-funds rolls.Closed rows e = absurd (cc)
  apart-funds roll rows e = refl

  pub apart-groups : (roll : Roll) (rows : List Group) → same_table (table_of roll) tables.Group ≡ false → is_member roll x (record sheet { groups = rows }) ≡ is_member roll x sheet
  apart-groups rolls.Groups rows e = absurd (cc)
  apart-groups roll rows e = refl

-- a roll that has a number
module _ (sheet : BalanceSheet) (kept : KeptRolls) (h : AreRollsOf sheet kept) where
  few-in : (table : Table) → same_table table table ≡ true → length (seated_in table kept).rolls ≤ NOWHERE
  few-in tables.Security own = (h.seated tables.Security).few
  few-in tables.Fund own = (h.seated tables.Fund).few
  few-in tables.Liability own = (h.seated tables.Liability).few
  few-in tables.Group own = (h.seated tables.Group).few
  few-in table own = absurd (cc)

  pub few : (roll : Roll) (n : ℕ) → number_of_roll roll kept ≡ Some n → n < NOWHERE
  few roll n e =
      let inside = (h.numbered.own roll n e).0 in
      let most = few-in (table_of roll) (own roll) in
      omega (arith, inside, most)
    where
      own : (roll : Roll) → same_table (table_of roll) (table_of roll) ≡ true
      own (rolls.Class class) = refl
      own rolls.Closed = refl
      own rolls.Bonds = refl
      own rolls.Grouped = refl
      own (rolls.Group group) = refl
      own (rolls.Assets currency) = refl
      own (rolls.Flows currency) = refl
      own (rolls.Lines currency) = refl
      own (rolls.Losses kind projection) = refl
      own rolls.Groups = refl

  -- the roll of a number serves for its seat
  pub serves : (roll : Roll) (n : ℕ) → number_of_roll roll kept ≡ Some n → IsFor (listed roll kept) (seat_of_roll roll) n
  serves roll n e = inr (h.numbered.own roll n e)

  pub others-at : (edit : Edit) (name : List ℕ) → name ≡ edit_name edit → (roll : Roll) (other : List ℕ) → same_name name other ≡ false → has other (roll_of roll kept) ≡ is_member roll other (applied edit sheet)
  others-at edit name named roll other apart =
      h.members roll other ∙ sym (member-other sheet roll other edit (ap (λ n. same_name n other) (sym named) ∙ apart))

  -- ---- a security

  module _ (name : List ℕ) (class : Class) (group : Option (List ℕ)) (currency : List ℕ) (duration : ℤ) (group_number assets : ℕ)
      (is_group : GroupNumber group group_number kept) (is_assets : number_of currency kept.of_assets ≡ Some assets) where
    abbrev edit : Edit
    edit = edits.Security name class group currency duration

    abbrev after : BalanceSheet
    after = applied edit sheet

    abbrev numbers : List ℕ
    numbers = class_number class ∷ (if is_some group then 10 else NOWHERE) ∷ group_number ∷ assets ∷ (assets + 1) ∷ []

    abbrev aims : Bool → List ℕ
    aims b = if b then numbers else set numbers 4 NOWHERE

    abbrev aim : ℕ → ℕ
    aim seat = target seat (security_rolls numbers (position_of name after.securities))

    -- the row after the record
    abbrev pub row : Position
    row = record {
      security = record { name = name; class = class; group = group; currency = currency; duration = natural duration; flows = kept_flows name sheet.securities };
      held = kept_hold name sheet.securities;
    }

    found : position_of name after.securities ≡ Some row
    found = row_of-with_row_own position_name row sheet.securities

    aim-is : (seat : ℕ) → aim seat ≡ target seat (aims (is_paying row))
    aim-is seat = ap (λ o. target seat (security_rolls numbers o)) found

    of-group : (of : Option (List ℕ)) → of ≡ group → IsFor kept.securities.rolls 2 group_number
    of-group None e = inl (subst (λ (o : Option (List ℕ)). GroupNumber o group_number kept) (sym e) is_group)
    of-group (Some g) e = serves (rolls.Group g) group_number (subst (λ (o : Option (List ℕ)). GroupNumber o group_number kept) (sym e) is_group)

    of-grouped : (b : Bool) → IsFor kept.securities.rolls 1 (if b then 10 else NOWHERE)
    of-grouped true = serves rolls.Grouped 10 refl
    of-grouped false = inl refl

    pub fits-in : (b : Bool) (seat : ℕ) → IsFor kept.securities.rolls seat (target seat (aims b))
    fits-in true zero = serves (rolls.Class class) (class_number class) refl
    fits-in false zero = serves (rolls.Class class) (class_number class) refl
    fits-in true (suc zero) = of-grouped (is_some group)
    fits-in false (suc zero) = of-grouped (is_some group)
    fits-in true (suc (suc zero)) = of-group group refl
    fits-in false (suc (suc zero)) = of-group group refl
    fits-in true (suc (suc (suc zero))) = serves (rolls.Assets currency) assets is_assets
    fits-in false (suc (suc (suc zero))) = serves (rolls.Assets currency) assets is_assets
    fits-in true (suc (suc (suc (suc zero)))) = serves (rolls.Flows currency) (assets + 1) (ap (option_map (λ n. n + 1)) is_assets)
    fits-in false (suc (suc (suc (suc zero)))) = inl refl
    fits-in true (suc (suc (suc (suc (suc seat))))) = inl refl
    fits-in false (suc (suc (suc (suc (suc seat))))) = inl refl

    -- and each is a roll's
    group-owned : (of : Option (List ℕ)) → of ≡ group → group_number ≢ NOWHERE → IsOfRoll tables.Security group_number kept
    group-owned None e some = absurd (some (subst (λ (o : Option (List ℕ)). GroupNumber o group_number kept) (sym e) is_group))
    group-owned (Some g) e some = record { roll = rolls.Group g; of = refl; numbered = subst (λ (o : Option (List ℕ)). GroupNumber o group_number kept) (sym e) is_group }

    grouped-owned : (b : Bool) → (if b then 10 else NOWHERE) ≢ NOWHERE → IsOfRoll tables.Security (if b then 10 else NOWHERE) kept
    grouped-owned true some = record { roll = rolls.Grouped; of = refl; numbered = refl }
    grouped-owned false some = absurd (some refl)

    owned-in : (b : Bool) (seat : ℕ) → target seat (aims b) ≢ NOWHERE → IsOfRoll tables.Security (target seat (aims b)) kept
    owned-in true zero some = record { roll = rolls.Class class; of = refl; numbered = refl }
    owned-in false zero some = record { roll = rolls.Class class; of = refl; numbered = refl }
    owned-in true (suc zero) some = grouped-owned (is_some group) some
    owned-in false (suc zero) some = grouped-owned (is_some group) some
    owned-in true (suc (suc zero)) some = group-owned group refl some
    owned-in false (suc (suc zero)) some = group-owned group refl some
    owned-in true (suc (suc (suc zero))) some = record { roll = rolls.Assets currency; of = refl; numbered = is_assets }
    owned-in false (suc (suc (suc zero))) some = record { roll = rolls.Assets currency; of = refl; numbered = is_assets }
    owned-in true (suc (suc (suc (suc zero)))) some = record { roll = rolls.Flows currency; of = refl; numbered = ap (option_map (λ n. n + 1)) is_assets }
    owned-in false (suc (suc (suc (suc zero)))) some = absurd (some refl)
    owned-in true (suc (suc (suc (suc (suc seat))))) some = absurd (some refl)
    owned-in false (suc (suc (suc (suc (suc seat))))) some = absurd (some refl)

    -- what is masked is nowhere
    unmasked : (b : Bool) (seat : ℕ) → target seat (aims b) ≢ NOWHERE → target seat (aims b) ≡ target seat numbers
    unmasked true seat some = refl
    unmasked false zero some = refl
    unmasked false (suc zero) some = refl
    unmasked false (suc (suc zero)) some = refl
    unmasked false (suc (suc (suc zero))) some = refl
    unmasked false (suc (suc (suc (suc zero)))) some = absurd (some refl)
    unmasked false (suc (suc (suc (suc (suc seat))))) some = refl

    own-security : (roll : Roll) (n : ℕ) → same_table (table_of roll) tables.Security ≡ true → number_of_roll roll kept ≡ Some n → eqb (aim (seat_of_roll roll)) n ≡ is_member roll name after
    own-security roll n same e =
        ap (λ m. eqb m n) (aim-is (seat_of_roll roll))
        ∙ security-own kept h.numbered few row group_number assets is_group is_assets roll n same e
        ∙ sym (ap (λ o. option_map_or (has_security roll) o false) found)
        ∙ sym (ap (λ (t : Table). is_member_in t roll name after) (same-table (table_of roll) tables.Security same))

    -- a group, and a currency, that has no number is none of the row's
    no-group : (of : Option (List ℕ)) → GroupNumber of group_number kept → (g : List ℕ) → number_of g kept.of_groups ≡ None → option_map_or (same_name g) of false ≡ false
    no-group None is g e = refl
    no-group (Some o) is g e =
        same_or_other g o
        (λ same. let one : g ≡ o = same_name-is g o same in let found : number_of g kept.of_groups ≡ Some group_number = ap (λ n. number_of n kept.of_groups) one ∙ is in absurd (cc))
        (λ other. other)

    no-currency : (c : List ℕ) → number_of c kept.of_assets ≡ None → same_name c currency ≡ false
    no-currency c e =
        same_or_other c currency
        (λ same. let one : c ≡ currency = same_name-is c currency same in let found : number_of c kept.of_assets ≡ Some assets = ap (λ n. number_of n kept.of_assets) one ∙ is_assets in absurd (cc))
        (λ other. other)

    none-security : (roll : Roll) → same_table (table_of roll) tables.Security ≡ true → number_of_roll roll kept ≡ None → is_member roll name after ≡ false
    none-security (rolls.Group g) same e = ap (λ o. option_map_or (has_security (rolls.Group g)) o false) found ∙ no-group group is_group g e
    none-security (rolls.Assets c) same e = ap (λ o. option_map_or (has_security (rolls.Assets c)) o false) found ∙ no-currency c e
    none-security (rolls.Flows c) same e =
        ap (λ o. option_map_or (has_security (rolls.Flows c)) o false) found
        ∙ ap (λ b. b && is_paying row) (no-currency c (by (number_of c kept.of_assets) refl e))
      where
        by : (of : Option ℕ) → number_of c kept.of_assets ≡ of → option_map (λ n. n + 1) of ≡ None → number_of c kept.of_assets ≡ None
        by None is none = is
        by (Some k) is none = absurd (cc)
    none-security roll same e = absurd (cc)

    pub aimed-security : 0 < kept.securities.room → ((seat : ℕ) → target seat numbers ≢ NOWHERE → 0 < room_of (target seat numbers) kept.securities.rolls)
        → IsAwaited tables.Security name aim after kept
    aimed-security row_room rooms = record {
      known = record {
        numbered = h.numbered;
        elsewhere = elsewhere;
        own = own-security;
        none = none-security;
        aimed = λ seat some. subst (λ n. IsOfRoll tables.Security n kept) (sym (aim-is seat)) (owned-in (is_paying row) seat (λ e. some (aim-is seat ∙ e)));
        others = others;
      };
      seated = awaits-row position_name row sheet.securities kept.securities (h.seated tables.Security) row_room;
      there = ap is_some found;
      fits = λ seat inside. subst (λ n. IsFor kept.securities.rolls seat n) (sym (aim-is seat)) (fits-in (is_paying row) seat);
      room = λ seat some other.
          let is = aim-is seat ∙ unmasked (is_paying row) seat (λ e. some (aim-is seat ∙ e)) in
          subst (λ n. 0 < room_of n kept.securities.rolls) (sym is) (rooms seat (λ e. some (is ∙ e)));
    }
      where
        elsewhere : (other : Table) → same_table other tables.Security ≡ false → HaveSeats other after kept
        elsewhere tables.Security apart = absurd (cc)
        elsewhere tables.Fund apart = h.seated tables.Fund
        elsewhere tables.Liability apart = h.seated tables.Liability
        elsewhere tables.Group apart = h.seated tables.Group
        elsewhere tables.Bank apart = tt
        elsewhere tables.Rein apart = tt
        elsewhere tables.Curve apart = tt

        others : (roll : Roll) (other : List ℕ) → ((same_table (table_of roll) tables.Security ≡ false) ⊎ (same_name name other ≡ false)) → has other (roll_of roll kept) ≡ is_member roll other after
        others roll other (inl apart) = h.members roll other ∙ sym (apart-securities sheet other roll after.securities apart)
        others roll other (inr apart) = others-at edit name refl roll other apart

  -- ---- a fund

  module _ (name : List ℕ) (components : List (List ℕ × ℤ)) where
    abbrev fund_after : BalanceSheet
    fund_after = applied (edits.Fund name components) sheet

    abbrev pub stake : Stake
    stake = record { fund = record { name = name; components = components }; held = option_map_or (λ s. s.held) (row_of stake_name name sheet.funds) 0 }

    stake-found : row_of stake_name name fund_after.funds ≡ Some stake
    stake-found = row_of-with_row_own stake_name stake sheet.funds

    -- the first seat alone is taken
    first-fits : (lists : List Numbered) (n seat : ℕ) → IsFor lists 0 n → IsFor lists seat (target seat (n ∷ []))
    first-fits lists n zero fit = fit
    first-fits lists n (suc seat) fit = inl refl

    first-room : (lists : List Numbered) (n seat : ℕ) → (n ≢ NOWHERE → 0 < room_of n lists) → target seat (n ∷ []) ≢ NOWHERE → 0 < room_of (target seat (n ∷ [])) lists
    first-room lists n zero room some = room some
    first-room lists n (suc seat) room some = absurd (some refl)

    pub aimed-fund : (number : ℕ) → number ≡ (if is_closed stake then 0 else NOWHERE) → 0 < kept.funds.room → (number ≢ NOWHERE → 0 < room_of number kept.funds.rolls)
        → IsAwaited tables.Fund name (λ seat. target seat (number ∷ [])) fund_after kept
    aimed-fund number is row_room room = record {
      known = record {
        numbered = h.numbered;
        elsewhere = elsewhere;
        own = own;
        none = none;
        aimed = aimed;
        others = others;
      };
      seated = awaits-row stake_name stake sheet.funds kept.funds (h.seated tables.Fund) row_room;
      there = ap is_some stake-found;
      fits = λ seat inside. first-fits kept.funds.rolls number seat (closed-fits (is_closed stake) is);
      room = λ seat some other. first-room kept.funds.rolls number seat room some;
    }
      where
        closed-fits : (b : Bool) → number ≡ (if b then 0 else NOWHERE) → IsFor kept.funds.rolls 0 number
        closed-fits true e = subst (λ n. IsFor kept.funds.rolls 0 n) (sym e) (serves rolls.Closed 0 refl)
        closed-fits false e = inl e

        closed-owned : (b : Bool) → number ≡ (if b then 0 else NOWHERE) → number ≢ NOWHERE → IsOfRoll tables.Fund number kept
        closed-owned true e some = subst (λ n. IsOfRoll tables.Fund n kept) (sym e) (record { roll = rolls.Closed; of = refl; numbered = refl })
        closed-owned false e some = absurd (some e)

        aimed : (seat : ℕ) → target seat (number ∷ []) ≢ NOWHERE → IsOfRoll tables.Fund (target seat (number ∷ [])) kept
        aimed zero some = closed-owned (is_closed stake) is some
        aimed (suc seat) some = absurd (some refl)

        elsewhere : (other : Table) → same_table other tables.Fund ≡ false → HaveSeats other fund_after kept
        elsewhere tables.Security apart = h.seated tables.Security
        elsewhere tables.Fund apart = absurd (cc)
        elsewhere tables.Liability apart = h.seated tables.Liability
        elsewhere tables.Group apart = h.seated tables.Group
        elsewhere tables.Bank apart = tt
        elsewhere tables.Rein apart = tt
        elsewhere tables.Curve apart = tt

        told : (b : Bool) → eqb (if b then 0 else NOWHERE) 0 ≡ b
        told true = refl
        told false = refl

        own : (roll : Roll) (n : ℕ) → same_table (table_of roll) tables.Fund ≡ true → number_of_roll roll kept ≡ Some n → eqb (target (seat_of_roll roll) (number ∷ [])) n ≡ is_member roll name fund_after
        own rolls.Closed n same e =
            let zero_is : 0 ≡ n = cc in
            ap (eqb number) (sym zero_is) ∙ ap (λ m. eqb m 0) is ∙ told (is_closed stake) ∙ sym (ap (λ o. option_map_or is_closed o false) stake-found)
        own roll n same e = absurd (cc)

        none : (roll : Roll) → same_table (table_of roll) tables.Fund ≡ true → number_of_roll roll kept ≡ None → is_member roll name fund_after ≡ false
        none rolls.Closed same e = absurd (cc)
        none roll same e = absurd (cc)

        others : (roll : Roll) (other : List ℕ) → ((same_table (table_of roll) tables.Fund ≡ false) ⊎ (same_name name other ≡ false)) → has other (roll_of roll kept) ≡ is_member roll other fund_after
        others roll other (inl apart) = h.members roll other ∙ sym (apart-funds sheet other roll fund_after.funds apart)
        others roll other (inr apart) = others-at (edits.Fund name components) name refl roll other apart

  -- ---- a group

  module _ (name : List ℕ) (kind : GroupKind) (step : Option ℕ) where
    abbrev group_after : BalanceSheet
    group_after = applied (edits.Group name kind step) sheet

    abbrev pub group-row : Group
    group-row = record { name = name; kind = kind; step = step }

    group-found : row_of group_name name group_after.groups ≡ Some group-row
    group-found = row_of-with_row_own group_name group-row sheet.groups

    pub aimed-group : 0 < kept.groups.room → 0 < room_of 0 kept.groups.rolls → IsAwaited tables.Group name (λ seat. target seat (0 ∷ [])) group_after kept
    aimed-group row_room room = record {
      known = record {
        numbered = h.numbered;
        elsewhere = elsewhere;
        own = own;
        none = none;
        aimed = aimed;
        others = others;
      };
      seated = awaits-row group_name group-row sheet.groups kept.groups (h.seated tables.Group) row_room;
      there = ap is_some group-found;
      fits = λ seat inside. first-fits [] [] kept.groups.rolls 0 seat (serves rolls.Groups 0 refl);
      room = λ seat some other. first-room [] [] kept.groups.rolls 0 seat (λ z. room) some;
    }
      where
        elsewhere : (other : Table) → same_table other tables.Group ≡ false → HaveSeats other group_after kept
        elsewhere tables.Security apart = h.seated tables.Security
        elsewhere tables.Fund apart = h.seated tables.Fund
        elsewhere tables.Liability apart = h.seated tables.Liability
        elsewhere tables.Group apart = absurd (cc)
        elsewhere tables.Bank apart = tt
        elsewhere tables.Rein apart = tt
        elsewhere tables.Curve apart = tt

        aimed : (seat : ℕ) → target seat (0 ∷ []) ≢ NOWHERE → IsOfRoll tables.Group (target seat (0 ∷ [])) kept
        aimed zero some = record { roll = rolls.Groups; of = refl; numbered = refl }
        aimed (suc seat) some = absurd (some refl)

        own : (roll : Roll) (n : ℕ) → same_table (table_of roll) tables.Group ≡ true → number_of_roll roll kept ≡ Some n → eqb (target (seat_of_roll roll) (0 ∷ [])) n ≡ is_member roll name group_after
        own rolls.Groups n same e =
            let is : 0 ≡ n = cc in
            ap (eqb 0) (sym is) ∙ sym (ap is_some group-found)
        own roll n same e = absurd (cc)

        none : (roll : Roll) → same_table (table_of roll) tables.Group ≡ true → number_of_roll roll kept ≡ None → is_member roll name group_after ≡ false
        none rolls.Groups same e = absurd (cc)
        none roll same e = absurd (cc)

        others : (roll : Roll) (other : List ℕ) → ((same_table (table_of roll) tables.Group ≡ false) ⊎ (same_name name other ≡ false)) → has other (roll_of roll kept) ≡ is_member roll other group_after
        others roll other (inl apart) = h.members roll other ∙ sym (apart-groups sheet other roll group_after.groups apart)
        others roll other (inr apart) = others-at (edits.Group name kind step) name refl roll other apart

  -- ---- a liability

  module _ (name : List ℕ) (kind : LiabilityKind) (currency : List ℕ) (lines : ℕ) (is_lines : number_of currency kept.of_lines ≡ Some lines) where
    abbrev liability_after : BalanceSheet
    liability_after = applied (edits.Liability name kind currency) sheet

    abbrev pub liability-row : Liability
    liability-row = record { name = name; kind = kind; currency = currency; flows = option_map_or (λ l. l.flows) (row_of liability_name name sheet.liabilities) no_flows }

    liability-found : row_of liability_name name liability_after.liabilities ≡ Some liability-row
    liability-found = row_of-with_row_own liability_name liability-row sheet.liabilities

    abbrev loss_aim : ℕ → ℕ
    loss_aim seat = target seat (liability_rolls lines (kind_number kind) (row_of liability_name name liability_after.liabilities))

    loss-aim-is : (seat : ℕ) → loss_aim seat ≡ target seat (liability_rolls lines (kind_number kind) (Some liability-row))
    loss-aim-is seat = ap (λ o. target seat (liability_rolls lines (kind_number kind) o)) liability-found

    -- the seats of a liability are those of its projections, that of its currency, and no other
    seat-cases : (P : ℕ → ℕ → Type 0) → ((projection : Projection) → P (place_of projection) (if has_flows projection liability-row then kind_number kind + place_of projection else NOWHERE))
        → P 10 lines → ((seat : ℕ) → 11 ≤ seat → P seat NOWHERE) → (seat : ℕ) → P seat (target seat (liability_rolls lines (kind_number kind) (Some liability-row)))
    seat-cases P each last past zero = each projections.Base
    seat-cases P each last past (suc zero) = each projections.Mortality
    seat-cases P each last past (suc (suc zero)) = each projections.Longevity
    seat-cases P each last past (suc (suc (suc zero))) = each projections.Disability
    seat-cases P each last past (suc (suc (suc (suc zero)))) = each projections.Expense
    seat-cases P each last past (suc (suc (suc (suc (suc zero))))) = each projections.Revision
    seat-cases P each last past (suc (suc (suc (suc (suc (suc zero)))))) = each projections.LapseUp
    seat-cases P each last past (suc (suc (suc (suc (suc (suc (suc zero))))))) = each projections.LapseDown
    seat-cases P each last past (suc (suc (suc (suc (suc (suc (suc (suc zero)))))))) = each projections.LapseMass
    seat-cases P each last past (suc (suc (suc (suc (suc (suc (suc (suc (suc zero))))))))) = each projections.Catastrophe
    seat-cases P each last past (suc (suc (suc (suc (suc (suc (suc (suc (suc (suc zero)))))))))) = last
    seat-cases P each last past (suc (suc (suc (suc (suc (suc (suc (suc (suc (suc (suc seat))))))))))) =
        past (suc (suc (suc (suc (suc (suc (suc (suc (suc (suc (suc seat))))))))))) (omega arith)

    pub aimed-liability : 0 < kept.liabilities.room → 0 < room_of lines kept.liabilities.rolls
        → ((projection : Projection) → 0 < room_of (kind_number kind + place_of projection) kept.liabilities.rolls)
        → IsAwaited tables.Liability name loss_aim liability_after kept
    aimed-liability row_room line_room rooms = record {
      known = record {
        numbered = h.numbered;
        elsewhere = elsewhere;
        own = own;
        none = none;
        aimed = aimed;
        others = others;
      };
      seated = awaits-row liability_name liability-row sheet.liabilities kept.liabilities (h.seated tables.Liability) row_room;
      there = ap is_some liability-found;
      fits = λ seat inside. subst (λ n. IsFor kept.liabilities.rolls seat n) (sym (loss-aim-is seat))
          (seat-cases (IsFor kept.liabilities.rolls) (λ projection. loss-fits projection (has_flows projection liability-row)) (serves (rolls.Lines currency) lines is_lines) (λ s past. inl refl) seat);
      room = λ seat some other. subst (λ n. 0 < room_of n kept.liabilities.rolls) (sym (loss-aim-is seat))
          (seat-cases (λ s n. n ≢ NOWHERE → 0 < room_of n kept.liabilities.rolls) (λ projection. loss-room projection (has_flows projection liability-row)) (λ z. line_room) (λ s past z. absurd (z refl)) seat
          (λ e. some (loss-aim-is seat ∙ e)));
    }
      where
        loss-fits : (projection : Projection) (b : Bool) → IsFor kept.liabilities.rolls (place_of projection) (if b then kind_number kind + place_of projection else NOWHERE)
        loss-fits projection true = serves (rolls.Losses kind projection) (kind_number kind + place_of projection) refl
        loss-fits projection false = inl refl

        loss-owned : (projection : Projection) (b : Bool) → (if b then kind_number kind + place_of projection else NOWHERE) ≢ NOWHERE
            → IsOfRoll tables.Liability (if b then kind_number kind + place_of projection else NOWHERE) kept
        loss-owned projection true some = record { roll = rolls.Losses kind projection; of = refl; numbered = refl }
        loss-owned projection false some = absurd (some refl)

        aimed : (seat : ℕ) → loss_aim seat ≢ NOWHERE → IsOfRoll tables.Liability (loss_aim seat) kept
        aimed seat some =
            subst (λ n. IsOfRoll tables.Liability n kept) (sym (loss-aim-is seat))
            (seat-cases (λ s n. n ≢ NOWHERE → IsOfRoll tables.Liability n kept) (λ projection. loss-owned projection (has_flows projection liability-row))
            (λ z. record { roll = rolls.Lines currency; of = refl; numbered = is_lines }) (λ s past z. absurd (z refl)) seat (λ e. some (loss-aim-is seat ∙ e)))

        loss-room : (projection : Projection) (b : Bool) → (if b then kind_number kind + place_of projection else NOWHERE) ≢ NOWHERE
            → 0 < room_of (if b then kind_number kind + place_of projection else NOWHERE) kept.liabilities.rolls
        loss-room projection true some = rooms projection
        loss-room projection false some = absurd (some refl)

        elsewhere : (other : Table) → same_table other tables.Liability ≡ false → HaveSeats other liability_after kept
        elsewhere tables.Security apart = h.seated tables.Security
        elsewhere tables.Fund apart = h.seated tables.Fund
        elsewhere tables.Liability apart = absurd (cc)
        elsewhere tables.Group apart = h.seated tables.Group
        elsewhere tables.Bank apart = tt
        elsewhere tables.Rein apart = tt
        elsewhere tables.Curve apart = tt

        own : (roll : Roll) (n : ℕ) → same_table (table_of roll) tables.Liability ≡ true → number_of_roll roll kept ≡ Some n → eqb (loss_aim (seat_of_roll roll)) n ≡ is_member roll name liability_after
        own roll n same e =
            ap (λ m. eqb m n) (loss-aim-is (seat_of_roll roll))
            ∙ liability-own kept h.numbered few liability-row lines is_lines roll n same e
            ∙ sym (ap (λ o. option_map_or (has_liability roll) o false) liability-found)
            ∙ sym (ap (λ (t : Table). is_member_in t roll name liability_after) (same-table (table_of roll) tables.Liability same))

        none : (roll : Roll) → same_table (table_of roll) tables.Liability ≡ true → number_of_roll roll kept ≡ None → is_member roll name liability_after ≡ false
        none (rolls.Lines c) same e =
            ap (λ o. option_map_or (has_liability (rolls.Lines c)) o false) liability-found
            ∙ same_or_other c currency
            (λ one. let is : c ≡ currency = same_name-is c currency one in let found : number_of c kept.of_lines ≡ Some lines = ap (λ n. number_of n kept.of_lines) is ∙ is_lines in absurd (cc))
            (λ other. other)
        none roll same e = absurd (cc)

        others : (roll : Roll) (other : List ℕ) → ((same_table (table_of roll) tables.Liability ≡ false) ⊎ (same_name name other ≡ false)) → has other (roll_of roll kept) ≡ is_member roll other liability_after
        others roll other (inl apart) = h.members roll other ∙ sym (apart-liabilities sheet other roll liability_after.liabilities apart)
        others roll other (inr apart) = others-at (edits.Liability name kind currency) name refl roll other apart
