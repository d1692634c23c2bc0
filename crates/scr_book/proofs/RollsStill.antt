-- Records that move no row in the rolls, and those that drop one.
use Rattle.std.proofs.Common.{◌≡◌, ◌⊎◌, inl, inr, ℕ, ℤ, true, false, List, map, None, is_some, refl, sym, ap, subst, ◌∙◌}
use Rattle.std.specs.List.{IsDistinct}
use Rattle.std.specs.Option.{option_map_or}
use Rattle.scr_tables.specs.Names.{same_name}
use Rattle.scr_tables.proofs.TableRows.{found-changed, names-changed, row_of-without_own}
use Rattle.scr_member_lists.specs.Members.{has, moved}
use Rattle.scr_member_lists.specs.Seatings.{NOWHERE, AreSeated}
use Rattle.scr_member_lists.proofs.Settled.{moved-same}
use Rattle.scr_sheet.specs.BalanceSheet.{group_name, liability_name, position_name, stake_name}
use Rattle.scr_sheet.specs.Members.{edit_name, has_liability, has_security, is_closed, is_member, is_member_in, table_of}
use Rattle.scr_sheet.specs.Records.{applied, natural}
use Rattle.scr_sheet.specs.Validity.{Valid}
use Rattle.scr_sheet.proofs.Holds.{distinct-funds, distinct-left, distinct-right, distinct-securities}
use Rattle.scr_sheet.specs.declared.{sheet.BalanceSheet.BalanceSheet, edit.Edit.Edit, keys.Table.Table, roll.Roll.Roll, rows.Position.Position, rows.Stake.Stake}
use Rattle.scr_sheet.specs.declared.edit.Edit.TheVariants as edits
use Rattle.scr_sheet.specs.declared.keys.Table.TheVariants as tables
use Rattle.scr_sheet.specs.declared.roll.Roll.TheVariants as rolls
use Rattle.scr_book.specs.Places.{names_in}
use Rattle.scr_book.specs.Rolls.{AreMoved, AreRollsOf, HaveSeats, IsKnown, KeptRolls, moves_in, roll_of, same_table}
use Rattle.scr_book.proofs.RollAims.{apart-funds, apart-groups, apart-liabilities, apart-securities, few, others-at}
use Rattle.scr_book.proofs.RollNumbers.{nowhere-apart}
use Rattle.scr_book.proofs.RollSettled.{same-table}

-- what is held of a security or a fund moves it in no roll
held-security : (roll : Roll) (p : Position) (held : ℕ) → has_security roll (record p { held = held }) ≡ has_security roll p
held-security (rolls.Class class) p held = refl
held-security rolls.Bonds p held = refl
held-security rolls.Grouped p held = refl
held-security (rolls.Group group) p held = refl
held-security (rolls.Assets currency) p held = refl
held-security (rolls.Flows currency) p held = refl
held-security roll p held = refl

held-members : (sheet : BalanceSheet) (name : List ℕ) (cents : ℤ) (table : Table) (roll : Roll) (x : List ℕ) → is_member_in table roll x (applied (edits.Hold name cents) sheet) ≡ is_member_in table roll x sheet
held-members sheet name cents tables.Security roll x = found-changed position_name (has_security roll) false (λ (p : Position). record p { held = natural cents }) name sheet.securities (λ p. refl) (λ p. held-security roll p (natural cents)) x
held-members sheet name cents tables.Fund roll x = found-changed stake_name is_closed false (λ (s : Stake). record s { held = natural cents }) name sheet.funds (λ s. refl) (λ s. refl) x
held-members sheet name cents tables.Liability roll x = refl
held-members sheet name cents tables.Group roll x = refl
held-members sheet name cents tables.Bank roll x = refl
held-members sheet name cents tables.Rein roll x = refl
held-members sheet name cents tables.Curve roll x = refl

pub same-members : (old new : BalanceSheet) → new.securities ≡ old.securities → new.funds ≡ old.funds → new.liabilities ≡ old.liabilities → new.groups ≡ old.groups
    → (table : Table) (roll : Roll) (x : List ℕ) → is_member_in table roll x new ≡ is_member_in table roll x old
same-members old new s f l g tables.Security roll x = ap (λ rows. is_member_in tables.Security roll x (record old { securities = rows })) s
same-members old new s f l g tables.Fund roll x = ap (λ rows. is_member_in tables.Fund roll x (record old { funds = rows })) f
same-members old new s f l g tables.Liability roll x = ap (λ rows. is_member_in tables.Liability roll x (record old { liabilities = rows })) l
same-members old new s f l g tables.Group roll x = ap (λ rows. is_member_in tables.Group roll x (record old { groups = rows })) g
same-members old new s f l g tables.Bank roll x = refl
same-members old new s f l g tables.Rein roll x = refl
same-members old new s f l g tables.Curve roll x = refl

pub still-members : (edit : Edit) (sheet : BalanceSheet) → moves_in edit ≡ None → (roll : Roll) (x : List ℕ) → is_member roll x (applied edit sheet) ≡ is_member roll x sheet
still-members (edits.Hold name cents) sheet none roll x = held-members sheet name cents (table_of roll) roll x
still-members (edits.Remove tables.Bank name) sheet none roll x = same-members sheet (applied (edits.Remove tables.Bank name) sheet) refl refl refl refl (table_of roll) roll x
still-members (edits.Remove tables.Rein name) sheet none roll x = same-members sheet (applied (edits.Remove tables.Rein name) sheet) refl refl refl refl (table_of roll) roll x
still-members (edits.Remove tables.Curve name) sheet none roll x = same-members sheet (applied (edits.Remove tables.Curve name) sheet) refl refl refl refl (table_of roll) roll x
still-members (edits.Remove table name) sheet none roll x = absurd (cc)
still-members (edits.Group name kind step) sheet none roll x = absurd (cc)
still-members (edits.Security name class group currency duration) sheet none roll x = absurd (cc)
still-members (edits.Flows name flows) sheet none roll x = absurd (cc)
still-members (edits.Fund name components) sheet none roll x = absurd (cc)
still-members (edits.Liability name kind currency) sheet none roll x = absurd (cc)
still-members (edits.LiabilityFlows name projection flows) sheet none roll x = absurd (cc)
still-members edit sheet none roll x = same-members sheet (applied edit sheet) refl refl refl refl (table_of roll) roll x

still-seats : (edit : Edit) (sheet : BalanceSheet) (kept : KeptRolls) → moves_in edit ≡ None → ((table : Table) → HaveSeats table sheet kept) → (table : Table) → HaveSeats table (applied edit sheet) kept
still-seats (edits.Hold name cents) sheet kept none seated tables.Security =
    subst (λ (names : List (List ℕ)). AreSeated names kept.securities) (sym (names-changed position_name (λ (p : Position). record p { held = natural cents }) name sheet.securities (λ p. refl))) (seated tables.Security)
still-seats (edits.Hold name cents) sheet kept none seated tables.Fund =
    subst (λ (names : List (List ℕ)). AreSeated names kept.funds) (sym (names-changed stake_name (λ (s : Stake). record s { held = natural cents }) name sheet.funds (λ s. refl))) (seated tables.Fund)
still-seats (edits.Hold name cents) sheet kept none seated tables.Liability = seated tables.Liability
still-seats (edits.Hold name cents) sheet kept none seated tables.Group = seated tables.Group
still-seats (edits.Group name kind step) sheet kept none seated table = absurd (cc)
still-seats (edits.Security name class group currency duration) sheet kept none seated table = absurd (cc)
still-seats (edits.Flows name flows) sheet kept none seated table = absurd (cc)
still-seats (edits.Fund name components) sheet kept none seated table = absurd (cc)
still-seats (edits.Liability name kind currency) sheet kept none seated table = absurd (cc)
still-seats (edits.LiabilityFlows name projection flows) sheet kept none seated table = absurd (cc)
still-seats (edits.Remove tables.Security name) sheet kept none seated table = absurd (cc)
still-seats (edits.Remove tables.Fund name) sheet kept none seated table = absurd (cc)
still-seats (edits.Remove tables.Liability name) sheet kept none seated table = absurd (cc)
still-seats (edits.Remove tables.Group name) sheet kept none seated table = absurd (cc)
still-seats edit sheet kept none seated tables.Security = seated tables.Security
still-seats edit sheet kept none seated tables.Fund = seated tables.Fund
still-seats edit sheet kept none seated tables.Liability = seated tables.Liability
still-seats edit sheet kept none seated tables.Group = seated tables.Group
still-seats edit sheet kept none seated table = tt

-- the rolls of a sheet are those of the sheet after such a record
pub still-rolls : (edit : Edit) (sheet : BalanceSheet) (kept : KeptRolls) → moves_in edit ≡ None → AreRollsOf sheet kept → AreRollsOf (applied edit sheet) kept
still-rolls edit sheet kept none h = record {
  numbered = h.numbered;
  seated = still-seats edit sheet kept none h.seated;
  members = λ roll name. h.members roll name ∙ sym (still-members edit sheet none roll name);
}

-- and each stands as the record says
pub unmoved : (edit : Edit) (sheet : BalanceSheet) (kept : KeptRolls) → ((roll : Roll) → is_member roll (edit_name edit) (applied edit sheet) ≡ is_member roll (edit_name edit) sheet) → AreMoved edit sheet kept kept
unmoved edit sheet kept same roll =
    sym (ap (λ b. moved (edit_name edit) (is_member roll (edit_name edit) sheet) b (roll_of roll kept)) (same roll) ∙ moved-same (edit_name edit) (is_member roll (edit_name edit) sheet) (roll_of roll kept))

pub still-moved : (edit : Edit) (sheet : BalanceSheet) (kept : KeptRolls) → moves_in edit ≡ None → AreMoved edit sheet kept kept
still-moved edit sheet kept none = unmoved edit sheet kept (λ roll. still-members edit sheet none roll (edit_name edit))

-- ---- a row that is dropped

-- the names of a table are apart
pub once-in : (table : Table) (sheet : BalanceSheet) → Valid sheet → same_table table table ≡ true → IsDistinct same_name (names_in table sheet)
once-in tables.Group sheet valid own = distinct-left (map group_name sheet.groups) _ valid.named_once
once-in tables.Security sheet valid own = distinct-securities sheet valid.named_once
once-in tables.Fund sheet valid own = distinct-funds sheet valid.named_once
once-in tables.Liability sheet valid own =
    distinct-left (map liability_name sheet.liabilities) _ (distinct-right (map position_name sheet.securities) _ (distinct-right (map group_name sheet.groups) _ valid.named_once))
once-in tables.Bank sheet valid own = absurd (cc)
once-in tables.Rein sheet valid own = absurd (cc)
once-in tables.Curve sheet valid own = absurd (cc)

-- it is a member of no roll of its table any more
pub dropped-member : (table : Table) (name : List ℕ) (sheet : BalanceSheet) → Valid sheet → same_table table table ≡ true → (roll : Roll) → is_member_in table roll name (applied (edits.Remove table name) sheet) ≡ false
dropped-member tables.Security name sheet valid own roll = ap (λ o. option_map_or (has_security roll) o false) (row_of-without_own position_name name sheet.securities (once-in tables.Security sheet valid refl))
dropped-member tables.Fund name sheet valid own roll = ap (λ o. option_map_or is_closed o false) (row_of-without_own stake_name name sheet.funds (once-in tables.Fund sheet valid refl))
dropped-member tables.Liability name sheet valid own roll = ap (λ o. option_map_or (has_liability roll) o false) (row_of-without_own liability_name name sheet.liabilities (once-in tables.Liability sheet valid refl))
dropped-member tables.Group name sheet valid own roll = ap is_some (row_of-without_own group_name name sheet.groups (once-in tables.Group sheet valid refl))
dropped-member tables.Bank name sheet valid own roll = refl
dropped-member tables.Rein name sheet valid own roll = refl
dropped-member tables.Curve name sheet valid own roll = refl

-- another table stays
pub dropped-other : (table : Table) (name : List ℕ) (sheet : BalanceSheet) (roll : Roll) (x : List ℕ) → same_table table table ≡ true → same_table (table_of roll) table ≡ false
    → is_member roll x (applied (edits.Remove table name) sheet) ≡ is_member roll x sheet
dropped-other tables.Security name sheet roll x own other = apart-securities sheet x roll _ other
dropped-other tables.Fund name sheet roll x own other = apart-funds sheet x roll _ other
dropped-other tables.Liability name sheet roll x own other = apart-liabilities sheet x roll _ other
dropped-other tables.Group name sheet roll x own other = apart-groups sheet x roll _ other
dropped-other table name sheet roll x own other = absurd (cc)

pub dropped-seats : (table : Table) (name : List ℕ) (sheet : BalanceSheet) (kept : KeptRolls) → ((other : Table) → HaveSeats other sheet kept)
    → (other : Table) → same_table other table ≡ false → HaveSeats other (applied (edits.Remove table name) sheet) kept
dropped-seats tables.Security name sheet kept seated tables.Security apart = absurd (cc)
dropped-seats tables.Fund name sheet kept seated tables.Fund apart = absurd (cc)
dropped-seats tables.Liability name sheet kept seated tables.Liability apart = absurd (cc)
dropped-seats tables.Group name sheet kept seated tables.Group apart = absurd (cc)
dropped-seats table name sheet kept seated tables.Security apart = seated tables.Security
dropped-seats table name sheet kept seated tables.Fund apart = seated tables.Fund
dropped-seats table name sheet kept seated tables.Liability apart = seated tables.Liability
dropped-seats table name sheet kept seated tables.Group apart = seated tables.Group
dropped-seats table name sheet kept seated other apart = tt

-- the row is to stand nowhere
pub known-dropped : (table : Table) (name : List ℕ) (sheet : BalanceSheet) (kept : KeptRolls) → Valid sheet → AreRollsOf sheet kept → same_table table table ≡ true
    → IsKnown table name (λ seat. NOWHERE) (applied (edits.Remove table name) sheet) kept
known-dropped table name sheet kept valid h own = record {
  numbered = h.numbered;
  elsewhere = dropped-seats table name sheet kept h.seated;
  own = λ roll n same e. nowhere-apart n (few sheet kept h roll n e) ∙ sym (gone roll same);
  none = λ roll same e. gone roll same;
  aimed = λ seat some. absurd (some refl);
  others = others;
}
  where
    gone : (roll : Roll) → same_table (table_of roll) table ≡ true → is_member roll name (applied (edits.Remove table name) sheet) ≡ false
    gone roll same = ap (λ (t : Table). is_member_in t roll name (applied (edits.Remove table name) sheet)) (same-table (table_of roll) table same) ∙ dropped-member table name sheet valid own roll

    others : (roll : Roll) (other : List ℕ) → ((same_table (table_of roll) table ≡ false) ⊎ (same_name name other ≡ false)) → has other (roll_of roll kept) ≡ is_member roll other (applied (edits.Remove table name) sheet)
    others roll other (inl apart) = h.members roll other ∙ sym (dropped-other table name sheet roll other own apart)
    others roll other (inr apart) = others-at sheet kept h (edits.Remove table name) name refl roll other apart
