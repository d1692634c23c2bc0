-- Which list it is of which a row is a member in a seat.
use Rattle.std.proofs.Common.{◌≡◌, ◌≢◌, ℕ, true, false, List, Option, Some, None, slice_get, refl, sym, ap, ◌∙◌, arith}
use Rattle.std.specs.Option.{option_map_or}
use Rattle.std.proofs.lemmas.Bool.{and_parts}
use Rattle.scr_tables.proofs.TableRows.{same_name-is}
use Rattle.scr_tables.specs.Names.{same_name}
use Rattle.scr_tables.specs.Tables.{row_of}
use Rattle.scr_member_lists.specs.Members.{name_at}
use Rattle.scr_sheet.specs.BalanceSheet.{liability_name, position_name, position_of}
use Rattle.scr_sheet.specs.Members.{has_flows, has_liability, has_security, is_kind, is_member_in, is_of_class, is_paying, table_of}
use Rattle.scr_sheet.specs.Validity.{Valid}
use Rattle.scr_sheet.specs.declared.{sheet.BalanceSheet.BalanceSheet, keys.Projection.Projection, keys.Table.Table, roll.Roll.Roll, rows.Class.Class, rows.Liability.Liability, rows.LiabilityKind.LiabilityKind, rows.Position.Position}
use Rattle.scr_sheet.specs.declared.keys.Projection.TheVariants as projections
use Rattle.scr_sheet.specs.declared.keys.Table.TheVariants as tables
use Rattle.scr_sheet.specs.declared.roll.Roll.TheVariants as rolls
use Rattle.scr_sheet.specs.declared.rows.Class.TheVariants as classes
use Rattle.scr_sheet.specs.declared.rows.LiabilityKind.TheVariants as kinds
use Rattle.scr_book.specs.Places.{names_in}
use Rattle.scr_book.specs.Rolls.{KeptRolls, number_of_roll, seat_of_roll}
use Rattle.scr_book.specs.Sums.{place_of}
use Rattle.scr_book.proofs.RollSteps.{row-at}
use Rattle.scr_book.proofs.RollsStill.{once-in}
use Rattle.scr_block_graph.specs.BlockNumbers.{sole}
use Rattle.scr_tree.specs.Reading.{IsRollAt}

-- ---- the bonds have one list with their class

pub sole-number : (kept : KeptRolls) (roll : Roll) → number_of_roll (sole roll) kept ≡ number_of_roll roll kept
sole-number kept (rolls.Class class) = refl
sole-number kept rolls.Closed = refl
sole-number kept rolls.Bonds = refl
sole-number kept rolls.Grouped = refl
sole-number kept (rolls.Group group) = refl
sole-number kept (rolls.Assets currency) = refl
sole-number kept (rolls.Flows currency) = refl
sole-number kept (rolls.Lines currency) = refl
sole-number kept (rolls.Losses kind projection) = refl
sole-number kept rolls.Groups = refl

-- ---- words that are told apart

pub class-told : (class of : Class) → is_of_class class of ≡ true → class ≡ of
class-told classes.Type1Equity classes.Type1Equity e = refl
class-told classes.Type1Strategic classes.Type1Strategic e = refl
class-told classes.Type2Equity classes.Type2Equity e = refl
class-told classes.Type2Strategic classes.Type2Strategic e = refl
class-told classes.Infrastructure classes.Infrastructure e = refl
class-told classes.InfrastructureCorporate classes.InfrastructureCorporate e = refl
class-told classes.Property classes.Property e = refl
class-told classes.Bond classes.Bond e = refl
class-told classes.Government classes.Government e = refl
class-told classes.Other classes.Other e = refl
class-told class of e = absurd (cc)

kind-told : (kind of : LiabilityKind) → is_kind kind of ≡ true → kind ≡ of
kind-told kinds.Life kinds.Life e = refl
kind-told kinds.Health kinds.Health e = refl
kind-told kinds.Other kinds.Other e = refl
kind-told kind of e = absurd (cc)

place-below : (projection : Projection) → place_of projection ≢ 10
place-below projections.Base e = absurd (omega (arith, e))
place-below projections.Mortality e = absurd (omega (arith, e))
place-below projections.Longevity e = absurd (omega (arith, e))
place-below projections.Disability e = absurd (omega (arith, e))
place-below projections.Expense e = absurd (omega (arith, e))
place-below projections.Revision e = absurd (omega (arith, e))
place-below projections.LapseUp e = absurd (omega (arith, e))
place-below projections.LapseDown e = absurd (omega (arith, e))
place-below projections.LapseMass e = absurd (omega (arith, e))
place-below projections.Catastrophe e = absurd (omega (arith, e))

pub group-told : (group : List ℕ) (own : Option (List ℕ)) → option_map_or (same_name group) own false ≡ true → own ≡ Some group
group-told group None e = absurd (cc)
group-told group (Some own) e = ap Some (sym (same_name-is group own e))

-- ---- rolls of a security, seat by seat

class-seat : (p : Position) (roll : Roll) → table_of roll ≡ tables.Security → seat_of_roll roll ≡ 0 → has_security roll p ≡ true
    → rolls.Class p.security.class ≡ sole roll
class-seat p (rolls.Class class) t s h = ap rolls.Class (sym (class-told class p.security.class h))
class-seat p rolls.Bonds t s h = ap rolls.Class (sym (class-told classes.Bond p.security.class h))
class-seat p rolls.Closed t s h = absurd (cc)
class-seat p rolls.Grouped t s h = absurd (omega (arith, s))
class-seat p (rolls.Group group) t s h = absurd (omega (arith, s))
class-seat p (rolls.Assets currency) t s h = absurd (omega (arith, s))
class-seat p (rolls.Flows currency) t s h = absurd (omega (arith, s))
class-seat p (rolls.Lines currency) t s h = absurd (cc)
class-seat p (rolls.Losses kind projection) t s h = absurd (cc)
class-seat p rolls.Groups t s h = absurd (cc)

-- the group that the roll is of
group-seat : (p : Position) (roll : Roll) → table_of roll ≡ tables.Security → seat_of_roll roll ≡ 2 → has_security roll p ≡ true
    → (group : List ℕ) × (p.security.group ≡ Some group) × (rolls.Group group ≡ sole roll)
group-seat p (rolls.Class class) t s h = absurd (omega (arith, s))
group-seat p rolls.Bonds t s h = absurd (omega (arith, s))
group-seat p rolls.Closed t s h = absurd (cc)
group-seat p rolls.Grouped t s h = absurd (omega (arith, s))
group-seat p (rolls.Group group) t s h = (group, group-told group p.security.group h, refl)
group-seat p (rolls.Assets currency) t s h = absurd (omega (arith, s))
group-seat p (rolls.Flows currency) t s h = absurd (omega (arith, s))
group-seat p (rolls.Lines currency) t s h = absurd (cc)
group-seat p (rolls.Losses kind projection) t s h = absurd (cc)
group-seat p rolls.Groups t s h = absurd (cc)

assets-seat : (p : Position) (roll : Roll) → table_of roll ≡ tables.Security → seat_of_roll roll ≡ 3 → has_security roll p ≡ true
    → rolls.Assets p.security.currency ≡ sole roll
assets-seat p (rolls.Class class) t s h = absurd (omega (arith, s))
assets-seat p rolls.Bonds t s h = absurd (omega (arith, s))
assets-seat p rolls.Closed t s h = absurd (cc)
assets-seat p rolls.Grouped t s h = absurd (omega (arith, s))
assets-seat p (rolls.Group group) t s h = absurd (omega (arith, s))
assets-seat p (rolls.Assets currency) t s h = ap rolls.Assets (sym (same_name-is currency p.security.currency h))
assets-seat p (rolls.Flows currency) t s h = absurd (omega (arith, s))
assets-seat p (rolls.Lines currency) t s h = absurd (cc)
assets-seat p (rolls.Losses kind projection) t s h = absurd (cc)
assets-seat p rolls.Groups t s h = absurd (cc)

-- no security has a further seat
flows-seat : (p : Position) (roll : Roll) (seat : ℕ) → seat ≢ 0 → seat ≢ 1 → seat ≢ 2 → seat ≢ 3
    → table_of roll ≡ tables.Security → seat_of_roll roll ≡ seat → has_security roll p ≡ true → rolls.Flows p.security.currency ≡ sole roll
flows-seat p (rolls.Class class) seat a b c d t s h = absurd (a (sym s))
flows-seat p rolls.Bonds seat a b c d t s h = absurd (a (sym s))
flows-seat p rolls.Closed seat a b c d t s h = absurd (cc)
flows-seat p rolls.Grouped seat a b c d t s h = absurd (b (sym s))
flows-seat p (rolls.Group group) seat a b c d t s h = absurd (c (sym s))
flows-seat p (rolls.Assets currency) seat a b c d t s h = absurd (d (sym s))
flows-seat p (rolls.Flows currency) seat a b c d t s h =
    ap rolls.Flows (sym (same_name-is currency p.security.currency (and_parts (same_name currency p.security.currency) (is_paying p) h).0))
flows-seat p (rolls.Lines currency) seat a b c d t s h = absurd (cc)
flows-seat p (rolls.Losses kind projection) seat a b c d t s h = absurd (cc)
flows-seat p rolls.Groups seat a b c d t s h = absurd (cc)

-- ---- rolls of a liability

lines-seat : (l : Liability) (roll : Roll) → table_of roll ≡ tables.Liability → seat_of_roll roll ≡ 10 → has_liability roll l ≡ true
    → rolls.Lines l.currency ≡ sole roll
lines-seat l (rolls.Class class) t s h = absurd (cc)
lines-seat l rolls.Bonds t s h = absurd (cc)
lines-seat l rolls.Closed t s h = absurd (cc)
lines-seat l rolls.Grouped t s h = absurd (cc)
lines-seat l (rolls.Group group) t s h = absurd (cc)
lines-seat l (rolls.Assets currency) t s h = absurd (cc)
lines-seat l (rolls.Flows currency) t s h = absurd (cc)
lines-seat l (rolls.Lines currency) t s h = ap rolls.Lines (sym (same_name-is currency l.currency h))
lines-seat l (rolls.Losses kind projection) t s h = absurd (place-below projection s)
lines-seat l rolls.Groups t s h = absurd (cc)

losses-seat : (l : Liability) (roll : Roll) (seat : ℕ) (own : Projection) → seat ≢ 10 → ((projection : Projection) → place_of projection ≡ seat → own ≡ projection)
    → table_of roll ≡ tables.Liability → seat_of_roll roll ≡ seat → has_liability roll l ≡ true → rolls.Losses l.kind own ≡ sole roll
losses-seat l (rolls.Class class) seat own ne is t s h = absurd (cc)
losses-seat l rolls.Bonds seat own ne is t s h = absurd (cc)
losses-seat l rolls.Closed seat own ne is t s h = absurd (cc)
losses-seat l rolls.Grouped seat own ne is t s h = absurd (cc)
losses-seat l (rolls.Group group) seat own ne is t s h = absurd (cc)
losses-seat l (rolls.Assets currency) seat own ne is t s h = absurd (cc)
losses-seat l (rolls.Flows currency) seat own ne is t s h = absurd (cc)
losses-seat l (rolls.Lines currency) seat own ne is t s h = absurd (ne (sym s))
losses-seat l (rolls.Losses kind projection) seat own ne is t s h =
    ap (λ k. rolls.Losses k own) (sym (kind-told kind l.kind (and_parts (is_kind kind l.kind) (has_flows projection l) h).0))
    ∙ ap (rolls.Losses kind) (is projection s)
losses-seat l rolls.Groups seat own ne is t s h = absurd (cc)

-- ---- rolls of the row at a place

module _ (sheet : BalanceSheet) (valid : Valid sheet) (row seat : ℕ) (roll : Roll) where
  as-member : (table : Table) → IsRollAt table row seat sheet roll → is_member_in table roll (name_at row (names_in table sheet)) sheet ≡ true
  as-member table is = ap (λ t. is_member_in t roll (name_at row (names_in table sheet)) sheet) (sym is.table_is) ∙ is.member

  module _ (p : Position) (got : slice_get sheet.securities row ≡ Some p) (is : IsRollAt tables.Security row seat sheet roll) where
    security-has : has_security roll p ≡ true
    security-has =
        let x = name_at row (names_in tables.Security sheet) in
        let found : position_of x sheet.securities ≡ Some p = row-at position_name sheet.securities row p x (once-in tables.Security sheet valid refl) got refl in
        sym (ap (λ o. option_map_or (has_security roll) o false) found) ∙ as-member tables.Security is

    pub class-roll : seat ≡ 0 → rolls.Class p.security.class ≡ sole roll
    class-roll e = class-seat p roll is.table_is (is.seat_is ∙ e) security-has

    pub group-roll : seat ≡ 2 → (group : List ℕ) × (p.security.group ≡ Some group) × (rolls.Group group ≡ sole roll)
    group-roll e = group-seat p roll is.table_is (is.seat_is ∙ e) security-has

    pub assets-roll : seat ≡ 3 → rolls.Assets p.security.currency ≡ sole roll
    assets-roll e = assets-seat p roll is.table_is (is.seat_is ∙ e) security-has

    pub flows-roll : seat ≢ 0 → seat ≢ 1 → seat ≢ 2 → seat ≢ 3 → rolls.Flows p.security.currency ≡ sole roll
    flows-roll a b c d = flows-seat p roll seat a b c d is.table_is is.seat_is security-has

  module _ (l : Liability) (got : slice_get sheet.liabilities row ≡ Some l) (is : IsRollAt tables.Liability row seat sheet roll) where
    liability-has : has_liability roll l ≡ true
    liability-has =
        let x = name_at row (names_in tables.Liability sheet) in
        let found : row_of liability_name x sheet.liabilities ≡ Some l =
        row-at liability_name sheet.liabilities row l x (once-in tables.Liability sheet valid refl) got refl in
        sym (ap (λ o. option_map_or (has_liability roll) o false) found) ∙ as-member tables.Liability is

    pub lines-roll : seat ≡ 10 → rolls.Lines l.currency ≡ sole roll
    lines-roll e = lines-seat l roll is.table_is (is.seat_is ∙ e) liability-has

    pub losses-roll : (own : Projection) → seat ≢ 10 → ((projection : Projection) → place_of projection ≡ seat → own ≡ projection)
        → rolls.Losses l.kind own ≡ sole roll
    losses-roll own ne told = losses-seat l roll seat own ne told is.table_is is.seat_is liability-has
