-- The member lists of a table that a book keeps are told apart by their numbers.
use Rattle.std.proofs.Common.{◌≡◌, ℕ, ◌+◌, ◌-◌, Bool, true, false, List, [], ◌∷◌, Option, Some, None, get_or, refl, sym, ap, subst, ◌∙◌, arith}
use Rattle.std.specs.Prelude.{◌==◌, if◌then◌else◌, nat_lt}
use Rattle.std.specs.Option.{option_map}
use Rattle.scr_member_lists.specs.Owned.{number_of}
use Rattle.scr_sum_slots.proofs.Views.{no-some, one-some}
use Rattle.scr_sheet.specs.Members.{table_of}
use Rattle.scr_sheet.specs.declared.keys.Projection.{Projection}
use Rattle.scr_sheet.specs.declared.keys.Projection.TheVariants as projections
use Rattle.scr_sheet.specs.declared.keys.Table.{Table}
use Rattle.scr_sheet.specs.declared.keys.Table.TheVariants as tables
use Rattle.scr_sheet.specs.declared.roll.Roll.{Roll}
use Rattle.scr_sheet.specs.declared.roll.Roll.TheVariants as rolls
use Rattle.scr_sheet.specs.declared.rows.Class.{Class}
use Rattle.scr_sheet.specs.declared.rows.Class.TheVariants as classes
use Rattle.scr_sheet.specs.declared.rows.LiabilityKind.{LiabilityKind}
use Rattle.scr_sheet.specs.declared.rows.LiabilityKind.TheVariants as kinds
use Rattle.scr_book.specs.Rolls.{AreNumbered, KeptRolls, class_number, kind_number, number_of_roll, seat_of_roll, seated_in}
use Rattle.scr_book.specs.Sums.{place_of}
use Rattle.scr_member_lists.specs.Seatings.{seat_of}
use Rattle.scr_block_graph.specs.BlockNumbers.{AreListsApart, sole}

-- whose list it is, if it is a group's or a currency's
abbrev owner : Roll → List ℕ
owner (rolls.Group group) = group
owner (rolls.Assets currency) = currency
owner (rolls.Flows currency) = currency
owner (rolls.Lines currency) = currency
owner roll = []

-- ---- one owner to a number

abbrev IsSecurities : KeptRolls → (of_group of_assets of_flows : Bool) → List ℕ → ℕ → Type 0
IsSecurities kept true b c name number = number_of name kept.of_groups ≡ Some number
IsSecurities kept false true c name number = number_of name kept.of_assets ≡ Some number
IsSecurities kept false false true name number = option_map (λ n. n + 1) (number_of name kept.of_assets) ≡ Some number
IsSecurities kept false false false name number = name ≡ []

abbrev IsLiabilities : KeptRolls → (of_lines : Bool) → List ℕ → ℕ → Type 0
IsLiabilities kept true name number = number_of name kept.of_lines ≡ Some number
IsLiabilities kept false name number = name ≡ []

abbrev IsOwned : KeptRolls → Table → ℕ → List ℕ → ℕ → Type 0
IsOwned kept tables.Security seat name number = IsSecurities kept (seat == 2) (seat == 3) (seat == 4) name number
IsOwned kept tables.Liability seat name number = IsLiabilities kept (seat == 10) name number
IsOwned kept table seat name number = name ≡ []

seats-few : (projection : Projection) → (place_of projection == 10) ≡ false
seats-few projections.Base = refl
seats-few projections.Mortality = refl
seats-few projections.Longevity = refl
seats-few projections.Disability = refl
seats-few projections.Expense = refl
seats-few projections.Revision = refl
seats-few projections.LapseUp = refl
seats-few projections.LapseDown = refl
seats-few projections.LapseMass = refl
seats-few projections.Catastrophe = refl

owned : (kept : KeptRolls) (roll : Roll) (number : ℕ) → number_of_roll roll kept ≡ Some number
    → IsOwned kept (table_of roll) (seat_of_roll roll) (owner roll) number
owned kept (rolls.Class class) number is = refl
owned kept rolls.Closed number is = refl
owned kept rolls.Bonds number is = refl
owned kept rolls.Grouped number is = refl
owned kept (rolls.Group group) number is = is
owned kept (rolls.Assets currency) number is = is
owned kept (rolls.Flows currency) number is = is
owned kept (rolls.Lines currency) number is = is
owned kept (rolls.Losses kind projection) number is =
    subst (λ t. IsLiabilities kept t [] number) (sym (seats-few projection)) refl
owned kept rolls.Groups number is = refl

before-next : (found : Option ℕ) (number : ℕ) → option_map (λ n. n + 1) found ≡ Some number → found ≡ Some (number - 1)
before-next None number is = absurd (no-some is)
before-next (Some n) number is = let e : n + 1 ≡ number = one-some is in ap Some (omega (arith, e))

securities-owner : (kept : KeptRolls) → AreNumbered kept → (a b c : Bool) (one other : List ℕ) (number : ℕ)
    → IsSecurities kept a b c one number → IsSecurities kept a b c other number → one ≡ other
securities-owner kept are true b c one other number x y = are.groups one other number x y
securities-owner kept are false true c one other number x y = are.assets one other number x y
securities-owner kept are false false true one other number x y =
    are.assets one other (number - 1) (before-next (number_of one kept.of_assets) number x) (before-next (number_of other kept.of_assets) number y)
securities-owner kept are false false false one other number x y = x ∙ sym y

liabilities-owner : (kept : KeptRolls) → AreNumbered kept → (a : Bool) (one other : List ℕ) (number : ℕ)
    → IsLiabilities kept a one number → IsLiabilities kept a other number → one ≡ other
liabilities-owner kept are true one other number x y = are.lines one other number x y
liabilities-owner kept are false one other number x y = x ∙ sym y

one-owner : (kept : KeptRolls) → AreNumbered kept → (table : Table) (seat : ℕ) (one other : List ℕ) (number : ℕ)
    → IsOwned kept table seat one number → IsOwned kept table seat other number → one ≡ other
one-owner kept are tables.Security seat one other number x y =
    securities-owner kept are (seat == 2) (seat == 3) (seat == 4) one other number x y
one-owner kept are tables.Liability seat one other number x y = liabilities-owner kept are (seat == 10) one other number x y
one-owner kept are tables.Fund seat one other number x y = x ∙ sym y
one-owner kept are tables.Group seat one other number x y = x ∙ sym y
one-owner kept are tables.Curve seat one other number x y = x ∙ sym y
one-owner kept are tables.Bank seat one other number x y = x ∙ sym y
one-owner kept are tables.Rein seat one other number x y = x ∙ sym y

-- ---- the list of a seat, an owner and a number

abbrev class-at : ℕ → Class
class-at number = get_or (classes.Type1Equity ∷ classes.Type1Strategic ∷ classes.Type2Equity ∷ classes.Type2Strategic ∷ classes.Infrastructure
    ∷ classes.InfrastructureCorporate ∷ classes.Property ∷ classes.Bond ∷ classes.Government ∷ []) number classes.Other

class-back : (class : Class) → class-at (class_number class) ≡ class
class-back classes.Type1Equity = refl
class-back classes.Type1Strategic = refl
class-back classes.Type2Equity = refl
class-back classes.Type2Strategic = refl
class-back classes.Infrastructure = refl
class-back classes.InfrastructureCorporate = refl
class-back classes.Property = refl
class-back classes.Bond = refl
class-back classes.Government = refl
class-back classes.Other = refl

abbrev projection-at : ℕ → Projection
projection-at place = get_or (projections.Base ∷ projections.Mortality ∷ projections.Longevity ∷ projections.Disability ∷ projections.Expense
    ∷ projections.Revision ∷ projections.LapseUp ∷ projections.LapseDown ∷ projections.LapseMass ∷ []) place projections.Catastrophe

projection-back : (projection : Projection) → projection-at (place_of projection) ≡ projection
projection-back projections.Base = refl
projection-back projections.Mortality = refl
projection-back projections.Longevity = refl
projection-back projections.Disability = refl
projection-back projections.Expense = refl
projection-back projections.Revision = refl
projection-back projections.LapseUp = refl
projection-back projections.LapseDown = refl
projection-back projections.LapseMass = refl
projection-back projections.Catastrophe = refl

abbrev kind-at : ℕ → LiabilityKind
kind-at number = if nat_lt number 10 then kinds.Life else (if nat_lt number 20 then kinds.Health else kinds.Other)

kind-back : (kind : LiabilityKind) → kind-at (kind_number kind) ≡ kind
kind-back kinds.Life = refl
kind-back kinds.Health = refl
kind-back kinds.Other = refl

abbrev securities-at : ℕ → List ℕ → ℕ → Roll
securities-at seat name number =
    if seat == 0 then rolls.Class (class-at number)
    else (if seat == 1 then rolls.Grouped
    else (if seat == 2 then rolls.Group name
    else (if seat == 3 then rolls.Assets name
    else rolls.Flows name)))

abbrev liabilities-at : Bool → ℕ → List ℕ → ℕ → Roll
liabilities-at true seat name number = rolls.Lines name
liabilities-at false seat name number = rolls.Losses (kind-at (number - seat)) (projection-at seat)

abbrev roll-at : Table → ℕ → List ℕ → ℕ → Roll
roll-at tables.Security seat name number = securities-at seat name number
roll-at tables.Liability seat name number = liabilities-at (seat == 10) seat name number
roll-at tables.Fund seat name number = rolls.Closed
roll-at table seat name number = rolls.Groups

led-back : (kept : KeptRolls) (roll : Roll) (number : ℕ) → number_of_roll roll kept ≡ Some number
    → roll-at (table_of roll) (seat_of_roll roll) (owner roll) number ≡ sole roll
led-back kept (rolls.Class class) number is =
    ap (λ n. rolls.Class (class-at n)) (sym (one-some is)) ∙ ap rolls.Class (class-back class)
led-back kept rolls.Closed number is = refl
led-back kept rolls.Bonds number is = ap (λ n. rolls.Class (class-at n)) (sym (one-some is))
led-back kept rolls.Grouped number is = refl
led-back kept (rolls.Group group) number is = refl
led-back kept (rolls.Assets currency) number is = refl
led-back kept (rolls.Flows currency) number is = refl
led-back kept (rolls.Lines currency) number is = refl
led-back kept (rolls.Losses kind projection) number is =
    let sum : kind_number kind + place_of projection ≡ number = one-some is in
    let own : number - place_of projection ≡ kind_number kind = omega (arith, sum) in
    ap (λ t. liabilities-at t (place_of projection) [] number) (seats-few projection)
    ∙ ap (λ n. rolls.Losses (kind-at n) (projection-at (place_of projection))) own
    ∙ ap (λ k. rolls.Losses k (projection-at (place_of projection))) (kind-back kind)
    ∙ ap (rolls.Losses kind) (projection-back projection)
led-back kept rolls.Groups number is = refl

pub lists-apart : (kept : KeptRolls) → AreNumbered kept → AreListsApart (λ roll. number_of_roll roll kept)
lists-apart kept are = record { apart = apart }
  where
    apart : (one other : Roll) (number : ℕ) → number_of_roll one kept ≡ Some number → number_of_roll other kept ≡ Some number
        → table_of one ≡ table_of other → sole one ≡ sole other
    apart one other number x y table =
        sym (led-back kept one number x)
        ∙ ap (λ t. roll-at t (seat_of_roll one) (owner one) number) table
        ∙ ap (λ s. roll-at (table_of other) s (owner one) number) seat
        ∙ ap (λ n. roll-at (table_of other) (seat_of_roll other) n number) name
        ∙ led-back kept other number y
      where
        seat : seat_of_roll one ≡ seat_of_roll other
        seat =
            sym (are.own one number x).1 ∙ ap (λ t. seat_of number (seated_in t kept).rolls) table ∙ (are.own other number y).1

        name : owner one ≡ owner other
        name =
            one-owner kept are (table_of other) (seat_of_roll other) (owner one) (owner other) number
            (subst (λ s. IsOwned kept (table_of other) s (owner one) number) seat
            (subst (λ t. IsOwned kept t (seat_of_roll one) (owner one) number) table (owned kept one number x)))
            (owned kept other number y)
