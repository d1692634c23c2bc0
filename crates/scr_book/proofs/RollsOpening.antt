-- The rolls of the opening sheet: no roll has a member.
use Rattle.std.proofs.Common.{◌≡◌, ℕ, zero, suc, ◌+◌, ◌<◌, Bool, true, false, ◌&&◌, ltb, List, [], ◌∷◌, length, slice_index_or, Option, Some, None, refl, sym, ap, subst, ◌∙◌, arith}
use Rattle.std.proofs.lemmas.Bool.Decides.{Decides-ltb}
use Rattle.std.specs.Map.{lookup}
use Rattle.std.specs.Option.{option_map, option_map_or}
use Rattle.scr_tables.specs.Names.{same_name}
use Rattle.scr_member_lists.specs.Members.{has}
use Rattle.scr_member_lists.specs.Owned.{Owned, number_of}
use Rattle.scr_member_lists.specs.Seatings.{AreSeated, Seated, names_of, seat_of}
use Rattle.scr_sheet.specs.BalanceSheet.{opening}
use Rattle.scr_sheet.specs.Members.{is_member, table_of}
use Rattle.scr_sheet.specs.declared.{keys.Projection.Projection, keys.Table.Table, roll.Roll.Roll, rows.Class.Class, rows.LiabilityKind.LiabilityKind}
use Rattle.scr_sheet.specs.declared.keys.Projection.TheVariants as projections
use Rattle.scr_sheet.specs.declared.keys.Table.TheVariants as tables
use Rattle.scr_sheet.specs.declared.roll.Roll.TheVariants as list_of
use Rattle.scr_sheet.specs.declared.rows.Class.TheVariants as classes
use Rattle.scr_sheet.specs.declared.rows.LiabilityKind.TheVariants as kinds
use Rattle.scr_book.specs.Rolls.{AreRollsOf, HaveSeats, IsOfRoll, KeptRolls, class_number, kind_number, listed, number_of_roll, roll_of, seat_of_roll, seated_in}
use Rattle.scr_book.specs.Sums.{place_of}
use Rattle.scr_book.proofs.RollGrowth.{names-past}

-- the seats of the rolls that have no owner, by their numbers
abbrev pub security_seats : List ℕ
security_seats = 0 ∷ 0 ∷ 0 ∷ 0 ∷ 0 ∷ 0 ∷ 0 ∷ 0 ∷ 0 ∷ 0 ∷ 1 ∷ []

abbrev pub liability_seats : List ℕ
liability_seats =
    0 ∷ 1 ∷ 2 ∷ 3 ∷ 4 ∷ 5 ∷ 6 ∷ 7 ∷ 8 ∷ 9 ∷ 0 ∷ 1 ∷ 2 ∷ 3 ∷ 4 ∷ 5 ∷ 6 ∷ 7 ∷ 8 ∷ 9 ∷ 0 ∷ 1 ∷ 2 ∷ 3 ∷ 4 ∷ 5 ∷ 6 ∷ 7 ∷ 8 ∷ 9 ∷ []

class-seat : (class : Class) → (class_number class < 11) × (slice_index_or security_seats (class_number class) 0 ≡ 0)
class-seat classes.Type1Equity = (omega arith, refl)
class-seat classes.Type1Strategic = (omega arith, refl)
class-seat classes.Type2Equity = (omega arith, refl)
class-seat classes.Type2Strategic = (omega arith, refl)
class-seat classes.Infrastructure = (omega arith, refl)
class-seat classes.InfrastructureCorporate = (omega arith, refl)
class-seat classes.Property = (omega arith, refl)
class-seat classes.Bond = (omega arith, refl)
class-seat classes.Government = (omega arith, refl)
class-seat classes.Other = (omega arith, refl)

loss-seat : (kind : LiabilityKind) (projection : Projection) → (kind_number kind + place_of projection < 30) × (slice_index_or liability_seats (kind_number kind + place_of projection) 0 ≡ place_of projection)
loss-seat kinds.Life projections.Base = (omega arith, refl)
loss-seat kinds.Life projections.Mortality = (omega arith, refl)
loss-seat kinds.Life projections.Longevity = (omega arith, refl)
loss-seat kinds.Life projections.Disability = (omega arith, refl)
loss-seat kinds.Life projections.Expense = (omega arith, refl)
loss-seat kinds.Life projections.Revision = (omega arith, refl)
loss-seat kinds.Life projections.LapseUp = (omega arith, refl)
loss-seat kinds.Life projections.LapseDown = (omega arith, refl)
loss-seat kinds.Life projections.LapseMass = (omega arith, refl)
loss-seat kinds.Life projections.Catastrophe = (omega arith, refl)
loss-seat kinds.Health projections.Base = (omega arith, refl)
loss-seat kinds.Health projections.Mortality = (omega arith, refl)
loss-seat kinds.Health projections.Longevity = (omega arith, refl)
loss-seat kinds.Health projections.Disability = (omega arith, refl)
loss-seat kinds.Health projections.Expense = (omega arith, refl)
loss-seat kinds.Health projections.Revision = (omega arith, refl)
loss-seat kinds.Health projections.LapseUp = (omega arith, refl)
loss-seat kinds.Health projections.LapseDown = (omega arith, refl)
loss-seat kinds.Health projections.LapseMass = (omega arith, refl)
loss-seat kinds.Health projections.Catastrophe = (omega arith, refl)
loss-seat kinds.Other projections.Base = (omega arith, refl)
loss-seat kinds.Other projections.Mortality = (omega arith, refl)
loss-seat kinds.Other projections.Longevity = (omega arith, refl)
loss-seat kinds.Other projections.Disability = (omega arith, refl)
loss-seat kinds.Other projections.Expense = (omega arith, refl)
loss-seat kinds.Other projections.Revision = (omega arith, refl)
loss-seat kinds.Other projections.LapseUp = (omega arith, refl)
loss-seat kinds.Other projections.LapseDown = (omega arith, refl)
loss-seat kinds.Other projections.LapseMass = (omega arith, refl)
loss-seat kinds.Other projections.Catastrophe = (omega arith, refl)

-- each is one of the eleven of a row
abbrev is-few : List ℕ → Bool
is-few [] = true
is-few (seat ∷ seats) = ltb seat 11 && is-few seats

few-seats : (seats : List ℕ) → is-few seats ≡ true → (k : ℕ) → slice_index_or seats k 0 < 11
few-seats [] few zero = omega arith
few-seats [] few (suc k) = omega arith
few-seats (seat ∷ seats) few k = by (ltb seat 11) refl few (few-seats seats) k
  where
    by : (t : Bool) → ltb seat 11 ≡ t → (t && is-few seats) ≡ true → (is-few seats ≡ true → (n : ℕ) → slice_index_or seats n 0 < 11) → (n : ℕ) → slice_index_or (seat ∷ seats) n 0 < 11
    by true e rest later zero = (Decides-ltb seat 11).0 e
    by true e rest later (suc n) = later rest n
    by false e rest later n = absurd (cc)

pub liabilities-few : (k : ℕ) → slice_index_or liability_seats k 0 < 11
liabilities-few = few-seats liability_seats refl

-- rolls without members, each for a seat
pub record AreFresh (seats : List ℕ) (seated : Seated) : Type 0 where
  pub count : length seated.rolls ≡ length seats
  pub own : (number : ℕ) → number < length seats → seat_of number seated.rolls ≡ slice_index_or seats number 0
  pub names : (number : ℕ) → names_of number seated.rolls ≡ []
  pub empty : AreSeated [] seated

module _ (kept : KeptRolls) (securities : AreFresh security_seats kept.securities) (funds : AreFresh (0 ∷ []) kept.funds) (liabilities : AreFresh liability_seats kept.liabilities)
    (groups : AreFresh (0 ∷ []) kept.groups) (of_groups : kept.of_groups.numbers ≡ []) (of_assets : kept.of_assets.numbers ≡ []) (of_lines : kept.of_lines.numbers ≡ []) where
  unowned : (owned : Owned) (name : List ℕ) → owned.numbers ≡ [] → number_of name owned ≡ None
  unowned owned name empty = ap (lookup (same_name name)) empty

  at : (table : Table) (n : ℕ) → names_of n (seated_in table kept).rolls ≡ []
  at tables.Security n = securities.names n
  at tables.Fund n = funds.names n
  at tables.Liability n = liabilities.names n
  at tables.Group n = groups.names n
  at table n = names-past n [] (omega arith)

  owned : (table : Table) (n : ℕ) (name : List ℕ) → has name (names_of n (seated_in table kept).rolls) ≡ true → IsOfRoll table n kept
  owned table n name stands = let never : false ≡ true = sym (ap (has name) (at table n)) ∙ stands in absurd (cc)

  none : (roll : Roll) → roll_of roll kept ≡ []
  none roll = by (number_of_roll roll kept) (table_of roll)
    where
      by : (found : Option ℕ) (table : Table) → option_map_or (λ n. names_of n (seated_in table kept).rolls) found [] ≡ []
      by None table = refl
      by (Some n) table = at table n

  own : (roll : Roll) (n : ℕ) → number_of_roll roll kept ≡ Some n → (n < length (listed roll kept)) × (seat_of n (listed roll kept) ≡ seat_of_roll roll)
  own (list_of.Class class) n e =
      let is : class_number class ≡ n = cc in
      let at = class-seat class in
      let inside = at.0 in
      let long = securities.count in
      subst (λ m. (m < length kept.securities.rolls) × (seat_of m kept.securities.rolls ≡ 0)) is (omega (arith, inside, long), securities.own (class_number class) inside ∙ at.1)
  own list_of.Bonds n e =
      let is : 7 ≡ n = cc in
      let long = securities.count in
      subst (λ m. (m < length kept.securities.rolls) × (seat_of m kept.securities.rolls ≡ 0)) is (omega (arith, long), securities.own 7 (omega arith))
  own list_of.Grouped n e =
      let is : 10 ≡ n = cc in
      let long = securities.count in
      subst (λ m. (m < length kept.securities.rolls) × (seat_of m kept.securities.rolls ≡ 1)) is (omega (arith, long), securities.own 10 (omega arith))
  own list_of.Closed n e =
      let is : 0 ≡ n = cc in
      let long = funds.count in
      subst (λ m. (m < length kept.funds.rolls) × (seat_of m kept.funds.rolls ≡ 0)) is (omega (arith, long), funds.own 0 (omega arith))
  own list_of.Groups n e =
      let is : 0 ≡ n = cc in
      let long = groups.count in
      subst (λ m. (m < length kept.groups.rolls) × (seat_of m kept.groups.rolls ≡ 0)) is (omega (arith, long), groups.own 0 (omega arith))
  own (list_of.Losses kind projection) n e =
      let is : kind_number kind + place_of projection ≡ n = cc in
      let at = loss-seat kind projection in
      let inside = at.0 in
      let long = liabilities.count in
      subst (λ m. (m < length kept.liabilities.rolls) × (seat_of m kept.liabilities.rolls ≡ place_of projection)) is
      (omega (arith, inside, long), liabilities.own (kind_number kind + place_of projection) inside ∙ at.1)
  own (list_of.Group group) n e = let never : None ≡ Some n = sym (unowned kept.of_groups group of_groups) ∙ e in absurd (cc)
  own (list_of.Assets currency) n e = let never : None ≡ Some n = sym (unowned kept.of_assets currency of_assets) ∙ e in absurd (cc)
  own (list_of.Flows currency) n e = let never : None ≡ Some n = sym (ap (option_map (λ k. k + 1)) (unowned kept.of_assets currency of_assets)) ∙ e in absurd (cc)
  own (list_of.Lines currency) n e = let never : None ≡ Some n = sym (unowned kept.of_lines currency of_lines) ∙ e in absurd (cc)

  apart : (owned : Owned) → owned.numbers ≡ [] → (one two : List ℕ) (n : ℕ) → number_of one owned ≡ Some n → number_of two owned ≡ Some n → one ≡ two
  apart owned empty one two n a b = let never : None ≡ Some n = sym (unowned owned one empty) ∙ a in absurd (cc)

  seats : (table : Table) → HaveSeats table opening kept
  seats tables.Security = securities.empty
  seats tables.Fund = funds.empty
  seats tables.Liability = liabilities.empty
  seats tables.Group = groups.empty
  seats tables.Bank = tt
  seats tables.Rein = tt
  seats tables.Curve = tt

  nobody : (roll : Roll) (name : List ℕ) → is_member roll name opening ≡ false
  nobody (list_of.Class class) name = refl
  nobody list_of.Closed name = refl
  nobody list_of.Bonds name = refl
  nobody list_of.Grouped name = refl
  nobody (list_of.Group group) name = refl
  nobody (list_of.Assets currency) name = refl
  nobody (list_of.Flows currency) name = refl
  nobody (list_of.Lines currency) name = refl
  nobody (list_of.Losses kind projection) name = refl
  nobody list_of.Groups name = refl

  pub opening-rolls : AreRollsOf opening kept
  opening-rolls = record {
    numbered = record { own = own; owned = owned; groups = apart kept.of_groups of_groups; assets = apart kept.of_assets of_assets; lines = apart kept.of_lines of_lines };
    seated = seats;
    members = λ roll name. ap (has name) (none roll) ∙ sym (nobody roll name);
  }

  pub opening-none : (roll : Roll) → roll_of roll kept ≡ []
  opening-none = none
