-- What a record's preparation comes to, from the numbers that were found and the room that was made.
use Rattle.std.proofs.Common.{◌≡◌, ◌≢◌, inl, inr, ℕ, zero, suc, ℤ, ◌+◌, ◌<◌, ◌≤◌, true, false, List, [], ◌∷◌, ◌++◌, length, map, eqb, slice_get, Result, Ok, Err, OnErr, Option, Some, None, is_some, refl, sym, ap, subst, ◌∙◌, arith}
use Rattle.std.specs.Prelude.{if◌then◌else◌}
use Rattle.std.specs.List.{IsDistinct}
use Rattle.std.specs.Option.{option_map, option_map_or}
use Rattle.std.proofs.lemmas.Bool.Decides.{nat_tests}
use Rattle.std.proofs.lemmas.List.{length-map}
use Rattle.scr_dates.specs.declared.day.Day.{Day}
use Rattle.scr_tables.specs.Names.{same_name}
use Rattle.scr_tables.specs.Tables.{has_row, row_of, with_row}
use Rattle.scr_tables.proofs.PastRows.{at_place, missing}
use Rattle.scr_member_lists.specs.Members.{name_at}
use Rattle.scr_member_lists.specs.Owned.{number_of}
use Rattle.scr_member_lists.specs.Seatings.{NOWHERE, IsFor, roll_in, room_of, seat_at, target}
use Rattle.scr_member_lists.specs.declared.seats.Seats.{Seats}
use Rattle.scr_member_lists.proofs.SeatLists.{named-at}
use Rattle.scr_sheet.specs.BalanceSheet.{liability_name, position_name, position_of}
use Rattle.scr_sheet.specs.CashFlows.{all_projections, is_empty, with_flows}
use Rattle.scr_sheet.specs.Members.{is_closed}
use Rattle.scr_sheet.specs.Records.{applied}
use Rattle.scr_sheet.specs.Validity.{Valid}
use Rattle.scr_sheet.specs.declared.{sheet.BalanceSheet.BalanceSheet, keys.Projection.Projection, rows.Class.Class, rows.Liability.Liability, rows.LiabilityKind.LiabilityKind, rows.Position.Position}
use Rattle.scr_sheet.specs.declared.edit.Edit.TheVariants as edits
use Rattle.scr_sheet.specs.declared.keys.Projection.TheVariants as projections
use Rattle.scr_sheet.specs.declared.keys.Table.TheVariants as tables
use Rattle.scr_sheet.specs.declared.roll.Roll.TheVariants as rolls
use Rattle.scr_book.specs.Rolls.{AreKept, AreRollsOf, GroupNumber, IsAwaited, IsPrepared, KeptRolls, class_number, kind_number, liability_rolls}
use Rattle.scr_book.specs.Sums.{place_of}
use Rattle.scr_book.specs.declared.rolls.Aim.TheVariants as aims
use Rattle.scr_book.proofs.RollAims.{aimed-liability, aimed-security, few, fits-in}
use Rattle.scr_book.proofs.RollNumbers.{at-projection}
use Rattle.scr_book.proofs.RollPayments as RollPayments
use Rattle.scr_book.proofs.RollPayments.{currency-number, placed-payments}
use Rattle.scr_book.proofs.RollProjections as RollProjections
use Rattle.scr_book.proofs.RollProjections.{placed-projected}
use Rattle.scr_book.proofs.RollSteps.{row-at}
use Rattle.scr_book.proofs.RollWays.{way-payments, way-projected}
use Rattle.scr_book.proofs.RollsDropped.{prepared-still}
use Rattle.scr_book.proofs.RollsStill.{once-in}

-- ---- a fund

pub closed-of : (name : List ℕ) (held : ℕ) (components : List (List ℕ × ℤ)) → eqb (length components) 0 ≡ is_closed (record { fund = record { name = name; components = components }; held = held })
closed-of name held [] = refl
closed-of name held (component ∷ components) = grind (arith, nat_tests)

-- ---- a liability

-- the ten rolls of a kind by projection, that of a currency, and none
pub all-seats : (P : ℕ → ℕ → Type 0) (losses lines : ℕ) → ((projection : Projection) → P (place_of projection) (losses + place_of projection)) → P 10 lines → ((seat : ℕ) → P seat NOWHERE)
    → (seat : ℕ) → P seat (target seat (map (λ projection. losses + place_of projection) all_projections ++ lines ∷ []))
all-seats P losses lines each last past zero = each projections.Base
all-seats P losses lines each last past (suc zero) = each projections.Mortality
all-seats P losses lines each last past (suc (suc zero)) = each projections.Longevity
all-seats P losses lines each last past (suc (suc (suc zero))) = each projections.Disability
all-seats P losses lines each last past (suc (suc (suc (suc zero)))) = each projections.Expense
all-seats P losses lines each last past (suc (suc (suc (suc (suc zero))))) = each projections.Revision
all-seats P losses lines each last past (suc (suc (suc (suc (suc (suc zero)))))) = each projections.LapseUp
all-seats P losses lines each last past (suc (suc (suc (suc (suc (suc (suc zero))))))) = each projections.LapseDown
all-seats P losses lines each last past (suc (suc (suc (suc (suc (suc (suc (suc zero)))))))) = each projections.LapseMass
all-seats P losses lines each last past (suc (suc (suc (suc (suc (suc (suc (suc (suc zero))))))))) = each projections.Catastrophe
all-seats P losses lines each last past (suc (suc (suc (suc (suc (suc (suc (suc (suc (suc zero)))))))))) = last
all-seats P losses lines each last past (suc (suc (suc (suc (suc (suc (suc (suc (suc (suc (suc seat))))))))))) = past (suc (suc (suc (suc (suc (suc (suc (suc (suc (suc (suc seat)))))))))))

module _ (sheet : BalanceSheet) (kept : KeptRolls) (h : AreRollsOf sheet kept) (kind : LiabilityKind) (currency : List ℕ) (losses lines : ℕ) (is : losses ≡ kind_number kind)
    (is_lines : number_of currency kept.of_lines ≡ Some lines) where
  abbrev all : List ℕ
  all = map (λ projection. losses + place_of projection) all_projections ++ lines ∷ []

  -- each is one of the table
  pub liability-within : (seat : ℕ) → target seat all ≢ NOWHERE → target seat all < length kept.liabilities.rolls
  liability-within seat =
      all-seats (λ s n. n ≢ NOWHERE → n < length kept.liabilities.rolls) losses lines
      (λ projection some. subst (λ l. l + place_of projection < length kept.liabilities.rolls) (sym is) (h.numbered.own (rolls.Losses kind projection) (kind_number kind + place_of projection) refl).0)
      (λ some. (h.numbered.own (rolls.Lines currency) lines is_lines).0) (λ s some. absurd (some refl)) seat

  pub prepared-liability : (name : List ℕ) (old : KeptRolls) → AreKept sheet old kept → losses ≤ 20 → 0 < kept.liabilities.room
      → ((seat : ℕ) → target seat all ≢ NOWHERE → 0 < room_of (target seat all) kept.liabilities.rolls)
      → IsPrepared (edits.Liability name kind currency) sheet (aims.Liability name lines losses) old kept
  prepared-liability name old keeps small row_room rooms = record {
    awaits = (subst Aimed (sym is) (aimed-liability sheet kept h name kind currency lines is_lines row_room line-room loss-room), small);
    ready = record { kept = h; ready = keeps.ready; name = refl; table = refl };
  }
    where
      Aimed : ℕ → Type 0
      Aimed l = IsAwaited tables.Liability name
          (λ seat. target seat (liability_rolls lines l (row_of liability_name name (applied (edits.Liability name kind currency) sheet).liabilities))) (applied (edits.Liability name kind currency) sheet) kept

      line-room : 0 < room_of lines kept.liabilities.rolls
      line-room =
          rooms 10 (λ e. let below : lines < NOWHERE = few sheet kept h (rolls.Lines currency) lines is_lines in let never : ⊥ = omega (arith, below, e) in never)

      loss-room : (projection : Projection) → 0 < room_of (kind_number kind + place_of projection) kept.liabilities.rolls
      loss-room projection =
          let at : target (place_of projection) all ≡ kind_number kind + place_of projection =
          at-projection (λ p. losses + place_of p) lines projection ∙ ap (λ l. l + place_of projection) is in
          subst (λ n. 0 < room_of n kept.liabilities.rolls) at
          (rooms (place_of projection) (λ e.
          let below = few sheet kept h (rolls.Losses kind projection) (kind_number kind + place_of projection) refl in
          let never : ⊥ = omega (arith, below, at, e) in
          never))

-- ---- a security

-- a group's number where the rolls of groups are the same
pub group-same : (group : Option (List ℕ)) (number : ℕ) (one two : KeptRolls) → one.of_groups ≡ two.of_groups → GroupNumber group number one → GroupNumber group number two
group-same None number one two same h = h
group-same (Some group) number one two same h = ap (number_of group) (sym same) ∙ h

module _ (sheet : BalanceSheet) (kept : KeptRolls) (h : AreRollsOf sheet kept) (name : List ℕ) (class : Class) (group : Option (List ℕ)) (currency : List ℕ) (duration : ℤ) (group_number assets : ℕ)
    (is_group : GroupNumber group group_number kept) (is_assets : number_of currency kept.of_assets ≡ Some assets) where
  abbrev numbers : List ℕ
  numbers = class_number class ∷ (if is_some group then 10 else NOWHERE) ∷ group_number ∷ assets ∷ (assets + 1) ∷ []

  -- the roll of those with payments follows that of the currency
  pub next-few : assets + 1 < NOWHERE
  next-few = few sheet kept h (rolls.Flows currency) (assets + 1) (ap (option_map (λ n. n + 1)) is_assets)

  pub security-within : (told : List ℕ) → told ≡ numbers → (seat : ℕ) → target seat told ≢ NOWHERE → target seat told < length kept.securities.rolls
  security-within told e seat some =
      subst (λ (l : List ℕ). target seat l < length kept.securities.rolls) (sym e)
      (within (fits-in sheet kept h name class group currency duration group_number assets is_group is_assets true seat) (λ z. some (ap (target seat) e ∙ z)))
    where
      within : IsFor kept.securities.rolls seat (target seat numbers) → target seat numbers ≢ NOWHERE → target seat numbers < length kept.securities.rolls
      within (inl none) other = absurd (other none)
      within (inr for) other = for.0

  pub prepared-security : (old : KeptRolls) → AreKept sheet old kept → (told : List ℕ) → told ≡ numbers → 0 < kept.securities.room
      → ((seat : ℕ) → target seat told ≢ NOWHERE → 0 < room_of (target seat told) kept.securities.rolls)
      → IsPrepared (edits.Security name class group currency duration) sheet (aims.Security name told) old kept
  prepared-security old keeps told e row_room rooms =
      subst (λ (l : List ℕ). IsPrepared (edits.Security name class group currency duration) sheet (aims.Security name l) old kept) (sym e)
      (record {
        awaits = (
          aimed-security sheet kept h name class group currency duration group_number assets is_group is_assets row_room
              (λ seat. subst (λ (l : List ℕ). target seat l ≢ NOWHERE → 0 < room_of (target seat l) kept.securities.rolls) e (rooms seat)),
          refl,
        );
        ready = record { kept = h; ready = keeps.ready; name = refl; table = refl };
      })

-- ---- payments

-- the row that a table has at the place of a name
pub found-place : {Row : Type 0} (name_of : Row → List ℕ) (rows : List Row) (place : ℕ) (x : List ℕ) → IsDistinct same_name (map name_of rows) → option_map name_of (slice_get rows place) ≡ Some x
    → (row : Row) × (slice_get rows place ≡ Some row) × (place < length rows) × (name_at place (map name_of rows) ≡ x) × (row_of name_of x rows ≡ Some row)
found-place name_of rows place x apart e =
    let at = at_place name_of (slice_get rows place) x e in
    let named = named-at name_of rows place x e in
    let inside = named.0 in
    let long = length-map rows name_of in
    (at.0, at.1, omega (arith, inside, long), named.1, row-at name_of rows place at.0 x apart at.1 named.1)

module _ (sheet : BalanceSheet) (valid : Valid sheet) (kept : KeptRolls) (h : AreRollsOf sheet kept) (place : ℕ) (x : List ℕ) (at : option_map position_name (slice_get sheet.securities place) ≡ Some x)
    (flows : List (Day × ℤ)) where
  apart : IsDistinct same_name (map position_name sheet.securities)
  apart = once-in tables.Security sheet valid refl

  abbrev pub payer-seats : Seats
  payer-seats = seat_at place kept.securities.seats

  pub payer-inside : place < length kept.securities.seats
  payer-inside =
      let f = found-place position_name sheet.securities place x apart at in
      let inside = f.2 in
      let beside = (h.seated tables.Security).beside in
      let long = length-map sheet.securities position_name in
      omega (arith, inside, beside, long)

  -- the roll of those with payments in its currency is one of the table
  pub payer-few : roll_in 3 payer-seats + 1 < NOWHERE
  payer-few =
      let f = found-place position_name sheet.securities place x apart at in
      let number = currency-number sheet kept h place x f.0 f.2 f.3 f.4 apart flows in
      few sheet kept h (rolls.Flows f.0.security.currency) (roll_in 3 payer-seats + 1) (ap (option_map (λ n. n + 1)) number)

  pub payer-within : roll_in 3 payer-seats + 1 < length kept.securities.rolls
  payer-within =
      let f = found-place position_name sheet.securities place x apart at in
      let number = currency-number sheet kept h place x f.0 f.2 f.3 f.4 apart flows in
      (h.numbered.own (rolls.Flows f.0.security.currency) (roll_in 3 payer-seats + 1) (ap (option_map (λ n. n + 1)) number)).0

  pub prepared-payments : (old : KeptRolls) → AreKept sheet old kept → (number : ℕ) → number ≡ (if is_empty flows then NOWHERE else roll_in 3 payer-seats + 1)
      → (number ≢ NOWHERE → 0 < room_of number kept.securities.rolls) → IsPrepared (edits.Flows x flows) sheet (aims.Payments place number) old kept
  prepared-payments old keeps number is room =
      let f = found-place position_name sheet.securities place x apart at in
      record {
        awaits = placed-payments sheet kept h place x f.0 f.2 f.3 f.4 apart flows number is room;
        ready = record {
          kept = h;
          ready = keeps.ready;
          name = ap (name_at place) (RollPayments.names-paid sheet kept h place x f.0 f.2 f.3 f.4 apart flows) ∙ f.3;
          table = refl;
        };
      }

pub prepared-nobody : (sheet : BalanceSheet) → Valid sheet → (kept : KeptRolls) → AreRollsOf sheet kept → (x : List ℕ) (flows : List (Day × ℤ)) → has_row position_name x sheet.securities ≡ false
    → IsPrepared (edits.Flows x flows) sheet aims.Still kept kept
prepared-nobody sheet valid kept h x flows absent =
    prepared-still tables.Security refl (edits.Flows x flows) sheet kept valid h refl absent
    (ap (λ (o : Option Position). record sheet { securities = option_map_or (λ row. with_row position_name (record row { security = record row.security { flows = flows } }) sheet.securities) o sheet.securities })
    (missing (position_of x sheet.securities) absent))
    (way-payments sheet x flows)

module _ (sheet : BalanceSheet) (valid : Valid sheet) (kept : KeptRolls) (h : AreRollsOf sheet kept) (place : ℕ) (x : List ℕ) (at : option_map liability_name (slice_get sheet.liabilities place) ≡ Some x)
    (projection : Projection) (flows : List (Day × ℤ)) where
  apart-lines : IsDistinct same_name (map liability_name sheet.liabilities)
  apart-lines = once-in tables.Liability sheet valid refl

  pub prepared-projected : (l : Liability) → slice_get sheet.liabilities place ≡ Some l → (old : KeptRolls) → AreKept sheet old kept → (number : ℕ)
      → number ≡ (if is_empty flows then NOWHERE else kind_number l.kind + place_of projection)
      → (number ≢ NOWHERE → 0 < room_of number kept.liabilities.rolls) → IsPrepared (edits.LiabilityFlows x projection flows) sheet (aims.Projected place (place_of projection) number) old kept
  prepared-projected l got old keeps number is room =
      let f = found-place liability_name sheet.liabilities place x apart-lines at in
      let found = row-at liability_name sheet.liabilities place l x apart-lines got f.3 in
      record {
        awaits = placed-projected sheet kept h place x l f.2 f.3 found apart-lines projection flows number is room;
        ready = record {
          kept = h;
          ready = keeps.ready;
          name = ap (name_at place) (RollProjections.names-paid sheet kept h place x l f.2 f.3 found apart-lines projection flows) ∙ f.3;
          table = refl;
        };
      }

pub prepared-no-line : (sheet : BalanceSheet) → Valid sheet → (kept : KeptRolls) → AreRollsOf sheet kept → (x : List ℕ) (projection : Projection) (flows : List (Day × ℤ))
    → has_row liability_name x sheet.liabilities ≡ false → IsPrepared (edits.LiabilityFlows x projection flows) sheet aims.Still kept kept
prepared-no-line sheet valid kept h x projection flows absent =
    prepared-still tables.Liability refl (edits.LiabilityFlows x projection flows) sheet kept valid h refl absent
    (ap (λ (o : Option Liability). record sheet { liabilities = option_map_or (λ row. with_row liability_name (record row { flows = with_flows projection flows row.flows }) sheet.liabilities) o sheet.liabilities })
    (missing (row_of liability_name x sheet.liabilities) absent))
    (way-projected sheet x projection flows)

-- what holds in any case holds after an error
pub on-err : {T E : Type 0} (r : Result T E) (P : Type 0) → P → OnErr r P
on-err (Ok value) P p = tt
on-err (Err error) P p = p

pub empty-of : (flows : List (Day × ℤ)) → eqb (length flows) 0 ≡ is_empty flows
empty-of [] = refl
empty-of (flow ∷ flows) = grind (arith, nat_tests)
