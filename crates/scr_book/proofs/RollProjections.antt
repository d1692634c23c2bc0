-- Where a liability is to stand whose payments under a projection are others.
use Rattle.std.proofs.Common.{◌≡◌, ◌≢◌, ◌⊎◌, inl, inr, ℕ, ℤ, ◌+◌, ◌<◌, Bool, true, false, not, ◌&&◌, List, [], length, map, get_or, eqb, Option, Some, None, is_some, refl, sym, ap, subst, ◌∙◌, arith}
use Rattle.std.specs.Prelude.{if◌then◌else◌}
use Rattle.std.specs.Option.{option_map_or}
use Rattle.std.proofs.lemmas.Bool.Decides.{Decides-eqb}
use Rattle.std.proofs.lemmas.List.{length-map}
use Rattle.std.specs.List.{IsDistinct}
use Rattle.scr_tables.specs.Names.{same_name}
use Rattle.scr_tables.specs.Tables.{row_of, with_row}
use Rattle.scr_tables.proofs.TableRows.{name_of-row_of, names-changed, row_of-with_row_own, same_name-is}
use Rattle.scr_dates.specs.declared.day.Day.{Day}
use Rattle.scr_member_lists.specs.Members.{has}
use Rattle.scr_member_lists.specs.Owned.{number_of}
use Rattle.scr_member_lists.specs.declared.seats.Seats.{Seats}
use Rattle.scr_member_lists.specs.Seatings.{NOWHERE, AreSeated, IsFor, names_of, roll_in, room_of, seat_at, seat_of, seats_of}
use Rattle.std.proofs.lemmas.Bool.{cases_eq}
use Rattle.scr_sheet.specs.BalanceSheet.{liability_name}
use Rattle.scr_sheet.specs.CashFlows.{flows_under, is_empty, with_flows}
use Rattle.scr_sheet.specs.Members.{has_flows, has_liability, is_kind, is_member, is_member_in, table_of}
use Rattle.scr_sheet.specs.Records.{applied}
use Rattle.scr_sheet.specs.declared.{sheet.BalanceSheet.BalanceSheet, keys.Projection.Projection, keys.Table.Table, roll.Roll.Roll, rows.Liability.Liability, rows.LiabilityFlows.LiabilityFlows, rows.LiabilityKind.LiabilityKind}
use Rattle.scr_sheet.specs.declared.keys.Projection.TheVariants as projections
use Rattle.scr_sheet.specs.declared.edit.Edit.TheVariants as edits
use Rattle.scr_sheet.specs.declared.keys.Table.TheVariants as tables
use Rattle.scr_sheet.specs.declared.roll.Roll.TheVariants as rolls
use Rattle.scr_sheet.proofs.Projections.{one_or_other, under-with}
use Rattle.scr_book.specs.Rolls.{AreRollsOf, HaveSeats, IsAwaited, IsOfRoll, IsPlaced, KeptRolls, kind_number, listed, number_of_roll, roll_of, same_table, seat_of_roll, seated_in}
use Rattle.scr_book.specs.Sums.{place_of}
use Rattle.scr_book.proofs.RollLaws.{own-before, row-has, row-listed, row-stands}
use Rattle.scr_book.proofs.RollNumbers.{kind-apart, more-apart, nowhere-apart}
use Rattle.scr_book.proofs.RollSettled.{same-table}
use Rattle.scr_book.proofs.RollAims.{apart-liabilities, few, others-at, serves}

-- ---- payments of a liability under a projection

pub place-below : (projection : Projection) → place_of projection < 10
place-below projections.Base = omega arith
place-below projections.Mortality = omega arith
place-below projections.Longevity = omega arith
place-below projections.Disability = omega arith
place-below projections.Expense = omega arith
place-below projections.Revision = omega arith
place-below projections.LapseUp = omega arith
place-below projections.LapseDown = omega arith
place-below projections.LapseMass = omega arith
place-below projections.Catastrophe = omega arith

-- no two projections have one place
place-apart : (p q : Projection) → place_of p ≡ place_of q → p ≡ q
place-apart projections.Base projections.Base e = refl
place-apart projections.Mortality projections.Mortality e = refl
place-apart projections.Longevity projections.Longevity e = refl
place-apart projections.Disability projections.Disability e = refl
place-apart projections.Expense projections.Expense e = refl
place-apart projections.Revision projections.Revision e = refl
place-apart projections.LapseUp projections.LapseUp e = refl
place-apart projections.LapseDown projections.LapseDown e = refl
place-apart projections.LapseMass projections.LapseMass e = refl
place-apart projections.Catastrophe projections.Catastrophe e = refl
place-apart p q e = let never : ⊥ = omega (arith, e) in absurd never

module _ (sheet : BalanceSheet) (kept : KeptRolls) (h : AreRollsOf sheet kept) where
  -- a liability at a place is a member of the rolls in which its seats have it
  pub stands-liability : (place : ℕ) → place < length sheet.liabilities → IsDistinct same_name (map liability_name sheet.liabilities)
      → (roll : Roll) (n : ℕ) → same_table (table_of roll) tables.Liability ≡ true → number_of_roll roll kept ≡ Some n
      → eqb (roll_in (seat_of_roll roll) (seat_at place kept.liabilities.seats)) n ≡ is_member roll (get_or (map liability_name sheet.liabilities) place []) sheet
  stands-liability place within apart roll n same e =
      let is = same-table (table_of roll) tables.Liability same in
      let had = h.numbered.own roll n e in
      let inside : n < length kept.liabilities.rolls = subst (λ (t : Table). n < length (seated_in t kept).rolls) is had.0 in
      let seat : seat_of n kept.liabilities.rolls ≡ seat_of_roll roll = ap (λ (t : Table). seat_of n (seated_in t kept).rolls) (sym is) ∙ had.1 in
      sym (row-has (map liability_name sheet.liabilities) kept.liabilities (h.seated tables.Liability) apart place (within-names place within) (seat_of_roll roll) n inside seat)
      ∙ ap (λ (t : Table). has (get_or (map liability_name sheet.liabilities) place []) (names_of n (seated_in t kept).rolls)) (sym is)
      ∙ ap (λ (o : Option ℕ). has (get_or (map liability_name sheet.liabilities) place []) (option_map_or (λ m. names_of m (listed roll kept)) o [])) (sym e)
      ∙ h.members roll (get_or (map liability_name sheet.liabilities) place [])
    where
      within-names : (k : ℕ) → k < length sheet.liabilities → k < length (map liability_name sheet.liabilities)
      within-names k inside = let same_length = length-map sheet.liabilities liability_name in omega (arith, inside, same_length)

  abbrev names : List (List ℕ)
  names = map liability_name sheet.liabilities

  module _ (place : ℕ) (x : List ℕ) (p : Liability) (within : place < length sheet.liabilities) (named : get_or names place [] ≡ x)
      (found : row_of liability_name x sheet.liabilities ≡ Some p) (apart : IsDistinct same_name names) (projection : Projection) (flows : List (Day × ℤ)) where
    abbrev paid : BalanceSheet
    paid = applied (edits.LiabilityFlows x projection flows) sheet

    abbrev seats_own : Seats
    seats_own = seat_at place kept.liabilities.seats

    -- the row after the record
    abbrev pub payer : Liability
    payer = record p { flows = with_flows projection flows p.flows }

    named-row : liability_name p ≡ x
    named-row = sym (same_name-is x (liability_name p) (name_of-row_of liability_name x sheet.liabilities p found))

    rows-paid : paid.liabilities ≡ with_row liability_name payer sheet.liabilities
    rows-paid = ap (λ o. option_map_or (λ (row : Liability). with_row liability_name (record row { flows = with_flows projection flows row.flows }) sheet.liabilities) o sheet.liabilities) found

    after-found : row_of liability_name x paid.liabilities ≡ Some payer
    after-found = ap (row_of liability_name x) rows-paid ∙ subst (λ (n : List ℕ). row_of liability_name n (with_row liability_name payer sheet.liabilities) ≡ Some payer) named-row (row_of-with_row_own liability_name payer sheet.liabilities)

    pub names-paid : map liability_name paid.liabilities ≡ names
    names-paid = names-changed liability_name (λ (row : Liability). record row { flows = with_flows projection flows row.flows }) x sheet.liabilities (λ row. refl)

    stands : (roll : Roll) (n : ℕ) → same_table (table_of roll) tables.Liability ≡ true → number_of_roll roll kept ≡ Some n → eqb (roll_in (seat_of_roll roll) seats_own) n ≡ has_liability roll p
    stands roll n same e =
        stands-liability place within apart roll n same e ∙ ap (λ y. is_member roll y sheet) named
        ∙ ap (λ (t : Table). is_member_in t roll x sheet) (same-table (table_of roll) tables.Liability same)
        ∙ ap (λ o. option_map_or (has_liability roll) o false) found

    abbrev loss : ℕ
    loss = kind_number p.kind + place_of projection

    abbrev then_paid : Bool → ℕ
    then_paid empty = if empty then NOWHERE else loss

    abbrev pay_aim : ℕ → ℕ
    pay_aim seat = if eqb (place_of projection) seat then then_paid (is_empty flows) else roll_in seat seats_own

    -- a roll without a number has no member
    not-member : (roll : Roll) → same_table (table_of roll) tables.Liability ≡ true → number_of_roll roll kept ≡ None → has_liability roll p ≡ false
    not-member roll same e =
        sym (ap (λ o. option_map_or (has_liability roll) o false) found)
        ∙ sym (ap (λ (t : Table). is_member_in t roll x sheet) (same-table (table_of roll) tables.Liability same))
        ∙ sym (h.members roll x)
        ∙ ap (λ (o : Option ℕ). has x (option_map_or (λ n. names_of n (listed roll kept)) o [])) e

    -- payments under one projection leave those under another
    other-flows : (q : Projection) → place_of q ≢ place_of projection → has_flows q payer ≡ has_flows q p
    other-flows q other = by (one_or_other projection q)
      where
        by : ((projection ≡ q) ⊎ ((new : List (Day × ℤ)) (of : LiabilityFlows) → flows_under q (with_flows projection new of) ≡ flows_under q of)) → has_flows q payer ≡ has_flows q p
        by (inl e) = absurd (other (ap place_of (sym e)))
        by (inr e) = ap (λ fs. not (is_empty fs)) (e flows p.flows)

    own-flows : (q : Projection) → place_of q ≡ place_of projection → has_flows q payer ≡ not (is_empty flows)
    own-flows q same = by (one_or_other projection q)
      where
        by : ((projection ≡ q) ⊎ ((new : List (Day × ℤ)) (of : LiabilityFlows) → flows_under q (with_flows projection new of) ≡ flows_under q of)) → has_flows q payer ≡ not (is_empty flows)
        by (inl e) = ap (λ r. has_flows r payer) (sym e) ∙ ap (λ fs. not (is_empty fs)) (under-with flows p.flows projection)
        by (inr e) = ap (λ r. has_flows r payer) (place-apart q projection same) ∙ ap (λ fs. not (is_empty fs)) (under-with flows p.flows projection)

    pays-in : (empty : Bool) (kind : LiabilityKind) → eqb (then_paid empty) (kind_number kind + place_of projection) ≡ (is_kind kind p.kind && not empty)
    pays-in true kind = nowhere-apart (kind_number kind + place_of projection) (few sheet kept h (rolls.Losses kind projection) (kind_number kind + place_of projection) refl) ∙ and-false (is_kind kind p.kind)
      where
        and-false : (t : Bool) → false ≡ (t && false)
        and-false true = refl
        and-false false = refl
    pays-in false kind = more-apart (kind_number p.kind) (kind_number kind) (place_of projection) ∙ kind-apart kind p.kind ∙ and-true (is_kind kind p.kind)
      where
        and-true : (t : Bool) → t ≡ (t && true)
        and-true true = refl
        and-true false = refl

    own-loss : (kind : LiabilityKind) (q : Projection) (n : ℕ) → kind_number kind + place_of q ≡ n → (t : Bool) → eqb (place_of projection) (place_of q) ≡ t
        → eqb (if t then then_paid (is_empty flows) else roll_in (place_of q) seats_own) n ≡ (is_kind kind p.kind && has_flows q payer)
    own-loss kind q n is true e =
        let same : place_of projection ≡ place_of q = (Decides-eqb (place_of projection) (place_of q)).0 e in
        ap (eqb (then_paid (is_empty flows))) (sym is ∙ ap (λ k. kind_number kind + k) (sym same)) ∙ pays-in (is_empty flows) kind
        ∙ ap (λ b. is_kind kind p.kind && b) (sym (own-flows q (sym same)))
    own-loss kind q n is false e =
        let other : place_of q ≢ place_of projection = λ s. let yes = (Decides-eqb (place_of projection) (place_of q)).1 (sym s) in let never : true ≡ false = sym yes ∙ e in absurd (cc) in
        stands (rolls.Losses kind q) n refl (ap (λ m. Some m) is) ∙ ap (λ b. is_kind kind p.kind && b) (sym (other-flows q other))

    own-lines : (c : List ℕ) (n : ℕ) → number_of c kept.of_lines ≡ Some n → (t : Bool) → eqb (place_of projection) 10 ≡ t
        → eqb (if t then then_paid (is_empty flows) else roll_in 10 seats_own) n ≡ same_name c p.currency
    own-lines c n e true is = let same : place_of projection ≡ 10 = (Decides-eqb (place_of projection) 10).0 is in let below = place-below projection in absurd (omega (arith, same, below))
    own-lines c n e false is = stands (rolls.Lines c) n refl e

    own-paid : (roll : Roll) (n : ℕ) → same_table (table_of roll) tables.Liability ≡ true → number_of_roll roll kept ≡ Some n → eqb (pay_aim (seat_of_roll roll)) n ≡ has_liability roll payer
    own-paid (rolls.Lines c) n same e = own-lines c n e (eqb (place_of projection) 10) refl
    own-paid (rolls.Losses kind q) n same e = let is : kind_number kind + place_of q ≡ n = cc in own-loss kind q n is (eqb (place_of projection) (place_of q)) refl
    own-paid roll n same e = absurd (cc)

    none-paid : (roll : Roll) → same_table (table_of roll) tables.Liability ≡ true → number_of_roll roll kept ≡ None → has_liability roll payer ≡ false
    none-paid (rolls.Lines c) same e = not-member (rolls.Lines c) refl e
    none-paid roll same e = absurd (cc)

    -- where the row stands now is for the seat
    stands-for : (seat : ℕ) → IsFor kept.liabilities.rolls seat (roll_in seat seats_own)
    stands-for seat = by (cases_eq (roll_in seat seats_own) NOWHERE)
      where
        by : ((roll_in seat seats_own ≡ NOWHERE) ⊎ (roll_in seat seats_own ≡ NOWHERE → ⊥)) → IsFor kept.liabilities.rolls seat (roll_in seat seats_own)
        by (inl e) = inl e
        by (inr some) =
            let length_names = length-map sheet.liabilities liability_name in
            let at = row-stands names kept.liabilities (h.seated tables.Liability) apart place (omega (arith, within, length_names)) seat some in
            inr (at.numbered, at.own)

    module _ (number : ℕ) (is : number ≡ then_paid (is_empty flows)) (room : number ≢ NOWHERE → 0 < room_of number kept.liabilities.rolls) where
      abbrev aim : ℕ → ℕ
      aim seat = if eqb (place_of projection) seat then number else roll_in seat seats_own

      abbrev Awaited : List ℕ → Type 0
      Awaited y = IsAwaited tables.Liability y aim paid kept

      aim-is : (seat : ℕ) → aim seat ≡ pay_aim seat
      aim-is seat = ap (λ n. if eqb (place_of projection) seat then n else roll_in seat seats_own) is

      elsewhere : (other : Table) → same_table other tables.Liability ≡ false → HaveSeats other paid kept
      elsewhere tables.Security other = h.seated tables.Security
      elsewhere tables.Fund other = h.seated tables.Fund
      elsewhere tables.Liability other = absurd (cc)
      elsewhere tables.Group other = h.seated tables.Group
      elsewhere tables.Bank other = tt
      elsewhere tables.Rein other = tt
      elsewhere tables.Curve other = tt

      then-for : (empty : Bool) → IsFor kept.liabilities.rolls (place_of projection) (then_paid empty)
      then-for true = inl refl
      then-for false = serves sheet kept h (rolls.Losses p.kind projection) loss refl

      fits : (seat : ℕ) (t : Bool) → eqb (place_of projection) seat ≡ t → IsFor kept.liabilities.rolls seat (if t then number else roll_in seat seats_own)
      fits seat true e = subst (λ s. IsFor kept.liabilities.rolls s number) ((Decides-eqb (place_of projection) seat).0 e) (subst (λ n. IsFor kept.liabilities.rolls (place_of projection) n) (sym is) (then-for (is_empty flows)))
      fits seat false e = stands-for seat

      -- each is a roll's
      then-owned : (empty : Bool) → then_paid empty ≢ NOWHERE → IsOfRoll tables.Liability (then_paid empty) kept
      then-owned true some = absurd (some refl)
      then-owned false some = record { roll = rolls.Losses p.kind projection; of = refl; numbered = refl }

      aimed : (seat : ℕ) (t : Bool) → eqb (place_of projection) seat ≡ t → (if t then number else roll_in seat seats_own) ≢ NOWHERE
          → IsOfRoll tables.Liability (if t then number else roll_in seat seats_own) kept
      aimed seat true e some = subst (λ n. IsOfRoll tables.Liability n kept) (sym is) (then-owned (is_empty flows) (λ z. some (is ∙ z)))
      aimed seat false e some =
          h.numbered.owned tables.Liability (roll_in seat seats_own) x
          (row-listed names kept.liabilities (h.seated tables.Liability) apart place (omega (arith, within, length-map sheet.liabilities liability_name)) x named seat some)

      own-seats : seats_of (map liability_name paid.liabilities) kept.liabilities.seats x ≡ seats_own
      own-seats = ap (λ (ns : List (List ℕ)). seats_of ns kept.liabilities.seats x) names-paid
          ∙ own-before names kept.liabilities (h.seated tables.Liability) apart place (omega (arith, within, length-map sheet.liabilities liability_name)) x named

      rooms : (seat : ℕ) (t : Bool) → eqb (place_of projection) seat ≡ t → (if t then number else roll_in seat seats_own) ≢ NOWHERE → (if t then number else roll_in seat seats_own) ≢ roll_in seat seats_own
          → 0 < room_of (if t then number else roll_in seat seats_own) kept.liabilities.rolls
      rooms seat true e some other = room some
      rooms seat false e some other = absurd (other refl)

      others : (roll : Roll) (other : List ℕ) → ((same_table (table_of roll) tables.Liability ≡ false) ⊎ (same_name x other ≡ false)) → has other (roll_of roll kept) ≡ is_member roll other paid
      others roll other (inl elsewhere_roll) = h.members roll other ∙ sym (apart-liabilities sheet other roll paid.liabilities elsewhere_roll)
      others roll other (inr other_name) = others-at sheet kept h (edits.LiabilityFlows x projection flows) x refl roll other other_name

      awaited : Awaited x
      awaited = record {
        known = record {
          numbered = h.numbered;
          elsewhere = elsewhere;
          own = λ roll n same e. ap (λ m. eqb m n) (aim-is (seat_of_roll roll)) ∙ own-paid roll n same e
              ∙ sym (ap (λ o. option_map_or (has_liability roll) o false) after-found) ∙ sym (ap (λ (t : Table). is_member_in t roll x paid) (same-table (table_of roll) tables.Liability same));
          none = λ roll same e.
              ap (λ (t : Table). is_member_in t roll x paid) (same-table (table_of roll) tables.Liability same) ∙ ap (λ o. option_map_or (has_liability roll) o false) after-found ∙ none-paid roll same e;
          aimed = λ seat some. aimed seat (eqb (place_of projection) seat) refl some;
          others = others;
        };
        seated = inl (subst (λ (ns : List (List ℕ)). AreSeated ns kept.liabilities) (sym names-paid) (h.seated tables.Liability));
        there = ap is_some after-found;
        fits = λ seat inside. fits seat (eqb (place_of projection) seat) refl;
        room = λ seat some other. rooms seat (eqb (place_of projection) seat) refl some (λ e. other (e ∙ ap (roll_in seat) (sym own-seats)));
      }

      pub placed-projected : IsPlaced tables.Liability place (place_of projection) number paid kept
      placed-projected = record {
        within = subst (λ (ns : List (List ℕ)). place < length ns) (sym names-paid) (omega (arith, within, length-map sheet.liabilities liability_name));
        seated = subst (λ (ns : List (List ℕ)). AreSeated ns kept.liabilities) (sym names-paid) (h.seated tables.Liability);
        few = (let below = place-below projection in omega (arith, below));
        awaited = subst (λ (ns : List (List ℕ)). Awaited (get_or ns place [])) (sym names-paid) (subst (λ (y : List ℕ). Awaited y) (sym named) awaited);
      }
