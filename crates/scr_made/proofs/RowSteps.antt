-- What the records of groups, securities, liabilities and banks do to a sheet that is built.
use Rattle.std.proofs.Common.{if◌then◌else◌, ◌≡◌, ℕ, suc, ℤ, pos, ◌<◌, ◌≤◌, ◌^◌, false, true, List, [], ◌∷◌, length, Option, None, Some, is_some, refl, sym, ap, ◌∙◌, subst, arith}
use Rattle.std.specs.List.{AllByRecursion}
use Rattle.std.specs.Option.{option_map_or}
use Rattle.std.proofs.lemmas.Int.{ints}
use Rattle.scr_dates.specs.declared.day.Day.{Day}
use Rattle.scr_tables.specs.Tables.{row_of}
use Rattle.scr_tables.proofs.TableRows.{All-changed, All-row_of, All-with_row, name_of-row_of, names-changed, same_name-is}
use Rattle.scr_profile.specs.declared.group_kind.GroupKind.{GroupKind}
use Rattle.scr_profile.specs.declared.limits.TheConstants.{MAX_AMOUNT, MAX_DURATION, MAX_FLOWS, MAX_LIABILITY_FLOWS, MAX_PROMISED}
use Rattle.scr_sheet.specs.BalanceSheet.{bank_name, group_name, liability_flows_total, liability_name, position_name}
use Rattle.scr_sheet.specs.CashFlows.{flows_under, has_projection, no_flows, suits, total, with_flows}
use Rattle.scr_sheet.specs.Faults.{above, first_fault, lacking, misplaced, outside, outside_promise, unknown_currency, unknown_row}
use Rattle.scr_sheet.specs.Records.{applied}
use Rattle.scr_sheet.specs.declared.{edit.Edit.Edit, keys.Projection.Projection, rows.Class.Class, rows.Liability.Liability, rows.LiabilityKind.LiabilityKind, rows.Position.Position, sheet.BalanceSheet.BalanceSheet}
use Rattle.scr_sheet.specs.declared.edit.Edit.TheVariants as edits
use Rattle.scr_sheet.specs.declared.fault.Fault.TheVariants as faults
use Rattle.scr_sheet.specs.declared.fault.Quantity.TheVariants as quantities
use Rattle.scr_sheet.specs.declared.fault.User.TheVariants as users
use Rattle.scr_sheet.specs.declared.keys.Table.TheVariants as tables
use Rattle.scr_sheet.proofs.Bounds.{above-within}
use Rattle.scr_sheet.proofs.Projections.{each-with_flows, under-no_flows}
use Rattle.scr_made.specs.Made.{liability_kind}
use Rattle.scr_made.proofs.Built.{BankBounds, Built, Counts, FlowBounds, LineBounds, PositionBounds, euros_dollars_pounds, flows-within}
use Rattle.scr_made.proofs.Faultless.{Step, amount_inside, bank_free, currency_there, first_fault-none, group_free, group_there, in_place, inside, known_currency, known_row, liability_free, liability_there, named-group, named-liability, named-security, new_name, security_free, security_there, short, sound, two_none}
use Rattle.scr_made.proofs.Numbered.{bank_letter, group_letter, grown, has-fresh, liability_letter, number_of, row_name, security_letter, stands}
use Rattle.scr_made.proofs.Sight.{ArePaid}

-- what is not there is not found
pub not_found : {A : Type 0} (found : Option A) → is_some found ≡ false → found ≡ None
not_found None h = refl
not_found (Some x) h = absurd (cc)

module _ (n : Counts) (sheet : BalanceSheet) (b : Built n sheet) where
  pub with_group : suc n.groups ≤ 400 → (kind : GroupKind) (step : Option ℕ)
      → Step (record n { groups = suc n.groups }) (edits.Group (row_name group_letter n.groups) kind step) sheet
  with_group few kind step =
      let name = row_name group_letter n.groups in
      let more : Counts = record n { groups = suc n.groups } in
      let after : Built more (applied (edits.Group name kind step) sheet) = record {
        few = record { groups = few; securities = b.few.securities; funds = b.few.funds; liabilities = b.few.liabilities; banks = b.few.banks };
        groups = grown group_name group_letter n.groups _ sheet.groups (omega (arith, few)) refl b.groups;
        securities = b.securities;
        positions = b.positions;
        funds = b.funds;
        stakes = b.stakes;
        liabilities = b.liabilities;
        lines = b.lines;
        banks = b.banks;
        exposures = b.exposures;
        reinsurers = b.reinsurers;
        curves = b.curves;
        segments = b.segments;
        volumes = b.volumes;
        sight = b.sight;
      } in (
        sound (edits.Group name kind step) sheet more refl refl
            (new_name name sheet tables.Group (group_free n sheet b)) refl refl refl after refl refl,
        after,
      )

  -- ---- securities

  -- what is kept of the row that a security replaces
  kept : (found : Option Position) → ((p : Position) → found ≡ Some p → PositionBounds p)
      → (option_map_or (λ p. p.held) found 0 ≤ 500000000) × ArePaid (option_map_or (λ p. p.security.flows) found [])
  kept None each = (omega arith, tt)
  kept (Some p) each = let bounds = each p refl in (bounds.held, bounds.paid)

  pub with_security : suc n.securities ≤ 8000 → (class : Class) (k : ℕ) → k < n.groups → (currency : List ℕ)
      → stands currency euros_dollars_pounds ≡ true → (duration : ℕ) → duration ≤ 100000
      → Step (record n { securities = suc n.securities })
      (edits.Security (row_name security_letter n.securities) class (Some (row_name group_letter k)) currency (pos duration)) sheet
  with_security few class k h currency known duration long =
      let name = row_name security_letter n.securities in
      let group = row_name group_letter k in
      let more : Counts = record n { securities = suc n.securities } in
      let old = kept (row_of position_name name sheet.securities)
      (λ p is. All-row_of position_name PositionBounds name sheet.securities p is b.positions) in
      let there = group_there n sheet b k h in
      let after : Built more (applied (edits.Security name class (Some group) currency (pos duration)) sheet) = record {
        few = record { groups = b.few.groups; securities = few; funds = b.few.funds; liabilities = b.few.liabilities; banks = b.few.banks };
        groups = b.groups;
        securities = grown position_name security_letter n.securities _ sheet.securities (omega (arith, few)) refl b.securities;
        positions = All-with_row position_name PositionBounds _ sheet.securities (record { held = old.0; paid = old.1 }) b.positions;
        funds = b.funds;
        stakes = b.stakes;
        liabilities = b.liabilities;
        lines = b.lines;
        banks = b.banks;
        exposures = b.exposures;
        reinsurers = b.reinsurers;
        curves = b.curves;
        segments = b.segments;
        volumes = b.volumes;
        sight = b.sight;
      } in (
        sound (edits.Security name class (Some group) currency (pos duration)) sheet more refl
            (two_none (known_row group sheet (named-group group sheet there))
            (known_currency currency sheet (currency_there n sheet b currency known)))
            (two_none (new_name name sheet tables.Security (security_free n sheet b)) (in_place group sheet tables.Group there))
            refl refl (inside quantities.Duration (pos 0) MAX_DURATION (pos duration) (omega (arith, ints)) (omega (arith, ints, long)))
            after refl refl,
        after,
      )

  -- its flows
  pub with_promise : (k : ℕ) → k < n.securities → (flows : List (Day × ℤ)) → length flows ≤ MAX_FLOWS
      → AllByRecursion (λ flow. outside_promise flow ≡ None) flows → total flows ≤ MAX_PROMISED → ArePaid flows
      → Step n (edits.Flows (row_name security_letter k) flows) sheet
  with_promise k h flows few each sum paid =
      let name = row_name security_letter k in
      let change : Position → Position = λ p. record p { security = record p.security { flows = flows } } in
      let after : Built n (applied (edits.Flows name flows) sheet) = record {
        few = b.few;
        groups = b.groups;
        securities = names-changed position_name change name sheet.securities (λ p. refl) ∙ b.securities;
        positions = All-changed position_name PositionBounds change name sheet.securities
            (λ p is old. record { held = old.held; paid = paid }) b.positions;
        funds = b.funds;
        stakes = b.stakes;
        liabilities = b.liabilities;
        lines = b.lines;
        banks = b.banks;
        exposures = b.exposures;
        reinsurers = b.reinsurers;
        curves = b.curves;
        segments = b.segments;
        volumes = b.volumes;
        sight = b.sight;
      } in
      let there = security_there n sheet b k h in (
        sound (edits.Flows name flows) sheet n (short 2 2 MAX_FLOWS (length flows) few)
            (known_row name sheet (named-security name sheet there)) (in_place name sheet tables.Security there) refl refl
            (two_none (first_fault-none outside_promise flows each) (above-within quantities.SecFlows (total flows) MAX_PROMISED sum))
            after refl refl,
        after,
      )

  -- ---- liabilities

  kept_flows : (found : Option Liability) → ((l : Liability) → found ≡ Some l → LineBounds l) → (projection : Projection)
      → FlowBounds (flows_under projection (option_map_or (λ l. l.flows) found no_flows))
  kept_flows None each projection = subst FlowBounds (sym (under-no_flows projection)) (record { sum = omega arith; paid = tt })
  kept_flows (Some l) each projection = (each l refl).flows projection

  pub with_liability : suc n.liabilities ≤ 200 → (currency : List ℕ) → stands currency euros_dollars_pounds ≡ true
      → Step (record n { liabilities = suc n.liabilities })
      (edits.Liability (row_name liability_letter n.liabilities) (liability_kind n.liabilities) currency) sheet
  with_liability few currency known =
      let own = n.liabilities in
      let name = row_name liability_letter own in
      let more : Counts = record n { liabilities = suc own } in
      let after : Built more (applied (edits.Liability name (liability_kind own) currency) sheet) = record {
        few = record { groups = b.few.groups; securities = b.few.securities; funds = b.few.funds; liabilities = few; banks = b.few.banks };
        groups = b.groups;
        securities = b.securities;
        positions = b.positions;
        funds = b.funds;
        stakes = b.stakes;
        liabilities = grown liability_name liability_letter own _ sheet.liabilities (omega (arith, few)) refl b.liabilities;
        lines = All-with_row liability_name LineBounds _ sheet.liabilities
            (record {
              flows = kept_flows (row_of liability_name name sheet.liabilities)
                  (λ l is. All-row_of liability_name LineBounds name sheet.liabilities l is b.lines);
              kind = λ k small is. ap liability_kind (number_of liability_letter own k (omega (arith, few)) small is);
            }) b.lines;
        banks = b.banks;
        exposures = b.exposures;
        reinsurers = b.reinsurers;
        curves = b.curves;
        segments = b.segments;
        volumes = b.volumes;
        sight = b.sight;
      } in
      let nothing = not_found (row_of liability_name name sheet.liabilities)
      (has-fresh liability_name liability_letter own sheet.liabilities (omega (arith, few)) b.liabilities) in
      let suited = ap (λ found. option_map_or (λ l. suits (liability_kind own) l.flows) found true) nothing in (
        sound (edits.Liability name (liability_kind own) currency) sheet more refl
            (known_currency currency sheet (currency_there n sheet b currency known))
            (new_name name sheet tables.Liability (liability_free n sheet b))
            (ap (λ t. if t then None else Some (faults.InUse name users.Lflow)) suited) refl refl after refl refl,
        after,
      )

  -- a liability has the projections of its number's kind
  not_lacking : (k : ℕ) → k < n.liabilities → (projection : Projection)
      → has_projection (liability_kind k) projection ≡ true → lacking projection (row_name liability_letter k) sheet ≡ None
  not_lacking k h projection has =
      ap (λ t. if t then None else Some (faults.WrongKind (row_name liability_letter k)))
      (by (row_of liability_name (row_name liability_letter k) sheet.liabilities) refl)
    where
      by : (found : Option Liability) → row_of liability_name (row_name liability_letter k) sheet.liabilities ≡ found
          → option_map_or (λ l. has_projection l.kind projection) found true ≡ true
      by None is = refl
      by (Some l) is =
          let name = row_name liability_letter k in
          let bounds = All-row_of liability_name LineBounds name sheet.liabilities l is b.lines in
          let own = sym (same_name-is name l.name (name_of-row_of liability_name name sheet.liabilities l is)) in
          ap (λ kind. has_projection kind projection) (bounds.kind k (omega (arith, h, b.few.liabilities)) own) ∙ has

  pub with_projection : (k : ℕ) → k < n.liabilities → (projection : Projection)
      → has_projection (liability_kind k) projection ≡ true → (flows : List (Day × ℤ)) → length flows ≤ MAX_FLOWS
      → FlowBounds flows → Step n (edits.LiabilityFlows (row_name liability_letter k) projection flows) sheet
  with_projection k h projection has flows few bounds =
      let name = row_name liability_letter k in
      let change : Liability → Liability = λ l. record l { flows = with_flows projection flows l.flows } in
      let after : Built n (applied (edits.LiabilityFlows name projection flows) sheet) = record {
        few = b.few;
        groups = b.groups;
        securities = b.securities;
        positions = b.positions;
        funds = b.funds;
        stakes = b.stakes;
        liabilities = names-changed liability_name change name sheet.liabilities (λ l. refl) ∙ b.liabilities;
        lines = All-changed liability_name LineBounds change name sheet.liabilities
            (λ l is old. record { flows = each-with_flows FlowBounds flows l.flows projection bounds old.flows; kind = old.kind })
            b.lines;
        banks = b.banks;
        exposures = b.exposures;
        reinsurers = b.reinsurers;
        curves = b.curves;
        segments = b.segments;
        volumes = b.volumes;
        sight = b.sight;
      } in
      let there = liability_there n sheet b k h in (
        sound (edits.LiabilityFlows name projection flows) sheet n (short 3 2 MAX_FLOWS (length flows) few)
            (known_row name sheet (named-liability name sheet there))
            (two_none (in_place name sheet tables.Liability there) (not_lacking k h projection has)) refl refl refl after
            (above-within quantities.LiabilityFlows
            (liability_flows_total projection (applied (edits.LiabilityFlows name projection flows) sheet)) MAX_LIABILITY_FLOWS
            (flows-within n (applied (edits.LiabilityFlows name projection flows) sheet) after projection)) refl,
        after,
      )

  -- ---- banks

  pub with_bank : suc n.banks ≤ 20 → (k : ℕ) → k < n.groups → (cents : ℕ) → cents ≤ 50000000
      → Step (record n { banks = suc n.banks })
      (edits.Bank (row_name bank_letter n.banks) (row_name group_letter k) (pos cents)) sheet
  with_bank few k h cents small =
      let name = row_name bank_letter n.banks in
      let group = row_name group_letter k in
      let more : Counts = record n { banks = suc n.banks } in
      let there = group_there n sheet b k h in
      let after : Built more (applied (edits.Bank name group (pos cents)) sheet) = record {
        few = record { groups = b.few.groups; securities = b.few.securities; funds = b.few.funds; liabilities = b.few.liabilities; banks = few };
        groups = b.groups;
        securities = b.securities;
        positions = b.positions;
        funds = b.funds;
        stakes = b.stakes;
        liabilities = b.liabilities;
        lines = b.lines;
        banks = grown bank_name bank_letter n.banks _ sheet.banks (omega (arith, few)) refl b.banks;
        exposures = All-with_row bank_name BankBounds _ sheet.banks small b.exposures;
        reinsurers = b.reinsurers;
        curves = b.curves;
        segments = b.segments;
        volumes = b.volumes;
        sight = b.sight;
      } in (
        sound (edits.Bank name group (pos cents)) sheet more refl (known_row group sheet (named-group group sheet there))
            (two_none (new_name name sheet tables.Bank (bank_free n sheet b)) (in_place group sheet tables.Group there)) refl refl
            (two_none (amount_inside quantities.Amount cents MAX_AMOUNT (omega (arith, small))) refl) after refl refl,
        after,
      )
