-- What the records of funds and of what is held do to a sheet that is built.
use Rattle.std.proofs.Common.{◌≡◌, ℕ, suc, ℤ, pos, ◌⊎◌, inl, inr, ◌<◌, ◌≤◌, ◌^◌, ◌≤ℤ◌, false, true, if◌then◌else◌, List, [], ◌∷◌, map, length, Option, None, Some, refl, sym, ap, ◌∙◌, subst, arith}
use Rattle.std.specs.List.{AllByRecursion, IsDistinct}
use Rattle.std.specs.Option.{option_map_or}
use Rattle.std.proofs.lemmas.Int.{ints}
use Rattle.scr_tables.specs.Names.{same_name}
use Rattle.scr_tables.specs.Tables.{row_of}
use Rattle.scr_tables.proofs.TableRows.{All-changed, All-map, All-row_of, All-with_row, names-changed}
use Rattle.scr_profile.specs.declared.limits.TheConstants.{MAX_WEIGHT, MIN_WEIGHT}
use Rattle.scr_sheet.specs.BalanceSheet.{is_named, position_name, stake_name}
use Rattle.scr_sheet.specs.Faults.{below_zero, misplaced_component, misplaced_holding, outside_weight, unknown_component}
use Rattle.scr_sheet.specs.Records.{applied}
use Rattle.scr_sheet.specs.declared.{rows.Position.Position, rows.Stake.Stake, sheet.BalanceSheet.BalanceSheet}
use Rattle.scr_sheet.specs.declared.edit.Edit.TheVariants as edits
use Rattle.scr_sheet.specs.declared.fault.Quantity.TheVariants as quantities
use Rattle.scr_sheet.specs.declared.keys.Table.TheVariants as tables
use Rattle.scr_sheet.proofs.FundLists.{no-fault}
use Rattle.scr_made.proofs.Built.{AreBelow, Built, Counts, PositionBounds, StakeBounds}
use Rattle.scr_made.proofs.Faultless.{Step, first_fault-none, fund_free, fund_there, held_fund, held_security, in_place, inside, known_row, named-fund, named-security, new_name, no_fund, no_security, security_there, sound, two_none, unless}
use Rattle.scr_made.proofs.NoCycle.{Lacks, no_cycle}
use Rattle.scr_made.proofs.Numbered.{fund_letter, grown, other_letter, other_number, row_name, security_letter}
use Rattle.scr_made.proofs.RowSteps.{not_found}

-- a security or an earlier fund, with a weight within its limits
pub record IsComponent (s u : ℕ) (c : List ℕ × ℤ) : Type 0 where
  pub old : ((j : ℕ) × (j < s) × (c.0 ≡ row_name security_letter j)) ⊎ ((j : ℕ) × (j < u) × (c.0 ≡ row_name fund_letter j))
  pub least : MIN_WEIGHT ≤ℤ c.1
  pub most : c.1 ≤ℤ MAX_WEIGHT

abbrev pub AreComponents : ℕ → ℕ → List (List ℕ × ℤ) → Type 0
AreComponents s u components = AllByRecursion (IsComponent s u) components

-- a component is no later fund
no_later_fund : (s u : ℕ) → s ≤ 8000 → (c : List ℕ × ℤ) → IsComponent s u c → (k : ℕ) → u ≤ k → k < 2 ^ 32
    → same_name c.0 (row_name fund_letter k) ≡ false
no_later_fund s u few c h k least small =
    elim (h.old) [
      | inl security ↦
          ap (λ name. same_name name (row_name fund_letter k)) security.2
          ∙ other_letter security_letter fund_letter security.0 k refl
      | inr fund ↦
          let before = fund.1 in
          ap (λ name. same_name name (row_name fund_letter k)) fund.2
          ∙ other_number fund_letter fund.0 k (omega (arith, before, least, small)) small
          (λ e. absurd (omega (arith, before, least, e)))
    ]

module _ (n : Counts) (sheet : BalanceSheet) (b : Built n sheet) where
  -- ---- funds

  known_component : (own : List ℕ) (c : List ℕ × ℤ) → IsComponent n.securities n.funds c → unknown_component own sheet c ≡ None
  known_component own c h = unless (same_name c.0 own) _ (known_row c.0 sheet (by h.old))
    where
      by : ((j : ℕ) × (j < n.securities) × (c.0 ≡ row_name security_letter j)) ⊎ ((j : ℕ) × (j < n.funds) × (c.0 ≡ row_name fund_letter j)) → is_named c.0 sheet ≡ true
      by (inl security) =
          ap (λ name. is_named name sheet) security.2
          ∙ named-security (row_name security_letter security.0) sheet (security_there n sheet b security.0 security.1)
      by (inr fund) =
          ap (λ name. is_named name sheet) fund.2
          ∙ named-fund (row_name fund_letter fund.0) sheet (fund_there n sheet b fund.0 fund.1)

  component_in_place : (own : List ℕ) (c : List ℕ × ℤ) → IsComponent n.securities n.funds c → misplaced_component own sheet c ≡ None
  component_in_place own c h = unless (same_name c.0 own) _ (by h.old)
    where
      by : ((j : ℕ) × (j < n.securities) × (c.0 ≡ row_name security_letter j)) ⊎ ((j : ℕ) × (j < n.funds) × (c.0 ≡ row_name fund_letter j)) → misplaced_holding c.0 sheet ≡ None
      by (inl security) =
          ap (λ name. misplaced_holding name sheet) security.2
          ∙ held_security (row_name security_letter security.0) sheet (security_there n sheet b security.0 security.1)
      by (inr fund) =
          ap (λ name. misplaced_holding name sheet) fund.2
          ∙ held_fund (row_name fund_letter fund.0) sheet (fund_there n sheet b fund.0 fund.1)

  kept_stake : (found : Option Stake) → ((s : Stake) → found ≡ Some s → StakeBounds n.funds s)
      → option_map_or (λ s. s.held) found 0 ≤ 13000000000
  kept_stake None each = omega arith
  kept_stake (Some s) each = (each s refl).held

  pub with_fund_record : suc n.funds ≤ 60 → (components : List (List ℕ × ℤ)) → AreComponents n.securities n.funds components
      → IsDistinct same_name (map (λ c. c.0) components) → length components ≤ 21
      → Step (record n { funds = suc n.funds }) (edits.Fund (row_name fund_letter n.funds) components) sheet
  with_fund_record few components all apart short =
      let name = row_name fund_letter n.funds in
      let more : Counts = record n { funds = suc n.funds } in
      let securities = b.few.securities in
      let below : AreBelow (suc n.funds) components =
      All-map (IsComponent n.securities n.funds) (λ c. (k : ℕ) → suc n.funds ≤ k → k < 2 ^ 32 → same_name c.0 (row_name fund_letter k) ≡ false)
      components (λ c h k least small. no_later_fund n.securities n.funds securities c h k (omega (arith, least)) small) all in
      let after : Built more (applied (edits.Fund name components) sheet) = record {
        few = record { groups = b.few.groups; securities = b.few.securities; funds = few; liabilities = b.few.liabilities; banks = b.few.banks };
        groups = b.groups;
        securities = b.securities;
        positions = b.positions;
        funds = grown stake_name fund_letter n.funds _ sheet.funds (omega (arith, few)) refl b.funds;
        stakes = All-with_row stake_name (StakeBounds (suc n.funds)) _ sheet.funds
            (record {
              held = kept_stake (row_of stake_name name sheet.funds)
                  (λ s is. All-row_of stake_name (StakeBounds n.funds) name sheet.funds s is b.stakes);
              few = short;
              below = below;
            })
            (All-map (StakeBounds n.funds) (StakeBounds (suc n.funds)) sheet.funds later b.stakes);
        liabilities = b.liabilities;
        lines = b.lines;
        banks = b.banks;
        exposures = b.exposures;
        reinsurers = b.reinsurers;
        curves = b.curves;
        segments = b.segments;
        volumes = b.volumes;
        sight = b.sight;
      } in
      let lacks : Lacks name components =
      All-map (IsComponent n.securities n.funds) (λ c. same_name c.0 name ≡ false) components
      (λ c h. no_later_fund n.securities n.funds securities c h n.funds (omega arith) (omega (arith, few))) all in
      let others : AllByRecursion (λ s. Lacks name s.fund.components) sheet.funds =
      All-map (StakeBounds n.funds) (λ s. Lacks name s.fund.components) sheet.funds lacking b.stakes in (
        sound (edits.Fund name components) sheet more
            ((no-fault components).1 (apart, omega (arith, short)))
            (first_fault-none (unknown_component name sheet) components
            (All-map (IsComponent n.securities n.funds) (λ c. unknown_component name sheet c ≡ None) components (known_component name) all))
            (two_none (new_name name sheet tables.Fund (fund_free n sheet b))
            (first_fault-none (misplaced_component name sheet) components
            (All-map (IsComponent n.securities n.funds) (λ c. misplaced_component name sheet c ≡ None) components (component_in_place name) all)))
            refl (no_cycle name components sheet lacks others)
            (first_fault-none outside_weight components
            (All-map (IsComponent n.securities n.funds) (λ c. outside_weight c ≡ None) components
            (λ c h. inside quantities.Weight MIN_WEIGHT MAX_WEIGHT c.1 h.least h.most) all))
            after refl refl,
        after,
      )
    where
      later : (s : Stake) → StakeBounds n.funds s → StakeBounds (suc n.funds) s
      later s old = record {
        held = old.held;
        few = old.few;
        below = All-map _ _ s.fund.components (λ c h k least small. h k (omega (arith, least)) small) old.below;
      }

      lacking : (s : Stake) → StakeBounds n.funds s → Lacks (row_name fund_letter n.funds) s.fund.components
      lacking s old = All-map _ _ s.fund.components (λ c h. h n.funds (omega arith) (omega (arith, few))) old.below

  -- ---- what is held

  not_below_zero : (cents : ℕ) → below_zero (pos cents) ≡ None
  not_below_zero cents = grind (arith, ints)

  pub with_hold : (k : ℕ) → k < n.securities → (cents : ℕ) → cents ≤ 500000000
      → Step n (edits.Hold (row_name security_letter k) (pos cents)) sheet
  with_hold k h cents small =
      let name = row_name security_letter k in
      let change : Position → Position = λ p. record p { held = cents } in
      let no_change : Stake → Stake = λ s. record s { held = cents } in
      let nothing = not_found (row_of stake_name name sheet.funds) (no_fund n sheet b security_letter k refl) in
      let after : Built n (applied (edits.Hold name (pos cents)) sheet) = record {
        few = b.few;
        groups = b.groups;
        securities = names-changed position_name change name sheet.securities (λ p. refl) ∙ b.securities;
        positions = All-changed position_name PositionBounds change name sheet.securities
            (λ p is old. record { held = small; paid = old.paid }) b.positions;
        funds = names-changed stake_name no_change name sheet.funds (λ s. refl) ∙ b.funds;
        stakes = All-changed stake_name (StakeBounds n.funds) no_change name sheet.funds
            (λ s is old. absurd (let clash : None ≡ Some s = sym nothing ∙ is in cc)) b.stakes;
        liabilities = b.liabilities;
        lines = b.lines;
        banks = b.banks;
        exposures = b.exposures;
        reinsurers = b.reinsurers;
        curves = b.curves;
        segments = b.segments;
        volumes = b.volumes;
        sight = b.sight;
      } in
      let there = security_there n sheet b k h in (
        sound (edits.Hold name (pos cents)) sheet n refl (known_row name sheet (named-security name sheet there))
            (held_security name sheet there) refl refl (not_below_zero cents) after refl refl,
        after,
      )

  pub with_stake : (k : ℕ) → k < n.funds → (cents : ℕ) → cents ≤ 13000000000
      → Step n (edits.Hold (row_name fund_letter k) (pos cents)) sheet
  with_stake k h cents small =
      let name = row_name fund_letter k in
      let no_change : Position → Position = λ p. record p { held = cents } in
      let change : Stake → Stake = λ s. record s { held = cents } in
      let nothing = not_found (row_of position_name name sheet.securities) (no_security n sheet b fund_letter k refl) in
      let after : Built n (applied (edits.Hold name (pos cents)) sheet) = record {
        few = b.few;
        groups = b.groups;
        securities = names-changed position_name no_change name sheet.securities (λ p. refl) ∙ b.securities;
        positions = All-changed position_name PositionBounds no_change name sheet.securities
            (λ p is old. absurd (let clash : None ≡ Some p = sym nothing ∙ is in cc)) b.positions;
        funds = names-changed stake_name change name sheet.funds (λ s. refl) ∙ b.funds;
        stakes = All-changed stake_name (StakeBounds n.funds) change name sheet.funds
            (λ s is old. record { held = small; few = old.few; below = old.below }) b.stakes;
        liabilities = b.liabilities;
        lines = b.lines;
        banks = b.banks;
        exposures = b.exposures;
        reinsurers = b.reinsurers;
        curves = b.curves;
        segments = b.segments;
        volumes = b.volumes;
        sight = b.sight;
      } in
      let there = fund_there n sheet b k h in (
        sound (edits.Hold name (pos cents)) sheet n refl (known_row name sheet (named-fund name sheet there))
            (held_fund name sheet there) refl refl (not_below_zero cents) after refl refl,
        after,
      )
