-- The modules of market, default and life risk, and of health similar to life, are together within the limit that the Basic
-- Solvency Capital Requirement keeps to 128 bits by.
use Rattle.std.proofs.Common.{◌≡◌, ℕ, ◌+◌, ◌*◌, ◌^◌, ◌≤◌, Bool, true, false, ◌&&◌, sum_by, refl, sym, arith}
use Rattle.std.proofs.lemmas.Bool.{true≢false}
use Rattle.scr_num.specs.Amounts.{IsAmount}
use Rattle.scr_num.specs.Rounding.{Ends}
use Rattle.scr_yield_curve.specs.declared.table.TheConstants.{MAX_DISCOUNT}
use Rattle.scr_factors.specs.Values.{FactorValues}
use Rattle.scr_sheet.specs.CashFlows.{flows_under, total}
use Rattle.scr_sheet.specs.Validity.{Valid}
use Rattle.scr_sheet.specs.declared.{keys.Projection.Projection, rows.Liability.Liability, rows.LiabilityKind.LiabilityKind, sheet.BalanceSheet.BalanceSheet}
use Rattle.scr_sheet.specs.declared.keys.Projection.TheVariants as projections
use Rattle.scr_sheet.specs.declared.rows.LiabilityKind.TheVariants as kinds
use Rattle.scr_nodes.specs.declared.{node.Biometric.Biometric, node.Measure.Measure, node.Node.Node}
use Rattle.scr_nodes.specs.declared.node.Biometric.TheVariants as biometrics
use Rattle.scr_nodes.specs.declared.node.Measure.TheVariants as measures
use Rattle.scr_nodes.specs.declared.node.Node.TheVariants as nodes
use Rattle.scr_nodes.specs.declared.node.Whole.TheVariants as wholes
use Rattle.scr_nodes.specs.declared.node.Risk.TheVariants as risks
use Rattle.scr_nodes.specs.Rows.{has_flows, is_of_kind, is_stressed}
use Rattle.scr_nodes.specs.Sources.{risk_part}
use Rattle.scr_rules.specs.Worked.{worked}
use Rattle.scr_rules.proofs.DefaultSizes.{default-amount, net-amount}
use Rattle.scr_rules.proofs.LifeSizes.{loss_most, scenario_most, at-most, losses-amount, stress-worked, net-worked, life_lapse-amount, health_lapse-amount, life-worked, slt-worked}
use Rattle.scr_rules.proofs.LifeTogether.{AreStresses, apart-within, lapse_of, life_most, slt_most, life-within, slt-within, life-together}
use Rattle.scr_rules.proofs.LossSizes.{AreOthersWithin}
use Rattle.scr_rules.proofs.MarketSizes.{market-amount}

-- a liability is of one kind
one-kind : (projection : Projection) (l : Liability) → is_stressed biometrics.Life projection l ≡ true → is_stressed biometrics.Health projection l ≡ false
one-kind projection l h = by l.kind (has_flows projection l) h
  where
    by : (kind : LiabilityKind) (b : Bool) → (is_of_kind biometrics.Life kind && b) ≡ true → (is_of_kind biometrics.Health kind && b) ≡ false
    by kinds.Life b h = refl
    by kinds.Health b h = absurd (true≢false (sym h))
    by kinds.Other b h = absurd (true≢false (sym h))

module _ (factors : FactorValues) (sheet : BalanceSheet) (valid : Valid sheet) where
  abbrev figure : Node → Ends
  figure node = worked factors sheet node

  -- a stress falls on the cash flows of all liabilities, which are limited
  stress-together : (projection : Projection)
      → scenario_most factors sheet valid biometrics.Life projection + scenario_most factors sheet valid biometrics.Health projection ≤ 274_000_000_000_000_000_000_000_000_000_000
  stress-together projection =
      let both = apart-within (is_stressed biometrics.Life projection) (is_stressed biometrics.Health projection) (loss_most factors sheet valid projection) (one-kind projection) sheet.liabilities in
      let all : sum_by (loss_most factors sheet valid projection) sheet.liabilities
      ≤ MAX_DISCOUNT * (sum_by (λ (l : Liability). total (flows_under projection l.flows)) sheet.liabilities + sum_by (λ (l : Liability). total l.flows.base) sheet.liabilities) =
      at-most factors sheet valid (λ l. true) projection sheet.liabilities in
      omega (arith, both, all, valid.within.liability_flows projection, valid.within.liability_flows projections.Base)

  lapse-amount : (biometric : Biometric) (measure : Measure) → IsAmount 274_000_000_000_000_000 (figure (nodes.Whole (wholes.Picked (lapse_of biometric) measure)))
  lapse-amount biometrics.Life measure = life_lapse-amount factors sheet valid measure
  lapse-amount biometrics.Health measure = health_lapse-amount factors sheet valid measure

  pub stresses : AreStresses figure sheet (scenario_most factors sheet valid)
  stresses = record {
    losses = losses-amount factors sheet valid;
    together = stress-together;
    gross = stress-worked factors sheet valid;
    net = net-worked factors sheet valid;
    lapse = lapse-amount;
    life = life-worked factors sheet valid;
    slt = slt-worked factors sheet valid;
  }

  default-part : (measure : Measure) → IsAmount (18 * 10 ^ 16) (figure (risk_part risks.Default measure))
  default-part measures.Gross = default-amount factors sheet valid
  default-part measures.Net = net-amount factors sheet valid

  abbrev pub life_grains : ℕ
  life_grains = life_most figure sheet (scenario_most factors sheet valid) stresses

  abbrev pub slt_grains : ℕ
  slt_grains = slt_most figure sheet (scenario_most factors sheet valid) stresses

  pub others-within : AreOthersWithin figure (2 * 10 ^ 18) (18 * 10 ^ 16) life_grains slt_grains
  others-within =
      let both = life-together figure sheet (scenario_most factors sheet valid) stresses in
      record {
        market_amount = market-amount factors sheet valid;
        default_amount = default-part;
        life_amount = life-within figure sheet (scenario_most factors sheet valid) stresses;
        slt_amount = slt-within figure sheet (scenario_most factors sheet valid) stresses;
        together = omega (arith, both);
      }
