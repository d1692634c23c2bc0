-- What life risk and health risk similar to life are at most together: a stress falls on the obligations of both, and the
-- cash flows of all obligations under it are limited. Lapses alone may be of other scenarios in life and in health.
use Rattle.std.proofs.Common.{◌≡◌, ℕ, ◌+◌, ◌*◌, ◌/◌, ◌≤◌, Bool, true, false, List, [], ◌∷◌, map, sum_by, if◌then◌else◌, refl, sym, subst, arith}
use Rattle.std.proofs.lemmas.Bool.{true≢false}
use Rattle.std.proofs.lemmas.List.Sums.{sum_by-cons}
use Rattle.scr_num.specs.Amounts.{IsAmount}
use Rattle.scr_num.specs.Rounding.{Ends}
use Rattle.scr_num.specs.Sums.{sum_ends}
use Rattle.scr_num.proofs.AmountBounds.{amount-wider}
use Rattle.scr_agg.specs.Absorbed.{net_ends}
use Rattle.scr_bio.specs.BiometricEnds.{units_of_a_grain, loss_ends, life_ends, slt_ends}
use Rattle.scr_bio.proofs.BiometricBounds.{loss-size, life-size, slt-size}
use Rattle.scr_sheet.specs.declared.{keys.Projection.Projection, sheet.BalanceSheet.BalanceSheet}
use Rattle.scr_sheet.specs.declared.keys.Projection.TheVariants as projections
use Rattle.scr_nodes.specs.declared.{node.Alternatives.Alternatives, node.Biometric.Biometric, node.Measure.Measure, node.Node.Node}
use Rattle.scr_nodes.specs.declared.node.Alternatives.TheVariants as alternatives
use Rattle.scr_nodes.specs.declared.node.Biometric.TheVariants as biometrics
use Rattle.scr_nodes.specs.declared.node.Measure.TheVariants as measures
use Rattle.scr_nodes.specs.declared.node.Node.TheVariants as nodes
use Rattle.scr_nodes.specs.declared.node.Whole.TheVariants as wholes
use Rattle.scr_nodes.specs.OwnOf.{stress_absorbed}
use Rattle.scr_nodes.specs.Sources.{losses_under, life_parts, slt_parts}
use Rattle.scr_rules.proofs.NonlifeSizes.{net-amount}

-- rows that pass one of two tests, of which none passes both, are no more than all
pub apart-within : {Row : Type 0} (one other : Row → Bool) (most : Row → ℕ) → ((row : Row) → one row ≡ true → other row ≡ false)
    → (rows : List Row)
    → sum_by (λ row. if one row then most row else 0) rows + sum_by (λ row. if other row then most row else 0) rows ≤ sum_by most rows
apart-within one other most apart [] = omega arith
apart-within {Row} one other most apart (row ∷ rows) =
    let first = sum_by-cons (λ (r : Row). if one r then most r else 0) row rows in
    let second = sum_by-cons (λ (r : Row). if other r then most r else 0) row rows in
    omega (arith, first, second, sum_by-cons most row rows, apart-within one other most apart rows, here (one row) (other row) (apart row))
  where
    here : (a b : Bool) → (a ≡ true → b ≡ false) → (if a then most row else 0) + (if b then most row else 0) ≤ most row
    here true true h = absurd (true≢false (h refl))
    here true false h = omega arith
    here false true h = omega arith
    here false false h = omega arith

-- the alternatives of lapses
abbrev pub lapse_of : Biometric → Alternatives
lapse_of biometrics.Life = alternatives.LifeLapse
lapse_of biometrics.Health = alternatives.HealthLapse

-- what the liabilities of a kind lose under each stress, in 10^-18 cents, and how it makes the figures
pub record AreStresses (figure : Node → Ends) (sheet : BalanceSheet) (most : Biometric → Projection → ℕ) : Type 0 where
  pub losses : (biometric : Biometric) (projection : Projection)
      → IsAmount (most biometric projection) (sum_ends (map figure (losses_under biometric projection sheet)))
  pub together : (projection : Projection)
      → most biometrics.Life projection + most biometrics.Health projection ≤ 274_000_000_000_000_000_000_000_000_000_000
  pub gross : (biometric : Biometric) (projection : Projection)
      → figure (nodes.Whole (wholes.BioScenario biometric projection measures.Gross)) ≡ loss_ends (sum_ends (map figure (losses_under biometric projection sheet)))
  pub net : (biometric : Biometric) (projection : Projection)
      → figure (nodes.Whole (wholes.BioScenario biometric projection measures.Net))
      ≡ net_ends (figure (nodes.Whole (wholes.BioScenario biometric projection measures.Gross))) (stress_absorbed sheet biometric projection)
  pub lapse : (biometric : Biometric) (measure : Measure) → IsAmount 274_000_000_000_000_000 (figure (nodes.Whole (wholes.Picked (lapse_of biometric) measure)))
  pub life : (measure : Measure) → figure (nodes.Whole (wholes.Life measure)) ≡ life_ends (map figure (life_parts measure))
  pub slt : (measure : Measure) → figure (nodes.Whole (wholes.Slt measure)) ≡ slt_ends (map figure (slt_parts measure))

module _ (figure : Node → Ends) (sheet : BalanceSheet) (most : Biometric → Projection → ℕ) (stresses : AreStresses figure sheet most) where
  -- in grains
  abbrev grains : Biometric → Projection → ℕ
  grains biometric projection = most biometric projection / units_of_a_grain + 1

  rounded : (n : ℕ) → n ≤ (n / units_of_a_grain + 1) * units_of_a_grain
  rounded n = omega arith

  gross-amount : (biometric : Biometric) (projection : Projection) → IsAmount (grains biometric projection) (figure (nodes.Whole (wholes.BioScenario biometric projection measures.Gross)))
  gross-amount biometric projection =
      subst (IsAmount (grains biometric projection)) (sym (stresses.gross biometric projection))
      (loss-size (grains biometric projection) (sum_ends (map figure (losses_under biometric projection sheet)))
      (amount-wider (most biometric projection) (grains biometric projection * units_of_a_grain) _ (rounded (most biometric projection)) (stresses.losses biometric projection)))

  stress-amount : (biometric : Biometric) (projection : Projection) (measure : Measure) → IsAmount (grains biometric projection) (figure (nodes.Whole (wholes.BioScenario biometric projection measure)))
  stress-amount biometric projection measures.Gross = gross-amount biometric projection
  stress-amount biometric projection measures.Net =
      subst (IsAmount (grains biometric projection)) (sym (stresses.net biometric projection))
      (net-amount (grains biometric projection) (stress_absorbed sheet biometric projection) _ (gross-amount biometric projection))

  both-within : (projection : Projection) → grains biometrics.Life projection + grains biometrics.Health projection ≤ 274_000_000_000_000_002
  both-within projection = pair _ _ (stresses.together projection)
    where
      pair : (a b : ℕ) → a + b ≤ 274_000_000_000_000_000_000_000_000_000_000
          → (a / units_of_a_grain + 1) + (b / units_of_a_grain + 1) ≤ 274_000_000_000_000_002
      pair a b h = omega (arith, h)

  abbrev common : Biometric → List ℕ → List ℕ
  common biometric rest =
      grains biometric projections.Mortality ∷ grains biometric projections.Longevity ∷ grains biometric projections.Disability
      ∷ grains biometric projections.Expense ∷ grains biometric projections.Revision ∷ 274_000_000_000_000_000 ∷ rest

  abbrev pub life_most : ℕ
  life_most = sum_by (λ n. n) (common biometrics.Life (grains biometrics.Life projections.Catastrophe ∷ []))

  abbrev pub slt_most : ℕ
  slt_most = sum_by (λ n. n) (common biometrics.Health [])

  pub life-within : (measure : Measure) → IsAmount life_most (figure (nodes.Whole (wholes.Life measure)))
  life-within measure =
      let s = λ (projection : Projection). stress-amount biometrics.Life projection measure in
      subst (IsAmount life_most) (sym (stresses.life measure))
      (life-size (common biometrics.Life (grains biometrics.Life projections.Catastrophe ∷ [])) (map figure (life_parts measure)) refl
      (s projections.Mortality, (s projections.Longevity, (s projections.Disability, (s projections.Expense, (s projections.Revision, (stresses.lapse biometrics.Life measure, (s projections.Catastrophe, tt))))))))

  pub slt-within : (measure : Measure) → IsAmount slt_most (figure (nodes.Whole (wholes.Slt measure)))
  slt-within measure =
      let s = λ (projection : Projection). stress-amount biometrics.Health projection measure in
      subst (IsAmount slt_most) (sym (stresses.slt measure))
      (slt-size (common biometrics.Health []) (map figure (slt_parts measure)) refl
      (s projections.Mortality, (s projections.Longevity, (s projections.Disability, (s projections.Expense, (s projections.Revision, (stresses.lapse biometrics.Health measure, tt)))))))

  -- eight times what one stress costs at most: five of both, both lapses, and catastrophes of life
  pub life-together : life_most + slt_most ≤ 2_192_000_000_000_000_012
  life-together =
      omega (
        arith,
        both-within projections.Mortality,
        both-within projections.Longevity,
        both-within projections.Disability,
        both-within projections.Expense,
        both-within projections.Revision,
        both-within projections.Catastrophe,
      )
