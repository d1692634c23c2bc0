-- Which figures other single numbers touch (this project's own), the reference date and the reporting currency aside.
use Rattle.std.specs.Prelude.{ℕ, ℤ, pos, ◌==◌, Bool, true, false, not, ◌&&◌, ◌++◌, List, [], ◌∷◌, slice_index_or}
use Rattle.std.specs.Cmp.Lexicographic.{pointwise}
use Rattle.std.specs.Option.{option_map_or}
use Rattle.std.specs.Ordering.{int_eq}
use Rattle.scr_profile.specs.declared.set.Set.TheVariants as sets
use Rattle.scr_sheet.specs.Absorptions.{absorbed}
use Rattle.scr_sheet.specs.declared.keys.CatKey.TheVariants as cats
use Rattle.scr_sheet.specs.declared.keys.Projection.{Projection}
use Rattle.scr_sheet.specs.declared.keys.Projection.TheVariants as projections
use Rattle.scr_sheet.specs.declared.numbers.Numbers.{Numbers}
use Rattle.scr_nodes.specs.OwnOf.{catastrophe_cents, interest_key, lapse_cents, risk_key, stress_key, volumes_in_regions}
use Rattle.scr_nodes.specs.Rows.{has_stress}
use Rattle.scr_nodes.specs.Sources.{equity_parts, health_perils, interest_scenarios, lapse_scenarios, man_made_perils, natural_perils, segments_of}
use Rattle.scr_nodes.specs.declared.node.Adjustment.TheVariants as adjustments
use Rattle.scr_nodes.specs.declared.node.Biometric.{Biometric}
use Rattle.scr_nodes.specs.declared.node.Biometric.TheVariants as biometrics
use Rattle.scr_nodes.specs.declared.node.Measure.TheVariants.{Gross, Net}
use Rattle.scr_nodes.specs.declared.node.Node.{Node}
use Rattle.scr_nodes.specs.declared.node.Node.TheVariants as nodes
use Rattle.scr_nodes.specs.declared.node.Whole.TheVariants as wholes
use Rattle.scr_nodes.specs.declared.node.Operational.{Operational}
use Rattle.scr_nodes.specs.declared.node.Operational.TheVariants as operations
use Rattle.scr_nodes.specs.declared.node.Risk.TheVariants as risks

-- what is absorbed of a stress
abbrev pub stress_cents : Biometric → Projection → Numbers → ℕ
stress_cents biometric projection numbers =
    option_map_or (λ key. absorbed key numbers) (stress_key biometric projection) 0

-- volumes of premium and of reserve risk, region by region
abbrev pub same_volume : ℕ × ℕ → ℕ × ℕ → Bool
same_volume a b = (a.0 == b.0) && (a.1 == b.1)

-- Whether the volumes of premium and of reserve risk are equal in every region, in the same order (own).
abbrev pub same_volumes : List (ℕ × ℕ) → List (ℕ × ℕ) → Bool
same_volumes xs ys = pointwise same_volume xs ys

-- Earned premium number `place`, from 0; 0 past the last (own).
abbrev pub earned_at : ℕ → Numbers → ℕ
earned_at place numbers = slice_index_or numbers.earned place 0

-- Whether earned premium number `place`, from 0, is equal before and after (own).
abbrev pub same_earned : ℕ → Numbers → Numbers → Bool
same_earned place old new = earned_at place old == earned_at place new

-- Technical provision number `place`, from 0; 0 past the last (own).
abbrev pub provision_at : ℕ → Numbers → ℤ
provision_at place numbers = slice_index_or numbers.provisions place (pos 0)

-- Whether technical provision number `place`, from 0, is equal before and after (own).
abbrev pub same_provision : ℕ → Numbers → Numbers → Bool
same_provision place old new = int_eq (provision_at place old) (provision_at place new)

-- Whether amount due number `place`, from 0, is equal before and after (own).
abbrev pub same_due : ℕ → Numbers → Numbers → Bool
same_due place old new = slice_index_or old.due place 0 == slice_index_or new.due place 0

-- earned premiums and technical provisions, of which each part of operational risk reads its own
abbrev pub same_operations : Operational → Numbers → Numbers → Bool
same_operations operations.Premiums old new =
    same_earned 0 old new && (same_earned 1 old new && (same_earned 2 old new && (same_earned 3 old new
    && (same_earned 4 old new && same_earned 5 old new))))
same_operations operations.Provisions old new =
    same_provision 0 old new && (same_provision 1 old new && same_provision 2 old new)
same_operations operations.Cap old new = true
same_operations operations.Charge old new = same_earned 6 old new

-- Whether a change of the single numbers of the balance sheet changes the figure: one that it reads directly differs (own).
abbrev pub numbers_touch : Numbers → Numbers → Node → Bool
numbers_touch old new (nodes.Whole (wholes.InterestScenario direction Net)) =
    not (absorbed (interest_key direction) old == absorbed (interest_key direction) new)
numbers_touch old new (nodes.Whole (wholes.EquityPart equities)) = not (int_eq old.sym new.sym)
numbers_touch old new (nodes.Whole (wholes.NetPart risk)) = not (absorbed (risk_key risk) old == absorbed (risk_key risk) new)
numbers_touch old new (nodes.Whole wholes.DefaultType2) = not (same_due 0 old new && same_due 1 old new)
numbers_touch old new (nodes.Whole (wholes.BioScenario biometric projection Net)) =
    has_stress biometric projection
    && not (stress_cents biometric projection old == stress_cents biometric projection new)
numbers_touch old new (nodes.Whole (wholes.Segment segment)) =
    not (same_volumes (volumes_in_regions segment old) (volumes_in_regions segment new))
numbers_touch old new (nodes.Whole (wholes.CatCharge key)) = not (catastrophe_cents key old == catastrophe_cents key new)
numbers_touch old new (nodes.Whole (wholes.Lapse set)) = not (lapse_cents set old == lapse_cents set new)
numbers_touch old new (nodes.Whole (wholes.Nslt measure)) = not (lapse_cents sets.Nslt old == lapse_cents sets.Nslt new)
numbers_touch old new (nodes.Whole (wholes.Nonlife measure)) = not (lapse_cents sets.Nl old == lapse_cents sets.Nl new)
numbers_touch old new (nodes.Whole wholes.Intangible) = not (old.intangible == new.intangible)
numbers_touch old new (nodes.Whole (wholes.Bscr measure)) = not (old.intangible == new.intangible)
numbers_touch old new (nodes.Whole wholes.Diversification) = not (old.intangible == new.intangible)
numbers_touch old new (nodes.Whole (wholes.OpPart part)) = not (same_operations part old new)
numbers_touch old new (nodes.Whole (wholes.Adjust adjustments.TechnicalProvisions)) = not (old.fdb == new.fdb)
numbers_touch old new (nodes.Whole (wholes.Adjust adjustments.DeferredTaxes)) = not ((old.tax == new.tax) && (old.cap == new.cap))
numbers_touch old new node = false

-- ---- what may be touched

-- Net requirements of the risk modules that read a single number, with type 2 default (own).
abbrev pub risk_nodes : List Node
risk_nodes =
    nodes.Whole (wholes.NetPart risks.Equity) ∷ nodes.Whole (wholes.NetPart risks.Property) ∷ nodes.Whole (wholes.NetPart risks.Spread)
    ∷ nodes.Whole (wholes.NetPart risks.Concentration) ∷ nodes.Whole (wholes.NetPart risks.Default) ∷ nodes.Whole (wholes.NetPart risks.HealthCatastrophe)
    ∷ nodes.Whole wholes.DefaultType2 ∷ []

-- Net requirements under each stress of life or health obligations (own).
abbrev pub stress_nodes : Biometric → List Node
stress_nodes biometric =
    nodes.Whole (wholes.BioScenario biometric projections.Mortality Net) ∷ nodes.Whole (wholes.BioScenario biometric projections.Longevity Net)
    ∷ nodes.Whole (wholes.BioScenario biometric projections.Disability Net) ∷ nodes.Whole (wholes.BioScenario biometric projections.Expense Net)
    ∷ nodes.Whole (wholes.BioScenario biometric projections.Revision Net) ∷ nodes.Whole (wholes.BioScenario biometric projections.Catastrophe Net)
    ∷ []

-- Catastrophe charges, lapse and non-life figures that read a single number (own).
abbrev pub charge_nodes : List Node
charge_nodes =
    nodes.Whole (wholes.CatCharge cats.NonProportionalProperty) ∷ nodes.Whole (wholes.CatCharge cats.Other)
    ∷ nodes.Whole (wholes.Lapse sets.Nl) ∷ nodes.Whole (wholes.Lapse sets.Nslt) ∷ nodes.Whole (wholes.Nslt Gross) ∷ nodes.Whole (wholes.Nslt Net)
    ∷ nodes.Whole (wholes.Nonlife Gross) ∷ nodes.Whole (wholes.Nonlife Net) ∷ []

-- Intangible, basic and operational requirements and adjustments that read a single number (own).
abbrev pub requirement_nodes : List Node
requirement_nodes =
    nodes.Whole wholes.Intangible ∷ nodes.Whole (wholes.Bscr Gross) ∷ nodes.Whole (wholes.Bscr Net) ∷ nodes.Whole (wholes.OpPart operations.Premiums)
    ∷ nodes.Whole (wholes.OpPart operations.Provisions) ∷ nodes.Whole (wholes.OpPart operations.Charge)
    ∷ nodes.Whole (wholes.Adjust adjustments.TechnicalProvisions) ∷ nodes.Whole (wholes.Adjust adjustments.DeferredTaxes) ∷ nodes.Whole wholes.Diversification
    ∷ []

-- Figures of market, life and health scenarios that a change of the single numbers may touch (own).
abbrev pub scenario_nodes : List Node
scenario_nodes =
    interest_scenarios ++ (equity_parts ++ (risk_nodes ++ (stress_nodes biometrics.Life
    ++ (lapse_scenarios biometrics.Life ++ (stress_nodes biometrics.Health ++ lapse_scenarios biometrics.Health)))))

-- Figures of segments, catastrophes and requirements that a change of the single numbers may touch (own).
abbrev pub nonlife_nodes : List Node
nonlife_nodes =
    segments_of sets.Nl ++ (segments_of sets.Nslt ++ (natural_perils ++ (man_made_perils ++ (health_perils
    ++ (charge_nodes ++ requirement_nodes)))))

-- All figures that a change of the single numbers of the balance sheet may touch (own).
abbrev pub number_nodes : List Node
number_nodes = scenario_nodes ++ nonlife_nodes
