-- The exact figures of life underwriting risk and of health underwriting risk similar to life, in cents: Articles 136 to
-- 143, 151 to 159 and 206(2) of Delegated Regulation (EU) 2015/35. Nothing is rounded.
use Rattle.std.specs.Prelude.{List, [], ◌∷◌}
use Rattle.scr_num.specs.Fraction.{Fraction, zero_fraction, minus, greater}
use Rattle.scr_num.specs.Figure.{Figure, Figures}
use Rattle.scr_num.specs.Figure.Figure.{Frac}
use Rattle.scr_num.specs.Figure.Figures.{more, none}
use Rattle.scr_agg.specs.Absorbed.{net_exact}
use Rattle.scr_agg.specs.Choice.{Outcome, outcome_at, chosen}
use Rattle.scr_bio.specs.Biometric.{life_figure, slt_figure}
use Rattle.scr_sheet.specs.CashFlows.{flows_under}
use Rattle.scr_sheet.specs.declared.keys.Projection.{Projection}
use Rattle.scr_sheet.specs.declared.keys.Projection.TheVariants as projections
use Rattle.scr_sheet.specs.declared.rows.Liability.{Liability}
use Rattle.scr_sheet.specs.declared.sheet.BalanceSheet.{BalanceSheet}
use Rattle.scr_nodes.specs.declared.node.Biometric.{Biometric}
use Rattle.scr_nodes.specs.declared.node.Biometric.TheVariants as biometrics
use Rattle.scr_nodes.specs.declared.node.Measure.{Measure}
use Rattle.scr_nodes.specs.OwnOf.{stress_absorbed}
use Rattle.scr_nodes.specs.Rows.{is_stressed}
use Rattle.scr_exact.specs.InterestExact.{sum_where, present_value}
use Rattle.scr_exact.specs.Measured.{measured}

-- what a liability is worth more under a stress than by the best estimate; a gain counts as nil (this project's own)
unfoldable pub stress_loss : BalanceSheet → Projection → Liability → Fraction
stress_loss sheet projection l =
    greater (minus (present_value sheet l.currency (flows_under projection l.flows)) (present_value sheet l.currency l.flows.base))
    zero_fraction

-- the liabilities of the kind with flows under the stress, summed; one without such flows loses nothing (this project's
-- own)
unfoldable pub stress_total : BalanceSheet → Biometric → Projection → Fraction
stress_total sheet biometric projection =
    sum_where (is_stressed biometric projection) (stress_loss sheet projection) sheet.liabilities

-- before and after absorption
unfoldable pub stress_outcome : BalanceSheet → Biometric → Projection → Outcome
stress_outcome sheet biometric projection =
    let gross = stress_total sheet biometric projection in
    record { gross = gross; net = net_exact gross (stress_absorbed sheet biometric projection) }

-- a permanent rise of lapse rates, a permanent fall of them and a mass lapse, in this order (Articles 142(1) and 159(1))
abbrev pub lapse_outcomes : BalanceSheet → Biometric → List Outcome
lapse_outcomes sheet biometric =
    stress_outcome sheet biometric projections.LapseUp ∷ stress_outcome sheet biometric projections.LapseDown
    ∷ stress_outcome sheet biometric projections.LapseMass ∷ []

-- the one that decides (Article 206(2))
unfoldable pub lapse_outcome : BalanceSheet → Biometric → Outcome
lapse_outcome sheet biometric = let outcomes = lapse_outcomes sheet biometric in outcome_at outcomes (chosen outcomes)

-- the requirement for a stress, and the one for lapses
abbrev pub stress_figure : BalanceSheet → Measure → Biometric → Projection → Figure
stress_figure sheet measure biometric projection = Frac (measured measure (stress_outcome sheet biometric projection))

abbrev pub lapse_figure : BalanceSheet → Measure → Biometric → Figure
lapse_figure sheet measure biometric = Frac (measured measure (lapse_outcome sheet biometric))

-- mortality, longevity, disability-morbidity, expenses, revision, lapses, and for life catastrophes (Articles 136(1) and
-- 151(1))
abbrev pub life_risks : BalanceSheet → Measure → Figures
life_risks sheet measure =
    more (stress_figure sheet measure biometrics.Life projections.Mortality)
    (more (stress_figure sheet measure biometrics.Life projections.Longevity)
    (more (stress_figure sheet measure biometrics.Life projections.Disability)
    (more (stress_figure sheet measure biometrics.Life projections.Expense)
    (more (stress_figure sheet measure biometrics.Life projections.Revision)
    (more (lapse_figure sheet measure biometrics.Life)
    (more (stress_figure sheet measure biometrics.Life projections.Catastrophe) none))))))

abbrev pub slt_risks : BalanceSheet → Measure → Figures
slt_risks sheet measure =
    more (stress_figure sheet measure biometrics.Health projections.Mortality)
    (more (stress_figure sheet measure biometrics.Health projections.Longevity)
    (more (stress_figure sheet measure biometrics.Health projections.Disability)
    (more (stress_figure sheet measure biometrics.Health projections.Expense)
    (more (stress_figure sheet measure biometrics.Health projections.Revision)
    (more (lapse_figure sheet measure biometrics.Health) none)))))

unfoldable pub life_exact : BalanceSheet → Measure → Figure
life_exact sheet measure = life_figure (life_risks sheet measure)

unfoldable pub slt_exact : BalanceSheet → Measure → Figure
slt_exact sheet measure = slt_figure (slt_risks sheet measure)
