-- The exact figures of the non-life module, of health that is not similar to life and of the health module, in cents
-- (Articles 114 to 128, 144 to 148 and 160 of Delegated Regulation (EU) 2015/35). Nothing is rounded.
use Rattle.scr_num.specs.Figure.{Figure, Figures}
use Rattle.scr_num.specs.Figure.Figures.{more, none}
use Rattle.scr_num.specs.Table.{Table}
use Rattle.scr_num.specs.Cents.{cents_figure}
use Rattle.scr_agg.specs.Absorbed.{net_figure}
use Rattle.scr_agg.specs.Correlated.{table_of}
use Rattle.scr_bio.specs.Biometric.{nslt_figure, health_cat_figure, health_figure}
use Rattle.scr_nonlife.specs.Segment.{segment_figure}
use Rattle.scr_nonlife.specs.Nonlife.{premium_reserve_figure, nslt_correlations, nat_figure, manmade_figure, cat_figure, nonlife_figure}
use Rattle.scr_profile.specs.declared.segment.Segment.{Segment}
use Rattle.scr_profile.specs.declared.segment.Segment.TheVariants as kinds
use Rattle.scr_profile.specs.declared.set.Set.{Set}
use Rattle.scr_profile.specs.declared.set.Set.TheVariants as sets
use Rattle.scr_factors.specs.Values.{FactorValues}
use Rattle.scr_sheet.specs.Absorptions.{absorbed}
use Rattle.scr_sheet.specs.declared.keys.AbsorbKey.TheVariants as absorb
use Rattle.scr_sheet.specs.declared.keys.CatKey.{CatKey}
use Rattle.scr_sheet.specs.declared.keys.CatKey.TheVariants as cats
use Rattle.scr_sheet.specs.declared.sheet.BalanceSheet.{BalanceSheet}
use Rattle.scr_nodes.specs.declared.node.Measure.{Measure}
use Rattle.scr_nodes.specs.declared.node.Measure.TheVariants as measures
use Rattle.scr_nodes.specs.OwnOf.{catastrophe_cents, lapse_cents, deviations_of, volumes_in_regions}
use Rattle.scr_exact.specs.LifeExact.{slt_exact}

-- ---- charges that are handed in

abbrev pub catastrophe_charge : BalanceSheet → CatKey → Figure
catastrophe_charge sheet key = cents_figure (catastrophe_cents key sheet.numbers)

abbrev pub lapse_charge : BalanceSheet → Set → Figure
lapse_charge sheet set = cents_figure (lapse_cents set sheet.numbers)

-- ---- premium and reserve risk

-- a segment: its standard deviation times its volume (Articles 116, 117, 147 and 148)
unfoldable pub segment_exact : FactorValues → BalanceSheet → Segment → Figure
segment_exact factors sheet segment =
    let deviations = deviations_of factors segment in
    segment_figure (volumes_in_regions segment sheet.numbers) deviations.0 deviations.1

-- the twelve of non-life (Annex II), and the four of health (Annex XIV)
abbrev pub segments_exact : FactorValues → BalanceSheet → Set → Figures
segments_exact factors sheet sets.Nl =
    let segment = segment_exact factors sheet in
    more (segment kinds.MotorLiability) (more (segment kinds.OtherMotor) (more (segment kinds.Transport) (
    more (segment kinds.Property) (more (segment kinds.GeneralLiability) (more (segment kinds.Credit) (
    more (segment kinds.LegalExpenses) (more (segment kinds.Assistance) (more (segment kinds.FinancialLoss) (
    more (segment kinds.CasualtyReinsurance) (more (segment kinds.TransportReinsurance) (more (segment kinds.PropertyReinsurance) none)))))))))))
segments_exact factors sheet sets.Nslt =
    let segment = segment_exact factors sheet in
    more (segment kinds.MedicalExpense) (more (segment kinds.IncomeProtection) (more (segment kinds.WorkersCompensation) (
    more (segment kinds.HealthReinsurance) none)))

-- the correlations between segments: those of non-life are handed in (Annex IV of the Delegated Regulation), and those of
-- health are the Regulation's (Annex XV)
abbrev pub segment_table : FactorValues → Set → Table
segment_table factors sets.Nl = table_of factors.correlations
segment_table factors sets.Nslt = nslt_correlations

-- three times the root over the segments (Articles 115, 117, 146 and 148)
unfoldable pub premium_reserve_exact : FactorValues → BalanceSheet → Set → Figure
premium_reserve_exact factors sheet set =
    premium_reserve_figure (segments_exact factors sheet set) (segment_table factors set)

-- ---- catastrophes

-- natural ones (Article 120)
unfoldable pub natural_exact : BalanceSheet → Figure
natural_exact sheet =
    let charge = catastrophe_charge sheet in
    nat_figure (more (charge cats.Windstorm) (more (charge cats.Earthquake) (more (charge cats.Flood) (more (charge cats.Hail)
    (more (charge cats.Subsidence) none)))))

-- man-made ones (Article 128)
unfoldable pub man_made_exact : BalanceSheet → Figure
man_made_exact sheet =
    let charge = catastrophe_charge sheet in
    manmade_figure (more (charge cats.Motor) (more (charge cats.Marine) (more (charge cats.Aviation) (more (charge cats.Fire)
    (more (charge cats.Liability) (more (charge cats.Credit) none))))))

-- all of non-life (Article 119)
unfoldable pub catastrophe_exact : BalanceSheet → Figure
catastrophe_exact sheet =
    cat_figure (natural_exact sheet) (man_made_exact sheet) (catastrophe_charge sheet cats.NonProportionalProperty)
    (catastrophe_charge sheet cats.Other)

-- those of health (Article 160), before and after absorption (Article 206(2))
abbrev pub health_charges : BalanceSheet → Figure
health_charges sheet =
    let charge = catastrophe_charge sheet in
    health_cat_figure (more (charge cats.MassAccident) (more (charge cats.AccidentConcentration) (more (charge cats.Pandemic) none)))

unfoldable pub health_catastrophe_exact : BalanceSheet → Measure → Figure
health_catastrophe_exact sheet measures.Gross = health_charges sheet
health_catastrophe_exact sheet measures.Net = net_figure (health_charges sheet) (absorbed absorb.HealthCatastrophe sheet.numbers)

-- ---- modules, of which non-life and health not similar to life are the same before and after absorption (this
-- project's own)

-- non-life (Article 114)
unfoldable pub nonlife_exact : FactorValues → BalanceSheet → Figure
nonlife_exact factors sheet =
    nonlife_figure (premium_reserve_exact factors sheet sets.Nl) (catastrophe_exact sheet)
    (lapse_cents sets.Nl sheet.numbers)

-- health that is not similar to life (Article 145)
unfoldable pub nslt_exact : FactorValues → BalanceSheet → Figure
nslt_exact factors sheet =
    nslt_figure (premium_reserve_exact factors sheet sets.Nslt) (lapse_cents sets.Nslt sheet.numbers)

-- health, before or after absorption (Article 144)
unfoldable pub health_exact : FactorValues → BalanceSheet → Measure → Figure
health_exact factors sheet measure =
    health_figure (slt_exact sheet measure) (nslt_exact factors sheet) (health_catastrophe_exact sheet measure)
