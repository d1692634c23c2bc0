-- The first records of a made book: its reference date and its curves.
use Rattle.std.proofs.Common.{◌≡◌, ℕ, zero, suc, ◌+◌, ◌≤◌, List, [], ◌∷◌, replicate, refl, sym, subst, lit≤}
use Rattle.std.specs.List.{AllByRecursion}
use Rattle.scr_sheet.specs.BalanceSheet.{no_volumes, opening}
use Rattle.scr_sheet.specs.Records.{applied}
use Rattle.scr_sheet.specs.declared.sheet.BalanceSheet.{BalanceSheet}
use Rattle.scr_made.specs.Made as spec
use Rattle.scr_made.specs.Made.{for_years, rising_rates}
use Rattle.scr_made.specs.Draws.{given}
use Rattle.scr_made.specs.Accepted.{AreAccepted, IsSound, sheet_after}
use Rattle.scr_made.proofs.Built.{Built, Counts, SegmentBounds}
use Rattle.scr_made.proofs.Numbered.{names_to}
use Rattle.scr_made.proofs.Runs.{LeadsMade}
use Rattle.scr_made.proofs.Sight.{seen-2024}

-- ---- the sheets that the records leave

abbrev dated : BalanceSheet
dated = applied spec.opening_date opening

abbrev with_euro : BalanceSheet
with_euro = applied spec.euro_curve dated

abbrev with_dollar : BalanceSheet
with_dollar = applied spec.dollar_curve with_euro

abbrev with_pound : BalanceSheet
with_pound = applied spec.pound_curve with_dollar

date_sound : IsSound spec.opening_date opening
unfolding IsSound
date_sound = refl

euro_sound : IsSound spec.euro_curve dated
unfolding IsSound rising_rates for_years
euro_sound = refl

dollar_sound : IsSound spec.dollar_curve with_euro
unfolding IsSound rising_rates for_years
dollar_sound = refl

pound_sound : IsSound spec.pound_curve with_dollar
unfolding IsSound rising_rates for_years
pound_sound = refl

-- ---- what holds of the last of them

all-replicate : {X : Type 0} (P : X → Type 0) (n : ℕ) (x : X) → P x → AllByRecursion P (replicate n x)
all-replicate P zero x h = tt
all-replicate P (suc n) x h = (h, all-replicate P n x h)

no_rows : Counts
no_rows = record { groups = 0; securities = 0; funds = 0; liabilities = 0; banks = 0 }

empty_segment : SegmentBounds no_volumes
empty_segment = record {
  regions = lit≤ tt;
  volumes = all-replicate (λ (v : ℕ × ℕ). v.0 + v.1 ≤ 4000000000) 18 (0, 0) (lit≤ tt);
}

market_built : Built no_rows with_pound
unfolding names_to no_rows
market_built = record {
  few = record { groups = lit≤ tt; securities = lit≤ tt; funds = lit≤ tt; liabilities = lit≤ tt; banks = lit≤ tt };
  groups = refl;
  securities = refl;
  positions = tt;
  funds = refl;
  stakes = tt;
  liabilities = refl;
  lines = tt;
  banks = refl;
  exposures = tt;
  reinsurers = refl;
  curves = refl;
  segments = lit≤ tt;
  volumes = all-replicate SegmentBounds 12 no_volumes empty_segment;
  sight = seen-2024;
}

-- from the opening sheet
pub market_made : LeadsMade (λ sheet. sheet ≡ opening) (given spec.market) (Built (record { groups = 0; securities = 0; funds = 0; liabilities = 0; banks = 0 }))
unfolding spec.market no_rows
market_made state sheet is =
    subst (λ start. AreAccepted spec.market start × Built no_rows (sheet_after spec.market start)) (sym is)
    ((date_sound, (euro_sound, (dollar_sound, (pound_sound, tt)))), market_built)
