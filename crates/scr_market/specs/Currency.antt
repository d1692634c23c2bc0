-- The exact figures of currency risk in one foreign currency, in cents: Article 188 of Delegated Regulation (EU)
-- 2015/35. Nothing is rounded. The currency rises and falls by 25 percent against the reporting currency. A gain counts
-- as nil (this project's own).
use Rattle.std.specs.Prelude.{ℕ, pos}
use Rattle.std.proofs.Common.{lit<}
use Rattle.scr_num.specs.Fraction.{Fraction, Share, whole, zero_fraction, minus, times, greater}

-- 25 percent
abbrev pub quarter : Share
quarter = record { num = 25; den = 100; positive = lit< tt }

-- what is lost where the currency rises: a quarter of what its liabilities exceed its assets by
abbrev pub currency_rise_exact : ℕ → Fraction → Fraction
currency_rise_exact assets liabilities = greater zero_fraction (times (minus liabilities (whole (pos assets))) quarter)

-- where it falls: a quarter of what its assets exceed its liabilities by
abbrev pub currency_fall_exact : ℕ → Fraction → Fraction
currency_fall_exact assets liabilities = greater zero_fraction (times (minus (whole (pos assets)) liabilities) quarter)
