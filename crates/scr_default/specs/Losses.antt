-- The loss given default of one counterparty, in cents: Article 192 of Delegated Regulation (EU) 2015/35. Nothing is
-- rounded.
use Rattle.std.specs.Prelude.{ℕ, pos}
use Rattle.std.proofs.Common.{lit<}
use Rattle.scr_num.specs.Fraction.{Fraction, over, whole, percent, plus, minus, product, greater, zero_fraction}

-- so many cents
abbrev pub cents : ℕ → Fraction
cents n = whole (pos n)

-- so many grains, thousandths of a cent
abbrev pub grains : ℕ → Fraction
grains n = over (pos n) 1000 (lit< tt)

-- what the record of a bank says is lost (this project's own)
abbrev pub lgd_bank_exact : ℕ → Fraction
lgd_bank_exact owed = cents owed

-- 50 percent of the recoverables and of 50 percent of the risk-mitigating effect on underwriting risk, less the
-- collateral, and no less than 0 (Article 192(2)). The collateral is its effect after the factor F of the article.
abbrev pub lgd_rein_exact : (recoverables risk_mitigating collateral : ℕ) → Fraction
lgd_rein_exact recoverables risk_mitigating collateral =
    greater zero_fraction
    (minus (product (percent 50) (plus (cents recoverables) (product (percent 50) (cents risk_mitigating))))
    (cents collateral))
