use Rattle.std.proofs.Common.{rules, ◌≡◌, [], ◌∷◌, sym, ap, ap₂, subst, ◌∙◌, arith}
use Rattle.scr_num.specs.Rounding.{Ends, ends, sub_ends}
use Rattle.scr_num.specs.Figure.{Frac}
use Rattle.scr_num.specs.Amounts.{IsAmount}
use Rattle.scr_num.proofs.Enclosing.{Encloses-span}
use Rattle.scr_market.specs.declared.currency_risk.TheConstants.{MAX_CURRENCY}
use Rattle.scr_market.specs.Currency.{currency_rise_exact, currency_fall_exact}
use Rattle.scr_market.specs.CurrencyEnds.{fine_ends, quarter_ends, currency_rise_ends, currency_fall_ends}
use Rattle.scr_market.proofs.CurrencyLemmas.{rise-encloses, fall-encloses, rise-size, fall-size}
use Rattle.scr_market.proofs.currency_risk.currency.Goals as goal

held : (c : goal.After-quarter-2) → ends c.exact-held.result ≡ fine_ends c.args.assets
held c = search rules

rise : (c : goal.After-quarter-2) → ends c.quarter.result ≡ currency_rise_ends c.args.assets (ends c.args.liabilities)
rise c = c.quarter.ensures ∙ ap quarter_ends (c.sub.ensures.ends ∙ ap (sub_ends (ends c.args.liabilities)) (held c))

fall : (c : goal.After-quarter-2) → ends c.quarter-2.result ≡ currency_fall_ends c.args.assets (ends c.args.liabilities)
fall c =
    c.quarter-2.ensures
    ∙ ap quarter_ends (c.sub-2.ensures.ends ∙ ap (λ (e : Ends). sub_ends e (ends c.args.liabilities)) (held c))

pub returns-clause-ends : goal.returns-clause-ends
returns-clause-ends c = ap₂ (λ (a : Ends) (b : Ends). a ∷ b ∷ []) (rise c) (fall c)

pub returns-clause-encloses : goal.returns-clause-encloses
returns-clause-encloses c =
    let l = ends c.args.liabilities in
    λ p h. (
      Encloses-span 1000 c.quarter.result (currency_rise_ends c.args.assets l) (Frac (currency_rise_exact c.args.assets p))
          (rise c) (rise-encloses c.args.assets l p h),
      (
        Encloses-span 1000 c.quarter-2.result (currency_fall_ends c.args.assets l) (Frac (currency_fall_exact c.args.assets p))
            (fall c) (fall-encloses c.args.assets l p h),
        tt,
      ),
    )

pub returns-clause-size : goal.returns-clause-size
returns-clause-size c =
    let l = c.args.liabilities in (
      subst (IsAmount MAX_CURRENCY) (sym (rise c))
          (rise-size c.args.assets MAX_CURRENCY (ends l) l.ordered (omega arith) (omega arith)),
      (
        subst (IsAmount MAX_CURRENCY) (sym (fall c))
            (fall-size c.args.assets MAX_CURRENCY (ends l) l.ordered (omega arith) (omega arith)),
        tt,
      ),
    )
