-- How an absorption key is written (this project's own).
use Rattle.std.specs.Prelude.{ℕ, ◌++◌, List, codes}
use Rattle.scr_fields.specs.Words.{scenario_word}
use Rattle.scr_sheet.specs.declared.keys.AbsorbKey.{AbsorbKey}
use Rattle.scr_sheet.specs.declared.keys.AbsorbKey.TheVariants as absorb

-- a currency between `currency.` and what it does
unfoldable pub currency_text : List ℕ → List ℕ → List ℕ
currency_text currency turn = (codes "currency." ++ currency) ++ turn

abbrev pub absorb_text : AbsorbKey → List ℕ
absorb_text (absorb.CurrencyUp currency) = currency_text currency (codes ".up")
absorb_text (absorb.CurrencyDown currency) = currency_text currency (codes ".down")
absorb_text key = scenario_word key
