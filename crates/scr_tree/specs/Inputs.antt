-- What figures are reckoned from beside those of their sources (this project's own).
use Rattle.std.specs.Prelude.{◌≡◌}
use Rattle.scr_discounts.specs.KeptRates.{all_rates, known_of}
use Rattle.scr_tree.specs.declared.figures.Inputs.{Inputs}

-- the rates are those of the book
abbrev pub AreOfBook : Inputs → Type 0
AreOfBook inputs = known_of inputs.rates.now ≡ all_rates inputs.book.now.sheet
