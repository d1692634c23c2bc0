-- The rules of counterparty default risk (Articles 189, 192 and 199 to 202 of Delegated Regulation (EU) 2015/35; the
-- roundings are this project's own).
use Rattle.std.specs.Prelude.{ℕ, ◌+◌, ◌*◌, List, sum_by}
use Rattle.scr_num.specs.Rounding.{Ends}
use Rattle.scr_default.specs.LossesEnds.{lgd_bank_grains, lgd_rein_grains}
use Rattle.scr_default.specs.VarianceEnds.{variance_ends}
use Rattle.scr_default.specs.Type1Ends.{type1_ends, type1_mask}
use Rattle.scr_nodes.specs.Own.{Reinsured}
use Rattle.scr_rules.specs.Figures.{figure_at, amount_of, amount_at, amounts_from}

-- ---- the losses given default of a group, in grains (Article 192)

abbrev pub reinsured_grains : Reinsured → ℕ
reinsured_grains reinsurer = lgd_rein_grains reinsurer.recoverables reinsurer.mitigation reinsurer.collateral

-- those of its banks, by the cents that they owe, and of its reinsurers
abbrev pub losses_grains : (banks : List ℕ) (reinsurers : List Reinsured) → ℕ
losses_grains banks reinsurers = sum_by lgd_bank_grains banks + sum_by reinsured_grains reinsurers

-- ---- those of the six classes of probability, and their variance (Articles 199 to 201)

-- the squares of the figures, summed
abbrev pub squares_total : List Ends → ℕ
squares_total figures = sum_by (λ e. amount_of e * amount_of e) figures

-- the losses of the classes stand at the first six places, and the sums of squares at the next six
abbrev pub variance_from : List Ends → Ends
variance_from figures = variance_ends (amounts_from figures 0 6) (amounts_from figures 6 6)

-- the losses of all classes
abbrev pub loss_total : List Ends → ℕ
loss_total figures =
    amount_at figures 0 + amount_at figures 1 + amount_at figures 2 + amount_at figures 3 + amount_at figures 4
    + amount_at figures 5

-- The variance stands behind the losses of the classes: which bands of the standard deviation are possible, and what the
-- one that decides charges.
abbrev pub bands_from : List Ends → ℕ
bands_from figures = type1_mask (loss_total figures) (figure_at figures 6)

abbrev pub banded_from : List Ends → Ends
banded_from figures = type1_ends (loss_total figures) (figure_at figures 6)
