-- What is lost where each group of counterparties defaults, in grains (Article 192 of Delegated Regulation (EU) 2015/35).
use Rattle.std.specs.Prelude.{◌≡◌, ℕ, ◌+◌, List, filter, map, slice_index_or, slice_set, take}
use Rattle.scr_sheet.specs.declared.rows.Bank.{Bank}
use Rattle.scr_sheet.specs.declared.rows.Group.{Group}
use Rattle.scr_sheet.specs.declared.sheet.BalanceSheet.{BalanceSheet}
use Rattle.scr_nodes.specs.OwnOf.{reinsured}
use Rattle.scr_nodes.specs.Rows.{is_bank_of, is_reinsurer_of}
use Rattle.scr_rules.specs.DefaultGrains.{total_where, bank_grains, reinsurer_grains}
use Rattle.scr_rules.specs.DefaultRules.{losses_grains}

-- by all banks and reinsurers of the group of this name
abbrev pub loss_of : BalanceSheet → (name : List ℕ) → ℕ
loss_of sheet name =
    losses_grains (map (λ (b : Bank). b.cents) (filter (is_bank_of name) sheet.banks))
    (map reinsured (filter (is_reinsurer_of name) sheet.reinsurers))

-- for each group, in the order of their table
unfoldable pub AreLossesOf : BalanceSheet → List ℕ → Type 0
AreLossesOf sheet losses = losses ≡ map (λ (group : Group). loss_of sheet group.name) sheet.groups

-- by those of the group among the first j banks and the first k reinsurers
abbrev pub first_loss : BalanceSheet → (j k : ℕ) → Group → ℕ
first_loss sheet j k group =
    total_where (is_bank_of group.name) bank_grains (take j sheet.banks)
    + total_where (is_reinsurer_of group.name) reinsurer_grains (take k sheet.reinsurers)

abbrev pub first_losses : BalanceSheet → (j k : ℕ) → List ℕ
first_losses sheet j k = map (first_loss sheet j k) sheet.groups

-- the sums with a loss more at the place
abbrev pub with_loss : (place loss : ℕ) → List ℕ → List ℕ
with_loss place loss sums = slice_set sums place (slice_index_or sums place 0 + loss)
