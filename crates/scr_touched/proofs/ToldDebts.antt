-- What an exchanged bank or reinsurance arrangement owes touches just the figures that its test tells, and they are among
-- its candidates.
use Rattle.std.proofs.Common.{◌≡◌, ℕ, ◌&&◌, true, List, [], Option, map, filter, refl, ap, inl, ◌++◌}
use Rattle.std.specs.Bool.{Decides}
use Rattle.std.specs.Prelude.{◌==◌}
use Rattle.std.proofs.lemmas.Bool.Decides.{Decides-and, Decides-at, Decides-eqb, Decides-like}
use Rattle.scr_factors.specs.Values.{FactorValues}
use Rattle.scr_funds.proofs.Members.{IsMember}
use Rattle.scr_tables.specs.Tables.{row_of}
use Rattle.scr_tables.proofs.TableRows.{same_name-is}
use Rattle.scr_sheet.specs.BalanceSheet.{bank_name, rein_name}
use Rattle.scr_sheet.specs.declared.rows.Bank.{Bank}
use Rattle.scr_sheet.specs.declared.rows.Rein.{Rein}
use Rattle.scr_sheet.specs.declared.sheet.BalanceSheet.{BalanceSheet}
use Rattle.scr_row_change.specs.Changes.{after}
use Rattle.scr_row_change.specs.Debts.{bank_debt, debt_of_bank, debt_of_rein, is_owed_by, rein_debt, same_debt}
use Rattle.scr_row_change.specs.Exchanges.{exchanged, HasName}
use Rattle.scr_row_change.specs.Parts.{gives_same}
use Rattle.scr_row_change.specs.declared.change.Change.TheVariants as changes
use Rattle.scr_row_change.specs.declared.debts.Debt.{Debt}
use Rattle.scr_row_change.proofs.Compared.{always}
use Rattle.scr_row_change.proofs.Given.{given, given-in-form, in-given}
use Rattle.scr_nodes.specs.Live.{is_group}
use Rattle.scr_nodes.specs.Own.{Own, Reinsured}
use Rattle.scr_nodes.specs.Own.Own.{Losses}
use Rattle.scr_nodes.specs.OwnOf.{reinsured}
use Rattle.scr_nodes.specs.Rows.{is_bank_of, is_reinsurer_of}
use Rattle.scr_nodes.specs.declared.node.Node.{Node}
use Rattle.scr_nodes.specs.declared.node.Node.TheVariants as nodes
use Rattle.scr_nodes.specs.declared.node.OfGroup.TheVariants as of_groups
use Rattle.scr_nodes.specs.declared.node.Whole.TheVariants as wholes
use Rattle.scr_touched.specs.Debts.{debt_touches, debt_losses}
use Rattle.scr_touched.proofs.Decided.{Tells, told-by, unread}
use Rattle.scr_touched.proofs.Given.{own-moved, same-class}

-- what the banks and the reinsurers of a group owe
abbrev banks_of : Own → List ℕ
banks_of (Losses banks reinsurers) = banks
banks_of own = []

abbrev reinsurers_of : Own → List Reinsured
reinsurers_of (Losses banks reinsurers) = reinsurers
reinsurers_of own = []

abbrev bank_cents : Bank → ℕ
bank_cents bank = bank.cents

same-number : (n : ℕ) → Decides true (n ≡ n)
same-number n = always refl

Decides-cents : (a b : Bank) → Decides (same_debt (debt_of_bank a) (debt_of_bank b)) (a.cents ≡ b.cents)
Decides-cents a b =
    Decides-like (same_debt (debt_of_bank a) (debt_of_bank b)) (λ h. h.0) (λ e. (e, refl))
    (Decides-and (a.cents == b.cents) true (Decides-eqb a.cents b.cents) (same-number 0))

Decides-amounts : (a b : Rein) → Decides (same_debt (debt_of_rein a) (debt_of_rein b)) (reinsured a ≡ reinsured b)
Decides-amounts a b =
    Decides-like (same_debt (debt_of_rein a) (debt_of_rein b))
    (λ h i. record { recoverables = h.0 i; mitigation = h.1.0 i; collateral = h.1.1 i })
    (λ e. (
      ap (λ (r : Reinsured). r.recoverables) e,
      (
        ap (λ (r : Reinsured). r.mitigation) e,
        ap (λ (r : Reinsured). r.collateral) e,
      ),
    ))
    (Decides-and (a.recoverables == b.recoverables)
    ((a.mitigation == b.mitigation) && (a.collateral == b.collateral)) (Decides-eqb a.recoverables b.recoverables)
    (Decides-and (a.mitigation == b.mitigation) (a.collateral == b.collateral) (Decides-eqb a.mitigation b.mitigation)
    (Decides-eqb a.collateral b.collateral)))

module _ (factors : FactorValues) (sheet : BalanceSheet) (name : List ℕ) where
  abbrev bank_after : Option Bank → BalanceSheet
  bank_after new = after (changes.Bank name new) sheet

  abbrev rein_after : Option Rein → BalanceSheet
  rein_after new = after (changes.Rein name new) sheet

  -- what is owed to those whose loss is reckoned from it
  owed-by-bank : (new : Option Bank) → HasName bank_name name new → (group : List ℕ)
      → Decides (gives_same (is_owed_by group) same_debt (bank_debt (row_of bank_name name sheet.banks)) (bank_debt new))
      (map bank_cents (filter (is_bank_of group) sheet.banks)
      ≡ map bank_cents (filter (is_bank_of group) (exchanged bank_name name new sheet.banks)))
  owed-by-bank new named group =
      Decides-at _ _ (given-in-form debt_of_bank (is_owed_by group) same_debt (row_of bank_name name sheet.banks) new)
      (given (is_bank_of group) (λ a b. same_debt (debt_of_bank a) (debt_of_bank b)) bank_cents Decides-cents
      bank_name name new sheet.banks named)

  owed-by-rein : (new : Option Rein) → HasName rein_name name new → (group : List ℕ)
      → Decides (gives_same (is_owed_by group) same_debt (rein_debt (row_of rein_name name sheet.reinsurers))
      (rein_debt new))
      (map reinsured (filter (is_reinsurer_of group) sheet.reinsurers)
      ≡ map reinsured (filter (is_reinsurer_of group) (exchanged rein_name name new sheet.reinsurers)))
  owed-by-rein new named group =
      Decides-at _ _ (given-in-form debt_of_rein (is_owed_by group) same_debt (row_of rein_name name sheet.reinsurers) new)
      (given (is_reinsurer_of group) (λ a b. same_debt (debt_of_rein a) (debt_of_rein b)) reinsured Decides-amounts
      rein_name name new sheet.reinsurers named)

  pub told-bank : (new : Option Bank) → HasName bank_name name new → (node : Node)
      → Tells factors sheet (bank_after new) node
      (debt_touches sheet (bank_debt (row_of bank_name name sheet.banks)) (bank_debt new) node)
  told-bank new named (nodes.Group group of_groups.Loss) =
      told-by factors sheet (bank_after new) (nodes.Group group of_groups.Loss) (is_group sheet group) (is_group sheet group)
      (gives_same (is_owed_by group) same_debt (bank_debt (row_of bank_name name sheet.banks)) (bank_debt new)) true
      refl refl
      (Decides-like _
      (λ e. ap (λ cents. Losses cents (map reinsured (filter (is_reinsurer_of group) sheet.reinsurers))) e)
      (λ e. ap banks_of e) (owed-by-bank new named group))
      (always refl)
  told-bank new named (nodes.Whole (wholes.ClassSum class)) =
      unread factors sheet (bank_after new) (nodes.Whole (wholes.ClassSum class))
      (same-class factors sheet (bank_after new) class refl refl)
  told-bank new named node =
      unread factors sheet (bank_after new) node (record { live = refl; own = refl; sources = refl })

  pub told-rein : (new : Option Rein) → HasName rein_name name new → (node : Node)
      → Tells factors sheet (rein_after new) node
      (debt_touches sheet (rein_debt (row_of rein_name name sheet.reinsurers)) (rein_debt new) node)
  told-rein new named (nodes.Group group of_groups.Loss) =
      told-by factors sheet (rein_after new) (nodes.Group group of_groups.Loss) (is_group sheet group) (is_group sheet group)
      (gives_same (is_owed_by group) same_debt (rein_debt (row_of rein_name name sheet.reinsurers)) (rein_debt new)) true
      refl refl
      (Decides-like _ (λ e. ap (Losses (map bank_cents (filter (is_bank_of group) sheet.banks))) e)
      (λ e. ap reinsurers_of e) (owed-by-rein new named group))
      (always refl)
  told-rein new named (nodes.Whole (wholes.ClassSum class)) =
      unread factors sheet (rein_after new) (nodes.Whole (wholes.ClassSum class))
      (same-class factors sheet (rein_after new) class refl refl)
  told-rein new named node =
      unread factors sheet (rein_after new) node (record { live = refl; own = refl; sources = refl })

pub covers : (sheet : BalanceSheet) (old new : Option Debt) (node : Node) → debt_touches sheet old new node ≡ true
    → IsMember node (debt_losses old ++ debt_losses new)
covers sheet old new (nodes.Group group of_groups.Loss) touched =
    in-given (is_owed_by group) same_debt debt_losses (nodes.Group group of_groups.Loss)
    (λ debt e. inl (ap (λ name. nodes.Group name of_groups.Loss) (same_name-is group debt.group e))) old new
    (own-moved (is_group sheet group) (gives_same (is_owed_by group) same_debt old new) touched)
covers sheet old new node touched = absurd (cc)
