-- The figures of a row in the first reckoning.
use Rattle.std.proofs.Common.{◌≡◌, ℕ, zero, suc, ◌<◌, true, List, [], ◌∷◌, map, length, Some, None, is_some, Result, Ok, Err, OnOk, slice_get, refl, ap, subst, arith}
use Rattle.std.specs.List.{AllByRecursion}
use Rattle.scr_tables.specs.Tables.{row_of}
use Rattle.scr_figure_ids.specs.Numbers.{IsNumbered}
use Rattle.scr_ids.specs.Ranges.{Numbered}
use Rattle.scr_sheet.specs.BalanceSheet.{group_name, liability_name, position_name, position_of}
use Rattle.scr_sheet.specs.declared.{keys.Projection.Projection, rows.Group.Group, rows.Liability.Liability, rows.Position.Position, sheet.BalanceSheet.BalanceSheet}
use Rattle.scr_sheet.specs.Validity.{Valid}
use Rattle.scr_nodes.specs.Live.{is_live}
use Rattle.scr_nodes.specs.Rows.{has_flows, is_stress, liability_of}
use Rattle.scr_nodes.specs.Sources.{group_total, liability_loss, security_total}
use Rattle.scr_nodes.proofs.LiveSources.{loss-live}
use Rattle.scr_nodes.proofs.OwnRows.{own-groups, own-liabilities, own-securities}

pub on-ok : {E : Type 0} (P Q : Type 0) (r : Result (Unit {0}) E) → (P → Q) → OnOk r P → OnOk r Q
on-ok P Q (Ok u) step h = step h
on-ok P Q (Err e) step h = h

-- ---- rows

pub each-get : {A : Type 0} (P : A → Type 0) (xs : List A) (k : ℕ) (x : A) → AllByRecursion P xs → slice_get xs k ≡ Some x → P x
each-get P [] k x all at = absurd (let clash : None ≡ Some x = at in cc)
each-get P (y ∷ xs) zero x all at = let same : y ≡ x = cc in subst P same all.0
each-get P (y ∷ xs) (suc k) x all at = each-get P xs k x all.1 at

pub got-map : {A B : Type 0} (f : A → B) (xs : List A) (k : ℕ) (x : A) → slice_get xs k ≡ Some x → slice_get (map f xs) k ≡ Some (f x)
got-map f [] k x at = absurd (let clash : None ≡ Some x = at in cc)
got-map f (y ∷ xs) zero x at = let same : y ≡ x = cc in ap (λ z. Some (f z)) same
got-map f (y ∷ xs) (suc k) x at = got-map f xs k x at

pub got-row : {A : Type 0} (xs : List A) (k : ℕ) → k < length xs → (x : A) × (slice_get xs k ≡ Some x)
got-row [] k l = absurd (omega (arith, l))
got-row (x ∷ xs) zero l = (x, refl)
got-row (x ∷ xs) (suc k) l = got-row xs k (omega (arith, l))

-- ---- securities

module _ (sheet : BalanceSheet) (valid : Valid sheet) (places : Numbered) (numbered : IsNumbered sheet places) (k : ℕ) (p : Position)
    (at : slice_get sheet.securities k ≡ Some p) where
  pub security-own : position_of p.security.name sheet.securities ≡ Some p
  security-own = each-get (λ q. position_of (position_name q) sheet.securities ≡ Some q) sheet.securities k p (own-securities sheet valid) at

  pub security-named : slice_get (map position_name sheet.securities) k ≡ Some p.security.name
  security-named = got-map position_name sheet.securities k p at

  pub total-live : is_live sheet (security_total p) ≡ true
  total-live = ap is_some security-own

-- ---- liabilities

module _ (sheet : BalanceSheet) (valid : Valid sheet) (places : Numbered) (numbered : IsNumbered sheet places) (k : ℕ) (l : Liability)
    (at : slice_get sheet.liabilities k ≡ Some l) where
  pub liability-own : liability_of l.name sheet.liabilities ≡ Some l
  liability-own = each-get (λ q. liability_of (liability_name q) sheet.liabilities ≡ Some q) sheet.liabilities k l (own-liabilities sheet valid) at

  pub liability-named : slice_get (map liability_name sheet.liabilities) k ≡ Some l.name
  liability-named = got-map liability_name sheet.liabilities k l at

  pub stress-live : (projection : Projection) → is_stress projection ≡ true → has_flows projection l ≡ true
      → is_live sheet (liability_loss projection l) ≡ true
  stress-live projection stress flows = loss-live sheet valid projection l stress liability-own flows

-- ---- groups

module _ (sheet : BalanceSheet) (valid : Valid sheet) (k : ℕ) (g : Group) (at : slice_get sheet.groups k ≡ Some g) where
  pub group-named : slice_get (map group_name sheet.groups) k ≡ Some g.name
  group-named = got-map group_name sheet.groups k g at

  pub group-live : is_live sheet (group_total g) ≡ true
  group-live = ap is_some (each-get (λ h. row_of group_name (group_name h) sheet.groups ≡ Some h) sheet.groups k g (own-groups sheet valid) at)
