-- The single numbers, each within its own limits, after one or two of them change.
use Rattle.std.proofs.Common.{arith, ◌≤◌, ℕ, zero, suc, ℤ, pos, neg_ℤ, ◌≤ℤ◌, List, [], ◌∷◌, Option, Some, None, set, get_or}
use Rattle.std.specs.List.{AllByRecursion}
use Rattle.std.specs.Option.{option_map_or}
use Rattle.std.specs.Prelude.{slice_index_or}
use Rattle.scr_sheet.specs.Absorptions.{absorbed}
use Rattle.scr_sheet.specs.declared.{keys.AbsorbKey.AbsorbKey, numbers.Numbers.Numbers}
use Rattle.scr_dates.specs.declared.day.Day.{Day}
use Rattle.scr_dates.specs.Civil.{IsDay}
use Rattle.scr_sheet.specs.Forms.{IsCurrency}
use Rattle.scr_sheet.specs.Records.{absorb_place, placed, with_volumes, with_segment}
use Rattle.scr_sheet.specs.Validity.{AreNumbers, AreVolumes, IsAmount, IsBetween}
use Rattle.scr_profile.specs.declared.set.Set.{Set}
use Rattle.scr_profile.specs.declared.set.Set.TheVariants as sets
use Rattle.scr_profile.specs.declared.limits.TheConstants.{MAX_AMOUNT, MAX_SYM, MAX_TAX}

pub All-set : {X : Type 0} (P : X → Type 0) (xs : List X) (k : ℕ) (x : X) → P x → AllByRecursion P xs → AllByRecursion P (set xs k x)
All-set P [] k x own all = tt
All-set P (y ∷ ys) zero x own all = (own, all.1)
All-set P (y ∷ ys) (suc k) x own all = (all.0, All-set P ys k x own all.1)

All-get_or : {X : Type 0} (P : X → Type 0) (xs : List X) (k : ℕ) (d : X) → P d → AllByRecursion P xs → P (get_or xs k d)
All-get_or P [] k d miss all = miss
All-get_or P (y ∷ ys) zero d miss all = all.0
All-get_or P (y ∷ ys) (suc k) d miss all = All-get_or P ys k d miss all.1

-- what is absorbed of a scenario is an amount
pub absorbed-within : (key : AbsorbKey) (numbers : Numbers) → AllByRecursion IsAmount numbers.absorb → absorbed key numbers ≤ MAX_AMOUNT
absorbed-within key numbers all = by (absorb_place key)
  where
    by : (place : Option ℕ) → option_map_or (λ k. slice_index_or numbers.absorb k 0) place 0 ≤ MAX_AMOUNT
    by None = omega arith
    by (Some k) = All-get_or IsAmount numbers.absorb k 0 (omega arith) all

pub All-placed : (place : Option ℕ) (cents : ℕ) (amounts : List ℕ) → IsAmount cents → AllByRecursion IsAmount amounts → AllByRecursion IsAmount (placed place cents amounts)
All-placed None cents amounts own all = all
All-placed (Some k) cents amounts own all = All-set IsAmount amounts k cents own all

volumes-with_volumes : (number region : ℕ) (new : ℕ × ℕ) (volumes : List (List (ℕ × ℕ))) → IsAmount new.0 → IsAmount new.1 → AreVolumes volumes → AreVolumes (with_volumes number region new volumes)
volumes-with_volumes number region new volumes premium reserve all =
    let P : ℕ × ℕ → Type 0 = λ v. IsAmount v.0 × IsAmount v.1 in
    let Q : List (ℕ × ℕ) → Type 0 = AllByRecursion P in
    All-set Q volumes _ _ (All-set P _ _ new (premium, reserve) (All-get_or Q volumes _ [] tt all)) all

pub volumes-with_segment : (own set : Set) (number region : ℕ) (new : ℕ × ℕ) (volumes : List (List (ℕ × ℕ))) → IsAmount new.0 → IsAmount new.1 → AreVolumes volumes → AreVolumes (with_segment own set number region new volumes)
volumes-with_segment sets.Nl sets.Nl number region new volumes premium reserve all = volumes-with_volumes number region new volumes premium reserve all
volumes-with_segment sets.Nslt sets.Nslt number region new volumes premium reserve all = volumes-with_volumes number region new volumes premium reserve all
volumes-with_segment sets.Nl sets.Nslt number region new volumes premium reserve all = all
volumes-with_segment sets.Nslt sets.Nl number region new volumes premium reserve all = all

pub with_asof : (n : Numbers) (asof_now : Day) (currency_now : List ℕ) → AreNumbers n → IsDay asof_now.number → IsCurrency currency_now → AreNumbers (record n { asof = asof_now; currency = currency_now })
with_asof n asof_now currency_now v asof_is currency_is = record { asof = asof_is; currency = currency_is; absorb = v.absorb; nl = v.nl; nslt = v.nslt; cat = v.cat; health_cat = v.health_cat; lapse = v.lapse; due = v.due; provisions = v.provisions; earned = v.earned; sym = v.sym; tax = v.tax; cap = v.cap; fdb = v.fdb; intangible = v.intangible }

pub with_absorb : (n : Numbers) (absorb_now : List ℕ) → AreNumbers n → AllByRecursion IsAmount absorb_now → AreNumbers (record n { absorb = absorb_now })
with_absorb n absorb_now v absorb_is = record { asof = v.asof; currency = v.currency; absorb = absorb_is; nl = v.nl; nslt = v.nslt; cat = v.cat; health_cat = v.health_cat; lapse = v.lapse; due = v.due; provisions = v.provisions; earned = v.earned; sym = v.sym; tax = v.tax; cap = v.cap; fdb = v.fdb; intangible = v.intangible }

pub with_both_volumes : (n : Numbers) (nl_now : List (List (ℕ × ℕ))) (nslt_now : List (List (ℕ × ℕ))) → AreNumbers n → AreVolumes nl_now → AreVolumes nslt_now → AreNumbers (record n { nl = nl_now; nslt = nslt_now })
with_both_volumes n nl_now nslt_now v nl_is nslt_is = record { asof = v.asof; currency = v.currency; absorb = v.absorb; nl = nl_is; nslt = nslt_is; cat = v.cat; health_cat = v.health_cat; lapse = v.lapse; due = v.due; provisions = v.provisions; earned = v.earned; sym = v.sym; tax = v.tax; cap = v.cap; fdb = v.fdb; intangible = v.intangible }

pub with_cats : (n : Numbers) (cat_now : List ℕ) (health_cat_now : List ℕ) → AreNumbers n → AllByRecursion IsAmount cat_now → AllByRecursion IsAmount health_cat_now → AreNumbers (record n { cat = cat_now; health_cat = health_cat_now })
with_cats n cat_now health_cat_now v cat_is health_cat_is = record { asof = v.asof; currency = v.currency; absorb = v.absorb; nl = v.nl; nslt = v.nslt; cat = cat_is; health_cat = health_cat_is; lapse = v.lapse; due = v.due; provisions = v.provisions; earned = v.earned; sym = v.sym; tax = v.tax; cap = v.cap; fdb = v.fdb; intangible = v.intangible }

pub with_lapse : (n : Numbers) (lapse_now : List ℕ) → AreNumbers n → AllByRecursion IsAmount lapse_now → AreNumbers (record n { lapse = lapse_now })
with_lapse n lapse_now v lapse_is = record { asof = v.asof; currency = v.currency; absorb = v.absorb; nl = v.nl; nslt = v.nslt; cat = v.cat; health_cat = v.health_cat; lapse = lapse_is; due = v.due; provisions = v.provisions; earned = v.earned; sym = v.sym; tax = v.tax; cap = v.cap; fdb = v.fdb; intangible = v.intangible }

pub with_due : (n : Numbers) (due_now : List ℕ) → AreNumbers n → AllByRecursion IsAmount due_now → AreNumbers (record n { due = due_now })
with_due n due_now v due_is = record { asof = v.asof; currency = v.currency; absorb = v.absorb; nl = v.nl; nslt = v.nslt; cat = v.cat; health_cat = v.health_cat; lapse = v.lapse; due = due_is; provisions = v.provisions; earned = v.earned; sym = v.sym; tax = v.tax; cap = v.cap; fdb = v.fdb; intangible = v.intangible }

pub with_op : (n : Numbers) (provisions_now : List ℤ) (earned_now : List ℕ) → AreNumbers n → AllByRecursion (IsBetween (neg_ℤ (pos MAX_AMOUNT)) (pos MAX_AMOUNT)) provisions_now → AllByRecursion IsAmount earned_now → AreNumbers (record n { provisions = provisions_now; earned = earned_now })
with_op n provisions_now earned_now v provisions_is earned_is = record { asof = v.asof; currency = v.currency; absorb = v.absorb; nl = v.nl; nslt = v.nslt; cat = v.cat; health_cat = v.health_cat; lapse = v.lapse; due = v.due; provisions = provisions_is; earned = earned_is; sym = v.sym; tax = v.tax; cap = v.cap; fdb = v.fdb; intangible = v.intangible }

pub with_sym : (n : Numbers) (sym_now : ℤ) → AreNumbers n → IsBetween (neg_ℤ MAX_SYM) MAX_SYM sym_now → AreNumbers (record n { sym = sym_now })
with_sym n sym_now v sym_is = record { asof = v.asof; currency = v.currency; absorb = v.absorb; nl = v.nl; nslt = v.nslt; cat = v.cat; health_cat = v.health_cat; lapse = v.lapse; due = v.due; provisions = v.provisions; earned = v.earned; sym = sym_is; tax = v.tax; cap = v.cap; fdb = v.fdb; intangible = v.intangible }

pub with_tax : (n : Numbers) (tax_now : ℕ) (cap_now : ℕ) → AreNumbers n → pos tax_now ≤ℤ MAX_TAX → IsAmount cap_now → AreNumbers (record n { tax = tax_now; cap = cap_now })
with_tax n tax_now cap_now v tax_is cap_is = record { asof = v.asof; currency = v.currency; absorb = v.absorb; nl = v.nl; nslt = v.nslt; cat = v.cat; health_cat = v.health_cat; lapse = v.lapse; due = v.due; provisions = v.provisions; earned = v.earned; sym = v.sym; tax = tax_is; cap = cap_is; fdb = v.fdb; intangible = v.intangible }

pub with_fdb : (n : Numbers) (fdb_now : ℕ) → AreNumbers n → IsAmount fdb_now → AreNumbers (record n { fdb = fdb_now })
with_fdb n fdb_now v fdb_is = record { asof = v.asof; currency = v.currency; absorb = v.absorb; nl = v.nl; nslt = v.nslt; cat = v.cat; health_cat = v.health_cat; lapse = v.lapse; due = v.due; provisions = v.provisions; earned = v.earned; sym = v.sym; tax = v.tax; cap = v.cap; fdb = fdb_is; intangible = v.intangible }

pub with_intangible : (n : Numbers) (intangible_now : ℕ) → AreNumbers n → IsAmount intangible_now → AreNumbers (record n { intangible = intangible_now })
with_intangible n intangible_now v intangible_is = record { asof = v.asof; currency = v.currency; absorb = v.absorb; nl = v.nl; nslt = v.nslt; cat = v.cat; health_cat = v.health_cat; lapse = v.lapse; due = v.due; provisions = v.provisions; earned = v.earned; sym = v.sym; tax = v.tax; cap = v.cap; fdb = v.fdb; intangible = intangible_is }
