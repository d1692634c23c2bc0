-- What the records of volumes and of single numbers do to a sheet that is built.
use Rattle.std.proofs.Common.{◌≡◌, ℕ, zero, suc, ℤ, pos, ◌+◌, ◌-◌, ◌≤◌, List, [], ◌∷◌, length, set, get_or, refl, sym, ap, ◌∙◌, arith, lit≤, length-set}
use Rattle.std.specs.Prelude.{codes, slice_index_or}
use Rattle.std.specs.List.{AllByRecursion}
use Rattle.scr_dates.specs.declared.day.Day.{Day}
use Rattle.scr_profile.specs.declared.limits.TheConstants.{MAX_AMOUNT}
use Rattle.scr_profile.specs.declared.set.Set.TheVariants as sets
use Rattle.scr_sheet.specs.BalanceSheet.{volumes_total}
use Rattle.scr_sheet.specs.Records.{applied, with_region, with_volumes}
use Rattle.scr_sheet.specs.declared.{keys.CatKey.CatKey, sheet.BalanceSheet.BalanceSheet}
use Rattle.scr_sheet.specs.declared.edit.Edit.TheVariants as edits
use Rattle.scr_sheet.specs.declared.fault.Quantity.TheVariants as quantities
use Rattle.scr_sheet.proofs.Amounts.{All-set}
use Rattle.scr_sheet.proofs.Bounds.{above-within}
use Rattle.scr_made.specs.Days.{year_end}
use Rattle.scr_made.specs.Made as spec
use Rattle.scr_made.proofs.Built.{Built, Counts, SegmentBounds, euros_dollars_pounds, volumes-within, with_numbers}
use Rattle.scr_made.proofs.Faultless.{Step, amount_inside, currency_there, known_currency, sound, two_none}
use Rattle.scr_made.proofs.Sight.{seen-2025}

-- ---- volumes

All-at : {X : Type 0} (P : X → Type 0) (xs : List X) (k : ℕ) (d : X) → P d → AllByRecursion P xs → P (get_or xs k d)
All-at P [] k d miss all = miss
All-at P (x ∷ xs) zero d miss all = all.0
All-at P (x ∷ xs) (suc k) d miss all = All-at P xs k d miss all.1

none_taken : SegmentBounds []
none_taken = record { regions = lit≤ tt; volumes = tt }

with_first_region : (premium reserve : ℕ) → premium ≤ 2000000000 → reserve ≤ 2000000000 → (segment : List (ℕ × ℕ))
    → SegmentBounds segment → SegmentBounds (with_region 1 (premium, reserve) segment)
with_first_region premium reserve low few segment h =
    let regions = h.regions in
    let kept = length-set segment 0 (premium, reserve) in
    record {
      regions = omega (arith, regions, kept);
      volumes = All-set (λ (v : ℕ × ℕ). v.0 + v.1 ≤ 4000000000) segment 0 (premium, reserve) (omega (arith, low, few)) h.volumes;
    }

module _ (n : Counts) (sheet : BalanceSheet) (b : Built n sheet) where
  pub with_segment_record : (number premium reserve : ℕ) → premium ≤ 2000000000 → reserve ≤ 2000000000
      → Step n (edits.Segment sets.Nl number 1 (pos premium) (pos reserve)) sheet
  with_segment_record number premium reserve low few =
      let segments = b.segments in
      let segment = get_or sheet.numbers.nl (number - 1) [] in
      let new = with_region 1 (premium, reserve) segment in
      let bounds = with_first_region premium reserve low few segment
      (All-at SegmentBounds sheet.numbers.nl (number - 1) [] none_taken b.volumes) in
      let kept = length-set sheet.numbers.nl (number - 1) new in
      let after : Built n (applied (edits.Segment sets.Nl number 1 (pos premium) (pos reserve)) sheet) =
      with_numbers n sheet b _ (omega (arith, segments, kept))
      (All-set SegmentBounds sheet.numbers.nl (number - 1) new bounds b.volumes) b.sight in (
        sound (edits.Segment sets.Nl number 1 (pos premium) (pos reserve)) sheet n refl refl refl refl refl
            (two_none (amount_inside quantities.Amount premium MAX_AMOUNT (omega (arith, low)))
            (two_none (amount_inside quantities.Amount reserve MAX_AMOUNT (omega (arith, few))) refl))
            after refl
            (above-within quantities.Volumes
            (volumes_total sets.Nl (applied (edits.Segment sets.Nl number 1 (pos premium) (pos reserve)) sheet)) MAX_AMOUNT
            (volumes-within n (applied (edits.Segment sets.Nl number 1 (pos premium) (pos reserve)) sheet) after)),
        after,
      )

  -- ---- single numbers

  pub with_cat : (key : CatKey) (cents : ℕ) → cents ≤ MAX_AMOUNT → Step n (edits.Cat key (pos cents)) sheet
  with_cat key cents few =
      let after : Built n (applied (edits.Cat key (pos cents)) sheet) = with_numbers n sheet b _ b.segments b.volumes b.sight in (
        sound (edits.Cat key (pos cents)) sheet n refl refl refl refl refl
            (two_none (amount_inside quantities.Amount cents MAX_AMOUNT few) refl) after refl refl,
        after,
      )

  pub with_operations : Step n spec.operations sheet
  with_operations =
      let after : Built n (applied spec.operations sheet) = with_numbers n sheet b _ b.segments b.volumes b.sight in
      (sound spec.operations sheet n refl refl refl refl refl refl after refl refl, after)

  pub with_taxes : Step n spec.taxes sheet
  with_taxes =
      let after : Built n (applied spec.taxes sheet) = with_numbers n sheet b _ b.segments b.volumes b.sight in
      (sound spec.taxes sheet n refl refl refl refl refl refl after refl refl, after)

  pub with_adjustment : Step n (edits.Sym (pos 20000)) sheet
  with_adjustment =
      let after : Built n (applied (edits.Sym (pos 20000)) sheet) = with_numbers n sheet b _ b.segments b.volumes b.sight in
      (sound (edits.Sym (pos 20000)) sheet n refl refl refl refl refl refl after refl refl, after)

  pub with_closing_date : Step n spec.closing_date sheet
  with_closing_date =
      let after : Built n (applied spec.closing_date sheet) = with_numbers n sheet b _ b.segments b.volumes seen-2025 in (
        sound spec.closing_date sheet n refl (known_currency (codes "EUR") sheet (currency_there n sheet b (codes "EUR") refl)) refl refl refl refl
            after refl refl,
        after,
      )
