-- Table by table, all rows come.
use Rattle.std.proofs.Common.{◌≡◌, ℕ, ◌+◌, true, length, refl, ◌∙◌, arith}
use Rattle.std.proofs.lemmas.List.{length-map}
use Rattle.scr_ids.specs.Moves.{IsNew, IsSameBut}
use Rattle.scr_ids.specs.Ranges.{Numbered, count}
use Rattle.scr_ids.specs.declared.table.Table.{Table}
use Rattle.scr_ids.specs.declared.table.Table.TheVariants as tables
use Rattle.scr_sheet.specs.BalanceSheet.{curve_name, group_name, liability_name, position_name, stake_name}
use Rattle.scr_sheet.specs.declared.sheet.BalanceSheet.{BalanceSheet}
use Rattle.scr_figure_ids.specs.Numbers.{IsNumbered, is_of_sheet, names_in}

-- so many rows of one table came
pub record Filled (table : Table) (rows : ℕ) (before now : Numbered) : Type 0 where
  pub others : IsSameBut table before now
  pub more : count now table ≡ count before table + rows

module _ (sheet : BalanceSheet) (none funds currencies groups securities all : Numbered) (new : IsNew none)
    (f : Filled tables.Fund (length sheet.funds) none funds)
    (c : Filled tables.Currency (length sheet.curves) funds currencies)
    (g : Filled tables.Group (length sheet.groups) currencies groups)
    (s : Filled tables.Security (length sheet.securities) groups securities)
    (l : Filled tables.Liability (length sheet.liabilities) securities all) where
  counted : (table : Table) → is_of_sheet table ≡ true → count all table ≡ length (names_in sheet table)
  counted tables.Whole of =
      l.others.counts tables.Whole refl ∙ s.others.counts tables.Whole refl ∙ g.others.counts tables.Whole refl
      ∙ c.others.counts tables.Whole refl ∙ f.others.counts tables.Whole refl ∙ new.whole_count
  counted tables.Fund of =
      let kept = l.others.counts tables.Fund refl ∙ s.others.counts tables.Fund refl ∙ g.others.counts tables.Fund refl
      ∙ c.others.counts tables.Fund refl in
      let none_yet = new.counts tables.Fund refl in
      let long = length-map sheet.funds stake_name in
      omega (arith, kept, f.more, none_yet, long)
  counted tables.Currency of =
      let kept = l.others.counts tables.Currency refl ∙ s.others.counts tables.Currency refl ∙ g.others.counts tables.Currency refl in
      let none_yet = f.others.counts tables.Currency refl ∙ new.counts tables.Currency refl in
      let long = length-map sheet.curves curve_name in
      omega (arith, kept, c.more, none_yet, long)
  counted tables.Group of =
      let kept = l.others.counts tables.Group refl ∙ s.others.counts tables.Group refl in
      let none_yet = c.others.counts tables.Group refl ∙ f.others.counts tables.Group refl ∙ new.counts tables.Group refl in
      let long = length-map sheet.groups group_name in
      omega (arith, kept, g.more, none_yet, long)
  counted tables.Security of =
      let kept = l.others.counts tables.Security refl in
      let none_yet = g.others.counts tables.Security refl ∙ c.others.counts tables.Security refl ∙ f.others.counts tables.Security refl
      ∙ new.counts tables.Security refl in
      let long = length-map sheet.securities position_name in
      omega (arith, kept, s.more, none_yet, long)
  counted tables.Liability of =
      let none_yet = s.others.counts tables.Liability refl ∙ g.others.counts tables.Liability refl ∙ c.others.counts tables.Liability refl
      ∙ f.others.counts tables.Liability refl ∙ new.counts tables.Liability refl in
      let long = length-map sheet.liabilities liability_name in
      omega (arith, l.more, none_yet, long)
  counted tables.Part of = absurd (cc)

  pub filled : IsNumbered sheet all
  filled = record {
    rows = counted;
    whole = l.others.firsts tables.Whole refl 0 ∙ s.others.firsts tables.Whole refl 0 ∙ g.others.firsts tables.Whole refl 0
        ∙ c.others.firsts tables.Whole refl 0 ∙ f.others.firsts tables.Whole refl 0 ∙ new.whole_first;
  }
