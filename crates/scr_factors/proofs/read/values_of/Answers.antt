use Rattle.std.proofs.Common.{sym, refl}
use Rattle.toml.specs.View.{table_view}
use Rattle.scr_factors.specs.declared.key.Key.TheVariants.{NlPremium, NlReserve, NsltPremium, NsltReserve}
use Rattle.scr_profile.specs.Matrix.{IsCorrelation}
use Rattle.scr_factors.specs.Reading.{spread_keys}
use Rattle.scr_factors.proofs.ReadLemmas.{numbers-row, rows-all, correlations-form, hundredths, matrix_of-correlation, matrix_of-not_negative}
use Rattle.scr_factors.proofs.read.values_of.Goals as goal

pub matrix_of-requires : goal.matrix_of-requires
matrix_of-requires c =
    hundredths c.in_ok-rows.rows
    (correlations-form (table_view c.args.document.now) c.in_ok-rows.rows (sym c.in_ok-rows.ensures))

pub invariant_of-result : goal.invariant_of-result
invariant_of-result c =
    let document = table_view c.args.document.now in
    let rows = c.in_ok-rows.rows in
    let (eight, each) = rows-all spread_keys document c.in_ok-spread.spread (sym c.in_ok-spread.ensures) in
    let form = correlations-form document rows (sym c.in_ok-rows.ensures) in
    let correlation : IsCorrelation c.matrix_of.result =
    rw c.matrix_of.ensures (matrix_of-correlation rows form (sym c.in_default.ensures.value)) in
    record {
      spread_rows = eight;
      spread = each;
      nl_premium = numbers-row 12 NlPremium document c.in_ok-nl_premium.nl_premium (sym c.in_ok-nl_premium.ensures);
      nl_reserve = numbers-row 12 NlReserve document c.in_ok-nl_reserve.nl_reserve (sym c.in_ok-nl_reserve.ensures);
      nl_segments = rw c.matrix_of.ensures refl;
      hundredths = rw c.matrix_of.ensures refl;
      correlations = correlation;
      not_negative = rw c.matrix_of.ensures (matrix_of-not_negative rows form);
      nslt_premium = numbers-row 4 NsltPremium document c.in_ok-nslt_premium.nslt_premium
          (sym c.in_ok-nslt_premium.ensures);
      nslt_reserve = numbers-row 4 NsltReserve document c.in_ok-nslt_reserve.nslt_reserve
          (sym c.in_ok-nslt_reserve.ensures);
    }
