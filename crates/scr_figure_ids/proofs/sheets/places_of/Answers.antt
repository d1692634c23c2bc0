use Rattle.std.proofs.Common.{ℕ, ◌+◌, ap, ◌∙◌}
use Rattle.scr_ids.specs.Ranges.{count}
use Rattle.scr_ids.specs.declared.table.Table.TheVariants as tables
use Rattle.scr_figure_ids.proofs.Filled.{filled}
use Rattle.scr_figure_ids.proofs.sheets.places_of.Goals as goal

pub returns : goal.returns
returns c =
    filled c.args.sheet.now c.in_ok-places.places c.fill.new.places c.fill-2.new.places c.fill-3.new.places c.fill-4.new.places
    c.fill-5.new.places c.in_ok-places.ensures
    (record {
      others = c.fill.ensures.others;
      more = c.in_ok-fill.ensures.ok ∙ ap (λ (n : ℕ). count c.in_ok-places.places tables.Fund + n) c.len.ensures.count;
    })
    (record {
      others = c.fill-2.ensures.others;
      more = c.in_ok-fill-2.ensures.ok ∙ ap (λ (n : ℕ). count c.fill.new.places tables.Currency + n) c.len-2.ensures.count;
    })
    (record {
      others = c.fill-3.ensures.others;
      more = c.in_ok-fill-3.ensures.ok ∙ ap (λ (n : ℕ). count c.fill-2.new.places tables.Group + n) c.len-3.ensures.count;
    })
    (record {
      others = c.fill-4.ensures.others;
      more = c.in_ok-fill-4.ensures.ok ∙ ap (λ (n : ℕ). count c.fill-3.new.places tables.Security + n) c.len-4.ensures.count;
    })
    (record {
      others = c.fill-5.ensures.others;
      more = c.in_ok-fill-5.ensures.ok ∙ ap (λ (n : ℕ). count c.fill-4.new.places tables.Liability + n) c.len-5.ensures.count;
    })
