use Rattle.std.proofs.Common.{subst}
use Rattle.scr_sheet.specs.declared.edit.Edit.{Edit}
use Rattle.scr_tree.specs.KeptRates.{AreKeptFor}
use Rattle.scr_tree.proofs.edits.new_rates.Goals as goal

pub rates_after-requires : goal.rates_after-requires
rates_after-requires c =
    subst (λ (edit : Edit). AreKeptFor edit c.args.footing.book.now.sheet c.args.kept.now) c.in-Curve.is c.requires
