use Rattle.std.proofs.Common.{◌≡◌, Some, sym}
use Rattle.toml.specs.View.{view, items_view}
use Rattle.toml.specs.Data.{as_array}
use Rattle.scr_factors.specs.Forms as spec
use Rattle.scr_factors.proofs.FormLemmas.{list_of-none}
use Rattle.scr_factors.proofs.forms.number_rows.Goals as goal

pub returns-then-items-ne12 : goal.returns-then-items-ne12
returns-then-items-ne12 c =
    let items : as_array (view c.args.value.now) ≡ Some (items_view c.as_slice-items.result.now) =
    rw c.as_slice-items.ensures.value (sym c.in_ok-as_array.ensures) in
    sym (list_of-none (spec.list_of 12 (spec.whole_number 100)) 12 (view c.args.value.now) c.as_slice-items.result.now
    items c.if-items-ne12.true)
