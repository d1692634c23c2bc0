use Rattle.std.proofs.Common.{◌≡◌, length}
use Rattle.scr_factors.specs.Forms as spec
use Rattle.scr_factors.proofs.FormLemmas.{ReadTo}
use Rattle.scr_factors.proofs.forms.number_rows.Given as goal

abbrev pub invariant-loop-i : goal.invariant-loop-i
invariant-loop-i l = (length l.found ≡ 12) × ReadTo (spec.list_of 12 (spec.whole_number 100)) l.items l.found l.i
