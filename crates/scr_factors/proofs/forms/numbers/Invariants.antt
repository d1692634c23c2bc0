use Rattle.std.proofs.Common.{◌≡◌, length}
use Rattle.scr_factors.specs.Forms as spec
use Rattle.scr_factors.proofs.FormLemmas.{ReadTo}
use Rattle.scr_factors.proofs.forms.numbers.Given as goal

abbrev pub invariant-loop-i : goal.invariant-loop-i
invariant-loop-i g l = (length l.found ≡ g.row.N) × ReadTo (spec.whole_number l.limit) l.items l.found l.i
