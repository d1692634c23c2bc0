-- The fields of a line, from the verb on.
use Rattle.std.proofs.Common.{arith}
use Rattle.scr_csv.proofs.LineSplit.{few_fields}
use Rattle.scr_csv.proofs.fields.Fields.of_text.Goals as goal

pub invariant_of-result : goal.invariant_of-result
invariant_of-result c = rw c.of_text.ensures (omega (arith, few_fields c.args.text.now, c.requires.fits))
