use Rattle.std.proofs.Common.{append_assoc, rules}
use Rattle.std.proofs.lemmas.Fmt.{decimal_digit}
use Rattle.scr_amounts.proofs.amount.push_decimals.Goals as goal

pub returns : goal.returns
returns c =
    rw (decimal_digit c.args.tens c.requires.tens, decimal_digit c.args.units c.requires.units) (search (rules, append_assoc))
