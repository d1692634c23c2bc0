use Rattle.std.proofs.Common.{◌≡◌, ◌++◌}
use Rattle.scr_explanation.specs.Account.{indent}
use Rattle.scr_explanation.proofs.texts.push_indent.Given as goal

-- the blanks of the levels so far
abbrev pub invariant-loop : goal.invariant-loop
invariant-loop l = l.out.items ≡ l.fn.out.items ++ indent l.counter
