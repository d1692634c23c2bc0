use Rattle.scr_nodes.specs.Rows.{is_bank_of}
use Rattle.scr_rules.specs.DefaultGrains.{bank_grains}
use Rattle.scr_rules.proofs.DefaultCode.{IsTallied}
use Rattle.scr_rules.proofs.default_rules.bank_losses.Given as goal

abbrev pub invariant-loop-k : goal.invariant-loop-k
invariant-loop-k l = IsTallied (is_bank_of l.name) bank_grains l.sheet.banks l.k l.sum
