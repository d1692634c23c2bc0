use Rattle.scr_nodes.specs.Rows.{is_reinsurer_of}
use Rattle.scr_rules.specs.DefaultGrains.{reinsurer_grains}
use Rattle.scr_rules.proofs.DefaultCode.{IsTallied}
use Rattle.scr_rules.proofs.default_rules.reinsurer_losses.Given as goal

abbrev pub invariant-loop-k : goal.invariant-loop-k
invariant-loop-k l = IsTallied (is_reinsurer_of l.name) reinsurer_grains l.sheet.reinsurers l.k l.sum
