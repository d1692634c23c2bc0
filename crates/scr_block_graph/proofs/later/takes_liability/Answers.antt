use Rattle.std.proofs.Common.{sym, ap, ◌∙◌}
use Rattle.scr_sheet.specs.Members.{has_liability}
use Rattle.scr_block_graph.specs.Sums.{roll_of}
use Rattle.scr_block_graph.proofs.Members.{same-test}
use Rattle.scr_block_graph.proofs.later.takes_liability.Goals as goal

pub returns-in-Losses : goal.returns-in-Losses
returns-in-Losses c =
    c.is_stressed.ensures
    ∙ ap (λ test. test c.args.liability.now) (same-test c.in-Losses.biometric c.in-Losses.projection)
    ∙ ap (λ sum. has_liability (roll_of sum) c.args.liability.now) (sym c.in-Losses.is)
