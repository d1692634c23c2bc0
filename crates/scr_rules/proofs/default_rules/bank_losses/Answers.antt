use Rattle.std.proofs.Common.{sym, ◌∙◌}
use Rattle.scr_nodes.specs.Rows.{is_bank_of}
use Rattle.scr_rules.specs.DefaultGrains.{bank_grains}
use Rattle.scr_rules.proofs.DefaultCode.{tallied-here, tallied-past}
use Rattle.scr_rules.proofs.default_rules.bank_losses.Goals as goal
use Rattle.scr_rules.proofs.default_rules.bank_losses.Goals.{then-eq, else-eq}

pub loop-k-preserved : goal.loop-k-preserved
loop-k-preserved c =
    let test = is_bank_of c.args.name.now in
    let rows = c.args.sheet.now.banks in
    let row = c.at-bank.result.now in
    elim c.if-eq.branch [
      | then-eq w ↦
          rw (w.sum-is, w.lgd_bank-sum.ensures.value)
          (tallied-here test bank_grains rows c.loop-k.k c.loop-k.sum row c.at-bank.ensures c.loop-k.invariant (sym c.eq.ensures ∙ w.if-eq.true))
      | else-eq w ↦
          rw w.sum-is
          (tallied-past test bank_grains rows c.loop-k.k c.loop-k.sum row c.at-bank.ensures c.loop-k.invariant (sym c.eq.ensures ∙ w.if-eq.false))
    ]
