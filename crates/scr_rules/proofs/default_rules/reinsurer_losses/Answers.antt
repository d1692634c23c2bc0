use Rattle.std.proofs.Common.{sym, ◌∙◌}
use Rattle.scr_nodes.specs.Rows.{is_reinsurer_of}
use Rattle.scr_rules.specs.DefaultGrains.{reinsurer_grains}
use Rattle.scr_rules.proofs.DefaultCode.{tallied-here, tallied-past}
use Rattle.scr_rules.proofs.default_rules.reinsurer_losses.Goals as goal
use Rattle.scr_rules.proofs.default_rules.reinsurer_losses.Goals.{then-eq, else-eq}

pub loop-k-preserved : goal.loop-k-preserved
loop-k-preserved c =
    let test = is_reinsurer_of c.args.name.now in
    let rows = c.args.sheet.now.reinsurers in
    let row = c.at-reinsurer.result.now in
    elim c.if-eq.branch [
      | then-eq w ↦
          rw (w.sum-is, w.lgd_rein-sum.ensures.value)
          (tallied-here test reinsurer_grains rows c.loop-k.k c.loop-k.sum row c.at-reinsurer.ensures c.loop-k.invariant (sym c.eq.ensures ∙ w.if-eq.true))
      | else-eq w ↦
          rw w.sum-is
          (tallied-past test reinsurer_grains rows c.loop-k.k c.loop-k.sum row c.at-reinsurer.ensures c.loop-k.invariant (sym c.eq.ensures ∙ w.if-eq.false))
    ]
