use Rattle.std.proofs.Common.{◌≡◌, ◌+◌, subst, sym, arith}
use Rattle.scr_funds.specs.HandedOn.{AreReady}
use Rattle.scr_funds.proofs.RowSteps.{ready_none, ready_next, ready_skip}
use Rattle.scr_funds.proofs.look_through.first_ready.Goals as goal
use Rattle.scr_funds.proofs.look_through.first_ready.Goals.{then-waiting-fund-eq0+in_ok-push, else-waiting-fund-eq0}

pub loop-fund-init : goal.loop-fund-init
loop-fund-init c = subst (AreReady 0 c.args.waiting.now) (sym c.in_ok-ready.ensures.items)
    (ready_none c.args.waiting.now)

pub loop-fund-preserved : goal.loop-fund-preserved
loop-fund-preserved c =
    elim c.if-waiting-fund-eq0.branch [
      | then-waiting-fund-eq0+in_ok-push w ↦
          subst (λ v. AreReady (c.loop-fund.fund + 1) c.args.waiting.now v.items) (sym w.ready-is)
          (subst (AreReady (c.loop-fund.fund + 1) c.args.waiting.now) (sym w.in_ok-push.ensures.items)
          (ready_next c.loop-fund.fund c.args.waiting.now c.loop-fund.ready.items c.loop-fund.invariant
          w.if-waiting-fund-eq0.true))
      | else-waiting-fund-eq0 w ↦
          subst (λ v. AreReady (c.loop-fund.fund + 1) c.args.waiting.now v.items) (sym w.ready-is)
          (ready_skip c.loop-fund.fund c.args.waiting.now c.loop-fund.ready.items c.loop-fund.invariant
          w.if-waiting-fund-eq0.false)
    ]

pub returns : goal.returns
returns c =
    let end : c.loop-fund.fund ≡ c.args.funds = omega arith in
    subst (λ n. AreReady n c.args.waiting.now c.loop-fund.ready.items) end c.loop-fund.invariant
