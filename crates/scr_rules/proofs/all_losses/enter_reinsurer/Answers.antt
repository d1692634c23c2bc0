use Rattle.std.proofs.Common.{ℕ, List, length, get_or, ◌+◌, ◌≤◌, sym, ap₂, ◌∙◌, arith}
use Rattle.scr_default.specs.declared.TheConstants.{MAX_LOSS}
use Rattle.scr_rules.specs.GroupLosses.{with_loss}
use Rattle.scr_rules.proofs.GroupSums.{reinsurer-grows, reinsurer-small, reinsurer-unknown}
use Rattle.scr_rules.proofs.all_losses.enter_reinsurer.Goals as goal

pub add_at-requires-clause-small : goal.add_at-requires-clause-small
add_at-requires-clause-small c =
    let small : get_or c.args.sums.now.items c.in-Some.place 0 + c.lgd_rein-loss.result ≤ MAX_LOSS =
    rw (c.requires.before, c.lgd_rein-loss.ensures.value)
    (reinsurer-small c.args.sheet.now c.requires.valid (length c.args.sheet.now.banks) c.args.k
    c.at-reinsurer.result.now c.at-reinsurer.ensures c.in-Some.place c.in-Some.ensures.place) in
    omega (arith, small)

pub returns-in-Some : goal.returns-in-Some
returns-in-Some c =
    c.add_at.ensures
    ∙ ap₂ (λ (loss : ℕ) (sums : List ℕ). with_loss c.in-Some.place loss sums) c.lgd_rein-loss.ensures.value
    c.requires.before
    ∙ sym (reinsurer-grows c.args.sheet.now c.requires.valid (length c.args.sheet.now.banks) c.args.k
    c.at-reinsurer.result.now c.at-reinsurer.ensures c.in-Some.place c.in-Some.ensures.place)

pub returns-in_default : goal.returns-in_default
returns-in_default c =
    c.requires.before
    ∙ sym (reinsurer-unknown c.args.sheet.now c.requires.valid (length c.args.sheet.now.banks) c.args.k
    c.at-reinsurer.result.now c.at-reinsurer.ensures (sym c.in_default.ensures.there))
