use Rattle.std.proofs.Common.{ℕ, List, get_or, ◌+◌, ◌≤◌, sym, ap₂, ◌∙◌, arith}
use Rattle.scr_default.specs.declared.TheConstants.{MAX_LOSS}
use Rattle.scr_rules.specs.GroupLosses.{with_loss}
use Rattle.scr_rules.proofs.GroupSums.{bank-grows, bank-small, bank-unknown}
use Rattle.scr_rules.proofs.all_losses.enter_bank.Goals as goal

pub add_at-requires-clause-small : goal.add_at-requires-clause-small
add_at-requires-clause-small c =
    let small : get_or c.args.sums.now.items c.in-Some.place 0 + c.lgd_bank-loss.result ≤ MAX_LOSS =
    rw (c.requires.before, c.lgd_bank-loss.ensures.value)
    (bank-small c.args.sheet.now c.requires.valid c.args.k c.at-bank.result.now c.at-bank.ensures c.in-Some.place
    c.in-Some.ensures.place) in
    omega (arith, small)

pub returns-in-Some : goal.returns-in-Some
returns-in-Some c =
    c.add_at.ensures
    ∙ ap₂ (λ (loss : ℕ) (sums : List ℕ). with_loss c.in-Some.place loss sums) c.lgd_bank-loss.ensures.value
    c.requires.before
    ∙ sym (bank-grows c.args.sheet.now c.requires.valid c.args.k c.at-bank.result.now c.at-bank.ensures
    c.in-Some.place c.in-Some.ensures.place)

pub returns-in_default : goal.returns-in_default
returns-in_default c =
    c.requires.before
    ∙ sym (bank-unknown c.args.sheet.now c.requires.valid c.args.k c.at-bank.result.now c.at-bank.ensures
    (sym c.in_default.ensures.there))
