use Rattle.std.proofs.Common.{false, pos, ap, sym, ◌∙◌, arith}
use Rattle.std.specs.Option.{option_map_or}
use Rattle.scr_num.specs.Rounding.{ends, exact_ends}
use Rattle.scr_partial_sums.specs.declared.figure.Figure.{Figure}
use Rattle.scr_tree.proofs.Journaled.{undone-long}
use Rattle.scr_tree.proofs.renewed.Rewritten.renewed.Goals as goal

pub figure_before-was-requires-clause-within : goal.figure_before-was-requires-clause-within
figure_before-was-requires-clause-within c =
    let there = c.requires.was.there in
    let long = undone-long c.args.self.now.former.now c.args.self.now.figures.now in
    omega (arith, there, long)

pub renewed_sum-requires-clause-sum : goal.renewed_sum-requires-clause-sum
renewed_sum-requires-clause-sum c =
    sym (ap (λ found. option_map_or (λ (figure : Figure). ends figure.span) found (exact_ends (pos 0))) c.figure_before-was.ensures)
    ∙ c.requires.was.span

pub renewed_sum-requires-clause-settled : goal.renewed_sum-requires-clause-settled
renewed_sum-requires-clause-settled c =
    sym c.requires.was.close
    ∙ ap (λ found. option_map_or (λ (figure : Figure). figure.close) found false) c.figure_before-was.ensures ∙ c.if-was.false

pub returns : goal.returns
returns c = record { span = c.in_ok-span.ensures.sum; close = sym c.in_ok-span.ensures.settled }
