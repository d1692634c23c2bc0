use Rattle.std.proofs.Common.{pos, Bool, sym, ap, ap₂}
use Rattle.scr_num.specs.declared.span.Span.{Span}
use Rattle.scr_partial_sums.specs.Tables.{nothing}
use Rattle.scr_partial_sums.specs.declared.figure.Figure.{Figure}
use Rattle.scr_partial_sums.proofs.KeptSpans.{one_span}
use Rattle.scr_partial_sums.proofs.figure.is_nothing.Goals as goal

pub returns-then-not-figure-clause-yes : goal.returns-then-not-figure-clause-yes
returns-then-not-figure-clause-yes c = λ yes.
    let figure = c.args.figure.now in
    let nil = c.is_nil.ensures.yes yes in
    let span = one_span (pos 0) (pos 0) figure.span (sym nil.0) (sym nil.1) nothing.span.ordered in
    ap₂ (λ (s : Span) (close : Bool). record { span = s; close = close }) (sym span) c.if-not-figure.true

pub returns-then-not-figure-clause-not : goal.returns-then-not-figure-clause-not
returns-then-not-figure-clause-not c = λ no is.
    c.is_nil.ensures.not no (ap (λ (f : Figure). f.span.low) is) (ap (λ (f : Figure). f.span.high) is)
