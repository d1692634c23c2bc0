use Rattle.std.proofs.Common.{Bool, Contains, List, get_or, false, sym, ap, subst, ◌∙◌}
use Rattle.std.proofs.lemmas.Bool.{true≢false}
use Rattle.std.proofs.lemmas.List.{get_or_past}
use Rattle.scr_funds.specs.Components.{components_of}
use Rattle.scr_funds.proofs.order.FundOrder.was_component.Goals as goal

pub returns-in-Some-clause-none : goal.returns-in-Some-clause-none
returns-in-Some-clause-none c = λ off holder h.
    let was = c.self.invariant.marked holder c.args.fund
    (subst (λ all. Contains (components_of all holder) c.args.fund) (sym c.self.view_is) h) in
    true≢false (sym was ∙ ap (λ (marks : List Bool). get_or marks c.args.fund false) (sym c.deref.ensures.value)
    ∙ ap (get_or c.deref.result.now c.args.fund) (sym off) ∙ sym c.in-Some.ensures.lookup.1 ∙ off)

pub returns-in-None-clause-none : goal.returns-in-None-clause-none
returns-in-None-clause-none c = λ off holder h.
    let was = c.self.invariant.marked holder c.args.fund
    (subst (λ all. Contains (components_of all holder) c.args.fund) (sym c.self.view_is) h) in
    true≢false (sym was ∙ ap (λ (marks : List Bool). get_or marks c.args.fund false) (sym c.deref.ensures.value)
    ∙ get_or_past c.deref.result.now c.args.fund false c.in-None.ensures.lookup.3)
