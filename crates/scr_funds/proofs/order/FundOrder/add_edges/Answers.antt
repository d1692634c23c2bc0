use Rattle.std.proofs.Common.{◌≡◌, ℕ, List, Result, Ok, Err, IsErrAnd, subst, sym}
use Rattle.scr_funds.specs.Answers.{Answers}
use Rattle.scr_funds.specs.Chains.{LeadsTo}
use Rattle.scr_funds.specs.Components.{components_with}
use Rattle.scr_funds.specs.declared.fault.OrderFault.{OrderFault}
use Rattle.scr_funds.proofs.Rows.{with_edges-is}
use Rattle.scr_funds.proofs.order.FundOrder.add_edges.Goals as goal

-- a fault that is handed on answers as before
handed_on : {A : Type 0} (components : ℕ → List ℕ) (from : ℕ) (fault : OrderFault) (result : Result A OrderFault)
    → IsErrAnd result (λ e. e ≡ fault)
    → Answers {A = A} components from (Err fault) → Answers components from result
handed_on components from fault (Ok a) h answer = absurd h
handed_on {A = A} components from fault (Err e) h answer =
    subst (λ x. Answers {A = A} components from (Err x)) (sym h) answer

pub returns-in_err-check_edges-clause-answer : goal.returns-in_err-check_edges-clause-answer
returns-in_err-check_edges-clause-answer c =
    subst (λ components. Answers components c.args.from c.from_residual.result)
    (sym (with_edges-is c.args.from c.args.to.now c.args.self.now))
    (handed_on (components_with c.args.from c.args.to.now c.args.self.now) c.args.from c.in_err-check_edges.field-0.0
    c.from_residual.result
    c.from_residual.ensures.1 c.in_err-check_edges.ensures.answer)

pub returns-clause-answer : goal.returns-clause-answer
returns-clause-answer c =
    subst (λ components. ¬ LeadsTo components c.args.from c.args.from)
    (sym (with_edges-is c.args.from c.args.to.now c.args.self.now))
    c.in_ok-check_edges.ensures.answer
