use Rattle.std.proofs.Common.{◌≡◌, ◌+◌, [], ◌∷◌, ◌++◌, take, refl, sym, ap, subst, ◌∙◌}
use Rattle.scr_fund_graph.specs.Graph.{Graph, components_under, BeginsWith}
use Rattle.scr_fund_graph.proofs.Entering.{HaveEntered, begins-key, begins-trans, entered-begins, taken-next, taken-known}
use Rattle.scr_fund_graph.proofs.graph.FundGraph.enter_components.Goals as goal
use Rattle.scr_fund_graph.proofs.graph.FundGraph.enter_components.Goals.{in-Some, in-None+in_ok-number-in-None}

pub loop-name-init : goal.loop-name-init
loop-name-init c = (record { numbered = c.in_ok-numbers.ensures.items; named = refl }, refl, refl)

pub loop-name-preserved : goal.loop-name-preserved
loop-name-preserved c =
    let before = c.args.self.now.names in
    let now = c.loop-name.self.names in
    let k = c.loop-name.name-index in
    let components = c.args.components.now in
    let numbers = c.loop-name.numbers.items in
    let number = c.match-found_number.number in
    let pushed = c.in_ok-push.ensures.items in
    elim c.match-found_number.branch [
      | in-Some w ↦
          let step = taken-known before now numbers components k c.loop-name-item.result c.loop-name-test.true c.loop-name-item.is c.loop-name.invariant.0 number
          (w.number-is ∙ w.in-Some.ensures.0) w.in-Some.ensures.1 in (
            subst (λ xs. HaveEntered before c.match-found_number.self.names xs (take (k + 1) components)) (sym pushed)
                (subst (λ (g : Graph). HaveEntered before g.names (numbers ++ number ∷ []) (take (k + 1) components)) (sym w.self-is) step),
            ap (λ (g : Graph). g.components) w.self-is ∙ c.loop-name.invariant.1,
            ap components_under w.self-is ∙ c.loop-name.invariant.2,
          )
      | in-None+in_ok-number-in-None w ↦
          let step = taken-next before now numbers components k c.loop-name-item.result c.loop-name-test.true c.loop-name-item.is c.loop-name.invariant.0
          w.enter.new.self.names number (w.number-is ∙ w.in_ok-number-in-None.ensures.number) w.in_ok-number-in-None.ensures.entered in (
            subst (λ xs. HaveEntered before c.match-found_number.self.names xs (take (k + 1) components)) (sym pushed)
                (subst (λ (g : Graph). HaveEntered before g.names (numbers ++ number ∷ []) (take (k + 1) components)) (sym w.self-is) step),
            ap (λ (g : Graph). g.components) w.self-is ∙ w.enter.ensures.components ∙ c.loop-name.invariant.1,
            ap components_under w.self-is ∙ w.in_ok-number-in-None.ensures.under ∙ c.loop-name.invariant.2,
          )
    ]

pub returns-in_err-number-in-None-clause-names : goal.returns-in_err-number-in-None-clause-names
returns-in_err-number-in-None-clause-names c =
    subst (λ (g : Graph). BeginsWith c.args.self.now.names g.names) (sym c.in_err-number-in-None.ensures.err)
    (entered-begins c.args.self.now.names c.loop-name.self.names c.loop-name.numbers.items (take c.loop-name.name-index c.args.components.now) c.loop-name.invariant.0)

pub returns-in_err-number-in-None-clause-components : goal.returns-in_err-number-in-None-clause-components
returns-in_err-number-in-None-clause-components c = ap (λ (g : Graph). g.components) c.in_err-number-in-None.ensures.err ∙ c.loop-name.invariant.1

pub returns-in_err-push-clause-names : goal.returns-in_err-push-clause-names
returns-in_err-push-clause-names c =
    let before = c.args.self.now.names in
    let now = c.loop-name.self.names in
    let begins = entered-begins before now c.loop-name.numbers.items (take c.loop-name.name-index c.args.components.now) c.loop-name.invariant.0 in
    elim c.match-found_number.branch [
      | in-Some w ↦ subst (λ (g : Graph). BeginsWith before g.names) (sym w.self-is) begins
      | in-None+in_ok-number-in-None w ↦
          subst (λ (g : Graph). BeginsWith before g.names) (sym w.self-is)
          (begins-trans before now w.enter.new.self.names begins
          (subst (BeginsWith now) (sym w.in_ok-number-in-None.ensures.entered) (begins-key now c.loop-name-item.result.0)))
    ]

pub returns-clause-names : goal.returns-clause-names
returns-clause-names c =
    entered-begins c.args.self.now.names c.loop-name.self.names c.loop-name.numbers.items (take c.loop-name.name-index c.args.components.now) c.loop-name.invariant.0
