use Rattle.std.proofs.Common.{◌≤◌, length, map, sym, ap, ◌∙◌, arith, rules}
use Rattle.std.proofs.lemmas.List.{take_all}
use Rattle.scr_fund_graph.specs.Graph.{number_in, known_among}
use Rattle.scr_fund_graph.proofs.Known.{next-known, next-unknown}
use Rattle.scr_fund_graph.proofs.graph.FundGraph.numbers.Goals as goal
use Rattle.scr_fund_graph.proofs.graph.FundGraph.numbers.Goals.{in-Some+in_ok-push, in_default}

pub loop-name-preserved : goal.loop-name-preserved
loop-name-preserved c =
    let item = c.loop-name-item.result in
    let within = c.loop-name-test.true in
    let is = c.loop-name-item.is in
    elim c.match-known_number.branch [
      | in-Some+in_ok-push w ↦
          let after = next-known c.args.self.now c.args.fund.now c.args.components.now c.loop-name.name-index item within is c.loop-name.numbers.items c.loop-name.invariant w.in-Some.number (sym w.in-Some.is ∙ c.known_number.ensures) in
          ap (λ v. v.items) w.numbers-is ∙ w.in_ok-push.ensures.items ∙ after
      | in_default w ↦
          let after = next-unknown c.args.self.now c.args.fund.now c.args.components.now c.loop-name.name-index item within is c.loop-name.numbers.items c.loop-name.invariant (sym w.in_default.is ∙ c.known_number.ensures) in
          ap (λ v. v.items) w.numbers-is ∙ after
    ]

pub returns : goal.returns
returns c =
    let end = c.loop-name-test.false in
    let long : length c.args.components.now ≤ c.loop-name.name-index = omega (arith, end) in
    c.loop-name.invariant
    ∙ ap (λ xs. map (λ x. number_in c.args.self.now.names x.0) (known_among c.args.fund.now xs c.args.self.now)) (take_all c.loop-name.name-index c.args.components.now long)
