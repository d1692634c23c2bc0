use Rattle.std.proofs.Common.{◌∙◌, ap, ap₂, map}
use Rattle.std.proofs.lemmas.Result.{IfOk-weaker}
use Rattle.clap.specs.Words.{with_rule}
use Rattle.scr_explain.specs.Command.{apart_from}
use Rattle.scr_explain.proofs.Options.{apart_more}
use Rattle.scr_explain.proofs.command.command.Goals as goal

pub returns-clause-options : goal.returns-clause-options
returns-clause-options c =
    let one = c.in_ok-arg.ensures.shape c.needed.ensures.local ∙ ap₂ with_rule c.bare.ensures.app c.needed.ensures.rule in
    let two = c.in_ok-arg-2.ensures.shape c.needed-2.ensures.local ∙ ap₂ with_rule one c.needed-2.ensures.rule in
    let three = c.in_ok-arg-3.ensures.shape c.in_ok-cell.ensures.local ∙ ap₂ with_rule two c.in_ok-cell.ensures.rule in
    let four = c.in_ok-arg-4.ensures.shape c.number.ensures.local ∙ ap₂ with_rule three c.number.ensures.rule in
    let five = c.in_ok-arg-5.ensures.shape c.number-2.ensures.local ∙ ap₂ with_rule four c.number-2.ensures.rule in
    let six = c.in_ok-arg-6.ensures.shape c.in_ok-record.ensures.local ∙ ap₂ with_rule five c.in_ok-record.ensures.rule in
    IfOk-weaker c.arg-7.result _ _ (λ command adds. adds.shape c.text.ensures.local ∙ ap₂ with_rule six c.text.ensures.rule) c.arg-7.ensures

pub returns-clause-apart : goal.returns-clause-apart
returns-clause-apart c =
    let none = ap (map apart_from) c.bare.ensures.args in
    let one = apart_more _ _ _ _ _ none (ap (map (λ name. name.now)) c.needed.ensures.apart) c.in_ok-arg.ensures in
    let two = apart_more _ _ _ _ _ one (ap (map (λ name. name.now)) c.needed-2.ensures.apart) c.in_ok-arg-2.ensures in
    let three = apart_more _ _ _ _ _ two c.in_ok-cell.ensures.apart c.in_ok-arg-3.ensures in
    let four = apart_more _ _ _ _ _ three (ap (map (λ name. name.now)) c.number.ensures.apart) c.in_ok-arg-4.ensures in
    let five = apart_more _ _ _ _ _ four (ap (map (λ name. name.now)) c.number-2.ensures.apart) c.in_ok-arg-5.ensures in
    let six = apart_more _ _ _ _ _ five c.in_ok-record.ensures.apart c.in_ok-arg-6.ensures in
    IfOk-weaker c.arg-7.result _ _ (λ command adds. apart_more _ _ _ _ _ six (ap (map (λ name. name.now)) c.text.ensures.apart) adds) c.arg-7.ensures
