-- What is told is a name.
use Rattle.std.proofs.Common.{◌≤◌, length, sym, ◌∙◌, arith}
use Rattle.scr_tables.proofs.Leading.{is_told}
use Rattle.scr_tables.proofs.name.Name.parse.Goals as goal

pub returns-then-count-text-clause-formed : goal.returns-then-count-text-clause-formed
returns-then-count-text-clause-formed c =
    let few : length c.args.text.now ≤ 32 = omega (arith, c.if-text-gt-MAX_LEN.false) in
    is_told c.args.text.now c.of_front-name.result.0 c.of_front-name.result.1
    (sym c.begins_name.ensures ∙ c.if-not-begins_name.false) few c.of_front-name.ensures.name
    c.of_front-name.ensures.count c.if-count-text.true
