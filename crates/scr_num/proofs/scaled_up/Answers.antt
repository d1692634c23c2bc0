use Rattle.std.proofs.Common.{◌≡◌, ◌*◌, unsigned_abs, ap, ◌∙◌, arith, rules}
use Rattle.std.specs.Int.{div_ceil}
use Rattle.std.proofs.lemmas.Int.{ints}
use Rattle.scr_num.proofs.Quotients.{ceil_div-positive, div_ceil-le}
use Rattle.scr_num.proofs.scaled_up.Goals as goal

pub returns-else-v-lt0-clause-value : goal.returns-else-v-lt0-clause-value
returns-else-v-lt0-clause-value c =
    let v = c.args.v in
    let size : c.unsigned_abs.result ≡ unsigned_abs v = search rules in
    let whole : c.div_ceil.result ≡ div_ceil (unsigned_abs v * c.args.num) c.args.den =
    c.div_ceil.ensures ∙ ap (λ x. div_ceil (x * c.args.num) c.args.den) size in
    let value = ceil_div-positive v c.args.num c.args.den c.div_ceil.result
    (omega (arith, ints)) c.requires.positive whole in
    omega (arith, ints, value, div_ceil-le (unsigned_abs v * c.args.num) c.args.den c.requires.positive)
