use Rattle.std.proofs.Common.{◌≡◌, ◌*◌, unsigned_abs, ap, ◌∙◌, arith, rules}
use Rattle.std.specs.Int.{div_ceil}
use Rattle.std.proofs.lemmas.Int.{ints}
use Rattle.scr_num.proofs.Quotients.{floor_div-negative, floor_div-size, div_ceil-le}
use Rattle.scr_num.proofs.scaled_down.Goals as goal

pub returns-then-v-lt0-clause-value : goal.returns-then-v-lt0-clause-value
returns-then-v-lt0-clause-value c =
    let v = c.args.v in
    let size : c.unsigned_abs.result ≡ unsigned_abs v = search rules in
    let whole : c.div_ceil.result ≡ div_ceil (unsigned_abs v * c.args.num) c.args.den =
    c.div_ceil.ensures ∙ ap (λ x. div_ceil (x * c.args.num) c.args.den) size in
    let value = floor_div-negative v c.args.num c.args.den c.div_ceil.result
    (omega (arith, ints)) c.requires.positive whole in
    omega (arith, ints, value, div_ceil-le (unsigned_abs v * c.args.num) c.args.den c.requires.positive)

pub returns-then-v-lt0-clause-size : goal.returns-then-v-lt0-clause-size
returns-then-v-lt0-clause-size c =
    rw (returns-then-v-lt0-clause-value c) (floor_div-size c.args.v c.args.num c.args.den c.requires.positive)
