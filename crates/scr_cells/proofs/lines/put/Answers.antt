use Rattle.std.proofs.Common.{◌≡◌, ◌∙◌, ◌+◌, ◌<◌, ◌++◌, ◌∷◌, ℕ, suc, ap, drop, length, take, arith}
use Rattle.std.proofs.lemmas.List.{set_split}
use Rattle.scr_cells.proofs.lines.put.Goals as goal

pub returns-else-place-len : goal.returns-else-place-len
returns-else-place-len c =
    let lines = c.args.lines.now.items in
    let within : c.args.place < length lines =
    (let before = c.requires in let other = c.if-place-len.false in let len = c.len.ensures in omega (arith, before, other, len)) in
    let next : suc c.args.place ≡ c.args.place + 1 = omega arith in
    set_split lines c.args.place c.args.line within
    ∙ ap (λ (n : ℕ). take c.args.place lines ++ c.args.line ∷ drop n lines) next
