use Rattle.std.proofs.Common.{◌++◌, [], ◌∷◌, length, ap, ◌∙◌, arith}
use Rattle.scr_partial_sums.specs.declared.cell.Kept.{Kept}
use Rattle.scr_partial_sums.proofs.Tables.{kept-more}
use Rattle.scr_partial_sums.proofs.figures.Figures.push.Goals as goal

pub invariant_of-self-2 : goal.invariant_of-self-2
invariant_of-self-2 c =
    kept-more c.self.inside (record { cells = c.push.new.self; wide = c.reserve.new.self })
    (c.in_ok-push.ensures.items ∙ ap (λ (cell : Kept). c.self.inside.cells.items ++ cell ∷ []) c.nothing.ensures)
    c.in_ok-reserve.ensures.items
    (let room = c.in_ok-reserve.ensures.ok in let long = ap length c.as_slice.ensures.value in let same = c.in_ok-reserve.ensures.len in
    omega (arith, room, long, same, c.self.inside.wide.ok.0)) c.self.invariant
