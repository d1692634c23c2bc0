use Rattle.std.proofs.Common.{◌≡◌, ◌++◌, [], ◌∷◌, List, Some, length, set, slice_get, refl, sym, ap, ◌∙◌, arith}
use Rattle.std.proofs.lemmas.Option.{slice_get-get_or}
use Rattle.std.specs.Vec.{with_item}
use Rattle.scr_partial_sums.specs.declared.cell.Kept.TheVariants as kept
use Rattle.scr_partial_sums.specs.declared.figure.Figure.{Figure}
use Rattle.scr_partial_sums.proofs.Tables.{kept-here, kept-last, number-low, shown-apart, shown-here, shown-last}
use Rattle.scr_partial_sums.proofs.figures.Figures.set.Goals as goal

pub invariant_of-self-in-Some : goal.invariant_of-self-in-Some
invariant_of-self-in-Some c =
    let at : slice_get c.self.inside.cells.items c.args.number ≡ Some (kept.Here c.in-Here.field-0) =
    slice_get-get_or c.self.inside.cells.items c.args.number c.index.result.now
    (number-low c.self.inside c.args.self.now c.args.number c.self.view_is c.requires)
    ∙ ap Some (sym c.index.ensures ∙ sym c.kept.ensures ∙ c.in-Here.is) in
    kept-here c.self.inside (record { cells = with_item c.self.inside.cells c.args.number c.in-Some.cell; wide = c.self.inside.wide })
    c.args.number c.args.figure c.in-Here.field-0 at (ap (set c.self.inside.cells.items c.args.number) c.in-Some.ensures.there) refl
    (omega arith) c.self.invariant

pub returns-in-Some : goal.returns-in-Some
returns-in-Some c =
    shown-here c.self.inside (record { cells = with_item c.self.inside.cells c.args.number c.in-Some.cell; wide = c.self.inside.wide })
    c.args.number c.args.figure (ap (set c.self.inside.cells.items c.args.number) c.in-Some.ensures.there) refl
    ∙ ap (λ (fs : List Figure). set fs c.args.number c.args.figure) c.self.view_is

pub invariant_of-self-in-None : goal.invariant_of-self-in-None
invariant_of-self-in-None c =
    let at : slice_get c.self.inside.cells.items c.args.number ≡ Some (kept.Here c.in-Here.field-0) =
    slice_get-get_or c.self.inside.cells.items c.args.number c.index.result.now
    (number-low c.self.inside c.args.self.now c.args.number c.self.view_is c.requires)
    ∙ ap Some (sym c.index.ensures ∙ sym c.kept.ensures ∙ c.in-Here.is) in
    kept-last c.self.inside (record { cells = with_item c.self.inside.cells c.args.number c.apart.result; wide = c.push_reserved.new.self })
    c.args.number c.args.figure c.in-Here.field-0 at
    (ap (set c.self.inside.cells.items c.args.number)
    (c.apart.ensures ∙ ap (λ (ws : List Figure). kept.Apart (length ws)) c.as_slice-place.ensures.value))
    (c.push_reserved.ensures.items ∙ ap (λ (f : Figure). c.self.inside.wide.items ++ f ∷ []) c.new-in-None.ensures)
    (let room = c.push_reserved.ensures.capacity in omega (arith, room)) c.self.invariant

pub returns-in-None : goal.returns-in-None
returns-in-None c =
    shown-last c.self.inside (record { cells = with_item c.self.inside.cells c.args.number c.apart.result; wide = c.push_reserved.new.self })
    c.args.number c.args.figure
    (ap (set c.self.inside.cells.items c.args.number)
    (c.apart.ensures ∙ ap (λ (ws : List Figure). kept.Apart (length ws)) c.as_slice-place.ensures.value))
    (c.push_reserved.ensures.items ∙ ap (λ (f : Figure). c.self.inside.wide.items ++ f ∷ []) c.new-in-None.ensures) c.self.invariant
    ∙ ap (λ (fs : List Figure). set fs c.args.number c.args.figure) c.self.view_is

pub returns-in-Apart : goal.returns-in-Apart
returns-in-Apart c =
    let at : slice_get c.self.inside.cells.items c.args.number ≡ Some (kept.Apart c.in-Apart.place) =
    slice_get-get_or c.self.inside.cells.items c.args.number c.index.result.now
    (number-low c.self.inside c.args.self.now c.args.number c.self.view_is c.requires)
    ∙ ap Some (sym c.index.ensures ∙ sym c.kept.ensures ∙ c.in-Apart.is) in
    shown-apart c.self.inside (record { cells = c.self.inside.cells; wide = with_item c.self.inside.wide c.in-Apart.place c.new.result })
    c.args.number c.args.figure c.in-Apart.place at refl (ap (set c.self.inside.wide.items c.in-Apart.place) c.new.ensures) c.self.invariant
    ∙ ap (λ (fs : List Figure). set fs c.args.number c.args.figure) c.self.view_is
