use Rattle.std.proofs.Common.{◌++◌, [], ◌∷◌, take, map, sym, ap, ◌∙◌}
use Rattle.std.proofs.lemmas.List.{map-append}
use Rattle.scr_funds.specs.ByNumber.{weighted_rows}
use Rattle.scr_look_through.specs.ByNumber.{row_by_number}
use Rattle.scr_look_through.proofs.Walks.{map-next}
use Rattle.scr_look_through.proofs.amounts.rows.Goals as goal

pub loop-k-preserved : goal.loop-k-preserved
loop-k-preserved c =
    let sheet = c.args.sheet.now in
    ap weighted_rows c.in_ok-push.ensures.items
    ∙ map-append (λ row. row.items) c.loop-k.rows.items (c.in_ok-row.field-0 ∷ [])
    ∙ ap (λ rows. rows ++ c.in_ok-row.field-0.items ∷ []) c.loop-k.invariant
    ∙ ap (λ row. map (row_by_number sheet) (take c.loop-k.k sheet.funds) ++ row ∷ []) c.in_ok-row.ensures
    ∙ sym (map-next (row_by_number sheet) sheet.funds c.loop-k.k c.at.result.now c.at.ensures)
