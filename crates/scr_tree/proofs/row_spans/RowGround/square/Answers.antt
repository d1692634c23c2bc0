use Rattle.std.proofs.Common.{◌≡◌, [], ◌∷◌, Some, slice_get, sym, ap₂, subst}
use Rattle.scr_num.specs.Rounding.{Ends, ends}
use Rattle.scr_sheet.specs.declared.sheet.BalanceSheet.{BalanceSheet}
use Rattle.scr_nodes.specs.OwnOf.{own_of}
use Rattle.scr_nodes.specs.Sources.{concentration_square}
use Rattle.scr_rules.specs.Fits.{Fits}
use Rattle.scr_rules.specs.Worked.{worked}
use Rattle.scr_rules.proofs.Ranges.{node-fits}
use Rattle.scr_tree.proofs.FirstRows.{group-live}
use Rattle.scr_tree.proofs.GroupSums.{one-row}
use Rattle.scr_tree.proofs.RowsMade.{discounts-are, rows-are}
use Rattle.scr_tree.proofs.row_spans.RowGround.square.Goals as goal

pub evaluate_by-requires-clause-rows : goal.evaluate_by-requires-clause-rows
evaluate_by-requires-clause-rows g c = discounts-are c.args.self.now.ground c.requires.ground.ground

pub evaluate_by-requires-clause-fits : goal.evaluate_by-requires-clause-fits
evaluate_by-requires-clause-fits g c =
    let ground = c.args.self.now.ground in
    let factors = ground.inputs.factors.now in
    let sheet = ground.inputs.book.now.sheet in
    let at = subst (λ (s : BalanceSheet). slice_get s.groups c.args.k ≡ Some c.at.result.now) c.sheet.ensures.sheet c.at.ensures in
    subst (Fits (own_of factors sheet (concentration_square c.at.result.now)))
    (sym (ap₂ (λ (x : Ends) (y : Ends). x ∷ y ∷ []) c.requires.ground.assets (c.requires.total c.at.result.now at)))
    (node-fits factors c.requires.ground.ground.form sheet c.requires.ground.ground.valid (concentration_square c.at.result.now)
    (group-live sheet c.requires.ground.ground.valid c.args.k c.at.result.now at))

pub returns : goal.returns
returns g c = λ group there.
    let ground = c.args.self.now.ground in
    let factors = ground.inputs.factors.now in
    let sheet = ground.inputs.book.now.sheet in
    let at = subst (λ (s : BalanceSheet). slice_get s.groups c.args.k ≡ Some c.at.result.now) c.sheet.ensures.sheet c.at.ensures in
    let same = one-row sheet.groups c.args.k c.at.result.now group at there in
    subst (λ h. ends c.evaluate_by.result ≡ worked factors sheet (concentration_square h)) same
    (c.evaluate_by.ensures.worked (rows-are ground c.requires.ground.ground)
    (ap₂ (λ (x : Ends) (y : Ends). x ∷ y ∷ []) c.requires.ground.assets (c.requires.total c.at.result.now at)))
