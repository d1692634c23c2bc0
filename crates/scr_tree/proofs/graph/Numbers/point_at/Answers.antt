use Rattle.std.proofs.Common.{refl, subst, sym}
use Rattle.scr_sheet.specs.declared.sheet.BalanceSheet.{BalanceSheet}
use Rattle.scr_figure_ids.specs.Numbers.{StandsAt}
use Rattle.scr_tree.proofs.BlocksAt.{not-block, not-figure, unplaced}
use Rattle.scr_tree.proofs.graph.Numbers.point_at.Goals as goal

pub returns-in_err-place-clause-absent : goal.returns-in_err-place-clause-absent
returns-in_err-place-clause-absent c = λ none point at live.
    unplaced c.args.self.now.book.now c.args.self.now.places.now c.args.self.now.lists.now c.requires c.args.number
    (c.in_err-place.ensures.absent refl) point at

pub returns-in_err-block_at-in-Part-clause-absent : goal.returns-in_err-block_at-in-Part-clause-absent
returns-in_err-block_at-in-Part-clause-absent c = λ none point at live.
    let place = c.in_ok-place.place in
    not-block c.args.self.now.book.now c.args.self.now.places.now c.args.self.now.lists.now c.requires c.args.number
    c.len-numbers.ensures.apart place.table place.row place.family c.in_ok-place.ensures.there c.in-Part.is
    (λ block there lives. c.in_err-block_at-in-Part.ensures.absent refl block there lives) point at live

pub returns-in_err-node_at-in_default-clause-absent : goal.returns-in_err-node_at-in_default-clause-absent
returns-in_err-node_at-in_default-clause-absent c = λ none point at live.
    let place = c.in_ok-place.place in
    not-figure c.args.self.now.book.now c.args.self.now.places.now c.args.self.now.lists.now c.requires c.args.number
    c.len-numbers.ensures.apart place.table place.row place.family c.in_ok-place.ensures.there c.in_default.not-Part
    (λ node there. c.in_err-node_at-in_default.ensures.absent refl node
    (subst (λ (sheet : BalanceSheet). StandsAt sheet c.args.self.now.places.now node c.args.number) (sym c.sheet.ensures.sheet) there)) point at
