use Rattle.std.proofs.Common.{ap, refl, sym, ◌∙◌}
use Rattle.scr_block_graph.specs.Levels.{level_in}
use Rattle.scr_block_graph.specs.declared.point.Point.TheVariants as points
use Rattle.scr_tree.specs.Marking.{is_of_squares}
use Rattle.scr_tree.proofs.BlocksAt.{level-told, not-block, squares-told}
use Rattle.scr_tree.proofs.graph.Numbers.level_at.Goals as goal

pub returns-in-Some-clause-level : goal.returns-in-Some-clause-level
returns-in-Some-clause-level c = λ point at live.
    c.block_level.ensures
    ∙ ap level_in (sym (c.requires.numbers.numbers.exact c.args.number point (points.Block c.in-Some.block) at c.in-Some.ensures.there))

pub returns-in-Some-clause-squares : goal.returns-in-Some-clause-squares
returns-in-Some-clause-squares c = λ point at live.
    c.is_squares.ensures
    ∙ ap is_of_squares (sym (c.requires.numbers.numbers.exact c.args.number point (points.Block c.in-Some.block) at c.in-Some.ensures.there))

pub returns-in-None-clause-level : goal.returns-in-None-clause-level
returns-in-None-clause-level c = λ point at live.
    let place = c.args.place.now in
    absurd (not-block c.args.self.now.book.now c.args.self.now.places.now c.args.self.now.lists.now c.requires.numbers c.args.number
    c.len-numbers.ensures.apart place.table place.row place.family c.requires.at c.in-Part.is
    (λ block there lives. c.in-None.ensures.absent refl block there lives) point at live)

pub returns-in-None-clause-squares : goal.returns-in-None-clause-squares
returns-in-None-clause-squares c = λ point at live.
    let place = c.args.place.now in
    absurd (not-block c.args.self.now.book.now c.args.self.now.places.now c.args.self.now.lists.now c.requires.numbers c.args.number
    c.len-numbers.ensures.apart place.table place.row place.family c.requires.at c.in-Part.is
    (λ block there lives. c.in-None.ensures.absent refl block there lives) point at live)

pub returns-in_default-clause-level : goal.returns-in_default-clause-level
returns-in_default-clause-level c = λ point at live.
    let place = c.args.place.now in
    level-told c.args.self.now.book.now c.args.self.now.places.now c.args.self.now.lists.now c.requires.numbers c.args.number
    c.len-numbers.ensures.apart place.table place.row place.family c.requires.at c.in_default.not-Part c.level.result c.level.ensures.level point at

pub returns-in_default-clause-squares : goal.returns-in_default-clause-squares
returns-in_default-clause-squares c = λ point at live.
    let place = c.args.place.now in
    squares-told c.args.self.now.book.now c.args.self.now.places.now c.args.self.now.lists.now c.requires.numbers c.args.number
    c.len-numbers.ensures.apart place.table place.row place.family c.requires.at c.in_default.not-Part c.is_square.result c.is_square.ensures point at
