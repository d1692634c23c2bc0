use Rattle.std.proofs.Common.{nat_eq, ap, sym, ◌∙◌}
use Rattle.scr_tree.proofs.SquareTurns.{square-family, square-off}
use Rattle.scr_tree.proofs.graph.is_square.Goals as goal

pub returns-in-Group : goal.returns-in-Group
returns-in-Group c = λ node table family.
    let own = c.args.place.now.family in
    ap (λ n. nat_eq own n) c.group_family.ensures ∙ sym (square-family node own (table ∙ c.in-Group.is) family)

pub returns-in_default : goal.returns-in_default
returns-in_default c = λ node table family. sym (square-off node (λ e. c.in_default.not-Group (sym table ∙ e)))
