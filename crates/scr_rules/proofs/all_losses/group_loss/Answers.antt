use Rattle.std.proofs.Common.{pos, ap, ◌∙◌}
use Rattle.std.specs.Option.{option_map}
use Rattle.scr_num.specs.Rounding.{exact_ends}
use Rattle.scr_sheet.specs.BalanceSheet.{group_name}
use Rattle.scr_rules.proofs.GroupSums.{loss-is, losses-count}
use Rattle.scr_rules.proofs.all_losses.group_loss.Goals as goal

pub at-requires : goal.at-requires
at-requires c = losses-count c.args.book.now.sheet c.args.losses.now c.args.place c.requires.losses c.requires.place

pub returns : goal.returns
returns c = λ factors group is.
    c.grains.ensures
    ∙ ap (λ n. exact_ends (pos n)) (loss-is c.args.book.now.sheet c.args.losses.now c.args.place c.at.result group.name c.requires.losses (ap (option_map group_name) is) c.at.ensures)
