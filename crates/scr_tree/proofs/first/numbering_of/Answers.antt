use Rattle.std.proofs.Common.{subst}
use Rattle.scr_figure_ids.specs.Numbers.{IsNumbered}
use Rattle.scr_figure_ids.proofs.Standing.{parts-numbered}
use Rattle.scr_tree.proofs.PointNumbers.{have-ranges}
use Rattle.scr_tree.proofs.first.numbering_of.Goals as goal

pub lists_of-requires : goal.lists_of-requires
lists_of-requires c =
    have-ranges c.args.book.now.sheet c.in_ok-places.places
    (subst (λ s. IsNumbered s c.in_ok-places.places) c.sheet.ensures.sheet c.in_ok-places.ensures)

pub returns : goal.returns
returns c = record {
  rows = parts-numbered c.args.book.now.sheet c.in_ok-places.places c.lists_of.new.places c.lists_of.ensures.more.others
      (subst (λ s. IsNumbered s c.in_ok-places.places) c.sheet.ensures.sheet c.in_ok-places.ensures);
  lists = c.in_ok-lists.ensures.ok;
}
