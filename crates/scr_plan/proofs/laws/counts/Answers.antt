use Rattle.scr_plan.specs.Ways.{IsBlockReached, IsFigureReached, IsPointReached}
use Rattle.scr_plan.proofs.Counted.{counted-both, same-count}
use Rattle.scr_plan.proofs.FromSheet.{figure-reached}
use Rattle.scr_plan.proofs.Under.{under-reached}
use Rattle.scr_plan.proofs.laws.counts.Goals as goal

pub returns : goal.returns
returns c = record {
  together = λ factors edit book kept figures blocks one two.
      counted-both (IsFigureReached factors book.sheet edit) (IsBlockReached factors book edit) (IsPointReached factors book edit)
      (figure-reached factors edit book kept) (under-reached factors edit book kept) figures blocks one two;
  one_of_points = λ factors edit book count other one two. same-count (IsPointReached factors book edit) count other one two;
  one_of_figures = λ factors edit sheet count other one two. same-count (IsFigureReached factors sheet edit) count other one two;
}
