use Rattle.std.proofs.Common.{◌≡◌, take}
use Rattle.scr_num.specs.Rounding.{ends}
use Rattle.scr_partial_sums.specs.Figures.{members_ends}
use Rattle.scr_partial_sums.specs.Written.{any_open}
use Rattle.scr_partial_sums.proofs.Added.{AddedTo}
use Rattle.scr_partial_sums.proofs.adding.add_figures.Given as goal

-- what those so far come to, and whether one of them rests on an open choice
abbrev pub invariant-loop-first : goal.invariant-loop-first
invariant-loop-first l = record {
  added : AddedTo (members_ends l.figures l.family l.firsts) (ends l.span) l.first-index;
  close : l.close ≡ any_open l.figures l.family (take l.first-index l.firsts);
}
