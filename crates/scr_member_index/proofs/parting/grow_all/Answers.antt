use Rattle.std.proofs.Common.{ℕ, List, length, subst, arith}
use Rattle.scr_member_index.specs.Lists.{list_in}
use Rattle.scr_member_index.specs.Parting.{IsGrown}
use Rattle.scr_member_index.proofs.Counting.{grown-all, grown-more, none-grown}
use Rattle.scr_member_index.proofs.parting.grow_all.Goals as goal

pub loop-number-init : goal.loop-number-init
loop-number-init c = none-grown c.args.table c.args.firsts.now c.args.parts.now

pub loop-number-preserved : goal.loop-number-preserved
loop-number-preserved c =
    grown-more c.args.table c.args.firsts.now c.loop-number.number c.args.parts.now c.loop-number.parts c.grow.new.parts c.loop-number.invariant
    (subst (λ (numbers : List ℕ). IsGrown (list_in c.args.table c.loop-number.number) (length numbers) c.loop-number.parts c.grow.new.parts)
    c.list.ensures c.in_ok-grow.ensures.ok)
    c.grow.ensures.others

pub returns : goal.returns
returns c =
    grown-all c.args.table c.args.firsts.now c.loop-number.number c.args.parts.now c.loop-number.parts
    (omega (arith, c.loop-number-test.false, c.len-count.ensures)) c.loop-number.invariant
