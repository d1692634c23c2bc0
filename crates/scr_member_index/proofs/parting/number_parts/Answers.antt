use Rattle.std.proofs.Common.{subst, sym, arith}
use Rattle.scr_member_index.specs.Parting.{HasMoreParts}
use Rattle.scr_member_index.proofs.Made.{no-more, one-more}
use Rattle.scr_member_index.proofs.parting.number_parts.Goals as goal

pub loop-init : goal.loop-init
loop-init c = record { more = no-more c.args.places.now; count = omega arith }

pub loop-preserved : goal.loop-preserved
loop-preserved c = record {
  more = one-more c.args.places.now c.loop.places c.come.new.self c.loop.invariant.more c.in_ok-come.ensures.ok;
  count = (let more = c.in_ok-come.ensures.ok.one_more in let was = c.loop.invariant.count in omega (arith, more, was));
}

pub returns-in_err-come-clause-more : goal.returns-in_err-come-clause-more
returns-in_err-come-clause-more c = subst (HasMoreParts c.args.places.now) (sym c.in_err-come.ensures.err) c.loop.invariant.more
