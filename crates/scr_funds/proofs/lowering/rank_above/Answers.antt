use Rattle.std.proofs.Common.{◌≡◌, ◌≤◌, max, All, get_or, take, subst, arith}
use Rattle.std.proofs.lemmas.List.{take_all}
use Rattle.std.proofs.lemmas.List.Elements.{All-more, All-weaker}
use Rattle.scr_funds.specs.Ranks.{rank_of}
use Rattle.scr_funds.proofs.Lowered.{above_all}
use Rattle.scr_funds.proofs.lowering.rank_above.Goals as goal

pub loop-member-preserved : goal.loop-member-preserved
loop-member-preserved c =
    let members = c.args.members.now in
    let i = c.loop-member.member-index in
    let item : c.rank_of.result ≡ rank_of c.args.ranks.now (get_or members i 0) = c.rank_of.ensures in
    let most : c.max-most.result ≡ max c.rank_of.result c.loop-member.most = c.max-most.ensures in
    All-more (λ member. rank_of c.args.ranks.now member ≤ c.max-most.result) members i 0 c.loop-member-test.true
    (All-weaker (λ member. rank_of c.args.ranks.now member ≤ c.loop-member.most)
    (λ member. rank_of c.args.ranks.now member ≤ c.max-most.result) (λ member l. omega (arith, l, most))
    (take i members) c.loop-member.invariant)
    (omega (arith, item, most))

pub returns : goal.returns
returns c =
    let members = c.args.members.now in
    above_all c.args.ranks.now members c.loop-member.most c.checked_add.result c.checked_add.ensures
    (subst (All (λ member. rank_of c.args.ranks.now member ≤ c.loop-member.most))
    (take_all c.loop-member.member-index members (omega (arith, c.loop-member-test.false))) c.loop-member.invariant)
