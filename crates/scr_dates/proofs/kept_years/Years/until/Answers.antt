use Rattle.std.proofs.Common.{◌≡◌, ◌+◌, ◌-◌, ◌≤◌, ℤ, pos, ◌<ℤ◌, ◌≤ℤ◌, arith, subst, sym, get_or, rules, w32, FitsSigned, to_z-of_z}
use Rattle.std.proofs.lemmas.Int.{ints}
use Rattle.scr_dates.specs.Years.{anniversary}
use Rattle.scr_dates.specs.Kept.{IsKept}
use Rattle.scr_dates.proofs.Found.{le-true, le-false, past-years, far-years, too-far, until-first, reached-is}
use Rattle.scr_dates.proofs.kept_years.Years.until.Goals as goal

pub returns-then-pay-self-clause-value : goal.returns-then-pay-self-clause-value
returns-then-pay-self-clause-value c =
    let pay : FitsSigned w32 c.args.pay.number = omega (arith, ints, c.requires.pay_in) in
    let asof : FitsSigned w32 c.self.inside.asof.number = search rules in
    let past = le-true c.args.pay.number c.self.inside.asof.number (simp to_z-of_z at c.if-pay-self.true) in
    sym (past-years c.args.self.now c.args.pay.number (subst (λ z. c.args.pay.number ≤ℤ z) c.self.view_is past))

pub first_guess-n-requires-clause-ahead : goal.first_guess-n-requires-clause-ahead
first_guess-n-requires-clause-ahead c =
    let pay : FitsSigned w32 c.args.pay.number = omega (arith, ints, c.requires.pay_in) in
    let asof : FitsSigned w32 c.self.inside.asof.number = search rules in
    subst (λ z. z <ℤ c.args.pay.number) c.self.view_is (le-false c.args.pay.number c.self.inside.asof.number (simp to_z-of_z at c.if-pay-self.false))

pub returns-then-pay-self-2-clause-value : goal.returns-then-pay-self-2-clause-value
returns-then-pay-self-2-clause-value c =
    let kept : IsKept c.args.self.now c.self.inside.days = subst (λ z. IsKept z c.self.inside.days) c.self.view_is c.self.invariant in
    let pay : FitsSigned w32 c.args.pay.number = omega (arith, ints, c.requires.pay_in) in
    let asof : FitsSigned w32 c.self.inside.asof.number = search rules in
    let day : FitsSigned w32 (get_or c.self.inside.days c.loop-n.n (pos 0)) = search rules in
    let ahead = subst (λ z. z <ℤ c.args.pay.number) c.self.view_is (le-false c.args.pay.number c.self.inside.asof.number (simp to_z-of_z at c.if-pay-self.false)) in
    until-first c.args.self.now c.args.pay.number c.self.inside.days c.loop-n.n (pos 0) kept ahead c.loop-n-test.true c.loop-n.invariant.0 c.loop-n.invariant.1 (simp to_z-of_z at c.if-pay-self-2.true)

pub loop-n-preserved : goal.loop-n-preserved
loop-n-preserved c =
    let kept : IsKept c.args.self.now c.self.inside.days = subst (λ z. IsKept z c.self.inside.days) c.self.view_is c.self.invariant in
    let pay : FitsSigned w32 c.args.pay.number = omega (arith, ints, c.requires.pay_in) in
    let day : FitsSigned w32 (get_or c.self.inside.days c.loop-n.n (pos 0)) = search rules in
    let same : c.loop-n.n + 1 - 1 ≡ c.loop-n.n = omega arith in
    (omega arith, rw same (reached-is c.args.self.now c.args.pay.number c.self.inside.days c.loop-n.n (pos 0) kept c.loop-n-test.true (simp to_z-of_z at c.if-pay-self-2.false)))

pub unreachable-requires : goal.unreachable-requires
unreachable-requires c =
    let kept : IsKept c.args.self.now c.self.inside.days = subst (λ z. IsKept z c.self.inside.days) c.self.view_is c.self.invariant in
    let pay : FitsSigned w32 c.args.pay.number = omega (arith, ints, c.requires.pay_in) in
    let asof : FitsSigned w32 c.self.inside.asof.number = search rules in
    let ahead = subst (λ z. z <ℤ c.args.pay.number) c.self.view_is (le-false c.args.pay.number c.self.inside.asof.number (simp to_z-of_z at c.if-pay-self.false)) in
    let few = c.loop-n.auto.n-end (omega (arith, c.first_guess-n.ensures.most)) in
    let end : c.loop-n.n - 1 ≡ 100 = omega (arith, few, c.loop-n-test.false) in
    let last = subst (λ n. anniversary c.args.self.now n <ℤ c.args.pay.number) end c.loop-n.invariant.1 in
    c.requires.near _ (far-years c.args.self.now c.args.pay.number ahead (too-far c.args.self.now c.args.pay.number kept.asof_in ahead last))
