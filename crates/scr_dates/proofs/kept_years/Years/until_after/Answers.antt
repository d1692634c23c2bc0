use Rattle.std.proofs.Common.{◌≡◌, ◌+◌, ◌-◌, ◌<◌, pos, ◌<ℤ◌, arith, subst, get_or, rules, w32, FitsSigned, to_z-of_z}
use Rattle.std.proofs.lemmas.Int.{ints}
use Rattle.scr_dates.specs.Years.{anniversary}
use Rattle.scr_dates.specs.Kept.{IsKept}
use Rattle.scr_dates.proofs.Found.{after-first, before-is, until-first}
use Rattle.scr_dates.proofs.kept_years.Years.until_after.Goals as goal

pub returns-then-pay-self-clause-value : goal.returns-then-pay-self-clause-value
returns-then-pay-self-clause-value c =
    let kept : IsKept c.args.self.now c.self.inside.days = subst (λ z. IsKept z c.self.inside.days) c.self.view_is c.self.invariant in
    let pay : FitsSigned w32 c.args.pay.number = omega (arith, ints, c.requires.pay_in) in
    let few : c.args.last < 100 = omega (arith, c.if-last-lt100.true) in
    let day : FitsSigned w32 (get_or c.self.inside.days c.args.last (pos 0)) = search rules in
    let next : FitsSigned w32 (get_or c.self.inside.days (c.args.last + 1) (pos 0)) = search rules in
    let same : c.args.last + 1 - 1 ≡ c.args.last = omega arith in
    let before : anniversary c.args.self.now c.args.last <ℤ c.args.pay.number =
    before-is c.args.self.now c.args.pay.number c.self.inside.days c.args.last (pos 0) kept (omega (arith, few)) (simp to_z-of_z at c.if-self-last.true) in
    let ahead = after-first c.args.self.now c.args.pay.number c.args.last kept.asof_in few before in
    until-first c.args.self.now c.args.pay.number c.self.inside.days (c.args.last + 1) (pos 0) kept ahead (omega (arith, few)) (omega arith) (rw same before) (simp to_z-of_z at c.if-pay-self.true)
