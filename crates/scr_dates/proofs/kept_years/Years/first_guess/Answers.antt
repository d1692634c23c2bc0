use Rattle.std.proofs.Common.{◌≡◌, ◌+◌, ◌-◌, ℤ, pos, ◌<ℤ◌, arith, subst, sym, get_or, rules, w32, FitsSigned, to_z-of_z}
use Rattle.std.proofs.lemmas.Int.{ints}
use Rattle.scr_dates.specs.Years.{anniversary}
use Rattle.scr_dates.specs.Kept.{IsKept}
use Rattle.scr_dates.proofs.Found.{first-day, before-is}
use Rattle.scr_dates.proofs.kept_years.Years.first_guess.Goals as goal

pub returns-then-self-years-clause-before : goal.returns-then-self-years-clause-before
returns-then-self-years-clause-before c =
    let kept : IsKept c.args.self.now c.self.inside.days = subst (λ z. IsKept z c.self.inside.days) c.self.view_is c.self.invariant in
    let pay : FitsSigned w32 c.args.pay.number = omega (arith, ints, c.requires.pay_in) in
    let day : FitsSigned w32 (get_or c.self.inside.days c.min-years.result (pos 0)) = search rules in
    let same : c.min-years.result + 1 - 1 ≡ c.min-years.result = omega arith in
    rw same (before-is c.args.self.now c.args.pay.number c.self.inside.days c.min-years.result (pos 0) kept (omega arith) (simp to_z-of_z at c.if-self-years.true))

pub returns-else-self-years-clause-before : goal.returns-else-self-years-clause-before
returns-else-self-years-clause-before c =
    let kept : IsKept c.args.self.now c.self.inside.days = subst (λ z. IsKept z c.self.inside.days) c.self.view_is c.self.invariant in
    subst (λ z. z <ℤ c.args.pay.number) (sym (first-day c.args.self.now kept.asof_in)) c.requires.ahead
