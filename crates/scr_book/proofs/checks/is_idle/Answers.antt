use Rattle.std.proofs.Common.{◌≡◌, None, inl, inr, sym, subst, ◌∙◌, arith}
use Rattle.scr_sheet.specs.Users.{user_of}
use Rattle.scr_sheet.specs.declared.keys.Table.{Table}
use Rattle.scr_book.specs.RolledSheets.{RolledSheet}
use Rattle.scr_book.specs.Users.{AreUsersOf}
use Rattle.scr_book.proofs.Tallies.{unused-group, unused-holding, unused-currency}
use Rattle.scr_book.proofs.checks.is_idle.Goals as goal

pub returns-in-Group : goal.returns-in-Group
returns-in-Group c idle =
    let are = subst (λ (b : RolledSheet). AreUsersOf b.sheet c.book.inside.users) c.book.view_is c.book.invariant.users in
    subst (λ (t : Table). user_of t c.args.name.now c.args.book.now.sheet ≡ None) (sym c.in-Group.is) (unused-group c.args.name.now c.args.book.now.sheet c.book.inside.users are (c.is_unused.ensures.0 idle))

pub returns-then-is_unused : goal.returns-then-is_unused
returns-then-is_unused c zero =
    let are = subst (λ (b : RolledSheet). AreUsersOf b.sheet c.book.inside.users) c.book.view_is c.book.invariant.users in
    let none : c.held.result ≡ 0 = grind (arith, zero) in
    let idle = unused-holding c.args.name.now c.args.book.now.sheet c.book.inside.users are (c.is_unused-in-Security.ensures.0 c.if-is_unused.true) (sym c.held.ensures ∙ none) in
    elim c.in-Security.is as (λ _. user_of c.args.table c.args.name.now c.args.book.now.sheet ≡ None) [
      | inl e ↦ subst (λ (t : Table). user_of t c.args.name.now c.args.book.now.sheet ≡ None) (sym e) idle
      | inr e ↦ subst (λ (t : Table). user_of t c.args.name.now c.args.book.now.sheet ≡ None) (sym e) idle
    ]

pub returns-then-is_unused-2 : goal.returns-then-is_unused-2
returns-then-is_unused-2 c idle =
    let are = subst (λ (b : RolledSheet). AreUsersOf b.sheet c.book.inside.users) c.book.view_is c.book.invariant.users in
    subst (λ (t : Table). user_of t c.args.name.now c.args.book.now.sheet ≡ None) (sym c.in-Curve.is)
    (unused-currency c.args.name.now c.args.book.now.sheet c.book.inside.users are (c.is_unused-in-Curve.ensures.0 c.if-is_unused-2.true) (c.is_curve_idle.ensures.reporting idle) (c.is_curve_idle.ensures.absorbing idle))
