use Rattle.std.proofs.Common.{◌≡◌, MatchOption, Some, None, rules, sym, ap, subst, ◌∙◌}
use Rattle.std.specs.Fn.{FnOnceReturnsAtMut}
use Rattle.std.specs.HashMap.{values}
use Rattle.std.specs.Map.{values_of}
use Rattle.scr_tables.specs.Tables.{row_of, with_row}
use Rattle.scr_tables.specs.ByName.{by_name}
use Rattle.scr_tables.proofs.Entries.{lookup-kept, change-kept}
use Rattle.scr_tables.proofs.table.Rows.change.Given as given
use Rattle.scr_tables.proofs.table.Rows.change.Goals as goal

pub returns-in_default : goal.returns-in_default
returns-in_default g c =
    let unknown : row_of g.R.Row.name_of c.args.name.now c.args.self.now ≡ None =
    sym (lookup-kept g.R.Row.name_of c.self.inside.map.entries c.args.self.now c.self.view_is c.self.invariant
    c.args.name.now) ∙ sym c.in_default.ensures.value in
    let rows : values_of c.get_mut.follows.lender-at-none.entries ≡ c.args.self.now =
    ap values c.get_mut.follows.holds-at-none ∙ c.self.view_is in
    subst (λ found. MatchOption found (values_of c.get_mut.follows.lender-at-none.entries ≡ c.args.self.now)
    (λ old. (x : g.row.R.Denot) × FnOnceReturnsAtMut {F = g.row.F.Denot} {T = g.row.R.Denot} {R = Unit {0}} g.F.FnOnce
    c.args.change old (tt {0}) x
    × (values_of c.get_mut.follows.lender-at-none.entries ≡ with_row g.R.Row.name_of x c.args.self.now)))
    (sym unknown) rows

-- what the row became
ran : (g : given.Over) (c : goal.After-self-2-1 g)
    → FnOnceReturnsAtMut {F = g.row.F.Denot} {T = g.row.R.Denot} {R = Unit {0}} g.F.FnOnce c.args.change
    c.in-Some.row.now (tt {0}) c.change.new.arg2
ran g c = search rules

found : (g : given.Over) (c : goal.After-self-2-1 g)
    → row_of g.R.Row.name_of c.args.name.now c.args.self.now ≡ Some c.in-Some.row.now
found g c =
    sym (lookup-kept g.R.Row.name_of c.self.inside.map.entries c.args.self.now c.self.view_is c.self.invariant
    c.args.name.now) ∙ sym c.in-Some.ensures.value

kept : (g : given.Over) (c : goal.After-self-2-1 g)
    → let after = (c.get_mut.follows.lender c.change.new.arg2).entries in
    (after ≡ by_name g.R.Row.name_of (values_of after))
    × (values_of after ≡ with_row g.R.Row.name_of c.change.new.arg2 c.args.self.now)
kept g c =
    change-kept g.R.Row.name_of c.self.inside.map.entries c.args.self.now c.self.view_is c.self.invariant
    c.args.name.now c.in-Some.row.now c.change.new.arg2 (c.get_mut.follows.lender c.change.new.arg2).entries
    (found g c) (c.requires.named c.in-Some.row.now c.change.new.arg2 (ran g c))
    (c.get_mut.follows.holds c.change.new.arg2).0

pub invariant_of-self-2 : goal.invariant_of-self-2
invariant_of-self-2 g c = (kept g c).0

pub returns : goal.returns
returns g c =
    let after = values_of (c.get_mut.follows.lender c.change.new.arg2).entries in
    subst (λ o. MatchOption o (after ≡ c.args.self.now)
    (λ old. (x : g.row.R.Denot) × FnOnceReturnsAtMut {F = g.row.F.Denot} {T = g.row.R.Denot} {R = Unit {0}} g.F.FnOnce
    c.args.change old (tt {0}) x × (after ≡ with_row g.R.Row.name_of x c.args.self.now)))
    (sym (found g c)) (c.change.new.arg2, ran g c, (kept g c).1)
