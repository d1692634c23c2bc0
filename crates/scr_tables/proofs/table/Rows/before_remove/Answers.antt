use Rattle.std.proofs.Common.{◌≡◌, ◌≤◌, Some, slice_get, insert, sym, ap, subst, ◌∙◌}
use Rattle.scr_tables.specs.Tables.{row_of, without}
use Rattle.scr_tables.specs.Pasts.{HasPlace}
use Rattle.scr_tables.specs.declared.past.Past.TheVariants as pasts
use Rattle.scr_tables.proofs.PastRows.{back-none, back-dropped, at_place, below, missing}
use Rattle.scr_tables.proofs.table.Rows.before_remove.Given as given
use Rattle.scr_tables.proofs.table.Rows.before_remove.Goals as goal

pub returns-in_default-clause-back : goal.returns-in_default-clause-back
returns-in_default-clause-back g c =
    back-none g.R.Row.name_of c.args.name.now c.args.self.now (missing (row_of g.R.Row.name_of c.args.name.now c.args.self.now) (sym c.in_default.ensures.there))

pub at-requires : goal.at-requires
at-requires g c =
    let row = at_place g.R.Row.name_of (slice_get c.args.self.now c.in-Some.place) c.args.name.now c.in-Some.ensures.place in
    below g.R.Row.name_of c.args.self.now c.in-Some.place row.0 row.1

back : (g : given.Over) (c : goal.In_ok-room g) → let rows = without g.R.Row.name_of c.args.name.now c.args.self.now in
    (insert rows c.in-Some.place c.in_ok-row.row ≡ c.args.self.now) × HasPlace g.R.Row.name_of (pasts.Dropped c.in-Some.place c.in_ok-row.row c.in_ok-room.room) rows
back g c =
    let row = at_place g.R.Row.name_of (slice_get c.args.self.now c.in-Some.place) c.args.name.now c.in-Some.ensures.place in
    let got : slice_get c.args.self.now c.in-Some.place ≡ Some c.in_ok-row.row = c.at.ensures ∙ ap Some (sym c.in_ok-row.ensures) in
    let same : row.0 ≡ c.in_ok-row.row = (let both = sym row.1 ∙ got in cc) in
    back-dropped g.R.Row.name_of c.args.name.now c.args.self.now c.in-Some.place c.in_ok-row.row c.in_ok-room.room c.len.ensures.apart got (ap g.R.Row.name_of (sym same) ∙ row.2)
    (subst (λ n. n ≤ c.in_ok-room.room) c.len.ensures.count c.in_ok-room.ensures)

pub returns-clause-back : goal.returns-clause-back
returns-clause-back g c = (back g c).0

pub returns-clause-place : goal.returns-clause-place
returns-clause-place g c = (back g c).1
