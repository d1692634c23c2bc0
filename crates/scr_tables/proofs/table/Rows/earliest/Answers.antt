use Rattle.std.proofs.Common.{◌≡◌, List, ◌∷◌, cond, refl, sym, ap, ◌∙◌, map, filter, fold, rules}
use Rattle.std.proofs.lemmas.Fn.{says_at}
use Rattle.scr_tables.specs.Names.{earlier}
use Rattle.scr_tables.proofs.Counted.{earlier-next}
use Rattle.scr_tables.proofs.table.Rows.earliest.Goals as goal

pub loop-row-preserved : goal.loop-row-preserved
loop-row-preserved g c = λ test tells.
    let row = c.in-Some.row.now in
    let first = c.loop-row.first in
    let step : c.loop-row.row-iterator ≡ row ∷ c.next.new.self = search rules in
    let told : c.counts.result ≡ test row = tells row c.counts.result (says_at g.F.Fn c.counts.ensures refl) in
    let names = λ (rows : List g.row.R.Denot). map g.R.Row.name_of (filter test rows) in
    ap (λ f. fold earlier f (names c.next.new.self)) c.earlier_if-first.ensures
    ∙ ap (λ n. fold earlier (cond c.counts.result (earlier first n) first) (names c.next.new.self)) c.name.ensures
    ∙ earlier-next g.R.Row.name_of test first row c.next.new.self c.counts.result told
    ∙ ap (λ rows. fold earlier first (names rows)) (sym step)
    ∙ c.loop-row.invariant test tells
