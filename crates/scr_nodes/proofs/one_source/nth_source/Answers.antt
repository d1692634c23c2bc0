use Rattle.std.proofs.Common.{sym, subst, ◌++◌}
use Rattle.scr_nodes.specs.Nth.{IsNth}
use Rattle.scr_nodes.specs.Selections.{selected}
use Rattle.scr_nodes.specs.Sources.{words_of}
use Rattle.scr_nodes.specs.Table.{first_of, second_of}
use Rattle.scr_nodes.proofs.Joined.{first_there, past_first}
use Rattle.scr_nodes.proofs.Selected.{sources-selected}
use Rattle.scr_nodes.proofs.one_source.nth_source.Goals as goal

pub returns-in-Past : goal.returns-in-Past
returns-in-Past c =
    let sheet = c.args.sheet.now in
    let node = c.args.node.now in
    let place = c.args.place in
    let among = subst (λ which. IsNth (selected sheet which) place c.nth_selected.result) c.first_of.ensures
    c.nth_selected.ensures in
    subst (λ list. IsNth list place c.nth_later.result) (sym (sources-selected sheet node))
    (past_first (selected sheet (first_of node)) (selected sheet (second_of node) ++ words_of node) place
    c.in-Past.left (subst (IsNth (selected sheet (first_of node)) place) c.in-Past.is among) c.nth_later.result
    c.nth_later.ensures)

pub returns-in_default : goal.returns-in_default
returns-in_default c =
    let sheet = c.args.sheet.now in
    let node = c.args.node.now in
    let place = c.args.place in
    let among = subst (λ which. IsNth (selected sheet which) place c.nth_selected.result) c.first_of.ensures
    c.nth_selected.ensures in
    subst (λ list. IsNth list place c.nth_selected.result) (sym (sources-selected sheet node))
    (first_there (selected sheet (first_of node)) (selected sheet (second_of node) ++ words_of node) place
    c.nth_selected.result c.in_default.not-Past among)
