use Rattle.std.proofs.Common.{◌≡◌, ◌++◌, IfSome, ap, sym, subst, ◌∙◌}
use Rattle.scr_nodes.proofs.Walks.{on_ok}
use Rattle.scr_figure_ids.specs.SourceNumbers.{selected_numbers, selected_rows}
use Rattle.scr_figure_ids.proofs.Zipped.{pieces-pushed, words-live}
use Rattle.scr_figure_ids.proofs.sources.push_gathered.Goals as goal

pub push_places-requires-clause-rows : goal.push_places-requires-clause-rows
push_places-requires-clause-rows c =
    subst (λ s. IfSome c.first_rows.result (λ rows. rows.now ≡ selected_rows c.args.view.sheet.now s)) (sym c.first_of-first.ensures)
    c.first_rows.ensures

pub push_words-requires-clause-live : goal.push_words-requires-clause-live
push_words-requires-clause-live c =
    words-live c.args.view.sheet.now c.args.view.places.now c.requires.numbered c.requires.valid c.args.node.now c.requires.live

pub returns : goal.returns
returns c =
    on_ok c.push_words.result _ _
    (λ words. pieces-pushed c.args.view.sheet.now c.args.view.places.now c.requires.numbered c.requires.valid c.args.node.now
    c.requires.live c.args.list.now.items c.push_places.new.list.items c.push_places-2.new.list.items c.push_words.new.list.items
    (c.in_ok-push_places.ensures
    ∙ ap (λ s. c.args.list.now.items ++ selected_numbers c.args.view.sheet.now c.args.view.places.now s) c.first_of-first.ensures)
    (c.in_ok-push_places-2.ensures
    ∙ ap (λ s. c.push_places.new.list.items ++ selected_numbers c.args.view.sheet.now c.args.view.places.now s) c.second_of-second.ensures)
    words)
    c.push_words.ensures
