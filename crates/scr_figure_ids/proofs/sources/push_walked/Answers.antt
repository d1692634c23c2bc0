use Rattle.std.proofs.Common.{◌++◌, ap, ◌∙◌}
use Rattle.scr_figure_ids.specs.SourceNumbers.{selected_numbers}
use Rattle.scr_figure_ids.proofs.Zipped.{pieces-pushed, words-live}
use Rattle.scr_nodes.proofs.Walks.{on_ok}
use Rattle.scr_figure_ids.proofs.sources.push_walked.Goals as goal

pub push_words-requires-clause-live : goal.push_words-requires-clause-live
push_words-requires-clause-live c =
    words-live c.args.view.sheet.now c.args.view.places.now c.requires.numbered c.requires.valid c.args.node.now c.requires.live

pub returns : goal.returns
returns c =
    on_ok c.push_words.result _ _
    (λ words. pieces-pushed c.args.view.sheet.now c.args.view.places.now c.requires.numbered c.requires.valid c.args.node.now
    c.requires.live c.args.list.now.items c.push_selected.new.list.items c.push_selected-2.new.list.items c.push_words.new.list.items
    (c.in_ok-push_selected.ensures
    ∙ ap (λ s. c.args.list.now.items ++ selected_numbers c.args.view.sheet.now c.args.view.places.now s) c.first_of.ensures)
    (c.in_ok-push_selected-2.ensures
    ∙ ap (λ s. c.push_selected.new.list.items ++ selected_numbers c.args.view.sheet.now c.args.view.places.now s) c.second_of.ensures)
    words)
    c.push_words.ensures
