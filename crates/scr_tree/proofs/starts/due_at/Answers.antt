use Rattle.std.proofs.Common.{inl, inr, refl}
use Rattle.scr_reachability.specs.declared.ranks.Due.{Due}
use Rattle.scr_figure_ids.specs.Numbers.{StandsAt}
use Rattle.scr_tree.specs.Graphs.{graph_of}
use Rattle.scr_tree.proofs.StartRows.{due-dead, due-live}
use Rattle.scr_tree.proofs.starts.due_at.Goals as goal

pub returns-in_ok-push_walked-in-Some-clause-due : goal.returns-in_ok-push_walked-in-Some-clause-due
returns-in_ok-push_walked-in-Some-clause-due c =
    let pushed = c.in_ok-push_walked-in-Some.ensures in
    let due : Due = record { number = c.args.number; sources = c.push_walked.new.list } in
    due-live (graph_of c.args.view.sheet.now) (StandsAt c.args.view.sheet.now c.args.view.places.now) due c.requires.numbers.exact c.in-Some.node
    c.new-sources.result.items pushed.more c.in-Some.ensures.there c.in-Some.ensures.live c.new-sources.ensures.items pushed.list pushed.at

pub returns-in-None-clause-due : goal.returns-in-None-clause-due
returns-in-None-clause-due c =
    let due : Due = record { number = c.args.number; sources = c.new-sources.result } in
    due-dead (graph_of c.args.view.sheet.now) (StandsAt c.args.view.sheet.now c.args.view.places.now) due c.new-sources.ensures.items
    (c.in-None.ensures.absent refl)

pub returns-in_ok-push_walked-in-Some-clause-empty : goal.returns-in_ok-push_walked-in-Some-clause-empty
returns-in_ok-push_walked-in-Some-clause-empty c = inl (c.in-Some.node, c.in-Some.ensures.there, c.in-Some.ensures.live)

pub returns-in-None-clause-empty : goal.returns-in-None-clause-empty
returns-in-None-clause-empty c = inr c.new-sources.ensures.items
