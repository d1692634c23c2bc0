use Rattle.std.proofs.Common.{◌+◌, ◌++◌, ◌∷◌, [], take, sym, ap, subst, ◌∙◌}
use Rattle.std.proofs.lemmas.List.{take_more}
use Rattle.std.specs.List.{AllByRecursion}
use Rattle.scr_funds.proofs.Members.{each_push}
use Rattle.scr_figure_ids.specs.Numbers.{StandsAt}
use Rattle.scr_reachability.specs.LinkedDues.{AreDuesFor}
use Rattle.scr_tree.specs.Graphs.{graph_of}
use Rattle.scr_tree.specs.Starts.{IsLiveOrEmpty}
use Rattle.scr_tree.proofs.StartRows.{dues-next}
use Rattle.scr_tree.proofs.starts.dues_at.Goals as goal

pub loop-number-preserved : goal.loop-number-preserved
loop-number-preserved c =
    let numbers = c.args.numbers.now in
    let k = c.loop-number.number-index in
    let graph = graph_of c.args.view.sheet.now in
    let At = StandsAt c.args.view.sheet.now c.args.view.places.now in
    record {
      dues = subst (AreDuesFor graph At (take (k + 1) numbers)) (sym c.in_ok-push.ensures.items)
          (dues-next graph At c.in_ok-due.due c.loop-number.dues.items (take k numbers) (take (k + 1) numbers) c.loop-number.invariant.dues
          c.in_ok-due.ensures.due
          (take_more numbers k 0 c.loop-number-test.true ∙ ap (λ n. take k numbers ++ n ∷ []) (sym c.in_ok-due.ensures.number)));
      empty = subst (AllByRecursion (IsLiveOrEmpty graph At)) (sym c.in_ok-push.ensures.items)
          (each_push (IsLiveOrEmpty graph At) c.loop-number.dues.items c.in_ok-due.due c.loop-number.invariant.empty c.in_ok-due.ensures.empty);
    }
