-- One after another.
use Rattle.std.proofs.lemmas.Result.{on_ok_weaker}
use Rattle.scr_made.specs.Draws.{given, each}
use Rattle.scr_made.specs.Made.{trade, closing}
use Rattle.scr_made.specs.Made.{script}
use Rattle.scr_made.proofs.Steps.{appends_then, appends_given}
use Rattle.scr_made.proofs.making.push_script.Goals as goal

pub returns : goal.returns
unfolding script
returns c =
    on_ok_weaker c.push_closing.result
    (λ last. appends_then (each 18 (λ k. trade)) (given closing) _ _ _ _ _ _ c.in_ok-push_rows.ensures
    (appends_given closing c.push_rows.new.draws.state c.push_rows.new.out.items c.push_closing.new.out.items last))
    c.push_closing.ensures
