-- One after another.
use Rattle.std.proofs.lemmas.Result.{on_ok_weaker}
use Rattle.scr_made.specs.Draws.{given, each}
use Rattle.scr_made.specs.Made.{liability, segment, bank, charges}
use Rattle.scr_made.specs.Made.{assets, book}
use Rattle.scr_made.specs.declared.making.TheConstants.{LIABILITIES}
use Rattle.scr_made.proofs.Steps.{appends_then, appends_given}
use Rattle.scr_made.proofs.making.push_book.Goals as goal

pub returns : goal.returns
unfolding book
returns c =
    let liabilities = appends_then assets (each LIABILITIES liability) _ _ _ _ _ _ c.in_ok-push_assets.ensures
    c.in_ok-push_rows.ensures in
    let segments = appends_then _ (each 12 segment) _ _ _ _ _ _ liabilities c.in_ok-push_segments.ensures in
    let banks = appends_then _ (each 20 bank) _ _ _ _ _ _ segments c.in_ok-push_rows-2.ensures in
    on_ok_weaker c.push_charges.result
    (λ last. appends_then _ (given charges) _ _ _ _ _ _ banks
    (appends_given charges c.push_rows-2.new.draws.state c.push_rows-2.new.out.items c.push_charges.new.out.items last))
    c.push_charges.ensures
