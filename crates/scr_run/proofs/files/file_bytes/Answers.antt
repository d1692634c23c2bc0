use Rattle.std.proofs.Common.{ℕ}
use Rattle.std.specs.Global.{Vec}
use Rattle.scr_run.proofs.FileSteps.{same_unless_failed, unread_stops}
use Rattle.scr_run.proofs.files.file_bytes.Goals as goal

pub returns-in-Err-clause-stopped : goal.returns-in-Err-clause-stopped
returns-in-Err-clause-stopped g c =
    unread_stops _ _ _ (Vec ℕ) _ _ _ c.unread.ensures.status c.in-Err.ensures.too_long
    (λ is. record {
      content = c.read_all.ensures.content_stays;
      rose = c.in-Err.ensures.failed is;
      strays = c.read_all.ensures.strays_stay;
    })
    (same_unless_failed (Vec ℕ) _ (g.F.Shelf.content c.args.shelf.now) (g.F.Shelf.content c.read_all.new.shelf)
    (g.F.Shelf.faults c.args.shelf.now) (g.F.Shelf.faults c.read_all.new.shelf)
    (g.F.Shelf.strays c.args.shelf.now) (g.F.Shelf.strays c.read_all.new.shelf)
    c.read_all.ensures.content_stays c.in-Err.ensures.steady)
