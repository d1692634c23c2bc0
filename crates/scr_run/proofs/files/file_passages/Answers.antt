use Rattle.scr_line_chunks.specs.declared.passages.Passages.{Passages}
use Rattle.scr_io.specs.declared.reading.TheConstants.{MAX_BYTES}
use Rattle.scr_obligations.proofs.Walks.{reads, same_shelved}
use Rattle.scr_run.proofs.FileSteps.{same_unless_failed, unread_stops}
use Rattle.scr_run.proofs.files.file_passages.Goals as goal

pub returns-in-Err-clause-stopped : goal.returns-in-Err-clause-stopped
returns-in-Err-clause-stopped g c =
    unread_stops _ _ _ (Passages) _ _ _ c.unread.ensures.status c.in-Err.ensures.too_long
    (λ is. record {
      content = c.read_passages.ensures.content_stays;
      rose = c.in-Err.ensures.failed is;
      strays = c.read_passages.ensures.strays_stay;
    })
    (same_unless_failed (Passages) _ (g.F.Shelf.content c.args.shelf.now) (g.F.Shelf.content c.read_passages.new.shelf)
    (g.F.Shelf.faults c.args.shelf.now) (g.F.Shelf.faults c.read_passages.new.shelf)
    (g.F.Shelf.strays c.args.shelf.now) (g.F.Shelf.strays c.read_passages.new.shelf)
    c.read_passages.ensures.content_stays c.in-Err.ensures.steady)

pub returns-in-Ok-clause-passed : goal.returns-in-Ok-clause-passed
returns-in-Ok-clause-passed g c =
    let steady = c.in-Ok.ensures.steady in
    reads _ MAX_BYTES _ _ _ _ (same_shelved _ _ _ _ _ _ c.read_passages.ensures.content_stays steady.0 steady.1) c.in-Ok.ensures.bytes
    c.in-Ok.ensures.short
