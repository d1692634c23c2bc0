-- What was read so far and what is left make up the content.
use Rattle.std.proofs.Common.{◌≡◌, ◌+◌, ◌-◌, Some, length}
use Rattle.std.specs.Io.KnownBytes.{Consumes}
use Rattle.scr_io.specs.Content.{IsPresentAnd, RisesOnlyIfAbsent}
use Rattle.scr_io.specs.declared.reading.TheConstants.{MAX_BYTES}
use Rattle.scr_line_chunks.specs.Files.{bytes_of}
use Rattle.scr_line_chunks.specs.Passages.{AreWhole}
use Rattle.scr_line_chunks.proofs.reading.read_passages.Given as goal

abbrev pub invariant-reads : goal.invariant-reads
invariant-reads g l =
    let at_entry = g.F.Shelf.content l.fn.shelf l.name in
    record {
      read_so_far : IsPresentAnd at_entry (λ whole. Consumes (Some whole) (g.F.Shelf.left l.shelf) (bytes_of l.file));
      whole : AreWhole l.file.whole.items;
      counted : l.length ≡ length (bytes_of l.file);
      faults : g.F.Shelf.faults l.shelf ≡ g.F.Shelf.faults l.fn.shelf;
      same_strays : g.F.Shelf.strays l.shelf ≡ g.F.Shelf.strays l.fn.shelf;
      strays : RisesOnlyIfAbsent at_entry (g.F.Shelf.strays l.fn.shelf) (g.F.Shelf.strays l.shelf);
      content : g.F.Shelf.content l.shelf ≡ g.F.Shelf.content l.fn.shelf;
    }

abbrev pub decreases-reads : goal.decreases-reads
decreases-reads g l = MAX_BYTES + 1 - l.length
