-- The names of the files as the code holds them (this project's own).
use Rattle.scr_run.specs.Plans.{Names}
use Rattle.scr_run.specs.declared.running.Files.{Files}

abbrev pub names_of : Files → Names
names_of files = record { factors = files.factors.now; book = files.book.now; edits = files.edits.now }
