-- What a call tells that reads the bytes under a name, where no open and no read failed (this project's own).
use Rattle.std.specs.Prelude.{Result, Ok, Err}
use Rattle.scr_io.specs.declared.reading.ReadFault.{ReadFault}
use Rattle.scr_io.specs.declared.reading.ReadFault.TheVariants.{Failed, TooLong, NoMemory}

abbrev pub UnlessFailed : {T : Type 0} → Result T ReadFault → Type 0 → Type 0
UnlessFailed (Ok all) P = P
UnlessFailed (Err Failed) P = Unit {0}
UnlessFailed (Err TooLong) P = P
UnlessFailed (Err NoMemory) P = P
