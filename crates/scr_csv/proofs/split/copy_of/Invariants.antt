-- The whole line is read as what is left of it, from where the split stands.
use Rattle.std.proofs.Common.{◌≡◌, drop, true}
use Rattle.std.specs.List.{list_all}
use Rattle.scr_csv.specs.LineFields.{is_printed}
use Rattle.scr_csv.specs.Splits.{Copied}
use Rattle.scr_csv.proofs.split.copy_of.Given as goal

-- the copy has the fields of what was taken
abbrev pub invariant-bytes : goal.invariant-bytes
invariant-bytes l = record {
  printed : list_all is_printed (drop l.byte-index l.text) ≡ true;
  copied : Copied l.split.place l.split.copy.items (drop l.byte-index l.text) l.text;
}
