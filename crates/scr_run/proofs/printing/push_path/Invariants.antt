use Rattle.std.proofs.Common.{◌≡◌, ◌++◌, drop}
use Rattle.std.specs.Prelude.{flat_map}
use Rattle.scr_run.specs.FaultTexts.{next_name, path_text}
use Rattle.scr_run.proofs.printing.push_path.Given as goal

abbrev pub invariant-loop-name : goal.invariant-loop-name
invariant-loop-name l = l.out.items ++ flat_map next_name
    (drop l.name-index l.others) ≡ l.fn.out.items ++ path_text l.names
