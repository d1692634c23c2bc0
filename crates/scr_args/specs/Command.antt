-- The command as `clap` sees it (this project's own): five options with one value each.
use Rattle.std.specs.Prelude.{ℕ, List, Some, true, codes}
use Rattle.clap.specs.Simple.{App, new_app, new_rule, on_top, with_rule}
use Rattle.clap.specs.Walk.{Rule}
use Rattle.clap.specs.declared.builder.action.ArgAction.TheVariants.{Set}

-- the option `--name`
abbrev pub option_rule : List ℕ → Rule
option_rule name = record (new_rule name) { long = Some name; action = Some Set }

abbrev pub bare_program : App
bare_program = on_top (λ shape. record shape { no_binary_name = true; disable_help_flag = true }) (new_app (codes "scr"))

abbrev pub program : App
program = with_rule (with_rule (with_rule (with_rule (with_rule bare_program (option_rule (codes "factors"))) (option_rule (codes "book"))) (option_rule (codes "edits"))) (option_rule (codes "make"))) (option_rule (codes "workers"))
