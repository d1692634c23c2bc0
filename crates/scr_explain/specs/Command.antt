-- The command as `clap` sees it (this project's own): seven options with one value each, help and a version.
use Rattle.std.specs.Prelude.{ℕ, pos, true, false, List, [], ◌∷◌, Some, codes, map}
use Rattle.clap.specs.Simple.{App, new_app, new_rule, on_top, with_rule}
use Rattle.clap.specs.Walk.{Rule}
use Rattle.clap.specs.declared.builder.action.ArgAction.TheVariants.{Set}
use Rattle.clap.specs.declared.builder.arg.Arg.{Arg}
use Rattle.clap.specs.declared.builder.value_parser.ValueParser.TheVariants as vp

-- the option `--name`
abbrev pub option_rule : List ℕ → Rule
option_rule name = record (new_rule name) { long = Some name; action = Some Set; value_names = 1 }

-- one that must be given
abbrev pub needed_rule : List ℕ → Rule
needed_rule name = record (option_rule name) { required = true }

-- one that goes without others
abbrev pub bound_rule : List ℕ → Rule
bound_rule name = record (option_rule name) { is_free = false }

-- a number of at most 1,000, which need not be given
abbrev pub number_rule : List ℕ → List ℕ → Rule
number_rule name default = record (option_rule name) { defaults = default ∷ []; parser = Some (vp.Signed (pos 0) (pos 1_000)) }

abbrev pub bare_program : App
bare_program = on_top (λ shape. record shape { has_version = true }) (new_app (codes "scr_explain"))

abbrev pub with_files : App
with_files = with_rule (with_rule bare_program (needed_rule (codes "factors"))) (needed_rule (codes "book"))

abbrev pub with_extent : App
with_extent =
    with_rule (with_rule (with_rule with_files (bound_rule (codes "cell"))) (number_rule (codes "depth") (codes "2")))
    (number_rule (codes "top") (codes "10"))

abbrev pub program : App
program = with_rule (with_rule with_extent (bound_rule (codes "record"))) (option_rule (codes "svg"))

-- the options with which an option does not go, for each in the order of the command
abbrev pub apart_from : Arg → List (List ℕ)
apart_from arg = map (λ name. name.now) arg.conflicts.items

abbrev pub of_cell : List (List ℕ)
of_cell = codes "record" ∷ codes "svg" ∷ []

abbrev pub of_record : List (List ℕ)
of_record = codes "svg" ∷ []

abbrev pub all_apart : List (List (List ℕ))
all_apart = [] ∷ [] ∷ of_cell ∷ [] ∷ [] ∷ of_record ∷ [] ∷ []
