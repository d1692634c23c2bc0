-- The written forms of the command line (this project's own), and what they say.
use Rattle.std.specs.Prelude.{ℕ, List, Option, Some, None, codes, map, option_and_then, option_map, String, string_bytes}
use Rattle.std.specs.declared.alloc.Global.{Global}
use Rattle.scr_args.specs.Numbers.{made_in, workers_in}
use Rattle.scr_args.specs.Options.{options_in, value_of}

-- what words say
pub data Said : Type 0 where
  -- the names of the files of a run, and the number of workers
  Files : (factors book edits : List ℕ) → (workers : ℕ) → Said
  -- the name of the factor file, the number of the made book, and the number of workers
  Make : (factors : List ℕ) → (number workers : ℕ) → Said

-- the number of workers
abbrev pub workers_of : Said → ℕ
workers_of (Said.Files factors book edits workers) = workers
workers_of (Said.Make factors number workers) = workers

-- `--factors`, `--book`, `--edits` and `--workers`; or `--factors`, `--make` and `--workers`
abbrev pub form : Option (List ℕ) → Option (List ℕ) → Option (List ℕ) → Option (List ℕ) → Option (List ℕ) → Option Said
form (Some factors) (Some book) (Some edits) None (Some workers) =
    option_map (Said.Files factors book edits) (workers_in workers)
form (Some factors) None None (Some made) (Some workers) =
    option_and_then (λ number. option_map (Said.Make factors number) (workers_in workers)) (made_in made)
form factors book edits made workers = None

-- what options say whose values are these
abbrev pub said_by : (List ℕ → Option (List ℕ)) → Option Said
said_by value = form (value (codes "factors")) (value (codes "book")) (value (codes "edits")) (value (codes "make")) (value (codes "workers"))

-- what words say, where they have a written form
unfoldable pub said : List (String Global) → Option Said
said words = option_and_then (λ options. said_by (value_of options)) (options_in (map string_bytes words))
