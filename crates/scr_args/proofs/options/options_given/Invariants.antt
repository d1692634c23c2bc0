-- The options of the words so far and of those that are left are those of all words.
use Rattle.std.proofs.Common.{◌≡◌, drop, map, string_bytes}
use Rattle.scr_args.specs.Options.{options_in, read_from}
use Rattle.scr_args.specs.Texts.{read_of}
use Rattle.scr_args.proofs.options.options_given.Given as goal

abbrev pub invariant-loop-word : goal.invariant-loop-word
invariant-loop-word l =
    read_from (read_of l.reader) (map string_bytes (drop l.word-index l.words)) ≡ options_in (map string_bytes l.words)
