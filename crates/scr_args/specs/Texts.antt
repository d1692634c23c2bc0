-- The options and what they say as the code holds them (this project's own).
use Rattle.std.specs.Prelude.{◌≡◌, ℕ, Bool, true, false, List, Option, Some, None, map, option_map, Result, Ok, Err}
use Rattle.std.specs.Global.{Vec}
use Rattle.std.specs.Borrow.{Bor}
use Rattle.scr_args.specs.Forms.{Said}
use Rattle.scr_args.specs.Options.{Given, Read}
use Rattle.scr_args.specs.declared.options.GivenOption.{GivenOption}
use Rattle.scr_args.specs.declared.options.Reader.{Reader}
use Rattle.scr_args.specs.declared.forms.Form.{Form}
use Rattle.scr_args.specs.declared.forms.Form.TheVariants as forms
use Rattle.scr_args.specs.declared.words.Words.{Words}
use Rattle.scr_args.specs.declared.words.Words.TheVariants as words
use Rattle.scr_args.specs.declared.words.WordsFault.{WordsFault}
use Rattle.scr_args.specs.declared.words.WordsFault.TheVariants as faults

abbrev pub text_of : Option (Bor (List ℕ)) → Option (List ℕ)
text_of text = option_map (λ t. t.now) text

abbrev pub given_of : GivenOption → Given
given_of option = (option.name.now, option.value.now)

abbrev pub options_of : Vec GivenOption → List Given
options_of options = map given_of options.items

abbrev pub named_of : Bor (List ℕ) × Option (Bor (List ℕ)) → List ℕ × Option (List ℕ)
named_of named = (named.0.now, text_of named.1)

abbrev pub read_of : Reader → Read
read_of reader = record { options = options_of reader.options; awaited = text_of reader.awaited }

-- a word was read, or it has no place there
abbrev pub Follows : Option Read → Reader → Bool → Type 0
Follows due reader true = due ≡ Some (read_of reader)
Follows due reader false = due ≡ None

abbrev pub form_of : Form → Said
form_of (forms.Files factors book edits workers) = Said.Files factors.now book.now edits.now workers
form_of (forms.Make factors number workers) = Said.Make factors.now number workers

abbrev pub said_of : Words → Said
said_of (words.Files factors book edits workers) = Said.Files factors book edits workers
said_of (words.Make factors number workers) = Said.Make factors number workers

-- What is due is said, or words that have no form are told. Want of memory may come in place of either.
abbrev pub Tells : Option Said → Result Words WordsFault → Type 0
Tells due (Ok words) = due ≡ Some (said_of words)
Tells due (Err faults.Usage) = due ≡ None
Tells due (Err faults.NoMemory) = Unit {0}
