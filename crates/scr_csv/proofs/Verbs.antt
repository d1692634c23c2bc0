-- Each verb is read from its word, which has neither commas nor double quotes.
use Rattle.std.proofs.Common.{rules}
use Rattle.scr_fields.specs.Words.{value_of}
use Rattle.scr_fields.proofs.Spelled.{Spelled}
use Rattle.scr_csv.specs.Verbs.{verb_word, all_verbs}
use Rattle.scr_csv.specs.declared.verb.Verb.{Verb}

pub spelled_verb : (verb : Verb) → Spelled verb_word all_verbs verb
unfolding value_of
spelled_verb = search rules
