-- A key is a scenario's word, or has a currency in it.
use Rattle.std.proofs.Common.{◌≡◌, List, ℕ, IfSome, Some, sym, subst, rules}
use Rattle.scr_sheet.specs.Forms.{IsAbsorbKey}
use Rattle.scr_sheet.specs.declared.keys.AbsorbKey.{AbsorbKey}
use Rattle.scr_fields.specs.Words.{value_of, is_text, scenario_word, all_scenarios}
use Rattle.scr_fields.proofs.FormLemmas.{found_is}
use Rattle.scr_fields.proofs.forms.absorb_key.Goals as goal

scenario-formed : (field : List ℕ) (key : AbsorbKey) → value_of scenario_word all_scenarios field ≡ Some key → IsAbsorbKey key
unfolding value_of
scenario-formed field key found = subst (λ o. IfSome o IsAbsorbKey) found
    (found_is IsAbsorbKey (λ k. is_text (scenario_word k) field) all_scenarios (search rules))

pub returns-in-Some-clause-formed : goal.returns-in-Some-clause-formed
returns-in-Some-clause-formed c = scenario-formed c.args.text.now c.in-Some.key (sym c.in-Some.ensures)
